use Rattle.brd_inputs.proofs.StartLemmas.{no_board_of, no_script}
use Rattle.brd_inputs.proofs.start.make_race_start.Goals as goal

pub returns-in-Err : goal.returns-in-Err
returns-in-Err c =
    no_board_of _ _ _ _ _ _ c.in-Err.fault c.deref.ensures.value c.deref-2.ensures.value c.in-Err.ensures

pub returns-in-Err-read_script : goal.returns-in-Err-read_script
returns-in-Err-read_script c =
    no_script _ _ _ _ _ _ _ c.in-Ok.loaded.board c.in-Err-read_script.fault _
    c.deref.ensures.value c.deref-2.ensures.value c.deref-3.ensures.value c.deref-in-Err-read_script.ensures.value
    c.in-Ok.ensures.loads c.in-Err-read_script.ensures c.of_script.ensures

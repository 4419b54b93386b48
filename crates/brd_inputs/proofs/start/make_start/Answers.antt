use Rattle.brd_inputs.proofs.StartLemmas.{no_board_of, no_journal}
use Rattle.brd_inputs.proofs.start.make_start.Goals as goal

pub returns-in-Err : goal.returns-in-Err
returns-in-Err c =
    no_board_of _ _ _ _ _ _ c.in-Err.fault c.deref.ensures.value c.deref-2.ensures.value c.in-Err.ensures

pub returns-in-Err-read_text : goal.returns-in-Err-read_text
returns-in-Err-read_text c =
    no_journal _ _ _ _ _ _ _ c.in-Ok.loaded.board c.in-Err-read_text.fault _
    c.deref.ensures.value c.deref-2.ensures.value c.deref-3.ensures.value c.deref-in-Err-read_text.ensures.value
    c.in-Ok.ensures.loads c.in-Err-read_text.ensures c.of_journal.ensures

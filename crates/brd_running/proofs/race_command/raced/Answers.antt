use Rattle.brd_running.proofs.RaceLemmas.{shows_station}
use Rattle.brd_running.proofs.race_command.raced.Goals as goal

pub returns-in-Ok-raced : goal.returns-in-Ok-raced
returns-in-Ok-raced g c =
    shows_station c.args.quota _ c.args.start.now _ _ _ c.in-Ok-raced.station _ _
    c.deref.ensures.value c.deref-2.ensures.value (c.in-Ok.ensures.items_if_clones_equal (λ y same. same)) c.processors.ensures.is
    c.in-Ok-raced.ensures.left c.in-Ok-raced.ensures.ends c.in_ok-shown_of-in-Ok-raced.ensures

use Rattle.std.proofs.Common.{◌≡◌, ◌++◌, ◌∙◌, ap, length, [], ◌∷◌, codes, arith}
use Rattle.std.specs.Prelude.{◌==◌, false}
use Rattle.std.proofs.lemmas.Bool.Decides.{nat_tests}
use Rattle.brd_timeline.specs.declared.trace_events.Track.{Track}
use Rattle.brd_timeline.specs.Events as events
use Rattle.brd_timeline.proofs.EventLemmas.{three_steps, turns_there}
use Rattle.brd_timeline.proofs.trace_events.put_turns.Goals as goal

pub returns : goal.returns
returns c =
    let timeline = c.args.timeline.now in
    let some : (length timeline.turns.items == 0) ≡ false = grind (arith, nat_tests, c.is_empty.ensures, c.if-is_empty.false) in
    three_steps c.put_each_turn.result c.args.to.now.items c.put_process.new.to.items c.put_thread.new.to.items c.put_each_turn.new.to.items
    (events.behind (events.ProcessName events.turns (codes "turns") ∷ []))
    (events.behind (events.ThreadName (events.only_track events.turns) (codes "turn") ∷ []))
    (events.behind (events.turns_of timeline)) (events.behind (events.turn_events timeline))
    c.in_ok-put_process.ensures
    (c.in_ok-put_thread.ensures
    ∙ ap (λ (track : Track). c.put_process.new.to.items ++ events.behind (events.ThreadName track (codes "turn") ∷ [])) c.only_track.ensures)
    c.put_each_turn.ensures (turns_there timeline some)

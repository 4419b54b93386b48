use Rattle.std.proofs.Common.{◌≡◌, List, [], ◌∷◌, ◌++◌, length, ap, ◌∙◌, refl, arith}
use Rattle.brd_journal.specs.declared.run.Run.{Run}
use Rattle.brd_journal.specs.Runs.{starts_of}
use Rattle.brd_journal.specs.Adding.{room_in}
use Rattle.brd_journal.proofs.EventLemmas.{run_of}
use Rattle.brd_journal.proofs.ApartLemmas.{put-apart}
use Rattle.brd_journal.proofs.runs.RunTable.puts.Goals as goal

pub invariant_of-self-2 : goal.invariant_of-self-2
invariant_of-self-2 c =
    let room : c.room_for.result ≡ room_in c.args.self.now c.args.event = rw (c.room_for.ensures, c.deref.ensures.value, c.self.view_is) refl in
    (put-apart c.args.limit c.args.self.now c.put_run.new.runs.items c.args.event c.args.count c.args.others c.self.inside.starts.items c.put_run.new.starts.items
    (omega (arith, room, c.if-room_for-gt0.false)) (omega (arith, c.requires.some))
    (omega (arith, c.if-len-limit.false, c.len.ensures, ap length c.self.view_is))
    (c.in-Ok.ensures.runs ∙ ap (λ (rs : List Run). rs ++ run_of c.args.event c.args.count ∷ []) c.self.view_is)
    (c.self.invariant ∙ ap starts_of c.self.view_is) c.in-Ok.ensures.starts c.requires.behind).1

pub returns-clause-added : goal.returns-clause-added
returns-clause-added c = λ did.
    let room : c.room_for.result ≡ room_in c.args.self.now c.args.event = rw (c.room_for.ensures, c.deref.ensures.value, c.self.view_is) refl in
    (put-apart c.args.limit c.args.self.now c.put_run.new.runs.items c.args.event c.args.count c.args.others c.self.inside.starts.items c.put_run.new.starts.items
    (omega (arith, room, c.if-room_for-gt0.false)) (omega (arith, c.requires.some))
    (omega (arith, c.if-len-limit.false, c.len.ensures, ap length c.self.view_is))
    (c.in-Ok.ensures.runs ∙ ap (λ (rs : List Run). rs ++ run_of c.args.event c.args.count ∷ []) c.self.view_is)
    (c.self.invariant ∙ ap starts_of c.self.view_is) c.in-Ok.ensures.starts c.requires.behind).0

use Rattle.std.proofs.Common.{List, ℕ, Bor, ap}
use Rattle.std.specs.Prelude.{option_map}
use Rattle.brd_gdb.proofs.PartLemmas.{no_action}
use Rattle.brd_gdb.proofs.actions.action.Goals as goal

pub returns-in_default-more : goal.returns-in_default-more
returns-in_default-more c =
    no_action c.args.text.now c.part.result.0.now c.in-Some.threads.now c.part-2.result.0.now c.in_default-more.field-0.now
    _ _ c.part.ensures.parts (ap (option_map (λ (it : Bor (List ℕ)). it.now)) c.in-Some.is)
    c.part-2.ensures.parts (ap (option_map (λ (it : Bor (List ℕ)). it.now)) c.in_default-more.is)

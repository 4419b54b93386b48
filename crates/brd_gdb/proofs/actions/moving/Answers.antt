use Rattle.std.proofs.Common.{List, ℕ, Bor, ap, ◌∙◌}
use Rattle.std.specs.Prelude.{option_map}
use Rattle.brd_gdb.proofs.PartLemmas.{several_actions}
use Rattle.brd_gdb.proofs.actions.moving.Goals as goal

pub returns-in-Some : goal.returns-in-Some
returns-in-Some c =
    c.first_move.ensures ∙ several_actions c.args.text.now c.part.result.0.now c.in-Some.field-0.now _ c.part.ensures.parts
    (ap (option_map (λ (it : Bor (List ℕ)). it.now)) c.in-Some.is)

use Rattle.std.proofs.Common.{sym, ap, ◌∙◌, refl, inl, inr}
use Rattle.std.specs.Prelude.{◌||◌}
use Rattle.brd_debug.proofs.StopLemmas.{decides-or, decides-same}
use Rattle.brd_debug.proofs.stops.Stops.is_told.Goals as goal

pub returns-then-is_break : goal.returns-then-is_break
returns-then-is_break c = (λ yes. inl (c.is_break.ensures.0 c.if-is_break.true), λ is. refl)

pub returns-then-is_stepped : goal.returns-then-is_stepped
returns-then-is_stepped c = (λ yes. inr (inl (sym c.is_stepped.ensures ∙ c.if-is_stepped.true)), λ is. refl)

pub returns : goal.returns
returns c =
    decides-or c.is_break.result c.is_fault.result c.is_fault.result c.is_break.ensures
    (decides-or c.is_stepped.result c.is_fault.result c.is_fault.result (decides-same _ _ c.is_stepped.ensures) (decides-same _ _ c.is_fault.ensures)
    (sym (ap (λ b. b || c.is_fault.result) c.if-is_stepped.false)))
    (sym (ap (λ b. b || c.is_fault.result) c.if-is_break.false))

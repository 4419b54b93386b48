use Rattle.std.proofs.Common.{sym, ap, refl, inl, inr}
use Rattle.std.specs.Prelude.{◌||◌}
use Rattle.brd_debug.proofs.StopLemmas.{decides-or, decides-same}
use Rattle.brd_debug.proofs.stops.Stops.are_seen.Goals as goal

pub returns-then-is_told : goal.returns-then-is_told
returns-then-is_told c = (λ yes. inl (c.is_told.ensures.0 c.if-is_told.true), λ is. refl)

pub returns-then-changed : goal.returns-then-changed
returns-then-changed c = (λ yes. inr (inl c.if-changed.true), λ is. refl)

pub returns : goal.returns
returns c =
    decides-or c.is_told.result c.is_done.result c.is_done.result c.is_told.ensures
    (decides-or c.args.changed c.is_done.result c.is_done.result (decides-same _ _ refl) (decides-same _ _ c.is_done.ensures)
    (sym (ap (λ b. b || c.is_done.result) c.if-changed.false)))
    (sym (ap (λ b. b || c.is_done.result) c.if-is_told.false))

use Rattle.std.proofs.Common.{ℕ, List, Bor, ap, refl}
use Rattle.std.specs.Prelude.{Option, option_map}
use Rattle.brd_command.specs.TryCommand.SavesBoth.{both, no_config}
use Rattle.brd_command.proofs.try_command.save_both.Goals as goal

pub returns-in-Ok : goal.returns-in-Ok
returns-in-Ok g c =
    both (ap (λ (out : Option (Bor (List ℕ))). option_map (λ name. name.now) out) c.in-Some.is)
    (rw (c.as_str.ensures.value, c.in_ok-of_config.ensures) at c.in-Ok.ensures)
    (rw (c.as_str-in-Ok.ensures.value, c.in_ok-of_journal.ensures) at c.save-in-Ok.ensures)

pub returns : goal.returns
returns g c =
    no_config (ap (λ (out : Option (Bor (List ℕ))). option_map (λ name. name.now) out) c.in-Some.is)
    (rw (c.as_str.ensures.value, c.in_ok-of_config.ensures) at c.in-Err.ensures) refl

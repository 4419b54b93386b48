-- An event that comes again and does nothing more: what is counted of it.
use Rattle.std.specs.Prelude.{ℕ, ◌==◌, true, false, if◌then◌else◌, Option, None, Some}
use Rattle.brd_happening.specs.declared.happening.What.{What}
use Rattle.brd_happening.specs.declared.happening.What.TheVariants as what
use Rattle.brd_happening.specs.declared.happening.Why.TheVariants as why
use Rattle.brd_verdicts.specs.declared.accounts.Accounts.{Accounts}
use Rattle.brd_verdicts.specs.declared.losses.LostRaises.{LostRaises}
use Rattle.brd_verdicts.specs.Losses.{lost_if}

-- Raises after one of which this was said, from a position on: the line is pending since then, or nobody handles it.
abbrev pub lost_after : ℕ → ℕ → What → Option LostRaises
lost_after position count (what.Raised line) =
    Some (record { line = line; pending = true; position = position; count = count })
lost_after position count (what.Lost line) =
    Some (record { line = line; pending = true; position = position; count = count })
lost_after position count (what.Nothing (why.NoHandler line)) =
    Some (record { line = line; pending = false; position = position; count = count })
lost_after position count _ = None

abbrev pub lost_again : ℕ → ℕ → What → Option LostRaises
lost_again position count what = if count == 0 then None else lost_after position count what

abbrev pub again : ℕ → ℕ → What → Accounts → Accounts
again position count what accounts = record accounts { lost = lost_if (lost_again position count what) accounts.lost }

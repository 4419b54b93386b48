-- Raises of interrupt lines that had no effect, counted by line.
use Rattle.std.specs.Prelude.{ℕ, ◌==◌, true, false, if◌then◌else◌, List, [], ◌∷◌, Option, None, Some}
use Rattle.brd_happening.specs.declared.happening.{What.What, Happening.Happening}
use Rattle.brd_happening.specs.declared.happening.What.TheVariants as what
use Rattle.brd_happening.specs.declared.happening.Why.TheVariants as why
use Rattle.brd_happening.specs.declared.rung.Rung.{Rung}
use Rattle.brd_verdicts.specs.declared.losses.LostRaises.{LostRaises}
use Rattle.brd_verdicts.specs.Changed.{changed}
use Rattle.brd_verdicts.specs.Refusals.{grown}

-- The raise of an event of a position that had no effect: the line was pending, or nobody handles it.
abbrev pub lost_in : ℕ → What → Option LostRaises
lost_in position (what.Lost line) = Some (record { line = line; pending = true; position = position; count = 1 })
lost_in position (what.Nothing (why.NoHandler line)) =
    Some (record { line = line; pending = false; position = position; count = 1 })
lost_in position _ = None

abbrev pub more_lost : ℕ → LostRaises → LostRaises
more_lost count it = record it { count = grown it.count count }

-- counted with the first ones of their line; where there are none they are these
abbrev pub lost_with : LostRaises → List LostRaises → List LostRaises
lost_with new olds = changed (λ old. old.line == new.line) (more_lost new.count) new olds

abbrev pub lost_if : Option LostRaises → List LostRaises → List LostRaises
lost_if None olds = olds
lost_if (Some new) olds = lost_with new olds

-- a line of a time handler that the tick of a position raised: in vain if it was pending

abbrev pub rung_lost : ℕ → Rung → Option LostRaises
rung_lost position it =
    if it.pending then Some (record { line = it.line; pending = true; position = position; count = 1 }) else None

-- some, one after the other
abbrev pub all_rung : ℕ → List Rung → List LostRaises → List LostRaises
all_rung position [] olds = olds
all_rung position (it ∷ its) olds = all_rung position its (lost_if (rung_lost position it) olds)

-- all of an event of a position
abbrev pub lost_by : ℕ → Happening → List LostRaises → List LostRaises
lost_by position told olds = all_rung position told.rung (lost_if (lost_in position told.what) olds)

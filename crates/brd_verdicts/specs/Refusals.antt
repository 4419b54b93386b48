-- Calls that were answered with an error, counted by kind.
use Rattle.std.specs.Prelude.{ℕ, ◌+◌, ◌-◌, ◌^◌, ◌==◌, min, Bool, not, ◌&&◌, ◌||◌, List, is_some}
use Rattle.brd_happening.specs.declared.release.AskedCall.{AskedCall}
use Rattle.brd_verdicts.specs.declared.answers.Answered.{Answered}
use Rattle.brd_verdicts.specs.declared.refusals.Refused.{Refused}
use Rattle.brd_verdicts.specs.Answers.{call_in}
use Rattle.brd_verdicts.specs.Changed.{changed}

-- a count with so many more, as far as 64 bits hold it
abbrev pub grown : ℕ → ℕ → ℕ
grown count more = min (count + more) (2 ^ 64 - 1)

-- calls of one number, or of numbers that no call has
abbrev pub same_call : AskedCall → AskedCall → Bool
same_call one other =
    one.number == other.number || (not (is_some (call_in one)) && not (is_some (call_in other)))

-- with the same answer
abbrev pub same_kind : Refused → Refused → Bool
same_kind one other = one.code == other.code && same_call one.call other.call

-- one that was answered in the event of a position
abbrev pub refused_by : ℕ → Answered → Refused
refused_by position it = record { call = it.call; code = it.code; place = it.place; position = position; count = 1 }

abbrev pub one_more : Refused → Refused
one_more it = record it { count = grown it.count 1 }

-- One more is counted with the first of its kind; where there is none it is that.
abbrev pub counted : Refused → List Refused → List Refused
counted new olds = changed (λ old. same_kind old new) one_more new olds

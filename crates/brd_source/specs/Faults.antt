-- What a function of this crate answers: a value, or `Syntax` where a definition has none. That memory ran out is no
-- meaning of a line.
use Rattle.std.specs.Prelude.{◌≡◌, Bool, true, false, ⊤, Option, Some, None, Result, Ok, Err}
use Rattle.std.specs.Bool.{MatchBool}
use Rattle.brd_source.specs.declared.fault.LineFault.{LineFault}
use Rattle.brd_source.specs.declared.fault.LineFault.TheVariants.{NoMemory, Syntax}

abbrev pub is_no_memory : LineFault → Bool
is_no_memory NoMemory = true
is_no_memory Syntax = false

-- what a function returned, seen by view, is `read`, and `Syntax` where that is None, unless memory ran out
abbrev pub Gives : {X Y : Type 0} → (X → Y) → Result X LineFault → Option Y → Type 0
Gives view (Ok x) read = read ≡ Some (view x)
Gives view (Err e) read = MatchBool (is_no_memory e) ⊤ (read ≡ None)

-- what follows from a value, and nothing where there is none
infixl 10 ◌>>=◌
abbrev pub ◌>>=◌ : {A B : Type 0} → Option A → (A → Option B) → Option B
(Some x) >>= f = f x
None >>= f = None

-- A value or the first fault, for any type of faults. What a function of the code answers gives what a definition
-- says, unless memory ran out.
use Rattle.std.specs.Prelude.{◌≡◌, Bool, ⊤, Option, Some, None, Result, Ok, Err}
use Rattle.std.specs.Bool.{MatchBool}

infixl 10 ◌>>=◌
abbrev pub ◌>>=◌ : {F A B : Type 0} → Result A F → (A → Result B F) → Result B F
(Ok x) >>= f = f x
(Err e) >>= f = Err e

-- the value, or this fault where there is none
abbrev pub or_fault : {F A : Type 0} → F → Option A → Result A F
or_fault e None = Err e
or_fault e (Some x) = Ok x

-- The fault e is that of `read`. By `is_memory` a fault says that memory ran out, and that may always be.
abbrev pub Fails : {F Y : Type 0} → (F → Bool) → F → Result Y F → Type 0
Fails is_memory e read = MatchBool (is_memory e) ⊤ (read ≡ Err e)

-- what a function returned, seen by view, is `read`, unless memory ran out
abbrev pub Gives : {F X Y : Type 0} → (F → Bool) → (X → Y) → Result X F → Result Y F → Type 0
Gives is_memory view (Ok x) read = read ≡ Ok (view x)
Gives is_memory view (Err e) read = Fails is_memory e read

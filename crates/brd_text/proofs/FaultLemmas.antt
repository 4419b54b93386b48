-- Steps that did not fail, and faults that are passed on.
use Rattle.std.proofs.Common.{◌≡◌, Bool, true, false, cond, Result, Ok, Err, refl}
use Rattle.std.specs.Prelude.{⊤}
use Rattle.std.specs.Bool.{MatchBool}
use Rattle.brd_text.specs.Faults.{◌>>=◌, Fails}

abbrev pub found : {F A : Type 0} → A → Result A F
found x = Ok x

pub ok_is : {F A : Type 0} (x y : A) → found {F = F} x ≡ Ok y → x ≡ y
ok_is x y e = cc

-- the value of a step that did not fail
pub bind_ok : {F A B : Type 0} (r : Result A F) (f : A → Result B F) (y : B) → (r >>= f) ≡ Ok y → (x : A) × (r ≡ Ok x) × (f x ≡ Ok y)
bind_ok (Ok x) f y e = (x, refl, e)
bind_ok (Err d) f y e = absurd (cc)

-- a test that did not fail
pub passed : {F A : Type 0} (b : Bool) (d : F) (x y : A) → cond b (Ok x) (Err d) ≡ Ok y → (b ≡ true) × (x ≡ y)
passed true d x y e = (refl, cc)
passed false d x y e = absurd (cc)

pub not_refused : {F A : Type 0} (b : Bool) (d : F) (x y : A) → cond b (Err d) (Ok x) ≡ Ok y → b ≡ false
not_refused true d x y e = absurd (cc)
not_refused false d x y e = refl

passed_by : {F A B : Type 0} (is_memory : Bool) (e : F) (step : Result A F) (whole : Result B F) → MatchBool is_memory ⊤ (step ≡ Err e) → (step ≡ Err e → whole ≡ Err e) → MatchBool is_memory ⊤ (whole ≡ Err e)
passed_by true e step whole fails follows = fails
passed_by false e step whole fails follows = follows fails

-- a fault of one step is the fault of all that follows from it
pub passed_on : {F A B : Type 0} (is_memory : F → Bool) (e : F) (step : Result A F) (whole : Result B F) → Fails is_memory e step → (step ≡ Err e → whole ≡ Err e) → Fails is_memory e whole
passed_on is_memory e step whole fails follows = passed_by (is_memory e) e step whole fails follows

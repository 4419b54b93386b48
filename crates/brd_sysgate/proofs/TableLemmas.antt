-- The calls of every board, and those of the profile beside them.
use Rattle.std.proofs.Common.{◌≡◌, ◌<◌, ◌≤◌, ℕ, Bool, true, false, List, [], ◌∷◌, refl, ap, ◌∙◌, arith}
use Rattle.std.specs.Prelude.{◌==◌, nat_lt, if◌then◌else◌, Option, None, Some, Err}
use Rattle.std.specs.Option.{option_map, option_or}
use Rattle.std.proofs.lemmas.Bool.{and_parts}
use Rattle.std.proofs.lemmas.Bool.Decides.{nat_tests}
use Rattle.std.proofs.lemmas.List.Folds.{find-append}
use Rattle.brd_exec.specs.State.{State, read}
use Rattle.brd_kernel.specs.declared.call.Ercd.TheVariants.{Rsfn}
use Rattle.brd_sysgate.specs.declared.gate.Agent.{Agent}
use Rattle.brd_sysgate.specs.declared.gate.Caller.{Caller}
use Rattle.brd_sysgate.specs.Gate.{Service, plain_table, profile_table, table, table_of, row_in, name_in, name_of, asked_in, asked, is_above, are_below, arguments_of, allowed, read_of}

-- what is found of a call: among those of every board, or else among those of the profile

mapped-or : {X Y : Type 0} (f : X → Y) (one other : Option X) → option_map f (option_or one other) ≡ option_or (option_map f one) (option_map f other)
mapped-or f None other = refl
mapped-or f (Some x) other = refl

row-more : (number : ℕ) → row_in table number ≡ option_or (row_in plain_table number) (row_in profile_table number)
row-more number = find-append (λ s. s.number == number) plain_table profile_table

pub asked_more : (number : ℕ) (a : List ℕ) → asked number a ≡ option_or (asked_in plain_table number a) (asked_in profile_table number a)
asked_more number a =
    ap (option_map (λ (s : Service). record { place = s.place; call = s.call a })) (row-more number)
    ∙ mapped-or (λ (s : Service). record { place = s.place; call = s.call a }) (row_in plain_table number) (row_in profile_table number)

pub named_more : (number : ℕ) → name_of number ≡ option_or (name_in plain_table number) (name_in profile_table number)
named_more number =
    ap (option_map (λ (s : Service). (s.name, s.takes))) (row-more number)
    ∙ mapped-or (λ (s : Service). (s.name, s.takes)) (row_in plain_table number) (row_in profile_table number)

-- what isn't found

passed-by : (here : Bool) (s : Service) (found : Option Service) → here ≡ false → found ≡ None → (if here then Some s else found) ≡ None
passed-by true s found here none = absurd (cc)
passed-by false s found here none = none

absent-above : (most number : ℕ) (services : List Service) → are_below most services ≡ true → most ≤ number → row_in services number ≡ None
absent-above most number [] below le = refl
absent-above most number (s ∷ services) below le =
    let parts = and_parts (nat_lt s.number most) (are_below most services) below in
    passed-by (s.number == number) s (row_in services number) (grind (arith, nat_tests, parts.0, le)) (absent-above most number services parts.1 le)

absent-below : (least number : ℕ) (services : List Service) → is_above least services ≡ true → number ≤ least → row_in services number ≡ None
absent-below least number [] above le = refl
absent-below least number (s ∷ services) above le =
    let parts = and_parts (nat_lt least s.number) (is_above s.number services) above in
    let less : least < s.number = grind (arith, nat_tests, parts.0) in
    passed-by (s.number == number) s (row_in services number) (grind (arith, nat_tests, less, le))
    (absent-below s.number number services parts.1 (omega (arith, less, le)))

-- Without the profile.

refused-by : (standard : Bool) (agent : Agent) (named number : ℕ) (a : List ℕ) → standard ≡ false → 62 < number →
    allowed agent named (asked_in (table_of standard) number a) ≡ Err Rsfn
refused-by true agent named number a none more = absurd (cc)
refused-by false agent named number a none more =
    let absent : row_in plain_table number ≡ None = absent-above 63 number plain_table refl (omega (arith, more)) in
    ap (λ (row : Option Service). allowed agent named (option_map (λ (s : Service). record { place = s.place; call = s.call a }) row)) absent

pub profile-refused : (s : State) (caller : Caller) → caller.standard ≡ false → 62 < read s 2 → read_of s caller ≡ Err Rsfn
profile-refused s caller none more = refused-by caller.standard caller.agent (read s 4) (read s 2) (arguments_of s) none more

or-none : {X : Type 0} (x : Option X) → option_or x None ≡ x
or-none None = refl
or-none (Some x) = refl

pub others-same : (number : ℕ) → number ≤ 62 → row_in table number ≡ row_in plain_table number
others-same number le =
    row-more number
    ∙ ap (option_or (row_in plain_table number)) (absent-below 63 number profile_table refl (omega (arith, le)))
    ∙ or-none (row_in plain_table number)

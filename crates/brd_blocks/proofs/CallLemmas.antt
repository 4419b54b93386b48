-- Which calls ask for ter_tsk: those of its number.
use Rattle.std.proofs.Common.{◌≡◌, ℕ, Bool, true, false, not, List, [], ◌∷◌, refl, sym, ap, subst, ◌∙◌}
use Rattle.std.specs.Prelude.{cond, ◌==◌, ◌&&◌, ◌||◌, if◌then◌else◌, find, Option, None, Some, Result, Ok, Err}
use Rattle.std.specs.Option.{option_map}
use Rattle.std.proofs.lemmas.Bool.{false≢true, eqb-true, eq-eqb}
use Rattle.brd_exec.specs.State.{State, read}
use Rattle.brd_kernel.specs.declared.call.Call.{Call}
use Rattle.brd_kernel.specs.declared.call.Call.TheVariants as call
use Rattle.brd_kernel.specs.declared.call.Ercd.{Ercd}
use Rattle.brd_sysgate.specs.declared.gate.Agent.{Agent}
use Rattle.brd_sysgate.specs.declared.gate.Caller.{Caller}
use Rattle.brd_sysgate.specs.declared.place.Place.TheVariants as place
use Rattle.brd_sysgate.specs.Gate.{Service, a0, table_of, row_in, asked_in, arguments_of, may_call, allowed, read_of}
use Rattle.brd_blocks.specs.Looking.{asks_ter_tsk, asks_of}
use Rattle.brd_blocks.proofs.OwnLemmas.{and-left, and-right}

abbrev is_ter : Call → Bool
is_ter (call.TerTsk id) = true
is_ter _ = false

-- none of these services but that of number 4 is ter_tsk, with these arguments
abbrev only_fourth : List ℕ → List Service → Bool
only_fourth a [] = true
only_fourth a (s ∷ services) = (s.number == 4 || not (is_ter (s.call a))) && only_fourth a services

table-fourth : (standard : Bool) (a b c d : ℕ) → only_fourth (a ∷ b ∷ c ∷ d ∷ []) (table_of standard) ≡ true
table-fourth true a b c d = refl
table-fourth false a b c d = refl

or-not : (x y : Bool) → (x || not y) ≡ true → y ≡ true → x ≡ true
or-not true y is other = refl
or-not false true is other = absurd (false≢true is)
or-not false false is other = absurd (false≢true other)

-- The service that is found.

abbrev Fourth : List ℕ → ℕ → List Service → Service → Type 0
Fourth a number services s =
    find (λ (it : Service). it.number == number) services ≡ Some s → is_ter (s.call a) ≡ true → number ≡ 4

first-fourth : (a : List ℕ) (number : ℕ) (first s : Service) → (first.number == number) ≡ true →
    (first.number == 4 || not (is_ter (first.call a))) ≡ true → first ≡ s → is_ter (s.call a) ≡ true → number ≡ 4
first-fourth a number first s here only same ter =
    let own : is_ter (first.call a) ≡ true = subst (λ (it : Service). is_ter (it.call a) ≡ true) (sym same) ter in
    let fourth : first.number ≡ 4 =
    eqb-true first.number 4 (or-not (first.number == 4) (is_ter (first.call a)) only own) in
    sym (eqb-true first.number number here) ∙ fourth

found-here : (a : List ℕ) (number : ℕ) (here : Bool) (first : Service) (services : List Service) (s : Service) →
    (first.number == number) ≡ here → only_fourth a (first ∷ services) ≡ true → (only_fourth a services ≡ true → Fourth a number services s) →
    cond here (Some first) (find (λ (it : Service). it.number == number) services) ≡ Some s → is_ter (s.call a) ≡ true → number ≡ 4
found-here a number true first services s is only more found ter =
    let same : first ≡ s = cc in
    first-fourth a number first s is
    (and-left (first.number == 4 || not (is_ter (first.call a))) (only_fourth a services) only) same ter
found-here a number false first services s is only more found ter =
    more (and-right (first.number == 4 || not (is_ter (first.call a))) (only_fourth a services) only) found ter

found-fourth : (a : List ℕ) (number : ℕ) (services : List Service) (s : Service) → only_fourth a services ≡ true → Fourth a number services s
found-fourth a number [] s only found ter = let wrong : ⊥ = cc in absurd wrong
found-fourth a number (first ∷ services) s only found ter =
    found-here a number (first.number == number) first services s refl only (found-fourth a number services s) found ter

-- The call that is asked for.

abbrev given : Bool → Call → Result Call Ercd
given may one = if may then Ok one else Err Ercd.Ctx

abbrev asking : Call → Result Call Ercd
asking one = Ok one

allowed-call : (may : Bool) (one other : Call) → given may one ≡ asking other → one ≡ other
allowed-call true one other is = cc
allowed-call false one other is = let wrong : ⊥ = cc in absurd wrong

row-fourth : (a : List ℕ) (number name id : ℕ) (agent : Agent) (services : List Service) (row : Option Service) →
    only_fourth a services ≡ true → row_in services number ≡ row →
    allowed agent name (option_map (λ (it : Service). record { place = it.place; call = it.call a }) row) ≡ Ok (call.TerTsk id) → number ≡ 4
row-fourth a number name id agent services None only is asks = let wrong : ⊥ = cc in absurd wrong
row-fourth a number name id agent services (Some s) only is asks =
    found-fourth a number services s only is
    (ap is_ter (allowed-call (may_call agent s.place name) (s.call a) (call.TerTsk id) asks))

-- The task that the call names.

fourth-names : (standard : Bool) (agent : Agent) (name id : ℕ) (a : List ℕ) →
    allowed agent name (asked_in (table_of standard) 4 a) ≡ Ok (call.TerTsk id) → call.TerTsk (a0 a) ≡ call.TerTsk id
fourth-names true agent name id a asks = allowed-call (may_call agent place.Task name) (call.TerTsk (a0 a)) (call.TerTsk id) asks
fourth-names false agent name id a asks = allowed-call (may_call agent place.Task name) (call.TerTsk (a0 a)) (call.TerTsk id) asks

same-id : (one other : ℕ) → call.TerTsk one ≡ call.TerTsk other → one ≡ other
same-id one other is = cc

pub ter-asked : (s : State) (caller : Caller) (id : ℕ) → read_of s caller ≡ Ok (call.TerTsk id) → asks_ter_tsk s ≡ true
ter-asked s caller id asks =
    eq-eqb (read s 2) 4
    (row-fourth (arguments_of s) (read s 2) (read s 4) id caller.agent (table_of caller.standard)
    (row_in (table_of caller.standard) (read s 2))
    (table-fourth caller.standard (read s 4) (read s 5) (read s 6) (read s 7)) refl asks)

pub ter-named : (s : State) (caller : Caller) (id : ℕ) → read_of s caller ≡ Ok (call.TerTsk id) → asks_of s ≡ id
ter-named s caller id asks =
    let fourth : read s 2 ≡ 4 = eqb-true (read s 2) 4 (ter-asked s caller id asks) in
    same-id (asks_of s) id
    (fourth-names caller.standard caller.agent (read s 4) id (arguments_of s)
    (subst (λ n. allowed caller.agent (read s 4) (asked_in (table_of caller.standard) n (arguments_of s)) ≡ Ok (call.TerTsk id)) fourth asks))

-- What becomes of the plan of snapshots on the way of a board.
use Rattle.std.proofs.Common.{◌≡◌, ◌⊎◌, ℕ, zero, suc, ◌+◌, ◌-◌, ◌*◌, ◌/◌, ◌%◌, ◌<◌, ◌≤◌, List, refl, sym, ap, subst, ◌∙◌, arith, inl, inr}
use Rattle.std.specs.Prelude.{Bool, true, false, ◌==◌, ◌&&◌, nat_lt, if◌then◌else◌}
use Rattle.std.proofs.lemmas.Bool.{cases_lt, false≢true}
use Rattle.std.proofs.lemmas.Bool.Decides.{nat_tests}
use Rattle.std.proofs.lemmas.Nat.{mod-mul-add}
use Rattle.std.proofs.Math.Nat.{mod-add-div', mul_assoc, mul_right_comm, mul-mod_left}
use Rattle.brd_board.specs.declared.event.Event.{Event}
use Rattle.brd_board.specs.Board.{BoardState}
use Rattle.brd_journal.specs.Playing.{IsStill, AreStill}
use Rattle.brd_debug.specs.Kept.{Plan, last_of, next_multiple, noted, IsNoted}

-- No multiple lies between a position and the next multiple after it.

multiple-of : (i q b p : ℕ) → p ≡ q * i + b → 0 < b → b < i → p % i ≡ 0 → ⊥
multiple-of i q b p is some less multiple =
    let none : b ≡ 0 = sym (mod-mul-add q i b less) ∙ ap (λ n. n % i) (sym is) ∙ multiple in
    omega (arith, none, some)

between : (i whole rest q at p : ℕ) → whole ≡ q * i → rest + whole ≡ at → at < p → p < at - rest + i → p % i ≡ 0 → ⊥
between i whole rest q at p is parts above below multiple =
    let this : p ≡ whole + (p - whole) = omega (arith, parts, above) in
    multiple-of i q (p - whole) p (this ∙ ap (λ n. n + (p - whole)) is) (omega (arith, parts, above)) (omega (arith, parts, above, below)) multiple

pub no-multiple : (interval at p : ℕ) → at < p → p < next_multiple interval at → p % interval ≡ 0 → ⊥
no-multiple interval at p above below multiple =
    between interval (at / interval * interval) (at % interval) (at / interval) at p refl (mod-add-div' at interval) above below multiple

-- Such a position isn't noted.

and-false : (a b : Bool) → b ≡ false → (a && b) ≡ false
and-false true b none = none
and-false false b none = refl

plan-else : (test : Bool) (one plan : Plan) → test ≡ false → (if test then one else plan) ≡ plan
plan-else true one plan none = absurd (false≢true (sym none))
plan-else false one plan none = refl

noted-none : (plan : Plan) (at : ℕ) → (at % plan.interval ≡ 0 → ⊥) → noted plan at ≡ plan
noted-none plan at none =
    let other : (at % plan.interval == 0) ≡ false = grind (arith, nat_tests, none) in
    plan-else (nat_lt (last_of plan.positions) at && (at % plan.interval == 0)) _ plan
    (and-false (nat_lt (last_of plan.positions) at) (at % plan.interval == 0) other)

-- Stretches.

quiet-one : (boot : BoardState) (events : List Event) (plan : Plan) (at n : ℕ) → (noted plan at ≡ plan) ⊎ IsStill boot events at →
    IsNoted boot events plan (suc at) n plan → IsNoted boot events plan at (suc n) plan
quiet-one boot events plan at n (inl same) rest = inl (subst (λ p. IsNoted boot events p (suc at) n plan) (sym same) rest)
quiet-one boot events plan at n (inr still) rest = inr (still, rest)

-- none of these positions changes the plan, or their events do nothing
quiet : (boot : BoardState) (events : List Event) (plan : Plan) (at n : ℕ) →
    ((p : ℕ) → at ≤ p → p < at + n → (noted plan p ≡ plan) ⊎ IsStill boot events p) → IsNoted boot events plan at n plan
quiet boot events plan at zero each = refl
quiet boot events plan at (suc n) each =
    quiet-one boot events plan at n (each at (omega arith) (omega arith))
    (quiet boot events plan (suc at) n (λ p above below. each p (omega (arith, above)) (omega (arith, below))))

-- a board that is noted, and plays on over no multiple, and past that where nothing happens
noted-over : (boot : BoardState) (events : List Event) (plan next : Plan) (at end new : ℕ) → next ≡ noted plan at → at < new →
    ((p : ℕ) → at < p → p < end → p % next.interval ≡ 0 → ⊥) → AreStill boot events end new → IsNoted boot events plan at (new - at) next
noted-over boot events plan next at end new is more near still =
    let each : (p : ℕ) → suc at ≤ p → p < suc at + (new - suc at) → (noted next p ≡ next) ⊎ IsStill boot events p =
    λ p above below. elim (cases_lt p end) [
      | inl lt ↦ inl (noted-none next p (near p (omega (arith, above)) lt))
      | inr ge ↦ inr (still p ge (omega (arith, below, more)))
    ] in
    let count : suc (new - suc at) ≡ new - at = omega (arith, more) in
    subst (λ n. IsNoted boot events plan at n next) count
    (inl (subst (λ p. IsNoted boot events p (suc at) (new - suc at) next) is (quiet boot events next (suc at) (new - suc at) each)))

-- up to the next multiple at most
pub noted-on : (boot : BoardState) (events : List Event) (plan next : Plan) (at end new : ℕ) → next ≡ noted plan at → at < new →
    end ≤ next_multiple next.interval at → AreStill boot events end new → IsNoted boot events plan at (new - at) next
noted-on boot events plan next at end new is more near still =
    noted-over boot events plan next at end new is more
    (λ p above below multiple. no-multiple next.interval at p above (omega (arith, below, near)) multiple) still

-- a multiple of the doubled interval is one of the interval

no-rest : (rest whole p : ℕ) → rest + whole ≡ p → rest ≡ 0 → p ≡ whole
no-rest rest whole p parts none = omega (arith, parts, none)

half-multiple : (interval p : ℕ) → p % (interval * 2) ≡ 0 → p % interval ≡ 0
half-multiple interval p multiple =
    let q : ℕ = p / (interval * 2) in
    ap (λ n. n % interval) (no-rest (p % (interval * 2)) (q * (interval * 2)) p (mod-add-div' p (interval * 2)) multiple
    ∙ sym (mul_assoc q interval 2) ∙ mul_right_comm q interval 2)
    ∙ mul-mod_left (q * 2) interval

-- the interval is as it was, or has doubled
interval-by : (plan : Plan) (ps qs : List ℕ) (due room : Bool) (p : ℕ) →
    p % (if due then (if room then record plan { positions = ps } else record { interval = plan.interval * 2; positions = qs }) else plan).interval ≡ 0 →
    p % plan.interval ≡ 0
interval-by plan ps qs true true p multiple = multiple
interval-by plan ps qs true false p multiple = half-multiple plan.interval p multiple
interval-by plan ps qs false room p multiple = multiple

-- up to what was the next multiple
pub noted-near : (boot : BoardState) (events : List Event) (plan next : Plan) (at to : ℕ) → next ≡ noted plan at → at < to →
    to ≤ next_multiple plan.interval at → IsNoted boot events plan at (to - at) next
noted-near boot events plan next at to is more near =
    noted-over boot events plan next at to to is more
    (λ p above below multiple. no-multiple plan.interval at p above (omega (arith, below, near))
    (interval-by plan _ _ _ _ p (ap (λ (q : Plan). p % q.interval) (sym is) ∙ multiple)))
    (λ p above below. absurd (omega (arith, above, below)))

-- Two stretches, one after the other.

joined-one : (boot : BoardState) (events : List Event) (plan : Plan) (at n : ℕ) (mid : Plan) (m : ℕ) (new : Plan) →
    ((p : Plan) → IsNoted boot events p (suc at) n mid → IsNoted boot events p (suc at) (n + m) new) →
    IsNoted boot events plan at (suc n) mid → IsNoted boot events plan at (suc (n + m)) new
joined-one boot events plan at n mid m new rest (inl first) = inl (rest (noted plan at) first)
joined-one boot events plan at n mid m new rest (inr first) = inr (first.0, rest plan first.1)

joined : (boot : BoardState) (events : List Event) (plan : Plan) (at n k : ℕ) (mid : Plan) (m : ℕ) (new : Plan) → k ≡ n + m →
    IsNoted boot events plan at n mid → IsNoted boot events mid (at + n) m new → IsNoted boot events plan at k new
joined boot events plan at zero k mid m new sum first second =
    let all : m ≡ k = omega (arith, sum) in
    let here : at + 0 ≡ at = omega arith in
    subst (λ n. IsNoted boot events plan at n new) all
    (subst (λ p. IsNoted boot events p at m new) first (subst (λ a. IsNoted boot events mid a m new) here second))
joined boot events plan at (suc n) k mid m new sum first second =
    let all : suc (n + m) ≡ k = omega (arith, sum) in
    let here : at + suc n ≡ suc at + n = omega arith in
    subst (λ n. IsNoted boot events plan at n new) all
    (joined-one boot events plan at n mid m new
    (λ p first. joined boot events p (suc at) n (n + m) mid m new refl first (subst (λ a. IsNoted boot events mid a m new) here second)) first)

-- from a position to another one, and from there to a third
pub noted-both : (boot : BoardState) (events : List Event) (plan mid new : Plan) (from at to : ℕ) → from ≤ at → at ≤ to →
    IsNoted boot events plan from (at - from) mid → IsNoted boot events mid at (to - at) new → IsNoted boot events plan from (to - from) new
noted-both boot events plan mid new from at to above below first second =
    let here : at ≡ from + (at - from) = omega (arith, above) in
    joined boot events plan from (at - from) (to - from) mid (to - at) new (omega (arith, above, below)) first
    (subst (λ a. IsNoted boot events mid a (to - at) new) here second)

-- nowhere to go
pub noted-nowhere : (boot : BoardState) (events : List Event) (plan : Plan) (at : ℕ) → IsNoted boot events plan at (at - at) plan
noted-nowhere boot events plan at =
    let none : 0 ≡ at - at = omega arith in
    subst (λ n. IsNoted boot events plan at n plan) none refl

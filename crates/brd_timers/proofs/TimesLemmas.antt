-- The times of time handlers.
use Rattle.std.proofs.Common.{◌≡◌, ◌≤◌, ◌<◌, ℕ, zero, suc, ◌+◌, ◌-◌, ◌*◌, ◌/◌, ◌%◌, refl, sym, ap, subst, ◌∙◌, arith}
use Rattle.std.specs.Prelude.{◌↔◌, Bool, true, false, nat_le, nat_lt, if◌then◌else◌, Option, None, Some}
use Rattle.std.proofs.lemmas.Bool.{false≢true}
use Rattle.std.proofs.lemmas.Bool.Decides.{nat_tests}
use Rattle.std.proofs.lemmas.Nat.{div-add-mod', mod_below, mul-le}
use Rattle.brd_timers.specs.declared.course.Course.TheVariants.{Cyclic, Alarm}
use Rattle.brd_timers.specs.declared.course.Cycle.{Cycle}
use Rattle.brd_timers.specs.declared.timer.Timer.{Timer}
use Rattle.brd_timers.specs.Timers.{next_time, timer_with, stopped, is_due, ticked, asked_for, due_after}
use Rattle.brd_timers.specs.Times.{IsTime, IsNextTime, after_ticks}

-- of two times the later one has more of them before it

rises : (period m n : ℕ) → m ≤ n → m * period ≤ n * period
rises period m n le = mul-le m period n period le (omega arith)

more-by : (less : Bool) (period m n : ℕ) → nat_lt m n ≡ less → m * period < n * period → m < n
more-by true period m n test lt = grind (arith, nat_tests, test)
more-by false period m n test lt =
    let le : n ≤ m = grind (arith, nat_tests, test) in
    let no : ⊥ = omega (arith, rises period n m le, lt) in
    absurd no

more-before : (period m n : ℕ) → m * period < n * period → m < n
more-before period m n lt = more-by (nat_lt m n) period m n refl lt

-- the next time after a tick is the first one, or the one that comes after the last that isn't later

first-next : (first period now : ℕ) → now < first → IsNextTime first period now first
first-next first period now before = record {
  time = record { before = 0; is = omega arith };
  later = before;
  least = λ other time after. omega (arith, time.is);
}

is-next : (first period now q : ℕ) → first + q * period ≤ now → now < first + suc q * period → IsNextTime first period now (first + suc q * period)
is-next first period now q from to = record {
  time = record { before = suc q; is = refl };
  later = to;
  least = λ other time after.
      let more : q * period < time.before * period = omega (arith, from, after, time.is) in
      let behind : q < time.before = more-before period q time.before more in
      let enough : suc q ≤ time.before = omega (arith, behind) in
      omega (arith, rises period (suc q) time.before enough, time.is);
}

next-by : (late : Bool) (first period now : ℕ) → nat_lt now first ≡ late → 0 < period →
    IsNextTime first period now (if late then first else now + (period - (now - first) % period))
next-by true first period now test positive =
    let before : now < first = grind (arith, nat_tests, test) in
    first-next first period now before
next-by false first period now test positive =
    let reached : first ≤ now = grind (arith, nat_tests, test) in
    let parts : (now - first) / period * period + (now - first) % period ≡ now - first = div-add-mod' (now - first) period in
    let small : (now - first) % period < period = mod_below (now - first) period positive in
    let is : first + suc ((now - first) / period) * period ≡ now + (period - (now - first) % period) = omega (arith, parts, small, reached) in
    subst (λ tick. IsNextTime first period now tick) is
    (is-next first period now ((now - first) / period) (omega (arith, parts, reached)) (omega (arith, parts, small, reached)))

pub next-is : (first period now : ℕ) → 0 < period → IsNextTime first period now (next_time first period now)
next-is first period now positive = next-by (nat_lt now first) first period now refl positive

-- A cyclic handler, as ticks pass: it is due next at the next time.

record Stands (cycle : Cycle) (first last : ℕ) (timer : Timer) : Type 0 where
  due : ℕ
  is : timer ≡ timer_with (Cyclic cycle) (Some due)
  next : IsNextTime first cycle.period last due

goes-by : (come : Bool) (cycle : Cycle) (first last due : ℕ) → nat_le due (suc last) ≡ come → 0 < cycle.period →
    IsNextTime first cycle.period last due →
    Stands cycle first (suc last) (if come then timer_with (Cyclic cycle) (Some (due + cycle.period)) else timer_with (Cyclic cycle) (Some due))
goes-by true cycle first last due test positive next =
    let le : due ≤ suc last = grind (arith, nat_tests, test) in
    let is : first + suc next.time.before * cycle.period ≡ due + cycle.period = omega (arith, next.time.is) in
    record {
      due = due + cycle.period;
      is = refl;
      next = subst (λ tick. IsNextTime first cycle.period (suc last) tick) is
          (is-next first cycle.period (suc last) next.time.before (omega (arith, next.time.is, le)) (omega (arith, next.time.is, next.later, positive)));
    }
goes-by false cycle first last due test positive next =
    let more : suc last < due = grind (arith, nat_tests, test) in
    record {
      due = due;
      is = refl;
      next = record { time = next.time; later = more; least = λ other time after. next.least other time (omega (arith, after)) };
    }

goes : (cycle : Cycle) (first last : ℕ) (timer : Timer) → 0 < cycle.period → Stands cycle first last timer → Stands cycle first (suc last) (ticked (suc last) timer)
goes cycle first last timer positive s =
    subst (λ t. Stands cycle first (suc last) (ticked (suc last) t)) (sym s.is)
    (goes-by (nat_le s.due (suc last)) cycle first last s.due refl positive s.next)

stands : (cycle : Cycle) (first now ticks : ℕ) → 0 < cycle.period → now < first →
    Stands cycle first (now + ticks) (after_ticks now (timer_with (Cyclic cycle) (Some first)) ticks)
stands cycle first now zero positive before =
    record { due = first; is = refl; next = first-next first cycle.period (now + zero) (omega (arith, before)) }
stands cycle first now (suc ticks) positive before =
    let next : suc (now + ticks) ≡ now + suc ticks = omega arith in
    subst (λ last. Stands cycle first last (after_ticks now (timer_with (Cyclic cycle) (Some first)) (suc ticks))) next
    (goes cycle first (now + ticks) (after_ticks now (timer_with (Cyclic cycle) (Some first)) ticks) positive (stands cycle first now ticks positive before))

tests : (cycle : Cycle) (first last : ℕ) (timer : Timer) → Stands cycle first last timer →
    (is_due (last + 1) timer ≡ true) ↔ IsTime first cycle.period (last + 1)
tests cycle first last timer s =
    let test : is_due (last + 1) timer ≡ nat_le s.due (last + 1) = ap (is_due (last + 1)) s.is in (
      λ yes.
          let le : s.due ≤ last + 1 = grind (arith, nat_tests, test, yes) in
          let same : s.due ≡ last + 1 = omega (arith, le, s.next.later) in
          subst (λ tick. IsTime first cycle.period tick) same s.next.time,
      λ time.
          let le : s.due ≤ last + 1 = s.next.least (last + 1) time (omega arith) in
          grind (arith, nat_tests, test, le),
    )

pub cyclic-due : (cycle : Cycle) (now first ticks : ℕ) → 0 < cycle.period → now < first →
    (is_due (now + ticks + 1) (after_ticks now (timer_with (Cyclic cycle) (Some first)) ticks) ≡ true) ↔ IsTime first cycle.period (now + ticks + 1)
cyclic-due cycle now first ticks positive before =
    tests cycle first (now + ticks) (after_ticks now (timer_with (Cyclic cycle) (Some first)) ticks) (stands cycle first now ticks positive before)

-- An alarm handler, as ticks pass: it is stopped once its time has come.

alarm-goes : (was is : Bool) (due last : ℕ) → nat_le due last ≡ was → nat_le due (suc last) ≡ is →
    ticked (suc last) (timer_with Alarm (if was then None else Some due)) ≡ timer_with Alarm (if is then None else Some due)
alarm-goes true true due last was is = refl
alarm-goes true false due last was is = let no : ⊥ = grind (arith, nat_tests, was, is) in absurd no
alarm-goes false true due last was is = ap (λ b. if b then timer_with Alarm None else timer_with Alarm (Some due)) is
alarm-goes false false due last was is = ap (λ b. if b then timer_with Alarm None else timer_with Alarm (Some due)) is

alarm-starts : (was : Bool) (due now : ℕ) → nat_le due now ≡ was → now < due → timer_with Alarm (Some due) ≡ timer_with Alarm (if was then None else Some due)
alarm-starts true due now was before = let no : ⊥ = grind (arith, nat_tests, was, before) in absurd no
alarm-starts false due now was before = refl

alarm-stands : (due now ticks : ℕ) → now < due →
    after_ticks now (timer_with Alarm (Some due)) ticks ≡ timer_with Alarm (if nat_le due (now + ticks) then None else Some due)
alarm-stands due now zero before = alarm-starts (nat_le due (now + zero)) due (now + zero) refl (omega (arith, before))
alarm-stands due now (suc ticks) before =
    let next : suc (now + ticks) ≡ now + suc ticks = omega arith in
    ap (ticked (suc (now + ticks))) (alarm-stands due now ticks before)
    ∙ alarm-goes (nat_le due (now + ticks)) (nat_le due (now + suc ticks)) due (now + ticks) refl (ap (nat_le due) next)

alarm-tests : (was : Bool) (due last : ℕ) → nat_le due last ≡ was →
    (is_due (last + 1) (timer_with Alarm (if was then None else Some due)) ≡ true) ↔ (last + 1 ≡ due)
alarm-tests true due last was = (
  λ yes. absurd (false≢true yes),
  λ is. let no : ⊥ = grind (arith, nat_tests, was, is) in absurd no,
)
alarm-tests false due last was = (
  λ yes. grind (arith, nat_tests, was, yes),
  λ is. grind (arith, nat_tests, was, is),
)

pub alarm-due : (now asked ticks : ℕ) (due : Option ℕ) →
    (is_due (now + ticks + 1) (after_ticks now (asked_for now asked (timer_with Alarm due)) ticks) ≡ true) ↔ (now + ticks + 1 ≡ due_after now asked)
alarm-due now asked ticks due =
    subst (λ (timer : Timer). (is_due (now + ticks + 1) timer ≡ true) ↔ (now + ticks + 1 ≡ due_after now asked))
    (sym (alarm-stands (due_after now asked) now ticks (omega arith)))
    (alarm-tests (nat_le (due_after now asked) (now + ticks)) (due_after now asked) (now + ticks) refl)

-- A time handler that is stopped stays so.

stays : (timer : Timer) (now ticks : ℕ) → after_ticks now (stopped timer) ticks ≡ stopped timer
stays timer now zero = refl
stays timer now (suc ticks) = ap (ticked (suc (now + ticks))) (stays timer now ticks)

pub never-due : (timer : Timer) (now ticks tick : ℕ) → is_due tick (after_ticks now (stopped timer) ticks) ≡ false
never-due timer now ticks tick = ap (is_due tick) (stays timer now ticks)

-- Steps that nobody else can see, and where a block ends.
use Rattle.std.proofs.Common.{◌≡◌, ℕ, zero, suc, ◌+◌, ◌-◌, ◌≤◌, ◌⊎◌, inl, inr, Bool, true, false, refl, sym, ap, subst, ◌∙◌, arith}
use Rattle.std.specs.Prelude.{not, if◌then◌else◌, List, [], ◌∷◌, replicate, Option, Some, None, is_some}
use Rattle.std.specs.Option.{option_map}
use Rattle.std.proofs.lemmas.Bool.{eq-eqb}
use Rattle.brd_kernel.specs.declared.processor.Executor.{Executor}
use Rattle.brd_kernel.specs.Kernel.{executor_on, context_of}
use Rattle.brd_board.specs.declared.event.Event.{Event}
use Rattle.brd_board.specs.declared.event.Event.TheVariants.{Step}
use Rattle.brd_board.specs.declared.event.Report.TheVariants as report
use Rattle.brd_board.specs.Board.{BoardState, Happened, reported, happens}
use Rattle.brd_journal.specs.Still.{did_nothing}
use Rattle.brd_explore.specs.Schedules.{Place, does, stepper, preempts, one_if, spent, next, place_after}
use Rattle.brd_frames.specs.Agents.{Agent, context_in}
use Rattle.brd_frames.specs.Going.{IsNext}
use Rattle.brd_frames.specs.Lagging.{Sharing, IsInvisible, Path}
use Rattle.brd_frames.proofs.CommuteLemmas.{agent-steps}
use Rattle.brd_frames.proofs.ReduceLemmas.{Like, like-invisible, like-next}
use Rattle.brd_blocks.specs.Stepping.{IsHidden, IsVisible}
use Rattle.brd_reach.proofs.WalkLemmas.{next-one, invisible-same, after-more, less-or-same}
use Rattle.brd_lazy.specs.Blocks.{after_steps, end_of, AreHidden, MayCome, IsKept}

-- What a step does that nobody else can see.

hidden-ran : (by : Sharing) (b : BoardState) (cpu : ℕ) (it : IsHidden by b cpu) →
    happens b (Step cpu) ≡ reported (happens b (Step cpu)).board (report.Ran (context_in b.kernel it.who).pc)
hidden-ran by b cpu it = agent-steps b (happens b (Step cpu)).board cpu it.who it.next it.invisible.goes it.apart

pub hidden-does : (by : Sharing) (b : BoardState) (cpu : ℕ) → IsHidden by b cpu → does b (Step cpu) ≡ true
unfolding does
hidden-does by b cpu it = ap (λ (done : Happened). not (did_nothing done.report)) (hidden-ran by b cpu it)

-- Whether somebody executes on a processor after a step is a matter of the kernel, but for contexts.

some-map : {X Y : Type 0} (f : X → Y) (found : Option X) → is_some (option_map f found) ≡ is_some found
some-map f None = refl
some-map f (Some x) = refl

abbrev on : BoardState → ℕ → Bool
on b cpu = is_some (executor_on b.kernel cpu)

stepper-is : (b : BoardState) (last : Option ℕ) (cpu : ℕ) → stepper b last (Step cpu) ≡ (if on b cpu then Some cpu else None)
stepper-is b last cpu =
    ap (λ test. if test then Some cpu else None) (some-map (context_of b.kernel cpu) (executor_on b.kernel cpu))

pub stepper-like : (b c : BoardState) (one other : Option ℕ) (cpu : ℕ) → Like b c →
    stepper c other (Step cpu) ≡ stepper b one (Step cpu)
stepper-like b c one other cpu like =
    stepper-is c other cpu
    ∙ ap (λ found. if is_some found then Some cpu else None) (like.executors cpu)
    ∙ sym (stepper-is b one cpu)

pub stepper-on : (b : BoardState) (last : Option ℕ) (cpu : ℕ) (who : Executor) → executor_on b.kernel cpu ≡ Some who →
    stepper b last (Step cpu) ≡ Some cpu
stepper-on b last cpu who is = stepper-is b last cpu ∙ ap (λ found. if is_some found then Some cpu else None) is

pub hidden-last : (by : Sharing) (b : BoardState) (cpu : ℕ) (last : Option ℕ) → IsHidden by b cpu →
    stepper (happens b (Step cpu)).board last (Step cpu) ≡ Some cpu
hidden-last by b cpu last it =
    let new : BoardState = (happens b (Step cpu)).board in
    let like : Like b new = like-invisible by b it.who new it.invisible in
    stepper-on new last cpu it.next.executor (like.executors cpu ∙ it.next.goes_on.executes)

-- Where a block ends.

pub preempts-own : (last : Option ℕ) (cpu : ℕ) → last ≡ Some cpu → preempts last cpu ≡ false
preempts-own last cpu is = ap (λ l. preempts l cpu) is ∙ ap not (eq-eqb cpu cpu refl)

pub first-hidden : (by : Sharing) (b : BoardState) (cpu n : ℕ) → AreHidden by b cpu (suc n) → IsHidden by b cpu
first-hidden by b cpu n hidden = hidden 0 (omega arith)

pub other-hidden : (by : Sharing) (b : BoardState) (cpu n : ℕ) → AreHidden by b cpu (suc n) → AreHidden by (happens b (Step cpu)).board cpu n
other-hidden by b cpu n hidden k below = hidden (suc k) (omega (arith, below))

pub place-one : (p : Place) (event : Event) → does p.board event ≡ true → place_after p (event ∷ []) ≡ next p event
place-one p event did = ap (λ test. if test then next p event else p) did

place-more : (p : Place) (event : Event) (events : List Event) → does p.board event ≡ true →
    place_after p (event ∷ events) ≡ place_after (next p event) events
place-more p event events did = ap (λ test. if test then place_after (next p event) events else place_after p events) did

pub last-one : (p : Place) (cpu : ℕ) → next p (Step cpu) ≡ end_of p cpu 0
unfolding spent
last-one p cpu = refl

end-more : (p : Place) (cpu n : ℕ) → (next p (Step cpu)).last ≡ Some cpu → end_of (next p (Step cpu)) cpu n ≡ end_of p cpu (suc n)
unfolding spent
end-more p cpu n last =
    let events : p.left.events - 1 - suc n ≡ p.left.events - suc (suc n) = omega arith in
    let own : one_if (preempts (next p (Step cpu)).last cpu) ≡ 0 = ap one_if (preempts-own (next p (Step cpu)).last cpu last) in
    let preemptions :
    p.left.preemptions - one_if (preempts p.last cpu) - one_if (preempts (next p (Step cpu)).last cpu)
    ≡ p.left.preemptions - one_if (preempts p.last cpu) = omega (arith, own) in
    (λ i. record (end_of p cpu (suc n)) { left = record p.left { events = events i; preemptions = preemptions i } })

pub ends-at : (by : Sharing) (p : Place) (cpu n : ℕ) → AreHidden by p.board cpu n → does (after_steps p.board cpu n) (Step cpu) ≡ true →
    place_after p (replicate (suc n) (Step cpu)) ≡ end_of p cpu n
ends-at by p cpu zero hidden did = place-one p (Step cpu) did ∙ last-one p cpu
ends-at by p cpu (suc n) hidden did =
    let first : IsHidden by p.board cpu = first-hidden by p.board cpu n hidden in
    place-more p (Step cpu) (replicate (suc n) (Step cpu)) (hidden-does by p.board cpu first)
    ∙ ends-at by (next p (Step cpu)) cpu n (other-hidden by p.board cpu n hidden) did
    ∙ end-more p cpu n (hidden-last by p.board cpu p.last first)

-- A path of invisible instructions of who executes on a processor is so many steps of it.

pub hidden-more : (by : Sharing) (b : BoardState) (cpu n : ℕ) → AreHidden by b cpu n → IsHidden by (after_steps b cpu n) cpu →
    AreHidden by b cpu (suc n)
hidden-more by b cpu n hidden it k below =
    elim (less-or-same k n below) [
      | inl less ↦ hidden k less
      | inr same ↦ subst (λ m. IsHidden by (after_steps b cpu m) cpu) (sym same) it
    ]

-- the next step is hidden, if the agent's instruction is invisible
hides : (by : Sharing) (b new : BoardState) (cpu : ℕ) (who : Agent) → IsNext b cpu who → IsInvisible by b who new →
    IsHidden by b cpu ⊎ IsVisible by b cpu → IsHidden by b cpu
hides by b new cpu who next it (inl hidden) = hidden
hides by b new cpu who next it (inr visible) =
    absurd (visible.visible new (subst (λ w. IsInvisible by b w new) (next-one b cpu who visible.who next visible.next) it))

hidden-is : (by : Sharing) (b new : BoardState) (cpu : ℕ) (who : Agent) → IsNext b cpu who → IsInvisible by b who new →
    IsHidden by b cpu → new ≡ (happens b (Step cpu)).board
hidden-is by b new cpu who next it hidden =
    invisible-same by b who new (happens b (Step cpu)).board it
    (subst (λ w. IsInvisible by b w (happens b (Step cpu)).board) (next-one b cpu hidden.who who hidden.next next) hidden.invisible)

-- where it has come
pub record Walked (by : Sharing) (b : BoardState) (cpu : ℕ) (who : Agent) (count : ℕ) (new : BoardState) : Type 0 where
  pub hidden : AreHidden by b cpu count
  pub is : new ≡ after_steps b cpu count
  pub next : IsNext (after_steps b cpu count) cpu who

walk-from : (by : Sharing) (among : List Event) (p : Place) (cpu : ℕ) (who : Agent) (done n : ℕ) (new : BoardState) → IsKept by among p →
    MayCome among p (Step cpu) → IsNext p.board cpu who → AreHidden by p.board cpu done → IsNext (after_steps p.board cpu done) cpu who →
    done + n ≤ p.left.events → Path by (after_steps p.board cpu done) who n new → Walked by p.board cpu who (done + n) new
walk-from by among p cpu who done zero new kept may first hidden next room path =
    let same : done ≡ done + 0 = omega arith in
    subst (λ n. Walked by p.board cpu who n new) same (record { hidden = hidden; is = path; next = next })
walk-from by among p cpu who done (suc n) new kept may first hidden next room path =
    let b : BoardState = after_steps p.board cpu done in
    let it : IsHidden by b cpu = hides by b path.0 cpu who next path.1
    (kept.blocks cpu done who may first (omega (arith, room)) hidden) in
    let there : path.0 ≡ after_steps p.board cpu (suc done) = hidden-is by b path.0 cpu who next path.1 it ∙ after-more cpu done p.board in
    let same : suc done + n ≡ done + suc n = omega arith in
    subst (λ m. Walked by p.board cpu who m new) same
    (walk-from by among p cpu who (suc done) n new kept may first (hidden-more by p.board cpu done hidden it)
    (subst (λ z. IsNext z cpu who) there (like-next b path.0 cpu who (like-invisible by b who path.0 path.1) next))
    (omega (arith, room))
    (subst (λ z. Path by z who n new) there path.2))

pub walk : (by : Sharing) (among : List Event) (p : Place) (cpu : ℕ) (who : Agent) (n : ℕ) (new : BoardState) → IsKept by among p →
    MayCome among p (Step cpu) → IsNext p.board cpu who → n ≤ p.left.events → Path by p.board who n new → Walked by p.board cpu who n new
walk by among p cpu who n new kept may first room path =
    let same : 0 + n ≡ n = omega arith in
    subst (λ m. Walked by p.board cpu who m new) same
    (walk-from by among p cpu who 0 n new kept may first (λ k below. absurd (omega (arith, below))) first (omega (arith, room)) path)

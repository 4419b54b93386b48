-- What a search through places has done makes a lazy tree of which no place fails.
use Rattle.std.proofs.Common.{◌≡◌, ℕ, zero, suc, ◌+◌, ◌<◌, ◌≤◌, ◌⊎◌, inl, inr, true, List, length, refl, sym, ap, subst}
use Rattle.std.proofs.Common.{◌∙◌, arith}
use Rattle.std.specs.Prelude.{◌-◌, not, if◌then◌else◌, replicate, get_or, Option}
use Rattle.std.proofs.lemmas.Bool.{cases_Bool, false≢true}
use Rattle.std.proofs.lemmas.List.{get_or_default}
use Rattle.std.proofs.lemmas.Option.{slice_get_within}
use Rattle.brd_link.specs.LinkSet.{IsLinkSet}
use Rattle.brd_exec.specs.declared.outcome.Outcome.{Outcome}
use Rattle.brd_exec.specs.declared.outcome.Outcome.TheVariants.{Done, Syscall, Exception}
use Rattle.brd_kernel.specs.declared.processor.Executor.{Executor}
use Rattle.brd_kernel.specs.Kernel.{context_of}
use Rattle.brd_board.specs.declared.event.Event.{Event}
use Rattle.brd_board.specs.declared.event.Event.TheVariants.{Step, Tick, Raise}
use Rattle.brd_board.specs.Executing.{executed_by}
use Rattle.brd_board.specs.Board.{BoardState, Happened, with_executed, instruction_done, happens}
use Rattle.brd_journal.specs.Still.{did_nothing}
use Rattle.brd_explore.specs.declared.bounds.Bounds.{Bounds}
use Rattle.brd_explore.specs.declared.wanted.Wanted.{Wanted}
use Rattle.brd_explore.specs.Schedules.{Place, does, stepper, preempts, one_if, spent, is_left, next, place_after}
use Rattle.brd_explore.specs.Schedules.{event_at}
use Rattle.brd_explore.specs.Searching.{NoneFails}
use Rattle.brd_frames.specs.Agents.{Agent}
use Rattle.brd_frames.specs.Going.{IsNext}
use Rattle.brd_frames.specs.Lagging.{Sharing, IsInvisible}
use Rattle.brd_frames.specs.Reducing.{IsQuiet}
use Rattle.brd_frames.proofs.StepLemmas.{left_by, step-is}
use Rattle.brd_frames.proofs.ReduceLemmas.{like-invisible}
use Rattle.brd_blocks.specs.Stepping.{IsHidden, IsVisible}
use Rattle.brd_blocks.proofs.LinkLemmas.{stays-set}
use Rattle.brd_reach.specs.Reaching.{Guards}
use Rattle.brd_reach.proofs.WalkLemmas.{next-one, next-loud, after-more}
use Rattle.brd_spots.specs.declared.spots.Margin.{Margin}
use Rattle.brd_spots.specs.Spots.{spot_of, IsIn, IsMore, IsKnown}
use Rattle.brd_spots.proofs.KnownLemmas.{known-more, less-or-same}
use Rattle.brd_lazy.specs.Blocks.{after_steps, end_of, AreHidden, IsBlock, MayCome}
use Rattle.brd_lazy.specs.Trees.{IsCovered, IsLazyTree}
use Rattle.brd_lazy.specs.Finding.{HasWalked, HasGone, HasTried, HaveTried, IsDone, AreDone}
use Rattle.brd_lazy.proofs.StepLemmas.{ends-at, hidden-more}
use Rattle.brd_lazy.proofs.RoomLemmas.{some-events}
use Rattle.brd_lazy.proofs.FollowLemmas.{none-fails}

-- Walks.

plus-one : (n : ℕ) → suc n ≡ n + 1
plus-one n = omega arith

pub walked-more : (by : Sharing) (b middle new : BoardState) (cpu n : ℕ) → HasWalked by b cpu n middle → IsHidden by middle cpu →
    new ≡ (happens middle (Step cpu)).board → HasWalked by b cpu (n + 1) new
walked-more by b middle new cpu n walked it is =
    let one : IsHidden by (after_steps b cpu n) cpu = subst (λ z. IsHidden by z cpu) walked.is it in
    subst (λ m. HasWalked by b cpu m new) (plus-one n) (record {
      hidden = hidden-more by b cpu n walked.hidden one;
      is = is ∙ ap (λ z. (happens z (Step cpu)).board) walked.is ∙ after-more cpu n b;
      set = subst (λ (z : BoardState). IsLinkSet z.links) (sym is)
          (subst IsLinkSet (sym (like-invisible by middle it.who (happens middle (Step cpu)).board it.invisible).links) walked.set);
    })

pub walked-block : (by : Sharing) (b middle new : BoardState) (cpu n : ℕ) → HasWalked by b cpu n middle → IsVisible by middle cpu →
    new ≡ (happens middle (Step cpu)).board → IsBlock by b cpu n × (new ≡ after_steps b cpu (suc n))
walked-block by b middle new cpu n walked it is = (
  record { hidden = walked.hidden; visible = subst (λ z. IsVisible by z cpu) walked.is it },
  is ∙ ap (λ z. (happens z (Step cpu)).board) walked.is ∙ after-more cpu n b,
)

-- A step isn't both.
not-both : (by : Sharing) (b : BoardState) (cpu : ℕ) → IsHidden by b cpu → IsVisible by b cpu → ⊥
not-both by b cpu hidden visible =
    visible.visible (happens b (Step cpu)).board
    (subst (λ w. IsInvisible by b w (happens b (Step cpu)).board) (next-one b cpu hidden.who visible.who hidden.next visible.next) hidden.invisible)

-- More places.

pub gone-more : (by : Sharing) (old new : List Place) (p : Place) (cpu : ℕ) → IsMore old new → HasGone by old p cpu → HasGone by new p cpu
gone-more by old new p cpu more (inl idle) = inl idle
gone-more by old new p cpu more (inr (inl alone)) =
    inr (inl (alone.0, λ did. known-more old new (next p (Step cpu)) more (alone.1 did)))
gone-more by old new p cpu more (inr (inr (inl block))) =
    inr (inr (inl (block.0, block.1, known-more old new (place_after p (replicate (suc block.0) (Step cpu))) more block.2)))
gone-more by old new p cpu more (inr (inr (inr cut))) = inr (inr (inr cut))

pub tried-more : (by : Sharing) (old new : List Place) (p : Place) (event : Event) → IsMore old new → HasTried by old p event →
    HasTried by new p event
tried-more by old new p (Step cpu) more it = (it.0, it.1, it.2, gone-more by old new p cpu more it.3)
tried-more by old new p Tick more it = λ did. known-more old new (next p Tick) more (it did)
tried-more by old new p (Raise line) more it = λ did. known-more old new (next p (Raise line)) more (it did)

pub done-more : (by : Sharing) (among : List Event) (wanted : Wanted) (old new : List Place) (p : Place) → IsMore old new →
    IsDone by among wanted old p → IsDone by among wanted new p
done-more by among wanted old new p more it = record {
  holds = it.holds;
  tried = λ set k less left. tried-more by old new p (event_at among k) more (it.tried set k less left);
}

-- The tree.

-- a place whose links are a set
abbrev pub IsGood : List Place → Place → Type 0
IsGood spots p = IsIn spots p × IsLinkSet p.board.links

done-at : (by : Sharing) (among : List Event) (wanted : Wanted) (spots : List Place) (p : Place) → AreDone by among wanted spots (length spots) →
    IsIn spots p → IsDone by among wanted spots p
done-at by among wanted spots p done it =
    done it.0 (slice_get_within spots it.0 p it.1) p it.1

tried-at : (by : Sharing) (among : List Event) (wanted : Wanted) (spots : List Place) (p : Place) (event : Event) →
    AreDone by among wanted spots (length spots) → IsGood spots p → MayCome among p event → HasTried by spots p event
tried-at by among wanted spots p event done it may =
    let is : event_at among may.listed.at ≡ event = may.listed.is in
    subst (HasTried by spots p) is
    ((done-at by among wanted spots p done it.0).tried it.1 may.listed.at may.listed.within
    (subst (λ e. is_left p e ≡ true) (sym is) may.left))

-- whoever is next there executes
off-next : (b : BoardState) (cpu : ℕ) (who : Agent) → IsNext b cpu who → (b.kernel.off ≡ true) ⊎ IsQuiet b (Step cpu) → ⊥
off-next b cpu who next (inl off) = false≢true (sym next.goes_on.on ∙ off)
off-next b cpu who next (inr quiet) = next-loud b cpu who next quiet

-- a block begins with an instruction
block-loud : (by : Sharing) (b : BoardState) (cpu n : ℕ) → IsBlock by b cpu n → IsQuiet b (Step cpu) → ⊥
block-loud by b cpu zero block quiet = next-loud b cpu block.visible.who block.visible.next quiet
block-loud by b cpu (suc n) block quiet =
    let first : IsHidden by b cpu = block.hidden 0 (omega arith) in
    next-loud b cpu first.who first.next quiet

block-on : (by : Sharing) (b : BoardState) (cpu n : ℕ) → IsBlock by b cpu n → (b.kernel.off ≡ true) ⊎ IsQuiet b (Step cpu) → ⊥
block-on by b cpu zero block it = off-next b cpu block.visible.who block.visible.next it
block-on by b cpu (suc n) block it =
    let first : IsHidden by b cpu = block.hidden 0 (omega arith) in
    off-next b cpu first.who first.next it

hidden-loud : (by : Sharing) (b : BoardState) (cpu n : ℕ) → 0 < n → AreHidden by b cpu n → IsQuiet b (Step cpu) → ⊥
hidden-loud by b cpu n some hidden quiet = let first : IsHidden by b cpu = hidden 0 some in next-loud b cpu first.who first.next quiet

trichotomy : (n m : ℕ) → (n < m) ⊎ ((n ≡ m) ⊎ (m < n))
trichotomy n m = grind arith

kept-by : (by : Sharing) (spots : List Place) (p : Place) (cpu count : ℕ) (who : Agent) → HasGone by spots p cpu → IsNext p.board cpu who →
    count < p.left.events → AreHidden by p.board cpu count →
    IsHidden by (after_steps p.board cpu count) cpu ⊎ IsVisible by (after_steps p.board cpu count) cpu
kept-by by spots p cpu count who (inl idle) next room hidden = absurd (off-next p.board cpu who next idle.1)
kept-by by spots p cpu count who (inr (inl alone)) next room hidden = absurd (next-loud p.board cpu who next alone.0)
kept-by by spots p cpu count who (inr (inr (inl block))) next room hidden =
    elim (trichotomy count block.0) [
      | inl less ↦ inl (block.1.hidden count less)
      | inr (inl same) ↦ inr (subst (λ m. IsVisible by (after_steps p.board cpu m) cpu) (sym same) block.1.visible)
      | inr (inr more) ↦ absurd (not-both by (after_steps p.board cpu block.0) cpu (hidden block.0 more) block.1.visible)
    ]
kept-by by spots p cpu count who (inr (inr (inr cut))) next room hidden = inl (cut count room)

-- links

set-next : (b : BoardState) (event : Event) → ((cpu : ℕ) → event ≡ Step cpu → (1 ≤ cpu) × (cpu ≤ 8)) → IsLinkSet b.links →
    IsLinkSet (happens b event).board.links
set-next b event within set = stays-set b event within set

step-same : (one two : ℕ) → Step one ≡ Step two → one ≡ two
step-same one two is = cc

of-step : (cpu : ℕ) → 1 ≤ cpu → cpu ≤ 8 → (other : ℕ) → Step cpu ≡ Step other → (1 ≤ other) × (other ≤ 8)
of-step cpu some few other is = subst (λ n. (1 ≤ n) × (n ≤ 8)) (step-same cpu other is) (some, few)

set-after : (p : Place) (cpu n : ℕ) → 1 ≤ cpu → cpu ≤ 8 → IsLinkSet p.board.links → IsLinkSet (place_after p (replicate n (Step cpu))).board.links
set-after p cpu zero some few set = set
set-after p cpu (suc n) some few set = elim (cases_Bool (does p.board (Step cpu))) [
  | inl did ↦
      subst (λ test. IsLinkSet (if test then place_after (next p (Step cpu)) (replicate n (Step cpu))
      else place_after p (replicate n (Step cpu))).board.links) (sym did)
      (set-after (next p (Step cpu)) cpu n some few (set-next p.board (Step cpu) (of-step cpu some few) set))
  | inr none ↦
      subst (λ test. IsLinkSet (if test then place_after (next p (Step cpu)) (replicate n (Step cpu))
      else place_after p (replicate n (Step cpu))).board.links) (sym none)
      (set-after p cpu n some few set)
]

good : (spots : List Place) (p : Place) → IsLinkSet p.board.links → IsKnown spots p → IsCovered (IsGood spots) p
good spots p set it = record {
  place = it.place;
  there = (it.there, subst (λ (b : BoardState). IsLinkSet b.links) (sym it.richer.board) set);
  richer = it.richer;
}

did-instruction : (b : BoardState) (cpu address : ℕ) (outcome : Outcome) → not (did_nothing (instruction_done b cpu address outcome).report) ≡ true
did-instruction b cpu address Done = refl
did-instruction b cpu address Syscall = refl
did-instruction b cpu address (Exception code epc bd) = refl

-- whoever is next there does something
next-does : (b : BoardState) (cpu : ℕ) (who : Agent) → IsNext b cpu who → does b (Step cpu) ≡ true
unfolding does
next-does b cpu who next =
    let x : Executor = next.executor in
    ap (λ (h : Happened). not (did_nothing h.report)) (step-is b cpu x next.goes_on.on next.goes_on.executes next.goes_on.uninterrupted)
    ∙ did-instruction (with_executed b (executed_by b.kernel cpu x (context_of b.kernel cpu x).pc (left_by b cpu x))) cpu
    (context_of b.kernel cpu x).pc (left_by b cpu x).outcome

-- A block leads to the place after it.
pub block-leads : (by : Sharing) (spots : List Place) (p : Place) (cpu count : ℕ) → IsBlock by p.board cpu count → IsKnown spots (end_of p cpu count) →
    IsKnown spots (place_after p (replicate (suc count) (Step cpu)))
block-leads by spots p cpu count block known =
    subst (IsKnown spots) (sym (ends-at by p cpu count block.hidden
    (next-does (after_steps p.board cpu count) cpu block.visible.who block.visible.next))) known

quiet-known : (by : Sharing) (spots : List Place) (p : Place) (cpu : ℕ) → HasGone by spots p cpu → 0 < p.left.events →
    does p.board (Step cpu) ≡ true → IsQuiet p.board (Step cpu) → IsKnown spots (next p (Step cpu))
quiet-known by spots p cpu (inl idle) some did quiet = absurd (false≢true (sym idle.0 ∙ did))
quiet-known by spots p cpu (inr (inl alone)) some did quiet = alone.1 did
quiet-known by spots p cpu (inr (inr (inl block))) some did quiet = absurd (block-loud by p.board cpu block.0 block.1 quiet)
quiet-known by spots p cpu (inr (inr (inr cut))) some did quiet = absurd (hidden-loud by p.board cpu p.left.events some cut quiet)

block-known : (by : Sharing) (spots : List Place) (p : Place) (cpu count : ℕ) → HasGone by spots p cpu → count < p.left.events →
    IsBlock by p.board cpu count → IsKnown spots (place_after p (replicate (suc count) (Step cpu)))
block-known by spots p cpu count (inl idle) room block = absurd (block-on by p.board cpu count block idle.1)
block-known by spots p cpu count (inr (inl alone)) room block = absurd (block-loud by p.board cpu count block alone.0)
block-known by spots p cpu count (inr (inr (inl other))) room block =
    elim (trichotomy count other.0) [
      | inl less ↦ absurd (not-both by (after_steps p.board cpu count) cpu (other.1.hidden count less) block.visible)
      | inr (inl same) ↦ subst (λ m. IsKnown spots (place_after p (replicate (suc m) (Step cpu)))) (sym same) other.2
      | inr (inr more) ↦ absurd (not-both by (after_steps p.board cpu other.0) cpu (block.hidden other.0 more) other.1.visible)
    ]
block-known by spots p cpu count (inr (inr (inr cut))) room block =
    absurd (not-both by (after_steps p.board cpu count) cpu (cut count room) block.visible)

no-step : (cpu : ℕ) → Tick ≡ Step cpu → ⊥
no-step cpu is = let wrong : ⊥ = cc in wrong

no-raise : (line cpu : ℕ) → Raise line ≡ Step cpu → ⊥
no-raise line cpu is = let wrong : ⊥ = cc in wrong

tree-quiet : (by : Sharing) (spots : List Place) (among : List Event) (p : Place) (event : Event) → HasTried by spots p event → MayCome among p event →
    IsLinkSet p.board.links → does p.board event ≡ true → IsQuiet p.board event → IsCovered (IsGood spots) (next p event)
tree-quiet by spots among p (Step cpu) it may set did quiet =
    good spots (next p (Step cpu)) (set-next p.board (Step cpu) (of-step cpu it.0 it.1) set)
    (quiet-known by spots p cpu it.3 (some-events p (Step cpu) may.left) did quiet)
tree-quiet by spots among p Tick it may set did quiet =
    good spots (next p Tick) (set-next p.board Tick (λ cpu is. absurd (no-step cpu is)) set) (it did)
tree-quiet by spots among p (Raise line) it may set did quiet =
    good spots (next p (Raise line)) (set-next p.board (Raise line) (λ cpu is. absurd (no-raise line cpu is)) set) (it did)

tree : (by : Sharing) (among : List Event) (wanted : Wanted) (spots : List Place) → AreDone by among wanted spots (length spots) →
    IsLazyTree by among (IsGood spots)
tree by among wanted spots done = record {
  kept = λ p it. record {
    stands = λ cpu may. (tried-at by among wanted spots p (Step cpu) done it may).2;
    blocks = λ cpu count who may next room hidden.
        kept-by by spots p cpu count who (tried-at by among wanted spots p (Step cpu) done it may).3 next room hidden;
  };
  quiet = λ p event it may did quiet.
      tree-quiet by spots among p event (tried-at by among wanted spots p event done it may) may it.1 did quiet;
  blocks = λ p cpu count it may room block.
      let tried = tried-at by among wanted spots p (Step cpu) done it may in
      good spots (place_after p (replicate (suc count) (Step cpu))) (set-after p cpu (suc count) tried.0 tried.1 it.1)
      (block-known by spots p cpu count tried.3 room block);
}

pub holds-so : (by : Sharing) (among : List Event) (wanted : Wanted) (spots : List Place) (p : Place) → wanted.rounds ≡ 0 → Guards by wanted →
    IsKnown spots p → AreDone by among wanted spots (length spots) → IsLinkSet p.board.links → NoneFails wanted among p
holds-so by among wanted spots p none guards known done set =
    none-fails by among wanted (IsGood spots) p none (record {
      tree = tree by among wanted spots done;
      guards = guards;
      holds = λ q it fails. false≢true (sym (done-at by among wanted spots q done it.0).holds ∙ fails);
    }) (good spots p set known)

-- Where a walk of no step has come.
pub walked-zero : (by : Sharing) (b middle : BoardState) (cpu n : ℕ) → HasWalked by b cpu n middle → n ≡ 0 → middle ≡ b
walked-zero by b middle cpu n walked zero' = walked.is ∙ ap (after_steps b cpu) zero'

-- The place after a block.
pub end-is : (p : Place) (cpu count : ℕ) (b : BoardState) (one : Bounds) (last : Option ℕ) → b ≡ after_steps p.board cpu (suc count) →
    one ≡ spent p.left p.last (Step cpu) → last ≡ stepper b p.last (Step cpu) →
    (record {
      board = b;
      left = record one { events = p.left.events - count - 1 };
      last = last;
    }) ≡ end_of p cpu count
unfolding spent
end-is p cpu count b one last is left who =
    let events : p.left.events - count - 1 ≡ p.left.events - suc count = omega arith in
    let preemptions : one.preemptions ≡ p.left.preemptions - one_if (preempts p.last cpu) = ap (λ (l : Bounds). l.preemptions) left in
    let ticks : one.ticks ≡ p.left.ticks = ap (λ (l : Bounds). l.ticks) left in
    let raises : one.raises ≡ p.left.raises = ap (λ (l : Bounds). l.raises) left in
    let owed : one.owed ≡ p.left.owed = ap (λ (l : Bounds). l.owed) left in
    let stepped : last ≡ stepper (after_steps p.board cpu (suc count)) p.last (Step cpu) = who ∙ ap (λ z. stepper z p.last (Step cpu)) is in
    (λ i. record {
      board = is i;
      left = record { events = events i; preemptions = preemptions i; ticks = ticks i; raises = raises i; owed = owed i };
      last = stepped i;
    })

-- One event more was tried.
pub tried-next : (by : Sharing) (among : List Event) (old new : List Place) (p : Place) (i : ℕ) (event : Event) → IsMore old new →
    (IsLinkSet p.board.links → HaveTried by among old p i) →
    (is_left p event ≡ true → IsLinkSet p.board.links → HasTried by new p event) → event ≡ get_or among i event → i < length among →
    IsLinkSet p.board.links → HaveTried by among new p (i + 1)
tried-next by among old new p i event more before here is within set k less left =
    elim (less-or-same k i less) [
      | inl below ↦ tried-more by old new p (event_at among k) more (before set k below left)
      | inr same ↦
          let there : event_at among k ≡ event = ap (event_at among) same ∙ sym (is ∙ get_or_default among i event Tick within) in
          subst (HasTried by new p) (sym there) (here (subst (λ e. is_left p e ≡ true) there left) set)
    ]

-- The place after one event.
pub one-is : (p : Place) (event : Event) (b : BoardState) (margin rest : Margin) → p ≡ spot_of p.board margin →
    b ≡ (happens p.board event).board → rest.left ≡ spent margin.left margin.last event → rest.last ≡ stepper b margin.last event →
    spot_of b rest ≡ next p event
one-is p event b margin rest here is left last =
    let lefts : margin.left ≡ p.left = ap (λ (q : Place). q.left) (sym here) in
    let lasts : margin.last ≡ p.last = ap (λ (q : Place). q.last) (sym here) in
    let left' : rest.left ≡ spent p.left p.last event = left ∙ ap (λ l. spent l margin.last event) lefts ∙ ap (λ l. spent p.left l event) lasts in
    let last' : rest.last ≡ stepper (happens p.board event).board p.last event =
    last ∙ ap (λ l. stepper b l event) lasts ∙ ap (λ z. stepper z p.last event) is in
    (λ i. record { board = is i; left = left' i; last = last' i })

-- The place after a block.
pub block-is : (p : Place) (cpu count : ℕ) (b : BoardState) (margin rest : Margin) (one : Bounds) → p ≡ spot_of p.board margin →
    b ≡ after_steps p.board cpu (suc count) → one ≡ spent margin.left margin.last (Step cpu) →
    rest.left ≡ record one { events = margin.left.events - count - 1 } → rest.last ≡ stepper b margin.last (Step cpu) →
    spot_of b rest ≡ end_of p cpu count
block-is p cpu count b margin rest one here is first left last =
    let lefts : margin.left ≡ p.left = ap (λ (q : Place). q.left) (sym here) in
    let lasts : margin.last ≡ p.last = ap (λ (q : Place). q.last) (sym here) in
    let one' : one ≡ spent p.left p.last (Step cpu) =
    first ∙ ap (λ l. spent l margin.last (Step cpu)) lefts ∙ ap (λ l. spent p.left l (Step cpu)) lasts in
    let left' : rest.left ≡ record one { events = p.left.events - count - 1 } =
    left ∙ ap (λ (l : Bounds). record one { events = l.events - count - 1 }) lefts in
    let last' : rest.last ≡ stepper b p.last (Step cpu) = last ∙ ap (λ l. stepper b l (Step cpu)) lasts in
    (λ i. record { board = b; left = left' i; last = last' i })
    ∙ end-is p cpu count b one (stepper b p.last (Step cpu)) is one' refl

-- What a search knows of places stays so.
use Rattle.std.proofs.Common.{◌≡◌, ℕ, ◌+◌, ◌<◌, ◌≤◌, List, [], ◌∷◌, ◌++◌, length, sym, ap, subst, ◌∙◌, arith, inl, inr}
use Rattle.std.specs.Prelude.{true, false, All, IfSome, Some}
use Rattle.std.proofs.lemmas.Bool.{cases_lt}
use Rattle.std.proofs.lemmas.List.{length-append}
use Rattle.std.proofs.lemmas.List.Elements.{All-nil, All-push, All-pop, All-weaker}
use Rattle.brd_board.specs.declared.event.Event.{Event}
use Rattle.brd_explore.specs.declared.search.Search.{Search}
use Rattle.brd_explore.specs.declared.search.Turn.{Turn}
use Rattle.brd_explore.specs.declared.search.Turn.TheVariants as turn
use Rattle.brd_explore.specs.declared.known.Kept.{Kept}
use Rattle.brd_explore.specs.declared.known.Known.{Known}
use Rattle.brd_explore.specs.declared.wanted.Wanted.{Wanted}
use Rattle.brd_explore.specs.Schedules.{Place, is_left}
use Rattle.brd_explore.specs.Sleeping.{is_left_out}
use Rattle.brd_explore.specs.Failures.{fails_at}
use Rattle.brd_explore.specs.Ordering.{event_tried}
use Rattle.brd_explore.specs.Searching.{NoneGoes, NoneHere, IsTooMuch, HasGone, HasStayed, HasPassed, HasGoneBack, KeepsOr, IsOnPath, LeavesOut, LeadsOn, HasLess, turns_left, place_of, spot_of}
use Rattle.brd_explore.specs.Knowing.{spot_of_kept, AreDone, AreOver, ArePending, IsKeptOf, IsPending, Knows, KnowsOn, Leaves, Notes}
use Rattle.brd_explore.proofs.FindLemmas.{back-same}
use Rattle.brd_explore.proofs.LessLemmas.{less-back}
use Rattle.brd_explore.proofs.PathLemmas.{on-back-gone}
use Rattle.brd_explore.proofs.SearchLemmas.{leaves-gone, leaves-stayed, leaves-passed, leaves-back, leaves-over, none-below, none-from}

-- how many places there are to go back to

kept-length : {Else : Type 0} (s t : Search) (at : ℕ) → KeepsOr Else s at t → length s.saved.items ≤ length t.saved.items
kept-length s t at (inl same) = omega (arith, ap length same.0)
kept-length s t at (inr more) = omega (arith, ap length more.1, length-append s.saved.items (more.0 ∷ []))

back-length : (s t : Search) → HasGoneBack s t → length s.saved.items ≡ length t.saved.items + 1
back-length s t back = omega (arith, ap length back.saved, length-append t.saved.items (back.f ∷ []))

-- one pending place

pending-gone : (wanted : Wanted) (among : List Event) (s t : Search) (at : ℕ) (k : Kept) → s.at ≤ at → at < length among →
    is_left (place_of s) (event_tried among s.last at) ≡ true → IsTooMuch among (place_of s) s.at at → HasGone among s at t → fails_at wanted t.board t.left ≡ false →
    IsPending wanted among s k → IsPending wanted among t k
pending-gone wanted among s t at k on below left much gone fine (inl none) = inl none
pending-gone wanted among s t at k on below left much gone fine (inr if) = inr (
  omega (arith, if.0, kept-length s t at gone.saved),
  λ none. if.1 (leaves-gone wanted among k.height s t at if.0 on below left much gone fine none),
)

pending-stayed : (wanted : Wanted) (among : List Event) (s t : Search) (at : ℕ) (k : Kept) → s.at ≤ at → IsTooMuch among (place_of s) s.at at →
    HasStayed among s at t → IsPending wanted among s k → IsPending wanted among t k
pending-stayed wanted among s t at k on much stayed (inl none) = inl none
pending-stayed wanted among s t at k on much stayed (inr if) = inr (
  omega (arith, if.0, ap length stayed.saved),
  λ none. if.1 (leaves-stayed wanted among k.height s t at on much stayed none),
)

pending-passed : (wanted : Wanted) (among : List Event) (s t : Search) (at : ℕ) (k : Kept) → s.at ≤ at → at < length among →
    is_left (place_of s) (event_tried among s.last at) ≡ true → IsTooMuch among (place_of s) s.at at → is_left_out wanted (spot_of s) (event_tried among s.last at) ≡ true →
    HasPassed s at t → IsPending wanted among s k → IsPending wanted among t k
pending-passed wanted among s t at k on below left much out passed (inl none) = inl none
pending-passed wanted among s t at k on below left much out passed (inr if) = inr (
  omega (arith, if.0, ap length passed.saved),
  λ none. if.1 (leaves-passed wanted among k.height s t at on below left much out passed none),
)

pending-over : (wanted : Wanted) (among : List Event) (s : Search) (k : Kept) → NoneHere wanted among s → length s.saved.items ≤ k.height →
    IsPending wanted among s k → NoneGoes wanted among (spot_of_kept k)
pending-over wanted among s k here high (inl none) = none
pending-over wanted among s k here high (inr if) = if.1 (none-below wanted among k.height s here high)

pending-back : (wanted : Wanted) (among : List Event) (s t : Search) (k : Kept) → NoneHere wanted among s → HasGoneBack s t →
    IsPending wanted among s k → IsPending wanted among t k
pending-back wanted among s t k here back (inl none) = inl none
pending-back wanted among s t k here back (inr if) = elim (cases_lt (length t.saved.items) k.height) [
  | inl high ↦ inl (if.1 (none-below wanted among k.height s here (omega (arith, high, back-length s t back))))
  | inr low ↦ inr (low, λ none. if.1 (leaves-back wanted among k.height s t low here back none))
]

pending-noted : (wanted : Wanted) (among : List Event) (t : Search) (k : Kept) → t.at ≡ 0 → fails_at wanted t.board t.left ≡ false →
    IsKeptOf t k → IsPending wanted among t k
pending-noted wanted among t k at fine is = inr (
  omega (arith, is.1),
  λ none. subst (NoneGoes wanted among) (sym is.0) (none-from wanted among t none.here at fine),
)

-- all that is known

pub knows-gone : (wanted : Wanted) (among : List Event) (s t : Search) (known : Known) (at : ℕ) → s.at ≤ at → at < length among →
    is_left (place_of s) (event_tried among s.last at) ≡ true → IsTooMuch among (place_of s) s.at at → HasGone among s at t → fails_at wanted t.board t.left ≡ false →
    Knows wanted among s known → Knows wanted among t known
knows-gone wanted among s t known at on below left much gone fine knows = record {
  done = knows.done;
  pending = All-weaker (IsPending wanted among s) (IsPending wanted among t)
      (λ k. pending-gone wanted among s t at k on below left much gone fine) known.pending.items knows.pending;
}

pub knows-stayed : (wanted : Wanted) (among : List Event) (s t : Search) (known : Known) (at : ℕ) → s.at ≤ at → IsTooMuch among (place_of s) s.at at →
    HasStayed among s at t → Knows wanted among s known → Knows wanted among t known
knows-stayed wanted among s t known at on much stayed knows = record {
  done = knows.done;
  pending = All-weaker (IsPending wanted among s) (IsPending wanted among t)
      (λ k. pending-stayed wanted among s t at k on much stayed) known.pending.items knows.pending;
}

pub knows-passed : (wanted : Wanted) (among : List Event) (s t : Search) (known : Known) (at : ℕ) → s.at ≤ at → at < length among →
    is_left (place_of s) (event_tried among s.last at) ≡ true → IsTooMuch among (place_of s) s.at at → is_left_out wanted (spot_of s) (event_tried among s.last at) ≡ true →
    HasPassed s at t → Knows wanted among s known → Knows wanted among t known
knows-passed wanted among s t known at on below left much out passed knows = record {
  done = knows.done;
  pending = All-weaker (IsPending wanted among s) (IsPending wanted among t)
      (λ k. pending-passed wanted among s t at k on below left much out passed) known.pending.items knows.pending;
}

pub done-same : (wanted : Wanted) (among : List Event) (old new : Known) → new.done.items ≡ old.done.items → AreDone wanted among old → AreDone wanted among new
done-same wanted among old new same done = subst (All (λ slot. IfSome slot (λ k. NoneGoes wanted among (spot_of_kept k)))) (sym same) done

-- a place was noted, to which the search has just come

pub pending-none : (wanted : Wanted) (among : List Event) (s : Search) (known : Known) → known.pending.items ≡ [] → ArePending wanted among s known
pending-none wanted among s known none = subst (All (IsPending wanted among s)) (sym none) (All-nil (IsPending wanted among s))

pending-more : (wanted : Wanted) (among : List Event) (t : Search) (old new : Known) → t.at ≡ 0 → fails_at wanted t.board t.left ≡ false →
    Notes t old new → ArePending wanted among t old → ArePending wanted among t new
pending-more wanted among t old new at fine (inl same) pending = subst (All (IsPending wanted among t)) (sym same) pending
pending-more wanted among t old new at fine (inr more) pending = subst (All (IsPending wanted among t)) (sym more.1)
    (All-push (IsPending wanted among t) old.pending.items more.0 pending (pending-noted wanted among t more.0 at fine more.2))

-- what is known after it was asked of a place to which the search has just come
pub knows-more : (wanted : Wanted) (among : List Event) (t : Search) (old new : Known) → t.at ≡ 0 → fails_at wanted t.board t.left ≡ false →
    (AreDone wanted among old → AreDone wanted among new) → Notes t old new → Knows wanted among t old → Knows wanted among t new
knows-more wanted among t old new at fine done notes knows = record {
  done = done knows.done;
  pending = pending-more wanted among t old new at fine notes knows.pending;
}

-- the pending places are over whose height is that of the stack, where nothing is left

pub over-from : (wanted : Wanted) (among : List Event) (s : Search) (known : Known) → NoneHere wanted among s → ArePending wanted among s known →
    AreOver wanted among (length s.saved.items) known
over-from wanted among s known here pending = All-weaker (IsPending wanted among s) (λ k. length s.saved.items ≤ k.height → NoneGoes wanted among (spot_of_kept k))
    (λ k is high. pending-over wanted among s k here high is) known.pending.items pending

-- it leaves a place from which nothing is left

pub knows-left : (wanted : Wanted) (among : List Event) (s t : Search) (known : Known) (end : Turn) → NoneHere wanted among s → Leaves s t end →
    AreDone wanted among known → ArePending wanted among s known → KnowsOn wanted among t known end
knows-left wanted among s t known turn.On here leaves done pending = record {
  done = done;
  pending = All-weaker (IsPending wanted among s) (IsPending wanted among t) (λ k. pending-back wanted among s t k here leaves) known.pending.items pending;
}
knows-left wanted among s t known turn.Found here leaves done pending = tt
knows-left wanted among s t known turn.Over here leaves done pending = done

pub leaves-out : (wanted : Wanted) (among : List Event) (s t : Search) (end : Turn) → NoneHere wanted among s → Leaves s t end → LeavesOut wanted among s t end
leaves-out wanted among s t turn.On here leaves = leaves-back wanted among 0 s t (omega arith) here leaves
leaves-out wanted among s t turn.Found here leaves = tt
leaves-out wanted among s t turn.Over here leaves = leaves-over wanted among s here leaves

-- after having gone on to a place that is known

pub leaves-out-gone : (wanted : Wanted) (among : List Event) (s t u : Search) (at : ℕ) (end : Turn) → s.at ≤ at → at < length among →
    is_left (place_of s) (event_tried among s.last at) ≡ true → IsTooMuch among (place_of s) s.at at → HasGone among s at t → fails_at wanted t.board t.left ≡ false →
    LeavesOut wanted among t u end → LeavesOut wanted among s u end
leaves-out-gone wanted among s t u at turn.On on below left much gone fine out =
    λ none. leaves-gone wanted among 0 s t at (omega arith) on below left much gone fine (out none)
leaves-out-gone wanted among s t u at turn.Found on below left much gone fine out = tt
leaves-out-gone wanted among s t u at turn.Over on below left much gone fine out =
    leaves-gone wanted among 0 s t at (omega arith) on below left much gone fine out

pub leads-left : (wanted : Wanted) (among : List Event) (from : Place) (s t : Search) (end : Turn) → Leaves s t end → IsOnPath among from s →
    LeadsOn wanted among from t end
leads-left wanted among from s t turn.On leaves on = on-back-gone among from s t on leaves
leads-left wanted among from s t turn.Found leaves on = absurd leaves
leads-left wanted among from s t turn.Over leaves on = tt

pub less-left : (among : List Event) (s t : Search) (end : Turn) → Leaves s t end → HasLess among s t end
less-left among s t turn.On leaves = less-back among s t leaves
less-left among s t turn.Found leaves = tt
less-left among s t turn.Over leaves = tt

pub less-both : (among : List Event) (s t u : Search) (end : Turn) → turns_left among t < turns_left among s → HasLess among t u end → HasLess among s u end
less-both among s t u turn.On first second = omega (arith, first, second)
less-both among s t u turn.Found first second = tt
less-both among s t u turn.Over first second = tt

-- a schedule was counted before it left
pub leaves-same : (s t u : Search) (end : Turn) → t.saved.items ≡ s.saved.items → t.path.items ≡ s.path.items → Leaves t u end → Leaves s u end
leaves-same s t u turn.On saved path leaves = back-same s t u saved path leaves
leaves-same s t u turn.Found saved path leaves = leaves
leaves-same s t u turn.Over saved path leaves = sym saved ∙ leaves

-- a pending place became one that is done

pub settled-one : (wanted : Wanted) (among : List Event) (height : ℕ) (old middle new : Known) (k : Kept) →
    old.pending.items ≡ middle.pending.items ++ k ∷ [] → height ≤ k.height → middle.done.items ≡ old.done.items → new.pending.items ≡ middle.pending.items →
    (AreDone wanted among middle → NoneGoes wanted among (spot_of_kept k) → AreDone wanted among new) →
    AreDone wanted among old × AreOver wanted among height old → AreDone wanted among new × AreOver wanted among height new
settled-one wanted among height old middle new k popped high same rest keeps before =
    let parts = All-pop (λ (q : Kept). height ≤ q.height → NoneGoes wanted among (spot_of_kept q)) old.pending.items middle.pending.items (Some k) popped before.1 in (
      keeps (done-same wanted among old middle same before.0) (parts.1 high),
      subst (All (λ (q : Kept). height ≤ q.height → NoneGoes wanted among (spot_of_kept q))) (sym rest) parts.0,
    )

pub pending-popped : (wanted : Wanted) (among : List Event) (s : Search) (old middle new : Known) (k : Kept) →
    old.pending.items ≡ middle.pending.items ++ k ∷ [] → new.pending.items ≡ middle.pending.items → ArePending wanted among s old → ArePending wanted among s new
pending-popped wanted among s old middle new k popped rest pending = subst (All (IsPending wanted among s)) (sym rest)
    (All-pop (IsPending wanted among s) old.pending.items middle.pending.items (Some k) popped pending).0

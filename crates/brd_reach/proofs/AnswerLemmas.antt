-- What failures watch stays shared, and what a search answers.
use Rattle.std.proofs.Common.{◌≡◌, ℕ, zero, suc, Bool, true, false, List, [], ◌∷◌, length, refl, sym, subst, ◌∙◌, ◌⊎◌, inl, inr, arith}
use Rattle.std.proofs.lemmas.Bool.{false≢true, eq-eqb}
use Rattle.std.specs.Prelude.{◌<◌, ◌+◌, get_or, ◌%◌, ◌^◌, ◌==◌, ◌&&◌, ◌||◌, not, nat_lt, if◌then◌else◌}
use Rattle.std.specs.List.{All, list_any}
use Rattle.brd_board.specs.declared.event.Event.{Event}
use Rattle.brd_board.specs.Board.{BoardState}
use Rattle.brd_explore.specs.declared.bounds.Bounds.{Bounds}
use Rattle.brd_explore.specs.declared.condition.Term.{Term}
use Rattle.brd_explore.specs.declared.condition.Term.TheVariants as term
use Rattle.brd_explore.specs.declared.wanted.Failure.{Failure}
use Rattle.brd_explore.specs.declared.wanted.Failure.TheVariants as failure
use Rattle.brd_explore.specs.declared.wanted.Wanted.{Wanted}
use Rattle.brd_explore.specs.Schedules.{start}
use Rattle.brd_explore.specs.Failures.{fails_at, fails_now, is_end, is_at_rest, lacks, goes_fairly, fails_fairly, is_cut, nobody_goes, some_are_due}
use Rattle.brd_explore.specs.Searching.{NoneFails}
use Rattle.brd_explore.specs.Shrinking.{fails_after}
use Rattle.brd_frames.specs.Lagging.{Sharing}
use Rattle.brd_link.specs.LinkSet.{IsLinkSet}
use Rattle.std.proofs.lemmas.List.{get_or_default}
use Rattle.brd_blocks.specs.Owning.{Known, StaysShared, StayShared, sharing_of}
use Rattle.brd_blocks.proofs.LinkLemmas.{stays-set}
use Rattle.brd_places.specs.declared.left.Left.{Left}
use Rattle.brd_frames.proofs.ReduceLemmas.{reduced}
use Rattle.brd_places.specs.Places.{Place}
use Rattle.brd_reach.specs.Rounds.{AreDone, IsMore, sharing_for, some_watch, watches}
use Rattle.brd_reach.proofs.ReachLemmas.{none-fails}
use Rattle.brd_reach.proofs.RoundLemmas.{closed, get-more, IsGoodPlace}
use Rattle.brd_reach.specs.Reaching.{AreGuarded, Guards, IsGuarded, IsSeen, IsSharedTerm, IsSharedWord, bounds_of, fails_there}

word-stays : (old new : Sharing) (address : ℕ) → StaysShared old new → IsSharedWord old address → IsSharedWord new address
word-stays old new address stays it = record {
  first = stays address it.first;
  second = stays ((address + 1) % 2 ^ 32) it.second;
  third = stays ((address + 2) % 2 ^ 32) it.third;
  fourth = stays ((address + 3) % 2 ^ 32) it.fourth;
}

term-stays : (old new : Sharing) (t : Term) → StaysShared old new → IsSharedTerm old t → IsSharedTerm new t
term-stays old new (term.Number number) stays it = tt
term-stays old new (term.Word address) stays it = word-stays old new address stays it

pub terms-stay : (old new : Sharing) (ts : List Term) → StaysShared old new → All (IsSharedTerm old) ts → All (IsSharedTerm new) ts
terms-stay old new ts stays all = λ k d less. term-stays old new (get_or ts k d) stays (all k d less)

pub words-stay : (old new : Sharing) (words : List ℕ) → StaysShared old new → All (IsSharedWord old) words → All (IsSharedWord new) words
words-stay old new words stays all = λ k d less. word-stays old new (get_or words k d) stays (all k d less)

pub guarded-stays : (old new : Sharing) (it : Failure) → StaysShared old new → IsGuarded old it → IsGuarded new it
guarded-stays old new failure.Exception stays it = tt
guarded-stays old new failure.Deadlock stays it = tt
guarded-stays old new (failure.Console text) stays it = tt
guarded-stays old new (failure.Word address value) stays it = word-stays old new address stays it
guarded-stays old new (failure.Outside address least most) stays it = word-stays old new address stays it
guarded-stays old new (failure.Holds condition) stays it =
    record { left = terms-stay old new condition.left stays it.left; right = terms-stay old new condition.right stays it.right }
guarded-stays old new failure.On stays it = tt
guarded-stays old new failure.Ended stays it = tt
guarded-stays old new (failure.Unlisted words finals) stays it = words-stay old new words stays it
guarded-stays old new (failure.At address) stays it = tt

pub all-stay : (old new : Sharing) (failures : List Failure) → StaysShared old new → All (IsGuarded old) failures → All (IsGuarded new) failures
all-stay old new failures stays all = λ k d less. guarded-stays old new (get_or failures k d) stays (all k d less)

-- A place that fails is a board that does.

last : (now off owed rest lack : Bool) → (now || ((off || owed && rest) && lack) || false) ≡ true → (off ≡ true → rest ≡ true) →
    (now || (if rest then lack else false)) ≡ true
last true off owed rest lack fails rests = refl
last false off owed true true fails rests = refl
last false true owed true false fails rests = absurd (false≢true fails)
last false false true true false fails rests = absurd (false≢true fails)
last false false false true false fails rests = absurd (false≢true fails)
last false true owed false lack fails rests = absurd (false≢true (rests refl))
last false false true false lack fails rests = absurd (false≢true fails)
last false false false false lack fails rests = absurd (false≢true fails)

off-rests : (off quiet : Bool) → off ≡ true → (off || quiet) ≡ true
off-rests true quiet is = refl
off-rests false quiet is = absurd (false≢true is)

-- with no fair end, a board that fails where so much is left fails as the last one of a list
fails-last : (wanted : Wanted) (b : BoardState) (left : Bounds) → wanted.rounds ≡ 0 → fails_at wanted b left ≡ true → fails_after wanted b ≡ true
unfolding fails_at is_end goes_fairly fails_after is_at_rest
fails-last wanted b left none fails =
    subst (λ n. (fails_now wanted b || (if is_at_rest b then lacks wanted b else (nat_lt 0 n && fails_fairly wanted b))) ≡ true) (sym none)
    (last (fails_now wanted b) b.kernel.off (left.owed == 0) (is_at_rest b) (lacks wanted b)
    (subst (λ n. (fails_now wanted b || (is_end b left && lacks wanted b) || (nat_lt 0 n && left.owed == 0 && is_cut b left && fails_fairly wanted b)) ≡ true) none fails)
    (λ off. off-rests b.kernel.off (nobody_goes b && not (some_are_due b)) off))

-- What a search answers.

-- nobody comes unseen to what a failure watches, if it is one of these
seen-one : (known : Known) (wanted : Wanted) (f : Failure) →
    ((address : ℕ) → watches address f ≡ true → some_watch wanted.failures address ≡ true) → IsSeen (sharing_for known wanted) f
seen-one known wanted failure.Exception so = tt
seen-one known wanted failure.Deadlock so = tt
seen-one known wanted (failure.Console text) so = tt
seen-one known wanted (failure.Word address value) so = tt
seen-one known wanted (failure.Outside address least most) so = tt
seen-one known wanted (failure.Holds condition) so = tt
seen-one known wanted failure.On so = tt
seen-one known wanted failure.Ended so = tt
seen-one known wanted (failure.Unlisted words finals) so = tt
seen-one known wanted (failure.At address) so = so address (eq-eqb address address refl)

or-first : (x y : Bool) → x ≡ true → (x || y) ≡ true
or-first true y is = refl
or-first false y is = absurd (false≢true is)

or-second : (x y : Bool) → y ≡ true → (x || y) ≡ true
or-second true y is = refl
or-second false y is = is

any-at : {X : Type 0} (has : X → Bool) (xs : List X) (k : ℕ) (d : X) → k < length xs → has (get_or xs k d) ≡ true → list_any has xs ≡ true
any-at has [] k d less is = absurd (omega (arith, less))
any-at has (x ∷ xs) zero d less is = or-first (has x) (list_any has xs) is
any-at has (x ∷ xs) (suc k) d less is = or-second (has x) (list_any has xs) (any-at has xs k d (omega (arith, less)) is)

pub guards-so : (known : Known) (wanted : Wanted) → AreGuarded (sharing_of known) wanted.failures → Guards (sharing_for known wanted) wanted
guards-so known wanted guarded = record {
  memory = all-stay (sharing_of known) (sharing_for known wanted) wanted.failures (λ address is. is) guarded;
  instructions = λ k d less.
      seen-one known wanted (get_or wanted.failures k d) (λ address is. any-at (watches address) wanted.failures k d less is);
}

pub holds-so : (by : Sharing) (among : List Event) (wanted : Wanted) (places : List Place) (left : Left) (b : BoardState) → wanted.rounds ≡ 0 →
    Guards by wanted → IsMore (record { left = left; board = b } ∷ []) places → AreDone by among wanted places (length places) →
    IsLinkSet b.links → (events preemptions : ℕ) → NoneFails wanted among (start b (bounds_of left events preemptions))
holds-so by among wanted places left b none guards more done set events preemptions =
    none-fails reduced by among wanted (IsGoodPlace places) left b none (closed stays-set by among wanted places guards done)
    ((0, get-more (record { left = left; board = b } ∷ []) places 0 (record { left = left; board = b }) more refl), set) events preemptions

pub fails-so : (wanted : Wanted) (place : Place) (b : BoardState) → wanted.rounds ≡ 0 → fails_there wanted place.board place.left ≡ true →
    b ≡ place.board → fails_after wanted b ≡ true
fails-so wanted place b none fails is =
    subst (λ x. fails_after wanted x ≡ true) (sym is) (fails-last wanted place.board (bounds_of place.left 0 0) none fails)

-- What failures watch, one after the other.

less-or-same : (n m : ℕ) → n < m + 1 → (n < m) ⊎ (n ≡ m)
less-or-same n m less = grind (arith, less)

next : {X : Type 0} (P Q : X → Type 0) (xs : List X) (i : ℕ) (it : X) → ((x : X) → P x → Q x) →
    ((k : ℕ) (d : X) → k < i → P (get_or xs k d)) → Q it → it ≡ get_or xs i it → i < length xs →
    (k : ℕ) (d : X) → k < i + 1 → Q (get_or xs k d)
next P Q xs i it keeps before here is within k d less =
    elim (less-or-same k i less) [
      | inl below ↦ keeps (get_or xs k d) (before k d below)
      | inr same ↦ subst (λ n. Q (get_or xs n d)) (sym same) (subst Q (is ∙ get_or_default xs i it d within) here)
    ]

pub guard-next : (old new : Known) (failures : List Failure) (i : ℕ) (it : Failure) →
    ((k : ℕ) (d : Failure) → k < i → IsGuarded (sharing_of old) (get_or failures k d)) → StayShared old new → IsGuarded (sharing_of new) it →
    it ≡ get_or failures i it → i < length failures → (k : ℕ) (d : Failure) → k < i + 1 → IsGuarded (sharing_of new) (get_or failures k d)
guard-next old new failures i it before stays here is within =
    next (IsGuarded (sharing_of old)) (IsGuarded (sharing_of new)) failures i it
    (λ x. guarded-stays (sharing_of old) (sharing_of new) x stays) before here is within

pub term-next : (old new : Known) (terms : List Term) (i : ℕ) (it : Term) →
    ((k : ℕ) (d : Term) → k < i → IsSharedTerm (sharing_of old) (get_or terms k d)) → StayShared old new → IsSharedTerm (sharing_of new) it →
    it ≡ get_or terms i it → i < length terms → (k : ℕ) (d : Term) → k < i + 1 → IsSharedTerm (sharing_of new) (get_or terms k d)
term-next old new terms i it before stays here is within =
    next (IsSharedTerm (sharing_of old)) (IsSharedTerm (sharing_of new)) terms i it
    (λ x. term-stays (sharing_of old) (sharing_of new) x stays) before here is within

-- whatever would stand for a term that isn't there
pub term-after : (old new : Known) (terms : List Term) (i : ℕ) (other : Term) →
    ((k : ℕ) (d : Term) → k < i → IsSharedTerm (sharing_of old) (get_or terms k d)) → StayShared old new →
    IsSharedTerm (sharing_of new) (get_or terms i other) → i < length terms → (k : ℕ) (d : Term) → k < i + 1 →
    IsSharedTerm (sharing_of new) (get_or terms k d)
term-after old new terms i other before stays here within =
    term-next old new terms i (get_or terms i other) before stays here (get_or_default terms i other (get_or terms i other) within)
    within

-- the same of words
pub word-after : (old new : Known) (words : List ℕ) (i other : ℕ) →
    ((k d : ℕ) → k < i → IsSharedWord (sharing_of old) (get_or words k d)) → StayShared old new →
    IsSharedWord (sharing_of new) (get_or words i other) → i < length words → (k d : ℕ) → k < i + 1 →
    IsSharedWord (sharing_of new) (get_or words k d)
word-after old new words i other before stays here within =
    next (IsSharedWord (sharing_of old)) (IsSharedWord (sharing_of new)) words i (get_or words i other)
    (λ x. word-stays (sharing_of old) (sharing_of new) x stays) before here
    (get_or_default words i other (get_or words i other) within) within

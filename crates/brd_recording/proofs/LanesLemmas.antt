-- The lanes of a timeline that is made, one after the other, and its slices.
use Rattle.std.proofs.Common.{◌≡◌, ◌≢◌, ⊎_elim, ℕ, suc, ◌+◌, ◌-◌, ◌<◌, ◌≤◌, List, [], ◌∷◌, ◌++◌, length, refl, sym, ap}
use Rattle.std.proofs.Common.{subst, ◌∙◌, le_refl, arith}
use Rattle.std.proofs.lemmas.Bool.{cases_lt}
use Rattle.std.proofs.lemmas.Bool.Decides.{nat_tests}
use Rattle.std.proofs.lemmas.List.{append-nil, append_assoc}
use Rattle.std.proofs.lemmas.List.Elements.{filter-append}
use Rattle.std.specs.Prelude.{Bool, true, false, ◌==◌, if◌then◌else◌, filter, slice_index_or, Option}
use Rattle.std.specs.List.{range_with_len}
use Rattle.brd_kernel.specs.declared.processor.Standing.{Standing}
use Rattle.brd_timeline.specs.declared.timeline.Slice.{Slice}
use Rattle.brd_recording.specs.declared.recording.Doing.{Doing}
use Rattle.brd_recording.specs.declared.recording.Open.{Open}
use Rattle.brd_recording.specs.Lanes.{Lanes}
use Rattle.brd_recording.specs.Slices.{off_doing, is_there, cpus_in, slices_in}
use Rattle.brd_recording.specs.Recording.{Closes, FollowsLane, SameLanes, Sees}

-- ---- one more slice

slices-push : (lane : ℕ) (slices : List Slice) (it : Slice) → slices_in lane (slices ++ it ∷ []) ≡ slices_in lane slices ++ slices_in lane (it ∷ [])
unfolding slices_in
slices-push lane slices it = filter-append (λ (it : Slice). it.lane == lane) slices (it ∷ [])

slices-one : (lane : ℕ) (it : Slice) (own : Bool) → (it.lane == lane) ≡ own → slices_in lane (it ∷ []) ≡ (if own then it ∷ [] else [])
unfolding slices_in
slices-one lane it own is = ap (λ (test : Bool). if test then it ∷ [] else []) is

pub slices-own : (lane : ℕ) (slices : List Slice) (it : Slice) → it.lane ≡ lane → slices_in lane (slices ++ it ∷ []) ≡ slices_in lane slices ++ it ∷ []
slices-own lane slices it is =
    slices-push lane slices it ∙ ap (λ (more : List Slice). slices_in lane slices ++ more) (slices-one lane it true (grind (arith, nat_tests, is)))

pub slices-other : (lane : ℕ) (slices : List Slice) (it : Slice) → lane ≢ it.lane → slices_in lane (slices ++ it ∷ []) ≡ slices_in lane slices
slices-other lane slices it apart =
    slices-push lane slices it
    ∙ ap (λ (more : List Slice). slices_in lane slices ++ more) (slices-one lane it false (tested (it.lane == lane) refl))
    ∙ append-nil (slices_in lane slices)
  where
    tested : (test : Bool) → (it.lane == lane) ≡ test → (it.lane == lane) ≡ false
    tested true is = absurd (grind (arith, nat_tests, is, apart))
    tested false is = is

-- ---- lanes, one after the other

-- the first lanes have seen what goes on, and the others are as they were
pub record SeesUpTo (at : ℕ) (doings : List Doing) (first now : Lanes) (i : ℕ) : Type 0 where
  pub same : SameLanes first now
  pub done :
      (lane : ℕ) (d : Open) → lane < i
      → FollowsLane at (slice_index_or doings lane off_doing) (slice_index_or first.current lane d) (slice_index_or now.current lane d)
      (slices_in lane first.slices) (slices_in lane now.slices)
  pub current : (lane : ℕ) (d : Open) → i ≤ lane → slice_index_or now.current lane d ≡ slice_index_or first.current lane d
  pub slices : (lane : ℕ) → i ≤ lane → slices_in lane now.slices ≡ slices_in lane first.slices

pub sees-first : (at : ℕ) (doings : List Doing) (first : Lanes) → SeesUpTo at doings first first 0
sees-first at doings first = record {
  same = record { from = refl; titles = refl; cpus = refl; as_many = refl };
  done = λ lane d less. absurd (omega (arith, less));
  current = λ lane d past. refl;
  slices = λ lane past. refl;
}

same-then : (from_lanes old new : Lanes) → SameLanes from_lanes old → SameLanes old new → SameLanes from_lanes new
same-then from_lanes old new one more = record {
  from = more.from ∙ one.from;
  titles = more.titles ∙ one.titles;
  cpus = more.cpus ∙ one.cpus;
  as_many = more.as_many ∙ one.as_many;
}

module _ (at : ℕ) (doings : List Doing) (first old new : Lanes) (i : ℕ) (doing : Doing)
    (is : doing ≡ slice_index_or doings i off_doing) (same : SameLanes old new)
    (this : (d : Open) → FollowsLane at doing (slice_index_or old.current i d) (slice_index_or new.current i d) (slices_in i old.slices) (slices_in i new.slices))
    (others : (lane : ℕ) (d : Open) → lane ≢ i → slice_index_or new.current lane d ≡ slice_index_or old.current lane d)
    (slices : (lane : ℕ) → lane ≢ i → slices_in lane new.slices ≡ slices_in lane old.slices)
    (sees : SeesUpTo at doings first old i) where
  sees-here : (d : Open) →
      FollowsLane at (slice_index_or doings i off_doing) (slice_index_or first.current i d) (slice_index_or new.current i d)
      (slices_in i first.slices) (slices_in i new.slices)
  sees-here d =
      subst (λ (it : Doing). FollowsLane at it (slice_index_or first.current i d) (slice_index_or new.current i d) (slices_in i first.slices) (slices_in i new.slices)) is
      (subst (λ (it : Open). FollowsLane at doing it (slice_index_or new.current i d) (slices_in i first.slices) (slices_in i new.slices)) (sees.current i d (le_refl i))
      (subst (λ (them : List Slice). FollowsLane at doing (slice_index_or old.current i d) (slice_index_or new.current i d) them (slices_in i new.slices))
      (sees.slices i (le_refl i)) (this d)))

  sees-before : (lane : ℕ) (d : Open) → lane < i →
      FollowsLane at (slice_index_or doings lane off_doing) (slice_index_or first.current lane d) (slice_index_or new.current lane d)
      (slices_in lane first.slices) (slices_in lane new.slices)
  sees-before lane d less =
      let apart : lane ≢ i = λ equal. absurd (omega (arith, less, equal)) in
      subst (λ (it : Open). FollowsLane at (slice_index_or doings lane off_doing) (slice_index_or first.current lane d) it (slices_in lane first.slices)
      (slices_in lane new.slices)) (sym (others lane d apart))
      (subst (FollowsLane at (slice_index_or doings lane off_doing) (slice_index_or first.current lane d) (slice_index_or old.current lane d) (slices_in lane first.slices))
      (sym (slices lane apart)) (sees.done lane d less))

  pub sees-more : SeesUpTo at doings first new (i + 1)
  sees-more = record {
    same = same-then first old new sees.same same;
    done = λ lane d less.
        ⊎_elim (λ (before : lane < i). sees-before lane d before)
        (λ (past : i ≤ lane).
        let here : i ≡ lane = omega (arith, past, less) in
        subst (λ (k : ℕ). FollowsLane at (slice_index_or doings k off_doing) (slice_index_or first.current k d) (slice_index_or new.current k d)
        (slices_in k first.slices) (slices_in k new.slices)) here (sees-here d))
        (cases_lt lane i);
    current = λ lane d past. others lane d (λ equal. absurd (omega (arith, past, equal))) ∙ sees.current lane d (omega (arith, past));
    slices = λ lane past. slices lane (λ equal. absurd (omega (arith, past, equal))) ∙ sees.slices lane (omega (arith, past));
  }

pub sees-all : (at : ℕ) (doings : List Doing) (first now : Lanes) (i : ℕ) → length first.current ≤ i → SeesUpTo at doings first now i →
    Sees at doings first now
sees-all at doings first now i past sees = record {
  same = sees.same;
  each = λ lane d less. sees.done lane d (omega (arith, less, past));
}

-- the first lanes are closed, and the others are as they were
pub record ClosesUpTo (to : ℕ) (first now : Lanes) (i : ℕ) : Type 0 where
  pub same : SameLanes first now
  pub current : now.current ≡ first.current
  pub done :
      (lane : ℕ) (d : Open) → lane < i
      → Closes (slice_index_or first.current lane d) to (slices_in lane first.slices) (slices_in lane now.slices)
  pub slices : (lane : ℕ) → i ≤ lane → slices_in lane now.slices ≡ slices_in lane first.slices

pub closes-first : (to : ℕ) (first : Lanes) → ClosesUpTo to first first 0
closes-first to first = record {
  same = record { from = refl; titles = refl; cpus = refl; as_many = refl };
  current = refl;
  done = λ lane d less. absurd (omega (arith, less));
  slices = λ lane past. refl;
}

module _ (to : ℕ) (first old new : Lanes) (i : ℕ) (same : SameLanes old new) (kept : new.current ≡ old.current)
    (this : (d : Open) → Closes (slice_index_or old.current i d) to (slices_in i old.slices) (slices_in i new.slices))
    (slices : (lane : ℕ) → lane ≢ i → slices_in lane new.slices ≡ slices_in lane old.slices)
    (closes : ClosesUpTo to first old i) where
  closes-here : (d : Open) → Closes (slice_index_or first.current i d) to (slices_in i first.slices) (slices_in i new.slices)
  closes-here d =
      subst (λ (it : List Open). Closes (slice_index_or it i d) to (slices_in i first.slices) (slices_in i new.slices)) closes.current
      (subst (λ (them : List Slice). Closes (slice_index_or old.current i d) to them (slices_in i new.slices)) (closes.slices i (le_refl i)) (this d))

  pub closes-more : ClosesUpTo to first new (i + 1)
  closes-more = record {
    same = same-then first old new closes.same same;
    current = kept ∙ closes.current;
    done = λ lane d less.
        ⊎_elim
        (λ (before : lane < i).
        subst (Closes (slice_index_or first.current lane d) to (slices_in lane first.slices))
        (sym (slices lane (λ equal. absurd (omega (arith, before, equal))))) (closes.done lane d before))
        (λ (past : i ≤ lane).
        let here : i ≡ lane = omega (arith, past, less) in
        subst (λ (k : ℕ). Closes (slice_index_or first.current k d) to (slices_in k first.slices) (slices_in k new.slices)) here (closes-here d))
        (cases_lt lane i);
    slices = λ lane past. slices lane (λ equal. absurd (omega (arith, past, equal))) ∙ closes.slices lane (omega (arith, past));
  }

-- ---- the processors that are there

one-there : (p : ℕ → Bool) (n : ℕ) (test : Bool) (more done new : List ℕ) → p n ≡ test → new ≡ done ++ (if test then n ∷ [] else []) →
    new ++ more ≡ done ++ (if p n then n ∷ more else more)
one-there p n true more done new is has =
    ap (λ (xs : List ℕ). xs ++ more) has ∙ append_assoc done (n ∷ []) more
    ∙ ap (λ (test : Bool). done ++ (if test then n ∷ more else more)) (sym is)
one-there p n false more done new is has =
    ap (λ (xs : List ℕ). xs ++ more) (has ∙ append-nil done)
    ∙ ap (λ (test : Bool). done ++ (if test then n ∷ more else more)) (sym is)

pub next-there : (p : ℕ → Bool) (n end : ℕ) (test : Bool) (done new whole : List ℕ) → n < end → p n ≡ test →
    new ≡ done ++ (if test then n ∷ [] else []) → done ++ filter p (range_with_len n (end - n)) ≡ whole →
    new ++ filter p (range_with_len (n + 1) (end - (n + 1))) ≡ whole
next-there p n end test done new whole less is has all =
    let len : end - n ≡ suc (end - (n + 1)) = omega (arith, less) in
    one-there p n test (filter p (range_with_len (n + 1) (end - (n + 1)))) done new is has
    ∙ ap (λ (k : ℕ). done ++ filter p (range_with_len n k)) (sym len) ∙ all

pub all-there : (standings : List (Option Standing)) → filter (is_there standings) (range_with_len 1 8) ≡ cpus_in standings
unfolding cpus_in
all-there standings = refl

-- The function of the passes is the rule.
use Rattle.std.proofs.Common.{◌≡◌, ◌≢◌, ◌<◌, ◌≤◌, ℕ, ◌+◌, zero, suc, Bool, true, false, List, [], ◌∷◌, length, refl, sym, ap, subst, ◌∙◌, arith}
use Rattle.std.specs.Prelude.{Option, None, Some, slice_index_or}
use Rattle.std.specs.List.{sum}
use Rattle.brd_mutexes.specs.Lifting.{priority_at, holder_of, AreFounded, AreLifted}
use Rattle.brd_mutexes.specs.Passes.{passed, lifts, passed_times, lifted}
use Rattle.brd_mutexes.proofs.LiftingLemmas.{once}
use Rattle.brd_mutexes.proofs.PassLemmas.{total, begins, pass_founded, less, still, ends}

-- passes that lift nobody change nothing
stays : (count : ℕ) (holders : List (Option ℕ)) (ps : List ℕ) → lifts 0 holders ps ≡ false → passed_times count holders ps ≡ ps
unfolding passed_times
stays zero holders ps none = refl
stays (suc count) holders ps none =
    ap (passed_times count holders) (still 0 holders ps none) ∙ stays count holders ps none

stops : (count : ℕ) (own : List ℕ) (holders : List (Option ℕ)) (ps : List ℕ) → lifts 0 holders ps ≡ false → AreFounded own holders ps →
    AreLifted own holders (passed_times count holders ps)
stops count own holders ps none was =
    subst (AreLifted own holders) (still 0 holders ps none ∙ sym (stays count holders ps none)) (ends own holders ps was none)

goes : (count : ℕ) (own : List ℕ) (holders : List (Option ℕ)) (ps : List ℕ) (b : Bool) → lifts 0 holders ps ≡ b →
    AreFounded own holders ps → total ps ≤ count → AreLifted own holders (passed_times count holders ps)
unfolding passed_times
goes count own holders ps false none was few = stops count own holders ps none was
goes zero own holders ps true some was few = absurd (omega (arith, less 0 holders ps some, few))
goes (suc count) own holders ps true some was few =
    goes count own holders (passed 0 holders ps) (lifts 0 holders (passed 0 holders ps)) refl (pass_founded own holders ps was)
    (omega (arith, less 0 holders ps some, few))

pub lifted-are : (own : List ℕ) (holders : List (Option ℕ)) → AreLifted own holders (lifted own holders)
unfolding lifted
lifted-are own holders = goes (sum own) own holders own (lifts 0 holders own) refl (begins own holders) (omega arith)

-- lists of one length that have the same at each place

same-lists : (xs ys : List ℕ) → length xs ≡ length ys → ((id : ℕ) → priority_at xs id ≡ priority_at ys id) → xs ≡ ys
same-lists [] [] long same = refl
same-lists [] (y ∷ ys) long same = absurd (omega (arith, long))
same-lists (x ∷ xs) [] long same = absurd (omega (arith, long))
same-lists (x ∷ xs) (y ∷ ys) long same =
    ap (λ h. h ∷ xs) (same 0) ∙ ap (λ t. y ∷ t) (same-lists xs ys (omega (arith, long)) (λ id. same (suc id)))

-- whatever is lifted is that
pub lifted-is : (own : List ℕ) (holders : List (Option ℕ)) (ps : List ℕ) → AreLifted own holders ps → ps ≡ lifted own holders
lifted-is own holders ps are =
    let those = lifted-are own holders in
    same-lists ps (lifted own holders) (are.founded.long ∙ sym those.founded.long) (once own ps (lifted own holders) holders are those)

-- Whom a bit pattern doesn't satisfy: fewer bits don't either, and nobody stays whom the pattern after a release does.
use Rattle.std.proofs.Common.{◌≡◌, ◌≢◌, ℕ, List, [], ◌∷◌, refl, sym, ap, ◌∙◌, arith, bit_and}
use Rattle.std.specs.Prelude.{◌==◌, Bool, true, false, not, ◌&&◌, if◌then◌else◌}
use Rattle.std.specs.Int.Bits.{and_self, and_zero_l}
use Rattle.std.proofs.lemmas.Bool.{false≢true}
use Rattle.std.proofs.lemmas.Bool.Decides.{nat_tests}
use Rattle.std.proofs.lemmas.Nat.{and_assoc, and_comm}
use Rattle.brd_queue.specs.declared.entry.QueueEntry.{QueueEntry}
use Rattle.brd_queue.proofs.WantedLemmas.{AllWant, want-implied}
use Rattle.brd_objects.specs.declared.want.Mode.{Mode}
use Rattle.brd_objects.specs.declared.want.Mode.TheVariants as mode
use Rattle.brd_objects.specs.declared.want.Want.{Want}
use Rattle.brd_objects.specs.Waiters.{has_bits, satisfies, WantBits}
use Rattle.brd_objects.specs.Flags.{kept_of, pattern_after}
use Rattle.brd_objects.proofs.BitLemmas.{HasBits}
use Rattle.brd_objects.proofs.LawLemmas.{unsatisfied}
use Rattle.brd_kernel.proofs.who_waits.ListLemmas.{either}

-- what holds of all that waiters want still does of those whom a flag keeps when it releases
pub want-kept : (Q : Want → Type 0) (clears : Bool) (pattern : ℕ) (xs : List (QueueEntry Want)) → AllWant Q xs → AllWant Q (kept_of clears pattern xs)
want-kept Q clears pattern [] all = tt
want-kept Q clears pattern (x ∷ xs) all =
    let rest = want-kept Q clears pattern xs all.1 in
    either (AllWant Q) (satisfies pattern x.wanted) _ _ (either (AllWant Q) clears _ _ all.1 rest) (all.0, rest)

abbrev pub IsUnsatisfied : ℕ → Want → Type 0
IsUnsatisfied pattern want = satisfies pattern want ≡ false

-- a pattern of no bits satisfies none of them, since each wants some
pub want-none : (xs : List (QueueEntry Want)) → WantBits xs → AllWant (IsUnsatisfied 0) xs
want-none xs bits = want-implied HasBits (IsUnsatisfied 0) xs unsatisfied bits

all-bits-by : (test : Bool) (pattern bits kept : ℕ) → (bit_and (bit_and pattern bits) kept == kept) ≡ test → (bit_and pattern kept == kept) ≡ false →
    test ≡ false
all-bits-by false pattern bits kept is was = refl
all-bits-by true pattern bits kept is was =
    let same : bit_and (bit_and pattern bits) kept ≡ kept = grind (arith, nat_tests, is) in
    let whole : bit_and pattern kept ≡ kept =
    ap (bit_and pattern) (sym same) ∙ ap (bit_and pattern) (and_assoc kept pattern bits) ∙ sym (and_assoc (bit_and bits kept) pattern pattern)
    ∙ ap (λ n. bit_and n (bit_and bits kept)) (and_self pattern) ∙ sym (and_assoc kept pattern bits) ∙ same in
    absurd (false≢true (sym was ∙ grind (arith, nat_tests, whole)))

any-bits : (pattern bits wanted : ℕ) → not (bit_and pattern wanted == 0) ≡ false → not (bit_and (bit_and pattern bits) wanted == 0) ≡ false
any-bits pattern bits wanted was =
    let none : bit_and pattern wanted ≡ 0 = grind (arith, nat_tests, was) in
    let still : bit_and (bit_and pattern bits) wanted ≡ 0 =
    and_assoc wanted pattern bits ∙ ap (bit_and pattern) (and_comm bits wanted) ∙ sym (and_assoc bits pattern wanted)
    ∙ ap (λ n. bit_and n bits) none ∙ and_zero_l bits in
    grind (arith, nat_tests, still)

fewer-by : (m : Mode) (pattern bits wanted : ℕ) → has_bits m pattern wanted ≡ false → has_bits m (bit_and pattern bits) wanted ≡ false
fewer-by mode.All pattern bits wanted was = all-bits-by (bit_and (bit_and pattern bits) wanted == wanted) pattern bits wanted refl was
fewer-by mode.Any pattern bits wanted was = any-bits pattern bits wanted was

-- who isn't satisfied by a pattern isn't by fewer bits
pub fewer : (pattern bits : ℕ) (want : Want) → IsUnsatisfied pattern want → IsUnsatisfied (bit_and pattern bits) want
unfolding satisfies
fewer pattern bits want was = fewer-by want.mode pattern bits want.bits was

-- A release leaves nobody in the list who is satisfied by the pattern after it.

after-either : (R : ℕ → Type 0) (clears : Bool) (pattern : ℕ) (xs : List (QueueEntry Want)) → R 0 → R pattern → R (pattern_after clears pattern xs)
after-either R clears pattern [] none same = same
after-either R clears pattern (x ∷ xs) none same =
    either R (clears && satisfies pattern x.wanted) _ _ none (after-either R clears pattern xs none same)

unreleased-by : (clears satisfied : Bool) (pattern : ℕ) (x : QueueEntry Want) (xs : List (QueueEntry Want)) → satisfies pattern x.wanted ≡ satisfied →
    x.wanted.bits ≢ 0 → WantBits xs → AllWant (IsUnsatisfied (pattern_after clears pattern xs)) (kept_of clears pattern xs) →
    AllWant (IsUnsatisfied (if clears && satisfied then 0 else pattern_after clears pattern xs))
    (if satisfied then (if clears then xs else kept_of clears pattern xs) else x ∷ kept_of clears pattern xs)
unreleased-by true true pattern x xs is some bits rest = want-none xs bits
unreleased-by false true pattern x xs is some bits rest = rest
unreleased-by true false pattern x xs is some bits rest =
    (after-either (λ p. IsUnsatisfied p x.wanted) true pattern xs (unsatisfied x.wanted some) is, rest)
unreleased-by false false pattern x xs is some bits rest =
    (after-either (λ p. IsUnsatisfied p x.wanted) false pattern xs (unsatisfied x.wanted some) is, rest)

pub unreleased : (clears : Bool) (pattern : ℕ) (xs : List (QueueEntry Want)) → WantBits xs →
    AllWant (IsUnsatisfied (pattern_after clears pattern xs)) (kept_of clears pattern xs)
unreleased clears pattern [] bits = tt
unreleased clears pattern (x ∷ xs) bits =
    unreleased-by clears (satisfies pattern x.wanted) pattern x xs refl bits.0 bits.1 (unreleased clears pattern xs bits.1)

-- A program has one image: one spelling, and one list of longest stretches.
use Rattle.std.proofs.Common.{◌≡◌, ℕ, ◌+◌, ◌-◌, ◌<◌, ◌≤◌, ltb, leb, List, [], ◌∷◌, length, get_or, Option, None, Some, refl, sym, ap, ◌∙◌, subst, inl, inr, arith}
use Rattle.std.specs.Prelude.{slice_get, IsSome, ◌&&◌}
use Rattle.std.proofs.lemmas.Bool.{cases_lt, lt-ltb, le-ltb, le-leb, and_from, and_left, and_right}
use Rattle.std.proofs.lemmas.Option.{slice_get-get_or}
use Rattle.std.proofs.lemmas.List.{same_lists}
use Rattle.brd_word.specs.Words.{bytes_of_word}
use Rattle.brd_word.specs.declared.order.Order.{Order}
use Rattle.brd_isa.proofs.WordLemmas.{one_word}
use Rattle.brd_mem.specs.declared.image.Image.{Image}
use Rattle.brd_mem.specs.declared.image.Segment.{Segment}
use Rattle.brd_mem.specs.declared.image.Symbol.{Symbol}
use Rattle.brd_asm.specs.Meaning.{Meaning, Placed}
use Rattle.brd_asm.specs.Meaning.Meaning.{Means, Is}
use Rattle.brd_mem.specs.Image.{byte_in}
use Rattle.brd_asm.specs.Image.{Program, IsImage, HasBytes, AreSpelled, AreSeparate, AreStretches}
use Rattle.brd_asm.proofs.AscendingLemmas.{from_low, head_there}
use Rattle.brd_asm.proofs.StretchLemmas.{stretch, skipped, leb_above}

-- ---- bytes in stretches

-- below the first there is none
none_below : (ss : List Segment) (low a : ℕ) → AreSeparate low ss → a < low → byte_in ss a ≡ None
none_below [] low a apart lt = refl
none_below (s ∷ ss) low a apart lt =
    skipped (leb s.address a && ltb a (s.address + length s.bytes)) (slice_get s.bytes (a - s.address)) (byte_in ss a) (and_left (leb s.address a) (ltb a (s.address + length s.bytes)) (leb_above s.address a (omega (arith, apart.0))))
    ∙ none_below ss (s.address + length s.bytes + 1) a apart.2 (omega (arith, apart.0))

-- in the first they are its own
first_at : (s : Segment) (ss : List Segment) (i : ℕ) → i < length s.bytes → byte_in (s ∷ ss) (s.address + i) ≡ slice_get s.bytes i
first_at s ss i lt =
    let here = and_from (leb s.address (s.address + i)) (ltb (s.address + i) (s.address + length s.bytes)) (le-leb s.address (s.address + i) (omega arith)) (lt-ltb (s.address + i) (s.address + length s.bytes) (omega arith)) in
    let index : s.address + i - s.address ≡ i = omega arith in
    rw (here, index) refl

-- after it they are the others'
past_first : (s : Segment) (ss : List Segment) (a : ℕ) → s.address + length s.bytes ≤ a → byte_in (s ∷ ss) a ≡ byte_in ss a
past_first s ss a le =
    skipped (leb s.address a && ltb a (s.address + length s.bytes)) (slice_get s.bytes (a - s.address)) (byte_in ss a) (and_right (leb s.address a) (ltb a (s.address + length s.bytes)) (le-ltb a (s.address + length s.bytes) le))

-- right after it there is none
gap_behind : (s : Segment) (ss : List Segment) → AreSeparate (s.address + length s.bytes + 1) ss → byte_in (s ∷ ss) (s.address + length s.bytes) ≡ None
gap_behind s ss apart = past_first s ss (s.address + length s.bytes) (omega arith) ∙ none_below ss (s.address + length s.bytes + 1) (s.address + length s.bytes) apart (omega arith)

is_none : (o : Option ℕ) → IsSome o → o ≡ None → ⊥
is_none None there e = absurd (cc)
is_none (Some n) there e = cc

-- ---- one list of stretches

abbrev AreSame : List Segment → List Segment → Type 0
AreSame ss ts = (a : ℕ) → byte_in ss a ≡ byte_in ts a

turned : (ss ts : List Segment) → AreSame ss ts → AreSame ts ss
turned ss ts same = λ a. sym (same a)

-- a stretch doesn't begin before the first of the others
begins_by : (s t : Segment) (ss ts : List Segment) (low high : ℕ) → AreSeparate low (s ∷ ss) → AreSeparate high (t ∷ ts) → AreSame (s ∷ ss) (t ∷ ts) → t.address ≤ s.address
begins_by s t ss ts low high one other same =
    from_low (t ∷ ts) t.address s.address (omega arith, other.1, other.2) (subst IsSome (same s.address) (head_there s ss s.address (omega arith) (omega (arith, one.1))))

-- where both begin at one address, it doesn't end after the first of the others
ends_by : (s t : Segment) (ss ts : List Segment) (low high : ℕ) → AreSeparate low (s ∷ ss) → AreSeparate high (t ∷ ts) → AreSame (s ∷ ss) (t ∷ ts) → s.address ≡ t.address → length s.bytes ≤ length t.bytes
ends_by s t ss ts low high one other same at =
    elim (cases_lt (length t.bytes) (length s.bytes)) [
      | inl lt ↦
          let end : ℕ = t.address + length t.bytes in
          absurd (is_none (byte_in (s ∷ ss) end) (head_there s ss end (omega arith) (omega arith)) (same end ∙ gap_behind t ts other.2))
      | inr le ↦ le
    ]

same_bytes : (s t : Segment) (ss ts : List Segment) → AreSame (s ∷ ss) (t ∷ ts) → s.address ≡ t.address → length s.bytes ≡ length t.bytes → s.bytes ≡ t.bytes
same_bytes s t ss ts same at long = same_lists s.bytes t.bytes long each
  where
    each : (k d : ℕ) → k < length s.bytes → get_or s.bytes k d ≡ get_or t.bytes k d
    each k d lt =
        let within : k < length t.bytes = omega (arith, long, lt) in
        let e : Some (get_or s.bytes k d) ≡ Some (get_or t.bytes k d) =
        sym (slice_get-get_or s.bytes k d lt) ∙ sym (first_at s ss k lt) ∙ same (s.address + k) ∙ ap (λ (n : ℕ). byte_in (t ∷ ts) (n + k)) at ∙ first_at t ts k within ∙ slice_get-get_or t.bytes k d within in
        cc

same_others : (s t : Segment) (ss ts : List Segment) (low high : ℕ) → AreSeparate low (s ∷ ss) → AreSeparate high (t ∷ ts) → AreSame (s ∷ ss) (t ∷ ts) → s.address ≡ t.address → length s.bytes ≡ length t.bytes → AreSame ss ts
same_others s t ss ts low high one other same at long = λ a.
    elim (cases_lt a (s.address + length s.bytes + 1)) [
      | inl lt ↦ none_below ss (s.address + length s.bytes + 1) a one.2 lt ∙ sym (none_below ts (t.address + length t.bytes + 1) a other.2 (omega (arith, at, long, lt)))
      | inr le ↦ sym (past_first s ss a (omega arith)) ∙ same a ∙ past_first t ts a (omega (arith, at, long, le))
    ]

one_list : (ss ts : List Segment) (low high : ℕ) → AreSeparate low ss → AreSeparate high ts → AreSame ss ts → ss ≡ ts
one_list [] [] low high one other same = refl
one_list [] (t ∷ ts) low high one other same = absurd (is_none (byte_in (t ∷ ts) t.address) (head_there t ts t.address (omega arith) (omega (arith, other.1))) (sym (same t.address)))
one_list (s ∷ ss) [] low high one other same = absurd (is_none (byte_in (s ∷ ss) s.address) (head_there s ss s.address (omega arith) (omega (arith, one.1))) (same s.address))
one_list (s ∷ ss) (t ∷ ts) low high one other same =
    let back = turned (s ∷ ss) (t ∷ ts) same in
    let at : s.address ≡ t.address = omega (arith, begins_by s t ss ts low high one other same, begins_by t s ts ss high low other one back) in
    let long : length s.bytes ≡ length t.bytes = omega (arith, ends_by s t ss ts low high one other same at, ends_by t s ts ss high low other one back (sym at)) in
    let bytes = same_bytes s t ss ts same at long in
    let others = one_list ss ts (s.address + length s.bytes + 1) (t.address + length t.bytes + 1) one.2 other.2 (same_others s t ss ts low high one other same at long) in
    ap (λ (n : ℕ). stretch n s.bytes ∷ ss) at ∙ ap (λ (xs : List ℕ). stretch t.address xs ∷ ss) bytes ∙ ap (λ (us : List Segment). t ∷ us) others

pub one_list_of_stretches : (memory : ℕ → Option ℕ) (ss ts : List Segment) → AreStretches memory ss → AreStretches memory ts → ss ≡ ts
one_list_of_stretches memory ss ts one other = one_list ss ts 0 0 one.separate other.separate (λ a. one.same a ∙ sym (other.same a))

-- ---- one spelling

spelled_so : (order : Order) (m : Meaning) (xs ys : List ℕ) → HasBytes order m xs → HasBytes order m ys → xs ≡ ys
spelled_so order (Means insn) xs ys v w = v.3 ∙ ap (λ (n : ℕ). bytes_of_word order n) (one_word v.0 w.0 insn v.1 w.1 (λ ignores. v.2 ignores ∙ sym (w.2 ignores))) ∙ sym w.3
spelled_so order (Is numbers) xs ys v w = v ∙ sym w

one_spelling : (order : Order) (ps : List Placed) (ss ts : List Segment) → AreSpelled order ps ss → AreSpelled order ps ts → ss ≡ ts
one_spelling order [] [] [] one other = refl
one_spelling order [] [] (t ∷ ts) one other = absurd other
one_spelling order [] (s ∷ ss) ts one other = absurd one
one_spelling order (p ∷ ps) [] ts one other = absurd one
one_spelling order (p ∷ ps) (s ∷ ss) [] one other = absurd other
one_spelling order (p ∷ ps) (s ∷ ss) (t ∷ ts) one other =
    ap (λ (n : ℕ). stretch n s.bytes ∷ ss) (one.0 ∙ sym other.0)
    ∙ ap (λ (xs : List ℕ). stretch t.address xs ∷ ss) (spelled_so order p.meaning s.bytes t.bytes one.1 other.1)
    ∙ ap (λ (us : List Segment). t ∷ us) (one_spelling order ps ss ts one.2 other.2)

-- ---- one image

pub one_image : (program : Program) (a b : Image) → IsImage program a → IsImage program b → a ≡ b
one_image program a b one other =
    let spelled = one_spelling program.order program.contents one.spelled other.spelled one.are_spelled other.are_spelled in
    let memory : AreStretches (byte_in other.spelled) a.segments = subst (λ (ss : List Segment). AreStretches (byte_in ss) a.segments) spelled one.segments in
    ap (λ (o : Order). image o a.entry a.segments a.symbols) (one.order ∙ sym other.order)
    ∙ ap (λ (n : ℕ). image b.order n a.segments a.symbols) (one.entry ∙ sym other.entry)
    ∙ ap (λ (ss : List Segment). image b.order b.entry ss a.symbols) (one_list_of_stretches (byte_in other.spelled) a.segments b.segments memory other.segments)
    ∙ ap (λ (ss : List Symbol). image b.order b.entry b.segments ss) (one.symbols ∙ sym other.symbols)
  where
    image : Order → ℕ → List Segment → List Symbol → Image
    image order entry segments symbols = record { order = order; entry = entry; segments = segments; symbols = symbols }

-- Just the line of a run is read as that run.
use Rattle.std.proofs.Common.{◌≡◌, ℕ, zero, suc, ◌+◌, ◌≤◌, ◌<◌, eqb, true, false, List, [], ◌∷◌, ◌++◌, length, take, drop, refl, sym, ap, subst, ◌∙◌, inl, inr, arith}
use Rattle.std.specs.Prelude.{Option, Some, None, option_map}
use Rattle.std.specs.Fmt.{decimal}
use Rattle.std.specs.Int.{IsInRange}
use Rattle.std.specs.List.{prefix_len, list_all}
use Rattle.std.proofs.lemmas.Bool.{cases_Bool, and_parts, eqb-true}
use Rattle.std.proofs.lemmas.Option.{none-some, option_and_then_some, some_pair_parts}
use Rattle.brd_text.specs.Numbers.{plain_decimal_of}
use Rattle.brd_board.specs.declared.event.Event.{Event}
use Rattle.brd_board.specs.declared.event.Event.TheVariants.{Step, Tick, Raise}
use Rattle.brd_journal.specs.declared.run.Run.{Run}
use Rattle.brd_journal.specs.Runs.{most_count}
use Rattle.brd_journal.specs.Text.{line_text, IsNumbered, CanBeSpelled, SpellsRun}
use Rattle.brd_journal.specs.Reading.{in_field, first_field, other_fields, unless_zero, count_of, numbered_of, run_of_kind, run_of_line}
use Rattle.brd_journal.proofs.EventLemmas.{run_of}
use Rattle.brd_journal.proofs.NumberLemmas.{plain_again, plain_is, digits_pass}

-- ---- fields

digit_in_field : (c : ℕ) → IsInRange 48 57 c → in_field c ≡ true
unfolding in_field
digit_in_field c h = elim (cases_Bool (eqb c 32)) [ inl t ↦ let e : c ≡ 32 = eqb-true c 32 t in absurd (omega arith) | inr f ↦ rw f refl ]

space_ends : in_field 32 ≡ false
unfolding in_field
space_ends = refl

is_space : (c : ℕ) → in_field c ≡ false → c ≡ 32
unfolding in_field
is_space c h = elim (cases_Bool (eqb c 32)) [ inl t ↦ eqb-true c 32 t | inr f ↦ let q : true ≡ false = rw f at h in absurd (cc) ]

field_len : (field rest : List ℕ) → list_all in_field field ≡ true → prefix_len in_field (field ++ 32 ∷ rest) ≡ length field
field_len [] rest h = rw space_ends refl
field_len (b ∷ bs) rest h =
    let parts = and_parts (in_field b) (list_all in_field bs) h in
    rw (parts.0, field_len bs rest parts.1) (omega arith)

take_front : (field rest : List ℕ) → take (length field) (field ++ rest) ≡ field
take_front [] rest = refl
take_front (b ∷ bs) rest = ap (λ (xs : List ℕ). b ∷ xs) (take_front bs rest)

drop_front : (field rest : List ℕ) (b : ℕ) → drop (length field + 1) (field ++ b ∷ rest) ≡ rest
drop_front [] rest b = refl
drop_front (c ∷ cs) rest b = let next : length (c ∷ cs) + 1 ≡ suc (length cs + 1) = omega arith in rw next (drop_front cs rest b)

first_of_two : (field rest : List ℕ) → list_all in_field field ≡ true → first_field (field ++ 32 ∷ rest) ≡ field
first_of_two field rest h = rw field_len (take_front field (32 ∷ rest))

others_of_two : (field rest : List ℕ) → list_all in_field field ≡ true → other_fields (field ++ 32 ∷ rest) ≡ rest
others_of_two field rest h = rw field_len (drop_front field rest 32)

-- where something stands after the first field, a space ends it
two_fields : (fields : List ℕ) → 0 < length (other_fields fields) → fields ≡ first_field fields ++ 32 ∷ other_fields fields
two_fields [] h = absurd (omega arith)
two_fields (b ∷ bs) h =
    elim (cases_Bool (in_field b)) [
      | inl inside ↦
          let one : 1 + prefix_len in_field bs ≡ suc (prefix_len in_field bs) = omega arith in
          let two : suc (prefix_len in_field bs) + 1 ≡ suc (prefix_len in_field bs + 1) = omega arith in
          let some : 0 < length (other_fields bs) = rw (inside, one, two) at h in
          rw (inside, one, two) (ap (λ (xs : List ℕ). b ∷ xs) (two_fields bs some))
      | inr ends ↦ rw ends (ap (λ (x : ℕ). x ∷ bs) (is_space b ends))
    ]

-- ---- counts

count_again : (n : ℕ) → 1 ≤ n → n ≤ most_count → count_of (decimal n) ≡ Some n
count_again zero least most = absurd (omega arith)
count_again (suc n) least most = rw (plain_again (suc n) most_count most (omega arith)) refl

unless_zero_is : (n m : ℕ) → unless_zero n ≡ Some m → (n ≡ m) × (1 ≤ m)
unless_zero_is zero m h = absurd (none-some m h)
unless_zero_is (suc n) m h = let q : suc n ≡ m = cc in (q, omega arith)

count_is : (digits : List ℕ) (n : ℕ) → count_of digits ≡ Some n → (digits ≡ decimal n) × (1 ≤ n) × (n ≤ most_count)
count_is digits n h =
    option_and_then_some unless_zero (plain_decimal_of digits most_count) n h (λ x read some.
    let same = unless_zero_is x n some in
    let plain = plain_is digits most_count x (omega arith) read in
    (plain.0 ∙ ap decimal same.0, same.1, (let le : x ≤ most_count = plain.1 in rw same.0 at le)))

no_count : count_of [] ≡ None
unfolding Rattle.brd_text.specs.Numbers.plain_decimal_of Rattle.brd_text.specs.Numbers.decimal_of
no_count = refl

-- ---- a number and a count

numbered_again : (number n : ℕ) → number ≤ 255 → 1 ≤ n → n ≤ most_count → numbered_of (decimal number ++ 32 ∷ decimal n) ≡ Some (number, n)
numbered_again number n small least most =
    let digits = digits_pass in_field digit_in_field number (omega arith) in
    rw (first_of_two (decimal number) (decimal n) digits, others_of_two (decimal number) (decimal n) digits, plain_again number 255 small (omega arith), count_again n least most) refl

map_some : (number : ℕ) (o : Option ℕ) (p : ℕ × ℕ) → option_map (λ (count : ℕ). (number, count)) o ≡ Some p → (o ≡ Some p.1) × (number ≡ p.0)
map_some number None p h = absurd (none-some p h)
map_some number (Some n) p h = let q = some_pair_parts number p.0 n p.1 h in (ap (λ (x : ℕ). Some x) q.1, q.0)

-- what numbered fields say
record IsPair (fields : List ℕ) (number n : ℕ) : Type 0 where
  text : fields ≡ decimal number ++ 32 ∷ decimal n
  small : number ≤ 255
  least : 1 ≤ n
  most : n ≤ most_count

some_byte : (digits : List ℕ) (n : ℕ) → count_of digits ≡ Some n → 0 < length digits
some_byte [] n h = absurd (none-some n (sym no_count ∙ h))
some_byte (b ∷ bs) n h = omega arith

numbered_is : (fields : List ℕ) (p : ℕ × ℕ) → numbered_of fields ≡ Some p → IsPair fields p.0 p.1
numbered_is fields p h =
    option_and_then_some (λ (number : ℕ). option_map (λ (count : ℕ). (number, count)) (count_of (other_fields fields))) (plain_decimal_of (first_field fields) 255) p h (λ x read some.
    let parts = map_some x (count_of (other_fields fields)) p some in
    let plain = plain_is (first_field fields) 255 x (omega arith) read in
    let count = count_is (other_fields fields) p.1 parts.0 in
    let two = two_fields fields (some_byte (other_fields fields) p.1 parts.0) in
    record {
      text = two ∙ ap (λ (xs : List ℕ). xs ++ 32 ∷ other_fields fields) (plain.0 ∙ ap decimal parts.1) ∙ ap (λ (xs : List ℕ). decimal p.0 ++ 32 ∷ xs) count.0;
      small = let le : x ≤ 255 = plain.1 in rw parts.1 at le;
      least = count.1;
      most = count.2;
    })

-- ---- lines

pub line_again : (run : Run) → CanBeSpelled run → run_of_line (line_text run) ≡ Some run
line_again run can = by_event run.event run.count can.numbered can.least can.most
  where
    by_event : (event : Event) (n : ℕ) → IsNumbered event → 1 ≤ n → n ≤ most_count → run_of_line (line_text (run_of event n)) ≡ Some (run_of event n)
    by_event (Step cpu) n small least most = rw (numbered_again cpu n small least most) refl
    by_event Tick n small least most = rw (count_again n least most) refl
    by_event (Raise line) n small least most = rw (numbered_again line n small least most) refl

map_is : {A : Type 0} (f : A → Run) (o : Option A) (run : Run) → option_map f o ≡ Some run → (x : A) × (o ≡ Some x) × (f x ≡ run)
map_is f None run h = absurd (none-some run h)
map_is f (Some x) run h = (x, refl, cc)

spells_at : (line : List ℕ) (run other : Run) → SpellsRun line run → run ≡ other → SpellsRun line other
spells_at line run other h e = let P : Run → Type 0 = λ r. SpellsRun line r in subst P e h

spells : (line : List ℕ) (event : Event) (n : ℕ) → line ≡ line_text (run_of event n) → IsNumbered event → 1 ≤ n → n ≤ most_count → SpellsRun line (run_of event n)
spells line event n text numbered least most = record { text = text; can = record { numbered = numbered; least = least; most = most } }

kind_is : (kind : ℕ) (fields : List ℕ) (run : Run) → run_of_kind kind fields ≡ Some run → SpellsRun (kind ∷ 32 ∷ fields) run
kind_is kind fields run h =
    elim (cases_Bool (eqb kind 83)) [
      | inl s ↦
          let q : option_map (λ (p : ℕ × ℕ). run_of (Step p.0) p.1) (numbered_of fields) ≡ Some run = rw s at h in
          let m = map_is (λ (p : ℕ × ℕ). run_of (Step p.0) p.1) (numbered_of fields) run q in
          let pair = numbered_is fields m.0 m.1 in
          spells_at (kind ∷ 32 ∷ fields) (run_of (Step m.0.0) m.0.1) run
          (spells (kind ∷ 32 ∷ fields) (Step m.0.0) m.0.1 (ap (λ (x : ℕ). x ∷ 32 ∷ fields) (eqb-true kind 83 s) ∙ ap (λ (xs : List ℕ). 83 ∷ 32 ∷ xs) pair.text) pair.small pair.least pair.most) m.2
      | inr other ↦ elim (cases_Bool (eqb kind 84)) [
        | inl t ↦
            let q : option_map (λ (n : ℕ). run_of Tick n) (count_of fields) ≡ Some run = rw (other, t) at h in
            let m = map_is (λ (n : ℕ). run_of Tick n) (count_of fields) run q in
            let count = count_is fields m.0 m.1 in
            spells_at (kind ∷ 32 ∷ fields) (run_of Tick m.0) run
            (spells (kind ∷ 32 ∷ fields) Tick m.0 (ap (λ (x : ℕ). x ∷ 32 ∷ fields) (eqb-true kind 84 t) ∙ ap (λ (xs : List ℕ). 84 ∷ 32 ∷ xs) count.0) tt count.1 count.2) m.2
        | inr other2 ↦ elim (cases_Bool (eqb kind 82)) [
          | inl r ↦
              let q : option_map (λ (p : ℕ × ℕ). run_of (Raise p.0) p.1) (numbered_of fields) ≡ Some run = rw (other, other2, r) at h in
              let m = map_is (λ (p : ℕ × ℕ). run_of (Raise p.0) p.1) (numbered_of fields) run q in
              let pair = numbered_is fields m.0 m.1 in
              spells_at (kind ∷ 32 ∷ fields) (run_of (Raise m.0.0) m.0.1) run
              (spells (kind ∷ 32 ∷ fields) (Raise m.0.0) m.0.1 (ap (λ (x : ℕ). x ∷ 32 ∷ fields) (eqb-true kind 82 r) ∙ ap (λ (xs : List ℕ). 82 ∷ 32 ∷ xs) pair.text) pair.small pair.least pair.most) m.2
          | inr other3 ↦ let q : None ≡ Some run = rw (other, other2, other3) at h in absurd (none-some run q)
        ]
      ]
    ]

pub line_is : (line : List ℕ) (run : Run) → run_of_line line ≡ Some run → SpellsRun line run
line_is [] run h = absurd (none-some run h)
line_is (kind ∷ []) run h = absurd (none-some run h)
line_is (kind ∷ space ∷ fields) run h =
    elim (cases_Bool (eqb space 32)) [
      | inl s ↦ let q : run_of_kind kind fields ≡ Some run = rw s at h in let P : ℕ → Type 0 = λ b. SpellsRun (kind ∷ b ∷ fields) run in subst P (sym (eqb-true space 32 s)) (kind_is kind fields run q)
      | inr other ↦ let q : None ≡ Some run = rw other at h in absurd (none-some run q)
    ]

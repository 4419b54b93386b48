-- The output of contents, one after the other.
use Rattle.std.proofs.lemmas.List.{drop_more}
use Rattle.std.proofs.Common.{◌≡◌, ◌<◌, get_or, drop, ℕ, ◌+◌, List, [], ◌∷◌, ◌++◌, length, Result, Ok, Err, refl, sym, ap, ◌∙◌, append_assoc, append-nil}
use Rattle.std.specs.Prelude.{ℤ, pos}
use Rattle.brd_word.specs.declared.order.Order.{Order}
use Rattle.brd_source.specs.declared.statement.Width.{Width}
use Rattle.brd_asm.specs.Values.{within}
use Rattle.brd_asm.specs.Meaning.{least_of, greatest_of, bytes_of, data_of}
use Rattle.brd_text.specs.Faults.{◌>>=◌}
use Rattle.brd_mem.specs.declared.image.Segment.{Segment}
use Rattle.brd_asm.specs.declared.fault.AsmFault.{AsmFault}
use Rattle.brd_text.specs.Faults.{Fails}
use Rattle.brd_asm.specs.Faults.{is_no_memory, Meets}
use Rattle.brd_text.proofs.FaultLemmas.{passed_on}
use Rattle.brd_asm.specs.Values.{Name}
use Rattle.brd_asm.specs.Layout.{Piece}
use Rattle.brd_asm.specs.Meaning.{Meaning, Placed, content_meaning, meanings}
use Rattle.brd_asm.specs.Image.{HasBytes, AreSpelled}
use Rattle.brd_asm.specs.Output.{Adds, behind, all_bytes}

-- these, in front of what a result has
abbrev pub in_front_of : {A : Type 0} → List A → Result (List A) AsmFault → Result (List A) AsmFault
in_front_of done rest = rest >>= λ more. Ok (done ++ more)

pub behind_more : (before more : List ℕ) (r : Result (List ℕ) AsmFault) → behind before (r >>= λ bytes. Ok (more ++ bytes)) ≡ behind (before ++ more) r
behind_more before more (Ok bytes) = ap (λ (xs : List ℕ). ok xs) (sym (append_assoc before more bytes))
  where
    ok : List ℕ → Result (List ℕ) AsmFault
    ok xs = Ok xs
behind_more before more (Err e) = refl

-- ---- one piece after the other

pub record Progress (order : Order) (names : List Name) (pieces rest : List Piece) (output : List ℕ) : Type 0 where
  pub done : List Placed
  pub spelled : List Segment
  pub are_spelled : AreSpelled order done spelled
  pub output_is : output ≡ all_bytes spelled
  pub same : in_front_of done (meanings order names rest) ≡ meanings order names pieces

pub meets_ok : {X Y : Type 0} (related : X → Y → Type 0) (x : X) (r : Result Y AsmFault) → Meets related (Ok x) r → (y : Y) × (r ≡ Ok y) × related x y
meets_ok related x (Ok y) h = (y, refl, h)
meets_ok related x (Err e) h = absurd h

spelled_push : (order : Order) (ps : List Placed) (ss : List Segment) (p : Placed) (s : Segment) → AreSpelled order ps ss → s.address ≡ p.place → HasBytes order p.meaning s.bytes → AreSpelled order (ps ++ p ∷ []) (ss ++ s ∷ [])
spelled_push order [] [] p s are at is = (at, is, tt)
spelled_push order [] (t ∷ ss) p s are at is = absurd are
spelled_push order (q ∷ ps) [] p s are at is = absurd are
spelled_push order (q ∷ ps) (t ∷ ss) p s are at is = (are.0, are.1, spelled_push order ps ss p s are.2 at is)

bytes_push : (ss : List Segment) (s : Segment) → all_bytes (ss ++ s ∷ []) ≡ all_bytes ss ++ s.bytes
bytes_push [] s = append-nil s.bytes
bytes_push (t ∷ ss) s = ap (λ (xs : List ℕ). t.bytes ++ xs) (bytes_push ss s) ∙ sym (append_assoc t.bytes (all_bytes ss) s.bytes)

in_front_more : (done : List Placed) (p : Placed) (r : Result (List Placed) AsmFault) → in_front_of done (r >>= λ others. Ok (p ∷ others)) ≡ in_front_of (done ++ p ∷ []) r
in_front_more done p (Ok others) = ap (λ (xs : List Placed). ok xs) (sym (append_assoc done (p ∷ []) others))
  where
    ok : List Placed → Result (List Placed) AsmFault
    ok xs = Ok xs
in_front_more done p (Err e) = refl

pub progress_starts : (order : Order) (names : List Name) (pieces : List Piece) → Progress order names pieces pieces []
progress_starts order names pieces = record { done = []; spelled = []; are_spelled = tt; output_is = refl; same = whole (meanings order names pieces) }
  where
    whole : (r : Result (List Placed) AsmFault) → in_front_of [] r ≡ r
    whole (Ok ps) = refl
    whole (Err e) = refl

one_meaning : (order : Order) (names : List Name) (rest : List Piece) (p : Piece) (m : Meaning) → content_meaning order p.line p.place names p.content ≡ Ok m
    → meanings order names (p ∷ rest) ≡ (meanings order names rest >>= λ others. Ok (record { place = p.place; meaning = m } ∷ others))
one_meaning order names rest p m is = rw is refl

pub progress_more : (order : Order) (names : List Name) (pieces rest : List Piece) (p : Piece) (before after : List ℕ) → Progress order names pieces (p ∷ rest) before
    → Meets (λ (u : Unit {0}) meaning. Adds order meaning before after) (Ok tt) (content_meaning order p.line p.place names p.content) → Progress order names pieces rest after
progress_more order names pieces rest p before after so_far meets =
    let m = meets_ok (λ (u : Unit {0}) meaning. Adds order meaning before after) tt (content_meaning order p.line p.place names p.content) meets in
    let placed : Placed = record { place = p.place; meaning = m.0 } in
    let segment : Segment = record { address = p.place; bytes = m.2.0 } in
    let e = one_meaning order names rest p m.0 m.1 in
    record {
      done = so_far.done ++ placed ∷ [];
      spelled = so_far.spelled ++ segment ∷ [];
      are_spelled = spelled_push order so_far.done so_far.spelled placed segment so_far.are_spelled refl m.2.1;
      output_is = m.2.2 ∙ ap (λ (xs : List ℕ). xs ++ m.2.0) so_far.output_is ∙ sym (bytes_push so_far.spelled segment);
      same = sym (in_front_more so_far.done placed (meanings order names rest)) ∙ sym (ap (λ (r : Result (List Placed) AsmFault). in_front_of so_far.done r) e) ∙ so_far.same;
    }

-- what is left of a list, from its next item on
pub next_item : {X : Type 0} (xs : List X) (i : ℕ) (x : X) → x ≡ get_or xs i x → i < length xs → drop i xs ≡ x ∷ drop (i + 1) xs
next_item xs i x is lt = drop_more xs i x lt ∙ ap (λ y. y ∷ drop (i + 1) xs) (sym is)

-- ---- one value after the other

one_value : (order : Order) (line : ℕ) (width : Width) (v : ℤ) (vs : List ℤ) (x : ℤ) → within line (least_of width) (greatest_of width) v ≡ Ok x
    → data_of order line width (v ∷ vs) ≡ (data_of order line width vs >>= λ bytes. Ok (bytes_of order width x ++ bytes))
one_value order line width v vs x is = rw is refl

pub data_more : (order : Order) (line : ℕ) (width : Width) (values : List ℤ) (i : ℕ) (x : ℤ) (before after : List ℕ) (total : Result (List ℕ) AsmFault) → i < length values
    → within line (least_of width) (greatest_of width) (get_or values i (pos 0)) ≡ Ok x → after ≡ before ++ bytes_of order width x
    → behind before (data_of order line width (drop i values)) ≡ total → behind after (data_of order line width (drop (i + 1) values)) ≡ total
data_more order line width values i x before after total lt is after_is so_far =
    let e = one_value order line width (get_or values i (pos 0)) (drop (i + 1) values) x is in
    ap (λ (bs : List ℕ). behind bs (data_of order line width (drop (i + 1) values))) after_is
    ∙ sym (behind_more before (bytes_of order width x) (data_of order line width (drop (i + 1) values)))
    ∙ sym (ap (λ (r : Result (List ℕ) AsmFault). behind before r) e)
    ∙ sym (ap (λ (vs : List ℤ). behind before (data_of order line width vs)) (drop_more values i (pos 0) lt))
    ∙ so_far

pub data_fails : (order : Order) (line : ℕ) (width : Width) (values : List ℤ) (i : ℕ) (e : AsmFault) (before : List ℕ) (total : Result (List ℕ) AsmFault) → i < length values
    → Fails is_no_memory e (within line (least_of width) (greatest_of width) (get_or values i (pos 0)))
    → behind before (data_of order line width (drop i values)) ≡ total → Fails is_no_memory e total
data_fails order line width values i e before total lt fails so_far =
    passed_on is_no_memory e (within line (least_of width) (greatest_of width) (get_or values i (pos 0))) total fails (λ h.
    let f : behind before (data_of order line width (get_or values i (pos 0) ∷ drop (i + 1) values)) ≡ Err e = rw h refl in
    sym so_far ∙ ap (λ (vs : List ℤ). behind before (data_of order line width vs)) (drop_more values i (pos 0) lt) ∙ f)

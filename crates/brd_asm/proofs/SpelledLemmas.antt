-- The bytes that spell contents, against the output and the places of the pieces.
use Rattle.std.proofs.Common.{◌≡◌, ℕ, ◌+◌, ◌-◌, ◌*◌, ◌<◌, Bool, true, false, cond, ltb, leb, List, [], ◌∷◌, ◌++◌, length, Option, None, Some, Result, Ok, refl, sym, ap, ◌∙◌, subst, arith, length-append}
use Rattle.std.specs.Prelude.{ℤ, slice_get, replicate, ◌&&◌}
use Rattle.std.proofs.lemmas.Bool.{leb-true, ltb-true, and_parts}
use Rattle.std.proofs.lemmas.List.{length-replicate}
use Rattle.brd_text.specs.Faults.{◌>>=◌}
use Rattle.brd_text.proofs.FaultLemmas.{bind_ok}
use Rattle.brd_mem.specs.declared.image.Segment.{Segment}
use Rattle.brd_word.specs.Words.{bytes_of_word}
use Rattle.brd_word.specs.declared.order.Order.{Order}
use Rattle.brd_word.specs.declared.order.Order.TheVariants.{Big, Little}
use Rattle.brd_source.specs.declared.statement.Width.{Width}
use Rattle.brd_source.specs.declared.statement.Width.TheVariants.{Byte, Half, Word}
use Rattle.brd_source.specs.Statement.{Expression}
use Rattle.brd_asm.specs.declared.fault.AsmFault.{AsmFault}
use Rattle.brd_asm.specs.Values.{Name, value_of, known, within}
use Rattle.brd_asm.specs.Layout.{Content, Piece, size_of, bytes_in}
use Rattle.brd_asm.specs.Layout.Content.{Code, Values, Bytes, Zeros}
use Rattle.brd_asm.specs.Meaning.{Meaning, Placed, instruction_of, values_of, data_of, bytes_of, least_of, greatest_of, content_meaning, meanings}
use Rattle.brd_asm.specs.Meaning.Meaning.{Means, Is}
use Rattle.brd_mem.specs.Image.{byte_in}
use Rattle.brd_asm.specs.Image.{HasBytes, AreSpelled}
use Rattle.brd_asm.specs.Output.{all_bytes}
use Rattle.brd_asm.specs.Index.{total_size, covers, offset_at, byte_at}
use Rattle.brd_asm.proofs.IndexLemmas.{offset_below}
use Rattle.brd_asm.proofs.StretchLemmas.{front_of, back_of}

abbrev ok : {A : Type 0} → A → Result A AsmFault
ok x = Ok x

pub inside : {A : Type 0} (x y : A) → ok x ≡ Ok y → x ≡ y
inside x y h = cc

-- ---- sizes

values_length : (line : ℕ) (names : List Name) (es : List Expression) (vs : List ℤ) → values_of line names es ≡ Ok vs → length vs ≡ length es
values_length line names [] vs e = ap (λ (xs : List ℤ). length xs) (sym (inside [] vs e))
values_length line names (x ∷ es) vs e =
    let v = bind_ok (known line (value_of names x)) (λ v. values_of line names es >>= λ vs. Ok (v ∷ vs)) vs e in
    let w = bind_ok (values_of line names es) (λ vs. Ok (v.0 ∷ vs)) vs v.2 in
    let ih = values_length line names es w.0 w.1 in
    ap (λ (xs : List ℤ). length xs) (sym (inside (v.0 ∷ w.0) vs w.2)) ∙ omega (arith, ih)

one_length : (order : Order) (width : Width) (v : ℤ) → length (bytes_of order width v) ≡ bytes_in width
one_length Big Byte v = refl
one_length Little Byte v = refl
one_length Big Half v = refl
one_length Little Half v = refl
one_length Big Word v = refl
one_length Little Word v = refl

word_length : (order : Order) (word : ℕ) → length (bytes_of_word order word) ≡ 4
word_length Big word = refl
word_length Little word = refl

data_length : (order : Order) (line : ℕ) (width : Width) (vs : List ℤ) (bytes : List ℕ) → data_of order line width vs ≡ Ok bytes → length bytes ≡ bytes_in width * length vs
data_length order line width [] bytes e = ap (λ (xs : List ℕ). length xs) (sym (inside [] bytes e)) ∙ omega arith
data_length order line width (v ∷ vs) bytes e =
    let x = bind_ok (within line (least_of width) (greatest_of width) v) (λ x. data_of order line width vs >>= λ bytes. Ok (bytes_of order width x ++ bytes)) bytes e in
    let w = bind_ok (data_of order line width vs) (λ bytes. Ok (bytes_of order width x.0 ++ bytes)) bytes x.2 in
    let ih = data_length order line width vs w.0 w.1 in
    ap (λ (xs : List ℕ). length xs) (sym (inside (bytes_of order width x.0 ++ w.0) bytes w.2))
    ∙ omega (arith, ih, one_length order width x.0, length-append (bytes_of order width x.0) w.0)

spelled_is : (order : Order) (numbers bytes : List ℕ) (m : Meaning) → ok (Is numbers) ≡ Ok m → HasBytes order m bytes → bytes ≡ numbers
spelled_is order numbers bytes m e spells = subst (λ (m : Meaning). HasBytes order m bytes) (sym (inside (Is numbers) m e)) spells

pub size_is : (order : Order) (line place : ℕ) (names : List Name) (c : Content) (m : Meaning) (bytes : List ℕ) → content_meaning order line place names c ≡ Ok m → HasBytes order m bytes → length bytes ≡ size_of c
unfolding content_meaning
size_is order line place names (Code instruction) m bytes e spells =
    let i = bind_ok (instruction_of line place names instruction) (λ i. Ok (Means i)) m e in
    let word = subst (λ (m : Meaning). HasBytes order m bytes) (sym (inside (Means i.0) m i.2)) spells in
    ap (λ (xs : List ℕ). length xs) word.3 ∙ word_length order word.0
size_is order line place names (Values width es) m bytes e spells =
    let v = bind_ok (values_of line names es) (λ vs. data_of order line width vs >>= λ bytes. Ok (Is bytes)) m e in
    let d = bind_ok (data_of order line width v.0) (λ bytes. Ok (Is bytes)) m v.2 in
    ap (λ (xs : List ℕ). length xs) (spelled_is order d.0 bytes m d.2 spells) ∙ data_length order line width v.0 d.0 d.1 ∙ ap (λ (n : ℕ). bytes_in width * n) (values_length line names es v.0 v.1)
size_is order line place names (Bytes numbers) m bytes e spells = ap (λ (xs : List ℕ). length xs) (spelled_is order numbers bytes m e spells)
size_is order line place names (Zeros n) m bytes e spells = ap (λ (xs : List ℕ). length xs) (spelled_is order (replicate n 0) bytes m e spells) ∙ length-replicate n 0

-- ---- the output

-- contents by the pieces that they are the meanings of
pub record OnePiece (order : Order) (names : List Name) (p : Piece) (ps : List Piece) (contents : List Placed) : Type 0 where
  pub meaning : Meaning
  pub others : List Placed
  pub means : content_meaning order p.line p.place names p.content ≡ Ok meaning
  pub mean : meanings order names ps ≡ Ok others
  pub contents_are : contents ≡ record { place = p.place; meaning = meaning } ∷ others

pub one_piece : (order : Order) (names : List Name) (p : Piece) (ps : List Piece) (contents : List Placed) → meanings order names (p ∷ ps) ≡ Ok contents → OnePiece order names p ps contents
one_piece order names p ps contents e =
    let m = bind_ok (content_meaning order p.line p.place names p.content) (λ meaning. meanings order names ps >>= λ others. Ok (record { place = p.place; meaning = meaning } ∷ others)) contents e in
    let o = bind_ok (meanings order names ps) (λ others. Ok (record { place = p.place; meaning = m.0 } ∷ others)) contents m.2 in
    record { meaning = m.0; others = o.0; means = m.1; mean = o.1; contents_are = sym (inside (record { place = p.place; meaning = m.0 } ∷ o.0) contents o.2) }

-- the bytes of spelled contents are as many as those of the pieces, and lie at their places
pub record Agree (pieces : List Piece) (spelled : List Segment) : Type 0 where
  pub sizes : length (all_bytes spelled) ≡ total_size pieces
  pub bytes : (a : ℕ) → byte_in spelled a ≡ byte_at (all_bytes spelled) pieces a

agree_more : (p : Piece) (ps : List Piece) (s : Segment) (ss : List Segment) → s.address ≡ p.place → length s.bytes ≡ size_of p.content → Agree ps ss → Agree (p ∷ ps) (s ∷ ss)
agree_more p ps s ss at size agree = record {
  sizes = omega (arith, length-append s.bytes (all_bytes ss), agree.sizes);
  bytes = λ a. same a (covers p a) refl ∙ sym (there a (covers p a) (offset_at ps a) refl refl);
}
  where
    test : (a : ℕ) → (leb s.address a && ltb a (s.address + length s.bytes)) ≡ covers p a
    test a = ap (λ (n : ℕ). leb n a && ltb a (n + length s.bytes)) at ∙ ap (λ (n : ℕ). leb p.place a && ltb a (p.place + n)) size

    same : (a : ℕ) (b : Bool) → covers p a ≡ b → byte_in (s ∷ ss) a ≡ cond b (slice_get s.bytes (a - p.place)) (byte_at (all_bytes ss) ps a)
    same a b e = ap (λ (x : Bool). cond x (slice_get s.bytes (a - s.address)) (byte_in ss a)) (test a ∙ e) ∙ ap (λ (n : ℕ). cond b (slice_get s.bytes (a - n)) (byte_in ss a)) at ∙ ap (λ (o : Option ℕ). cond b (slice_get s.bytes (a - p.place)) o) (agree.bytes a)

    here : (a : ℕ) → covers p a ≡ true → a - p.place < length s.bytes
    here a h =
        let parts = and_parts (leb p.place a) (ltb a (p.place + size_of p.content)) h in
        omega (arith, size, leb-true p.place a parts.0, ltb-true a (p.place + size_of p.content) parts.1)

    there : (a : ℕ) (b : Bool) (o : Option ℕ) → covers p a ≡ b → offset_at ps a ≡ o → byte_at (s.bytes ++ all_bytes ss) (p ∷ ps) a ≡ cond b (slice_get s.bytes (a - p.place)) (byte_at (all_bytes ss) ps a)
    there a true o b_is o_is = rw b_is (front_of s.bytes (all_bytes ss) (a - p.place) (here a b_is))
    there a false None b_is o_is = rw (b_is, o_is) refl
    there a false (Some k) b_is o_is =
        let below : k < length (all_bytes ss) = omega (arith, agree.sizes, offset_below ps a k o_is) in
        rw (b_is, o_is, ← size) (back_of s.bytes (all_bytes ss) k below)

pub agree_all : (order : Order) (names : List Name) (pieces : List Piece) (contents : List Placed) (spelled : List Segment) → meanings order names pieces ≡ Ok contents → AreSpelled order contents spelled → Agree pieces spelled
agree_all order names [] contents spelled e are = none spelled (subst (λ (ps : List Placed). AreSpelled order ps spelled) (sym (inside [] contents e)) are)
  where
    none : (ss : List Segment) → AreSpelled order [] ss → Agree [] ss
    none [] are = record { sizes = refl; bytes = λ a. refl }
    none (s ∷ ss) are = absurd are
agree_all order names (p ∷ ps) contents spelled e are =
    let one = one_piece order names p ps contents e in
    some one (λ ss h. agree_all order names ps one.others ss one.mean h) spelled (subst (λ (cs : List Placed). AreSpelled order cs spelled) one.contents_are are)
  where
    some : (one : OnePiece order names p ps contents) → ((ss : List Segment) → AreSpelled order one.others ss → Agree ps ss) → (ss : List Segment) → AreSpelled order (record { place = p.place; meaning = one.meaning } ∷ one.others) ss → Agree (p ∷ ps) ss
    some one ih [] are = absurd are
    some one ih (s ∷ ss) are = agree_more p ps s ss are.0 (size_is order p.line p.place names p.content one.meaning s.bytes one.means are.1) (ih ss are.2)

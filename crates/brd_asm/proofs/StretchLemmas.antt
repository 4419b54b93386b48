-- Bytes that join stretches, one piece after the other by ascending address.
use Rattle.std.proofs.Common.{◌≡◌, ℕ, ◌+◌, ◌-◌, ◌<◌, ◌≤◌, Bool, true, false, cond, eqb, ltb, leb, List, [], ◌∷◌, ◌++◌, length, Option, None, Some, refl, sym, ap, ◌∙◌, subst, inl, inr, arith, length-append}
use Rattle.std.specs.Prelude.{slice_get, ◌&&◌}
use Rattle.std.proofs.lemmas.Bool.{cases_lt, cases_eq, lt-ltb, le-ltb, le-leb, ne_eqb, and_from, and_right, and_left, true≢false}
use Rattle.std.proofs.lemmas.Option.{slice_get-get_or}
use Rattle.std.proofs.lemmas.List.{get_or_append_left, get_or-append-add}
use Rattle.brd_mem.specs.declared.image.Segment.{Segment}
use Rattle.brd_mem.specs.Image.{byte_in}
use Rattle.brd_asm.specs.Image.{AreSeparate, AreStretches}
use Rattle.brd_asm.specs.Output.{last_stretch, joined}

-- a stretch of bytes
abbrev pub stretch : ℕ → List ℕ → Segment
stretch address bytes = record { address = address; bytes = bytes }

eqb_same : (n : ℕ) → eqb n n ≡ true
eqb_same n = grind (arith)

pub leb_above : (a b : ℕ) → b < a → leb a b ≡ false
leb_above a b lt = grind (arith)

-- ---- what the code keeps

one_joined : (start address : ℕ) (bytes more : List ℕ) → start + length bytes ≡ address → joined (stretch start bytes ∷ []) address more ≡ stretch start (bytes ++ more) ∷ []
one_joined start address bytes more e = rw (e, eqb_same address) refl

pub joined_at_end : (done : List Segment) (start address : ℕ) (bytes more : List ℕ) → start + length bytes ≡ address
    → joined (done ++ stretch start bytes ∷ []) address more ≡ done ++ stretch start (bytes ++ more) ∷ []
joined_at_end [] start address bytes more e = one_joined start address bytes more e
joined_at_end (s ∷ []) start address bytes more e = ap (λ (ss : List Segment). s ∷ ss) (one_joined start address bytes more e)
joined_at_end (s ∷ t ∷ ss) start address bytes more e = ap (λ (xs : List Segment). s ∷ xs) (joined_at_end (t ∷ ss) start address bytes more e)

one_apart : (start address : ℕ) (bytes more : List ℕ) → (start + length bytes ≡ address → ⊥) → joined (stretch start bytes ∷ []) address more ≡ stretch start bytes ∷ stretch address more ∷ []
one_apart start address bytes more e = rw (ne_eqb (start + length bytes) address e) refl

pub joined_behind : (done : List Segment) (start address : ℕ) (bytes more : List ℕ) → (start + length bytes ≡ address → ⊥)
    → joined (done ++ stretch start bytes ∷ []) address more ≡ (done ++ stretch start bytes ∷ []) ++ stretch address more ∷ []
joined_behind [] start address bytes more e = one_apart start address bytes more e
joined_behind (s ∷ []) start address bytes more e = ap (λ (ss : List Segment). s ∷ ss) (one_apart start address bytes more e)
joined_behind (s ∷ t ∷ ss) start address bytes more e = ap (λ (xs : List Segment). s ∷ xs) (joined_behind (t ∷ ss) start address bytes more e)

-- ---- what stretches cover

-- they end at or below an address
abbrev pub AreBelow : ℕ → List Segment → Type 0
AreBelow high [] = Unit {0}
AreBelow high (s ∷ ss) = (s.address + length s.bytes ≤ high) × AreBelow high ss

below_from : (low high : ℕ) (ss : List Segment) → low ≤ high → AreBelow low ss → AreBelow high ss
below_from low high [] le below = tt
below_from low high (s ∷ ss) le below = (omega (arith, below.0), below_from low high ss le below.1)

-- The stretches are those of memory below an address, and end there.
pub record Covers (memory : ℕ → Option ℕ) (high : ℕ) (ss : List Segment) : Type 0 where
  pub separate : AreSeparate 0 ss
  pub below : AreBelow high ss
  pub same : (a : ℕ) → a < high → byte_in ss a ≡ memory a

none_above : (ss : List Segment) (high a : ℕ) → AreBelow high ss → high ≤ a → byte_in ss a ≡ None
none_above [] high a below le = refl
none_above (s ∷ ss) high a below le =
    let ih = none_above ss high a below.1 le in
    let out : (leb s.address a && ltb a (s.address + length s.bytes)) ≡ false = and_right (leb s.address a) (ltb a (s.address + length s.bytes)) (le-ltb a (s.address + length s.bytes) (omega (arith, below.0))) in
    rw (out, ih) refl

-- ---- one more

pub skipped : (b : Bool) (x y : Option ℕ) → b ≡ false → cond b x y ≡ y
skipped true x y e = absurd (true≢false e)
skipped false x y e = refl

here_in : (address a : ℕ) (bytes : List ℕ) → address ≤ a → a < address + length bytes → byte_in (stretch address bytes ∷ []) a ≡ slice_get bytes (a - address)
here_in address a bytes le lt = rw (and_from (leb address a) (ltb a (address + length bytes)) (le-leb address a le) (lt-ltb a (address + length bytes) lt)) refl

not_here : (address a : ℕ) (bytes : List ℕ) → a < address → byte_in (stretch address bytes ∷ []) a ≡ None
not_here address a bytes lt = rw (and_left (leb address a) (ltb a (address + length bytes)) (leb_above address a lt)) refl

-- two lists, one after the other
pub front_of : (xs ys : List ℕ) (i : ℕ) → i < length xs → slice_get (xs ++ ys) i ≡ slice_get xs i
front_of xs ys i lt = slice_get-get_or (xs ++ ys) i 0 (omega (arith, length-append xs ys)) ∙ ap (λ (n : ℕ). Some n) (get_or_append_left xs ys 0 i lt) ∙ sym (slice_get-get_or xs i 0 lt)

pub back_of : (xs ys : List ℕ) (i : ℕ) → i < length ys → slice_get (xs ++ ys) (length xs + i) ≡ slice_get ys i
back_of xs ys i lt = slice_get-get_or (xs ++ ys) (length xs + i) 0 (omega (arith, length-append xs ys)) ∙ ap (λ (n : ℕ). Some n) (get_or-append-add xs ys i 0) ∙ sym (slice_get-get_or ys i 0 lt)

longer_in : (start a : ℕ) (bytes more : List ℕ) → a < start + length bytes → byte_in (stretch start (bytes ++ more) ∷ []) a ≡ byte_in (stretch start bytes ∷ []) a
longer_in start a bytes more lt =
    elim (cases_lt a start) [
      | inl below ↦ not_here start a (bytes ++ more) below ∙ sym (not_here start a bytes below)
      | inr le ↦
          here_in start a (bytes ++ more) le (omega (arith, length-append bytes more))
          ∙ front_of bytes more (a - start) (omega arith)
          ∙ sym (here_in start a bytes le lt)
    ]

joined_below_one : (s : Segment) (address a : ℕ) (more : List ℕ) → s.address + length s.bytes ≤ address → a < address → byte_in (joined (s ∷ []) address more) a ≡ byte_in (s ∷ []) a
joined_below_one s address a more le lt =
    elim (cases_eq (s.address + length s.bytes) address) [
      | inl ends ↦ ap (λ (ss : List Segment). byte_in ss a) (one_joined s.address address s.bytes more ends) ∙ longer_in s.address a s.bytes more (omega arith)
      | inr gap ↦
          ap (λ (ss : List Segment). byte_in ss a) (one_apart s.address address s.bytes more gap)
          ∙ rw (not_here address a more lt) refl
    ]

-- below the new bytes nothing changes
joined_below : (ss : List Segment) (address a : ℕ) (more : List ℕ) → AreBelow address ss → a < address → byte_in (joined ss address more) a ≡ byte_in ss a
joined_below [] address a more below lt = not_here address a more lt
joined_below (s ∷ []) address a more below lt = joined_below_one s address a more below.0 lt
joined_below (s ∷ t ∷ ss) address a more below lt =
    ap (λ (o : Option ℕ). cond (leb s.address a && ltb a (s.address + length s.bytes)) (slice_get s.bytes (a - s.address)) o) (joined_below (t ∷ ss) address a more below.1 lt)

joined_here_one : (s : Segment) (address i : ℕ) (more : List ℕ) → s.address + length s.bytes ≤ address → i < length more → byte_in (joined (s ∷ []) address more) (address + i) ≡ slice_get more i
joined_here_one s address i more le lt =
    elim (cases_eq (s.address + length s.bytes) address) [
      | inl ends ↦
          let k : address + i - s.address ≡ length s.bytes + i = omega arith in
          ap (λ (ss : List Segment). byte_in ss (address + i)) (one_joined s.address address s.bytes more ends)
          ∙ here_in s.address (address + i) (s.bytes ++ more) (omega arith) (omega (arith, length-append s.bytes more))
          ∙ ap (λ (n : ℕ). slice_get (s.bytes ++ more) n) k
          ∙ back_of s.bytes more i lt
      | inr gap ↦
          let k : address + i - address ≡ i = omega arith in
          let out : (leb s.address (address + i) && ltb (address + i) (s.address + length s.bytes)) ≡ false = and_right (leb s.address (address + i)) (ltb (address + i) (s.address + length s.bytes)) (le-ltb (address + i) (s.address + length s.bytes) (omega arith)) in
          ap (λ (ss : List Segment). byte_in ss (address + i)) (one_apart s.address address s.bytes more gap)
          ∙ skipped (leb s.address (address + i) && ltb (address + i) (s.address + length s.bytes)) (slice_get s.bytes (address + i - s.address)) (byte_in (stretch address more ∷ []) (address + i)) out
          ∙ here_in address (address + i) more (omega arith) (omega arith)
          ∙ ap (λ (n : ℕ). slice_get more n) k
    ]

-- the new bytes are there
joined_here : (ss : List Segment) (address i : ℕ) (more : List ℕ) → AreBelow address ss → i < length more → byte_in (joined ss address more) (address + i) ≡ slice_get more i
joined_here [] address i more below lt =
    let k : address + i - address ≡ i = omega arith in
    here_in address (address + i) more (omega arith) (omega arith) ∙ ap (λ (n : ℕ). slice_get more n) k
joined_here (s ∷ []) address i more below lt = joined_here_one s address i more below.0 lt
joined_here (s ∷ t ∷ ss) address i more below lt =
    skipped (leb s.address (address + i) && ltb (address + i) (s.address + length s.bytes)) (slice_get s.bytes (address + i - s.address)) (byte_in (joined (t ∷ ss) address more) (address + i))
    (and_right (leb s.address (address + i)) (ltb (address + i) (s.address + length s.bytes)) (le-ltb (address + i) (s.address + length s.bytes) (omega (arith, below.0))))
    ∙ joined_here (t ∷ ss) address i more below.1 lt

joined_apart_one : (s : Segment) (low address : ℕ) (more : List ℕ) → low ≤ s.address → 0 < length s.bytes → s.address + length s.bytes ≤ address → 0 < length more → AreSeparate low (joined (s ∷ []) address more)
joined_apart_one s low address more le some below filled =
    elim (cases_eq (s.address + length s.bytes) address) [
      | inl ends ↦ subst (λ (ss : List Segment). AreSeparate low ss) (sym (one_joined s.address address s.bytes more ends)) (le, omega (arith, length-append s.bytes more), tt)
      | inr gap ↦ subst (λ (ss : List Segment). AreSeparate low ss) (sym (one_apart s.address address s.bytes more gap)) (le, some, (apart gap, filled, tt))
    ]
  where
    apart : (s.address + length s.bytes ≡ address → ⊥) → s.address + length s.bytes + 1 ≤ address
    apart gap = elim (cases_lt (s.address + length s.bytes) address) [
      | inl lt ↦ omega arith
      | inr ge ↦ absurd (gap (omega arith))
    ]

joined_apart : (ss : List Segment) (low address : ℕ) (more : List ℕ) → AreSeparate low ss → AreBelow address ss → low ≤ address → 0 < length more → AreSeparate low (joined ss address more)
joined_apart [] low address more apart below le filled = (le, filled, tt)
joined_apart (s ∷ []) low address more apart below le filled = joined_apart_one s low address more apart.0 apart.1 below.0 filled
joined_apart (s ∷ t ∷ ss) low address more apart below le filled =
    (apart.0, apart.1, joined_apart (t ∷ ss) (s.address + length s.bytes + 1) address more apart.2 below.1 (before t ss apart.2 below.1) filled)
  where
    before : (t : Segment) (ss : List Segment) → AreSeparate (s.address + length s.bytes + 1) (t ∷ ss) → AreBelow address (t ∷ ss) → s.address + length s.bytes + 1 ≤ address
    before t ss apart below = omega (arith, apart.0, below.0)

joined_ends_one : (s : Segment) (address : ℕ) (more : List ℕ) → s.address + length s.bytes ≤ address → AreBelow (address + length more) (joined (s ∷ []) address more)
joined_ends_one s address more le =
    elim (cases_eq (s.address + length s.bytes) address) [
      | inl ends ↦ subst (λ (ss : List Segment). AreBelow (address + length more) ss) (sym (one_joined s.address address s.bytes more ends)) (omega (arith, length-append s.bytes more), tt)
      | inr gap ↦ subst (λ (ss : List Segment). AreBelow (address + length more) ss) (sym (one_apart s.address address s.bytes more gap)) (omega arith, (omega arith, tt))
    ]

joined_ends : (ss : List Segment) (address : ℕ) (more : List ℕ) → AreBelow address ss → AreBelow (address + length more) (joined ss address more)
joined_ends [] address more below = (omega arith, tt)
joined_ends (s ∷ []) address more below = joined_ends_one s address more below.0
joined_ends (s ∷ t ∷ ss) address more below = (omega (arith, below.0), joined_ends (t ∷ ss) address more below.1)

-- With bytes at an address that memory has from there on, and nothing between, the stretches are those of memory up to
-- their end.
pub covers_more : (memory : ℕ → Option ℕ) (high address : ℕ) (ss : List Segment) (more : List ℕ) → Covers memory high ss → high ≤ address → 0 < length more
    → ((a : ℕ) → high ≤ a → a < address → memory a ≡ None) → ((i : ℕ) → i < length more → memory (address + i) ≡ slice_get more i)
    → Covers memory (address + length more) (joined ss address more)
covers_more memory high address ss more covers le filled nothing has = record {
  separate = joined_apart ss 0 address more covers.separate below (omega arith) filled;
  below = joined_ends ss address more below;
  same = λ a lt. elim (cases_lt a address) [
    | inl before ↦ joined_below ss address a more below before ∙ elim (cases_lt a high) [
      | inl old ↦ covers.same a old
      | inr between ↦ none_above ss high a covers.below between ∙ sym (nothing a between before)
    ]
    | inr from ↦
        let k : address + (a - address) ≡ a = omega arith in
        let lt' : a - address < length more = omega arith in
        ap (λ (n : ℕ). byte_in (joined ss address more) n) (sym k) ∙ joined_here ss address (a - address) more below lt' ∙ sym (has (a - address) lt') ∙ ap memory k
  ];
}
  where
    below : AreBelow address ss
    below = below_from high address ss le covers.below

-- where memory has nothing from the end on, they are all of it
pub covers_all : (memory : ℕ → Option ℕ) (high : ℕ) (ss : List Segment) → Covers memory high ss → ((a : ℕ) → high ≤ a → memory a ≡ None) → AreStretches memory ss
covers_all memory high ss covers nothing = record {
  separate = covers.separate;
  same = λ a. elim (cases_lt a high) [
    | inl below ↦ covers.same a below
    | inr above ↦ none_above ss high a covers.below above ∙ sym (nothing a above)
  ];
}

pub covers_nothing : (memory : ℕ → Option ℕ) → Covers memory 0 []
covers_nothing memory = record { separate = tt; below = tt; same = λ a lt. absurd (omega arith) }

-- ---- the last stretch of the code

pub grown : (done self : List Segment) (start address : ℕ) (bytes more new : List ℕ) → done ++ last_stretch start bytes ≡ self → (bytes ≡ [] → ⊥) → start + length bytes ≡ address → new ≡ bytes ++ more
    → done ++ last_stretch start new ≡ joined self address more
grown done self start address [] more new self_is some ends new_is = absurd (some refl)
grown done self start address (b ∷ bs) more new self_is some ends new_is =
    ap (λ (xs : List ℕ). done ++ last_stretch start xs) new_is
    ∙ sym (joined_at_end done start address (b ∷ bs) more ends)
    ∙ ap (λ (ss : List Segment). joined ss address more) self_is

last_is : (address : ℕ) (bytes : List ℕ) → 0 < length bytes → last_stretch address bytes ≡ stretch address bytes ∷ []
last_is address [] some = absurd (omega arith)
last_is address (b ∷ bs) some = refl

pub begun : (done self pushed : List Segment) (start address : ℕ) (bytes more new : List ℕ) → done ++ last_stretch start bytes ≡ self → (bytes ≡ [] → ⊥) → (start + length bytes ≡ address → ⊥) → 0 < length more
    → pushed ≡ done ++ stretch start bytes ∷ [] → new ≡ more → pushed ++ last_stretch address new ≡ joined self address more
begun done self pushed start address [] more new self_is some gap filled pushed_is new_is = absurd (some refl)
begun done self pushed start address (b ∷ bs) more new self_is some gap filled pushed_is new_is =
    ap (λ (xs : List ℕ). pushed ++ last_stretch address xs) new_is
    ∙ ap (λ (ss : List Segment). pushed ++ ss) (last_is address more filled)
    ∙ ap (λ (ss : List Segment). ss ++ stretch address more ∷ []) pushed_is
    ∙ sym (joined_behind done start address (b ∷ bs) more gap)
    ∙ ap (λ (ss : List Segment). joined ss address more) self_is

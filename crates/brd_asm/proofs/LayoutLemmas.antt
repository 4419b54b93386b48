-- One line on: what stays of a layout, and what is new in it.
use Rattle.std.proofs.Common.{◌≡◌, ℕ, ◌+◌, ◌^◌, ◌<◌, ◌≤◌, Bool, true, false, not, cond, eqb, ltb, leb, List, [], ◌∷◌, ◌++◌, length, Option, None, Some, Ok, Err, refl, sym, ap, ◌∙◌, subst, inl, inr, arith, append_assoc, append-nil}
use Rattle.std.specs.Prelude.{ℤ, pos, negsuc, bytes_eq, is_some, ◌⊎◌, ◌&&◌, ◌%◌}
use Rattle.std.specs.List.{AllByRecursion}
use Rattle.std.proofs.lemmas.Bool.{cases_Bool, leb-true, and_parts, true≢false}
use Rattle.std.proofs.lemmas.Slice.Eq.{bytes_eq-Decides}
use Rattle.brd_text.specs.Bytes.{is_name}
use Rattle.brd_text.specs.Faults.{◌>>=◌}
use Rattle.brd_text.proofs.FaultLemmas.{bind_ok}
use Rattle.brd_base.specs.Space.{base, top}
use Rattle.brd_word.specs.declared.order.Order.{Order}
use Rattle.brd_source.specs.Statement.{Expression, Statement, Line}
use Rattle.brd_source.specs.Statement.Statement.{Nothing, WithoutEffect, ByteOrder, Instruct, Org, Align, Space, Data, Text, Equal}
use Rattle.brd_source.specs.Lines.{line_of}
use Rattle.brd_source.specs.Tokens.{tokens_of}
use Rattle.brd_source.proofs.LineForm.{said_line}
use Rattle.brd_source.proofs.Names as source_names
use Rattle.brd_asm.specs.declared.fault.AsmFault.{AsmFault}
use Rattle.brd_asm.specs.declared.fault.AsmFault.TheVariants as fault
use Rattle.brd_asm.specs.Values.{Name, named, value_of, known, within, up_to}
use Rattle.brd_asm.specs.Layout.{Content, Piece, Layout, Effect, size_of, alignment_of, gap, effect_of, own_name, is_defined, define, labelled, check_is_new, are_in_ram, overlaps, filled, happened, read, settled, placed, all_placed, nothing}
use Rattle.brd_asm.specs.Layout.Content.{Code, Values, Bytes, Zeros}
use Rattle.brd_asm.specs.Layout.Effect.{Stays, Moves, Equates, Fills}
use Rattle.brd_asm.proofs.PairLemmas.{all_push, Pairwise, pairs_push}
use Rattle.brd_asm.proofs.SpelledLemmas.{inside}

-- a test that was passed
pub not_refused : {A : Type 0} (b : Bool) (e : AsmFault) (x y : A) → cond b (Err e) (Ok x) ≡ Ok y → (b ≡ false) × (x ≡ y)
not_refused true e x y h = absurd (cc)
not_refused false e x y h = (refl, cc)

-- ---- one name more

abbrev entry : List ℕ → ℤ → Name
entry name value = record { name = name; value = value }

pub named_on : (names more : List Name) (name : List ℕ) (value : ℤ) → named names name ≡ Some value → named (names ++ more) name ≡ Some value
named_on [] more name value e = absurd (cc)
named_on (n ∷ names) more name value e =
    elim (cases_Bool (bytes_eq name n.name)) [
      | inl same ↦ rw same (rw same at e)
      | inr other ↦ rw other (named_on names more name value (rw other at e))
    ]

named_last : (names : List Name) (name : List ℕ) (value : ℤ) → is_some (named names name) ≡ false → named (names ++ entry name value ∷ []) name ≡ Some value
named_last [] name value e = rw ((bytes_eq-Decides name name).1 refl) refl
named_last (n ∷ names) name value e =
    elim (cases_Bool (bytes_eq name n.name)) [
      | inl same ↦ absurd (true≢false (rw same at e))
      | inr other ↦ rw other (named_last names name value (rw other at e))
    ]

abbrev pub Differ : Name → Name → Type 0
Differ n m = m.name ≡ n.name → ⊥

is_new : (names : List Name) (name : List ℕ) (value : ℤ) → is_some (named names name) ≡ false → AllByRecursion (λ n. Differ n (entry name value)) names
is_new [] name value e = tt
is_new (n ∷ names) name value e =
    elim (cases_Bool (bytes_eq name n.name)) [
      | inl same ↦ absurd (true≢false (rw same at e))
      | inr other ↦ (λ same. true≢false (sym ((bytes_eq-Decides name n.name).1 same) ∙ other), is_new names name value (rw other at e))
    ]

-- names, no two of them the same
pub record AreNames (names : List Name) : Type 0 where
  pub are : AllByRecursion (λ n. is_name n.name ≡ true) names
  pub differ : Pairwise Differ names

-- names that begin with these
pub record Adds (names after : List Name) : Type 0 where
  pub more : List Name
  pub after_is : after ≡ names ++ more

add_none : (names : List Name) → Adds names names
add_none names = record { more = []; after_is = sym (append-nil names) }

pub adds_all : (a b c : List Name) → Adds a b → Adds b c → Adds a c
adds_all a b c first then = record {
  more = first.more ++ then.more;
  after_is = then.after_is ∙ ap (λ (ns : List Name). ns ++ then.more) first.after_is ∙ append_assoc a first.more then.more;
}

pub still : (names after : List Name) (name : List ℕ) (value : ℤ) → Adds names after → named names name ≡ Some value → named after name ≡ Some value
still names after name value adds e = ap (λ (ns : List Name). named ns name) adds.after_is ∙ named_on names adds.more name value e

record Defines (value : ℤ) (name : List ℕ) (names after : List Name) : Type 0 where
  adds : Adds names after
  has : named after name ≡ Some value
  are : is_name name ≡ true → AreNames names → AreNames after

defines : (line : ℕ) (value : ℤ) (name : List ℕ) (names after : List Name) → define line value name names ≡ Ok after → Defines value name names after
unfolding define
defines line value name names after e =
    let p = not_refused (is_defined names name) (fault.Twice line) (names ++ entry name value ∷ []) after e in
    subst (λ (ns : List Name). Defines value name names ns) p.1 (record {
      adds = record { more = entry name value ∷ []; after_is = refl };
      has = named_last names name value p.0;
      are = λ is are. record {
        are = all_push (λ n. is_name n.name ≡ true) names (entry name value) are.are is;
        differ = pairs_push Differ names (entry name value) are.differ (is_new names name value p.0);
      };
    })

-- ---- the labels of a line

pub record Labels (place : ℕ) (labels : List (List ℕ)) (names after : List Name) : Type 0 where
  pub adds : Adds names after
  pub have : AllByRecursion (λ label. named after label ≡ Some (pos place)) labels
  pub are : AllByRecursion (λ name. is_name name ≡ true) labels → AreNames names → AreNames after

pub labels_are : (line place : ℕ) (labels : List (List ℕ)) (names after : List Name) → labelled line place labels names ≡ Ok after → Labels place labels names after
labels_are line place [] names after e = subst (λ (ns : List Name). Labels place [] names ns) (inside names after e) (record { adds = add_none names; have = tt; are = λ is are. are })
labels_are line place (label ∷ labels) names after e =
    let b = bind_ok (define line (pos place) label names) (labelled line place labels) after e in
    let first = defines line (pos place) label names b.0 b.1 in
    let others = labels_are line place labels b.0 after b.2 in
    record {
      adds = adds_all names b.0 after first.adds others.adds;
      have = (still b.0 after label (pos place) others.adds first.has, others.have);
      are = λ is are. others.are is.1 (first.are is.0 are);
    }

-- ---- what a statement does

-- a place is an address, and what gets a value is a name
abbrev IsEffect : Effect → Type 0
IsEffect Stays = Unit {0}
IsEffect (Moves place) = place < 2 ^ 32
IsEffect (Equates name value) = is_name name ≡ true
IsEffect (Fills content) = Unit {0}

-- a value that is at most high
pub at_most : (line high : ℕ) (v : ℤ) (n : ℕ) → up_to line high v ≡ Ok n → n ≤ high
unfolding up_to
at_most line high (pos m) n e =
    elim (cases_Bool (leb m high)) [
      | inl below ↦ subst (λ (k : ℕ). k ≤ high) (inside m n (rw below at e)) (leb-true m high below)
      | inr above ↦ absurd (refused n (rw above at e))
    ]
  where
    refused : (n : ℕ) → Err (fault.Range line) ≡ Ok n → ⊥
    refused n e = cc
at_most line high (negsuc m) n e = absurd (cc)

given : (made effect : Effect) → IsEffect made → made ≡ effect → IsEffect effect
given made effect is e = subst IsEffect e is

is_effect : (line place : ℕ) (names : List Name) (statement : Statement) (effect : Effect) → ((name : List ℕ) (value : Expression) → statement ≡ Equal name value → is_name name ≡ true) → effect_of line place names statement ≡ Ok effect → IsEffect effect
unfolding effect_of
is_effect line place names Nothing effect is e = given Stays effect tt (inside Stays effect e)
is_effect line place names WithoutEffect effect is e = given Stays effect tt (inside Stays effect e)
is_effect line place names (ByteOrder order) effect is e = given Stays effect tt (inside Stays effect e)
is_effect line place names (Instruct instruction) effect is e = given (Fills (Code instruction)) effect tt (inside (Fills (Code instruction)) effect e)
is_effect line place names (Org x) effect is e =
    let v = bind_ok (known line (value_of names x)) (λ v. up_to line 4294967295 v >>= λ n. Ok (Moves n)) effect e in
    let n = bind_ok (up_to line 4294967295 v.0) (λ n. Ok (Moves n)) effect v.2 in
    let most = at_most line 4294967295 v.0 n.0 n.1 in
    given (Moves n.0) effect (omega (arith, most)) (inside (Moves n.0) effect n.2)
is_effect line place names (Align x) effect is e =
    let v = bind_ok (known line (value_of names x)) (λ v. up_to line 12 v >>= λ n. Ok (Fills (Zeros (gap place (2 ^ n))))) effect e in
    let n = bind_ok (up_to line 12 v.0) (λ n. Ok (Fills (Zeros (gap place (2 ^ n))))) effect v.2 in
    given (Fills (Zeros (gap place (2 ^ n.0)))) effect tt (inside (Fills (Zeros (gap place (2 ^ n.0)))) effect n.2)
is_effect line place names (Space x) effect is e =
    let v = bind_ok (known line (value_of names x)) (λ v. up_to line 16777216 v >>= λ n. Ok (Fills (Zeros n))) effect e in
    let n = bind_ok (up_to line 16777216 v.0) (λ n. Ok (Fills (Zeros n))) effect v.2 in
    given (Fills (Zeros n.0)) effect tt (inside (Fills (Zeros n.0)) effect n.2)
is_effect line place names (Data width values) effect is e = given (Fills (Values width values)) effect tt (inside (Fills (Values width values)) effect e)
is_effect line place names (Text bytes) effect is e = given (Fills (Bytes bytes)) effect tt (inside (Fills (Bytes bytes)) effect e)
is_effect line place names (Equal name x) effect is e =
    let v = bind_ok (known line (value_of names x)) (λ v. within line (negsuc 2147483647) (pos 4294967295) v >>= λ n. Ok (Equates name n)) effect e in
    let n = bind_ok (within line (negsuc 2147483647) (pos 4294967295) v.0) (λ n. Ok (Equates name n)) effect v.2 in
    given (Equates name n.0) effect (is name x refl) (inside (Equates name n.0) effect n.2)

-- ---- one piece more

-- no address is filled by both
abbrev pub Apart : Piece → Piece → Type 0
Apart p q = (ltb p.place (q.place + size_of q.content) && ltb q.place (p.place + size_of p.content)) ≡ false

abbrev pub InRam : Piece → Type 0
InRam p = are_in_ram p.place (size_of p.content) ≡ true

abbrev piece_at : ℕ → ℕ → Content → Piece
piece_at place line content = record { place = place; line = line; content = content }

none_over : (pieces : List Piece) (line : ℕ) (content : Content) (place : ℕ) → overlaps pieces place (place + size_of content) ≡ false → AllByRecursion (λ p. Apart p (piece_at place line content)) pieces
none_over [] line content place e = tt
none_over (p ∷ pieces) line content place e =
    elim (cases_Bool (ltb p.place (place + size_of content) && ltb place (p.place + size_of p.content))) [
      | inl over ↦ absurd (true≢false (rw over at e))
      | inr apart ↦ (apart, none_over pieces line content place (rw apart at e))
    ]

-- what is after a statement that fills addresses
pub record Filled (line : ℕ) (content : Content) (s t : Layout) : Type 0 where
  pub in_ram : InRam (piece_at s.place line content)
  pub apart : AllByRecursion (λ p. Apart p (piece_at s.place line content)) s.pieces
  pub order_is : t.order ≡ s.order
  pub place_is : t.place ≡ s.place + size_of content
  pub names_are : t.names ≡ s.names
  pub pieces_are : t.pieces ≡ s.pieces ++ piece_at s.place line content ∷ []

by_tests : (empty ram aligned over : Bool) (a b c : AsmFault) (s u t : Layout) → cond empty (Ok s) (cond (not ram) (Err a) (cond (not aligned) (Err b) (cond over (Err c) (Ok u)))) ≡ Ok t
    → ((empty ≡ true) × (s ≡ t)) ⊎ ((ram ≡ true) × (over ≡ false) × (u ≡ t))
by_tests true ram aligned over a b c s u t e = inl (refl, inside s t e)
by_tests false false aligned over a b c s u t e = absurd (cc)
by_tests false true false over a b c s u t e = absurd (cc)
by_tests false true true true a b c s u t e = absurd (cc)
by_tests false true true false a b c s u t e = inr (refl, refl, inside u t e)

pub fills : (line : ℕ) (content : Content) (s t : Layout) → filled line content s ≡ Ok t → ((eqb (size_of content) 0 ≡ true) × (s ≡ t)) ⊎ Filled line content s t
unfolding filled
fills line content s t e =
    let after : Layout = record { order = s.order; place = s.place + size_of content; names = s.names; pieces = s.pieces ++ piece_at s.place line content ∷ [] } in
    elim (by_tests (eqb (size_of content) 0) (are_in_ram s.place (size_of content)) (eqb (s.place % alignment_of content) 0) (overlaps s.pieces s.place (s.place + size_of content)) (fault.Range line) (fault.Misaligned line) (fault.Overlap line) s after t e) [
      | inl stays ↦ inl stays
      | inr more ↦ inr (subst (λ (u : Layout). Filled line content s u) more.2 (record {
        in_ram = more.0;
        apart = none_over s.pieces line content s.place more.1;
        order_is = refl;
        place_is = refl;
        names_are = refl;
        pieces_are = refl;
      }))
    ]

-- ---- one line more

-- what holds of every layout
pub record IsSound (s : Layout) : Type 0 where
  pub place : s.place < 2 ^ 32
  pub names : AreNames s.names
  pub apart : Pairwise Apart s.pieces
  pub in_ram : AllByRecursion InRam s.pieces

-- a layout goes on: its names and pieces stay
pub record GoesOn (s t : Layout) : Type 0 where
  pub names : Adds s.names t.names
  pub more : List Piece
  pub pieces : t.pieces ≡ s.pieces ++ more
  pub sound : IsSound s → IsSound t

abbrev pub layout : Option Order → ℕ → List Name → List Piece → Layout
layout order place names pieces = record { order = order; place = place; names = names; pieces = pieces }

stays : (s : Layout) → GoesOn s s
stays s = record { names = add_none s.names; more = []; pieces = sym (append-nil s.pieces); sound = λ sound. sound }

goes_on_all : (s t u : Layout) → GoesOn s t → GoesOn t u → GoesOn s u
goes_on_all s t u first then = record {
  names = adds_all s.names t.names u.names first.names then.names;
  more = first.more ++ then.more;
  pieces = then.pieces ∙ ap (λ (ps : List Piece). ps ++ then.more) first.pieces ∙ append_assoc s.pieces first.more then.more;
  sound = λ sound. then.sound (first.sound sound);
}

names_go_on : (s : Layout) (order : Option Order) (names : List Name) → Adds s.names names → (AreNames s.names → AreNames names) → GoesOn s (layout order s.place names s.pieces)
names_go_on s order names adds are = record {
  names = adds;
  more = [];
  pieces = sym (append-nil s.pieces);
  sound = λ sound. record { place = sound.place; names = are sound.names; apart = sound.apart; in_ram = sound.in_ram };
}

pieces_go_on : (line : ℕ) (content : Content) (s t : Layout) → Filled line content s t → GoesOn s t
pieces_go_on line content s t fill = record {
  names = record { more = []; after_is = fill.names_are ∙ sym (append-nil s.names) };
  more = piece_at s.place line content ∷ [];
  pieces = fill.pieces_are;
  sound = λ sound.
      let ram = and_parts (leb base s.place) (leb (s.place + size_of content) top) fill.in_ram in
      record {
        place = omega (arith, fill.place_is, leb-true (s.place + size_of content) top ram.1);
        names = subst AreNames (sym fill.names_are) sound.names;
        apart = subst (λ (ps : List Piece). Pairwise Apart ps) (sym fill.pieces_are) (pairs_push Apart s.pieces (piece_at s.place line content) sound.apart fill.apart);
        in_ram = subst (λ (ps : List Piece). AllByRecursion InRam ps) (sym fill.pieces_are) (all_push InRam s.pieces (piece_at s.place line content) sound.in_ram fill.in_ram);
      };
}

happens : (line : ℕ) (effect : Effect) (s t : Layout) → IsEffect effect → happened line effect s ≡ Ok t → GoesOn s t
happens line Stays s t is e = subst (λ (u : Layout). GoesOn s u) (inside s t e) (stays s)
happens line (Moves place) s t is e = subst (λ (u : Layout). GoesOn s u) (inside (layout s.order place s.names s.pieces) t e) (record {
  names = add_none s.names;
  more = [];
  pieces = sym (append-nil s.pieces);
  sound = λ sound. record { place = is; names = sound.names; apart = sound.apart; in_ram = sound.in_ram };
})
happens line (Equates name value) s t is e =
    let b = bind_ok (define line value name s.names) (λ names. Ok (layout s.order s.place names s.pieces)) t e in
    let one = defines line value name s.names b.0 b.1 in
    subst (λ (u : Layout). GoesOn s u) (inside (layout s.order s.place b.0 s.pieces) t b.2) (names_go_on s s.order b.0 one.adds (one.are is))
happens line (Fills content) s t is e =
    elim (fills line content s t e) [
      | inl none ↦ subst (λ (u : Layout). GoesOn s u) none.1 (stays s)
      | inr fill ↦ pieces_go_on line content s t fill
    ]

-- what a line does, part by part
pub record OneLine (line : ℕ) (bytes : List ℕ) (s t : Layout) : Type 0 where
  pub said : Line
  pub says : line_of bytes ≡ Some said
  pub order : Option Order
  pub order_is : settled line said s.order ≡ Ok order
  pub names : List Name
  pub labels : Labels s.place said.labels s.names names
  pub effect : Effect
  pub effect_is : effect_of line s.place s.names said.statement ≡ Ok effect
  pub happens : happened line effect (record { order = order; place = s.place; names = names; pieces = s.pieces }) ≡ Ok t

was_read : (line : ℕ) (r : Option Line) (said : Line) → read line r ≡ Ok said → r ≡ Some said
was_read line (Some l) said e = ap (λ (l : Line). Some l) (inside l said e)
was_read line None said e = absurd (cc)

pub one_line : (line : ℕ) (bytes : List ℕ) (s t : Layout) → placed line bytes s ≡ Ok t → OneLine line bytes s t
unfolding placed
one_line line bytes s t e =
    let l = bind_ok (read line (line_of bytes)) (λ l. settled line l s.order >>= λ order. labelled line s.place l.labels s.names >>= λ names. check_is_new line (own_name l.statement) names >>= λ is_new. effect_of line s.place s.names l.statement >>= λ effect. happened line effect (layout order s.place names s.pieces)) t e in
    let o = bind_ok (settled line l.0 s.order) (λ order. labelled line s.place l.0.labels s.names >>= λ names. check_is_new line (own_name l.0.statement) names >>= λ is_new. effect_of line s.place s.names l.0.statement >>= λ effect. happened line effect (layout order s.place names s.pieces)) t l.2 in
    let n = bind_ok (labelled line s.place l.0.labels s.names) (λ names. check_is_new line (own_name l.0.statement) names >>= λ is_new. effect_of line s.place s.names l.0.statement >>= λ effect. happened line effect (layout o.0 s.place names s.pieces)) t o.2 in
    let f = bind_ok (check_is_new line (own_name l.0.statement) n.0) (λ is_new. effect_of line s.place s.names l.0.statement >>= λ effect. happened line effect (layout o.0 s.place n.0 s.pieces)) t n.2 in
    let x = bind_ok (effect_of line s.place s.names l.0.statement) (λ effect. happened line effect (layout o.0 s.place n.0 s.pieces)) t f.2 in
    record {
      said = l.0;
      says = was_read line (line_of bytes) l.0 l.1;
      order = o.0;
      order_is = o.1;
      names = n.0;
      labels = labels_are line s.place l.0.labels s.names n.0 n.1;
      effect = x.0;
      effect_is = x.1;
      happens = x.2;
    }

-- the statement, after the labels
pub statement_goes_on : (line : ℕ) (bytes : List ℕ) (s t : Layout) (one : OneLine line bytes s t) → GoesOn (layout one.order s.place one.names s.pieces) t
statement_goes_on line bytes s t one =
    let named = source_names.names (tokens_of bytes) one.said (said_line bytes one.said one.says) in
    let is = is_effect line s.place s.names one.said.statement one.effect named.equal one.effect_is in
    happens line one.effect (layout one.order s.place one.names s.pieces) t is one.happens

pub line_goes_on : (line : ℕ) (bytes : List ℕ) (s t : Layout) → OneLine line bytes s t → GoesOn s t
line_goes_on line bytes s t one =
    let said = source_names.names (tokens_of bytes) one.said (said_line bytes one.said one.says) in
    let named = names_go_on s one.order one.names one.labels.adds (one.labels.are said.labels) in
    goes_on_all s (layout one.order s.place one.names s.pieces) t named (statement_goes_on line bytes s t one)

-- ---- all lines

pub lines_go_on : (line : ℕ) (lines : List (List ℕ)) (s t : Layout) → all_placed line lines s ≡ Ok t → GoesOn s t
lines_go_on line [] s t e = subst (λ (u : Layout). GoesOn s u) (inside s t e) (stays s)
lines_go_on line (bytes ∷ lines) s t e =
    let b = bind_ok (placed line bytes s) (all_placed (line + 1) lines) t e in
    goes_on_all s b.0 t (line_goes_on line bytes s b.0 (one_line line bytes s b.0 b.1)) (lines_go_on (line + 1) lines b.0 t b.2)

-- the lines after some
pub lines_behind : (line : ℕ) (before lines : List (List ℕ)) (s t u : Layout) → all_placed line (before ++ lines) s ≡ Ok u → all_placed line before s ≡ Ok t → all_placed (line + length before) lines t ≡ Ok u
lines_behind line [] lines s t u whole front =
    let number : line + length {A = List ℕ} [] ≡ line = omega arith in
    rw number (subst (λ (v : Layout). all_placed line lines v ≡ Ok u) (inside s t front) whole)
lines_behind line (bytes ∷ before) lines s t u whole front =
    let b = bind_ok (placed line bytes s) (all_placed (line + 1) before) t front in
    let number : line + length (bytes ∷ before) ≡ line + 1 + length before = omega arith in
    rw number (lines_behind (line + 1) before lines b.0 t u (rw b.1 at whole) b.2)

nothing_is_sound : IsSound nothing
nothing_is_sound = record { place = omega arith; names = record { are = tt; differ = tt }; apart = tt; in_ram = tt }

pub all_sound : (lines : List (List ℕ)) (s : Layout) → all_placed 1 lines nothing ≡ Ok s → IsSound s
all_sound lines s e = (lines_go_on 1 lines nothing s e).sound nothing_is_sound

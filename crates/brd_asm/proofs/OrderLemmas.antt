-- The byte order of an image is the one that a line of its source names, or big-endian.
use Rattle.std.proofs.Common.{◌≡◌, ℕ, ◌+◌, Bool, true, false, not, eqb, List, [], ◌∷◌, ◌++◌, length, Option, Some, Ok, refl, sym, ap, ◌∙◌, inl, inr}
use Rattle.std.specs.Prelude.{is_some, ◌||◌}
use Rattle.std.specs.List.{AllByRecursion}
use Rattle.brd_text.specs.Lines.{lines_of}
use Rattle.brd_text.proofs.FaultLemmas.{bind_ok}
use Rattle.brd_word.specs.declared.order.Order.{Order}
use Rattle.brd_mem.specs.declared.image.Image.{Image}
use Rattle.brd_source.specs.Statement.{Statement, Line}
use Rattle.brd_source.specs.Statement.Statement.{Nothing, WithoutEffect, ByteOrder, Instruct, Org, Align, Space, Data, Text, Equal}
use Rattle.brd_asm.specs.declared.fault.AsmFault.TheVariants as fault
use Rattle.brd_asm.specs.Layout.{Layout, Content, Effect, define, filled, happened, settled_by, settled, order_by, placed, all_placed, nothing}
use Rattle.brd_asm.specs.Layout.Effect.{Stays, Moves, Equates, Fills}
use Rattle.brd_asm.specs.Image.{Program, program_of, IsImage}
use Rattle.brd_asm.specs.Laws.{NamesNoOrder, HasOrder}
use Rattle.brd_asm.proofs.LayoutLemmas.{not_refused, layout, fills, OneLine, one_line, lines_behind}
use Rattle.brd_asm.proofs.LawLemmas.{laid_out, said_is}
use Rattle.brd_asm.proofs.SpelledLemmas.{inside}

-- ---- what a line does to it

filled_keeps : (line : ℕ) (content : Content) (s t : Layout) → filled line content s ≡ Ok t → t.order ≡ s.order
filled_keeps line content s t e =
    elim (fills line content s t e) [
      | inl none ↦ ap (λ (u : Layout). u.order) (sym none.1)
      | inr fill ↦ fill.order_is
    ]

keeps : (line : ℕ) (effect : Effect) (s t : Layout) → happened line effect s ≡ Ok t → t.order ≡ s.order
keeps line Stays s t e = ap (λ (u : Layout). u.order) (sym (inside s t e))
keeps line (Moves place) s t e = ap (λ (u : Layout). u.order) (sym (inside (layout s.order place s.names s.pieces) t e))
keeps line (Equates name value) s t e =
    let b = bind_ok (define line value name s.names) (λ names. Ok (layout s.order s.place names s.pieces)) t e in
    ap (λ (u : Layout). u.order) (sym (inside (layout s.order s.place b.0 s.pieces) t b.2))
keeps line (Fills content) s t e = filled_keeps line content s t e

-- an order that is settled stays
settled_stays : (line : ℕ) (labelled : Bool) (order : Order) (statement : Statement) (next : Option Order) → settled_by line labelled (Some order) statement ≡ Ok next → next ≡ Some order
settled_stays line true order Nothing next e = sym (inside (Some order) next e)
settled_stays line false order Nothing next e = sym (inside (Some order) next e)
settled_stays line true order (ByteOrder named) next e = absurd (cc)
settled_stays line false order (ByteOrder named) next e = absurd (cc)
settled_stays line labelled order WithoutEffect next e = sym (inside (Some order) next e)
settled_stays line labelled order (Instruct instruction) next e = sym (inside (Some order) next e)
settled_stays line labelled order (Org x) next e = sym (inside (Some order) next e)
settled_stays line labelled order (Align x) next e = sym (inside (Some order) next e)
settled_stays line labelled order (Space x) next e = sym (inside (Some order) next e)
settled_stays line labelled order (Data width values) next e = sym (inside (Some order) next e)
settled_stays line labelled order (Text bytes) next e = sym (inside (Some order) next e)
settled_stays line labelled order (Equal name x) next e = sym (inside (Some order) next e)

stays_by : (line : ℕ) (labelled : Bool) (before : Option Order) (order : Order) (statement : Statement) (next : Option Order) → before ≡ Some order → settled_by line labelled before statement ≡ Ok next → next ≡ Some order
stays_by line labelled before order statement next is e = settled_stays line labelled order statement next (rw is at e)

-- without a .byteorder nothing else is settled than that
settled_so : (order : Option Order) (next : Option Order) → Some (order_by order) ≡ next → order_by next ≡ order_by order
settled_so order next e = ap (λ (o : Option Order). order_by o) (sym e)

unnamed_stays : (line : ℕ) (labelled : Bool) (order : Option Order) (statement : Statement) (next : Option Order) → ((named : Order) → statement ≡ ByteOrder named → ⊥) → settled_by line labelled order statement ≡ Ok next → order_by next ≡ order_by order
unnamed_stays line true order Nothing next none e = settled_so order next (inside (Some (order_by order)) next e)
unnamed_stays line false order Nothing next none e = ap (λ (o : Option Order). order_by o) (sym (inside order next e))
unnamed_stays line labelled order (ByteOrder named) next none e = absurd (none named refl)
unnamed_stays line labelled order WithoutEffect next none e = settled_so order next (inside (Some (order_by order)) next e)
unnamed_stays line labelled order (Instruct instruction) next none e = settled_so order next (inside (Some (order_by order)) next e)
unnamed_stays line labelled order (Org x) next none e = settled_so order next (inside (Some (order_by order)) next e)
unnamed_stays line labelled order (Align x) next none e = settled_so order next (inside (Some (order_by order)) next e)
unnamed_stays line labelled order (Space x) next none e = settled_so order next (inside (Some (order_by order)) next e)
unnamed_stays line labelled order (Data width values) next none e = settled_so order next (inside (Some (order_by order)) next e)
unnamed_stays line labelled order (Text bytes) next none e = settled_so order next (inside (Some (order_by order)) next e)
unnamed_stays line labelled order (Equal name x) next none e = settled_so order next (inside (Some (order_by order)) next e)

-- ---- lines

-- the order after a line is the one that it settled
behind_line : (line : ℕ) (bytes : List ℕ) (s t : Layout) (one : OneLine line bytes s t) → t.order ≡ one.order
behind_line line bytes s t one = keeps line one.effect (layout one.order s.place one.names s.pieces) t one.happens

stays_settled : (line : ℕ) (lines : List (List ℕ)) (s t : Layout) (order : Order) → all_placed line lines s ≡ Ok t → s.order ≡ Some order → t.order ≡ Some order
unfolding settled
stays_settled line [] s t order e is = ap (λ (u : Layout). u.order) (sym (inside s t e)) ∙ is
stays_settled line (bytes ∷ lines) s t order e is =
    let b = bind_ok (placed line bytes s) (all_placed (line + 1) lines) t e in
    let one = one_line line bytes s b.0 b.1 in
    let stays = stays_by line (not (eqb (length one.said.labels) 0)) s.order order one.said.statement one.order is one.order_is in
    stays_settled (line + 1) lines b.0 t order b.2 (behind_line line bytes s b.0 one ∙ stays)

stays_unnamed : (line : ℕ) (lines : List (List ℕ)) (s t : Layout) → all_placed line lines s ≡ Ok t → AllByRecursion (λ bytes. NamesNoOrder bytes) lines → order_by t.order ≡ order_by s.order
unfolding settled
stays_unnamed line [] s t e none = ap (λ (u : Layout). order_by u.order) (sym (inside s t e))
stays_unnamed line (bytes ∷ lines) s t e none =
    let b = bind_ok (placed line bytes s) (all_placed (line + 1) lines) t e in
    let one = one_line line bytes s b.0 b.1 in
    let stays = unnamed_stays line (not (eqb (length one.said.labels) 0)) s.order one.said.statement one.order (λ named is. none.0 one.said named one.says is) one.order_is in
    stays_unnamed (line + 1) lines b.0 t b.2 none.1 ∙ ap (λ (o : Option Order). order_by o) (behind_line line bytes s b.0 one) ∙ stays

-- a line with .byteorder settles the order that it names
settles : (line : ℕ) (said : Line) (before next : Option Order) (order : Order) → settled line said before ≡ Ok next → said.statement ≡ ByteOrder order → next ≡ Some order
unfolding settled
settles line said before next order e is =
    let named : settled_by line (not (eqb (length said.labels) 0)) before (ByteOrder order) ≡ Ok next = rw is at e in
    sym (not_refused (not (eqb (length said.labels) 0) || is_some before) (fault.Syntax line) (Some order) next named).1

-- the lines from one on, after what those before it placed
placed_on : (text : List ℕ) (number : ℕ) (before behind : List (List ℕ)) (bytes : List ℕ) (so_far s : Layout) → lines_of text ≡ before ++ bytes ∷ behind → number ≡ 1 + length before → all_placed 1 before nothing ≡ Ok so_far → all_placed 1 (lines_of text) nothing ≡ Ok s → all_placed number (bytes ∷ behind) so_far ≡ Ok s
placed_on text number before behind bytes so_far s lines number_is front whole = rw number_is (lines_behind 1 before (bytes ∷ behind) nothing so_far s (rw lines at whole) front)

pub orders : (text : List ℕ) (program : Program) (image : Image) → program_of text ≡ Ok program → IsImage program image → HasOrder text image
orders text program image e is =
    let s = laid_out text program e in
    let of_layout : image.order ≡ order_by s.0.order = is.order ∙ s.1.order in
    record {
      named = λ number place said order line says.
          let rest = placed_on text number line.before line.behind line.bytes line.so_far s.0 line.lines line.number_is line.placed s.1.placed in
          let b = bind_ok (placed number line.bytes line.so_far) (all_placed (number + 1) line.behind) s.0 rest in
          let one = one_line number line.bytes line.so_far b.0 b.1 in
          let same = said_is line.bytes said one.said line.says one.says in
          let named = settles number one.said line.so_far.order one.order order one.order_is (ap (λ (l : Line). l.statement) same ∙ says) in
          let last = stays_settled (number + 1) line.behind b.0 s.0 order b.2 (behind_line number line.bytes line.so_far b.0 one ∙ named) in
          of_layout ∙ ap (λ (o : Option Order). order_by o) last;
      unnamed = λ none. of_layout ∙ stays_unnamed 1 (lines_of text) nothing s.0 s.1.placed none;
    }

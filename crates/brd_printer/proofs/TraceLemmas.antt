-- What is told of some events, and then of those after them, is what is told of all.
use Rattle.std.proofs.Common.{◌≡◌, ℕ, ◌+◌, List, [], ◌∷◌, ◌++◌, refl, sym, ap, ◌∙◌, subst, append_assoc}
use Rattle.std.proofs.lemmas.List.{append-nil}
use Rattle.brd_board.specs.declared.event.Event.{Event}
use Rattle.brd_board.specs.Board.{BoardState}
use Rattle.brd_printer.specs.declared.printer.{Manner.Manner, Printer.Printer}
use Rattle.brd_printer.specs.Telling.{Piece, texts_of, AreTold, IsTold, IsTrace}
use Rattle.brd_listing.specs.Listing.{IsBehind}

chain : (manner : Manner) (boot : BoardState) (events : List Event) (from mid to : ℕ) (p q r : Printer) (before behind : List Piece)
    → AreTold manner boot events from p before mid q → AreTold manner boot events mid q behind to r
    → AreTold manner boot events from p (before ++ behind) to r
chain manner boot events from mid to p q r [] behind h more =
    subst (λ (n : ℕ). AreTold manner boot events n p behind to r) (sym h.0)
    (subst (λ (s : Printer). AreTold manner boot events mid s behind to r) (sym h.1) more)
chain manner boot events from mid to p q r (x ∷ xs) behind h more =
    (h.0, chain manner boot events (from + x.count) mid to x.printer q r xs behind h.1 more)

texts_on : (before behind : List Piece) → texts_of (before ++ behind) ≡ texts_of before ++ texts_of behind
texts_on [] behind = refl
texts_on (x ∷ xs) behind =
    ap (λ (them : List ℕ). x.text ++ them) (texts_on xs behind) ∙ sym (append_assoc x.text (texts_of xs) (texts_of behind))

-- ---- a trace

pub trace_nothing : (manner : Manner) (boot : BoardState) (events : List Event) (at : ℕ) (p : Printer)
    → IsTrace manner boot events at at p p []
trace_nothing manner boot events at p = record { pieces = []; told = (refl, refl); is_text = refl }

pub trace_one : (manner : Manner) (boot : BoardState) (events : List Event) (at count : ℕ) (p q : Printer) (text : List ℕ)
    → IsTold manner boot events at count p q text → IsTrace manner boot events at (at + count) p q text
trace_one manner boot events at count p q text told = record {
  pieces = record { count = count; printer = q; text = text } ∷ [];
  told = (told, (refl, refl));
  is_text = sym (append-nil text);
}

pub trace_on : (manner : Manner) (boot : BoardState) (events : List Event) (from mid to : ℕ) (p q r : Printer) (t u : List ℕ)
    → IsTrace manner boot events from mid p q t → IsTrace manner boot events mid to q r u
    → IsTrace manner boot events from to p r (t ++ u)
trace_on manner boot events from mid to p q r t u one more = record {
  pieces = one.pieces ++ more.pieces;
  told = chain manner boot events from mid to p q r one.pieces more.pieces one.told more.told;
  is_text = ap (λ (them : List ℕ). them ++ u) one.is_text ∙ ap (λ (them : List ℕ). texts_of one.pieces ++ them) more.is_text
      ∙ sym (texts_on one.pieces more.pieces);
}

-- ---- behind bytes that are there

pub puts_nothing : (manner : Manner) (boot : BoardState) (events : List Event) (at : ℕ) (p : Printer) (bytes : List ℕ)
    → IsBehind (IsTrace manner boot events at at p p) bytes bytes
puts_nothing manner boot events at p bytes = record {
  text = [];
  is_it = trace_nothing manner boot events at p;
  behind = sym (append-nil bytes);
}

pub puts_on : (manner : Manner) (boot : BoardState) (events : List Event) (from mid to : ℕ) (p q r : Printer) (a b c : List ℕ)
    → IsBehind (IsTrace manner boot events from mid p q) a b → IsBehind (IsTrace manner boot events mid to q r) b c
    → IsBehind (IsTrace manner boot events from to p r) a c
puts_on manner boot events from mid to p q r a b c one more = record {
  text = one.text ++ more.text;
  is_it = trace_on manner boot events from mid to p q r one.text more.text one.is_it more.is_it;
  behind = more.behind ∙ ap (λ (them : List ℕ). them ++ more.text) one.behind ∙ append_assoc a one.text more.text;
}

-- what is told of one event
pub puts_one : (manner : Manner) (boot : BoardState) (events : List Event) (at count to : ℕ) (p q : Printer) (a b : List ℕ)
    → to ≡ at + count → IsBehind (IsTold manner boot events at count p q) a b
    → IsBehind (IsTrace manner boot events at to p q) a b
puts_one manner boot events at count to p q a b ends told = record {
  text = told.text;
  is_it = subst (λ (n : ℕ). IsTrace manner boot events at n p q told.text) (sym ends)
      (trace_one manner boot events at count p q told.text told.is_it);
  behind = told.behind;
}

-- an event of which no line is made
pub puts_hidden : (manner : Manner) (boot : BoardState) (events : List Event) (at count to : ℕ) (p : Printer) (a : List ℕ)
    → to ≡ at + count → IsTold manner boot events at count p p [] → IsBehind (IsTrace manner boot events at to p p) a a
puts_hidden manner boot events at count to p a ends told =
    puts_one manner boot events at count to p p a a ends (record { text = []; is_it = told; behind = sym (append-nil a) })

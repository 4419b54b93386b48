-- Boards that a search keeps are of one size and order.
use Rattle.std.proofs.Common.{◌≡◌, ℕ, zero, suc, List, [], ◌∷◌, ◌++◌, refl, sym, ap, subst, ◌∙◌}
use Rattle.std.specs.Prelude.{Bool, true, false, not, All, Option, if◌then◌else◌}
use Rattle.std.proofs.lemmas.List.Elements.{All-push, All-weaker}
use Rattle.brd_board.specs.declared.event.Event.{Event}
use Rattle.brd_board.specs.declared.event.Report.{Report}
use Rattle.brd_board.specs.Board.{BoardState, Happened, happens, after}
use Rattle.brd_board.proofs.FormLemmas.{size-after, order-after}
use Rattle.brd_journal.specs.Still.{did_nothing}
use Rattle.brd_journal.proofs.StillLemmas.{happens-leaves}
use Rattle.brd_explore.specs.declared.search.Search.{Search}
use Rattle.brd_explore.specs.declared.bounds.Bounds.{Bounds}
use Rattle.brd_explore.specs.Schedules.{does, Place}
use Rattle.brd_explore.specs.declared.wanted.Wanted.{Wanted}
use Rattle.brd_explore.specs.Failures.{rounds, ended}
use Rattle.brd_explore.specs.Searching.{AreAlike, IsSized}

pub alike-after : (b : BoardState) (events : List Event) → AreAlike b (after b events)
alike-after b events = record { size = sym (size-after b events); order = sym (order-after b events) }

pub alike-both : (a b c : BoardState) → AreAlike a b → AreAlike b c → AreAlike a c
alike-both a b c one two = record { size = one.size ∙ two.size; order = one.order ∙ two.order }

-- the board becomes another one of its size
pub sized-moved : (s t : Search) → IsSized s → AreAlike s.board t.board → t.saved.items ≡ s.saved.items → t.spare.items ≡ s.spare.items → IsSized t
sized-moved s t sized alike saved spare = record {
  saved = subst (All (λ f. AreAlike f.board t.board)) (sym saved)
      (All-weaker (λ f. AreAlike f.board s.board) (λ f. AreAlike f.board t.board) (λ f is. alike-both f.board s.board t.board is alike) s.saved.items sized.saved);
  spare = subst (All (λ b. AreAlike b t.board)) (sym spare)
      (All-weaker (λ b. AreAlike b s.board) (λ b. AreAlike b t.board) (λ b is. alike-both b s.board t.board is alike) s.spare.items sized.spare);
}

pub pushed : {X : Type 0} (P : X → Type 0) (xs ys : List X) (x : X) (done : Bool) → ys ≡ (if done then xs ++ x ∷ [] else xs) → All P xs → P x → All P ys
pushed P xs ys x true is all one = subst (All P) (sym is) (All-push P xs x all one)
pushed P xs ys x false is all one = subst (All P) (sym is) all

-- an event that did nothing, and one that did something

pub none-done : (b now : BoardState) (event : Event) (told : Report) (none : Bool) → record { board = now; report = told } ≡ happens b event →
    none ≡ did_nothing told → none ≡ true → (does b event ≡ false) × (now ≡ b)
unfolding does
none-done b now event told none is nothing true' =
    let reports : did_nothing (happens b event).report ≡ true = ap (λ (h : Happened). did_nothing h.report) (sym is) ∙ sym nothing ∙ true' in
    (ap not reports, ap (λ (h : Happened). h.board) is ∙ happens-leaves b event reports)

pub some-done : (b now : BoardState) (event : Event) (told : Report) (none : Bool) → record { board = now; report = told } ≡ happens b event →
    none ≡ did_nothing told → none ≡ false → (does b event ≡ true) × (now ≡ (happens b event).board)
unfolding does
some-done b now event told none is nothing false' =
    let reports : did_nothing (happens b event).report ≡ false = ap (λ (h : Happened). did_nothing h.report) (sym is) ∙ sym nothing ∙ false' in
    (ap not reports, ap (λ (h : Happened). h.board) is)

pub alike-done : (b now : BoardState) (event : Event) (told : Report) → record { board = now; report = told } ≡ happens b event → AreAlike b now
alike-done b now event told is = subst (AreAlike b) (ap (λ (h : Happened). h.board) (sym is)) (alike-after b (event ∷ []))

pub alike-back : (a b : BoardState) → AreAlike a b → AreAlike b a
alike-back a b is = record { size = sym is.size; order = sym is.order }

-- the board becomes another one, and was put to the spare ones if there was memory for it
pub sized-put : (s t : Search) (b before : BoardState) (done : Bool) → IsSized s → AreAlike b s.board → t.board ≡ b → before ≡ s.board →
    t.saved.items ≡ s.saved.items → t.spare.items ≡ (if done then s.spare.items ++ before ∷ [] else s.spare.items) → IsSized t
sized-put s t b before done sized alike is was saved spare =
    let here : AreAlike s.board t.board = subst (AreAlike s.board) (sym is) (alike-back b s.board alike) in
    record {
      saved = subst (All (λ f. AreAlike f.board t.board)) (sym saved)
          (All-weaker (λ f. AreAlike f.board s.board) (λ f. AreAlike f.board t.board) (λ f is. alike-both f.board s.board t.board is here) s.saved.items sized.saved);
      spare = pushed (λ x. AreAlike x t.board) s.spare.items t.spare.items before done spare
          (All-weaker (λ x. AreAlike x s.board) (λ x. AreAlike x t.board) (λ x is. alike-both x s.board t.board is here) s.spare.items sized.spare)
          (subst (λ x. AreAlike x t.board) (sym was) here);
    }

pub same-place : (a b : BoardState) (l m : Bounds) (x y : Option ℕ) → a ≡ b → l ≡ m → x ≡ y →
    ◌≡◌ {A = Place} (record { board = a; left = l; last = x }) (record { board = b; left = m; last = y })
same-place a b l m x y board left last = cc

alike-rounds : (n : ℕ) (round : List Event) (b : BoardState) → AreAlike b (rounds n round b)
alike-rounds zero round b = record { size = refl; order = refl }
alike-rounds (suc n) round b = alike-both b (rounds n round b) (after (rounds n round b) round) (alike-rounds n round b) (alike-after (rounds n round b) round)

pub alike-ended : (wanted : Wanted) (b : BoardState) → AreAlike b (ended wanted b)
unfolding ended
alike-ended wanted b = alike-rounds wanted.rounds wanted.round b

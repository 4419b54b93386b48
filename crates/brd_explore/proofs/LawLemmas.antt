-- What is true of all schedules.
use Rattle.std.proofs.Common.{◌≡◌, List, [], ◌∷◌, ◌++◌, refl, sym, ap, ◌∙◌, inl, inr}
use Rattle.std.specs.Prelude.{Bool, true, false, not, if◌then◌else◌}
use Rattle.std.proofs.lemmas.Bool.{cases_Bool, false≢true}
use Rattle.brd_board.specs.declared.event.Event.{Event}
use Rattle.brd_board.specs.Board.{BoardState, happens, after}
use Rattle.brd_journal.specs.Still.{did_nothing}
use Rattle.brd_journal.proofs.StillLemmas.{happens-leaves}
use Rattle.brd_explore.specs.Schedules.{Place, does, next, place_after, IsWithin}

pub not-false : (b : Bool) → not b ≡ false → b ≡ true
not-false true is = refl
not-false false is = absurd (false≢true (sym is))

stays : (b : BoardState) (e : Event) → does b e ≡ false → (happens b e).board ≡ b
unfolding does
stays b e none = happens-leaves b e (not-false (did_nothing (happens b e).report) none)

pub board-after : (p : Place) (es : List Event) → (place_after p es).board ≡ after p.board es
board-after p [] = refl
board-after p (e ∷ es) = elim (cases_Bool (does p.board e)) [
  | inl did ↦ ap (λ test. (if test then place_after (next p e) es else place_after p es).board) did ∙ board-after (next p e) es
  | inr none ↦ ap (λ test. (if test then place_after (next p e) es else place_after p es).board) none
      ∙ board-after p es ∙ sym (ap (λ b. after b es) (stays p.board e none))
]

pub within-front : (among : List Event) (p : Place) (es more : List Event) → IsWithin among p (es ++ more) → IsWithin among p es
within-front among p [] more within = tt
within-front among p (e ∷ es) more within = (
  λ did. ((within.0 did).0, (within.0 did).1, within-front among (next p e) es more (within.0 did).2),
  λ none. within-front among p es more (within.1 none),
)

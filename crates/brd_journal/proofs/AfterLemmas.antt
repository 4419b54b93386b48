-- A board after some events and then others.
use Rattle.std.proofs.Common.{◌≡◌, List, [], ◌∷◌, ◌++◌, refl}
use Rattle.brd_board.specs.declared.event.Event.{Event}
use Rattle.brd_board.specs.Board.{BoardState, happens, after}

pub after-append : (b : BoardState) (front behind : List Event) → after b (front ++ behind) ≡ after (after b front) behind
after-append b [] behind = refl
after-append b (event ∷ front) behind = after-append (happens b event).board front behind

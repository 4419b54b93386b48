-- Places that are kept whole stay so.
use Rattle.std.proofs.Common.{◌≡◌, ℕ, List, [], ◌∷◌, ◌++◌, sym, ap, ◌∙◌, arith, length-append}
use Rattle.brd_mem.specs.Memory.{size_of}
use Rattle.brd_board.specs.declared.event.Event.{Event}
use Rattle.brd_board.specs.Board.{BoardState, after}
use Rattle.brd_board.specs.Snapshot.{SnapshotState}
use Rattle.brd_board.proofs.FormLemmas.{size-after, order-after}
use Rattle.brd_places.specs.declared.entry.Entry.{Entry}
use Rattle.brd_places.specs.declared.kept.Kept.{Kept}
use Rattle.brd_places.specs.Places.{AreAlike, AreKept, BeginsWith, IsSnapshotAt}
use Rattle.brd_places.proofs.PlaceLemmas.{board-more}

snapshot-more : (start : BoardState) (entries : List Entry) (entry : Entry) (i : ℕ) (s : SnapshotState) → IsSnapshotAt start entries i s →
    IsSnapshotAt start (entries ++ entry ∷ []) i s
snapshot-more start entries entry i s is = record {
  fits = is.fits;
  board = is.board ∙ sym (board-more start entries entry i is.within);
  within = omega (arith, is.within, length-append entries (entry ∷ []));
}

pub kept-more : (start : BoardState) (entries : List Entry) (entry : Entry) (kept : List Kept) → AreKept start entries kept →
    AreKept start (entries ++ entry ∷ []) kept
kept-more start entries entry kept are = λ i d within. snapshot-more start entries entry _ _ (are i d within)

pub begins-more : (start : BoardState) (entries : List Entry) (entry : Entry) → BeginsWith start entries →
    BeginsWith start (entries ++ entry ∷ [])
begins-more start entries entry begins = record {
  some = omega (arith, begins.some, length-append entries (entry ∷ []));
  first = board-more start entries entry 0 begins.some ∙ begins.first;
}

-- Events leave the size of RAM and its order.

pub alike-after : (a b start : BoardState) (events : List Event) → AreAlike a start → b ≡ after a events → AreAlike b start
alike-after a b start events alike is = record {
  size = ap (λ (x : BoardState). size_of x.memory) is ∙ size-after a events ∙ alike.size;
  order = ap (λ (x : BoardState). x.memory.order) is ∙ order-after a events ∙ alike.order;
}

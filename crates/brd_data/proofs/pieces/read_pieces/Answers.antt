use Rattle.std.proofs.Common.{◌≡◌, ℕ, ◌+◌, ◌<◌, List, [], ◌∷◌, ◌++◌, Bor, Result, get_or, length, map, sym, subst, take}
use Rattle.std.specs.Prelude.{Option}
use Rattle.std.specs.declared.io.Error.{Error}
use Rattle.std.proofs.lemmas.List.{map-append, take_more}
use Rattle.brd_mem.specs.declared.image.Segment.{Segment}
use Rattle.brd_mem.specs.declared.image.Symbol.{Symbol}
use Rattle.brd_data.specs.Data.{AreRead}
use Rattle.brd_data.specs.Data.AreRead.{none_yet, one_more}
use Rattle.brd_data.specs.Reading.{IsPiece}
use Rattle.brd_data.proofs.pieces.read_pieces.Goals as goal

-- one text more of which the file was read
more : {F R : Type 0} (opened : F → List ℕ → Result R Error → F → Type 0) (remaining : R → Option (List ℕ)) (symbols : List Symbol) (old between new : F)
    (texts : List (Bor (List ℕ))) (i : ℕ) (d : Bor (List ℕ)) (before after : List Segment) → i < length texts →
    AreRead opened remaining symbols old (map (λ text. text.now) (take i texts)) before between →
    IsPiece opened remaining symbols between (get_or texts i d).now before after new →
    AreRead opened remaining symbols old (map (λ text. text.now) (take (i + 1) texts)) after new
more opened remaining symbols old between new texts i d before after below read piece =
    let text : List ℕ = (get_or texts i d).now in
    let all = one_more text piece.place piece.file piece.address piece.is_read.reader piece.bytes read piece.is_part piece.is_address
    piece.is_read.opens piece.is_read.has in
    rw (take_more texts i d below, map-append (λ (it : Bor (List ℕ)). it.now) (take i texts) (get_or texts i d ∷ []))
    (subst (λ (it : List Segment). AreRead opened remaining symbols old (map (λ text. text.now) (take i texts) ++ text ∷ []) it new)
    (sym piece.is) all)

pub loop-text-init : goal.loop-text-init
loop-text-init g c = record { read = rw c.new-pieces.ensures none_yet; within = rw c.new-pieces.ensures tt }

pub loop-text-preserved : goal.loop-text-preserved
loop-text-preserved g c = record {
  read = more _ _ _ _ _ _ _ _ _ _ _ c.loop-text-test.true c.loop-text.invariant.read c.in-Ok.ensures.read;
  within = c.in-Ok.ensures.within;
}

-- Where no place of a closed tree fails, no schedule does.
use Rattle.std.proofs.Common.{refl, sym, subst, ◌∙◌}
use Rattle.std.proofs.lemmas.Bool.{false≢true}
use Rattle.brd_board.specs.Board.{after}
use Rattle.brd_explore.specs.Schedules.{Place, start, place_after}
use Rattle.brd_frames.specs.Reducing.{Reaches, ReductionLaw}
use Rattle.brd_places.specs.declared.left.Left.{Left}
use Rattle.brd_reach.specs.Reaching.{bounds_of, pays, ClosedLaw}
use Rattle.brd_reach.proofs.WayLemmas.{left_of, Way, way}
use Rattle.brd_reach.proofs.AlikeLemmas.{Alike, alike-lags, fails-behind}

pub none-fails : ReductionLaw → ClosedLaw
none-fails law by among wanted In left b none closed there events preemptions es within fails =
    let p : Place = start b (bounds_of left events preemptions) in
    let to : Place = place_after p es in
    let rest : Left = left_of to.left in
    let taken : Way among p to = way among p es within in
    let reached : Reaches by (In rest) (after b taken.done) =
    law by Left (pays among) In left rest b taken.done closed.tree there taken.pays in
    let it : Alike by reached.place to.board =
    subst (Alike by reached.place) taken.is (alike-lags by reached.place (after b taken.done) reached.lagging reached.lags) in
    false≢true
    (sym (closed.holds rest reached.place reached.there)
    ∙ fails-behind by wanted reached.place to.board (bounds_of rest 0 0) to.left none closed.guards it refl fails)

use Rattle.std.proofs.Common.{ap, subst, ◌∙◌}
use Rattle.std.specs.Prelude.{slice_get, replicate}
use Rattle.brd_board.specs.Board.{after}
use Rattle.brd_places.specs.Places.{place_after}
use Rattle.brd_reach.specs.Rounds.{IsMore}
use Rattle.brd_reach.proofs.RoundLemmas.{added-more, added-there}
use Rattle.brd_reach.proofs.visit.note.Goals as goal

pub returns-clause-more : goal.returns-clause-more
returns-clause-more c = λ place there.
    subst (λ xs. IsMore xs c.add-3.new.self) c.find.ensures.same
    (added-more c.find.new.self c.add-3.new.self (place_after place.board c.args.event c.args.count c.args.left) c.add-3.result
    (c.add-3.ensures.ok place (ap (λ xs. slice_get xs c.args.at) c.find.ensures.same ∙ there)) c.add-3.ensures.err)

pub returns-clause-there : goal.returns-clause-there
returns-clause-there c = λ place there is.
    added-there c.find.new.self c.add-3.new.self c.args.left c.args.board.now (after place.board (replicate c.args.count c.args.event)) c.add-3.result
    (c.add-3.ensures.ok place (ap (λ xs. slice_get xs c.args.at) c.find.ensures.same ∙ there)) is

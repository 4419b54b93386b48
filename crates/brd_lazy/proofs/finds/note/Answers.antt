use Rattle.brd_spots.specs.Spots.{spot_of}
use Rattle.brd_lazy.proofs.FoundLemmas.{found-is-known, found-is-more, known-with}
use Rattle.brd_lazy.proofs.finds.note.Goals as goal

pub returns-then-branch-clause-known : goal.returns-then-branch-clause-known
returns-then-branch-clause-known c = λ p there leads.
    known-with c.args.spots.now c.args.finds.now.items (spot_of c.args.board.now c.args.find.margin) (c.in_ok-is_known.ensures c.if-branch.true)

pub returns-clause-more : goal.returns-clause-more
returns-clause-more c = found-is-more c.args.spots.now c.args.finds.now.items c.push.new.self.items c.args.find c.in_ok-push.ensures.items

pub returns-clause-known : goal.returns-clause-known
returns-clause-known c = λ p there leads.
    found-is-known c.args.spots.now c.args.finds.now.items c.push.new.self.items c.args.find c.args.board.now p c.in_ok-push.ensures.items there leads

use Rattle.std.specs.Prelude.{map}
use Rattle.brd_asm.specs.View as seen
use Rattle.brd_asm.proofs.PieceLemmas.{pieces_push}
use Rattle.brd_asm.proofs.IndexLemmas.{ranges_more}
use Rattle.brd_asm.proofs.pieces.Pieces.push.Goals as goal

pub invariant_of-self-in_default : goal.invariant_of-self-in_default
invariant_of-self-in_default c =
    rw (c.in_default.ensures.ok, c.in_ok-push.ensures.items, pieces_push c.self.inside.pieces.items c.args.piece)
    (ranges_more c.self.inside.ranges (map seen.piece c.self.inside.pieces.items) (seen.piece c.args.piece) c.args.size c.size.result c.self.invariant c.requires.size_is c.size.ensures.is (rw c.self.view_is c.requires.apart))

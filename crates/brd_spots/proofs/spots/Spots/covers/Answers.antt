use Rattle.std.proofs.Common.{◌<◌, length, ◌∙◌, arith}
use Rattle.std.proofs.lemmas.Option.{get_or_from_slice_get}
use Rattle.brd_spots.proofs.SpotLemmas.{covers-known, margin-there}
use Rattle.brd_spots.proofs.spots.Spots.covers.Goals as goal

pub returns : goal.returns
returns c =
    let within : c.args.i < length c.self.inside.margins.items = omega (arith, c.if-i-len.false, c.len.ensures) in
    covers-known c.self.inside.boards c.self.inside.margins.items c.args.self.now c.args.i c.args.board.now
    c.index.result.now c.args.margin c.is_board.result c.self.view_is c.self.invariant
    (margin-there c.self.inside.margins.items c.args.i c.index.result.now within
    (λ m is. c.index.ensures ∙ get_or_from_slice_get c.self.inside.margins.items c.args.i m _ is))
    c.is_board.ensures (c.is_enough.ensures c.if-not-is_enough.false)

use Rattle.std.proofs.Common.{ap, ◌∙◌}
use Rattle.brd_board.specs.Board.{happens}
use Rattle.brd_explore.specs.Searching.{place_of}
use Rattle.brd_explore.proofs.ShardLemmas.{comes-tried}
use Rattle.brd_explore.proofs.search.Search.comes.Goals as goal

pub returns : goal.returns
returns c = comes-tried (place_of c.args.self.now) c.args.event c.event_apart.new.self c.event_apart.result c.affords.result c.did_nothing.result
    c.affords.ensures c.if-not-affords.false (c.event_apart.ensures ∙ ap (λ b. happens b c.args.event) c.in_ok-copy.ensures) c.did_nothing.ensures

use Rattle.std.proofs.Common.{refl, ◌∙◌}
use Rattle.std.specs.Prelude.{is_ok}
use Rattle.brd_explore.proofs.SizeLemmas.{sized-put}
use Rattle.brd_explore.proofs.search.Search.put_back.Goals as goal

pub returns-clause-sized : goal.returns-clause-sized
returns-clause-sized c = sized-put c.args.self.now _ c.args.saved.board c.replace-before.result (is_ok c.push.result) c.requires.sized c.requires.alike
    (c.replace-before.ensures.after ∙ c.into_board.ensures) c.replace-before.ensures.value refl c.push.ensures.items

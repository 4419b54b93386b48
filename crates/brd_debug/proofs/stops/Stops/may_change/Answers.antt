use Rattle.std.proofs.Common.{sym, ◌∙◌, inr}
use Rattle.brd_board.proofs.StoringLemmas.{same-happens}
use Rattle.brd_debug.proofs.stops.Stops.may_change.Goals as goal

pub returns : goal.returns
returns c = λ none. inr (same-happens c.args.board.now c.args.event (sym c.may_store.ensures ∙ none))

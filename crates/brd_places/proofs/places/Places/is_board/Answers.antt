use Rattle.std.proofs.Common.{sym, ◌∙◌}
use Rattle.brd_places.proofs.places.Places.is_board.Goals as goal

pub returns : goal.returns
returns c = λ place is yes. sym (c.in_ok-put.ensures place is) ∙ c.same.ensures.0 yes

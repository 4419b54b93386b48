use Rattle.std.proofs.Common.{refl}
use Rattle.brd_link.specs.Layout.{links_of}
use Rattle.brd_link.proofs.Links.new.Goals as goal

pub returns : goal.returns
unfolding links_of
returns c = refl

use Rattle.std.proofs.Common.{sym, ap, subst, ◌∙◌}
use Rattle.brd_spots.specs.Spots.{spot_of}
use Rattle.brd_spots.proofs.KnownLemmas.{here-is}
use Rattle.brd_only.specs.Finding.{IsDone}
use Rattle.brd_only.proofs.visit.visit.Goals as goal

pub try_all-requires : goal.try_all-requires
try_all-requires c =
    here-is c.args.spots.now c.args.at c.put.new.board c.in-Some.margin c.requires c.in_ok-put.ensures c.in-Some.ensures

pub returns-clause-so : goal.returns-clause-so
returns-clause-so c = λ p is.
    subst (IsDone c.args.among.now c.args.regions.now c.args.wanted.now c.try_all.new.spots)
    (ap (λ b. spot_of b c.in-Some.margin) (c.in_ok-put.ensures p is) ∙ c.in-Some.ensures p is)
    (record { holds = sym c.in_ok-fails_at.ensures ∙ c.if-branch.false; gone = c.in_ok-try_all.ensures.gone })

use Rattle.brd_places.proofs.kept.+made.Given as goal

abbrev pub decreases-made : goal.decreases-made
decreases-made l = l.i

use Rattle.brd_places.proofs.kept.+put_back.Given as goal

abbrev pub decreases-put_back : goal.decreases-put_back
decreases-put_back l = l.i

use Rattle.test_explore.proofs.tests.only.+one_fails.Given as goal

abbrev pub decreases-one_fails : goal.decreases-one_fails
decreases-one_fails l = l.depth

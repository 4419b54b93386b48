-- The board has gone on by so many rounds.
use Rattle.std.specs.Prelude.{◌≡◌}
use Rattle.brd_explore.specs.Failures.{rounds}
use Rattle.brd_explore.proofs.wanted.Wanted.play_fairly.Given as goal

abbrev pub invariant-loop : goal.invariant-loop
invariant-loop l = l.board ≡ rounds l.counter l.self.round l.fn.board

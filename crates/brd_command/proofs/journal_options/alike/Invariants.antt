use Rattle.std.proofs.Common.{◌≡◌, replicate}
use Rattle.brd_command.specs.JournalTexts.{eight}
use Rattle.brd_command.proofs.journal_options.alike.Given as goal

abbrev pub invariant-loop-place : goal.invariant-loop-place
invariant-loop-place l = l.weights ≡ eight l.place (replicate l.place 1)

-- the weights of the pieces so far
use Rattle.std.specs.Prelude.{option_map}
use Rattle.brd_text.specs.Pieces.{pieces_behind}
use Rattle.brd_command.proofs.JournalLemmas.{HasWeighed}
use Rattle.brd_command.proofs.journal_options.weights_in.Given as goal

abbrev pub invariant-loop-place : goal.invariant-loop-place
invariant-loop-place l = HasWeighed l.text l.place l.weights (pieces_behind (option_map (λ it. it.now) l.rest))

use Rattle.std.proofs.Common.{◌≡◌, ◌==◌, length}
use Rattle.std.specs.Prelude.{option_map}
use Rattle.std.specs.List.{slice_split}
use Rattle.brd_gdb.specs.Reading.{first_step, move_of}
use Rattle.brd_gdb.proofs.actions.first_move.Given as goal

-- the move so far, or that of the actions that are left
abbrev pub invariant-loop-next : goal.invariant-loop-next
invariant-loop-next l =
    option_map (first_step l.found) (move_of (slice_split (λ byte. byte == 59) l.left))
    ≡ move_of (slice_split (λ byte. byte == 59) l.text)

abbrev pub decreases-loop-next : goal.decreases-loop-next
decreases-loop-next l = length l.left

-- What is left to do leads to what all of it leads to.
use Rattle.std.proofs.Common.{◌≡◌, ◌-◌, ◌==◌, filter}
use Rattle.std.specs.Int.{bit_at}
use Rattle.std.specs.List.{range_with_len}
use Rattle.brd_link.specs.LinkSet.{without_all}
use Rattle.brd_board.proofs.links.end_links.Given as goal

abbrev pub invariant-loop-cpu : goal.invariant-loop-cpu
invariant-loop-cpu l =
    without_all l.links (filter (λ cpu. bit_at l.changed (cpu - 1) == 1) (range_with_len l.cpu (9 - l.cpu)))
    ≡ without_all l.fn.links (filter (λ cpu. bit_at l.changed (cpu - 1) == 1) (range_with_len 1 8))

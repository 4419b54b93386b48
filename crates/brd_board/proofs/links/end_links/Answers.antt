use Rattle.std.proofs.Common.{◌-◌, ◌==◌, ◌∙◌, ap}
use Rattle.std.specs.Prelude.{if◌then◌else◌}
use Rattle.std.specs.Int.{bit_at}
use Rattle.brd_link.specs.LinkSet.{without}
use Rattle.brd_board.proofs.LinkLemmas.{ended-next}
use Rattle.brd_board.proofs.links.end_links.Goals as goal

pub loop-cpu-preserved : goal.loop-cpu-preserved
loop-cpu-preserved c =
    ended-next (λ cpu. bit_at c.args.changed (cpu - 1) == 1) c.loop-cpu.cpu c.loop-cpu.links c.end_if.new.links _ c.loop-cpu-test.true
    (c.end_if.ensures ∙ ap (λ t. if t then without c.loop-cpu.links c.loop-cpu.cpu else c.loop-cpu.links) c.is_set.ensures) c.loop-cpu.invariant

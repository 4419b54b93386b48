use Rattle.std.proofs.Common.{ℕ, ◌+◌, ◌-◌, ◌^◌, min, ap, ◌∙◌, arith}
use Rattle.std.specs.Prelude.{Option, unwrap_or}
use Rattle.brd_running.proofs.TurnsLemmas.{no_steps, steps_next}
use Rattle.brd_running.proofs.turns.Turns.of.Goals as goal

pub loop-cpu-init : goal.loop-cpu-init
loop-cpu-init g c = no_steps c.args.station.now

pub loop-cpu-preserved : goal.loop-cpu-preserved
loop-cpu-preserved g c =
    steps_next c.args.station.now c.loop-cpu.cpu c.loop-cpu.steps c.saturating_add-steps.result (omega arith) c.loop-cpu.invariant
    (c.saturating_add-steps.ensures
    ∙ ap (λ (n : ℕ). min (c.loop-cpu.steps + n) (2 ^ 64 - 1)) (c.unwrap_or.ensures ∙ ap (λ (o : Option ℕ). unwrap_or o 0) c.steps.ensures))

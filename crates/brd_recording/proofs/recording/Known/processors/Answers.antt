use Rattle.std.proofs.Common.{true, false, ap, sym, ◌∙◌, ◌++◌, append-nil, arith}
use Rattle.std.specs.Prelude.{filter, is_some}
use Rattle.std.specs.List.{range_with_len}
use Rattle.brd_recording.specs.Slices.{is_there}
use Rattle.brd_recording.proofs.LanesLemmas.{next-there, all-there}
use Rattle.brd_recording.proofs.recording.Known.processors.Goals.{then-is_some+in_ok-push, else-is_some}
use Rattle.brd_recording.proofs.recording.Known.processors.Goals as goal

pub loop-cpu-init : goal.loop-cpu-init
loop-cpu-init c =
    ap (λ cpus. cpus ++ filter (is_there c.args.self.now.standings.now.of) (range_with_len 1 8)) c.new-processors.ensures.items
    ∙ all-there c.args.self.now.standings.now.of

pub loop-cpu-preserved : goal.loop-cpu-preserved
loop-cpu-preserved c =
    let there = is_there c.args.self.now.standings.now.of in
    let is = ap is_some (sym c.at.ensures) ∙ sym c.is_some.ensures in
    elim c.if-is_some.branch [
      | then-is_some+in_ok-push w ↦
          next-there there c.loop-cpu.cpu 9 true c.loop-cpu.processors.items c.if-is_some.processors.items _ c.loop-cpu-test.true
          (is ∙ w.if-is_some.true) (ap (λ cpus. cpus.items) w.processors-is ∙ w.in_ok-push.ensures.items) c.loop-cpu.invariant
      | else-is_some w ↦
          next-there there c.loop-cpu.cpu 9 false c.loop-cpu.processors.items c.if-is_some.processors.items _ c.loop-cpu-test.true
          (is ∙ w.if-is_some.false) (ap (λ cpus. cpus.items) w.processors-is ∙ sym (append-nil c.loop-cpu.processors.items)) c.loop-cpu.invariant
    ]

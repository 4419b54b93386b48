use Rattle.std.proofs.Common.{◌-◌, Some, sym, ap, ◌∙◌, arith}
use Rattle.brd_exec.specs.Went.{Machine, went}
use Rattle.brd_fast.proofs.GoneLemmas.{Gone, gone-may, gone-on, gone-is}
use Rattle.brd_fast.proofs.steps.known_steps.Goals as goal
use Rattle.brd_fast.proofs.steps.known_steps.Goals.{else-lines-test, then-lines-test+then-steps-test+then-not-step, then-lines-test+else-steps-test+then-not-goes_on}

pub steps-preserved : goal.steps-preserved
steps-preserved c =
    gone-may c.args.cpu c.args.count c.args.known.now
    (record { state = c.args.context.now; memory = c.args.ram.now; links = c.args.links.now })
    c.steps.context c.steps.ram c.steps.links c.steps.line c.step.result c.step.new.context c.step.new.ram c.step.new.links
    c.step.new.line c.steps.invariant c.step.ensures.step c.step.ensures.leaves

pub lines-preserved : goal.lines-preserved
lines-preserved c =
    gone-on c.args.cpu c.args.count c.args.known.now
    (record { state = c.args.context.now; memory = c.args.ram.now; links = c.args.links.now })
    c.steps.context c.steps.ram c.steps.links c.steps.line c.goes_on.new.self c.steps.invariant
    (c.goes_on.ensures c.args.cpu c.steps.context c.steps.links)

-- where the loops end
ended : (c : goal.After-left) → Gone c.args.cpu c.args.count c.args.known.now
    (record { state = c.args.context.now; memory = c.args.ram.now; links = c.args.links.now })
    c.lines-test.context c.lines-test.ram c.lines-test.links c.lines-test.line
ended c =
    let cpu = c.args.cpu in
    let count = c.args.count in
    let known = c.args.known.now in
    let first : Machine = record { state = c.args.context.now; memory = c.args.ram.now; links = c.args.links.now } in
    let end = c.lines-test in
    elim c.lines-test.branch [
      | else-lines-test w ↦
          gone-is cpu count known first _ _ _ _ end.context end.ram end.links end.line c.lines.invariant w.context-is w.ram-is
          w.links-is w.line-is
      | then-lines-test+then-steps-test+then-not-step w ↦
          gone-is cpu count known first _ _ _ _ end.context end.ram end.links end.line
          (gone-may cpu count known first w.steps.context w.steps.ram w.steps.links w.steps.line w.step.result w.step.new.context
          w.step.new.ram w.step.new.links w.step.new.line w.steps.invariant w.step.ensures.step w.step.ensures.leaves)
          w.context-is w.ram-is w.links-is w.line-is
      | then-lines-test+else-steps-test+then-not-goes_on w ↦
          gone-is cpu count known first _ _ _ _ end.context end.ram end.links end.line
          (gone-on cpu count known first w.steps.context w.steps.ram w.steps.links w.steps.line w.goes_on.new.self
          w.steps.invariant (w.goes_on.ensures cpu w.steps.context w.steps.links))
          w.context-is w.ram-is w.links-is w.line-is
    ]

pub overflow_sub-result : goal.overflow_sub-result
overflow_sub-result c = omega (arith, (ended c).few, c.left.ensures)

pub returns-clause-steps : goal.returns-clause-steps
returns-clause-steps c =
    let first : Machine = record { state = c.args.context.now; memory = c.args.ram.now; links = c.args.links.now } in
    ap (λ left. went c.args.cpu (c.args.count - left) first) c.left.ensures ∙ (ended c).leads
    ∙ ap (λ s. Some (record { state = s; memory = c.lines-test.ram; links = c.lines-test.links })) (sym c.put.ensures)

use Rattle.std.proofs.Common.{◌≡◌, ◌<◌, length, subst, sym, arith}
use Rattle.std.specs.Prelude.{Ok}
use Rattle.brd_isa.specs.Decoding.{decoded}
use Rattle.brd_mem.specs.Access.{fetched, read_raw}
use Rattle.brd_entries.specs.Means.{Means}
use Rattle.brd_fast.specs.Known.{IsRight}
use Rattle.brd_fast.specs.Place.{state_of}
use Rattle.brd_fast.specs.Steps.{machine_at}
use Rattle.brd_fast.proofs.StepLemmas.{entry-steps, step-alike}
use Rattle.brd_fast.proofs.steps.step.Goals as goal

pub returns-clause-step : goal.returns-clause-step
returns-clause-step c =
    let order = c.args.ram.now.order in
    let known = c.index-known-at.result in
    let inside : c.at-at.result < length c.args.known.now = omega (arith, c.at-at.ensures.inside, c.requires.long) in
    let right = subst (λ k. IsRight order k) (sym c.index-known-at.is) (c.requires.right c.at-at.result known inside) in
    entry-steps known.entry c.args.cpu (state_of c.args.context.now c.args.line.now) c.args.ram.now c.args.links.now
    (read_raw order c.raw_at.result) c.carry_out.result (state_of c.carry_out.new.context c.carry_out.new.line)
    c.carry_out.new.ram c.carry_out.new.links
    (subst (λ pc. fetched c.args.ram.now pc ≡ Ok (read_raw order c.raw_at.result)) (sym c.at-at.ensures.is) c.raw_at.ensures)
    (subst (λ raw. ∥ Means known.entry (decoded (read_raw order raw)) ∥₁) c.if-known-raw_at.false right)
    c.carry_out.ensures.is

pub returns-clause-alike : goal.returns-clause-alike
returns-clause-alike c =
    step-alike c.args.cpu (machine_at c.args.context.now c.args.ram.now c.args.links.now c.args.line.now) c.carry_out.result
    (machine_at c.carry_out.new.context c.carry_out.new.ram c.carry_out.new.links c.carry_out.new.line)
    (returns-clause-step c)

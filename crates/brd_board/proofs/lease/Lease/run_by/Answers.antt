use Rattle.std.proofs.Common.{◌≡◌, ◌+◌, Some, subst, arith}
use Rattle.brd_exec.specs.Lent.{lent}
use Rattle.brd_lent.specs.Most as words
use Rattle.brd_board.specs.Lease.{LeaseState, DoesMost, lent_more}
use Rattle.brd_board.proofs.LeaseLemmas.{done-most, more-led}
use Rattle.brd_board.proofs.lease.Lease.run_by.Goals as goal

pub invariant_of-self : goal.invariant_of-self
invariant_of-self c =
    let l = c.self.inside in
    let old : LeaseState = record { cpu = l.cpu; block = l.block; window = l.window; len = l.len; context = l.context } in
    let after = c.run-done.new.context in
    let led : lent_more old c.run-done.result ≡ Some after =
    subst (λ start. lent c.run-done.result l.context l.window start ≡ Some after) c.self.invariant.1 c.run-done.ensures.led in
    (more-led old c.run-done.result after c.self.invariant.0 led (omega (arith, c.run-done.ensures.few)), c.self.invariant.1)

pub returns : goal.returns
returns c =
    let l = c.self.inside in
    let old : LeaseState = record { cpu = l.cpu; block = l.block; window = l.window; len = l.len; context = l.context } in
    let after = c.run-done.new.context in
    let done = c.run-done.result in
    subst (λ (was : LeaseState). DoesMost c.args.limit was (record old { len = l.len + done; context = after }) done) c.self.view_is
    (done-most c.args.limit c.min-most.result done old after (omega arith) (omega arith) (λ count within room. omega (arith, within, room))
    (subst (λ start. words.DoesMost l.window start c.min-most.result l.context after done) c.self.invariant.1 c.run-done.ensures))

use Rattle.std.proofs.Common.{rules, ℕ, ◌≤◌, subst}
use Rattle.brd_running.proofs.ShrinkLemmas.{told_shrunk}
use Rattle.brd_running.proofs.shrink_command.told_of.Goals as goal

pub returns : goal.returns
returns c =
    told_shrunk c.args.options c.args.start.now c.in-Ok.wanted c.in-Ok-events_of.events.items c.in_ok-left.left.items
    c.told_left.result (search rules)
    (subst (λ (n : ℕ). n ≤ 8) c.processors-cpus.ensures.is c.processors-cpus.ensures.few)
    c.in-Ok-events_of.ensures.same c.in-Ok-events_of.ensures.few c.in_ok-left.ensures.fails
    (rw c.deref-2.ensures.value at c.in_ok-left.ensures.some) (rw c.deref-2.ensures.value at c.in_ok-left.ensures.shorter)
    c.in_ok-left.ensures.least (rw c.deref-2.ensures.value at c.in_ok-left.ensures.fewer) c.in_ok-left.ensures.settled
    (rw c.deref-4.ensures.value at c.told_left.ensures)

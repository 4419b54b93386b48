use Rattle.brd_fast.proofs.GoneLemmas.{Gone}
use Rattle.brd_fast.proofs.steps.known_steps.Given as goal

abbrev pub invariant-lines : goal.invariant-lines
invariant-lines l =
    Gone l.cpu l.count l.known (record { state = l.fn.context; memory = l.fn.ram; links = l.fn.links }) l.context l.ram l.links l.line

abbrev pub invariant-steps : goal.invariant-steps
invariant-steps l =
    Gone l.cpu l.count l.known (record { state = l.fn.context; memory = l.fn.ram; links = l.fn.links }) l.context l.ram l.links l.line

abbrev pub decreases-steps : goal.decreases-steps
decreases-steps l = l.line.left

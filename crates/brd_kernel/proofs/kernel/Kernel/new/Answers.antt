use Rattle.std.proofs.Common.{arith}
use Rattle.brd_kernel.proofs.MakingLemmas.{made-kernel, made-quiet}
use Rattle.brd_kernel.proofs.ExecutorLemmas.{none-executes}
use Rattle.brd_kernel.proofs.kernel.Kernel.new.Goals as goal

pub invariant_of-result : goal.invariant_of-result
invariant_of-result c = (
  record {
    kernel = made-kernel _ _ _ _ _ _ _ _ _ _ _ c.args.processors c.args.lines.now c.idle_processors.result c.in_ok-no_contexts.field-0.items c.in_ok-lines_of.field-0.items
        c.in_ok-with_capacity.field-0.items c.idle_processors.ensures c.in_ok-no_contexts.ensures c.in_ok-lines_of.ensures c.in_ok-with_capacity.ensures.items;
    quiet = λ quiet. made-quiet c.args.lines.now _ c.in_ok-lines_of.field-0.items c.in_ok-lines_of.ensures;
    executing = none-executes c.args.processors c.idle_processors.result c.idle_processors.ensures;
  },
  omega (arith, c.in_ok-with_capacity.ensures.exact),
)

-- The register that was found has the word.
use Rattle.std.proofs.Common.{◌≡◌}
use Rattle.std.specs.Prelude.{IfSome}
use Rattle.brd_exec.specs.State.{read}
use Rattle.brd_hints.proofs.ended.holder.Given as goal

abbrev pub invariant-loop-number : goal.invariant-loop-number
invariant-loop-number l = IfSome l.found (λ register. read l.context register ≡ l.word)

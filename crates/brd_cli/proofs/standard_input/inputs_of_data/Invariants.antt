-- those so far are counted
use Rattle.std.proofs.Common.{◌≡◌, map}
use Rattle.std.specs.Prelude.{drop}
use Rattle.brd_cli.specs.StandardInput.{counted}
use Rattle.brd_cli.proofs.standard_input.inputs_of_data.Given as goal

abbrev pub invariant-loop-text : goal.invariant-loop-text
invariant-loop-text l =
    counted 0 (map (λ text. text.now) l.texts) ≡ counted l.count (map (λ text. text.now) (drop l.text-index l.texts))

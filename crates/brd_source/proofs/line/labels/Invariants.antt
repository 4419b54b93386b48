use Rattle.std.proofs.Common.{◌≡◌, ◌++◌, length, map}
use Rattle.brd_source.specs.Lines.{labels_of, behind_labels}
use Rattle.brd_source.specs.Tokens.{seen}
use Rattle.brd_source.proofs.line.labels.Given as goal

abbrev pub invariant-labels : goal.invariant-labels
invariant-labels l = (map (λ name. name.now) l.labels ++ labels_of (map seen l.rest) ≡ labels_of (map seen l.tokens)) × (behind_labels (map seen l.rest) ≡ behind_labels (map seen l.tokens))

abbrev pub decreases-labels : goal.decreases-labels
decreases-labels l = length l.rest

use Rattle.std.proofs.Common.{◌≡◌, map, drop}
use Rattle.brd_asm.specs.Layout.{labelled}
use Rattle.brd_asm.proofs.names.Names.label.Given as goal

-- to define what is left, after those so far, is to define all
abbrev pub invariant-loop-label : goal.invariant-loop-label
invariant-loop-label l = labelled l.line l.place (map (λ label. label.now) (drop l.label-index l.labels)) l.self ≡ labelled l.line l.place (map (λ label. label.now) l.labels) l.fn.self

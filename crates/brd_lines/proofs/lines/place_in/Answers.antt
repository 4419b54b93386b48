use Rattle.std.proofs.Common.{rules, of_calls, sym, arith}
use Rattle.std.proofs.lemmas.Bool.{le-leb, leb-true}
use Rattle.std.proofs.lemmas.Fn.{always_returns_same}
use Rattle.brd_lines.specs.Lines.{ends_by}
use Rattle.brd_lines.specs.declared.lines.Stretch.{Stretch}
use Rattle.brd_lines.proofs.LineLemmas.{prefix_from_point, rise}
use Rattle.brd_lines.proofs.lines.place_in.Goals as goal

pub returns : goal.returns
returns c =
    let xs = c.args.stretches.now in
    let none : Stretch = record { from = 0; to = 0; file = 0; line = 0 } in
    let point = c.partition_point.ensures.partitioned (ends_by c.args.address) (always_returns_same _ _ _ (λ a r f k. search (rules, of_calls)))
    (λ i j d le within holds. le-leb _ _ (omega (arith, rise 0 xs c.requires i j d le within, leb-true _ _ holds))) in
    sym (prefix_from_point (ends_by c.args.address) xs c.partition_point.result none c.partition_point.ensures.bound point)

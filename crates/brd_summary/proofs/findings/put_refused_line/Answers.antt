use Rattle.std.proofs.Common.{List, ◌++◌}
use Rattle.std.specs.Prelude.{codes}
use Rattle.std.specs.Fmt.{decimal}
use Rattle.std.proofs.lemmas.Result.{on_ok_weaker}
use Rattle.brd_names.specs.Addresses.{both_text}
use Rattle.brd_summary.specs.Findings.{more_text}
use Rattle.brd_summary.proofs.SummaryLemmas.{two-behind}
use Rattle.brd_summary.proofs.findings.put_refused_line.Goals as goal

pub returns : goal.returns
returns c =
    let kind = c.args.kind in
    let what = c.args.what.now in
    let a = c.args.out.now.items in
    let b = c.put.new.out.items in
    let d = c.extend_from_slice.new.self.items in
    let e = c.put-2.new.out.items in
    let f = c.put_number.new.out.items in
    let g = c.put-3.new.out.items in
    let h = c.put_both.new.out.items in
    let i = c.put_more.new.out.items in
    let j = c.put-4.new.out.items in
    let t1 = codes "refused: " in
    let t2 = t1 ++ what in
    let t3 = t2 ++ codes " at event " in
    let t4 = t3 ++ decimal kind.position in
    let t5 = t4 ++ codes ", at " in
    let t6 = t5 ++ both_text c.args.names.symbols.now kind.place in
    let t7 = t6 ++ more_text kind.count in
    on_ok_weaker c.put-4.result
    (λ is.
    two-behind a i j t7 (codes "\n")
    (two-behind a h i t6 (more_text kind.count)
    (two-behind a g h t5 (both_text c.args.names.symbols.now kind.place)
    (two-behind a f g t4 (codes ", at ")
    (two-behind a e f t3 (decimal kind.position)
    (two-behind a d e t2 (codes " at event ")
    (two-behind a b d t1 what c.in_ok-put.ensures.is c.in_ok-extend_from_slice.ensures.items)
    c.in_ok-put-2.ensures.is)
    c.in_ok-put_number.ensures)
    c.in_ok-put-3.ensures.is)
    c.in_ok-put_both.ensures)
    c.in_ok-put_more.ensures)
    is)
    c.put-4.ensures.is

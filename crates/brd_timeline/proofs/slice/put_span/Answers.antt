use Rattle.std.proofs.Common.{codes, refl}
use Rattle.std.specs.Fmt.{decimal}
use Rattle.brd_timeline.specs.Bars.{span_text}
use Rattle.brd_timeline.proofs.EventLemmas.{four_steps}
use Rattle.brd_timeline.proofs.slice.put_span.Goals as goal

pub returns : goal.returns
returns c =
    four_steps c.put-2.result c.args.to.now.items c.put_decimal.new.to.items c.put.new.to.items c.put_decimal-2.new.to.items c.put-2.new.to.items
    (decimal c.args.from) (codes " to ") (decimal c.args.till) (codes "</title></rect>\n") (span_text c.args.from c.args.till)
    c.in_ok-put_decimal.ensures c.in_ok-put.ensures c.in_ok-put_decimal-2.ensures c.put-2.ensures refl

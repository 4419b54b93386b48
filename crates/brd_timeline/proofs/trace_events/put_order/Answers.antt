use Rattle.std.proofs.Common.{codes}
use Rattle.std.specs.Fmt.{decimal}
use Rattle.brd_timeline.specs.Events as events
use Rattle.brd_timeline.proofs.EventLemmas.{four}
use Rattle.brd_timeline.proofs.trace_events.put_order.Goals as goal

pub returns : goal.returns
returns c =
    four c.put-2.result c.args.to.now.items c.put_head.new.to.items c.put.new.to.items c.put_decimal.new.to.items c.put-2.new.to.items
    (codes ",\n") (events.head_text (codes "M") c.args.track) (codes ",\"name\":\"thread_sort_index\",\"args\":{\"sort_index\":")
    (decimal c.args.track.thread) (codes "}}")
    c.in_ok-put_head.ensures c.in_ok-put.ensures c.in_ok-put_decimal.ensures c.put-2.ensures

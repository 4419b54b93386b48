use Rattle.std.proofs.Common.{ℕ, List, ◌++◌, ap, ◌∙◌, codes}
use Rattle.std.specs.Fmt.{decimal}
use Rattle.brd_timeline.specs.Escapes.{json_string}
use Rattle.brd_timeline.proofs.EventLemmas.{five}
use Rattle.brd_timeline.proofs.trace_events.put_process_name.Goals as goal

pub returns : goal.returns
returns c =
    five c.put-3.result c.args.to.now.items c.put.new.to.items c.put_decimal.new.to.items c.put-2.new.to.items c.put_json.new.to.items
    c.put-3.new.to.items (codes "{\"ph\":\"M\",\"pid\":") (decimal c.args.process)
    (codes ",\"name\":\"process_name\",\"args\":{\"name\":") (json_string c.args.name.now) (codes "}}")
    c.in_ok-put.ensures c.in_ok-put_decimal.ensures c.in_ok-put-2.ensures (c.in_ok-put_json.ensures ∙ ap (λ (bytes : List ℕ). c.put-2.new.to.items ++ json_string bytes) c.as_bytes.ensures.value) c.put-3.ensures

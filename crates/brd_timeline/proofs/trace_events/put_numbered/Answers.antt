use Rattle.std.proofs.Common.{◌<◌, List, ◌++◌, ap, ◌∙◌, ◌^◌, ℕ, arith}
use Rattle.std.specs.List.{flat_map}
use Rattle.brd_timeline.specs.Escapes.{json_byte}
use Rattle.brd_timeline.proofs.EventLemmas.{numbered_end}
use Rattle.brd_timeline.proofs.trace_events.put_numbered.Goals as goal

pub returns : goal.returns
returns c =
    let fits : c.args.number < 2 ^ 64 = omega arith in
    numbered_end c.put-2.result c.args.to.now.items c.put.new.to.items c.put_json_bytes.new.to.items c.put_decimal.new.to.items
    c.put-2.new.to.items c.args.name.now c.args.number fits
    c.in_ok-put.ensures (c.in_ok-put_json_bytes.ensures ∙ ap (λ (bytes : List ℕ). c.put.new.to.items ++ flat_map json_byte bytes) c.as_bytes.ensures.value) c.in_ok-put_decimal.ensures c.put-2.ensures

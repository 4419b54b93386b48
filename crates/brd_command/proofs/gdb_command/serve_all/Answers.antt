use Rattle.std.proofs.Common.{[]}
use Rattle.brd_command.specs.Serving.HasServed.{nothing_yet}
use Rattle.brd_command.proofs.ServerLemmas.{cut_off, front_served, last_served, memory_ran_out, more_served, read_too_often, stopped}
use Rattle.brd_report.proofs.OutputLemmas as output
use Rattle.brd_command.proofs.gdb_command.serve_all.Goals as goal

pub loop-init : goal.loop-init
loop-init g c = λ text is. (text, [], is, nothing_yet, output.nothing_yet (g.W.Write.contents c.args.writer.now))

pub returns-in-Ok-None : goal.returns-in-Ok-None
returns-in-Ok-None g c =
    cut_off c.args.server.now c.loop.server _ _ _
    (g.R.Read.remaining c.args.input.now) c.cut_off.result c.cut_off.ensures c.loop.invariant

pub returns-in-Err : goal.returns-in-Err
returns-in-Err g c =
    stopped c.args.server.now c.loop.server _ _ _
    (g.R.Read.remaining c.args.input.now) c.in-Err.fault c.in-Err.ensures c.loop.invariant

pub returns-in_err-served : goal.returns-in_err-served
returns-in_err-served g c =
    memory_ran_out c.args.server.now c.loop.server _ _ _
    (g.R.Read.remaining c.args.input.now) c.from_residual.result _ c.from_residual.ensures.1 c.loop.invariant

pub returns-in-Err-write_whole : goal.returns-in-Err-write_whole
returns-in-Err-write_whole g c =
    front_served c.args.server.now c.loop.server _ _ c.in-Ok-Some.field-0 _ _
    c.in-Ok-Some.ensures c.in-Ok-Some.byte c.in-Ok-Some.field-0-is
    c.in_ok-served.served.bytes.items c.in_ok-served.served.is_over c.serve.new.self c.in_ok-served.ensures _
    (g.R.Read.remaining c.args.input.now) (rw c.deref.ensures.value at c.in-Err-write_whole.ensures.front)
    c.loop.invariant

pub returns-then-served : goal.returns-then-served
returns-then-served g c =
    last_served c.args.server.now c.loop.server _ _ c.in-Ok-Some.field-0 _ _
    c.in-Ok-Some.ensures c.in-Ok-Some.byte c.in-Ok-Some.field-0-is
    c.in_ok-served.served.bytes.items c.in_ok-served.served.is_over c.serve.new.self c.in_ok-served.ensures _
    (g.R.Read.remaining c.args.input.now) c.if-served.true (rw c.deref.ensures.value at c.in-Ok.ensures.whole)
    c.loop.invariant

pub loop-preserved : goal.loop-preserved
loop-preserved g c = λ text is.
    more_served c.args.server.now c.loop.server _ _ c.in-Ok-Some.field-0 _ _
    c.in-Ok-Some.ensures c.in-Ok-Some.byte c.in-Ok-Some.field-0-is
    c.in_ok-served.served.bytes.items c.in_ok-served.served.is_over c.serve.new.self c.in_ok-served.ensures _
    text c.if-served.false (rw c.deref.ensures.value at c.in-Ok.ensures.whole) (c.loop.invariant text is)

pub returns : goal.returns
returns g c =
    read_too_often c.args.server.now c.loop.server _ _ _
    (g.R.Read.remaining c.args.input.now) c.loop.invariant

use Rattle.std.proofs.Common.{rules, ◌≡◌, sym, ◌∙◌}
use Rattle.std.specs.Prelude.{Some, None}
use Rattle.brd_seen.specs.Quiets.{quiet_of}
use Rattle.brd_printer.proofs.PutLemmas.{quiet_events, other_line}
use Rattle.brd_trace.proofs.tracer.Tracer.tell_other.Goals as goal

pub returns-in_default-clause-told : goal.returns-in_default-clause-told
returns-in_default-clause-told c =
    let is : quiet_of c.args.told.now ≡ None = search rules in
    other_line c.args.manner.names.symbols.now c.args.position c.args.count c.args.told.now c.args.concerned c.args.self.now.printer
    c.tell_line.new.self.printer c.args.out.now.items c.tell_line.new.out.items is c.in_ok-tell_line.ensures.told

pub returns-clause-told : goal.returns-clause-told
returns-clause-told c =
    let is : quiet_of c.args.told.now ≡ Some c.in-Some.quiet = sym c.quiet_of.ensures ∙ c.in-Some.is in
    quiet_events c.args.manner.names.symbols.now c.args.position c.args.count c.tick_of.result c.args.told.now c.args.concerned c.in-Some.quiet c.args.self.now.printer
    c.tell_quiet.new.self.printer c.args.out.now.items c.tell_quiet.new.out.items is c.tick_of.ensures c.in_ok-tell_quiet.ensures.printer
    c.in_ok-tell_quiet.ensures.line

use Rattle.std.proofs.Common.{subst, sym}
use Rattle.brd_listing.specs.Names.{IsPrintable}
use Rattle.brd_printer.proofs.PutLemmas.{line_and_more}
use Rattle.brd_trace.proofs.tracer.Tracer.tell_line.Goals as goal

pub returns-clause-told : goal.returns-clause-told
returns-clause-told c =
    line_and_more c.args.manner.names.symbols.now c.args.position c.args.count c.args.told.now c.as_slice-2.result.now
    c.args.concerned c.more_of.result c.args.self.now.printer c.put_said.new.self c.tell_more.new.self.printer c.args.out.now.items
    c.put_said.new.out.items c.tell_more.new.out.items (subst IsPrintable (sym c.as_slice-2.ensures.value) c.in_ok-words.ensures.printable)
    c.more_of.ensures c.in_ok-put_said.ensures.printer c.in_ok-put_said.ensures.line
    c.in_ok-tell_more.ensures.printer c.in_ok-tell_more.ensures.line

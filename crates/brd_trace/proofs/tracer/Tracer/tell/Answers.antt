use Rattle.std.proofs.Common.{rules, ◌≡◌, true, false, sym, ◌∙◌, subst, List, Bool}
use Rattle.std.specs.Prelude.{Some, None}
use Rattle.brd_listing.specs.Listing.{IsBehind}
use Rattle.brd_printer.specs.Links.{ended_text, linked_on}
use Rattle.brd_printer.specs.Concerns.{does_other}
use Rattle.brd_printer.specs.Telling.{instruction_in, is_untold, TellsInstruction, TellsOther}
use Rattle.brd_seen.specs.Quiets.{quiet_of}
use Rattle.brd_printer.proofs.PutLemmas.{an_instruction, another, untold}
use Rattle.brd_trace.proofs.tracer.Tracer.tell.Goals as goal

pub returns-in-Some-clause-told : goal.returns-in-Some-clause-told
returns-in-Some-clause-told c =
    let is : instruction_in c.args.told.now.what ≡ Some c.in-Some.instruction = sym c.instruction_in.ensures ∙ c.in-Some.is in
    let printer = c.args.self.now.printer in
    let own = c.args.told.now.cpu in
    let had = c.args.linked.now in
    let has = linked_on c.args.self.now.playback.board in
    let puts = subst (λ (still : List Bool). IsBehind (TellsInstruction c.args.manner c.args.position c.args.told.now c.in-Some.instruction
    (ended_text own had still) printer c.put_instruction.new.self) c.args.out.now.items c.put_instruction.new.out.items)
    c.linked_on-still.ensures c.in_ok-put_instruction.ensures in
    an_instruction c.args.manner c.args.position c.args.count c.args.told.now (ended_text own had has)
    (does_other printer.options.cpu c.args.stood c.args.self.now.playback.board) printer c.put_instruction.new.self
    c.args.out.now.items c.put_instruction.new.out.items c.in-Some.instruction is puts

pub returns-then-is_untold-clause-told : goal.returns-then-is_untold-clause-told
returns-then-is_untold-clause-told c =
    let is_none : instruction_in c.args.told.now.what ≡ None = search rules in
    let is_untold_ : is_untold c.args.told.now.what ≡ true = sym c.is_untold.ensures ∙ c.if-is_untold.true in
    untold c.args.manner c.args.position c.args.count c.args.told.now (ended_text c.args.told.now.cpu c.args.linked.now (linked_on c.args.self.now.playback.board))
    (does_other c.args.self.now.printer.options.cpu c.args.stood c.args.self.now.playback.board) c.args.self.now.printer
    c.args.out.now.items is_none is_untold_

pub returns-clause-told : goal.returns-clause-told
returns-clause-told c =
    let is_none : instruction_in c.args.told.now.what ≡ None = search rules in
    let is_told : is_untold c.args.told.now.what ≡ false = sym c.is_untold.ensures ∙ c.if-is_untold.false in
    another c.args.manner c.args.position c.args.count c.args.told.now (ended_text c.args.told.now.cpu c.args.linked.now (linked_on c.args.self.now.playback.board))
    (does_other c.args.self.now.printer.options.cpu c.args.stood c.args.self.now.playback.board) c.args.self.now.printer
    c.tell_other.new.self.printer c.args.out.now.items c.tell_other.new.out.items is_none is_told
    (subst (λ (x : Bool). IsBehind (TellsOther (quiet_of c.args.told.now) c.args.manner.names.symbols.now c.args.position
    c.args.count c.args.told.now x c.args.self.now.printer c.tell_other.new.self.printer) c.args.out.now.items
    c.tell_other.new.out.items) c.does_other-concerned.ensures c.in_ok-tell_other.ensures.told)

-- What is put at the end, with what is said of the links of the processors from this one on, is all that is said.
use Rattle.std.proofs.Common.{◌≡◌, ◌++◌, ◌-◌}
use Rattle.std.specs.List.{range_with_len}
use Rattle.brd_printer.specs.Links.{ended_texts, text_of}
use Rattle.brd_printer.proofs.links.Links.put_ended.Given as goal

abbrev pub invariant-loop-cpu : goal.invariant-loop-cpu
invariant-loop-cpu l =
    l.out.items ++ ended_texts l.self.cpu l.self.before.now l.self.after.now (range_with_len l.cpu (9 - l.cpu))
    ≡ l.fn.out.items ++ text_of l.self

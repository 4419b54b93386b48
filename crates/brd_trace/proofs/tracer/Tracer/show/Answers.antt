use Rattle.std.proofs.Common.{refl, subst, sym}
use Rattle.brd_listing.specs.Names.{IsPrintable}
use Rattle.brd_trace.proofs.tracer.Tracer.show.Goals as goal

pub returns-clause-line : goal.returns-clause-line
returns-clause-line c = record {
  text = _;
  is_it = record {
    words = c.as_slice-2.result.now;
    is_one_line = subst IsPrintable (sym c.as_slice-2.ensures.value) c.in_ok-words.ensures.printable;
    line = refl;
  };
  behind = c.in_ok-put_line.ensures;
}

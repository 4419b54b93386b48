use Rattle.std.proofs.Common.{◌≡◌, ℕ, List, sym, subst, arith}
use Rattle.brd_printer.specs.Telling.{IsTrace}
use Rattle.brd_command.specs.TraceCommand.{WritesTold}
use Rattle.brd_command.proofs.TraceLemmas.{told-first, told-more}
use Rattle.brd_command.proofs.trace_command.Traced.write_events.Goals as goal

pub loop-tracer-init : goal.loop-tracer-init
loop-tracer-init g c = record {
  on = c.requires.on;
  played = λ boot is. is;
  told = λ boot is.
      told-first c.args.self.now.manner boot c.args.self.now.journal.now.events c.args.tracer.now.playback.at c.args.tracer.now.printer
      (g.W.Write.contents c.args.writer.now);
}

pub loop-tracer-preserved : goal.loop-tracer-preserved
loop-tracer-preserved g c = record {
  on = c.in_ok-lines.ensures.at;
  played = λ boot is. c.in_ok-lines.ensures.played boot (c.loop-tracer.invariant.played boot is);
  told = λ boot is.
      told-more c.args.self.now.manner boot c.args.self.now.journal.now.events c.args.tracer.now.playback.at c.loop-tracer.tracer.playback.at
      c.advance.new.tracer.playback.at c.args.tracer.now.printer c.loop-tracer.tracer.printer c.advance.new.tracer.printer
      (g.W.Write.contents c.args.writer.now) (g.W.Write.contents c.loop-tracer.writer) (g.W.Write.contents c.written.new.writer)
      c.deref.result.now (c.loop-tracer.invariant.told boot is)
      (subst
      (λ (them : List ℕ). IsTrace c.args.self.now.manner boot c.args.self.now.journal.now.events c.loop-tracer.tracer.playback.at
      c.advance.new.tracer.playback.at c.loop-tracer.tracer.printer c.advance.new.tracer.printer them)
      (sym c.deref.ensures.value) (c.in_ok-lines.ensures.told boot (c.loop-tracer.invariant.played boot is)))
      c.in-Ok.ensures;
}

pub returns-clause-at : goal.returns-clause-at
returns-clause-at g c = omega (arith, c.loop-tracer.invariant.on, c.loop-tracer-test.false)

pub returns-clause-played : goal.returns-clause-played
returns-clause-played g c = c.loop-tracer.invariant.played

pub returns-clause-told : goal.returns-clause-told
returns-clause-told g c = λ boot is.
    let ends : c.loop-tracer.tracer.playback.at ≡ c.args.self.now.part.to =
    omega (arith, c.loop-tracer.invariant.on, c.loop-tracer-test.false) in
    subst (λ (n : ℕ). WritesTold c.args.self.now.manner boot c.args.self.now.journal.now.events c.args.tracer.now.playback.at n
    c.args.tracer.now.printer c.loop-tracer.tracer.printer (g.W.Write.contents c.args.writer.now) (g.W.Write.contents c.loop-tracer.writer))
    ends (c.loop-tracer.invariant.told boot is)

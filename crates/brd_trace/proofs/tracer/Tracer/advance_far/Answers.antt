use Rattle.std.proofs.Common.{◌∙◌, refl, le_refl, arith}
use Rattle.brd_printer.proofs.TraceLemmas.{puts_nothing, puts_on}
use Rattle.brd_trace.proofs.tracer.Tracer.advance_far.Goals as goal

pub loop-self-init : goal.loop-self-init
loop-self-init c = record {
  on = c.requires.on;
  above = le_refl c.args.self.now.playback.at;
  played = λ boot is. is;
  told = λ boot is.
      puts_nothing c.args.manner boot c.args.journal.now.events c.args.self.now.playback.at c.args.self.now.printer c.args.out.now.items;
  noted = λ boot is noted. noted;
  dated = λ boot is noted dated. dated;
  begun = refl;
}

pub loop-self-preserved : goal.loop-self-preserved
loop-self-preserved c = record {
  on = c.advance_some.ensures.at;
  above = omega (arith, c.loop-self.invariant.above, c.advance_some.ensures.goes c.loop-self-test.true);
  played = λ boot is. c.advance_some.ensures.played boot (c.loop-self.invariant.played boot is);
  told = λ boot is.
      puts_on c.args.manner boot c.args.journal.now.events c.args.self.now.playback.at c.loop-self.self.playback.at c.advance_some.new.self.playback.at
      c.args.self.now.printer c.loop-self.self.printer c.advance_some.new.self.printer c.args.out.now.items c.loop-self.out.items c.advance_some.new.out.items
      (c.loop-self.invariant.told boot is) (c.in_ok-advance_some.ensures.told boot (c.loop-self.invariant.played boot is));
  noted = λ boot is noted. c.in_ok-advance_some.ensures.noted boot (c.loop-self.invariant.played boot is) (c.loop-self.invariant.noted boot is noted);
  dated = λ boot is noted dated.
      c.in_ok-advance_some.ensures.dated boot (c.loop-self.invariant.played boot is) (c.loop-self.invariant.noted boot is noted)
      (c.loop-self.invariant.dated boot is noted dated);
  begun = c.advance_some.ensures.begun ∙ c.loop-self.invariant.begun;
}

pub returns-then-len-ge-ENOUGH-clause-told : goal.returns-then-len-ge-ENOUGH-clause-told
returns-then-len-ge-ENOUGH-clause-told c = λ boot is.
    puts_on c.args.manner boot c.args.journal.now.events c.args.self.now.playback.at c.loop-self.self.playback.at c.advance_some.new.self.playback.at
    c.args.self.now.printer c.loop-self.self.printer c.advance_some.new.self.printer c.args.out.now.items c.loop-self.out.items c.advance_some.new.out.items
    (c.loop-self.invariant.told boot is) (c.in_ok-advance_some.ensures.told boot (c.loop-self.invariant.played boot is))

pub returns-then-len-ge-ENOUGH-clause-noted : goal.returns-then-len-ge-ENOUGH-clause-noted
returns-then-len-ge-ENOUGH-clause-noted c = λ boot is noted.
    c.in_ok-advance_some.ensures.noted boot (c.loop-self.invariant.played boot is) (c.loop-self.invariant.noted boot is noted)

pub returns-then-len-ge-ENOUGH-clause-dated : goal.returns-then-len-ge-ENOUGH-clause-dated
returns-then-len-ge-ENOUGH-clause-dated c = λ boot is noted dated.
    c.in_ok-advance_some.ensures.dated boot (c.loop-self.invariant.played boot is) (c.loop-self.invariant.noted boot is noted)
    (c.loop-self.invariant.dated boot is noted dated)

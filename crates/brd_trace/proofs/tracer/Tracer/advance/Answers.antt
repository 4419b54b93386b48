use Rattle.brd_printer.proofs.TraceLemmas.{puts_nothing}
use Rattle.brd_trace.proofs.tracer.Tracer.advance.Goals as goal

pub returns-clause-played : goal.returns-clause-played
returns-clause-played c = λ boot is. c.advance_in.ensures.played boot c.args.journal.now.events c.requires.within c.in-Some.ensures.comes is

pub returns-clause-told : goal.returns-clause-told
returns-clause-told c = λ boot is. c.advance_in.ensures.told boot c.args.journal.now.events c.requires.within c.in-Some.ensures.comes is

pub returns-in_default-clause-told : goal.returns-in_default-clause-told
returns-in_default-clause-told c = λ boot is.
    puts_nothing c.args.manner boot c.args.journal.now.events c.args.self.now.playback.at c.args.self.now.printer c.args.out.now.items

pub returns-clause-noted : goal.returns-clause-noted
returns-clause-noted c = λ boot is noted. c.advance_in.ensures.noted boot c.args.journal.now.events c.requires.within c.in-Some.ensures.comes is noted

pub returns-clause-dated : goal.returns-clause-dated
returns-clause-dated c = λ boot is noted dated.
    c.advance_in.ensures.dated boot c.args.journal.now.events c.requires.within c.in-Some.ensures.comes is noted dated

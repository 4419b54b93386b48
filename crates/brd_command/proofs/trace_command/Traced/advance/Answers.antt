use Rattle.std.proofs.Common.{◌≡◌, List, ℕ, ◌++◌, sym, ap, ◌∙◌, subst}
use Rattle.brd_printer.specs.Telling.{IsTrace}
use Rattle.brd_command.proofs.trace_command.Traced.advance.Goals as goal

pub returns-clause-told : goal.returns-clause-told
returns-clause-told c = λ boot is.
    let t = c.in_ok-advance_far.ensures.told boot is in
    let e : c.advance_far.new.out.items ≡ t.text = t.behind ∙ ap (λ (them : List ℕ). them ++ t.text) c.new-lines.ensures.items in
    subst (λ (them : List ℕ). IsTrace c.args.self.now.manner boot c.args.self.now.journal.now.events c.args.tracer.now.playback.at
    c.advance_far.new.self.playback.at c.args.tracer.now.printer c.advance_far.new.self.printer them) (sym e) t.is_it

pub returns-clause-knows : goal.returns-clause-knows
returns-clause-knows c = λ boot is. record {
  played = c.advance_far.ensures.played boot is.played;
  noted = c.in_ok-advance_far.ensures.noted boot is.played is.noted;
}

pub returns-clause-follows : goal.returns-clause-follows
returns-clause-follows c = λ boot is. record {
  played = c.advance_far.ensures.played boot is.played;
  noted = c.in_ok-advance_far.ensures.noted boot is.played is.noted;
  dated = c.in_ok-advance_far.ensures.dated boot is.played is.noted is.dated;
}

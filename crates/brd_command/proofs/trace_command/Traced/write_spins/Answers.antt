use Rattle.std.proofs.Common.{List, ℕ, ◌++◌, ◌∙◌, ap, sym, subst}
use Rattle.brd_command.specs.TraceCommand.{TellsSpins}
use Rattle.brd_command.proofs.TraceLemmas.{last-of}
use Rattle.brd_command.proofs.trace_command.Traced.write_spins.Goals as goal

pub returns : goal.returns
returns g c =
    let told = c.in_ok-put_spins.ensures in
    let all = c.deref.ensures.value ∙ told.behind ∙ ap (λ (them : List ℕ). them ++ told.text) c.new-lines.ensures.items in
    last-of c.written.result c.written.ensures (λ written.
    record {
      bytes = c.deref.result.now;
      are_meant = subst (λ (them : List ℕ). TellsSpins c.args.self.now.image.now.symbols c.args.cpu c.args.boot
          c.args.self.now.journal.now.events c.args.self.now.part.to them) (sym all) told.is_it;
      written = written;
    })

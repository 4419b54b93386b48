use Rattle.std.proofs.Common.{replicate, subst}
use Rattle.brd_exec.specs.Lent.{DoesLent, lent_step}
use Rattle.brd_lent.proofs.LentLemmas.{lent-one}
use Rattle.brd_lent.proofs.decoded.by_word.Goals as goal

pub returns : goal.returns
returns c =
    let s = c.args.context.now in
    subst (λ o. DoesLent o s c.run_local.result c.run_local.new.context) (lent-one s c.args.word c.requires)
    (subst (λ pc. DoesLent (lent_step s (replicate 64 c.args.word) pc) s c.run_local.result c.run_local.new.context) c.pc-pc.ensures
    c.run_local.ensures)

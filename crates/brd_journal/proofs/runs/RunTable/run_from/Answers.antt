use Rattle.std.proofs.Common.{◌≡◌, ℕ, ◌<◌, List, length, get_or, ap, subst, ◌∙◌, arith}
use Rattle.brd_journal.specs.declared.run.Run.{Run}
use Rattle.brd_journal.specs.Runs.{starts_of}
use Rattle.brd_journal.proofs.StartLemmas.{length-starts}
use Rattle.brd_journal.proofs.RestLemmas.{rest_from}
use Rattle.brd_journal.proofs.runs.RunTable.run_from.Goals as goal

pub index-requires-then-index-others : goal.index-requires-then-index-others
index-requires-then-index-others c = omega (arith, c.if-index-len.true, c.len.ensures, length-starts 0 c.self.inside.runs.items, ap length c.self.invariant)

pub returns-then-index-others : goal.returns-then-index-others
returns-then-index-others c =
    let run_is : c.index-then-index-others.result.now ≡ get_or c.args.self.now c.args.index c.index-then-index-others.result.now =
    (let P : List Run → Type 0 = λ rs. c.index-then-index-others.result.now ≡ get_or rs c.args.index c.index-then-index-others.result.now in subst P c.self.view_is c.index-then-index-others.ensures) in
    let start_is : c.index.result.now ≡ get_or (starts_of c.args.self.now) c.args.index c.index.result.now =
    (let P : List ℕ → Type 0 = λ starts. c.index.result.now ≡ get_or starts c.args.index c.index.result.now in subst P (c.self.invariant ∙ ap starts_of c.self.view_is) c.index.ensures) in
    let others_is : c.args.others ≡ get_or (starts_of c.args.self.now) c.args.index c.args.others =
    (let P : ℕ → Type 0 = λ n. n ≡ get_or (starts_of c.args.self.now) c.args.index n in subst P c.if-index-others.true start_is) in
    let within : c.args.index < length c.args.self.now =
    omega (arith, c.if-index-len.true, c.len.ensures, length-starts 0 c.self.inside.runs.items, ap length c.self.invariant, ap length c.self.view_is) in
    rest_from c.args.self.now c.args.others c.args.index c.index-then-index-others.result.now c.requires within run_is others_is

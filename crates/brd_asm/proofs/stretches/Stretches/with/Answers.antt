use Rattle.std.proofs.Common.{◌∙◌, sym, ap, ◌++◌, arith}
use Rattle.std.proofs.lemmas.Bool.{true≢false}
use Rattle.brd_asm.proofs.StretchLemmas.{grown, begun}
use Rattle.brd_asm.proofs.stretches.Stretches.with.Goals as goal

pub returns-then-start-len : goal.returns-then-start-len
returns-then-start-len c =
    grown c.self.inside.done c.args.self c.self.inside.address c.args.address c.self.inside.bytes c.args.more.now c.append-then-start-len.new.self c.self.view_is (λ e. true≢false (sym (c.is_empty.ensures.1 e) ∙ c.if-is_empty.false))
    (omega (arith, c.len.ensures, c.if-start-len.true)) c.in_ok-append-2.ensures.ok

pub returns : goal.returns
returns c =
    begun c.self.inside.done c.args.self c.push.new.self c.self.inside.address c.args.address c.self.inside.bytes c.args.more.now c.append-2.new.self c.self.view_is (λ e. true≢false (sym (c.is_empty.ensures.1 e) ∙ c.if-is_empty.false))
    (λ e. c.if-start-len.false (omega (arith, c.len.ensures, e))) c.requires c.in_ok-push.ensures.ok (c.in_ok-append-3.ensures.ok ∙ ap (λ bytes. bytes ++ c.args.more.now) c.new-fresh.ensures)

use Rattle.std.proofs.Common.{◌+◌, ◌-◌, ◌∙◌, refl, ap, sym, subst, nat_lt, arith}
use Rattle.std.specs.Prelude.{nat_le}
use Rattle.brd_fast.specs.Line.{placed, Comes}
use Rattle.brd_fast.proofs.LineLemmas.{empty-slot}
use Rattle.brd_fast.proofs.line.StraightLine.goes_on.Goals as goal

pub returns-then-raw_at-eq0 : goal.returns-then-raw_at-eq0
returns-then-raw_at-eq0 c =
    let line = c.self.inside in
    let target = line.target in
    let end = c.min-self-inside-then-raw_at-eq0.result in
    let comes = subst (λ next. Comes line.at line.end line.stop line.words next target) c.in-Slot.is c.self.invariant.comes in
    λ cpu s links. empty-slot cpu s c.args.ram.now links c.args.self.now line.at target (line.stop - target + 1)
    (line.stop - target) line.words c.raw_at.result (nat_lt line.at line.end) (nat_le (line.at + 2) line.end)
    (nat_lt target end) (nat_le (target + 2) end)
    (sym c.self.view_is ∙ ap (λ next. placed line.at line.end line.stop line.words next target) c.in-Slot.is)
    refl (omega (arith, c.self.invariant.near, c.self.invariant.few)) c.raw_at.ensures c.if-raw_at-eq0.true

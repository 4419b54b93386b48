use Rattle.std.proofs.Common.{◌≡◌, ◌<◌, ◌∙◌, ℕ, ap, sym, subst, get_or, length, arith}
use Rattle.brd_lines.specs.Lines.{AreApart, LinesOf, chosen, stretch_at}
use Rattle.brd_lines.specs.declared.lines.Stretch.{Stretch}
use Rattle.brd_lines.proofs.LineLemmas.{at_end, at_point}
use Rattle.brd_lines.proofs.lines.Lines.stretch_at.Goals as goal

pub returns-then-place-stretches : goal.returns-then-place-stretches
returns-then-place-stretches c =
    let xs = c.as_slice-stretches.result.now in
    let same : xs ≡ c.args.self.now.stretches = c.as_slice-stretches.ensures.value ∙ ap (λ (v : LinesOf). v.stretches) c.self.view_is in
    let apart : AreApart 0 xs = rw c.as_slice-stretches.ensures.value c.self.invariant in
    rw (← same) (at_end c.args.address 0 xs apart (omega (arith, c.place_in-place.ensures, c.if-place-stretches.true)))

pub returns : goal.returns
returns c =
    let xs = c.as_slice-stretches.result.now in
    let same : xs ≡ c.args.self.now.stretches = c.as_slice-stretches.ensures.value ∙ ap (λ (v : LinesOf). v.stretches) c.self.view_is in
    let apart : AreApart 0 xs = rw c.as_slice-stretches.ensures.value c.self.invariant in
    let none : Stretch = record { from = 0; to = 0; file = 0; line = 0 } in
    let within = subst (λ (n : ℕ). n < length xs) c.place_in-place.ensures c.if-place-stretches.false in
    rw (← same) (c.chosen.ensures ∙ subst (λ (n : ℕ). chosen c.args.address (get_or xs n none) ≡ stretch_at xs c.args.address)
    (sym c.place_in-place.ensures) (at_point c.args.address 0 xs none apart within))

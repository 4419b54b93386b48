use Rattle.std.proofs.Common.{◌≡◌, ◌<◌, None, Some, length, ◌∙◌, sym, ap, arith}
use Rattle.brd_elf.specs.Places.{Numbered}
use Rattle.std.proofs.lemmas.List.{get_or_default}
use Rattle.std.specs.Prelude.{slice_index_or}
use Rattle.brd_elf.proofs.PlaceLemmas.{no_end}
use Rattle.brd_elf.proofs.places.Places.numbered_from.Goals as goal

pub returns-in-Some-clause-there : goal.returns-in-Some-clause-there
returns-in-Some-clause-there c =
    let in_numbers : c.loop-at.at < length c.self.inside.numbers.items = omega (arith, c.loop-at-test.true, c.self.invariant.places) in
    let read : slice_index_or c.self.inside.numbers.items c.loop-at.at None ≡ Some c.in-Some.number =
    get_or_default c.self.inside.numbers.items c.loop-at.at None _ in_numbers ∙ sym c.index.ensures ∙ c.in-Some.is in
    rw (← c.self.view_is) (c.self.invariant.within c.loop-at.at c.in-Some.number read)

pub returns-clause-none : goal.returns-clause-none
returns-clause-none c =
    let strings : c.self.inside.strings.now ≡ c.args.self.now.strings = ap (λ (numbered : Numbered). numbered.strings) c.self.view_is in
    rw (← strings) (no_end c.self.inside.strings.now c.args.start c.loop-at.at c.loop-at-test.false (rw strings c.loop-at.invariant.letters))

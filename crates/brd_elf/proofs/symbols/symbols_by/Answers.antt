use Rattle.std.proofs.Common.{◌≡◌, drop, refl}
use Rattle.std.proofs.lemmas.List.{take_rest}
use Rattle.brd_elf.specs.Symbols.{section_at}
use Rattle.brd_elf.proofs.SectionLemmas.{symbols_fit}
use Rattle.brd_elf.proofs.symbols.symbols_by.Goals as goal

pub keep_all-requires-clause-file : goal.keep_all-requires-clause-file
keep_all-requires-clause-file c =
    let read : c.section_at-section.result ≡ section_at c.args.order (drop c.args.at c.args.file.now) = rw take_rest at c.section_at-section.ensures in
    λ some. symbols_fit c.args.file.now c.args.table c.section_at-section.result (rw read (c.in_ok-strings.ensures.whole refl)) some

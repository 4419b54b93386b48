-- What the source's object file comes to is what the source comes to.
use Rattle.std.proofs.Common.{arith}
use Rattle.brd_image.proofs.BuildingLemmas.{refused, builds}
use Rattle.brd_image.proofs.FittingLemmas.{is_read_again, of_image, no_elf, starts}
use Rattle.brd_image.proofs.building.build.Goals as goal

pub returns-in_err-elf-clause-meaning : goal.returns-in_err-elf-clause-meaning
returns-in_err-elf-clause-meaning c =
    grind (arith, refused c.args.source.now c.args.config.now c.in_err-elf.field-0.0 c.in_err-elf.ensures.file)

pub returns-clause-meaning : goal.returns-clause-meaning
returns-clause-meaning c =
    builds c.args.source.now c.deref.result.now c.args.config.now c.load.result
    (rw c.deref.ensures.value c.in_ok-elf.ensures.file) c.load.ensures.meaning

pub returns-clause-image : goal.returns-clause-image
returns-clause-image c image is fits =
    let again = is_read_again c.a_program_has_one_image.ensures c.args.source.now c.deref.result.now image is fits
    (rw c.deref.ensures.value c.in_ok-elf.ensures.file) in
    of_image c.args.source.now c.deref.result.now c.args.config.now image c.load.result again c.load.ensures.meaning

pub returns-clause-no_elf : goal.returns-clause-no_elf
returns-clause-no_elf c image is fits =
    no_elf c.args.config.now image c.load.result (returns-clause-image c image is fits)

pub returns-clause-starts : goal.returns-clause-starts
returns-clause-starts c image is fits =
    let again = is_read_again c.a_program_has_one_image.ensures c.args.source.now c.deref.result.now image is fits
    (rw c.deref.ensures.value c.in_ok-elf.ensures.file) in
    starts c.args.source.now c.deref.result.now c.args.config.now image c.load.result again
    (returns-clause-image c image is fits)

use Rattle.std.proofs.Common.{refl}
use Rattle.brd_config.specs.Meaning.{board_of}
use Rattle.brd_config.proofs.RamSize.{same_test}
use Rattle.brd_config.proofs.parser.begun.Goals as goal

pub returns-then-not-is_ram_size-clause-read : goal.returns-then-not-is_ram_size-clause-read
unfolding board_of
returns-then-not-is_ram_size-clause-read c =
    rw (c.in_ok-processors.ensures.read, same_test _ _ c.if-not-is_ram_size.ensures) refl

pub returns-clause-read : goal.returns-clause-read
unfolding board_of
returns-clause-read c =
    rw (c.in_ok-processors.ensures.read, same_test _ _ c.if-not-is_ram_size.ensures, c.new.ensures, c.new-2.ensures, c.new-3.ensures, c.new-4.ensures, c.new-5.ensures, c.new-6.ensures, c.new-7.ensures, c.new-8.ensures, c.new-9.ensures, c.new-10.ensures, c.new-11.ensures) refl

-- The ELF header, 52 bytes (System V ABI, "ELF Header"), and which of them are read here.
use Rattle.std.specs.Prelude.{ℕ, List, [], ◌∷◌, length, Option, None, Some, Result, Ok, Err, not, ◌&&◌, ◌==◌, nat_lt}
use Rattle.std.specs.Prelude.{nat_eq, if◌then◌else◌, slice_index}
use Rattle.std.specs.List.{starts_with}
use Rattle.brd_word.specs.declared.order.Order.{Order}
use Rattle.brd_word.specs.declared.order.Order.TheVariants.{Big, Little}
use Rattle.brd_elf.specs.declared.fault.ElfFault.{ElfFault}
use Rattle.brd_elf.specs.declared.fault.ElfFault.TheVariants as fault
use Rattle.brd_elf.specs.declared.header.Header.{Header}
use Rattle.brd_elf.specs.Fields.{half_at, word_at}

-- the first bytes of each ELF file: 7F and "ELF"
abbrev pub magic : List ℕ
magic = 0x7F ∷ 0x45 ∷ 0x4C ∷ 0x46 ∷ []

-- The order in which the bytes of its numbers lie, by EI_DATA: ELFDATA2LSB is 1, ELFDATA2MSB 2. A file with another
-- value is refused.
unfoldable pub order_of : List ℕ → Order
order_of file = if slice_index file 5 == 1 then Little else Big

-- the byte order, the entry, and where the two tables of headers lie, how large one header of them is, and how many
-- there are
abbrev pub header_at : Order → List ℕ → Header
header_at order file = record {
  order = order;
  entry = word_at order file 24;
  programs = record {
    offset = word_at order file 28;
    entry_size = half_at order file 42;
    count = half_at order file 44;
  };
  sections = record {
    offset = word_at order file 32;
    entry_size = half_at order file 46;
    count = half_at order file 48;
  };
}

-- The first field with a value that isn't read here, by its offset: EI_CLASS other than ELFCLASS32, EI_DATA than
-- ELFDATA2LSB and ELFDATA2MSB, EI_VERSION than 1, e_type than ET_EXEC, e_machine than EM_MIPS, e_version than 1, and an
-- e_phnum of 0xFFFF, the mark of extended numbering (PN_XNUM).
unfoldable pub unsupported_at : Order → List ℕ → Option ℕ
unsupported_at order file =
    if not (slice_index file 4 == 1) then Some 4
    else (if not (slice_index file 5 == 1) && not (slice_index file 5 == 2) then Some 5
    else (if not (slice_index file 6 == 1) then Some 6
    else (if not (half_at order file 16 == 2) then Some 16
    else (if not (half_at order file 18 == 8) then Some 18
    else (if not (word_at order file 20 == 1) then Some 20
    else (if half_at order file 44 == 0xFFFF then Some 44
    else None))))))

abbrev pub supported : Option ℕ → Order → List ℕ → Result Header ElfFault
supported (Some at) order file = Err (fault.Unsupported at)
supported None order file = Ok (header_at order file)

-- the header, or its first fault
unfoldable pub header_of : List ℕ → Result Header ElfFault
header_of file =
    if not (starts_with nat_eq file magic) then Err fault.NotElf
    else (if nat_lt (length file) 52 then Err (fault.Truncated 0)
    else supported (unsupported_at (order_of file) file) (order_of file) file)

-- What an ELF file means: an image, or its first fault.
use Rattle.std.specs.Prelude.{ℕ, List, Result, Ok}
use Rattle.brd_mem.specs.declared.image.Image.{Image}
use Rattle.brd_elf.specs.declared.fault.ElfFault.{ElfFault}
use Rattle.brd_text.specs.Faults.{◌>>=◌}
use Rattle.brd_elf.specs.Header.{header_of}
use Rattle.brd_elf.specs.Segments.{segments_of}
use Rattle.brd_elf.specs.Symbols.{symbols_of}

-- The header is read first, then all program headers, then the symbols. The image has the file's byte order.
unfoldable pub meaning : List ℕ → Result Image ElfFault
meaning file = do
  header ← header_of file
  segments ← segments_of header.order file header.programs
  symbols ← symbols_of header.order file header.sections
  Ok (record { order = header.order; entry = header.entry; segments = segments; symbols = symbols })

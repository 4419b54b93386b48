-- Program headers, 32 bytes each (System V ABI, "Program Header"), and the segments that they load.
use Rattle.std.specs.Prelude.{ℕ, zero, suc, ◌+◌, ◌-◌, ◌*◌, ◌^◌, Bool, not, ◌&&◌, ◌||◌, ◌==◌, nat_lt, if◌then◌else◌}
use Rattle.std.specs.Prelude.{List, [], ◌∷◌, ◌++◌, length, take, drop, replicate, Option, None, Some, Result, Ok, Err}
use Rattle.std.specs.List.{list_any}
use Rattle.brd_word.specs.declared.order.Order.{Order}
use Rattle.brd_base.specs.Space.{base, top}
use Rattle.brd_mem.specs.declared.image.Segment.{Segment}
use Rattle.brd_elf.specs.declared.fault.ElfFault.{ElfFault}
use Rattle.brd_elf.specs.declared.fault.ElfFault.TheVariants as fault
use Rattle.brd_elf.specs.declared.header.Table.{Table}
use Rattle.brd_elf.specs.declared.segments.ProgramHeader.{ProgramHeader}
use Rattle.brd_text.specs.Faults.{◌>>=◌}
use Rattle.brd_elf.specs.Fields.{word_at, has_bytes}

-- the program header that bytes begin with
abbrev pub program_header_at : Order → List ℕ → ProgramHeader
program_header_at order bytes = record {
  kind = word_at order bytes 0;
  offset = word_at order bytes 4;
  address = word_at order bytes 8;
  file_size = word_at order bytes 16;
  memory_size = word_at order bytes 20;
}

-- some segment has bytes at addresses from low up to, not including, high
abbrev pub lies_in : List Segment → ℕ → ℕ → Bool
lies_in segments low high =
    list_any (λ segment. nat_lt segment.address high && nat_lt low (segment.address + length segment.bytes)) segments

-- PT_DYNAMIC and PT_INTERP ask for dynamic linking
abbrev pub is_dynamic : ProgramHeader → Bool
is_dynamic header = header.kind == 2 || header.kind == 3

-- only PT_LOAD is loaded, and only if it has bytes
abbrev pub is_skipped : ProgramHeader → Bool
is_skipped header = not (header.kind == 1) || (header.memory_size == 0 && header.file_size == 0)

-- the file has more bytes for it than memory, or memory ends before it does
abbrev pub has_bad_sizes : ProgramHeader → Bool
has_bad_sizes header =
    nat_lt header.memory_size header.file_size || nat_lt (2 ^ 32) (header.address + header.memory_size)

-- the file ends before its bytes do
abbrev pub is_cut : List ℕ → ProgramHeader → Bool
is_cut file header = not (header.file_size == 0) && not (has_bytes file header.offset header.file_size)

-- not all of it is loaded to 0x80000000 to 0x80FFFFFF
abbrev pub is_outside : ProgramHeader → Bool
is_outside header = nat_lt header.address base || nat_lt top (header.address + header.memory_size)

-- the bytes of the file, then zero up to the size in memory
abbrev pub loaded_bytes : List ℕ → ProgramHeader → List ℕ
loaded_bytes file header =
    take header.file_size (drop header.offset file) ++ replicate (header.memory_size - header.file_size) 0

-- the fault of a header that is to be loaded after these segments; `at` is its own offset
unfoldable pub load_fault : List ℕ → ℕ → ProgramHeader → List Segment → Option ElfFault
load_fault file at header segments =
    if has_bad_sizes header then Some (fault.Sizes at)
    else (if is_cut file header then Some (fault.Truncated at)
    else (if is_outside header then Some (fault.Outside at)
    else (if lies_in segments header.address (header.address + header.memory_size) then Some (fault.Overlap at)
    else None)))

abbrev pub loaded_unless : Option ElfFault → List ℕ → ProgramHeader → List Segment → Result (List Segment) ElfFault
loaded_unless (Some f) file header segments = Err f
loaded_unless None file header segments =
    Ok (segments ++ record { address = header.address; bytes = loaded_bytes file header } ∷ [])

-- these segments, and after them the one of the program header at an offset, if it has one
unfoldable pub loaded : List ℕ → ℕ → ProgramHeader → List Segment → Result (List Segment) ElfFault
loaded file at header segments =
    if is_dynamic header then Err (fault.Unsupported at)
    else (if is_skipped header then Ok segments
    else loaded_unless (load_fault file at header segments) file header segments)

-- these segments, and after them those of the next headers, as many as count, from an offset on
unfoldable pub loaded_from : Order → List ℕ → ℕ → ℕ → List Segment → Result (List Segment) ElfFault
loaded_from order file at zero segments = Ok segments
loaded_from order file at (suc count) segments = do
  more ← loaded file at (program_header_at order (drop at file)) segments
  loaded_from order file (at + 32) count more

-- The segments of a table of program headers, in the file's order. A fault of the table is one of e_phentsize (at
-- 42) or e_phoff (at 28).
unfoldable pub segments_of : Order → List ℕ → Table → Result (List Segment) ElfFault
segments_of order file table =
    if table.count == 0 then Ok []
    else (if not (table.entry_size == 32) then Err (fault.Sizes 42)
    else (if not (has_bytes file table.offset (32 * table.count)) then Err (fault.Truncated 28)
    else loaded_from order file table.offset table.count []))

-- Section headers, 40 bytes each, and the symbol table, 16 bytes a symbol (System V ABI, "Sections", "Symbol Table",
-- "String Table").
use Rattle.std.specs.Prelude.{ℕ, zero, suc, ◌+◌, ◌*◌, ◌/◌, ◌%◌, Bool, not, ◌&&◌, ◌||◌, ◌==◌, nat_le, if◌then◌else◌}
use Rattle.std.specs.Prelude.{List, [], ◌∷◌, ◌++◌, take, drop, Option, None, Some, option_map, Result, Ok, Err}
use Rattle.std.specs.List.{list_any}
use Rattle.std.specs.Str.{bytes_eq}
use Rattle.brd_word.specs.declared.order.Order.{Order}
use Rattle.brd_mem.specs.declared.image.Symbol.{Symbol}
use Rattle.brd_elf.specs.declared.fault.ElfFault.{ElfFault}
use Rattle.brd_elf.specs.declared.fault.ElfFault.TheVariants as fault
use Rattle.brd_elf.specs.declared.header.Table.{Table}
use Rattle.brd_elf.specs.declared.sections.Section.{Section}
use Rattle.brd_elf.specs.declared.symbols.Entry.{Entry}
use Rattle.brd_text.specs.Faults.{◌>>=◌}
use Rattle.brd_elf.specs.Fields.{half_at, word_at, has_bytes}

-- the section header that bytes begin with
abbrev pub section_at : Order → List ℕ → Section
section_at order bytes = record {
  kind = word_at order bytes 4;
  offset = word_at order bytes 16;
  size = word_at order bytes 20;
  link = word_at order bytes 24;
  entry_size = word_at order bytes 36;
}

-- all its bytes lie in the file
abbrev pub is_whole : List ℕ → Section → Bool
is_whole file section = section.size == 0 || has_bytes file section.offset section.size

-- its bytes
abbrev pub section_bytes : List ℕ → Section → List ℕ
section_bytes file section = take section.size (drop section.offset file)

-- the offset of the first header of a symbol table (SHT_SYMTAB) among the next, as many as count, from an offset on
unfoldable pub symbol_table_from : Order → List ℕ → ℕ → ℕ → Option ℕ
symbol_table_from order file at zero = None
symbol_table_from order file at (suc count) =
    if (section_at order (drop at file)).kind == 2 then Some at else symbol_table_from order file (at + 40) count

-- a symbol table as it is read here: whole symbols of 16 bytes, all in the file, linked to a section that there is
abbrev pub is_symbol_table : List ℕ → Table → Section → Bool
is_symbol_table file table section =
    section.entry_size == 16 && section.size % 16 == 0 && is_whole file section && not (nat_le table.count section.link)

-- a string table (SHT_STRTAB) that lies in the file
abbrev pub is_string_table : List ℕ → Section → Bool
is_string_table file section = section.kind == 3 && is_whole file section

-- the section that a section is linked to
abbrev pub linked : Order → List ℕ → Table → Section → Section
linked order file table section = section_at order (drop (table.offset + 40 * section.link) file)

-- the strings that go with the symbol table whose section header lies at an offset
unfoldable pub strings_of : Order → List ℕ → Table → ℕ → Result (List ℕ) ElfFault
strings_of order file table at =
    let section = section_at order (drop at file) in
    if not (is_symbol_table file table section) then Err (fault.Symbols at)
    else (if not (is_string_table file (linked order file table section)) then Err (fault.Symbols at)
    else Ok (section_bytes file (linked order file table section)))

-- the symbol that bytes begin with
abbrev pub entry_at : Order → List ℕ → Entry
entry_at order bytes =
    record { name = word_at order bytes 0; value = word_at order bytes 4; section = half_at order bytes 14 }

-- the string that bytes begin with: those before the first byte 0
abbrev pub string_of : List ℕ → Option (List ℕ)
string_of [] = None
string_of (byte ∷ bytes) = if byte == 0 then Some [] else option_map (λ string. byte ∷ string) (string_of bytes)

-- one of the symbols has this name
abbrev pub is_named : List Symbol → List ℕ → Bool
is_named symbols name = list_any (λ symbol. bytes_eq symbol.name name) symbols

-- these symbols, and after them one with this name, unless it is empty or one of them has it
abbrev pub with_symbol : List Symbol → List ℕ → ℕ → List Symbol
with_symbol symbols [] value = symbols
with_symbol symbols (byte ∷ name) value =
    if is_named symbols (byte ∷ name) then symbols else symbols ++ record { name = byte ∷ name; value = value } ∷ []

abbrev pub named : Option (List ℕ) → ℕ → ℕ → List Symbol → Result (List Symbol) ElfFault
named None value at symbols = Err (fault.Symbols at)
named (Some name) value at symbols = Ok (with_symbol symbols name value)

-- these symbols, and after them the one at an offset, unless it belongs to no section (SHN_UNDEF)
unfoldable pub kept : List ℕ → ℕ → Entry → List Symbol → Result (List Symbol) ElfFault
kept strings at entry symbols =
    if entry.section == 0 then Ok symbols
    else named (string_of (drop entry.name strings)) entry.value at symbols

-- these symbols, and after them those of the next entries, as many as count, from an offset on
unfoldable pub kept_from : Order → List ℕ → List ℕ → ℕ → ℕ → List Symbol → Result (List Symbol) ElfFault
kept_from order file strings at zero symbols = Ok symbols
kept_from order file strings at (suc count) symbols = do
  more ← kept strings at (entry_at order (drop at file)) symbols
  kept_from order file strings (at + 16) count more

-- the symbols of the symbol table whose section header lies at an offset; without one there are none
unfoldable pub symbols_by : Order → List ℕ → Table → Option ℕ → Result (List Symbol) ElfFault
symbols_by order file table None = Ok []
symbols_by order file table (Some at) = do
  strings ← strings_of order file table at
  kept_from order file strings (section_at order (drop at file)).offset ((section_at order (drop at file)).size / 16) []

-- The symbols by a table of section headers: those of its first symbol table. A fault of the table is one of
-- e_shentsize (at 46) or e_shoff (at 32).
unfoldable pub symbols_of : Order → List ℕ → Table → Result (List Symbol) ElfFault
symbols_of order file table =
    if table.offset == 0 || table.count == 0 then Ok []
    else (if not (table.entry_size == 40) then Err (fault.Sizes 46)
    else (if not (has_bytes file table.offset (40 * table.count)) then Err (fault.Truncated 32)
    else symbols_by order file table (symbol_table_from order file table.offset table.count)))

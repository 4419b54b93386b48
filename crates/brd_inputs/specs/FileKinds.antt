-- What a file looks like by its front, and which faults of its form say so (own choice).
use Rattle.std.specs.Prelude.{ℕ, Bool, nat_eq, nat_le, ◌&&◌, ◌||◌, ◌==◌, if◌then◌else◌, List, length, take, codes}
use Rattle.std.specs.Prelude.{Option, Some, None, option_and_then}
use Rattle.std.specs.List.{starts_with, list_all}
use Rattle.brd_text.specs.Bytes.{is_blank}
use Rattle.brd_text.specs.Tokens.{first, tokens_of}
use Rattle.brd_elf.specs.Header.{magic}
use Rattle.brd_config.specs.Meaning.{is_board}
use Rattle.brd_image.specs.declared.fault.BuildFault.{BuildFault}
use Rattle.brd_image.specs.declared.fault.BuildFault.TheVariants as build_fault
use Rattle.brd_elf.specs.declared.fault.ElfFault.TheVariants as elf_fault
use Rattle.brd_config.specs.declared.fault.ConfigFault.TheVariants as config_fault
use Rattle.brd_asm.specs.declared.fault.AsmFault.{AsmFault}
use Rattle.brd_asm.specs.declared.fault.AsmFault.TheVariants as asm_fault
use Rattle.brd_journal.specs.declared.fault.JournalFault.{JournalFault}
use Rattle.brd_journal.specs.declared.fault.JournalFault.TheVariants as journal_fault
use Rattle.brd_threads.specs.declared.fault.ScriptFault.{ScriptFault}
use Rattle.brd_threads.specs.declared.fault.ScriptFault.TheVariants as script_fault
use Rattle.brd_inputs.specs.declared.file_kind.FileKind.{FileKind}
use Rattle.brd_inputs.specs.declared.file_kind.FileKind.TheVariants.{ObjectFile, Configuration, Journal, Script, Source}
use Rattle.brd_inputs.specs.declared.file_kind.FileKind.TheVariants.{Empty}

-- the first word, after blanks and comments, is BOARD
abbrev pub begins_with_board : List ℕ → Bool
begins_with_board bytes = is_board (first (tokens_of bytes)).token

-- printable ASCII, a blank or a newline
abbrev pub is_text_byte : ℕ → Bool
is_text_byte b = is_blank b || (nat_le 32 b && nat_le b 126)

abbrev pub are_text : List ℕ → Bool
are_text bytes = list_all is_text_byte bytes

-- it begins as an entry of a script does: with T or R, and a space
abbrev pub begins_with_entry : List ℕ → Bool
begins_with_entry bytes = starts_with nat_eq bytes (codes "T ") || starts_with nat_eq bytes (codes "R ")

-- it begins as an object file does
abbrev pub is_object_file : List ℕ → Bool
is_object_file bytes = starts_with nat_eq bytes magic

-- The kind of which a file looks: an object file, a journal and a script by their first bytes, a configuration by its
-- first word. Any other text, by its first 1,024 bytes, is source.
unfoldable pub looks_like : List ℕ → Option FileKind
looks_like bytes =
    if length bytes == 0 then Some Empty
    else (if is_object_file bytes then Some ObjectFile
    else (if starts_with nat_eq bytes (codes "board-journal") then Some Journal
    else (if begins_with_entry bytes then Some Script
    else (if begins_with_board bytes then Some Configuration
    else (if are_text (take 1024 bytes) then Some Source
    else None)))))

-- Another kind than a file should be of. Text in the place of a configuration, a journal or a script may be one that
-- has a fault, so that it isn't taken for source.
abbrev pub unless_own : FileKind → FileKind → Option FileKind
unless_own ObjectFile ObjectFile = None
unless_own Configuration Configuration = None
unless_own Configuration Source = None
unless_own Journal Journal = None
unless_own Journal Source = None
unless_own Script Script = None
unless_own Script Source = None
unless_own Source Source = None
unless_own wanted kind = Some kind

-- the other kind of which a file looks that should be of this one
abbrev pub other_kind : FileKind → List ℕ → Option FileKind
other_kind wanted bytes = option_and_then (unless_own wanted) (looks_like bytes)

-- What a fault of building says that its text looks like: an object file that is none, and a configuration that hasn't
-- the form of one.
abbrev pub build_looks_like : List ℕ → List ℕ → BuildFault → Option FileKind
build_looks_like image config (build_fault.Elf elf_fault.NotElf) = other_kind ObjectFile image
build_looks_like image config (build_fault.Config (config_fault.Syntax line)) = other_kind Configuration config
build_looks_like image config fault = None

-- what a fault of a journal says that it looks like: one that hasn't the form of a journal
abbrev pub journal_looks_like : List ℕ → JournalFault → Option FileKind
journal_looks_like text (journal_fault.Syntax line) = other_kind Journal text
journal_looks_like text fault = None

-- what a fault of a script says that it looks like: one that hasn't the form of a script
abbrev pub script_looks_like : List ℕ → ScriptFault → Option FileKind
script_looks_like text (script_fault.Syntax line) = other_kind Script text
script_looks_like text fault = None

-- what a fault of a source says that it looks like: one that hasn't the form of a source
abbrev pub source_looks_like : List ℕ → AsmFault → Option FileKind
source_looks_like source (asm_fault.Syntax line) = other_kind Source source
source_looks_like source fault = None

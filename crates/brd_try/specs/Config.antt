-- The configuration of a board that `try` makes of an object file: its processors, its RAM, and a task on each of them
-- (own choice).
use Rattle.std.specs.Prelude.{ℕ, zero, suc, ◌+◌, ◌*◌, ◌-◌, ◌/◌, max, min, List, [], ◌∷◌, ◌++◌, length, codes, Option}
use Rattle.std.specs.Prelude.{None, Some}
use Rattle.std.specs.Prelude.{Result, Ok, Err}
use Rattle.std.specs.Fmt.{decimal}
use Rattle.brd_base.specs.Space.{base}
use Rattle.brd_elf.specs.Meaning.{meaning}
use Rattle.brd_elf.specs.declared.fault.ElfFault.{ElfFault}
use Rattle.brd_mem.specs.Image.{symbol_value}
use Rattle.brd_mem.specs.declared.image.Image.{Image}
use Rattle.brd_mem.specs.declared.image.Segment.{Segment}
use Rattle.brd_text.specs.Hex.{hex_of}

-- where the last of some segments ends, or this address where all end before it
abbrev pub end_from : ℕ → List Segment → ℕ
end_from most [] = most
end_from most (segment ∷ segments) = end_from (max most (segment.address + length segment.bytes)) segments

-- the size of RAM: as many times 64 KiB as the image and a stack of 4096 bytes for each of n tasks take, one at least
-- and 256 at most
abbrev pub ram_size : ℕ → Image → ℕ
ram_size cpus image =
    65536 * min 256 (max 1 ((end_from base image.segments - base + 4096 * cpus + 65535) / 65536))

-- a word in hexadecimal, as a configuration takes it
abbrev pub hex_text : ℕ → List ℕ
hex_text word = codes "0x" ++ hex_of word

-- where the tasks begin: at `main`, or where the image says that it starts
abbrev pub start_text : Option ℕ → ℕ → List ℕ
start_text (Some value) entry = codes "main"
start_text None entry = hex_text entry

-- the line that says of which processor what follows is
unfoldable pub class_line : ℕ → List ℕ
class_line cpu = codes "CLASS(TCL_" ++ decimal cpu ++ codes ") {\n"

-- the front of the line of its task, which is started at once, and whose ID is the processor's number
unfoldable pub creation_front : ℕ → List ℕ
creation_front cpu = codes "    CRE_TSK(" ++ decimal cpu ++ codes ", {TA_ACT, "

-- that line: its argument is the processor's number too
unfoldable pub creation_line : List ℕ → ℕ → List ℕ
creation_line start cpu =
    creation_front cpu ++ decimal cpu ++ codes ", " ++ start ++ codes ", 1, 4096, NULL});\n"

-- the task of a processor
abbrev pub task_text : List ℕ → ℕ → List ℕ
task_text start cpu = class_line cpu ++ creation_line start cpu ++ codes "}\n"

-- the tasks of the processors 1 to n
abbrev pub tasks_text : ℕ → List ℕ → List ℕ
tasks_text zero start = []
tasks_text (suc n) start = tasks_text n start ++ task_text start (suc n)

-- the configuration of n processors for an image
abbrev pub config_text : ℕ → Image → List ℕ
config_text cpus image =
    codes "BOARD(" ++ decimal cpus ++ codes ", " ++ hex_text (ram_size cpus image) ++ codes ");\n"
    ++ tasks_text cpus (start_text (symbol_value image.symbols (codes "main")) image.entry)

-- the same for an object file; nothing where that is none
abbrev pub config_by : ℕ → Result Image ElfFault → List ℕ
config_by cpus (Ok image) = config_text cpus image
config_by cpus (Err fault) = []

abbrev pub config_of : ℕ → List ℕ → List ℕ
config_of cpus object = config_by cpus (meaning object)

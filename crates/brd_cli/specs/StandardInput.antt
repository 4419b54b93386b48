-- Who reads standard input, for which `-` stands where a file is read. It is read once.
use Rattle.std.specs.Prelude.{ℕ, ◌+◌, ◌-◌, ◌^◌, ◌==◌, List, [], ◌∷◌, bytes_eq, codes, if◌then◌else◌, length, min}
use Rattle.std.specs.Prelude.{nat_lt}
use Rattle.std.specs.Prelude.{Option, None, Some}
use Rattle.std.specs.List.{after_first, position_or_len}
use Rattle.clap.specs.Words.{Text}
use Rattle.brd_command.specs.declared.request.Request.{Request}
use Rattle.brd_command.specs.declared.request.Request.TheVariants.{Words, Asm, Run, Race, Debug, Trace, Journal}
use Rattle.brd_command.specs.declared.request.Request.TheVariants.{Explore, Gdb, Shrink, Try}
use Rattle.brd_cli.specs.declared.standard_input.InputFault.{InputFault}
use Rattle.brd_cli.specs.declared.standard_input.InputFault.TheVariants.{Arguments, Commands, Packets}

-- how often a file of this name is standard input: once or not at all
abbrev pub one : Text → ℕ
one name = if bytes_eq name (codes "-") then 1 else 0

-- how many of the files that a request reads are standard input
abbrev pub arguments : Request → ℕ
arguments (Words steps) = 0
arguments (Asm source out) = one source.now
arguments (Run image config journal) = one image.now + one config.now + one journal.now
arguments (Race image config script quota out) = one image.now + one config.now + one script.now
arguments (Debug image config journal) = one image.now + one config.now + one journal.now
arguments (Gdb image config journal) = one image.now + one config.now + one journal.now
arguments (Trace image config journal options) = one image.now + one config.now + one journal.now
arguments (Journal cpus events options) = 0
arguments (Explore image config options out) = one image.now + one config.now
arguments (Shrink image config journal options out) = one image.now + one config.now + one journal.now
arguments (Try source options keep page) = one source.now

-- the same of the file of data: what is behind the first = (61) of its text
abbrev pub one_of_data : Text → ℕ
one_of_data text =
    if nat_lt (position_or_len (λ b. b == 61) text) (length text) then one (after_first (λ b. b == 61) text) else 0

-- n, and how many more of the files of data are standard input, up to the greatest number of 32 bits
abbrev pub counted : ℕ → List Text → ℕ
counted n [] = n
counted n (text ∷ texts) = counted (min (n + one_of_data text) (2 ^ 32 - 1)) texts

-- how many arguments of a request with data are standard input, up to that number
abbrev pub all_arguments : Request → List Text → ℕ
all_arguments request texts = min (arguments request + counted 0 texts) (2 ^ 32 - 1)

-- what is wrong with so many: `debug` and `gdb` read standard input themselves
abbrev pub fault_of_arguments : Request → ℕ → Option InputFault
fault_of_arguments (Debug image config journal) n = if nat_lt 0 n then Some Commands else None
fault_of_arguments (Gdb image config journal) n = if nat_lt 0 n then Some Packets else None
fault_of_arguments request n = if nat_lt 1 n then Some Arguments else None

abbrev pub input_fault : Request → List Text → Option InputFault
input_fault request texts = fault_of_arguments request (all_arguments request texts)

-- The commands of `debug`, and the lines that say them (own choice).
use Rattle.std.specs.Prelude.{ℕ, ◌+◌, ◌-◌, ◌^◌, ◌==◌, if◌then◌else◌, List, [], ◌∷◌, length, take, drop, map, codes}
use Rattle.std.specs.Prelude.{Option, Some, None, option_map}
use Rattle.std.specs.Str.{bytes_eq}
use Rattle.brd_text.specs.Hex.{hex_word_of}
use Rattle.brd_text.specs.Lines.{in_front}
use Rattle.brd_text.specs.Numbers.{plain_decimal_of}
use Rattle.brd_running.specs.declared.debug_line.DebugCommand.{DebugCommand}
use Rattle.brd_running.specs.declared.debug_line.DebugCommand.TheVariants.{Goto, Next, Back, Break, Watch, Registers}
use Rattle.brd_running.specs.declared.debug_line.DebugCommand.TheVariants.{Memory, Quit, Unknown}

-- The lines of an input. A newline ends a line, and the last one may lack it; newlines belong to no line. So an input
-- that ends with a newline has no empty line after it.
abbrev pub command_lines : List ℕ → List (List ℕ)
command_lines [] = []
command_lines (b ∷ bs) = if b == 10 then [] ∷ command_lines bs else in_front b (command_lines bs)

-- how many bytes the first line of an input takes, its newline too
abbrev pub line_size : List ℕ → ℕ
line_size [] = 0
line_size (b ∷ bs) = if b == 10 then 1 else line_size bs + 1

-- where a line begins so, what is said of its rest; else the other
abbrev pub if_begins : List ℕ → (List ℕ → Option DebugCommand) → List ℕ → Option DebugCommand → Option DebugCommand
if_begins front say line other =
    if bytes_eq (take (length front) line) front then say (drop (length front) line) else other

-- `goto` and a position below 2 to the 64th, `regs` and a number below 256, both decimal without leading zeros;
-- `break`, `watch` and `mem` and an address of eight hexadecimal digits of either case
abbrev pub with_argument : List ℕ → Option DebugCommand
with_argument line =
    if_begins (codes "goto ") (λ digits. option_map Goto (plain_decimal_of digits (2 ^ 64 - 1))) line
    (if_begins (codes "break ") (λ digits. option_map Break (hex_word_of digits)) line
    (if_begins (codes "watch ") (λ digits. option_map Watch (hex_word_of digits)) line
    (if_begins (codes "regs ") (λ digits. option_map Registers (plain_decimal_of digits 255)) line
    (if_begins (codes "mem ") (λ digits. option_map Memory (hex_word_of digits)) line
    None))))

abbrev pub or_unknown : Option DebugCommand → DebugCommand
or_unknown None = Unknown
or_unknown (Some command) = command

-- The command that a line says. Nothing stands before or after it, and one space between word and argument.
abbrev pub command_of : List ℕ → DebugCommand
command_of line =
    if bytes_eq line (codes "next") then Next
    else (if bytes_eq line (codes "back") then Back
    else (if bytes_eq line (codes "quit") then Quit
    else or_unknown (with_argument line)))

-- the commands of an input
abbrev pub commands_of : List ℕ → List DebugCommand
commands_of text = map command_of (command_lines text)

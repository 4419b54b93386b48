-- The lines that `debug` knows, without reading them (own choice). That just these are read so is proved as
-- `laws::lines_follow_the_grammar`.
use Rattle.std.specs.Prelude.{◌≡◌, ℕ, ◌<◌, ◌^◌, List, ◌++◌, codes, Some}
use Rattle.std.specs.Fmt.{decimal}
use Rattle.brd_text.specs.Hex.{hex_word_of}
use Rattle.brd_running.specs.declared.debug_line.DebugCommand.{DebugCommand}
use Rattle.brd_running.specs.declared.debug_line.DebugCommand.TheVariants.{Goto, Next, Back, Break, Watch, Registers}
use Rattle.brd_running.specs.declared.debug_line.DebugCommand.TheVariants.{Memory, Quit, Unknown}

-- a front, and after it a number below a limit, in decimal digits without leading zeros
pub record HasNumber (front : List ℕ) (line : List ℕ) (number limit : ℕ) : Type 0 where
  pub text : line ≡ front ++ decimal number
  pub below : number < limit

-- a front, and after it the eight hexadecimal digits of an address, of either case
pub record HasAddress (front : List ℕ) (line : List ℕ) (address : ℕ) : Type 0 where
  pub digits : List ℕ
  pub text : line ≡ front ++ digits
  pub are_of : hex_word_of digits ≡ Some address

-- A line says a command: a word, or a word, one space and an argument, and nothing before or after them. No line says
-- the unknown.
abbrev pub Says : List ℕ → DebugCommand → Type 0
Says line (Goto position) = HasNumber (codes "goto ") line position (2 ^ 64)
Says line Next = line ≡ codes "next"
Says line Back = line ≡ codes "back"
Says line (Break address) = HasAddress (codes "break ") line address
Says line (Watch address) = HasAddress (codes "watch ") line address
Says line (Registers cpu) = HasNumber (codes "regs ") line cpu 256
Says line (Memory address) = HasAddress (codes "mem ") line address
Says line Quit = line ≡ codes "quit"
Says line Unknown = ⊥

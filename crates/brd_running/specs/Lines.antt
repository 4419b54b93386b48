-- Reading standard input line by line.
use Rattle.std.specs.Prelude.{◌≡◌, ◌≢◌, ℕ, ◌+◌, ◌<◌, ◌≤◌, true, List, [], ◌∷◌, ◌++◌, length, Option, None, Some}
use Rattle.std.specs.IoError.{error_kind}
use Rattle.std.specs.declared.io.ErrorKind.TheVariants.{OutOfMemory}
use Rattle.brd_running.specs.DebugLine.{command_lines, line_size}
use Rattle.brd_inputs.specs.Input.{most_bytes}
use Rattle.brd_inputs.specs.declared.fault.CommandFault.{CommandFault}
use Rattle.brd_inputs.specs.declared.fault.CommandFault.TheVariants.{NoMemory, Read, TooLong, TooManyReads}
use Rattle.brd_inputs.specs.declared.input_name.InputName.TheVariants.{StandardInput}
use Rattle.brd_running.specs.declared.lines.Taken.{Taken}

-- an input of which it is known that it has ended has no bytes left
abbrev pub KnowsEnd : Taken → Option (List ℕ) → Type 0
KnowsEnd taken left = taken.ended ≡ true → (text : List ℕ) → left ≡ Some text → text ≡ []

-- Of an input with these bytes left one byte was taken, or none, since it has no more.
abbrev pub TakesByte : List ℕ → Option ℕ → Option (List ℕ) → Type 0
TakesByte text None after = (text ≡ []) × (after ≡ Some [])
TakesByte text (Some byte) after = (rest : List ℕ) × (after ≡ Some rest) × (text ≡ byte ∷ rest)

-- one byte more was taken, and not more than an input may have; or none, and it is known that there are no more
abbrev pub CountsByte : Taken → Option ℕ → Taken → Type 0
CountsByte old None new = (new.bytes ≡ old.bytes) × (new.ended ≡ true)
CountsByte old (Some byte) new = (new.bytes ≡ old.bytes + 1) × (new.bytes ≤ most_bytes)

-- what is left of a text of which a front was taken
abbrev pub IsLeftOf : List ℕ → List ℕ → Type 0
IsLeftOf text rest = (front : List ℕ) × (text ≡ front ++ rest)

-- Of an input with these bytes left the first line was taken, or none, since it has no more.
abbrev pub TakesLine : List ℕ → Taken → Option (List ℕ) → Option (List ℕ) → Taken → Type 0
TakesLine text old None after new =
    (command_lines text ≡ []) × (after ≡ Some []) × (new.bytes ≡ old.bytes + length text)
TakesLine text old (Some line) after new =
    (rest : List ℕ) × (after ≡ Some rest) × (command_lines text ≡ line ∷ command_lines rest)
    × (new.bytes + length rest ≡ old.bytes + length text) × IsLeftOf text rest

-- some bytes more were taken, and not more than an input may have; or none, and it is known that there are no more
abbrev pub CountsLine : Taken → Option (List ℕ) → Taken → Type 0
CountsLine old None new = (new.bytes ≤ most_bytes) × (new.ended ≡ true)
CountsLine old (Some line) new = (old.bytes < new.bytes) × (new.bytes ≤ most_bytes)

-- What may keep standard input, of which n bytes were taken and these are left, from being read on. One that is
-- called too long has a line next that doesn't end within the bytes that an input may have. That memory ran out is said
-- as such.
abbrev pub KeepsFromTaking : Taken → List ℕ → CommandFault → Type 0
KeepsFromTaking taken left NoMemory = Unit {0}
KeepsFromTaking taken left (Read from error) = (from ≡ StandardInput) × (error_kind error ≢ OutOfMemory)
KeepsFromTaking taken left (TooLong from) = (from ≡ StandardInput) × (most_bytes < taken.bytes + line_size left)
KeepsFromTaking taken left (TooManyReads from) = from ≡ StandardInput
KeepsFromTaking taken left _ = ⊥

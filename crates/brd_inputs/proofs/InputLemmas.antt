-- What is known of an input that was read in part.
use Rattle.std.proofs.Common.{refl, sym, subst, ◌≢◌, ◌<◌, ◌≤◌, ◌+◌, ◌++◌, length, take, ℕ, List, arith, length-append, length-take-le}
use Rattle.std.specs.Prelude.{Option, Some, None}
use Rattle.std.specs.Io.KnownBytes.{Consumes}
use Rattle.std.specs.IoError.{error_kind}
use Rattle.std.specs.declared.io.Error.{Error}
use Rattle.std.specs.declared.io.ErrorKind.TheVariants.{OutOfMemory}
use Rattle.brd_inputs.specs.Faults.{IsOfRead}
use Rattle.brd_inputs.specs.Input.{KeepsFromReading, most_bytes}
use Rattle.brd_inputs.specs.declared.fault.CommandFault.{CommandFault}
use Rattle.brd_inputs.specs.declared.input_name.InputName.{InputName}
use Rattle.brd_inputs.specs.declared.fault.CommandFault.TheVariants.{NoMemory, Read, TooLong}

-- an input of which more bytes were read than it may have
pub too_long : (old mid new : Option (List ℕ)) (bytes piece : List ℕ) (n : ℕ) (input : InputName) → Consumes old mid bytes → Consumes mid new (take n piece) → n ≤ length piece → most_bytes < length bytes + n → KeepsFromReading input old (TooLong input)
too_long None mid new bytes piece n input taken read all more = (refl, tt)
too_long (Some xs) None new bytes piece n input taken read all more = absurd taken
too_long (Some xs) (Some ys) None bytes piece n input taken read all more = absurd read
too_long (Some xs) (Some ys) (Some zs) bytes piece n input taken read all more =
    (refl, rw (taken, read) (omega (arith, length-append bytes (take n piece ++ zs), length-append (take n piece) zs, length-take-le n piece all, more)))

-- a read that failed keeps any input from being read
pub read_failed : (name : InputName) (input : Option (List ℕ)) (error : Error) (fault : CommandFault) → IsOfRead name error fault → KeepsFromReading name input fault
read_failed name input error NoMemory is = tt
read_failed name input error (Read from e) is = (is.0, subst (λ (x : Error). error_kind x ≢ OutOfMemory) (sym is.1) is.2)
read_failed name input error fault is = absurd is

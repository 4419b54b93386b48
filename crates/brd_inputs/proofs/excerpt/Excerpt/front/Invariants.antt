-- What is shown so far, and then the bytes that are left, are all of them.
use Rattle.std.proofs.Common.{◌≡◌, ◌++◌, drop, map}
use Rattle.std.specs.Prelude.{string_bytes}
use Rattle.brd_inputs.specs.Excerpt.{shown_byte}
use Rattle.brd_inputs.proofs.excerpt.Excerpt.front.Given as goal

abbrev pub invariant-loop-byte : goal.invariant-loop-byte
invariant-loop-byte l = string_bytes l.shown ++ map shown_byte (drop l.byte-index l.byte-items) ≡ map shown_byte l.byte-items

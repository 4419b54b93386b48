-- The string at the place that was reached has the number; the places before it, from the first on, hold letters and
-- have no numbers.
use Rattle.std.proofs.Common.{◌≡◌, ◌<◌, ◌≤◌, ◌-◌, length, drop, Some}
use Rattle.brd_elf.specs.Symbols.{string_of}
use Rattle.brd_elf.specs.Trie.{path_of, AreDistinct, IsMore}
use Rattle.brd_elf.specs.Places.{AreLetters, AreNew}
use Rattle.brd_elf.proofs.places.Places.number_of.Given as goal

abbrev pub invariant-loop-at : goal.invariant-loop-at
invariant-loop-at l = record {
  low : l.start ≤ l.at;
  within : l.at < length l.fn.self.strings;
  letters : AreLetters l.fn.self.strings l.start l.at;
  new : AreNew l.self.numbers l.start l.at;
  strings : l.self.strings ≡ l.fn.self.strings;
  string : string_of (drop l.at l.fn.self.strings) ≡ Some (path_of l.self.paths l.number);
  there : l.number < length l.self.paths;
  kept : IsMore l.fn.self.paths l.self.paths;
  distinct : AreDistinct l.self.paths;
}

abbrev pub decreases-loop-at : goal.decreases-loop-at
decreases-loop-at l = l.at - l.start

-- No string ended so far, and no place had a number.
use Rattle.brd_elf.specs.Places.{AreLetters, AreNew}
use Rattle.brd_elf.proofs.places.Places.numbered_from.Given as goal

abbrev pub invariant-loop-at : goal.invariant-loop-at
invariant-loop-at l = record {
  letters : AreLetters l.self.strings l.start l.at;
  new : AreNew l.self.numbers l.start l.at;
}

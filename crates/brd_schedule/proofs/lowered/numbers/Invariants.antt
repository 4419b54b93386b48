-- the numbers so far
use Rattle.std.proofs.Common.{◌≡◌, length}
use Rattle.brd_schedule.specs.Steps.{numbers, words_of}
use Rattle.brd_schedule.proofs.lowered.numbers.Given as goal

abbrev pub invariant-loop : goal.invariant-loop
invariant-loop l = ((l.drawn.items, words_of l.rng) ≡ numbers l.end l.counter (words_of l.fn.rng)) × (length l.drawn.items ≡ l.counter)

-- The words so far, and what is left, give what the whole text gives.
use Rattle.std.proofs.Common.{◌≡◌, ◌+◌, ◌-◌, ◌≤◌, length}
use Rattle.std.specs.Prelude.{false}
use Rattle.brd_running.specs.WordText.{runs_from, words_of_runs, words_of_text, with_front}
use Rattle.brd_running.proofs.word_text.parse_words.Given as goal

abbrev pub invariant-loop-byte : goal.invariant-loop-byte
invariant-loop-byte l = record {
  same : with_front l.words.items (words_of_runs (16384 - length l.words.items) (runs_from false l.line l.left)) ≡ words_of_text l.text;
  room : length l.words.items ≤ 16384;
  lines : l.line + length l.left ≤ 1 + length l.text;
}

abbrev pub decreases-loop-byte : goal.decreases-loop-byte
decreases-loop-byte l = length l.left

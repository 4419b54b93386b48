-- A run that was taken is the next word.
use Rattle.std.proofs.Common.{◌≡◌, ◌<◌, ◌-◌, [], ◌∷◌, length, take, arith, length-append, Ok, sym, ap, ◌∙◌, rules}
use Rattle.brd_text.specs.Hex.{hex_word_of}
use Rattle.brd_running.specs.WordText.{word_or_fault}
use Rattle.brd_running.proofs.WordTextLemmas.{turn, room_for}
use Rattle.brd_running.proofs.word_text.parse_words.Goals as goal

pub loop-byte-preserved : goal.loop-byte-preserved
loop-byte-preserved c =
    let items = c.in_ok-put.ensures in
    let count : c.len.result ≡ length c.loop-byte.words.items = search rules in
    let read : word_or_fault (16384 - length c.loop-byte.words.items) c.loop-byte.line (hex_word_of (take c.run_len.result c.loop-byte.left.now))
    ≡ Ok c.in_ok-word.word =
    rw (← c.split_at.ensures.front) (ap (λ count. word_or_fault (16384 - count) c.loop-byte.line (hex_word_of c.split_at.result.0.now)) (sym count)
    ∙ sym c.checked_word.ensures ∙ c.in_ok-word.was) in
    let left : 0 < 16384 - length c.loop-byte.words.items = room_for _ _ _ _ read in
    record {
      same = rw (items, c.split_at.ensures.back) (turn c.loop-byte.line c.in-Some.byte.now c.in_ok-word.word c.run_len.result c.in-Some.rest.now
          c.loop-byte.left.now c.loop-byte.words.items _ c.in-Some.ensures.cases.0 (sym c.if-is_blank.ensures) c.run_len.ensures read c.loop-byte.invariant.same);
      room = rw items (omega (arith, length-append c.loop-byte.words.items (c.in_ok-word.word ∷ [])));
      lines = omega (arith, c.split_at.ensures.back_len, c.loop-byte.invariant.lines);
    }

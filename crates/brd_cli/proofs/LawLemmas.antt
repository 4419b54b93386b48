-- A word that doesn't begin with a hyphen is no flag of `clap`'s.
use Rattle.std.proofs.Common.{◌≡◌, ◌==◌, not, refl, true, false, bytes_eq, Bool, None, [], ◌∷◌}
use Rattle.clap.specs.Lexer.{strip_byte, long_of, short_of}
use Rattle.clap.specs.Words.{Text}
use Rattle.brd_cli.specs.Laws.{is_plain}

not_true : (b : Bool) → not b ≡ true → b ≡ false
not_true true is = cc
not_true false is = refl

pub no_hyphen : (word : Text) → is_plain word ≡ true → strip_byte 45 word ≡ None
no_hyphen [] plain = refl
no_hyphen (first ∷ rest) plain = rw (not_true (first == 45) plain) refl

pub no_hyphens : (word : Text) → is_plain word ≡ true → bytes_eq word (45 ∷ 45 ∷ []) ≡ false
no_hyphens [] plain = refl
no_hyphens (first ∷ rest) plain = rw (not_true (first == 45) plain) refl

pub no_long : (word : Text) → is_plain word ≡ true → long_of word ≡ None
no_long [] plain = refl
no_long (first ∷ rest) plain = rw (not_true (first == 45) plain) refl

pub no_short : (word : Text) → is_plain word ≡ true → short_of word ≡ None
no_short [] plain = refl
no_short (first ∷ rest) plain = rw (not_true (first == 45) plain) refl

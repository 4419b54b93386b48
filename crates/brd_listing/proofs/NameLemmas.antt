-- What text shows of a name, and a place, is printable ASCII.
use Rattle.std.proofs.Common.{◌≡◌, ℕ, ◌<◌, ◌-◌, ◌/◌, ◌%◌, ◌^◌, Bool, true, false, refl, arith}
use Rattle.std.proofs.Common.{List, [], ◌∷◌, ◌++◌, Option, Some, None}
use Rattle.std.specs.Prelude.{◌==◌}
use Rattle.std.proofs.lemmas.List.Folds.{list_all-append}
use Rattle.std.proofs.lemmas.Bool.Decides.{nat_tests}
use Rattle.brd_text.specs.Hex.{hex_digit, hex_of}
use Rattle.brd_mem.specs.declared.image.Symbol.{Symbol}
use Rattle.brd_listing.specs.Names.{is_printable, shown_byte, shown_name, IsPrintable}
use Rattle.brd_listing.specs.Places.{nearest_of, without_zeros, distance_text, text_by, place_text}

pub both : (xs ys : List ℕ) → IsPrintable xs → IsPrintable ys → IsPrintable (xs ++ ys)
both xs ys x y = rw (list_all-append is_printable xs ys, x) y

below_16 : (d : ℕ) → d < 16 → is_printable (hex_digit d) ≡ true
unfolding hex_digit
below_16 d lt = grind (arith, nat_tests, lt)

digit : (d : ℕ) → is_printable (hex_digit (d % 16)) ≡ true
digit d = below_16 (d % 16) (omega arith)

-- ---- names

byte_by : (is : Bool) (b : ℕ) → is_printable b ≡ is → IsPrintable (shown_byte b)
byte_by true b e = rw (e, e) refl
byte_by false b e = rw (e, digit (b / 16), digit b) refl

pub name : (name : List ℕ) → IsPrintable (shown_name name)
name [] = refl
name (b ∷ bs) = both (shown_byte b) (shown_name bs) (byte_by (is_printable b) b refl) (name bs)

-- ---- places

pub hex : (n : ℕ) → IsPrintable (hex_of n)
unfolding hex_of
hex n =
    rw (
      digit (n / 2 ^ 28),
      digit (n / 2 ^ 24),
      digit (n / 2 ^ 20),
      digit (n / 2 ^ 16),
      digit (n / 2 ^ 12),
      digit (n / 2 ^ 8),
      digit (n / 2 ^ 4),
      digit n,
    ) refl

left_by : (is : Bool) (d e : ℕ) (ds : List ℕ) → (d == 48) ≡ is → IsPrintable (d ∷ e ∷ ds)
    → IsPrintable (without_zeros (e ∷ ds)) → IsPrintable (without_zeros (d ∷ e ∷ ds))
left_by true d e ds is all left = rw is left
left_by false d e ds is all left = rw is all

left : (ds : List ℕ) → IsPrintable ds → IsPrintable (without_zeros ds)
left [] h = h
left (d ∷ []) h = h
left (d ∷ e ∷ ds) h = left_by (d == 48) d e ds refl h (left (e ∷ ds) (behind d (e ∷ ds) h))
  where
    behind : (d : ℕ) (ds : List ℕ) → IsPrintable (d ∷ ds) → IsPrintable ds
    behind d ds h = grind (arith, h)

distance_by : (is : Bool) (n : ℕ) → (n == 0) ≡ is → IsPrintable (distance_text n)
distance_by true n e = rw e refl
distance_by false n e = rw e (left (hex_of n) (hex n))

by : (symbol : Option Symbol) (address : ℕ) → IsPrintable (text_by symbol address)
by None address = hex address
by (Some s) address =
    both (shown_name s.name) (distance_text (address - s.value)) (name s.name)
    (distance_by (address - s.value == 0) _ refl)

pub place : (symbols : List Symbol) (address : ℕ) → IsPrintable (place_text symbols address)
place symbols address = by (nearest_of symbols address) address

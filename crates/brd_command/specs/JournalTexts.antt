-- What the texts of the options `--raise` and `--weights` of `journal` say.
use Rattle.std.specs.Prelude.{◌≡◌, ℕ, zero, suc, ◌-◌, nat_lt, ◌==◌, Bool, false, if◌then◌else◌, List}
use Rattle.std.specs.Prelude.{[], ◌∷◌, ◌++◌, length, map, replicate, nat_eq, Option, None, Some, option_and_then}
use Rattle.std.specs.Prelude.{option_map}
use Rattle.std.specs.List.{list_all, position_or_len, before_first, after_first, IsDistinct}
use Rattle.brd_text.specs.Numbers.{plain_decimal_of}
use Rattle.brd_text.specs.Pieces.{pieces_of}
use Rattle.brd_schedule.specs.declared.plan.Raise.{Raise}

-- the byte is an at sign
abbrev pub is_at_sign : ℕ → Bool
is_at_sign byte = byte == 64

-- what f gives of each element, where it gives something of each
abbrev pub all_of : {X Y : Type 0} → (X → Option Y) → List X → Option (List Y)
all_of f [] = Some []
all_of f (x ∷ xs) = option_and_then (λ y. option_map (λ ys. y ∷ ys) (all_of f xs)) (f x)

-- a line that is raised as the event of a number; events are counted from 1
abbrev pub raise_at : Option ℕ → Option ℕ → Option Raise
raise_at None event = None
raise_at (Some line) None = None
raise_at (Some line) (Some zero) = None
raise_at (Some line) (Some (suc before)) = Some (record { line = line; at = suc before })

-- The raise that a piece says by `LINE@EVENT`: LINE is a plain decimal up to 255, EVENT one from 1 to 4,294,967,295.
unfoldable pub raise_of : List ℕ → Option Raise
raise_of piece =
    if nat_lt (position_or_len is_at_sign piece) (length piece)
    then raise_at (plain_decimal_of (before_first is_at_sign piece) 255)
    (plain_decimal_of (after_first is_at_sign piece) 4294967295)
    else None

-- A text says these raises: each of its pieces says one, in this order, and no two have the same event.
pub record AreRaisesOf (text : List ℕ) (raises : List Raise) : Type 0 where
  pub each : all_of raise_of (pieces_of text) ≡ Some raises
  pub apart : IsDistinct nat_eq (map (λ raise. raise.at) raises)

-- the raises of `--raise`: those of its text, none where it isn't given
abbrev pub SaysRaises : Option (List ℕ) → List Raise → Type 0
SaysRaises None raises = raises ≡ []
SaysRaises (Some text) raises = AreRaisesOf text raises

-- a weight: a plain decimal up to 1,000,000
abbrev pub weight_of : List ℕ → Option ℕ
weight_of piece = plain_decimal_of piece 1000000

-- A text says these weights of n processors: a number for each of them in its order, and not all are 0.
pub record AreWeightsOf (cpus : ℕ) (text weights : List ℕ) : Type 0 where
  pub each : all_of weight_of (pieces_of text) ≡ Some weights
  pub one_each : length weights ≡ cpus
  pub some : list_all (λ weight. weight == 0) weights ≡ false

-- eight weights, of which those behind the given ones are 0
abbrev pub eight : ℕ → List ℕ → List ℕ
eight cpus weights = weights ++ replicate (8 - cpus) 0

-- the eight weights of `--weights`: those of its text, one for each of n processors; where it isn't given, each has 1
abbrev pub SaysWeights : ℕ → Option (List ℕ) → List ℕ → Type 0
SaysWeights cpus None weights = weights ≡ eight cpus (replicate cpus 1)
SaysWeights cpus (Some text) weights = (given : List ℕ) × AreWeightsOf cpus text given × (weights ≡ eight cpus given)

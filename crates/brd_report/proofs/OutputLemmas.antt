-- What is known of an output that was written in part.
use Rattle.std.proofs.Common.{◌≡◌, List, ◌++◌, ℕ, [], take, drop, ap, sym, ◌∙◌, append_assoc}
use Rattle.std.specs.Prelude.{Option, Some, None}
use Rattle.std.specs.Io.KnownBytes.{Appends, Keeps}
use Rattle.std.proofs.lemmas.List.{append-nil, take-append-drop}

pub nothing_yet : (known : Option (List ℕ)) → Appends known known []
nothing_yet None = tt
nothing_yet (Some xs) = sym (append-nil xs)

pub one_more : (old mid new : Option (List ℕ)) (front piece : List ℕ) → Appends old mid front → Appends mid new piece → Appends old new (front ++ piece)
one_more None mid new front piece so_far more = tt
one_more (Some xs) None new front piece so_far more = absurd so_far
one_more (Some xs) (Some ys) None front piece so_far more = absurd more
one_more (Some xs) (Some ys) (Some zs) front piece so_far more = more ∙ ap (λ (bytes : List ℕ). bytes ++ piece) so_far ∙ append_assoc xs front piece

pub no_more : (old mid new : Option (List ℕ)) (front : List ℕ) → Appends old mid front → Keeps mid new → Appends old new front
no_more None mid new front so_far same = tt
no_more (Some xs) None new front so_far same = absurd so_far
no_more (Some xs) (Some ys) None front so_far same = absurd same
no_more (Some xs) (Some ys) (Some zs) front so_far same = same ∙ so_far

-- a write took a piece of what was left
pub took : (old mid new : Option (List ℕ)) (bytes left rest : List ℕ) (n : ℕ) →
    (front : List ℕ) × (front ++ left ≡ bytes) × Appends old mid front → Appends mid new (take n left) → rest ≡ drop n left →
    (front : List ℕ) × (front ++ rest ≡ bytes) × Appends old new front
took old mid new bytes left rest n (front, whole, so_far) more is =
    (front ++ take n left, rw (is, append_assoc, take-append-drop) whole, one_more old mid new front (take n left) so_far more)

-- a write was interrupted
pub interrupted : (old mid new : Option (List ℕ)) (bytes left rest : List ℕ) →
    (front : List ℕ) × (front ++ left ≡ bytes) × Appends old mid front → Keeps mid new → rest ≡ left →
    (front : List ℕ) × (front ++ rest ≡ bytes) × Appends old new front
interrupted old mid new bytes left rest (front, whole, so_far) same is =
    (front, rw is whole, no_more old mid new front so_far same)

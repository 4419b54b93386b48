-- The addresses of breaks, and those of watches.
use Rattle.std.specs.Prelude.{ℕ, ◌==◌, ◌||◌, nat_le, if◌then◌else◌, Bool, false, List, [], ◌∷◌, ◌++◌, length}

-- how many breaks there may be, and how many watches, where they come one by one (own choice)
abbrev pub most_marks : ℕ
most_marks = 64

-- how many addresses a set of breaks or watches has room for (own choice)
abbrev pub most_addresses : ℕ
most_addresses = 512

-- an address is one of the breaks or watches
abbrev pub is_marked : List ℕ → ℕ → Bool
is_marked [] address = false
is_marked (mark ∷ marks) address = mark == address || is_marked marks address

-- breaks or watches with one more, unless it is one already or there are this many
abbrev pub marked_within : ℕ → List ℕ → ℕ → List ℕ
marked_within most marks address =
    if is_marked marks address || nat_le most (length marks) then marks else marks ++ address ∷ []

-- the same, where they come one by one
abbrev pub marked : List ℕ → ℕ → List ℕ
marked marks address = marked_within most_marks marks address

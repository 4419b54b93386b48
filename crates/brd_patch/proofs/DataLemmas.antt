-- What an address has in segments beside a piece, and with it.
use Rattle.std.proofs.Common.{◌≡◌, ℕ, ◌+◌, ◌-◌, ◌<◌, ◌≤◌, List, [], ◌∷◌, ◌++◌, length, take, drop, get_or, refl, ap, ◌∙◌, arith, inl, inr, ◌⊎◌, length-drop, length-take, append_assoc}
use Rattle.std.specs.Prelude.{Bool, true, false, ◌&&◌, nat_le, nat_lt, max, Some, flat_map, slice_get}
use Rattle.std.proofs.lemmas.Bool.Decides.{nat_tests}
use Rattle.std.proofs.lemmas.List.{get_or-drop, get_or-take}
use Rattle.std.proofs.lemmas.Option.{slice_get-get_or}
use Rattle.std.proofs.lemmas.List.Concat.{flat_map-cons}
use Rattle.brd_mem.specs.Image.{byte_in}
use Rattle.brd_mem.specs.declared.image.Segment.{Segment}
use Rattle.brd_patch.specs.Data.{before, behind, beside, end_of, with_piece}

-- whether a segment holds an address
abbrev holds : Segment → ℕ → Bool
holds segment address = nat_le segment.address address && nat_lt address (segment.address + length segment.bytes)

-- a byte of the front of a list, and one of its rest
in_front : (bytes : List ℕ) (n k : ℕ) → k < n → k < length bytes → slice_get (take n bytes) k ≡ slice_get bytes k
in_front bytes n k below within =
    let long : k < length (take n bytes) = grind (arith, length-take n bytes) in
    rw (slice_get-get_or (take n bytes) k 0 long, slice_get-get_or bytes k 0 within) (ap Some (get_or-take n bytes k 0 below))

in_rest : (bytes : List ℕ) (n k i : ℕ) → n + i ≡ k → k < length bytes → slice_get (drop n bytes) i ≡ slice_get bytes k
in_rest bytes n k i place within =
    let long : i < length (drop n bytes) = omega (arith, length-drop n bytes) in
    rw (slice_get-get_or (drop n bytes) i 0 long, slice_get-get_or bytes k 0 within) (ap Some (get_or-drop n bytes i 0 ∙ ap (λ at. get_or bytes at 0) place))

-- a segment is passed over where it doesn't hold an address
skips : (segment : Segment) (others : List Segment) (address : ℕ) → holds segment address ≡ false →
    byte_in (segment ∷ others) address ≡ byte_in others address
skips segment others address held = rw held refl

under : (segment : Segment) (others more : List Segment) (address : ℕ) → byte_in others address ≡ byte_in more address →
    byte_in (segment ∷ others) address ≡ byte_in (segment ∷ more) address
under segment others more address same = go (holds segment address) refl
  where
    go : (held : Bool) → holds segment address ≡ held → byte_in (segment ∷ others) address ≡ byte_in (segment ∷ more) address
    go true held = rw held refl
    go false held = rw held same

-- the part of a segment before an address

front : (low address : ℕ) (segment : Segment) (rest : List Segment) → address < low →
    byte_in (before low segment ++ rest) address ≡ byte_in (segment ∷ rest) address
front low address segment rest below = go (nat_lt segment.address low) refl
  where
    part : Segment
    part = record { address = segment.address; bytes = take (low - segment.address) segment.bytes }

    both : (held : Bool) → holds segment address ≡ held → nat_lt segment.address low ≡ true →
        byte_in (part ∷ rest) address ≡ byte_in (segment ∷ rest) address
    both true held starts =
        let too : holds part address ≡ true = grind (arith, nat_tests, length-take (low - segment.address) segment.bytes, held) in
        let from : segment.address ≤ address = grind (arith, nat_tests) in
        let to : address < segment.address + length segment.bytes = grind (arith, nat_tests) in
        rw (held, too) (in_front segment.bytes (low - segment.address) (address - segment.address) (omega arith) (omega arith))
    both false held starts =
        let neither : holds part address ≡ false = grind (arith, nat_tests, length-take (low - segment.address) segment.bytes, held) in
        rw (held, neither) refl

    go : (starts : Bool) → nat_lt segment.address low ≡ starts → byte_in (before low segment ++ rest) address ≡ byte_in (segment ∷ rest) address
    go true starts = rw starts (both (holds segment address) refl starts)
    go false starts =
        let misses : holds segment address ≡ false = grind (arith, nat_tests) in
        rw (starts, misses) refl

front_out : (low address : ℕ) (segment : Segment) (rest : List Segment) → low ≤ address →
    byte_in (before low segment ++ rest) address ≡ byte_in rest address
front_out low address segment rest above = go (nat_lt segment.address low) refl
  where
    part : Segment
    part = record { address = segment.address; bytes = take (low - segment.address) segment.bytes }

    go : (starts : Bool) → nat_lt segment.address low ≡ starts → byte_in (before low segment ++ rest) address ≡ byte_in rest address
    go true starts =
        let misses : holds part address ≡ false = grind (arith, nat_tests, length-take (low - segment.address) segment.bytes) in
        rw (starts, misses) refl
    go false starts = rw starts refl

-- the part from an address on

rest_in : (high address : ℕ) (segment : Segment) (rest : List Segment) → high ≤ address →
    byte_in (behind high segment ++ rest) address ≡ byte_in (segment ∷ rest) address
rest_in high address segment rest above = go (nat_lt high (end_of segment)) refl
  where
    part : Segment
    part = record { address = max high segment.address; bytes = drop (high - segment.address) segment.bytes }

    both : (held : Bool) → holds segment address ≡ held → nat_lt high (end_of segment) ≡ true →
        byte_in (part ∷ rest) address ≡ byte_in (segment ∷ rest) address
    both true held more =
        let from : segment.address ≤ address = grind (arith, nat_tests) in
        let to : address < segment.address + length segment.bytes = grind (arith, nat_tests) in
        let long : length (drop (high - segment.address) segment.bytes) ≡ length segment.bytes - (high - segment.address) = length-drop (high - segment.address) segment.bytes in
        let low : max high segment.address ≤ address = omega arith in
        let end : address < max high segment.address + length (drop (high - segment.address) segment.bytes) = omega arith in
        let too : holds part address ≡ true = grind (arith, nat_tests, low, end) in
        rw (held, too) (in_rest segment.bytes (high - segment.address) (address - segment.address) (address - max high segment.address) (omega arith) (omega arith))
    both false held more =
        let some : high < segment.address + length segment.bytes = grind (arith, nat_tests) in
        let long : length (drop (high - segment.address) segment.bytes) ≡ length segment.bytes - (high - segment.address) = length-drop (high - segment.address) segment.bytes in
        let end : max high segment.address + length (drop (high - segment.address) segment.bytes) ≡ segment.address + length segment.bytes = omega arith in
        let neither : holds part address ≡ false = grind (arith, nat_tests, end, held) in
        rw (held, neither) refl

    go : (more : Bool) → nat_lt high (end_of segment) ≡ more →
        byte_in (behind high segment ++ rest) address ≡ byte_in (segment ∷ rest) address
    go true more = rw more (both (holds segment address) refl more)
    go false more =
        let misses : holds segment address ≡ false = grind (arith, nat_tests) in
        rw (more, misses) refl

rest_out : (high address : ℕ) (segment : Segment) (rest : List Segment) → address < high →
    byte_in (behind high segment ++ rest) address ≡ byte_in rest address
rest_out high address segment rest below = go (nat_lt high (end_of segment)) refl
  where
    part : Segment
    part = record { address = max high segment.address; bytes = drop (high - segment.address) segment.bytes }

    go : (more : Bool) → nat_lt high (end_of segment) ≡ more → byte_in (behind high segment ++ rest) address ≡ byte_in rest address
    go true more =
        let misses : holds part address ≡ false = grind (arith, nat_tests) in
        rw (more, misses) refl
    go false more = rw more refl

-- ---- segments beside a piece, and that piece after them

abbrev pub all_of : Segment → List Segment → List Segment
all_of piece segments = with_piece segments piece

pub opened : (piece segment : Segment) (segments : List Segment) →
    all_of piece (segment ∷ segments) ≡ before piece.address segment ++ (behind (end_of piece) segment ++ all_of piece segments)
opened piece segment segments =
    ap (λ it. it ++ piece ∷ []) (flat_map-cons (beside piece) segment segments)
    ∙ append_assoc (beside piece segment) (flat_map (beside piece) segments) (piece ∷ [])
    ∙ append_assoc (before piece.address segment) (behind (end_of piece) segment) (all_of piece segments)

-- an address that the piece misses has what it has without it
pub missed : (piece : Segment) (segments : List Segment) (address : ℕ) → (address < piece.address) ⊎ (end_of piece ≤ address) →
    byte_in (with_piece segments piece) address ≡ byte_in segments address
missed piece [] address (inl below) =
    let misses : holds piece address ≡ false = grind (arith, nat_tests) in rw misses refl
missed piece [] address (inr above) =
    let misses : holds piece address ≡ false = grind (arith, nat_tests) in rw misses refl
missed piece (segment ∷ segments) address (inl below) =
    let rest : List Segment = all_of piece segments in
    let low : address < end_of piece = omega arith in
    rw (opened piece segment segments)
    (front piece.address address segment (behind (end_of piece) segment ++ rest) below
    ∙ under segment (behind (end_of piece) segment ++ rest) rest address (rest_out (end_of piece) address segment rest low)
    ∙ under segment rest segments address (missed piece segments address (inl below)))
missed piece (segment ∷ segments) address (inr above) =
    let rest : List Segment = all_of piece segments in
    let low : piece.address ≤ address = omega arith in
    rw (opened piece segment segments)
    (front_out piece.address address segment (behind (end_of piece) segment ++ rest) low
    ∙ rest_in (end_of piece) address segment rest above
    ∙ under segment rest segments address (missed piece segments address (inr above)))

-- an address that the piece holds has the piece's byte
pub held_by : (piece : Segment) (segments : List Segment) (address : ℕ) → piece.address ≤ address → address < end_of piece →
    byte_in (with_piece segments piece) address ≡ slice_get piece.bytes (address - piece.address)
held_by piece [] address from to =
    let holds_it : holds piece address ≡ true = grind (arith, nat_tests) in rw holds_it refl
held_by piece (segment ∷ segments) address from to =
    let rest : List Segment = all_of piece segments in
    rw (opened piece segment segments)
    (front_out piece.address address segment (behind (end_of piece) segment ++ rest) from
    ∙ rest_out (end_of piece) address segment rest to
    ∙ held_by piece segments address from to)

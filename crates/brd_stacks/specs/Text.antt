-- Stacks in words: a line for each with how much of it was used at most, the event and the place, and one for each
-- store below a stack, or that there is none.
use Rattle.std.specs.Prelude.{◌-◌, ◌/◌, ◌%◌, ◌==◌, ℕ, nat_lt, if◌then◌else◌, List, [], ◌++◌, codes, Option, None, Some}
use Rattle.std.specs.List.{flat_map}
use Rattle.std.specs.Fmt.{decimal}
use Rattle.brd_mem.specs.declared.image.Symbol.{Symbol}
use Rattle.brd_text.specs.Hex.{hex_of}
use Rattle.brd_listing.specs.Places as places
use Rattle.brd_listing.specs.Places.{nearest_of}
use Rattle.brd_stacks.specs.declared.stack.{Point.Point, Store.Store}
use Rattle.brd_stacks.specs.declared.stack.Stack.{Stack}
use Rattle.brd_stacks.specs.declared.track.Track.{Track}
use Rattle.brd_stacks.specs.Depths.{some_overflow}

abbrev pub named_text : List ℕ → ℕ → List ℕ
named_text name n = name ++ codes " " ++ decimal n

-- A task's strand is its ID, a handler's 256 and its line. From line 32 on lines are of time handlers: the cyclic
-- handler of ID c has line 30 + 2 * c, the alarm handler of ID a line 31 + 2 * a.

abbrev pub time_handler_text : ℕ → List ℕ
time_handler_text line =
    if line % 2 == 0 then named_text (codes "cyclic handler") ((line - 30) / 2)
    else named_text (codes "alarm handler") ((line - 31) / 2)

abbrev pub handler_text : ℕ → List ℕ
handler_text line = if nat_lt line 32 then named_text (codes "handler") line else time_handler_text line

abbrev pub strand_text : ℕ → List ℕ
strand_text strand =
    if nat_lt strand 256 then named_text (codes "task") strand else handler_text (strand - 256)

abbrev pub in_brackets : Option Symbol → ℕ → List ℕ
in_brackets None address = []
in_brackets (Some symbol) address = codes " (" ++ hex_of address ++ codes ")"

-- an address by the nearest symbol and as digits
abbrev pub place_text : List Symbol → ℕ → List ℕ
place_text symbols address = places.place_text symbols address ++ in_brackets (nearest_of symbols address) address

abbrev pub point_text : List Symbol → Point → List ℕ
point_text symbols point = named_text (codes "event") point.event ++ codes " at " ++ place_text symbols point.place

-- how many bytes of a stack are used at its deepest point
abbrev pub used_by : Stack → Option Point → ℕ
used_by stack None = 0
used_by stack (Some point) = stack.end - point.after

abbrev pub sizes_text : Track → List ℕ
sizes_text track =
    decimal (used_by track.stack track.deepest) ++ codes " of " ++ decimal (track.stack.end - track.stack.low)
    ++ codes " bytes"

abbrev pub where_text : List Symbol → Option Point → List ℕ
where_text symbols None = []
where_text symbols (Some point) = codes ", " ++ point_text symbols point

abbrev pub track_text : List Symbol → Track → List ℕ
track_text symbols track =
    strand_text track.stack.strand ++ codes ": " ++ sizes_text track ++ where_text symbols track.deepest ++ codes "\n"

abbrev pub stored_text : Stack → Option Store → List ℕ
stored_text stack None = []
stored_text stack (Some store) =
    codes ", stores to " ++ hex_of store.address ++ codes ", " ++ decimal (stack.low - store.address)
    ++ codes " bytes below it"

abbrev pub below_text : Stack → Point → List ℕ
below_text stack point = stored_text stack point.store

abbrev pub fall_text : List Symbol → Stack → Point → List ℕ
fall_text symbols stack point = codes ", " ++ point_text symbols point ++ below_text stack point ++ codes "\n"

abbrev pub store_text : List Symbol → Stack → Point → List ℕ
store_text symbols stack point =
    codes "stack overflow: " ++ strand_text stack.strand ++ fall_text symbols stack point

abbrev pub overflow_if : List Symbol → Stack → Option Point → List ℕ
overflow_if symbols stack None = []
overflow_if symbols stack (Some point) = store_text symbols stack point

abbrev pub overflow_text : List Symbol → Track → List ℕ
overflow_text symbols track = overflow_if symbols track.stack track.overflow

abbrev pub tracks_text : List Symbol → List Track → List ℕ
tracks_text symbols tracks = flat_map (track_text symbols) tracks

abbrev pub overflows_text : List Symbol → List Track → List ℕ
overflows_text symbols tracks = flat_map (overflow_text symbols) tracks

abbrev pub stacks_text : List Symbol → List Track → List ℕ
stacks_text symbols tracks =
    tracks_text symbols tracks
    ++ (if some_overflow tracks then overflows_text symbols tracks else codes "stack overflow: none\n")

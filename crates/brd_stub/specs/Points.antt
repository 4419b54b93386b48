-- The points that GDB sets, and the stops that they make (GDB manual, "Packets": Z and z).
use Rattle.std.specs.Prelude.{ℕ, zero, suc, ◌+◌, ◌%◌, ◌^◌, ◌==◌, nat_lt, nat_le, Bool, true, false, not, ◌&&◌}
use Rattle.std.specs.Prelude.{◌||◌, ◌≡◌, ◌≤◌, if◌then◌else◌, List, [], ◌∷◌, ◌++◌, filter, All}
use Rattle.brd_debug.specs.declared.stops.Stops.{Stops}
use Rattle.brd_debug.specs.Stops.{no_stops}
use Rattle.brd_debug.specs.Marks.{most_addresses, marked_within}
use Rattle.brd_gdb.specs.declared.request.PointKind.{PointKind}
use Rattle.brd_stub.specs.declared.points.Point.{Point}
use Rattle.brd_stub.specs.declared.stepping.Stepped.{Stepped}

-- how many breaks of a kind there are at most, and how many bytes the watches of a kind have together (own choice)
abbrev pub most_breaks : ℕ
most_breaks = 64

abbrev pub most_watched : ℕ
most_watched = 512

-- two kinds are the same
abbrev pub is_kind : PointKind → PointKind → Bool
is_kind PointKind.SoftwareBreak PointKind.SoftwareBreak = true
is_kind PointKind.HardwareBreak PointKind.HardwareBreak = true
is_kind PointKind.WriteWatch PointKind.WriteWatch = true
is_kind PointKind.ReadWatch PointKind.ReadWatch = true
is_kind PointKind.AccessWatch PointKind.AccessWatch = true
is_kind kind other = false

-- points of a kind are breaks; others are watches
abbrev pub is_break : PointKind → Bool
is_break PointKind.SoftwareBreak = true
is_break PointKind.HardwareBreak = true
is_break PointKind.WriteWatch = false
is_break PointKind.ReadWatch = false
is_break PointKind.AccessWatch = false

-- two points are the same
abbrev pub is_point : Point → Point → Bool
is_point p q = is_kind p.kind q.kind && (p.address == q.address && p.length == q.length)

-- a point is set
abbrev pub is_set : List Point → Point → Bool
is_set [] p = false
is_set (q ∷ points) p = is_point q p || is_set points p

-- How many places there are for points of a kind, and how many of them a point takes: a break takes one, a watch one
-- for each of its bytes, of which another watch may have some too.
abbrev pub places : PointKind → ℕ
places kind = if is_break kind then most_breaks else most_watched

abbrev pub weight : Point → ℕ
weight p = if is_break p.kind then 1 else p.length

-- how many places the points of a kind take
abbrev pub taken : PointKind → List Point → ℕ
taken kind [] = 0
taken kind (q ∷ points) = if is_kind q.kind kind then weight q + taken kind points else taken kind points

-- a watch has some bytes; of a break the length means something else
abbrev pub fits : Point → Bool
fits p = is_break p.kind || nat_lt 0 p.length

-- A point may be set that fits, and is set already or has room. Else it is refused.
abbrev pub may_set : List Point → Point → Bool
may_set points p = fits p && (is_set points p || nat_le (taken p.kind points + weight p) (places p.kind))

-- points that were set one after the other: those of each kind take at most as many places as there are, and each of
-- them fits
pub record AreSet (points : List Point) : Type 0 where
  pub fit : All (λ p. fits p ≡ true) points
  pub few : (kind : PointKind) → taken kind points ≤ places kind

-- the points with one more, unless that is set or may not be
abbrev pub with_point : List Point → Point → List Point
with_point points p = if may_set points p && not (is_set points p) then points ++ p ∷ [] else points

-- the points without one
abbrev pub without_point : List Point → Point → List Point
without_point points p = filter (λ q. not (is_point q p)) points

-- The stops of points: a break at the address of each point that is one, and for each byte of a watch one of the byte,
-- as its kind says. (A debugger has room for all: for 512 addresses of each kind.)

abbrev pub add_break : List ℕ → Point → List ℕ
add_break marks p = if is_break p.kind then marked_within most_addresses marks p.address else marks

abbrev pub breaks_of : List ℕ → List Point → List ℕ
breaks_of marks [] = marks
breaks_of marks (p ∷ points) = breaks_of (add_break marks p) points

-- of the bytes from an address on, n from one on
abbrev pub add_bytes : List ℕ → ℕ → ℕ → ℕ → List ℕ
add_bytes marks address from zero = marks
add_bytes marks address from (suc n) =
    add_bytes (marked_within most_addresses marks ((address + from) % 2 ^ 32)) address (suc from) n

abbrev pub add_watch : PointKind → List ℕ → Point → List ℕ
add_watch kind marks p = if is_kind p.kind kind then add_bytes marks p.address 0 p.length else marks

abbrev pub watches_of : PointKind → List ℕ → List Point → List ℕ
watches_of kind marks [] = marks
watches_of kind marks (p ∷ points) = watches_of kind (add_watch kind marks p) points

-- the stops with those of more points
abbrev pub with_stops : Stops → List Point → Stops
with_stops stops points = record stops {
  breaks = breaks_of stops.breaks points;
  watches = watches_of PointKind.WriteWatch stops.watches points;
  reads = watches_of PointKind.ReadWatch stops.reads points;
  accesses = watches_of PointKind.AccessWatch stops.accesses points;
}

-- the stops of points alone, and exceptions
abbrev pub stops_of : List Point → Stops
stops_of points = with_stops (record no_stops { faults = true }) points

-- the same on a move that steps a processor so, or none
abbrev pub stops_for : List Point → Stepped → Stops
stops_for points it = record (stops_of points) { stepper = it.stepper; only = it.only }

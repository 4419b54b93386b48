-- Schedules that keep to regions of instructions: a step preempts another processor only if the next instruction of
-- that lies in a region of switches, and a line is raised only while the next instruction of some processor lies in a
-- region of raises. Where there are no regions of switches a step may come anywhere, and where there are none of raises
-- a raise may. Ticks, and steps that preempt nobody, may come anywhere in any case.
use Rattle.std.specs.Prelude.{◌≡◌, ℕ, nat_lt, nat_le, ◌==◌, Bool, true, false, ◌&&◌, ◌||◌, List, [], ◌∷◌, length}
use Rattle.std.specs.Prelude.{Option, None, Some}
use Rattle.std.specs.List.{list_any}
use Rattle.brd_exec.specs.State.{State}
use Rattle.brd_board.specs.declared.event.Event.{Event}
use Rattle.brd_board.specs.declared.event.Event.TheVariants.{Step, Tick, Raise}
use Rattle.brd_board.specs.Board.{BoardState, registers_of}
use Rattle.brd_explore.specs.Failures.{some_below}
use Rattle.brd_explore.specs.Schedules.{Place, does, next, IsWithin}
use Rattle.brd_explore.specs.Searching.{Fails, IsFound}
use Rattle.brd_explore.specs.declared.wanted.Wanted.{Wanted}
use Rattle.brd_only.specs.declared.region.Region.{Region}
use Rattle.brd_only.specs.declared.region.Regions.{Regions}
use Rattle.brd_only.specs.declared.finding.Inside.{Inside}
use Rattle.brd_only.specs.declared.finding.Inside.TheVariants as inside

-- an address lies in a region: it isn't below the first one, and below the second one
abbrev pub is_in : ℕ → Region → Bool
is_in address region = nat_le region.from address && nat_lt address region.upto

-- the next instruction of a context lies in one of the regions
abbrev pub is_inside : List Region → Option State → Bool
is_inside regions None = false
is_inside regions (Some context) = list_any (λ region. is_in context.pc region) regions

-- A step of a processor preempts nobody (brd_explore, `preempts`: it is the one that has stepped last, or there is
-- none), or the next instruction of the processor that has stepped last lies inside.
abbrev pub leaves_inside : List Region → BoardState → Option ℕ → ℕ → Bool
leaves_inside regions b None cpu = true
leaves_inside regions b (Some last) cpu = last == cpu || is_inside regions (registers_of b last)

-- the next instruction of some processor on which somebody executes lies in one of the regions
abbrev pub some_are_inside : List Region → BoardState → Bool
some_are_inside regions b = some_below 9 (λ cpu. is_inside regions (registers_of b cpu))

-- An event keeps to regions: a step preempts nobody, or somebody inside; a line is raised while somebody is inside; or
-- there are no regions for events of its kind.
abbrev pub keeps_to : Regions → BoardState → Option ℕ → Event → Bool
keeps_to regions b last (Step cpu) = length regions.switches == 0 || leaves_inside regions.switches b last cpu
keeps_to regions b last Tick = true
keeps_to regions b last (Raise line) = length regions.raises == 0 || some_are_inside regions.raises b

-- there are no regions of either kind
abbrev pub are_none : Regions → Bool
are_none regions = length regions.switches == 0 && length regions.raises == 0

-- Of a list of events each that does something keeps to the regions.
abbrev pub KeepsInside : Regions → Place → List Event → Type 0
KeepsInside regions p [] = Unit {0}
KeepsInside regions p (event ∷ events) =
    (does p.board event ≡ true →
    (keeps_to regions p.board p.last event ≡ true) × KeepsInside regions (next p event) events)
    × (does p.board event ≡ false → KeepsInside regions p events)

-- no schedule within bounds fails that keeps to the regions
abbrev pub NoneFailsInside : Wanted → List Event → Regions → Place → Type 0
NoneFailsInside wanted among regions p =
    (events : List Event) → IsWithin among p events → KeepsInside regions p events → Fails wanted p events → ⊥

-- a schedule that was found, and keeps to the regions
pub record IsFoundInside (wanted : Wanted) (among : List Event) (regions : Regions) (from : Place)
    (events : List Event) : Type 0 where
  pub found : IsFound wanted among from events
  pub keeps : KeepsInside regions from events

-- What a search answers is so: the schedule is one that was found, or no schedule that keeps to the regions fails.
abbrev pub FoundSo : Wanted → List Event → Regions → Place → Inside → Type 0
FoundSo wanted among regions from (inside.Found events) = IsFoundInside wanted among regions from events.items
FoundSo wanted among regions from (inside.NoneFails counts) = NoneFailsInside wanted among regions from
FoundSo wanted among regions from (inside.Unknown why) = Unit {0}

-- What a journal that is appended to says of its room.
use Rattle.std.proofs.Common.{◌≡◌, List, refl}
use Rattle.std.specs.Prelude.{Bool, true, false, if◌then◌else◌, Result, Ok, Err}
use Rattle.brd_board.specs.declared.event.Event.{Event}
use Rattle.brd_journal.specs.declared.fault.JournalFault.{JournalFault}
use Rattle.brd_journal.specs.declared.fault.JournalFault.TheVariants.{NoMemory, Full, Syntax}
use Rattle.brd_journal.specs.Journal.{JournalState, appended}
use Rattle.brd_journal.specs.Faults.{is_no_memory}
use Rattle.brd_text.specs.Faults.{Fails}
use Rattle.brd_threads.specs.Faults.{IsFaultFor, station_fault_of}
use Rattle.brd_threads.specs.Station.{has_room, with_more}

if_ok : {X : Type 0} (room : Bool) (x y : X) → ◌≡◌ {A = Result X JournalFault} (if room then Ok x else Err Full) (Ok y) → (room ≡ true) × (y ≡ x)
if_ok true x y is = (refl, cc)
if_ok false x y is = cc

if_err : {X : Type 0} (room : Bool) (x : X) (e : JournalFault) → ◌≡◌ {A = Result X JournalFault} (if room then Ok x else Err Full) (Err e) → room ≡ false
if_err true x e is = cc
if_err false x e is = refl

pub room_of_ok : (journal next : JournalState) (more : List Event) → appended journal more ≡ Ok next → (has_room journal more ≡ true) × (next ≡ with_more journal more)
room_of_ok journal next more is = if_ok (has_room journal more) (with_more journal more) next is

room_of_err : (journal : JournalState) (more : List Event) (e : JournalFault) → appended journal more ≡ Err e → has_room journal more ≡ false
room_of_err journal more e is = if_err (has_room journal more) (with_more journal more) e is

pub room_of_fault : (journal : JournalState) (more : List Event) (e : JournalFault) → Fails is_no_memory e (appended journal more)
    → IsFaultFor (has_room journal more) (station_fault_of e)
room_of_fault journal more NoMemory fails = tt
room_of_fault journal more Full fails = room_of_err journal more Full fails
room_of_fault journal more (Syntax line) fails = room_of_err journal more (Syntax line) fails

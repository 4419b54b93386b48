-- What SYNC makes of loads and stores (MD00086, "SYNC"; ISO/IEC 9899:2011, 7.17.4). A store that is its task's or
-- handler's next access after a SYNC is a releasing one, and a load that a SYNC follows before the next access an
-- acquiring one. So a load waits until one of these comes: an access, a SYNC, a service call, the end of its task or
-- handler, the suspension of its task, or the end of the run.
use Rattle.std.specs.Prelude.{ℕ, zero, suc, Bool, true, false, if◌then◌else◌, [], ◌∷◌, Option, None, Some}
use Rattle.brd_isa.specs.declared.instruction.Insn.{Insn}
use Rattle.brd_happening.specs.declared.instruction.{AccessKind.AccessKind, Access.Access, Instruction.Instruction}
use Rattle.brd_happening.specs.declared.instruction.AccessKind.TheVariants.{Loads, Stores, StoresIfLinked}
use Rattle.brd_order.specs.declared.deed.Touch.{Touch}
use Rattle.brd_deeds.specs.declared.past.{Trail.Trail}
use Rattle.brd_deeds.specs.declared.past.Trail.TheVariants.{Nothing, Synced, Loaded}
use Rattle.brd_deeds.specs.declared.log.{Doer.Doer, Log.Log}
use Rattle.brd_deeds.specs.Touches.{size_of, does_store, touch_at}
use Rattle.brd_deeds.specs.Past.{trail_in, with_trail, touches, notes}
use Rattle.brd_deeds.specs.Acts.{stores_releasing, loads_linked, begins_to_load, loads_acquiring}

-- a load that no SYNC follows is a touch like any other

abbrev pub loads_plainly : ℕ → Trail → Log → Log
loads_plainly strand Nothing log = log
loads_plainly strand Synced log = log
loads_plainly strand (Loaded touch loaded) log = notes loaded (touches strand touch ∷ []) log

abbrev pub settled : ℕ → Log → Log
settled strand log = with_trail strand Nothing (loads_plainly strand (trail_in log.past strand) log)

-- SYNC

abbrev pub loads_before_sync : Doer → Trail → Log → Log
loads_before_sync doer Nothing log = log
loads_before_sync doer Synced log = log
loads_before_sync doer (Loaded touch loaded) log = loads_acquiring doer touch loaded log

abbrev pub syncs : Doer → Log → Log
syncs doer log = with_trail doer.strand Synced (loads_before_sync doer (trail_in log.past doer.strand) log)

-- An access, by what came before it.

abbrev pub is_synced : Trail → Bool
is_synced Nothing = false
is_synced Synced = true
is_synced (Loaded touch loaded) = false

abbrev pub loads : Doer → Touch → Bool → Log → Log
loads doer touch linked log =
    if linked then loads_linked doer touch log
    else with_trail doer.strand (Loaded touch doer.stamp) (begins_to_load doer touch log)

abbrev pub stores : Doer → Touch → Bool → Log → Log
stores doer touch releasing log =
    if releasing then stores_releasing doer touch log else notes doer.stamp (touches doer.strand touch ∷ []) log

-- an SC that doesn't store touches nothing
abbrev pub stores_if : Doer → Touch → Bool → Log → Log
stores_if doer touch stored log = if stored then stores_releasing doer touch log else log

abbrev pub accesses_by : Doer → Touch → AccessKind → Bool → Bool → Log → Log
accesses_by doer touch Loads linked synced log = loads doer touch linked log
accesses_by doer touch Stores linked synced log = stores doer touch synced log
accesses_by doer touch (StoresIfLinked stored) linked synced log = stores_if doer touch stored log

abbrev pub accesses : Doer → Access → Log → Log
accesses doer access log =
    accesses_by doer (touch_at access.address (size_of access.size) (does_store access.kind)) access.kind access.links
    (is_synced (trail_in log.past doer.strand)) (settled doer.strand log)

-- An instruction: SYNC, an access, or one that stands in nobody's way.

abbrev pub is_sync : Insn → Bool
is_sync Insn.Sync = true
is_sync _ = false

abbrev pub accesses_if : Doer → Option Access → Log → Log
accesses_if doer None log = log
accesses_if doer (Some access) log = accesses doer access log

abbrev pub executes : Doer → Instruction → Log → Log
executes doer it log = if is_sync it.insn then syncs doer log else accesses_if doer it.access log

-- the end of the run: no SYNC follows what the strands below a number have loaded
unfoldable pub settles_below : ℕ → Log → Log
settles_below zero log = log
settles_below (suc n) log = settled n (settles_below n log)

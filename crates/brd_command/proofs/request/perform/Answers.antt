use Rattle.std.proofs.Common.{refl}
use Rattle.brd_command.specs.Request.{RequestEnds}
use Rattle.brd_command.proofs.request.perform.Goals as goal

pub returns-in-Words : goal.returns-in-Words
unfolding RequestEnds
returns-in-Words g c = rw c.in-Words.is (c.words.ensures, refl)

pub returns-in-Asm : goal.returns-in-Asm
unfolding RequestEnds
returns-in-Asm g c = rw c.in-Asm.is (c.asm_files.ensures, refl, refl)

pub returns-in-Run : goal.returns-in-Run
unfolding RequestEnds
returns-in-Run g c = rw c.in-Run.is (c.run_files.ensures, refl)

pub returns-in-Debug : goal.returns-in-Debug
unfolding RequestEnds
returns-in-Debug g c = rw c.in-Debug.is c.debug_files.ensures

pub returns-in-Gdb : goal.returns-in-Gdb
unfolding RequestEnds
returns-in-Gdb g c = rw c.in-Gdb.is c.gdb_files.ensures

pub returns-in-Race : goal.returns-in-Race
unfolding RequestEnds
returns-in-Race g c = rw c.in-Race.is (c.race_files.ensures, refl)

pub returns-in-Trace : goal.returns-in-Trace
unfolding RequestEnds
returns-in-Trace g c = rw c.in-Trace.is (c.trace_files.ensures, refl)

pub returns-in-Journal : goal.returns-in-Journal
unfolding RequestEnds
returns-in-Journal g c = rw c.in-Journal.is (c.journal.ensures, refl, refl)

pub returns-in-Explore : goal.returns-in-Explore
unfolding RequestEnds
returns-in-Explore g c = rw c.in-Explore.is (c.explore_files.ensures, refl)

pub returns-in-Shrink : goal.returns-in-Shrink
unfolding RequestEnds
returns-in-Shrink g c = rw c.in-Shrink.is (c.shrink_files.ensures, refl)

pub returns-in-Try : goal.returns-in-Try
unfolding RequestEnds
returns-in-Try g c = rw c.in-Try.is (c.try_files.ensures, refl)

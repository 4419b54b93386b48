-- Events that change nothing, of which those of one kind are one line, with how many they are.
use Rattle.std.specs.Prelude.{ℕ, ◌+◌, ◌-◌, ◌^◌, ◌==◌, nat_lt, min, if◌then◌else◌, List, ◌++◌, codes, Option, Some, None}
use Rattle.std.specs.Fmt.{decimal}
use Rattle.brd_kernel.specs.declared.processor.Standing.{Standing}
use Rattle.brd_names.specs.declared.line.Heading.{Heading}
use Rattle.brd_names.specs.declared.stretch.{Quiet.Quiet, Spinner.Spinner, Stretch.Stretch}
use Rattle.brd_names.specs.declared.stretch.Quiet.TheVariants.{Idle, Stopped, NoProcessor, Spins, Tick, TimeOver}
use Rattle.brd_names.specs.declared.stretch.Quiet.TheVariants.{NoLine, Again, Off}
use Rattle.brd_names.specs.contracts.stretch.QuietPartialEq.TheImpl as quiets
use Rattle.brd_names.specs.Lines.{named_text, count_text, signed_text}

-- ---- their line

abbrev pub processor_of : Quiet → Option ℕ
processor_of (Idle cpu) = Some cpu
processor_of (Stopped cpu) = Some cpu
processor_of (NoProcessor cpu) = Some cpu
processor_of (Spins spin) = Some spin.cpu
processor_of _ = None

abbrev pub who_of : Quiet → Option Standing
who_of (Spins spin) = Some spin.who
who_of _ = None

abbrev pub place_of : Quiet → Option ℕ
place_of (Spins spin) = Some spin.place
place_of _ = None

abbrev pub heading_of : Stretch → Heading
heading_of it = record {
  position = it.position;
  cpu = processor_of it.quiet;
  who = who_of it.quiet;
  place = place_of it.quiet;
}

abbrev pub steps_text : Stretch → List ℕ
steps_text it = count_text it.count (codes "step")

-- what the call begins with by which a task or a handler asks for a spin lock
abbrev pub asking_text : Standing → List ℕ
asking_text (Standing.Handler line) = codes "iloc_spn("
asking_text (Standing.Task id) = codes "loc_spn("
asking_text Standing.Idle = codes "loc_spn("
asking_text Standing.Stopped = codes "loc_spn("

abbrev pub asked_text : Spinner → List ℕ
asked_text spin =
    asking_text spin.who ++ signed_text spin.lock ++ named_text (codes "), spins for lock") spin.lock

abbrev pub spins_text : Stretch → Spinner → List ℕ
spins_text it spin = asked_text spin ++ codes ", " ++ steps_text it

abbrev pub raises_text : Stretch → ℕ → List ℕ → List ℕ
raises_text it line what = named_text (codes "line") line ++ what ++ count_text it.count (codes "raise")

-- why a raise of a line finds no handler: those from 32 on are raised by ticks alone
abbrev pub unraised_text : ℕ → List ℕ
unraised_text line = if nat_lt line 32 then codes " has no handler: " else codes " is raised by ticks alone: "

abbrev pub late_text : Stretch → List ℕ
late_text it = codes "time is over: " ++ count_text it.count (codes "tick") ++ codes " not counted"

abbrev pub ticks_text : Stretch → List ℕ
ticks_text it =
    if it.count == 1 then named_text (codes "tick") it.tick
    else named_text (codes "ticks") (it.tick - (it.count - 1)) ++ codes " to " ++ decimal it.tick

abbrev pub stretch_text : Stretch → Quiet → List ℕ
stretch_text it (Idle cpu) = codes "idle, " ++ steps_text it
stretch_text it (Stopped cpu) = codes "stopped, " ++ steps_text it
stretch_text it (NoProcessor cpu) = codes "no such processor, " ++ steps_text it
stretch_text it (Spins spin) = spins_text it spin
stretch_text it Tick = ticks_text it
stretch_text it TimeOver = late_text it
stretch_text it (NoLine line) = raises_text it line (unraised_text line)
stretch_text it (Again line) = raises_text it line (codes " is pending already: ")
stretch_text it Off = codes "off: " ++ count_text it.count (codes "event") ++ codes " left out"

-- ---- those of one kind are one line

abbrev pub joined : Stretch → Stretch → Option Stretch
joined it more =
    if quiets.ghosts.eq it.quiet more.quiet
    then Some (record {
      quiet = it.quiet;
      position = it.position;
      count = min (it.count + more.count) (2 ^ 64 - 1);
      tick = more.tick;
    })
    else None

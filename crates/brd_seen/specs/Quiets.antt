-- Which events change nothing.
use Rattle.std.specs.Prelude.{ℕ, List, [], ◌∷◌, slice_index_or, Option, Some, None, unwrap_or}
use Rattle.brd_kernel.specs.declared.processor.Standing.{Standing}
use Rattle.brd_happening.specs.declared.call.{Answer.Answer, CallMade.CallMade}
use Rattle.brd_happening.specs.declared.happening.{What.What, Why.Why, Happening.Happening}
use Rattle.brd_happening.specs.declared.happening.What.TheVariants as what
use Rattle.brd_happening.specs.declared.happening.Why.TheVariants as why
use Rattle.brd_happening.specs.declared.release.Release.{Release}
use Rattle.brd_happening.specs.declared.rung.Rung.{Rung}
use Rattle.brd_names.specs.declared.stretch.{Quiet.Quiet}
use Rattle.brd_names.specs.declared.stretch.Quiet.TheVariants.{Idle, Stopped, NoProcessor, Spins, Tick, TimeOver}
use Rattle.brd_names.specs.declared.stretch.Quiet.TheVariants.{NoLine, Again, Off}

-- ---- which events change nothing

abbrev pub quiet_by : Why → ℕ → Quiet
quiet_by why.Off cpu = Off
quiet_by why.NoProcessor cpu = NoProcessor cpu
quiet_by (why.NoHandler line) cpu = NoLine line
quiet_by why.Stopped cpu = Stopped cpu
quiet_by why.Idle cpu = Idle cpu
quiet_by why.TimeOver cpu = TimeOver

abbrev pub spin_by : Happening → CallMade → Answer → Option Standing → Option Quiet
spin_by it call Answer.Again (Some who) =
    Some (Spins (record {
      cpu = unwrap_or it.cpu 0;
      who = who;
      place = unwrap_or it.place 0;
      lock = slice_index_or call.asked.arguments 0 0;
    }))
spin_by it call answer who = None

-- a call that comes again, since the spin lock is held that it asks for
abbrev pub spin_of : Happening → CallMade → Option Quiet
spin_of it call = spin_by it call call.answer it.who

-- a tick that releases nobody, and at which no time handler is due
abbrev pub tick_by : List Release → List Rung → Option Quiet
tick_by [] [] = Some Tick
tick_by [] (one ∷ rung) = None
tick_by (release ∷ releases) rung = None

abbrev pub quiet_what : Happening → What → Option Quiet
quiet_what it (what.Nothing why) = Some (quiet_by why (unwrap_or it.cpu 0))
quiet_what it (what.Lost line) = Some (Again line)
quiet_what it (what.Tick number) = tick_by it.released it.rung
quiet_what it (what.Call call) = spin_of it call
quiet_what it _ = None

abbrev pub quiet_of : Happening → Option Quiet
quiet_of it = quiet_what it it.what

abbrev pub tick_of : What → ℕ
tick_of (what.Tick number) = number
tick_of _ = 0

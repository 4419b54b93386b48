-- What a summary says of what was found of a run: tasks that wait for each other, calls that were refused, and raises
-- that had no effect.
use Rattle.std.specs.Prelude.{◌≡◌, ℕ, ◌-◌, ◌==◌, nat_lt, if◌then◌else◌, List, [], ◌∷◌, ◌++◌, codes}
use Rattle.std.specs.Bool.{MatchBool}
use Rattle.std.specs.List.{filter, flat_map}
use Rattle.std.specs.Fmt.{decimal}
use Rattle.brd_board.specs.Board.{BoardState}
use Rattle.brd_names.specs.declared.names.Names.{Names}
use Rattle.brd_names.specs.Addresses.{both_text}
use Rattle.brd_names.specs.Lines.{called_text, count_text, named_text}
use Rattle.brd_verdicts.specs.declared.accounts.Accounts.{Accounts}
use Rattle.brd_verdicts.specs.declared.circle.Wait.{Wait}
use Rattle.brd_verdicts.specs.declared.losses.LostRaises.{LostRaises}
use Rattle.brd_verdicts.specs.declared.refusals.Refused.{Refused}
use Rattle.brd_verdicts.specs.declared.units.{Lock.Lock, Unit.Unit, Units.Units}
use Rattle.brd_verdicts.specs.declared.units.Lock.TheVariants.{Semaphore, Mutex}
use Rattle.brd_verdicts.specs.Circle.{IsCircularWait, is_of}
use Rattle.brd_verdicts.specs.Units.{lock_units}
use Rattle.brd_summary.specs.Texts.{AreTexts}

-- ---- tasks that wait for each other

-- who has a unit, and the event that gave it
abbrev pub holder_text : List ℕ → Unit → List ℕ
holder_text before unit = named_text before unit.task ++ named_text (codes " took at event") unit.position

abbrev pub holders_text : List Unit → List ℕ
holders_text [] = []
holders_text (unit ∷ units) =
    holder_text (codes ", which task") unit ++ flat_map (holder_text (codes " and task")) units

abbrev pub lock_text : Lock → List ℕ
lock_text (Semaphore semaphore) = named_text (codes " waits for semaphore") semaphore
lock_text (Mutex mutex) = named_text (codes " waits for mutex") mutex

-- a task, what it waits for, and who of these has units of that
abbrev pub wait_text : List Unit → Wait → List ℕ
wait_text units wait =
    named_text (codes "task") wait.task ++ lock_text wait.lock ++ holders_text (filter (is_of wait) units)

abbrev pub next_text : List Unit → Wait → List ℕ
next_text units wait = codes "; " ++ wait_text units wait

-- their line, if there are some
abbrev pub circle_text : List Unit → List Wait → List ℕ
circle_text units [] = []
circle_text units (wait ∷ waits) =
    codes "circular wait: " ++ wait_text units wait ++ flat_map (next_text units) waits ++ codes "\n"

-- the line of those of a board, and none of a board that is off
abbrev pub IsCircle : Units → BoardState → List ℕ → Type 0
IsCircle units board text =
    MatchBool board.kernel.off (text ≡ [])
    ((found : List Wait) × IsCircularWait units board found × (text ≡ circle_text (lock_units units board) found))

-- ---- calls that were refused

-- how many more there were
abbrev pub more_text : ℕ → List ℕ
more_text count =
    if nat_lt 1 count then codes ", and " ++ count_text (count - 1) (codes "time") ++ codes " after it" else []

abbrev pub refused_text : Names → Refused → List ℕ → List ℕ
refused_text names it what =
    codes "refused: " ++ what ++ codes " at event " ++ decimal it.position ++ codes ", at "
    ++ both_text names.symbols.now it.place ++ more_text it.count ++ codes "\n"

-- the first of a kind, which is said in some words with its answer, and how many came after it
pub record IsRefused (names : Names) (it : Refused) (text : List ℕ) : Type 0 where
  pub what : List ℕ
  pub is : text ≡ refused_text names it what

-- ---- raises that had no effect

-- the line; if it was pending, and from line 32 on, its time handler
abbrev pub raised_text : LostRaises → List ℕ
raised_text it = if it.pending then called_text (codes "line") it.line else named_text (codes "line") it.line

-- why a raise from outside finds no handler: lines from 32 on are raised by ticks alone
abbrev pub unraised_text : ℕ → List ℕ
unraised_text line = if nat_lt line 32 then codes ", which has no handler" else codes ", which is raised by ticks alone"

abbrev pub why_text : LostRaises → List ℕ
why_text it = if it.pending then codes ", pending already" else unraised_text it.line

abbrev pub first_text : ℕ → List ℕ
first_text count = if count == 1 then codes "," else codes ", the first"

abbrev pub lost_text : LostRaises → List ℕ
lost_text it =
    codes "lost: " ++ count_text it.count (codes "raise") ++ codes " of " ++ raised_text it ++ why_text it
    ++ first_text it.count ++ named_text (codes " at event") it.position ++ codes "\n"

-- ---- all of it

pub record AreFindings (names : Names) (accounts : Accounts) (board : BoardState) (text : List ℕ) : Type 0 where
  pub circle : List ℕ
  pub refused : List ℕ
  pub is_circle : IsCircle accounts.units board circle
  pub are_refused : AreTexts (IsRefused names) accounts.refused refused
  pub is : text ≡ circle ++ refused ++ flat_map lost_text accounts.lost

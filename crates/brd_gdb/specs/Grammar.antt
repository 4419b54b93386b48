-- The packets that make requests, without reading them (GDB manual, "Packets", "vCont Packet", "General Query
-- Packets"). What a text of `monitor` and the actions of `vCont` ask for, `specs/Reading.antt` says. That just these
-- packets are read so is proved as `laws::packets_follow_the_grammar`.
use Rattle.std.specs.Prelude.{◌≡◌, ◌⊎◌, ℕ, ◌<◌, ◌==◌, Bool, true, false, List, [], ◌∷◌, ◌++◌, codes, Some}
use Rattle.std.specs.List.{join_with_byte}
use Rattle.brd_text.specs.Numbers.{most_word, value_of}
use Rattle.brd_gdb.specs.Hexes.{unhexed}
use Rattle.brd_gdb.specs.Reading.{monitor_of, move_in}
use Rattle.brd_gdb.specs.declared.request.ThreadId.{ThreadId}
use Rattle.brd_gdb.specs.declared.request.ThreadId.TheVariants.{All, Any, One}
use Rattle.brd_gdb.specs.declared.request.Move.{Move}
use Rattle.brd_gdb.specs.declared.request.Move.TheVariants as move
use Rattle.brd_gdb.specs.declared.request.PointKind.{PointKind}
use Rattle.brd_gdb.specs.declared.request.PointKind.TheVariants.{SoftwareBreak, HardwareBreak, WriteWatch, ReadWatch}
use Rattle.brd_gdb.specs.declared.request.PointKind.TheVariants.{AccessWatch}
use Rattle.brd_gdb.specs.declared.request.Monitor.{Monitor}
use Rattle.brd_gdb.specs.declared.request.Request.{Request}
use Rattle.brd_gdb.specs.declared.request.Request.TheVariants as request

-- a front, and whatever after it
abbrev pub HasFront : List ℕ → List ℕ → Type 0
HasFront front text = (rest : List ℕ) × (text ≡ front ++ rest)

-- a number in hexadecimal digits of either case, below 2 to the 32nd
abbrev pub IsNumber : List ℕ → ℕ → Type 0
IsNumber digits number = value_of 16 most_word digits ≡ Some number

-- a front, and after it a number
pub record HasNumber (front text : List ℕ) (number : ℕ) : Type 0 where
  pub digits : List ℕ
  pub is : text ≡ front ++ digits
  pub number_is : IsNumber digits number

-- a front, and after it two numbers with a comma between them
pub record HasPair (front text : List ℕ) (first second : ℕ) : Type 0 where
  pub one : List ℕ
  pub two : List ℕ
  pub is : text ≡ front ++ (one ++ 44 ∷ two)
  pub first_is : IsNumber one first
  pub second_is : IsNumber two second

-- the name of threads: -1 of all, 0 of any, the number of one
abbrev pub Names : List ℕ → ThreadId → Type 0
Names text All = text ≡ codes "-1"
Names text Any = IsNumber text 0
Names text (One number) = IsNumber text number × (0 < number)

-- a front, and after it the name of threads
pub record HasThread (front text : List ℕ) (thread : ThreadId) : Type 0 where
  pub name : List ℕ
  pub is : text ≡ front ++ name
  pub names : Names name thread

-- the digit of a kind of points
abbrev pub digit_of_kind : PointKind → ℕ
digit_of_kind SoftwareBreak = 48
digit_of_kind HardwareBreak = 49
digit_of_kind WriteWatch = 50
digit_of_kind ReadWatch = 51
digit_of_kind AccessWatch = 52

-- this byte isn't among them
abbrev pub Lacks : ℕ → List ℕ → Type 0
Lacks mark [] = Unit {0}
Lacks mark (byte ∷ bytes) = ((byte == mark) ≡ false) × Lacks mark bytes

abbrev pub AllLack : ℕ → List (List ℕ) → Type 0
AllLack mark [] = Unit {0}
AllLack mark (text ∷ texts) = Lacks mark text × AllLack mark texts

-- `vCont`, and a semicolon before each of one or more actions
pub record HasActions (text : List ℕ) (how : Move) : Type 0 where
  pub first : List ℕ
  pub others : List (List ℕ)
  pub is : text ≡ codes "vCont;" ++ join_with_byte 59 (first ∷ others)
  pub apart : AllLack 59 (first ∷ others)
  pub moves : move_in (first ∷ others) ≡ Some how

-- `qRcmd`, and a text in hexadecimal digits, two for each byte
pub record HasCommand (text : List ℕ) (command : Monitor) : Type 0 where
  pub digits : List ℕ
  pub bytes : List ℕ
  pub is : text ≡ codes "qRcmd," ++ digits
  pub spells : unhexed digits ≡ Some bytes
  pub command_is : command ≡ monitor_of bytes

-- A packet's payload makes a request. None makes the unknown.
abbrev pub Makes : List ℕ → Request → Type 0
Makes text request.Supported = HasFront (codes "qSupported") text
Makes text request.StartNoAckMode = text ≡ codes "QStartNoAckMode"
Makes text request.StopReason = text ≡ codes "?"
Makes text request.ReadRegisters = text ≡ codes "g"
Makes text (request.ReadRegister number) = HasNumber (codes "p") text number
Makes text (request.ReadMemory address len) = HasPair (codes "m") text address len
Makes text request.Write =
    HasFront (codes "M") text ⊎ HasFront (codes "G") text ⊎ HasFront (codes "P") text ⊎ HasFront (codes "X") text
Makes text (request.SetThread true thread) = HasThread (codes "Hc") text thread
Makes text (request.SetThread false thread) = HasThread (codes "Hg") text thread
Makes text (request.IsAlive thread) = HasThread (codes "T") text thread
Makes text request.CurrentThread = text ≡ codes "qC"
Makes text request.FirstThreads = text ≡ codes "qfThreadInfo"
Makes text request.OtherThreads = text ≡ codes "qsThreadInfo"
Makes text (request.ThreadInfo thread) = HasThread (codes "qThreadExtraInfo,") text thread
Makes text (request.ReadFeatures offset len) = HasPair (codes "qXfer:features:read:target.xml:") text offset len
Makes text (request.ReadThreads offset len) = HasPair (codes "qXfer:threads:read::") text offset len
Makes text (request.Monitor command) = HasCommand text command
Makes text request.MoveKinds = text ≡ codes "vCont?"
Makes text (request.Forward how) =
    ((text ≡ codes "c") × (how ≡ move.Continue)) ⊎ ((text ≡ codes "s") × (how ≡ move.Step Any)) ⊎ HasActions text how
Makes text request.BackwardContinue = text ≡ codes "bc"
Makes text request.BackwardStep = text ≡ codes "bs"
Makes text (request.SetPoint kind address len) = HasPair (90 ∷ digit_of_kind kind ∷ 44 ∷ []) text address len
Makes text (request.ClearPoint kind address len) = HasPair (122 ∷ digit_of_kind kind ∷ 44 ∷ []) text address len
Makes text request.Detach = text ≡ codes "D"
Makes text request.Kill = text ≡ codes "k"
Makes text request.KillProcess = HasFront (codes "vKill;") text
Makes text request.IsAttached = HasFront (codes "qAttached") text
Makes text request.Unknown = ⊥

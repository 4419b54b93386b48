-- Which request a packet makes, as it is read. `specs/Grammar.antt` says the same without reading.
use Rattle.std.specs.Prelude.{ℕ, ◌+◌, ◌-◌, ◌^◌, ◌==◌, if◌then◌else◌, Bool, true, false, List, [], ◌∷◌, length, take}
use Rattle.std.specs.Prelude.{◌++◌, ◌&&◌, nat_le, drop, replicate}
use Rattle.std.specs.Prelude.{codes, Option, Some, None, option_map, option_and_then}
use Rattle.std.specs.List.{slice_split}
use Rattle.std.specs.Str.{bytes_eq}
use Rattle.brd_text.specs.Bytes.{is_name}
use Rattle.brd_text.specs.Numbers.{most_word, plain_decimal_of, value_of}
use Rattle.brd_gdb.specs.Hexes.{pair_of, range_of, unhexed}
use Rattle.brd_gdb.specs.Parts.{two_of}
use Rattle.brd_gdb.specs.declared.request.ThreadId.{ThreadId}
use Rattle.brd_gdb.specs.declared.request.ThreadId.TheVariants.{All, Any, One}
use Rattle.brd_gdb.specs.declared.request.Move.{Move}
use Rattle.brd_gdb.specs.declared.request.Move.TheVariants as move
use Rattle.brd_gdb.specs.declared.request.PointKind.{PointKind}
use Rattle.brd_gdb.specs.declared.request.PointKind.TheVariants.{SoftwareBreak, HardwareBreak, WriteWatch, ReadWatch}
use Rattle.brd_gdb.specs.declared.request.PointKind.TheVariants.{AccessWatch}
use Rattle.brd_gdb.specs.declared.request.ThreadKind.{ThreadKind}
use Rattle.brd_gdb.specs.declared.request.MarkName.{MarkName}
use Rattle.brd_gdb.specs.declared.request.Monitor.{Monitor}
use Rattle.brd_gdb.specs.declared.request.Monitor.TheVariants as monitor
use Rattle.brd_gdb.specs.declared.request.Request.{Request}
use Rattle.brd_gdb.specs.declared.request.Request.TheVariants as request

-- where a text begins so, what is said of its rest; else the other
abbrev pub if_begins : {A : Type 0} → List ℕ → (List ℕ → Option A) → List ℕ → Option A → Option A
if_begins front say text other =
    if bytes_eq (take (length front) text) front then say (drop (length front) text) else other

-- where a text is this one, that; else the other
abbrev pub if_is : {A : Type 0} → List ℕ → A → List ℕ → Option A → Option A
if_is word meant text other = if bytes_eq text word then Some meant else other

-- the first that there is
abbrev pub or_else : {A : Type 0} → Option A → Option A → Option A
or_else None other = other
or_else (Some a) other = Some a

-- the thread of a number: 0 is any
abbrev pub thread_numbered : ℕ → ThreadId
thread_numbered n = if n == 0 then Any else One n

-- the threads that a text names: -1, or a number in hexadecimal digits
abbrev pub thread_of : List ℕ → Option ThreadId
thread_of text = if_is (codes "-1") All text (option_map thread_numbered (value_of 16 most_word text))

-- what a packet asks that has no arguments: to tell something
abbrev pub question_of : List ℕ → Option Request
question_of text =
    if_is (codes "?") request.StopReason text
    (if_is (codes "g") request.ReadRegisters text
    (if_is (codes "qC") request.CurrentThread text
    (if_is (codes "qfThreadInfo") request.FirstThreads text
    (if_is (codes "qsThreadInfo") request.OtherThreads text
    (if_is (codes "vCont?") request.MoveKinds text
    None)))))

-- to do something
abbrev pub order_of : List ℕ → Option Request
order_of text =
    if_is (codes "c") (request.Forward move.Continue) text
    (if_is (codes "s") (request.Forward (move.Step Any)) text
    (if_is (codes "bc") request.BackwardContinue text
    (if_is (codes "bs") request.BackwardStep text
    (if_is (codes "D") request.Detach text
    (if_is (codes "k") request.Kill text
    (if_is (codes "QStartNoAckMode") request.StartNoAckMode text
    None))))))

-- what is the same whatever its arguments are
abbrev pub whatever_of : List ℕ → Option Request
whatever_of text =
    if_begins (codes "qSupported") (λ rest. Some request.Supported) text
    (if_begins (codes "qAttached") (λ rest. Some request.IsAttached) text
    (if_begins (codes "vKill;") (λ rest. Some request.KillProcess) text
    None))

-- what would change the program
abbrev pub writing_of : List ℕ → Option Request
writing_of text =
    if_begins (codes "M") (λ rest. Some request.Write) text
    (if_begins (codes "G") (λ rest. Some request.Write) text
    (if_begins (codes "P") (λ rest. Some request.Write) text
    (if_begins (codes "X") (λ rest. Some request.Write) text
    None)))

-- a register, or a thread
abbrev pub thread_packet_of : List ℕ → Option Request
thread_packet_of text =
    if_begins (codes "p") (λ rest. option_map request.ReadRegister (value_of 16 most_word rest)) text
    (if_begins (codes "Hc") (λ rest. option_map (request.SetThread true) (thread_of rest)) text
    (if_begins (codes "Hg") (λ rest. option_map (request.SetThread false) (thread_of rest)) text
    (if_begins (codes "T") (λ rest. option_map request.IsAlive (thread_of rest)) text
    (if_begins (codes "qThreadExtraInfo,") (λ rest. option_map request.ThreadInfo (thread_of rest)) text
    None))))

-- two numbers with a comma between them
abbrev pub pair_in : List ℕ → Option (ℕ × ℕ)
pair_in text = pair_of (slice_split (λ byte. byte == 44) text)

-- an address, or a place, and a length
abbrev pub reading_of : List ℕ → Option Request
reading_of text =
    if_begins (codes "m") (λ rest. option_map (λ pair. request.ReadMemory pair.0 pair.1) (pair_in rest)) text
    (if_begins (codes "qXfer:features:read:target.xml:")
    (λ rest. option_map (λ pair. request.ReadFeatures pair.0 pair.1) (pair_in rest)) text
    (if_begins (codes "qXfer:threads:read::")
    (λ rest. option_map (λ pair. request.ReadThreads pair.0 pair.1) (pair_in rest)) text
    None))

-- the kind of a point
abbrev pub kind_of : ℕ → Option PointKind
kind_of byte =
    if byte == 48 then Some SoftwareBreak
    else (if byte == 49 then Some HardwareBreak
    else (if byte == 50 then Some WriteWatch
    else (if byte == 51 then Some ReadWatch
    else (if byte == 52 then Some AccessWatch
    else None))))

-- a point: its kind, a comma, its address, a comma, and its length
abbrev pub point_parts_of : List ℕ → Option (PointKind × ℕ × ℕ)
point_parts_of [] = None
point_parts_of (kind ∷ []) = None
point_parts_of (kind ∷ comma ∷ rest) =
    if comma == 44
    then option_and_then (λ kind. option_map (λ pair. (kind, pair.0, pair.1)) (pair_in rest)) (kind_of kind)
    else None

abbrev pub point_packet_of : List ℕ → Option Request
point_packet_of text =
    if_begins (codes "Z") (λ rest. option_map (λ p. request.SetPoint p.0 p.1 p.2) (point_parts_of rest)) text
    (if_begins (codes "z") (λ rest. option_map (λ p. request.ClearPoint p.0 p.1 p.2) (point_parts_of rest)) text
    None)

-- two addresses with a comma between them
abbrev pub range_in : List ℕ → Option (ℕ × ℕ)
range_in text = range_of (slice_split (λ byte. byte == 44) text)

-- what an action of `vCont` does with its threads
abbrev pub action_by : List ℕ → ThreadId → Option Move
action_by text thread =
    if_is (codes "c") move.Continue text
    (if_is (codes "s") (move.Step thread) text
    (if_begins (codes "C") (λ rest. option_map (λ signal. move.Continue) (value_of 16 most_word rest)) text
    (if_begins (codes "S") (λ rest. option_map (λ signal. move.Step thread) (value_of 16 most_word rest)) text
    (if_begins (codes "r") (λ rest. option_map (λ pair. move.Range thread pair.0 pair.1) (range_in rest)) text
    None))))

-- an action of its parts: what it does, and after a colon with which threads
abbrev pub action_in : List (List ℕ) → Option Move
action_in [] = None
action_in (text ∷ []) = action_by text Any
action_in (text ∷ threads ∷ []) = option_and_then (action_by text) (thread_of threads)
action_in (text ∷ threads ∷ more ∷ parts) = None

-- an action of `vCont`
abbrev pub action_of : List ℕ → Option Move
action_of text = action_in (slice_split (λ byte. byte == 58) text)

-- of two actions the first that steps
abbrev pub first_step : Move → Move → Move
first_step move.Continue later = later
first_step (move.Step thread) later = move.Step thread
first_step (move.Alone number) later = move.Alone number
first_step (move.Range thread start end) later = move.Range thread start end

-- the move of some actions: that of the first that steps, else to continue
abbrev pub move_of : List (List ℕ) → Option Move
move_of [] = Some move.Continue
move_of (action ∷ actions) =
    option_and_then (λ one. option_map (first_step one) (move_of actions)) (action_of action)

-- the move of the only action: where it steps a thread by its number, that one alone
abbrev pub alone : Move → Move
alone (move.Step (One number)) = move.Alone number
alone (move.Step All) = move.Step All
alone (move.Step Any) = move.Step Any
alone move.Continue = move.Continue
alone (move.Alone number) = move.Alone number
alone (move.Range thread start end) = move.Range thread start end

-- the move of a `vCont` with these actions
abbrev pub move_in : List (List ℕ) → Option Move
move_in [] = None
move_in (action ∷ []) = option_map alone (action_of action)
move_in (action ∷ next ∷ actions) = move_of (action ∷ next ∷ actions)

abbrev pub moving_of : List ℕ → Option Request
moving_of text =
    if_begins (codes "vCont;") (λ rest. option_map request.Forward (move_in (slice_split (λ byte. byte == 59) rest)))
    text None

-- the text of a command of the user
abbrev pub monitor_word : List ℕ → Option Monitor
monitor_word text =
    if_is (codes "where") monitor.Where text
    (if_is (codes "tasks") monitor.Tasks text
    (if_is (codes "objects") monitor.Objects text
    (if_is (codes "console") monitor.Console text
    (if_is (codes "summary") monitor.Summary text
    (if_is (codes "help") monitor.Help text
    (if_is (codes "marks") monitor.Marks text
    None))))))

abbrev pub monitor_change : List ℕ → Option Monitor
monitor_change text =
    if_is (codes "threads tasks") (monitor.Threads ThreadKind.Tasks) text
    (if_is (codes "threads processors") (monitor.Threads ThreadKind.Processors) text
    (if_is (codes "reset") (monitor.Goto 0) text
    (if_is (codes "restart") (monitor.Goto 0) text
    None)))

abbrev pub monitor_number : List ℕ → Option Monitor
monitor_number text =
    if_begins (codes "goto ") (λ digits. option_map monitor.Goto (plain_decimal_of digits (2 ^ 64 - 1))) text
    (if_begins (codes "trace ") (λ digits. option_map monitor.Trace (plain_decimal_of digits (2 ^ 32 - 1))) text
    (if_begins (codes "mark ") (λ digits. option_map monitor.Mark (plain_decimal_of digits 9)) text
    (if_begins (codes "back ") (λ digits. option_map monitor.Back (plain_decimal_of digits 9)) text
    None)))

-- the name of a mark: a name of at most 31 bytes, with zeros behind it
abbrev pub is_mark_name : List ℕ → Bool
is_mark_name text = is_name text && nat_le (length text) 31

abbrev pub mark_name_of : List ℕ → Option MarkName
mark_name_of text =
    if is_mark_name text then Some (record { bytes = text ++ replicate (31 - length text) 0 }) else None

abbrev pub monitor_name : List ℕ → Option Monitor
monitor_name text =
    if_begins (codes "mark ") (λ name. option_map monitor.MarkByName (mark_name_of name)) text
    (if_begins (codes "goto ") (λ name. option_map monitor.GotoName (mark_name_of name)) text
    None)

abbrev pub monitor_or : Option Monitor → Monitor
monitor_or None = monitor.Unknown
monitor_or (Some command) = command

abbrev pub monitor_of : List ℕ → Monitor
monitor_of text =
    monitor_or (or_else (monitor_word text) (or_else (monitor_change text) (or_else (monitor_number text)
    (monitor_name text))))

abbrev pub monitor_packet_of : List ℕ → Option Request
monitor_packet_of text =
    if_begins (codes "qRcmd,")
    (λ digits. option_map (λ bytes. request.Monitor (monitor_of bytes)) (unhexed digits)) text
    None

abbrev pub request_or : Option Request → Request
request_or None = request.Unknown
request_or (Some request) = request

-- the request of a packet
abbrev pub request_of : List ℕ → Request
request_of text =
    request_or (or_else (question_of text) (or_else (order_of text) (or_else (whatever_of text)
    (or_else (writing_of text) (or_else (thread_packet_of text) (or_else (reading_of text)
    (or_else (point_packet_of text) (or_else (moving_of text) (monitor_packet_of text)))))))))

-- Bytes that are answered one after the other.
use Rattle.std.proofs.Common.{◌≡◌, ◌≢◌, ◌∙◌, ℕ, Bool, true, false, List, ◌∷◌, ◌++◌, refl, sym, subst, inl}
use Rattle.std.specs.Prelude.{◌⊎◌, Option, Some, None, IfSome, Result, Ok, Err}
use Rattle.std.specs.Result.{IsErrAnd}
use Rattle.std.specs.Io.KnownBytes.{Appends}
use Rattle.std.specs.IoError.{error_kind}
use Rattle.std.specs.declared.io.ErrorKind.{ErrorKind}
use Rattle.std.specs.declared.io.ErrorKind.TheVariants.{OutOfMemory, UnexpectedEof}
use Rattle.brd_gdb.specs.declared.request.Request.{Request}
use Rattle.brd_gdb.specs.declared.request.Request.TheVariants.{StartNoAckMode, Detach, Kill, KillProcess}
use Rattle.brd_gdb.specs.declared.request.Request.TheVariants.{Forward, BackwardContinue, BackwardStep, Monitor}
use Rattle.brd_stub.specs.Answers.{Shows}
use Rattle.brd_stub.specs.declared.session.Session.{Session}
use Rattle.brd_command.specs.GdbCommand.{EndsServing, IsCutOff, KeepsByte, ServesCutShort, ServesFirst, ServesGdb, ServesToEnd}
use Rattle.brd_command.specs.GdbCommand.{StopsServing}
use Rattle.brd_command.specs.Serving.{AddsAnswer, AnswersPacket, HasServed, IsReady, IsShown, Serves, accepted}
use Rattle.brd_command.specs.Serving.HasServed.{one_more as one_more_served}
use Rattle.brd_running.specs.Lines.{TakesByte}
use Rattle.brd_command.specs.declared.gdb_server.Server.{Server}
use Rattle.brd_inputs.specs.Start.{AreWithin, IsStart}
use Rattle.brd_inputs.specs.declared.fault.CommandFault.{CommandFault}
use Rattle.brd_inputs.specs.declared.fault.CommandFault.TheVariants.{NoMemory, Read, TooManyReads}
use Rattle.brd_inputs.specs.declared.input_name.InputName.TheVariants.{StandardInput}
use Rattle.brd_inputs.specs.declared.start.Start.{Start}
use Rattle.brd_report.specs.Output.{AppendsFront, Writes}
use Rattle.brd_report.proofs.OutputLemmas.{one_more}

by_session : (request : Request) (s after : Server) (bytes : List ℕ) → request ≢ StartNoAckMode → request ≢ Detach → request ≢ KillProcess
    → request ≢ Kill → AddsAnswer request s after (accepted s) bytes → AnswersPacket request s bytes false after
by_session StartNoAckMode s after bytes no_mode no_detach no_process no_kill adds = absurd (no_mode refl)
by_session Detach s after bytes no_mode no_detach no_process no_kill adds = absurd (no_detach refl)
by_session Kill s after bytes no_mode no_detach no_process no_kill adds = absurd (no_kill refl)
by_session KillProcess s after bytes no_mode no_detach no_process no_kill adds = absurd (no_process refl)
by_session other s after bytes no_mode no_detach no_process no_kill adds = (adds, refl)

-- what is shown of a move is the session's text
pub shows-so : (request : Request) (before s : Session) (said text : List ℕ) → Shows before request s said →
    IsShown request said text → Shows before request s text
shows-so (Forward how) before s said text shows is = is ∙ shows
shows-so BackwardContinue before s said text shows is = is ∙ shows
shows-so BackwardStep before s said text shows is = is ∙ shows
shows-so other before s said text shows is = tt

pub shown-so : (request : Request) (said text : List ℕ) → text ≡ said → IsShown request said text
shown-so (Monitor command) said text same = tt
shown-so other said text same = same

-- The answers to the bytes of a text, but for those of what is left of it, were written.
abbrev pub IsServed : Server → List ℕ → Option (List ℕ) → Server → Option (List ℕ) → Option (List ℕ) → Type 0
IsServed first text left s old now =
    (rest : List ℕ) × (bytes : List ℕ) × (left ≡ Some rest) × HasServed first text bytes s rest × Appends old now bytes

no_memory_kind : (kind : ErrorKind) → kind ≡ UnexpectedEof → kind ≢ OutOfMemory
no_memory_kind kind is other = absurd (let e : UnexpectedEof ≡ OutOfMemory = sym is ∙ other in cc)

-- The next byte couldn't be taken.
module _ (first s : Server) (left : Option (List ℕ)) (old now : Option (List ℕ)) where
  pub first_served : (text : List ℕ) → IsServed first text left s old now → Writes (ServesFirst first text) old now
  first_served text (rest, bytes, is, done, written) =
      record { bytes = bytes; are_meant = record { last = s; left = rest; done = done }; written = written }

  stopped_by : (text : List ℕ) (fault : CommandFault) → KeepsByte fault → Writes (ServesFirst first text) old now
      → StopsServing fault first text old now
  stopped_by text NoMemory keeps served = served
  stopped_by text (Read from error) keeps served = (keeps.0, keeps.1, served)
  stopped_by text (TooManyReads from) keeps served = (keeps, served)
  stopped_by text fault keeps served = absurd keeps

  pub stopped : (input : Option (List ℕ)) (fault : CommandFault) → ((t : List ℕ) → left ≡ Some t → KeepsByte fault)
      → ((text : List ℕ) → input ≡ Some text → IsServed first text left s old now)
      → IfSome input (λ text. StopsServing fault first text old now)
  stopped None fault keeps served = tt
  stopped (Some text) fault keeps served =
      let it = served text refl in
      stopped_by text fault (keeps it.0 it.2) (first_served text it)

  -- it was read too often
  pub read_too_often : (input : Option (List ℕ)) → ((text : List ℕ) → input ≡ Some text → IsServed first text left s old now)
      → IfSome input (λ text. StopsServing (TooManyReads StandardInput) first text old now)
  read_too_often None served = tt
  read_too_often (Some text) served = (refl, first_served text (served text refl))

  -- memory ran out
  pub no_memory : (input : Option (List ℕ)) → ((text : List ℕ) → input ≡ Some text → IsServed first text left s old now)
      → IfSome input (λ text. Writes (ServesFirst first text) old now)
  no_memory None served = tt
  no_memory (Some text) served = first_served text (served text refl)

  pub memory_ran_out : (input : Option (List ℕ)) (result : Result Unit CommandFault) (unread : Option (List ℕ))
      → IsErrAnd result (λ fault. fault ≡ NoMemory)
      → ((text : List ℕ) → input ≡ Some text → IsServed first text left s old now)
      → IfSome input (λ text. EndsServing result first text unread old now)
  memory_ran_out input (Ok done) unread is served = absurd is
  memory_ran_out input (Err fault) unread is served =
      let P : CommandFault → Type 0 = λ f. IfSome input (λ text. StopsServing f first text old now) in
      subst P (sym is) (no_memory input served)

  -- the input has ended
  cut_text : (text : List ℕ) (fault : CommandFault) → IsCutOff fault → IsServed first text left s old now
      → StopsServing fault first text old now
  cut_text text (Read from error) cut served =
      (cut.0, no_memory_kind (error_kind error) cut.1, first_served text served)
  cut_text text fault cut served = absurd cut

  pub cut_off : (input : Option (List ℕ)) (fault : CommandFault) → IsCutOff fault
      → ((text : List ℕ) → input ≡ Some text → IsServed first text left s old now)
      → IfSome input (λ text. StopsServing fault first text old now)
  cut_off None fault cut served = tt
  cut_off (Some text) fault cut served = cut_text text fault cut (served text refl)

-- a request with which GDB neither leaves nor ends acknowledgments is the session's
pub answered : (meant request : Request) (s after : Server) (old bytes : List ℕ) → request ≡ meant
    → old ≡ accepted s → request ≢ StartNoAckMode → request ≢ Detach → request ≢ KillProcess → request ≢ Kill
    → AddsAnswer request s after old bytes
    → AnswersPacket meant s bytes false after
answered meant request s after old bytes is front no_mode no_detach no_process no_kill adds =
    let P : Request → Type 0 = λ r. AnswersPacket r s bytes false after in
    let A : List ℕ → Type 0 = λ xs. AddsAnswer request s after xs bytes in
    subst P is (by_session request s after bytes no_mode no_detach no_process no_kill (subst A front adds))

-- A byte was taken.
module _ (first s : Server) (left after : Option (List ℕ)) (found : Option ℕ) (old now : Option (List ℕ))
    (takes : (t : List ℕ) → left ≡ Some t → TakesByte t found after)
    (byte : ℕ) (some : found ≡ Some byte) (answer : List ℕ) (is_over : Bool) (behind : Server)
    (serves : Serves s byte answer is_over behind) (new : Option (List ℕ)) where
  done_before : (text rest bytes : List ℕ) → HasServed first text bytes s rest → (more : List ℕ) → rest ≡ byte ∷ more
      → HasServed first text bytes s (byte ∷ more)
  done_before text rest bytes done more is = subst (λ (xs : List ℕ). HasServed first text bytes s xs) is done

  -- the answer was written, and there may be more
  pub more_served : (text : List ℕ) → is_over ≡ false → Appends now new answer → IsServed first text left s old now
      → IsServed first text after behind old new
  more_served text goes_on appends (rest, bytes, is, done, written) =
      let step = subst (λ f. TakesByte rest f after) some (takes rest is) in (
        step.0,
        bytes ++ answer,
        step.1,
        one_more_served bytes answer s behind byte step.0 (done_before text rest bytes done step.0 step.2)
            (subst (λ (o : Bool). Serves s byte answer o behind) goes_on serves),
        one_more old now new bytes answer written appends,
      )

  -- the answer was written, and was the last
  last_text : (text : List ℕ) → is_over ≡ true → Appends now new answer → IsServed first text left s old now
      → Writes (ServesToEnd first text after) old new
  last_text text over appends (rest, bytes, is, done, written) =
      let step = subst (λ f. TakesByte rest f after) some (takes rest is) in
      record {
        bytes = bytes ++ answer;
        are_meant = record {
          before = bytes;
          answer = answer;
          s = s;
          after = behind;
          byte = byte;
          left = step.0;
          done = done_before text rest bytes done step.0 step.2;
          last = subst (λ (o : Bool). Serves s byte answer o behind) over serves;
          whole = refl;
          is_unread = step.1;
        };
        written = one_more old now new bytes answer written appends;
      }

  pub last_served : (input : Option (List ℕ)) → is_over ≡ true → Appends now new answer
      → ((text : List ℕ) → input ≡ Some text → IsServed first text left s old now)
      → IfSome input (λ text. Writes (ServesToEnd first text after) old new)
  last_served None over appends served = tt
  last_served (Some text) over appends served = last_text text over appends (served text refl)

  -- a front of the answer was written
  front_text : (text : List ℕ) → AppendsFront now new answer → IsServed first text left s old now
      → Writes (ServesCutShort first text) old new
  front_text text front (rest, bytes, is, done, written) =
      let step = subst (λ f. TakesByte rest f after) some (takes rest is) in
      record {
        bytes = bytes ++ front.front;
        are_meant = record {
          before = bytes;
          s = s;
          after = behind;
          byte = byte;
          left = step.0;
          done = done_before text rest bytes done step.0 step.2;
          answer = answer;
          is_over = is_over;
          next = serves;
          front = front.front;
          rest = front.rest;
          whole = front.whole;
          cut = refl;
        };
        written = one_more old now new bytes front.front written front.written;
      }

  pub front_served : (input : Option (List ℕ)) → AppendsFront now new answer
      → ((text : List ℕ) → input ≡ Some text → IsServed first text left s old now)
      → IfSome input (λ text. Writes (ServesCutShort first text) old new)
  front_served None front served = tt
  front_served (Some text) front served = front_text text front (served text refl)

-- three inputs that give a server
pub serves_gdb : (start : Start) (s : Server) (result : Result Unit CommandFault) (unread_first unread old new : Option (List ℕ))
    (Other : List ℕ → List ℕ → List ℕ → Type 0) → IsReady start.board start.journal.events s → (image config journal : Option (List ℕ))
    → IfSome image (λ i. IfSome config (λ c. IfSome journal (λ j. AreWithin i c j × IsStart i c j start)))
    → IfSome unread_first (λ text. EndsServing result s text unread old new)
    → IfSome image (λ i. IfSome config (λ c. IfSome journal (λ j. ServesGdb i c j unread_first unread result old new ⊎ Other i c j)))
serves_gdb start s result unread_first unread old new Other ready None config journal starts ends = tt
serves_gdb start s result unread_first unread old new Other ready (Some i) None journal starts ends = tt
serves_gdb start s result unread_first unread old new Other ready (Some i) (Some c) None starts ends = tt
serves_gdb start s result unread_first unread old new Other ready (Some i) (Some c) (Some j) starts ends = inl (record {
  start = start;
  within = starts.0;
  is_start = starts.1;
  first = s;
  is_ready = ready;
  ends = ends;
})

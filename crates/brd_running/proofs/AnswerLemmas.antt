-- Commands that are done one after the other.
use Rattle.std.proofs.Common.{◌≡◌, ◌+◌, ◌<◌, ◌≤◌, ◌∙◌, ℕ, List, [], ◌∷◌, ◌++◌, length, map, refl, sym, ap, subst, inl, arith, append_assoc, length-append}
use Rattle.std.specs.Prelude.{◌⊎◌, Option, Some, None, IfSome, Result}
use Rattle.std.specs.Io.KnownBytes.{Appends}
use Rattle.brd_debug.specs.Debugger.{DebuggerState}
use Rattle.brd_running.specs.Answers.{Does, HasDone}
use Rattle.brd_running.specs.Answers.HasDone.{one_more as one_more_done}
use Rattle.brd_running.specs.DebugLine.{command_lines, command_of, commands_of, line_size}
use Rattle.brd_running.specs.Debugging.{debugger_of, AnswersCutShort, AnswersToAll, AnswersToFirst, AnswersUpToLimit, IsOver, EndsAnswering, StopsAnswering, Debugs}
use Rattle.brd_inputs.specs.Input.{most_bytes}
use Rattle.brd_running.specs.Lines.{TakesLine, CountsLine, IsLeftOf, KeepsFromTaking}
use Rattle.brd_report.specs.Output.{AppendsFront, Writes}
use Rattle.brd_inputs.specs.Start.{AreWithin, IsStart}
use Rattle.brd_running.specs.declared.debug_line.DebugCommand.{DebugCommand}
use Rattle.brd_running.specs.declared.debug_line.DebugCommand.TheVariants.{Quit}
use Rattle.brd_inputs.specs.declared.fault.CommandFault.{CommandFault}
use Rattle.brd_inputs.specs.declared.fault.CommandFault.TheVariants.{NoMemory, Argument, Words, Source, ImageTooLarge, Open, Read, TooLong, TooManyReads, Build, Journal, OtherOrder, Script, Race, Trace, Schedule, Search, Fails, Passes, Write}
use Rattle.brd_running.specs.declared.lines.Taken.{Taken}
use Rattle.brd_inputs.specs.declared.start.Start.{Start}
use Rattle.brd_report.proofs.OutputLemmas.{one_more}

-- The answers to the commands of a text, but for those of what is left of it, were written.
abbrev pub IsAnswered : DebuggerState → List ℕ → Option (List ℕ) → ℕ → DebuggerState → Option (List ℕ) → Option (List ℕ) → Type 0
IsAnswered first text left taken d old now =
    (rest : List ℕ) × (bytes : List ℕ) × (left ≡ Some rest) × (taken + length rest ≡ length text) × IsLeftOf text rest
    × HasDone first (commands_of text) bytes d (commands_of rest) × Appends old now bytes

left_of_left : (text rest more : List ℕ) → IsLeftOf text rest → IsLeftOf rest more → IsLeftOf text more
left_of_left text rest more (front, whole) (line, is) =
    (front ++ line, whole ∙ ap (λ xs. front ++ xs) is ∙ sym (append_assoc front line more))

-- The next line couldn't be taken.
module _ (first d : DebuggerState) (left : Option (List ℕ)) (taken : Taken) (old now : Option (List ℕ)) (few : taken.bytes ≤ most_bytes) where
  first_answered : (text : List ℕ) → IsAnswered first text left taken.bytes d old now → Writes (AnswersToFirst first (commands_of text)) old now
  first_answered text (rest, bytes, is, counted, of-text, done, written) =
      record { bytes = bytes; are_meant = record { last = d; left = commands_of rest; done = done }; written = written }

  up_to_limit : (text : List ℕ) → ((t : List ℕ) → left ≡ Some t → most_bytes < taken.bytes + line_size t)
      → IsAnswered first text left taken.bytes d old now → Writes (AnswersUpToLimit first text) old now
  up_to_limit text beyond (rest, bytes, is, counted, (front, whole), done, written) = record {
    bytes = bytes;
    are_meant = record {
      last = d;
      front = front;
      rest = rest;
      whole = whole;
      within = omega (arith, counted, ap length whole, length-append front rest, few);
      done = done;
      beyond = omega (arith, counted, ap length whole, length-append front rest, beyond rest is);
    };
    written = written;
  }

  stopped_text : (text : List ℕ) (fault : CommandFault) → ((t : List ℕ) → left ≡ Some t → KeepsFromTaking taken t fault)
      → IsAnswered first text left taken.bytes d old now → StopsAnswering fault first text old now
  stopped_text text NoMemory keeps answered = first_answered text answered
  stopped_text text (Read from error) keeps answered =
      let why = keeps answered.0 answered.2 in (why.0, why.1, first_answered text answered)
  stopped_text text (TooLong from) keeps answered =
      ((keeps answered.0 answered.2).0, up_to_limit text (λ t is. (keeps t is).1) answered)
  stopped_text text (TooManyReads from) keeps answered = (keeps answered.0 answered.2, first_answered text answered)
  stopped_text text Argument keeps answered = absurd (keeps answered.0 answered.2)
  stopped_text text (Words fault) keeps answered = absurd (keeps answered.0 answered.2)
  stopped_text text (Source fault excerpt kind) keeps answered = absurd (keeps answered.0 answered.2)
  stopped_text text ImageTooLarge keeps answered = absurd (keeps answered.0 answered.2)
  stopped_text text (Open name error) keeps answered = absurd (keeps answered.0 answered.2)
  stopped_text text (Build fault kind) keeps answered = absurd (keeps answered.0 answered.2)
  stopped_text text (Journal fault kind) keeps answered = absurd (keeps answered.0 answered.2)
  stopped_text text (OtherOrder order) keeps answered = absurd (keeps answered.0 answered.2)
  stopped_text text (Script fault kind) keeps answered = absurd (keeps answered.0 answered.2)
  stopped_text text (Race fault) keeps answered = absurd (keeps answered.0 answered.2)
  stopped_text text (Trace fault) keeps answered = absurd (keeps answered.0 answered.2)
  stopped_text text (Schedule fault) keeps answered = absurd (keeps answered.0 answered.2)
  stopped_text text (Search fault) keeps answered = absurd (keeps answered.0 answered.2)
  stopped_text text Fails keeps answered = absurd (keeps answered.0 answered.2)
  stopped_text text Passes keeps answered = absurd (keeps answered.0 answered.2)
  stopped_text text (Write error) keeps answered = absurd (keeps answered.0 answered.2)

  pub stopped : (input : Option (List ℕ)) (fault : CommandFault) → ((t : List ℕ) → left ≡ Some t → KeepsFromTaking taken t fault)
      → ((text : List ℕ) → input ≡ Some text → IsAnswered first text left taken.bytes d old now)
      → IfSome input (λ text. StopsAnswering fault first text old now)
  stopped None fault keeps answered = tt
  stopped (Some text) fault keeps answered = stopped_text text fault keeps (answered text refl)

module _ (first d : DebuggerState) (left after : Option (List ℕ)) (taken next : Taken) (found : Option (List ℕ)) (old now : Option (List ℕ))
    (takes : (t : List ℕ) → left ≡ Some t → TakesLine t taken found after next) (counts : CountsLine taken found next) where
  -- nothing is left to do
  all_done : (text bytes rest : List ℕ) (commands : List DebugCommand) → HasDone first (commands_of text) bytes d commands → after ≡ Some rest
      → IsOver commands rest → length text ≤ most_bytes + length rest → Appends old now bytes → Writes (AnswersToAll first text after) old now
  all_done text bytes rest commands done unread over within written = record {
    bytes = bytes;
    are_meant = record { last = d; left = commands; rest = rest; done = done; is_unread = unread; over = over; within = within };
    written = written;
  }

  -- the text has ended
  ended_text : (text : List ℕ) → found ≡ None → IsAnswered first text left taken.bytes d old now → Writes (AnswersToAll first text after) old now
  ended_text text none (rest, bytes, is, counted, of-text, done, written) =
      let step = subst (λ f. TakesLine rest taken f after next) none (takes rest is) in
      let few = subst (λ f. CountsLine taken f next) none counts in
      all_done text bytes [] [] (subst (λ cs. HasDone first (commands_of text) bytes d cs) (ap (map command_of) step.0) done) step.1 refl
      (omega (arith, counted, step.2, few.0)) written

  pub all_answered : (input : Option (List ℕ)) → found ≡ None → ((text : List ℕ) → input ≡ Some text → IsAnswered first text left taken.bytes d old now)
      → IfSome input (λ text. Writes (AnswersToAll first text after) old now)
  all_answered None none answered = tt
  all_answered (Some text) none answered = ended_text text none (answered text refl)

  module _ (line : List ℕ) (some : found ≡ Some line) where
    -- the next command is `quit`
    quit_text : (text : List ℕ) → command_of line ≡ Quit → IsAnswered first text left taken.bytes d old now
        → Writes (AnswersToAll first text after) old now
    quit_text text quits (rest, bytes, is, counted, of-text, done, written) =
        let step = subst (λ f. TakesLine rest taken f after next) some (takes rest is) in
        let few = subst (λ f. CountsLine taken f next) some counts in
        all_done text bytes step.0 (command_of line ∷ commands_of step.0)
        (subst (λ cs. HasDone first (commands_of text) bytes d cs) (ap (map command_of) step.2) done) step.1 (quits, refl)
        (omega (arith, counted, step.3, few.1)) written

    pub quit_answered : (input : Option (List ℕ)) → command_of line ≡ Quit
        → ((text : List ℕ) → input ≡ Some text → IsAnswered first text left taken.bytes d old now)
        → IfSome input (λ text. Writes (AnswersToAll first text after) old now)
    quit_answered None quits answered = tt
    quit_answered (Some text) quits answered = quit_text text quits (answered text refl)

    module _ (answer : List ℕ) (behind : DebuggerState) (does : Does d (command_of line) answer behind) (new : Option (List ℕ)) where
      done_more : (text rest bytes : List ℕ) → (is : left ≡ Some rest) → HasDone first (commands_of text) bytes d (commands_of rest)
          → (more : List ℕ) → command_lines rest ≡ line ∷ command_lines more → HasDone first (commands_of text) (bytes ++ answer) behind (commands_of more)
      done_more text rest bytes is done more lines =
          one_more_done bytes answer d behind (command_of line) (commands_of more)
          (subst (λ cs. HasDone first (commands_of text) bytes d cs) (ap (map command_of) lines) done) does

      -- the answer was written
      pub more_answered : (text : List ℕ) → Appends now new answer → IsAnswered first text left taken.bytes d old now
          → IsAnswered first text after next.bytes behind old new
      more_answered text appends (rest, bytes, is, counted, of-text, done, written) =
          let step = subst (λ f. TakesLine rest taken f after next) some (takes rest is) in (
            step.0,
            bytes ++ answer,
            step.1,
            omega (arith, counted, step.3),
            left_of_left text rest step.0 of-text step.4,
            done_more text rest bytes is done step.0 step.2,
            one_more old now new bytes answer written appends,
          )

      -- a front of the answer was written
      front_text : (text : List ℕ) → AppendsFront now new answer → IsAnswered first text left taken.bytes d old now
          → Writes (AnswersCutShort first (commands_of text)) old new
      front_text text front (rest, bytes, is, counted, of-text, done, written) =
          let step = subst (λ f. TakesLine rest taken f after next) some (takes rest is) in
          record {
            bytes = bytes ++ front.front;
            are_meant = record {
              before = bytes;
              last = d;
              command = command_of line;
              left = commands_of step.0;
              done = subst (λ cs. HasDone first (commands_of text) bytes d cs) (ap (map command_of) step.2) done;
              answer = answer;
              next = behind;
              does = does;
              front = front.front;
              rest = front.rest;
              whole = front.whole;
              cut = refl;
            };
            written = one_more old now new bytes front.front written front.written;
          }

      pub front_answered : (input : Option (List ℕ)) → AppendsFront now new answer
          → ((text : List ℕ) → input ≡ Some text → IsAnswered first text left taken.bytes d old now)
          → IfSome input (λ text. Writes (AnswersCutShort first (commands_of text)) old new)
      front_answered None front answered = tt
      front_answered (Some text) front answered = front_text text front (answered text refl)

-- three inputs that give a debugger
pub debugs : (start : Start) (d : DebuggerState) (result : Result Unit CommandFault) (unread_first unread old new : Option (List ℕ))
    (Other : List ℕ → List ℕ → List ℕ → Type 0) → d ≡ debugger_of start → (image config journal : Option (List ℕ))
    → IfSome image (λ i. IfSome config (λ c. IfSome journal (λ j. AreWithin i c j × IsStart i c j start)))
    → IfSome unread_first (λ text. EndsAnswering result d text unread old new)
    → IfSome image (λ i. IfSome config (λ c. IfSome journal (λ j. Debugs i c j unread_first unread result old new ⊎ Other i c j)))
debugs start d result unread_first unread old new Other is None config journal starts ends = tt
debugs start d result unread_first unread old new Other is (Some i) None journal starts ends = tt
debugs start d result unread_first unread old new Other is (Some i) (Some c) None starts ends = tt
debugs start d result unread_first unread old new Other is (Some i) (Some c) (Some j) starts ends = inl (record {
  start = start;
  within = starts.0;
  is_start = starts.1;
  ends = subst (λ (s : DebuggerState). IfSome unread_first (λ text. EndsAnswering result s text unread old new)) is ends;
})

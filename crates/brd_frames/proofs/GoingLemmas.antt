-- What an agent's instruction does on a processor, and over memories that agree on what it touches.
use Rattle.std.proofs.Common.{◌≡◌, ℕ, ◌-◌, Bool, true, false, List, [], refl, sym, ap, subst, ◌∙◌}
use Rattle.std.specs.Prelude.{Option, None, Some, IsSome, Result, Ok, Err}
use Rattle.std.proofs.lemmas.Bool.{false≢true}
use Rattle.brd_base.specs.Space.{base}
use Rattle.brd_isa.specs.declared.instruction.{Insn.Insn, StoreOp.StoreOp}
use Rattle.brd_mem.specs.declared.fault.Exc.{Exc}
use Rattle.brd_mem.specs.Memory.{Memory, with_bytes}
use Rattle.brd_link.specs.LinkSet.{LinkSet}
use Rattle.brd_exec.specs.declared.outcome.{ExceptionCode.ExceptionCode, Outcome.Outcome, Stop.Stop}
use Rattle.brd_exec.specs.declared.outcome.Outcome.TheVariants.{Done, Syscall, Exception}
use Rattle.brd_exec.specs.State.{State, read, advanced}
use Rattle.brd_exec.specs.Action.{Action, with_word, action}
use Rattle.brd_exec.specs.Step.{Effect, unless_stopped, with_code, load_gives, store_gives, stores as storing_to, done, of_next, next_instruction, effect, Ran, ended, ran}
use Rattle.brd_kernel.specs.declared.processor.Executor.{Executor}
use Rattle.brd_kernel.specs.declared.processor.Executor.TheVariants as executor
use Rattle.brd_kernel.specs.Kernel.{KernelState, context_of, with_context_of}
use Rattle.brd_board.specs.Executing.{executed_by}
use Rattle.brd_board.specs.declared.event.Event.TheVariants.{Step}
use Rattle.brd_board.specs.declared.event.Report.TheVariants as report
use Rattle.brd_board.specs.Board.{BoardState, Happened, reported, with_executed, instruction_done, happens}
use Rattle.brd_board.specs.Batch.{GoesOn}
use Rattle.brd_frames.specs.Agents.{Agent, agent_by, context_in, with_context_in}
use Rattle.brd_frames.specs.Touching.{Agree, accesses, accesses_next, touches, stores_by, stores_next, stores, stores_at}
use Rattle.brd_frames.specs.Going.{Gone, gone_on, gone_storing, goes_by, goes_next, goes, links_after, with_gone, IsNext, is_plain, is_plain_next}
use Rattle.brd_frames.proofs.DeedLemmas.{puts, first_stored, put_in, store-puts, puts-same, puts-lie, load-same, next-same, accesses-same}
use Rattle.brd_frames.proofs.FootprintLemmas.{PutsAt, puts-none, puts-lies}
use Rattle.brd_frames.proofs.StepLemmas.{left_by, step-is}

-- On a processor.

goes-unless : (cpu : ℕ) (memory : Memory) (links : LinkSet) (outcome : Result State Stop) (gone : Gone) → gone_on memory outcome ≡ Some gone →
    unless_stopped memory links outcome ≡ Effect.Goes gone.context gone.memory (links_after cpu links gone.stored)
goes-unless cpu memory links (Ok after) gone is =
    let same : (record { context = after; memory = memory; stored = None }) ≡ gone = cc in
    ap (λ (it : Gone). Effect.Goes it.context it.memory (links_after cpu links it.stored)) same
goes-unless cpu memory links (Err stop) gone is = let wrong : ⊥ = cc in absurd wrong

goes-storing : (cpu : ℕ) (s : State) (links : LinkSet) (address : ℕ) (given : Result Memory Exc) (gone : Gone) →
    gone_storing s address given ≡ Some gone →
    storing_to cpu s links address given ≡ Effect.Goes gone.context gone.memory (links_after cpu links gone.stored)
goes-storing cpu s links address (Ok memory) gone is =
    let same : (record { context = advanced s; memory = memory; stored = Some address }) ≡ gone = cc in
    ap (λ (it : Gone). Effect.Goes it.context it.memory (links_after cpu links it.stored)) same
goes-storing cpu s links address (Err exc) gone is = let wrong : ⊥ = cc in absurd wrong

goes-done : (cpu : ℕ) (s : State) (memory : Memory) (links : LinkSet) (act : Action) (gone : Gone) → goes_by s memory act ≡ Some gone →
    done cpu s memory links act ≡ Effect.Goes gone.context gone.memory (links_after cpu links gone.stored)
goes-done cpu s memory links (Action.Local after) gone is = goes-unless cpu memory links (Ok after) gone is
goes-done cpu s memory links (Action.MayStop outcome) gone is = goes-unless cpu memory links outcome gone is
goes-done cpu s memory links (Action.Loads op rt address) gone is =
    goes-unless cpu memory links (with_word s rt (with_code (load_gives op memory address (read s rt)))) gone is
goes-done cpu s memory links (Action.Stores op rt address) gone is =
    goes-storing cpu s links address (store_gives op memory address (read s rt)) gone is
goes-done cpu s memory links (Action.LoadsLinked rt address) gone is = let wrong : ⊥ = cc in absurd wrong
goes-done cpu s memory links (Action.StoresIfLinked rt address) gone is = let wrong : ⊥ = cc in absurd wrong

goes-of-next : (cpu : ℕ) (s : State) (memory : Memory) (links : LinkSet) (next : Result Insn ExceptionCode) (gone : Gone) →
    goes_next s memory next ≡ Some gone →
    of_next cpu s memory links next ≡ Effect.Goes gone.context gone.memory (links_after cpu links gone.stored)
goes-of-next cpu s memory links (Ok insn) gone is = goes-done cpu s memory links (action insn s) gone is
goes-of-next cpu s memory links (Err code) gone is = let wrong : ⊥ = cc in absurd wrong

pub goes-ran : (cpu : ℕ) (s : State) (memory : Memory) (links : LinkSet) (gone : Gone) → goes s memory ≡ Some gone →
    ran cpu s memory links
    ≡ record { state = gone.context; memory = gone.memory; links = links_after cpu links gone.stored; outcome = Done }
unfolding ran effect goes
goes-ran cpu s memory links gone is =
    ap (λ how. ended how s memory) (goes-of-next cpu s memory links (next_instruction s memory) gone is)

pub context-by : (k : KernelState) (cpu : ℕ) (who : Executor) → context_in k (agent_by cpu who) ≡ context_of k cpu who
context-by k cpu executor.Handler = refl
context-by k cpu (executor.Task id) = refl

pub put-by : (k : KernelState) (cpu : ℕ) (who : Executor) (s : State) → with_context_in k (agent_by cpu who) s ≡ with_context_of k cpu who s
put-by k cpu executor.Handler s = refl
put-by k cpu (executor.Task id) s = refl

goes-step : (b : BoardState) (cpu : ℕ) (who : Executor) (gone : Gone) → GoesOn b cpu who →
    goes (context_in b.kernel (agent_by cpu who)) b.memory ≡ Some gone →
    happens b (Step cpu)
    ≡ reported (with_gone b (agent_by cpu who) (links_after cpu b.links gone.stored) gone) (report.Ran (context_in b.kernel (agent_by cpu who)).pc)
goes-step b cpu who gone next is =
    let s : State = context_of b.kernel cpu who in
    let here : goes s b.memory ≡ Some gone = ap (λ c. goes c b.memory) (sym (context-by b.kernel cpu who)) ∙ is in
    step-is b cpu who next.on next.executes next.uninterrupted
    ∙ ap (λ (left : Ran). instruction_done (with_executed b (executed_by b.kernel cpu who s.pc left)) cpu s.pc left.outcome)
    (goes-ran cpu s b.memory b.links gone here)
    ∙ ap (λ kernel. reported (record b { kernel = kernel; memory = gone.memory; links = links_after cpu b.links gone.stored }) (report.Ran s.pc))
    (sym (put-by b.kernel cpu who gone.context))
    ∙ ap (λ (c : State). reported (with_gone b (agent_by cpu who) (links_after cpu b.links gone.stored) gone) (report.Ran c.pc))
    (sym (context-by b.kernel cpu who))

pub processor : (b : BoardState) (cpu : ℕ) (who : Agent) (gone : Gone) → IsNext b cpu who → goes (context_in b.kernel who) b.memory ≡ Some gone →
    happens b (Step cpu)
    ≡ reported (with_gone b who (links_after cpu b.links gone.stored) gone) (report.Ran (context_in b.kernel who).pc)
processor b cpu who gone next is =
    subst (λ (x : Agent). goes (context_in b.kernel x) b.memory ≡ Some gone →
    happens b (Step cpu) ≡ reported (with_gone b x (links_after cpu b.links gone.stored) gone) (report.Ran (context_in b.kernel x).pc))
    next.is (goes-step b cpu next.executor gone next.goes_on) is

-- Whatever has been executed, and is plain, goes on so.

abbrev Went : Option Gone → Type 0
Went it = (gone : Gone) × (it ≡ Some gone)

outcome-goes : (s : State) (memory : Memory) (links : LinkSet) (outcome : Result State Stop) →
    (ended (unless_stopped memory links outcome) s memory).outcome ≡ Done → Went (gone_on memory outcome)
outcome-goes s memory links (Ok after) is = (record { context = after; memory = memory; stored = None }, refl)
outcome-goes s memory links (Err Stop.Call) is = let wrong : ⊥ = cc in absurd wrong
outcome-goes s memory links (Err (Stop.Raise code)) is = let wrong : ⊥ = cc in absurd wrong

storing-goes : (cpu : ℕ) (s : State) (memory : Memory) (links : LinkSet) (address : ℕ) (given : Result Memory Exc) →
    (ended (storing_to cpu s links address given) s memory).outcome ≡ Done → Went (gone_storing s address given)
storing-goes cpu s memory links address (Ok stored) is = (record { context = advanced s; memory = stored; stored = Some address }, refl)
storing-goes cpu s memory links address (Err exc) is = let wrong : ⊥ = cc in absurd wrong

done-goes : (cpu : ℕ) (s : State) (memory : Memory) (links : LinkSet) (act : Action) → is_plain act ≡ true →
    (ended (done cpu s memory links act) s memory).outcome ≡ Done → Went (goes_by s memory act)
done-goes cpu s memory links (Action.Local after) plain is = (record { context = after; memory = memory; stored = None }, refl)
done-goes cpu s memory links (Action.MayStop outcome) plain is = outcome-goes s memory links outcome is
done-goes cpu s memory links (Action.Loads op rt address) plain is =
    outcome-goes s memory links (with_word s rt (with_code (load_gives op memory address (read s rt)))) is
done-goes cpu s memory links (Action.Stores op rt address) plain is =
    storing-goes cpu s memory links address (store_gives op memory address (read s rt)) is
done-goes cpu s memory links (Action.LoadsLinked rt address) plain is = absurd (false≢true plain)
done-goes cpu s memory links (Action.StoresIfLinked rt address) plain is = absurd (false≢true plain)

next-goes : (cpu : ℕ) (s : State) (memory : Memory) (links : LinkSet) (next : Result Insn ExceptionCode) → is_plain_next s next ≡ true →
    (ended (of_next cpu s memory links next) s memory).outcome ≡ Done → Went (goes_next s memory next)
next-goes cpu s memory links (Ok insn) plain is = done-goes cpu s memory links (action insn s) plain is
next-goes cpu s memory links (Err code) plain is = let wrong : ⊥ = cc in absurd wrong

ran-goes : (cpu : ℕ) (s : State) (memory : Memory) (links : LinkSet) → is_plain_next s (next_instruction s memory) ≡ true →
    (ran cpu s memory links).outcome ≡ Done → Went (goes s memory)
unfolding ran effect goes
ran-goes cpu s memory links plain is = next-goes cpu s memory links (next_instruction s memory) plain is

reported-done : (b : BoardState) (cpu pc address : ℕ) (outcome : Outcome) → (instruction_done b cpu pc outcome).report ≡ report.Ran address →
    outcome ≡ Done
reported-done b cpu pc address Done is = refl
reported-done b cpu pc address Syscall is = let wrong : ⊥ = cc in absurd wrong
reported-done b cpu pc address (Exception code epc bd) is = let wrong : ⊥ = cc in absurd wrong

step-goes : (b : BoardState) (cpu address : ℕ) (who : Executor) → GoesOn b cpu who → (happens b (Step cpu)).report ≡ report.Ran address →
    is_plain_next (context_in b.kernel (agent_by cpu who)) (next_instruction (context_in b.kernel (agent_by cpu who)) b.memory) ≡ true →
    Went (goes (context_in b.kernel (agent_by cpu who)) b.memory)
step-goes b cpu address who next told plain =
    let s : State = context_of b.kernel cpu who in
    let is-done : (left_by b cpu who).outcome ≡ Done =
    reported-done (with_executed b (executed_by b.kernel cpu who s.pc (left_by b cpu who))) cpu s.pc address (left_by b cpu who).outcome
    (sym (ap (λ (it : Happened). it.report) (step-is b cpu who next.on next.executes next.uninterrupted)) ∙ told) in
    subst (λ c. Went (goes c b.memory)) (sym (context-by b.kernel cpu who))
    (ran-goes cpu s b.memory b.links
    (subst (λ c. is_plain_next c (next_instruction c b.memory) ≡ true) (context-by b.kernel cpu who) plain) is-done)

pub goes-plain : (b : BoardState) (cpu address : ℕ) (who : Agent) → IsNext b cpu who → (happens b (Step cpu)).report ≡ report.Ran address →
    is_plain_next (context_in b.kernel who) (next_instruction (context_in b.kernel who) b.memory) ≡ true →
    Went (goes (context_in b.kernel who) b.memory)
goes-plain b cpu address who next told =
    subst (λ (x : Agent). is_plain_next (context_in b.kernel x) (next_instruction (context_in b.kernel x) b.memory) ≡ true →
    Went (goes (context_in b.kernel x) b.memory))
    next.is (step-goes b cpu address next.executor next.goes_on told)

-- Over memories that agree on what is touched, the same bytes are put in the same place.

pub record Puts (touched stored : ℕ → Bool) (memory : Memory) (gone : Gone) (over : Memory → Option Gone) : Type 0 where
  pub first : ℕ
  pub bytes : List ℕ
  pub puts : PutsAt stored memory first bytes
  pub is : gone.memory ≡ with_bytes memory (first - base) bytes
  pub again : (other : Memory) → Agree touched memory other → over other ≡ Some (record gone { memory = with_bytes other (first - base) bytes })

by-outcome : (touched : ℕ → Bool) (memory : Memory) (gone : Gone) (outcome : Memory → Result State Stop) (what : Result State Stop) →
    outcome memory ≡ what → gone_on memory what ≡ Some gone →
    ((other : Memory) → Agree touched memory other → outcome other ≡ outcome memory) →
    Puts touched (λ address. false) memory gone (λ other. gone_on other (outcome other))
by-outcome touched memory gone outcome (Ok after) gives is same =
    let so : (record { context = after; memory = memory; stored = None }) ≡ gone = cc in
    record {
      first = base;
      bytes = [];
      puts = puts-none (λ address. false) memory;
      is = sym (ap (λ (it : Gone). it.memory) so);
      again = λ other agree.
          ap (gone_on other) (same other agree ∙ gives) ∙ ap (λ (it : Gone). Some (record it { memory = other })) so;
    }
by-outcome touched memory gone outcome (Err stop) gives is same = let wrong : ⊥ = cc in absurd wrong

none-put : (touched : ℕ → Bool) (memory : Memory) (gone : Gone) (outcome : Memory → Result State Stop) → gone_on memory (outcome memory) ≡ Some gone →
    ((other : Memory) → Agree touched memory other → outcome other ≡ outcome memory) →
    Puts touched (λ address. false) memory gone (λ other. gone_on other (outcome other))
none-put touched memory gone outcome is same = by-outcome touched memory gone outcome (outcome memory) refl is same

some-put : (op : StoreOp) (s : State) (memory : Memory) (address word : ℕ) (gone : Gone) (given : Result (List ℕ) Exc) →
    puts op memory address word ≡ given →
    gone_storing s address (put_in memory (first_stored op address - base) given) ≡ Some gone →
    Puts (stores_at op address) (stores_at op address) memory gone (λ other. gone_storing s address (store_gives op other address word))
some-put op s memory address word gone (Ok bytes) gives is =
    let so : (record { context = advanced s; memory = with_bytes memory (first_stored op address - base) bytes; stored = Some address }) ≡ gone = cc in
    record {
      first = first_stored op address;
      bytes = bytes;
      puts = puts-lies memory (first_stored op address) bytes (stores_at op address) (puts-lie op memory address word bytes gives);
      is = sym (ap (λ (it : Gone). it.memory) so);
      again = λ other agree.
          ap (gone_storing s address)
          (store-puts op other address word ∙ ap (put_in other (first_stored op address - base)) (puts-same op memory other address word agree ∙ gives))
          ∙ ap (λ (it : Gone). Some (record it { memory = with_bytes other (first_stored op address - base) bytes })) so;
    }
some-put op s memory address word gone (Err exc) gives is = let wrong : ⊥ = cc in absurd wrong

action-puts : (s : State) (memory : Memory) (act : Action) (gone : Gone) → goes_by s memory act ≡ Some gone →
    Puts (accesses act) (stores_by act) memory gone (λ other. goes_by s other act)
action-puts s memory (Action.Local after) gone is =
    none-put (λ address. false) memory gone (λ other. Ok after) is (λ other agree. refl)
action-puts s memory (Action.MayStop outcome) gone is =
    none-put (λ address. false) memory gone (λ other. outcome) is (λ other agree. refl)
action-puts s memory (Action.Loads op rt address) gone is =
    none-put (accesses (Action.Loads op rt address)) memory gone
    (λ other. with_word s rt (with_code (load_gives op other address (read s rt)))) is
    (λ other agree. ap (λ given. with_word s rt (with_code given)) (load-same op memory other address (read s rt) agree))
action-puts s memory (Action.Stores op rt address) gone is =
    some-put op s memory address (read s rt) gone (puts op memory address (read s rt)) refl
    (ap (gone_storing s address) (sym (store-puts op memory address (read s rt))) ∙ is)
action-puts s memory (Action.LoadsLinked rt address) gone is = let wrong : ⊥ = cc in absurd wrong
action-puts s memory (Action.StoresIfLinked rt address) gone is = let wrong : ⊥ = cc in absurd wrong

next-puts : (s : State) (memory : Memory) (next : Result Insn ExceptionCode) (gone : Gone) → goes_next s memory next ≡ Some gone →
    Puts (λ address. accesses_next s address next) (λ address. stores_next s address next) memory gone (λ other. goes_next s other next)
next-puts s memory (Ok insn) gone is = action-puts s memory (action insn s) gone is
next-puts s memory (Err code) gone is = let wrong : ⊥ = cc in absurd wrong

pub goes-puts : (s : State) (memory : Memory) (gone : Gone) → goes s memory ≡ Some gone →
    Puts (touches s memory) (stores s memory) memory gone (goes s)
unfolding goes stores
goes-puts s memory gone is =
    let it = next-puts s memory (next_instruction s memory) gone is in
    record {
      first = it.first;
      bytes = it.bytes;
      puts = it.puts;
      is = it.is;
      again = λ other agree.
          ap (goes_next s other) (next-same s memory other agree) ∙ it.again other (accesses-same s memory other agree);
    }

-- as it is said
is-there : (it : Option Gone) → Went it → IsSome it
is-there it went = subst IsSome (sym went.1) refl

pub goes-there : (b : BoardState) (cpu address : ℕ) (who : Agent) → IsNext b cpu who → (happens b (Step cpu)).report ≡ report.Ran address →
    is_plain_next (context_in b.kernel who) (next_instruction (context_in b.kernel who) b.memory) ≡ true →
    IsSome (goes (context_in b.kernel who) b.memory)
goes-there b cpu address who next told plain = is-there (goes (context_in b.kernel who) b.memory) (goes-plain b cpu address who next told plain)

-- Instructions of an agent and events that are independent of them come to the same board in either order.
use Rattle.std.proofs.Common.{◌≡◌, ℕ, ◌+◌, ◌-◌, ◌<◌, ◌≤◌, Bool, true, false, not, List, [], ◌∷◌, ◌++◌, replicate, length, length-set, refl, sym, ap, subst, ◌∙◌, arith, inl, inr}
use Rattle.std.specs.Prelude.{◌==◌, ◌||◌, if◌then◌else◌, ◌&&◌, slice_index, slice_index_or, slice_set, Option, None, Some}
use Rattle.std.specs.List.{list_any}
use Rattle.std.specs.Option.{option_map}
use Rattle.std.proofs.lemmas.Bool.{false≢true, cases_lt, eqb-false, eq-eqb, and_from}
use Rattle.std.proofs.lemmas.Bool.Decides.{nat_tests}
use Rattle.std.proofs.lemmas.List.{get_or-set_same, get_or_past, set-get_or}
use Rattle.brd_base.specs.Space.{base}
use Rattle.brd_mem.specs.Memory.{Memory, size_of, contains, with_bytes, byte_from, byte_at}
use Rattle.brd_mem.specs.Window.{window_start, window_at}
use Rattle.brd_link.specs.LinkSet.{Link, is_linked, is_same_block, after_store}
use Rattle.brd_exec.specs.State.{State}
use Rattle.brd_exec.specs.Lent.{lent}
use Rattle.brd_tasks.specs.Tasks.{no_context}
use Rattle.brd_kernel.specs.Kernel.{KernelState}
use Rattle.brd_board.specs.declared.event.Event.{Event}
use Rattle.brd_board.specs.declared.event.Event.TheVariants.{Step}
use Rattle.brd_board.specs.declared.event.Report.TheVariants as report
use Rattle.brd_board.specs.Board.{BoardState, Happened, reported, happens, after}
use Rattle.brd_board.proofs.BatchLemmas.{local-steps-go}
use Rattle.brd_board.proofs.FormLemmas as form
use Rattle.brd_frames.specs.Agents as agents
use Rattle.brd_frames.specs.Agents.{Agent, agent_by, context_in, with_context_in, with_agent, happened_with}
use Rattle.brd_frames.specs.Apart.{IsApart, AreApart}
use Rattle.brd_frames.specs.Touching.{is_among, touches, is_touched, is_stored, Agree, Change, changed, with_change, happened_changed, IsClearOf, put_at}
use Rattle.brd_frames.specs.Going.{Gone, goes, links_after, with_gone, IsNext}
use Rattle.brd_frames.specs.Commuting.{agent_goes, IsIndependent, AreIndependent, IsUnlinked, EndsNoLink}
use Rattle.brd_frames.proofs.DeedLemmas.{get-bytes}
use Rattle.brd_frames.proofs.FrameLemmas.{frame, frames}
use Rattle.brd_frames.proofs.FootprintLemmas.{PutsAt, footprint, with-bytes-is, put-clear}
use Rattle.brd_frames.proofs.RoomLemmas.{Rooms, happens-rooms}
use Rattle.brd_frames.proofs.StoreLemmas.{stores-keep, byte-place}
use Rattle.brd_frames.proofs.GoingLemmas.{context-by, put-by, processor, goes-puts}

-- Events in two lists.

pub after-join : (b : BoardState) (first second : List Event) → after b (first ++ second) ≡ after (after b first) second
after-join b [] second = refl
after-join b (event ∷ first) second = after-join (happens b event).board first second

-- The context of an agent that an event is apart from stays.

put-own : (k : KernelState) (who : Agent) → with_context_in k who (context_in k who) ≡ k
put-own k (agents.Task id) = ap (λ contexts. record k { tasks = record k.tasks { contexts = contexts } }) (set-get_or k.tasks.contexts id no_context)
put-own k (agents.Handler cpu) = ap (λ contexts. record k { handler_contexts = contexts }) (set-get_or k.handler_contexts cpu no_context)

past-set : (xs : List State) (at : ℕ) → length xs ≤ at → slice_index_or (slice_set xs at no_context) at no_context ≡ no_context
past-set xs at past =
    let long : length (slice_set xs at no_context) ≡ length xs = length-set xs at no_context in
    get_or_past (slice_set xs at no_context) at no_context (omega (arith, past, long))

-- what is read where it was written, in a list as long as one in which it was read before
read-back : (old new : List State) (at : ℕ) → length new ≡ length old →
    slice_index_or (slice_set new at (slice_index_or old at no_context)) at no_context ≡ slice_index_or old at no_context
read-back old new at long = elim (cases_lt at (length new)) [
  | inl below ↦ get_or-set_same new at (slice_index_or old at no_context) no_context below
  | inr past ↦
      let beyond : slice_index_or old at no_context ≡ no_context = get_or_past old at no_context (omega (arith, past, long)) in
      ap (λ s. slice_index_or (slice_set new at s) at no_context) beyond ∙ past-set new at past ∙ sym beyond
]

read-own : (old new : KernelState) (who : Agent) → Rooms new old →
    context_in (with_context_in new who (context_in old who)) who ≡ context_in old who
read-own old new (agents.Task id) rooms = read-back old.tasks.contexts new.tasks.contexts id rooms.tasks
read-own old new (agents.Handler cpu) rooms = read-back old.handler_contexts new.handler_contexts cpu rooms.handlers

pub context-kept : (b : BoardState) (event : Event) (who : Agent) → IsApart b event who →
    context_in (happens b event).board.kernel who ≡ context_in b.kernel who
context-kept b event who apart =
    let s : State = context_in b.kernel who in
    let same : with_agent b who s ≡ b = ap (λ k. record b { kernel = k }) (put-own b.kernel who) in
    ap (λ (x : BoardState). context_in (happens x event).board.kernel who) (sym same)
    ∙ ap (λ (done : Happened). context_in done.board.kernel who) (frame b event who s apart)
    ∙ read-own b.kernel (happens b event).board.kernel who (happens-rooms b event)

-- What an event is apart from doesn't depend on bytes that it doesn't touch.

pub apart-changed : (b : BoardState) (event : Event) (who : Agent) (change : Change) → IsClearOf change (is_touched b event) →
    IsApart b event who → IsApart (with_change b change) event who
apart-changed b event who change clear apart = record {
  steady = apart.steady;
  elsewhere = λ it. apart.elsewhere (record { cpu = it.cpu; steps = it.steps; executes = it.executes; uninterrupted = it.uninterrupted });
  lasting = λ it. apart.lasting (record {
    id = it.id;
    cpu = it.cpu;
    call = it.call;
    task = it.task;
    is = it.is;
    steps = it.steps;
    calls = record {
      context = it.calls.context;
      address = it.calls.address;
      executes = it.calls.executes;
      steps = ap (λ (e : Event). (happens b e).report) (sym it.steps)
          ∙ sym (ap (λ (done : Happened). done.report) (footprint b event change clear))
          ∙ ap (λ (e : Event). (happens (with_change b change) e).report) it.steps
          ∙ it.calls.steps;
      asks = it.calls.asks;
    };
    there = it.there;
    starts = it.starts;
    serves = it.serves;
  });
}

-- An instruction, and an event that is independent of it.

-- the board after an instruction: another context, and a change of bytes
pub gone-board : (b : BoardState) (who : Agent) (gone : Gone) (change : Change) → gone.memory ≡ changed b.memory change →
    with_gone b who b.links gone ≡ with_agent (with_change b change) who gone.context
gone-board b who gone change is = ap (λ memory. record b { kernel = with_context_in b.kernel who gone.context; memory = memory }) is

inside-one : (size address : ℕ) → base ≤ address → address - base < size → contains size address 1 ≡ true
inside-one size address from below = grind (arith, nat_tests, from, below)

place-kept : (one two : Memory) (address : ℕ) → base ≤ address → size_of two ≡ size_of one → byte_at two address ≡ byte_at one address →
    slice_index two.bytes (address - base) ≡ slice_index one.bytes (address - base)
place-kept one two address from size same = elim (cases_lt (address - base) (size_of one)) [
  | inl below ↦
      let place : address - base + 0 ≡ address - base = omega arith in
      ap (slice_index two.bytes) (sym place) ∙ sym (get-bytes two (address - base) 1 0 (omega arith))
      ∙ byte-place (contains (size_of one) address 1) (contains (size_of two) address 1) (byte_from one (address - base)) (byte_from two (address - base))
      (ap (λ n. contains n address 1) size) (inside-one (size_of one) address from below) same
      ∙ get-bytes one (address - base) 1 0 (omega arith) ∙ ap (slice_index one.bytes) place
  | inr past ↦
      get_or_past two.bytes (address - base) 0 (omega (arith, past, size)) ∙ sym (get_or_past one.bytes (address - base) 0 past)
]

pub agree-after : (b : BoardState) (event : Event) (touched : ℕ → Bool) →
    ((address : ℕ) → touched address ≡ true → is_stored b event address ≡ false) → Agree touched b.memory (happens b event).board.memory
agree-after b event touched unwritten = record {
  order = (form.form-happens b event).1;
  size = (form.form-happens b event).0;
  bytes = λ address from is. place-kept b.memory (happens b event).board.memory address from (form.form-happens b event).0
      (stores-keep b event address (unwritten address is));
}

pub some-gone : (b new : BoardState) (who : Agent) (found : Option Gone) → option_map (with_gone b who b.links) found ≡ Some new →
    (gone : Gone) × (found ≡ Some gone) × (new ≡ with_gone b who b.links gone)
some-gone b new who None is = let wrong : ⊥ = cc in absurd wrong
some-gone b new who (Some gone) is = (gone, refl, cc)

-- both ways round
abbrev Both : BoardState → BoardState → Event → Agent → Type 0
Both b new event who =
    (agent_goes (happens b event).board who ≡ Some (happens new event).board) × ((happens new event).report ≡ (happens b event).report)

pub stored-at : {stored : ℕ → Bool} {memory : Memory} {first : ℕ} {bytes : List ℕ} → PutsAt stored memory first bytes → (address : ℕ) →
    is_among first (length bytes) address ≡ true → stored address ≡ true
stored-at {first = first} {bytes = bytes} puts address is =
    puts.at address (grind (arith, nat_tests, is)) (grind (arith, nat_tests, is))

gone-swaps : (b : BoardState) (event : Event) (who : Agent) (gone : Gone) → IsIndependent b event who →
    goes (context_in b.kernel who) b.memory ≡ Some gone → Both b (with_gone b who b.links gone) event who
gone-swaps b event who gone free is =
    let s : State = context_in b.kernel who in
    let put = goes-puts s b.memory gone is in
    let at : ℕ = put.first - base in
    let change : Change = put_at at put.bytes in
    let fits : at + length put.bytes ≤ size_of b.memory = omega (arith, put.puts.from, put.puts.to) in
    let clear : IsClearOf change (is_touched b event) =
    put-clear put.first put.bytes (is_touched b event) put.puts.from
    (λ address is. free.unread address (stored-at put.puts address is)) in
    let new : with_gone b who b.links gone ≡ with_agent (with_change b change) who gone.context =
    gone-board b who gone change (put.is ∙ with-bytes-is b.memory at put.bytes fits) in
    let done : Happened = happens b event in
    let happened : happens (with_gone b who b.links gone) event ≡ happened_with (happened_changed done change) who gone.context =
    ap (λ (x : BoardState). happens x event) new
    ∙ frame (with_change b change) event who gone.context (apart-changed b event who change clear free.apart)
    ∙ ap (λ (it : Happened). happened_with it who gone.context) (footprint b event change clear) in
    let agree = agree-after b event (touches s b.memory) free.unwritten in
    let room : at + length put.bytes ≤ size_of done.board.memory = omega (arith, fits, agree.size) in
    let again : goes (context_in done.board.kernel who) done.board.memory
    ≡ Some (record gone { memory = with_bytes done.board.memory at put.bytes }) =
    ap (λ c. goes c done.board.memory) (context-kept b event who free.apart) ∙ put.again done.board.memory agree in (
      ap (option_map (with_gone done.board who done.board.links)) again
          ∙ ap Some (gone-board done.board who (record gone { memory = with_bytes done.board.memory at put.bytes }) change
          (with-bytes-is done.board.memory at put.bytes room))
          ∙ sym (ap (λ (it : Happened). Some it.board) happened),
      ap (λ (it : Happened). it.report) happened,
    )

pub independent : (b new : BoardState) (event : Event) (who : Agent) → IsIndependent b event who → agent_goes b who ≡ Some new →
    (agent_goes (happens b event).board who ≡ Some (happens new event).board) × ((happens new event).report ≡ (happens b event).report)
independent b new event who free is =
    let it = some-gone b new who (goes (context_in b.kernel who) b.memory) is in
    subst (λ x. Both b x event who) (sym it.2) (gone-swaps b event who it.0 free it.1)

pub independents : (b new : BoardState) (events : List Event) (who : Agent) → AreIndependent b events who → agent_goes b who ≡ Some new →
    agent_goes (after b events) who ≡ Some (after new events)
independents b new [] who free is = is
independents b new (event ∷ events) who free is =
    independents (happens b event).board (happens new event).board events who free.1 (independent b new event who free.0 is).0

-- Links that a store leaves.

kept-by : (own same : Bool) → (own ≡ false → same ≡ true → ⊥) → (own || not same) ≡ true
kept-by true same none = refl
kept-by false true none = absurd (none refl refl)
kept-by false false none = refl

kept-one : (processor word cpu address : ℕ) → ((processor ≡ cpu → ⊥) → is_same_block word address ≡ true → ⊥) →
    (processor == cpu || not (is_same_block word address)) ≡ true
kept-one processor word cpu address none =
    kept-by (processor == cpu) (is_same_block word address) (λ other same. none (eqb-false processor cpu other) same)

same-link : (processor address : ℕ) → (processor == processor && address == address) ≡ true
same-link processor address = and_from (processor == processor) (address == address) (eq-eqb processor processor refl) (eq-eqb address address refl)

first-none : (here there : Bool) → here ≡ true → (here || there) ≡ false → ⊥
first-none true there is none = false≢true (sym none)
first-none false there is none = false≢true is

rest-none : (here there : Bool) → (here || there) ≡ false → there ≡ false
rest-none true there none = absurd (false≢true (sym none))
rest-none false there none = none

kept-all : (links : List Link) (cpu address : ℕ) → IsUnlinked links cpu address → after_store links cpu address ≡ links
kept-all [] cpu address none = refl
kept-all (link ∷ links) cpu address none =
    ap (λ test. if test then link ∷ after_store links cpu address else after_store links cpu address)
    (kept-one link.processor link.address cpu address
    (λ other same. first-none (link.processor == link.processor && link.address == link.address)
    (list_any (λ it. it.processor == link.processor && it.address == link.address) links)
    (same-link link.processor link.address) (none link.processor link.address other same)))
    ∙ ap (λ rest. link ∷ rest)
    (kept-all links cpu address (λ other word apart same.
    rest-none (link.processor == other && link.address == word) (is_linked links other word) (none other word apart same)))

pub leaves-links : (b : BoardState) (cpu : ℕ) (stored : Option ℕ) → ((address : ℕ) → stored ≡ Some address → IsUnlinked b.links cpu address) →
    links_after cpu b.links stored ≡ b.links
leaves-links b cpu None none = refl
leaves-links b cpu (Some address) none = kept-all b.links cpu address (none address refl)

pub agent-steps : (b new : BoardState) (cpu : ℕ) (who : Agent) → IsNext b cpu who → agent_goes b who ≡ Some new → EndsNoLink b cpu who →
    happens b (Step cpu) ≡ reported new (report.Ran (context_in b.kernel who).pc)
agent-steps b new cpu who next is ends =
    let it = some-gone b new who (goes (context_in b.kernel who) b.memory) is in
    processor b cpu who it.0 next it.1
    ∙ ap (λ links. reported (with_gone b who links it.0) (report.Ran (context_in b.kernel who).pc))
    (leaves-links b cpu it.0.stored (λ address. ends it.0 address it.1))
    ∙ ap (λ x. reported x (report.Ran (context_in b.kernel who).pc)) (sym it.2)

pub swaps : (b new : BoardState) (events : List Event) (who : Agent) (cpu there : ℕ) → IsNext b cpu who → agent_goes b who ≡ Some new →
    EndsNoLink b cpu who → AreIndependent b events who → IsNext (after b events) there who → EndsNoLink (after b events) there who →
    after b (Step cpu ∷ events) ≡ after b (events ++ Step there ∷ [])
swaps b new events who cpu there next is ends free again last =
    ap (λ (done : Happened). after done.board events) (agent-steps b new cpu who next is ends)
    ∙ sym (ap (λ (done : Happened). done.board)
    (agent-steps (after b events) (after new events) there who again (independents b new events who free is) last))
    ∙ sym (after-join b events (Step there ∷ []))

-- Local instructions.

locals-go : (b : BoardState) (cpu count address : ℕ) (who : Agent) (s : State) (window : List ℕ) → IsNext b cpu who →
    window_at b.memory address ≡ Some window → lent count (context_in b.kernel who) window (window_start address) ≡ Some s →
    after b (replicate count (Step cpu)) ≡ with_agent b who s
locals-go b cpu count address who s window next whole is =
    let here : lent count (context_in b.kernel (agent_by cpu next.executor)) window (window_start address) ≡ Some s =
    ap (λ (x : Agent). lent count (context_in b.kernel x) window (window_start address)) next.is ∙ is in
    local-steps-go b cpu count address next.executor s window next.goes_on whole
    (ap (λ c. lent count c window (window_start address)) (sym (context-by b.kernel cpu next.executor)) ∙ here)
    ∙ ap (λ k. record b { kernel = k }) (sym (put-by b.kernel cpu next.executor s))
    ∙ ap (λ (x : Agent). with_agent b x s) next.is

pub contexts-kept : (b : BoardState) (events : List Event) (who : Agent) → AreApart b events who →
    context_in (after b events).kernel who ≡ context_in b.kernel who
contexts-kept b [] who apart = refl
contexts-kept b (event ∷ events) who apart =
    contexts-kept (happens b event).board events who apart.1 ∙ context-kept b event who apart.0

pub locals : (b : BoardState) (events : List Event) (who : Agent) (cpu there count address : ℕ) (s : State) (window : List ℕ) →
    IsNext b cpu who → window_at b.memory address ≡ Some window → lent count (context_in b.kernel who) window (window_start address) ≡ Some s →
    AreApart b events who → IsNext (after b events) there who → window_at (after b events).memory address ≡ Some window →
    after b (replicate count (Step cpu) ++ events) ≡ after b (events ++ replicate count (Step there))
locals b events who cpu there count address s window next whole is apart again still =
    after-join b (replicate count (Step cpu)) events
    ∙ ap (λ (x : BoardState). after x events) (locals-go b cpu count address who s window next whole is)
    ∙ frames b events who s apart
    ∙ sym (locals-go (after b events) there count address who s window again still
    (ap (λ c. lent count c window (window_start address)) (contexts-kept b events who apart) ∙ is))
    ∙ sym (after-join b events (replicate count (Step there)))

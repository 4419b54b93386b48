-- Boards that lag behind others, and what events do to both.
use Rattle.std.proofs.Common.{◌≡◌, ℕ, zero, suc, ◌+◌, ◌-◌, ◌<◌, ◌≤◌, Bool, true, false, List, [], ◌∷◌, length, refl, sym, ap, subst, ◌∙◌, arith}
use Rattle.std.specs.Prelude.{◌||◌, if◌then◌else◌, slice_set, Option, None, Some, IfSome, is_some, is_ok}
use Rattle.std.specs.Option.{option_map}
use Rattle.std.proofs.lemmas.Bool.{false≢true, true≢false, eqb-true, eq-eqb}
use Rattle.std.proofs.lemmas.List.{get_or-set_other, set_comm}
use Rattle.brd_base.specs.Space.{base}
use Rattle.brd_mem.specs.Memory.{Memory, size_of, with_bytes}
use Rattle.brd_exec.specs.State.{State}
use Rattle.brd_tasks.specs.declared.task.Task.{Task}
use Rattle.brd_tasks.specs.Tasks.{no_context, task_at}
use Rattle.brd_kernel.specs.declared.processor.Executor.{Executor}
use Rattle.brd_kernel.specs.Kernel.{KernelState, deliverable, executor_on, context_of, context_on}
use Rattle.brd_kernel.specs.declared.call.Call.{Call}
use Rattle.brd_kernel.specs.Services.{caller_on, serve_by}
use Rattle.brd_sysgate.specs.Gate.{caller_of, read_of}
use Rattle.brd_board.specs.declared.event.Event.{Event}
use Rattle.brd_board.specs.declared.event.Event.TheVariants.{Step, Tick, Raise}
use Rattle.brd_board.specs.Board.{BoardState, Happened, happens}
use Rattle.brd_frames.specs.Agents as agents
use Rattle.brd_frames.specs.Agents.{Agent, agent_by, context_in, with_context_in, with_agent}
use Rattle.brd_frames.specs.Apart.{is_steady, starts, Starts, Executes, IsApart}
use Rattle.brd_frames.specs.Touching.{is_among, accesses_next, touches, stores, stores_next, Agree, executing, touched_in, stored_in, is_touched, Change, changed, with_change, LeavesAlone, IsClearOf, put_at}
use Rattle.brd_frames.specs.Going.{Gone, goes, with_gone}
use Rattle.brd_frames.specs.Commuting.{agent_goes, IsIndependent}
use Rattle.brd_frames.specs.Lagging.{Sharing, Keeps, StaysUnseen, IsInvisible, Lags, Path, is_same_agent, without}
use Rattle.brd_frames.proofs.DeedLemmas.{next-same}
use Rattle.brd_frames.proofs.FootprintLemmas.{PutsAt, with-bytes-is, put-change, put-clear, put-keeps, put-length, stores-touches}
use Rattle.brd_frames.proofs.CallLemmas.{starts-with}
use Rattle.brd_frames.proofs.FrameLemmas.{frame}
use Rattle.brd_frames.proofs.GoingLemmas.{Puts, goes-puts, context-by}
use Rattle.brd_frames.proofs.StartLemmas.{calls-so}
use Rattle.brd_frames.proofs.SteadyLemmas.{steady-on}
use Rattle.brd_frames.proofs.CommuteLemmas.{some-gone, gone-board, stored-at, context-kept, agree-after, apart-changed, independent}

false-by : (x : Bool) → (x ≡ true → ⊥) → x ≡ false
false-by true never = absurd (never refl)
false-by false never = refl

-- What an instruction of an agent leads to.

abbrev pub PutsOf : BoardState → Agent → Gone → Type 0
PutsOf b who gone =
    Puts (touches (context_in b.kernel who) b.memory) (stores (context_in b.kernel who) b.memory) b.memory gone (goes (context_in b.kernel who))

pub record Leads (b : BoardState) (who : Agent) (new : BoardState) : Type 0 where
  pub gone : Gone
  pub means : goes (context_in b.kernel who) b.memory ≡ Some gone
  pub put : PutsOf b who gone
  pub is : new ≡ with_agent (with_change b (put_at (put.first - base) put.bytes)) who gone.context

pub leads : (b : BoardState) (who : Agent) (new : BoardState) → agent_goes b who ≡ Some new → Leads b who new
leads b who new is =
    let it = some-gone b new who (goes (context_in b.kernel who) b.memory) is in
    let put : PutsOf b who it.0 = goes-puts (context_in b.kernel who) b.memory it.0 it.1 in
    let fits : put.first - base + length put.bytes ≤ size_of b.memory = omega (arith, put.puts.from, put.puts.to) in
    record {
      gone = it.0;
      means = it.1;
      put = put;
      is = it.2 ∙ gone-board b who it.0 (put_at (put.first - base) put.bytes)
          (put.is ∙ with-bytes-is b.memory (put.first - base) put.bytes fits);
    }

-- the kernel is another one in the agent's context alone
pub leads-kernel : (b : BoardState) (who : Agent) (new : BoardState) (it : Leads b who new) → new.kernel ≡ with_context_in b.kernel who it.gone.context
leads-kernel b who new it = ap (λ (x : BoardState). x.kernel) it.is

other-context : (k : KernelState) (who x : Agent) (s : State) → (x ≡ who → ⊥) → context_in (with_context_in k who s) x ≡ context_in k x
other-context k (agents.Task id) (agents.Task at) s apart =
    get_or-set_other k.tasks.contexts id at s no_context (λ same. apart (ap agents.Task same))
other-context k (agents.Task id) (agents.Handler at) s apart = refl
other-context k (agents.Handler cpu) (agents.Task at) s apart = refl
other-context k (agents.Handler cpu) (agents.Handler at) s apart =
    get_or-set_other k.handler_contexts cpu at s no_context (λ same. apart (ap agents.Handler same))

leads-other : (b : BoardState) (who : Agent) (new : BoardState) (x : Agent) → Leads b who new → (x ≡ who → ⊥) →
    context_in new.kernel x ≡ context_in b.kernel x
leads-other b who new x it apart =
    ap (λ k. context_in k x) (leads-kernel b who new it) ∙ other-context b.kernel who x it.gone.context apart

-- memory is so where the instruction doesn't store

outside-of : (first count address i : ℕ) → base ≤ first → base ≤ address → address - base ≡ first - base + i → i < count →
    (first ≤ address) × (address < first + count)
outside-of first count address i from above is below = (omega (arith, from, above, is), omega (arith, from, above, is, below))

change-agree : (memory : Memory) (first : ℕ) (bytes : List ℕ) (stored touched : ℕ → Bool) → PutsAt stored memory first bytes →
    ((address : ℕ) → touched address ≡ true → stored address ≡ false) → Agree touched memory (changed memory (put_at (first - base) bytes))
change-agree memory first bytes stored touched puts apart = record {
  order = refl;
  size = put-length (first - base) bytes memory.bytes;
  bytes = λ address above is. put-keeps (first - base) (address - base) bytes memory.bytes (λ i below same.
      let there = outside-of first (length bytes) address i puts.from above same below in
      false≢true (sym (apart address is) ∙ puts.at address there.0 there.1));
}

leads-agree : (b : BoardState) (who : Agent) (new : BoardState) (touched : ℕ → Bool) → Leads b who new →
    ((address : ℕ) → touched address ≡ true → stores (context_in b.kernel who) b.memory address ≡ false) → Agree touched b.memory new.memory
leads-agree b who new touched it apart =
    subst (λ (x : BoardState). Agree touched b.memory x.memory) (sym it.is)
    (change-agree b.memory it.put.first it.put.bytes (stores (context_in b.kernel who) b.memory) touched it.put.puts apart)

agree-sym : (touched : ℕ → Bool) (one two : Memory) → Agree touched one two → Agree touched two one
agree-sym touched one two agree = record {
  order = sym agree.order;
  size = sym agree.size;
  bytes = λ address above is. sym (agree.bytes address above is);
}

-- Over memories that agree on what an instruction touches it touches and stores the same.

touches-same : (s : State) (one two : Memory) (address : ℕ) → Agree (touches s one) one two → touches s two address ≡ touches s one address
unfolding touches
touches-same s one two address agree =
    ap (λ next. is_among s.pc 4 address || accesses_next s address next) (next-same s one two agree)

stores-same : (s : State) (one two : Memory) (address : ℕ) → Agree (touches s one) one two → stores s two address ≡ stores s one address
unfolding stores
stores-same s one two address agree = ap (λ next. stores_next s address next) (next-same s one two agree)

-- An agent sees the same on two boards: its context is the same, and they agree on what its next instruction touches.
pub record Sees (one two : BoardState) (who : Agent) : Type 0 where
  pub context : context_in two.kernel who ≡ context_in one.kernel who
  pub agree : Agree (touches (context_in one.kernel who) one.memory) one.memory two.memory

pub sees-touches : (one two : BoardState) (who : Agent) (address : ℕ) → Sees one two who →
    touches (context_in two.kernel who) two.memory address ≡ touches (context_in one.kernel who) one.memory address
sees-touches one two who address sees =
    ap (λ s. touches s two.memory address) sees.context ∙ touches-same (context_in one.kernel who) one.memory two.memory address sees.agree

sees-stores : (one two : BoardState) (who : Agent) (address : ℕ) → Sees one two who →
    stores (context_in two.kernel who) two.memory address ≡ stores (context_in one.kernel who) one.memory address
sees-stores one two who address sees =
    ap (λ s. stores s two.memory address) sees.context ∙ stores-same (context_in one.kernel who) one.memory two.memory address sees.agree

pub sees-keeps : (by : Sharing) (one two : BoardState) (who : Agent) → Sees one two who → Keeps by one who → Keeps by two who
sees-keeps by one two who sees keeps = record {
  owns = λ address is own. keeps.owns address (sym (sees-stores one two who address sees) ∙ is) own;
  alone = λ address is own. keeps.alone address (sym (sees-touches one two who address sees) ∙ is) own;
}

same-pc : (gone other : Gone) → Some gone ≡ Some other → gone.context.pc ≡ other.context.pc
same-pc gone other is = let same : gone ≡ other = cc in ap (λ (x : Gone). x.context.pc) same

unseen-there : (by : Sharing) (one two : BoardState) (who : Agent) (new : BoardState) → Sees one two who → IsInvisible by one who new →
    StaysUnseen by two who
unseen-there by one two who new sees it gone is =
    let led = leads one who new it.goes in
    let there : Gone = record led.gone { memory = with_bytes two.memory (led.put.first - base) led.put.bytes } in
    let same : goes (context_in two.kernel who) two.memory ≡ Some there =
    ap (λ s. goes s two.memory) sees.context ∙ led.put.again two.memory sees.agree in
    subst (λ pc. by.seen pc ≡ false) (same-pc there gone (sym same ∙ is)) (it.unseen led.gone led.means)

-- an invisible instruction is so where it sees the same, and leads to this board
pub sees-invisible : (by : Sharing) (one two : BoardState) (who : Agent) (new other : BoardState) → Sees one two who → IsInvisible by one who new →
    agent_goes two who ≡ Some other → IsInvisible by two who other
sees-invisible by one two who new other sees it goes = record {
  goes = goes;
  apart = λ address is. it.apart address (sym (sees-touches one two who address sees) ∙ is);
  keeps = sees-keeps by one two who sees it.keeps;
  lasting = it.lasting;
  unseen = unseen-there by one two who new sees it;
}

pub sees-goes : (one two : BoardState) (who : Agent) (new : BoardState) (it : Leads one who new) → Sees one two who →
    agent_goes two who ≡ Some (with_agent (with_change two (put_at (it.put.first - base) it.put.bytes)) who it.gone.context)
sees-goes one two who new it sees =
    let at : ℕ = it.put.first - base in
    let fits : at + length it.put.bytes ≤ size_of two.memory = omega (arith, it.put.puts.from, it.put.puts.to, sees.agree.size) in
    ap (option_map (with_gone two who two.links))
    (ap (λ s. goes s two.memory) sees.context ∙ it.put.again two.memory sees.agree)
    ∙ ap Some (gone-board two who (record it.gone { memory = with_bytes two.memory at it.put.bytes }) (put_at at it.put.bytes)
    (with-bytes-is two.memory at it.put.bytes fits))

-- Bytes that one agent stores to, and that are not shared, no other one touches.

owned : (owner : Option Agent) (x y : Agent) → owner ≡ Some x → IfSome owner (λ other. other ≡ y) → x ≡ y
owned None x y is alone = let wrong : ⊥ = cc in absurd wrong
owned (Some other) x y is alone = let same : other ≡ x = cc in sym same ∙ alone

-- x's instruction, which is invisible, doesn't store to what y's touches
stores-apart : (by : Sharing) (b c : BoardState) (x y : Agent) (new : BoardState) → IsInvisible by b x new → Keeps by c y → (y ≡ x → ⊥) →
    (address : ℕ) → touches (context_in c.kernel y) c.memory address ≡ true → stores (context_in b.kernel x) b.memory address ≡ false
stores-apart by b c x y new it keeps apart address touched = false-by _ (λ stored.
    let unshared : by.shared address ≡ false = it.apart address (stores-touches (context_in b.kernel x) b.memory address stored) in
    apart (sym (owned (by.owner address) x y (it.keeps.owns address stored unshared) (keeps.alone address touched unshared))))

-- nor does y's to what x's touches
touches-apart : (by : Sharing) (b c : BoardState) (x y : Agent) (new : BoardState) → IsInvisible by b x new → Keeps by c y → (y ≡ x → ⊥) →
    (address : ℕ) → touches (context_in b.kernel x) b.memory address ≡ true → stores (context_in c.kernel y) c.memory address ≡ false
touches-apart by b c x y new it keeps apart address touched = false-by _ (λ stored.
    let unshared : by.shared address ≡ false = it.apart address touched in
    apart (owned (by.owner address) y x (keeps.owns address stored unshared) (it.keeps.alone address touched unshared)))

-- so an agent sees the same before and after another's invisible instruction

sees-before : (by : Sharing) (b : BoardState) (x y : Agent) (next : BoardState) → IsInvisible by b x next → Keeps by next y → (y ≡ x → ⊥) →
    Sees next b y
sees-before by b x y next it keeps apart =
    let led = leads b x next it.goes in
    record {
      context = sym (leads-other b x next y led apart);
      agree = agree-sym _ b.memory next.memory
          (leads-agree b x next (touches (context_in next.kernel y) next.memory) led (stores-apart by b next x y next it keeps apart));
    }

pub sees-later : (by : Sharing) (b : BoardState) (x y : Agent) (next : BoardState) → IsInvisible by b x next → Keeps by b y → (y ≡ x → ⊥) →
    Sees b next y
sees-later by b x y next it keeps apart =
    let led = leads b x next it.goes in
    record {
      context = leads-other b x next y led apart;
      agree = leads-agree b x next (touches (context_in b.kernel y) b.memory) led (stores-apart by b b x y next it keeps apart);
    }

-- Invisible instructions of two agents change places.

contexts-swap : (k : KernelState) (x y : Agent) (s t : State) → (y ≡ x → ⊥) →
    with_context_in (with_context_in k x s) y t ≡ with_context_in (with_context_in k y t) x s
contexts-swap k (agents.Task id) (agents.Task at) s t apart =
    ap (λ contexts. record k { tasks = record k.tasks { contexts = contexts } })
    (set_comm k.tasks.contexts id at s t (λ same. apart (ap agents.Task (sym same))))
contexts-swap k (agents.Task id) (agents.Handler at) s t apart = refl
contexts-swap k (agents.Handler cpu) (agents.Task at) s t apart = refl
contexts-swap k (agents.Handler cpu) (agents.Handler at) s t apart =
    ap (λ contexts. record k { handler_contexts = contexts })
    (set_comm k.handler_contexts cpu at s t (λ same. apart (ap agents.Handler (sym same))))

changes-swap : (first second : ℕ) (bytes more xs : List ℕ) (stored : ℕ → Bool) (memory : Memory) → base ≤ first →
    PutsAt stored memory second more → ((address : ℕ) → is_among first (length bytes) address ≡ true → stored address ≡ false) →
    put_at (second - base) more (put_at (first - base) bytes xs) ≡ put_at (first - base) bytes (put_at (second - base) more xs)
changes-swap first second bytes more xs stored memory from puts apart =
    let clear : IsClearOf (put_at (first - base) bytes) stored = put-clear first bytes stored from apart in
    sym (put-change (put_at (first - base) bytes) (second - base) more xs (λ i below.
    let place : second + i - base ≡ second - base + i = omega (arith, puts.from) in
    subst (λ n. LeavesAlone (put_at (first - base) bytes) n) place
    (clear.alone (second + i) (omega (arith, puts.from)) (puts.at (second + i) (omega arith) (omega (arith, below))))))

touches-of : (by : Sharing) (b next : BoardState) (x y : Agent) (first new : BoardState) → IsInvisible by b x first → IsInvisible by next y new →
    (y ≡ x → ⊥) → (address : ℕ) → stores (context_in b.kernel x) b.memory address ≡ true →
    stores (context_in next.kernel y) next.memory address ≡ false
touches-of by b next x y first new one two apart address is = false-by _ (λ stored.
    false≢true
    (sym (stores-apart by b next x y first one two.keeps apart address (stores-touches (context_in next.kernel y) next.memory address stored)) ∙ is))

record Swapped (by : Sharing) (b : BoardState) (x y : Agent) (new : BoardState) : Type 0 where
  middle : BoardState
  first : IsInvisible by b y middle
  second : IsInvisible by middle x new

swap : (by : Sharing) (b next new : BoardState) (x y : Agent) → IsInvisible by b x next → IsInvisible by next y new → (y ≡ x → ⊥) →
    Swapped by b x y new
swap by b next new x y one two apart =
    let led = leads b x next one.goes in
    let last = leads next y new two.goes in
    let before : Sees next b y = sees-before by b x y next one two.keeps apart in
    let middle : BoardState = with_agent (with_change b (put_at (last.put.first - base) last.put.bytes)) y last.gone.context in
    let first : IsInvisible by b y middle = sees-invisible by next b y new middle before two (sees-goes next b y new last before) in
    let later : Sees b middle x = sees-later by b y x middle first one.keeps (λ same. apart (sym same)) in
    let end : BoardState = with_agent (with_change middle (put_at (led.put.first - base) led.put.bytes)) x led.gone.context in
    let second : IsInvisible by middle x end = sees-invisible by b middle x next end later one (sees-goes b middle x next led later) in
    let bytes : put_at (last.put.first - base) last.put.bytes (put_at (led.put.first - base) led.put.bytes b.memory.bytes)
    ≡ put_at (led.put.first - base) led.put.bytes (put_at (last.put.first - base) last.put.bytes b.memory.bytes) =
    changes-swap led.put.first last.put.first led.put.bytes last.put.bytes b.memory.bytes (stores (context_in next.kernel y) next.memory) next.memory
    led.put.puts.from last.put.puts
    (λ address is. touches-of by b next x y next new one two apart address (stored-at led.put.puts address is)) in
    let same : new ≡ end =
    last.is
    ∙ ap (λ (it : BoardState). with_agent (with_change it (put_at (last.put.first - base) last.put.bytes)) y last.gone.context) led.is
    ∙ (λ i. record b {
      kernel = contexts-swap b.kernel x y led.gone.context last.gone.context apart i;
      memory = record b.memory { bytes = bytes i };
    }) in
    record { middle = middle; first = first; second = subst (IsInvisible by middle x) (sym same) second }

-- Who is steady, and who executes where, doesn't depend on contexts.

steady-put : (k : KernelState) (who z : Agent) (s : State) → is_steady (with_context_in k who s) z ≡ is_steady k z
steady-put k (agents.Task id) (agents.Task at) s = refl
steady-put k (agents.Task id) (agents.Handler at) s = refl
steady-put k (agents.Handler cpu) (agents.Task at) s = refl
steady-put k (agents.Handler cpu) (agents.Handler at) s = refl

pub leads-steady : (b : BoardState) (who : Agent) (new : BoardState) (z : Agent) → Leads b who new → is_steady new.kernel z ≡ is_steady b.kernel z
leads-steady b who new z it = ap (λ k. is_steady k z) (leads-kernel b who new it) ∙ steady-put b.kernel who z it.gone.context

-- Instructions of one agent come first.

record Pushed (by : Sharing) (b : BoardState) (x y : Agent) (count : ℕ) (new : BoardState) : Type 0 where
  middle : BoardState
  path : Path by b y count middle
  last : IsInvisible by middle x new
  steady : is_steady middle.kernel x ≡ is_steady b.kernel x

push : (by : Sharing) (b next new : BoardState) (x y : Agent) (count : ℕ) → IsInvisible by b x next → Path by next y count new →
    (y ≡ x → ⊥) → Pushed by b x y count new
push by b next new x y zero one path apart =
    record { middle = b; path = refl; last = subst (IsInvisible by b x) (sym path) one; steady = refl }
push by b next new x y (suc count) one path apart =
    let turned = swap by b next path.0 x y one path.1 apart in
    let rest = push by turned.middle path.0 new x y count turned.second path.2 apart in
    record {
      middle = rest.middle;
      path = (turned.middle, turned.first, rest.path);
      last = rest.last;
      steady = rest.steady ∙ leads-steady b y turned.middle x (leads b y turned.middle turned.first.goes);
    }

same-so : (x y : Agent) → is_same_agent x y ≡ true → x ≡ y
same-so (agents.Task id) (agents.Task at) is = ap agents.Task (eqb-true id at is)
same-so (agents.Task id) (agents.Handler at) is = absurd (false≢true is)
same-so (agents.Handler cpu) (agents.Task at) is = absurd (false≢true is)
same-so (agents.Handler cpu) (agents.Handler at) is = ap agents.Handler (eqb-true cpu at is)

pub same-own : (x : Agent) → is_same_agent x x ≡ true
same-own (agents.Task id) = eq-eqb id id refl
same-own (agents.Handler cpu) = eq-eqb cpu cpu refl

pub record Pulled (by : Sharing) (b : BoardState) (y : Agent) (steps : List Agent) (new : BoardState) : Type 0 where
  pub count : ℕ
  pub middle : BoardState
  pub path : Path by b y count middle
  pub lags : Lags by middle (without y steps) new
  pub few : count + length (without y steps) ≡ length steps

pull-if : (by : Sharing) (b next new : BoardState) (who y : Agent) (more : List Agent) (same : Bool) → is_same_agent who y ≡ same →
    IsInvisible by b who next → is_steady b.kernel who ≡ true → Pulled by next y more new →
    (count : ℕ) × (middle : BoardState) × Path by b y count middle
    × Lags by middle (if same then without y more else who ∷ without y more) new
    × (count + length (if same then without y more else who ∷ without y more) ≡ suc (length more))
pull-if by b next new who y more true is one steady rest = (
  suc rest.count,
  rest.middle,
  (next, subst (λ x. IsInvisible by b x next) (same-so who y is) one, rest.path),
  rest.lags,
  omega (arith, rest.few),
)
pull-if by b next new who y more false is one steady rest =
    let pushed = push by b next rest.middle who y rest.count one rest.path
    (λ same. true≢false (sym (ap (is_same_agent who) same ∙ same-own who) ∙ is)) in
    (rest.count, pushed.middle, pushed.path, (rest.middle, pushed.last, pushed.steady ∙ steady, rest.lags), omega (arith, rest.few))

pub pull : (by : Sharing) (b new : BoardState) (y : Agent) (steps : List Agent) → Lags by b steps new → Pulled by b y steps new
pull by b new y [] lags = record { count = 0; middle = b; path = refl; lags = lags; few = refl }
pull by b new y (who ∷ more) lags =
    let it = pull-if by b lags.0 new who y more (is_same_agent who y) refl lags.1 lags.2 (pull by lags.0 new y more lags.3) in
    record { count = it.0; middle = it.1; path = it.2; lags = it.3; few = it.4 }

-- Events.

-- who executes an instruction in an event, and what it touches

record Toucher (b : BoardState) (event : Event) : Type 0 where
  who : Agent
  acts : Executes b event who
  sees : executing b event ≡ Some (context_in b.kernel who)

toucher-in : (b : BoardState) (cpu : ℕ) (by : Option Executor) (found : Option ℕ) (off : Bool) (s : State) → executor_on b.kernel cpu ≡ by →
    deliverable b.kernel cpu ≡ found → b.kernel.off ≡ off →
    (if off || is_some found then None else option_map (context_of b.kernel cpu) by) ≡ Some s → Toucher b (Step cpu)
unfolding executing
toucher-in b cpu by found true s on free is there = let wrong : ⊥ = cc in absurd wrong
toucher-in b cpu by (Some line) false s on free is there = let wrong : ⊥ = cc in absurd wrong
toucher-in b cpu None None false s on free is there = let wrong : ⊥ = cc in absurd wrong
toucher-in b cpu (Some who) None false s on free is there = record {
  who = agent_by cpu who;
  acts = record { cpu = cpu; steps = refl; executes = ap (option_map (agent_by cpu)) on; uninterrupted = free };
  sees = ap (λ test. if test || is_some (deliverable b.kernel cpu) then None else context_on b.kernel cpu) is
      ∙ ap (λ line. if is_some line then None else context_on b.kernel cpu) free
      ∙ ap (option_map (context_of b.kernel cpu)) on
      ∙ ap Some (sym (context-by b.kernel cpu who));
}

toucher : (b : BoardState) (event : Event) (s : State) → executing b event ≡ Some s → Toucher b event
unfolding executing
toucher b (Step cpu) s is = toucher-in b cpu (executor_on b.kernel cpu) (deliverable b.kernel cpu) b.kernel.off s refl refl refl is
toucher b Tick s is = let wrong : ⊥ = cc in absurd wrong
toucher b (Raise line) s is = let wrong : ⊥ = cc in absurd wrong

some-or : (b : BoardState) (event : Event) (touched : Option State → ℕ → Bool) (address : ℕ) (found : Option State) → executing b event ≡ found →
    (touched None address ≡ true → ⊥) → touched found address ≡ true → (s : State) × (executing b event ≡ Some s)
some-or b event touched address None is never there = absurd (never there)
some-or b event touched address (Some s) is never there = (s, is)

-- whoever executes keeps to the sharing
abbrev pub EventKeeps : Sharing → BoardState → Event → Type 0
EventKeeps by b event = (y : Agent) → Executes b event y → Keeps by b y

independent-so : (by : Sharing) (b : BoardState) (event : Event) (x : Agent) (new : BoardState) → IsInvisible by b x new → IsApart b event x →
    EventKeeps by b event → IsIndependent b event x
independent-so by b event x new it apart keeps = record {
  apart = apart;
  unread = λ address stored. false-by _ (λ touched.
      let s = some-or b event (λ found a. touched_in found b.memory a) address (executing b event) refl false≢true touched in
      let who = toucher b event s.0 s.1 in
      let seen : touches (context_in b.kernel who.who) b.memory address ≡ true =
      sym (ap (λ found. touched_in found b.memory address) who.sees) ∙ touched in
      false≢true
      (sym (stores-apart by b b x who.who new it (keeps who.who who.acts) (λ same. apart.elsewhere (subst (Executes b event) same who.acts))
      address seen) ∙ stored));
  unwritten = λ address touched. false-by _ (λ stored.
      let s = some-or b event (λ found a. stored_in found b.memory a) address (executing b event) refl false≢true stored in
      let who = toucher b event s.0 s.1 in
      let seen : stores (context_in b.kernel who.who) b.memory address ≡ true =
      sym (ap (λ found. stored_in found b.memory address) who.sees) ∙ stored in
      false≢true
      (sym (touches-apart by b b x who.who new it (keeps who.who who.acts) (λ same. apart.elsewhere (subst (Executes b event) same who.acts))
      address touched) ∙ seen));
}

-- an invisible instruction of an agent that an event is apart from is so after the event, and leads to what the event
-- makes of where it led
over : (by : Sharing) (b : BoardState) (event : Event) (x : Agent) (next : BoardState) → IsInvisible by b x next → IsIndependent b event x →
    IsInvisible by (happens b event).board x (happens next event).board
over by b event x next it free =
    let sees : Sees b (happens b event).board x = record {
      context = context-kept b event x free.apart;
      agree = agree-after b event (touches (context_in b.kernel x) b.memory) free.unwritten;
    } in
    sees-invisible by b (happens b event).board x next (happens next event).board sees it (independent b next event x free it.goes).0

-- What an event is apart from, and who executes in it, is so after an invisible instruction of an agent that it is apart
-- from.

pub deliverable-put : (k : KernelState) (who : Agent) (s : State) (cpu : ℕ) → deliverable (with_context_in k who s) cpu ≡ deliverable k cpu
deliverable-put k (agents.Task id) s cpu = refl
deliverable-put k (agents.Handler at) s cpu = refl

pub executor-put : (k : KernelState) (who : Agent) (s : State) (cpu : ℕ) → executor_on (with_context_in k who s) cpu ≡ executor_on k cpu
executor-put k (agents.Task id) s cpu = refl
executor-put k (agents.Handler at) s cpu = refl

executes-back : (b : BoardState) (who : Agent) (s : State) (event : Event) (z : Agent) → Executes (with_agent b who s) event z → Executes b event z
executes-back b who s event z it = record {
  cpu = it.cpu;
  steps = it.steps;
  executes = sym (ap (option_map (agent_by it.cpu)) (executor-put b.kernel who s it.cpu)) ∙ it.executes;
  uninterrupted = sym (deliverable-put b.kernel who s it.cpu) ∙ it.uninterrupted;
}

context-put : (k : KernelState) (who : Agent) (s : State) (cpu : ℕ) (x : Executor) → (agent_by cpu x ≡ who → ⊥) →
    context_of (with_context_in k who s) cpu x ≡ context_of k cpu x
context-put k who s cpu x apart =
    sym (context-by (with_context_in k who s) cpu x) ∙ other-context k who (agent_by cpu x) s apart ∙ context-by k cpu x

registers-put : (k : KernelState) (who : Agent) (s : State) (cpu : ℕ) (x : Executor) → executor_on k cpu ≡ Some x → (agent_by cpu x ≡ who → ⊥) →
    context_on (with_context_in k who s) cpu ≡ context_on k cpu
registers-put k who s cpu x on apart =
    ap (option_map (context_of (with_context_in k who s) cpu)) (executor-put k who s cpu ∙ on)
    ∙ ap Some (context-put k who s cpu x apart)
    ∙ sym (ap (option_map (context_of k cpu)) on)

-- whether a call that starts a task is refused doesn't depend on contexts
serves-put : (k : KernelState) (who : Agent) (s : State) (cpu id : ℕ) (c : Call) (task : Task) → starts c (caller_on k cpu) id task ≡ true →
    is_ok (serve_by k cpu (caller_on k cpu) c)
    ≡ is_ok (serve_by (with_context_in k who s) cpu (caller_on (with_context_in k who s) cpu) c)
serves-put k (agents.Task at) s cpu id c task is = starts-with (λ xs. slice_set xs at s) (λ xs. xs) k cpu (caller_on k cpu) id c task is
serves-put k (agents.Handler at) s cpu id c task is = starts-with (λ xs. xs) (λ xs. slice_set xs at s) k cpu (caller_on k cpu) id c task is

caller-put : (k : KernelState) (who : Agent) (s : State) (cpu : ℕ) → caller_on (with_context_in k who s) cpu ≡ caller_on k cpu
caller-put k (agents.Task id) s cpu = refl
caller-put k (agents.Handler at) s cpu = refl

gate-put : (k : KernelState) (who : Agent) (s : State) (cpu : ℕ) → caller_of (with_context_in k who s) cpu ≡ caller_of k cpu
gate-put k (agents.Task id) s cpu = refl
gate-put k (agents.Handler at) s cpu = refl

task-put : (k : KernelState) (who : Agent) (s : State) (id : ℕ) → task_at (with_context_in k who s).tasks id ≡ task_at k.tasks id
task-put k (agents.Task at) s id = refl
task-put k (agents.Handler at) s id = refl

starts-back : (b : BoardState) (who : Agent) (s : State) (event : Event) (z : Agent) → IsApart b event who → Starts (with_agent b who s) event z →
    Starts b event z
starts-back b who s event z apart it =
    let k : KernelState = b.kernel in
    let so = calls-so (with_agent b who s) it.cpu it.calls.address it.calls.steps in
    let on : executor_on k it.cpu ≡ Some so.who = sym (executor-put k who s it.cpu) ∙ so.executes in
    let other : agent_by it.cpu so.who ≡ who → ⊥ = λ same. apart.elsewhere (record {
      cpu = it.cpu;
      steps = it.steps;
      executes = ap (option_map (agent_by it.cpu)) on ∙ ap Some same;
      uninterrupted = sym (deliverable-put k who s it.cpu) ∙ so.uninterrupted;
    }) in
    let is : starts it.call (caller_on k it.cpu) it.id it.task ≡ true =
    sym (ap (λ n. starts it.call n it.id it.task) (caller-put k who s it.cpu)) ∙ it.starts in
    record {
      id = it.id;
      cpu = it.cpu;
      call = it.call;
      task = it.task;
      is = it.is;
      steps = it.steps;
      calls = record {
        context = it.calls.context;
        address = it.calls.address;
        executes = sym (registers-put k who s it.cpu so.who on other) ∙ it.calls.executes;
        steps = ap (λ (e : Event). (happens b e).report) (sym it.steps)
            ∙ sym (ap (λ (done : Happened). done.report) (frame b event who s apart))
            ∙ ap (λ (e : Event). (happens (with_agent b who s) e).report) it.steps
            ∙ it.calls.steps;
        asks = sym (ap (read_of it.calls.context) (gate-put k who s it.cpu)) ∙ it.calls.asks;
      };
      there = sym (task-put k who s it.id) ∙ it.there;
      starts = is;
      serves = serves-put k who s it.cpu it.id it.call it.task is ∙ it.serves;
    }

apart-put : (b : BoardState) (who : Agent) (s : State) (event : Event) (z : Agent) → IsApart b event who → IsApart b event z →
    IsApart (with_agent b who s) event z
apart-put b who s event z own apart = record {
  steady = steady-put b.kernel who z s ∙ apart.steady;
  elsewhere = λ it. apart.elsewhere (executes-back b who s event z it);
  lasting = λ it. apart.lasting (starts-back b who s event z own it);
}

apart-next : (by : Sharing) (b : BoardState) (event : Event) (x z : Agent) (next : BoardState) → IsInvisible by b x next → IsIndependent b event x →
    IsApart b event z → IsApart next event z
apart-next by b event x z next it free apart =
    let led = leads b x next it.goes in
    let change : Change = put_at (led.put.first - base) led.put.bytes in
    let clear : IsClearOf change (is_touched b event) =
    put-clear led.put.first led.put.bytes (is_touched b event) led.put.puts.from
    (λ address is. free.unread address (stored-at led.put.puts address is)) in
    subst (λ (c : BoardState). IsApart c event z) (sym led.is)
    (apart-put (with_change b change) x led.gone.context event z (apart-changed b event x change clear free.apart)
    (apart-changed b event z change clear apart))

executes-next : (b : BoardState) (event : Event) (x z : Agent) (next : BoardState) → Leads b x next → Executes next event z → Executes b event z
executes-next b event x z next led it =
    let change : Change = put_at (led.put.first - base) led.put.bytes in
    let back = executes-back (with_change b change) x led.gone.context event z
    (subst (λ (c : BoardState). Executes c event z) led.is it) in
    record { cpu = back.cpu; steps = back.steps; executes = back.executes; uninterrupted = back.uninterrupted }

keeps-next : (by : Sharing) (b : BoardState) (event : Event) (x : Agent) (next : BoardState) → IsInvisible by b x next → IsApart b event x →
    EventKeeps by b event → EventKeeps by next event
keeps-next by b event x next it apart keeps y acts =
    let back = executes-next b event x y next (leads b x next it.goes) acts in
    let own : Keeps by b y = keeps y back in
    sees-keeps by b next y (sees-later by b x y next it own (λ same. apart.elsewhere (subst (Executes b event) same back))) own

-- each of these agents is apart from an event
abbrev pub AllApart : BoardState → Event → List Agent → Type 0
AllApart b event [] = Unit {0}
AllApart b event (who ∷ more) = IsApart b event who × AllApart b event more

all-next : (by : Sharing) (b : BoardState) (event : Event) (x : Agent) (next : BoardState) (more : List Agent) → IsInvisible by b x next →
    IsIndependent b event x → AllApart b event more → AllApart next event more
all-next by b event x next [] it free apart = tt
all-next by b event x next (who ∷ more) it free apart =
    (apart-next by b event x who next it free apart.0, all-next by b event x next more it free apart.1)

-- An event that is apart from all that lag, and of somebody who keeps to the sharing, leaves one board behind the other
-- by the same instructions, and reports the same.
pub lags-over : (by : Sharing) (b new : BoardState) (event : Event) (steps : List Agent) → Lags by b steps new → EventKeeps by b event →
    AllApart b event steps →
    Lags by (happens b event).board steps (happens new event).board × ((happens new event).report ≡ (happens b event).report)
lags-over by b new event [] lags keeps apart =
    (ap (λ (x : BoardState). (happens x event).board) lags, ap (λ (x : BoardState). (happens x event).report) lags)
lags-over by b new event (who ∷ more) lags keeps apart =
    let next : BoardState = lags.0 in
    let free : IsIndependent b event who = independent-so by b event who next lags.1 apart.0 keeps in
    let rest = lags-over by next new event more lags.3 (keeps-next by b event who next lags.1 apart.0 keeps)
    (all-next by b event who next more lags.1 free apart.1) in (
      ((happens next event).board, over by b event who next lags.1 free, steady-on b event who apart.0, rest.0),
      rest.1 ∙ (independent b next event who free lags.1.goes).1,
    )

-- A step that comes to an instruction that failures watch is visible, and others are what they were.
use Rattle.std.proofs.Common.{◌≡◌, ℕ, Bool, true, false, refl, sym, ap, ◌∙◌}
use Rattle.std.specs.Prelude.{Option, None, Some}
use Rattle.std.specs.Option.{option_map}
use Rattle.std.proofs.lemmas.Bool.{false≢true}
use Rattle.std.proofs.lemmas.List.{get_or-set_same}
use Rattle.brd_exec.specs.State.{State}
use Rattle.brd_tasks.specs.Tasks.{no_context}
use Rattle.brd_kernel.specs.declared.processor.Executor.{Executor}
use Rattle.brd_kernel.specs.declared.processor.Executor.TheVariants as executor
use Rattle.brd_kernel.specs.Always.{HasPlace}
use Rattle.brd_kernel.specs.Kernel.{KernelState, context_of}
use Rattle.brd_board.specs.declared.event.Event.TheVariants.{Step}
use Rattle.brd_board.specs.declared.event.Report.TheVariants as report
use Rattle.brd_board.specs.Board.{BoardState, Happened, happens, registers_of}
use Rattle.brd_explore.specs.declared.wanted.Wanted.{Wanted}
use Rattle.brd_frames.specs.Agents.{Agent, agent_by, context_in, with_context_in}
use Rattle.brd_frames.specs.Apart.{Terminates}
use Rattle.brd_frames.specs.Going.{Gone, goes}
use Rattle.brd_frames.specs.Lagging.{Sharing, Keeps, IsInvisible}
use Rattle.brd_frames.proofs.CommuteLemmas.{agent-steps}
use Rattle.brd_frames.proofs.LagLemmas.{Leads, leads, leads-kernel}
use Rattle.brd_frames.proofs.ReduceLemmas.{Like, like-invisible}
use Rattle.brd_blocks.specs.declared.stepped.Stepped.{Stepped}
use Rattle.brd_blocks.specs.declared.stepped.Stepped.TheVariants as stepped
use Rattle.brd_blocks.specs.Owning.{Known, sharing_of}
use Rattle.brd_blocks.specs.Stepping.{IsHidden, IsStepped, IsVisible}
use Rattle.brd_reach.specs.Rounds.{are_watching, sharing_for, shown, some_watch}

-- Where an invisible instruction of a processor comes to.

own-context : (k : KernelState) (cpu : ℕ) (x : Executor) (s : State) → HasPlace k cpu x →
    context_of (with_context_in k (agent_by cpu x) s) cpu x ≡ s
own-context k cpu executor.Handler s place = get_or-set_same k.handler_contexts cpu s no_context place
own-context k cpu (executor.Task id) s place = get_or-set_same k.tasks.contexts id s no_context place

one-gone : (gone other : Gone) → Some gone ≡ Some other → gone.context.pc ≡ other.context.pc
one-gone gone other is = let same : gone ≡ other = cc in ap (λ (x : Gone). x.context.pc) same

comes : (by : Sharing) (b : BoardState) (cpu : ℕ) (it : IsHidden by b cpu) (gone : Gone) →
    goes (context_in b.kernel it.who) b.memory ≡ Some gone →
    option_map (λ (s : State). s.pc) (registers_of (happens b (Step cpu)).board cpu) ≡ Some gone.context.pc
comes by b cpu it gone is =
    let new : BoardState = (happens b (Step cpu)).board in
    let led : Leads b it.who new = leads b it.who new it.invisible.goes in
    let like : Like b new = like-invisible by b it.who new it.invisible in
    let x : Executor = it.next.executor in
    let kernel : new.kernel ≡ with_context_in b.kernel (agent_by cpu x) led.gone.context =
    leads-kernel b it.who new led ∙ ap (λ w. with_context_in b.kernel w led.gone.context) (sym it.next.is) in
    ap (λ found. option_map (λ (s : State). s.pc) (option_map (context_of new.kernel cpu) found)) (like.executors cpu ∙ it.next.goes_on.executes)
    ∙ ap (λ k. Some (context_of k cpu x).pc) kernel
    ∙ ap (λ (s : State). Some s.pc) (own-context b.kernel cpu x led.gone.context it.next.goes_on.place)
    ∙ ap Some (one-gone led.gone gone (sym led.means ∙ is))

watching-by : (wanted : Wanted) (found : Option State) (pc : ℕ) → option_map (λ (s : State). s.pc) found ≡ Some pc →
    are_watching wanted.failures found ≡ some_watch wanted.failures pc
watching-by wanted None pc is = let wrong : ⊥ = cc in absurd wrong
watching-by wanted (Some s) pc is = let same : s.pc ≡ pc = cc in ap (some_watch wanted.failures) same

watching : (by : Sharing) (wanted : Wanted) (b : BoardState) (cpu : ℕ) (it : IsHidden by b cpu) (gone : Gone) →
    goes (context_in b.kernel it.who) b.memory ≡ Some gone →
    are_watching wanted.failures (registers_of (happens b (Step cpu)).board cpu) ≡ some_watch wanted.failures gone.context.pc
watching by wanted b cpu it gone is =
    watching-by wanted (registers_of (happens b (Step cpu)).board cpu) gone.context.pc (comes by b cpu it gone is)

-- What a step is.

keeps-for : (known : Known) (wanted : Wanted) (b : BoardState) (who : Agent) → Keeps (sharing_of known) b who →
    Keeps (sharing_for known wanted) b who
keeps-for known wanted b who it = record { owns = it.owns; alone = it.alone }

keeps-of : (known : Known) (wanted : Wanted) (b : BoardState) (who : Agent) → Keeps (sharing_for known wanted) b who →
    Keeps (sharing_of known) b who
keeps-of known wanted b who it = record { owns = it.owns; alone = it.alone }

hidden-for : (known : Known) (wanted : Wanted) (b : BoardState) (cpu : ℕ) →
    are_watching wanted.failures (registers_of (happens b (Step cpu)).board cpu) ≡ false → IsHidden (sharing_of known) b cpu →
    IsHidden (sharing_for known wanted) b cpu
hidden-for known wanted b cpu none it = record {
  who = it.who;
  next = it.next;
  invisible = record {
    goes = it.invisible.goes;
    apart = it.invisible.apart;
    keeps = keeps-for known wanted b it.who it.invisible.keeps;
    lasting = it.invisible.lasting;
    unseen = λ gone is. sym (watching (sharing_of known) wanted b cpu it gone is) ∙ none;
  };
  apart = it.apart;
}

ran-called : (one two : ℕ) → report.Ran one ≡ report.Called two → ⊥
ran-called one two is = let wrong : ⊥ = cc in wrong

same-cpu : (one two : ℕ) → Step one ≡ Step two → one ≡ two
same-cpu one two is = cc

-- an invisible instruction terminates nobody
pub hidden-lasts : (by : Sharing) (b : BoardState) (cpu : ℕ) → IsHidden by b cpu → (id : ℕ) → Terminates b (Step cpu) id → ⊥
hidden-lasts by b cpu it id ends =
    ran-called (context_in b.kernel it.who).pc ends.calls.address
    (sym (ap (λ (done : Happened). done.report) (agent-steps b (happens b (Step cpu)).board cpu it.who it.next it.invisible.goes it.apart))
    ∙ ap (λ n. (happens b (Step n)).report) (same-cpu cpu ends.cpu ends.steps) ∙ ends.calls.steps)

watched-for : (known : Known) (wanted : Wanted) (b : BoardState) (cpu : ℕ) →
    are_watching wanted.failures (registers_of (happens b (Step cpu)).board cpu) ≡ true → IsHidden (sharing_of known) b cpu →
    IsVisible (sharing_for known wanted) b cpu
watched-for known wanted b cpu some it =
    let led : Leads b it.who (happens b (Step cpu)).board = leads b it.who (happens b (Step cpu)).board it.invisible.goes in
    record {
      who = it.who;
      next = it.next;
      keeps = keeps-for known wanted b it.who it.invisible.keeps;
      visible = λ new inv. false≢true
          (sym (inv.unseen led.gone led.means) ∙ sym (watching (sharing_of known) wanted b cpu it led.gone led.means) ∙ some);
      mortals = λ id ends. absurd (hidden-lasts (sharing_of known) b cpu it id ends);
    }

invisible-of : (known : Known) (wanted : Wanted) (b : BoardState) (who : Agent) (new : BoardState) →
    IsInvisible (sharing_for known wanted) b who new → IsInvisible (sharing_of known) b who new
invisible-of known wanted b who new it = record {
  goes = it.goes;
  apart = it.apart;
  keeps = keeps-of known wanted b who it.keeps;
  lasting = it.lasting;
  unseen = λ gone is. refl;
}

pub shown-so : (known : Known) (wanted : Wanted) (b : BoardState) (cpu : ℕ) (what : Stepped) (watched : Bool) →
    are_watching wanted.failures (registers_of (happens b (Step cpu)).board cpu) ≡ watched → IsStepped (sharing_of known) b cpu what →
    IsStepped (sharing_for known wanted) b cpu (shown what watched)
shown-so known wanted b cpu stepped.Off watched is it = it
shown-so known wanted b cpu stepped.Nothing watched is it = it
shown-so known wanted b cpu stepped.Accepted watched is it = it
shown-so known wanted b cpu stepped.Invisible true is it = watched-for known wanted b cpu is it
shown-so known wanted b cpu stepped.Invisible false is it = hidden-for known wanted b cpu is it
shown-so known wanted b cpu stepped.Visible watched is it = record {
  who = it.who;
  next = it.next;
  keeps = keeps-for known wanted b it.who it.keeps;
  visible = λ new inv. it.visible new (invisible-of known wanted b it.who new inv);
  mortals = it.mortals;
}
shown-so known wanted b cpu stepped.Strays watched is it = tt

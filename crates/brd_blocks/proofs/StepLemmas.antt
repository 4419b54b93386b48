-- What a step was, by a look before it and its report.
use Rattle.std.proofs.Common.{◌≡◌, ℕ, ◌<◌, Bool, true, false, not, List, length, inl, inr, refl, sym, ap, subst, ◌∙◌}
use Rattle.std.specs.Prelude.{◌&&◌, ◌||◌, if◌then◌else◌, slice_index_or, Option, None, Some}
use Rattle.std.specs.Option.{option_map}
use Rattle.std.proofs.lemmas.Bool.{false≢true, cases_lt}
use Rattle.std.proofs.lemmas.List.{get_or_past}
use Rattle.brd_isa.specs.Shapes.{does_store}
use Rattle.brd_link.specs.LinkSet.{IsLinkSet}
use Rattle.brd_exec.specs.State.{State}
use Rattle.brd_tasks.specs.Tasks.{no_context}
use Rattle.brd_kernel.specs.declared.processor.Processor.{Processor}
use Rattle.brd_kernel.specs.declared.processor.Standing.TheVariants as standing
use Rattle.brd_kernel.specs.declared.processor.Executor.{Executor}
use Rattle.brd_kernel.specs.declared.processor.Executor.TheVariants as executor
use Rattle.brd_kernel.specs.Kernel.{KernelState, processor_at, executor_by, executor_in, executor_on, context_of, standing_by, standing_in}
use Rattle.brd_kernel.specs.Always.{HasPlace}
use Rattle.brd_sysgate.specs.Gate.{caller_of}
use Rattle.brd_board.specs.declared.event.Event.TheVariants.{Step}
use Rattle.brd_board.specs.declared.event.Report.{Report}
use Rattle.brd_board.specs.declared.event.Report.TheVariants as report
use Rattle.brd_board.specs.Board.{BoardState, Happened, happens, registers_of}
use Rattle.brd_frames.specs.Agents as agents
use Rattle.brd_frames.specs.Agents.{Agent, agent_by, context_in}
use Rattle.brd_frames.specs.Going.{Gone, goes, links_after, with_gone, IsNext}
use Rattle.brd_frames.specs.Commuting.{IsUnlinked, EndsNoLink}
use Rattle.brd_frames.specs.Lagging.{Sharing, IsInvisible}
use Rattle.brd_frames.specs.Reducing.{EndsMortals}
use Rattle.brd_frames.proofs.GoingLemmas.{context-by, processor, goes-plain}
use Rattle.brd_frames.proofs.CommuteLemmas.{some-gone, leaves-links}
use Rattle.brd_blocks.specs.declared.owner.Owner.{Owner}
use Rattle.brd_blocks.specs.declared.footprint.Access.{Access}
use Rattle.brd_blocks.specs.declared.stepped.Stepped.TheVariants as stepped
use Rattle.brd_blocks.specs.Owning.{Known, owner_of, sharing_of, is_mortal, is_mortal_agent}
use Rattle.brd_blocks.specs.Footprint.{access_of}
use Rattle.brd_blocks.specs.Looking.{links_into, access_spares, me_standing, me_on, has_place, asks_ter_tsk, asks_of, surprises, is_mortal_owner, keeps_by, hides_by, look_by, look_in, look_of, ran_of, done_of, stepped_of}
use Rattle.brd_blocks.specs.Stepping.{IsHidden, IsVisible, IsStepped}
use Rattle.brd_blocks.proofs.TouchLemmas.{Stored, has-stored, is-plain, linked-stops}
use Rattle.brd_blocks.proofs.KeepLemmas.{not-true, keeps-so, hidden-apart, hidden-plain, shown}
use Rattle.brd_blocks.proofs.NextLemmas.{is_executed, is_silent, Goes, executed-goes, off-stays, same-cpu, silent-idle, accepted-quiet}
use Rattle.brd_blocks.proofs.LinkLemmas.{spared}
use Rattle.brd_blocks.proofs.CallLemmas.{ter-asked, ter-named}

-- Who executes.

abbrev me_by : ℕ → Option Executor → Option Owner
me_by cpu by = option_map (λ who. owner_of (agent_by cpu who)) by

me-marks : (cpu : ℕ) (running handling : Option ℕ) → me_standing cpu (standing_by running handling) ≡ me_by cpu (executor_by running handling)
me-marks cpu running (Some line) = refl
me-marks cpu (Some id) None = refl
me-marks cpu None None = refl

me-stopped : (cpu : ℕ) (stopped : Bool) (running handling : Option ℕ) →
    me_standing cpu (if stopped then standing.Stopped else standing_by running handling)
    ≡ me_by cpu (if stopped then None else executor_by running handling)
me-stopped cpu true running handling = refl
me-stopped cpu false running handling = me-marks cpu running handling

me-found : (cpu : ℕ) (found : Option Processor) → me_on cpu (option_map standing_in found) ≡ me_by cpu (executor_in found)
me-found cpu None = refl
me-found cpu (Some p) = me-stopped cpu p.stopped p.running p.handling

-- A context that isn't all zero lies in the kernel.

no-place : has_place no_context ≡ true → ⊥
unfolding no_context
no-place is = false≢true is

within : (contexts : List State) (at : ℕ) → has_place (slice_index_or contexts at no_context) ≡ true → at < length contexts
within contexts at has =
    elim (cases_lt at (length contexts)) [
      | inl below ↦ below
      | inr beyond ↦ absurd (no-place (subst (λ c. has_place c ≡ true) (get_or_past contexts at no_context beyond) has))
    ]

pub place-of : (k : KernelState) (cpu : ℕ) (who : Executor) → has_place (context_of k cpu who) ≡ true → HasPlace k cpu who
place-of k cpu executor.Handler has = within k.handler_contexts cpu has
place-of k cpu (executor.Task id) has = within k.tasks.contexts id has

-- What is told of a step that executed an instruction: whether that was a call, and whether it went on.
record Told (b : BoardState) (cpu : ℕ) (calls goes_on : Bool) : Type 0 where
  executed : is_executed (happens b (Step cpu)).report ≡ true
  ran : goes_on ≡ true → (address : ℕ) × ((happens b (Step cpu)).report ≡ report.Ran address)
  stopped : goes_on ≡ false → (address : ℕ) → (happens b (Step cpu)).report ≡ report.Ran address → ⊥
  uncalled : calls ≡ false → (address : ℕ) → (happens b (Step cpu)).report ≡ report.Called address → ⊥

-- An instruction that nobody else can see.

spares : (stores into : Bool) → stores ≡ true → (not stores || not into) ≡ true → into ≡ false
spares true true is spared = absurd (false≢true spared)
spares true false is spared = refl
spares false into is spared = absurd (false≢true is)

ends-none : (b : BoardState) (cpu : ℕ) (who : Agent) → IsLinkSet b.links →
    access_spares b cpu (access_of (context_in b.kernel who) b.memory) ≡ true → EndsNoLink b cpu who
ends-none b cpu who set free gone address is stored =
    let at : Stored (access_of (context_in b.kernel who) b.memory) address = has-stored (context_in b.kernel who) b.memory gone address is stored in
    subst (IsUnlinked b.links cpu) at.at
    (spared b cpu at.it.address set
    (spares (does_store at.it.transfer) (links_into b cpu at.it.address) at.stores
    (subst (λ (x : Option Access). access_spares b cpu x ≡ true) at.is free)))

-- who executes is mortal if the agent is
mortal-who : (mortals : List Bool) (who : Agent) → is_mortal_owner mortals (owner_of who) ≡ is_mortal_agent mortals who
mortal-who mortals (agents.Task id) = refl
mortal-who mortals (agents.Handler cpu) = refl

hidden-step : (known : Known) (b : BoardState) (cpu address : ℕ) (who : Agent) → IsLinkSet b.links → IsNext b cpu who →
    (happens b (Step cpu)).report ≡ report.Ran address →
    keeps_by known.owners (owner_of who) (context_in b.kernel who).pc (access_of (context_in b.kernel who) b.memory) ≡ true →
    not (is_mortal_owner known.mortals (owner_of who)) ≡ true →
    hides_by known.owners (context_in b.kernel who).pc (access_of (context_in b.kernel who) b.memory) ≡ true →
    access_spares b cpu (access_of (context_in b.kernel who) b.memory) ≡ true → IsHidden (sharing_of known) b cpu
hidden-step known b cpu address who set next told keeps lasts hides free =
    let s : State = context_in b.kernel who in
    let went = goes-plain b cpu address who next told (is-plain s b.memory (hidden-plain known.owners s b.memory hides)) in
    let gone : Gone = went.0 in
    let ends : EndsNoLink b cpu who = ends-none b cpu who set free in
    let links : links_after cpu b.links gone.stored ≡ b.links = leaves-links b cpu gone.stored (λ at. ends gone at went.1) in
    let left : (happens b (Step cpu)).board ≡ with_gone b who b.links gone =
    ap (λ (done : Happened). done.board) (processor b cpu who gone next went.1) ∙ ap (λ l. with_gone b who l gone) links in
    record {
      who = who;
      next = next;
      invisible = record {
        goes = ap (option_map (with_gone b who b.links)) went.1 ∙ ap Some (sym left);
        apart = λ at touched. hidden-apart known.owners s b.memory at hides touched;
        keeps = keeps-so known b who s refl keeps;
        lasting = sym (mortal-who known.mortals who) ∙ not-true (is_mortal_owner known.mortals (owner_of who)) lasts;
        unseen = λ there is. refl;
      };
      apart = ends;
    }

-- One that others may see.

ran-by : (b : BoardState) (cpu : ℕ) (who : Agent) (gone : Gone) → IsNext b cpu who → goes (context_in b.kernel who) b.memory ≡ Some gone →
    (happens b (Step cpu)).report ≡ report.Ran (context_in b.kernel who).pc
ran-by b cpu who gone next is = ap (λ (done : Happened). done.report) (processor b cpu who gone next is)

shown-hidden : (known : Known) (b : BoardState) (who : Agent) (new : BoardState) → IsInvisible (sharing_of known) b who new →
    hides_by known.owners (context_in b.kernel who).pc (access_of (context_in b.kernel who) b.memory) ≡ false → ⊥
shown-hidden known b who new inv shows =
    let s : State = context_in b.kernel who in
    let it = some-gone b new who (goes s b.memory) inv.goes in
    elim (shown known.owners s b.memory shows) [
      | inl shared ↦ false≢true (sym (inv.apart shared.address shared.touched) ∙ shared.shared)
      | inr links ↦ linked-stops s b.memory links.it it.0 links.is links.linked it.1
    ]

shown-by : (known : Known) (b : BoardState) (who : Agent) (new : BoardState) (mortal : Bool) → is_mortal_owner known.mortals (owner_of who) ≡ mortal →
    IsInvisible (sharing_of known) b who new →
    (not mortal && hides_by known.owners (context_in b.kernel who).pc (access_of (context_in b.kernel who) b.memory)) ≡ false → ⊥
shown-by known b who new true is inv shows = false≢true (sym inv.lasting ∙ sym (mortal-who known.mortals who) ∙ is)
shown-by known b who new false is inv shows = shown-hidden known b who new inv shows

unseen : (known : Known) (b : BoardState) (cpu : ℕ) (who : Agent) (calls goes_on : Bool) (new : BoardState) → IsNext b cpu who →
    Told b cpu calls goes_on →
    (goes_on && (not (is_mortal_owner known.mortals (owner_of who))
    && hides_by known.owners (context_in b.kernel who).pc (access_of (context_in b.kernel who) b.memory))) ≡ false →
    IsInvisible (sharing_of known) b who new → ⊥
unseen known b cpu who calls true new next told shows inv =
    shown-by known b who new (is_mortal_owner known.mortals (owner_of who)) refl inv shows
unseen known b cpu who calls false new next told shows inv =
    let s : State = context_in b.kernel who in
    let it = some-gone b new who (goes s b.memory) inv.goes in
    told.stopped refl s.pc (ran-by b cpu who it.0 next it.1)

registers-are : (b : BoardState) (cpu : ℕ) (who : Executor) (s : State) → executor_on b.kernel cpu ≡ Some who → registers_of b cpu ≡ Some s →
    s ≡ context_of b.kernel cpu who
registers-are b cpu who s executes is =
    let same : Some (context_of b.kernel cpu who) ≡ Some s = sym (ap (option_map (context_of b.kernel cpu)) executes) ∙ is in
    cc

unsurprised : (asks mortal : Bool) → (asks && not mortal) ≡ false → asks ≡ true → mortal ≡ true
unsurprised true true none is = refl
unsurprised true false none is = absurd (false≢true (sym none))
unsurprised false mortal none is = absurd (false≢true is)

ends-mortals : (known : Known) (b : BoardState) (cpu : ℕ) (who : Executor) (calls goes_on : Bool) → executor_on b.kernel cpu ≡ Some who →
    Told b cpu calls goes_on → (calls && surprises known.mortals (context_of b.kernel cpu who)) ≡ false →
    EndsMortals (sharing_of known) b (Step cpu)
ends-mortals known b cpu who true goes_on executes told none id ends =
    let s : State = ends.calls.context in
    let same : ends.cpu ≡ cpu = sym (same-cpu cpu ends.cpu ends.steps) in
    let here : registers_of b cpu ≡ Some s = subst (λ n. registers_of b n ≡ Some s) same ends.calls.executes in
    let expected : surprises known.mortals s ≡ false =
    subst (λ c. surprises known.mortals c ≡ false) (sym (registers-are b cpu who s executes here)) none in
    subst (λ n. is_mortal known.mortals n ≡ true) (ter-named s (caller_of b.kernel ends.cpu) id ends.calls.asks)
    (unsurprised (asks_ter_tsk s) (is_mortal known.mortals (asks_of s)) expected
    (ter-asked s (caller_of b.kernel ends.cpu) id ends.calls.asks))
ends-mortals known b cpu who false goes_on executes told none id ends =
    absurd (told.uncalled refl ends.calls.address
    (subst (λ n. (happens b (Step n)).report ≡ report.Called ends.calls.address) (sym (same-cpu cpu ends.cpu ends.steps)) ends.calls.steps))

-- What was so, by a look.

decide : (by : Sharing) (b : BoardState) (cpu : ℕ) (keeps ends hides spares : Bool) →
    (keeps ≡ true → hides ≡ true → spares ≡ true → IsHidden by b cpu) →
    (keeps ≡ true → ends ≡ false → hides ≡ false → IsVisible by b cpu) →
    IsStepped by b cpu (if not keeps || ends then stepped.Strays else if hides then ran_of spares else stepped.Visible)
decide by b cpu false ends hides spares hidden visible = tt
decide by b cpu true true hides spares hidden visible = tt
decide by b cpu true false true true hidden visible = hidden refl refl refl
decide by b cpu true false true false hidden visible = tt
decide by b cpu true false false spares hidden visible = visible refl refl refl

next-of : (b : BoardState) (cpu : ℕ) (who : Executor) → executor_on b.kernel cpu ≡ Some who → has_place (context_of b.kernel cpu who) ≡ true →
    is_executed (happens b (Step cpu)).report ≡ true → IsNext b cpu (agent_by cpu who)
next-of b cpu who executes has executed =
    let goes-so : Goes b cpu = executed-goes b cpu executed in
    record {
      executor = who;
      is = refl;
      goes_on = record {
        on = goes-so.on;
        executes = executes;
        uninterrupted = goes-so.uninterrupted;
        place = place-of b.kernel cpu who has;
      };
    }

and-true : (x y : Bool) → (x && y) ≡ true → (x ≡ true) × (y ≡ true)
and-true true y is = (refl, is)
and-true false y is = absurd (false≢true is)

look-so : (known : Known) (b : BoardState) (cpu : ℕ) (who : Executor) (calls goes_on : Bool) → IsLinkSet b.links →
    executor_on b.kernel cpu ≡ Some who → has_place (context_of b.kernel cpu who) ≡ true → Told b cpu calls goes_on →
    IsStepped (sharing_of known) b cpu
    (done_of (Some (look_by known b cpu (owner_of (agent_by cpu who)) (context_of b.kernel cpu who))) calls goes_on)
look-so known b cpu who calls goes_on set executes has told =
    let agent : Agent = agent_by cpu who in
    let s : State = context_of b.kernel cpu who in
    let same : s ≡ context_in b.kernel agent = sym (context-by b.kernel cpu who) in
    let next : IsNext b cpu agent = next-of b cpu who executes has told.executed in
    let lasts : Bool = not (is_mortal_owner known.mortals (owner_of agent)) in
    decide (sharing_of known) b cpu (keeps_by known.owners (owner_of agent) s.pc (access_of s b.memory)) (calls && surprises known.mortals s)
    (goes_on && (lasts && hides_by known.owners s.pc (access_of s b.memory))) (access_spares b cpu (access_of s b.memory))
    (λ keeps hides free.
    let both = and-true goes_on (lasts && hides_by known.owners s.pc (access_of s b.memory)) hides in
    let hidden = and-true lasts (hides_by known.owners s.pc (access_of s b.memory)) both.1 in
    let ran = told.ran both.0 in
    hidden-step known b cpu ran.0 agent set next ran.1
    (subst (λ c. keeps_by known.owners (owner_of agent) c.pc (access_of c b.memory) ≡ true) same keeps) hidden.0
    (subst (λ c. hides_by known.owners c.pc (access_of c b.memory) ≡ true) same hidden.1)
    (subst (λ c. access_spares b cpu (access_of c b.memory) ≡ true) same free))
    (λ keeps none shows. record {
      who = agent;
      next = next;
      keeps = keeps-so known b agent s (sym same) keeps;
      visible = λ new.
          unseen known b cpu agent calls goes_on new next told
          (subst (λ c. (goes_on && (lasts && hides_by known.owners c.pc (access_of c b.memory))) ≡ false) same shows);
      mortals = ends-mortals known b cpu who calls goes_on executes told none;
    })

placed-so : (known : Known) (b : BoardState) (cpu : ℕ) (who : Executor) (calls goes_on has : Bool) → IsLinkSet b.links →
    executor_on b.kernel cpu ≡ Some who → has_place (context_of b.kernel cpu who) ≡ has → Told b cpu calls goes_on →
    IsStepped (sharing_of known) b cpu
    (done_of (if has then Some (look_by known b cpu (owner_of (agent_by cpu who)) (context_of b.kernel cpu who)) else None) calls goes_on)
placed-so known b cpu who calls goes_on true set executes has told = look-so known b cpu who calls goes_on set executes has told
placed-so known b cpu who calls goes_on false set executes has told = tt

by-so : (known : Known) (b : BoardState) (cpu : ℕ) (by : Option Executor) (calls goes_on : Bool) → IsLinkSet b.links →
    executor_on b.kernel cpu ≡ by → Told b cpu calls goes_on →
    IsStepped (sharing_of known) b cpu
    (done_of (look_in known b cpu (me_by cpu by) (option_map (context_of b.kernel cpu) by)) calls goes_on)
by-so known b cpu None calls goes_on set same told = tt
by-so known b cpu (Some who) calls goes_on set same told =
    placed-so known b cpu who calls goes_on (has_place (context_of b.kernel cpu who)) set same refl told

done-so : (known : Known) (b : BoardState) (cpu : ℕ) (calls goes_on : Bool) → IsLinkSet b.links → Told b cpu calls goes_on →
    IsStepped (sharing_of known) b cpu (done_of (look_of known b cpu) calls goes_on)
done-so known b cpu calls goes_on set told =
    subst (λ me. IsStepped (sharing_of known) b cpu (done_of (look_in known b cpu me (registers_of b cpu)) calls goes_on))
    (sym (me-found cpu (processor_at b.kernel cpu)))
    (by-so known b cpu (executor_on b.kernel cpu) calls goes_on set refl told)

-- By what is reported.

ran-told : (b : BoardState) (cpu address : ℕ) → (happens b (Step cpu)).report ≡ report.Ran address → Told b cpu false true
ran-told b cpu address is = record {
  executed = ap is_executed is;
  ran = λ on. (address, is);
  stopped = λ off. let wrong : ⊥ = cc in absurd wrong;
  uncalled = λ none at called. let wrong : ⊥ = cc in wrong;
}

called-told : (b : BoardState) (cpu address : ℕ) → (happens b (Step cpu)).report ≡ report.Called address → Told b cpu true false
called-told b cpu address is = record {
  executed = ap is_executed is;
  ran = λ on. absurd (false≢true on);
  stopped = λ off at ran. let wrong : ⊥ = cc in wrong;
  uncalled = λ none. let wrong : ⊥ = cc in absurd wrong;
}

faulted-told : (b : BoardState) (cpu address : ℕ) → (happens b (Step cpu)).report ≡ report.Faulted address → Told b cpu false false
faulted-told b cpu address is = record {
  executed = ap is_executed is;
  ran = λ on. absurd (false≢true on);
  stopped = λ off at ran. let wrong : ⊥ = cc in wrong;
  uncalled = λ none at called. let wrong : ⊥ = cc in wrong;
}

told-so : (known : Known) (b : BoardState) (cpu : ℕ) (told : Report) → IsLinkSet b.links → (happens b (Step cpu)).report ≡ told →
    IsStepped (sharing_of known) b cpu (stepped_of (look_of known b cpu) told)
told-so known b cpu report.Off set is = off-stays b cpu is
told-so known b cpu report.NoSuch set is = silent-idle b cpu (ap is_silent is)
told-so known b cpu report.Stopped set is = silent-idle b cpu (ap is_silent is)
told-so known b cpu (report.Accepted line) set is = accepted-quiet b cpu line is
told-so known b cpu (report.Ran address) set is = done-so known b cpu false true set (ran-told b cpu address is)
told-so known b cpu (report.Called address) set is = done-so known b cpu true false set (called-told b cpu address is)
told-so known b cpu (report.Faulted address) set is = done-so known b cpu false false set (faulted-told b cpu address is)
told-so known b cpu report.Idle set is = silent-idle b cpu (ap is_silent is)
told-so known b cpu report.Ticked set is = tt
told-so known b cpu report.TimeOver set is = tt
told-so known b cpu report.Raised set is = tt

pub step-so : (known : Known) (b : BoardState) (cpu : ℕ) → IsLinkSet b.links →
    IsStepped (sharing_of known) b cpu (stepped_of (look_of known b cpu) (happens b (Step cpu)).report)
step-so known b cpu set = told-so known b cpu (happens b (Step cpu)).report set refl

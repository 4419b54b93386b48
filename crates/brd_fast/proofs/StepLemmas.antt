-- What an entry does is a step of its processor, and steps in a row are that many steps.
use Rattle.std.proofs.Common.{◌≡◌, ℕ, ◌+◌, Bool, true, false, ◌&&◌, if◌then◌else◌, Option, None, Some, refl, sym, ap, ◌∙◌, subst, arith}
use Rattle.std.specs.Prelude.{zero, suc, Ok, Err}
use Rattle.std.proofs.Math.Logic.{∥∥₁_elim}
use Rattle.std.proofs.Props.{props}
use Rattle.brd_isa.specs.declared.instruction.Insn.{Insn}
use Rattle.brd_isa.specs.Decoding.{decoded}
use Rattle.brd_mem.specs.Memory.{Memory, size_of}
use Rattle.brd_mem.specs.Access.{fetched}
use Rattle.brd_link.specs.LinkSet.{LinkSet}
use Rattle.brd_exec.specs.declared.outcome.ExceptionCode.{ExceptionCode}
use Rattle.brd_exec.specs.State.{State, advanced}
use Rattle.brd_exec.specs.Action.{Action, action}
use Rattle.brd_exec.specs.Step.{Effect, done, has_slot, of_word, of_fetch, of_next, next_instruction, effect, ended, ran}
use Rattle.brd_exec.specs.Went.{Machine, went_by, went_on, went}
use Rattle.brd_exec.proofs.FormLemmas.{IsAlike, form-ran}
use Rattle.brd_entries.specs.declared.entry.CodeEntry.{CodeEntry}
use Rattle.brd_entries.specs.Means.{Means}
use Rattle.brd_fast.specs.Plans.{Plan, planned, CarriesOut}
use Rattle.brd_fast.specs.Moves.{Acts, Turns}
use Rattle.brd_fast.specs.Steps.{Steps, MaySteps}
use Rattle.brd_fast.proofs.PlanLemmas.{Stands, stands}
use Rattle.brd_fast.proofs.KnownLemmas.{zero-is-nop}

does-goes : (slot branch : Bool) (cpu : ℕ) (insn : Insn) (s : State) (memory : Memory) (links : LinkSet) (act : Action) (after : Machine) →
    branch ≡ false → action insn s ≡ act → went_by (done cpu s memory links act) ≡ Some after →
    went_by (of_next cpu s memory links (if slot && branch then Err ExceptionCode.RI else Ok insn)) ≡ Some after
does-goes slot true cpu insn s memory links act after none same is = absurd (cc)
does-goes true false cpu insn s memory links act after none same is = ap (λ a. went_by (done cpu s memory links a)) same ∙ is
does-goes false false cpu insn s memory links act after none same is = ap (λ a. went_by (done cpu s memory links a)) same ∙ is

turns-goes : (slot branch : Bool) (cpu : ℕ) (insn : Insn) (s : State) (memory : Memory) (links : LinkSet) (after : State) →
    slot ≡ false → action insn s ≡ Action.Local after →
    went_by (of_next cpu s memory links (if slot && branch then Err ExceptionCode.RI else Ok insn))
    ≡ Some (record { state = after; memory = memory; links = links })
turns-goes true branch cpu insn s memory links after outside same = absurd (cc)
turns-goes false branch cpu insn s memory links after outside same = ap (λ a. went_by (done cpu s memory links a)) same

machine-is : (after : Machine) (s : State) (memory : Memory) (links : LinkSet) → s ≡ after.state → memory ≡ after.memory → links ≡ after.links →
    Some after ≡ Some (record { state = s; memory = memory; links = links })
machine-is after s memory links is_state is_memory is_links =
    ap (λ x. Some (record { state = x; memory = after.memory; links = after.links })) (sym is_state)
    ∙ ap (λ x. Some (record { state = s; memory = x; links = after.links })) (sym is_memory)
    ∙ ap (λ x. Some (record { state = s; memory = memory; links = x })) (sym is_links)

same-machine : (s : State) (memory : Memory) (links : LinkSet) (new_s : State) (new_memory : Memory) (new_links : LinkSet) →
    new_s ≡ s → new_memory ≡ memory → new_links ≡ links →
    (let new : Machine = record { state = new_s; memory = new_memory; links = new_links } in new) ≡ record { state = s; memory = memory; links = links }
same-machine s memory links new_s new_memory new_links is_state is_memory is_links = cc

acted : (what : Option Machine) (how : Option Machine) (s : State) (memory : Memory) (links : LinkSet) (result : Bool) (new_s : State) (new_memory : Memory) (new_links : LinkSet) →
    Acts what s memory links result new_s new_memory new_links →
    ((after : Machine) → what ≡ Some after → how ≡ Some after) →
    Steps how (record { state = s; memory = memory; links = links }) result
    (record { state = new_s; memory = new_memory; links = new_links })
acted None how s memory links true new_s new_memory new_links acts goes = absurd (cc)
acted None how s memory links false new_s new_memory new_links acts goes = same-machine s memory links new_s new_memory new_links acts.1 acts.2 acts.3
acted (Some after) how s memory links false new_s new_memory new_links acts goes = absurd (cc)
acted (Some after) how s memory links true new_s new_memory new_links acts goes = goes after refl ∙ machine-is after new_s new_memory new_links acts.1 acts.2 acts.3

turned : (how : Option Machine) (s : State) (memory : Memory) (links : LinkSet) (after : State) (result : Bool) (new_s : State) (new_memory : Memory) (new_links : LinkSet) →
    Turns after s result new_s × (new_memory ≡ memory) × (new_links ≡ links) →
    (s.slot ≡ false → how ≡ Some (record { state = after; memory = memory; links = links })) →
    Steps how (record { state = s; memory = memory; links = links }) result
    (record { state = new_s; memory = new_memory; links = new_links })
turned how s memory links after false new_s new_memory new_links turns goes = same-machine s memory links new_s new_memory new_links turns.0 turns.1 turns.2
turned how s memory links after true new_s new_memory new_links turns goes =
    goes turns.0.0 ∙ machine-is (record { state = after; memory = memory; links = links }) new_s new_memory new_links turns.0.1 turns.1 turns.2

plan-steps : (plan : Plan) (cpu : ℕ) (s : State) (memory : Memory) (links : LinkSet) (found : Option Insn) (result : Bool) (new_s : State) (new_memory : Memory) (new_links : LinkSet) →
    Stands plan found s → CarriesOut cpu plan s memory links result new_s new_memory new_links →
    Steps (went_by (of_next cpu s memory links (of_word s found))) (record { state = s; memory = memory; links = links }) result
    (record { state = new_s; memory = new_memory; links = new_links })
plan-steps Plan.Declines cpu s memory links found result new_s new_memory new_links for does =
    acted None _ s memory links result new_s new_memory new_links does (λ after is. absurd (cc))
plan-steps (Plan.Does act) cpu s memory links found result new_s new_memory new_links for does =
    acted (went_by (done cpu s memory links act)) _ s memory links result new_s new_memory new_links does
    (λ after is. ap (λ f. went_by (of_next cpu s memory links (of_word s f))) for.1
    ∙ does-goes s.slot (has_slot for.0) cpu for.0 s memory links act after for.3 for.2 is)
plan-steps (Plan.Jumps after) cpu s memory links found result new_s new_memory new_links for does =
    turned _ s memory links after result new_s new_memory new_links does
    (λ outside. ap (λ f. went_by (of_next cpu s memory links (of_word s f))) for.1
    ∙ turns-goes s.slot (has_slot for.0) cpu for.0 s memory links after outside for.2)

entry-meant : (entry : CodeEntry) (cpu : ℕ) (s : State) (memory : Memory) (links : LinkSet) (word : ℕ) (result : Bool) (new_s : State) (new_memory : Memory) (new_links : LinkSet) →
    fetched memory s.pc ≡ Ok word → Means entry (decoded word) →
    CarriesOut cpu (planned entry s) s memory links result new_s new_memory new_links →
    Steps (went_by (effect cpu s memory links)) (record { state = s; memory = memory; links = links }) result
    (record { state = new_s; memory = new_memory; links = new_links })
unfolding effect next_instruction
entry-meant entry cpu s memory links word result new_s new_memory new_links fetch means does =
    subst (λ how. Steps how (record { state = s; memory = memory; links = links }) result
    (record { state = new_s; memory = new_memory; links = new_links }))
    (sym (ap (λ f. went_by (of_next cpu s memory links (of_fetch s f))) fetch))
    (plan-steps (planned entry s) cpu s memory links (decoded word) result new_s new_memory new_links (stands entry (decoded word) s means) does)

steps-prop : (how : Option Machine) (old : Machine) (result : Bool) (new : Machine) → IsProp (Steps how old result new)
steps-prop how old true new = hlevel props
steps-prop how old false new = hlevel props

-- who does the entry of the next word may do a step
pub entry-steps : (entry : CodeEntry) (cpu : ℕ) (s : State) (memory : Memory) (links : LinkSet) (word : ℕ) (result : Bool) (new_s : State) (new_memory : Memory) (new_links : LinkSet) →
    fetched memory s.pc ≡ Ok word → ∥ Means entry (decoded word) ∥₁ →
    CarriesOut cpu (planned entry s) s memory links result new_s new_memory new_links →
    MaySteps cpu (record { state = s; memory = memory; links = links }) result
    (record { state = new_s; memory = new_memory; links = new_links })
entry-steps entry cpu s memory links word result new_s new_memory new_links fetch means does =
    ∥∥₁_elim means (steps-prop _ _ _ _) (λ meant. entry-meant entry cpu s memory links word result new_s new_memory new_links fetch meant does)

-- the word 0 is a NOP
pub zero-steps : (cpu : ℕ) (s : State) (memory : Memory) (links : LinkSet) → fetched memory s.pc ≡ Ok 0 →
    went cpu 1 (record { state = s; memory = memory; links = links })
    ≡ Some (record { state = advanced s; memory = memory; links = links })
zero-steps cpu s memory links fetch =
    entry-meant CodeEntry.Nop cpu s memory links 0 true (advanced s) memory links fetch
    zero-is-nop (refl, refl, refl, refl)

some-is : (x y : Machine) → Some x ≡ Some y → x ≡ y
some-is x y is = cc

went-alike : (how : Effect) (s : State) (memory : Memory) (after : Machine) → IsAlike memory (ended how s memory).memory →
    went_by how ≡ Some after → IsAlike memory after.memory
went-alike (Effect.Goes new stored links) s memory after keeps is =
    subst (λ m. IsAlike memory m.memory) (some-is (record { state = new; memory = stored; links = links }) after is) keeps
went-alike (Effect.Stops stop links) s memory after keeps is = absurd (cc)

-- no step changes the size of memory, or its byte order
pub step-alike : (cpu : ℕ) (old : Machine) (result : Bool) (new : Machine) → MaySteps cpu old result new →
    IsAlike old.memory new.memory
unfolding ran
step-alike cpu old true new steps =
    went-alike (effect cpu old.state old.memory old.links) old.state old.memory new
    (form-ran cpu old.state old.memory old.links) steps
step-alike cpu old false new steps = (ap (λ m. size_of m.memory) steps, ap (λ m. m.memory.order) steps)

-- one more step
pub went-more : (cpu n more : ℕ) (first old new : Machine) → more ≡ n + 1 → went cpu n first ≡ Some old →
    went_by (effect cpu old.state old.memory old.links) ≡ Some new → went cpu more first ≡ Some new
went-more cpu n more first old new one before step =
    let next : more ≡ suc n = omega (arith, one) in
    ap (λ count. went cpu count first) next ∙ ap (went_on cpu) before ∙ step

-- steps and then steps
pub went-sum : (cpu n k total : ℕ) (first middle : Machine) → total ≡ n + k → went cpu n first ≡ Some middle →
    went cpu total first ≡ went cpu k middle
went-sum cpu n zero total first middle sum before =
    let same : total ≡ n = omega (arith, sum) in ap (λ count. went cpu count first) same ∙ before
went-sum cpu n (suc k) total first middle sum before =
    let next : total ≡ suc (n + k) = omega (arith, sum) in
    ap (λ count. went cpu count first) next ∙ ap (went_on cpu) (went-sum cpu n k (n + k) first middle refl before)

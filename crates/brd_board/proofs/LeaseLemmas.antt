-- What is done under a lease.
use Rattle.std.proofs.Common.{◌≡◌, inl, inr, ℕ, zero, suc, ◌+◌, ◌≤◌, ◌<◌, Bool, true, false, List, replicate, refl, sym, ap, subst, ◌∙◌, arith, is_some}
use Rattle.std.proofs.lemmas.Bool.{cases_lt}
use Rattle.std.specs.Prelude.{◌==◌, ◌%◌, Option, None, Some, IfSome, option_map, if◌then◌else◌}
use Rattle.brd_mem.specs.Window.{window_start, window_at}
use Rattle.brd_exec.specs.State.{State}
use Rattle.brd_exec.specs.Lent.{lent_on, lent}
use Rattle.brd_kernel.specs.declared.processor.Processor.{Processor}
use Rattle.brd_kernel.specs.declared.processor.Executor.{Executor}
use Rattle.brd_kernel.specs.Kernel.{KernelState, processor_at, executor_on, context_of, with_context_of, standing_in, marks_of}
use Rattle.brd_kernel.specs.Always.{HasPlace}
use Rattle.brd_board.specs.declared.event.Event.TheVariants.{Step}
use Rattle.brd_board.specs.declared.lease.Block.{Block}
use Rattle.brd_board.specs.Board.{BoardState, after}
use Rattle.brd_board.specs.Batch.{GoesOn}
use Rattle.brd_board.specs.Lease.{most_lent, LeaseState, IsLease, block_in, IsFresh, lent_more, DoesMost}
use Rattle.brd_lent.specs.Most as words
use Rattle.brd_board.proofs.BatchLemmas.{local-steps-go}

-- past a step that isn't lent there is none
lent-past : (count done : ℕ) (s : State) (window : List ℕ) (start : ℕ) → lent (suc done) s window start ≡ None → done < count →
    lent count s window start ≡ None
lent-past zero done s window start none past = absurd (omega (arith, past))
lent-past (suc count) done s window start none past = elim (cases_lt done count) [
  | inl below ↦ ap (λ before. lent_on before window start) (lent-past count done s window start none below)
  | inr reached ↦
      let same : count ≡ done = omega (arith, past, reached) in
      ap (λ n. lent (suc n) s window start) same ∙ none
]

greatest : (count done : ℕ) (s : State) (window : List ℕ) (start : ℕ) → lent (suc done) s window start ≡ None →
    is_some (lent count s window start) ≡ true → count ≤ done
greatest count done s window start none there = elim (cases_lt done count) [
  | inl past ↦
      let absent : lent count s window start ≡ None = lent-past count done s window start none past in
      let wrong : ⊥ = cc (ap is_some absent, there) in
      absurd wrong
  | inr within ↦ omega (arith, within)
]

-- steps and then steps
lent-sum : (n count total : ℕ) (s middle : State) (window : List ℕ) (start : ℕ) → total ≡ n + count → lent n s window start ≡ Some middle →
    lent total s window start ≡ lent count middle window start
lent-sum n zero total s middle window start sum before =
    let same : total ≡ n = omega (arith, sum) in ap (λ k. lent k s window start) same ∙ before
lent-sum n (suc count) total s middle window start sum before =
    let next : total ≡ suc (n + count) = omega (arith, sum) in
    ap (λ k. lent k s window start) next ∙ ap (λ s. lent_on s window start) (lent-sum n count (n + count) s middle window start refl before)

-- a lease stays one when more is done under it
pub more-led : (lease : LeaseState) (count : ℕ) (after : State) → IsLease lease → lent_more lease count ≡ Some after →
    lease.len + count ≤ most_lent → IsLease (record lease { len = lease.len + count; context = after })
more-led lease count after is_lease led few = record {
  most = few;
  led = lent-sum lease.len count (lease.len + count) lease.block.context lease.context lease.window (window_start lease.block.context.pc) refl is_lease.led ∙ led;
}

pub done-most : (limit most done : ℕ) (old : LeaseState) (after : State) → most ≤ limit → old.len + most ≤ most_lent →
    ((count : ℕ) → count ≤ limit → old.len + count ≤ most_lent → count ≤ most) →
    words.DoesMost old.window (window_start old.block.context.pc) most old.context after done →
    DoesMost limit old (record old { len = old.len + done; context = after }) done
done-most limit most done old after within fits all does = record {
  led = does.led;
  rest = refl;
  limited = omega (arith, within, does.few);
  most = omega (arith, fits, does.few);
  greatest = λ count few room there. elim (cases_lt done most) [
    | inl less ↦
        let none : lent_more old (suc done) ≡ None =
        ap (λ s. lent_on s old.window (window_start old.block.context.pc)) does.led ∙ does.end less in
        greatest count done old.context old.window (window_start old.block.context.pc) none there
    | inr enough ↦ omega (arith, enough, all count few room)
  ];
}

-- A lease that is committed.

some-context : (context : Executor → State) (who : Executor) (p : Processor) (block : Block) →
    Some (record { standing = standing_in p; marks = marks_of p; context = context who }) ≡ Some block → context who ≡ block.context
some-context context who p block is =
    let same : (record { standing = standing_in p; marks = marks_of p; context = context who }) ≡ block = cc in
    ap (λ (b : Block). b.context) same

-- whose block it is, and that its context is the block's
block-by : (found : Option Processor) (by : Option Executor) (context : Executor → State) (block : Block) →
    block_in found (option_map context by) ≡ Some block → (who : Executor) × (by ≡ Some who) × (context who ≡ block.context)
block-by None by context block is = let wrong : ⊥ = cc in absurd wrong
block-by (Some p) None context block is = let wrong : ⊥ = cc in absurd wrong
block-by (Some p) (Some who) context block is = (who, refl, some-context context who p block is)

code-whole : (aligned : Bool) (whole : Option (List ℕ)) (window : List ℕ) → (if aligned then whole else None) ≡ Some window →
    whole ≡ Some window
code-whole true whole window is = is
code-whole false whole window is = let wrong : ⊥ = cc in absurd wrong

if-some : {X : Type 0} (o : Option X) (x : X) (P : X → Type 0) → o ≡ Some x → IfSome o P → P x
if-some o x P is holds = subst (λ p. IfSome p P) is holds

-- the board whose processor has the lease's context is the one after as many steps
pub steps-committed : (b : BoardState) (lease : LeaseState) (kernel : KernelState) → IsFresh b lease → IsLease lease →
    IfSome (executor_on b.kernel lease.cpu) (λ who. kernel ≡ with_context_of b.kernel lease.cpu who lease.context) →
    IfSome (executor_on b.kernel lease.cpu) (HasPlace b.kernel lease.cpu) →
    record b { kernel = kernel } ≡ after b (replicate lease.len (Step lease.cpu))
steps-committed b lease kernel fresh is_lease put place =
    let by = executor_on b.kernel lease.cpu in
    let who = block-by (processor_at b.kernel lease.cpu) by (context_of b.kernel lease.cpu) lease.block fresh.block in
    let pc = lease.block.context.pc in
    let whole : window_at b.memory pc ≡ Some lease.window =
    code-whole (pc % 4 == 0) (window_at b.memory pc) lease.window fresh.window in
    let goes : GoesOn b lease.cpu who.0 = record {
      on = fresh.on;
      executes = who.1;
      uninterrupted = fresh.uninterrupted;
      place = if-some by who.0 (HasPlace b.kernel lease.cpu) who.1 place;
    } in
    let led : lent lease.len (context_of b.kernel lease.cpu who.0) lease.window (window_start pc) ≡ Some lease.context =
    ap (λ s. lent lease.len s lease.window (window_start pc)) who.2 ∙ is_lease.led in
    ap (λ k. record b { kernel = k })
    (if-some by who.0 (λ (w : Executor). kernel ≡ with_context_of b.kernel lease.cpu w lease.context) who.1 put)
    ∙ sym (local-steps-go b lease.cpu lease.len pc who.0 lease.context lease.window goes whole led)

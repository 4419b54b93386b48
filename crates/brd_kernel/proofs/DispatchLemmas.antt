-- Dispatch, processor by processor.
use Rattle.std.proofs.Common.{◌≡◌, ℕ, zero, suc, ◌+◌, ◌<◌, List, [], ◌∷◌, refl, ap, sym, ◌∙◌, length, arith}
use Rattle.std.specs.Prelude.{Bool, true, false, not, slice_index_or, slice_set, Option, None, Some}
use Rattle.std.proofs.lemmas.Bool.{true≢false, false≢true}
use Rattle.std.specs.Prelude.{is_some, unwrap_or}
use Rattle.std.proofs.lemmas.Bool.Decides.{nat_tests}
use Rattle.brd_kernel.specs.declared.processor.Processor.{Processor}
use Rattle.std.proofs.Common.{subst}
use Rattle.std.specs.Prelude.{nat_lt, ◌==◌, ◌&&◌, if◌then◌else◌}
use Rattle.std.specs.Int.{bit_at}
use Rattle.brd_kernel.specs.Kernel.{KernelState, processor_at, is_held, running_in}
use Rattle.brd_queue.specs.Queue.{Plain}
use Rattle.brd_tasks.specs.Tasks.{TaskTable, ready_on, first_id, top_of}
use Rattle.brd_kernel.specs.Dispatch.{IsSettled, dispatched_one, dispatched_from, dispatched_on, dispatched, is_same_task, has_changed}

-- of the processors from a number on the first `n` dispatched, and the others as they were
abbrev pub dispatched_first : ℕ → TaskTable → ℕ → List (Option Processor) → List (Option Processor)
dispatched_first zero t cpu ps = ps
dispatched_first (suc n) t cpu [] = []
dispatched_first (suc n) t cpu (p ∷ ps) = dispatched_one p (ready_on t cpu) ∷ dispatched_first n t (cpu + 1) ps

first-all : (t : TaskTable) (cpu : ℕ) (ps : List (Option Processor)) → dispatched_first (length ps) t cpu ps ≡ dispatched_from t cpu ps
first-all t cpu [] = refl
first-all t cpu (p ∷ ps) = ap (λ l. dispatched_one p (ready_on t cpu) ∷ l) (first-all t (cpu + 1) ps)

-- the next one is still as it was
first-next : (n : ℕ) (t : TaskTable) (cpu : ℕ) (ps : List (Option Processor)) → slice_index_or (dispatched_first n t cpu ps) n None ≡ slice_index_or ps n None
first-next zero t cpu ps = refl
first-next (suc n) t cpu [] = refl
first-next (suc n) t cpu (p ∷ ps) = first-next n t (cpu + 1) ps

first-more : (n : ℕ) (t : TaskTable) (cpu at : ℕ) (ps : List (Option Processor)) → at ≡ cpu + n → n < length ps →
    slice_set (dispatched_first n t cpu ps) n (dispatched_one (slice_index_or ps n None) (ready_on t at)) ≡ dispatched_first (suc n) t cpu ps
first-more n t cpu at [] is within = let no : ⊥ = omega (arith, within) in absurd no
first-more zero t cpu at (p ∷ ps) is within =
    let here : at ≡ cpu = omega (arith, is) in
    ap (λ c. dispatched_one p (ready_on t c) ∷ ps) here
first-more (suc n) t cpu at (p ∷ ps) is within =
    ap (λ l. dispatched_one p (ready_on t cpu) ∷ l) (first-more n t (cpu + 1) at ps (omega (arith, is)) (omega (arith, within)))

at-from : (n : ℕ) (t : TaskTable) (cpu at : ℕ) (ps : List (Option Processor)) → at ≡ cpu + n →
    slice_index_or (dispatched_from t cpu ps) n None ≡ dispatched_one (slice_index_or ps n None) (ready_on t at)
at-from n t cpu at [] is = refl
at-from zero t cpu at (p ∷ ps) is =
    let here : cpu ≡ at = omega (arith, is) in
    ap (λ c. dispatched_one p (ready_on t c)) here
at-from (suc n) t cpu at (p ∷ ps) is = at-from n t (cpu + 1) at ps (omega (arith, is))

-- what stands at a processor's number after the dispatch of all
pub at-dispatched : (k : KernelState) (cpu : ℕ) → processor_at (dispatched k) cpu ≡ dispatched_one (processor_at k cpu) (ready_on k.tasks cpu)
at-dispatched k cpu = at-from cpu k.tasks 0 cpu k.processors (omega arith)

abbrev pub with_first : KernelState → ℕ → KernelState
with_first k n = record k { processors = dispatched_first n k.tasks 0 k.processors }

pub on-next : (k : KernelState) (n : ℕ) → length k.processors ≡ 9 → n < 9 → dispatched_on (with_first k n) n ≡ with_first k (suc n)
on-next k n processors within =
    ap (λ ps. record k { processors = ps })
    (ap (λ p. slice_set (dispatched_first n k.tasks 0 k.processors) n (dispatched_one p (ready_on k.tasks n))) (first-next n k.tasks 0 k.processors)
    ∙ first-more n k.tasks 0 n k.processors (omega arith) (omega (arith, processors, within)))

pub all-first : (k : KernelState) → length k.processors ≡ 9 → with_first k 9 ≡ dispatched k
all-first k processors =
    ap (λ ps. record k { processors = ps })
    (ap (λ n. dispatched_first n k.tasks 0 k.processors) (sym processors) ∙ first-all k.tasks 0 k.processors)

at-next : (n : ℕ) (t : TaskTable) (cpu at : ℕ) (ps : List (Option Processor)) → at ≡ cpu + n → n < length ps →
    slice_index_or (dispatched_first (suc n) t cpu ps) n None ≡ dispatched_one (slice_index_or ps n None) (ready_on t at)
at-next n t cpu at [] is within = let no : ⊥ = omega (arith, within) in absurd no
at-next zero t cpu at (p ∷ ps) is within =
    let here : cpu ≡ at = omega (arith, is) in
    ap (λ c. dispatched_one p (ready_on t c)) here
at-next (suc n) t cpu at (p ∷ ps) is within = at-next n t (cpu + 1) at ps (omega (arith, is)) (omega (arith, within))

changed-by : (a b c d : Option Processor) → a ≡ c → b ≡ d → not (is_same_task (running_in a) (running_in b)) ≡ not (is_same_task (running_in c) (running_in d))
changed-by a b c d first second = ap (λ p. not (is_same_task (running_in p) (running_in b))) first ∙ ap (λ p. not (is_same_task (running_in c) (running_in p))) second

-- whether the next one changes is whether it changes in the dispatch of all
pub changed-next : (k : KernelState) (n : ℕ) → length k.processors ≡ 9 → n < 9 →
    has_changed (with_first k n) (dispatched_on (with_first k n) n) n ≡ has_changed k (dispatched k) n
changed-next k n processors within =
    let next : slice_index_or (dispatched_on (with_first k n) n).processors n None ≡ processor_at (dispatched k) n =
    ap (λ (s : KernelState). slice_index_or s.processors n None) (on-next k n processors within)
    ∙ at-next n k.tasks 0 n k.processors (omega arith) (omega (arith, processors, within))
    ∙ sym (at-dispatched k n) in
    changed-by _ _ _ _ (first-next n k.tasks 0 k.processors) next

bits-here : (hc other at more less : Bool) (before after : ℕ) → other ≡ hc → at ≡ true → more ≡ true → less ≡ false →
    before ≡ (if less && hc then 1 else 0) → after ≡ (if at && other then 1 else before) → after ≡ (if more && hc then 1 else 0)
bits-here true other at more less before after same here up low was now = grind (arith, same, here, up, low, was, now)
bits-here false other at more less before after same here up low was now = grind (arith, same, here, up, low, was, now)

bits-there : (hc other at more less : Bool) (before after : ℕ) → at ≡ false → more ≡ less →
    before ≡ (if less && hc then 1 else 0) → after ≡ (if at && other then 1 else before) → after ≡ (if more && hc then 1 else 0)
bits-there true other at more less before after here as_was was now = grind (arith, here, as_was, was, now)
bits-there false other at more less before after here as_was was now = grind (arith, here, as_was, was, now)

bits-by : (here : Bool) (k : KernelState) (n before after j : ℕ) (other : Bool) → (j + 1 == n) ≡ here → other ≡ has_changed k (dispatched k) n →
    bit_at before j ≡ (if nat_lt (j + 1) n && has_changed k (dispatched k) (j + 1) then 1 else 0) → bit_at after j ≡ (if j + 1 == n && other then 1 else bit_at before j) →
    bit_at after j ≡ (if nat_lt (j + 1) (n + 1) && has_changed k (dispatched k) (j + 1) then 1 else 0)
bits-by true k n before after j other test is was now =
    let at : j + 1 ≡ n = grind (arith, nat_tests, test) in
    let same : other ≡ has_changed k (dispatched k) (j + 1) = subst (λ m. other ≡ has_changed k (dispatched k) m) (sym at) is in
    let more : nat_lt (j + 1) (n + 1) ≡ true = grind (arith, nat_tests, at) in
    let less : nat_lt (j + 1) n ≡ false = grind (arith, nat_tests, at) in
    bits-here (has_changed k (dispatched k) (j + 1)) other _ _ _ (bit_at before j) (bit_at after j) same test more less was now
bits-by false k n before after j other test is was now =
    let as_was : nat_lt (j + 1) (n + 1) ≡ nat_lt (j + 1) n = grind (arith, nat_tests, test) in
    bits-there (has_changed k (dispatched k) (j + 1)) other _ _ _ (bit_at before j) (bit_at after j) test as_was was now

pub bits-next : (k : KernelState) (n before after : ℕ) (other : Bool) → other ≡ has_changed k (dispatched k) n →
    ((j : ℕ) → j < 8 → bit_at before j ≡ (if nat_lt (j + 1) n && has_changed k (dispatched k) (j + 1) then 1 else 0)) →
    ((j : ℕ) → j < 8 → bit_at after j ≡ (if j + 1 == n && other then 1 else bit_at before j)) →
    (j : ℕ) → j < 8 → bit_at after j ≡ (if nat_lt (j + 1) (n + 1) && has_changed k (dispatched k) (j + 1) then 1 else 0)
bits-next k n before after other is was now j small = bits-by (j + 1 == n) k n before after j other refl is (was j small) (now j small)

free-by : (held : Bool) (found : Option Processor) (p : Processor) (ready : List Plain) → is_held p ≡ held → found ≡ Some p →
    dispatched_one found ready ≡ Some (if held then p else record p { running = first_id ready })
free-by held found p ready test is = ap (λ f. dispatched_one f ready) is ∙ ap (λ h. Some (if h then p else record p { running = first_id ready })) test

pub dispatch-free : (k : KernelState) (cpu : ℕ) (p : Processor) → processor_at k cpu ≡ Some p → is_held p ≡ false →
    processor_at (dispatched k) cpu ≡ Some (record p { running = top_of k.tasks cpu })
dispatch-free k cpu p is free = at-dispatched k cpu ∙ free-by false (processor_at k cpu) p (ready_on k.tasks cpu) free is

pub dispatch-held : (k : KernelState) (cpu : ℕ) (p : Processor) → processor_at k cpu ≡ Some p → is_held p ≡ true → processor_at (dispatched k) cpu ≡ Some p
dispatch-held k cpu p is held = at-dispatched k cpu ∙ free-by true (processor_at k cpu) p (ready_on k.tasks cpu) held is

pub dispatch-none : (k : KernelState) (cpu : ℕ) → processor_at k cpu ≡ None → processor_at (dispatched k) cpu ≡ None
dispatch-none k cpu is = at-dispatched k cpu ∙ ap (λ f. dispatched_one f (ready_on k.tasks cpu)) is

settled-by : (held : Bool) (q p : Processor) (ready : List Plain) → is_held q ≡ held → (if held then q else record q { running = first_id ready }) ≡ p → is_held p ≡ false →
    p.running ≡ first_id ready
settled-by true q p ready test is free = absurd (true≢false (sym test ∙ ap is_held is ∙ free))
settled-by false q p ready test is free = sym (ap (λ (r : Processor). r.running) is)

settled-one : (found : Option Processor) (p : Processor) (ready : List Plain) → dispatched_one found ready ≡ Some p → is_held p ≡ false → p.running ≡ first_id ready
settled-one None p ready is free = absurd (false≢true (ap is_some is))
settled-one (Some q) p ready is free = settled-by (is_held q) q p ready refl (ap (λ (o : Option Processor). unwrap_or o q) is) free

pub dispatch-settles : (k : KernelState) → IsSettled (dispatched k)
dispatch-settles k cpu p is free = settled-one (processor_at k cpu) p (ready_on k.tasks cpu) (sym (at-dispatched k cpu) ∙ is) free

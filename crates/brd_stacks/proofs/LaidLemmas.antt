-- The stacks of tasks and handlers, one more.
use Rattle.std.proofs.Common.{◌≡◌, ℕ, suc, ◌+◌, ◌-◌, ◌<◌, ◌≤◌, List, [], ◌∷◌, ◌++◌, length, drop, refl, sym, ap, ◌∙◌, append_assoc, arith}
use Rattle.std.specs.Prelude.{Option, Some, None, slice_index_or}
use Rattle.std.specs.List.{cons_option, filter_map, range_with_len}
use Rattle.std.proofs.lemmas.List.{append-nil, drop_more}
use Rattle.brd_mem.specs.declared.image.Symbol.{Symbol}
use Rattle.brd_config.specs.declared.objects.TaskConfig.{TaskConfig}
use Rattle.brd_config.specs.declared.objects.HandlerConfig.{HandlerConfig}
use Rattle.brd_stacks.specs.declared.stack.Stack.{Stack}
use Rattle.brd_stacks.specs.Laid.{free_by, handler_stack, handler_stacks, place_of, task_stack, task_stacks}

cons-append : {A : Type 0} (o : Option A) (more : List A) → cons_option o more ≡ cons_option o [] ++ more
cons-append None more = refl
cons-append (Some x) more = refl

put-on : {A : Type 0} (old more : List A) (o : Option A) → old ++ cons_option o more ≡ (old ++ cons_option o []) ++ more
put-on old more o = ap (λ l. old ++ l) (cons-append o more) ∙ sym (append_assoc old (cons_option o []) more)

pub tasks-on : (symbols : List Symbol) (free next : ℕ) (tasks : List TaskConfig) (i : ℕ) (task : TaskConfig) (all old new : List Stack) → i < length tasks →
    task ≡ slice_index_or tasks i task → new ≡ old ++ cons_option (task_stack symbols free task) [] → next ≡ free_by free (place_of symbols free task) →
    all ≡ old ++ task_stacks symbols free (drop i tasks) → all ≡ new ++ task_stacks symbols next (drop (i + 1) tasks)
tasks-on symbols free next tasks i task all old new lt is put free_is so_far =
    so_far
    ∙ ap (λ ts. old ++ task_stacks symbols free ts) (drop_more tasks i task lt)
    ∙ ap (λ t. old ++ task_stacks symbols free (t ∷ drop (i + 1) tasks)) (sym is)
    ∙ put-on old (task_stacks symbols (free_by free (place_of symbols free task)) (drop (i + 1) tasks)) (task_stack symbols free task)
    ∙ ap (λ l. l ++ task_stacks symbols (free_by free (place_of symbols free task)) (drop (i + 1) tasks)) (sym put)
    ∙ ap (λ n. new ++ task_stacks symbols n (drop (i + 1) tasks)) (sym free_is)

pub handlers-on : (symbols : List Symbol) (handlers : List HandlerConfig) (i : ℕ) (handler : HandlerConfig) (all old new : List Stack) → i < length handlers →
    handler ≡ slice_index_or handlers i handler → new ≡ old ++ cons_option (handler_stack symbols handler.line) [] →
    all ≡ old ++ handler_stacks symbols (drop i handlers) → all ≡ new ++ handler_stacks symbols (drop (i + 1) handlers)
handlers-on symbols handlers i handler all old new lt is put so_far =
    so_far
    ∙ ap (λ hs. old ++ handler_stacks symbols hs) (drop_more handlers i handler lt)
    ∙ ap (λ h. old ++ handler_stacks symbols (h ∷ drop (i + 1) handlers)) (sym is)
    ∙ put-on old (handler_stacks symbols (drop (i + 1) handlers)) (handler_stack symbols handler.line)
    ∙ ap (λ l. l ++ handler_stacks symbols (drop (i + 1) handlers)) (sym put)

-- lines of time handlers

-- with what is found of the next line behind what was found so far, the lines that are left are one fewer
pub next-line : (h : ℕ → Option Stack) (so_far more whole : List Stack) (i end : ℕ) → i < end →
    more ≡ so_far ++ cons_option (h i) [] → so_far ++ filter_map h (range_with_len i (end - i)) ≡ whole →
    more ++ filter_map h (range_with_len (i + 1) (end - (i + 1))) ≡ whole
next-line h so_far more whole i end below is known =
    let rest = filter_map h (range_with_len (i + 1) (end - (i + 1))) in
    let left : end - i ≡ suc (end - (i + 1)) = omega arith in
    ap (λ front. front ++ rest) is ∙ sym (put-on so_far rest (h i))
    ∙ sym (ap (λ n. so_far ++ filter_map h (range_with_len i n)) left) ∙ known

-- behind the last line nothing is left
pub none-left : (h : ℕ → Option Stack) (found whole : List Stack) (i end : ℕ) → end ≤ i →
    found ++ filter_map h (range_with_len i (end - i)) ≡ whole → found ≡ whole
none-left h found whole i end past known =
    let none : end - i ≡ 0 = omega arith in
    sym (ap (λ n. found ++ filter_map h (range_with_len i n)) none ∙ append-nil found) ∙ known

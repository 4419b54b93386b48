-- Tasks and handlers, one after the other.
use Rattle.std.proofs.Common.{◌≡◌, ℕ, ◌+◌, ◌<◌, ◌≤◌, List, [], ◌∷◌, ◌++◌, length, drop, get_or, refl, sym, ap, ◌∙◌, append_assoc}
use Rattle.std.specs.Prelude.{Result, Ok, Err}
use Rattle.std.proofs.lemmas.List.{drop_more, drop_all, append-nil}
use Rattle.std.specs.Prelude.{All}
use Rattle.std.proofs.lemmas.List.Elements.{All-append, All-cons, All-nil}
use Rattle.brd_text.specs.Faults.{◌>>=◌, Fails}
use Rattle.brd_mem.specs.declared.image.Symbol.{Symbol}
use Rattle.brd_config.specs.declared.objects.TaskConfig.{TaskConfig}
use Rattle.brd_config.specs.declared.objects.HandlerConfig.{HandlerConfig}
use Rattle.brd_tasks.specs.declared.task.TaskSetup.{TaskSetup}
use Rattle.brd_kernel.specs.declared.processor.LineSetup.{LineSetup}
use Rattle.brd_board.specs.declared.boot.BootFault.{BootFault}
use Rattle.brd_board.specs.declared.setup.Placed.{Placed}
use Rattle.brd_board.specs.declared.boot.BootFault.TheVariants.{NoMemory, UnknownSymbol, Outside}
use Rattle.brd_tasks.specs.Ready.{IsSetup}
use Rattle.brd_config.specs.Configuration.{IsTask}
use Rattle.brd_board.specs.Setup.{is_no_memory, placed_task, setups_from, handler_address, line_of, handlers_of}

-- what is meant is a fault
pub fails : {X : Type 0} (fault : BootFault) (meant : Result X BootFault) → meant ≡ Err fault → Fails is_no_memory fault meant
fails NoMemory meant is = tt
fails UnknownSymbol meant is = is
fails Outside meant is = is

-- a list from a place on
pub next : {X : Type 0} → (xs : List X) (i : ℕ) (x : X) → i < length xs → x ≡ get_or xs i x → drop i xs ≡ x ∷ drop (i + 1) xs
next {X} xs i x below is = drop_more xs i x below ∙ ap (λ (one : X). one ∷ drop (i + 1) xs) (sym is)

-- what there is, and after it what comes, unless that is a fault
abbrev pub behind : {X : Type 0} → List X → Result (List X) BootFault → Result (List X) BootFault
behind xs (Ok more) = Ok (xs ++ more)
behind xs (Err fault) = Err fault

pub behind-more : {X : Type 0} (xs : List X) (x : X) (more : Result (List X) BootFault) → behind (xs ++ x ∷ []) more ≡ behind xs (more >>= (λ m. Ok (x ∷ m)))
behind-more xs x (Ok more) = ap Ok (append_assoc xs (x ∷ []) more)
behind-more xs x (Err fault) = refl

-- Tasks.

-- a task, and the others after it
with_others : ℕ → List Symbol → List TaskConfig → Placed → Result (List TaskSetup) BootFault
with_others size symbols others placed = setups_from size symbols placed.free others >>= (λ setups. Ok (placed.setup ∷ setups))

task-first : (size : ℕ) (symbols : List Symbol) (free : ℕ) (task : TaskConfig) (others : List TaskConfig) (placed : Result Placed BootFault) →
    placed_task size symbols free task ≡ placed → setups_from size symbols free (task ∷ others) ≡ (placed >>= with_others size symbols others)
unfolding setups_from with_others
task-first size symbols free task others placed is = ap (λ p. p >>= with_others size symbols others) is

tasks-next : (size : ℕ) (symbols : List Symbol) (free : ℕ) (tasks : List TaskConfig) (i : ℕ) (task : TaskConfig) (placed : Result Placed BootFault) →
    i < length tasks → task ≡ get_or tasks i task → placed_task size symbols free task ≡ placed →
    setups_from size symbols free (drop i tasks) ≡ (placed >>= with_others size symbols (drop (i + 1) tasks))
tasks-next size symbols free tasks i task placed below is places =
    ap (setups_from size symbols free) (next tasks i task below is) ∙ task-first size symbols free task (drop (i + 1) tasks) placed places

pub tasks-stop : (size : ℕ) (symbols : List Symbol) (free : ℕ) (tasks : List TaskConfig) (i : ℕ) (task : TaskConfig) (fault : BootFault) →
    i < length tasks → task ≡ get_or tasks i task → placed_task size symbols free task ≡ Err fault →
    setups_from size symbols free (drop i tasks) ≡ Err fault
tasks-stop size symbols free tasks i task fault below is places = tasks-next size symbols free tasks i task (Err fault) below is places

pub tasks-on : (size : ℕ) (symbols : List Symbol) (free : ℕ) (tasks : List TaskConfig) (i : ℕ) (task : TaskConfig) (placed : Placed) (setups : List TaskSetup) →
    i < length tasks → task ≡ get_or tasks i task → placed_task size symbols free task ≡ Ok placed →
    behind (setups ++ placed.setup ∷ []) (setups_from size symbols placed.free (drop (i + 1) tasks)) ≡ behind setups (setups_from size symbols free (drop i tasks))
unfolding with_others
tasks-on size symbols free tasks i task placed setups below is places =
    behind-more setups placed.setup (setups_from size symbols placed.free (drop (i + 1) tasks))
    ∙ ap (behind setups) (sym (tasks-next size symbols free tasks i task (Ok placed) below is places))

pub tasks-end : (size : ℕ) (symbols : List Symbol) (free : ℕ) (tasks : List TaskConfig) (i : ℕ) (setups : List TaskSetup) → length tasks ≤ i →
    behind setups (setups_from size symbols free (drop i tasks)) ≡ Ok setups
unfolding setups_from
tasks-end size symbols free tasks i setups past = ap (λ rest. behind setups (setups_from size symbols free rest)) (drop_all i tasks past) ∙ ap Ok (append-nil setups)

-- a task of a configuration is one that can be made
setup-of_task : (task : TaskConfig) (setup : TaskSetup) → IsTask 8 task → setup.id ≡ task.id → setup.cpu ≡ task.processor → IsSetup setup
setup-of_task task setup is same there = rw (same, there) (is.id.least, is.id.most, (is.processor.least, is.processor.most))

pub setups-more : (tasks : List TaskConfig) (i : ℕ) (task : TaskConfig) (setup : TaskSetup) (setups : List TaskSetup) → All (IsTask 8) tasks →
    i < length tasks → task ≡ get_or tasks i task → setup.id ≡ task.id → setup.cpu ≡ task.processor → All IsSetup setups → All IsSetup (setups ++ setup ∷ [])
setups-more tasks i task setup setups all below is same there have =
    let one : IsTask 8 task = rw is (all i task below) in
    All-append IsSetup setups (setup ∷ []) have (All-cons IsSetup setup [] (setup-of_task task setup one same there) (All-nil IsSetup))

-- Handlers.

-- a handler on its line, and the others after it
with_other_lines : ℕ → List Symbol → HandlerConfig → List HandlerConfig → ℕ → Result (List LineSetup) BootFault
with_other_lines size symbols handler others address = handlers_of size symbols others >>= (λ lines. Ok (line_of handler address ∷ lines))

handler-first : (size : ℕ) (symbols : List Symbol) (handler : HandlerConfig) (others : List HandlerConfig) (start : Result ℕ BootFault) →
    handler_address size symbols handler.address ≡ start → handlers_of size symbols (handler ∷ others) ≡ (start >>= with_other_lines size symbols handler others)
unfolding handlers_of with_other_lines
handler-first size symbols handler others start is = ap (λ s. s >>= with_other_lines size symbols handler others) is

handlers-next : (size : ℕ) (symbols : List Symbol) (handlers : List HandlerConfig) (i : ℕ) (handler : HandlerConfig) (start : Result ℕ BootFault) →
    i < length handlers → handler ≡ get_or handlers i handler → handler_address size symbols handler.address ≡ start →
    handlers_of size symbols (drop i handlers) ≡ (start >>= with_other_lines size symbols handler (drop (i + 1) handlers))
handlers-next size symbols handlers i handler start below is starts =
    ap (handlers_of size symbols) (next handlers i handler below is) ∙ handler-first size symbols handler (drop (i + 1) handlers) start starts

pub handlers-stop : (size : ℕ) (symbols : List Symbol) (handlers : List HandlerConfig) (i : ℕ) (handler : HandlerConfig) (fault : BootFault) →
    i < length handlers → handler ≡ get_or handlers i handler → handler_address size symbols handler.address ≡ Err fault →
    handlers_of size symbols (drop i handlers) ≡ Err fault
handlers-stop size symbols handlers i handler fault below is starts = handlers-next size symbols handlers i handler (Err fault) below is starts

pub handlers-on : (size : ℕ) (symbols : List Symbol) (handlers : List HandlerConfig) (i : ℕ) (handler : HandlerConfig) (address : ℕ) (lines : List LineSetup) →
    i < length handlers → handler ≡ get_or handlers i handler → handler_address size symbols handler.address ≡ Ok address →
    behind (lines ++ line_of handler address ∷ []) (handlers_of size symbols (drop (i + 1) handlers)) ≡ behind lines (handlers_of size symbols (drop i handlers))
unfolding with_other_lines
handlers-on size symbols handlers i handler address lines below is starts =
    behind-more lines (line_of handler address) (handlers_of size symbols (drop (i + 1) handlers))
    ∙ ap (behind lines) (sym (handlers-next size symbols handlers i handler (Ok address) below is starts))

pub handlers-end : (size : ℕ) (symbols : List Symbol) (handlers : List HandlerConfig) (i : ℕ) (lines : List LineSetup) → length handlers ≤ i →
    behind lines (handlers_of size symbols (drop i handlers)) ≡ Ok lines
unfolding handlers_of
handlers-end size symbols handlers i lines past = ap (λ rest. behind lines (handlers_of size symbols rest)) (drop_all i handlers past) ∙ ap Ok (append-nil lines)

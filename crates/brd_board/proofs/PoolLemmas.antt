-- Memory pools, one after the other.
use Rattle.std.proofs.Common.{◌≡◌, ℕ, ◌+◌, ◌<◌, ◌≤◌, List, [], ◌∷◌, ◌++◌, length, drop, get_or, sym, ap, ◌∙◌}
use Rattle.std.specs.Prelude.{Result, Ok, Err}
use Rattle.std.proofs.lemmas.List.{drop_all, append-nil}
use Rattle.brd_text.specs.Faults.{◌>>=◌}
use Rattle.brd_mem.specs.declared.image.Symbol.{Symbol}
use Rattle.brd_config.specs.declared.objects.TaskConfig.{TaskConfig}
use Rattle.brd_config.specs.declared.objects.PoolConfig.{PoolConfig}
use Rattle.brd_objects.specs.declared.block.PoolSetup.{PoolSetup}
use Rattle.brd_board.specs.declared.boot.BootFault.{BootFault}
use Rattle.brd_board.specs.declared.pools.PlacedPool.{PlacedPool}
use Rattle.brd_board.specs.Setup.{below_stack, below_stacks, placed_pool, pools_from}
use Rattle.brd_board.proofs.SetupLemmas.{next, behind, behind-more}

-- below the stacks of the tasks that are left

pub stacks-on : (free : ℕ) (tasks : List TaskConfig) (i : ℕ) (task : TaskConfig) → i < length tasks → task ≡ get_or tasks i task →
    below_stacks free (drop i tasks) ≡ below_stacks (below_stack free task.stack_size task.stack) (drop (i + 1) tasks)
unfolding below_stacks
stacks-on free tasks i task below is = ap (below_stacks free) (next tasks i task below is)

pub stacks-end : (free : ℕ) (tasks : List TaskConfig) (i : ℕ) → length tasks ≤ i → below_stacks free (drop i tasks) ≡ free
unfolding below_stacks
stacks-end free tasks i past = ap (below_stacks free) (drop_all i tasks past)

-- a pool, and the others after it
with_others : ℕ → List Symbol → List PoolConfig → PlacedPool → Result (List PoolSetup) BootFault
with_others size symbols others placed = pools_from size symbols placed.free others >>= (λ setups. Ok (placed.setup ∷ setups))

pool-first : (size : ℕ) (symbols : List Symbol) (free : ℕ) (pool : PoolConfig) (others : List PoolConfig) (placed : Result PlacedPool BootFault) →
    placed_pool size symbols free pool ≡ placed → pools_from size symbols free (pool ∷ others) ≡ (placed >>= with_others size symbols others)
unfolding pools_from with_others
pool-first size symbols free pool others placed is = ap (λ p. p >>= with_others size symbols others) is

pools-next : (size : ℕ) (symbols : List Symbol) (free : ℕ) (pools : List PoolConfig) (i : ℕ) (pool : PoolConfig) (placed : Result PlacedPool BootFault) →
    i < length pools → pool ≡ get_or pools i pool → placed_pool size symbols free pool ≡ placed →
    pools_from size symbols free (drop i pools) ≡ (placed >>= with_others size symbols (drop (i + 1) pools))
pools-next size symbols free pools i pool placed below is places =
    ap (pools_from size symbols free) (next pools i pool below is) ∙ pool-first size symbols free pool (drop (i + 1) pools) placed places

pub pools-stop : (size : ℕ) (symbols : List Symbol) (free : ℕ) (pools : List PoolConfig) (i : ℕ) (pool : PoolConfig) (fault : BootFault) →
    i < length pools → pool ≡ get_or pools i pool → placed_pool size symbols free pool ≡ Err fault →
    pools_from size symbols free (drop i pools) ≡ Err fault
pools-stop size symbols free pools i pool fault below is places = pools-next size symbols free pools i pool (Err fault) below is places

pub pools-on : (size : ℕ) (symbols : List Symbol) (free : ℕ) (pools : List PoolConfig) (i : ℕ) (pool : PoolConfig) (placed : PlacedPool) (setups : List PoolSetup) →
    i < length pools → pool ≡ get_or pools i pool → placed_pool size symbols free pool ≡ Ok placed →
    behind (setups ++ placed.setup ∷ []) (pools_from size symbols placed.free (drop (i + 1) pools)) ≡ behind setups (pools_from size symbols free (drop i pools))
unfolding with_others
pools-on size symbols free pools i pool placed setups below is places =
    behind-more setups placed.setup (pools_from size symbols placed.free (drop (i + 1) pools))
    ∙ ap (behind setups) (sym (pools-next size symbols free pools i pool (Ok placed) below is places))

pub pools-end : (size : ℕ) (symbols : List Symbol) (free : ℕ) (pools : List PoolConfig) (i : ℕ) (setups : List PoolSetup) → length pools ≤ i →
    behind setups (pools_from size symbols free (drop i pools)) ≡ Ok setups
unfolding pools_from
pools-end size symbols free pools i setups past = ap (λ rest. behind setups (pools_from size symbols free rest)) (drop_all i pools past) ∙ ap Ok (append-nil setups)

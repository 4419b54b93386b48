-- Waits that end by time, and waits for an event flag, one after the other.
use Rattle.std.proofs.Common.{◌≡◌, ◌<◌, ◌≤◌, ℕ, zero, suc, ◌+◌, List, [], ◌∷◌, length, refl, sym, ap, subst, ◌∙◌, arith}
use Rattle.std.specs.Prelude.{Option, None, Some, IfSome, slice_index_or, slice_set, nat_lt, Bool, true, false}
use Rattle.std.specs.Option.{option_map}
use Rattle.std.proofs.lemmas.Bool.Decides.{nat_tests}
use Rattle.std.proofs.lemmas.Grind.{get_or-set_at}
use Rattle.std.proofs.Math.ListN.{get_or-eq_default}
use Rattle.brd_tasks.specs.declared.status.WaitReason.{WaitReason}
use Rattle.brd_tasks.specs.declared.status.WaitReason.TheVariants as reason
use Rattle.brd_tasks.specs.declared.status.WaitKind.{WaitKind}
use Rattle.brd_tasks.specs.declared.status.WaitKind.TheVariants as kind
use Rattle.brd_time.specs.Time.{Time, with_due, due_from, next_due_of}
use Rattle.brd_time.proofs.TimeLemmas.{due-some, due-none, due-above}
use Rattle.brd_objects.specs.declared.flag.Flag.{Flag}
use Rattle.brd_objects.specs.Table.{Table, object_at, object_changed}
use Rattle.brd_queue.specs.declared.entry.QueueEntry.{QueueEntry}
use Rattle.brd_objects.specs.declared.want.Want.{Want}
use Rattle.brd_objects.specs.Waiters.{first_satisfied, WantBits}
use Rattle.brd_objects.specs.Flags.{all_released, with_all_released, released_to, next_released, with_next_released, next_released_in}
use Rattle.brd_objects.proofs.LawLemmas.{turn, ended, second, shorter}
use Rattle.brd_kernel.specs.Answer.{e_ok}
use Rattle.brd_kernel.specs.Kernel.{KernelState}
use Rattle.brd_kernel.specs.Waits.{Change, changed_of, changed_for, leaving, moving, released_in, reason_of, unlisted_from, reordered_in, timed_out, all_timed_out}
use Rattle.brd_kernel.specs.Services.{with_all_released_in, with_satisfied_of, with_satisfied_released}

-- A task that leaves the list of what it waits for, or gets another place there, changes nothing but lists.

pub record OnlyLists (k new : KernelState) : Type 0 where
  pub tasks : new.tasks ≡ k.tasks
  pub time : new.time ≡ k.time
  pub processors : new.processors ≡ k.processors
  pub spin_locks : new.spin_locks ≡ k.spin_locks
  pub standard : new.standard ≡ k.standard

nothing : (k : KernelState) → OnlyLists k k
nothing k = record { tasks = refl; time = refl; processors = refl; spin_locks = refl; standard = refl }

of-only : (change : Change) (k : KernelState) (what : WaitKind) → OnlyLists k (changed_of change k what)
of-only change k kind.Semaphore = record { tasks = refl; time = refl; processors = refl; spin_locks = refl; standard = refl }
of-only change k _ = record { tasks = refl; time = refl; processors = refl; spin_locks = refl; standard = refl }

for-only : (change : Change) (k : KernelState) (why : Option WaitReason) → OnlyLists k (changed_for change k why)
for-only change k None = nothing k
for-only change k (Some reason.Sleep) = nothing k
for-only change k (Some reason.Delay) = nothing k
for-only change k (Some (reason.On what object)) = of-only change k what

pub unlisted-only : (k : KernelState) (id : ℕ) (why : Option WaitReason) → OnlyLists k (unlisted_from k id why)
unlisted-only k id why = for-only (leaving id) k why

pub reordered-only : (k : KernelState) (id priority : ℕ) (why : Option WaitReason) → OnlyLists k (reordered_in k id priority why)
reordered-only k id priority why = for-only (moving id priority) k why

-- Waits that end by time.

time-out : (k : KernelState) (id : ℕ) → (timed_out k id).time ≡ with_due k.time id None
time-out k id = ap (λ (t : Time). with_due t id None) (unlisted-only k id (reason_of k id)).time

-- the wait of the next one has ended
pub timed-turn : (k new : KernelState) (from id : ℕ) → next_due_of k.time from ≡ Some id → new ≡ timed_out k id →
    all_timed_out new (due_from new.time (id + 1)) ≡ all_timed_out k (due_from k.time from)
timed-turn k new from id found is =
    ap (λ (s : KernelState). all_timed_out s (due_from s.time (id + 1))) is
    ∙ ap (all_timed_out (timed_out k id)) (ap (λ (t : Time). due_from t (id + 1)) (time-out k id) ∙ due-above k.time id (id + 1) None (omega arith))
    ∙ sym (ap (all_timed_out k) (due-some k.time from id found))

pub timed-end : (k : KernelState) (from : ℕ) → next_due_of k.time from ≡ None → all_timed_out k (due_from k.time from) ≡ k
timed-end k from none = ap (all_timed_out k) (due-none k.time from none)

-- Waits for an event flag.

-- an object that is there lies within its table
within-by : {X : Type 0} → (small : Bool) (table : Table X) (id : ℕ) (x : X) → nat_lt id (length table) ≡ small → object_at table id ≡ Some x → id < length table
within-by true table id x test there = grind (arith, nat_tests, test)
within-by false table id x test there =
    let past : length table ≤ id = grind (arith, nat_tests, test) in
    let none : object_at table id ≡ None = get_or-eq_default table None past in
    let wrong : ⊥ = cc in
    absurd wrong

within : {X : Type 0} → (table : Table X) (id : ℕ) (x : X) → object_at table id ≡ Some x → id < length table
within table id x there = within-by (nat_lt id (length table)) table id x refl there

set-twice : {A : Type 0} → (xs : List A) (i : ℕ) (x y : A) → slice_set (slice_set xs i x) i y ≡ slice_set xs i y
set-twice [] i x y = refl
set-twice (a ∷ as') zero x y = refl
set-twice (a ∷ as') (suc i) x y = ap (λ l. a ∷ l) (set-twice as' i x y)

-- how many wait
abbrev pub waiting_in : Option Flag → ℕ
waiting_in None = 0
waiting_in (Some f) = length f.waiters

-- what one release leaves to be done
pub record IsTurn (k new : KernelState) (id : ℕ) : Type 0 where
  pub same : with_satisfied_released new id ≡ with_satisfied_released k id
  pub less : waiting_in (object_at new.flags id) < waiting_in (object_at k.flags id)

-- the kernel with another table of flags
abbrev with_flags : KernelState → Table Flag → KernelState
with_flags k flags = record k { flags = flags }

turn-there : (k : KernelState) (id task pattern : ℕ) (f : Flag) → object_at k.flags id ≡ Some f → WantBits f.waiters → next_released f ≡ Some (task, pattern) →
    IsTurn k (released_in (with_flags k (object_changed with_next_released k.flags id)) task e_ok (Some pattern)) id
turn-there k id task pattern f there bits next =
    let inside : id < length k.flags = within k.flags id f there in
    let f' : Flag = with_next_released f in
    let set : object_changed with_next_released k.flags id ≡ slice_set k.flags id (Some f') = ap (λ o. slice_set k.flags id (option_map with_next_released o)) there in
    let then : object_at (object_changed with_next_released k.flags id) id ≡ Some f' = ap (λ t. object_at t id) set ∙ get_or-set_at k.flags id id (Some f') None refl inside in
    let step = turn f task pattern bits next in
    let all : object_changed with_all_released (object_changed with_next_released k.flags id) id ≡ object_changed with_all_released k.flags id =
    ap (λ o. slice_set (object_changed with_next_released k.flags id) id (option_map with_all_released o)) then
    ∙ ap (λ t. slice_set t id (Some (with_all_released f'))) set
    ∙ set-twice k.flags id (Some f') (Some (with_all_released f'))
    ∙ ap (λ g. slice_set k.flags id (Some g)) (sym step.2)
    ∙ sym (ap (λ o. slice_set k.flags id (option_map with_all_released o)) there) in
    let k' : KernelState = released_in (with_flags k (object_changed with_next_released k.flags id)) task e_ok (Some pattern) in
    let done : KernelState = with_flags k (object_changed with_all_released k.flags id) in
    record {
      same =
          ap (with_satisfied_of k' id) then
          ∙ ap (λ t. with_all_released_in (released_in (with_flags k t) task e_ok (Some pattern)) (all_released f') f'.pattern) all
          ∙ second f task pattern (λ ids p. with_all_released_in (released_in done task e_ok (Some pattern)) ids p) (λ p q. refl) bits next
          ∙ ap (λ p. with_all_released_in (released_in done task e_ok (Some p)) (all_released f') f.pattern) step.0
          ∙ sym (ap (with_satisfied_of k id) there ∙ ap (λ ids. with_all_released_in done ids f.pattern) step.1);
      less = subst (λ o. waiting_in o < waiting_in (object_at k.flags id)) (sym then) (subst (λ o. length f'.waiters < waiting_in o) (sym there) (shorter f task pattern next));
    }

turn-of : (k : KernelState) (id task pattern : ℕ) (found : Option Flag) → object_at k.flags id ≡ found → IfSome found (λ f. WantBits f.waiters) → next_released_in found ≡ Some (task, pattern) →
    IsTurn k (released_in (with_flags k (object_changed with_next_released k.flags id)) task e_ok (Some pattern)) id
turn-of k id task pattern None there bits next = let wrong : ⊥ = cc in absurd wrong
turn-of k id task pattern (Some f) there bits next = turn-there k id task pattern f there bits next

pub released-turn : (k new : KernelState) (flags : Table Flag) (id task pattern : ℕ) → IfSome (object_at k.flags id) (λ f. WantBits f.waiters) →
    next_released_in (object_at k.flags id) ≡ Some (task, pattern) → flags ≡ object_changed with_next_released k.flags id →
    new ≡ released_in (with_flags k flags) task e_ok (Some pattern) → IsTurn k new id
released-turn k new flags id task pattern bits next flags_are is =
    subst (λ s. IsTurn k s id) (sym (is ∙ ap (λ t. released_in (with_flags k t) task e_ok (Some pattern)) flags_are)) (turn-of k id task pattern (object_at k.flags id) refl bits next)

pub same-set : {A : Type 0} → (xs : List A) (i : ℕ) (d : A) → slice_set xs i (slice_index_or xs i d) ≡ xs
same-set [] i d = refl
same-set (x ∷ xs) zero d = refl
same-set (x ∷ xs) (suc i) d = ap (λ l. x ∷ l) (same-set xs i d)

end-of : (k : KernelState) (id : ℕ) (found : Option Flag) → object_at k.flags id ≡ found → next_released_in found ≡ None → with_satisfied_of k id found ≡ k
end-of k id None there next = refl
end-of k id (Some f) there next =
    let over = ended f next in
    let same : object_changed with_all_released k.flags id ≡ k.flags =
    ap (λ o. slice_set k.flags id (option_map with_all_released o)) there ∙ ap (λ g. slice_set k.flags id (Some g)) over.1 ∙ ap (slice_set k.flags id) (sym there) ∙ same-set k.flags id None in
    ap (λ ids. with_all_released_in (with_flags k (object_changed with_all_released k.flags id)) ids f.pattern) over.0 ∙ ap (with_flags k) same

nobody-of : (f : Flag) (found : Option (QueueEntry Want)) → first_satisfied f.pattern f.waiters ≡ found → option_map {U = ℕ × ℕ} (λ e. (e.id, f.pattern)) found ≡ None → released_to f found ≡ f
nobody-of f None is next = refl
nobody-of f (Some e) is next = let wrong : ⊥ = cc in absurd wrong

unchanged-of : (k : KernelState) (id : ℕ) (found : Option Flag) → object_at k.flags id ≡ found → next_released_in found ≡ None → object_changed with_next_released k.flags id ≡ k.flags
unchanged-of k id None there next = ap (λ o. slice_set k.flags id (option_map with_next_released o)) there ∙ ap (slice_set k.flags id) (sym there) ∙ same-set k.flags id None
unchanged-of k id (Some f) there next =
    ap (λ o. slice_set k.flags id (option_map with_next_released o)) there
    ∙ ap (λ g. slice_set k.flags id (Some g)) (nobody-of f (first_satisfied f.pattern f.waiters) refl next)
    ∙ ap (slice_set k.flags id) (sym there) ∙ same-set k.flags id None

-- where nobody is released, nothing changes
pub released-end : (k : KernelState) (flags : Table Flag) (id : ℕ) → next_released_in (object_at k.flags id) ≡ None → flags ≡ object_changed with_next_released k.flags id →
    with_flags k flags ≡ with_satisfied_released k id
released-end k flags id next are =
    ap (with_flags k) (are ∙ unchanged-of k id (object_at k.flags id) refl next) ∙ sym (end-of k id (object_at k.flags id) refl next)

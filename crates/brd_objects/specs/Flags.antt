-- Event flags (uITRON 4.0 specification, "Eventflags"): a bit pattern, and the tasks that wait for bits of it.
use Rattle.std.specs.Prelude.{ℕ, Bool, not, ◌&&◌, if◌then◌else◌, List, [], ◌∷◌, Option, None, Some}
use Rattle.std.specs.Option.{option_map}
use Rattle.std.specs.Int.RustNames.{bit_and, bit_or}
use Rattle.brd_config.specs.declared.objects.FlagConfig.{FlagConfig}
use Rattle.brd_queue.specs.declared.entry.QueueEntry.{QueueEntry}
use Rattle.brd_queue.specs.Queue.{without, placed, reordered, is_empty}
use Rattle.brd_objects.specs.QueueOrder.{has_attribute, order_of}
use Rattle.brd_objects.specs.Table.{Table, made_below}
use Rattle.brd_objects.specs.declared.want.Want.{Want}
use Rattle.brd_objects.specs.Waiters.{satisfies, first_satisfied, without_satisfied}
use Rattle.brd_objects.specs.declared.flag.Flag.{Flag}

-- TA_WMUL: several tasks may wait
abbrev pub ta_wmul : ℕ
ta_wmul = 2

-- TA_CLR: a release clears the pattern
abbrev pub ta_clr : ℕ
ta_clr = 4

-- as the configuration says it: nobody waits
abbrev pub flag_of : FlagConfig → Flag
flag_of config = record {
  pattern = config.pattern;
  order = order_of config.attributes.0;
  many = has_attribute config.attributes.0 ta_wmul;
  clears = has_attribute config.attributes.0 ta_clr;
  waiters = [];
}

abbrev pub made_flags : List FlagConfig → Table Flag
made_flags configs = made_below (λ config. config.id) flag_of configs 256

-- bits are set
abbrev pub joined : ℕ → Flag → Flag
joined bits f = record f { pattern = bit_or f.pattern bits }

-- all bits but these are cleared
abbrev pub masked : ℕ → Flag → Flag
masked bits f = record f { pattern = bit_and f.pattern bits }

-- what a release leaves of the pattern
abbrev pub pattern_left : Bool → ℕ → ℕ
pattern_left clears pattern = if clears then 0 else pattern

-- A wait that is satisfied at once: the pattern that it gets, and the flag after it.

abbrev pub pattern_for : Want → Flag → Option ℕ
pattern_for want f = if satisfies f.pattern want then Some f.pattern else None

abbrev pub taken_for : Want → Flag → Flag
taken_for want f = if satisfies f.pattern want then record f { pattern = pattern_left f.clears f.pattern } else f

-- somebody waits, and nobody else may (TA_WSGL)
abbrev pub is_occupied : Flag → Bool
is_occupied f = not f.many && not (is_empty f.waiters)

-- a task waits
abbrev pub flag_awaited : ℕ → ℕ → Want → Flag → Flag
flag_awaited id priority want f =
    record f { waiters = placed f.order (record { id = id; priority = priority; wanted = want }) f.waiters }

-- a task no longer waits
abbrev pub flag_left : ℕ → Flag → Flag
flag_left id f = record f { waiters = without id f.waiters }

-- a task that waits is given a priority: by arrival it keeps its place, by priority it comes after its equals
abbrev pub flag_reordered : ℕ → ℕ → Flag → Flag
flag_reordered id priority f = record f { waiters = reordered f.order id priority f.waiters }

-- Who is released, one after the other: the first waiter that the pattern satisfies leaves with that pattern, and under
-- TA_CLR clears it.

abbrev pub released_to : Flag → Option (QueueEntry Want) → Flag
released_to f None = f
released_to f (Some e) =
    record f { pattern = pattern_left f.clears f.pattern; waiters = without_satisfied f.pattern f.waiters }

abbrev pub with_next_released : Flag → Flag
with_next_released f = released_to f (first_satisfied f.pattern f.waiters)

abbrev pub next_released : Flag → Option (ℕ × ℕ)
next_released f = option_map (λ e. (e.id, f.pattern)) (first_satisfied f.pattern f.waiters)

-- All who are released, from the front of a waiting list: who is satisfied leaves with the pattern; under TA_CLR the
-- first of them clears it, and the rest of the list stays as it is.

abbrev pub pattern_after : Bool → ℕ → List (QueueEntry Want) → ℕ
pattern_after clears pattern [] = pattern
pattern_after clears pattern (first ∷ others) =
    if clears && satisfies pattern first.wanted then 0 else pattern_after clears pattern others

abbrev pub released_of : Bool → ℕ → List (QueueEntry Want) → List ℕ
released_of clears pattern [] = []
released_of clears pattern (first ∷ others) =
    if satisfies pattern first.wanted then first.id ∷ (if clears then [] else released_of clears pattern others)
    else released_of clears pattern others

abbrev pub kept_of : Bool → ℕ → List (QueueEntry Want) → List (QueueEntry Want)
kept_of clears pattern [] = []
kept_of clears pattern (first ∷ others) =
    if satisfies pattern first.wanted then (if clears then others else kept_of clears pattern others)
    else first ∷ kept_of clears pattern others

abbrev pub all_released : Flag → List ℕ
all_released f = released_of f.clears f.pattern f.waiters

abbrev pub with_all_released : Flag → Flag
with_all_released f =
    record f { pattern = pattern_after f.clears f.pattern f.waiters; waiters = kept_of f.clears f.pattern f.waiters }

-- Of a flag that may not be there.

abbrev pub next_released_in : Option Flag → Option (ℕ × ℕ)
next_released_in None = None
next_released_in (Some f) = next_released f

abbrev pub pattern_for_in : Want → Option Flag → Option ℕ
pattern_for_in want None = None
pattern_for_in want (Some f) = pattern_for want f

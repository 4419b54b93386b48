-- Who takes the steps of a plan, by its rule (own choice); docs/dev/INSIDE.md has the rules in words. Steps are
-- counted from 0, processors from 1. Contracts of private functions alone name `Drawn` and `Lowered` of the code.
use Rattle.std.specs.Prelude.{◌≡◌, ℕ, zero, suc, ◌+◌, ◌-◌, ◌/◌, ◌%◌, ◌^◌, ◌==◌, ◌<◌, min, max, nat_lt}
use Rattle.std.specs.Prelude.{nat_le, ◌&&◌, if◌then◌else◌, List, [], ◌∷◌, ◌++◌, map, set, length}
use Rattle.std.specs.List.{sum}
use Rattle.rand.specs.Shuffle.{shuffled}
use Rattle.rand.specs.Uniform.{canon}
use Rattle.rand_core.specs.Pcg32Seed.{pcg32_seed}
use Rattle.rand_core.specs.Steps.{steps_u32, stream_of}
use Rattle.rand_core.specs.Stream.{Stream, next_u32}
use Rattle.rand_pcg.specs.Lcg.{Lcg}
use Rattle.rand_pcg.specs.Pcg.{pcg32, pcg32_of_seed}
use Rattle.brd_schedule.specs.declared.plan.Plan.{Plan}
use Rattle.brd_schedule.specs.declared.plan.Rule.{Rule}
use Rattle.brd_schedule.specs.declared.plan.Rule.TheVariants as rule
use Rattle.brd_schedule.specs.declared.drawn.Drawn as drawing
use Rattle.brd_schedule.specs.declared.chooser.Chooser.{Chooser}
use Rattle.brd_schedule.specs.declared.chooser.Chooser.TheVariants.{Turns, Drawn, Lowered}

-- the words that a generator gives, and those that the generator of a seed gives
abbrev pub words_of : Lcg → Stream
words_of rng = stream_of (steps_u32 pcg32) rng

abbrev pub words_from : ℕ → Stream
words_from seed = words_of (pcg32_of_seed (pcg32_seed 16 seed))

-- a number below `end`, and the words that are left
unfoldable pub below : ℕ → Stream → ℕ × Stream
below end words = canon (2 ^ 32) next_u32 end words

-- in turns, `each` steps each: who takes the step after n others
abbrev pub turn : ℕ → ℕ → ℕ → ℕ
turn cpus each others = others / max each 1 % cpus + 1

-- the processor to whose share of the weights a number belongs; the first of the weights is that of the processor `cpu`
abbrev pub owner : ℕ → List ℕ → ℕ → ℕ
owner cpu [] number = cpu
owner cpu (weight ∷ weights) number = if nat_lt number weight then cpu else owner (cpu + 1) weights (number - weight)

-- a processor that is drawn by the weights, and the words that are left
unfoldable pub drawn : List ℕ → Stream → ℕ × Stream
drawn weights words =
    let number = below (max (min (sum weights) (2 ^ 32 - 1)) 1) words in
    (owner 1 weights number.0, number.1)

-- before a step: with a chance of `switch` in a thousand another is drawn, else the one before goes on
unfoldable pub drawn_on : ℕ → List ℕ → ℕ × Stream → ℕ × Stream
drawn_on switch weights state =
    let number = below 1000 state.1 in
    if nat_lt number.0 switch then drawn weights number.1 else (state.0, number.1)

-- who took the last of n steps, or before the first one who was drawn at first, and the words that are left
unfoldable pub drawn_before : ℕ → ℕ → List ℕ → ℕ → ℕ × Stream
drawn_before seed switch weights zero = drawn weights (words_from seed)
drawn_before seed switch weights (suc others) = drawn_on switch weights (drawn_before seed switch weights others)

-- n numbers below `end`, and the words that are left
unfoldable pub numbers : ℕ → ℕ → Stream → List ℕ × Stream
numbers end zero words = ([], words)
numbers end (suc n) words =
    let before = numbers end n words in
    let number = below end before.1 in
    (before.0 ++ number.0 ∷ [], number.1)

-- the steps before which a priority is lowered, and the words that are left
abbrev pub changes_of : ℕ → ℕ → ℕ → List ℕ × Stream
changes_of seed changes steps = numbers (max steps 1) changes (words_from seed)

-- the priorities at first: each is above all to which one is lowered
abbrev pub priorities_at_first : ℕ → ℕ → ℕ → List ℕ
priorities_at_first seed changes steps =
    map (λ number. min (number + changes) (2 ^ 32 - 1))
    (shuffled (0 ∷ 1 ∷ 2 ∷ 3 ∷ 4 ∷ 5 ∷ 6 ∷ 7 ∷ []) 0 (changes_of seed changes steps).1).0

-- of n processors that of the highest priority from `cpu` on, the last of several; `best` has the highest before it
abbrev pub highest_from : ℕ → ℕ → ℕ → ℕ → List ℕ → ℕ
highest_from cpus cpu best most [] = best
highest_from cpus cpu best most (priority ∷ priorities) =
    if nat_le cpu cpus && nat_le most priority then highest_from cpus (cpu + 1) cpu priority priorities
    else highest_from cpus (cpu + 1) best most priorities

-- the processor of the highest priority, of n
unfoldable pub highest : ℕ → List ℕ → ℕ
highest cpus priorities = highest_from cpus 1 1 0 priorities

-- Priorities before the step after n others: at each of these changes that is due, the highest gets the change's
-- number.
abbrev pub lowered_by : ℕ → ℕ → ℕ → List ℕ → List ℕ → List ℕ
lowered_by cpus others number [] priorities = priorities
lowered_by cpus others number (change ∷ changes) priorities =
    lowered_by cpus others (number + 1) changes
    (if change == others then set priorities (highest cpus priorities - 1) number else priorities)

-- the priorities by which the last of n steps was taken, or before the first one those at first
unfoldable pub priorities_before : ℕ → List ℕ → List ℕ → ℕ → List ℕ
priorities_before cpus changes first zero = first
priorities_before cpus changes first (suc others) =
    lowered_by cpus others 0 changes (priorities_before cpus changes first others)

-- the processor, as one of n
abbrev pub within : ℕ → ℕ → ℕ
within cpus cpu = min (max cpu 1) cpus

-- who takes the step after n others, of a plan's processors and of so many events
abbrev pub chosen : ℕ → ℕ → Rule → ℕ → ℕ
chosen cpus events (rule.InTurns each) others = turn cpus each others
chosen cpus events (rule.Drawn seed switch weights) others = (drawn_before seed switch weights (suc others)).0
chosen cpus events (rule.Lowered seed changes) others =
    highest cpus (
    priorities_before cpus (changes_of seed changes events).0 (priorities_at_first seed changes events) (suc others))

unfoldable pub stepper : Plan → ℕ → ℕ
stepper plan others = within plan.cpus (chosen plan.cpus plan.events plan.rule others)

-- what a processor that is drawn by weights comes from
abbrev pub state_of : drawing.Drawn → ℕ × Stream
state_of drawing = (drawing.cpu, words_of drawing.rng)

-- the rule of a plan at work before the step after n others
abbrev pub IsAt : ℕ → ℕ → Rule → ℕ → Chooser → Type 0
IsAt cpus events (rule.InTurns each) others (Turns held) = held ≡ each
IsAt cpus events (rule.Drawn seed switch weights) others (Drawn drawing) =
    (state_of drawing ≡ drawn_before seed switch weights others)
    × (drawing.switch ≡ switch) × (drawing.weights ≡ weights)
IsAt cpus events (rule.Lowered seed changes) others (Lowered lowered) =
    (lowered.changes.items ≡ (changes_of seed changes events).0)
    × (lowered.priorities
    ≡ priorities_before cpus (changes_of seed changes events).0 (priorities_at_first seed changes events) others)
    × (length lowered.changes.items < 2 ^ 32)
IsAt cpus events rule others chooser = ⊥

abbrev pub IsBefore : Plan → ℕ → Chooser → Type 0
IsBefore plan others chooser = IsAt plan.cpus plan.events plan.rule others chooser

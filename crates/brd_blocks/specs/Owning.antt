-- Who may touch which word of RAM, and which tasks others may terminate.
use Rattle.std.specs.Prelude.{◌≡◌, ℕ, ◌-◌, ◌/◌, ◌==◌, nat_le, Bool, true, false, ◌||◌, if◌then◌else◌}
use Rattle.std.specs.Prelude.{List, slice_index_or, Option, None, Some}
use Rattle.brd_base.specs.Space.{base}
use Rattle.brd_frames.specs.Agents as agents
use Rattle.brd_frames.specs.Agents.{Agent}
use Rattle.brd_frames.specs.Lagging.{Sharing}
use Rattle.brd_blocks.specs.declared.owner.Owner.{Owner}
use Rattle.brd_blocks.specs.declared.owner.Owner.TheVariants as owner

abbrev pub is_shared : Owner → Bool
is_shared owner.Nobody = false
is_shared (owner.Task id) = false
is_shared (owner.Handler cpu) = false
is_shared owner.Shared = true

-- the agent whose own such a word is
abbrev pub agent_of : Owner → Option Agent
agent_of owner.Nobody = None
agent_of (owner.Task id) = Some (agents.Task id)
agent_of (owner.Handler cpu) = Some (agents.Handler cpu)
agent_of owner.Shared = None

-- the owner of an agent's own words
abbrev pub owner_of : Agent → Owner
owner_of (agents.Task id) = owner.Task id
owner_of (agents.Handler cpu) = owner.Handler cpu

-- an agent's own words
abbrev pub is_own : Owner → Owner → Bool
is_own (owner.Task id) (owner.Task other) = id == other
is_own (owner.Handler cpu) (owner.Handler other) = cpu == other
is_own _ _ = false

-- the words to which an agent may store, and those that it may touch
abbrev pub may_store : Owner → Owner → Bool
may_store me it = is_shared it || is_own me it

abbrev pub may_touch : Owner → Owner → Bool
may_touch me owner.Nobody = true
may_touch me (owner.Task id) = may_store me (owner.Task id)
may_touch me (owner.Handler cpu) = may_store me (owner.Handler cpu)
may_touch me owner.Shared = may_store me owner.Shared

-- Whose the word of an address is, by RAM's words. All may touch addresses outside them: who does raises an exception.
abbrev pub owner_at : List Owner → ℕ → Owner
owner_at owners address =
    if nat_le base address then slice_index_or owners ((address - base) / 4) owner.Shared else owner.Shared

-- whether others may terminate a task, by the tasks of which that is known; of one beyond them it is assumed
abbrev pub is_mortal : List Bool → ℕ → Bool
is_mortal mortals id = slice_index_or mortals id true

-- nobody terminates a handler
abbrev pub is_mortal_agent : List Bool → Agent → Bool
is_mortal_agent mortals (agents.Task id) = is_mortal mortals id
is_mortal_agent mortals (agents.Handler cpu) = false

-- what is known: the owners of RAM's words, and of the tasks by ID whether others may terminate them
pub record Known : Type 0 where
  pub owners : List Owner
  pub mortals : List Bool

-- the same of each address and each agent
abbrev pub sharing_of : Known → Sharing
sharing_of known = record {
  shared = λ address. is_shared (owner_at known.owners address);
  owner = λ address. agent_of (owner_at known.owners address);
  mortal = is_mortal_agent known.mortals;
  seen = λ address. false;
}

-- all that was shared stays shared
abbrev pub StaysShared : Sharing → Sharing → Type 0
StaysShared old new = (address : ℕ) → old.shared address ≡ true → new.shared address ≡ true

abbrev pub StayShared : Known → Known → Type 0
StayShared old new = StaysShared (sharing_of old) (sharing_of new)

-- each agent that was mortal stays so
abbrev pub StayMortal : Known → Known → Type 0
StayMortal old new = (who : Agent) → (sharing_of old).mortal who ≡ true → (sharing_of new).mortal who ≡ true

-- the same of words alone, and of tasks alone

abbrev pub WordsStayShared : List Owner → List Owner → Type 0
WordsStayShared old new =
    (address : ℕ) → is_shared (owner_at old address) ≡ true → is_shared (owner_at new address) ≡ true

abbrev pub TasksStayMortal : List Bool → List Bool → Type 0
TasksStayMortal old new = (id : ℕ) → is_mortal old id ≡ true → is_mortal new id ≡ true

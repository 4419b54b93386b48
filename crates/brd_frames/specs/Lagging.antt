-- Agents that lag: one board is another one on which some agents have yet to do instructions that nobody else can see.
use Rattle.std.specs.Prelude.{◌≡◌, ℕ, zero, suc, ◌==◌, Bool, true, false, if◌then◌else◌, List, [], ◌∷◌, Option}
use Rattle.std.specs.Prelude.{Some, IfSome}
use Rattle.brd_board.specs.Board.{BoardState}
use Rattle.brd_frames.specs.Agents as agents
use Rattle.brd_frames.specs.Agents.{Agent, context_in}
use Rattle.brd_frames.specs.Apart.{is_steady}
use Rattle.brd_frames.specs.Touching.{touches, stores}
use Rattle.brd_frames.specs.Going.{Gone, goes}
use Rattle.brd_frames.specs.Commuting.{agent_goes}

-- What agents may do to each other: which addresses of RAM they share; of each other address, who alone may store to
-- it; which agents are mortal: others may terminate them; and to which instructions, by their addresses, nobody comes
-- unseen.
pub record Sharing : Type 0 where
  pub shared : ℕ → Bool
  pub owner : ℕ → Option Agent
  pub mortal : Agent → Bool
  pub seen : ℕ → Bool

-- The next instruction of an agent keeps to that: where it stores to an address that isn't shared, the agent owns it;
-- and where it touches one, nobody else owns it.
pub record Keeps (by : Sharing) (b : BoardState) (who : Agent) : Type 0 where
  pub owns : (address : ℕ) → stores (context_in b.kernel who) b.memory address ≡ true →
      by.shared address ≡ false → by.owner address ≡ Some who
  pub alone : (address : ℕ) → touches (context_in b.kernel who) b.memory address ≡ true →
      by.shared address ≡ false → IfSome (by.owner address) (λ other. other ≡ who)

-- An agent's next instruction, if it goes on, comes to none to which nobody comes unseen.
abbrev pub StaysUnseen : Sharing → BoardState → Agent → Type 0
StaysUnseen by b who =
    (gone : Gone) → goes (context_in b.kernel who) b.memory ≡ Some gone → by.seen gone.context.pc ≡ false

-- An agent's next instruction is invisible, and leads to a board: it is no call, exception, LL or SC, touches no shared
-- byte, comes to no instruction to which nobody comes unseen, and the agent isn't mortal.
pub record IsInvisible (by : Sharing) (b : BoardState) (who : Agent) (new : BoardState) : Type 0 where
  pub goes : agent_goes b who ≡ Some new
  pub apart : (address : ℕ) → touches (context_in b.kernel who) b.memory address ≡ true → by.shared address ≡ false
  pub keeps : Keeps by b who
  pub lasting : by.mortal who ≡ false
  pub unseen : StaysUnseen by b who

-- Of two boards the first one lags behind by instructions of these agents, one after the other: all of them are steady,
-- the instructions are invisible, and lead from the first board to the second.
abbrev pub Lags : Sharing → BoardState → List Agent → BoardState → Type 0
Lags by b [] new = new ≡ b
Lags by b (who ∷ more) new =
    (next : BoardState) × IsInvisible by b who next × (is_steady b.kernel who ≡ true) × Lags by next more new

-- A path of so many invisible instructions of an agent, one after the other, from one board to another.
abbrev pub Path : Sharing → BoardState → Agent → ℕ → BoardState → Type 0
Path by b who zero new = new ≡ b
Path by b who (suc count) new = (next : BoardState) × IsInvisible by b who next × Path by next who count new

abbrev pub is_same_agent : Agent → Agent → Bool
is_same_agent (agents.Task id) (agents.Task at) = id == at
is_same_agent (agents.Task id) (agents.Handler at) = false
is_same_agent (agents.Handler cpu) (agents.Task at) = false
is_same_agent (agents.Handler cpu) (agents.Handler at) = cpu == at

-- those of these agents that are others
abbrev pub without : Agent → List Agent → List Agent
without who [] = []
without who (other ∷ others) = if is_same_agent other who then without who others else other ∷ without who others

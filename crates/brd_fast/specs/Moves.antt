-- Only private contracts name this: what the functions that do an entry leave and answer.
use Rattle.std.specs.Prelude.{◌≡◌, Bool, true, false, Option, None, Some, Result, Ok, Err}
use Rattle.brd_mem.specs.Memory.{Memory}
use Rattle.brd_link.specs.LinkSet.{LinkSet}
use Rattle.brd_exec.specs.declared.outcome.Stop.{Stop}
use Rattle.brd_exec.specs.State.{State}
use Rattle.brd_exec.specs.Went.{Machine}

-- it was done, and this context is there
abbrev pub Moves : State → Bool → State → Type 0
Moves after result new = (result ≡ true) × (new ≡ after)

-- it was done, and this context is there; or where it would stop nothing was done
abbrev pub Leads : Result State Stop → State → Bool → State → Type 0
Leads (Ok after) old result new = (result ≡ true) × (new ≡ after)
Leads (Err stop) old result new = (result ≡ false) × (new ≡ old)

-- a branch or a jump: it was done outside of a delay slot, and this context is there; or nothing was done
abbrev pub Turns : State → State → Bool → State → Type 0
Turns after old true new = (old.slot ≡ false) × (new ≡ after)
Turns after old false new = new ≡ old

-- it was done, and this is there; or there is nothing to be done, and nothing was
abbrev pub Acts : Option Machine → State → Memory → LinkSet → Bool → State → Memory → LinkSet → Type 0
Acts None s memory links result new_s new_memory new_links =
    (result ≡ false) × (new_s ≡ s) × (new_memory ≡ memory) × (new_links ≡ links)
Acts (Some after) s memory links result new_s new_memory new_links =
    (result ≡ true) × (new_s ≡ after.state) × (new_memory ≡ after.memory) × (new_links ≡ after.links)

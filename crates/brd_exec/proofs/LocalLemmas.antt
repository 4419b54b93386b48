-- A local instruction's context is all that it changes.
use Rattle.std.proofs.Common.{◌≡◌, ℕ, Some}
use Rattle.brd_isa.specs.declared.instruction.Insn.{Insn}
use Rattle.brd_mem.specs.Memory.{Memory}
use Rattle.brd_link.specs.LinkSet.{LinkSet}
use Rattle.brd_exec.specs.State.{State}
use Rattle.brd_exec.specs.Action.{Action, action, local_context, local_meaning}
use Rattle.brd_exec.specs.Step.{Effect, done, meaning}

local-done : (cpu : ℕ) (act : Action) (s after : State) (memory : Memory) (links : LinkSet) →
    local_context act ≡ Some after → done cpu s memory links act ≡ Effect.Goes after memory links
local-done cpu (Action.Local to) s after memory links is = cc
local-done cpu (Action.MayStop outcome) s after memory links is = cc
local-done cpu (Action.Loads op rt address) s after memory links is = cc
local-done cpu (Action.Stores op rt address) s after memory links is = cc
local-done cpu (Action.LoadsLinked rt address) s after memory links is = cc
local-done cpu (Action.StoresIfLinked rt address) s after memory links is = cc

pub local-meaning : (cpu : ℕ) (insn : Insn) (s after : State) (memory : Memory) (links : LinkSet) →
    local_meaning insn s ≡ Some after → meaning cpu insn s memory links ≡ Effect.Goes after memory links
local-meaning cpu insn s after memory links is = local-done cpu (action insn s) s after memory links is

-- Searches piece by piece.
use Rattle.std.proofs.Common.{◌≡◌, ℕ, ◌+◌, ◌<◌, ◌≤◌, length, subst, ap, ◌∙◌, arith}
use Rattle.std.specs.Prelude.{Option, Some, None}
use Rattle.brd_debug.specs.Debugger.{DebuggerState, sought}
use Rattle.brd_debug.specs.Stops.{NoneFrom, IsLeast, IsGreatest}
use Rattle.brd_debug.proofs.SearchLemmas.{none-both, least-whole, greatest-whole}
use Rattle.brd_stub.specs.declared.seeking.Search.{Search}
use Rattle.brd_stub.specs.Moving.{moved_to, IsStopOf, SearchesOn, SearchesBack}

-- what a debugger has looked at from a position on

abbrev pub LooksOn : DebuggerState → ℕ → Option ℕ → Type 0
LooksOn mid end found = IsLeast (IsStopOf mid) mid.position end found

abbrev pub LooksBack : DebuggerState → ℕ → Option ℕ → Type 0
LooksBack mid begin found = IsGreatest (IsStopOf mid) begin mid.position found

-- a piece forward, after those in which there is no stop

pub piece-found : (d mid next : DebuggerState) (at end n : ℕ) (found : Option ℕ) → found ≡ Some n →
    mid ≡ moved_to d at → d.position < at → end ≤ length d.events → NoneFrom (IsStopOf d) (d.position + 1) at →
    LooksOn mid end found → next ≡ sought mid end found → SearchesOn d (Search.Stop n) next
piece-found d mid next at end n found is there on within none looks gone =
    let here : LooksOn (moved_to d at) end (Some n) =
    subst (λ (m : DebuggerState). LooksOn m end (Some n)) there (subst (LooksOn mid end) is looks) in (
      least-whole (IsStopOf d) (d.position + 1) at end (length d.events) n (omega (arith, on)) within none here,
      gone ∙ ap (sought mid end) is ∙ ap (λ (m : DebuggerState). moved_to m n) there,
    )

pub piece-goes : (d mid next : DebuggerState) (at end : ℕ) (found : Option ℕ) → found ≡ None → mid ≡ moved_to d at →
    next ≡ sought mid end found → next ≡ moved_to d end
piece-goes d mid next at end found is there gone =
    gone ∙ ap (sought mid end) is ∙ ap (λ (m : DebuggerState). moved_to m end) there

pub piece-none : (d mid : DebuggerState) (at end : ℕ) (found : Option ℕ) → found ≡ None → mid ≡ moved_to d at →
    NoneFrom (IsStopOf d) (d.position + 1) at → LooksOn mid end found → NoneFrom (IsStopOf d) (d.position + 1) end
piece-none d mid at end found is there none looks =
    let here : LooksOn (moved_to d at) end None =
    subst (λ (m : DebuggerState). LooksOn m end None) there (subst (LooksOn mid end) is looks) in
    none-both (IsStopOf d) (d.position + 1) at end none here

-- a piece backward

pub back-found : (d mid next : DebuggerState) (at begin n : ℕ) (found : Option ℕ) → found ≡ Some n →
    mid ≡ moved_to d at → at ≤ d.position → NoneFrom (IsStopOf d) at d.position → LooksBack mid begin found →
    next ≡ sought mid begin found → SearchesBack d (Search.Stop n) next
back-found d mid next at begin n found is there below none looks gone =
    let here : LooksBack (moved_to d at) begin (Some n) =
    subst (λ (m : DebuggerState). LooksBack m begin (Some n)) there (subst (LooksBack mid begin) is looks) in (
      greatest-whole (IsStopOf d) 0 begin at d.position n (omega arith) below none here,
      gone ∙ ap (sought mid begin) is ∙ ap (λ (m : DebuggerState). moved_to m n) there,
    )

pub back-none : (d mid : DebuggerState) (at begin : ℕ) (found : Option ℕ) → found ≡ None → mid ≡ moved_to d at →
    NoneFrom (IsStopOf d) at d.position → LooksBack mid begin found → NoneFrom (IsStopOf d) begin d.position
back-none d mid at begin found is there none looks =
    let here : LooksBack (moved_to d at) begin None =
    subst (λ (m : DebuggerState). LooksBack m begin None) there (subst (LooksBack mid begin) is looks) in
    none-both (IsStopOf d) begin at d.position here none

-- all was looked at

pub nothing-on : (d mid : DebuggerState) (at : ℕ) → mid ≡ moved_to d at → at ≡ length d.events →
    NoneFrom (IsStopOf d) (d.position + 1) at → SearchesOn d Search.Nothing mid
nothing-on d mid at there is none =
    (subst (λ n. NoneFrom (IsStopOf d) (d.position + 1) n) is none, there ∙ ap (λ n. moved_to d n) is)

pub nothing-back : (d mid : DebuggerState) (at : ℕ) → mid ≡ moved_to d at → at ≡ 0 → NoneFrom (IsStopOf d) at d.position →
    SearchesBack d Search.Nothing mid
nothing-back d mid at there is none =
    (subst (λ n. NoneFrom (IsStopOf d) n d.position) is none, there ∙ ap (λ n. moved_to d n) is)

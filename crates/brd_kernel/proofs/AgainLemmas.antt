-- A call is answered that it is to be made again exactly where that can be told before it.
use Rattle.std.proofs.Common.{◌≡◌, ℕ, refl, sym, ap, ◌∙◌}
use Rattle.std.specs.Prelude.{Bool, true, false, not, ◌&&◌, if◌then◌else◌, slice_index_or, Option, None, Some}
use Rattle.std.proofs.lemmas.Bool.{false≢true}
use Rattle.brd_kernel.specs.declared.processor.Spin.{Spin}
use Rattle.brd_kernel.specs.declared.processor.Spin.TheVariants as spin
use Rattle.brd_kernel.specs.declared.call.Call.{Call}
use Rattle.brd_kernel.specs.declared.call.Call.TheVariants as call
use Rattle.brd_kernel.specs.declared.call.Ercd.TheVariants.{Id}
use Rattle.brd_kernel.specs.Kernel.{KernelState, holder_from, spin_by, has_spin_lock, spin_of}
use Rattle.brd_kernel.specs.Row.{refused, served_object, or_refused, asks_again}
use Rattle.brd_kernel.specs.Services.{loc_spn, is_no_id, is_there_taken, comes_again, caller_on, serve_of, with_priorities}
use Rattle.brd_kernel.proofs.WalkLemmas.{Anything, Law, serve-says}
use Rattle.brd_kernel.proofs.SameLemmas.{Same, same-law}

-- any law tells it of every call, that of nothing too
nothing-law : (k : KernelState) (cpu : ℕ) → Law Anything (λ new. Unit {0}) k cpu (caller_on k cpu)
nothing-law k cpu = same-law (λ new. Unit {0}) k cpu (caller_on k cpu) (record {
  same = λ new is. tt;
  exits = λ may. tt;
  marks = λ p q there same how. tt;
  returns = λ p there. tt;
})

held : (k : KernelState) (cpu id : ℕ) (bad : Bool) (found : Option Spin) → (not bad && is_there_taken found) ≡ true →
    asks_again (or_refused k (with_priorities (refused bad Id (served_object (loc_spn k cpu id) found)))).reply ≡ true
held k cpu id true found is = absurd (false≢true is)
held k cpu id false None is = absurd (false≢true is)
held k cpu id false (Some spin.Free) is = absurd (false≢true is)
held k cpu id false (Some (spin.Held by)) is = refl

foreseen : (k : KernelState) (cpu : ℕ) (c : Call) → comes_again k c ≡ true → asks_again (serve_of k cpu c).reply ≡ true
foreseen k cpu (call.LocSpn l) is = held k cpu l (is_no_id l) (spin_of k l) is
foreseen k cpu _ is = absurd (false≢true is)

both : (one other : Bool) → (one ≡ true → other ≡ true) → (other ≡ true → one ≡ true) → one ≡ other
both true other there back = sym (there refl)
both false true there back = back refl
both false false there back = refl

pub serve-again : (k : KernelState) (cpu : ℕ) (c : Call) → asks_again (serve_of k cpu c).reply ≡ comes_again k c
serve-again k cpu c =
    both (asks_again (serve_of k cpu c).reply) (comes_again k c) (serve-says (λ new. Unit {0}) k cpu (nothing-law k cpu) (λ new was. tt) c) (foreseen k cpu c)

-- What is told before the call doesn't hang on tasks and contexts.

same-spin : (k new : KernelState) (id : ℕ) → Same new k → spin_of new id ≡ spin_of k id
same-spin k new id same =
    ap (λ locks. if slice_index_or locks id false then Some (spin_by (holder_from id 0 new.processors)) else None) same.spin_locks
    ∙ ap (λ ps. if has_spin_lock k id then Some (spin_by (holder_from id 0 ps)) else None) same.processors

pub same-again : (k new : KernelState) → Same new k → (c : Call) → comes_again new c ≡ comes_again k c
same-again k new same (call.LocSpn l) = ap (λ lock. not (is_no_id l) && is_there_taken lock) (same-spin k new l same)
same-again k new same _ = refl

use Rattle.std.proofs.Common.{◌≡◌, ℕ, List, sym, subst}
use Rattle.std.specs.Prelude.{Option, Some, All, IfSome}
use Rattle.std.proofs.lemmas.List.Elements.{All-set}
use Rattle.std.proofs.Common.{set}
use Rattle.brd_board.specs.declared.event.Event.{Event}
use Rattle.brd_explore.specs.declared.known.Kept.{Kept}
use Rattle.brd_explore.specs.declared.wanted.Wanted.{Wanted}
use Rattle.brd_explore.specs.Searching.{NoneGoes}
use Rattle.brd_explore.specs.Knowing.{spot_of_kept}
use Rattle.brd_explore.proofs.known.Known.keep.Goals as goal

abbrev IsDone : Wanted → List Event → Option Kept → Type 0
IsDone wanted among slot = IfSome slot (λ k. NoneGoes wanted among (spot_of_kept k))

-- one slot more has a place that is done
one_done : (wanted : Wanted) (among : List Event) (slots : List (Option Kept)) (at : ℕ) (slot : Option Kept) (kept : Kept) → slot ≡ Some kept
    → All (IsDone wanted among) slots → NoneGoes wanted among (spot_of_kept kept) → All (IsDone wanted among) (set slots at slot)
one_done wanted among slots at slot kept is done none =
    All-set (IsDone wanted among) slots at slot (subst (IsDone wanted among) (sym is) none) done

pub returns-then-is_some-clause-done : goal.returns-then-is_some-clause-done
returns-then-is_some-clause-done c = λ wanted among.
    one_done wanted among c.args.self.now.done.items c.in-Some.slot c.replace.new.self c.args.kept c.replace.ensures.after

pub returns-else-is_some-clause-done : goal.returns-else-is_some-clause-done
returns-else-is_some-clause-done c = λ wanted among.
    one_done wanted among c.args.self.now.done.items c.in-Some.slot c.replace.new.self c.args.kept c.replace.ensures.after

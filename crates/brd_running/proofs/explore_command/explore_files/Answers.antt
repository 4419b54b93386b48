use Rattle.std.proofs.Common.{refl, sym, ◌∙◌}
use Rattle.brd_running.specs.ExploreCommand.ExploreFilesEnd.{over, not_opened, no_out, refused, none, found}
use Rattle.brd_running.proofs.explore_command.explore_files.Goals as goal

pub returns-then-is_over : goal.returns-then-is_over
returns-then-is_over g c = over (sym c.is_over.ensures ∙ c.if-is_over.true) refl refl refl

pub returns-in-Err : goal.returns-in-Err
returns-in-Err g c = not_opened c.in-Err.ensures refl refl

pub returns-in-Err-try_out : goal.returns-in-Err-try_out
returns-in-Err-try_out g c = no_out c.in-Ok.ensures c.in-Err-try_out.ensures refl refl

pub returns-in-Err-explore : goal.returns-in-Err-explore
returns-in-Err-explore g c = refused c.in-Ok.ensures c.in-Err-explore.ensures refl refl

pub returns-in_default : goal.returns-in_default
returns-in_default g c =
    none c.in-Ok-explore.told.text.items c.in-Ok.ensures (rw c.in_default.is at c.in-Ok-explore.ensures) (rw c.deref.ensures.value at c.tell.ensures)

pub returns : goal.returns
returns g c =
    found c.in-Ok-explore.told.text.items c.in-Some.journal.items c.tell-2.result c.in-Ok.ensures
    (rw c.in-Some.is at c.in-Ok-explore.ensures) (rw c.deref-2.ensures.value at c.save-saved.ensures)
    (rw c.deref-3.ensures.value at c.tell-2.ensures) c.failed.ensures

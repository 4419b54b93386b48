use Rattle.std.proofs.Common.{refl, sym, ◌∙◌}
use Rattle.brd_running.specs.ShrinkCommand.ShrinkFilesEnd.{over, not_opened, no_out, refused, shrunk}
use Rattle.brd_running.proofs.shrink_command.shrink_files.Goals as goal

pub returns-then-is_over : goal.returns-then-is_over
returns-then-is_over g c = over (sym c.is_over.ensures ∙ c.if-is_over.true) refl refl refl

pub returns-in-Err : goal.returns-in-Err
returns-in-Err g c = not_opened c.in-Err.ensures refl refl

pub returns-in-Err-try_out : goal.returns-in-Err-try_out
returns-in-Err-try_out g c = no_out c.in-Ok.ensures c.in-Err-try_out.ensures refl refl

pub returns-in-Err-shrink : goal.returns-in-Err-shrink
returns-in-Err-shrink g c = refused c.in-Ok.ensures c.in-Err-shrink.ensures refl refl

pub returns : goal.returns
returns g c =
    shrunk c.in-Ok-shrink.told.text.items c.in-Ok-shrink.told.journal.items c.tell.result c.in-Ok.ensures
    c.in-Ok-shrink.ensures (rw c.deref.ensures.value at c.save-saved.ensures) (rw c.deref-2.ensures.value at c.tell.ensures)
    c.both_ended.ensures

use Rattle.std.proofs.Common.{refl}
use Rattle.brd_command.specs.TryCommand.TryFilesEnd.{not_opened, refused, tried, unkept}
use Rattle.brd_command.proofs.try_command.try_files.Goals as goal

pub returns-in-Err : goal.returns-in-Err
returns-in-Err g c = not_opened c.in-Err.ensures c.of_open.ensures refl

pub returns-in-Err-try_source : goal.returns-in-Err-try_source
returns-in-Err-try_source g c = refused c.in-Ok.ensures c.in-Err-try_source.ensures refl

pub returns-in-Ok-save_both : goal.returns-in-Ok-save_both
returns-in-Ok-save_both g c =
    tried c.in-Ok-try_source.texts.image.items c.in-Ok-try_source.texts.config.items c.in-Ok-try_source.texts.last.items
    c.in-Ok.ensures c.in-Ok-try_source.ensures (rw (c.deref.ensures.value, c.deref-2.ensures.value) at c.in-Ok-save_both.ensures)
    c.save_page.ensures

pub returns : goal.returns
returns g c =
    unkept c.in-Ok-try_source.texts.image.items c.in-Ok-try_source.texts.config.items c.in-Ok-try_source.texts.last.items
    c.in-Ok.ensures c.in-Ok-try_source.ensures (rw (c.deref.ensures.value, c.deref-2.ensures.value) at c.in-Err-save_both.ensures)
    refl

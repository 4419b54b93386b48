use Rattle.std.proofs.Common.{refl}
use Rattle.brd_data.proofs.LaidLemmas.{opens_file, opens_none, opens_text}
use Rattle.brd_data.proofs.laid.LaidFiles.open.Goals as goal

pub returns-in-Some : goal.returns-in-Some
returns-in-Some g c =
    opens_text c.args.self.now c.args.name.now g.F.Files.opened c.in-Some.bytes.items _ c.take_text.new.self c.in-Some.ensures refl refl

pub returns-in-Ok : goal.returns-in-Ok
returns-in-Ok g c =
    opens_file c.args.self.now c.args.name.now g.F.Files.opened c.take_text.new.self c.in-Ok.reader c.open.new.self c.in-None.ensures c.in-Ok.ensures

pub returns-in-Err : goal.returns-in-Err
returns-in-Err g c =
    opens_none c.args.self.now c.args.name.now g.F.Files.opened c.take_text.new.self c.in-Err.error c.open.new.self c.in-None.ensures c.in-Err.ensures

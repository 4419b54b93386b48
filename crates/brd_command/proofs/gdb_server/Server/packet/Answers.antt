use Rattle.std.proofs.Common.{◌≡◌, ◌∙◌, ap}
use Rattle.brd_gdb.specs.Reading.{request_of}
use Rattle.brd_command.proofs.ServerLemmas.{answered}
use Rattle.brd_command.proofs.gdb_server.Server.packet.Goals as goal

pub returns-in_ok-request-in_default : goal.returns-in_ok-request-in_default
returns-in_ok-request-in_default g c =
    let is : c.in_ok-request.request ≡ request_of c.args.self.now.receiver.payload = c.in_ok-request.ensures ∙ ap request_of c.payload.ensures.is in
    answered (request_of c.args.self.now.receiver.payload) c.in_ok-request.request c.args.self.now c.request.new.self
    c.in_ok-bytes.bytes.items c.request.new.bytes.items is c.in_ok-bytes.ensures
    c.in_default.not-StartNoAckMode c.in_default.not-Detach c.in_default.not-KillProcess c.in_default.not-Kill c.in_ok-request-in_default.ensures

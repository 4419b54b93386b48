use Rattle.std.proofs.Common.{rules}
use Rattle.brd_command.proofs.races_command.play.Goals as goal

pub loop-racing-preserved : goal.loop-racing-preserved
loop-racing-preserved g c = record {
  on = search rules;
  shown = search rules;
  raced = λ queues boot is. c.in-Ok.ensures.raced queues boot (c.loop-racing.invariant.raced queues boot is);
}

pub returns-in-Err-clause-stops : goal.returns-in-Err-clause-stops
returns-in-Err-clause-stops g c = λ queues boot is. record {
  at = c.advance.new.self.playback.at;
  within = c.advance.ensures.at;
  refused = c.in-Err.ensures.refuses queues boot (c.loop-racing.invariant.raced queues boot is);
}

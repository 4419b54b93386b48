use Rattle.brd_printer.proofs.LinksLemmas.{ended-on}
use Rattle.brd_printer.proofs.links.Links.put_ended.Goals as goal

pub loop-cpu-preserved : goal.loop-cpu-preserved
loop-cpu-preserved c =
    ended-on c.args.self.cpu c.args.self.before.now c.args.self.after.now c.loop-cpu.cpu c.loop-cpu.out.items c.put_ended_of.new.out.items _
    c.loop-cpu-test.true c.in_ok-put_ended_of.ensures c.loop-cpu.invariant

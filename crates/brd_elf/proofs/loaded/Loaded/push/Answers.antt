use Rattle.std.proofs.Common.{refl}
use Rattle.brd_elf.proofs.LoadedLemmas.{one_more}
use Rattle.brd_elf.proofs.loaded.Loaded.push.Goals as goal

pub invariant_of-self-in_default : goal.invariant_of-self-in_default
invariant_of-self-in_default c =
    rw (c.in_default.ensures.ok, c.in_ok-push.ensures.items)
    (one_more c.self.inside.ranges c.self.inside.segments.items (record { start = c.args.segment.address; end = c.args.end; item = tt }) c.args.segment c.self.invariant refl c.requires.is_end)

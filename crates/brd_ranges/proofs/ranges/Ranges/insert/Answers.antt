use Rattle.std.proofs.Common.{◌^◌, ◌<◌, rules, arith}
use Rattle.brd_ranges.proofs.EntryLemmas.{entries_more, ranges_of-insert_entry, still_small}
use Rattle.brd_ranges.proofs.ranges.Ranges.insert.Goals as goal

pub overflow_add-self : goal.overflow_add-self
overflow_add-self g c =
    let small : c.args.range.end < 2 ^ 32 = search rules in
    omega (arith, still_small c.self.inside.size c.self.inside.ends.entries c.args.range.start c.args.range.end c.args.range.item c.self.invariant c.requires.filled small (rw c.self.view_is c.requires.free))

pub invariant_of-self-2 : goal.invariant_of-self-2
invariant_of-self-2 g c =
    let small : c.args.range.end < 2 ^ 32 = search rules in
    rw c.in_ok-insert.ensures.entries (entries_more c.self.inside.size c.self.inside.ends.entries c.args.range.start c.args.range.end c.args.range.item c.self.invariant c.requires.filled small (rw c.self.view_is c.requires.free))

pub returns-clause-ok : goal.returns-clause-ok
returns-clause-ok g c =
    rw (c.in_ok-insert.ensures.entries, ← c.self.view_is)
    (ranges_of-insert_entry 0 _ c.self.inside.ends.entries c.args.range.start c.args.range.end c.args.range.item c.self.invariant.apart c.requires.filled (rw c.self.view_is c.requires.free))

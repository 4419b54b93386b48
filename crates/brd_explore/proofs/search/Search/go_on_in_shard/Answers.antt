use Rattle.std.proofs.Common.{sym, ◌∙◌}
use Rattle.brd_explore.specs.Ordering.{event_tried}
use Rattle.brd_explore.specs.Searching.{place_of}
use Rattle.brd_explore.proofs.FindLemmas.{gone-of, stayed-of}
use Rattle.brd_explore.proofs.LessLemmas.{less-gone, less-passed, less-stayed}
use Rattle.brd_explore.proofs.PathLemmas.{found-now, on-gone}
use Rattle.brd_explore.proofs.ShardLemmas.{all-fails, all-none-of, choice-left, leads-same, leaves-gone, leaves-searched, less-searched}
use Rattle.brd_explore.proofs.search.Search.go_on_in_shard.Goals as goal

pub returns-then-is_left_out-clause-falls : goal.returns-then-is_left_out-clause-falls
returns-then-is_left_out-clause-falls g c = less-passed c.args.among.now c.args.self.now c.pass.new.self c.args.at c.requires.within.0 c.requires.within.1
    (choice-left c.args.deal (place_of c.args.self.now) (event_tried c.args.among.now c.args.self.now.last c.args.at) c.requires.choice) c.pass.ensures.passed

pub returns-then-not-branch-clause-falls : goal.returns-then-not-branch-clause-falls
returns-then-not-branch-clause-falls g c = less-stayed c.args.among.now c.args.self.now c.try_in_shard.new.self c.args.at c.requires.within.0 c.requires.within.1
    (choice-left c.args.deal (place_of c.args.self.now) (event_tried c.args.among.now c.args.self.now.last c.args.at) c.requires.choice)
    (stayed-of _ c.args.among.now c.args.self.now c.try_in_shard.new.self c.args.at c.in_ok-try_in_shard.field-0 c.if-not-branch.true c.in_ok-try_in_shard.ensures.is)

pub returns-then-fails-clause-on : goal.returns-then-fails-clause-on
returns-then-fails-clause-on g c = λ from on.
    found-now c.args.wanted.now c.args.among.now from c.try_in_shard.new.self
    (on-gone c.args.among.now from c.args.self.now c.try_in_shard.new.self c.args.at c.requires.within.1 (choice-left c.args.deal (place_of c.args.self.now) (event_tried c.args.among.now c.args.self.now.last c.args.at) c.requires.choice) on
    (gone-of c.args.among.now c.args.self.now c.try_in_shard.new.self c.args.at c.in_ok-try_in_shard.field-0 c.if-not-branch.false c.in_ok-try_in_shard.ensures.is)) (sym c.in_ok-fails.ensures ∙ c.if-fails.true)

pub returns-else-fails-clause-out : goal.returns-else-fails-clause-out
returns-else-fails-clause-out g c = leaves-gone c.args.wanted.now c.args.deal c.args.among.now c.args.self.now c.try_in_shard.new.self c.args.at
    c.requires.within.0 c.requires.before (gone-of c.args.among.now c.args.self.now c.try_in_shard.new.self c.args.at c.in_ok-try_in_shard.field-0 c.if-not-branch.false c.in_ok-try_in_shard.ensures.is)
    (sym c.if-not-is_dealt.true ∙ c.is_dealt.ensures) (sym c.in_ok-fails.ensures ∙ c.if-fails.false)

pub returns-else-fails-clause-on : goal.returns-else-fails-clause-on
returns-else-fails-clause-on g c = λ from on. on-gone c.args.among.now from c.args.self.now c.try_in_shard.new.self c.args.at c.requires.within.1
    (choice-left c.args.deal (place_of c.args.self.now) (event_tried c.args.among.now c.args.self.now.last c.args.at) c.requires.choice) on
    (gone-of c.args.among.now c.args.self.now c.try_in_shard.new.self c.args.at c.in_ok-try_in_shard.field-0 c.if-not-branch.false c.in_ok-try_in_shard.ensures.is)

pub returns-else-fails-clause-falls : goal.returns-else-fails-clause-falls
returns-else-fails-clause-falls g c = less-gone c.args.among.now c.args.self.now c.try_in_shard.new.self c.args.at c.requires.within.0 c.requires.within.1
    (choice-left c.args.deal (place_of c.args.self.now) (event_tried c.args.among.now c.args.self.now.last c.args.at) c.requires.choice)
    (gone-of c.args.among.now c.args.self.now c.try_in_shard.new.self c.args.at c.in_ok-try_in_shard.field-0 c.if-not-branch.false c.in_ok-try_in_shard.ensures.is)

pub returns-then-branch-clause-on : goal.returns-then-branch-clause-on
returns-then-branch-clause-on g c = λ from on.
    all-fails c.args.wanted.now c.args.among.now c.try_in_shard.new.self c.search_all.new.self c.in_ok-search_all.field-0 c.if-branch.true c.in_ok-search_all.ensures.is from
    (on-gone c.args.among.now from c.args.self.now c.try_in_shard.new.self c.args.at c.requires.within.1 (choice-left c.args.deal (place_of c.args.self.now) (event_tried c.args.among.now c.args.self.now.last c.args.at) c.requires.choice) on
    (gone-of c.args.among.now c.args.self.now c.try_in_shard.new.self c.args.at c.in_ok-try_in_shard.field-0 c.if-not-branch.false c.in_ok-try_in_shard.ensures.is))

pub returns-clause-out : goal.returns-clause-out
returns-clause-out g c =
    let none = (all-none-of c.args.wanted.now c.args.among.now c.try_in_shard.new.self c.search_all.new.self c.in_ok-search_all.field-0 c.if-branch.false c.in_ok-search_all.ensures.is) in
    leaves-searched c.args.wanted.now c.args.deal c.args.among.now c.args.self.now c.try_in_shard.new.self c.search_all.new.self c.turn_from.new.self c.args.at c.turn_from.result c.requires.within.0
    c.requires.before (gone-of c.args.among.now c.args.self.now c.try_in_shard.new.self c.args.at c.in_ok-try_in_shard.field-0 c.if-not-branch.false c.in_ok-try_in_shard.ensures.is)
    none.1 none.0.saved none.0.path c.turn_from.ensures.is

pub returns-clause-on : goal.returns-clause-on
returns-clause-on g c = λ from on.
    let none = (all-none-of c.args.wanted.now c.args.among.now c.try_in_shard.new.self c.search_all.new.self c.in_ok-search_all.field-0 c.if-branch.false c.in_ok-search_all.ensures.is) in
    leads-same c.args.wanted.now c.args.among.now from c.try_in_shard.new.self c.search_all.new.self c.turn_from.new.self c.turn_from.result none.0 c.turn_from.ensures.is
    (on-gone c.args.among.now from c.args.self.now c.try_in_shard.new.self c.args.at c.requires.within.1 (choice-left c.args.deal (place_of c.args.self.now) (event_tried c.args.among.now c.args.self.now.last c.args.at) c.requires.choice) on
    (gone-of c.args.among.now c.args.self.now c.try_in_shard.new.self c.args.at c.in_ok-try_in_shard.field-0 c.if-not-branch.false c.in_ok-try_in_shard.ensures.is))

pub returns-clause-falls : goal.returns-clause-falls
returns-clause-falls g c =
    let none = (all-none-of c.args.wanted.now c.args.among.now c.try_in_shard.new.self c.search_all.new.self c.in_ok-search_all.field-0 c.if-branch.false c.in_ok-search_all.ensures.is) in
    less-searched c.args.among.now c.args.self.now c.try_in_shard.new.self c.search_all.new.self c.turn_from.new.self c.turn_from.result
    (less-gone c.args.among.now c.args.self.now c.try_in_shard.new.self c.args.at c.requires.within.0 c.requires.within.1 (choice-left c.args.deal (place_of c.args.self.now) (event_tried c.args.among.now c.args.self.now.last c.args.at) c.requires.choice)
    (gone-of c.args.among.now c.args.self.now c.try_in_shard.new.self c.args.at c.in_ok-try_in_shard.field-0 c.if-not-branch.false c.in_ok-try_in_shard.ensures.is)) none.0 c.turn_from.ensures.is

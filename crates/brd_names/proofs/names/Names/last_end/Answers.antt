use Rattle.std.proofs.Common.{ℕ, ◌≡◌, ◌≤◌, ◌-◌, sym, subst}
use Rattle.std.specs.Prelude.{true}
use Rattle.brd_names.specs.Addresses.{is_loaded, LoadsNone}
use Rattle.brd_names.proofs.LoadedLemmas.{ends-all, loads-last, loads-none}
use Rattle.brd_names.proofs.names.Names.last_end.Goals as goal

pub returns-clause-is : goal.returns-clause-is
returns-clause-is c =
    ends-all c.args.self.now.segments.now c.args.address c.loop-segment.segment-index c.loop-segment.last c.loop-segment-test.false c.loop-segment.invariant

pub returns-clause-last : goal.returns-clause-last
returns-clause-last c =
    let segments = c.args.self.now.segments.now in
    let all = ends-all segments c.args.address c.loop-segment.segment-index c.loop-segment.last c.loop-segment-test.false c.loop-segment.invariant in
    subst (λ (n : ℕ). 1 ≤ n → is_loaded segments (n - 1) ≡ true) (sym all) (loads-last segments c.args.address)

pub returns-clause-after : goal.returns-clause-after
returns-clause-after c = λ out.
    let segments = c.args.self.now.segments.now in
    let all = ends-all segments c.args.address c.loop-segment.segment-index c.loop-segment.last c.loop-segment-test.false c.loop-segment.invariant in
    subst (λ (n : ℕ). LoadsNone segments n c.args.address) (sym all) (loads-none segments c.args.address out)

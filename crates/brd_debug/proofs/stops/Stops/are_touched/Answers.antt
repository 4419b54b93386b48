use Rattle.std.proofs.Common.{◌≡◌, sym, subst, ap, refl, ◌∙◌, inl, inr}
use Rattle.std.specs.Prelude.{◌||◌, true, Decides}
use Rattle.brd_debug.specs.Stops.{Differs, is_done}
use Rattle.brd_debug.specs.Watching.{AreBytesAt}
use Rattle.brd_debug.proofs.StopLemmas.{decides-or, decides-same}
use Rattle.brd_debug.proofs.stops.Stops.are_touched.Goals as goal
use Rattle.brd_debug.proofs.stops.Stops.are_touched.Goals.{After-differ}

-- of the addresses as they lie
differ : (c : After-differ) → Decides c.differ.result (Differs c.args.self.now.watches c.args.before.now.memory c.args.after.now.memory)
differ c =
    subst (λ ws. Decides c.differ.result (Differs ws c.args.before.now.memory c.args.after.now.memory)) c.as_slice.ensures.is
    (c.differ.ensures.differ c.args.before.now.memory
    (subst (λ ws. AreBytesAt ws c.args.before.now.memory c.watched-bytes.result.bytes) (sym c.as_slice.ensures.is) c.watched-bytes.ensures))

pub returns-then-differ : goal.returns-then-differ
returns-then-differ c = (λ yes. inl ((differ (goal.at.returns-then-differ c).After-differ).0 c.if-differ.true), λ is. refl)

pub returns : goal.returns
returns c =
    decides-or c.differ.result c.is_done.result c.is_done.result (differ (goal.at.returns c).After-differ)
    (decides-same _ _ (c.is_done.ensures ∙ ap (λ touched. is_done touched c.args.report) c.touches.ensures))
    (sym (ap (λ b. b || c.is_done.result) c.if-differ.false))

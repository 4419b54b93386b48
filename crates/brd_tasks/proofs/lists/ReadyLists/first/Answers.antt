use Rattle.std.proofs.Common.{◌≡◌, [], ap, sym, ◌∙◌, rules}
use Rattle.std.specs.Prelude.{None, slice_index_or}
use Rattle.brd_rings.specs.Rings.{ring_at, head_of}
use Rattle.brd_tasks.specs.Tasks.{first_id}
use Rattle.brd_tasks.specs.Marks.{mark_at}
use Rattle.brd_tasks.proofs.MarkedLemmas.{first-none, first-some}
use Rattle.brd_tasks.proofs.lists.ReadyLists.first.Goals as goal

pub returns-in_err-priority : goal.returns-in_err-priority
returns-in_err-priority c =
    let none : c.from_residual.result ≡ None = search rules in
    none ∙ first-none c.self.inside.rings c.self.inside.mask.items c.args.cpu c.self.invariant c.requires
    (λ p small. ap (λ m. mark_at m c.args.cpu p) (sym c.as_slice.ensures.value) ∙ c.in_err-priority.ensures.none p small)
    ∙ ap (λ l. first_id (slice_index_or l c.args.cpu [])) c.self.view_is

pub returns : goal.returns
returns c =
    let first = c.in_ok-priority.ensures.some in
    c.head.ensures ∙ ap (λ r. head_of (ring_at c.self.inside.rings r)) c.number.ensures
    ∙ first-some c.self.inside.rings c.self.inside.mask.items c.args.cpu c.in_ok-priority.priority c.self.invariant c.requires first.0
    (ap (λ m. mark_at m c.args.cpu c.in_ok-priority.priority) (sym c.as_slice.ensures.value) ∙ first.1)
    (λ q below. ap (λ m. mark_at m c.args.cpu q) (sym c.as_slice.ensures.value) ∙ first.2 q below)
    ∙ ap (λ l. first_id (slice_index_or l c.args.cpu [])) c.self.view_is

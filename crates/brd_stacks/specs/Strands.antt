-- What a point of a run is to a stack: whether its strand stands on it, and whether it is a store below it.
use Rattle.std.specs.Prelude.{ℕ, ◌==◌, ◌&&◌, ◌||◌, nat_le, nat_lt, Bool, true, false, if◌then◌else◌, List, [], ◌∷◌}
use Rattle.std.specs.Prelude.{Option, None, Some}
use Rattle.brd_stacks.specs.declared.stack.{Point.Point, Store.Store}
use Rattle.brd_stacks.specs.declared.stack.Stack.{Stack}

-- a stack pointer lies in a stack, or at its end, where nothing is on it
abbrev pub is_inside : Stack → ℕ → Bool
is_inside stack pointer = nat_le stack.low pointer && nat_le pointer stack.end

abbrev pub is_of : Stack → Point → Bool
is_of stack point = point.strand == stack.strand

-- A strand stands on its stack from where its $sp lay in it, until $sp gets a value that isn't computed from $sp. So it
-- does where $sp has gone down past the stack's low end, and doesn't where $sp was given another stack.
abbrev pub stands_after : Stack → Bool → Point → Bool
stands_after stack stands point =
    if is_of stack point then (stands || is_inside stack point.before) && point.kept else stands

abbrev pub stands_from : Stack → Bool → List Point → Bool
stands_from stack stands [] = stands
stands_from stack stands (point ∷ points) = stands_from stack (stands_after stack stands point) points

-- after these points
abbrev pub stands_on : Stack → List Point → Bool
stands_on stack points = stands_from stack false points

-- A store below a stack: the address lies below the stack's low end, and is named by $sp or isn't below $sp, as what a
-- function has on its stack isn't.
abbrev pub is_below : Stack → Point → Store → Bool
is_below stack point store = nat_lt store.address stack.low && (store.by_pointer || nat_le point.before store.address)

abbrev pub below_if : Stack → Point → Option Store → Bool
below_if stack point None = false
below_if stack point (Some store) = is_below stack point store

abbrev pub stores_below : Stack → Point → Bool
stores_below stack point = below_if stack point point.store

-- such a store by the stack's strand, where it stands on the stack
abbrev pub overflows_when : Stack → Bool → Point → Bool
overflows_when stack stands point =
    is_of stack point && (stands || is_inside stack point.before) && stores_below stack point

-- a point at which the strand's stack pointer is in the stack, less than at another one, if there is one
abbrev pub less_than : Point → Option Point → Bool
less_than point None = true
less_than point (Some other) = nat_lt point.after other.after

abbrev pub lies_in : Stack → Point → Bool
lies_in stack point = is_of stack point && is_inside stack point.after

abbrev pub deeper : Stack → Option Point → Point → Bool
deeper stack deepest point = lies_in stack point && less_than point deepest

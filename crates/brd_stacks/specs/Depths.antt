-- Which points of a run are told of a stack.
use Rattle.std.specs.Prelude.{◌≡◌, ◌<◌, ◌≤◌, ℕ, suc, length, ◌||◌, Bool, true, false, List, [], ◌∷◌, map, take}
use Rattle.std.specs.Prelude.{Option, None, Some, is_some}
use Rattle.std.specs.List.{slice_get, AllByRecursion}
use Rattle.brd_stacks.specs.declared.stack.Point.{Point}
use Rattle.brd_stacks.specs.declared.stack.Stack.{Stack}
use Rattle.brd_stacks.specs.declared.track.Track.{Track}
use Rattle.brd_stacks.specs.Strands.{lies_in, overflows_when, stands_on}

-- the point at a place of the list is of the stack's strand, and leaves its stack pointer in the stack
pub record Lies (stack : Stack) (points : List Point) (k : ℕ) (point : Point) : Type 0 where
  pub is : slice_get points k ≡ Some point
  pub inside : lies_in stack point ≡ true

-- the deepest point: no stack pointer is less, and no earlier one as little
pub record IsDeepest (stack : Stack) (points : List Point) (deepest : Point) : Type 0 where
  pub k : ℕ
  pub lies : Lies stack points k deepest
  pub least : (j : ℕ) (point : Point) → Lies stack points j point → deepest.after ≤ point.after
  pub first : (j : ℕ) (point : Point) → Lies stack points j point → j < k → deepest.after < point.after

abbrev pub DeepestOf : Stack → List Point → Option Point → Type 0
DeepestOf stack points None = (k : ℕ) (point : Point) → Lies stack points k point → ⊥
DeepestOf stack points (Some deepest) = IsDeepest stack points deepest

-- the point at a place of the list is a store below the stack by its strand, which stands on it
pub record Overflows (stack : Stack) (points : List Point) (k : ℕ) (point : Point) : Type 0 where
  pub is : slice_get points k ≡ Some point
  pub over : overflows_when stack (stands_on stack (take k points)) point ≡ true

-- the first one
pub record IsFirst (stack : Stack) (points : List Point) (overflow : Point) : Type 0 where
  pub k : ℕ
  pub over : Overflows stack points k overflow
  pub first : (j : ℕ) (point : Point) → Overflows stack points j point → k ≤ j

abbrev pub OverflowOf : Stack → List Point → Option Point → Type 0
OverflowOf stack points None = (k : ℕ) (point : Point) → Overflows stack points k point → ⊥
OverflowOf stack points (Some overflow) = IsFirst stack points overflow

-- what is told of a stack after these points
pub record Follows (points : List Point) (track : Track) : Type 0 where
  pub stands : track.stands ≡ stands_on track.stack points
  pub deepest : DeepestOf track.stack points track.deepest
  pub overflow : OverflowOf track.stack points track.overflow

-- of each of these stacks
pub record AreFollowed (stacks : List Stack) (points : List Point) (tracks : List Track) : Type 0 where
  pub same : map (λ track. track.stack) tracks ≡ stacks
  pub each : AllByRecursion (Follows points) tracks

-- no store below one of these stacks comes before the last point
abbrev pub IsSoonest : List Stack → List Point → Type 0
IsSoonest stacks points =
    (i : ℕ) (stack : Stack) (k : ℕ) (point : Point) → slice_get stacks i ≡ Some stack → Overflows stack points k point →
    suc k ≡ length points

-- whether a store below one of the stacks is told
abbrev pub some_overflow : List Track → Bool
some_overflow [] = false
some_overflow (track ∷ tracks) = is_some track.overflow || some_overflow tracks

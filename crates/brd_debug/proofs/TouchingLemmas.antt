-- Where no byte is watched, none is touched.
use Rattle.std.proofs.Common.{◌≡◌, ℕ, List, [], refl, sym}
use Rattle.std.specs.Prelude.{◌+◌, ◌%◌, ◌^◌, nat_lt, Bool, true, false, ◌&&◌, ◌||◌, Option, Some, None}
use Rattle.brd_board.specs.declared.event.Event.{Event}
use Rattle.brd_board.specs.declared.event.Event.TheVariants.{Step, Tick, Raise}
use Rattle.brd_board.specs.Board.{BoardState}
use Rattle.brd_exec.specs.declared.accessed.Span.{Span}
use Rattle.brd_debug.specs.Touching.{holds, holds_some, read_on, written_on, touches}

no-more : (a b c : Bool) → (a && false || (b && false || c && false)) ≡ false
no-more true true true = refl
no-more true true false = refl
no-more true false true = refl
no-more true false false = refl
no-more false true true = refl
no-more false true false = refl
no-more false false true = refl
no-more false false false = refl

holds-none : (s : Span) → holds [] s ≡ false
holds-none s = no-more (nat_lt 1 s.count) (nat_lt 2 s.count) (nat_lt 3 s.count)

some-none : (s : Option Span) → holds_some [] s ≡ false
some-none None = refl
some-none (Some s) = holds-none s

pub none-touched : (reads accesses : List ℕ) (b : BoardState) (event : Event) → reads ≡ [] → accesses ≡ [] → false ≡ touches reads accesses b event
none-touched reads accesses b (Step cpu) first second =
    rw (first, second, some-none (read_on b cpu), some-none (written_on b cpu)) refl
none-touched reads accesses b Tick first second = refl
none-touched reads accesses b (Raise line) first second = refl

-- The place among the names that are left, counted on, is that among all.
use Rattle.std.proofs.Common.{◌≡◌, drop, map}
use Rattle.brd_isa.specs.Registers.{place_in}
use Rattle.brd_isa.proofs.register.place_in.Given as goal

abbrev pub invariant-loop-place : goal.invariant-loop-place
invariant-loop-place l = place_in (map (λ known. known.now) (drop l.place l.names)) l.place l.name ≡ place_in (map (λ known. known.now) l.names) 0 l.name

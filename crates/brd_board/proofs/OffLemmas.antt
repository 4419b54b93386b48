-- A board that is off stays as it is.
use Rattle.std.proofs.Common.{◌≡◌, List, [], ◌∷◌, refl, ap, ◌∙◌}
use Rattle.std.specs.Prelude.{true, if◌then◌else◌}
use Rattle.brd_board.specs.declared.event.Event.{Event}
use Rattle.brd_board.specs.declared.event.Report.TheVariants as report
use Rattle.brd_board.specs.Board.{BoardState, Happened, reported, happens, happens_on, after}

pub off-stays : (b : BoardState) (event : Event) → b.kernel.off ≡ true → happens b event ≡ reported b report.Off
unfolding happens
off-stays b event off = ap (λ test. if test then reported b report.Off else happens_on b event) off

pub after-off : (b : BoardState) (events : List Event) → b.kernel.off ≡ true → after b events ≡ b
after-off b [] off = refl
after-off b (event ∷ events) off = ap (λ (done : Happened). after done.board events) (off-stays b event off) ∙ after-off b events off

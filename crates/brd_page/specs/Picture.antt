-- Pictures of a run.
use Rattle.std.specs.Prelude.{◌≡◌, ◌⊎◌, ℕ, ◌+◌, ◌<◌, List, length, All, codes}
use Rattle.brd_board.specs.declared.event.Event.{Event}
use Rattle.brd_board.specs.Board.{BoardState}
use Rattle.brd_timeline.specs.declared.fault.PictureFault.{PictureFault}
use Rattle.brd_timeline.specs.declared.fault.PictureFault.TheVariants.{NoMemory, TooMuch}
use Rattle.brd_timeline.specs.declared.timeline.Slice.{Slice}
use Rattle.brd_timeline.specs.declared.timeline.Timeline.{Timeline}
use Rattle.brd_timeline.specs.Bars.{slices_text, Holds}
use Rattle.brd_timeline.specs.Ends.{EndsWith}
use Rattle.brd_timeline.specs.Picture.{most_drawn}
use Rattle.brd_recording.specs.Slices.{AreSlices}
use Rattle.brd_page.specs.declared.run_page.TheConstants.{NO_PICTURE}

-- A picture of SVG of a timeline from one position to another: it has the bars of its slices, which are of what goes
-- on. Of what a picture has besides bars nothing is said here.
pub record IsPicture (boot : BoardState) (events : List Event) (from to : ℕ) (text : List ℕ) : Type 0 where
  pub timeline : Timeline
  pub are_slices : AreSlices boot events from to timeline
  pub bars : Holds (slices_text timeline) text
  pub ends : EndsWith (codes "</svg>\n") text

-- There are more lanes, and slices of what goes on in them, than a picture shows. (How many slices that are is laid
-- down: they follow one another without a gap, and each ends where something else goes on.)
pub record IsUndrawn (boot : BoardState) (events : List Event) (from to : ℕ) : Type 0 where
  pub timeline : Timeline
  pub are_slices : AreSlices boot events from to timeline
  pub in_lanes : All (λ (it : Slice). it.lane < length timeline.lanes.items) timeline.slices.items
  pub too_much : most_drawn < length timeline.lanes.items + length timeline.slices.items

-- why there is no picture
abbrev pub KeepsFromDrawing : BoardState → List Event → ℕ → ℕ → PictureFault → Type 0
KeepsFromDrawing boot events from to NoMemory = Unit {0}
KeepsFromDrawing boot events from to TooMuch = IsUndrawn boot events from to

-- what stands in a page for a picture: one; or a line that says why there is none
abbrev pub IsDrawn : BoardState → List Event → ℕ → ℕ → List ℕ → Type 0
IsDrawn boot events from to text =
    IsPicture boot events from to text ⊎ (IsUndrawn boot events from to × (text ≡ NO_PICTURE.now))

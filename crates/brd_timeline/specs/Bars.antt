-- The bars that slices are drawn as, in SVG. Lengths are in tenths of a pixel.
use Rattle.std.specs.Prelude.{◌≡◌, ℕ, ◌+◌, ◌-◌, ◌*◌, ◌/◌, ◌%◌, min, max, length, take}
use Rattle.std.specs.Prelude.{Bool, ◌&&◌, ◌||◌, ◌==◌, nat_lt, nat_le, if◌then◌else◌}
use Rattle.std.specs.Prelude.{List, [], ◌++◌, codes, Option, None, Some}
use Rattle.std.specs.List.{slice_get, flat_map}
use Rattle.std.specs.Fmt.{decimal}
use Rattle.brd_timeline.specs.Escapes.{xml_text}
use Rattle.brd_timeline.specs.Names.{kind_name, slice_name}
use Rattle.brd_timeline.specs.declared.timeline.Group.{Group}
use Rattle.brd_timeline.specs.declared.timeline.Kind.{Kind}
use Rattle.brd_timeline.specs.declared.timeline.Lane.{Lane}
use Rattle.brd_timeline.specs.declared.timeline.Slice.{Slice}
use Rattle.brd_timeline.specs.declared.timeline.Timeline.{Timeline}
use Rattle.brd_timeline.specs.declared.timeline.Group.TheVariants as group
use Rattle.brd_timeline.specs.declared.timeline.Kind.TheVariants as kind

-- ---- where things stand

-- which part of 10000 a part of a length is
abbrev pub share_of : ℕ → ℕ → ℕ
share_of part whole = if whole == 0 then 0 else min (part * 10000 / whole) 10000

-- where a position is on the axis: one before the picture's first is there, and one after its last is at the end
abbrev pub x_of : Timeline → ℕ → ℕ
x_of timeline position =
    1400 + share_of (min (position - timeline.from) (timeline.to - timeline.from)) (timeline.to - timeline.from)

-- where a lane is, with so many gaps before it
abbrev pub row_at : ℕ → ℕ → ℕ
row_at place gaps = 600 + gaps * 120 + min place 10000 * 260

abbrev pub y_of : ℕ → Group → ℕ
y_of place group.Processor = row_at place 0
y_of place group.Task = row_at place 1

-- ---- what a kind looks like

-- its colour (Okabe and Ito, "Color Universal Design"), with greys for what executes nothing
abbrev pub colour_of : Kind → List ℕ
colour_of kind.Task = codes "#009e73"
colour_of kind.Handler = codes "#e69f00"
colour_of kind.Idle = codes "#e4e4e4"
colour_of kind.Stopped = codes "#4d4d4d"
colour_of kind.Running = codes "#009e73"
colour_of kind.Ready = codes "#f0e442"
colour_of kind.Waiting = codes "#56b4e9"
colour_of kind.Suspended = codes "#cc79a7"
colour_of kind.WaitingSuspended = codes "#0072b2"
colour_of kind.Dormant = codes "#bdbdbd"
colour_of kind.Off = codes "#000000"

-- the colour of text on it
abbrev pub ink_of : Kind → List ℕ
ink_of kind.Stopped = codes "#ffffff"
ink_of kind.WaitingSuspended = codes "#ffffff"
ink_of k = codes "#000000"

-- how high its bars are: a dormant task and a board that is off are a thin line
abbrev pub height_of : Kind → ℕ
height_of kind.Dormant = 40
height_of kind.Off = 40
height_of k = 200

-- ---- numbers and attributes

abbrev pub tenths : ℕ → List ℕ
tenths n = decimal (n / 10) ++ codes "." ++ decimal (n % 10)

abbrev pub attribute : List ℕ → ℕ → List ℕ
attribute name n = codes " " ++ name ++ codes "=\"" ++ tenths n ++ codes "\""

-- ---- a bar

-- how far a slice is parted from the next: not at all where it is narrow
abbrev pub gap_of : ℕ → ℕ
gap_of width = if nat_lt width 30 then 0 else 5

-- how wide the bar is: each can be seen
abbrev pub shown_width : ℕ → ℕ
shown_width width = max (width - gap_of width) 5

-- a rectangle: its place, its size and its colour
abbrev pub rect_text : ℕ → ℕ → ℕ → ℕ → List ℕ → List ℕ
rect_text x y width height colour =
    codes "<rect" ++ attribute (codes "x") x ++ attribute (codes "y") y ++ attribute (codes "width") width
    ++ attribute (codes "height") height ++ codes " fill=\"" ++ colour ++ codes "\">"

-- the bar of a kind, from a place on, in a lane with this upper edge
abbrev pub box_text : Kind → ℕ → ℕ → ℕ → List ℕ
box_text kind x y width =
    rect_text x (y + (200 - height_of kind) / 2) (shown_width width) (height_of kind) (colour_of kind)

-- what a browser shows of it under the pointer: its name and its kind, and from where to where it is
abbrev pub what_text : Slice → List ℕ
what_text slice =
    codes "<title>" ++ xml_text (slice_name slice) ++ codes " (" ++ kind_name slice.kind ++ codes "), "

abbrev pub span_text : ℕ → ℕ → List ℕ
span_text from to = decimal from ++ codes " to " ++ decimal to ++ codes "</title></rect>\n"

abbrev pub title_text : Slice → List ℕ
title_text slice = what_text slice ++ span_text slice.from slice.to

-- the bar is high and has room for its name
abbrev pub has_room : Slice → ℕ → Bool
has_room slice width = nat_le 200 (height_of slice.kind) && nat_le (length (slice_name slice)) ((width - 60) / 65)

-- the beginning of a label, with its colour and its place
abbrev pub ink_text : List ℕ → ℕ → ℕ → List ℕ
ink_text colour x y =
    codes "<text pointer-events=\"none\"" ++ attribute (codes "x") x ++ attribute (codes "y") y
    ++ codes " fill=\"" ++ colour ++ codes "\">"

abbrev pub name_text : Slice → ℕ → ℕ → List ℕ
name_text slice x y =
    ink_text (ink_of slice.kind) (x + 30) (y + 140) ++ xml_text (slice_name slice) ++ codes "</text>\n"

abbrev pub label_text : Slice → ℕ → ℕ → ℕ → List ℕ
label_text slice x y width = if has_room slice width then name_text slice x y else []

-- a bar at a place, with its name where it has room for it
abbrev pub drawn_at : Slice → ℕ → ℕ → ℕ → List ℕ
drawn_at slice x y width = box_text slice.kind x y width ++ title_text slice ++ label_text slice x y width

-- it lies in the picture
abbrev pub is_outside : Timeline → Slice → Bool
is_outside timeline slice = nat_le slice.to timeline.from || nat_le timeline.to slice.from

abbrev pub drawn_in : Timeline → Slice → Option Lane → List ℕ
drawn_in timeline slice None = []
drawn_in timeline slice (Some lane) =
    if is_outside timeline slice then []
    else drawn_at slice (x_of timeline slice.from) (y_of slice.lane lane.group)
    (x_of timeline slice.to - x_of timeline slice.from)

-- the bar of a slice and its label, where it has a lane and lies in the picture
abbrev pub slice_text : Timeline → Slice → List ℕ
slice_text timeline slice = drawn_in timeline slice (slice_get timeline.lanes.items slice.lane)

unfoldable pub slices_text : Timeline → List ℕ
slices_text timeline = flat_map (slice_text timeline) timeline.slices.items

-- ---- texts that have others in them

-- a text with these bytes at its front
abbrev pub GoesOn : List ℕ → List ℕ → Type 0
GoesOn front text = take (length front) text ≡ front

-- a text with these bytes in it
abbrev pub Holds : List ℕ → List ℕ → Type 0
Holds part text = (before : List ℕ) × (after : List ℕ) × (before ++ part ++ after ≡ text)

-- What the slices and marks of a timeline are called.
use Rattle.std.specs.Prelude.{ℕ, List, [], ◌∷◌, codes}
use Rattle.brd_timeline.specs.declared.timeline.Kind.{Kind}
use Rattle.brd_timeline.specs.declared.timeline.MarkKind.{MarkKind}
use Rattle.brd_timeline.specs.declared.timeline.Slice.{Slice}
use Rattle.brd_timeline.specs.declared.timeline.Mark.{Mark}
use Rattle.brd_timeline.specs.declared.timeline.Kind.TheVariants as of_slice
use Rattle.brd_timeline.specs.declared.timeline.MarkKind.TheVariants as of_mark

-- the name of a kind
abbrev pub kind_name : Kind → List ℕ
kind_name of_slice.Task = codes "task"
kind_name of_slice.Handler = codes "handler"
kind_name of_slice.Idle = codes "idle"
kind_name of_slice.Stopped = codes "stopped"
kind_name of_slice.Running = codes "running"
kind_name of_slice.Ready = codes "ready"
kind_name of_slice.Waiting = codes "waiting"
kind_name of_slice.Suspended = codes "suspended"
kind_name of_slice.WaitingSuspended = codes "waiting-suspended"
kind_name of_slice.Dormant = codes "dormant"
kind_name of_slice.Off = codes "off"

-- the name of a kind of marks
abbrev pub mark_name : MarkKind → List ℕ
mark_name of_mark.Call = codes "call"
mark_name of_mark.Fault = codes "fault"
mark_name of_mark.Interrupt = codes "interrupt"
mark_name of_mark.Tick = codes "tick"

-- a label, or where it is empty the name of a kind
abbrev pub label_or : List ℕ → List ℕ → List ℕ
label_or [] name = name
label_or (b ∷ bs) name = b ∷ bs

abbrev pub slice_name : Slice → List ℕ
slice_name slice = label_or slice.label.items (kind_name slice.kind)

abbrev pub mark_label : Mark → List ℕ
mark_label mark = label_or mark.label.items (mark_name mark.kind)

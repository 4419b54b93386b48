-- Marks with names.
use Rattle.std.specs.Prelude.{ℕ, Bool, not, ◌||◌, if◌then◌else◌, nat_lt, List, [], ◌∷◌, ◌++◌, length, filter}
use Rattle.std.specs.Prelude.{Option, Some, None, is_some}
use Rattle.std.specs.Str.{bytes_eq}
use Rattle.brd_gdb.specs.declared.request.MarkName.{MarkName}
use Rattle.brd_stub.specs.declared.marks.NamedMark.{NamedMark}

-- a mark has this name
abbrev pub is_of : NamedMark → MarkName → Bool
is_of mark name = bytes_eq mark.name.bytes name.bytes

-- where the mark of a name stands, if there is one
abbrev pub mark_of : List NamedMark → MarkName → Option ℕ
mark_of [] name = None
mark_of (mark ∷ marks) name = if is_of mark name then Some mark.position else mark_of marks name

abbrev pub without_mark : List NamedMark → MarkName → List NamedMark
without_mark marks name = filter (λ mark. not (is_of mark name)) marks

-- a mark may have a name that it has already, and any other where fewer than 64 have names (own choice)
abbrev pub may_mark : List NamedMark → MarkName → Bool
may_mark marks name = nat_lt (length marks) 64 || is_some (mark_of marks name)

abbrev pub with_mark : List NamedMark → MarkName → ℕ → List NamedMark
with_mark marks name position =
    if may_mark marks name
    then without_mark marks name ++ record { name = name; position = position } ∷ []
    else marks

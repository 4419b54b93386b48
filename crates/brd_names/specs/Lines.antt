-- How a line of a trace is written.
use Rattle.std.specs.Prelude.{ℕ, ◌-◌, ◌/◌, ◌%◌, ◌^◌, ◌==◌, nat_lt, if◌then◌else◌, List, [], ◌∷◌, ◌++◌, length, take}
use Rattle.std.specs.Prelude.{codes, Option, Some, None}
use Rattle.std.specs.Fmt.{decimal}
use Rattle.brd_kernel.specs.declared.processor.Standing.{Standing}
use Rattle.brd_mem.specs.declared.image.Symbol.{Symbol}
use Rattle.brd_listing.specs.Places.{place_text}
use Rattle.brd_names.specs.declared.line.Heading.{Heading}

-- at most twenty blanks
abbrev pub blanks : ℕ → List ℕ
blanks n = take n (codes "                    ")

-- a cell of a column of this width: its text at the right end, or at the left one with a blank behind it
abbrev pub right : ℕ → List ℕ → List ℕ
right width cell = blanks (width - length cell) ++ cell

abbrev pub left : ℕ → List ℕ → List ℕ
left width cell = cell ++ 32 ∷ blanks (width - 1 - length cell)

-- a name and a number
abbrev pub named_text : List ℕ → ℕ → List ℕ
named_text name n = name ++ 32 ∷ decimal n

-- what is called by a word and the number of an interrupt line; from line 32 on by the line's time handler: the cyclic
-- handler of ID c has line 30 + 2 * c, the alarm handler of ID a line 31 + 2 * a

abbrev pub time_handler_text : ℕ → List ℕ
time_handler_text line =
    if line % 2 == 0 then named_text (codes "cyclic handler") ((line - 30) / 2)
    else named_text (codes "alarm handler") ((line - 31) / 2)

abbrev pub called_text : List ℕ → ℕ → List ℕ
called_text word line = if nat_lt line 32 then named_text word line else time_handler_text line

-- a count of things, whose name has an s unless there is one
abbrev pub count_text : ℕ → List ℕ → List ℕ
count_text n name = decimal n ++ 32 ∷ name ++ (if n == 1 then [] else codes "s")

-- a word as a signed number
abbrev pub signed_text : ℕ → List ℕ
signed_text word = if nat_lt word (2 ^ 31) then decimal word else 45 ∷ decimal (2 ^ 32 - word)

abbrev pub cpu_text : Option ℕ → List ℕ
cpu_text None = []
cpu_text (Some cpu) = decimal cpu

abbrev pub who_text : Option Standing → List ℕ
who_text (Some (Standing.Task id)) = named_text (codes "task") id
who_text (Some (Standing.Handler line)) = called_text (codes "handler") line
who_text _ = []

abbrev pub where_text : List Symbol → Option ℕ → List ℕ
where_text symbols None = []
where_text symbols (Some place) = place_text symbols place

-- what stands before a line's text: position, processor, who executes, where
abbrev pub heading_text : List Symbol → Heading → List ℕ
heading_text symbols it =
    right 10 (decimal it.position) ++ 32 ∷ left 4 (cpu_text it.cpu) ++ left 11 (who_text it.who)
    ++ left 20 (where_text symbols it.place)

abbrev pub line_text : List Symbol → Heading → List ℕ → List ℕ
line_text symbols it what = heading_text symbols it ++ what ++ codes "\n"

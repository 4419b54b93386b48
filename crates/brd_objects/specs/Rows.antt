-- The rows that are kept of a table: those up to its last object's, at least. (The models of this crate's types alone
-- name this.)
use Rattle.std.specs.Prelude.{◌-◌, List, ◌++◌, Option, None, length, replicate}
use Rattle.brd_objects.specs.Table.{Table}

-- the table that begins with these rows: None stands in all others
unfoldable pub table_of : {X : Type 0} → List (Option X) → Table X
table_of rows = rows ++ replicate (256 - length rows) None

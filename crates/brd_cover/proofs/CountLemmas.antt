-- What holds whether a call succeeded or not.
use Rattle.std.specs.Prelude.{Result, Ok, Err, OnOk}

pub on_ok : {A E P : Type 0} (result : Result A E) → P → OnOk result P
on_ok (Ok value) holds = holds
on_ok (Err fault) holds = tt

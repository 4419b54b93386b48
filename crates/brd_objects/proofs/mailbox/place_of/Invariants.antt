-- The message goes after what was passed.
use Rattle.std.proofs.Common.{◌≡◌, ◌++◌, take, drop}
use Rattle.brd_objects.specs.Mailboxes.{behind_equals}
use Rattle.brd_objects.proofs.mailbox.place_of.Given as goal

abbrev pub invariant-loop-i : goal.invariant-loop-i
invariant-loop-i l = behind_equals l.message l.messages ≡ take l.i l.messages ++ behind_equals l.message (drop l.i l.messages)

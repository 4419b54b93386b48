use Rattle.std.proofs.Common.{rules, ◌≡◌, ◌∷◌}
use Rattle.brd_search.proofs.EscapeLemmas.{read_nothing, read_on}
use Rattle.brd_search.proofs.console.bytes_of.Goals as goal

pub bytes-init : goal.bytes-init
bytes-init c = rw c.new-bytes.ensures (read_nothing c.args.text.now)

pub bytes-preserved : goal.bytes-preserved
bytes-preserved c =
    let e : c.bytes.rest.now ≡ c.in-Some.first.now ∷ c.in-Some.others.now = search rules in
    read_on _ c.bytes.bytes c.push.new.self c.bytes.rest.now (c.in-Some.first.now ∷ c.in-Some.others.now) c.in-Some-byte_of.left.now
    c.in-Some-byte_of.byte c.bytes.invariant e c.in-Some-byte_of.ensures.is c.in_ok-push.ensures.ok

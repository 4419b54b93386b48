use Rattle.std.proofs.Common.{ℕ, List, Option, Bor, ap, arith}
use Rattle.std.specs.Prelude.{option_map}
use Rattle.std.proofs.lemmas.Result.{err_from_is_err_and}
use Rattle.brd_threads.specs.Script.{script_of}
use Rattle.brd_threads.proofs.ScriptLemmas.{at_of, goes_on, line_fails}
use Rattle.brd_threads.proofs.script.read_script.Goals as goal

pub returns-in_err-put_line : goal.returns-in_err-put_line
returns-in_err-put_line c =
    let p = err_from_is_err_and c.from_residual.result c.from_residual.ensures.1 in
    rw (p.1, p.2)
    (line_fails c.lines.script.items c.lines.number c.lines.rest.now c.split_line.result.0.now c.in-Some.after.now _ _ (script_of c.args.text.now)
    (at_of c.lines.script.items c.lines.number c.lines.rest.now _ _ _ c.split_line.ensures.lines c.lines.invariant.same)
    (ap (λ (o : Option (Bor (List ℕ))). option_map (λ behind. behind.now) o) c.in-Some.is)
    c.in_err-put_line.ensures)

pub lines-preserved : goal.lines-preserved
lines-preserved c = record {
  same = goes_on c.lines.script.items c.put_line.new.script.items c.lines.number c.lines.rest.now c.split_line.result.0.now c.in-Some.after.now _ (script_of c.args.text.now)
      (at_of c.lines.script.items c.lines.number c.lines.rest.now _ _ _ c.split_line.ensures.lines c.lines.invariant.same)
      (ap (λ (o : Option (Bor (List ℕ))). option_map (λ behind. behind.now) o) c.in-Some.is)
      c.in_ok-put_line.ensures;
  room = omega (arith, c.lines.invariant.room, rw c.in-Some.is at c.split_line.ensures.shorter);
}

use Rattle.std.proofs.Common.{◌∙◌, ap, ◌++◌, w64, rules, ◌^◌}
use Rattle.std.specs.Prelude.{ℤ}
use mir.Val.{SFits}
use Rattle.std.proofs.lemmas.Int.{to_z-of_z}
use Rattle.brd_asm.specs.Values.{modulo}
use Rattle.brd_asm.proofs.NamesLemmas.{symbols_more, symbols_all}
use Rattle.brd_asm.proofs.names.Names.symbols.Goals as goal

pub loop-key-preserved : goal.loop-key-preserved
loop-key-preserved c =
    let fits : SFits w64 c.in-Some.value.now = search rules in
    symbols_more _ _ _ c.loop-key.symbols c.push.new.self c.in-Some.key.now c.in-Some.value.now c.append.new.self c.word-value.result
    c.in-Some.ensures.steps c.loop-key.invariant (c.in_ok-append.ensures.ok ∙ ap (λ bytes. bytes ++ c.in-Some.key.now.name.now) c.new-bytes.ensures) (c.word-value.ensures ∙ ap (λ (v : ℤ). modulo v (2 ^ 32)) (to_z-of_z w64 c.in-Some.value.now fits)) c.in_ok-push.ensures.ok

pub returns : goal.returns
returns c = symbols_all _ _ c.loop-key.symbols c.in-None.ensures.steps.0 c.loop-key.invariant

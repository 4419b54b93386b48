use Rattle.std.proofs.Common.{◌≡◌, ◌++◌, ◌∙◌, ap, append_assoc, ℕ, List, codes}
use Rattle.std.proofs.lemmas.Result.{on_ok_weaker}
use Rattle.brd_names.specs.Lines.{signed_text, named_text}
use Rattle.brd_names.specs.Stretches.{asking_text}
use Rattle.brd_names.proofs.stretch.put_asked.Goals as goal

pub returns : goal.returns
returns c =
    let old = c.args.out.now.items in
    let call = asking_text c.args.spin.who in
    let lock = signed_text c.args.spin.lock in
    let name = codes "), spins for lock" in
    let asks : c.put.new.out.items ≡ old ++ call = c.in_ok-put.ensures.is ∙ ap (λ (it : List ℕ). old ++ it) c.asking.ensures in
    let signs : c.put_signed.new.out.items ≡ old ++ (call ++ lock) =
    c.in_ok-put_signed.ensures ∙ (ap (λ (it : List ℕ). it ++ lock) asks ∙ append_assoc old call lock) in
    on_ok_weaker c.put_named.result
    (λ e. e ∙ (ap (λ (it : List ℕ). it ++ named_text name c.from.result) signs
    ∙ (append_assoc old (call ++ lock) (named_text name c.from.result)
    ∙ ap (λ (n : ℕ). old ++ ((call ++ lock) ++ named_text name n)) c.from.ensures))) c.put_named.ensures

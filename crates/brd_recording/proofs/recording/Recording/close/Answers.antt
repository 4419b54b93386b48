use Rattle.std.proofs.Common.{refl, sym, ap, subst, ◌∙◌, arith}
use Rattle.std.proofs.lemmas.List.{get_or_read}
use Rattle.brd_timeline.specs.declared.timeline.Slice.{Slice}
use Rattle.brd_recording.specs.declared.recording.Open.{Open}
use Rattle.brd_recording.specs.Slices.{slices_in}
use Rattle.brd_recording.specs.Recording.{Closes}
use Rattle.brd_recording.proofs.LanesLemmas.{slices-own, slices-other}
use Rattle.brd_recording.proofs.recording.Recording.close.Goals as goal

pub returns-clause-this : goal.returns-clause-this
returns-clause-this c = λ d.
    let current : Open = c.index.result.now in
    let slices = c.args.self.now.timeline.slices.items in
    let slice : Slice = record {
      lane = c.args.lane;
      from = current.from;
      to = c.args.to;
      kind = current.doing.kind;
      label = c.in_ok-label_of.field-0;
    } in
    let closes : Closes current c.args.to (slices_in c.args.lane slices) (slices_in c.args.lane c.push.new.self.items) = record {
      some = λ less. record {
        slice = slice;
        becomes = record { from = refl; to_is = refl; kind = refl; label = c.in_ok-label_of.ensures };
        new_is = ap (slices_in c.args.lane) c.in_ok-push.ensures.items ∙ slices-own c.args.lane slices slice refl;
      };
      none = λ past. absurd (omega (arith, past, c.if-from-to.false));
    } in
    subst (λ (it : Open). Closes it c.args.to (slices_in c.args.lane slices) (slices_in c.args.lane c.push.new.self.items))
    (get_or_read c.args.self.now.current.items c.args.lane current c.requires c.index.ensures d) closes

pub returns-clause-slices : goal.returns-clause-slices
returns-clause-slices c = λ other apart.
    let slices = c.args.self.now.timeline.slices.items in
    let slice : Slice = record {
      lane = c.args.lane;
      from = c.index.result.now.from;
      to = c.args.to;
      kind = c.index.result.now.doing.kind;
      label = c.in_ok-label_of.field-0;
    } in
    ap (slices_in other) c.in_ok-push.ensures.items ∙ slices-other other slices slice apart

use Rattle.std.proofs.Common.{ap, sym, ◌+◌, ◌∷◌, ◌∙◌, drop, Some}
use Rattle.std.specs.Option.{option_map}
use Rattle.std.proofs.lemmas.List.{drop_more}
use Rattle.brd_queue.proofs.FindLemmas.{find_goes_on, find_stops, find_ends}
use Rattle.brd_objects.proofs.objects.row_of.Goals as goal

pub returns-then-id : goal.returns-then-id
returns-then-id g c =
    ap (λ x. Some x) c.in_ok-new.ensures
    ∙ ap (option_map g.T.Object.made_of) (find_stops g.T.Object.id_of c.args.id c.args.configs.now c.loop-config.config-index c.config-item.result
    (drop_more c.args.configs.now c.loop-config.config-index c.config-item.result c.loop-config-test.true
    ∙ ap (λ config. config ∷ drop (c.loop-config.config-index + 1) c.args.configs.now) (sym c.config-item.is))
    (sym c.id.ensures ∙ c.if-id.true) c.loop-config.invariant)

pub loop-config-preserved : goal.loop-config-preserved
loop-config-preserved g c =
    find_goes_on g.T.Object.id_of c.args.id c.args.configs.now c.loop-config.config-index c.config-item.result
    (drop_more c.args.configs.now c.loop-config.config-index c.config-item.result c.loop-config-test.true
    ∙ ap (λ config. config ∷ drop (c.loop-config.config-index + 1) c.args.configs.now) (sym c.config-item.is))
    (λ same. c.if-id.false (c.id.ensures ∙ same)) c.loop-config.invariant

pub returns : goal.returns
returns g c = ap (option_map g.T.Object.made_of) (find_ends g.T.Object.id_of c.args.id c.args.configs.now c.loop-config.config-index c.loop-config-test.false c.loop-config.invariant)

use Rattle.std.proofs.Common.{◌∙◌, ◌≡◌, ap, map, sym, List, [], Option, None, Some}
use Rattle.std.specs.Prelude.{option_map, unwrap_or}
use Rattle.clap.proofs.WalkLemmas.{raw_values-rows}
use Rattle.clap.specs.Words.{Text, all_of, found_of, rows_of}
use Rattle.brd_cli.proofs.request.texts_of.Goals as goal

given : (texts : List Text) (all : Option (List Text)) → Some texts ≡ all → texts ≡ unwrap_or all []
given texts all is = ap (λ (it : Option (List Text)). unwrap_or it []) is

none_given : (all : Option (List Text)) → None ≡ all → [] ≡ unwrap_or all []
none_given all is = ap (λ (it : Option (List Text)). unwrap_or it []) is

pub returns-in-None : goal.returns-in-None
returns-in-None c =
    ap (map (λ text. text.now)) c.new.ensures.items
    ∙ none_given (all_of c.args.name.now (rows_of (found_of c.args.arguments.now)))
    (c.in-None.ensures ∙ raw_values-rows (found_of c.args.arguments.now) c.args.name.now)

pub returns-in_ok-all-in-Some : goal.returns-in_ok-all-in-Some
returns-in_ok-all-in-Some c =
    ap (map (λ text. text.now)) c.in_ok-all-in-Some.ensures.items
    ∙ given _ (all_of c.args.name.now (rows_of (found_of c.args.arguments.now)))
    (c.in-Some.ensures ∙ raw_values-rows (found_of c.args.arguments.now) c.args.name.now)

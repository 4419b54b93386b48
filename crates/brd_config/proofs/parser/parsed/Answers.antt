use Rattle.brd_config.specs.View.{drafted}
use Rattle.brd_config.proofs.Validity.{config_is_valid}
use Rattle.brd_config.proofs.parser.parsed.Goals as goal

pub whole-requires : goal.whole-requires
whole-requires c = config_is_valid c.args.text.now (drafted c.in_ok-draft.draft) c.in_ok-draft.ensures

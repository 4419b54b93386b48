use Rattle.brd_config.proofs.SaysBack.{plain_text, marked_back, none_without}
use Rattle.brd_config.proofs.laws.only_the_profile_is_new.Goals as goal

pub returns : goal.returns
returns c = record { same = plain_text; marked = marked_back; none = none_without }

use Rattle.brd_objects.proofs.MessageLemmas.{received-first, empty, kept, handed, full}
use Rattle.brd_objects.proofs.laws.no_message_is_lost.Goals as goal

pub returns-clause-received : goal.returns-clause-received
returns-clause-received c m address is = received-first m address is

pub returns-clause-empty : goal.returns-clause-empty
returns-clause-empty c m is = empty m is

pub returns-clause-kept : goal.returns-clause-kept
returns-clause-kept c m message is = kept m message is

pub returns-clause-handed : goal.returns-clause-handed
returns-clause-handed c m message id is = handed m message id is

pub returns-clause-full : goal.returns-clause-full
returns-clause-full c m message is = full m message is

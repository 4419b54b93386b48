use Rattle.brd_objects.proofs.MessageLemmas.{comes, ordered-with}
use Rattle.brd_objects.proofs.laws.messages_come_behind_their_equals.Goals as goal

pub returns-clause-rule : goal.returns-clause-rule
returns-clause-rule c message messages ordered = comes message messages ordered

pub returns-clause-stay : goal.returns-clause-stay
returns-clause-stay c message messages ordered = ordered-with message messages ordered

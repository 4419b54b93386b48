use Rattle.brd_order.proofs.RaceLemmas.{told-more}
use Rattle.brd_order.proofs.races.Races.tell.Goals as goal

pub returns-in_ok-push-clause-words : goal.returns-in_ok-push-clause-words
returns-in_ok-push-clause-words c = λ told. told-more c.args.self.now.told.items c.push.new.self.items
    c.args.self.now.words.keys c.insert.new.self.keys
    (record { earlier = c.in-Some.earlier; later = c.args.new }) told c.in_ok-push.ensures.items
    c.in_ok-insert.ensures.updates.1
    c.in_ok-insert.ensures.updates.2

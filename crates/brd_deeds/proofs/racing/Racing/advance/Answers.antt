use Rattle.brd_deeds.proofs.racing.Racing.advance.Goals as goal

pub returns-clause-raced : goal.returns-clause-raced
returns-clause-raced c = λ queues boot is. c.advance_in.ensures.raced queues boot c.args.journal.now.events c.requires.within c.in-Some.ensures.comes
    (record { played = is.played; past = is.past; order = is.order; kept = is.kept })

pub returns-clause-refuses : goal.returns-clause-refuses
returns-clause-refuses c = λ queues boot is. c.advance_in.ensures.refuses queues boot c.args.journal.now.events c.requires.within c.in-Some.ensures.comes
    (record { played = is.played; past = is.past; order = is.order; kept = is.kept })

use Rattle.brd_stacks.proofs.following.Following.advance.Goals as goal

pub returns-clause-followed : goal.returns-clause-followed
returns-clause-followed c = λ boot stacks is. c.advance_in.ensures.followed boot c.args.journal.now.events stacks c.requires.within c.in-Some.ensures.comes
    (record { played = is.played; tracks = is.tracks; soonest = is.soonest })

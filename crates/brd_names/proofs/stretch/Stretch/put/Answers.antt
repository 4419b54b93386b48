use Rattle.brd_names.proofs.stretch.Stretch.put.Goals as goal

pub returns-in-NoProcessor : goal.returns-in-NoProcessor
returns-in-NoProcessor c = rw c.in-NoProcessor.is c.put_steps-in-NoProcessor.ensures

pub returns-in-Again : goal.returns-in-Again
returns-in-Again c = rw c.in-Again.is c.put_raises-in-Again.ensures

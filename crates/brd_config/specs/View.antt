-- What clauses see of the values of the code.
use Rattle.brd_config.specs.declared.config.Config.{Config}
use Rattle.brd_config.specs.declared.draft.Draft.{Draft}
use Rattle.brd_config.specs.Configuration.{Configuration}
use Rattle.brd_config.specs.Meaning.{State}

abbrev pub view : Config → Configuration
view c =
    record {
      standard = c.standard;
      processors = c.processors;
      ram = c.ram;
      tasks = c.tasks;
      semaphores = c.semaphores;
      flags = c.flags;
      queues = c.queues;
      spin_locks = c.spin_locks;
      mutexes = c.mutexes;
      pools = c.pools;
      mailboxes = c.mailboxes;
      cyclics = c.cyclics;
      alarms = c.alarms;
      handlers = c.handlers;
    }

abbrev pub drafted : Draft → Configuration
drafted d =
    record {
      standard = d.standard;
      processors = d.processors;
      ram = d.ram;
      tasks = d.tasks;
      semaphores = d.semaphores;
      flags = d.flags;
      queues = d.queues;
      spin_locks = d.spin_locks;
      mutexes = d.mutexes;
      pools = d.pools;
      mailboxes = d.mailboxes;
      cyclics = d.cyclics;
      alarms = d.alarms;
      handlers = d.handlers;
    }

abbrev pub state_of : Draft → State
state_of d = record { config = drafted d; class = d.class }

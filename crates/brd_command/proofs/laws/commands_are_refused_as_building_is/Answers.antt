use Rattle.brd_command.proofs.RefusalLemmas as refusal
use Rattle.brd_command.proofs.laws.commands_are_refused_as_building_is.Goals as goal

pub returns-clause-asm : goal.returns-clause-asm
returns-clause-asm g c = refusal.of_asm

pub returns-clause-run : goal.returns-clause-run
returns-clause-run g c = refusal.run

pub returns-clause-debug : goal.returns-clause-debug
returns-clause-debug g c = refusal.debug

pub returns-clause-race : goal.returns-clause-race
returns-clause-race g c = refusal.race

pub returns-clause-one : goal.returns-clause-one
returns-clause-one g c = refusal.one c.a_program_has_one_image.ensures

use Rattle.std.proofs.Common.{◌≡◌, ap, codes}
use Rattle.std.specs.Prelude.{Ok}
use Rattle.clap.specs.Words.{app_of, new_app}
use Rattle.brd_cli.specs.Usage.{asm, debug, explore, gdb, journal, race, run, shrink, trace, tries, words}
use Rattle.brd_cli.specs.Usage.{wants_command}
use Rattle.brd_cli.proofs.UsageLemmas.{adds}
use Rattle.brd_cli.proofs.usage.board_command.Goals as goal

pub returns : goal.returns
returns c =
    let none : app_of c.version-board.result ≡ wants_command (new_app (codes "board")) =
    rw (c.version-board.ensures, c.subcommand_required.ensures, c.after_help.ensures, c.about.ensures)
    (ap wants_command c.new.ensures.app) in
    let one =
    adds tries _ (Ok c.version-board.result) c.try_command.result c.with_command-board.result
    c.try_command.ensures c.with_command-board.ensures none in
    let two =
    adds asm _ c.with_command-board.result c.asm_command.result c.with_command-board-2.result
    c.asm_command.ensures c.with_command-board-2.ensures one in
    let three =
    adds run _ c.with_command-board-2.result c.run_command.result c.with_command-board-3.result
    c.run_command.ensures c.with_command-board-3.ensures two in
    let four =
    adds trace _ c.with_command-board-3.result c.trace_command.result c.with_command-board-4.result
    c.trace_command.ensures c.with_command-board-4.ensures three in
    let five =
    adds debug _ c.with_command-board-4.result c.debug_command.result c.with_command-board-5.result
    c.debug_command.ensures c.with_command-board-5.ensures four in
    let six =
    adds gdb _ c.with_command-board-5.result c.gdb_command.result c.with_command-board-6.result
    c.gdb_command.ensures c.with_command-board-6.ensures five in
    let seven =
    adds race _ c.with_command-board-6.result c.race_command.result c.with_command-board-7.result
    c.race_command.ensures c.with_command-board-7.ensures six in
    let eight =
    adds journal _ c.with_command-board-7.result c.journal_command.result c.with_command-board-8.result
    c.journal_command.ensures c.with_command-board-8.ensures seven in
    let nine =
    adds explore _ c.with_command-board-8.result c.explore_command.result c.with_command-board-9.result
    c.explore_command.ensures c.with_command-board-9.ensures eight in
    let ten =
    adds shrink _ c.with_command-board-9.result c.shrink_command.result c.with_command-board-10.result
    c.shrink_command.ensures c.with_command-board-10.ensures nine in
    adds words _ c.with_command-board-10.result c.words_command.result c.with_command.result
    c.words_command.ensures c.with_command.ensures ten

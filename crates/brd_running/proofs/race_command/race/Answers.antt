use Rattle.brd_running.proofs.RaceLemmas.{keeps, no_journal, no_report, not_raced, written}
use Rattle.brd_running.proofs.race_command.race.Goals as goal

pub returns-in-Err-raced : goal.returns-in-Err-raced
returns-in-Err-raced g c =
    not_raced c.args.quota c.in-Ok.start _ _ _ _ c.in-Err-raced.fault c.in-Err-raced.ensures (keeps (g.O.Write.contents c.args.out.now)) (keeps (g.W.Write.contents c.args.writer.now))
    (g.I.Read.remaining c.args.inputs.now.image) (g.I.Read.remaining c.args.inputs.now.config) (g.I.Read.remaining c.args.inputs.now.last) c.in-Ok.ensures

pub returns-in-Err-write_whole : goal.returns-in-Err-write_whole
returns-in-Err-write_whole g c =
    no_journal c.args.quota c.in-Ok.start _ _ _ _ c.in-Ok-raced.shown.journal.items c.in-Ok-raced.shown.report.items _
    c.in-Err-write_whole.error c.in-Ok-raced.ensures c.deref.ensures.value c.in-Err-write_whole.ensures.front (keeps (g.W.Write.contents c.args.writer.now))
    (g.I.Read.remaining c.args.inputs.now.image) (g.I.Read.remaining c.args.inputs.now.config) (g.I.Read.remaining c.args.inputs.now.last) c.in-Ok.ensures

pub returns-in-Ok-write_whole-2 : goal.returns-in-Ok-write_whole-2
returns-in-Ok-write_whole-2 g c =
    written c.args.quota c.in-Ok.start _ _ _ _ c.in-Ok-raced.shown.journal.items c.in-Ok-raced.shown.report.items _ _
    c.in-Ok-raced.ensures c.deref.ensures.value c.deref-2.ensures.value c.in-Ok-write_whole.ensures.whole c.in-Ok-write_whole-2.ensures.whole
    (g.I.Read.remaining c.args.inputs.now.image) (g.I.Read.remaining c.args.inputs.now.config) (g.I.Read.remaining c.args.inputs.now.last) c.in-Ok.ensures

pub returns : goal.returns
returns g c =
    no_report c.args.quota c.in-Ok.start _ _ _ _ c.in-Ok-raced.shown.journal.items c.in-Ok-raced.shown.report.items _ _
    c.in-Err-write_whole-2.error c.in-Ok-raced.ensures c.deref.ensures.value c.deref-2.ensures.value
    c.in-Ok-write_whole.ensures.whole c.in-Err-write_whole-2.ensures.front
    (g.I.Read.remaining c.args.inputs.now.image) (g.I.Read.remaining c.args.inputs.now.config) (g.I.Read.remaining c.args.inputs.now.last) c.in-Ok.ensures

use Rattle.std.proofs.Common.{ℕ, ◌≡◌, [], false, sym, subst, arith}
use Rattle.std.proofs.lemmas.Grind.{common_steps}
use Rattle.brd_printer.specs.Telling.{IsTrace, may_list}
use Rattle.brd_printer.proofs.RanLemmas.{all_hidden, none_done}
use Rattle.brd_trace.specs.Dated.{IsDated}
use Rattle.brd_trace.proofs.NotedLemmas.{noted-far}
use Rattle.brd_trace.proofs.DatedLemmas.{dated-far}
use Rattle.std.specs.Option.{option_map}
use Rattle.brd_recording.specs.Lanes.{lanes_of}
use Rattle.brd_recording.specs.Recording.{IsRecorded}
use Rattle.brd_trace.proofs.SlicesLemmas.{recorded-far}
use Rattle.brd_trace.proofs.tracer.Tracer.pass.Goals as goal

pub returns-clause-none : goal.returns-clause-none
returns-clause-none c =
    none_done c.args.self.now.playback c.go_on.new.self c.args.rest.event c.go_on.result c.go_on.ensures.board c.go_on.ensures.at

pub returns-clause-told : goal.returns-clause-told
returns-clause-told c = λ manner boot events comes is.
    let playback = c.args.self.now.playback in
    let printer = c.args.self.now.printer in
    let off : may_list printer.options ≡ false = grind (arith, common_steps) in
    subst (λ (to : ℕ). IsTrace manner boot events playback.at to printer printer []) (sym c.go_on.ensures.at)
    (all_hidden manner boot playback.board events playback.at c.args.rest c.go_on.result printer comes is.board c.go_on.ensures.ran
    c.go_on.ensures.few off)

pub returns-clause-noted : goal.returns-clause-noted
returns-clause-noted c = λ boot events within comes is noted.
    let playback = c.args.self.now.playback in
    let notes = c.args.self.now.notes in
    record {
      known = noted-far boot events playback.at c.go_on.new.self.at playback.board c.go_on.new.self.board c.args.rest.event c.go_on.result notes
          is.board (c.go_on.ensures.played boot events within comes is).board c.go_on.ensures.board c.go_on.ensures.ran noted.known;
      recorded = subst (λ (to : ℕ). IsRecorded boot events to (option_map lanes_of notes.recording)) (sym c.go_on.ensures.at)
          (recorded-far boot playback.board events playback.at c.go_on.result c.args.rest (option_map lanes_of notes.recording) is.board comes
          c.go_on.ensures.ran c.go_on.ensures.few noted.recorded);
    }

pub returns-clause-dated : goal.returns-clause-dated
returns-clause-dated c = λ boot events within comes is dated.
    subst (λ (to : ℕ). IsDated boot events to c.args.self.now.notes) (sym c.go_on.ensures.at)
    (dated-far boot c.args.self.now.playback.board events c.args.self.now.playback.at c.go_on.result c.args.rest c.args.self.now.notes
    is.board comes c.go_on.ensures.ran c.go_on.ensures.few dated)

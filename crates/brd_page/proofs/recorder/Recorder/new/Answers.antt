use Rattle.std.proofs.Common.{◌≡◌, ◌≤◌, ℕ, sym, ap, ◌∙◌, subst, le_refl}
use Rattle.brd_journal.specs.declared.playback.Playback.{Playback}
use Rattle.brd_journal.specs.Playing.{IsPlayed}
use Rattle.brd_trace.specs.Recorded.{IsNoted}
use Rattle.brd_trace.proofs.RecordingLemmas.{keeps-begun}
use Rattle.brd_page.specs.Events.{IsDataUpTo}
use Rattle.brd_page.proofs.RunLemmas.{data-first, kept-noted}
use Rattle.brd_page.proofs.recorder.Recorder.new.Goals as goal

-- The tracer is where it was, and makes a timeline from there on; the board is a copy of its board.
pub returns-clause-recorded : goal.returns-clause-recorded
returns-clause-recorded c = λ boot events played noted.
    let from = c.args.tracer.playback.at in
    let shown = c.show.new.self in
    let same : shown.playback ≡ c.args.tracer.playback = c.show.ensures.same ∙ c.record.ensures.same in
    let here : from ≡ shown.playback.at = sym (ap (λ (p : Playback). p.at) same) in
    let copied : c.in_ok-playback.playback ≡ shown.playback = c.in_ok-playback.ensures in
    let there : from ≡ c.in_ok-playback.playback.at = here ∙ sym (ap (λ (p : Playback). p.at) copied) in
    let traced : IsPlayed boot events shown.playback = subst (λ (p : Playback). IsPlayed boot events p) (sym same) played in
    record {
      played = subst (λ (p : Playback). IsPlayed boot events p) (sym copied) traced;
      traced = traced;
      noted = subst (λ (n : ℕ). IsNoted boot events n shown.notes) here
          (kept-noted boot events from c.record.new.self.notes shown.notes c.show.ensures.known
          (subst (λ (n : ℕ). IsNoted boot events n c.record.new.self.notes) (ap (λ (p : Playback). p.at) c.record.ensures.same)
          (c.in_ok-record.ensures.noted boot events played noted)));
      begun = keeps-begun c.record.new.self.notes shown.notes c.show.ensures.known ∙ c.in_ok-record.ensures.begun;
      from_is = sym there;
      least = subst (λ (n : ℕ). from ≤ n) there (le_refl from);
      told = subst (λ (n : ℕ). IsDataUpTo boot events from n c.extend.new.self) there (data-first boot events from c.extend.new.self);
    }

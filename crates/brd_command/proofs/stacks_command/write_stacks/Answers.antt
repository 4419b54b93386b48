use Rattle.std.proofs.Common.{◌≡◌, List, ℕ, ◌++◌, take, ap, ◌∙◌, subst}
use Rattle.std.specs.Io.KnownBytes.{Appends}
use Rattle.brd_mem.specs.declared.image.Symbol.{Symbol}
use Rattle.brd_stacks.specs.declared.stack.Point.{Point}
use Rattle.brd_stacks.specs.declared.stack.Stack.{Stack}
use Rattle.brd_stacks.specs.declared.track.Track.{Track}
use Rattle.brd_stacks.specs.Depths.{AreFollowed, IsSoonest}
use Rattle.brd_stacks.specs.Laid.{stacks_of}
use Rattle.brd_stacks.specs.Points.{points_from}
use Rattle.brd_stacks.specs.Text.{stacks_text}
use Rattle.brd_command.specs.StacksCommand.{stacks_in}
use Rattle.brd_command.proofs.TraceLemmas.{last-of}
use Rattle.brd_command.proofs.stacks_command.write_stacks.Goals as goal

-- The stacks are those of the configuration and the image, and what is told of them is that of the events so far.
pub returns : goal.returns
returns g c =
    let config = c.args.config.now in
    let symbols = c.args.image.now.symbols in
    let events = c.args.journal.now.events in
    let played = c.play.new.following in
    let stacks : c.as_slice-2.result.now ≡ stacks_in symbols config =
    c.as_slice-2.ensures ∙ c.in_ok-stacks.ensures ∙ ap (λ (ss : List Symbol). stacks_of ss config.ram config.tasks config.handlers) c.as_slice.ensures in
    let followed = c.in_ok-play.ensures.followed c.args.board c.as_slice-2.result.now (c.in_ok-following.ensures.followed events) in
    let points : List Point = points_from 0 c.args.board (take played.playback.at events) in
    let text : c.deref.result.now ≡ stacks_text symbols played.tracks.items =
    c.deref.ensures.value ∙ c.in_ok-put_stacks.ensures
    ∙ ap (λ (bytes : List ℕ). bytes ++ stacks_text c.as_slice-3.result.now c.tracks.result.now) c.new-out.ensures.items
    ∙ ap (λ (ss : List Symbol). stacks_text ss c.tracks.result.now) c.as_slice-3.ensures
    ∙ ap (λ (ts : List Track). stacks_text symbols ts) c.tracks.ensures in
    last-of c.written.result c.written.ensures (λ written. record {
      at = played.playback.at;
      tracks = played.tracks.items;
      within = c.in_ok-play.ensures.within;
      followed = subst (λ (ss : List Stack). AreFollowed ss points played.tracks.items) stacks followed.tracks;
      soonest = subst (λ (ss : List Stack). IsSoonest ss points) stacks followed.soonest;
      ends = c.in_ok-play.ensures.ends;
      written = subst (λ (bytes : List ℕ). Appends (g.W.Write.contents c.args.writer.now) (g.W.Write.contents c.written.new.writer) bytes) text written;
    })

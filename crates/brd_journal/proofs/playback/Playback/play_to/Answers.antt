use Rattle.brd_journal.proofs.playback.Playback.play_to.Goals as goal

pub loop-self-preserved : goal.loop-self-preserved
loop-self-preserved c = record {
  on = c.advance.ensures.to;
  played = λ boot is.
      c.advance.ensures.played boot c.args.journal.now.events c.requires.within c.in-Some.ensures.comes (c.loop-self.invariant.played boot is);
  still = λ boot is. c.advance.ensures.still boot c.args.journal.now.events c.in-Some.ensures.comes (c.loop-self.invariant.played boot is);
}

mod LoopLemmas
mod RacingLemmas

mod MadeLemmas
pub mod StepLemmas

mod PlaceLemmas
mod KeptLemmas
mod PathLemmas
mod StepLemmas
mod ModelLemmas

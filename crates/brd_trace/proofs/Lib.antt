pub mod DatedLemmas
pub mod KnownLemmas
pub mod NotedLemmas
pub mod RecordingLemmas
pub mod SlicesLemmas

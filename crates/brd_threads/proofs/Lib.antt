pub mod StepLemmas
pub mod StationLemmas
pub mod RoomLemmas
pub mod ScriptLemmas
pub mod LeaseLemmas
pub mod RaceLemmas
pub mod ProcessorLemmas

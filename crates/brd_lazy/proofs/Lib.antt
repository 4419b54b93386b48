pub mod StepLemmas
pub mod RoomLemmas
pub mod FollowLemmas
pub mod ChargeLemmas
pub mod ScheduleLemmas
pub mod FindLemmas
pub mod FoundLemmas
pub mod LoopLemmas

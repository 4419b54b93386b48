pub mod FollowingLemmas
pub mod LaidLemmas
pub mod TrackLemmas

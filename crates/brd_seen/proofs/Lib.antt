pub mod FollowLemmas
pub mod SeenLemmas

-- Who waits stands in the list of what it waits for.
pub mod RowLemmas
pub mod ListLemmas
pub mod StandingLemmas
pub mod KeepingLemmas
pub mod WaitersLemmas
pub mod LeavingLemmas
pub mod MovingLemmas
pub mod WaitingLemmas
pub mod CallLemmas
pub mod ServiceLemmas
pub mod FirstLemmas

pub mod LoadLemmas
pub mod BootLemmas
pub mod LinkLemmas
pub mod SetupLemmas
mod PoolLemmas
mod TimeHandlerLemmas
pub mod EventLemmas
pub mod LawLemmas
pub mod conditional_stores
pub mod ChangeLemmas
pub mod WaitingLemmas
pub mod OffLemmas
pub mod GateLemmas
pub mod CallingLemmas
pub mod RunningLemmas
pub mod OwnLemmas
pub mod FormLemmas
pub mod StoringLemmas
pub mod BatchLemmas
pub mod SpinLemmas
pub mod ProfileLemmas
pub mod PriorityLemmas
mod LeaseLemmas

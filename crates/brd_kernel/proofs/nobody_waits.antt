-- Nobody waits for what is there, and waiters are in their order.
pub mod TableLemmas
pub mod OrderLemmas
pub mod WantLemmas
pub mod ObjectLemmas
pub mod SleeperLemmas
pub mod EachLemmas
pub mod EachCallLemmas

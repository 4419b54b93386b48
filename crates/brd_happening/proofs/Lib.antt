pub mod ReleaseLemmas
pub mod RungLemmas
pub mod TickLemmas
pub mod CallLemmas
pub mod TellingLemmas
pub mod ToldLemmas
pub mod StoreLemmas
pub mod WaitLemmas

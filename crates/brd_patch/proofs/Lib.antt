pub mod DataLemmas
pub mod MemoryLemmas
pub mod LawLemmas

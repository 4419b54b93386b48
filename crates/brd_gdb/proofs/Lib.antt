pub mod PartLemmas
pub mod PacketLemmas
pub mod OutputLemmas
pub mod StreamLemmas
pub mod GrammarLemmas

mod SizeLemmas
pub mod FailureLemmas
mod OrderLemmas
mod SearchLemmas
mod PathLemmas
mod FindLemmas
mod CommuteLemmas
pub mod RichLemmas
mod AwakeLemmas
mod EnoughLemmas
mod PartLemmas
mod ShrinkLemmas
mod LawLemmas
mod LessLemmas
pub mod ShardLemmas
mod KnownLemmas

pub mod RangesLemmas
mod EntryLemmas

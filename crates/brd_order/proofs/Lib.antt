mod OrderLemmas
mod RaceLemmas
mod TableLemmas
mod AfterLemmas

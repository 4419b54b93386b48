pub mod OutputLemmas
pub mod ReportLemmas

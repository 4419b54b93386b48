pub mod DigitLemmas
pub mod PictureLemmas
pub mod RunLemmas

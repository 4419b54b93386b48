pub mod RamSize
pub mod SpelledBack
pub mod Validity
pub mod Forms
pub mod FormsBack
pub mod Accepted
pub mod SaysBack
pub mod ReadingEnds

-- When an SC stores, and what its word was.
pub mod RunLemmas
pub mod ConditionalLemmas
pub mod Example

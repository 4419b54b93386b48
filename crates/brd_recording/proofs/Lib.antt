pub mod LanesLemmas

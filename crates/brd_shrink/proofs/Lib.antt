mod TurnLemmas
mod SettledLemmas

mod EventLemmas
mod TextLemmas

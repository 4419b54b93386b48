mod ImageLemmas
mod MarkLemmas
mod PageLemmas
mod WindowLemmas

pub mod TakenLemmas
pub mod WrittenLemmas
pub mod EndLemmas
mod PutsLemmas

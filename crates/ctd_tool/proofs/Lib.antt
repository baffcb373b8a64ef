pub mod HeadlineLemmas
mod Refused

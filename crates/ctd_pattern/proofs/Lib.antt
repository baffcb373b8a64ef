pub mod WrittenPatterns

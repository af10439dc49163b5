pub mod DigitLemmas
pub mod TakenWords
pub mod WordLaws

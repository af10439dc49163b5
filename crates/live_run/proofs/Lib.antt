pub mod KeptLemmas
pub mod KeptNumbers
pub mod OpeningWorlds

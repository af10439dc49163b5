pub mod Booleans
pub mod Lists
pub mod AscendingNumbers
pub mod AscendingWithout
pub mod FiniteMaps
pub mod SeenMaps
pub mod Deciding

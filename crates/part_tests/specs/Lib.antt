pub mod SoleWork

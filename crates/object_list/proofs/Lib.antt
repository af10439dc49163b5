pub mod UnionLemmas
pub mod GatheredLemmas

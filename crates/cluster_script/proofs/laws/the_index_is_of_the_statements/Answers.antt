use Rattle.cluster_script.proofs.IndexLemmas.{indexed_at-request_at, indexed_numbers-numbers_of_session, zones-zone_of}
use Rattle.cluster_script.proofs.laws.the_index_is_of_the_statements.Goals as goal

pub returns : goal.returns
returns c = record {
  requests = indexed_at-request_at;
  numbers = indexed_numbers-numbers_of_session;
  zones = zones-zone_of;
}

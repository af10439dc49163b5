use Rattle.object_id.proofs.SameLemmas.{policies_decided, specs_decided, tags_decided, origins_decided, members_decided, entries_decided}
use Rattle.object_id.proofs.laws.sameness_is_decided.Goals as goal

pub returns : goal.returns
returns c = record {
  policies = policies_decided;
  specs = specs_decided;
  tags = tags_decided;
  origins = origins_decided;
  members = members_decided;
  entries = entries_decided;
}

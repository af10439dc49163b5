-- The counters that the parser keeps beside the statements, and what each of them is of that list.
use Rattle.std.specs.Prelude.{◌≡◌, ◌+◌, ◌≤◌, ◌&&◌, ◌||◌, List, count_by, sum_by, is_some, if◌then◌else◌}
use Rattle.std.specs.List.{list_all}
use Rattle.object_id.specs.declared.limits.TheConstants.{REQUESTS_MAX, CHECKS_MAX, READ_BYTES_MAX, WRITE_BYTES_MAX, LOSSES_MAX}
use Rattle.cluster_script.specs.declared.statement.Statement.{Statement}
use Rattle.cluster_script.specs.declared.totals.Totals.{Totals}
use Rattle.cluster_script.specs.Statements.{is_setting, is_cluster, is_check, is_request, read_bytes, write_bytes, has}
use Rattle.cluster_script.specs.Settings.{is_set, vnodes_set, tries_set, limit_set}
use Rattle.cluster_script.specs.Phases.{losses_by, losses_from}

-- each counter is that of the list, and all are within a script's limits
pub record IsTotal (before : List Statement) (totals : Totals) : Type 0 where
  pub settings_only : totals.settings_only ≡ list_all is_setting before
  pub has_cluster : totals.has_cluster ≡ has is_cluster before
  pub has_vnodes : totals.has_vnodes ≡ is_set vnodes_set before
  pub has_tries : totals.has_tries ≡ is_set tries_set before
  pub has_limit : totals.has_limit ≡ is_set limit_set before
  pub losses : totals.losses ≡ losses_from 0 before
  pub requests : totals.requests ≡ count_by is_request before
  pub checks : totals.checks ≡ count_by is_check before
  pub reads : totals.read_bytes ≡ sum_by read_bytes before
  pub writes : totals.write_bytes ≡ sum_by write_bytes before
  pub losses_most : totals.losses ≤ LOSSES_MAX
  pub requests_most : totals.requests ≤ REQUESTS_MAX
  pub checks_most : totals.checks ≤ CHECKS_MAX
  pub reads_most : totals.read_bytes ≤ READ_BYTES_MAX
  pub writes_most : totals.write_bytes ≤ WRITE_BYTES_MAX

-- the counters with one statement more
abbrev pub totals_after : Totals → Statement → Totals
totals_after totals s = record {
  settings_only = totals.settings_only && is_setting s;
  has_cluster = totals.has_cluster || is_cluster s;
  has_vnodes = totals.has_vnodes || is_some (vnodes_set s);
  has_tries = totals.has_tries || is_some (tries_set s);
  has_limit = totals.has_limit || is_some (limit_set s);
  losses = losses_by totals.losses s;
  requests = totals.requests + (if is_request s then 1 else 0);
  checks = totals.checks + (if is_check s then 1 else 0);
  read_bytes = totals.read_bytes + read_bytes s;
  write_bytes = totals.write_bytes + write_bytes s;
}

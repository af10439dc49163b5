-- What the parser keeps beside the statements, with one statement more.
use Rattle.std.proofs.Common.{◌≡◌, ℕ, ◌≤◌, ◌==◌, Bool, true, false, cond, ◌||◌, List, [], ◌∷◌, ◌++◌, refl, sym, ap, subst, ◌∙◌, arith, append_assoc}
use Rattle.std.specs.Prelude.{is_some, nat_lt, if◌then◌else◌, Some, None}
use Rattle.std.proofs.lemmas.List.{append-nil}
use Rattle.std.proofs.Math.Bool.{or-false}
use Rattle.object_id.specs.declared.limits.TheConstants.{LOSSES_MAX, REQUESTS_MAX, CHECKS_MAX, READ_BYTES_MAX, WRITE_BYTES_MAX}
use Rattle.cluster_script.specs.declared.statement.Statement.{Statement}
use Rattle.cluster_script.specs.declared.statement.Statement.TheVariants.{Cluster, Session, Create, OpenDisk, Close, Read, Write, Snapshot, Clone, Delete, Fail, Join, Lose, Zone, Back, Check}
use Rattle.cluster_script.specs.declared.totals.Totals.{Totals}
use Rattle.cluster_script.specs.declared.marks.MarkedNumbers.{MarkedNumbers}
use Rattle.cluster_script.specs.Statements.{is_setting, is_cluster, declares, is_check, is_request, read_bytes, write_bytes, has}
use Rattle.cluster_script.specs.Settings.{is_set, nodes_set, vnodes_set, tries_set, limit_set, zone_set}
use Rattle.cluster_script.specs.Phases.{losses_by, losses_from}
use Rattle.cluster_script.specs.Nodes.{uses_node, failed_by, failed_from}
use Rattle.cluster_script.specs.Language.{MayStand, EachMayStand, IsScript}
use Rattle.cluster_script.specs.Totals.{IsTotal, totals_after}
use Rattle.cluster_script.specs.Marks.{is_marked, zoned_by, declared_by, used_by, HaveMarks, AreMarkedAfter, MayBeMarked}
use Rattle.cluster_script.proofs.Counting.{all_more, any_more, sum_more}
use Rattle.cluster_script.proofs.ScriptFacts.{used-node, failed-node}

-- the settings of nodes are the `cluster` lines
pub cluster_is_set : (before : List Statement) → has is_cluster before ≡ is_set nodes_set before
cluster_is_set [] = refl
cluster_is_set (s ∷ rest) = go s (cluster_is_set rest)
  where
    go : (s : Statement) → has is_cluster rest ≡ is_set nodes_set rest → has is_cluster (s ∷ rest) ≡ is_set nodes_set (s ∷ rest)
    go (Cluster nodes) same = refl
    go s same = same

-- one statement more
each-more : (before rest : List Statement) (s : Statement) → EachMayStand before rest → MayStand (before ++ rest) s
    → EachMayStand before (rest ++ s ∷ [])
each-more before [] s each may = (subst (λ (b : List Statement). MayStand b s) (append-nil before) may, tt)
each-more before (first ∷ rest) s each may =
    (each.0, each-more (before ++ first ∷ []) rest s each.1 (subst (λ (b : List Statement). MayStand b s) (sym (append_assoc before (first ∷ []) rest)) may))

pub script-more : (before : List Statement) (s : Statement) → IsScript before → MayStand before s → IsScript (before ++ s ∷ [])
script-more before s each may = each-more [] before s each may

pub losses-more : (sum : ℕ) (before : List Statement) (s : Statement)
    → losses_from sum (before ++ s ∷ []) ≡ losses_by (losses_from sum before) s
losses-more sum [] s = refl
losses-more sum (first ∷ rest) s = losses-more (losses_by sum first) rest s

failed-more : (node : ℕ) (was : Bool) (before : List Statement) (s : Statement)
    → failed_from node was (before ++ s ∷ []) ≡ failed_by node (failed_from node was before) s
failed-more node was [] s = refl
failed-more node was (first ∷ rest) s = failed-more node (failed_by node was first) rest s

-- a statement that may stand leaves the counters within a script's limits
record IsWithin (totals : Totals) : Type 0 where
  losses : totals.losses ≤ LOSSES_MAX
  requests : totals.requests ≤ REQUESTS_MAX
  checks : totals.checks ≤ CHECKS_MAX
  reads : totals.read_bytes ≤ READ_BYTES_MAX
  writes : totals.write_bytes ≤ WRITE_BYTES_MAX

within : (before : List Statement) (totals : Totals) (s : Statement) → IsTotal before totals → MayStand before s
    → IsWithin (totals_after totals s)
within before totals (Create session policy shift name size) total may =
    record { losses = omega arith; requests = omega (arith, may.0.room); checks = omega arith; reads = omega arith; writes = omega arith }
within before totals (OpenDisk session name tag) total may =
    record { losses = omega arith; requests = omega (arith, may.0.room); checks = omega arith; reads = omega arith; writes = omega arith }
within before totals (Close session) total may =
    record { losses = omega arith; requests = omega (arith, may.room); checks = omega arith; reads = omega arith; writes = omega arith }
within before totals (Read session offset bytes) total may =
    record { losses = omega arith; requests = omega (arith, may.0.room); checks = omega arith; reads = omega (arith, may.2); writes = omega arith }
within before totals (Write session offset bytes pattern) total may =
    record { losses = omega arith; requests = omega (arith, may.0.room); checks = omega arith; reads = omega arith; writes = omega (arith, may.3) }
within before totals (Snapshot session tag) total may =
    record { losses = omega arith; requests = omega (arith, may.0.room); checks = omega arith; reads = omega arith; writes = omega arith }
within before totals (Clone session base tag name) total may =
    record { losses = omega arith; requests = omega (arith, may.0.room); checks = omega arith; reads = omega arith; writes = omega arith }
within before totals (Delete session name tag) total may =
    record { losses = omega arith; requests = omega (arith, may.0.room); checks = omega arith; reads = omega arith; writes = omega arith }
within before totals (Lose count) total may =
    record { losses = omega (arith, may.1); requests = omega arith; checks = omega arith; reads = omega arith; writes = omega arith }
within before totals (Check session) total may =
    record { losses = omega arith; requests = omega (arith, may.0.room); checks = omega (arith, may.1); reads = omega arith; writes = omega arith }
within before totals s total may =
    record { losses = omega arith; requests = omega arith; checks = omega arith; reads = omega arith; writes = omega arith }

pub total-more : (before : List Statement) (totals : Totals) (s : Statement) → IsTotal before totals → MayStand before s
    → IsTotal (before ++ s ∷ []) (totals_after totals s)
total-more before totals s total may =
    let most = within before totals s total may in
    record {
      settings_only = all_more is_setting totals.settings_only before s total.settings_only;
      has_cluster = any_more is_cluster totals.has_cluster before s total.has_cluster;
      has_vnodes = any_more (λ x. is_some (vnodes_set x)) totals.has_vnodes before s total.has_vnodes;
      has_tries = any_more (λ x. is_some (tries_set x)) totals.has_tries before s total.has_tries;
      has_limit = any_more (λ x. is_some (limit_set x)) totals.has_limit before s total.has_limit;
      losses = ap (λ sum. losses_by sum s) total.losses ∙ sym (losses-more 0 before s);
      requests = sum_more (λ x. cond (is_request x) 1 0) totals.requests before s total.requests;
      checks = sum_more (λ x. cond (is_check x) 1 0) totals.checks before s total.checks;
      reads = sum_more read_bytes totals.read_bytes before s total.reads;
      writes = sum_more write_bytes totals.write_bytes before s total.writes;
      losses_most = most.losses;
      requests_most = most.requests;
      checks_most = most.checks;
      reads_most = most.reads;
      writes_most = most.writes;
    }

or-chosen : (was same : Bool) → (if same then true else was) ≡ (was || same)
or-chosen true true = refl
or-chosen true false = refl
or-chosen false true = refl
or-chosen false false = refl

-- the zone of a node is set by one of the statements, or by the one behind them
zoned-once : (node : ℕ) (was : Bool) (s : Statement) → zoned_by node was s ≡ (was || is_some (zone_set node s))
zoned-once node was (Zone number zone) = or-chosen was (number == node) ∙ ap (λ b. was || b) (sym (set (number == node)))
  where
    set : (same : Bool) → is_some (if same then Some zone else None) ≡ same
    set true = refl
    set false = refl
zoned-once node was s = sym (or-false was)

declared-once : (session : ℕ) (was : Bool) (s : Statement) → declared_by session was s ≡ (was || declares session s)
declared-once session was (Session number node) = or-chosen was (number == session)
declared-once session was s = sym (or-false was)

used-once : (node : ℕ) (was : Bool) (s : Statement) → used_by node was s ≡ (was || uses_node node s)
used-once node was (Cluster nodes) = or-chosen was (nat_lt node nodes)
used-once node was (Join number) = or-chosen was (number == node)
used-once node was s = sym (or-false was)

pub marked-more : (before : List Statement) (old new : MarkedNumbers) (s : Statement) → HaveMarks before old → AreMarkedAfter old s new
    → HaveMarks (before ++ s ∷ []) new
marked-more before old new s marked after = record {
  zoned = λ node. after.zoned node ∙ zoned-once node (is_marked node old.zoned) s
      ∙ any_more (λ x. is_some (zone_set node x)) (is_marked node old.zoned) before s (marked.zoned node);
  declared = λ session. after.declared session ∙ declared-once session (is_marked session old.declared) s
      ∙ any_more (declares session) (is_marked session old.declared) before s (marked.declared session);
  used = λ node. after.used node ∙ used-once node (is_marked node old.used) s
      ∙ any_more (uses_node node) (is_marked node old.used) before s (marked.used node);
  failed = λ node. after.failed node ∙ ap (λ was. failed_by node was s) (marked.failed node) ∙ sym (failed-more node false before s);
}

pub may-be-marked : (before : List Statement) (s : Statement) → IsScript before → MayStand before s → MayBeMarked s
may-be-marked before (Cluster nodes) script may = may.2
may-be-marked before (Session session node) script may = may.3
may-be-marked before (Fail node) script may = used-node before node script may.1.used
may-be-marked before (Join node) script may = may.1
may-be-marked before (Zone node zone) script may = may.1
may-be-marked before (Back node) script may = failed-node before node script may.1
may-be-marked before s script may = tt

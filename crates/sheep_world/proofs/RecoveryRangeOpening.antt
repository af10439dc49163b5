-- In the opening world of a script the recoveries are in range: its members have numbers below 64, and have read only its first entry.
use Rattle.std.proofs.Common.{◌≡◌, ℕ, zero, suc, ◌+◌, ◌<◌, ◌≤◌, cond, List, [], ◌∷◌, ◌++◌, map, All, Option, Some, Ordering, Less, Equal, Greater, refl, sym, subst, ◌∙◌}
use native.Mathlib.Omega.{arith}
use Rattle.std.specs.Prelude.{unwrap_or}
use Rattle.std.specs.Ordering.{is_eq, nat_cmp}
use Rattle.std.specs.Cmp.{nat_cmp_total}
use Rattle.std.specs.List.{range_with_len}
use Rattle.std.specs.FinMap as tree
use Rattle.std.proofs.lemmas.List.Elements.{All-nil}
use Rattle.std.proofs.Math.Nat.{min-le_left}
use Rattle.object_id.specs.declared.entry.Entry.TheVariants.{Format}
use Rattle.object_id.specs.declared.entry.Member.{Member}
use Rattle.object_id.specs.declared.node.NodeId.{NodeId}
use Rattle.object_id.specs.Oid.{IsOid, kind_of}
use Rattle.object_id.specs.Policy.{wanted_of}
use Rattle.object_store.specs.Store.{SeenRow, each_entry, each}
use Rattle.hash_ring.specs.Circle.{hash_of_object}
use Rattle.hash_ring.specs.Placement.{zone_count}
use Rattle.hash_ring.proofs.TargetLaws.{length-targets_of}
use Rattle.vnode_table.specs.Epochs.{members_at}
use Rattle.vnode_table.specs.Targets.{targets_in}
use Rattle.vdi_directory.specs.Effects.{header_of}
use Rattle.vdi_directory.specs.Decisions.{log_effects}
use Rattle.object_id.specs.declared.limits.TheConstants.{NODES_DEFAULT}
use Rattle.cluster_script.specs.declared.statement.Statement.{Statement}
use Rattle.cluster_script.specs.declared.statement.Statement.TheVariants.{Cluster}
use Rattle.cluster_script.specs.Language.{MayStand, EachMayStand, IsScript}
use Rattle.cluster_script.specs.Settings.{nodes_set, setting_of, nodes_of, tries_of, new_member, opening_members}
use Rattle.peer_service.specs.LogReading.{rows_but, kills_object, without_objects, read_entry}
use Rattle.sheep_node.specs.declared.input.Input.TheVariants as inputs
use Rattle.sheep_node.specs.State as nodes
use Rattle.sheep_node.specs.LogReading.{entered_in, entry_read}
use Rattle.sheep_world.specs.World.{Host}
use Rattle.sheep_world.specs.Opening as worlds
use Rattle.sheep_world.specs.Opening.{format_entry, initial_member_node, initial_host, initial_member_host, before_phases}
use Rattle.sheep_node.specs.RecoveryRange.{RecoversInRange}
use Rattle.sheep_world.specs.Ranges.{RecoveriesAreInRange}
use Rattle.std.proofs.lemmas.List.{nil_from_length}
use Rattle.sheep_world.proofs.WireAtOpening.{opening_found}
use Rattle.sheep_world.proofs.RecoveryRangeEvents.{stepped_range}

-- a script opens with no more members than there may be nodes
opens_with : (before : List Statement) (s : Statement) (rest : ℕ) → MayStand before s → rest ≤ 64 → unwrap_or (nodes_set s) rest ≤ 64
opens_with before (Cluster nodes) rest may within = may.2
opens_with before s rest may within = within

nodes_within : (before rest : List Statement) → EachMayStand before rest → setting_of nodes_set NODES_DEFAULT rest ≤ 64
nodes_within before [] each = omega arith
nodes_within before (s ∷ rest) each =
    opens_with before s (setting_of nodes_set NODES_DEFAULT rest) each.0 (nodes_within (before ++ s ∷ []) rest each.1)

-- so each has a number below that
module _ (statements : List Statement) (q : ℕ) (host : Host) where
  abbrev at_members : ℕ → ℕ → Option Host
  at_members start count = tree.find nat_cmp q (map (initial_member_host statements) (map (new_member statements) (range_with_len start count)))

  below_if : (start : ℕ) (one rest : Option Host) (o : Ordering) → nat_cmp q start ≡ o → start < 64 → (rest ≡ Some host → q < 64)
      → cond (is_eq o) one rest ≡ Some host → q < 64
  below_if start one rest Less tie below later is = later is
  below_if start one rest Equal tie below later is =
      let same : q ≡ start = tree.nat_cmp-IsAntisymmetric q start tie in omega (arith, same, below)
  below_if start one rest Greater tie below later is = later is

  found_below : (start count : ℕ) → start + count ≤ 64 → at_members start count ≡ Some host → q < 64
  found_below start zero within is = absurd (cc (is))
  found_below start (suc count) within is =
      below_if start (Some (initial_host (initial_member_node statements (new_member statements start)))) (at_members (start + 1) count)
      (nat_cmp q start) refl (omega (arith, within)) (found_below (start + 1) count (omega (arith, within))) is

-- a store without rows has none when they are changed
none_changed : (change : ℕ → List SeenRow → List SeenRow) → All IsOid (tree.keys (each change tree.empty))
unfolding each
none_changed change =
    let none : tree.entries {R = nat_cmp} (tree.empty {X = List SeenRow}) ≡ []
    = nil_from_length (tree.entries {R = nat_cmp} (tree.empty {X = List SeenRow}))
    (sym (tree.len-entries tree.empty) ∙ tree.len-empty nat_cmp (List SeenRow)) in
    subst (λ (es : List (ℕ × List SeenRow)). All IsOid (tree.keys (tree.from_entries {R = nat_cmp} (each_entry change es)))) (sym none)
    (subst (λ (es : List (ℕ × List SeenRow)). All IsOid (map (λ (e : ℕ × List SeenRow). e.0) es)) (sym none) (All-nil IsOid))

-- a node that has read the log's first entry is in range
pub read_range : (me : NodeId) (tries : ℕ) (members : List Member) → me.0 < 64 → RecoversInRange (entry_read (Format members) (nodes.initial_node me tries))
unfolding entry_read read_entry without_objects log_effects header_of targets_in
read_range me tries members below =
    let node = nodes.initial_node me tries in
    record {
      own = refl;
      range = record {
        me = below;
        epoch = (omega arith, omega arith);
        settled = omega arith;
        waiting = omega arith;
        policies = λ oid. tt;
        targets = λ level oid policy.
            let there = members_at (entered_in (Format members ∷ []) 1 ∷ []) level in
            subst (λ (n : ℕ). n ≤ wanted_of policy (kind_of oid))
            (sym (length-targets_of there (hash_of_object oid) (wanted_of policy (kind_of oid))))
            (min-le_left (wanted_of policy (kind_of oid)) (zone_count there));
        named = All-nil IsOid;
        kept = none_changed (rows_but (kills_object (Format members) node.peer));
        pending = All-nil IsOid;
        search = tt;
      };
    }

pub range-opening : (statements : List Statement) → IsScript statements → RecoveriesAreInRange (worlds.initial_world statements)
unfolding worlds.initial_world
range-opening statements script q host got =
    let (member, own, is) = opening_found statements q host got in
    let below : q < 64
    = found_below statements q host 0 (nodes_of statements) (omega (arith, nodes_within [] statements script))
    (sym (tree.get-from_entries nat_cmp_total (map (initial_member_host statements) (opening_members statements)) q) ∙ got) in
    subst (λ (host : Host). RecoversInRange host.node) is
    (stepped_range (inputs.LogEntry (format_entry statements)) (nodes.initial_node member.node (tries_of statements))
    (read_range member.node (tries_of statements) (opening_members statements) (subst (λ (n : ℕ). n < 64) own below)))

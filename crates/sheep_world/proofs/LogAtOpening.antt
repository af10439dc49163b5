-- In the opening world of a script the log is one, and its members are the nodes that are there.
use Rattle.std.proofs.Common.{◌≡◌, ◌≢◌, ⊎_elim, find, arith, ℕ, zero, suc, ◌+◌, ◌<◌, ◌≤◌, ◌==◌, nat_lt, Bool, true, false, ◌||◌, cond, List, [], ◌∷◌, ◌++◌, length, map, All, Option, Some, is_some, refl, sym, ap, subst, ◌∙◌}
use Rattle.std.specs.Prelude.{unwrap_or}
use Rattle.std.specs.FinMap as tree
use Rattle.std.specs.List.{range_with_len, slice_index}
use Rattle.std.specs.Option.{option_map_or}
use Rattle.std.specs.List.Sorted.{IsStrictlyIncreasing}
use Rattle.std.proofs.lemmas.Bool.{eqb-true, eqb-false, ltb-true, ltb-false, or_cases}
use Rattle.std.proofs.lemmas.List.Elements.{All-nil, All-cons}
use Rattle.object_id.specs.declared.entry.Member.{Member}
use Rattle.object_id.specs.Node.{IsNode, IsWeight}
use Rattle.object_id.specs.declared.limits.TheConstants.{NODES_DEFAULT, VNODES_DEFAULT}
use Rattle.epoch_log.specs.Members.{is_member_node, node_numbers, HaveWeights, is_member}
use Rattle.cluster_script.specs.declared.statement.Statement.{Statement}
use Rattle.cluster_script.specs.declared.statement.Statement.TheVariants.{Cluster, Vnodes}
use Rattle.cluster_script.specs.Language.{MayStand, EachMayStand, IsScript}
use Rattle.cluster_script.specs.Settings.{nodes_set, vnodes_set, setting_of, nodes_of, vnodes_of, new_member}
use Rattle.sheep_node.specs.ValidDisks.{HasValidDisks}
use Rattle.sheep_world.specs.World.{Host, World}
use Rattle.sheep_world.specs.Opening.{initial_world}
use Rattle.sheep_world.specs.MembershipChanges.{weight_among}
use Rattle.sheep_world.specs.Began.{Began}
use Rattle.sheep_world.specs.LogHolds.{MayGrow, LogHolds}
use Rattle.sheep_world.proofs.ClientReads.{goes_by_kind}
use Rattle.sheep_world.proofs.BegunWorlds.{by_induction}
use Rattle.sheep_world.proofs.ScriptControls.{seated_at_first, controls-fit}
use Rattle.sheep_world.specs.HostChanges.{HoldsOfEachHost}
use Rattle.sheep_world.proofs.HostChangeLaws.{each_opens, each_kept}
use Rattle.sheep_world.proofs.ValidNodes.{IsValidHost, hosts_stay_valid}
use Rattle.sheep_world.proofs.PuttableEntries.{each_puts}
use Rattle.sheep_world.proofs.LogAtEvents.{keeps_log}

-- the settings of a script are in their limits
one_vnodes : (before : List Statement) (s : Statement) (rest : ℕ) → MayStand before s → IsWeight rest → IsWeight (unwrap_or (vnodes_set s) rest)
one_vnodes before (Vnodes vnodes) rest may within = (may.1, may.2)
one_vnodes before s rest may within = within

vnodes_within : (before rest : List Statement) → EachMayStand before rest → IsWeight (setting_of vnodes_set VNODES_DEFAULT rest)
vnodes_within before [] each = (omega arith, omega arith)
vnodes_within before (s ∷ rest) each =
    one_vnodes before s (setting_of vnodes_set VNODES_DEFAULT rest) each.0 (vnodes_within (before ++ s ∷ []) rest each.1)

one_nodes : (before : List Statement) (s : Statement) (rest : ℕ) → MayStand before s → (1 ≤ rest) × (rest ≤ 64)
    → (1 ≤ unwrap_or (nodes_set s) rest) × (unwrap_or (nodes_set s) rest ≤ 64)
one_nodes before (Cluster nodes) rest may within = (may.1, may.2)
one_nodes before s rest may within = within

nodes_within : (before rest : List Statement) → EachMayStand before rest
    → (1 ≤ setting_of nodes_set NODES_DEFAULT rest) × (setting_of nodes_set NODES_DEFAULT rest ≤ 64)
nodes_within before [] each = (omega arith, omega arith)
nodes_within before (s ∷ rest) each =
    one_nodes before s (setting_of nodes_set NODES_DEFAULT rest) each.0 (nodes_within (before ++ s ∷ []) rest each.1)

lt_so : (q count : ℕ) → q < count → nat_lt q count ≡ true
lt_so q count below = by_test (nat_lt q count) refl
  where
    by_test : (b : Bool) → nat_lt q count ≡ b → nat_lt q count ≡ true
    by_test true is = is
    by_test false is = let past : count ≤ q = ltb-false q count is in absurd (omega (arith, below, past))

-- ---- the opening members

module _ (statements : List Statement) where
  abbrev members_from : ℕ → ℕ → List Member
  members_from start count = map (new_member statements) (range_with_len start count)

  numbers_so : (start count : ℕ) → node_numbers (members_from start count) ≡ range_with_len start count
  numbers_so start zero = refl
  numbers_so start (suc count) = ap (λ (rest : List ℕ). start ∷ rest) (numbers_so (start + 1) count)

  count_so : (start count : ℕ) → length (range_with_len start count) ≡ count
  count_so start zero = refl
  count_so start (suc count) = let rest : length (range_with_len (start + 1) count) ≡ count = count_so (start + 1) count in omega (arith, rest)

  members_so : (start count : ℕ) → length (members_from start count) ≡ count
  members_so start zero = refl
  members_so start (suc count) = let rest : length (members_from (start + 1) count) ≡ count = members_so (start + 1) count in omega (arith, rest)

  at_place : (start count k : ℕ) → k < count → slice_index (range_with_len start count) k ≡ start + k
  at_place start zero k within = absurd (omega (arith, within))
  at_place start (suc count) zero within = omega arith
  at_place start (suc count) (suc k) within =
      let rest : slice_index (range_with_len (start + 1) count) k ≡ start + 1 + k = at_place (start + 1) count k (omega (arith, within)) in
      omega (arith, rest)

  ascend : (count : ℕ) → IsStrictlyIncreasing (range_with_len 0 count)
  ascend count k within =
      let all : length (range_with_len 0 count) ≡ count = count_so 0 count in
      let one : slice_index (range_with_len 0 count) k ≡ 0 + k = at_place 0 count k (omega (arith, within, all)) in
      let two : slice_index (range_with_len 0 count) (k + 1) ≡ 0 + (k + 1) = at_place 0 count (k + 1) (omega (arith, within, all)) in
      omega (arith, one, two)

  all_below : (start count : ℕ) → start + count ≤ 64 → All (λ node. node < 64) (range_with_len start count)
  all_below start zero within = All-nil (λ node. node < 64)
  all_below start (suc count) within =
      All-cons (λ node. node < 64) start (range_with_len (start + 1) count) (omega (arith, within)) (all_below (start + 1) count (omega (arith, within)))

  all_weigh : (start count : ℕ) → IsWeight (vnodes_of statements) → HaveWeights (members_from start count)
  all_weigh start zero weight = All-nil (λ (member : Member). IsWeight member.vnodes)
  all_weigh start (suc count) weight =
      All-cons (λ (member : Member). IsWeight member.vnodes) (new_member statements start) (members_from (start + 1) count) weight
      (all_weigh (start + 1) count weight)

  -- a number below their count is a member, with the weight of the script
  record IsMember (q start count : ℕ) : Type 0 where
    member : is_member q (members_from start count) ≡ true
    weight : weight_among q (members_from start count) 0 ≡ vnodes_of statements

  member_if : (q start count : ℕ) (b : Bool) → (start == q) ≡ b → start ≤ q → (start + 1 ≤ q → IsMember q (start + 1) count)
      → ((b || is_member q (members_from (start + 1) count)) ≡ true)
      × (option_map_or (λ (member : Member). member.vnodes)
      (cond b (Some (new_member statements start)) (find (is_member_node q) (members_from (start + 1) count))) 0 ≡ vnodes_of statements)
  member_if q start count true tie low later = (refl, refl)
  member_if q start count false tie low later =
      let apart : start ≢ q = eqb-false start q tie in
      let rest = later (omega (arith, apart, low)) in (rest.member, rest.weight)

  member_within : (q start count : ℕ) → start ≤ q → q < start + count → IsMember q start count
  member_within q start zero low high = absurd (omega (arith, low, high))
  member_within q start (suc count) low high =
      let parts = member_if q start count (start == q) refl low (λ (more : start + 1 ≤ q). member_within q (start + 1) count more (omega (arith, high))) in
      record { member = parts.0; weight = parts.1 }

  member_below : (q start count : ℕ) → is_member q (members_from start count) ≡ true → q < start + count
  member_below q start zero is = absurd (cc (is))
  member_below q start (suc count) is = ⊎_elim
      (λ (own : (start == q) ≡ true). let same : start ≡ q = eqb-true start q own in omega (arith, same))
      (λ (later : is_member q (members_from (start + 1) count) ≡ true).
      let below : q < start + 1 + count = member_below q (start + 1) count later in omega (arith, below))
      (or_cases (start == q) (is_member q (members_from (start + 1) count)) is)

module _ (statements : List Statement) (script : IsScript statements) where
  pub weight_at_first : IsWeight (vnodes_of statements)
  weight_at_first = vnodes_within [] statements script

  pub opens_log : LogHolds (initial_world statements)
  unfolding initial_world
  opens_log =
      let count = nodes_of statements in
      let within : (1 ≤ count) × (count ≤ 64) = nodes_within [] statements script in
      record {
        log = (
          record {
            some = let all : length (members_from statements 0 count) ≡ count = members_so statements 0 count in omega (arith, all, within.0);
            ordered = record {
              ascending = subst IsStrictlyIncreasing (sym (numbers_so statements 0 count)) (ascend statements count);
              nodes = subst (All IsNode) (sym (numbers_so statements 0 count)) (all_below statements 0 count (omega (arith, within.1)));
            };
            weights = all_weigh statements 0 count weight_at_first;
          },
          tt,
        );
        well = λ q host got.
            let there : nat_lt q count ≡ true = sym (seated_at_first statements q) ∙ ap (λ (o : Option Host). is_some o) got in
            let below : q < count = ltb-true q count there in
            let member = member_within statements q 0 count (omega arith) (omega (arith, below)) in
            record {
              below = omega (arith, below, within.1);
              weight = subst IsWeight (sym member.weight) weight_at_first;
              stands = λ up. member.member;
            };
        seated = λ q is.
            let below : q < 0 + count = member_below statements q 0 count is in
            seated_at_first statements q ∙ lt_so q count (omega (arith, below));
      }

  abbrev LogAndNodes : World → Type 0
  LogAndNodes world = LogHolds world × HoldsOfEachHost IsValidHost world

  -- in each world that a run reaches the log is one, and what nodes have of disks is valid, as long as there is room
  pub log-and-nodes : ((world : World) → Began statements world → MayGrow world) → (world : World) → Began statements world → LogAndNodes world
  log-and-nodes grows world = by_induction statements LogAndNodes (record {
    opens = (opens_log, each_opens statements LogHolds IsValidHost (hosts_stay_valid statements script));
    keeps = λ event world made began is holds. (
      keeps_log statements weight_at_first event world made (each_puts statements world began holds.1) (grows world began).room (controls-fit statements world script began) holds.0
          (goes_by_kind statements event world made is),
      each_kept statements LogHolds IsValidHost (hosts_stay_valid statements script) event world made is holds.0 holds.1,
    );
  }) world

  pub log-holds : ((world : World) → Began statements world → MayGrow world) → (world : World) → Began statements world → LogHolds world
  log-holds grows world began = (log-and-nodes grows world began).0

  pub nodes-valid : ((world : World) → Began statements world → MayGrow world) → (world : World) → Began statements world
      → (n : ℕ) (host : Host) → tree.get world.hosts n ≡ Some host → HasValidDisks host.node
  nodes-valid grows world began = (log-and-nodes grows world began).1

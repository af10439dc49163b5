-- In each world of a run of a script with few controls there is room for one epoch more: each epoch begins by a control that is taken, or
-- by the leave of a member, and each member opened the log or came by a control.
use Rattle.std.proofs.Common.{◌≡◌, arith, ℕ, suc, ◌+◌, ◌≤◌, ◌<◌, nat_lt, not, Bool, true, false, cond, ◌||◌, List, [], ◌∷◌, ◌++◌, length}
use Rattle.std.proofs.Common.{drop, filter, slice_get, Some, refl, ap, subst, ◌∙◌, append_assoc}
use Rattle.std.specs.FinMap as tree
use Rattle.object_id.specs.declared.entry.Entry.{Entry}
use Rattle.object_id.specs.declared.entry.Entry.TheVariants as entries
use Rattle.object_id.specs.declared.entry.Member.{Member}
use Rattle.epoch_log.specs.Members.{is_member_node, is_member, members_with, members_without, members_reweighted, members_after}
use Rattle.epoch_log.specs.Epochs.{begins_epoch, epoch_of, members_in}
use Rattle.epoch_log.proofs.EpochLemmas.{epoch_of-append, members_in-append, members_in-begun}
use Rattle.epoch_log.proofs.MembersLemmas.{IsLog-some, IsLog-members}
use Rattle.cluster_script.specs.declared.statement.Statement.{Statement}
use Rattle.cluster_script.specs.Language.{IsScript}
use Rattle.cluster_script.specs.Phases.{phases_of}
use Rattle.cluster_script.specs.Settings.{vnodes_of, zone_of}
use Rattle.sheep_node.specs.declared.event.Event.{Event}
use Rattle.sheep_node.proofs.LogLaws.{epoch_more}
use Rattle.sheep_world.specs.World.{Host, World, next_control}
use Rattle.sheep_world.specs.Opening.{controls_at, initial_world}
use Rattle.sheep_world.specs.MembershipChanges.{join_of, last_weight}
use Rattle.sheep_world.specs.Step.{EventOutcome}
use Rattle.sheep_world.specs.NodeCauses.{NodeCause, GuestAsks, RequestComes, ReplyComes, LossIsTold, EntryIsRead, EntryIsPut, RecoveryTicks}
use Rattle.sheep_world.specs.NodeCauses.{WorkIsRetried, ClientAsks, IsCause, log_after_cause}
use Rattle.sheep_world.specs.EventKinds.{EventKind, NodeStep, UntoldLoss, UnreadDelivery, NodeLoss, NodeLeave, NodeReweight, NodeJoin}
use Rattle.sheep_world.specs.EventKinds.{NodeReturn, PhaseEnd}
use Rattle.sheep_world.specs.HostChanges.{HoldsOfEachHost}
use Rattle.sheep_world.specs.ControlsToCome.{controls_behind, controls_to_come}
use Rattle.sheep_world.specs.Began.{Began}
use Rattle.sheep_world.specs.LogHolds.{MayGrow, LogHolds}
use Rattle.sheep_world.proofs.BegunWorlds.{by_induction}
use Rattle.sheep_world.proofs.ControlLaws.{behind_next}
use Rattle.sheep_world.proofs.ClientReads.{goes_by_kind}
use Rattle.sheep_world.proofs.HostChangeLaws.{each_opens, each_kept}
use Rattle.sheep_world.proofs.LogAtEvents.{keeps_log}
use Rattle.sheep_world.proofs.LogAtOpening.{weight_at_first, opens_log}
use Rattle.sheep_world.proofs.PuttableEntries.{EachPuts, each_puts}
use Rattle.sheep_world.proofs.ScriptControls.{controls-fit}
use Rattle.sheep_world.proofs.ValidNodes.{IsValidHost, hosts_stay_valid}
use Rattle.overlap_law.specs.RoomOfScripts.{count_of_controls, HasFewControls}

-- ---- how many members there are

count_with : (member : Member) (list : List Member) → length (members_with member list) ≡ suc (length list)
count_with member [] = refl
count_with member (first ∷ rest) = by_order (nat_lt member.node.0 first.node.0) (count_with member rest)
  where
    by_order : (b : Bool) → length (members_with member rest) ≡ suc (length rest)
        → length (cond b (member ∷ first ∷ rest) (first ∷ members_with member rest)) ≡ suc (suc (length rest))
    by_order true more = refl
    by_order false more = ap suc more

count_reweighted : (node vnodes : ℕ) (list : List Member) → length (members_reweighted node vnodes list) ≡ length list
count_reweighted node vnodes [] = refl
count_reweighted node vnodes (first ∷ rest) = ap suc (count_reweighted node vnodes rest)

count_less : (node : ℕ) (list : List Member) → length (members_without node list) ≤ length list
count_less node [] = omega arith
count_less node (first ∷ rest) = by_node (is_member_node node first) (count_less node rest)
  where
    by_node : (b : Bool) → length (members_without node rest) ≤ length rest
        → length (cond (not b) (first ∷ members_without node rest) (members_without node rest)) ≤ suc (length rest)
    by_node true less = omega (arith, less)
    by_node false less = omega (arith, less)

-- where a member leaves, one less
count_without : (node : ℕ) (list : List Member) → is_member node list ≡ true → length (members_without node list) < length list
count_without node [] is = absurd (cc (is))
count_without node (first ∷ rest) is = by_node (is_member_node node first) refl is (count_without node rest)
  where
    by_node : (b : Bool) → is_member_node node first ≡ b → (b || is_member node rest) ≡ true
        → (is_member node rest ≡ true → length (members_without node rest) < length rest)
        → length (cond (not b) (first ∷ members_without node rest) (members_without node rest)) < suc (length rest)
    by_node true own is later = let less = count_less node rest in omega (arith, less)
    by_node false own is later = let less = later is in omega (arith, less)

-- ---- what is counted

abbrev members_now : List Entry → List Member
members_now log = members_in log (epoch_of log)

abbrev left_of : List Statement → World → ℕ
left_of script world = length (controls_to_come script world)

-- epochs and members, and twice the controls to come, are no more than at first
abbrev IsWithin : List Statement → World → Type 0
IsWithin script world =
    epoch_of world.log + length (members_now world.log) + left_of script world + left_of script world ≤ count_of_controls script
    + count_of_controls script + 65

-- what an entry adds to epochs and members
abbrev Adds : List Entry → List Entry → ℕ → Type 0
Adds log log_after more = epoch_of log_after + length (members_now log_after) ≤ epoch_of log + length (members_now log) + more

none_added : (log : List Entry) → Adds log log 0
none_added log = omega arith

plain_adds : (log : List Entry) (entry : Entry) → 1 ≤ length log → begins_epoch entry ≡ false → Adds log (log ++ entry ∷ []) 0
plain_adds log entry some plain =
    let none : length (filter begins_epoch (entry ∷ [])) ≡ 0 = ap (λ (b : Bool). length (cond b (entry ∷ []) [])) plain in
    let sum : epoch_of (log ++ entry ∷ []) ≡ epoch_of log + length (filter begins_epoch (entry ∷ [])) = epoch_of-append log (entry ∷ []) in
    let same : epoch_of (log ++ entry ∷ []) ≡ epoch_of log = omega (arith, none, sum) in
    let members : length (members_now (log ++ entry ∷ [])) ≡ length (members_now log)
    = ap (λ (epoch : ℕ). length (members_in (log ++ entry ∷ []) epoch)) same
    ∙ ap (λ (list : List Member). length list) (members_in-append log (entry ∷ []) (epoch_of log) some (omega arith)) in
    omega (arith, same, members)

-- the members once an epoch began
begun_members : (log : List Entry) (entry : Entry) → 1 ≤ length log → begins_epoch entry ≡ true
    → members_now (log ++ entry ∷ []) ≡ members_after (members_now log) entry
begun_members log entry some begins =
    let more : epoch_of (log ++ entry ∷ []) ≡ epoch_of log + 1 = (let next = epoch_more log entry begins in omega (arith, next)) in
    ap (members_in (log ++ entry ∷ [])) more ∙ members_in-begun log entry some begins

module _ (log : List Entry) (some : 1 ≤ length log) (n : ℕ) where
  leave_adds : is_member n (members_now log) ≡ true → Adds log (log ++ entries.Leave (record { 0 = n }) ∷ []) 0
  leave_adds is =
      let next = epoch_more log (entries.Leave (record { 0 = n })) refl in
      let members = ap (λ (list : List Member). length list) (begun_members log (entries.Leave (record { 0 = n })) some refl) in
      let less = count_without n (members_now log) is in
      omega (arith, next, members, less)

  reweight_adds : (vnodes : ℕ) → Adds log (log ++ entries.Reweight (record { 0 = n }) vnodes ∷ []) 2
  reweight_adds vnodes =
      let next = epoch_more log (entries.Reweight (record { 0 = n }) vnodes) refl in
      let members = ap (λ (list : List Member). length list) (begun_members log (entries.Reweight (record { 0 = n }) vnodes) some refl) in
      let same = count_reweighted n vnodes (members_now log) in
      omega (arith, next, members, same)

  join_adds : (zone vnodes : ℕ) → Adds log (log ++ entries.Join (record { 0 = n }) zone vnodes ∷ []) 2
  join_adds zone vnodes =
      let next = epoch_more log (entries.Join (record { 0 = n }) zone vnodes) refl in
      let members = ap (λ (list : List Member). length list) (begun_members log (entries.Join (record { 0 = n }) zone vnodes) some refl) in
      let more = count_with (record { node = record { 0 = n }; zone = zone; vnodes = vnodes }) (members_now log) in
      omega (arith, next, members, more)

-- ---- the controls

taken : (controls behind : List Statement) (s : Statement) → slice_get controls 0 ≡ Some s
    → suc (length (drop 1 controls ++ behind)) ≡ length (controls ++ behind)
taken [] behind s next = absurd (cc (next))
taken (first ∷ rest) behind s next = refl

module _ (script : List Statement) (is_script : IsScript script) (event : Event) (world : World) (made : EventOutcome)
    (puts : EachPuts world) (holds : LogHolds world) (within : IsWithin script world) where
  some : 1 ≤ length world.log
  some = IsLog-some world.log holds.log

  -- by what an event added, and the controls that it left
  within_by : (log_after : List Entry) (left more : ℕ) → Adds world.log log_after more
      → left + left + more ≤ left_of script world + left_of script world
      → epoch_of log_after + length (members_now log_after) + left + left ≤ count_of_controls script + count_of_controls script + 65
  within_by log_after left more adds less = omega (arith, adds, less, within)

  step_adds : (n : ℕ) (host : Host) (cause : NodeCause) → tree.get world.hosts n ≡ Some host → IsCause script world n host cause
      → Adds world.log (log_after_cause cause world.log) 0
  step_adds n host (GuestAsks session req ask) there so = none_added world.log
  step_adds n host (RequestComes name to request) there so = none_added world.log
  step_adds n host (ReplyComes name from rsp) there so = none_added world.log
  step_adds n host (LossIsTold name packet) there so = none_added world.log
  step_adds n host (EntryIsRead entry) there so = none_added world.log
  step_adds n host (EntryIsPut entry) there (later, first) = plain_adds world.log entry some (puts n host entry later there first).plain
  step_adds n host RecoveryTicks there so = none_added world.log
  step_adds n host WorkIsRetried there so = none_added world.log
  step_adds n host (ClientAsks req ask) there so = none_added world.log

  abbrev Behind : List Statement
  Behind = controls_behind (phases_of script) (world.phase + 1)

  control_taken : (s : Statement) → next_control world ≡ Some s → suc (length (drop 1 world.controls ++ Behind)) ≡ left_of script world
  control_taken s next = taken world.controls Behind s next

  event_within : EventKind script event world made → IsWithin script made.world
  event_within (NodeStep h) =
      subst (λ (m : EventOutcome). IsWithin script m.world) h.made_so
      (within_by (log_after_cause h.cause world.log) (left_of script world) 0 (step_adds h.n h.host h.cause h.there h.caused) (omega arith))
  event_within (UntoldLoss h) = subst (λ (m : EventOutcome). IsWithin script m.world) h.made_so within
  event_within (UnreadDelivery h) = subst (λ (m : EventOutcome). IsWithin script m.world) h.made_so within
  event_within (NodeLoss h) =
      let less = control_taken _ h.control in
      subst (λ (m : EventOutcome). IsWithin script m.world) h.made_so
      (within_by world.log (length (drop 1 world.controls ++ Behind)) 0 (none_added world.log) (omega (arith, less)))
  event_within (NodeLeave h) =
      subst (λ (m : EventOutcome). IsWithin script m.world) h.made_so
      (within_by (world.log ++ entries.Leave (record { 0 = h.n }) ∷ []) (left_of script world) 0 (leave_adds world.log some h.n h.member)
      (omega arith))
  event_within (NodeReweight h) =
      let less = control_taken _ h.control in
      subst (λ (m : EventOutcome). IsWithin script m.world) h.made_so
      (within_by (world.log ++ entries.Reweight (record { 0 = h.n }) h.vnodes ∷ []) (length (drop 1 world.controls ++ Behind)) 2
      (reweight_adds world.log some h.n h.vnodes) (omega (arith, less)))
  event_within (NodeJoin h) =
      let less = control_taken _ h.control in
      subst (λ (m : EventOutcome). IsWithin script m.world) h.made_so
      (within_by (world.log ++ join_of script h.n (vnodes_of script) ∷ []) (length (drop 1 world.controls ++ Behind)) 2
      (join_adds world.log some h.n (zone_of script h.n) (vnodes_of script)) (omega (arith, less)))
  event_within (NodeReturn h) =
      let less = control_taken _ h.control in
      subst (λ (m : EventOutcome). IsWithin script m.world) h.made_so
      (within_by (world.log ++ join_of script h.n (last_weight world.log h.n) ∷ []) (length (drop 1 world.controls ++ Behind)) 2
      (join_adds world.log some h.n (zone_of script h.n) (last_weight world.log h.n)) (omega (arith, less)))
  event_within (PhaseEnd h) =
      let same : length ((world.controls ++ controls_at script (world.phase + 1))
      ++ controls_behind (phases_of script) ((world.phase + 1) + 1)) ≡ left_of script world
      = ap (λ (list : List Statement). length list)
      (append_assoc world.controls (controls_at script (world.phase + 1)) (controls_behind (phases_of script) ((world.phase + 1) + 1))
      ∙ ap (λ (later : List Statement). world.controls ++ later) (behind_next (phases_of script) (world.phase + 1))) in
      subst (λ (m : EventOutcome). IsWithin script m.world) h.made_so
      (within_by world.log (length ((world.controls ++ controls_at script (world.phase + 1))
      ++ controls_behind (phases_of script) ((world.phase + 1) + 1))) 0 (none_added world.log) (omega (arith, same)))

-- ---- every world

module _ (script : List Statement) (is_script : IsScript script) (few : HasFewControls script) where
  abbrev HoldsWithin : World → Type 0
  HoldsWithin world = LogHolds world × HoldsOfEachHost IsValidHost world × IsWithin script world

  room_within : (world : World) → IsWithin script world → MayGrow world
  room_within world within = record { room = (let bound = few.few in omega (arith, within, bound)) }

  opens_within : IsWithin script (initial_world script)
  unfolding initial_world
  opens_within =
      let holds = opens_log script is_script in
      let most = (IsLog-members (initial_world script).log (epoch_of (initial_world script).log) holds.log (omega arith)).1 in
      let one : epoch_of (initial_world script).log ≡ 1 = refl in
      omega (arith, most, one)

  holds_within : (world : World) → Began script world → HoldsWithin world
  holds_within = by_induction script HoldsWithin (record {
    opens = (opens_log script is_script, each_opens script LogHolds IsValidHost (hosts_stay_valid script is_script), opens_within);
    keeps = λ event world made began is holds.
        let puts = each_puts script world began holds.1 in
        let kind = goes_by_kind script event world made is in (
          keeps_log script (weight_at_first script is_script) event world made puts (room_within world holds.2).room
              (controls-fit script world is_script began) holds.0 kind,
          each_kept script LogHolds IsValidHost
              (hosts_stay_valid script is_script) event world made is holds.0 holds.1,
          event_within script is_script event world made puts holds.0 holds.2 kind,
        );
  })

  pub has_room : (world : World) → Began script world → MayGrow world
  has_room world began = room_within world (holds_within world began).2

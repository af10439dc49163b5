-- In each world of a run in range a node has left as often as incarnations of it ended in a `Leave`, and what left came to no epoch from
-- its `Leave` on. So what it asked is fenced.
use Rattle.std.proofs.Common.{◌≡◌, ◌≢◌, ⊎_elim, arith, ℕ, ◌+◌, ◌-◌, ◌<◌, ◌==◌, ◌||◌, ◌≤◌, not, cond, Bool, true, false, List, [], ◌∷◌, ◌++◌}
use Rattle.std.proofs.Common.{filter, length, slice_get, Option, Some, None, is_some, refl, sym, ap, subst, ◌∙◌}
use Rattle.std.specs.FinMap as tree
use Rattle.std.proofs.lemmas.Bool.{cases_eq, eq-eqb, ne_eqb, and_parts, not-true}
use Rattle.std.proofs.lemmas.List.{length_push}
use Rattle.std.proofs.lemmas.Option.{same_Some}
use Rattle.proof_tools.proofs.FiniteMaps.{get-insert_cases, get-insert_same, get-insert_other}
use Rattle.object_id.specs.declared.entry.Entry.{Entry}
use Rattle.object_id.specs.declared.entry.Entry.TheVariants as entries
use Rattle.object_id.specs.declared.entry.Member.{Member}
use Rattle.epoch_log.specs.Epochs.{begins_epoch, epoch_of, members_in}
use Rattle.epoch_log.specs.Members.{is_member_node, is_member, members_without}
use Rattle.epoch_log.proofs.EpochLemmas.{epoch_of-append}
use Rattle.epoch_log.proofs.MembersLemmas.{IsLog-some}
use Rattle.cluster_script.specs.declared.statement.Statement.{Statement}
use Rattle.cluster_script.specs.declared.statement.Statement.TheVariants as lines
use Rattle.cluster_script.specs.Settings.{vnodes_of, zone_of}
use Rattle.sheep_node.specs.declared.event.Event.{Event}
use Rattle.sheep_node.specs.May.{has_numbers}
use Rattle.sheep_node.specs.Step.{node_step}
use Rattle.sheep_world.specs.World.{Host, World, is_host_up}
use Rattle.sheep_world.specs.Opening.{format_entry, initial_world}
use Rattle.sheep_world.specs.MembershipChanges.{lost_host, last_weight}
use Rattle.sheep_world.specs.Step.{EventOutcome}
use Rattle.sheep_world.specs.Began.{Began}
use Rattle.sheep_world.specs.LogHolds.{is_member_now, LogHolds}
use Rattle.sheep_world.specs.NodeCauses.{NodeCause, GuestAsks, RequestComes, ReplyComes, LossIsTold, EntryIsRead, EntryIsPut, RecoveryTicks}
use Rattle.sheep_world.specs.NodeCauses.{WorkIsRetried, ClientAsks, input_of_cause, IsCause, log_after_cause, host_with_node}
use Rattle.sheep_world.specs.EventKinds.{log_after_return, EventKind, NodeStep, UntoldLoss, UnreadDelivery, NodeLoss, NodeLeave}
use Rattle.sheep_world.specs.EventKinds.{NodeReweight, NodeJoin, NodeReturn, PhaseEnd}
use Rattle.sheep_world.specs.HostChanges.{host_after_return, joined_host}
use Rattle.sheep_world.proofs.BegunWorlds.{by_induction}
use Rattle.sheep_world.proofs.ControlLaws.{next_fits}
use Rattle.sheep_world.proofs.ClientReads.{goes_by_kind}
use Rattle.sheep_world.proofs.LogAtOpening.{log-holds, nodes-valid, opens_log}
use Rattle.sheep_world.proofs.LogFrontLaws.{all_read}
use Rattle.sheep_world.proofs.MembersOfLog.{member-members_with, member-members_reweighted, member-members_without, now-plain, now-begun}
use Rattle.sheep_world.proofs.NodesByTheLog.{by_the_log}
use Rattle.sheep_world.proofs.PuttableEntries.{each_puts}
use Rattle.sheep_world.proofs.WireAtOpening.{opening_found}
use Rattle.overlap_law.specs.Grants.{dated_effects, leaves_of, leave_of}
use Rattle.overlap_law.specs.MomentChanges.{RunsAreInRange}
use Rattle.overlap_law.specs.Reached.{Hosts}
use Rattle.overlap_law.proofs.KnownSteps.{together}
use Rattle.overlap_law.proofs.LeavesOfLog.{leaves_plain, leaves_joined, leaves_weighed, leaves_own, leaves_other}

-- ---- lists

pub at_end : {X : Type 0} (xs : List X) → slice_get xs (length xs) ≡ None
at_end [] = refl
at_end (x ∷ xs) = at_end xs

pub at_push : {X : Type 0} (xs : List X) (x : X) → slice_get (xs ++ x ∷ []) (length xs) ≡ Some x
at_push [] x = refl
at_push (y ∷ xs) x = at_push xs x

none_of_node : (n : ℕ) (members : List Member) → is_member n (members_without n members) ≡ false
none_of_node n [] = refl
none_of_node n (member ∷ members) = by_node (is_member_node n member) refl (none_of_node n members)
  where
    by_node : (b : Bool) → is_member_node n member ≡ b → is_member n (members_without n members) ≡ false
        → is_member n (cond (not b) (member ∷ members_without n members) (members_without n members)) ≡ false
    by_node true is rest = rest
    by_node false is rest = ap (λ (b : Bool). b || is_member n (members_without n members)) is ∙ rest

pub leaves_none : (n : ℕ) → leaves_of [] n ≡ []
unfolding dated_effects
leaves_none n = refl

-- ---- one node

-- its leaves are counted: while it is a member its present incarnation hasn't left, else it has
pub record IsCounted (log : List Entry) (n incarnation : ℕ) : Type 0 where
  pub member : is_member_now log n ≡ true → length (leaves_of log n) + 1 ≡ incarnation
  pub gone : is_member_now log n ≡ false → length (leaves_of log n) ≡ incarnation

-- and what left was in an epoch before that of its `Leave`
pub record IsFenced (log : List Entry) (n : ℕ) (host : Host) : Type 0 where
  pub counted : IsCounted log n host.incarnation
  pub before : (left : ℕ) → leave_of log n host.incarnation ≡ Some left → host.node.peer.epoch < left

pub record AllFenced (log : List Entry) (hosts : Hosts) : Type 0 where
  pub each : (n : ℕ) (host : Host) → tree.get hosts n ≡ Some host → IsFenced log n host
  pub none : (n : ℕ) → tree.get hosts n ≡ None → leaves_of log n ≡ []

-- an entry that changes neither leaves nor membership of a node
record IsSame (log later : List Entry) (n : ℕ) : Type 0 where
  leaves : leaves_of later n ≡ leaves_of log n
  member : is_member_now later n ≡ is_member_now log n

counted_still : (log later : List Entry) (n incarnation : ℕ) → IsSame log later n → IsCounted log n incarnation
    → IsCounted later n incarnation
counted_still log later n incarnation same is = record {
  member = λ now. ap (λ (leaves : List ℕ). length leaves + 1) same.leaves ∙ is.member (sym same.member ∙ now);
  gone = λ now. ap length same.leaves ∙ is.gone (sym same.member ∙ now);
}

fenced_still : (log later : List Entry) (n : ℕ) (host : Host) → IsSame log later n → IsFenced log n host → IsFenced later n host
fenced_still log later n host same is = record {
  counted = counted_still log later n host.incarnation same is.counted;
  before = λ left leaves. is.before left (sym (ap (λ (leaves : List ℕ). slice_get leaves (host.incarnation - 1)) same.leaves) ∙ leaves);
}

-- a member hasn't left in its present incarnation
pub not_left : {P : Type 0} (log : List Entry) (n incarnation left : ℕ) → IsCounted log n incarnation → is_member_now log n ≡ true
    → leave_of log n incarnation ≡ Some left → P
not_left log n incarnation left is member leaves =
    let count : length (leaves_of log n) + 1 ≡ incarnation = is.member member in
    let place : incarnation - 1 ≡ length (leaves_of log n) = omega (arith, count) in
    let none : leave_of log n incarnation ≡ None = ap (slice_get (leaves_of log n)) place ∙ at_end (leaves_of log n) in
    absurd (cc (leaves, none))

member_fenced : (log : List Entry) (n : ℕ) (host : Host) → IsCounted log n host.incarnation → is_member_now log n ≡ true
    → IsFenced log n host
member_fenced log n host is member =
    record { counted = is; before = λ left leaves. not_left log n host.incarnation left is member leaves }

-- ---- hosts

none_before : (hosts : Hosts) (k : ℕ) (new : Host) (n : ℕ) → tree.get (tree.insert hosts k new) n ≡ None
    → (n ≢ k) × (tree.get hosts n ≡ None)
none_before hosts k new n none = ⊎_elim
    (λ (own : n ≡ k).
    let some = ap (tree.get (tree.insert hosts k new)) own ∙ get-insert_same hosts k new in absurd (cc (none, some)))
    (λ (apart : n ≢ k). (apart, sym (get-insert_other hosts k new n apart) ∙ none))
    (cases_eq n k)

-- one host is another, the others are as they were
one_fenced : (log later : List Entry) (hosts : Hosts) (k : ℕ) (new : Host) → ((n : ℕ) → n ≢ k → IsSame log later n) → IsFenced later k new
    → AllFenced log hosts
    → AllFenced later (tree.insert hosts k new)
one_fenced log later hosts k new same own all = record {
  each = λ n host there. ⊎_elim
      (λ (is : (n ≡ k) × (new ≡ host)). subst (λ (q : ℕ). IsFenced later q host) (sym is.0) (subst (IsFenced later k) is.1 own))
      (λ (apart : (n ≢ k) × (tree.get hosts n ≡ Some host)). fenced_still log later n host (same n apart.0) (all.each n host apart.1))
      (get-insert_cases hosts k new n host there);
  none = λ n there. let (apart, was) = none_before hosts k new n there in (same n apart).leaves ∙ all.none n was;
}

-- who is up isn't lost
pub up_so : (host : Host) → is_host_up host ≡ true → host.is_lost ≡ false
up_so host up = not-true host.is_lost (and_parts (not host.is_lost) (has_numbers host.node) up).0

same_itself : (log : List Entry) (n : ℕ) → IsSame log log n
same_itself log n = record { leaves = refl; member = refl }

module _ (script : List Statement) (range : RunsAreInRange script) (world : World) (began : Began script world)
    (all : AllFenced world.log world.hosts) where
  abbrev log : List Entry
  log = world.log

  holds : LogHolds world
  holds = log-holds script range.is_script range.room world began

  some : 1 ≤ length log
  some = IsLog-some log holds.log

  -- what is put changes nothing of this
  same_put : (n : ℕ) (host : Host) (cause : NodeCause) → tree.get world.hosts n ≡ Some host → IsCause script world n host cause → (q : ℕ)
      → IsSame log (log_after_cause cause log) q
  same_put n host (GuestAsks session req ask) there so q = same_itself log q
  same_put n host (RequestComes name to request) there so q = same_itself log q
  same_put n host (ReplyComes name from rsp) there so q = same_itself log q
  same_put n host (LossIsTold name packet) there so q = same_itself log q
  same_put n host (EntryIsRead entry) there so q = same_itself log q
  same_put n host (EntryIsPut entry) there (later, first) q =
      let puttable = each_puts script world began (nodes-valid script range.is_script range.room world began) n host entry later there
      first in
      record { leaves = leaves_plain log entry q puttable.plain; member = now-plain log entry q some puttable.plain }
  same_put n host RecoveryTicks there so q = same_itself log q
  same_put n host WorkIsRetried there so q = same_itself log q
  same_put n host (ClientAsks req ask) there so q = same_itself log q

  -- a node's epoch is one of the log
  epoch_read : (n : ℕ) (host : Host) → tree.get world.hosts n ≡ Some host → host.node.peer.epoch < epoch_of log + 1
  epoch_read n host there =
      let front = all_read script world began n host there in
      let own : host.node.peer.epoch ≡ epoch_of host.node.peer.entries = (by_the_log script range.is_script range.room world began n host
      there).epoch_so in
      let whole : epoch_of log ≡ epoch_of host.node.peer.entries + length (filter begins_epoch front.rest)
      = ap epoch_of front.is ∙ epoch_of-append host.node.peer.entries front.rest in
      omega (arith, own, whole)

  -- a node that leaves
  module _ (k : ℕ) (left_host : Host) (there : tree.get world.hosts k ≡ Some left_host) (member : is_member_now log k ≡ true) where
    abbrev later : List Entry
    later = log ++ entries.Leave (record { 0 = k }) ∷ []

    gone_now : is_member_now later k ≡ false
    gone_now = now-begun log (entries.Leave (record { 0 = k })) k some refl ∙ none_of_node k (members_in log (epoch_of log))

    -- its own count
    counted_then : (host : Host) → IsFenced log k host → IsCounted later k host.incarnation
    counted_then host is = record {
      member = λ now. absurd (cc (now, gone_now));
      gone = λ now.
          let long : length (leaves_of later k) ≡ length (leaves_of log k) + 1
          = ap length (leaves_own log k) ∙ length_push (leaves_of log k) (epoch_of log + 1) in
          long ∙ is.counted.member member;
    }

    own_left : (host : Host) → tree.get world.hosts k ≡ Some host → IsFenced log k host → IsFenced later k host
    own_left host at is = record {
      counted = counted_then host is;
      before = λ left leaves.
          let count : length (leaves_of log k) + 1 ≡ host.incarnation = is.counted.member member in
          let place : host.incarnation - 1 ≡ length (leaves_of log k) = omega (arith, count) in
          let found : leave_of later k host.incarnation ≡ Some (epoch_of log + 1)
          = ap (slice_get (leaves_of later k)) place
          ∙ ap (λ (leaves : List ℕ). slice_get leaves (length (leaves_of log k))) (leaves_own log k)
          ∙ at_push (leaves_of log k) (epoch_of log + 1) in
          let same : epoch_of log + 1 ≡ left = same_Some (epoch_of log + 1) left (sym found ∙ leaves) in
          let below = epoch_read k host at in
          omega (arith, same, below);
    }

    other_left : (n : ℕ) → n ≢ k → IsSame log later n
    other_left n apart = record {
      leaves = leaves_other log k n (ne_eqb k n (λ (same : k ≡ n). apart (sym same)));
      member = now-begun log (entries.Leave (record { 0 = k })) n some refl
          ∙ member-members_without n k (members_in log (epoch_of log)) (λ (same : k ≡ n). apart (sym same));
    }

    left_fenced : AllFenced later world.hosts
    left_fenced = record {
      each = λ n host at. ⊎_elim
          (λ (own : n ≡ k).
          let at_k : tree.get world.hosts k ≡ Some host = ap (tree.get world.hosts) (sym own) ∙ at in
          subst (λ (q : ℕ). IsFenced later q host) (sym own) (own_left host at_k (all.each k host at_k)))
          (λ (apart : n ≢ k). fenced_still log later n host (other_left n apart) (all.each n host at))
          (cases_eq n k);
      none = λ n at. ⊎_elim
          (λ (own : n ≡ k). let was = ap (tree.get world.hosts) own in let here = sym was ∙ at in absurd (cc (here, there)))
          (λ (apart : n ≢ k). (other_left n apart).leaves ∙ all.none n at)
          (cases_eq n k);
    }

  -- a node that joins, or comes back
  module _ (k zone vnodes : ℕ) where
    abbrev joined : List Entry
    joined = log ++ entries.Join (record { 0 = k }) zone vnodes ∷ []

    abbrev new_member : Member
    new_member = record { node = record { 0 = k }; zone = zone; vnodes = vnodes }

    now_so : (n : ℕ) → is_member_now joined n ≡ ((k == n) || is_member_now log n)
    now_so n =
        now-begun log (entries.Join (record { 0 = k }) zone vnodes) n some refl
        ∙ member-members_with n new_member (members_in log (epoch_of log))

    others_same : (n : ℕ) → n ≢ k → IsSame log joined n
    others_same n apart = record {
      leaves = leaves_joined log (record { 0 = k }) zone vnodes n;
      member = now_so n ∙ ap (λ (b : Bool). b || is_member_now log n) (ne_eqb k n (λ (same : k ≡ n). apart (sym same)));
    }

    stands : is_member_now joined k ≡ true
    stands = now_so k ∙ ap (λ (b : Bool). b || is_member_now log k) (eq-eqb k k refl)

    -- with an incarnation that hasn't left
    new_fenced : (host : Host) → length (leaves_of log k) + 1 ≡ host.incarnation → AllFenced joined (tree.insert world.hosts k host)
    new_fenced host count =
        one_fenced log joined world.hosts k host others_same
        (member_fenced joined k host
        (record {
          member = λ now. ap (λ (leaves : List ℕ). length leaves + 1) (leaves_joined log (record { 0 = k }) zone vnodes k) ∙ count;
          gone = λ now. let is = stands in absurd (cc (now, is));
        }) stands) all

  -- ---- every event

  abbrev FencedAfter : EventOutcome → Type 0
  FencedAfter made = AllFenced made.world.log made.world.hosts

  no_leaves : (n : ℕ) → is_some (tree.get world.hosts n) ≡ false → leaves_of log n ≡ []
  no_leaves n none = by_host (tree.get world.hosts n) refl none
    where
      by_host : (o : Option Host) → tree.get world.hosts n ≡ o → is_some o ≡ false → leaves_of log n ≡ []
      by_host None at none = all.none n at
      by_host (Some host) at none = absurd (cc (none))

  event_fenced : (event : Event) (made : EventOutcome) → EventKind script event world made → FencedAfter made
  event_fenced event made (NodeStep h) =
      let later = log_after_cause h.cause log in
      let same = same_put h.n h.host h.cause h.there h.caused in
      let new = host_with_node h.host (node_step (input_of_cause h.cause) h.host.node).node in
      let stands = (holds.well h.n h.host h.there).stands (up_so h.host h.up) in
      subst FencedAfter h.made_so
      (one_fenced log later world.hosts h.n new (λ n apart. same n)
      (member_fenced later h.n new (counted_still log later h.n h.host.incarnation (same h.n) (all.each h.n h.host h.there).counted)
      ((same h.n).member ∙ stands)) all)
  event_fenced event made (UntoldLoss h) = subst FencedAfter h.made_so all
  event_fenced event made (UnreadDelivery h) = subst FencedAfter h.made_so all
  event_fenced event made (NodeLoss h) =
      let was = all.each h.n h.host h.there in
      subst FencedAfter h.made_so
      (one_fenced log log world.hosts h.n (lost_host h.host) (λ n apart. same_itself log n)
      (record { counted = was.counted; before = was.before }) all)
  event_fenced event made (NodeLeave h) = subst FencedAfter h.made_so (left_fenced h.n h.host h.there h.member)
  event_fenced event made (NodeReweight h) =
      let later = log ++ entries.Reweight (record { 0 = h.n }) h.vnodes ∷ [] in
      let same : (n : ℕ) → IsSame log later n
      = λ n. record {
        leaves = leaves_weighed log (record { 0 = h.n }) h.vnodes n;
        member = now-begun log (entries.Reweight (record { 0 = h.n }) h.vnodes) n some refl
            ∙ member-members_reweighted n h.n h.vnodes (members_in log (epoch_of log));
      } in
      subst FencedAfter h.made_so
      (record {
        each = λ n host there. fenced_still log later n host (same n) (all.each n host there);
        none = λ n there. (same n).leaves ∙ all.none n there;
      })
  event_fenced event made (NodeJoin h) =
      let none = (next_fits script world (lines.Join h.n) h.control (together script range world began).fit).1 in
      subst FencedAfter h.made_so
      (new_fenced h.n (zone_of script h.n) (vnodes_of script) (joined_host script h.n)
      (ap (λ (leaves : List ℕ). length leaves + 1) (no_leaves h.n none)))
  event_fenced event made (NodeReturn h) =
      let count : length (leaves_of log h.n) ≡ h.host.incarnation = (all.each h.n h.host h.there).counted.gone h.no_member in
      subst FencedAfter h.made_so
      (new_fenced h.n (zone_of script h.n) (last_weight log h.n) (host_after_return (log_after_return script h.n world) h.host)
      (ap (λ (n : ℕ). n + 1) count))
  event_fenced event made (PhaseEnd h) = subst FencedAfter h.made_so all

-- ---- every world

opening_fenced : (script : List Statement) → LogHolds (initial_world script)
    → AllFenced (initial_world script).log (initial_world script).hosts
unfolding initial_world
opening_fenced script holds =
    let first : (n : ℕ) → leaves_of (format_entry script ∷ []) n ≡ [] = λ n. leaves_plain [] (format_entry script) n refl ∙ leaves_none n in
    record {
      each = λ n host there.
          let (member, own, is) = opening_found script n host there in
          let incarnation : host.incarnation ≡ 1 = ap (λ (h : Host). h.incarnation) (sym is) in
          let stands = (holds.well n host there).stands (ap (λ (h : Host). h.is_lost) (sym is)) in
          member_fenced (format_entry script ∷ []) n host
          (record {
            member = λ now. ap (λ (leaves : List ℕ). length leaves + 1) (first n) ∙ sym incarnation;
            gone = λ now. absurd (cc (now, stands));
          }) stands;
      none = λ n there. first n;
    }

pub all_fenced : (script : List Statement) → RunsAreInRange script → (world : World) → Began script world → AllFenced world.log world.hosts
all_fenced script range =
    by_induction script (λ (world : World). AllFenced world.log world.hosts) (record {
      opens = opening_fenced script (opens_log script range.is_script);
      keeps = λ event world made began is all. event_fenced script range world began all event made
          (goes_by_kind script event world made is);
    })

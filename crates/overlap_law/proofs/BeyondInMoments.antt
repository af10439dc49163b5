-- At each moment on the way of an event: who is lost or came to an epoch is so later, a doomed attempt stays doomed, and an epoch that is
-- dying stays so. A node that isn't lost recovers its own epoch; and where one has recovered in an epoch, no target of an earlier one is in
-- that.
use Rattle.std.proofs.Common.{◌≡◌, ⊎_elim, arith, ℕ, ◌+◌, ◌≤◌, ◌<◌, ◌&&◌, ◌||◌, nat_le, not, Bool, true, false, List, [], ◌∷◌, zero, suc}
use Rattle.std.proofs.Common.{Option, Some, None, is_some, refl, sym, ap, subst, ◌∙◌, slice_get}
use Rattle.std.specs.List.{list_any}
use Rattle.std.specs.Option.{option_map_or}
use Rattle.std.specs.FinMap as tree
use Rattle.std.proofs.lemmas.Bool.{and_parts, and_from, and_cases, cases_lt, eqb-true, eq-eqb, le-leb, leb-true, leb-false, or_cases}
use Rattle.std.proofs.lemmas.Bool.{or_left, or_right, or_parts}
use Rattle.std.proofs.lemmas.Option.{same_Some}
use Rattle.object_id.specs.declared.node.NodeId.{NodeId}
use Rattle.object_id.specs.declared.entry.Entry.{Entry}
use Rattle.object_id.specs.declared.entry.Member.{Member}
use Rattle.epoch_log.specs.Members.{is_member_node, is_member}
use Rattle.epoch_log.specs.Epochs.{epoch_of, members_in}
use Rattle.cluster_script.specs.declared.statement.Statement.{Statement}
use Rattle.object_list.specs.Gathered.{is_same_node, has_node}
use Rattle.peer_proto.specs.Work.{policy_of}
use Rattle.sheep_world.specs.World.{Host}
use Rattle.sheep_world.specs.Began.{Began}
use Rattle.overlap_law.specs.Attempts.{AttemptRecord, object_of}
use Rattle.overlap_law.specs.Words.{is_doomed}
use Rattle.overlap_law.specs.Reached.{Hosts, has_come_in, has_come, is_beyond, has_finished, is_dying}
use Rattle.overlap_law.specs.Each.{has_reached}
use Rattle.overlap_law.specs.Past.{MomentWithPast}
use Rattle.overlap_law.specs.TiedAttempts.{IsTied}
use Rattle.overlap_law.specs.ShapedAttempts.{AreShaped}
use Rattle.overlap_law.specs.MomentChanges.{MomentChange, RunsAreInRange}
use Rattle.overlap_law.proofs.DoomedTraffic.{BeyondLater, StaysInVain, traffic_vain, traffic_doomed}
use Rattle.overlap_law.proofs.EpochsRise.{epochs_rise}
use Rattle.overlap_law.proofs.FinishedInMoments.{TermsHold, finished_before}
use Rattle.overlap_law.proofs.HolderLemmas.{target-member}
use Rattle.overlap_law.proofs.LogsInMoments.{log_grows, same_members, WasUp, IsNew, ups_were_up}
use Rattle.overlap_law.proofs.ReadInMoments.{IsSoundHost, epoch_within, recovery_own, recovery_present}
use Rattle.overlap_law.proofs.RecoveredInMoments.{node_of, EndsNow}
use Rattle.overlap_law.proofs.StoodNodes.{StoodSince, have_stayed, are_beyond}
use Rattle.overlap_law.proofs.TrafficOfChanges.{traffic}

-- ---- lists of nodes

-- what stands at a place is one of the list
pub got-among : (nodes : List NodeId) (place : ℕ) (node : NodeId) → slice_get nodes place ≡ Some node → has_node node nodes ≡ true
got-among [] place node got = absurd (cc (got))
got-among (first ∷ nodes) zero node got =
    or_left (is_same_node node first) (has_node node nodes)
    (eq-eqb first.0 node.0 (ap (λ (n : NodeId). n.0) (same_Some first node got)))
got-among (first ∷ nodes) (suc place) node got = or_right (is_same_node node first) (has_node node nodes) (got-among nodes place node got)

-- a member is one of the members
own-member : (member : Member) (members : List Member) → is_member member.node.0 (member ∷ members) ≡ true
own-member member members =
    or_left (is_member_node member.node.0 member) (is_member member.node.0 members) (eq-eqb member.node.0 member.node.0 refl)

-- a test that members pass
any_members : (p q : Member → Bool) (members : List Member)
    → ((member : Member) → is_member member.node.0 members ≡ true → p member ≡ true → q member ≡ true) → list_any p members ≡ true
    → list_any q members ≡ true
any_members p q [] so any = absurd (cc (any))
any_members p q (first ∷ members) so any = ⊎_elim
    (λ (here : p first ≡ true). or_left (q first) (list_any q members) (so first (own-member first members) here))
    (λ (rest : list_any p members ≡ true).
    or_right (q first) (list_any q members)
    (any_members p q members
    (λ member among. so member (or_right (is_member_node member.node.0 first) (is_member member.node.0 members) among)) rest))
    (or_cases (p first) (list_any p members) any)

-- ---- one moment

-- who isn't beyond an epoch is up, in no later one
pub record IsWithinEpoch (hosts : Hosts) (epoch : ℕ) (node : NodeId) : Type 0 where
  pub host : Host
  pub there : tree.get hosts node.0 ≡ Some host
  pub up : host.is_lost ≡ false
  pub within : host.node.peer.epoch ≤ epoch

pub not_beyond_within : (hosts : Hosts) (epoch : ℕ) (node : NodeId) → is_beyond hosts epoch node ≡ false → IsWithinEpoch hosts epoch node
not_beyond_within hosts epoch node is = by_host (tree.get hosts node.0) refl is
  where
    by_host : (o : Option Host) → tree.get hosts node.0 ≡ o → option_map_or (has_come_in (epoch + 1)) o true ≡ false
        → IsWithinEpoch hosts epoch node
    by_host None at is = absurd (cc (is))
    by_host (Some host) at is =
        let parts = or_parts host.is_lost (nat_le (epoch + 1) host.node.peer.epoch) is in
        let less = leb-false (epoch + 1) host.node.peer.epoch parts.1 in
        record { host = host; there = at; up = parts.0; within = omega (arith, less) }

-- a node that isn't lost recovers its own epoch, if it is a member of the one that it recovers
pub recovers_member : (log : List Entry) (n : ℕ) (host : Host) → IsSoundHost log n host → StoodSince log n host.node.peer.epoch
    → is_member n (members_in log host.node.recovery.epoch) ≡ true → host.node.recovery.epoch ≡ host.node.peer.epoch
recovers_member log n host is stood member = ⊎_elim
    (λ (own : host.node.recovery.epoch ≡ host.node.peer.epoch). own)
    (λ (out : is_member n (members_in log host.node.peer.epoch) ≡ false).
    let within = epoch_within log n host.node.me host.node.peer is.read in
    let yes : is_member n (members_in log host.node.peer.epoch) ≡ true = stood.since host.node.peer.epoch joined within in
    absurd (cc (yes, out)))
    (recovery_present log n host is)
  where
    joined : stood.joined ≤ host.node.peer.epoch
    joined = ⊎_elim
        (λ (came : stood.joined ≤ host.node.peer.epoch). came)
        (λ (none : (k : ℕ) → k < stood.joined → is_member n (members_in log k) ≡ false). ⊎_elim
        (λ (below : host.node.recovery.epoch < stood.joined). let no = none host.node.recovery.epoch below in absurd (cc (no, member)))
        (λ (above : stood.joined ≤ host.node.recovery.epoch). let entered = is.sound.recovers.entered in omega (arith, above, entered))
        (cases_lt host.node.recovery.epoch stood.joined))
        stood.before

-- so it does if it recovers one at all
pub recovers_own : (log : List Entry) (n : ℕ) (host : Host) → IsSoundHost log n host → StoodSince log n host.node.peer.epoch
    → 1 < host.node.recovery.epoch → host.node.recovery.epoch ≡ host.node.peer.epoch
recovers_own log n host is stood later = recovers_member log n host is stood (recovery_own log n host is later)

module _ (moment : MomentWithPast) (terms : TermsHold moment) where
  -- who is a member of an epoch and not beyond it is one of each later epoch
  pub within_stays : (epoch later : ℕ) (node : NodeId) → is_member node.0 (members_in moment.world.log epoch) ≡ true
      → is_beyond moment.world.hosts epoch node ≡ false → epoch ≤ later → later ≤ epoch_of moment.world.log
      → is_member node.0 (members_in moment.world.log later) ≡ true
  within_stays epoch later node member is from most =
      let up = not_beyond_within moment.world.hosts epoch node is in
      (have_stayed moment.world.log moment.world.hosts terms.stood).each node.0 up.host up.there up.up epoch later member up.within from
      most

  -- where each member of an epoch came to it, each member of an earlier one is beyond that
  pub come_leaves : (epoch level : ℕ) (node : NodeId)
      → ((other : NodeId) → is_member other.0 (members_in moment.world.log epoch) ≡ true → has_reached moment.world.hosts epoch other
      ≡ true)
      → epoch ≤ epoch_of moment.world.log → level < epoch → is_member node.0 (members_in moment.world.log level) ≡ true
      → is_beyond moment.world.hosts level node ≡ false → ⊥
  come_leaves epoch level node all begun below member is = by_member (is_member node.0 (members_in moment.world.log epoch)) refl
    where
      up : IsWithinEpoch moment.world.hosts level node
      up = not_beyond_within moment.world.hosts level node is

      by_member : (b : Bool) → is_member node.0 (members_in moment.world.log epoch) ≡ b → ⊥
      by_member true own =
          let reached : nat_le epoch up.host.node.peer.epoch ≡ true
          = ap (λ (o : Option Host). nat_le epoch (option_map_or (λ (host : Host). host.node.peer.epoch) o 0)) (sym up.there)
          ∙ all node own in
          let came = leb-true epoch up.host.node.peer.epoch reached in
          let within = up.within in
          omega (arith, came, within, below)
      by_member false out =
          let came : has_come_in epoch up.host ≡ true
          = ap (λ (o : Option Host). option_map_or (has_come_in epoch) o true) (sym up.there)
          ∙ (are_beyond moment.world.log moment.world.hosts terms.stood).each node.0 up.host up.there level epoch member below begun out in
          ⊎_elim
          (λ (lost : up.host.is_lost ≡ true). let still = up.up in cc (lost, still))
          (λ (reached : nat_le epoch up.host.node.peer.epoch ≡ true).
          let low = leb-true epoch up.host.node.peer.epoch reached in
          let within = up.within in
          omega (arith, low, within, below))
          (or_cases up.host.is_lost (nat_le epoch up.host.node.peer.epoch) came)

  -- so it is where one has recovered in it
  pub finished_leaves : (n epoch level : ℕ) (node : NodeId) → has_finished moment.world.hosts moment.world.log epoch (node_of n) ≡ true
      → level < epoch → is_member node.0 (members_in moment.world.log level) ≡ true → is_beyond moment.world.hosts level node ≡ false → ⊥
  finished_leaves n epoch level node finished below member is =
      come_leaves epoch level node (λ other own. terms.came.members n epoch other finished own) (terms.came.begun n epoch finished) below
      member is

-- whether a member is beyond an epoch without a `Recovered` of it
abbrev dies_in : Hosts → List Entry → ℕ → Member → Bool
dies_in hosts log epoch member = not (has_finished hosts log epoch member.node) && is_beyond hosts epoch member.node

lives_one : (hosts : Hosts) (log : List Entry) (epoch : ℕ) (node : NodeId) → has_finished hosts log epoch node ≡ false → (first : Member)
    → dies_in hosts log epoch first ≡ false → first.node.0 ≡ node.0 → is_beyond hosts epoch node ≡ false
lives_one hosts log epoch node unfinished first none same = ⊎_elim
    (λ (done : not (has_finished hosts log epoch first.node) ≡ false).
    let not_yet : not (has_finished hosts log epoch first.node) ≡ true
    = ap (λ (n : ℕ). not (has_finished hosts log epoch (node_of n))) same ∙ ap not unfinished in
    absurd (cc (done, not_yet)))
    (λ (within : is_beyond hosts epoch first.node ≡ false). ap (λ (n : ℕ). is_beyond hosts epoch (node_of n)) (sym same) ∙ within)
    (and_cases (not (has_finished hosts log epoch first.node)) (is_beyond hosts epoch first.node) none)

lives_among : (hosts : Hosts) (log : List Entry) (epoch : ℕ) (node : NodeId) → has_finished hosts log epoch node ≡ false
    → (members : List Member)
    → list_any (dies_in hosts log epoch) members ≡ false → is_member node.0 members ≡ true → is_beyond hosts epoch node ≡ false
lives_among hosts log epoch node unfinished [] none among = absurd (cc (among))
lives_among hosts log epoch node unfinished (first ∷ members) none among =
    let parts = or_parts (dies_in hosts log epoch first) (list_any (dies_in hosts log epoch) members) none in
    ⊎_elim
    (λ (here : is_member_node node.0 first ≡ true).
    lives_one hosts log epoch node unfinished first parts.0 (eqb-true first.node.0 node.0 here))
    (λ (later : is_member node.0 members ≡ true). lives_among hosts log epoch node unfinished members parts.1 later)
    (or_cases (is_member_node node.0 first) (is_member node.0 members) among)

-- in an epoch that isn't dying, who hasn't recovered isn't beyond it
pub lives_within : (hosts : Hosts) (log : List Entry) (epoch : ℕ) (node : NodeId) → is_dying hosts log epoch ≡ false
    → is_member node.0 (members_in log epoch) ≡ true → has_finished hosts log epoch node ≡ false → is_beyond hosts epoch node ≡ false
unfolding is_dying
lives_within hosts log epoch node lives member unfinished =
    lives_among hosts log epoch node unfinished (members_in log epoch) lives member

-- ---- over a change of a moment

module _ (script : List Statement) (range : RunsAreInRange script) (start before after : MomentWithPast) (began : Began script start.world)
    (change : MomentChange script start before after) (terms : TermsHold before) where
  -- who is lost or came to a level is so later, up to the epoch that may begin now
  pub come_later : (n level : ℕ) → is_some (tree.get before.world.hosts n) ≡ true → level ≤ epoch_of before.world.log + 1
      → has_come before.world.hosts level (node_of n) ≡ true → has_come after.world.hosts level (node_of n) ≡ true
  come_later n level seat most came = by_host (tree.get before.world.hosts n) refl seat came
    where
      came_so : (was now : Host) → was.is_lost ≡ false → has_come_in level was ≡ true → was.node.peer.epoch ≤ now.node.peer.epoch
          → level ≤ now.node.peer.epoch
      came_so was now up came rises = ⊎_elim
          (λ (lost : was.is_lost ≡ true). absurd (cc (lost, up)))
          (λ (reached : nat_le level was.node.peer.epoch ≡ true).
          let low = leb-true level was.node.peer.epoch reached in omega (arith, low, rises))
          (or_cases was.is_lost (nat_le level was.node.peer.epoch) came)

      by_lost : (was now : Host) → tree.get before.world.hosts n ≡ Some was → tree.get after.world.hosts n ≡ Some now
          → was.node.peer.epoch ≤ now.node.peer.epoch → has_come_in level was ≡ true → (b : Bool) → now.is_lost ≡ b
          → (b || nat_le level now.node.peer.epoch) ≡ true
      by_lost was now there at rises came true lost = refl
      by_lost was now there at rises came false up = ⊎_elim
          (λ (was_up : WasUp before.world.hosts n).
          let same : was_up.0 ≡ was = same_Some was_up.0 was (sym was_up.1 ∙ there) in
          le-leb level now.node.peer.epoch (came_so was now (ap (λ (h : Host). h.is_lost) (sym same) ∙ was_up.2) came rises))
          (λ (new : IsNew before after n now). le-leb level now.node.peer.epoch (newest now new))
          (ups_were_up script range began change n now at up)
        where
          newest : (now : Host) → IsNew before after n now → level ≤ now.node.peer.epoch
          newest now new = ⊎_elim
              (λ (none : is_some (tree.get before.world.hosts n) ≡ false). absurd (cc (seat, none)))
              (λ (own : now.node.peer.epoch ≡ epoch_of after.world.log). let begun = new.begun in omega (arith, most, begun, own))
              new.fresh

      by_host : (o : Option Host) → tree.get before.world.hosts n ≡ o → is_some o ≡ true → option_map_or (has_come_in level) o true ≡ true
          → has_come after.world.hosts level (node_of n) ≡ true
      by_host None is there came = absurd (cc (there))
      by_host (Some was) is there came =
          let (now, at, rises) = epochs_rise script range start began change n was is in
          ap (λ (o : Option Host). option_map_or (has_come_in level) o true) at ∙ by_lost was now is at rises came now.is_lost refl

  module _ (shaped : AreShaped before) (tied : IsTied before) where
    beyond_later : BeyondLater before.world.hosts after.world.hosts before.past.attempts
    beyond_later j attempt got place target among beyond =
        let begun = shaped.shape.begun j attempt got in
        let member : is_member target.0 (members_in before.world.log attempt.epoch) ≡ true
        = target-member before.world.log attempt.epoch (object_of attempt) (policy_of attempt.work) target
        (subst (λ (nodes : List NodeId). has_node target nodes ≡ true) (shaped.shape.targets j attempt got)
        (got-among attempt.targets place target among)) in
        come_later target.0 (attempt.epoch + 1) (terms.stood.seated target.0 attempt.epoch begun member) (omega (arith, begun)) beyond

    pub vain_later : (j : ℕ) (was now : AttemptRecord) → slice_get before.past.attempts j ≡ Some was
        → slice_get after.past.attempts j ≡ Some now → StaysInVain before.world.hosts after.world.hosts was now
    vain_later j was now at at_now =
        traffic_vain before.world.hosts after.world.hosts before.world.wire before.past.attempts tied.fates beyond_later
        (traffic script range start began change) j was now at at_now

    pub doomed_later : (j : ℕ) (was now : AttemptRecord) → slice_get before.past.attempts j ≡ Some was
        → slice_get after.past.attempts j ≡ Some now → is_doomed before.world.hosts was ≡ true → is_doomed after.world.hosts now ≡ true
    doomed_later j was now at at_now doomed =
        traffic_doomed before.world.hosts after.world.hosts before.world.wire before.past.attempts tied.fates beyond_later
        (traffic script range start began change) j was now at at_now doomed

  module _ (terms_after : TermsHold after) where
    -- who puts its `Recovered` of an epoch now isn't beyond it
    ends_within : (n epoch : ℕ) → EndsNow after.world.hosts n epoch → is_beyond after.world.hosts epoch (node_of n) ≡ true → ⊥
    ends_within n epoch ends beyond =
        let came : has_come_in (epoch + 1) ends.host ≡ true
        = ap (λ (o : Option Host). option_map_or (has_come_in (epoch + 1)) o true) (sym ends.there) ∙ beyond in
        let of_epoch = ends.of_epoch in
        let more = ends.later in
        let own : ends.host.node.recovery.epoch ≡ ends.host.node.peer.epoch
        = recovers_own after.world.log n ends.host (terms_after.sound.each n ends.host ends.there)
        (terms_after.stood.stood n ends.host ends.there ends.up) (omega (arith, of_epoch, more)) in
        ⊎_elim
        (λ (lost : ends.host.is_lost ≡ true). let up = ends.up in cc (lost, up))
        (λ (reached : nat_le (epoch + 1) ends.host.node.peer.epoch ≡ true).
        let low = leb-true (epoch + 1) ends.host.node.peer.epoch reached in
        omega (arith, low, own, of_epoch))
        (or_cases ends.host.is_lost (nat_le (epoch + 1) ends.host.node.peer.epoch) came)

    pub dying_later : (epoch : ℕ) → epoch ≤ epoch_of before.world.log → is_dying before.world.hosts before.world.log epoch ≡ true
        → is_dying after.world.hosts after.world.log epoch ≡ true
    unfolding is_dying
    dying_later epoch begun dying =
        ap (list_any (dies_in after.world.hosts after.world.log epoch))
        (same_members before.world.log after.world.log (log_grows script change) terms.stood.some epoch begun)
        ∙ any_members (dies_in before.world.hosts before.world.log epoch) (dies_in after.world.hosts after.world.log epoch)
        (members_in before.world.log epoch) stays dying
      where
        unfinished : (member : Member) → not (has_finished before.world.hosts before.world.log epoch member.node) ≡ true
            → is_beyond after.world.hosts epoch member.node ≡ true → (b : Bool)
            → has_finished after.world.hosts after.world.log epoch member.node ≡ b → not b ≡ true
        unfinished member not_yet beyond true done = ⊎_elim
            (λ (old : has_finished before.world.hosts before.world.log epoch (node_of member.node.0) ≡ true).
            let none : not (has_finished before.world.hosts before.world.log epoch member.node) ≡ false = ap not old in
            absurd (cc (none, not_yet)))
            (λ (ends : EndsNow after.world.hosts member.node.0 epoch). absurd (ends_within member.node.0 epoch ends beyond))
            (finished_before script range start began change member.node.0 epoch done)
        unfinished member not_yet beyond false none = refl

        stays : (member : Member) → is_member member.node.0 (members_in before.world.log epoch) ≡ true
            → dies_in before.world.hosts before.world.log epoch member ≡ true
            → dies_in after.world.hosts after.world.log epoch member ≡ true
        stays member among is =
            let parts = and_parts (not (has_finished before.world.hosts before.world.log epoch member.node))
            (is_beyond before.world.hosts epoch member.node) is in
            let beyond : is_beyond after.world.hosts epoch member.node ≡ true
            = come_later member.node.0 (epoch + 1) (terms.stood.seated member.node.0 epoch begun among) (omega (arith, begun)) parts.1 in
            and_from (not (has_finished after.world.hosts after.world.log epoch member.node))
            (is_beyond after.world.hosts epoch member.node) (unfinished member parts.0 beyond
            (has_finished after.world.hosts after.world.log epoch member.node) refl) beyond

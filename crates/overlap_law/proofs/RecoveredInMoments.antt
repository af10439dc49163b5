-- In each run in range, and in the middle of its steps, whose `Recovered` of an epoch stands in the log or is to be put came to it, and so
-- did each member of it; and while the node is in that epoch it has its list and lacks nothing.
use Rattle.std.proofs.Common.{◌≡◌, ◌⊎◌, inl, inr, ⊎_elim, arith, ℕ, ◌≤◌, ◌<◌, ◌==◌, ◌&&◌, ◌||◌, not, Bool, true, false, List, [], ◌∷◌, ◌++◌}
use Rattle.std.proofs.Common.{length, Option, Some, None, is_some, refl, sym, ap, subst, ◌∙◌}
use Rattle.std.specs.List.{list_any}
use Rattle.std.specs.Option.{option_map_or}
use Rattle.std.specs.FinMap as tree
use Rattle.std.proofs.lemmas.Bool.{or_cases, and_parts, not-true, eqb-true}
use Rattle.std.proofs.lemmas.List.Folds.{list_any-append}
use Rattle.std.proofs.lemmas.Option.{same_Some}
use Rattle.object_id.specs.declared.entry.Entry.{Entry}
use Rattle.object_id.specs.declared.node.NodeId.{NodeId}
use Rattle.epoch_log.specs.Epochs.{epoch_of, members_in, recovers, has_recovered}
use Rattle.epoch_log.specs.Members.{is_member}
use Rattle.object_list.specs.Gathered.{has_node}
use Rattle.recovery.specs.State.{is_listed}
use Rattle.sheep_node.specs.State.{Node}
use Rattle.sheep_world.specs.World.{Host}
use Rattle.overlap_law.specs.Reached.{Hosts, is_putting_in, has_finished}
use Rattle.overlap_law.specs.Each.{has_reached}
use Rattle.overlap_law.specs.NodeEpochs.{AnswerersHaveCome, TheRecoveredHaveAll}
use Rattle.overlap_law.specs.Past.{MomentWithPast}
use Rattle.overlap_law.proofs.EpochsRise.{EpochsRise}
use Rattle.overlap_law.proofs.LogsInMoments.{LogGrows, same_members, epochs_grow}
use Rattle.overlap_law.proofs.ReadInMoments.{HostsAreSound, epoch_within, recovery_members}
use Rattle.overlap_law.proofs.ToldBefore.{still_reached}

-- this node
abbrev pub node_of : ℕ → NodeId
node_of n = record { 0 = n }

-- ---- where a `Recovered` is

-- a host that is up has it to put
pub record IsToPut (hosts : Hosts) (n epoch : ℕ) : Type 0 where
  pub host : Host
  pub there : tree.get hosts n ≡ Some host
  pub up : host.is_lost ≡ false
  pub puts : list_any (recovers epoch n) host.node.outbox ≡ true

pub finished_cases : (hosts : Hosts) (log : List Entry) (n epoch : ℕ) → has_finished hosts log epoch (node_of n) ≡ true
    → (has_recovered log epoch n ≡ true) ⊎ IsToPut hosts n epoch
finished_cases hosts log n epoch finished = ⊎_elim
    (λ (stands : has_recovered log epoch n ≡ true). inl stands)
    (λ (puts : option_map_or (is_putting_in epoch n) (tree.get hosts n) false ≡ true). inr (by_host (tree.get hosts n) refl puts))
    (or_cases (has_recovered log epoch n) (option_map_or (is_putting_in epoch n) (tree.get hosts n) false) finished)
  where
    by_host : (o : Option Host) → tree.get hosts n ≡ o → option_map_or (is_putting_in epoch n) o false ≡ true → IsToPut hosts n epoch
    by_host None is puts = absurd (cc (puts))
    by_host (Some host) is puts =
        let parts = and_parts (not host.is_lost) (list_any (recovers epoch n) host.node.outbox) puts in
        record { host = host; there = is; up = not-true host.is_lost parts.0; puts = parts.1 }

or_left : (a b : Bool) → a ≡ true → (a || b) ≡ true
or_left true b is = refl
or_left false b is = absurd (cc (is))

or_right : (a b : Bool) → b ≡ true → (a || b) ≡ true
or_right true b is = refl
or_right false b is = is

pub finished_by_log : (hosts : Hosts) (log : List Entry) (n epoch : ℕ) → has_recovered log epoch n ≡ true
    → has_finished hosts log epoch (node_of n) ≡ true
finished_by_log hosts log n epoch stands =
    or_left (has_recovered log epoch n) (option_map_or (is_putting_in epoch n) (tree.get hosts n) false) stands

pub finished_by_outbox : (hosts : Hosts) (log : List Entry) (n epoch : ℕ) → IsToPut hosts n epoch
    → has_finished hosts log epoch (node_of n) ≡ true
finished_by_outbox hosts log n epoch to_put =
    or_right (has_recovered log epoch n) (option_map_or (is_putting_in epoch n) (tree.get hosts n) false)
    (ap (λ (o : Option Host). option_map_or (is_putting_in epoch n) o false) to_put.there
    ∙ (λ i. (not (to_put.up i) && to_put.puts i)))

-- a log got no `Recovered` by an entry that is none
pub plain_entry : (log : List Entry) (entry : Entry) (n epoch : ℕ) → recovers epoch n entry ≡ false
    → has_recovered (log ++ entry ∷ []) epoch n ≡ true
    → has_recovered log epoch n ≡ true
plain_entry log entry n epoch plain stands = ⊎_elim
    (λ (old : has_recovered log epoch n ≡ true). old)
    (λ (new : (recovers epoch n entry || false) ≡ true).
    let none : (recovers epoch n entry || false) ≡ false = ap (λ (b : Bool). b || false) plain in
    absurd (cc (none, new)))
    (or_cases (has_recovered log epoch n) (recovers epoch n entry || false)
    (sym (list_any-append (recovers epoch n) log (entry ∷ [])) ∙ stands))

-- ---- what it says

-- a node that isn't lost put its `Recovered` of the epoch that it recovers
pub record EndsNow (hosts : Hosts) (n epoch : ℕ) : Type 0 where
  pub host : Host
  pub there : tree.get hosts n ≡ Some host
  pub up : host.is_lost ≡ false
  pub of_epoch : host.node.recovery.epoch ≡ epoch
  pub later : 1 < epoch
  pub listed : is_listed host.node.recovery ≡ true
  pub put : host.node.recovered ≡ true

-- who finished was there, in a later epoch than the first, and came to the epoch, as did each member of it; where it recovers that epoch
-- still, its `Recovered` was put
pub record TheFinishedCame (log : List Entry) (hosts : Hosts) : Type 0 where
  pub later : (n epoch : ℕ) → has_finished hosts log epoch (node_of n) ≡ true → 1 < epoch
  pub begun : (n epoch : ℕ) → has_finished hosts log epoch (node_of n) ≡ true → epoch ≤ epoch_of log
  pub there : (n epoch : ℕ) → has_finished hosts log epoch (node_of n) ≡ true → is_some (tree.get hosts n) ≡ true
  pub reached : (n epoch : ℕ) (host : Host) → has_finished hosts log epoch (node_of n) ≡ true → tree.get hosts n ≡ Some host
      → epoch ≤ host.node.peer.epoch
  pub members : (n epoch : ℕ) (other : NodeId) → has_finished hosts log epoch (node_of n) ≡ true
      → is_member other.0 (members_in log epoch) ≡ true
      → has_reached hosts epoch other ≡ true
  pub put : (n : ℕ) (host : Host) → tree.get hosts n ≡ Some host → host.is_lost ≡ false
      → has_finished hosts log host.node.recovery.epoch (node_of n) ≡ true
      → host.node.recovered ≡ true

-- by it, and by what holds of each node, those who recovered have all
pub have_all : (moment : MomentWithPast) → HostsAreSound moment → TheFinishedCame moment.world.log moment.world.hosts
    → TheRecoveredHaveAll moment.world.log moment.world.hosts
have_all moment sound came = record {
  reached = λ n host there epoch finished. came.reached n epoch host finished there;
  members = λ n host there epoch other finished member. came.members n epoch other finished member;
  all = λ n host there up finished own.
      let at : has_finished moment.world.hosts moment.world.log host.node.recovery.epoch (node_of n) ≡ true
      = ap (λ (epoch : ℕ). has_finished moment.world.hosts moment.world.log epoch (node_of n)) own ∙ finished in
      let put = came.put n host there up at in
      let done = (sound.each n host there).sound.lists.done put (came.later n host.node.recovery.epoch at) in
      record { listed = done.0; nothing = done.1; put = put };
}

-- ---- how it is kept

-- who finished had finished, or just put it
abbrev pub FinishedBefore : MomentWithPast → MomentWithPast → Type 0
FinishedBefore before after = (n epoch : ℕ) → has_finished after.world.hosts after.world.log epoch (node_of n) ≡ true
    → (has_finished before.world.hosts before.world.log epoch (node_of n) ≡ true) ⊎ EndsNow after.world.hosts n epoch

-- a node's recovery goes on, and what was put stays put; or it is of a later epoch than the node was in
abbrev pub RecoveryGoes : Node → Node → Type 0
RecoveryGoes old new =
    ((new.recovery.epoch ≡ old.recovery.epoch) × (old.recovered ≡ true → new.recovered ≡ true)) ⊎ (old.peer.epoch < new.recovery.epoch)

-- of each node that is up
pub record GoesFrom (before : MomentWithPast) (n : ℕ) (now : Host) : Type 0 where
  pub host : Host
  pub there : tree.get before.world.hosts n ≡ Some host
  pub goes : ((host.is_lost ≡ false) × RecoveryGoes host.node now.node) ⊎ (host.node.peer.epoch < now.node.recovery.epoch)

abbrev pub RecoveriesGo : MomentWithPast → MomentWithPast → Type 0
RecoveriesGo before after = (n : ℕ) (now : Host) → tree.get after.world.hosts n ≡ Some now → now.is_lost ≡ false
    → GoesFrom before n now ⊎ (is_some (tree.get before.world.hosts n) ≡ false)

module _ (before after : MomentWithPast) (grows : LogGrows before.world.log after.world.log) (some : 1 ≤ length before.world.log)
    (rises : EpochsRise before.world.hosts after.world.hosts) (finished : FinishedBefore before after) (goes : RecoveriesGo before after)
    (sound : HostsAreSound after) (answered : AnswerersHaveCome after.world.hosts)
    (holds : TheFinishedCame before.world.log before.world.hosts) where
  there_still : (n : ℕ) (o : Option Host) → tree.get before.world.hosts n ≡ o → is_some o ≡ true
      → is_some (tree.get after.world.hosts n) ≡ true
  there_still n None is there = absurd (cc (there))
  there_still n (Some host) is there = ap (λ (o : Option Host). is_some o) (rises n host is).1

  -- a host that was there
  was_there : (n : ℕ) → is_some (tree.get before.world.hosts n) ≡ true → (host : Host) × (tree.get before.world.hosts n ≡ Some host)
  was_there n there = by_host (tree.get before.world.hosts n) refl there
    where
      by_host : (o : Option Host) → tree.get before.world.hosts n ≡ o → is_some o ≡ true
          → (host : Host) × (tree.get before.world.hosts n ≡ Some host)
      by_host None is there = absurd (cc (there))
      by_host (Some host) is there = (host, is)

  abbrev Ends : ℕ → ℕ → Type 0
  Ends n epoch = EndsNow after.world.hosts n epoch

  ends_within : (n epoch : ℕ) (ends : Ends n epoch) → (epoch ≤ ends.host.node.peer.epoch) × (epoch ≤ epoch_of after.world.log)
  ends_within n epoch ends =
      let is = sound.each n ends.host ends.there in
      let entered = is.sound.recovers.entered in
      let own = ends.of_epoch in
      let within = epoch_within after.world.log n ends.host.node.me ends.host.node.peer is.read in
      (omega (arith, entered, own), omega (arith, entered, own, within))

  -- each member of it is there too
  ends_members : (n epoch : ℕ) → Ends n epoch → (other : NodeId) → is_member other.0 (members_in after.world.log epoch) ≡ true
      → has_reached after.world.hosts epoch other ≡ true
  ends_members n epoch ends other member =
      let is = sound.each n ends.host ends.there in
      let own = ends.of_epoch in
      let later : 1 < ends.host.node.recovery.epoch = (let more = ends.later in omega (arith, own, more)) in
      let among : has_node other ends.host.node.recovery.members ≡ true
      = recovery_members after.world.log n ends.host is other later
      ∙ ap (λ (k : ℕ). is_member other.0 (members_in after.world.log k)) own ∙ member in
      ap (λ (k : ℕ). has_reached after.world.hosts k other) (sym own)
      ∙ answered.each n ends.host ends.there other among (none_waits ends.host.node.recovery.lists.waiting ends.listed)
    where
      none_waits : (waiting : List NodeId) → (length waiting == 0) ≡ true → has_node other waiting ≡ false
      none_waits [] listed = refl
      none_waits (node ∷ waiting) listed =
          let no : length (node ∷ waiting) ≡ 0 = eqb-true (length (node ∷ waiting)) 0 listed in absurd (omega (arith, no))

  stays_put : (n : ℕ) (now : Host) → tree.get after.world.hosts n ≡ Some now → now.is_lost ≡ false
      → has_finished after.world.hosts after.world.log now.node.recovery.epoch (node_of n) ≡ true → now.node.recovered ≡ true
  stays_put n now there up done = ⊎_elim
      (λ (old : has_finished before.world.hosts before.world.log now.node.recovery.epoch (node_of n) ≡ true). ⊎_elim
      (λ (from : GoesFrom before n now).
      let within = holds.reached n now.node.recovery.epoch from.host old from.there in
      ⊎_elim
      (λ (on : (from.host.is_lost ≡ false) × RecoveryGoes from.host.node now.node). ⊎_elim
      (λ (same : (now.node.recovery.epoch ≡ from.host.node.recovery.epoch) × (from.host.node.recovered ≡ true → now.node.recovered ≡ true)).
      same.1 (holds.put n from.host from.there on.0
      (ap (λ (k : ℕ). has_finished before.world.hosts before.world.log k (node_of n)) (sym same.0) ∙ old)))
      (λ (later : from.host.node.peer.epoch < now.node.recovery.epoch). absurd (omega (arith, later, within)))
      on.1)
      (λ (later : from.host.node.peer.epoch < now.node.recovery.epoch). absurd (omega (arith, later, within)))
      from.goes)
      (λ (none : is_some (tree.get before.world.hosts n) ≡ false). let seat = holds.there n now.node.recovery.epoch old in absurd
      (cc (seat, none))) (goes n now there up))
      (λ (ends : Ends n now.node.recovery.epoch).
      let same : ends.host ≡ now = same_Some ends.host now (sym ends.there ∙ there) in
      ap (λ (h : Host). h.node.recovered) (sym same) ∙ ends.put)
      (finished n now.node.recovery.epoch done)

  pub came_after : TheFinishedCame after.world.log after.world.hosts
  came_after = record {
    later = λ n epoch done. ⊎_elim
        (λ (old : has_finished before.world.hosts before.world.log epoch (node_of n) ≡ true). holds.later n epoch old)
        (λ (ends : Ends n epoch). ends.later) (finished n epoch done);
    begun = λ n epoch done. ⊎_elim
        (λ (old : has_finished before.world.hosts before.world.log epoch (node_of n) ≡ true).
        let within = holds.begun n epoch old in
        let more = epochs_grow before.world.log after.world.log grows in
        omega (arith, within, more))
        (λ (ends : Ends n epoch). (ends_within n epoch ends).1) (finished n epoch done);
    there = λ n epoch done. ⊎_elim
        (λ (old : has_finished before.world.hosts before.world.log epoch (node_of n) ≡ true).
        there_still n (tree.get before.world.hosts n) refl (holds.there n epoch old))
        (λ (ends : Ends n epoch). ap (λ (o : Option Host). is_some o) ends.there) (finished n epoch done);
    reached = λ n epoch now done there. ⊎_elim
        (λ (old : has_finished before.world.hosts before.world.log epoch (node_of n) ≡ true).
        let (host, was) = was_there n (holds.there n epoch old) in
        let (later, at, more) = rises n host was in
        let same : later ≡ now = same_Some later now (sym at ∙ there) in
        let within = holds.reached n epoch host old was in
        let rise : host.node.peer.epoch ≤ now.node.peer.epoch = subst (λ (h : Host). host.node.peer.epoch ≤ h.node.peer.epoch) same more in
        omega (arith, within, rise))
        (λ (ends : Ends n epoch).
        let same : ends.host ≡ now = same_Some ends.host now (sym ends.there ∙ there) in
        subst (λ (h : Host). epoch ≤ h.node.peer.epoch) same (ends_within n epoch ends).0)
        (finished n epoch done);
    members = λ n epoch other done member. ⊎_elim
        (λ (old : has_finished before.world.hosts before.world.log epoch (node_of n) ≡ true).
        still_reached before.world.hosts after.world.hosts rises epoch other
        (holds.members n epoch other old
        (ap (is_member other.0) (sym (same_members before.world.log after.world.log grows some epoch (holds.begun n epoch old))) ∙ member)))
        (λ (ends : Ends n epoch). ends_members n epoch ends other member)
        (finished n epoch done);
    put = stays_put;
  }

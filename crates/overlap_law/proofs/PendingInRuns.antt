-- In every world of a run in range what is pending at a node is of its own epoch, by a finished list, and the node is a target of it: a
-- node that recovers stays a member, until it is lost.
use Rattle.std.proofs.Common.{◌≡◌, arith, ℕ, suc, ◌+◌, ◌≤◌, ◌<◌, true, List, [], ◌∷◌, ◌++◌, filter, length, Option, Some, None, option_map}
use Rattle.std.proofs.Common.{refl, sym, ap, subst, ◌∙◌}
use Rattle.std.specs.FinMap as tree
use Rattle.std.proofs.lemmas.Option.{same_Some}
use Rattle.object_id.specs.declared.entry.Entry.{Entry}
use Rattle.epoch_log.specs.Members as members
use Rattle.epoch_log.specs.Epochs.{begins_epoch, epoch_of, members_in}
use Rattle.epoch_log.proofs.EpochLemmas.{epoch_of-append, members_in-append}
use Rattle.cluster_script.specs.declared.statement.Statement.{Statement}
use Rattle.cluster_script.specs.Settings.{tries_of}
use Rattle.sheep_node.specs.declared.input.Input.TheVariants as inputs
use Rattle.sheep_node.specs.State as nodes
use Rattle.sheep_node.specs.LogReading.{epoch_members, is_epoch_member, node_with_entry, entry_read}
use Rattle.sheep_node.specs.StepFacts.{IsByTheLog}
use Rattle.sheep_node.proofs.LogLaws.{epoch_more, reads_follow}
use Rattle.sheep_node.proofs.PeerLog.{entries_reading}
use Rattle.sheep_world.specs.World.{Host, World, is_host_up}
use Rattle.sheep_world.specs.Opening.{format_entry, initial_world}
use Rattle.sheep_world.specs.MembershipChanges.{join_of, last_weight}
use Rattle.sheep_world.specs.NodeCauses.{NodeCause, GuestAsks, RequestComes, ReplyComes, LossIsTold, EntryIsRead, EntryIsPut, RecoveryTicks}
use Rattle.sheep_world.specs.NodeCauses.{WorkIsRetried, ClientAsks, input_of_cause, IsCause}
use Rattle.sheep_world.specs.EventKinds.{log_after_return}
use Rattle.sheep_world.specs.HostChanges.{HostsKeep}
use Rattle.sheep_world.specs.Run as runs
use Rattle.sheep_world.specs.Began.{Began}
use Rattle.sheep_world.proofs.BegunWorlds.{each_where}
use Rattle.sheep_world.proofs.LogFrontLaws.{all_read, read_one}
use Rattle.sheep_world.proofs.NextEntries.{reads-may}
use Rattle.sheep_world.proofs.NodesByTheLog.{by_the_log}
use Rattle.sheep_world.specs.RunsWithAsks.{Move}
use Rattle.overlap_law.specs.Past.{MomentWithPast, no_past, run_with_past, without_past}
use Rattle.overlap_law.specs.MomentChanges.{RunsAreInRange, Still}
use Rattle.overlap_law.specs.NodeEpochs.{TheUpHaveStayed}
use Rattle.overlap_law.proofs.AnswersInMoments.{not_lost}
use Rattle.overlap_law.proofs.PendingOfNodes.{KnowsPending, opening_pending, MayKnow, step_pending}
use Rattle.overlap_law.proofs.ReadInMoments.{IsSoundHost, recovery_own, sound_hosts}
use Rattle.overlap_law.proofs.RecoveryMembers.{newest_then}
use Rattle.overlap_law.proofs.RunLemmas.{past-follows}
use Rattle.overlap_law.proofs.TermsInRuns.{stayed-on_the_way}

-- a world that a run reaches has a past
pub record HasPast (script : List Statement) (world : World) : Type 0 where
  pub events : List Move
  pub moment : MomentWithPast
  pub is : run_with_past script events ≡ Some moment
  pub world_so : moment.world ≡ world

pub has_past : (script : List Statement) (world : World) → Began script world → HasPast script world
has_past script world began =
    by_moment (run_with_past script began.moves) refl (past-follows script began.moves ∙ began.runs)
  where
    by_moment : (o : Option MomentWithPast) → run_with_past script began.moves ≡ o → option_map without_past o ≡ Some began.moment
        → HasPast script world
    by_moment None is same = absurd (cc (same))
    by_moment (Some moment) is same = record {
      events = began.moves;
      moment = moment;
      is = is;
      world_so = ap (λ (m : runs.Moment). m.world) (same_Some (without_past moment) began.moment same) ∙ began.world_so;
    }

module _ (script : List Statement) (range : RunsAreInRange script) where
  stayed_in : (world : World) → Began script world → TheUpHaveStayed world.log world.hosts
  stayed_in world began =
      let past = has_past script world began in
      subst (λ (w : World). TheUpHaveStayed w.log w.hosts) past.world_so
      (stayed-on_the_way script range past.events past.moment past.moment past.is Still)

  pub some_epoch : (world : World) → Began script world → (n : ℕ) (host : Host) → tree.get world.hosts n ≡ Some host
      → 1 ≤ host.node.peer.epoch
  some_epoch world began n host there =
      let at : host.node.peer.epoch ≡ length (filter begins_epoch host.node.peer.entries) + 1
      = (by_the_log script range.is_script range.room world began n host there).epoch_so in
      omega (arith, at)

  -- who recovers an epoch is a member of the next one that it reads of
  stays_member : (world : World) → Began script world → (n : ℕ) (host : Host) → tree.get world.hosts n ≡ Some host
      → is_host_up host ≡ true → KnowsPending host.node → (entry : Entry)
      → IsCause script world n host (EntryIsRead entry) → begins_epoch entry ≡ true → 1 < host.node.recovery.epoch
      → is_epoch_member (node_with_entry entry host.node) ≡ true
  stays_member world began n host there up knows entry next begins later =
      let entries : List Entry = host.node.peer.entries in
      let sound : IsSoundHost world.log n host
      = (sound_hosts script range (record { world = world; past = no_past }) began).each n host there in
      let before : IsByTheLog host.node = by_the_log script range.is_script range.room world began n host there in
      let after : IsByTheLog (entry_read entry host.node)
      = reads_follow entry host.node (reads-may script range.is_script range.room world began n host entry there next) before in
      let read : List Entry = (entry_read entry host.node).peer.entries in
      let k : ℕ = (entry_read entry host.node).peer.epoch in
      let reads : read ≡ entries ++ entry ∷ [] = entries_reading entry host.node in
      let front = read_one entries world.log entry next (all_read script world began n host there) in
      let log_so : world.log ≡ read ++ front.rest = front.is ∙ ap (λ (all : List Entry). all ++ front.rest) (sym reads) in
      let newest : epoch_members (node_with_entry entry host.node) ≡ members_in read k
      = newest_then entry host.node before after sound.sound.recovers in
      let some : 1 ≤ length read = subst (λ (all : List Entry). 1 ≤ length all) (sym reads) (one_more entries entry) in
      let epoch_so : k ≡ epoch_of read = after.epoch_so in
      let same : members_in world.log k ≡ members_in read k
      = ap (λ (all : List Entry). members_in all k) log_so
      ∙ members_in-append read front.rest k some (omega (arith, epoch_so)) in
      let own : host.node.recovery.epoch ≡ host.node.peer.epoch = knows.own later in
      let was : members.is_member n (members_in world.log host.node.peer.epoch) ≡ true
      = ap (λ (epoch : ℕ). members.is_member n (members_in world.log epoch)) (sym own) ∙ recovery_own world.log n host sound later in
      let old : host.node.peer.epoch ≡ epoch_of entries = before.epoch_so in
      let grown : epoch_of read ≡ suc (epoch_of entries) = ap epoch_of reads ∙ epoch_more entries entry begins in
      let whole : epoch_of world.log ≡ epoch_of read + length (filter begins_epoch front.rest)
      = ap epoch_of log_so ∙ epoch_of-append read front.rest in
      let now : members.is_member n (members_in world.log k) ≡ true
      = (stayed_in world began).each n host there (not_lost host up) host.node.peer.epoch k was (omega arith)
      (omega (arith, epoch_so, old, grown)) (omega (arith, epoch_so, whole)) in
      ap (members.is_member host.node.me.0) (newest ∙ sym same)
      ∙ ap (λ (number : ℕ). members.is_member number (members_in world.log k)) sound.read.own ∙ now
    where
      one_more : (entries : List Entry) (entry : Entry) → 1 ≤ length (entries ++ entry ∷ [])
      one_more [] entry = omega arith
      one_more (first ∷ later) entry = omega arith

  may_know : (world : World) → Began script world → (n : ℕ) (host : Host) → tree.get world.hosts n ≡ Some host
      → is_host_up host ≡ true → KnowsPending host.node → (cause : NodeCause) → IsCause script world n host cause
      → MayKnow (input_of_cause cause) host.node
  may_know world began n host there up knows (GuestAsks session req ask) so = tt
  may_know world began n host there up knows (RequestComes name to request) so = tt
  may_know world began n host there up knows (ReplyComes name from rsp) so = tt
  may_know world began n host there up knows (LossIsTold name packet) so = tt
  may_know world began n host there up knows (EntryIsRead entry) so = stays_member world began n host there up knows entry so
  may_know world began n host there up knows (EntryIsPut entry) so = tt
  may_know world began n host there up knows RecoveryTicks so = so
  may_know world began n host there up knows WorkIsRetried so = tt
  may_know world began n host there up knows (ClientAsks req ask) so = tt

  back_above : (world : World) (n : ℕ) → 1 < epoch_of (log_after_return script n world)
  back_above world n =
      let more : epoch_of (log_after_return script n world) ≡ suc (epoch_of world.log)
      = epoch_more world.log (join_of script n (last_weight world.log n)) refl in
      omega (arith, more)

  one : 1 ≤ 1
  one = omega arith

  pending_kept : HostsKeep script (Began script) (λ (world : World) (n : ℕ) (host : Host). KnowsPending host.node)
  unfolding initial_world
  pending_kept = record {
    opens = λ member.
        step_pending (nodes.initial_node member.node (tries_of script)) (opening_pending member.node (tries_of script)) one
        (inputs.LogEntry (format_entry script)) (λ begins. absurd (cc (begins)));
    stays = λ event world made h began n host knows. knows;
    steps = λ world n host cause began there up caused knows.
        step_pending host.node knows (some_epoch world began n host there) (input_of_cause cause)
        (may_know world began n host there up knows cause caused);
    fails = λ world n host began knows. knows;
    returns = λ world n host began there knows.
        step_pending host.node knows (some_epoch world began n host there) (inputs.Back (log_after_return script n world))
        (back_above world n);
    joins = λ world n began control. opening_pending (record { 0 = n }) (tries_of script);
  }

  pub knows_pending : (world : World) → Began script world → (n : ℕ) (host : Host) → tree.get world.hosts n ≡ Some host
      → KnowsPending host.node
  knows_pending =
      each_where script (Began script) (λ (world : World) (n : ℕ) (host : Host). KnowsPending host.node) (λ world began. began)
      pending_kept

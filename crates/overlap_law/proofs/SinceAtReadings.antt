-- The moment at which a node has read an entry: each row of each node has what it owes still.
use Rattle.std.proofs.Common.{◌≡◌, ◌≢◌, inr, ⊎_elim, arith, ℕ, suc, ◌+◌, ◌≤◌, ◌||◌, ◌∷◌, [], ◌++◌, nat_le, Bool, true, false, List}
use Rattle.std.proofs.Common.{slice_get, Option, Some, refl, sym, ap, subst, ◌∙◌}
use Rattle.std.specs.List.{AllByRecursion}
use Rattle.std.specs.Option.{option_map_or}
use Rattle.std.specs.FinMap as tree
use Rattle.std.proofs.lemmas.Bool.{cases_eq, le-leb, leb-true, or_right}
use Rattle.std.proofs.lemmas.Option.{same_Some}
use Rattle.proof_tools.proofs.FiniteMaps.{get-insert_same, get-insert_other, get-insert_cases}
use Rattle.object_id.specs.declared.entry.Entry.{Entry}
use Rattle.object_id.specs.declared.node.NodeId.{NodeId}
use Rattle.object_id.specs.declared.policy.Policy.{Policy}
use Rattle.object_id.specs.Oid.{kind_of}
use Rattle.object_store.specs.Store.{SeenRow, rows_of}
use Rattle.epoch_log.specs.Epochs.{begins_epoch, epoch_of}
use Rattle.gf256.specs.Part.{is_in_strips}
use Rattle.cluster_script.specs.declared.statement.Statement.{Statement}
use Rattle.peer_service.specs.State.{Peer}
use Rattle.vdi_directory.specs.Decisions.{log_effects}
use Rattle.sheep_node.specs.declared.input.Input.TheVariants as inputs
use Rattle.sheep_node.specs.Step.{node_step}
use Rattle.sheep_node.proofs.LogLaws.{epoch_more}
use Rattle.sheep_node.proofs.StepResults.{step_peer, step_reads}
use Rattle.sheep_world.specs.World.{Host}
use Rattle.sheep_world.specs.NodeCauses.{EntryIsRead, host_with_node}
use Rattle.sheep_world.specs.Began.{Began}
use Rattle.overlap_law.specs.Attempts.{AttemptRecord, attempts_on}
use Rattle.overlap_law.specs.Words.{has_served}
use Rattle.overlap_law.specs.Reached.{has_come_in, is_beyond}
use Rattle.overlap_law.specs.Each.{end_of_row, policy_in}
use Rattle.overlap_law.specs.Holders.{targets_by}
use Rattle.overlap_law.specs.Past.{MomentWithPast}
use Rattle.overlap_law.specs.Rows.{RowsAreAtTargets}
use Rattle.overlap_law.specs.ShapedAttempts.{AreShaped}
use Rattle.overlap_law.specs.TiedAttempts.{IsTied}
use Rattle.overlap_law.specs.Since.{reading_of, IsSince, RowsAreSince}
use Rattle.overlap_law.specs.StepMoments.{SteppingNode, IsStepping, first_in_step, moment_in_step}
use Rattle.overlap_law.specs.MomentChanges as moments
use Rattle.overlap_law.specs.MomentChanges.{RunsAreInRange}
use Rattle.overlap_law.proofs.AttemptsInSteps.{attempts-at_first}
use Rattle.overlap_law.proofs.EachRowKept.{step-each_row}
use Rattle.overlap_law.proofs.RowKeeping.{PeerRowsSo}
use Rattle.overlap_law.proofs.EpochsRise.{epochs_rise}
use Rattle.overlap_law.proofs.FateLemmas.{doomed-grows}
use Rattle.overlap_law.proofs.GrownAttempts.{goes_on-same, goes_on-grows}
use Rattle.overlap_law.proofs.OwedAttempts.{owed-later}
use Rattle.overlap_law.proofs.ReadingLaws.{readings}
use Rattle.overlap_law.proofs.ReadInMoments.{HostsAreSound}
use Rattle.overlap_law.proofs.RowLists.{all_at, all_from}
use Rattle.overlap_law.proofs.RowsInTurn.{within_at}
use Rattle.overlap_law.proofs.SinceAtEntries.{RowOwes, Anything, since_kept}
use Rattle.overlap_law.proofs.StayingRows.{StandInTurn}

module _ (script : List Statement) (range : RunsAreInRange script) (start : MomentWithPast) (began : Began script start.world) (n : ℕ)
    (host : Host) (entry : Entry)
    (is : IsStepping script start.world (record { n = n; host = host; cause = EntryIsRead entry })) where
  abbrev stepping : SteppingNode
  stepping = record { n = n; host = host; cause = EntryIsRead entry }

  abbrev after : MomentWithPast
  after = moment_in_step script stepping start (first_in_step stepping)

  abbrev now : Host
  now = host_with_node host (first_in_step stepping).node

  abbrev attempts : List AttemptRecord
  attempts = start.past.attempts

  same_attempts : after.past.attempts ≡ attempts
  same_attempts = attempts-at_first script start stepping is tt

  peer_so : (node_step (inputs.LogEntry entry) host.node).node.peer ≡ now.node.peer
  peer_so = step_peer (inputs.LogEntry entry) host.node

  now_there : tree.get after.world.hosts n ≡ Some now
  now_there = get-insert_same start.world.hosts n now

  rises : host.node.peer.epoch ≤ now.node.peer.epoch
  rises =
      let (later, there, more) = epochs_rise script range start began (moments.StepBegins stepping is tt) n host is.there in
      let same : later ≡ now = same_Some later now (sym there ∙ now_there) in
      subst (λ (h : Host). host.node.peer.epoch ≤ h.node.peer.epoch) same more

  abbrev come : ℕ → Option Host → Bool
  come epoch o = option_map_or (has_come_in (epoch + 1)) o true

  -- who is beyond an epoch is so still
  beyond_still : (epoch : ℕ) (node : NodeId) → is_beyond start.world.hosts epoch node ≡ true → is_beyond after.world.hosts epoch node ≡ true
  beyond_still epoch node beyond = ⊎_elim
      (λ (own : node.0 ≡ n).
      let was : come epoch (Some host) ≡ true
      = sym (ap (come epoch) (ap (tree.get start.world.hosts) own ∙ is.there)) ∙ beyond in
      ap (come epoch) (ap (tree.get after.world.hosts) own ∙ now_there) ∙ by_lost host.is_lost was)
      (λ (other : node.0 ≢ n). ap (come epoch) (get-insert_other start.world.hosts n now node.0 other) ∙ beyond)
      (cases_eq node.0 n)
    where
      by_lost : (b : Bool) → (b || nat_le (epoch + 1) host.node.peer.epoch) ≡ true → (b || nat_le (epoch + 1) now.node.peer.epoch) ≡ true
      by_lost true came = refl
      by_lost false came =
          let low = leb-true (epoch + 1) host.node.peer.epoch came in
          let more = rises in
          le-leb (epoch + 1) now.node.peer.epoch (omega (arith, low, more))

  module _ (good : ℕ → Bool) (shaped : AreShaped start) (tied : IsTied start) (turns : StandInTurn start.world.hosts)
      (sound : HostsAreSound start) (sound_after : HostsAreSound after)
      (placed : RowsAreAtTargets (targets_by start.world.log) (log_effects start.world.log) start.world.hosts)
      (since : RowsAreSince (log_effects start.world.log) good start.world.hosts attempts) where
    abbrev known : ℕ → Option Policy
    known oid = policy_in (log_effects start.world.log) oid

    -- a row has what it owes by the hosts then
    still : (k : ℕ) (policy : Policy) (oid index end : ℕ) (bytes : List ℕ)
        → IsSince policy oid start.world.hosts attempts (record { 0 = k }) index end end bytes
        → IsSince policy oid after.world.hosts attempts (record { 0 = k }) index end end bytes
    still k policy oid index end bytes had =
        owed-later (reading_of policy oid) (readings (is_in_strips policy (kind_of oid))) policy (kind_of oid) start.world.hosts
        after.world.hosts (attempts_on oid attempts) (attempts_on oid attempts)
        (goes_on-grows (attempts_on oid attempts) (attempts_on oid attempts) (goes_on-same (attempts_on oid attempts)))
        (record { 0 = k }) index end end end end bytes had
        (λ j attempt there owed. inr (record {
          was = attempt;
          there = there;
          work = refl;
          owed = owed;
          doomed = λ doomed. doomed-grows start.world.hosts after.world.hosts attempt (beyond_still attempt.epoch) doomed;
        }))

    -- the node is beyond the epoch that it was in, if the entry begins one
    left_behind : begins_epoch entry ≡ true → is_beyond after.world.hosts host.node.peer.epoch (record { 0 = n }) ≡ true
    left_behind begins =
        let was : host.node.peer.epoch ≡ epoch_of host.node.peer.entries = (sound.each n host is.there).read.epoch_so in
        let read : now.node.peer.entries ≡ host.node.peer.entries ++ entry ∷ []
        = ap (λ (peer : Peer). peer.entries) (sym peer_so) ∙ step_reads (inputs.LogEntry entry) host.node in
        let at : now.node.peer.epoch ≡ suc (epoch_of host.node.peer.entries)
        = (sound_after.each n now now_there).read.epoch_so ∙ ap epoch_of read ∙ epoch_more host.node.peer.entries entry begins in
        ap (come host.node.peer.epoch) now_there
        ∙ or_right host.is_lost (nat_le (host.node.peer.epoch + 1) now.node.peer.epoch)
        (le-leb (host.node.peer.epoch + 1) now.node.peer.epoch (omega (arith, was, at)))

    some_epoch : 1 ≤ host.node.peer.epoch
    some_epoch =
        let least = (sound.each n host is.there).sound.recovers.begun in
        let entered = (sound.each n host is.there).sound.recovers.entered in
        omega (arith, least, entered)

    came : (j : ℕ) (attempt : AttemptRecord) → slice_get attempts j ≡ Some attempt → has_served (record { 0 = n }) attempt ≡ true
        → attempt.epoch ≤ host.node.peer.epoch
    came j attempt there served =
        leb-true attempt.epoch host.node.peer.epoch
        (sym (ap (λ (o : Option Host). nat_le attempt.epoch (option_map_or (λ (h : Host). h.node.peer.epoch) o 0)) is.there)
        ∙ tied.reached.each j attempt there (record { 0 = n }) served)

    abbrev Owes : ℕ → ℕ → SeenRow → Type 0
    Owes = RowOwes (targets_by start.world.log) good known after.world.hosts attempts host.node n some_epoch shaped.shape.targets
        shaped.shape.policy tied.fates.whole came

    were : (oid : ℕ) → AllByRecursion (Owes host.node.peer.epoch oid) (rows_of host.node.peer.rows oid)
    were oid = all_from (Owes host.node.peer.epoch oid) (rows_of host.node.peer.rows oid)
        (λ i row got policy is_good own. record {
          order = (within_at host.node.peer.epoch (rows_of host.node.peer.rows oid) i row got (turns n host is.there oid)).0;
          placed = λ same covers. placed.each n host is.there oid i row got policy host.node.peer.epoch own covers;
          has = still n policy oid row.index (end_of_row host.node.peer.epoch row.to) row.bytes
              (since.each n host is.there oid i row got policy is_good own);
        })

    read_rows : PeerRowsSo
        (Anything (targets_by start.world.log) good known after.world.hosts attempts host.node n some_epoch shaped.shape.targets
        shaped.shape.policy tied.fates.whole came) Owes host.node (node_step (inputs.LogEntry entry) host.node).node.peer
    read_rows =
        step-each_row
        (Anything (targets_by start.world.log) good known after.world.hosts attempts host.node n some_epoch shaped.shape.targets
        shaped.shape.policy tied.fates.whole came) Owes host.node (inputs.LogEntry entry)
        (since_kept (targets_by start.world.log) good known after.world.hosts attempts host.node n some_epoch shaped.shape.targets
        shaped.shape.policy tied.fates.whole came entry left_behind) were

    one : (k : ℕ) (found : Host) → tree.get after.world.hosts k ≡ Some found → (oid i : ℕ) (row : SeenRow)
        → slice_get (rows_of found.node.peer.rows oid) i ≡ Some row → (policy : Policy) → good oid ≡ true → known oid ≡ Some policy
        → IsSince policy oid after.world.hosts attempts (record { 0 = k }) row.index (end_of_row found.node.peer.epoch row.to)
        (end_of_row found.node.peer.epoch row.to) row.bytes
    one k found there oid i row got policy is_good own = ⊎_elim
        (λ (here : (k ≡ n) × (now ≡ found)).
        let all : AllByRecursion (Owes now.node.peer.epoch oid) (rows_of now.node.peer.rows oid)
        = subst (λ (peer : Peer). AllByRecursion (Owes peer.epoch oid) (rows_of peer.rows oid)) peer_so (read_rows oid) in
        let at = all_at (Owes now.node.peer.epoch oid) (rows_of now.node.peer.rows oid) i row
        (ap (λ (h : Host). slice_get (rows_of h.node.peer.rows oid) i) here.1 ∙ got) all policy is_good own in
        subst (λ (q : ℕ). IsSince policy oid after.world.hosts attempts (record { 0 = q }) row.index
        (end_of_row found.node.peer.epoch row.to)
        (end_of_row found.node.peer.epoch row.to) row.bytes) (sym here.0)
        (subst (λ (h : Host). IsSince policy oid after.world.hosts attempts (record { 0 = n }) row.index
        (end_of_row h.node.peer.epoch row.to)
        (end_of_row h.node.peer.epoch row.to) row.bytes) here.1 at.has))
        (λ (other : (k ≢ n) × (tree.get start.world.hosts k ≡ Some found)).
        still k policy oid row.index (end_of_row found.node.peer.epoch row.to) row.bytes
        (since.each k found other.1 oid i row got policy is_good own))
        (get-insert_cases start.world.hosts n now k found there)

    pub since_after : RowsAreSince (log_effects after.world.log) good after.world.hosts after.past.attempts
    since_after =
        subst (λ (all : List AttemptRecord). RowsAreSince (log_effects after.world.log) good after.world.hosts all) (sym same_attempts)
        (record { each = λ k found there oid i row got policy is_good own. one k found there oid i row got policy is_good own })

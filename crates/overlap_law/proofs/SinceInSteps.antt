-- A node's step that goes on keeps that each row has what it owes: an attempt that begins is owed by no row, or is doomed.
use Rattle.std.proofs.Common.{◌≡◌, ◌≢◌, ◌⊎◌, inl, inr, ⊎_elim, arith, ℕ, zero, suc, ◌+◌, ◌≤◌, ◌<◌, ◌==◌, not, nat_le, nat_lt, Bool, true}
use Rattle.std.proofs.Common.{false, ◌||◌, ◌&&◌, List, [], ◌∷◌, ◌++◌, length, slice_get, Option, Some, None, is_some, refl, sym, ap, subst}
use Rattle.std.proofs.Common.{◌∙◌}
use Rattle.std.specs.List.{list_any}
use Rattle.std.specs.Option.{option_map_or}
use Rattle.std.specs.FinMap as tree
use Rattle.std.proofs.lemmas.Bool.{cases_eq, eqb-true, ltb-true}
use Rattle.std.proofs.lemmas.List.Elements.{filter-append}
use Rattle.std.proofs.lemmas.Option.{slice_get_within}
use Rattle.proof_tools.proofs.FiniteMaps.{get-insert_same, get-insert_other, get-insert_cases}
use Rattle.object_id.specs.declared.entry.Entry.{Entry}
use Rattle.object_id.specs.declared.node.Epoch.{Epoch}
use Rattle.object_id.specs.declared.node.NodeId.{NodeId}
use Rattle.object_id.specs.declared.policy.Policy.{Policy}
use Rattle.object_id.specs.Oid.{kind_of}
use Rattle.object_store.specs.Rows.{is_open}
use Rattle.object_store.specs.Store.{SeenRow, rows_of}
use Rattle.epoch_log.specs.Epochs.{epoch_of}
use Rattle.gf256.specs.Part.{is_in_strips}
use Rattle.cluster_script.specs.declared.statement.Statement.{Statement}
use Rattle.gateway.specs.declared.message.Message.{Message}
use Rattle.peer_service.specs.State.{Peer}
use Rattle.vdi_directory.specs.Decisions.{log_effects}
use Rattle.sheep_node.specs.Changes as changes
use Rattle.sheep_node.specs.StepState.{StepState}
use Rattle.sheep_world.specs.World.{Host}
use Rattle.sheep_world.specs.NodeCauses.{host_with_node}
use Rattle.sheep_world.specs.Began.{Began}
use Rattle.overlap_law.specs.Attempts.{AttemptRecord, MessageFate, Flying, Served, Doomed, fate_of_say, object_of, attempts_on}
use Rattle.overlap_law.specs.Words.{is_served, has_served, is_doomed}
use Rattle.overlap_law.specs.Reached.{Hosts, has_come_in, is_beyond}
use Rattle.overlap_law.specs.Each.{end_of_row, policy_in}
use Rattle.overlap_law.specs.Fates.{AttemptsAreOrdered}
use Rattle.overlap_law.specs.Holders.{targets_by}
use Rattle.overlap_law.specs.Packets.{Wire}
use Rattle.overlap_law.specs.Past.{MomentWithPast}
use Rattle.overlap_law.specs.Rows.{RowsHaveEnds, RowsAreAtTargets, RowsAreBegun}
use Rattle.overlap_law.specs.ShapedAttempts.{AreShaped}
use Rattle.overlap_law.specs.TiedAttempts.{IsTied}
use Rattle.overlap_law.specs.Since.{reading_of, owes_attempt, HasWhatItOwes, RowsAreSince}
use Rattle.overlap_law.specs.StepMoments.{SteppingNode, IsStepping, StepsByChanges, moment_in_step, IsWithinStep, attempts_of_change}
use Rattle.overlap_law.specs.MomentChanges as moments
use Rattle.overlap_law.specs.MomentChanges.{RunsAreInRange}
use Rattle.overlap_law.specs.Traffic as kinds
use Rattle.overlap_law.specs.Traffic.{IsBegunBy, Traffic, OpenAttemptsHaveMessages}
use Rattle.overlap_law.proofs.AttemptLists.{got_more, map_got}
use Rattle.overlap_law.proofs.AttemptsInSteps.{attempts-grow}
use Rattle.overlap_law.proofs.EpochsRise.{same_so_far}
use Rattle.overlap_law.proofs.FateLemmas.{doomed-grows}
use Rattle.overlap_law.proofs.GrownAttempts.{GoOn, goes_on-more, grows-object}
use Rattle.overlap_law.proofs.KnownFatesLater.{WasMarked, marked_was, lost_was}
use Rattle.overlap_law.proofs.KnownSteps.{known_step}
use Rattle.overlap_law.proofs.OverlapLemmas.{filter-passed}
use Rattle.overlap_law.proofs.OwedAttempts.{WasOwed, owed-later}
use Rattle.overlap_law.proofs.OwedBeyond.{mute_is_doomed, none_served}
use Rattle.overlap_law.proofs.ReadingLaws.{readings}
use Rattle.overlap_law.proofs.ReadInMoments.{HostsAreSound, epoch_within}
use Rattle.overlap_law.proofs.RowsInTurn.{within_at}
use Rattle.overlap_law.proofs.StayingRows.{StandInTurn}
use Rattle.overlap_law.proofs.StoodNodes.{TheUpHaveStood, are_beyond}
use Rattle.overlap_law.proofs.TrafficAttempts.{HasBegun}
use Rattle.overlap_law.proofs.TrafficOfChanges.{traffic}

-- ---- lists

got_front : (xs ys : List AttemptRecord) (j : ℕ) (x : AttemptRecord) → slice_get (xs ++ ys) j ≡ Some x
    → (slice_get xs j ≡ Some x) ⊎ ((i : ℕ) × (slice_get ys i ≡ Some x))
got_front [] ys j x got = inr (j, got)
got_front (first ∷ xs) ys zero x got = inl got
got_front (first ∷ xs) ys (suc j) x got = got_front xs ys j x got

got_behind : (xs ys : List AttemptRecord) (i : ℕ) (x : AttemptRecord) → slice_get ys i ≡ Some x
    → slice_get (xs ++ ys) (length xs + i) ≡ Some x
got_behind [] ys i x got = subst (λ (k : ℕ). slice_get ys k ≡ Some x) (let same : i ≡ 0 + i = omega arith in same) got
got_behind (first ∷ xs) ys i x got =
    subst (λ (k : ℕ). slice_get (first ∷ (xs ++ ys)) k ≡ Some x)
    (let next : suc (length xs + i) ≡ suc (length xs) + i = omega arith in next) (got_behind xs ys i x got)

-- what flies isn't served
pub flying_mute : (fates : List MessageFate) → ((place : ℕ) (fate : MessageFate) → slice_get fates place ≡ Some fate → fate ≡ Flying)
    → not (list_any is_served fates) ≡ true
flying_mute [] fly = refl
flying_mute (Flying ∷ fates) fly = flying_mute fates (λ place fate got. fly (suc place) fate got)
flying_mute (Served ∷ fates) fly = let is = fly 0 Served refl in absurd (cc (is))
flying_mute (Doomed ∷ fates) fly = let is = fly 0 Doomed refl in absurd (cc (is))

-- ---- an attempt that is there then was there, or is the last

module _ (hosts hosts_after : Hosts) (wire : Wire) (attempts : List AttemptRecord) where
  -- one was there of this number, or it begins behind the others
  abbrev WasThere : ℕ → AttemptRecord → Type 0
  WasThere j now = (j < length attempts) ⊎ ((j ≡ length attempts) × HasBegun hosts hosts_after now)

  was : (j : ℕ) (now : AttemptRecord) → WasMarked attempts j now → WasThere j now
  was j now marked = inl (slice_get_within attempts j marked.was marked.at)

  pub there_or_last : {later : Wire} {after : List AttemptRecord} → (t : Traffic hosts hosts_after wire attempts later after) → (j : ℕ)
      (now : AttemptRecord) → slice_get after j ≡ Some now → WasThere j now
  there_or_last (kinds.AttemptBegins n sends new begun) j now got = ⊎_elim
      (λ (old : slice_get attempts j ≡ Some now). inl (slice_get_within attempts j now old))
      (λ (own : (j ≡ length attempts) × (new ≡ now)).
      inr (own.0, record { n = n; sends = sends; begun = subst (IsBegunBy hosts hosts_after n sends) own.1 begun }))
      (got_more attempts new j now got)
  there_or_last kinds.NothingMoves j now got = inl (slice_get_within attempts j now got)
  there_or_last (kinds.MessageIsLost name packet there) j now got = was j now (lost_was name packet attempts j now got)
  there_or_last (kinds.ReplyIsReceived name sender bytes there) j now got = inl (slice_get_within attempts j now got)
  there_or_last (kinds.RequestIsAnswered name to bytes up rsp there answer) j now got =
      was j now (marked_was (fate_of_say rsp.say) name.sender name.number attempts j now got)
  there_or_last (kinds.RequestsAreSent n sends by nothing) j now got = inl (slice_get_within attempts j now got)
  there_or_last (kinds.RepliesGo n) j now got = inl (slice_get_within attempts j now got)

-- an attempt that begins has a target
pub some_target : (hosts hosts_after : Hosts) → OpenAttemptsHaveMessages hosts_after → (attempt : AttemptRecord)
    → HasBegun hosts hosts_after attempt → 1 ≤ length attempt.targets
some_target hosts hosts_after have attempt new =
    let opened = new.begun.opened in
    let sent = new.begun.sent_by in
    let (message, got) = have.each new.n sent.after sent.there_after new.begun.up attempt.req new.begun.work new.begun.current
    opened.there
    opened.making opened.stage in
    let first : slice_get attempt.targets 0 ≡ Some message.node
    = ap (λ (nodes : List NodeId). slice_get nodes 0) opened.same.targets
    ∙ map_got (λ (one : Message). one.node) new.begun.current.messages 0 message got in
    slice_get_within attempt.targets 0 message.node first

-- ---- over a change of a step

module _ (script : List Statement) (range : RunsAreInRange script) (start : MomentWithPast) (began : Began script start.world)
    (stepping : SteppingNode) (is : IsStepping script start.world stepping) (by : StepsByChanges stepping.cause) (so_far next : StepState)
    (within : IsWithinStep stepping so_far next) where
  abbrev before : MomentWithPast
  before = moment_in_step script stepping start so_far

  abbrev after : MomentWithPast
  after = moment_in_step script stepping start next

  abbrev log : List Entry
  log = after.world.log

  abbrev more : List AttemptRecord
  more = attempts_of_change stepping.host so_far next within.change

  grew : after.past.attempts ≡ before.past.attempts ++ more
  grew =
      let known = known_step script range start.world began stepping is in
      attempts-grow script start stepping is known.sound known.given by so_far next within

  same_peer : so_far.node.peer ≡ next.node.peer
  same_peer =
      same_so_far script range start began stepping so_far within.leads
      ∙ sym (same_so_far script range start began stepping next (changes.Then within.leads within.change))

  -- a node has the peer that it had
  peer_was : (n : ℕ) (host : Host) → tree.get after.world.hosts n ≡ Some host
      → (old : Host) × (tree.get before.world.hosts n ≡ Some old) × (old.node.peer ≡ host.node.peer)
  peer_was n host there = ⊎_elim
      (λ (own : (n ≡ stepping.n) × (host_with_node stepping.host next.node ≡ host)). (
        host_with_node stepping.host so_far.node,
        ap (tree.get before.world.hosts) own.0
            ∙ get-insert_same start.world.hosts stepping.n (host_with_node stepping.host so_far.node),
        same_peer ∙ ap (λ (h : Host). h.node.peer) own.1,
      ))
      (λ (other : (n ≢ stepping.n) × (tree.get start.world.hosts n ≡ Some host)).
      (host, get-insert_other start.world.hosts stepping.n (host_with_node stepping.host so_far.node) n other.0 ∙ other.1, refl))
      (get-insert_cases start.world.hosts stepping.n (host_with_node stepping.host next.node) n host there)

  -- who was beyond an epoch is so still
  beyond_still : (epoch : ℕ) (node : NodeId) → is_beyond before.world.hosts epoch node ≡ true
      → is_beyond after.world.hosts epoch node ≡ true
  beyond_still epoch node beyond = ⊎_elim
      (λ (own : node.0 ≡ stepping.n).
      let was : tree.get before.world.hosts node.0 ≡ Some (host_with_node stepping.host so_far.node)
      = ap (tree.get before.world.hosts) own
      ∙ get-insert_same start.world.hosts stepping.n (host_with_node stepping.host so_far.node) in
      let now : tree.get after.world.hosts node.0 ≡ Some (host_with_node stepping.host next.node)
      = ap (tree.get after.world.hosts) own
      ∙ get-insert_same start.world.hosts stepping.n (host_with_node stepping.host next.node) in
      ap come now ∙ ap (λ (peer : Peer). stepping.host.is_lost || nat_le (epoch + 1) peer.epoch) (sym same_peer) ∙ sym (ap come was)
      ∙ beyond)
      (λ (other : node.0 ≢ stepping.n).
      ap come (get-insert_other start.world.hosts stepping.n (host_with_node stepping.host next.node) node.0 other)
      ∙ sym (ap come (get-insert_other start.world.hosts stepping.n (host_with_node stepping.host so_far.node) node.0 other)) ∙ beyond)
      (cases_eq node.0 stepping.n)
    where
      come : Option Host → Bool
      come o = option_map_or (has_come_in (epoch + 1)) o true

  module _ (live good : ℕ → Bool) (good_live : (oid : ℕ) → good oid ≡ true → live oid ≡ true) (shaped : AreShaped after)
      (tied : IsTied after)
      (stood : TheUpHaveStood log after.world.hosts) (sound : HostsAreSound after) (turns : StandInTurn after.world.hosts)
      (have : OpenAttemptsHaveMessages after.world.hosts) (ordered : AttemptsAreOrdered after.world.wire after.past.attempts)
      (placed : RowsAreAtTargets (targets_by log) (log_effects log) after.world.hosts)
      (begun : RowsAreBegun log live after.world.hosts after.past.attempts)
      (since : RowsAreSince (log_effects log) good before.world.hosts before.past.attempts) where
    ends : RowsHaveEnds after.world.hosts
    ends = record {
      order = λ n host there oid i row got.
          (within_at host.node.peer.epoch (rows_of host.node.peer.rows oid) i row got (turns n host there oid)).0;
      closed = λ n host there oid i row got up shut.
          (within_at host.node.peer.epoch (rows_of host.node.peer.rows oid) i row got (turns n host there oid)).1 shut;
    }

    -- a row begins in an epoch of the log
    row_within : (n : ℕ) (host : Host) → tree.get after.world.hosts n ≡ Some host → (oid i : ℕ) (row : SeenRow)
        → slice_get (rows_of host.node.peer.rows oid) i ≡ Some row → row.from.0 ≤ epoch_of log
    row_within n host there oid i row got =
        by_end row.to refl (within_at host.node.peer.epoch (rows_of host.node.peer.rows oid) i row got (turns n host there oid))
        (epoch_within log n host.node.me host.node.peer (sound.each n host there).read)
      where
        by_end : (to : Option Epoch) → row.to ≡ to
            → (row.from.0 ≤ end_of_row host.node.peer.epoch row.to) × (is_open row ≡ false → end_of_row 0 row.to < host.node.peer.epoch)
            → host.node.peer.epoch ≤ epoch_of log → row.from.0 ≤ epoch_of log
        by_end None at fits most =
            let end : end_of_row host.node.peer.epoch row.to ≡ host.node.peer.epoch = ap (end_of_row host.node.peer.epoch) at in
            let low = fits.0 in
            omega (arith, end, low, most)
        by_end (Some last) at fits most =
            let end : end_of_row host.node.peer.epoch row.to ≡ last.0 = ap (end_of_row host.node.peer.epoch) at in
            let shut : is_open row ≡ false = ap (λ (o : Option Epoch). not (is_some o)) at in
            let closed : end_of_row 0 row.to ≡ last.0 = ap (end_of_row 0) at in
            let low = fits.0 in
            let ended = fits.1 shut in
            omega (arith, end, closed, low, ended, most)

    -- it is doomed where a row of its object reaches beyond its epoch
    new_is_doomed : (j : ℕ) (attempt : AttemptRecord) → slice_get after.past.attempts j ≡ Some attempt → length before.past.attempts ≤ j
        → good (object_of attempt) ≡ true → (n : ℕ) (host : Host) → tree.get after.world.hosts n ≡ Some host → (i : ℕ) (row : SeenRow)
        → slice_get (rows_of host.node.peer.rows (object_of attempt)) i ≡ Some row → (served_to : ℕ)
        → owes_attempt (record { 0 = n }) (end_of_row host.node.peer.epoch row.to) served_to attempt ≡ true
        → is_doomed after.world.hosts attempt ≡ true
    new_is_doomed j attempt there behind is_good n host got i row at served_to owed =
        by_origin (there_or_last before.world.hosts after.world.hosts before.world.wire before.past.attempts way j attempt there)
      where
        way : kinds.TrafficBetween before after
        way = traffic script range start began (moments.StepGoesOn stepping so_far next is by within)

        last : (k : ℕ) (other : AttemptRecord) → slice_get after.past.attempts k ≡ Some other → k ≤ j
        last k other got_other = ⊎_elim
            (λ (old : k < length before.past.attempts). omega (arith, old, behind))
            (λ (own : (k ≡ length before.past.attempts) × HasBegun before.world.hosts after.world.hosts other).
            let at = own.0 in omega (arith, at, behind))
            (there_or_last before.world.hosts after.world.hosts before.world.wire before.past.attempts way k other got_other)

        by_origin : (j < length before.past.attempts)
            ⊎ ((j ≡ length before.past.attempts) × HasBegun before.world.hosts after.world.hosts attempt)
            → is_doomed after.world.hosts attempt ≡ true
        by_origin (inl old) = absurd (omega (arith, old, behind))
        by_origin (inr own) =
            let mute = flying_mute attempt.fates own.1.begun.flying in
            let unserved : has_served (record { 0 = n }) attempt ≡ false
            = none_served (record { 0 = n }) attempt.targets attempt.fates mute in
            let reaches : nat_lt attempt.epoch (end_of_row host.node.peer.epoch row.to) ≡ true
            = earlier (nat_lt attempt.epoch (end_of_row host.node.peer.epoch row.to)) (has_served (record { 0 = n }) attempt)
            (nat_le attempt.epoch served_to) unserved owed in
            mute_is_doomed log after.world.hosts after.past.attempts shaped.shape tied.fates.whole ends placed after.world.wire live ordered
            (are_beyond log after.world.hosts stood) begun stood.seated j attempt there
            (λ k other got_other same. last k other got_other) mute
            (some_target before.world.hosts after.world.hosts have attempt own.1)
            (good_live (object_of attempt) is_good) n host got i row at
            (row_within n host got (object_of attempt) i row at)
            (ltb-true attempt.epoch (end_of_row host.node.peer.epoch row.to) reaches)
          where
            earlier : (a b c : Bool) → b ≡ false → (a || (b && c)) ≡ true → a ≡ true
            earlier true b c none some = refl
            earlier false true c none some = absurd (cc (none))
            earlier false false c none some = absurd (cc (some))

    -- each row has what it owes still
    pub since_goes_on : RowsAreSince (log_effects log) good after.world.hosts after.past.attempts
    since_goes_on = record {
      each = λ n host there oid i row got policy is_good known.
          one n host there oid i row got policy is_good known (peer_was n host there);
    }
      where
        one : (n : ℕ) (host : Host) → tree.get after.world.hosts n ≡ Some host → (oid i : ℕ) (row : SeenRow)
            → slice_get (rows_of host.node.peer.rows oid) i ≡ Some row → (policy : Policy) → good oid ≡ true
            → policy_in (log_effects log) oid ≡ Some policy
            → (old : Host) × (tree.get before.world.hosts n ≡ Some old) × (old.node.peer ≡ host.node.peer)
            → HasWhatItOwes (reading_of policy oid) policy (kind_of oid) after.world.hosts
            (attempts_on oid after.past.attempts) (record { 0 = n }) row.index (end_of_row host.node.peer.epoch row.to)
            (end_of_row host.node.peer.epoch row.to) row.bytes
        one n host there oid i row got policy is_good known (old, old_there, same) =
            let end : ℕ = end_of_row host.node.peer.epoch row.to in
            let had_then = since.each n old old_there oid i row
            (ap (λ (peer : Peer). slice_get (rows_of peer.rows oid) i) same ∙ got) policy is_good known in
            let had = subst (λ (peer : Peer). HasWhatItOwes (reading_of policy oid) policy (kind_of oid) before.world.hosts
            (attempts_on oid before.past.attempts) (record { 0 = n }) row.index (end_of_row peer.epoch row.to)
            (end_of_row peer.epoch row.to)
            row.bytes) same had_then in
            owed-later (reading_of policy oid) (readings (is_in_strips policy (kind_of oid))) policy
            (kind_of oid) before.world.hosts after.world.hosts
            (attempts_on oid before.past.attempts) (attempts_on oid after.past.attempts)
            (grows-object oid before.past.attempts after.past.attempts
            (subst (GoOn before.past.attempts) (sym grew) (goes_on-more before.past.attempts more)))
            (record { 0 = n }) row.index end end end end row.bytes had
            (λ j now at owed. by_place j now owed
            (got_front (attempts_on oid before.past.attempts) (attempts_on oid more) j now
            (sym (ap (λ (all : List AttemptRecord). slice_get all j)
            (ap (attempts_on oid) grew
            ∙ filter-append (λ (attempt : AttemptRecord). object_of attempt == oid) before.past.attempts more)) ∙ at)))
          where
            by_place : (j : ℕ) (now : AttemptRecord)
                → owes_attempt (record { 0 = n }) (end_of_row host.node.peer.epoch row.to)
                (end_of_row host.node.peer.epoch row.to) now ≡ true
                → (slice_get (attempts_on oid before.past.attempts) j ≡ Some now)
                ⊎ ((k : ℕ) × (slice_get (attempts_on oid more) k ≡ Some now))
                → (is_doomed after.world.hosts now ≡ true)
                ⊎ WasOwed before.world.hosts after.world.hosts (attempts_on oid before.past.attempts) (record { 0 = n })
                (end_of_row host.node.peer.epoch row.to) (end_of_row host.node.peer.epoch row.to) j now
            by_place j now owed (inl old) = inr (record {
              was = now;
              there = old;
              work = refl;
              owed = owed;
              doomed = λ doomed. doomed-grows before.world.hosts after.world.hosts now (beyond_still now.epoch) doomed;
            })
            by_place j now owed (inr (k, new)) =
                let found = filter-passed (λ (attempt : AttemptRecord). object_of attempt == oid) more k now new in
                let object : object_of now ≡ oid = eqb-true (object_of now) oid found.passed in
                let place : ℕ = length before.past.attempts + found.place in
                let now_there : slice_get after.past.attempts place ≡ Some now
                = ap (λ (all : List AttemptRecord). slice_get all place) grew
                ∙ got_behind before.past.attempts more found.place now found.there in
                inl (new_is_doomed place now now_there (omega arith) (ap good object ∙ is_good) n host there i row
                (ap (λ (q : ℕ). slice_get (rows_of host.node.peer.rows q) i) object ∙ got) (end_of_row host.node.peer.epoch row.to) owed)

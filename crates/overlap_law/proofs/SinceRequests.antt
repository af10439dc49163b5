-- Once a node has answered a request each row has what it owes, at that node and at each other one.
use Rattle.std.proofs.Common.{◌≡◌, ◌≢◌, ◌⊎◌, inl, inr, ⊎_elim, arith, ℕ, ◌+◌, ◌-◌, ◌≤◌, ◌<◌, ◌==◌, nat_eq, Bool, true, false, List}
use Rattle.std.proofs.Common.{length, slice_get, Some, None, refl, sym, ap, subst, ◌∙◌}
use Rattle.std.specs.FinMap as tree
use Rattle.std.proofs.lemmas.Bool.{and_parts, cases_eq, eqb-true}
use Rattle.std.proofs.lemmas.Option.{same_Some}
use Rattle.proof_tools.proofs.FiniteMaps.{get-insert_cases}
use Rattle.object_id.specs.declared.node.NodeId.{NodeId}
use Rattle.object_id.specs.declared.policy.Policy.{Policy}
use Rattle.object_id.specs.Fields.{zeros}
use Rattle.object_id.specs.Oid.{kind_of}
use Rattle.object_id.specs.Piece.{laid_over}
use Rattle.object_store.specs.declared.key.Key.{Key}
use Rattle.object_store.specs.Rows.{is_open, is_open_at, ended}
use Rattle.object_store.specs.Store.{AllRows, SeenRow, rows_of, open_row, write_in, create_in}
use Rattle.object_store.proofs.StoreLaws.{rows_of-insert_same, rows_of-insert_other}
use Rattle.gf256.specs.Part.{index_at}
use Rattle.cluster_script.specs.declared.statement.Statement.{Statement}
use Rattle.peer_proto.specs.declared.ask.PeerAsk.TheVariants as asks
use Rattle.peer_proto.specs.declared.ask.PeerReq.{PeerReq}
use Rattle.peer_proto.specs.declared.say.PeerSay.{PeerSay}
use Rattle.peer_proto.specs.declared.say.PeerSay.TheVariants as says
use Rattle.peer_proto.specs.Work.{policy_of}
use Rattle.peer_service.specs.State.{Peer}
use Rattle.peer_service.specs.Serve.{PeerStep, peer_step}
use Rattle.vdi_directory.specs.Decisions.{log_effects}
use Rattle.message_wire.specs.declared.name.MessageName.{MessageName}
use Rattle.sheep_node.specs.declared.input.Input.TheVariants as inputs
use Rattle.sheep_node.specs.Step.{on_request, node_step}
use Rattle.sheep_node.proofs.StepResults.{step_peer}
use Rattle.sheep_world.specs.World.{Host}
use Rattle.sheep_world.specs.NodeCauses.{RequestComes, host_with_node}
use Rattle.sheep_world.specs.Began.{Began}
use Rattle.sheep_world.specs.WireMatch.{PacketsAreReadable}
use Rattle.overlap_law.specs.Attempts.{AttemptRecord, MessageFate, Served, Doomed, fate_of_say, object_of, attempts_with_fate}
use Rattle.overlap_law.specs.Each.{SomeAttempt, end_of_row, policy_in}
use Rattle.overlap_law.specs.Fates.{AttemptsAreOrdered, AttemptsAreWhole}
use Rattle.overlap_law.specs.Packets.{IsAsking}
use Rattle.overlap_law.specs.Past.{MomentWithPast}
use Rattle.overlap_law.specs.MomentChanges as moments
use Rattle.overlap_law.specs.MomentChanges.{MomentChange, RunsAreInRange}
use Rattle.overlap_law.specs.ShapedAttempts.{AreShaped}
use Rattle.overlap_law.specs.Since.{IsSince, RowsAreSince}
use Rattle.overlap_law.specs.StepMoments.{SteppingNode, IsStepping, last_in_step, moment_in_step}
use Rattle.overlap_law.specs.TiedAttempts.{IsTied}
use Rattle.overlap_law.specs.Traffic.{asks_making, IsMessageOf, MakersAreOfAttempts}
use Rattle.overlap_law.specs.WorksOfAttempts.{AttemptsAreOfWorks}
use Rattle.overlap_law.proofs.AttemptsInSteps.{attempts-at_end}
use Rattle.overlap_law.proofs.CopiesInSteps.{key_oid, asked_object}
use Rattle.overlap_law.proofs.FinishedInMoments.{TermsHold}
use Rattle.overlap_law.proofs.GrownAttempts.{GoOn}
use Rattle.overlap_law.proofs.KnownSteps.{together}
use Rattle.overlap_law.proofs.LaterAttempts.{IsToldOf, AreLater, later-doomed, later-served}
use Rattle.overlap_law.proofs.MadeRows.{Made, NothingIsMade, RowIsCreated, RowIsWritten, made-by, all_ended, IsChangedAt, changed-at}
use Rattle.overlap_law.proofs.OverlapLemmas.{filter-passed}
use Rattle.overlap_law.proofs.ReadInMoments.{HostsAreSound}
use Rattle.overlap_law.proofs.RowLists.{all_at, all_from, all_pushed}
use Rattle.overlap_law.proofs.RowsInTurn.{within_at, one_is_open, end_open, end_shut}
use Rattle.overlap_law.proofs.ServedMessages.{made_row, written_row}
use Rattle.overlap_law.proofs.SinceAtNodes.{PeerSince, all_since, had_since, ends_sooner, grown}
use Rattle.overlap_law.proofs.SinceLater.{NoneTold, since_later}
use Rattle.overlap_law.proofs.StayingRows.{StandInTurn}
use Rattle.overlap_law.proofs.TrafficServers.{success_in_epoch}

module _ (script : List Statement) (range : RunsAreInRange script) (start : MomentWithPast) (began : Began script start.world) (n : ℕ)
    (host : Host) (name : MessageName) (to : NodeId) (request : PeerReq)
    (is : IsStepping script start.world (record { n = n; host = host; cause = RequestComes name to request }))
    (good : ℕ → Bool) (terms : TermsHold start) (shaped : AreShaped start) (tied : IsTied start) (turns : StandInTurn start.world.hosts)
    (sound : HostsAreSound start) (ordered : AttemptsAreOrdered start.world.wire start.past.attempts)
    (makers : MakersAreOfAttempts start.world.wire start.past.attempts) (works : AttemptsAreOfWorks start.past.attempts)
    (whole : AttemptsAreWhole (log_effects start.world.log) start.past.attempts)
    (since : RowsAreSince (log_effects start.world.log) good start.world.hosts start.past.attempts) where
  abbrev stepping : SteppingNode
  stepping = record { n = n; host = host; cause = RequestComes name to request }

  abbrev after : MomentWithPast
  after = moment_in_step script stepping start (last_in_step stepping)

  abbrev change : MomentChange script start start after
  change = moments.StepIsMade stepping is tt

  abbrev attempts : List AttemptRecord
  attempts = start.past.attempts

  abbrev more : List AttemptRecord
  more = after.past.attempts

  abbrev peer : Peer
  peer = host.node.peer

  abbrev step : PeerStep
  step = peer_step peer request

  told_so : more ≡ attempts_with_fate (fate_of_say step.say) name.sender name.number attempts
  told_so = attempts-at_end script start stepping is tt

  peer_so : (node_step (inputs.Request request) host.node).node.peer ≡ step.peer
  unfolding on_request
  peer_so = step_peer (inputs.Request request) host.node

  asking : IsAsking start.world.wire name to request
  asking = let so = is.caused in record { bytes = so.bytes; there = so.there; spelled = so.read }

  here : to.0 ≡ n
  here = let so = is.caused in so.here

  abbrev Since : Type 0
  Since = RowsAreSince (log_effects after.world.log) good after.world.hosts after.past.attempts

  abbrev NodeSince : ℕ → Peer → Type 0
  NodeSince m peer = PeerSince script range start start after began change good since m peer

  -- each host, if the rows of the one that answers have what they owe
  with_own : (Told : ℕ → AttemptRecord → Type 0) → AreLater script range start start after began change terms shaped tied Told
      → ((m : ℕ) (now : AttemptRecord) → Told m now → m ≡ n) → NodeSince n step.peer → Since
  with_own Told pairs only own =
      all_since script range start start after began change good since
      (λ m one there. ⊎_elim
      (λ (at : (m ≡ n) × (host_with_node host (last_in_step stepping).node ≡ one)).
      subst (λ (q : ℕ). NodeSince q one.node.peer) (sym at.0)
      (subst (λ (h : Host). NodeSince n h.node.peer) at.1 (subst (NodeSince n) (sym peer_so) own)))
      (λ (other : (m ≢ n) × (tree.get start.world.hosts m ≡ Some one)).
      had_since script range start start after began change good since Told pairs m one other.1
      (λ oid i row got j now at told most. other.0 (only m now told)))
      (get-insert_cases start.world.hosts n (host_with_node host (last_in_step stepping).node) m one there))

  -- ---- nothing is made

  unmade : step.peer ≡ peer → fate_of_say step.say ≡ Doomed → Since
  unmade same doomed =
      let pairs = later-doomed script range start start after began change terms shaped tied name
      (told_so ∙ ap (λ (fate : MessageFate). attempts_with_fate fate name.sender name.number attempts) doomed) in
      with_own NoneTold pairs (λ m now told. absurd told)
      (subst (NodeSince n) (sym same)
      (had_since script range start start after began change good since NoneTold pairs n host is.there
      (λ oid i row got j now at told most. told)))

  -- ---- a row is made

  module _ (said : step.say ≡ says.Success) (making : asks_making request.ask ≡ true) where
    told_served : more ≡ attempts_with_fate Served name.sender name.number attempts
    told_served = told_so ∙ ap (λ (say : PeerSay). attempts_with_fate (fate_of_say say) name.sender name.number attempts) said

    pairs : AreLater script range start start after began change terms shaped tied (IsToldOf n request)
    pairs = later-served script range start start after began change terms shaped tied n name to request here asking told_served

    of_epoch : peer.epoch ≡ request.epoch.0
    of_epoch = success_in_epoch peer request said

    some_epoch : 1 ≤ peer.epoch
    some_epoch =
        let least = (sound.each n host is.there).sound.recovers.begun in
        let entered = (sound.each n host is.there).sound.recovers.entered in
        omega (arith, least, entered)

    -- what is told is of the epoch and on the object
    told_epoch : (now : AttemptRecord) → IsToldOf n request n now → now.epoch ≡ peer.epoch
    told_epoch now told = sym (of_epoch ∙ ap (λ (r : PeerReq). r.epoch.0) told.request_so)

    told_object : (now : AttemptRecord) → IsToldOf n request n now → object_of now ≡ key_oid request.ask
    told_object now told =
        sym (asked_object now.work (index_at (policy_of now.work) (kind_of (object_of now)) told.place))
        ∙ ap key_oid (ap (λ (r : PeerReq). r.ask) (sym told.request_so))

    -- a row that the node had, up to an end below its epoch
    abbrev HadBelow : ℕ → SeenRow → Type 0
    HadBelow oid row = (end : ℕ) → end ≤ end_of_row peer.epoch row.to → end < peer.epoch → (policy : Policy) → good oid ≡ true
        → policy_in (log_effects start.world.log) oid ≡ Some policy
        → IsSince policy oid after.world.hosts more (record { 0 = n }) row.index end end row.bytes

    had_below : (oid i : ℕ) (row : SeenRow) → slice_get (rows_of peer.rows oid) i ≡ Some row → HadBelow oid row
    had_below oid i row got end low below policy is_good known =
        since_later start.world.hosts after.world.hosts (IsToldOf n request) attempts more pairs
        (grown script range start start after began change good since) policy oid n row.index end end row.bytes
        (ends_sooner policy oid start.world.hosts attempts n row.index (end_of_row peer.epoch row.to) end row.bytes low
        (since.each n host is.there oid i row got policy is_good known))
        (λ j now at told most. let epoch = told_epoch now told in omega (arith, epoch, most, below))

    -- a closed row ended before
    shut_below : (oid i : ℕ) (row : SeenRow) → slice_get (rows_of peer.rows oid) i ≡ Some row → is_open row ≡ false
        → end_of_row peer.epoch row.to < peer.epoch
    shut_below oid i row got shut =
        let behind = (within_at peer.epoch (rows_of peer.rows oid) i row got (turns n host is.there oid)).1 shut in
        let same = end_shut row.to shut peer.epoch 0 in
        omega (arith, behind, same)

    shut_since : (oid i : ℕ) (row : SeenRow) → slice_get (rows_of peer.rows oid) i ≡ Some row → is_open row ≡ false
        → (policy : Policy) → good oid ≡ true → policy_in (log_effects start.world.log) oid ≡ Some policy
        → IsSince policy oid after.world.hosts more (record { 0 = n }) row.index (end_of_row peer.epoch row.to)
        (end_of_row peer.epoch row.to) row.bytes
    shut_since oid i row got shut =
        had_below oid i row got (end_of_row peer.epoch row.to) (omega arith) (shut_below oid i row got shut)

    -- rows of another object
    other_object : (oid : ℕ) → oid ≢ key_oid request.ask → (i : ℕ) (row : SeenRow) → slice_get (rows_of peer.rows oid) i ≡ Some row
        → (policy : Policy) → good oid ≡ true → policy_in (log_effects start.world.log) oid ≡ Some policy
        → IsSince policy oid after.world.hosts more (record { 0 = n }) row.index (end_of_row peer.epoch row.to)
        (end_of_row peer.epoch row.to) row.bytes
    other_object oid apart i row got policy is_good known =
        since_later start.world.hosts after.world.hosts (IsToldOf n request) attempts more pairs
        (grown script range start start after began change good since) policy oid n row.index (end_of_row peer.epoch row.to)
        (end_of_row peer.epoch row.to) row.bytes
        (since.each n host is.there oid i row got policy is_good known)
        (λ j now at told most.
        let found = filter-passed (λ (a : AttemptRecord). object_of a == oid) more j now at in
        apart (sym (eqb-true (object_of now) oid found.passed) ∙ told_object now told))

    -- ---- the attempt

    readable : PacketsAreReadable start.world.wire
    readable = (together script range start.world began).wired.spelled

    own : SomeAttempt attempts (λ (attempt : AttemptRecord). IsMessageOf attempt to request)
    own = makers.each name to request asking making

    on : GoOn attempts more
    on = grown script range start start after began change good since

    made : (policy : Policy) → policy_in (log_effects start.world.log) (key_oid request.ask) ≡ Some policy → (key : Key)
        (long offset : ℕ) (bytes : List ℕ) → request.ask ≡ asks.Create key long offset bytes
        → IsSince policy (key_oid request.ask) after.world.hosts more (record { 0 = n }) key.index peer.epoch peer.epoch
        (laid_over (zeros long) offset bytes)
    made policy known =
        made_row start after.world.hosts more n name to request peer.epoch of_epoch asking readable told_served pairs on shaped tied ordered
        works whole own policy known

    written : (policy : Policy) → policy_in (log_effects start.world.log) (key_oid request.ask) ≡ Some policy → (index : ℕ) (row : List ℕ)
        → IsSince policy (key_oid request.ask) start.world.hosts attempts (record { 0 = n }) index peer.epoch peer.epoch row → (key : Key)
        (offset : ℕ) (bytes : List ℕ) → request.ask ≡ asks.Write key offset bytes → index ≡ key.index
        → offset + length bytes ≤ length row
        → IsSince policy (key_oid request.ask) after.world.hosts more (record { 0 = n }) index peer.epoch peer.epoch
        (laid_over row offset bytes)
    written policy known =
        written_row start after.world.hosts more n name to request peer.epoch of_epoch asking readable told_served pairs on shaped tied
        ordered works whole own policy known

    -- ---- the rows then

    abbrev RowSo : ℕ → SeenRow → Type 0
    RowSo oid row = (policy : Policy) → good oid ≡ true → policy_in (log_effects start.world.log) oid ≡ Some policy
        → IsSince policy oid after.world.hosts more (record { 0 = n }) row.index (end_of_row peer.epoch row.to)
        (end_of_row peer.epoch row.to) row.bytes

    -- the rows of the object are put
    put_since : (oid : ℕ) → key_oid request.ask ≡ oid → (new : List SeenRow)
        → ((i : ℕ) (row : SeenRow) → slice_get new i ≡ Some row → RowSo oid row) → step.peer.epoch ≡ peer.epoch
        → step.peer.rows ≡ tree.insert peer.rows oid new → NodeSince n step.peer
    put_since oid object new new_so epoch_so rows_so q i row got =
        subst (λ (e : ℕ). (policy : Policy) → good q ≡ true → policy_in (log_effects start.world.log) q ≡ Some policy
        → IsSince policy q after.world.hosts more (record { 0 = n }) row.index (end_of_row e row.to) (end_of_row e row.to) row.bytes)
        (sym epoch_so) (by_object (cases_eq q oid))
      where
        got_so : slice_get (rows_of (tree.insert peer.rows oid new) q) i ≡ Some row
        got_so = sym (ap (λ (rows : AllRows). slice_get (rows_of rows q) i) rows_so) ∙ got

        by_object : (q ≡ oid) ⊎ (q ≢ oid) → RowSo q row
        by_object (inl own) =
            subst (λ (o : ℕ). RowSo o row) (sym own)
            (new_so i row
            (sym (ap (λ (rows : List SeenRow). slice_get rows i)
            (ap (rows_of (tree.insert peer.rows oid new)) own ∙ rows_of-insert_same peer.rows oid new)) ∙ got_so))
        by_object (inr other) =
            other_object q (λ same. other (same ∙ object)) i row
            (sym (ap (λ (rows : List SeenRow). slice_get rows i) (rows_of-insert_other peer.rows oid new q other)) ∙ got_so)

    created_rows : (key : Key) (long offset : ℕ) (bytes : List ℕ) → request.ask ≡ asks.Create key long offset bytes
        → (i : ℕ) (row : SeenRow) → slice_get (create_in key.index peer.epoch long offset bytes (rows_of peer.rows key.oid)) i ≡ Some row
        → RowSo key.oid row
    created_rows key long offset bytes asked i row got =
        all_at (RowSo key.oid) (create_in key.index peer.epoch long offset bytes (rows_of peer.rows key.oid)) i row got
        (all_pushed (RowSo key.oid) (ended peer.epoch (rows_of peer.rows key.oid))
        (record { index = key.index; from = record { 0 = peer.epoch }; to = None; bytes = laid_over (zeros long) offset bytes })
        (all_ended (HadRow key.oid) (RowSo key.oid) peer.epoch
        (λ one unshut had.
        let end = end_open one.to unshut peer.epoch in
        let some = some_epoch in
        had.0 (peer.epoch - 1) (omega (arith, end)) (omega (arith, some)))
        (λ one shut had. had.0 (end_of_row peer.epoch one.to) (omega arith) (had.1 shut))
        (rows_of peer.rows key.oid)
        (all_from (HadRow key.oid) (rows_of peer.rows key.oid)
        (λ p one at. (had_below key.oid p one at, shut_below key.oid p one at))))
        (λ policy is_good known.
        let object : key_oid request.ask ≡ key.oid = ap key_oid asked in
        subst (λ (o : ℕ). IsSince policy o after.world.hosts more (record { 0 = n }) key.index peer.epoch peer.epoch
        (laid_over (zeros long) offset bytes)) object
        (made policy (ap (policy_in (log_effects start.world.log)) object ∙ known) key long offset bytes asked)))
      where
        HadRow : ℕ → SeenRow → Type 0
        HadRow q one = HadBelow q one × (is_open one ≡ false → end_of_row peer.epoch one.to < peer.epoch)

    written_rows : (key : Key) (offset : ℕ) (bytes : List ℕ) (found : SeenRow) → request.ask ≡ asks.Write key offset bytes
        → open_row peer.rows key ≡ Some found → offset + length bytes ≤ length found.bytes
        → (i : ℕ) (row : SeenRow) → slice_get (write_in key.index offset bytes (rows_of peer.rows key.oid)) i ≡ Some row → RowSo key.oid row
    written_rows key offset bytes found asked on fits i row got = by_place (cases_eq i c.place)
      where
        both : (is_open_at key.index found ≡ true)
            × IsChangedAt (rows_of peer.rows key.oid) (write_in key.index offset bytes (rows_of peer.rows key.oid)) found
            (record found { bytes = laid_over found.bytes offset bytes })
        both =
            changed-at (is_open_at key.index) (λ (held : List ℕ). laid_over held offset bytes) (rows_of peer.rows key.oid) found on

        c : IsChangedAt (rows_of peer.rows key.oid) (write_in key.index offset bytes (rows_of peer.rows key.oid)) found
            (record found { bytes = laid_over found.bytes offset bytes })
        c = both.1

        parts : (is_open found ≡ true) × (nat_eq found.index key.index ≡ true)
        parts = and_parts (is_open found) (nat_eq found.index key.index) both.0

        object : key_oid request.ask ≡ key.oid
        object = ap key_oid asked

        found_at : slice_get (rows_of peer.rows (key_oid request.ask)) c.place ≡ Some found
        found_at = ap (λ (o : ℕ). slice_get (rows_of peer.rows o) c.place) object ∙ c.at

        still : (b : Bool) → i ≢ c.place → slice_get (rows_of peer.rows key.oid) i ≡ Some row → is_open row ≡ b → RowSo key.oid row
        still true other old unshut =
            absurd (other (one_is_open peer.epoch (rows_of peer.rows key.oid) (turns n host is.there key.oid) i c.place row found old c.at
            unshut parts.0))
        still false other old shut = shut_since key.oid i row old shut

        by_place : (i ≡ c.place) ⊎ (i ≢ c.place) → RowSo key.oid row
        by_place (inl own) =
            let new : record found { bytes = laid_over found.bytes offset bytes } ≡ row
            = same_Some (record found { bytes = laid_over found.bytes offset bytes }) row
            (sym c.now
            ∙ ap (slice_get (write_in key.index offset bytes (rows_of peer.rows key.oid))) (sym own) ∙ got) in
            let end : end_of_row peer.epoch found.to ≡ peer.epoch = end_open found.to parts.0 peer.epoch in
            subst (RowSo key.oid) new (λ policy is_good known.
            let known_so = ap (policy_in (log_effects start.world.log)) object ∙ known in
            subst (λ (q : ℕ). IsSince policy key.oid after.world.hosts more (record { 0 = n }) found.index q q
            (laid_over found.bytes offset bytes)) (sym end)
            (subst (λ (o : ℕ). IsSince policy o after.world.hosts more (record { 0 = n }) found.index peer.epoch peer.epoch
            (laid_over found.bytes offset bytes)) object
            (written policy known_so found.index found.bytes
            (subst (λ (q : ℕ). IsSince policy (key_oid request.ask) start.world.hosts attempts (record { 0 = n }) found.index q q
            found.bytes) end
            (since.each n host is.there (key_oid request.ask) c.place found found_at policy (ap good object ∙ is_good) known_so))
            key offset bytes asked (eqb-true found.index key.index parts.1) fits)))
        by_place (inr other) = still (is_open row) other (sym (c.others i other) ∙ got) refl

  -- ---- whatever it answers

  by_made : Made peer request.ask step → Since
  by_made (NothingIsMade same doomed) = unmade same doomed
  by_made (RowIsCreated key long offset bytes asked said epoch_so rows_so) =
      let making = ap asks_making asked in
      with_own (IsToldOf n request) (pairs said making) (λ m now told. told.here)
      (put_since said making key.oid (ap key_oid asked) (create_in key.index peer.epoch long offset bytes (rows_of peer.rows key.oid))
      (created_rows said making key long offset bytes asked) epoch_so rows_so)
  by_made (RowIsWritten key offset bytes row asked said epoch_so on fits rows_so) =
      let making = ap asks_making asked in
      with_own (IsToldOf n request) (pairs said making) (λ m now told. told.here)
      (put_since said making key.oid (ap key_oid asked) (write_in key.index offset bytes (rows_of peer.rows key.oid))
      (written_rows said making key offset bytes row asked on fits) epoch_so rows_so)

  pub since_served : Since
  since_served = by_made (made-by peer request)

-- In each run in range, where a session has read a piece of an object in strips in the middle of a step, each block of it is that of an
-- attempt that isn't doomed, behind which none adds anything, if the object was good as the event began: each of the messages that the read
-- needs gave the strip of it, heard now or before.
use Rattle.std.proofs.Common.{◌≡◌, ◌≢◌, arith, ℕ, zero, suc, ◌+◌, ◌*◌, ◌-◌, ◌/◌, ◌%◌, ◌<◌, ◌≤◌, ◌==◌, Bool, true, false, cond, All, List}
use Rattle.std.proofs.Common.{[], ◌∷◌, Option}
use Rattle.std.proofs.Common.{length, map, filter, take, Some, slice_get, refl, sym, ap, subst, ◌∙◌}
use Rattle.std.specs.Prelude.{nat_le}
use Rattle.std.specs.List.{list_any}
use Rattle.std.specs.FinMap as tree
use Rattle.std.proofs.lemmas.Bool.{eqb-true, leb-true}
use Rattle.std.proofs.lemmas.List.{length-take-le}
use Rattle.std.proofs.lemmas.List.Elements.{All-nil, All-cons, All-head, All-tail}
use Rattle.std.proofs.lemmas.Option.{same_Some}
use Rattle.proof_tools.proofs.FiniteMaps.{get-insert_same}
use Rattle.object_id.specs.declared.entry.Entry.{Entry}
use Rattle.object_id.specs.declared.limits.TheConstants.{BLOCK_BYTES, OBJECTS_MAX}
use Rattle.object_id.specs.declared.oid.Kind.{Kind}
use Rattle.object_id.specs.declared.oid.Kind.TheVariants.{Block}
use Rattle.object_id.specs.declared.policy.Policy.{Policy}
use Rattle.object_id.specs.declared.policy.Policy.TheVariants.{Coded}
use Rattle.object_id.specs.Oid.{IsVid, kind_of, object_number}
use Rattle.object_id.specs.Policy.{IsPolicy, need_of}
use Rattle.object_store.specs.Bytes.{piece_at}
use Rattle.gf256.specs.Part.{is_in_strips, part, part_size}
use Rattle.gf256.specs.Polynomial.{ArePoints}
use Rattle.gf256.specs.Strip.{IsBlock, strip}
use Rattle.gf256.proofs.PartLaws.{part_of_block}
use Rattle.gf256.proofs.Points.{Avoids, Points, points_from, points_to}
use Rattle.gf256.proofs.Widths as widths
use Rattle.cluster_script.specs.declared.statement.Statement.{Statement}
use Rattle.inode.specs.Layout.{Content}
use Rattle.guest_driver.specs.Pieces.{Piece, AreBlocks}
use Rattle.guest_driver.specs.PieceWorks.{read_piece}
use Rattle.vdi_directory.specs.Decisions.{log_effects}
use Rattle.peer_proto.specs.declared.work.ObjWork.{ObjWork}
use Rattle.object_list.specs.Gathered.{has_node}
use Rattle.peer_proto.specs.Work.{IsWork, oid_of, policy_of}
use Rattle.gateway.specs.declared.message.Message.{Message}
use Rattle.gateway.specs.declared.message.Status.{Status}
use Rattle.gateway.specs.declared.message.Status.TheVariants as statuses
use Rattle.gateway.specs.Attempt as gateways
use Rattle.gateway.specs.Attempt.{bytes_given, bytes_in, bytes_through, is_awaited_message, is_done, is_success, messages_with_status}
use Rattle.gateway.specs.Attempt.{successes}
use Rattle.gateway.specs.Messages.{AreMessagesFor, HasLength, HaveLength}
use Rattle.gateway.specs.State.{Work, WorkStage, open_messages}
use Rattle.gateway.specs.Work.{is_making}
use Rattle.gateway.proofs.MessageLemmas.{AreMessagesFor-with_status}
use Rattle.sheep_node.specs.declared.course.Course.{Course}
use Rattle.sheep_node.specs.Changes.{EndsWork, IsTold}
use Rattle.sheep_node.specs.SoundWorks.{HasMessagesFor}
use Rattle.sheep_node.specs.StepState.{StepState}
use Rattle.sheep_world.specs.Began.{Began}
use Rattle.sheep_world.specs.NodeCauses.{host_with_node, input_of_cause}
use Rattle.sheep_world.specs.World.{Host}
use Rattle.sheep_world.specs.RunsWithAsks.{Move}
use Rattle.overlap_law.specs.Attempts.{AttemptRecord, object_of, attempts_on}
use Rattle.overlap_law.specs.Each.{policy_in}
use Rattle.overlap_law.specs.Holders.{targets_by}
use Rattle.overlap_law.specs.MomentChanges.{MomentTrail, RunsAreInRange}
use Rattle.overlap_law.specs.Past.{MomentWithPast, run_with_past}
use Rattle.overlap_law.specs.Pieces.{IsInPiece}
use Rattle.overlap_law.specs.Since.{AddNothingAfter}
use Rattle.overlap_law.specs.StepMoments.{SteppingNode, IsStepping, StepsByChanges, LeadsInStep, first_in_step, moment_in_step}
use Rattle.overlap_law.specs.StripReadsGiven.{HasGiven}
use Rattle.overlap_law.specs.ToldPieces.{GaveStrip, offset_read}
use Rattle.overlap_law.specs.Units.{bytes_by, covers_unit, unit_part_by, unit_size, unit_start}
use Rattle.overlap_law.specs.Words.{is_doomed}
use Rattle.overlap_law.proofs.AnswersInMoments.{not_lost}
use Rattle.overlap_law.proofs.AttemptLists.{got_map}
use Rattle.overlap_law.proofs.CarriedRows.{good_at}
use Rattle.overlap_law.proofs.JoinedReads.{block_read}
use Rattle.overlap_law.proofs.KnownDisks.{kind-of_object}
use Rattle.overlap_law.proofs.KnownSteps.{known_step}
use Rattle.overlap_law.proofs.LastReads.{IsBehind, open_reads-in_run}
use Rattle.overlap_law.proofs.NoRecoveredDue.{began-with_past}
use Rattle.overlap_law.proofs.PiecesToCome.{object, part_of_standing, policy_so}
use Rattle.overlap_law.proofs.StripReadsHeard.{IsGiven, given_now}
use Rattle.overlap_law.proofs.StripReadsInRuns.{given-on_the_way}
use Rattle.overlap_law.proofs.TablesOfReads.{reading_along}
use Rattle.overlap_law.proofs.TellersOfPieces.{TellersAreTargets, tellers-on_the_way}
use Rattle.overlap_law.proofs.ToldPiecesInRuns.{told_pieces-in_run}
use Rattle.overlap_law.specs.RequestsOfScript.{is_of_client}
use Rattle.overlap_law.specs.Sessions.{is_of_client_at}
use Rattle.sheep_node.specs.declared.course.Request.{Request}
use Rattle.std.specs.Option.{option_map_or}

-- ---- lists of messages

-- what holds of each message that succeeded holds of the first of them
all_successes : (P : Message → Type 0) (messages : List Message)
    → ((place : ℕ) (m : Message) → slice_get messages place ≡ Some m → is_success m.status ≡ true → P m) → All P (successes messages)
all_successes P [] each = All-nil P
all_successes P (first ∷ later) each =
    by_test (is_success first.status) refl (all_successes P later (λ place m at is. each (suc place) m at is))
  where
    by_test : (b : Bool) → is_success first.status ≡ b → All P (successes later)
        → All P (cond b (first ∷ successes later) (successes later))
    by_test true is rest = All-cons P first (successes later) (each zero first refl is) rest
    by_test false is rest = rest

all_taken : (P : Message → Type 0) (n : ℕ) (messages : List Message) → All P messages → All P (take n messages)
all_taken P zero messages all = All-nil P
all_taken P (suc n) [] all = All-nil P
all_taken P (suc n) (first ∷ later) all =
    All-cons P first (take n later) (All-head P first later all) (all_taken P n later (All-tail P first later all))

-- a piece that came is as long as was asked
pub long_at : (size : ℕ) (messages : List Message) (place : ℕ) (m : Message) → HaveLength size messages → slice_get messages place ≡ Some m
    → HasLength size m.status
long_at size [] place m have at = absurd (cc (at))
long_at size (first ∷ later) zero m have at = subst (λ (one : Message). HasLength size one.status) (same_Some first m at) have.0
long_at size (first ∷ later) (suc place) m have at = long_at size later place m have.1 at

-- what succeeded gave bytes
pub gave_bytes : (status : Status) → is_success status ≡ true → status ≡ statuses.Succeeded (bytes_in status)
gave_bytes statuses.Unanswered is = absurd (cc (is))
gave_bytes (statuses.Succeeded bytes) is = refl
gave_bytes (statuses.Refused refusal) is = absurd (cc (is))
gave_bytes statuses.Lost is = absurd (cc (is))

-- ---- indexes of some messages differ, where those of all do

avoids-kept : (p : ℕ) (messages : List Message) → Avoids p (map (λ (m : Message). m.index) messages)
    → Avoids p (map (λ (m : Message). m.index) (successes messages))
avoids-kept p [] avoids = tt
avoids-kept p (message ∷ messages) avoids = by_test (is_success message.status) (avoids-kept p messages avoids.1)
  where
    by_test : (b : Bool) → Avoids p (map (λ (m : Message). m.index) (successes messages))
        → Avoids p (map (λ (m : Message). m.index) (cond b (message ∷ successes messages) (successes messages)))
    by_test true rest = (avoids.0, rest)
    by_test false rest = rest

points-kept : (messages : List Message) → Points (map (λ (m : Message). m.index) messages)
    → Points (map (λ (m : Message). m.index) (successes messages))
points-kept [] points = tt
points-kept (message ∷ messages) points = by_test (is_success message.status) (points-kept messages points.2)
  where
    by_test : (b : Bool) → Points (map (λ (m : Message). m.index) (successes messages))
        → Points (map (λ (m : Message). m.index) (cond b (message ∷ successes messages) (successes messages)))
    by_test true rest = (points.0, avoids-kept message.index messages points.1, rest)
    by_test false rest = rest

avoids-taken : (p n : ℕ) (messages : List Message) → Avoids p (map (λ (m : Message). m.index) messages)
    → Avoids p (map (λ (m : Message). m.index) (take n messages))
avoids-taken p zero messages avoids = tt
avoids-taken p (suc n) [] avoids = tt
avoids-taken p (suc n) (message ∷ messages) avoids = (avoids.0, avoids-taken p n messages avoids.1)

points-taken : (n : ℕ) (messages : List Message) → Points (map (λ (m : Message). m.index) messages)
    → Points (map (λ (m : Message). m.index) (take n messages))
points-taken zero messages points = tt
points-taken (suc n) [] points = tt
points-taken (suc n) (message ∷ messages) points =
    (points.0, avoids-taken message.index n messages points.1, points-taken n messages points.2)

points-first : (n : ℕ) (messages : List Message) → ArePoints (map (λ (m : Message). m.index) messages)
    → ArePoints (map (λ (m : Message). m.index) (take n (successes messages)))
points-first n messages are =
    points_to (map (λ (m : Message). m.index) (take n (successes messages)))
    (points-taken n (successes messages) (points-kept messages (points_from (map (λ (m : Message). m.index) messages) are)))

-- ---- a block

module _ (script : List Statement) (range : RunsAreInRange script) (events : List Move) (start : MomentWithPast)
    (ran : run_with_past script events ≡ Some start) (stepping : SteppingNode) (is : IsStepping script start.world stepping)
    (by : StepsByChanges stepping.cause) (so_far : StepState) (leads : LeadsInStep stepping (first_in_step stepping) so_far)
    (trail : MomentTrail script start (moment_in_step script stepping start so_far)) (session req number : ℕ) (work : Work)
    (attempt : gateways.Attempt) (status : Status) (course : Course) (bytes : List ℕ)
    (ends : EndsWork (input_of_cause stepping.cause) stepping.host.node so_far session req number work attempt status course bytes)
    (inode : Content) (home : ℕ) (piece : Piece) (is_read : work.work ≡ read_piece inode piece home) (is_vid : IsVid home)
    (few : piece.index < OBJECTS_MAX) (blocks : AreBlocks piece) (d p : ℕ) (coded : inode.spec.policy ≡ Coded d p)
    (own : is_of_client course ≡ false)
    (known : policy_in (log_effects (moment_in_step script stepping start so_far).world.log) (object_number home piece.index)
    ≡ Some inode.spec.policy)
    (is_good : good_at start (object_number home piece.index) ≡ true) (unit : ℕ) (inside : IsInPiece piece unit) (j : ℕ)
    (made : AttemptRecord)
    (at : slice_get (attempts_on (object_number home piece.index) (moment_in_step script stepping start so_far).past.attempts) j
    ≡ Some made) (covers : covers_unit unit made ≡ true)
    (stands : is_doomed (moment_in_step script stepping start so_far).world.hosts made ≡ false)
    (quiet : AddNothingAfter (attempts_on (object_number home piece.index) (moment_in_step script stepping start so_far).past.attempts)
    unit j made)
    (is_block : IsBlock (bytes_by unit made.work)) where
  abbrev here : MomentWithPast
  here = moment_in_step script stepping start so_far

  abbrev was : Host
  was = host_with_node stepping.host so_far.node

  abbrev oid : ℕ
  oid = object_number home piece.index

  abbrev policy : Policy
  policy = inode.spec.policy

  abbrev epoch : ℕ
  epoch = attempt.epoch.0

  abbrev now : List Message
  now = messages_with_status number status attempt.messages

  began : Began script start.world
  began = began-with_past script events start ran

  at_host : tree.get here.world.hosts stepping.n ≡ Some was
  at_host = get-insert_same start.world.hosts stepping.n was

  tellers : TellersAreTargets here
  tellers = tellers-on_the_way script range events start here ran trail

  kind_so : kind_of oid ≡ Block
  kind_so = kind-of_object home piece.index is_vid few

  reads : is_making work.work ≡ false
  reads = ap (λ (w : ObjWork). is_making w) is_read

  -- of no client
  no_client : is_of_client_at req was.node ≡ false
  no_client =
      ap (λ (o : Option Request). option_map_or (λ (request : Request). is_of_client request.course) o false) ends.ends.request ∙ own

  -- ---- the messages

  sound : AreMessagesFor work.work now
  sound =
      let learns = ends.ends.learns in
      AreMessagesFor-with_status work.work number status attempt.messages
      (learns.piece (known_step script range start.world began stepping is).sound)
      (subst (HasMessagesFor work.work) learns.open_so
      ((reading_along script range start began trail stepping.n was at_host).sound.open_works req work learns.there).messages)

  of_read : AreMessagesFor (read_piece inode piece home) now
  of_read = subst (λ (w : ObjWork). AreMessagesFor w now) is_read sound

  awaited : list_any (is_awaited_message number) attempt.messages ≡ true
  awaited =
      sym (ap (λ (stage : WorkStage). list_any (is_awaited_message number) (open_messages stage)) ends.ends.learns.open_so)
      ∙ ends.ends.learns.awaited

  long_so : part_size policy (kind_of oid) piece.size ≡ piece.size / d
  long_so = λ i. part_size (coded i) (kind_so i) piece.size

  module _ (is_policy : IsPolicy (Coded d p)) where
    some_long : 1 ≤ piece.size / d
    some_long =
        let first = inside.first in
        let last = inside.last in
        let offset_so : piece.offset % 512 ≡ 0 = blocks.offset in
        let size_so : piece.size % 512 ≡ 0 = blocks.size in
        widths.by_cases (λ (n : ℕ). 1 ≤ piece.size / n) (omega (arith, first, last, offset_so, size_so))
        (omega (arith, first, last, offset_so, size_so)) (omega (arith, first, last, offset_so, size_so))
        (omega (arith, first, last, offset_so, size_so)) d is_policy.0

    -- one that gave a piece
    module _ (place : ℕ) (m : Message) (m_at : slice_get now place ≡ Some m) (succeeded : is_success m.status ≡ true) where
      abbrev gave : List ℕ
      gave = bytes_in m.status

      long : length gave ≡ part_size policy (kind_of oid) piece.size
      long =
          subst (HasLength (part_size policy (kind_of oid) piece.size)) (gave_bytes m.status succeeded)
          (long_at (part_size policy (kind_of oid) piece.size) now place m of_read.pieces m_at)

      some : 1 ≤ length gave
      some = let more = some_long in let size = long in let so = long_so in omega (arith, more, size, so)

      given : IsGiven (good_at start) here work.work epoch m.index gave
      given =
          let (one, found, marks) = got_map (λ (one : Message). cond (one.number == number) (record one { status = status }) one)
          attempt.messages place m m_at in
          by_test one found (one.number == number) refl marks
        where
          by_test : (one : Message) → slice_get attempt.messages place ≡ Some one → (b : Bool) → (one.number == number) ≡ b
              → cond b (record one { status = status }) one ≡ m → IsGiven (good_at start) here work.work epoch m.index gave
          by_test one found true tie same =
              let its : one.number ≡ number = eqb-true one.number number tie in
              let came : status ≡ statuses.Succeeded gave = ap (λ (x : Message). x.status) same ∙ gave_bytes m.status succeeded in
              subst (λ (k : ℕ). IsGiven (good_at start) here work.work epoch k gave) (ap (λ (x : Message). x.index) same)
              (given_now script range events start ran (good_at start) (told_pieces-in_run script range events start ran) stepping is by
              so_far leads trail req place work attempt one ends.ends.learns.there ends.ends.learns.open_so found
              (ap (λ (k : ℕ). list_any (is_awaited_message k) attempt.messages) its ∙ awaited) gave some
              (subst (λ (k : ℕ). IsTold (input_of_cause stepping.cause) k (statuses.Succeeded gave)) (sym its)
              (subst (IsTold (input_of_cause stepping.cause) number) came ends.ends.learns.told)) no_client)
          by_test one found false apart same =
              given-on_the_way script range events start here ran trail stepping.n was at_host (not_lost stepping.host is.up) req place work
              attempt m gave (record {
                there = ends.ends.learns.there;
                stage = ends.ends.learns.open_so;
                at = found ∙ ap (λ (x : Message). Some x) same;
                given = gave_bytes m.status succeeded;
                some = some;
              }) reads no_client

      of_piece : IsGiven (good_at start) here (read_piece inode piece home) epoch m.index gave
      of_piece = subst (λ (w : ObjWork). IsGiven (good_at start) here w epoch m.index gave) is_read given

      -- each attempt on the object is of no later epoch, and of an earlier one while it has packets
      behind : (k : ℕ) (other : AttemptRecord) → slice_get here.past.attempts k ≡ Some other → object_of other ≡ oid
          → IsBehind here.world.wire other epoch
      behind k other other_at on =
          open_reads-in_run script range events start here ran trail stepping.n was at_host (not_lost stepping.host is.up) req work attempt
          ends.ends.learns.there reads no_client ends.ends.learns.open_so k other other_at
          (on ∙ ap (λ (w : ObjWork). oid_of w) (sym is_read))

      earlier : (k : ℕ) (other : AttemptRecord) → slice_get here.past.attempts k ≡ Some other → object_of other ≡ oid → other.epoch ≤ epoch
      earlier k other other_at on = (behind k other other_at on).epochs

      targets : has_node of_piece.from (targets_by here.world.log epoch oid policy) ≡ true
      targets =
          let same : of_piece.teller.policy ≡ policy = same_Some of_piece.teller.policy policy (sym of_piece.teller.made ∙ known) in
          ap (λ (q : Policy). has_node of_piece.from (targets_by here.world.log epoch oid q)) (sym same) ∙ of_piece.teller.target

      above : part_size policy (kind_of oid) piece.offset ≤ part_size policy (kind_of oid) (unit_start (kind_of oid) unit)
      above =
          let first = inside.first in
          subst (λ (n : ℕ). n ≤ part_size policy (kind_of oid) (unit_start (kind_of oid) unit))
          (sym (λ i. part_size (coded i) (kind_so i) piece.offset))
          (subst (λ (n : ℕ). piece.offset / d ≤ n) (sym (λ i. part_size (coded i) (kind_so i) (unit_start (kind_so i) unit)))
          (widths.by_cases (λ (n : ℕ). piece.offset / n ≤ 512 * unit / n) (omega (arith, first)) (omega (arith, first))
          (omega (arith, first)) (omega (arith, first)) d is_policy.0))

      below : part_size policy (kind_of oid) (unit_start (kind_of oid) unit) + part_size policy (kind_of oid) (unit_size (kind_of oid) unit)
          ≤ part_size policy (kind_of oid) piece.offset + length gave
      below =
          let last = inside.last in
          let offset_so : piece.offset % 512 ≡ 0 = blocks.offset in
          let size_so : piece.size % 512 ≡ 0 = blocks.size in
          let offset_part : part_size policy (kind_of oid) piece.offset
          ≡ piece.offset / d = λ i. part_size (coded i) (kind_so i) piece.offset in
          let start_part : part_size policy (kind_of oid) (unit_start (kind_of oid) unit) ≡ 512 * unit / d
          = λ i. part_size (coded i) (kind_so i) (unit_start (kind_so i) unit) in
          let size_part : part_size policy (kind_of oid) (unit_size (kind_of oid) unit) ≡ 512 / d
          = λ i. part_size (coded i) (kind_so i) (unit_size (kind_so i) unit) in
          let wide : 512 * unit / d + 512 / d ≤ piece.offset / d + piece.size / d
          = widths.by_cases (λ (n : ℕ). 512 * unit / n + 512 / n ≤ piece.offset / n + piece.size / n)
          (omega (arith, last, offset_so, size_so)) (omega (arith, last, offset_so, size_so)) (omega (arith, last, offset_so, size_so))
          (omega (arith, last, offset_so, size_so)) d is_policy.0 in
          let own = long in
          let so = long_so in
          omega (arith, wide, own, so, offset_part, start_part, size_part)

      -- the part of the unit is that of the made attempt
      part_so : piece_at gave (part_size policy (kind_of oid) (unit_start (kind_of oid) unit) - part_size policy (kind_of oid) piece.offset)
          (part_size policy (kind_of oid) (unit_size (kind_of oid) unit)) ≡ unit_part_by m.index unit made.work
      part_so =
          part_of_standing here.world.log here.world.hosts here.world.wire here.past.attempts tellers.rows.tied.fates
          tellers.rows.shaped.shape of_piece.from oid epoch m.index piece.offset policy known targets earlier gave
          (of_piece.since is_good known) unit
          (λ k other other_at on place node packet. (behind k other other_at on).flying place node packet)
          ((λ i. is_in_strips (coded i) (kind_so i))) j made at covers stands quiet above below

      strip_of : unit_part_by m.index unit made.work ≡ strip d (bytes_by unit made.work) m.index
      strip_of =
          let own_policy = policy_so here.world.log here.world.hosts here.world.wire here.past.attempts tellers.rows.tied.fates
          tellers.rows.shaped.shape of_piece.from oid epoch policy known targets earlier j made at in
          let own_object = object here.world.log here.world.hosts here.world.wire here.past.attempts tellers.rows.tied.fates
          tellers.rows.shaped.shape of_piece.from oid epoch policy known targets earlier j made at in
          (λ i. part ((own_policy ∙ coded) i) ((ap kind_of own_object ∙ kind_so) i) m.index (bytes_by unit made.work))
          ∙ part_of_block d p m.index (bytes_by unit made.work) is_block.1

      gave_strip : GaveStrip d piece.offset unit (bytes_by unit made.work) m
      gave_strip =
          sym (λ i. piece_at gave (part_size (coded i) (kind_so i) (unit_start (kind_so i) unit) - part_size (coded i) (kind_so i)
          piece.offset) (part_size (coded i) (kind_so i) (unit_size (kind_so i) unit))) ∙ part_so ∙ strip_of

    -- ---- as many as the read needs

    need_so : need_of policy (kind_of oid) ≡ d
    need_so = λ i. need_of (coded i) (kind_so i)

    enough : d ≤ length (successes now)
    enough =
        let done : nat_le (need_of policy (kind_of oid)) (length (successes now)) ≡ true = sym (λ i. is_done (is_read i) now) ∙ ends.done in
        let most = leb-true (need_of policy (kind_of oid)) (length (successes now)) done in
        let need = need_so in
        omega (arith, most, need)

    abbrev taken : List Message
    taken = take d (successes now)

    given_so : bytes_through (Coded d p) Block (take d (successes now)) ≡ bytes
    given_so =
        sym (λ i. bytes_through (coded i) (kind_so i) (take (need_so i) (successes now)))
        ∙ sym (λ i. bytes_given (is_read i) now) ∙ ends.given

    block_so : piece_at bytes (BLOCK_BYTES * unit - piece.offset) BLOCK_BYTES ≡ bytes_by unit made.work
    block_so =
        ap (λ (all : List ℕ). piece_at all (BLOCK_BYTES * unit - piece.offset) BLOCK_BYTES) (sym given_so)
        ∙ block_read d p piece.offset unit is_policy blocks.offset inside.first (bytes_by unit made.work) is_block taken
        (length-take-le d (successes now) enough) (points-first d now of_read.indexes)
        (all_taken (GaveStrip d piece.offset unit (bytes_by unit made.work)) d (successes now)
        (all_successes (GaveStrip d piece.offset unit (bytes_by unit made.work)) now gave_strip))

  -- the policy is one, as the read may be asked
  pub block_stands : piece_at bytes (BLOCK_BYTES * unit - piece.offset) BLOCK_BYTES ≡ bytes_by unit made.work
  block_stands =
      let work_is : IsWork work.work
      = ((reading_along script range start began trail stepping.n was at_host).sound.open_works req work
      ends.ends.learns.there).range.is_work in
      block_so (subst IsPolicy coded (subst IsWork is_read work_is).0)

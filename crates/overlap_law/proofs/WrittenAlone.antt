-- A piece that the last attempt on its object made: nothing else is to come of its blocks. It becomes so as its create or write is done,
-- and stays so over a change that begins no attempt on the object.
use Rattle.std.proofs.Common.{◌≡◌, ⊎_elim, arith, ℕ, ◌<◌, ◌≤◌, ◌==◌, true, List, length, Some, slice_get, sym, ap, subst, ◌∙◌}
use Rattle.std.specs.List.{list_all}
use Rattle.std.specs.Str.{bytes_eq}
use Rattle.std.proofs.lemmas.Bool.{cases_lt}
use Rattle.std.proofs.lemmas.Option.{same_Some}
use Rattle.proof_tools.proofs.FiniteMaps.{get-insert_same}
use Rattle.object_id.specs.Oid.{object_number}
use Rattle.cluster_script.specs.declared.statement.Statement.{Statement}
use Rattle.peer_proto.specs.Work.{oid_of}
use Rattle.peer_proto.specs.declared.work.ObjWork.{ObjWork}
use Rattle.gateway.specs.Attempt as gateways
use Rattle.gateway.specs.State.{Work}
use Rattle.gateway.specs.Work.{is_making}
use Rattle.gateway.specs.declared.message.Status.{Status}
use Rattle.guest_driver.specs.Pieces.{Piece}
use Rattle.sheep_node.specs.Changes.{LearnsStatus}
use Rattle.sheep_node.specs.StepState.{StepState}
use Rattle.sheep_world.specs.Began.{Began}
use Rattle.sheep_world.specs.NodeCauses.{input_of_cause, host_with_node}
use Rattle.sheep_world.specs.RunsWithAsks.{Move}
use Rattle.overlap_law.specs.Attempts.{AttemptRecord, object_of}
use Rattle.overlap_law.specs.Each.{EachAttempt}
use Rattle.overlap_law.specs.MomentChanges.{MomentChange, MomentTrail, RunsAreInRange}
use Rattle.overlap_law.specs.Past.{MomentWithPast, run_with_past}
use Rattle.overlap_law.specs.Pieces.{IsInPiece, bytes_for}
use Rattle.overlap_law.specs.StepMoments.{SteppingNode, IsStepping, StepsByChanges, LeadsInStep, first_in_step, moment_in_step}
use Rattle.overlap_law.specs.TiedAttempts.{IsTied}
use Rattle.overlap_law.specs.ToCome.{IsToCome}
use Rattle.overlap_law.specs.Units.{bytes_by}
use Rattle.overlap_law.specs.Words.{Hosts}
use Rattle.overlap_law.specs.WrittenBlocks.{outcomes_in}
use Rattle.overlap_law.specs.WrittenPieces.{HasPiece, IsWrittenAlone}
use Rattle.overlap_law.proofs.AnswersInMoments.{not_lost}
use Rattle.overlap_law.proofs.DoneMade.{done_made}
use Rattle.overlap_law.proofs.ItemsGoOn.{same_bytes}
use Rattle.overlap_law.proofs.LatestInRuns.{latest-in_run}
use Rattle.overlap_law.proofs.NewAttempts.{WasAttempt, IsOpened, come_from}
use Rattle.overlap_law.proofs.OutcomesToCome.{all_by, outcomes_come}
use Rattle.overlap_law.proofs.RunsByChanges.{on_the_way}
use Rattle.overlap_law.proofs.TiedInRuns.{kept_tied}
use Rattle.overlap_law.proofs.ToComeStays.{made_later, still_there}
use Rattle.overlap_law.proofs.WorkedInRuns.{holds_then}

-- whatever is to come of a block of the piece has its bytes
pub alone_to_come : (hosts : Hosts) (attempts : List AttemptRecord) (vid : ℕ) (payload : List ℕ) (piece : Piece)
    → IsWrittenAlone attempts vid payload piece → (unit : ℕ) → IsInPiece piece unit → (j : ℕ) (attempt : AttemptRecord)
    → IsToCome hosts attempts (object_number vid piece.index) unit j attempt → bytes_by unit attempt.work ≡ bytes_for payload piece unit
alone_to_come hosts attempts vid payload piece is unit inside j attempt comes = ⊎_elim
    (λ (behind : j < is.place).
    let unmade = comes.last is.place is.attempt is.there behind is.object (is.has unit inside).0 in
    let made = is.made in
    absurd (cc (made, unmade)))
    (λ (beyond : is.place ≤ j).
    let within : j ≤ is.place = is.last j attempt comes.there comes.object in
    let same : j ≡ is.place = omega (arith, beyond, within) in
    let one : attempt ≡ is.attempt
    = same_Some attempt is.attempt (sym comes.there ∙ ap (slice_get attempts) same ∙ is.there) in
    ap (λ (a : AttemptRecord). bytes_by unit a.work) one ∙ (is.has unit inside).1)
    (cases_lt j is.place)

-- so is each outcome of it
pub alone_outcomes : (hosts : Hosts) (attempts : List AttemptRecord)
    → EachAttempt attempts (λ j attempt. length attempt.fates ≡ length attempt.targets) → (vid : ℕ) (payload : List ℕ) (piece : Piece)
    → IsWrittenAlone attempts vid payload piece → (unit : ℕ) → IsInPiece piece unit
    → list_all (λ (attempt : AttemptRecord). bytes_eq (bytes_for payload piece unit) (bytes_by unit attempt.work))
    (outcomes_in hosts attempts vid vid piece.index unit) ≡ true
alone_outcomes hosts attempts whole vid payload piece is unit inside =
    all_by (λ (attempt : AttemptRecord). bytes_eq (bytes_for payload piece unit) (bytes_by unit attempt.work))
    (outcomes_in hosts attempts vid vid piece.index unit)
    (λ p attempt at.
    let (j, comes) = outcomes_come hosts (object_number vid piece.index) unit (vid == vid) attempts whole p attempt at in
    subst (λ (bytes : List ℕ). bytes_eq (bytes_for payload piece unit) bytes ≡ true)
    (sym (alone_to_come hosts attempts vid payload piece is unit inside j attempt comes)) (same_bytes (bytes_for payload piece unit)))

-- ---- a change that begins no attempt on the object

module _ (script : List Statement) (range : RunsAreInRange script) (start before after : MomentWithPast) (began : Began script start.world)
    (change : MomentChange script start before after) where
  pub alone_later : (vid : ℕ) (payload : List ℕ) (piece : Piece)
      → ((new : AttemptRecord) → IsOpened script start after new → object_of new ≡ object_number vid piece.index → ⊥)
      → IsWrittenAlone before.past.attempts vid payload piece → IsWrittenAlone after.past.attempts vid payload piece
  alone_later vid payload piece none is =
      let (fates, there) = still_there script range start before after began change is.place is.attempt is.there in
      record {
        place = is.place;
        attempt = record is.attempt { fates = fates };
        there = there;
        object = is.object;
        made = made_later script range start before after began change is.place is.attempt
            (record is.attempt { fates = fates }) is.there there
            is.made;
        last = λ k later got object. ⊎_elim
            (λ (w : WasAttempt before k later). is.last k w.was w.at (ap (λ (a : AttemptRecord). object_of a) w.same ∙ object))
            (λ (o : IsOpened script start after later). absurd (none later o object))
            (come_from script range start began change k later got);
        has = is.has;
      }

-- ---- a create or write that is done

module _ (script : List Statement) (range : RunsAreInRange script) (events : List Move) (start : MomentWithPast)
    (ran : run_with_past script events ≡ Some start) (on : SteppingNode) (is : IsStepping script start.world on)
    (by : StepsByChanges on.cause) (so_far : StepState) (leads : LeadsInStep on (first_in_step on) so_far)
    (trail : MomentTrail script start (moment_in_step script on start so_far)) (req number : ℕ) (work : Work)
    (current : gateways.Attempt) (status : Status)
    (learns : LearnsStatus (input_of_cause on.cause) on.host.node so_far req number work current status)
    (done : gateways.is_done work.work (gateways.messages_with_status number status current.messages) ≡ true)
    (making : is_making work.work ≡ true) (vid : ℕ) (payload : List ℕ) (piece : Piece)
    (object : oid_of work.work ≡ object_number vid piece.index) (has : HasPiece work.work payload piece) where
  pub done_so : IsWrittenAlone (moment_in_step script on start so_far).past.attempts vid payload piece
  done_so =
      let here : MomentWithPast = moment_in_step script on start so_far in
      let holds = holds_then script range events start ran in
      let (k, own, last, opened) = (latest-in_run script range events start here ran trail).each on.n
      (host_with_node on.host so_far.node) (get-insert_same start.world.hosts on.n (host_with_node on.host so_far.node))
      (not_lost on.host is.up) req work current learns.there making learns.open_so in
      let same : object_of own ≡ oid_of work.work = ap oid_of opened.same.work in
      record {
        place = k;
        attempt = own;
        there = last.there;
        object = same ∙ object;
        made = done_made script range start holds.begun holds.tied holds.fit on is by so_far leads req number work current status learns
            done k
            own last.there opened
            ((on_the_way script IsTied (kept_tied script range) events start here ran trail).fates.whole k own last.there);
        last = λ j later got of. last.last j later got (of ∙ sym (same ∙ object));
        has = subst (λ (w : ObjWork). HasPiece w payload piece) (sym opened.same.work) has;
      }

-- In each run in range, where a piece of a copy was on its way to an open read as an event began, each unit inside it is one that the
-- object may come to have, by what was good then, at each moment on the way of the event at which its message is unanswered.
use Rattle.std.proofs.Common.{◌≡◌, ℕ, ◌+◌, ◌-◌, ◌≤◌, ◌<◌, Bool, true, false, List, length, slice_get, Some, refl, sym, ap, ◌∙◌}
use Rattle.std.specs.FinMap as tree
use Rattle.std.proofs.lemmas.Option.{same_Some}
use Rattle.object_id.specs.declared.entry.Entry.{Entry}
use Rattle.object_id.specs.declared.node.NodeId.{NodeId}
use Rattle.object_id.specs.declared.policy.Policy.{Policy}
use Rattle.object_id.specs.Oid.{kind_of}
use Rattle.object_list.specs.Gathered.{has_node}
use Rattle.object_store.specs.Bytes.{piece_at}
use Rattle.gf256.specs.Part.{is_in_strips}
use Rattle.cluster_script.specs.declared.statement.Statement.{Statement}
use Rattle.vdi_directory.specs.Decisions.{log_effects}
use Rattle.peer_proto.specs.declared.say.PeerRsp.{PeerRsp}
use Rattle.peer_proto.specs.declared.say.PeerSay.TheVariants as says
use Rattle.peer_proto.specs.Work.{oid_of, policy_of}
use Rattle.message_wire.specs.Message.{message_name}
use Rattle.gateway.specs.declared.message.Message.{Message}
use Rattle.gateway.specs.Attempt as gateways
use Rattle.gateway.specs.State.{Work}
use Rattle.sheep_world.specs.World.{Host}
use Rattle.sheep_world.specs.RunsWithAsks.{Move}
use Rattle.overlap_law.specs.Attempts.{AttemptRecord, object_of, attempts_on}
use Rattle.overlap_law.specs.Each.{policy_in}
use Rattle.overlap_law.specs.Holders.{targets_by}
use Rattle.overlap_law.specs.InodesRead.{IsUnitToCome}
use Rattle.overlap_law.specs.MomentChanges.{MomentTrail, RunsAreInRange, Still, Then}
use Rattle.overlap_law.specs.Packets.{IsAnswering}
use Rattle.overlap_law.specs.Past.{MomentWithPast, run_with_past}
use Rattle.overlap_law.specs.Since.{AddNothingAfter}
use Rattle.overlap_law.specs.ToldPieces.{IsUnansweredOf, offset_read, ToldPiecesAreSince, IsPartInside, part_in_piece}
use Rattle.overlap_law.specs.Words.{is_made, covers_unit, unit_start, unit_size, unit_end, unit_part_by}
use Rattle.overlap_law.proofs.HeardPieces.{heard_piece}
use Rattle.overlap_law.proofs.LastReads.{open_reads-in_run}
use Rattle.overlap_law.proofs.LogsInMoments.{LogGrows, log_grows}
use Rattle.overlap_law.proofs.PendingOfNodes.{policy_stays}
use Rattle.overlap_law.proofs.PiecesToCome.{unit_to_come, part_of_made}
use Rattle.overlap_law.proofs.TellersOfPieces.{TellersAreTargets, tellers-on_the_way}
use Rattle.overlap_law.specs.Sessions.{is_of_client_at}

-- a policy that was known is so along a trail
pub policy_along : (script : List Statement) {start moment : MomentWithPast} → MomentTrail script start moment → (oid : ℕ)
    (policy : Policy)
    → policy_in (log_effects start.world.log) oid ≡ Some policy → policy_in (log_effects moment.world.log) oid ≡ Some policy
policy_along script Still oid policy known = known
policy_along script (Then {moment} {next} trail change) oid policy known =
    let grows : LogGrows moment.world.log next.world.log = log_grows script change in
    ap (λ (log : List Entry). policy_in (log_effects log) oid) grows.is
    ∙ policy_stays moment.world.log grows.rest oid policy (policy_along script trail oid policy known)

module _ (script : List Statement) (range : RunsAreInRange script) (events : List Move) (start moment : MomentWithPast)
    (is : run_with_past script events ≡ Some start) (trail : MomentTrail script start moment) (n : ℕ) (now : Host)
    (there : tree.get moment.world.hosts n ≡ Some now) (up : now.is_lost ≡ false) (req place : ℕ) (work : Work)
    (current : gateways.Attempt) (message : Message) (of : IsUnansweredOf now.node.gateway.works req work current place message)
    (own : is_of_client_at req now.node ≡ false) where
  abbrev oid : ℕ
  oid = oid_of work.work

  tellers : TellersAreTargets moment
  tellers = tellers-on_the_way script range events start moment is trail

  -- the unit of a piece that is held
  pub piece_is_to_come : (good : ℕ → Bool) (told : ToldPiecesAreSince (log_effects start.world.log) good start.world.hosts
      start.world.wire
      start.past.attempts) (first : Host) (first_there : tree.get start.world.hosts n ≡ Some first)
      (given : message.number < first.node.sends) (from : NodeId) (rsp : PeerRsp) (bytes : List ℕ)
      (answering : IsAnswering start.world.wire (message_name n message.number) from rsp) (said : rsp.say ≡ says.Piece bytes)
      → good (oid_of work.work) ≡ true
      → policy_in (log_effects start.world.log) (oid_of work.work) ≡ Some (policy_of work.work)
      → is_in_strips (policy_of work.work) (kind_of (oid_of work.work)) ≡ false
      → (unit : ℕ) → offset_read work.work ≤ unit_start (kind_of (oid_of work.work)) unit
      → unit_end (kind_of (oid_of work.work)) unit ≤ offset_read work.work + length bytes
      → (k : ℕ) (made : AttemptRecord) → slice_get moment.past.attempts k ≡ Some made → object_of made ≡ oid_of work.work
      → covers_unit unit made ≡ true → is_made made ≡ true
      → IsUnitToCome moment.world.hosts moment.past.attempts (oid_of work.work) current.epoch.0 unit
      (piece_at bytes (unit_start (kind_of (oid_of work.work)) unit - offset_read work.work)
      (unit_size (kind_of (oid_of work.work)) unit))
  piece_is_to_come good told first first_there given from rsp bytes answering said is_good known whole unit above below k made at object
      covers is_made_one =
      let held = heard_piece script range events start is good told n first first_there message.number given from rsp bytes answering said
      moment trail now there up req place work current message of own refl in
      let known_now : policy_in (log_effects moment.world.log) oid ≡ Some (policy_of work.work)
      = policy_along script trail oid (policy_of work.work) known in
      let same : held.teller.policy ≡ policy_of work.work
      = same_Some held.teller.policy (policy_of work.work) (sym held.teller.made ∙ known_now) in
      unit_to_come moment.world.log moment.world.hosts moment.world.wire moment.past.attempts tellers.rows.tied.fates
      tellers.rows.shaped.shape from oid current.epoch.0 message.index (offset_read work.work) (policy_of work.work) known_now
      (ap (λ (p : Policy). has_node from (targets_by moment.world.log current.epoch.0 oid p)) (sym same) ∙ held.teller.target)
      (λ j attempt attempt_at attempt_on.
      (open_reads-in_run script range events start moment is trail n now there up req work current of.there held.teller.reads own of.stage j
      attempt attempt_at attempt_on).epochs)
      bytes (held.since is_good known) unit whole above below
      (λ j attempt attempt_at attempt_on.
      (open_reads-in_run script range events start moment is trail n now there up req work current of.there held.teller.reads own of.stage j
      attempt attempt_at attempt_on).flying) k made at object covers is_made_one

  -- and a part of strips is that of a made attempt, if what came behind it adds nothing
  pub part_is_of_made : (good : ℕ → Bool) (told : ToldPiecesAreSince (log_effects start.world.log) good start.world.hosts
      start.world.wire start.past.attempts) (first : Host) (first_there : tree.get start.world.hosts n ≡ Some first)
      (given : message.number < first.node.sends) (from : NodeId) (rsp : PeerRsp) (bytes : List ℕ)
      (answering : IsAnswering start.world.wire (message_name n message.number) from rsp) (said : rsp.say ≡ says.Piece bytes)
      → good (oid_of work.work) ≡ true
      → policy_in (log_effects start.world.log) (oid_of work.work) ≡ Some (policy_of work.work)
      → is_in_strips (policy_of work.work) (kind_of (oid_of work.work)) ≡ true
      → (unit j : ℕ) (made : AttemptRecord) → slice_get (attempts_on (oid_of work.work) moment.past.attempts) j ≡ Some made
      → covers_unit unit made ≡ true → is_made made ≡ true
      → AddNothingAfter (attempts_on (oid_of work.work) moment.past.attempts) unit j made
      → IsPartInside work.work unit (length bytes) → part_in_piece work.work unit bytes ≡ unit_part_by message.index unit made.work
  part_is_of_made good told first first_there given from rsp bytes answering said is_good known strips unit j made at covers is_made_one
      quiet inside =
      let held = heard_piece script range events start is good told n first first_there message.number given from rsp bytes answering said
      moment trail now there up req place work current message of own refl in
      let known_now : policy_in (log_effects moment.world.log) oid ≡ Some (policy_of work.work)
      = policy_along script trail oid (policy_of work.work) known in
      let same : held.teller.policy ≡ policy_of work.work
      = same_Some held.teller.policy (policy_of work.work) (sym held.teller.made ∙ known_now) in
      part_of_made moment.world.log moment.world.hosts moment.world.wire moment.past.attempts tellers.rows.tied.fates
      tellers.rows.shaped.shape from oid current.epoch.0 message.index (offset_read work.work) (policy_of work.work) known_now
      (ap (λ (p : Policy). has_node from (targets_by moment.world.log current.epoch.0 oid p)) (sym same) ∙ held.teller.target)
      (λ k attempt attempt_at attempt_on.
      (open_reads-in_run script range events start moment is trail n now there up req work current of.there held.teller.reads own of.stage k
      attempt attempt_at attempt_on).epochs)
      bytes (held.since is_good known) unit strips j made at covers is_made_one quiet inside.above inside.below

-- At each moment on the way of an event of a run in range a node that served an attempt has a row of the object that covers the attempt's
-- epoch, unless a later one is settled by what the node has read, or the object's id is dead.
use Rattle.std.proofs.Common.{◌≡◌, ◌⊎◌, inl, inr, ⊎_elim, arith, ℕ, ◌≤◌, ◌<◌, not, Bool, true, false, List, ◌++◌, Option, Some, None}
use Rattle.std.proofs.Common.{is_some, slice_get, refl, sym, ap, subst, ◌∙◌}
use Rattle.std.specs.Option.{option_map_or}
use Rattle.std.specs.FinMap as tree
use Rattle.std.proofs.lemmas.Bool.{and_parts, leb-true}
use Rattle.std.proofs.lemmas.Option.{same_Some}
use Rattle.object_id.specs.declared.entry.Entry.{Entry}
use Rattle.object_id.specs.declared.node.NodeId.{NodeId}
use Rattle.object_id.specs.Oid.{kind_of, vid_of}
use Rattle.epoch_log.specs.Epochs.{settled_of}
use Rattle.gf256.specs.Part.{index_at}
use Rattle.object_store.specs.Store.{rows_of}
use Rattle.cluster_script.specs.declared.statement.Statement.{Statement}
use Rattle.peer_proto.specs.declared.ask.PeerReq.{PeerReq}
use Rattle.peer_proto.specs.declared.say.PeerRsp.{PeerRsp}
use Rattle.peer_proto.specs.declared.say.PeerSay.TheVariants as says
use Rattle.peer_proto.specs.Work.{policy_of}
use Rattle.vdi_directory.specs.Dead.{is_dead}
use Rattle.vdi_directory.specs.Decisions.{log_effects}
use Rattle.vdi_directory.proofs.DeadLemmas.{dead-stays}
use Rattle.vdi_directory.proofs.DeadTests.{test-finds-dead}
use Rattle.peer_service.specs.State.{Peer}
use Rattle.peer_service.specs.Serve.{peer_step}
use Rattle.sheep_node.specs.StepFacts.{read_after}
use Rattle.sheep_node.specs.Step.{node_step}
use Rattle.sheep_node.proofs.PeerLog.{Log, served_same}
use Rattle.sheep_node.proofs.StepResults.{step_reads}
use Rattle.sheep_world.specs.World.{Host}
use Rattle.sheep_world.specs.Began.{Began}
use Rattle.sheep_world.specs.RunsWithAsks.{Move}
use Rattle.overlap_law.specs.Attempts.{AttemptRecord, object_of}
use Rattle.overlap_law.specs.Words.{has_served}
use Rattle.overlap_law.specs.Reached.{Hosts}
use Rattle.overlap_law.specs.Holders.{is_object_among, born_objects, is_dead_by_log, is_live_object}
use Rattle.overlap_law.specs.Past.{MomentWithPast, first_moment, run_with_past}
use Rattle.overlap_law.specs.TiedAttempts.{IsTied}
use Rattle.overlap_law.specs.ShapedAttempts.{AreShaped}
use Rattle.overlap_law.specs.Rows.{ServedRowsStay}
use Rattle.overlap_law.specs.MomentChanges.{MomentChange, MomentTrail, RunsAreInRange, KeptByChanges}
use Rattle.overlap_law.proofs.CoveredLevels.{Covers}
use Rattle.overlap_law.proofs.EpochsInRuns.{settled_less}
use Rattle.overlap_law.proofs.LevelsStay.{IsGone, level-stays}
use Rattle.overlap_law.proofs.LogsInMoments.{LogGrows, log_grows}
use Rattle.overlap_law.proofs.PeersInMoments.{PeerStep, PeerChange, PeerStays, PeerSteps, PeerIsNew, peers_change, peers_so}
use Rattle.overlap_law.proofs.ReadInMoments.{HostsAreSound, opening_began, kept_sound}
use Rattle.overlap_law.proofs.RowsInTurn.{AreInTurn}
use Rattle.overlap_law.proofs.ServedPlaces.{AreServedSo, AreSoOnSuccess, served_at, served_from, traffic_served}
use Rattle.overlap_law.proofs.ShapedAttempts.{kept_shaped}
use Rattle.overlap_law.proofs.RunsByChanges.{on_the_way}
use Rattle.overlap_law.proofs.SuccessfulRows.{success-covers}
use Rattle.overlap_law.proofs.TiedInRuns.{kept_tied}
use Rattle.overlap_law.proofs.TrafficOfChanges.{traffic}
use Rattle.overlap_law.proofs.TrafficServers.{success_in_epoch, say_of_served}
use Rattle.overlap_law.proofs.TurnsOfRows.{rows_in_turn}

-- ---- what is dead stays so

pub dead_later : (log later : List Entry) (vid : ℕ) → is_dead (log_effects log) vid ≡ true → is_dead (log_effects (log ++ later)) vid ≡ true
dead_later log later vid dead =
    (test-finds-dead (log ++ later) vid).1 (dead-stays log later vid ((test-finds-dead log vid).0 dead))

pub alive_before : (log later : List Entry) (vid : ℕ) → is_dead (log_effects (log ++ later)) vid ≡ false
    → is_dead (log_effects log) vid ≡ false
alive_before log later vid alive = by_test (is_dead (log_effects log) vid) refl
  where
    by_test : (b : Bool) → is_dead (log_effects log) vid ≡ b → b ≡ false
    by_test true dead = let now = dead_later log later vid dead in absurd (cc (now, alive))
    by_test false is = refl

-- what is live isn't dead
pub not_dead : (log : List Entry) (attempts : List AttemptRecord) (oid : ℕ) → is_live_object log attempts oid ≡ true
    → is_dead_by_log log oid ≡ false
not_dead log attempts oid live =
    by_test (is_dead_by_log log oid) (and_parts (is_object_among oid (born_objects attempts)) (not (is_dead_by_log log oid)) live).1
  where
    by_test : (b : Bool) → not b ≡ true → b ≡ false
    by_test true is = absurd (cc (is))
    by_test false is = refl

-- ---- what is kept

-- a row of the object covers the level, or a later epoch is settled
abbrev pub IsKeptAt : Peer → ℕ → ℕ → Type 0
IsKeptAt peer oid level = Covers level peer.epoch (rows_of peer.rows oid) ⊎ (level < peer.settled)

-- the object's id isn't dead
abbrev IsAlive : MomentWithPast → ℕ → Type 0
IsAlive moment oid = is_dead_by_log moment.world.log oid ≡ false

-- the target of an attempt has such a row, while the object's id isn't dead
abbrev pub KeepsItsRow : MomentWithPast → AttemptRecord → NodeId → Type 0
KeepsItsRow moment attempt target = (host : Host) → tree.get moment.world.hosts target.0 ≡ Some host
    → is_dead_by_log moment.world.log (object_of attempt) ≡ false → IsKeptAt host.node.peer (object_of attempt) attempt.epoch

-- the rows of each node stand in turn
abbrev pub StandInTurn : Hosts → Type 0
StandInTurn hosts = (n : ℕ) (host : Host) → tree.get hosts n ≡ Some host → (oid : ℕ)
    → AreInTurn host.node.peer.epoch (rows_of host.node.peer.rows oid)

-- what holds of a moment together
pub record RowsHold (moment : MomentWithPast) : Type 0 where
  pub tied : IsTied moment
  pub sound : HostsAreSound moment
  pub shaped : AreShaped moment
  pub turns : StandInTurn moment.world.hosts
  pub served : AreServedSo (KeepsItsRow moment) moment.past.attempts

-- ---- over a change of a moment

module _ (script : List Statement) (range : RunsAreInRange script) (start before after : MomentWithPast) (began : Began script start.world)
    (change : MomentChange script start before after) (holds : RowsHold before) (sound_after : HostsAreSound after) where
  grows : LogGrows before.world.log after.world.log
  grows = log_grows script change

  alive_then : (oid : ℕ) → is_dead_by_log after.world.log oid ≡ false → is_dead_by_log before.world.log oid ≡ false
  alive_then oid alive =
      alive_before before.world.log grows.rest (vid_of oid)
      (ap (λ (log : List Entry). is_dead (log_effects log) (vid_of oid)) (sym grows.is) ∙ alive)

  -- a node that has served came to the epoch
  came : (j : ℕ) (attempt : AttemptRecord) (target : NodeId) → slice_get before.past.attempts j ≡ Some attempt
      → has_served target attempt ≡ true
      → attempt.epoch ≤ option_map_or (λ (host : Host). host.node.peer.epoch) (tree.get before.world.hosts target.0) 0
  came j attempt target there served =
      leb-true attempt.epoch (option_map_or (λ (host : Host). host.node.peer.epoch) (tree.get before.world.hosts target.0) 0)
      (holds.tied.reached.each j attempt there target served)

  -- one host's step keeps what a row covered
  pub step_keeps : (n : ℕ) (was host : Host) → tree.get before.world.hosts n ≡ Some was → tree.get after.world.hosts n ≡ Some host
      → PeerStep was host → (oid level : ℕ) → level ≤ was.node.peer.epoch → IsAlive after oid
      → IsKeptAt was.node.peer oid level → IsKeptAt host.node.peer oid level
  step_keeps n was host there got step oid level most alive kept = ⊎_elim
      (λ (covers : Covers level was.node.peer.epoch (rows_of was.node.peer.rows oid)). ⊎_elim
      (λ (still : Covers level (node_step step.input was.node).node.peer.epoch
      (rows_of (node_step step.input was.node).node.peer.rows oid)).
      inl (subst (λ (peer : Peer). Covers level peer.epoch (rows_of peer.rows oid)) step.peer_so still))
      (λ (gone : IsGone (read_after step.input was.node.peer.entries) level oid). ⊎_elim
      (λ (dead : is_dead (log_effects (read_after step.input was.node.peer.entries)) (vid_of oid) ≡ true). absurd (lives dead))
      (λ (late : level < settled_of (read_after step.input was.node.peer.entries)). inr (settles late))
      gone)
      (level-stays was.node step.input level most oid covers))
      (λ (late : level < was.node.peer.settled). inr (later late))
      kept
    where
      read : host.node.peer.entries ≡ read_after step.input was.node.peer.entries
      read = ap (λ (peer : Peer). peer.entries) (sym step.peer_so) ∙ step_reads step.input was.node

      lives : is_dead (log_effects (read_after step.input was.node.peer.entries)) (vid_of oid) ≡ true → ⊥
      lives dead =
          let front = (sound_after.each n host got).read.front in
          let here : is_dead (log_effects host.node.peer.entries) (vid_of oid) ≡ true
          = ap (λ (log : List Entry). is_dead (log_effects log) (vid_of oid)) read ∙ dead in
          let now : is_dead_by_log after.world.log oid ≡ true
          = ap (λ (log : List Entry). is_dead (log_effects log) (vid_of oid)) front.is
          ∙ dead_later host.node.peer.entries front.rest (vid_of oid) here in
          cc (now, alive)

      settles : level < settled_of (read_after step.input was.node.peer.entries) → level < host.node.peer.settled
      settles late =
          let at : host.node.peer.settled ≡ settled_of (read_after step.input was.node.peer.entries)
          = (sound_after.each n host got).read.settled_so ∙ ap settled_of read in
          omega (arith, late, at)

      later : level < was.node.peer.settled → level < host.node.peer.settled
      later late =
          let at : was.node.peer.settled ≡ settled_of was.node.peer.entries = (holds.sound.each n was there).read.settled_so in
          let now : host.node.peer.settled ≡ settled_of (was.node.peer.entries ++ step.more)
          = (sound_after.each n host got).read.settled_so ∙ ap settled_of read ∙ ap settled_of step.reads in
          let more : settled_of was.node.peer.entries ≤ settled_of (was.node.peer.entries ++ step.more)
          = settled_less was.node.peer.entries step.more in
          omega (arith, late, at, now, more)

  carried : AreServedSo (KeepsItsRow after) before.past.attempts
  carried j attempt there place target among served host got alive =
      by_change (peers_change script range start began change target.0 host got)
    where
      has : has_served target attempt ≡ true
      has = served_from target attempt.targets attempt.fates place among served

      by_change : PeerChange before target.0 host → IsKeptAt host.node.peer (object_of attempt) attempt.epoch
      by_change (PeerStays was was_there same) =
          subst (λ (peer : Peer). IsKeptAt peer (object_of attempt) attempt.epoch) same
          (holds.served j attempt there place target among served was was_there (alive_then (object_of attempt) alive))
      by_change (PeerSteps was was_there step) =
          let most : attempt.epoch ≤ was.node.peer.epoch
          = subst (λ (o : Option Host). attempt.epoch ≤ option_map_or (λ (host : Host). host.node.peer.epoch) o 0) was_there
          (came j attempt target there has) in
          step_keeps target.0 was host was_there got step (object_of attempt) attempt.epoch most alive
          (holds.served j attempt there place target among served was was_there (alive_then (object_of attempt) alive))
      by_change (PeerIsNew tries none is) =
          let epoch = came j attempt target there has in
          let reserved = holds.shaped.known.reserved j attempt there in
          let known = holds.shaped.known.before j attempt there in
          absurd (by_none (tree.get before.world.hosts target.0) none (omega (arith, epoch, reserved, known)))
        where
          by_none : (o : Option Host) → is_some o ≡ false → 1 ≤ option_map_or (λ (host : Host). host.node.peer.epoch) o 0 → ⊥
          by_none None none some = omega (arith, some)
          by_none (Some host) none some = cc (none)

  newly : AreSoOnSuccess before.world.hosts after.world.hosts (KeepsItsRow after) before.past.attempts
  newly name to bytes up rsp answer served j attempt there place among request_so host got alive =
      let own : Peer = answer.host.node.peer in
      let same : answer.after ≡ host = same_Some answer.after host (sym answer.there_after ∙ got) in
      let left : (peer_step own answer.request).peer ≡ host.node.peer
      = sym answer.left ∙ ap (λ (h : Host). h.node.peer) same in
      let said : (peer_step own answer.request).say ≡ says.Success
      = ap (λ (r : PeerRsp). r.say) answer.said ∙ say_of_served rsp.say served in
      let epoch : own.epoch ≡ attempt.epoch
      = success_in_epoch own answer.request said ∙ ap (λ (r : PeerReq). r.epoch.0) request_so in
      let covers : Covers own.epoch own.epoch (rows_of (peer_step own answer.request).peer.rows (object_of attempt))
      = success-covers own (holds.turns to.0 answer.host answer.there) answer.request attempt.work
      (index_at (policy_of attempt.work) (kind_of (object_of attempt)) place) (holds.shaped.shape.making j attempt there)
      (ap (λ (r : PeerReq). r.ask) request_so) said in
      let stays : own.epoch ≡ (peer_step own answer.request).peer.epoch
      = sym (ap (λ (log : Log). log.epoch) (served_same own answer.request)) in
      inl (subst (λ (peer : Peer). Covers attempt.epoch peer.epoch (rows_of peer.rows (object_of attempt))) left
      (subst (λ (level : ℕ). Covers level (peer_step own answer.request).peer.epoch
      (rows_of (peer_step own answer.request).peer.rows (object_of attempt))) epoch
      (subst (λ (at : ℕ). Covers own.epoch at (rows_of (peer_step own answer.request).peer.rows (object_of attempt))) stays covers)))

  pub served_after : AreServedSo (KeepsItsRow after) after.past.attempts
  served_after =
      traffic_served before.world.hosts after.world.hosts before.world.wire before.past.attempts holds.tied.fates (KeepsItsRow after)
      (λ attempt told target is. is) carried (traffic script range start began change) newly

-- ---- every moment

module _ (script : List Statement) (range : RunsAreInRange script) where
  -- the rows of each node stand in turn
  abbrev TurnsOf : ℕ → Peer → Type 0
  TurnsOf n peer = (oid : ℕ) → AreInTurn peer.epoch (rows_of peer.rows oid)

  opening_holds : RowsHold (first_moment script)
  opening_holds = record {
    tied = (kept_tied script range).opens;
    sound = (kept_sound script range).opens;
    shaped = (kept_shaped script range).opens;
    turns = rows_in_turn script range (first_moment script).world (opening_began script range);
    served = λ j attempt got. absurd (cc (got));
  }

  change_holds : (start before after : MomentWithPast) → Began script start.world → MomentChange script start before after → RowsHold before
      → RowsHold after
  change_holds start before after began change holds =
      let sound : HostsAreSound after = (kept_sound script range).keeps start before after began change holds.sound in
      record {
        tied = (kept_tied script range).keeps start before after began change holds.tied;
        sound = sound;
        shaped = (kept_shaped script range).keeps start before after began change holds.shaped;
        turns = peers_so script TurnsOf (rows_in_turn script range) start began change;
        served = served_after script range start before after began change holds sound;
      }

  pub kept_rows : KeptByChanges script RowsHold
  kept_rows = record {
    opens = opening_holds;
    keeps = λ start before after began change holds. change_holds start before after began change holds;
  }

module _ (script : List Statement) (range : RunsAreInRange script) (events : List Move) (start moment : MomentWithPast)
    (is : run_with_past script events ≡ Some start) (trail : MomentTrail script start moment) where
  pub stays-on_the_way : ServedRowsStay (is_live_object moment.world.log moment.past.attempts) moment.world.hosts moment.past.attempts
  stays-on_the_way = record {
    each = λ j attempt there n host got live has.
        let (place, target, among, served, own) = served_at (record { 0 = n }) attempt.targets attempt.fates has in
        let holds = on_the_way script RowsHold (kept_rows script range) events start moment is trail in
        holds.served j attempt there place target among served host (ap (tree.get moment.world.hosts) own ∙ got)
        (not_dead moment.world.log moment.past.attempts (object_of attempt) live);
  }

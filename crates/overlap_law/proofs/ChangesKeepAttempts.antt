-- Each change of a moment keeps the fates, what is told of them, the order of the attempts, and that open ones are the latest.
use Rattle.std.proofs.Common.{◌≡◌, ◌≢◌, arith, ℕ, true, List, [], ◌∷◌, ◌++◌, length, option_map, Some, slice_get, ⊎_elim, sym, ap, subst}
use Rattle.std.proofs.Common.{◌∙◌}
use Rattle.std.proofs.lemmas.Option.{slice_get-map, slice_get_within}
use Rattle.object_id.specs.declared.node.NodeId.{NodeId}
use Rattle.cluster_script.specs.declared.statement.Statement.{Statement}
use Rattle.peer_proto.specs.declared.ask.PeerReq.{PeerReq}
use Rattle.peer_proto.specs.Work.{oid_of}
use Rattle.message_wire.specs.declared.packet.Packet.{Packet}
use Rattle.message_wire.specs.declared.packet.Packet.TheVariants.{Request, Reply}
use Rattle.gateway.specs.Work.{is_making}
use Rattle.gateway.specs.Attempt as gateways
use Rattle.gateway.specs.State.{Work}
use Rattle.sheep_node.specs.State.{Node}
use Rattle.sheep_world.specs.Began.{Began}
use Rattle.overlap_law.specs.Attempts.{AttemptRecord, MessageFate, Doomed, attempt_with_fate, attempts_with_fate, fate_of_say, object_of}
use Rattle.overlap_law.specs.Reached.{Hosts}
use Rattle.overlap_law.specs.Past.{MomentWithPast}
use Rattle.overlap_law.specs.Packets.{Wire}
use Rattle.overlap_law.specs.Fates.{FatesAreOfTheWire, AttemptsAreOfIncarnations, AttemptsAreOrdered}
use Rattle.overlap_law.specs.Flight.{FatesAreTold}
use Rattle.overlap_law.specs.OpenWorks.{IsTheSame, IsLast, OpenAttemptsAreLatest}
use Rattle.overlap_law.specs.Sessions.{MakersAreApart}
use Rattle.overlap_law.specs.Writers.{WorksMayWrite}
use Rattle.overlap_law.specs.StepMoments.{attempts_with_loss}
use Rattle.overlap_law.specs.MomentChanges.{MomentChange, RunsAreInRange}
use Rattle.overlap_law.specs.Traffic.{IsBegunBy, BeginsInTurn, OpenAttemptsHaveMessages, Traffic, NothingMoves, MessageIsLost}
use Rattle.overlap_law.specs.Traffic.{ReplyIsReceived, RequestIsAnswered, RequestsAreSent, AttemptBegins, RepliesGo}
use Rattle.overlap_law.proofs.AttemptLists.{got_more, got_still, got_last, got_marked, marked_shape, fates_told}
use Rattle.overlap_law.proofs.BegunAlone.{begins_alone}
use Rattle.overlap_law.proofs.OpenAttempts.{WasOpen}
use Rattle.overlap_law.proofs.OpenInMoments.{open_or_begins}
use Rattle.overlap_law.proofs.TrafficFates.{traffic_fates}
use Rattle.overlap_law.proofs.TrafficOfChanges.{traffic}
use Rattle.overlap_law.proofs.TrafficOrder.{traffic_ordered}
use Rattle.overlap_law.proofs.TrafficReplies.{traffic_told}

-- ---- the last on its object

-- an attempt is still the last, but for its fates
abbrev StillLast : List AttemptRecord → ℕ → AttemptRecord → Type 0
StillLast after j attempt = (fates : List MessageFate) × IsLast after j (record attempt { fates = fates })

last_marked : (told : MessageFate) (sender : NodeId) (number : ℕ) (attempts : List AttemptRecord) (j : ℕ) (attempt : AttemptRecord)
    → IsLast attempts j attempt
    → StillLast (attempts_with_fate told sender number attempts) j attempt
unfolding attempts_with_fate
last_marked told sender number attempts j attempt last = (
  fates_told told sender number attempt,
  record {
    there =
        slice_get-map (attempt_with_fate told sender number) attempts j ∙ ap (option_map (attempt_with_fate told sender number)) last.there
        ∙ ap (λ (a : AttemptRecord). Some a) (marked_shape told sender number attempt);
    last = λ k other got same.
        let (was, there, is) = got_marked told sender number attempts k other got in
        last.last k was there (ap object_of is ∙ same);
  },
)

still_last : (hosts hosts_after : Hosts) (wire later : Wire) (attempts after : List AttemptRecord)
    → Traffic hosts hosts_after wire attempts later after → (j : ℕ) (attempt : AttemptRecord) → IsLast attempts j attempt
    → ((k : ℕ) (sends : List (NodeId × PeerReq)) (new : AttemptRecord) → IsBegunBy hosts hosts_after k sends new
    → object_of new ≢ object_of attempt)
    → StillLast after j attempt
still_last hosts hosts_after wire later attempts after NothingMoves j attempt last apart = (attempt.fates, last)
still_last hosts hosts_after wire later attempts after (MessageIsLost name packet there) j attempt last apart = by_packet packet
  where
    by_packet : (packet : Packet) → StillLast (attempts_with_loss name packet attempts) j attempt
    by_packet (Request to bytes) = last_marked Doomed name.sender name.number attempts j attempt last
    by_packet (Reply from bytes) = (attempt.fates, last)
still_last hosts hosts_after wire later attempts after (ReplyIsReceived name from bytes there) j attempt last apart = (attempt.fates, last)
still_last hosts hosts_after wire later attempts after (RequestIsAnswered name to bytes up rsp there answer) j attempt last apart =
    last_marked (fate_of_say rsp.say) name.sender name.number attempts j attempt last
still_last hosts hosts_after wire later attempts after (RequestsAreSent n sends by nothing) j attempt last apart = (attempt.fates, last)
still_last hosts hosts_after wire later attempts after (AttemptBegins n sends new begun) j attempt last apart = (
  attempt.fates,
  record {
    there = got_still attempts new j attempt last.there;
    last = λ k other got same. ⊎_elim
        (λ (old : slice_get attempts k ≡ Some other). last.last k other old same)
        (λ (own : (k ≡ length attempts) × (new ≡ other)). absurd (apart n sends new begun (ap object_of own.1 ∙ same)))
        (got_more attempts new k other got);
  },
)
still_last hosts hosts_after wire later attempts after (RepliesGo n) j attempt last apart = (attempt.fates, last)

new_last : (attempts : List AttemptRecord) (new : AttemptRecord) → IsLast (attempts ++ new ∷ []) (length attempts) new
new_last attempts new = record {
  there = got_last attempts new;
  last = λ k other got same. ⊎_elim
      (λ (old : slice_get attempts k ≡ Some other). let within = slice_get_within attempts k other old in omega (arith, within))
      (λ (own : (k ≡ length attempts) × (new ≡ other)). let at = own.0 in omega (arith, at))
      (got_more attempts new k other got);
}

-- an attempt that was a work's open one still is
same_still : (old new : Node) (req : ℕ) (work : Work) (current : gateways.Attempt) (attempt : AttemptRecord) (fates : List MessageFate)
    → new.me ≡ old.me
    → (w : WasOpen old.gateway.works req work current) → IsTheSame old req w.was.work w.before attempt
    → IsTheSame new req work.work current (record attempt { fates = fates })
same_still old new req work current attempt fates me w same = record {
  gateway = same.gateway ∙ sym me;
  request = same.request;
  work = same.work ∙ sym w.work_so;
  epoch = same.epoch ∙ ap (λ e. e.0) (sym w.epoch_so);
  targets = same.targets ∙ sym w.targets_so;
  numbers = λ place message got. let (m, found, is) = w.numbers_so place message got in is ∙ same.numbers place m found;
}

-- ---- every change

module _ (script : List Statement) (range : RunsAreInRange script) (start before after : MomentWithPast) (began : Began script start.world)
    (change : MomentChange script start before after) where
  pub keeps_fates : AttemptsAreOfIncarnations before.world.hosts before.world.wire before.past.attempts
      → FatesAreOfTheWire before.world.wire before.past.attempts → FatesAreOfTheWire after.world.wire after.past.attempts
  keeps_fates of_incarnations fates =
      traffic_fates before.world.hosts after.world.hosts before.world.wire before.past.attempts of_incarnations
      (traffic script range start began change) fates

  pub keeps_told : AttemptsAreOfIncarnations before.world.hosts before.world.wire before.past.attempts
      → FatesAreOfTheWire before.world.wire before.past.attempts
      → FatesAreTold before.world.wire before.past.attempts → FatesAreTold after.world.wire after.past.attempts
  keeps_told of_incarnations fates told =
      traffic_told before.world.hosts after.world.hosts before.world.wire before.past.attempts of_incarnations told
      (traffic script range start began change) fates

  pub keeps_ordered : AttemptsAreOfIncarnations before.world.hosts before.world.wire before.past.attempts → BeginsInTurn before after
      → AttemptsAreOrdered before.world.wire before.past.attempts → AttemptsAreOrdered after.world.wire after.past.attempts
  keeps_ordered of_incarnations begins ordered =
      traffic_ordered before.world.hosts after.world.hosts before.world.wire before.past.attempts of_incarnations
      (traffic script range start began change) begins.in_turn ordered

  pub keeps_latest : AttemptsAreOfIncarnations before.world.hosts before.world.wire before.past.attempts
      → OpenAttemptsHaveMessages after.world.hosts
      → MakersAreApart after.world.hosts → WorksMayWrite after.world.log after.world.hosts
      → OpenAttemptsAreLatest before.world.hosts before.past.attempts → OpenAttemptsAreLatest after.world.hosts after.past.attempts
  keeps_latest of_incarnations have works_apart writes latest = record {
    each = λ n host there up req work current got making stage. ⊎_elim
        (λ kept.
        let (old, was_there, was_up, me, w) = kept in
        let was_making : is_making w.was.work ≡ true = ap is_making (sym w.work_so) ∙ making in
        let (j, attempt, last, opened) = latest.each n old was_there was_up req w.was w.before w.there was_making w.stage in
        let (fates, still) = still_last before.world.hosts after.world.hosts before.world.wire after.world.wire before.past.attempts
        after.past.attempts (traffic script range start began change) j attempt last
        (λ k sends new begun same.
        begins_alone after.world.log before.world.hosts after.world.hosts before.world.wire before.past.attempts of_incarnations have
        works_apart writes n req work current
        (record {
          now = record { host = host; there = there; up = up; got = got; making = making; stage = stage };
          old = old;
          was_there = was_there;
          me = me;
          was_open = w;
          place = j;
          attempt = attempt;
          found = last.there;
          same = opened.same;
        })
        k sends new begun (same ∙ ap oid_of (opened.same.work ∙ sym w.work_so))) in (
          j,
          record attempt { fates = fates },
          still,
          record {
            there = got;
            making = making;
            stage = stage;
            same = same_still old.node host.node req work current attempt fates me w opened.same;
          },
        ))
        (λ begun.
        let (new, is, same) = begun in (
          length before.past.attempts,
          new,
          subst (λ (attempts : List AttemptRecord). IsLast attempts (length before.past.attempts) new) (sym is)
              (new_last before.past.attempts new),
          record { there = got; making = making; stage = stage; same = same },
        ))
        (open_or_begins script range start began change have n host req work current there up got making stage);
  }

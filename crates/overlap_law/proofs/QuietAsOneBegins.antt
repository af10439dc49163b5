-- As an attempt begins nothing is in flight of the attempts on its object that are of its gateway, where no two open creates or writes of a
-- node are on one object.
use Rattle.std.proofs.Common.{◌≡◌, ◌≢◌, ⊎_elim, ℕ, ◌+◌, ◌<◌, Bool, true, false, List, [], ◌∷◌, ◌++◌, length, Some, refl, sym, ap, ◌∙◌}
use Rattle.std.proofs.Common.{arith}
use Rattle.std.specs.Prelude.{is_some}
use Rattle.std.specs.List.{slice_get}
use Rattle.std.specs.FinMap as tree
use Rattle.std.proofs.lemmas.Bool.{cases_eq}
use Rattle.std.proofs.lemmas.Option.{same_Some, slice_get_within}
use Rattle.object_id.specs.declared.node.NodeId.{NodeId}
use Rattle.cluster_script.specs.declared.statement.Statement.{Statement}
use Rattle.peer_proto.specs.Work.{oid_of}
use Rattle.gateway.specs.Attempt as gateways
use Rattle.gateway.specs.State.{Work}
use Rattle.sheep_world.specs.Began.{Began}
use Rattle.overlap_law.specs.Attempts.{AttemptRecord, object_of, fate_of_say}
use Rattle.overlap_law.specs.Fates.{AttemptsAreOfIncarnations}
use Rattle.overlap_law.specs.MomentChanges.{MomentChange, RunsAreInRange}
use Rattle.overlap_law.specs.Packets.{Wire, is_name_in_wire, message_name_at, IsQuiet}
use Rattle.overlap_law.specs.Past.{MomentWithPast}
use Rattle.overlap_law.specs.Reached.{Hosts}
use Rattle.overlap_law.specs.Sessions.{MakersAreApart}
use Rattle.overlap_law.specs.Traffic.{Traffic, NothingMoves, MessageIsLost, ReplyIsReceived, RequestIsAnswered, RequestsAreSent}
use Rattle.overlap_law.specs.Traffic.{AttemptBegins, RepliesGo}
use Rattle.overlap_law.proofs.GoneInRuns.{at_end, at_push}
use Rattle.overlap_law.proofs.KnownFatesLater.{WasMarked, marked_was, lost_was}
use Rattle.overlap_law.proofs.OneWriterAtEntries.{got_longer}
use Rattle.overlap_law.proofs.OpenAttempts.{open_of}
use Rattle.overlap_law.proofs.TrafficAttempts.{HasBegun, came_from}
use Rattle.overlap_law.proofs.TrafficFates.{sends_new}
use Rattle.overlap_law.proofs.TrafficOfChanges.{traffic}
use Rattle.overlap_law.proofs.TurnsInRuns.{HasOneWriter, kept_one, never_pushed}

module _ (hosts hosts_after : Hosts) (wire : Wire) (attempts : List AttemptRecord)
    (of_incarnations : AttemptsAreOfIncarnations hosts wire attempts)
    (new : AttemptRecord) where
  none_marked : WasMarked attempts (length attempts) new → ⊥
  none_marked was = let none = at_end attempts in let some = was.at in cc (none, some)

  got_new : (after : List AttemptRecord) → after ≡ attempts ++ new ∷ [] → slice_get after (length attempts) ≡ Some new
  got_new after more = ap (λ (all : List AttemptRecord). slice_get all (length attempts)) more ∙ at_push attempts new

  -- what flies of the others flies still
  flies_still : {later : Wire} {after : List AttemptRecord} → Traffic hosts hosts_after wire attempts later after
      → after ≡ attempts ++ new ∷ []
      → (j : ℕ) (other : AttemptRecord) → slice_get attempts j ≡ Some other → (place : ℕ) (target : NodeId)
      → slice_get other.targets place ≡ Some target
      → is_name_in_wire wire (message_name_at other place) ≡ true → is_name_in_wire later (message_name_at other place) ≡ true
  flies_still NothingMoves more j other got place target among flies = absurd (never_pushed attempts new more)
  flies_still (MessageIsLost name packet there) more j other got place target among flies =
      absurd (none_marked (lost_was name packet attempts (length attempts) new (got_new _ more)))
  flies_still (ReplyIsReceived name from bytes there) more j other got place target among flies = absurd (never_pushed attempts new more)
  flies_still (RequestIsAnswered name to bytes up rsp there answer) more j other got place target among flies =
      absurd (none_marked (marked_was (fate_of_say rsp.say) name.sender name.number attempts (length attempts) new (got_new _ more)))
  flies_still (RequestsAreSent n sends by nothing) more j other got place target among flies = absurd (never_pushed attempts new more)
  flies_still (AttemptBegins n sends begun_one begun) more j other got place target among flies =
      ap (λ o. is_some o) (sends_new hosts hosts_after wire attempts of_incarnations n sends begun.sent_by j other got place target among)
      ∙ flies
  flies_still (RepliesGo n) more j other got place target among flies = absurd (never_pushed attempts new more)

  begun_new : {later : Wire} {after : List AttemptRecord} → Traffic hosts hosts_after wire attempts later after
      → after ≡ attempts ++ new ∷ []
      → HasBegun hosts hosts_after new
  begun_new {later} {after} kind more = ⊎_elim
      (λ (was : WasMarked attempts (length attempts) new). absurd (none_marked was))
      (λ (begun : HasBegun hosts hosts_after new). begun)
      (came_from hosts hosts_after wire attempts kind (length attempts) new (got_new after more))

module _ (script : List Statement) (range : RunsAreInRange script) (start before after : MomentWithPast) (began : Began script start.world)
    (change : MomentChange script start before after) (apart : MakersAreApart after.world.hosts) (has : HasOneWriter before)
    (attempt : AttemptRecord) (more : after.past.attempts ≡ before.past.attempts ++ attempt ∷ []) where
  then : HasOneWriter after
  then = (kept_one script range).keeps start before after began change has

  opened : HasBegun before.world.hosts after.world.hosts attempt
  opened =
      begun_new before.world.hosts after.world.hosts before.world.wire before.past.attempts has.tied.incarnations attempt
      (traffic script range start began change) more

  module _ (j : ℕ) (other : AttemptRecord) (got : slice_get before.past.attempts j ≡ Some other)
      (object : object_of other ≡ object_of attempt)
      (gateway : other.gateway.0 ≡ attempt.gateway.0) where
    got_after : slice_get after.past.attempts j ≡ Some other
    got_after =
        ap (λ (all : List AttemptRecord). slice_get all j) more ∙ got_longer before.past.attempts (attempt ∷ []) j other got

    flies_not : (place : ℕ) (target : NodeId) → slice_get other.targets place ≡ Some target
        → is_name_in_wire before.world.wire (message_name_at other place) ≡ true → ⊥
    flies_not place target among flies =
        let b = opened.begun in
        let later = flies_still before.world.hosts after.world.hosts before.world.wire before.past.attempts has.tied.incarnations attempt
        (traffic script range start began change) more j other got place target among flies in
        let a = then.awaited.each opened.n b.sent_by.after b.sent_by.there_after b.up j other got_after (gateway ∙ b.gateway) place target
        (record { among = among; there = later }) in
        ⊎_elim
        (λ (same : other.req ≡ attempt.req).
        let work : a.work ≡ b.work
        = same_Some a.work b.work (sym a.opened.there ∙ ap (tree.get b.sent_by.after.node.gateway.works) same ∙ b.opened.there) in
        let current : a.current ≡ b.current
        = open_of a.current b.current (sym a.opened.stage ∙ ap (λ (w : Work). w.stage) work ∙ b.opened.stage) in
        let theirs : a.message.number ≡ other.first + place = a.opened.same.numbers place a.message a.at in
        let own : a.message.number ≡ attempt.first + place
        = b.opened.same.numbers place a.message (ap (λ (c : gateways.Attempt). slice_get c.messages place) (sym current) ∙ a.at) in
        let within : place < length other.targets = slice_get_within other.targets place target among in
        let before_it : j < length before.past.attempts = slice_get_within before.past.attempts j other got in
        let behind = then.tied.incarnations.apart j other got_after (length before.past.attempts) attempt
        (got_new before.world.hosts after.world.hosts before.world.wire before.past.attempts has.tied.incarnations attempt
        after.past.attempts more) before_it gateway in
        omega (arith, theirs, own, within, behind))
        (λ (differ : other.req ≢ attempt.req).
        apart opened.n b.sent_by.after b.sent_by.there_after b.up other.req attempt.req a.work b.work
        (record { first_one = a.opened.there; second_one = b.opened.there; apart = differ }) a.opened.making b.opened.making
        (ap oid_of (sym a.opened.same.work) ∙ object ∙ ap oid_of b.opened.same.work))
        (cases_eq other.req attempt.req)

    pub quiet_then : IsQuiet before.world.wire other
    quiet_then =
        record {
          none = λ place target among. by_test place target among (is_name_in_wire before.world.wire (message_name_at other place)) refl;
        }
      where
        by_test : (place : ℕ) (target : NodeId) → slice_get other.targets place ≡ Some target → (b : Bool)
            → is_name_in_wire before.world.wire (message_name_at other place) ≡ b
            → is_name_in_wire before.world.wire (message_name_at other place) ≡ false
        by_test place target among false none = none
        by_test place target among true flies = absurd (flies_not place target among flies)

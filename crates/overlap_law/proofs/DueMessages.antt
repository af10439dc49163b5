-- A request without reply is touched by each message of an attempt that was served, or was lost, or of which the reply was; or nothing came
-- of the message yet, as far as its gateway knows. Each change of a moment keeps that.
use Rattle.std.proofs.Common.{◌≡◌, ◌⊎◌, inl, inr, ⊎_elim, arith, ℕ, ◌+◌, ◌≤◌, ◌<◌, true, false, List, ◌++◌, Contains, Option, Some, None}
use Rattle.std.proofs.Common.{is_some, slice_get, refl, sym, ap, subst, ◌∙◌, append-nil}
use Rattle.std.specs.FinMap as tree
use Rattle.std.proofs.lemmas.Option.{same_Some}
use Rattle.object_id.specs.declared.node.NodeId.{NodeId}
use Rattle.cluster_script.specs.declared.statement.Statement.{Statement}
use Rattle.peer_proto.specs.declared.say.PeerRsp.{PeerRsp}
use Rattle.peer_proto.specs.declared.say.PeerSay.TheVariants as says
use Rattle.gateway.specs.declared.message.Status.{Status}
use Rattle.gateway.specs.Attempt.{may_be_made, status_by}
use Rattle.gateway.specs.State.{is_touched}
use Rattle.message_wire.specs.declared.name.MessageName.{MessageName}
use Rattle.message_wire.specs.declared.packet.Packet.{Packet}
use Rattle.sheep_node.specs.declared.course.Request as requests
use Rattle.sheep_node.specs.declared.input.Input.TheVariants as inputs
use Rattle.sheep_node.specs.Changes.{IsTold}
use Rattle.sheep_world.specs.World.{Host}
use Rattle.sheep_world.specs.Began.{Began}
use Rattle.sheep_world.specs.NodeCauses.{NodeCause, GuestAsks, RequestComes, ReplyComes, LossIsTold, EntryIsRead, EntryIsPut, RecoveryTicks}
use Rattle.sheep_world.specs.NodeCauses.{WorkIsRetried, ClientAsks, input_of_cause, event_of_cause, IsCause}
use Rattle.sheep_world.proofs.NodeConditions.{reply_numbered}
use Rattle.sheep_world.proofs.SenderMatch.{packets_of}
use Rattle.sheep_world.proofs.StepsByCause.{IsReady}
use Rattle.overlap_law.specs.Attempts.{AttemptRecord, MessageFate, Flying, Served}
use Rattle.overlap_law.specs.Fates.{IsFateIn}
use Rattle.overlap_law.specs.Packets.{message_name_at, is_name_in_wire, IsAnswering}
use Rattle.overlap_law.specs.Past.{MomentWithPast}
use Rattle.overlap_law.specs.PastWords.{messages_lost_by}
use Rattle.overlap_law.specs.OpenWorks.{IsAwaitedAt, MayTouch, MessagesTouchOrAreAwaited}
use Rattle.overlap_law.specs.StepMoments.{attempts_at_cause}
use Rattle.overlap_law.specs.MomentChanges.{MomentChange, RunsAreInRange}
use Rattle.overlap_law.specs.TiedAttempts.{IsTied}
use Rattle.overlap_law.proofs.AwaitedInMoments.{AreOfOpenWorks, awaited_still, begun_awaited}
use Rattle.overlap_law.proofs.FreshRequests.{none_for_new}
use Rattle.overlap_law.proofs.KnownFatesLater.{WasMarked}
use Rattle.overlap_law.proofs.KnownSteps.{known_step}
use Rattle.overlap_law.proofs.LostMessages.{TheLostAreGone, lost_from}
use Rattle.overlap_law.proofs.StartedAttempts.{StartedAt}
use Rattle.overlap_law.proofs.TouchedInMoments.{BeginsWith, HadRequests, each_had_requests}
use Rattle.overlap_law.proofs.TrafficAttempts.{HasBegun, came_from, served_before}
use Rattle.overlap_law.proofs.TrafficOfChanges.{traffic}
use Rattle.overlap_law.proofs.UnansweredInMoments.{HasHeard, WasUp, IsNewer, each_was_up}
use Rattle.overlap_law.proofs.UnansweredMessages.{StaysUnanswered}

-- ---- what is told of a message that touches

module _ (script : List Statement) (start : MomentWithPast) (tied : IsTied start) (lost : TheLostAreGone start) where
  module _ (n : ℕ) (host : Host) (ready : IsReady script start.world n host) (later : List MessageName) (j : ℕ) (was : AttemptRecord)
      (gateway : was.gateway.0 ≡ n) (place : ℕ) (target : NodeId) (among : slice_get was.targets place ≡ Some target) where
    -- a message that was served, or flew, or that was lost by then
    abbrev pub MayHaveTouched : Type 0
    MayHaveTouched =
        ((fate : MessageFate) × (slice_get was.fates place ≡ Some fate) × ((fate ≡ Served) ⊎ (fate ≡ Flying)))
        ⊎ Contains later (message_name_at was place)

    -- as far as the step has come, the attempt was there at first, or has later numbers
    abbrev WasThereOrLater : NodeCause → Type 0
    WasThereOrLater cause = (slice_get (attempts_at_cause host.node cause start.past.attempts) j ≡ Some was) ⊎ (host.node.sends ≤ was.first)

    reply_made : (name : MessageName) (from : NodeId) (rsp : PeerRsp) → IsCause script start.world n host (ReplyComes name from rsp)
        → (status : Status)
        → IsTold (inputs.Reply rsp) (was.first + place) status → was.first + place < host.node.sends
        → WasThereOrLater (ReplyComes name from rsp)
        → later ≡ start.past.lost → MayHaveTouched → may_be_made status ≡ true
    reply_made name from rsp so status told below origin lost_so may = ⊎_elim
        (λ (at : slice_get start.past.attempts j ≡ Some was). ⊎_elim
        (λ (of_fate : (fate : MessageFate) × (slice_get was.fates place ≡ Some fate) × ((fate ≡ Served) ⊎ (fate ≡ Flying))). by_fate at
        of_fate.0 of_fate.1 of_fate.2) (λ (was_lost : Contains later (message_name_at was place)).
        let gone : is_name_in_wire start.world.wire (message_name_at was place) ≡ false
        = lost.gone (message_name_at was place) (subst (λ (all : List MessageName). Contains all (message_name_at was place)) lost_so
        was_lost) in
        let there : is_name_in_wire start.world.wire (message_name_at was place)
        ≡ true = ap (λ (o : Option Packet). is_some o) answering.there in
        absurd (cc (gone, there)))
        may)
        (λ (high : host.node.sends ≤ was.first). absurd (omega (arith, high, below)))
        origin
      where
        numbered : rsp.number ≡ name.number
        numbered =
            reply_numbered n name.number host (packets_of start.world.wire n) from so.bytes rsp ready.matches
            (ap (λ (k : ℕ). packets_of start.world.wire k name.number) (sym so.here) ∙ so.there) so.read

        named : message_name_at was place ≡ name
        named =
            let sender : was.gateway.0 ≡ name.sender.0 = gateway ∙ sym so.here in
            let number : was.first + place ≡ name.number = sym told.0 ∙ numbered in
            λ i. record { sender = record { 0 = sender i }; number = number i }

        answering : IsAnswering start.world.wire (message_name_at was place) from rsp
        answering = record { bytes = so.bytes; there = ap (tree.get start.world.wire) named ∙ so.there; spelled = so.read }

        by_fate : slice_get start.past.attempts j ≡ Some was → (fate : MessageFate) → slice_get was.fates place ≡ Some fate
            → (fate ≡ Served) ⊎ (fate ≡ Flying)
            → may_be_made status ≡ true
        by_fate at fate has either = ⊎_elim
            (λ (served : fate ≡ Served).
            let success : rsp.say ≡ says.Success
            = (tied.told.each j was at place target from rsp among answering).0 (has ∙ ap (λ (f : MessageFate). Some f) served) in
            ap may_be_made (sym told.1) ∙ ap (λ say. may_be_made (status_by say)) success)
            (λ (flies : fate ≡ Flying).
            let asking = subst (IsFateIn start.world.wire was place target) flies (tied.fates.each j was at place target fate among has) in
            let asked = asking.there in
            let answered = answering.there in
            absurd (cc (asked, answered)))
            either

    pub told_made : (cause : NodeCause) → IsCause script start.world n host cause → (status : Status)
        → IsTold (input_of_cause cause) (was.first + place) status
        → was.first + place < host.node.sends → WasThereOrLater cause → later ≡ start.past.lost ++ messages_lost_by (event_of_cause n cause)
        → MayHaveTouched
        → may_be_made status ≡ true
    told_made (GuestAsks session req ask) so status told below origin lost_so may = absurd told
    told_made (RequestComes name to request) so status told below origin lost_so may = absurd told
    told_made (ReplyComes name from rsp) so status told below origin lost_so may =
        reply_made name from rsp so status told below origin (lost_so ∙ append-nil start.past.lost) may
    told_made (LossIsTold name packet) so status told below origin lost_so may = ap may_be_made (sym told.1)
    told_made (EntryIsRead entry) so status told below origin lost_so may = absurd told
    told_made (EntryIsPut entry) so status told below origin lost_so may = absurd told
    told_made RecoveryTicks so status told below origin lost_so may = absurd told
    told_made WorkIsRetried so status told below origin lost_so may = absurd told
    told_made (ClientAsks req ask) so status told below origin lost_so may = absurd told

-- ---- every change

-- what holds at the beginning of an event
pub record HoldsBefore (script : List Statement) (start : MomentWithPast) : Type 0 where
  pub tied : IsTied start
  pub lost : TheLostAreGone start
  pub started : StartedAt script start

abbrev pub TouchOrAreAwaited : MomentWithPast → Type 0
TouchOrAreAwaited moment = MessagesTouchOrAreAwaited moment.world.hosts moment.past.lost moment.past.attempts

module _ (script : List Statement) (range : RunsAreInRange script) (start before after : MomentWithPast) (began : Began script start.world)
    (first : HoldsBefore script start) (change : MomentChange script start before after) (tied : IsTied before)
    (awaited : AreOfOpenWorks before)
    (due : TouchOrAreAwaited before) where
  module _ (n : ℕ) (host : Host) (there : tree.get after.world.hosts n ≡ Some host) (up : host.is_lost ≡ false) (j : ℕ)
      (attempt : AttemptRecord)
      (got : slice_get after.past.attempts j ≡ Some attempt) (gateway : attempt.gateway.0 ≡ n)
      (asked : tree.contains_key host.node.requests attempt.req ≡ true)
      (place : ℕ) (target : NodeId) (among : slice_get attempt.targets place ≡ Some target)
      (may : MayTouch after.past.lost attempt place) where
    abbrev Outcome : Type 0
    Outcome = (is_touched attempt.req host.node.gateway ≡ true) ⊎ IsAwaitedAt host.node attempt place

    -- an attempt that was there
    module _ (w : WasMarked before.past.attempts j attempt) where
      own_gateway : w.was.gateway.0 ≡ n
      own_gateway = ap (λ (a : AttemptRecord). a.gateway.0) w.same ∙ gateway

      own_request : w.was.req ≡ attempt.req
      own_request = ap (λ (a : AttemptRecord). a.req) w.same

      target_then : slice_get w.was.targets place ≡ Some target
      target_then = ap (λ (a : AttemptRecord). slice_get a.targets place) w.same ∙ among

      name_so : message_name_at w.was place ≡ message_name_at attempt place
      name_so = ap (λ (a : AttemptRecord). message_name_at a place) w.same

      -- what was known of the message
      abbrev FateThen : Type 0
      FateThen = (fate : MessageFate) × (slice_get w.was.fates place ≡ Some fate) × ((fate ≡ Served) ⊎ (fate ≡ Flying))

      fate_then : slice_get attempt.fates place ≡ Some Served → FateThen
      fate_then served =
          let (f, at, either) = w.fates_so place Served (ap (λ (a : AttemptRecord). slice_get a.fates place) w.same ∙ served) in
          (f, at, served_before w.told f Served either refl)

      may_then : FateThen ⊎ Contains after.past.lost (message_name_at w.was place)
      may_then = ⊎_elim
          (λ (served : slice_get attempt.fates place ≡ Some Served). inl (fate_then served))
          (λ (lost : Contains after.past.lost (message_name_at attempt place)).
          inr (subst (λ (q : MessageName). Contains after.past.lost q) (sym name_so) lost))
          may

      -- the node, which wasn't lost
      module _ (v : WasUp script start before after n host) (r : HadRequests script start before n host) where
        same_host : r.old ≡ v.old
        same_host = same_Some r.old v.old (sym r.there ∙ v.there)

        no_new : BeginsWith script start before attempt.req → ⊥
        no_new b = none_for_new script start before first.started j w.was w.at (subst (BeginsWith script start before) (sym own_request) b)

        asked_then : tree.contains_key v.old.node.requests w.was.req ≡ true
        asked_then = ⊎_elim
            (λ (old : tree.contains_key r.old.node.requests attempt.req ≡ true).
            ap (λ (req : ℕ). tree.contains_key v.old.node.requests req) own_request
            ∙ ap (λ (h : Host). tree.contains_key h.node.requests attempt.req) (sym same_host) ∙ old)
            (λ (new : BeginsWith script start before attempt.req). absurd (no_new new))
            (r.requests attempt.req asked)

        abbrev Then : Type 0
        Then = (is_touched w.was.req v.old.node.gateway ≡ true) ⊎ IsAwaitedAt v.old.node w.was place

        due_then : MayTouch before.past.lost w.was place → Then
        due_then = due.each n v.old v.there v.up j w.was w.at own_gateway asked_then place target target_then

        in_wire : is_name_in_wire before.world.wire (message_name_at w.was place) ≡ true → Then
        in_wire is =
            inr (awaited.each n v.old v.there v.up j w.was w.at own_gateway place target (record { among = target_then; there = is }))

        then_by_fate : FateThen → Then
        then_by_fate known =
            let (fate, has, either) = known in
            ⊎_elim
            (λ (served : fate ≡ Served). due_then (inl (has ∙ ap (λ (f : MessageFate). Some f) served)))
            (λ (flies : fate ≡ Flying).
            let asking = subst (IsFateIn before.world.wire w.was place target) flies
            (tied.fates.each j w.was w.at place target fate target_then has) in
            in_wire (ap (λ (o : Option Packet). is_some o) asking.there))
            either

        then : Then
        then = ⊎_elim then_by_fate
            (λ (lost : Contains after.past.lost (message_name_at w.was place)). ⊎_elim
            (λ (old : Contains before.past.lost (message_name_at w.was place)). due_then (inr old))
            (λ (new : (is_name_in_wire before.world.wire (message_name_at w.was place) ≡ true)
            × (is_name_in_wire after.world.wire (message_name_at w.was place) ≡ false)).
            in_wire new.0)
            (lost_from script range start began change (message_name_at w.was place) lost))
            may_then

        or_gone : (is_touched w.was.req host.node.gateway ≡ true) ⊎ (tree.contains_key host.node.requests w.was.req ≡ false) → Outcome
        or_gone = ⊎_elim
            (λ (still : is_touched w.was.req host.node.gateway ≡ true). inl
            (ap (λ (req : ℕ). is_touched req host.node.gateway) (sym own_request) ∙ still))
            (λ (gone : tree.contains_key host.node.requests w.was.req ≡ false).
            let none = ap (tree.contains_key host.node.requests) (sym own_request) ∙ gone in absurd (cc (none, asked)))

        has_heard : (a : IsAwaitedAt v.old.node w.was place) → HasHeard script start before after n host w.was.req a.work a.message.number
            → Outcome
        has_heard a h =
            let known = known_step script range start.world began h.stepping h.is in
            let number : a.message.number ≡ w.was.first + place = a.opened.same.numbers place a.message a.at in
            let told : IsTold (input_of_cause h.stepping.cause) (w.was.first + place) h.status = subst
            (λ (k : ℕ). IsTold (input_of_cause h.stepping.cause) k h.status) number h.told in
            let made : may_be_made h.status ≡ true
            = told_made script start first.tied first.lost h.stepping.n h.stepping.host known.ready after.past.lost j w.was
            (own_gateway ∙ sym h.here) place target target_then h.stepping.cause h.is.caused h.status told
            (known.given (w.was.first + place) h.status told) (h.origin j w.was w.at) h.lost_so may_then in
            or_gone (h.touches a.opened.making made)

        now_awaited : IsAwaitedAt v.old.node w.was place → Outcome
        now_awaited a = ⊎_elim
            (λ (s : StaysUnanswered host.node.gateway.works w.was.req a.work a.current place).
            inr (subst (λ (one : AttemptRecord). IsAwaitedAt host.node one place) w.same
            (awaited_still v.old.node host.node w.was place w.fates v.me a s)))
            (λ (h : HasHeard script start before after n host w.was.req a.work a.message.number). has_heard a h)
            (v.goes w.was.req a.work a.current place a.message
            (record { there = a.opened.there; stage = a.opened.stage; at = a.at; status = a.unanswered }))

        now : Outcome
        now = ⊎_elim
            (λ (still : is_touched w.was.req v.old.node.gateway ≡ true).
            or_gone (r.touched w.was.req (ap (λ (h : Host). is_touched w.was.req h.node.gateway) same_host ∙ still)))
            now_awaited
            then

      no_newer : IsNewer before n host → Outcome
      no_newer newer = by_request (tree.get host.node.requests attempt.req) refl asked
        where
          by_request : (o : Option requests.Request) → tree.get host.node.requests attempt.req ≡ o → is_some o ≡ true → Outcome
          by_request None got is = absurd (cc (is))
          by_request (Some request) got is = absurd (newer.none attempt.req request got)

      was_there : Outcome
      was_there = ⊎_elim
          (λ (v : WasUp script start before after n host). ⊎_elim
          (λ (r : HadRequests script start before n host). now v r)
          no_newer
          (each_had_requests script range start began change n host there up))
          no_newer
          (each_was_up script range start began change n host there up)

    outcome : Outcome
    outcome = ⊎_elim was_there
        (λ (b : HasBegun before.world.hosts after.world.hosts attempt). inr
        (begun_awaited before after n host there attempt gateway b place target among))
        (came_from before.world.hosts after.world.hosts before.world.wire before.past.attempts (traffic script range start began change) j
        attempt got)

  pub change_due : TouchOrAreAwaited after
  change_due = record {
    each = λ n host there up j attempt got gateway asked place target among may. outcome n host there up j attempt got gateway asked place
        target among may;
  }

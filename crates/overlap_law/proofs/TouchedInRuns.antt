-- In every run in range a request without reply is touched by each message of an attempt that was served, or its gateway has still to hear
-- of it; and by each that was lost, or of which the reply was.
use Rattle.std.proofs.Common.{◌≡◌, ◌⊎◌, inl, inr, ⊎_elim, arith, ℕ, zero, suc, ◌+◌, ◌-◌, ◌≤◌, ◌<◌, ◌==◌, nat_le, nat_lt, not, ◌&&◌, Bool}
use Rattle.std.proofs.Common.{true, false, List, [], ◌∷◌, length, Contains, Option, Some, None, option_map, slice_get, refl, sym, ap, subst}
use Rattle.std.proofs.Common.{◌∙◌}
use Rattle.std.specs.List.{list_any}
use Rattle.std.specs.FinMap as tree
use Rattle.std.proofs.lemmas.Bool.{and_parts, not-true, or_cases, eqb-true, leb-true, ltb-true}
use Rattle.std.proofs.lemmas.List.Elements.{All-contains}
use Rattle.std.proofs.lemmas.Option.{same_Some, slice_get-map}
use Rattle.proof_tools.proofs.Lists.{Contains-first, Contains-cons}
use Rattle.object_id.specs.declared.node.NodeId.{NodeId}
use Rattle.cluster_script.specs.declared.statement.Statement.{Statement}
use Rattle.peer_proto.specs.declared.ask.PeerReq.{PeerReq}
use Rattle.peer_proto.specs.declared.say.PeerRsp.{PeerRsp}
use Rattle.peer_proto.specs.declared.say.PeerSay.TheVariants as says
use Rattle.gateway.specs.declared.message.Message.{Message}
use Rattle.gateway.specs.Attempt.{send_of}
use Rattle.gateway.specs.State.{is_touched}
use Rattle.message_wire.specs.declared.name.MessageName.{MessageName}
use Rattle.message_wire.specs.declared.packet.Packet.{Packet}
use Rattle.message_wire.specs.declared.packet.Packet.TheVariants.{Request, Reply}
use Rattle.sheep_node.specs.May.{has_numbers}
use Rattle.sheep_world.specs.World.{Host, is_host_up}
use Rattle.sheep_world.specs.Began.{Began}
use Rattle.sheep_world.specs.WireMatch.{asked_by, own_name, IsInFlight}
use Rattle.sheep_world.specs.RunsWithAsks.{Move}
use Rattle.overlap_law.specs.Attempts.{AttemptRecord, Served, has_message}
use Rattle.overlap_law.specs.Headline.{has_lost}
use Rattle.overlap_law.specs.Packets.{message_name_at, is_name_in_wire, is_request_in_flight, IsAnswering}
use Rattle.overlap_law.specs.Past.{MomentWithPast, moment_after, first_moment, run_with_past}
use Rattle.overlap_law.specs.OpenWorks.{IsAwaitedAt, AreToldYet, ServedRequestsAreTouched, LosersAreTouched}
use Rattle.overlap_law.specs.MomentChanges.{MomentTrail, Still, Then, RunsAreInRange}
use Rattle.overlap_law.specs.TiedAttempts.{IsTied}
use Rattle.overlap_law.proofs.AwaitedInMoments.{AreOfOpenWorks, opening_awaited, change_awaited}
use Rattle.overlap_law.proofs.DueMessages.{TouchOrAreAwaited, change_due}
use Rattle.overlap_law.proofs.KnownSteps.{together}
use Rattle.overlap_law.proofs.LostMessages.{TheLostAreGone, opening_gone, change_gone}
use Rattle.overlap_law.proofs.MomentTrails.{event_trail}
use Rattle.overlap_law.proofs.NoRecoveredDue.{began-with_past}
use Rattle.overlap_law.proofs.RunsByEvents.{KeptByEvents, run-kept_by_events}
use Rattle.overlap_law.proofs.StartedAttempts.{StartedAt, opening_started, events_started}
use Rattle.overlap_law.proofs.TiedInRuns.{opening_tied, change_tied}
use Rattle.overlap_law.proofs.ToldFates.{asked_message, in_flight}
use Rattle.overlap_law.proofs.GoingOn.{next_by}

up_here : (host : Host) → is_host_up host ≡ true → host.is_lost ≡ false
up_here host able = not-true host.is_lost (and_parts (not host.is_lost) (has_numbers host.node) able).0

-- ---- messages that were lost

any_in : {X : Type 0} (p : X → Bool) (xs : List X) → list_any p xs ≡ true → (x : X) × Contains xs x × (p x ≡ true)
any_in {X = X} p [] is = absurd (cc (is))
any_in {X = X} p (first ∷ later) is = ⊎_elim
    (λ (here : p first ≡ true). (first, Contains-first first first later refl, here))
    (λ (behind : list_any p later ≡ true).
    let (x, there, so) = any_in {X = X} p later behind in
    (x, Contains-cons first later x there, so))
    (or_cases (p first) (list_any p later) is)

got_within : {X : Type 0} (xs : List X) (place : ℕ) → place < length xs → (x : X) × (slice_get xs place ≡ Some x)
got_within {X = X} [] place within = absurd (omega (arith, within))
got_within {X = X} (x ∷ xs) zero within = (x, refl)
got_within {X = X} (x ∷ xs) (suc place) within =
    let less : suc place < suc (length xs) = within in
    got_within {X = X} xs place (omega (arith, less))

-- a message of an attempt that was lost stands at a place of it
pub lost_place : (lost : List MessageName) (attempt : AttemptRecord) → has_lost lost attempt ≡ true
    → (place : ℕ) × (target : NodeId) × (slice_get attempt.targets place ≡ Some target) × Contains lost (message_name_at attempt place)
lost_place lost attempt is =
    let (name, there, has) = any_in (λ (name : MessageName). has_message name.sender name.number attempt) lost is in
    let (both, below) = and_parts (attempt.gateway.0 == name.sender.0 && nat_le attempt.first name.number)
    (nat_lt name.number (attempt.first + length attempt.targets)) has in
    let (own, above) = and_parts (attempt.gateway.0 == name.sender.0) (nat_le attempt.first name.number) both in
    let gateway : attempt.gateway.0 ≡ name.sender.0 = eqb-true attempt.gateway.0 name.sender.0 own in
    let high : attempt.first ≤ name.number = leb-true attempt.first name.number above in
    let low : name.number < attempt.first + length attempt.targets = ltb-true name.number (attempt.first + length attempt.targets) below in
    let within : name.number - attempt.first < length attempt.targets = omega (arith, high, low) in
    let number : attempt.first + (name.number - attempt.first) ≡ name.number = omega (arith, high) in
    let (target, at) = got_within attempt.targets (name.number - attempt.first) within in
    let same : name ≡ message_name_at attempt (name.number - attempt.first)
    = λ i. record { sender = record { 0 = sym gateway i }; number = sym number i } in
    (name.number - attempt.first, target, at, subst (Contains lost) same there)

module _ (script : List Statement) (range : RunsAreInRange script) where
  -- ---- over an event

  -- what holds in the middle of an event
  pub record HoldsWithin (moment : MomentWithPast) : Type 0 where
    pub tied : IsTied moment
    pub lost : TheLostAreGone moment
    pub awaited : AreOfOpenWorks moment
    pub due : TouchOrAreAwaited moment

  -- and at its end
  pub record HoldsAt (moment : MomentWithPast) : Type 0 where
    pub within : HoldsWithin moment
    pub started : StartedAt script moment

  pub along_trail : (start : MomentWithPast) → Began script start.world → HoldsAt start → {moment : MomentWithPast}
      → MomentTrail script start moment → HoldsWithin moment
  along_trail start began holds Still = holds.within
  along_trail start began holds (Then {moment} {next} trail change) =
      let before = along_trail start began holds trail in
      record {
        tied = change_tied script range start moment next began change before.tied;
        lost = change_gone script range start moment next began change before.tied before.lost;
        awaited = change_awaited script range start moment next began change before.tied before.awaited;
        due = change_due script range start moment next began
            (record { tied = holds.within.tied; lost = holds.within.lost; started = holds.started }) change before.tied before.awaited
            before.due;
      }

  pub opens_so : HoldsAt (first_moment script)
  opens_so = record {
    within = record {
      tied = opening_tied script;
      lost = opening_gone script;
      awaited = opening_awaited script;
      due = record { each = λ n host there up j attempt got. absurd (cc (got)) };
    };
    started = opening_started script;
  }

  pub events_keep : KeptByEvents script HoldsAt
  events_keep event before made began is holds = record {
    within = along_trail before began holds (event_trail script is.move before (moment_after script event before made)
        (next_by script event before made is));
    started = events_started script range event before made began is holds.started;
  }

  holds_then : (events : List Move) (moment : MomentWithPast) → run_with_past script events ≡ Some moment → HoldsAt moment
  holds_then = run-kept_by_events script HoldsAt opens_so events_keep

  pub due-within : (events : List Move) (start moment : MomentWithPast) → run_with_past script events ≡ Some start
      → MomentTrail script start moment
      → TouchOrAreAwaited moment
  due-within events start moment is trail =
      (along_trail start (began-with_past script events start is) (holds_then events start is) trail).due

  -- ---- at the end of an event

  module _ (events : List Move) (moment : MomentWithPast) (is : run_with_past script events ≡ Some moment) where
    began : Began script moment.world
    began = began-with_past script events moment is

    holds : HoldsWithin moment
    holds = (holds_then events moment is).within

    module _ (n : ℕ) (host : Host) (there : tree.get moment.world.hosts n ≡ Some host) (able : is_host_up host ≡ true) (j : ℕ)
        (attempt : AttemptRecord)
        (got : slice_get moment.past.attempts j ≡ Some attempt) (place : ℕ) (target : NodeId)
        (among : slice_get attempt.targets place ≡ Some target)
        (a : IsAwaitedAt host.node attempt place) where
      abbrev send : NodeId × PeerReq
      send = send_of host.node.me a.current.epoch a.work.work a.message

      name_so : own_name host.node send ≡ message_name_at attempt place
      name_so = λ i. record { sender = sym a.opened.same.gateway i; number = a.opened.same.numbers place a.message a.at i }

      -- what is awaited is in flight
      flies : IsInFlight host.node send (tree.get moment.world.wire (own_name host.node send))
      flies =
          All-contains (λ (send : NodeId × PeerReq). IsInFlight host.node send (tree.get moment.world.wire (own_name host.node send)))
          (asked_by host.node) send ((together script range moment.world began).wired.on_the_way n host there able)
          (asked_message host.node attempt.req a.work a.current place a.message a.opened.there a.opened.stage a.at a.unanswered)

      in_wire : is_name_in_wire moment.world.wire (message_name_at attempt place) ≡ true
      in_wire = in_flight host.node send moment.world.wire (message_name_at attempt place) name_so flies

      node_so : a.message.node ≡ target
      node_so =
          same_Some a.message.node target
          (sym (ap (λ (nodes : List NodeId). slice_get nodes place) a.opened.same.targets
          ∙ slice_get-map (λ (message : Message). message.node) a.current.messages place
          ∙ ap (option_map (λ (message : Message). message.node)) a.at) ∙ among)

      -- so a served one has its Success on its way
      abbrev HasSuccess : Type 0
      HasSuccess =
          (reply : PeerRsp) × (reply.say ≡ says.Success) × IsAnswering moment.world.wire (message_name_at attempt place) target reply

      served_answer : slice_get attempt.fates place ≡ Some Served → HasSuccess
      served_answer served =
          by_packet (tree.get moment.world.wire (own_name host.node send)) (sym (ap (tree.get moment.world.wire) name_so)) flies
        where
          by_packet : (o : Option Packet) → tree.get moment.world.wire (message_name_at attempt place) ≡ o → IsInFlight host.node send o
              → HasSuccess
          by_packet None at way = absurd way
          by_packet (Some (Request to bytes)) at way =
              let none : is_request_in_flight (tree.get moment.world.wire (message_name_at attempt place)) ≡ false
              = holds.tied.fates.each j attempt got place target Served among served in
              let some : is_request_in_flight (tree.get moment.world.wire (message_name_at attempt place))
              ≡ true = ap is_request_in_flight at in
              absurd (cc (none, some))
          by_packet (Some (Reply from bytes)) at way =
              let (rsp, read, numbered, fit) = way.1 in
              let answering : IsAnswering moment.world.wire (message_name_at attempt place) target rsp
              = record { bytes = bytes; there = at ∙ ap (λ (node : NodeId). Some (Reply node bytes)) (way.0 ∙ node_so); spelled = read } in
              (rsp, (holds.tied.told.each j attempt got place target target rsp among answering).0 served, answering)

    pub touched-in_run : ServedRequestsAreTouched moment.world.hosts moment.world.wire moment.past.attempts
    touched-in_run = record {
      each = λ n host there able j attempt got gateway asked loud. by_touch n host there able j attempt got gateway asked
          (is_touched attempt.req host.node.gateway) refl;
    }
      where
        by_touch : (n : ℕ) (host : Host) → tree.get moment.world.hosts n ≡ Some host → is_host_up host ≡ true
            → (j : ℕ) (attempt : AttemptRecord)
            → slice_get moment.past.attempts j ≡ Some attempt → attempt.gateway.0 ≡ n
            → tree.contains_key host.node.requests attempt.req ≡ true
            → (b : Bool) → is_touched attempt.req host.node.gateway ≡ b
            → (is_touched attempt.req host.node.gateway ≡ true) ⊎ AreToldYet moment.world.wire attempt
        by_touch n host there able j attempt got gateway asked true touched = inl touched
        by_touch n host there able j attempt got gateway asked false untouched = inr (record {
          each = λ place target among served. ⊎_elim
              (λ (touched : is_touched attempt.req host.node.gateway ≡ true). absurd (cc (touched, untouched)))
              (λ (a : IsAwaitedAt host.node attempt place). served_answer n host there able j attempt got place target among a served)
              (holds.due.each n host there (up_here host able) j attempt got gateway asked place target among (inl served));
        })

    pub losers-in_run : LosersAreTouched moment.world.hosts moment.past.lost moment.past.attempts
    losers-in_run = record {
      each = λ n host there able j attempt got gateway asked has.
          let (place, target, among, lost) = lost_place moment.past.lost attempt has in
          ⊎_elim
          (λ (touched : is_touched attempt.req host.node.gateway ≡ true). touched)
          (λ (a : IsAwaitedAt host.node attempt place).
          let some = in_wire n host there able j attempt got place target among a in
          let none = holds.lost.gone (message_name_at attempt place) lost in
          absurd (cc (some, none)))
          (holds.due.each n host there (up_here host able) j attempt got gateway asked place target among (inr lost));
    }

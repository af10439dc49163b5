-- What is in the wire of an attempt of a node that isn't lost is awaited by the attempt's own work: when a script opens, after each change
-- of a moment, and so in every run in range.
use Rattle.std.proofs.Common.{◌≡◌, ⊎_elim, arith, ℕ, ◌≤◌, ◌<◌, true, false, List, Some, slice_get, sym, ap, subst, ◌∙◌}
use Rattle.std.specs.FinMap as tree
use Rattle.std.proofs.lemmas.Option.{same_Some}
use Rattle.object_id.specs.declared.node.NodeId.{NodeId}
use Rattle.cluster_script.specs.declared.statement.Statement.{Statement}
use Rattle.gateway.specs.declared.message.Message.{Message}
use Rattle.gateway.specs.Work.{is_making}
use Rattle.gateway.specs.Attempt as gateways
use Rattle.gateway.specs.State.{Work}
use Rattle.message_wire.specs.Message.{message_name}
use Rattle.sheep_node.specs.State.{Node}
use Rattle.sheep_world.specs.World.{Host}
use Rattle.sheep_world.specs.Began.{Began}
use Rattle.sheep_world.specs.RunsWithAsks.{Move}
use Rattle.overlap_law.specs.Attempts.{AttemptRecord, MessageFate}
use Rattle.overlap_law.specs.Past.{MomentWithPast, first_moment, run_with_past}
use Rattle.overlap_law.specs.Packets.{message_name_at, is_name_in_wire, HasPacket}
use Rattle.overlap_law.specs.OpenWorks.{IsTheSame, IsAwaitedAt, PacketsAreOfOpenWorks}
use Rattle.overlap_law.specs.TiedAttempts.{IsTied}
use Rattle.overlap_law.specs.MomentChanges.{MomentChange, RunsAreInRange, KeptByChanges}
use Rattle.overlap_law.proofs.AttemptLists.{got_map}
use Rattle.overlap_law.proofs.KnownFatesLater.{WasMarked}
use Rattle.overlap_law.proofs.RunsByChanges.{run-kept}
use Rattle.overlap_law.proofs.TiedInRuns.{opening_tied, change_tied}
use Rattle.overlap_law.proofs.TrafficAttempts.{HasBegun, came_from}
use Rattle.overlap_law.proofs.TrafficOfChanges.{traffic}
use Rattle.overlap_law.proofs.TrafficOrder.{traffic_fewer}
use Rattle.overlap_law.proofs.UnansweredInMoments.{HasHeard, WasUp, IsNewer, each_was_up}
use Rattle.overlap_law.proofs.UnansweredMessages.{StaysUnanswered}

-- the record of an attempt is still that of what is open, whatever its fates are
pub same_later : (old new : Node) (req : ℕ) (work : Work) (current : gateways.Attempt) (place : ℕ) (attempt : AttemptRecord)
    (fates : List MessageFate) → new.me ≡ old.me
    → (s : StaysUnanswered new.gateway.works req work current place) → IsTheSame old req work.work current attempt
    → IsTheSame new req s.now.work s.later (record attempt { fates = fates })
same_later old new req work current place attempt fates me s same = record {
  gateway = same.gateway ∙ sym me;
  request = same.request;
  work = same.work ∙ sym s.work_so;
  epoch = same.epoch ∙ ap (λ e. e.0) (sym s.epoch_so);
  targets = same.targets ∙ sym s.targets_so;
  numbers = λ place message got. let (m, found, is) = s.numbers_so place message got in is ∙ same.numbers place m found;
}

-- what stays unanswered is awaited still
pub awaited_still : (old new : Node) (attempt : AttemptRecord) (place : ℕ) (fates : List MessageFate) → new.me ≡ old.me
    → (a : IsAwaitedAt old attempt place)
    → StaysUnanswered new.gateway.works attempt.req a.work a.current place → IsAwaitedAt new (record attempt { fates = fates }) place
awaited_still old new attempt place fates me a s = record {
  work = s.now;
  current = s.later;
  opened = record {
    there = s.unanswered.there;
    making = ap is_making s.work_so ∙ a.opened.making;
    stage = s.unanswered.stage;
    same = same_later old new attempt.req a.work a.current place attempt fates me s a.opened.same;
  };
  message = s.still;
  at = s.unanswered.at;
  unanswered = s.unanswered.status;
}

-- an awaited message's name
pub awaited_name : (node : Node) (attempt : AttemptRecord) (place n : ℕ) → (a : IsAwaitedAt node attempt place) → attempt.gateway.0 ≡ n
    → message_name n a.message.number ≡ message_name_at attempt place
awaited_name node attempt place n a gateway =
    λ i. record { sender = record { 0 = sym gateway i }; number = a.opened.same.numbers place a.message a.at i }

abbrev pub AreOfOpenWorks : MomentWithPast → Type 0
AreOfOpenWorks moment = PacketsAreOfOpenWorks moment.world.hosts moment.world.wire moment.past.attempts

pub opening_awaited : (script : List Statement)
    → PacketsAreOfOpenWorks (first_moment script).world.hosts (first_moment script).world.wire (first_moment script).past.attempts
opening_awaited script = record { each = λ n host there up j attempt got. absurd (cc (got)) }

-- an attempt that begins is open, and nothing came of its messages yet
pub begun_awaited : (before after : MomentWithPast) (n : ℕ) (host : Host) → tree.get after.world.hosts n ≡ Some host
    → (attempt : AttemptRecord)
    → attempt.gateway.0 ≡ n → HasBegun before.world.hosts after.world.hosts attempt → (place : ℕ) (target : NodeId)
    → slice_get attempt.targets place ≡ Some target → IsAwaitedAt host.node attempt place
begun_awaited before after n host there attempt gateway b place target among =
    let same : b.begun.sent_by.after ≡ host
    = same_Some b.begun.sent_by.after host (sym b.begun.sent_by.there_after
    ∙ ap (tree.get after.world.hosts) (sym b.begun.gateway ∙ gateway) ∙ there) in
    let (message, at, node) = got_map (λ (message : Message). message.node) b.begun.current.messages place target
    (ap (λ (targets : List NodeId). slice_get targets place) (sym b.begun.opened.same.targets) ∙ among) in
    subst (λ (h : Host). IsAwaitedAt h.node attempt place) same (record {
      work = b.begun.work;
      current = b.begun.current;
      opened = b.begun.opened;
      message = message;
      at = at;
      unanswered = b.begun.unanswered place message at;
    })

module _ (script : List Statement) (range : RunsAreInRange script) where
  module _ (start before after : MomentWithPast) (began : Began script start.world) (change : MomentChange script start before after)
      (tied : IsTied before)
      (tied_after : IsTied after) (awaited : PacketsAreOfOpenWorks before.world.hosts before.world.wire before.past.attempts) where
    module _ (n : ℕ) (host : Host) (there : tree.get after.world.hosts n ≡ Some host) (up : host.is_lost ≡ false) (j : ℕ)
        (attempt : AttemptRecord)
        (got : slice_get after.past.attempts j ≡ Some attempt) (gateway : attempt.gateway.0 ≡ n) (place : ℕ) (target : NodeId)
        (packet : HasPacket after.world.wire attempt place target) where
      -- one that was there
      module _ (w : WasMarked before.past.attempts j attempt) where
        own_gateway : w.was.gateway.0 ≡ n
        own_gateway = ap (λ (a : AttemptRecord). a.gateway.0) w.same ∙ gateway

        target_then : slice_get w.was.targets place ≡ Some target
        target_then = ap (λ (a : AttemptRecord). slice_get a.targets place) w.same ∙ packet.among

        in_wire : is_name_in_wire after.world.wire (message_name_at w.was place) ≡ true
        in_wire = ap (λ (a : AttemptRecord). is_name_in_wire after.world.wire (message_name_at a place)) w.same ∙ packet.there

        packet_then : HasPacket before.world.wire w.was place target
        packet_then = record {
          among = target_then;
          there = traffic_fewer before.world.hosts after.world.hosts before.world.wire before.past.attempts tied.incarnations
              (traffic script range start began change) j w.was w.at place target target_then in_wire;
        }

        was_up : WasUp script start before after n host → IsAwaitedAt host.node attempt place
        was_up v =
            let a = awaited.each n v.old v.there v.up j w.was w.at own_gateway place target packet_then in
            ⊎_elim
            (λ (s : StaysUnanswered host.node.gateway.works w.was.req a.work a.current place).
            subst (λ (one : AttemptRecord). IsAwaitedAt host.node one place) w.same
            (awaited_still v.old.node host.node w.was place w.fates v.me a s))
            (λ (heard : HasHeard script start before after n host w.was.req a.work a.message.number).
            let none = sym (ap (is_name_in_wire after.world.wire) (awaited_name v.old.node w.was place n a own_gateway)) ∙ heard.gone in
            let some = in_wire in
            absurd (cc (none, some)))
            (v.goes w.was.req a.work a.current place a.message
            (record { there = a.opened.there; stage = a.opened.stage; at = a.at; status = a.unanswered }))

        is_newer : IsNewer before n host → IsAwaitedAt host.node attempt place
        is_newer newer =
            let (old, is) = tied.there.each j w.was w.at in
            let less : old.incarnation < host.incarnation = newer.later old (ap (tree.get before.world.hosts) (sym own_gateway) ∙ is) in
            let began_then : w.was.incarnation ≤ old.incarnation = tied.incarnations.began j w.was w.at old is in
            let earlier : w.was.incarnation < host.incarnation = omega (arith, less, began_then) in
            let none = (tied_after.incarnations.earlier j attempt got host (ap (tree.get after.world.hosts) gateway ∙ there)
            (subst (λ (a : AttemptRecord). a.incarnation < host.incarnation) w.same earlier)).none place target packet.among in
            let some = packet.there in
            absurd (cc (none, some))

        was_there : IsAwaitedAt host.node attempt place
        was_there = ⊎_elim was_up is_newer (each_was_up script range start began change n host there up)

      awaited_then : IsAwaitedAt host.node attempt place
      awaited_then =
          ⊎_elim was_there (λ (b : HasBegun before.world.hosts after.world.hosts attempt).
          begun_awaited before after n host there attempt gateway b place target packet.among)
          (came_from before.world.hosts after.world.hosts before.world.wire before.past.attempts (traffic script range start began change) j
          attempt got)

    pub keeps_awaited : PacketsAreOfOpenWorks after.world.hosts after.world.wire after.past.attempts
    keeps_awaited =
        record {
          each = λ n host there up j attempt got gateway place target packet. awaited_then n host there up j attempt got gateway place
              target packet;
        }

  -- ---- every run

  pub change_awaited : (start before after : MomentWithPast) → Began script start.world → MomentChange script start before after
      → IsTied before
      → AreOfOpenWorks before → AreOfOpenWorks after
  change_awaited start before after began change tied awaited =
      keeps_awaited start before after began change tied (change_tied script range start before after began change tied) awaited

  pub awaited_kept : KeptByChanges script (λ moment. IsTied moment × AreOfOpenWorks moment)
  awaited_kept = record {
    opens = (opening_tied script, opening_awaited script);
    keeps = λ start before after began change both.
        (change_tied script range start before after began change both.0, change_awaited start before after began change both.0 both.1);
  }

  pub awaited-in_run : (events : List Move) (moment : MomentWithPast) → run_with_past script events ≡ Some moment → AreOfOpenWorks moment
  awaited-in_run events moment is = (run-kept script (λ moment. IsTied moment × AreOfOpenWorks moment) awaited_kept events moment is).1

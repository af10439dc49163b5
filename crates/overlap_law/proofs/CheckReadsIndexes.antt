-- In each run in range, and in the middle of its steps, each message of an open work that asks all targets asks for the part of its place
-- among them.
use Rattle.std.proofs.Common.{◌≡◌, ◌≢◌, ◌⊎◌, ⊎_elim, ℕ, true, false, List, None, Some, sym, ap, subst, ◌∙◌}
use Rattle.std.specs.FinMap as tree
use Rattle.std.specs.Ordering.{nat_cmp}
use Rattle.proof_tools.proofs.FiniteMaps.{get-insert_cases, get-insert_other, get-insert_same}
use Rattle.object_id.specs.Oid.{kind_of}
use Rattle.gf256.specs.Part.{index_at}
use Rattle.cluster_script.specs.declared.statement.Statement.{Statement}
use Rattle.peer_proto.specs.declared.work.ObjWork.{ObjWork}
use Rattle.peer_proto.specs.Work.{oid_of, policy_of}
use Rattle.gateway.specs.declared.message.Message.{Message}
use Rattle.gateway.specs.Attempt as gateways
use Rattle.gateway.specs.State.{Gateway, Work}
use Rattle.gateway.specs.Work.{asks_all}
use Rattle.sheep_node.specs.declared.course.Request.{Request}
use Rattle.sheep_node.proofs.AwaitedWorks.{Works}
use Rattle.sheep_node.proofs.NumberChanges.{both_in_chain}
use Rattle.sheep_world.specs.Began.{Began}
use Rattle.sheep_world.specs.NodeCauses.{host_with_node, input_of_cause}
use Rattle.sheep_world.specs.World.{Host}
use Rattle.sheep_world.specs.RunsWithAsks.{Move}
use Rattle.overlap_law.specs.MomentChanges.{KeptByChanges, MomentChange, RunsAreInRange}
use Rattle.overlap_law.specs.Past.{MomentWithPast, run_with_past}
use Rattle.overlap_law.proofs.AnswersInMoments.{not_lost}
use Rattle.overlap_law.proofs.GuestsInMoments.{GuestsChange, GuestsStay, GuestsAreNone, IsGoingOn, IsBetween, between}
use Rattle.overlap_law.proofs.KnownSteps.{known_step}
use Rattle.overlap_law.proofs.MessagesInMoments.{no_works}
use Rattle.overlap_law.proofs.MessagesInSteps.{BeginsNow, IsMessageOf, WasMessageOf, change_messages}
use Rattle.overlap_law.proofs.RunsByChanges.{run-kept}
use Rattle.overlap_law.proofs.WorksInMoments.{well_after}
use Rattle.overlap_law.proofs.WritersOfWorks.{asked_for}

-- the index under which the part of a work's object is asked for at a place
abbrev pub index_asked : ObjWork → ℕ → ℕ
index_asked work place = index_at (policy_of work) (kind_of (oid_of work)) place

-- each message of an open work that asks all is of its place
abbrev pub AreOfPlaces : Works → Type 0
AreOfPlaces works = (req : ℕ) (work : Work) (current : gateways.Attempt) (place : ℕ) (message : Message)
    → IsMessageOf works req work current place message → asks_all work.work ≡ true → message.index ≡ index_asked work.work place

-- at each node that isn't lost
abbrev pub AllOfPlaces : MomentWithPast → Type 0
AllOfPlaces moment = (n : ℕ) (host : Host) → tree.get moment.world.hosts n ≡ Some host → host.is_lost ≡ false
    → AreOfPlaces host.node.gateway.works

module _ (script : List Statement) (range : RunsAreInRange script) where
  module _ (start before after : MomentWithPast) (began : Began script start.world) (change : MomentChange script start before after)
      (all : AllOfPlaces before) (n : ℕ) (now : Host) (there : tree.get after.world.hosts n ≡ Some now) (up : now.is_lost ≡ false)
      (req : ℕ) (work : Work) (current : gateways.Attempt) (place : ℕ) (message : Message)
      (is : IsMessageOf now.node.gateway.works req work current place message) (asks : asks_all work.work ≡ true) where
    by_guests : GuestsChange before n now → message.index ≡ index_asked work.work place
    by_guests (GuestsStay was was_there was_up gateway sessions requests) =
        subst (λ (g : Gateway). AreOfPlaces g.works) (sym gateway) (all n was was_there (was_up up)) req work current place message is asks
    by_guests (GuestsAreNone sessions none) =
        let (request, asked) = asked_for now.node (well_after script range start began change n now there) req work is.there in
        let empty : tree.get now.node.requests req ≡ None
        = ap (λ (r : tree.FinMap nat_cmp Request). tree.get r req) none ∙ tree.get-empty {X = Request} nat_cmp req in
        absurd (cc (empty, asked))

    -- of a node that goes on in its step
    module _ (g : IsGoingOn script start before after) where
      abbrev was : Host
      was = host_with_node g.stepping.host g.so_far.node

      here_before : tree.get before.world.hosts g.stepping.n ≡ Some (host_with_node g.stepping.host g.so_far.node)
      here_before =
          ap (λ (m : MomentWithPast). tree.get m.world.hosts g.stepping.n) g.before_so
          ∙ get-insert_same start.world.hosts g.stepping.n was

      own : host_with_node g.stepping.host g.next.node ≡ now → message.index ≡ index_asked work.work place
      own same = ⊎_elim
          (λ (m : WasMessageOf (input_of_cause g.stepping.cause) g.so_far.node.gateway.works req work current place message).
          m.index_so
          ∙ all g.stepping.n was here_before (not_lost g.stepping.host g.is.up) req m.was m.before place m.m m.is
          (ap (λ (w : ObjWork). asks_all w) (sym m.work_so) ∙ asks)
          ∙ ap (λ (w : ObjWork). index_asked w place) (sym m.work_so))
          (λ (new : BeginsNow work place message). new.index_so asks)
          (change_messages (input_of_cause g.stepping.cause) g.so_far g.next
          (both_in_chain (input_of_cause g.stepping.cause) g.stepping.host.node
          (known_step script range start.world began g.stepping g.is).sound g.so_far g.within.leads).0 g.within.change req work current
          place message
          (record { there = ap (λ (h : Host). tree.get h.node.gateway.works req) same ∙ is.there; stage = is.stage; at = is.at }))

      going_on : message.index ≡ index_asked work.work place
      going_on = ⊎_elim
          (λ (here : (n ≡ g.stepping.n) × (host_with_node g.stepping.host g.next.node ≡ now)). own here.1)
          (λ (other : (n ≢ g.stepping.n) × (tree.get start.world.hosts n ≡ Some now)).
          all n now
          (ap (λ (m : MomentWithPast). tree.get m.world.hosts n) g.before_so
          ∙ get-insert_other start.world.hosts g.stepping.n was n other.0 ∙ other.1) up req work current place message is asks)
          (get-insert_cases start.world.hosts g.stepping.n (host_with_node g.stepping.host g.next.node) n now
          (ap (λ (m : MomentWithPast). tree.get m.world.hosts n) (sym g.after_so) ∙ there))

    of_place : message.index ≡ index_asked work.work place
    of_place = ⊎_elim
        (λ (g : IsGoingOn script start before after). going_on g)
        (λ (b : IsBetween before after). by_guests (b.0 n now there))
        (between script start change)

  kept_places : KeptByChanges script AllOfPlaces
  kept_places = record {
    opens = λ n host there up req work current place message is asks. absurd (no_works script n host there req work is.there);
    keeps = λ start before after began change all n now there up req work current place message is asks.
        of_place start before after began change all n now there up req work current place message is asks;
  }

  pub places-in_run : (events : List Move) (moment : MomentWithPast) → run_with_past script events ≡ Some moment → AllOfPlaces moment
  places-in_run events moment run = run-kept script AllOfPlaces kept_places events moment run

-- In every run in range a tag that is written to an inode, or waits to be, has no entry of the inode's table: it was short as it was asked.
use Rattle.std.proofs.Common.{◌≡◌, ◌≢◌, ◌⊎◌, ⊎_elim, inl, inr, arith, ℕ, ◌+◌, ◌*◌, false, All, Contains, List, []}
use Rattle.std.proofs.Common.{Option, Some, None, unwrap_or, refl, sym, ap, subst, ◌∙◌}
use Rattle.std.specs.Ordering.{nat_cmp}
use Rattle.std.specs.FinMap as tree
use Rattle.std.proofs.lemmas.List.Elements.{All-head}
use Rattle.proof_tools.proofs.FiniteMaps.{get-insert_same, get-insert_other, get-insert_cases}
use Rattle.proof_tools.proofs.Lists.{Contains-nil}
use Rattle.object_id.specs.Oid.{IsVid}
use Rattle.inode.specs.Layout.{Content}
use Rattle.inode.specs.declared.layout.TheConstants.{INODE_HEADER_BYTES, TEXT_BYTES}
use Rattle.cluster_script.specs.declared.statement.Statement.{Statement}
use Rattle.peer_proto.specs.Work.{oid_of}
use Rattle.peer_proto.specs.declared.work.ObjWork.{ObjWork}
use Rattle.peer_proto.specs.declared.work.ObjWork.TheVariants.{Create}
use Rattle.gateway.specs.State.{Gateway}
use Rattle.guest_driver.specs.Driver.{Driver, Reads, Writes, Answered, InPlace, Fetching, Creating, Entering}
use Rattle.guest_driver.specs.OnDisk.{pieces_left}
use Rattle.guest_driver.specs.PieceWorks.{object_bytes}
use Rattle.vdi_ops.specs.InodeWorks.{write_tag}
use Rattle.object_id.specs.Oid.{object_number}
use Rattle.sheep_node.specs.declared.course.Request.{Request}
use Rattle.sheep_node.specs.declared.session.Session.{Session}
use Rattle.sheep_node.specs.Changes.{ToWork, RequestSteps}
use Rattle.sheep_node.specs.OneWork.{may_work_at, waiting_in}
use Rattle.sheep_node.specs.State.{Node, new_session}
use Rattle.sheep_node.specs.StepState.{StepState}
use Rattle.sheep_node.specs.WantedWorks.{HasWork, IsWorkOfDriver}
use Rattle.sheep_node.proofs.OneWorkParts.{Sessions}
use Rattle.sheep_world.specs.Began.{Began}
use Rattle.sheep_world.specs.NodeCauses.{input_of_cause, host_with_node}
use Rattle.sheep_world.specs.World.{Host}
use Rattle.sheep_world.specs.RunsWithAsks.{Move}
use Rattle.overlap_law.specs.MomentChanges.{MomentChange, MomentTrail, RunsAreInRange, KeptByChanges}
use Rattle.overlap_law.specs.Past.{MomentWithPast, first_moment, run_with_past}
use Rattle.overlap_law.specs.Reached.{Hosts}
use Rattle.overlap_law.specs.StepMoments.{SteppingNode, IsStepping, StepsByChanges, LeadsInStep, first_in_step}
use Rattle.overlap_law.proofs.CausedWorks.{no_object}
use Rattle.overlap_law.proofs.DriverEntries.{no_inode}
use Rattle.overlap_law.proofs.GuestsInMoments.{GuestsChange, GuestsStay, GuestsAreNone, IsGoingOn, IsBetween, between}
use Rattle.overlap_law.proofs.KnownDisks.{FewAt}
use Rattle.overlap_law.proofs.MessagesInMoments.{no_works}
use Rattle.overlap_law.proofs.OpeningOverlap.{no_session}
use Rattle.overlap_law.proofs.OtherWorks.{HasNone}
use Rattle.overlap_law.proofs.RunsByChanges.{on_the_way}
use Rattle.overlap_law.proofs.WorksCome.{AreAll, ComesNow, works_come}
use Rattle.overlap_law.proofs.WorksInMoments.{well_after}
use Rattle.overlap_law.proofs.StepsInRuns.{knows_well}
use Rattle.overlap_law.proofs.StepsToWorks.{WithoutEntry, TaskCreates, TaskWritesBack, DecisionCreates, ComesToWork, OfDriver, OfOther}
use Rattle.overlap_law.proofs.StepsToWorks.{comes_to_work}
use Rattle.overlap_law.proofs.EntryWorks.{from_of}
pub use Rattle.overlap_law.proofs.StepsInRuns.{knows_well as knows_works}
pub use Rattle.overlap_law.proofs.StepsToWorks.{act_of}

-- a tag that a work writes has no entry
abbrev pub IsShort : ObjWork → Type 0
IsShort work = (inode : Content) (tag : List ℕ) → work ≡ write_tag inode tag → HasNone work

none_short : (work : ObjWork) → HasNone work → IsShort work
none_short work none inode tag same = none

-- the works of reads and writes are no tags
driver_short : (inode : Content) (driver : Driver) (work : ObjWork) → IsVid inode.vid → All FewAt (pieces_left driver)
    → IsWorkOfDriver inode driver work → IsShort work
driver_short inode (Reads told piece rest) work id few (vid, is) old tag same = absurd (cc (is, same))
driver_short inode (Writes payload InPlace piece rest) work id few is old tag same =
    no_inode inode.vid piece.index old.vid id (All-head FewAt piece rest few) (sym (ap oid_of is) ∙ ap oid_of same)
driver_short inode (Writes payload Fetching piece rest) work id few (vid, is) old tag same = absurd (cc (is, same))
driver_short inode (Writes payload Creating piece rest) work id few (offset, bytes, is) old tag same =
    let created : work ≡ Create (object_number inode.vid piece.index) inode.spec.policy (object_bytes inode) offset bytes = cc (is) in
    absurd (cc (created, same))
driver_short inode (Writes payload Entering piece rest) work id few is old tag same =
    let at : INODE_HEADER_BYTES + 4 * piece.index ≡ TEXT_BYTES = sym (ap from_of is) ∙ ap from_of same in
    absurd (omega (arith, at))
driver_short inode Answered work id few is old tag same = absurd is

-- ---- in the middle of a step

module _ (script : List Statement) (range : RunsAreInRange script) (start : MomentWithPast) (began : Began script start.world)
    (on : SteppingNode) (is : IsStepping script start.world on) (by : StepsByChanges on.cause) (so_far : StepState)
    (leads : LeadsInStep on (first_in_step on) so_far) where
  steps_short : (session req : ℕ) (work : ObjWork) (moved : StepState)
      → RequestSteps (input_of_cause on.cause) on.host.node so_far session req (ToWork work) moved → IsShort work
  steps_short session req work moved steps =
      by_case (comes_to_work so_far (knows_well script range start began on is by so_far leads)
      (no_object script start.world on.n on.host on.cause is.caused) session req work moved steps)
    where
      by_case : ComesToWork (input_of_cause on.cause) on.host.node so_far session req work moved → IsShort work
      by_case (OfDriver step there so how) = driver_short step.inode step.driver work so.id so.few so.wanted
      by_case (OfOther apart (WithoutEntry none)) = none_short work none
      by_case (OfOther apart (TaskCreates number done attempt status bytes op ends inode same of)) = λ old tag is. absurd (cc (same, is))
      by_case (OfOther apart (TaskWritesBack number done attempt status bytes op ends vid ids header at same)) = λ old tag is.
          let start_of : 0 ≡ TEXT_BYTES = sym (ap from_of same) ∙ ap from_of is in absurd (omega (arith, start_of))
      by_case (OfOther apart (DecisionCreates entry op from read waits creates)) = λ old tag is.
          let same = creates.same in absurd (cc (same, is))

-- ---- every run

abbrev pub HasShortTags : Node → Type 0
HasShortTags node = AreAll (λ req work. IsShort work) node.gateway.works node.sessions

abbrev pub TagsAreShort : Hosts → Type 0
TagsAreShort hosts = (n : ℕ) (host : Host) → tree.get hosts n ≡ Some host → HasShortTags host.node

module _ (script : List Statement) (range : RunsAreInRange script) where
  opens_short : TagsAreShort (first_moment script).world.hosts
  opens_short n host there req work (inl (one, got, same)) = absurd (no_works script n host there req one got)
  opens_short n host there req work (inr (number, waits)) = by_session (tree.get host.node.sessions number) refl
    where
      by_session : (o : Option Session) → tree.get host.node.sessions number ≡ o → IsShort work
      by_session None none =
          absurd (Contains-nil _ (subst (λ (o : Option Session). Contains (unwrap_or o new_session).inode_queue.waiting
          (record { req = req; work = work })) none waits))
      by_session (Some session) got = no_session script n host there number session got

  module _ (start before after : MomentWithPast) (began : Began script start.world) (change : MomentChange script start before after)
      (all : TagsAreShort before.world.hosts) where
    stays : (n : ℕ) (host : Host) → tree.get after.world.hosts n ≡ Some host → GuestsChange before n host → HasShortTags host.node
    stays n host there (GuestsStay was got still gateway sessions requests) req work has =
        all n was got req work
        (subst (λ (s : Sessions). HasWork req work was.node.gateway.works s) sessions
        (subst (λ (g : Gateway). HasWork req work g.works host.node.sessions) gateway has))
    stays n host there (GuestsAreNone none requests) req work (inl (one, got, same)) =
        let may = (well_after script range start began change n host there).one_work.open_works req one got in
        let cannot : may_work_at (tree.get host.node.requests req) ≡ false
        = ap (λ (all : tree.FinMap nat_cmp Request). may_work_at (tree.get all req)) requests
        ∙ ap may_work_at (tree.get-empty {X = Request} nat_cmp req) in
        absurd (cc (may, cannot))
    stays n host there (GuestsAreNone none requests) req work (inr (number, waits)) =
        let empty : waiting_in number host.node.sessions ≡ []
        = ap (waiting_in number) none
        ∙ ap (λ (o : Option Session). (unwrap_or o new_session).inode_queue.waiting) (tree.get-empty {X = Session} nat_cmp number) in
        absurd (Contains-nil (record { req = req; work = work })
        (subst (λ list. Contains list (record { req = req; work = work })) empty waits))

    going_on : IsGoingOn script start before after → TagsAreShort after.world.hosts
    going_on g n host there = ⊎_elim
        (λ (own : (n ≡ on.n) × (host_with_node on.host g.next.node ≡ host)).
        subst (λ (h : Host). HasShortTags h.node) own.1 (λ req work has. ⊎_elim
        (λ (was : HasWork req work g.so_far.node.gateway.works g.so_far.node.sessions).
        all on.n (host_with_node on.host g.so_far.node)
        (ap (λ (m : MomentWithPast). tree.get m.world.hosts on.n) g.before_so
        ∙ get-insert_same start.world.hosts on.n (host_with_node on.host g.so_far.node)) req work was)
        (λ (c : ComesNow (input_of_cause on.cause) on.host.node g.so_far req work).
        steps_short script range start began on g.is g.by g.so_far g.within.leads c.session req work c.moved c.steps)
        (works_come (input_of_cause on.cause) on.host.node g.so_far g.next g.within.change req work has)))
        (λ (other : (n ≢ on.n) × (tree.get start.world.hosts n ≡ Some host)).
        all n host
        (ap (λ (m : MomentWithPast). tree.get m.world.hosts n) g.before_so
        ∙ get-insert_other start.world.hosts on.n (host_with_node on.host g.so_far.node) n other.0 ∙ other.1))
        (get-insert_cases start.world.hosts on.n (host_with_node on.host g.next.node) n host
        (sym (ap (λ (m : MomentWithPast). tree.get m.world.hosts n) g.after_so) ∙ there))
      where
        on : SteppingNode
        on = g.stepping

    keeps_short : TagsAreShort after.world.hosts
    keeps_short = ⊎_elim
        (λ (g : IsGoingOn script start before after). going_on g)
        (λ (b : IsBetween before after). λ n host there. stays n host there (b.0 n host there))
        (between script start change)

  kept_short : KeptByChanges script (λ (moment : MomentWithPast). TagsAreShort moment.world.hosts)
  kept_short = record {
    opens = opens_short;
    keeps = λ start before after began change all. keeps_short start before after began change all;
  }

  pub short_in_run : (events : List Move) (start moment : MomentWithPast) → run_with_past script events ≡ Some start
      → MomentTrail script start moment → TagsAreShort moment.world.hosts
  short_in_run = on_the_way script (λ (moment : MomentWithPast). TagsAreShort moment.world.hosts) kept_short

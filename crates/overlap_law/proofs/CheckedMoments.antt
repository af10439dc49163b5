-- As far as a step of a node has come, each value that a check of it writes has begun to be written, by the history so far.
use Rattle.std.proofs.Common.{◌≡◌, ◌⊎◌, inl, inr, ⊎_elim, ℕ, ◌+◌, ◌*◌, ◌<◌, Bool, true, List, [], ◌∷◌, ◌++◌, All, Option, Some, None}
use Rattle.std.proofs.Common.{option_map, refl, sym, ap, subst, ◌∙◌, arith}
use Rattle.std.specs.Option.{option_map_or, option_and_then}
use Rattle.std.specs.Ordering.{nat_cmp}
use Rattle.std.specs.FinMap as tree
use Rattle.std.proofs.lemmas.List.Elements.{Contains-append_left, Contains-append_right}
use Rattle.std.proofs.lemmas.Option.{same_Some}
use Rattle.object_id.specs.declared.entry.VdiSpec.{VdiSpec}
use Rattle.object_id.specs.declared.limits.TheConstants.{OBJECTS_MAX}
use Rattle.object_id.specs.Oid.{IsVid, object_number}
use Rattle.object_id.specs.Spec.{IsSpec}
use Rattle.inode.specs.Layout.{Content}
use Rattle.cluster_script.specs.declared.statement.Statement.{Statement}
use Rattle.cluster_script.specs.NumberedRequests.{request_at}
use Rattle.disk_check.specs.Check.{Check, CheckStage, Comparing, WritingBack, Answered, begin_check, begun_check, check_on, left_of}
use Rattle.disk_check.specs.Check.{value_at_stage, write_value}
use Rattle.disk_check.specs.Table.{own_indexes}
use Rattle.disk_history.specs.declared.event.HistEvent.{HistEvent}
use Rattle.disk_history.specs.declared.event.HistEvent.TheVariants.{WriteStart}
use Rattle.peer_proto.specs.Work.{oid_of}
use Rattle.peer_proto.specs.declared.say.PeerRsp.{PeerRsp}
use Rattle.peer_proto.specs.declared.work.ObjWork.{ObjWork}
use Rattle.peer_proto.specs.declared.work.ObjWork.TheVariants.{Write}
use Rattle.sheep_node.specs.declared.ask.Ask.{Ask}
use Rattle.sheep_node.specs.declared.check_write.CheckWrite.{CheckWrite}
use Rattle.sheep_node.specs.declared.course.Course.{Course}
use Rattle.sheep_node.specs.declared.course.Course.TheVariants.{Checking}
use Rattle.sheep_node.specs.declared.course.Request.{Request}
use Rattle.sheep_node.specs.declared.input.Input.{Input}
use Rattle.sheep_node.specs.declared.input.Input.TheVariants as inputs
use Rattle.sheep_node.specs.Changes.{IsTold, Leads, MeetsNumbers, input_received}
use Rattle.sheep_node.specs.CheckWrites.{check_write_on, work_of_write, write_of_value}
use Rattle.sheep_node.specs.State.{Node}
use Rattle.sheep_node.specs.StepState.{StepState, at_first}
use Rattle.sheep_node.specs.WantedWorks.{HasWork, IsWantedAt, IsWorkOfCheck}
use Rattle.sheep_node.proofs.ReceivedInputs.{received_keeps}
use Rattle.sheep_node.proofs.StepChain.{kept_by_chain, untaken}
use Rattle.sheep_world.specs.Began.{Began}
use Rattle.sheep_world.specs.HistoryAdditions.{check_write_grown}
use Rattle.sheep_world.specs.NodeCauses.{NodeCause, GuestAsks, RequestComes, ReplyComes, LossIsTold, EntryIsRead, EntryIsPut, RecoveryTicks}
use Rattle.sheep_world.specs.NodeCauses.{WorkIsRetried, ClientAsks, input_of_cause, IsCause, progress_at_cause}
use Rattle.sheep_world.specs.World.{Host, World, is_host_up, node_at}
use Rattle.overlap_law.specs.HistoryGrowth.{added_at_cause, check_write_at}
use Rattle.overlap_law.specs.MomentChanges.{RunsAreInRange}
use Rattle.overlap_law.specs.Units.{bytes_by}
use Rattle.overlap_law.specs.WrittenBlocks.{blocks_per_object}
use Rattle.overlap_law.proofs.CausedWorks.{IsNotServed}
use Rattle.overlap_law.proofs.CheckedStarts.{IsBegunAt, write_begins}
use Rattle.overlap_law.proofs.CheckedSteps.{IsFrom, IsSameDisk, WasCheck, same_check, wanted_then, was_check, work_from}
use Rattle.overlap_law.proofs.ComingWrites.{coming}
use Rattle.overlap_law.proofs.CoursesOfAsks.{course_placed}
use Rattle.overlap_law.proofs.CoursesOfScript.{asked_by, BeganOn}
use Rattle.overlap_law.proofs.CoursesStepOn.{BeginsSo, IsKeptByCourses, IsSoAmong, IsSoIn, change_so}
use Rattle.overlap_law.proofs.FoundInSteps.{check_line}
use Rattle.overlap_law.proofs.ItemsOfReplies.{is_check_at}
use Rattle.overlap_law.proofs.KnownDisks.{kind-of_object}
use Rattle.overlap_law.proofs.LongValues.{value-long}
use Rattle.overlap_law.proofs.RequestsInSteps.{KnownIn, change_known, received_none, received_replies}
use Rattle.overlap_law.proofs.StandingSteps.{placed, sound}
use Rattle.overlap_law.proofs.WholeInRuns.{sound_here}

-- ---- what begins stays begun

-- what the checks of a node have to write has begun
abbrev pub HasBegunValues : List HistEvent → Node → Type 0
HasBegunValues history node = (req session : ℕ) (check : Check)
    → tree.get node.requests req ≡ Some (record { session = session; course = Checking check }) → (index : ℕ) (value : List ℕ)
    → HasWork req (write_value check index value) node.gateway.works node.sessions
    → IsBegunAt history req check.vid check.spec index (write_value check index value)

pub begun_before : (history grown : List HistEvent) (req vid : ℕ) (spec : VdiSpec) (index : ℕ) (work : ObjWork)
    → IsBegunAt history req vid spec index work → IsBegunAt (history ++ grown) req vid spec index work
begun_before history grown req vid spec index work begun unit inside within =
    let (coded, among) = begun unit inside within in (
      coded,
      Contains-append_left history grown
          (WriteStart req vid (index * blocks_per_object spec + unit) coded (bytes_by unit work)) among,
    )

pub begun_behind : (history grown : List HistEvent) (req vid : ℕ) (spec : VdiSpec) (index : ℕ) (work : ObjWork)
    → IsBegunAt grown req vid spec index work → IsBegunAt (history ++ grown) req vid spec index work
begun_behind history grown req vid spec index work begun unit inside within =
    let (coded, among) = begun unit inside within in (
      coded,
      Contains-append_right history grown
          (WriteStart req vid (index * blocks_per_object spec + unit) coded (bytes_by unit work)) among,
    )

pub values_grown : (history grown : List HistEvent) (node : Node) → HasBegunValues history node → HasBegunValues (history ++ grown) node
values_grown history grown node all req session check got index value has =
    begun_before history grown req check.vid check.spec index (write_value check index value) (all req session check got index value has)

-- of a check that is of the same disk
pub disk_so : (history : List HistEvent) (req index : ℕ) (value : List ℕ) (one other : Check) → IsSameDisk one other
    → IsBegunAt history req other.vid other.spec index (write_value other index value)
    → IsBegunAt history req one.vid one.spec index (write_value one index value)
disk_so history req index value one other same begun =
    subst (λ (s : VdiSpec). IsBegunAt history req one.vid s index (Write (object_number one.vid index) s.policy 0 value)) (sym same.spec)
    (subst (λ (v : ℕ). IsBegunAt history req v other.spec index (Write (object_number v index) other.spec.policy 0 value)) (sym same.vid)
    begun)

-- a request is at one check
pub one_check : (o : Option Request) (session its : ℕ) (one other : Check)
    → o ≡ Some (record { session = session; course = Checking one }) → o ≡ Some (record { session = its; course = Checking other })
    → one ≡ other
one_check o session its one other first then =
    let course : Checking one ≡ Checking other
    = ap (λ (r : Request). r.course)
    (same_Some (record { session = session; course = Checking one }) (record { session = its; course = Checking other })
    (sym first ∙ then)) in
    cc (course)

-- what a node has for its number, in the words of its course
pub with_course : (o : Option Request) (request : Request) (check : Check) → o ≡ Some request → request.course ≡ Checking check
    → o ≡ Some (record { session = request.session; course = Checking check })
with_course o request check there course =
    there ∙ ap (λ (c : Course). Some (record { session = request.session; course = c })) course

-- a write is of an own object of a check's disk
pub record IsOfCheck (write : CheckWrite) (check : Check) : Type 0 where
  pub vid : write.vid.0 ≡ check.vid
  pub spec : write.spec ≡ check.spec
  pub few : write.index < OBJECTS_MAX

of_check : (write : CheckWrite) (check : Check) (bytes : List ℕ) (stage : CheckStage) → All (λ index. index < OBJECTS_MAX) (left_of stage)
    → option_map (write_of_value write.req check) (value_at_stage bytes check.spec stage) ≡ Some write → IsOfCheck write check
of_check write check bytes (Comparing index later) within comes =
    subst (λ (w : CheckWrite). IsOfCheck w check) (same_Some _ write comes)
    (record { vid = refl; spec = refl; few = within 0 0 (omega arith) })
of_check write check bytes (WritingBack later) within comes = absurd (cc (comes))
of_check write check bytes Answered within comes = absurd (cc (comes))

-- the same write in other words
in_words : (history : List HistEvent) (write : CheckWrite) (req vid index : ℕ) (spec : VdiSpec) (work : ObjWork) → write.req ≡ req
    → write.vid.0 ≡ vid → write.spec ≡ spec → write.index ≡ index → work_of_write write ≡ work
    → IsBegunAt history write.req write.vid.0 write.spec write.index (work_of_write write) → IsBegunAt history req vid spec index work
in_words history write req vid index spec work own disk same object does begun =
    subst (IsBegunAt history req vid spec index) does
    (subst (λ (k : ℕ). IsBegunAt history req vid spec k (work_of_write write)) object
    (subst (λ (s : VdiSpec). IsBegunAt history req vid s write.index (work_of_write write)) same
    (subst (λ (v : ℕ). IsBegunAt history req v write.spec write.index (work_of_write write)) disk
    (subst (λ (r : ℕ). IsBegunAt history r write.vid.0 write.spec write.index (work_of_write write)) own begun))))

-- only by a reply does a check come to a write
by_reply : (input : Input) (node : Node) (write : CheckWrite) → ((rsp : PeerRsp) → input ≡ inputs.Reply rsp → ⊥)
    → check_write_on input node ≡ Some write → ⊥
unfolding check_write_on
by_reply (inputs.Guest req session ask) node write none is = cc (is)
by_reply (inputs.Request request) node write none is = cc (is)
by_reply (inputs.Reply rsp) node write none is = none rsp refl
by_reply (inputs.Lost lost) node write none is = cc (is)
by_reply (inputs.LogEntry entry) node write none is = cc (is)
by_reply inputs.Put node write none is = cc (is)
by_reply inputs.RecoverTick node write none is = cc (is)
by_reply inputs.RetryTick node write none is = cc (is)
by_reply (inputs.Back entries) node write none is = cc (is)

-- ---- a check that has just begun writes nothing

abbrev IsUnwritten : Course → Type 0
IsUnwritten course = (check : Check) → course ≡ Checking check → (behind : List ℕ) → check.stage ≡ WritingBack behind → ⊥

begun_unwritten : (inode : Content) (behind : List ℕ) → (begin_check inode).check.stage ≡ WritingBack behind → ⊥
unfolding begin_check
begun_unwritten inode behind = by_list (own_indexes inode)
  where
    by_list : (own : List ℕ) → (check_on (begun_check inode) own).check.stage ≡ WritingBack behind → ⊥
    by_list [] is = cc (is)
    by_list (index ∷ later) is = cc (is)

module _ (req : ℕ) where
  begins_unwritten : BeginsSo req IsUnwritten
  begins_unwritten = record {
    waits = λ ask check is behind at. cc (is);
    commands = λ op check is behind at. cc (is);
    checks = λ inode check is behind at.
        let same : (begin_check inode).check ≡ check = cc (is) in
        begun_unwritten inode behind (ap (λ (c : Check). c.stage) same ∙ at);
    objects = λ work check is behind at. cc (is);
    entries = λ entry check is behind at. cc (is);
  }

  unwritten_parts : (input : Input) (node : Node) (other session : ℕ) (ask : Ask) → input ≡ inputs.Guest other session ask
      → IsKeptByCourses req IsUnwritten input node
  unwritten_parts input node other session ask from = record {
    begins = λ ask driver before check is behind at. cc (is);
    drives = λ driver next before check is behind at. cc (is);
    commands = λ op next before check is behind at. cc (is);
    checks = λ so_far of number work attempt status bytes check step ends goes before.
        absurd (subst (λ (i : Input). IsTold i number status) from ends.ends.learns.told);
  }

module _ (script : List Statement) (range : RunsAreInRange script) (world : World) (began : Began script world) (n : ℕ) (host : Host)
    (there : tree.get world.hosts n ≡ Some host) (up : is_host_up host ≡ true) where
  -- ---- a check comes to its write

  pub record Comes (cause : NodeCause) (write : CheckWrite) : Type 0 where
    pub session : ℕ
    pub check : Check
    pub got : tree.get host.node.requests write.req ≡ Some (record { session = session; course = Checking check })
    pub of : IsOfCheck write check
    pub begun : IsBegunAt (added_at_cause script world cause) write.req write.vid.0 write.spec write.index (work_of_write write)

  abbrev IsNoReply : NodeCause → Type 0
  IsNoReply cause = (rsp : PeerRsp) → input_of_cause cause ≡ inputs.Reply rsp → ⊥

  none_comes : (cause : NodeCause) (write : CheckWrite) → IsNoReply cause → check_write_on (input_of_cause cause) host.node ≡ Some write
      → Comes cause write
  none_comes cause write none on = absurd (by_reply (input_of_cause cause) host.node write none on)

  pub write_comes : (cause : NodeCause) → IsCause script world n host cause → (write : CheckWrite)
      → check_write_on (input_of_cause cause) host.node ≡ Some write → is_check_at script write.req ≡ true → Comes cause write
  write_comes (ReplyComes name from rsp) caused write on checks =
      let has = coming write rsp host.node on in
      let sound = sound_here script range world began n host there up in
      let is = sound.sound_works.courses write.req (record { session = has.session; course = Checking has.check }) has.there in
      let of = of_check write has.check has.bytes has.check.stage is.within has.comes in
      let write_at : check_write_at world (ReplyComes name from rsp) ≡ Some write
      = ap (λ (k : ℕ). option_and_then (check_write_on (inputs.Reply rsp)) (node_at k world)) caused.here
      ∙ ap (λ (o : Option Host). option_and_then (check_write_on (inputs.Reply rsp)) (option_map (λ (h : Host). h.node) o)) there
      ∙ on in
      record {
        session = has.session;
        check = has.check;
        got = has.there;
        of = of;
        begun = subst (λ (o : Option CheckWrite).
            IsBegunAt (option_map_or (check_write_grown script) o []) write.req write.vid.0 write.spec write.index (work_of_write write))
            (sym write_at)
            (write_begins write (subst IsSpec (sym of.spec) is.spec) (value-long write rsp host.node sound on) script checks
            (kind-of_object write.vid.0 write.index (subst IsVid (sym of.vid) is.vid) of.few));
      }
  write_comes (GuestAsks session req ask) caused write on checks =
      none_comes (GuestAsks session req ask) write (λ rsp same. cc (same)) on
  write_comes (RequestComes name to request) caused write on checks =
      none_comes (RequestComes name to request) write (λ rsp same. cc (same)) on
  write_comes (LossIsTold name packet) caused write on checks =
      none_comes (LossIsTold name packet) write (λ rsp same. cc (same)) on
  write_comes (EntryIsRead entry) caused write on checks = none_comes (EntryIsRead entry) write (λ rsp same. cc (same)) on
  write_comes (EntryIsPut entry) caused write on checks = none_comes (EntryIsPut entry) write (λ rsp same. cc (same)) on
  write_comes RecoveryTicks caused write on checks = none_comes RecoveryTicks write (λ rsp same. cc (same)) on
  write_comes WorkIsRetried caused write on checks = none_comes WorkIsRetried write (λ rsp same. cc (same)) on
  write_comes (ClientAsks req ask) caused write on checks = none_comes (ClientAsks req ask) write (λ rsp same. cc (same)) on

  -- ---- as far as a step has come

  module _ (cause : NodeCause) (not_served : IsNotServed cause) (caused : IsCause script world n host cause) (so_far : StepState)
      (leads : Leads (input_of_cause cause) host.node (input_received (input_of_cause cause) (at_first host.node)) so_far) where
    abbrev IsHere : ℕ → ℕ → Bool → Type 0
    IsHere other its disk = ((was : Request) × (tree.get host.node.requests other ≡ Some was))
        ⊎ ((number : ℕ) × (ask : Ask) × (input_of_cause cause ≡ inputs.Guest other number ask))

    module _ (req session : ℕ) (check : Check)
        (got : tree.get so_far.node.requests req ≡ Some (record { session = session; course = Checking check })) where
      -- the check was there as the step began, or comes with it
      pub here : ((was : Request) × (tree.get host.node.requests req ≡ Some was))
          ⊎ ((number : ℕ) × (ask : Ask) × (input_of_cause cause ≡ inputs.Guest req number ask))
      here =
          (kept_by_chain (KnownIn IsHere)
          (change_known IsHere (input_of_cause cause) host.node (λ other number ask from. inr (number, ask, from))) leads
          (received_none IsHere (input_of_cause cause) host.node (received_replies (input_of_cause cause) host.node)
          (λ other was own. inl (was, own)))).asked req (record { session = session; course = Checking check }) got

      -- it is the script's
      pub checks_so : is_check_at script req ≡ true
      checks_so =
          let (start, at, so) = course_placed (asked_by script) (BeganOn script (progress_at_cause cause world)) session req
          (Checking check) so_far got (placed script range world began n host there up cause not_served caused so_far leads) in
          check_line (request_at script req) so.of

      module _ (index : ℕ) (value : List ℕ)
          (has : HasWork req (write_value check index value) so_far.node.gateway.works so_far.node.sessions) where
        -- one that comes has nothing to write
        pub brought_none : (number : ℕ) (ask : Ask) → input_of_cause cause ≡ inputs.Guest req number ask → ⊥
        brought_none number ask from = by_stage check.stage refl wants
          where
            none : tree.get host.node.requests req ≡ None
            none =
                untaken host.node req
                (subst (λ (i : Input). MeetsNumbers i host.node) from (sound script range world began n host there up cause not_served
                caused).0)

            wants : IsWorkOfCheck check check.stage (write_value check index value)
            wants =
                subst (λ (o : Option Request). IsWantedAt so_far.node.sessions o (write_value check index value)) got
                (wanted_then script range world began n host there up cause not_served caused so_far leads req
                (write_value check index value) has)

            unwritten : IsUnwritten (Checking check)
            unwritten =
                kept_by_chain (IsSoIn req IsUnwritten)
                (change_so req IsUnwritten (input_of_cause cause) host.node
                (unwritten_parts req (input_of_cause cause) host.node req number ask from) (λ other asked own. begins_unwritten req))
                leads
                (received_keeps (λ works requests sessions. IsSoAmong req IsUnwritten requests)
                (λ r at. let empty = tree.get-empty {X = Request} nat_cmp req in absurd (cc (empty, at))) (input_of_cause cause) host.node
                (λ r at. absurd (cc (none, at))))
                (record { session = session; course = Checking check }) got

            by_stage : (stage : CheckStage) → check.stage ≡ stage → IsWorkOfCheck check stage (write_value check index value) → ⊥
            by_stage (Comparing first later) at is = cc (is)
            by_stage (WritingBack behind) at is = unwritten check refl behind at
            by_stage Answered at is = is

        -- one that was there has begun to write it
        had_begun : (history : List HistEvent) → HasBegunValues history host.node → (rest : List HistEvent) (was : Request)
            → tree.get host.node.requests req ≡ Some was
            → IsBegunAt (history ++ (added_at_cause script world cause ++ rest)) req check.vid check.spec index
            (write_value check index value)
        had_begun history all rest was had =
            by_from (work_from script range world began n host there up cause not_served caused req checks_so was had leads
            (write_value check index value) has)
          where
            old : WasCheck script range world began n host there up cause not_served caused req checks_so was had
            old = was_check script range world began n host there up cause not_served caused req checks_so was had

            same : IsSameDisk check old.check
            same = same_check script range world began n host there up cause not_served caused req checks_so was had so_far leads session
                check got

            now_begun : (write : CheckWrite) → check_write_on (input_of_cause cause) host.node ≡ Some write → write.req ≡ req
                → write_value check index value ≡ work_of_write write
                → IsBegunAt (added_at_cause script world cause) req check.vid check.spec index (write_value check index value)
            now_begun write on own does =
                let comes = write_comes cause caused write on (ap (is_check_at script) own ∙ checks_so) in
                let first : tree.get host.node.requests req ≡ Some (record { session = comes.session; course = Checking comes.check })
                = subst (λ (k : ℕ). tree.get host.node.requests k
                ≡ Some (record { session = comes.session; course = Checking comes.check })) own comes.got in
                let its : comes.check ≡ old.check
                = one_check (tree.get host.node.requests req) comes.session was.session comes.check old.check first old.got in
                let vid : write.vid.0 ≡ check.vid = comes.of.vid ∙ ap (λ (c : Check). c.vid) its ∙ sym same.vid in
                let spec : write.spec ≡ check.spec = comes.of.spec ∙ ap (λ (c : Check). c.spec) its ∙ sym same.spec in
                let object : object_number check.vid index ≡ object_number check.vid write.index
                = ap oid_of does ∙ ap (λ (v : ℕ). object_number v write.index) vid in
                let place : write.index ≡ index = omega (arith, object) in
                in_words (added_at_cause script world cause) write req check.vid index check.spec (write_value check index value) own vid
                spec place (sym does) comes.begun

            by_from : IsFrom (input_of_cause cause) host.node req (write_value check index value)
                → IsBegunAt (history ++ (added_at_cause script world cause ++ rest)) req check.vid check.spec index
                (write_value check index value)
            by_from (inl stood) =
                begun_before history (added_at_cause script world cause ++ rest) req check.vid check.spec index
                (write_value check index value)
                (disk_so history req index value check old.check same (all req was.session old.check old.got index value
                (subst (λ (w : ObjWork). HasWork req w host.node.gateway.works host.node.sessions)
                (λ i. Write (object_number (same.vid i) index) (same.spec i).policy 0 value) stood)))
            by_from (inr (inl (write, on, own, does))) =
                begun_behind history (added_at_cause script world cause ++ rest) req check.vid check.spec index
                (write_value check index value)
                (begun_before (added_at_cause script world cause) rest req check.vid check.spec index (write_value check index value)
                (now_begun write on own does))
            by_from (inr (inr none)) = absurd (cc (none))

    -- so all of it has begun
    pub values_then : (history : List HistEvent) → HasBegunValues history host.node → (rest : List HistEvent)
        → HasBegunValues (history ++ (added_at_cause script world cause ++ rest)) so_far.node
    values_then history all rest req session check got index value has = ⊎_elim
        (λ (old : (was : Request) × (tree.get host.node.requests req ≡ Some was)).
        had_begun req session check got index value has history all rest old.0 old.1)
        (λ (new : (number : ℕ) × (ask : Ask) × (input_of_cause cause ≡ inputs.Guest req number ask)).
        absurd (brought_none req session check got index value has new.0 new.1 new.2))
        (here req session check got)

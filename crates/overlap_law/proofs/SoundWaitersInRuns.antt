-- In every run in range a request that waits for its turn has made no attempt: one that begins has its work at once, and no request comes
-- to wait again.
use Rattle.std.proofs.Common.{◌≡◌, ◌≢◌, inl, inr, ⊎_elim, ℕ, false, List, slice_get, Option, Some, None, refl, sym, ap, subst, ◌∙◌}
use Rattle.std.specs.Ordering.{nat_cmp}
use Rattle.std.specs.FinMap as tree
use Rattle.std.proofs.lemmas.Option.{same_Some}
use Rattle.proof_tools.proofs.FiniteMaps.{get-insert_same, get-insert_other, get-insert_cases}
use Rattle.object_id.specs.declared.node.NodeId.{NodeId}
use Rattle.cluster_script.specs.declared.statement.Statement.{Statement}
use Rattle.peer_proto.specs.declared.guest.DiskAsk.{DiskAsk}
use Rattle.peer_proto.specs.declared.work.ObjWork.{ObjWork}
use Rattle.gateway.specs.State.{Open, Work}
use Rattle.guest_driver.specs.declared.disk.Disk.{Disk}
use Rattle.sheep_node.specs.declared.ask.Ask.{Ask}
use Rattle.sheep_node.specs.declared.ask.Ask.TheVariants as asks
use Rattle.sheep_node.specs.declared.course.Course.{Course}
use Rattle.sheep_node.specs.declared.course.Course.TheVariants.{Waiting}
use Rattle.sheep_node.specs.declared.course.Request.{Request}
use Rattle.sheep_node.specs.declared.input.Input.{Input}
use Rattle.sheep_node.specs.declared.input.Input.TheVariants as inputs
use Rattle.sheep_node.specs.Changes.{attempt_in, input_received}
use Rattle.sheep_node.specs.Courses.{inode_open}
use Rattle.sheep_node.specs.SessionQueues.{session_among}
use Rattle.sheep_node.specs.StepState.{StepState, at_first}
use Rattle.sheep_node.specs.WantedWorks.{IsWantedAt, IsWorkWanted}
use Rattle.sheep_node.proofs.OneWorkParts.{Requests}
use Rattle.sheep_world.specs.NodeCauses.{NodeCause, GuestAsks, RequestComes, ReplyComes, LossIsTold, EntryIsRead, EntryIsPut, RecoveryTicks}
use Rattle.sheep_world.specs.NodeCauses.{WorkIsRetried, ClientAsks, IsCause, input_of_cause, host_with_node}
use Rattle.sheep_world.specs.World.{Host}
use Rattle.sheep_world.specs.RunsWithAsks.{Move}
use Rattle.overlap_law.specs.Attempts.{AttemptRecord}
use Rattle.overlap_law.specs.MomentChanges.{MomentChange, MomentTrail, Then, RunsAreInRange}
use Rattle.overlap_law.specs.Past.{MomentWithPast, run_with_past}
use Rattle.overlap_law.specs.SoundReads.{WaitersMadeNone}
use Rattle.overlap_law.specs.StepMoments.{SteppingNode, IsStepping, StepsByChanges, attempts_at_cause, first_in_step, moment_in_step}
use Rattle.overlap_law.proofs.AnswersInMoments.{not_lost}
use Rattle.overlap_law.proofs.AttemptsInSteps.{attempts-at_first}
use Rattle.overlap_law.proofs.GuestsInMoments.{GuestsChange, GuestsStay, GuestsAreNone, IsGoingOn, IsBetween, between}
use Rattle.overlap_law.proofs.KeptInRuns.{kept_on_the_way}
use Rattle.overlap_law.proofs.NewAttempts.{IsOpened, WasAttempt, come_from}
use Rattle.overlap_law.proofs.NoRecoveredDue.{began-with_past}
use Rattle.overlap_law.proofs.OpeningOverlap.{no_request}
use Rattle.overlap_law.proofs.SoundWaiters.{ComesNow, IsWaiting, waited_or_comes}
use Rattle.overlap_law.proofs.StartedAttempts.{IsStarted, next_is_new, started-in_run}
use Rattle.overlap_law.proofs.GrantsOfCommands.{sound_along}
use Rattle.overlap_law.proofs.WorksInMoments.{well_after}
use Rattle.overlap_law.proofs.AsksInCauses.{not_begun}

abbrev MadeNone : MomentWithPast → Type 0
MadeNone moment = WaitersMadeNone moment.world.hosts moment.past.attempts

module _ (script : List Statement) (range : RunsAreInRange script) (events : List Move) (start before after : MomentWithPast)
    (ran : run_with_past script events ≡ Some start) (trail : MomentTrail script start before)
    (change : MomentChange script start before after) (all : WaitersMadeNone before.world.hosts before.past.attempts) where
  module _ (n : ℕ) (host : Host) (at_host : tree.get after.world.hosts n ≡ Some host) (up : host.is_lost ≡ false) (req : ℕ)
      (request : Request) (ask : DiskAsk) (there : tree.get host.node.requests req ≡ Some request)
      (waits : request.course ≡ Waiting ask) where
    -- an attempt that begins is of a request that has a work, so that doesn't wait
    opened_none : (now : AttemptRecord) → IsOpened script start after now → now.gateway.0 ≡ n → now.req ≡ req → ⊥
    opened_none now o gateway own =
        let its : Host = host_with_node o.stepping.host o.next.node in
        let its_there : tree.get after.world.hosts o.stepping.n ≡ Some (host_with_node o.stepping.host o.next.node)
        = ap (λ (m : MomentWithPast). tree.get m.world.hosts o.stepping.n) o.moment_so
        ∙ get-insert_same start.world.hosts o.stepping.n its in
        let numbered : o.next.node.me.0 ≡ o.stepping.n
        = well_numbered o in
        let here : o.stepping.n ≡ n
        = sym numbered ∙ ap (λ (k : NodeId). k.0) o.me_so ∙ ap (λ (a : AttemptRecord). a.gateway.0) o.opened ∙ gateway in
        let host_so : its ≡ host
        = same_Some its host (sym its_there ∙ ap (tree.get after.world.hosts) here ∙ at_host) in
        let number : o.req ≡ req = ap (λ (a : AttemptRecord). a.req) o.opened ∙ own in
        let got : tree.get host.node.gateway.works req
        ≡ Some (record o.asked { stage = Open (attempt_in o.asked o.lined.node) })
        = ap (λ (h : Host). tree.get h.node.gateway.works req) (sym host_so)
        ∙ ap (tree.get o.next.node.gateway.works) (sym number) ∙ o.at_gateway in
        let well = well_after script range start (began-with_past script events start ran) change n host at_host in
        let wanted : IsWorkWanted (inode_open (session_among request.session host.node.sessions).disk) request.course o.asked.work
        = subst (λ (r : Option Request). IsWantedAt host.node.sessions r o.asked.work) there
        (well.wanted req o.asked.work (inl (record o.asked { stage = Open (attempt_in o.asked o.lined.node) }, got, refl))) in
        subst (λ (c : Course). IsWorkWanted (inode_open (session_among request.session host.node.sessions).disk) c o.asked.work) waits
        wanted
      where
        well_numbered : (o : IsOpened script start after now) → o.next.node.me.0 ≡ o.stepping.n
        well_numbered o =
            ((sound_along script range start (began-with_past script events start ran)
            (subst (MomentTrail script start) o.moment_so (Then trail change))).each o.stepping.n
            (host_with_node o.stepping.host o.next.node)
            (get-insert_same start.world.hosts o.stepping.n (host_with_node o.stepping.host o.next.node))).read.own

    -- one that was there is of another request
    abbrev NoneBefore : Type 0
    NoneBefore = (j : ℕ) (was : AttemptRecord) → slice_get before.past.attempts j ≡ Some was → was.gateway.0 ≡ n → was.req ≡ req → ⊥

    by_origin : NoneBefore → (j : ℕ) (now : AttemptRecord) → slice_get after.past.attempts j ≡ Some now → now.gateway.0 ≡ n
        → now.req ≡ req → ⊥
    by_origin none j now got gateway own = ⊎_elim
        (λ (w : WasAttempt before j now).
        none j w.was w.at (ap (λ (a : AttemptRecord). a.gateway.0) w.same ∙ gateway) (ap (λ (a : AttemptRecord). a.req) w.same ∙ own))
        (λ (o : IsOpened script start after now). opened_none now o gateway own)
        (come_from script range start (began-with_past script events start ran) change j now got)

    by_guests : GuestsChange before n host → NoneBefore
    by_guests (GuestsStay was was_there still gateway sessions requests) =
        all.each n was was_there (still up) req request ask (ap (λ (r : Requests). tree.get r req) (sym requests) ∙ there) waits
    by_guests (GuestsAreNone none requests) =
        let empty = ap (λ (r : Requests). tree.get r req) requests ∙ tree.get-empty {X = Request} nat_cmp req in
        absurd (cc (empty, there))

    -- ---- in a step

    module _ (on : SteppingNode) (is : IsStepping script start.world on) (so_far : StepState)
        (before_so : before ≡ moment_in_step script on start so_far) (by : StepsByChanges on.cause) where
      -- what a guest asks was never begun, and the step had begun no attempt yet
      by_cause : (cause : NodeCause) → IsCause script start.world on.n on.host cause → (session : ℕ) (asked : Ask)
          → input_of_cause cause ≡ inputs.Guest req session asked
          → (attempts_at_cause on.host.node cause start.past.attempts ≡ start.past.attempts)
          × (IsStarted script start.world.guests req → ⊥)
      by_cause (GuestAsks asking other what) caused session asked from =
          let same : other ≡ req = cc (from) in (
            refl,
            λ started. next_is_new script start.world.guests asking.number req (caused.next ∙ ap (λ (k : ℕ). Some k) same) started,
          )
      by_cause (RequestComes name to what) caused session asked from = absurd (cc (from))
      by_cause (ReplyComes name to what) caused session asked from = absurd (cc (from))
      by_cause (LossIsTold name packet) caused session asked from = absurd (cc (from))
      by_cause (EntryIsRead entry) caused session asked from = absurd (cc (from))
      by_cause (EntryIsPut entry) caused session asked from = absurd (cc (from))
      by_cause RecoveryTicks caused session asked from = absurd (cc (from))
      by_cause WorkIsRetried caused session asked from = absurd (cc (from))
      by_cause (ClientAsks begins what) caused session asked from =
          let same : begins ≡ req = cc (from) in (refl, λ started. not_begun caused started.0 req same started.1)

      new_none : ComesNow req (input_of_cause on.cause) on.host.node so_far → NoneBefore
      new_none comes j was at gateway own =
          let (same, fresh) = by_cause on.cause is.caused comes.session (asks.Disk comes.ask) comes.arrival.from in
          let first : so_far ≡ first_in_step on
          = comes.arrival.first
          ∙ sym (ap (λ (input : Input). input_received input (at_first on.host.node)) comes.arrival.from) in
          let attempts_so : before.past.attempts ≡ start.past.attempts
          = ap (λ (m : MomentWithPast). m.past.attempts) before_so
          ∙ ap (λ (s : StepState). (moment_in_step script on start s).past.attempts) first
          ∙ attempts-at_first script start on is by ∙ same in
          fresh (subst (IsStarted script start.world.guests) own
          (started-in_run script range events start ran j was
          (ap (λ (list : List AttemptRecord). slice_get list j) (sym attempts_so) ∙ at)))

    going : IsGoingOn script start before after → NoneBefore
    going g = ⊎_elim
        (λ (mine : (n ≡ g.stepping.n) × (host_with_node g.stepping.host g.next.node ≡ host)). own_node mine.0 mine.1)
        (λ (other : (n ≢ g.stepping.n) × (tree.get start.world.hosts n ≡ Some host)).
        all.each n host
        (ap (λ (m : MomentWithPast). tree.get m.world.hosts n) g.before_so
        ∙ get-insert_other start.world.hosts g.stepping.n (host_with_node g.stepping.host g.so_far.node) n other.0 ∙ other.1) up req request
        ask there waits)
        (get-insert_cases start.world.hosts g.stepping.n (host_with_node g.stepping.host g.next.node) n host
        (ap (λ (m : MomentWithPast). tree.get m.world.hosts n) (sym g.after_so) ∙ at_host))
      where
        own_node : n ≡ g.stepping.n → host_with_node g.stepping.host g.next.node ≡ host → NoneBefore
        own_node same is_host =
            let waiting : IsWaiting req (input_of_cause g.stepping.cause) g.stepping.host.node g.next.node.requests = record {
              request = request;
              ask = ask;
              there = ap (λ (h : Host). tree.get h.node.requests req) is_host ∙ there;
              waits = waits;
            } in ⊎_elim
            (λ (was : IsWaiting req (input_of_cause g.stepping.cause) g.stepping.host.node g.so_far.node.requests).
            all.each n (host_with_node g.stepping.host g.so_far.node)
            (ap (λ (m : MomentWithPast). tree.get m.world.hosts n) g.before_so
            ∙ ap (tree.get (tree.insert start.world.hosts g.stepping.n (host_with_node g.stepping.host g.so_far.node))) same
            ∙ get-insert_same start.world.hosts g.stepping.n (host_with_node g.stepping.host g.so_far.node))
            (not_lost g.stepping.host g.is.up) req was.request was.ask was.there was.waits)
            (λ (comes : ComesNow req (input_of_cause g.stepping.cause) g.stepping.host.node g.so_far).
            new_none g.stepping g.is g.so_far g.before_so g.by comes)
            (waited_or_comes req (input_of_cause g.stepping.cause) g.stepping.host.node g.so_far g.next g.within.change waiting)

    none_before : NoneBefore
    none_before = ⊎_elim
        (λ (g : IsGoingOn script start before after). going g)
        (λ (b : IsBetween before after). by_guests (b.0 n host at_host))
        (between script start change)

  pub made_none : WaitersMadeNone after.world.hosts after.past.attempts
  made_none = record {
    each = λ n host at_host up req request ask there waits j now got gateway own.
        by_origin n host at_host up req request ask there waits (none_before n host at_host up req request ask there waits) j now got
        gateway own;
  }

module _ (script : List Statement) (range : RunsAreInRange script) where
  pub made_none-in_run : (events : List Move) (start moment : MomentWithPast) → run_with_past script events ≡ Some start
      → MomentTrail script start moment → WaitersMadeNone moment.world.hosts moment.past.attempts
  made_none-in_run =
      kept_on_the_way script MadeNone
      (record {
        each = λ n host at_host up req request ask there. no_request script n host at_host req request there;
      })
      (λ events start before after ran trail change all. made_none script range events start before after ran trail change all)

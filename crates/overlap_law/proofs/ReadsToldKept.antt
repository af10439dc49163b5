-- Each change of a moment keeps what reads were told, if a write that is done in it has no item in the blocks that they were told: what
-- begins takes nothing away, an entry makes no disk that a read is on, who is lost hadn't ended, and nothing comes of what is refused.
use Rattle.std.proofs.Common.{◌≡◌, ⊎_elim, arith, ℕ, suc, ◌+◌, ◌*◌, ◌==◌, Bool, true, false, cond, List, [], ◌∷◌, ◌++◌, map, length}
use Rattle.std.proofs.Common.{filter, Contains, Option, Some, None, option_map, is_some, refl, sym, ap, ◌∙◌, append-nil}
use Rattle.std.specs.Prelude.{unwrap_or}
use Rattle.std.specs.List.{list_all, list_any}
use Rattle.std.specs.Ordering.{nat_cmp}
use Rattle.std.specs.FinMap as tree
use Rattle.std.proofs.lemmas.Bool.{both_ways, eqb-true}
use Rattle.std.proofs.lemmas.List.{length-append}
use Rattle.proof_tools.proofs.Lists.{Contains-head, Contains-nil}
use Rattle.object_id.specs.declared.entry.Entry.{Entry}
use Rattle.disk_history.specs.declared.event.HistEvent.{HistEvent}
use Rattle.disk_history.specs.declared.event.HistEvent.TheVariants.{Create, Copy, Delete, WriteStart, WriteDone, WriteRefused, WriterLost}
use Rattle.disk_history.specs.declared.event.HistEvent.TheVariants.{Read}
use Rattle.disk_history.specs.Ledger as histories
use Rattle.disk_history.specs.Ledger.{Ledger, ledger_after, changed_at}
use Rattle.vdi_directory.specs.declared.effect.Effect.{Effect}
use Rattle.vdi_directory.specs.Decisions.{log_effects}
use Rattle.cluster_script.specs.declared.statement.Statement.{Statement}
use Rattle.cluster_script.specs.NumberedRequests.{numbered_requests, request_at}
use Rattle.cluster_script.specs.Statements.{requests_of}
use Rattle.peer_proto.specs.declared.guest.GuestRsp.{GuestRsp}
use Rattle.peer_proto.specs.declared.guest.GuestRsp.TheVariants as answers
use Rattle.guest_driver.specs.declared.disk.Disk.{Disk}
use Rattle.sheep_node.specs.declared.course.Course.TheVariants.{Driving, Commanding}
use Rattle.sheep_node.specs.declared.course.Request.{Request}
use Rattle.sheep_node.specs.declared.session.Session.{Session}
use Rattle.sheep_node.specs.May.{is_disk_course}
use Rattle.sheep_node.specs.State.{new_session, session_at}
use Rattle.sheep_node.specs.StepState.{StepState, at_first}
use Rattle.sheep_world.specs.BegunRequests.{IsOfScript}
use Rattle.sheep_world.specs.Granted.{entry_adds}
use Rattle.sheep_world.specs.HistoryAdditions.{is_lost_write, write_ended, writers_lost}
use Rattle.sheep_world.specs.World.{Host}
use Rattle.sheep_world.specs.RunsWithAsks.{Move}
use Rattle.vdi_ops.specs.Op.{Op}
use Rattle.overlap_law.specs.Attempts.{AttemptRecord}
use Rattle.overlap_law.specs.DiskEvents.{ends_write_of}
use Rattle.overlap_law.specs.Headline.{ledger_of}
use Rattle.overlap_law.specs.HistoryGrowth.{added_at_cause, added_by_reply, check_write_at, world_at_cause}
use Rattle.overlap_law.specs.MomentChanges.{MomentChange, MomentTrail, Still, Then, RunsAreInRange}
use Rattle.overlap_law.specs.Past.{MomentWithPast, run_with_past}
use Rattle.overlap_law.specs.PastWords.{is_refusal}
use Rattle.overlap_law.specs.ReadsToldApart.{HasNoItemIn, DoneWritesAreApart}
use Rattle.overlap_law.specs.StandingReads.{asked_in, ReadsAreKept, AllReadsAreKept}
use Rattle.overlap_law.specs.StayingBlocks.{WasServed, AllKeepBlocks, are_apart}
use Rattle.overlap_law.specs.StepMoments.{SteppingNode, IsStepping, StepsByChanges, IsWithinStep, moment_in_step}
use Rattle.overlap_law.specs.ToldReads.{AllKeepReadsOf, KeepsReadsOf, IsDiskOf}
use Rattle.overlap_law.specs.Words.{Hosts, is_mute}
use Rattle.overlap_law.specs.WrittenBlocks.{blocks_per_object}
use Rattle.overlap_law.proofs.BlocksInMoments.{served_still}
use Rattle.overlap_law.proofs.CoursesOfAsks.{plain}
use Rattle.overlap_law.proofs.DiskShapes.{Shapes, shape, shapes, shapes_after, shapes_so}
use Rattle.overlap_law.proofs.EndsKeepBlocks.{began, lost_keep, lost_unended, nothing-on_the_way, refused_then, replied_ended}
use Rattle.overlap_law.proofs.EndsOfWrites.{untold_none}
use Rattle.overlap_law.proofs.EntriesFit.{MayMakeAll, entry_may}
use Rattle.overlap_law.proofs.EntriesFollow.{AreShown, kept_shown}
use Rattle.overlap_law.proofs.GuestsInMoments.{GuestsChange, GuestsStay, GuestsAreNone, IsGoingOn, IsBetween, between}
use Rattle.overlap_law.proofs.HistoryInMoments.{IsTold, by_rules}
use Rattle.overlap_law.proofs.KeptReads.{cause_keeps_reads, reply_keeps_reads}
use Rattle.overlap_law.proofs.LogsOfMoments.{log_by_changes}
use Rattle.overlap_law.proofs.OpenDisksOfHistory.{working_of_history}
use Rattle.overlap_law.proofs.OpenSnapshotsOfHistory.{snapshots_of_history}
use Rattle.overlap_law.proofs.RunsByChanges.{on_the_way}
use Rattle.overlap_law.proofs.WholeInRuns.{sound_world}

-- what is no longer got nothing
pub none_more : {X : Type 0} (xs ys : List X) (y : X) → xs ≡ xs ++ ys → Contains ys y → ⊥
none_more xs [] y same among = Contains-nil y among
none_more {X} xs (one ∷ ys) y same among =
    let long : length xs ≡ length xs + suc (length ys)
    = ap (λ (list : List X). length list) same ∙ length-append xs (one ∷ ys) in
    omega (arith, long)

-- ---- what an entry makes, and who is lost

module _ (attempts : List AttemptRecord) (vid block : ℕ) where
  abbrev Keep : Ledger → List HistEvent → Type 0
  Keep ledger events = AllKeepReadsOf attempts ledger vid block events

  still_some : (place : ℕ) (new : Option Bool) (f : Shapes) → is_some new ≡ true → is_some (f vid) ≡ true
      → is_some (changed_at place new f vid) ≡ true
  still_some place new f made there = by_test (vid == place)
    where
      by_test : (b : Bool) → is_some (cond b new (f vid)) ≡ true
      by_test true = made
      by_test false = there

  mapped_some : (g : Bool → Bool) (o : Option Bool) → is_some o ≡ true → is_some (option_map g o) ≡ true
  mapped_some g None some = absurd (cc (some))
  mapped_some g (Some b) some = refl

  -- a disk that is there isn't one that is made
  another : (disk : ℕ) (f : Shapes) → is_some (f vid) ≡ true → f disk ≡ None → (vid == disk) ≡ false
  another disk f there none = by_test (vid == disk) refl
    where
      by_test : (b : Bool) → (vid == disk) ≡ b → (vid == disk) ≡ false
      by_test false is = is
      by_test true is =
          let gone : is_some (f vid) ≡ false = ap (λ (v : ℕ). is_some (f v)) (eqb-true vid disk is) ∙ ap is_some none in
          absurd (both_ways (is_some (f vid)) gone there)

  made_keep : (events : List HistEvent) (ledger : Ledger) (f : Shapes) → is_some (f vid) ≡ true → MayMakeAll f events → Keep ledger events
  made_keep [] ledger f there may = tt
  made_keep (Create disk blocks ∷ events) ledger f there may = (
    another disk f there may.0,
    made_keep events (ledger_after ledger (Create disk blocks)) (shapes_after f (Create disk blocks))
        (still_some disk (Some false) f refl there) may.1,
  )
  made_keep (Copy old new ∷ events) ledger f there may = (
    another new f there may.0.1,
    made_keep events (ledger_after ledger (Copy old new)) (shapes_after f (Copy old new))
        (still_some new (option_map (λ (b : Bool). false) (f old)) f (mapped_some (λ (b : Bool). false) (f old) may.0.0) there) may.1,
  )
  made_keep (Delete disk ∷ events) ledger f there may = (
    tt,
    made_keep events (ledger_after ledger (Delete disk)) (shapes_after f (Delete disk))
        (still_some disk (option_map (λ (b : Bool). true) (f disk)) f
        (mapped_some (λ (b : Bool). true) (f disk) (ap is_some may.0)) there) may.1,
  )
  made_keep (WriteStart req disk at coded bytes ∷ events) ledger f there may = absurd may.0
  made_keep (WriteDone req ∷ events) ledger f there may = absurd may.0
  made_keep (WriteRefused req ∷ events) ledger f there may = absurd may.0
  made_keep (WriterLost req ∷ events) ledger f there may = absurd may.0
  made_keep (Read disk at bytes ∷ events) ledger f there may = absurd may.0

  -- who is lost hadn't ended, as for what blocks may be read as
  lost_kept : (effects : List Effect) (good_id : ℕ → Bool) (hosts : Hosts) (requests : List (ℕ × Statement)) (ledger : Ledger)
      → AllKeepBlocks effects good_id hosts attempts ledger (map (λ (request : ℕ × Statement). WriterLost request.0) requests)
      → Keep ledger (map (λ (request : ℕ × Statement). WriterLost request.0) requests)
  lost_kept effects good_id hosts [] ledger keep = tt
  lost_kept effects good_id hosts (request ∷ requests) ledger keep = (
    keep.0,
    lost_kept effects good_id hosts requests (ledger_after ledger (WriterLost request.0)) keep.1,
  )

-- ---- the disk of a read

module _ (script : List Statement) (range : RunsAreInRange script) (events : List Move) (start : MomentWithPast)
    (run : run_with_past script events ≡ Some start) where
  -- as an event begins the disk of a read is one of the history
  pub of_history : (n : ℕ) (host : Host) → tree.get start.world.hosts n ≡ Some host → host.is_lost ≡ false → (req : ℕ)
      (request : Request) (disk : Disk) → tree.get host.node.requests req ≡ Some request → is_disk_course request.course ≡ true
      → (session_at request.session host.node).disk ≡ Some disk
      → IsDiskOf (ledger_of start.past.history) (log_effects start.world.log) disk.inode
  of_history n host there up req request disk got is_disk on = by_kind disk.snapshot refl
    where
      sole : (q : ℕ) (other : Request) (op : Op) → tree.get host.node.requests q ≡ Some other → other.session ≡ request.session
          → other.course ≡ Commanding op → ⊥
      sole q other op found same command =
          let is : is_disk_course other.course ≡ true
          = plain request.session req request.course (at_first host.node)
          ((sound_world script range start.world (began script range events start run)).hosts n host there).node.sole_commands got is_disk q
          other found same in
          let none : is_disk_course other.course ≡ false = ap is_disk_course command in
          both_ways (is_disk_course other.course) none is

      by_kind : (b : Bool) → disk.snapshot ≡ b → IsDiskOf (ledger_of start.past.history) (log_effects start.world.log) disk.inode
      by_kind true snapshot = (snapshots_of_history script range events start run).each n host there request.session disk on snapshot
      by_kind false working = (working_of_history script range events start run).each n host there up request.session disk on working sole

  -- ---- what keeps it anyway

  none_apart : (added : List HistEvent) → list_all (λ (one : HistEvent). list_all (are_apart one) []) added ≡ true
  none_apart [] = refl
  none_apart (one ∷ added) = none_apart added

  -- what is told since the event began, and what open reads were told, is kept by what is added at the end
  abbrev KeepsTold : MomentWithPast → List HistEvent → Type 0
  KeepsTold before added = (grown : List HistEvent) → before.past.history ≡ start.past.history ++ grown → (vid block : ℕ) (bytes : List ℕ)
      → Contains grown (Read vid block bytes) → AllKeepReadsOf before.past.attempts (ledger_of before.past.history) vid block added

  abbrev KeepsEach : MomentWithPast → MomentWithPast → List HistEvent → Type 0
  KeepsEach before after added = (n : ℕ) (host : Host) → tree.get after.world.hosts n ≡ Some host → host.is_lost ≡ false
      → ReadsAreKept before.past.attempts (asked_in script) before.past.history added host.node

  at_end : (before after : MomentWithPast) (added : List HistEvent) → after.past.history ≡ before.past.history ++ added
      → KeepsEach before after added → KeepsTold before added → AllReadsAreKept script start before after
  at_end before after added so each told = record {
    front = before.past.history;
    added = added;
    back = [];
    were = sym (append-nil before.past.history);
    now = so ∙ sym (append-nil (before.past.history ++ added));
    apart = none_apart added;
    each = each;
    told = told;
  }

  always : (before after : MomentWithPast) (added : List HistEvent) → after.past.history ≡ before.past.history ++ added
      → ((vid block : ℕ) → AllKeepReadsOf before.past.attempts (ledger_of before.past.history) vid block added)
      → AllReadsAreKept script start before after
  always before after added so keep =
      at_end before after added so
      (λ n host there up. record {
        each = λ req offset size request told piece rest disk got course asks_so on index unit low less inside.
            keep disk.inode.vid (index * blocks_per_object disk.inode.spec + unit);
      })
      (λ grown is vid block bytes among. keep vid block)

  -- ---- an entry

  module _ (entry : Entry) (after : MomentWithPast) (longer : after.world.log ≡ start.world.log ++ entry ∷ [])
      (change : MomentChange script start start after) where
    abbrev made : List HistEvent
    made = entry_adds start.world.log entry

    are : AreShown start
    are = on_the_way script AreShown (kept_shown script range) events start start run Still

    entry_keeps : (vid block : ℕ) (disk : histories.Disk) → (ledger_of start.past.history).disks vid ≡ Some disk
        → AllKeepReadsOf start.past.attempts (ledger_of start.past.history) vid block made
    entry_keeps vid block disk there =
        made_keep start.past.attempts vid block made (ledger_of start.past.history) (shapes start.past.history)
        (ap is_some (sym (shapes_so start.past.history vid)) ∙ ap (λ (o : Option histories.Disk). is_some (shape o)) there)
        (entry_may start.world.log (shapes start.past.history) are entry)

    entry_each : KeepsEach start after made
    entry_each n host there up = record {
      each = λ req offset size request told piece rest disk got course asks_so on index unit low less inside. ⊎_elim
          (λ (g : IsGoingOn script start start after).
          let same : start.world.log ≡ start.world.log ++ entry ∷ []
          = sym (ap (λ (m : MomentWithPast). m.world.log) g.after_so ∙ log_by_changes g.stepping.cause g.by start.world.log) ∙ longer in
          absurd (none_more start.world.log (entry ∷ []) entry same (Contains-head entry [])))
          (λ (b : IsBetween start after).
          by_guests req request disk got (ap is_disk_course course) on (index * blocks_per_object disk.inode.spec + unit)
          (b.0 n host there)) (between script start change);
    }
      where
        by_guests : (req : ℕ) (request : Request) (disk : Disk) → tree.get host.node.requests req ≡ Some request
            → is_disk_course request.course ≡ true → (session_at request.session host.node).disk ≡ Some disk → (block : ℕ)
            → GuestsChange start n host
            → AllKeepReadsOf start.past.attempts (ledger_of start.past.history) disk.inode.vid block made
        by_guests req request disk got is_disk on block (GuestsStay was was_there was_up gateway sessions requests) =
            let of = of_history n was was_there (was_up up) req request disk
            (ap (λ (all : tree.FinMap nat_cmp Request). tree.get all req) (sym requests) ∙ got) is_disk
            (ap (λ (all : tree.FinMap nat_cmp Session). (unwrap_or (tree.get all request.session) new_session).disk) (sym sessions) ∙ on) in
            entry_keeps disk.inode.vid block of.disk of.there
        by_guests req request disk got is_disk on block (GuestsAreNone sessions none) =
            let empty : tree.get host.node.requests req ≡ None
            = ap (λ (all : tree.FinMap nat_cmp Request). tree.get all req) none ∙ tree.get-empty {X = Request} nat_cmp req in
            absurd (cc (empty, got))

    entry_kept : after.past.history ≡ start.past.history ++ entry_adds start.world.log entry → AllReadsAreKept script start start after
    entry_kept so =
        at_end start after made so entry_each
        (λ grown is vid block bytes among. absurd (none_more start.past.history grown (Read vid block bytes) is among))

  -- ---- a reply

  module _ (stepping : SteppingNode) (is : IsStepping script start.world stepping) (by : StepsByChanges stepping.cause)
      (so_far next : StepState) (within : IsWithinStep stepping so_far next) (reply : ℕ × GuestRsp)
      (told : IsTold script range start (began script range events start run) stepping so_far next reply) where
    abbrev before : MomentWithPast
    before = moment_in_step script stepping start so_far

    abbrev after : MomentWithPast
    after = moment_in_step script stepping start next

    abbrev added : List HistEvent
    added = added_by_reply script start.world stepping.cause reply

    module _ (change : MomentChange script start (moment_in_step script stepping start so_far) (moment_in_step script stepping start next))
        (trail : MomentTrail script start (moment_in_step script stepping start so_far)) where
      -- whose write a reply ends is of the script
      ends_of_script : list_any (ends_write_of reply.0) added ≡ true → IsOfScript script reply.0
      ends_of_script ends = by_line (request_at script reply.0) refl
        where
          by_line : (o : Option Statement) → request_at script reply.0 ≡ o → is_some o ≡ true
          by_line None none =
              absurd (both_ways (list_any (ends_write_of reply.0) added)
              (untold_none reply.0 script start.world start.world none (world_at_cause start.world stepping.cause)
              (check_write_at start.world stepping.cause) reply) ends)
          by_line (Some line) stands = refl

      unserved : IsOfScript script reply.0 → is_refusal reply.1 ≡ true → WasServed before.past.attempts reply.0 → ⊥
      unserved of_script refuses served =
          let now = served_still script range events start before after run trail change reply.0 served in
          let (mute, none) = nothing-on_the_way script range events start after run (Then trail change) reply.0
          (refused_then script range events start run stepping is by so_far next within reply told of_script refuses) now.place now.attempt
          now.there now.of in
          both_ways (is_mute now.attempt) now.served mute

      reply_keeps : (vid block : ℕ) → (is_refusal reply.1 ≡ false → list_any (ends_write_of reply.0) added ≡ true
          → HasNoItemIn (ledger_of before.past.history) reply.0 vid block)
          → AllKeepReadsOf before.past.attempts (ledger_of before.past.history) vid block added
      reply_keeps vid block apart =
          reply_keeps_reads before.past.attempts vid block script start.world stepping.cause (ledger_of before.past.history) reply
          (λ ends. by_reply ends reply.1 refl)
        where
          by_reply : list_any (ends_write_of reply.0) added ≡ true → (rsp : GuestRsp) → reply.1 ≡ rsp
              → KeepsReadsOf before.past.attempts (ledger_of before.past.history) vid block (write_ended reply.0 rsp)
          by_reply ends answers.Done same = apart (ap is_refusal same) ends
          by_reply ends (answers.Piece bytes) same = apart (ap is_refusal same) ends
          by_reply ends (answers.Refused cause) same = (
            replied_ended script range events start run stepping is by so_far next within reply told (ends_of_script ends),
            unserved (ends_of_script ends) (ap is_refusal same),
          )
          by_reply ends (answers.Granted vid) same = apart (ap is_refusal same) ends
          by_reply ends (answers.Checked found) same = apart (ap is_refusal same) ends

      reply_kept : DoneWritesAreApart script start before after → AllReadsAreKept script start before after
      reply_kept apart =
          let done = apart.each stepping so_far next is by within refl refl reply told.among told.free in
          record {
            front = told.front;
            added = added;
            back = told.back;
            were = told.were;
            now = told.now;
            apart = told.apart;
            each = λ n host there up. record {
              each = λ req offset size request given piece rest disk got course asks_so on index unit low less inside.
                  reply_keeps disk.inode.vid (index * blocks_per_object disk.inode.spec + unit)
                  (λ accepts ends. (done accepts ends).standing n host there up req offset size request given piece rest disk got course
                  asks_so on index unit low less inside);
            };
            told = λ grown so vid block bytes among.
                reply_keeps vid block (λ accepts ends. (done accepts ends).told grown so vid block bytes among);
          }

  -- ---- each change

  abbrev KeepsReads : MomentWithPast → MomentWithPast → Type 0
  KeepsReads before after = MomentChange script start before after → MomentTrail script start before
      → DoneWritesAreApart script start before after → AllReadsAreKept script start before after

  pub reads_kept : {before after : MomentWithPast} → MomentChange script start before after → KeepsReads before after
  reads_kept change = by_rules script range start (began script range events start run) KeepsReads (record {
    still = λ before after same so change trail apart. always before after [] (so ∙ sym (append-nil before.past.history)) (λ vid block. tt);
    begins = λ cause after same so change trail apart.
        always start after (added_at_cause script start.world cause) so
        (λ vid block. cause_keeps_reads start.past.attempts vid block script start.world cause (ledger_of start.past.history));
    replies = λ stepping is by so_far next within reply told same change trail apart.
        reply_kept stepping is by so_far next within reply told change trail apart;
    adds = λ entry after longer so change trail apart. entry_kept entry after longer change so;
    loses = λ n host there up after same so change trail apart.
        always start after (writers_lost script start.world n (Some host)) so
        (λ vid block. lost_kept start.past.attempts vid block (log_effects start.world.log) (λ id. false) start.world.hosts
        (filter (is_lost_write script start.world n host) (numbered_requests script)) (ledger_of start.past.history)
        (lost_keep (log_effects start.world.log) (λ id. false) start.world.hosts start.past.attempts script
        (is_lost_write script start.world n host) 1 (requests_of script) (ledger_of start.past.history)
        (λ request listed passes. lost_unended script range events start run n host there up request listed passes)));
  }) change

-- What a change adds to the history keeps what blocks may be read as, where writes are done alone and entries keep it: who is refused, or
-- loses its reply, hadn't ended, and nothing comes of what was refused.
use Rattle.std.proofs.Common.{◌≡◌, inr, arith, ℕ, ◌+◌, ◌==◌, ◌||◌, Bool, true, false, cond, List, [], ◌∷◌, ◌++◌, map, filter, length}
use Rattle.std.proofs.Common.{Contains, Option, Some, None, is_some, refl, sym, ap, subst, ◌∙◌}
use Rattle.std.specs.Prelude.{◌/◌}
use Rattle.std.specs.List.{enumerate_from, range_with_len}
use Rattle.std.specs.FinMap as tree
use Rattle.std.proofs.lemmas.Bool.{and_from, ne_eqb}
use Rattle.std.proofs.lemmas.List.Elements.{Contains-append_left, Contains-append_right}
use Rattle.std.proofs.lemmas.List.Folds.{list_any-append}
use Rattle.proof_tools.proofs.Lists.{Contains-cons, Contains-head}
use Rattle.object_id.specs.declared.limits.TheConstants.{BLOCK_BYTES}
use Rattle.disk_history.specs.declared.event.HistEvent.{HistEvent}
use Rattle.disk_history.specs.declared.event.HistEvent.TheVariants.{Read, WriteDone, WriteRefused, WriterLost}
use Rattle.disk_history.specs.Ledger.{Ledger, ledger_after}
use Rattle.vdi_directory.specs.declared.effect.Effect.{Effect}
use Rattle.vdi_directory.specs.Decisions.{log_effects}
use Rattle.cluster_script.specs.declared.statement.Statement.{Statement}
use Rattle.cluster_script.specs.declared.statement.Statement.TheVariants as lines
use Rattle.cluster_script.specs.NumberedRequests.{request_at, numbered_requests}
use Rattle.cluster_script.specs.Statements.{requests_of}
use Rattle.peer_proto.specs.declared.guest.GuestRsp.{GuestRsp}
use Rattle.peer_proto.specs.declared.guest.GuestRsp.TheVariants as answers
use Rattle.sheep_node.specs.Changes as changes
use Rattle.sheep_node.specs.StepState.{StepState}
use Rattle.sheep_world.specs.World.{Host, is_host_up}
use Rattle.sheep_world.specs.Asking.{session_asking}
use Rattle.sheep_world.specs.Began.{Began}
use Rattle.sheep_world.specs.BegunRequests.{IsOfScript}
use Rattle.sheep_world.specs.Granted.{entry_adds}
use Rattle.sheep_world.specs.HistoryAdditions.{added_by, block_in, blocks_read, disk_of, has_begun_check_write, is_lost_write, reply_adds}
use Rattle.sheep_world.specs.HistoryAdditions.{write_ended}
use Rattle.sheep_world.specs.RunsWithAsks.{Move}
use Rattle.overlap_law.specs.Attempts.{AttemptRecord}
use Rattle.overlap_law.specs.DiskEvents.{ends_write_of}
use Rattle.overlap_law.specs.Headline.{ledger_of}
use Rattle.overlap_law.specs.Holders.{is_object_among, targets_by}
use Rattle.overlap_law.specs.HistoryGrowth.{check_write_at, world_at_cause, added_at_cause, added_by_reply}
use Rattle.overlap_law.specs.KeptHistory.{WhatIsDoneIsAlone, EntriesKeepBlocks}
use Rattle.overlap_law.specs.MomentChanges.{MomentChange, MomentTrail, Then, StepGoesOn, RunsAreInRange}
use Rattle.overlap_law.specs.Past.{MomentWithPast, past_after_event, run_with_past}
use Rattle.overlap_law.specs.PastWords.{is_refusal, refused_in}
use Rattle.overlap_law.specs.ShapedAttempts.{AreShaped}
use Rattle.overlap_law.specs.StayingBlocks.{IsAloneWhereWritten, ComesToNothing, KeepsBlocks, AllKeepBlocks, GrowsKeeping}
use Rattle.overlap_law.specs.StepMoments.{SteppingNode, IsStepping, IsWithinStep, StepsByChanges, world_in_step, moment_in_step}
use Rattle.overlap_law.specs.TiedAttempts.{IsTied}
use Rattle.overlap_law.specs.Words.{Hosts}
use Rattle.overlap_law.proofs.AnswersInMoments.{not_lost}
use Rattle.overlap_law.proofs.AskedOnDisks.{lost_asked}
use Rattle.overlap_law.proofs.EndsOfWrites.{numbered_at, step_ends_none}
use Rattle.overlap_law.proofs.HistoryInMoments.{IsTold, by_rules}
use Rattle.overlap_law.proofs.ItemsOfWriters.{IsOpenAt, open_so_far}
use Rattle.overlap_law.proofs.LogsReservable.{LogIsReservable, kept_reservable}
use Rattle.overlap_law.proofs.NoRecoveredDue.{began-with_past}
use Rattle.overlap_law.proofs.RefusedInMoments.{among_of, refused_of}
use Rattle.overlap_law.proofs.RefusedToNothing.{refused_to_nothing}
use Rattle.overlap_law.proofs.RequestsTold.{ended_after, ended_told}
use Rattle.overlap_law.proofs.RunsByChanges.{on_the_way}
use Rattle.overlap_law.proofs.ShapedAttempts.{kept_shaped}
use Rattle.overlap_law.proofs.TiedInRuns.{kept_tied}
use Rattle.overlap_law.proofs.TouchedInMoments.{refused_in_step}
use Rattle.overlap_law.proofs.UnendedRequests.{MayReply, found_unended, has_ended, unended-in_run}
use Rattle.overlap_law.proofs.UntouchedInRuns.{untouched-within}
use Rattle.overlap_law.proofs.WritesThatBegin.{map_keep, cause_keeps, nothing_keeps, end_keeps}

-- at each moment on the way of an event the attempts of what was refused come to nothing
pub nothing-on_the_way : (script : List Statement) → RunsAreInRange script → (events : List Move) (start moment : MomentWithPast)
    → run_with_past script events ≡ Some start → MomentTrail script start moment → (req : ℕ)
    → is_object_among req moment.past.refused ≡ true → ComesToNothing moment.world.hosts moment.past.attempts req
nothing-on_the_way script range events start moment is trail req refused =
    refused_to_nothing (targets_by moment.world.log) moment.world.log
    (on_the_way script LogIsReservable (kept_reservable script range) events start moment is trail).all moment.world.hosts moment.world.wire
    moment.past.refused moment.past.attempts (on_the_way script IsTied (kept_tied script range) events start moment is trail).fates
    (on_the_way script AreShaped (kept_shaped script range) events start moment is trail).shape
    (untouched-within script range events start moment is trail) req refused

module _ (effects : List Effect) (good_id : ℕ → Bool) (hosts : Hosts) (attempts : List AttemptRecord) where
  abbrev AllKeep : Ledger → List HistEvent → Type 0
  AllKeep = AllKeepBlocks effects good_id hosts attempts

  -- ---- writers that are lost

  module _ (script : List Statement) (chosen : ℕ × Statement → Bool) where
    abbrev LostKeep : ℕ → List Statement → Ledger → Type 0
    LostKeep first list ledger =
        AllKeep ledger (map (λ (request : ℕ × Statement). WriterLost request.0) (filter chosen (enumerate_from first list)))

    pub lost_keep : (first : ℕ) (list : List Statement) (ledger : Ledger)
        → ((request : ℕ × Statement) → Contains (enumerate_from first list) request → chosen request ≡ true
        → (ledger.requests request.0).ended ≡ false)
        → LostKeep first list ledger
    lost_keep first [] ledger unended = tt
    lost_keep first (line ∷ later) ledger unended =
        by_test (chosen (first, line)) refl
        (lost_keep (first + 1) later ledger
        (λ request among. unended request (Contains-cons (first, line) (enumerate_from (first + 1) later) request among)))
        (lost_keep (first + 1) later (ledger_after ledger (WriterLost first)) behind)
      where
        -- the end of the first one leaves those behind it as they are
        behind : (request : ℕ × Statement) → Contains (enumerate_from (first + 1) later) request → chosen request ≡ true
            → ((ledger_after ledger (WriterLost first)).requests request.0).ended ≡ false
        behind request among passes =
            let (place, is, got) = numbered_at request.0 script (first + 1) later request.0 request.1 among in
            let was = unended request (Contains-cons (first, line) (enumerate_from (first + 1) later) request among) passes in
            let other : (first == request.0) ≡ false = ne_eqb first request.0 (λ (same : first ≡ request.0). omega (arith, is, same)) in
            ended_after request.0 (WriterLost first) ledger ∙ (λ i. was i || other i)

        by_test : (b : Bool) → chosen (first, line) ≡ b → LostKeep (first + 1) later ledger
            → LostKeep (first + 1) later (ledger_after ledger (WriterLost first))
            → AllKeep ledger (map (λ (request : ℕ × Statement). WriterLost request.0)
            (cond b ((first, line) ∷ filter chosen (enumerate_from (first + 1) later)) (filter chosen (enumerate_from (first + 1) later))))
        by_test false fails same rest = same
        by_test true passes same rest =
            (unended (first, line) (Contains-head (first, line) (enumerate_from (first + 1) later)) passes, rest)

  -- ---- replies

  module _ (ledger : Ledger) (req : ℕ) where
    reads_keep : (disk offset : ℕ) (rsp : GuestRsp) → AllKeep ledger (blocks_read disk offset rsp)
    reads_keep disk offset answers.Done = tt
    reads_keep disk offset (answers.Piece bytes) =
        map_keep effects good_id hosts attempts (λ (place : ℕ). Read disk (offset / BLOCK_BYTES + place) (block_in bytes place))
        (λ place l. tt) (range_with_len 0 (length bytes / BLOCK_BYTES)) ledger
    reads_keep disk offset (answers.Refused cause) = tt
    reads_keep disk offset (answers.Granted vid) = tt
    reads_keep disk offset (answers.Checked found) = tt

    -- a reply to whom the script doesn't have adds nothing
    pub unasked_keep : (rsp : GuestRsp) (written : Bool) (disk : Option ℕ) → AllKeep ledger (added_by written req rsp disk None)
    unasked_keep rsp written None = tt
    unasked_keep rsp written (Some disk) = tt

    -- what a reply ends keeps it, where what is refused does, and what is done
    module _ (rsp : GuestRsp) (refused : is_refusal rsp ≡ true → KeepsBlocks effects good_id hosts attempts ledger (WriteRefused req)) where
      abbrev DoneKeeps : List HistEvent → Type 0
      DoneKeeps added = Contains added (WriteDone req) → IsAloneWhereWritten effects good_id hosts attempts ledger req

      write_keeps : DoneKeeps (write_ended req rsp ∷ []) → AllKeep ledger (write_ended req rsp ∷ [])
      write_keeps done = by_reply rsp refused done
        where
          by_reply : (rsp : GuestRsp) → (is_refusal rsp ≡ true → KeepsBlocks effects good_id hosts attempts ledger (WriteRefused req))
              → DoneKeeps (write_ended req rsp ∷ []) → AllKeep ledger (write_ended req rsp ∷ [])
          by_reply answers.Done refused done = (done (Contains-head (WriteDone req) []), tt)
          by_reply (answers.Piece bytes) refused done = (done (Contains-head (WriteDone req) []), tt)
          by_reply (answers.Refused cause) refused done = (refused refl, tt)
          by_reply (answers.Granted vid) refused done = (done (Contains-head (WriteDone req) []), tt)
          by_reply (answers.Checked found) refused done = (done (Contains-head (WriteDone req) []), tt)

      adds_keep : (written : Bool) (disk : ℕ) (s : Statement) → DoneKeeps (reply_adds written req rsp disk s)
          → AllKeep ledger (reply_adds written req rsp disk s)
      adds_keep written disk (lines.Read session offset size) done = reads_keep disk offset rsp
      adds_keep written disk (lines.Write session offset size pattern) done = write_keeps done
      adds_keep true disk (lines.Check session) done = write_keeps done
      adds_keep false disk (lines.Check session) done = tt
      adds_keep written disk s done = tt

      added_keep : (written : Bool) (disk : Option ℕ) (s : Option Statement) → DoneKeeps (added_by written req rsp disk s)
          → AllKeep ledger (added_by written req rsp disk s)
      added_keep written None s done = tt
      added_keep written (Some disk) None done = tt
      added_keep written (Some disk) (Some s) done = adds_keep written disk s done

-- ---- each change

module _ (script : List Statement) (range : RunsAreInRange script) (events : List Move) (start : MomentWithPast)
    (is_run : run_with_past script events ≡ Some start) where
  pub began : Began script start.world
  began = began-with_past script events start is_run

  -- who loses its reply as a node is lost hadn't ended
  pub lost_unended : (n : ℕ) (host : Host) → tree.get start.world.hosts n ≡ Some host → is_host_up host ≡ true → (request : ℕ × Statement)
      → Contains (numbered_requests script) request → is_lost_write script start.world n host request ≡ true
      → ((ledger_of start.past.history).requests request.0).ended ≡ false
  lost_unended n host there up request listed passes =
      let all = unended-in_run script range events start is_run in
      let asked = lost_asked script start.world n host request listed passes in
      ended_told request.0 start.past.history
      ∙ all.1.unended n host.incarnation request.0 asked.session asked.started asked.asked asked.there asked.number
      (subst (λ (o : Option Host). MayReply o host.incarnation) (sym there) (inr (refl, not_lost host up)))

  module _ (stepping : SteppingNode) (is : IsStepping script start.world stepping) (by : StepsByChanges stepping.cause)
      (so_far next : StepState) (within : IsWithinStep stepping so_far next) where
    abbrev before : MomentWithPast
    before = moment_in_step script stepping start so_far

    abbrev after : MomentWithPast
    after = moment_in_step script stepping start next

    module _ (reply : ℕ × GuestRsp) (told : IsTold script range start began stepping so_far next reply) where
      -- to whom of the script the change replies had no reply as the step began
      replied_open : (session : ℕ) × (disk : Bool)
          × IsOpenAt script range reply.0 start.world began stepping.n stepping.host is.there stepping.cause reply.0 session disk
      replied_open =
          (open_so_far script range reply.0 start.world began stepping.n stepping.host is.there stepping.cause is.caused
          (changes.Then within.leads within.change)).replied reply told.among

      -- and hadn't ended
      replied_unended : IsOfScript script reply.0 → has_ended reply.0 (moment_in_step script stepping start so_far).past.history ≡ false
      unfolding past_after_event
      replied_unended of_script =
          let all = unended-in_run script range events start is_run in
          let (session, disk, held) = replied_open in
          let (unanswered, asked, here) = held of_script in
          let old = found_unended script range start.world began start.past.refused all.0 start.past.history all.1 stepping.n stepping.host
          is.there stepping.cause is.caused stepping.n stepping.host.incarnation reply.0 session unanswered.started asked unanswered.there
          unanswered.number
          (subst (λ (o : Option Host). MayReply o stepping.host.incarnation) (sym is.there) (inr (refl, not_lost stepping.host is.up))) in
          let new = step_ends_none reply.0 script start.world (world_in_step script stepping start.world so_far) told.free stepping.cause in
          list_any-append (ends_write_of reply.0) start.past.history _ ∙ (λ i. old i || new i)

      pub replied_ended : IsOfScript script reply.0 → ((ledger_of before.past.history).requests reply.0).ended ≡ false
      replied_ended of_script = ended_told reply.0 before.past.history ∙ replied_unended of_script

      -- what it refuses is refused
      pub refused_then : IsOfScript script reply.0 → is_refusal reply.1 ≡ true → is_object_among reply.0 after.past.refused ≡ true
      refused_then of_script refuses =
          let (session, disk, held) = replied_open in
          let (unanswered, asked, here) = held of_script in
          let asks : is_some (session_asking script reply.0) ≡ true = ap is_some asked.asking in
          ap (is_object_among reply.0) (refused_in_step script stepping start next)
          ∙ among_of reply.0 start.past.refused (refused_in script next.outputs.replies)
          (inr (refused_of script next.outputs.replies reply told.among
          (and_from (is_refusal reply.1) (is_some (session_asking script reply.0)) refuses asks)))

      module _ (good_id : ℕ → Bool) (trail : MomentTrail script start before) (alone : WhatIsDoneIsAlone good_id before after) where
        refused_keeps : IsOfScript script reply.0 → is_refusal reply.1 ≡ true
            → KeepsBlocks (log_effects after.world.log) good_id after.world.hosts after.past.attempts (ledger_of before.past.history)
            (WriteRefused reply.0)
        refused_keeps of_script refuses = (
          replied_ended of_script,
          nothing-on_the_way script range events start after is_run (Then trail (StepGoesOn stepping so_far next is by within)) reply.0
              (refused_then of_script refuses),
        )

        abbrev begun_write : Bool
        begun_write =
            has_begun_check_write script reply.0 (world_at_cause start.world stepping.cause) (check_write_at start.world stepping.cause)

        abbrev on_disk : Option ℕ
        on_disk = disk_of script reply.0 (world_at_cause start.world stepping.cause)

        added_keeps : (o : Option Statement) → request_at script reply.0 ≡ o
            → AllKeepBlocks (log_effects after.world.log) good_id after.world.hosts after.past.attempts (ledger_of before.past.history)
            (added_by begun_write reply.0 reply.1 on_disk (request_at script reply.0))
        added_keeps None none =
            subst (λ (s : Option Statement).
            AllKeepBlocks (log_effects after.world.log) good_id after.world.hosts after.past.attempts (ledger_of before.past.history)
            (added_by begun_write reply.0 reply.1 on_disk s)) (sym none)
            (unasked_keep (log_effects after.world.log) good_id after.world.hosts after.past.attempts (ledger_of before.past.history)
            reply.0 reply.1 begun_write on_disk)
        added_keeps (Some line) stands =
            let of_script : IsOfScript script reply.0 = ap (λ (o : Option Statement). is_some o) stands in
            added_keep (log_effects after.world.log) good_id after.world.hosts after.past.attempts (ledger_of before.past.history)
            reply.0 reply.1 (refused_keeps of_script) begun_write on_disk (request_at script reply.0)
            (λ done. alone.each reply.0
            (subst (λ (history : List HistEvent). Contains history (WriteDone reply.0)) (sym told.now)
            (Contains-append_left (told.front ++ added_by_reply script start.world stepping.cause reply) told.back (WriteDone reply.0)
            (Contains-append_right told.front (added_by_reply script start.world stepping.cause reply) (WriteDone reply.0) done)))
            (replied_ended of_script))

        reply_keeps : GrowsKeeping (log_effects after.world.log) good_id after.world.hosts after.past.attempts before.past.history
            after.past.history
        reply_keeps = record {
          front = told.front;
          added = added_by_reply script start.world stepping.cause reply;
          back = told.back;
          were = told.were;
          now = told.now;
          keep = added_keeps (request_at script reply.0) refl;
          apart = told.apart;
        }

  module _ (good_id : ℕ → Bool) where
    -- it does so over whatever change from a moment on the way of the event
    abbrev KeepsIt : MomentWithPast → MomentWithPast → Type 0
    KeepsIt before after = MomentTrail script start before → WhatIsDoneIsAlone good_id before after → EntriesKeepBlocks good_id before after
        → GrowsKeeping (log_effects after.world.log) good_id after.world.hosts after.past.attempts before.past.history after.past.history

    pub ends_keep : {before after : MomentWithPast} → MomentChange script start before after → KeepsIt before after
    ends_keep change = by_rules script range start began KeepsIt (record {
      still = λ before after same so trail alone entries.
          subst (GrowsKeeping (log_effects after.world.log) good_id after.world.hosts after.past.attempts before.past.history) (sym so)
          (nothing_keeps (log_effects after.world.log) good_id after.world.hosts after.past.attempts before.past.history);
      begins = λ cause after same so trail alone entries.
          grown (log_effects after.world.log) after (added_at_cause script start.world cause) so
          (cause_keeps (log_effects after.world.log) good_id after.world.hosts after.past.attempts script start.world cause
          (ledger_of start.past.history));
      replies = λ stepping is by so_far next within reply told same trail alone entries.
          reply_keeps stepping is by so_far next within reply told good_id trail alone;
      adds = λ entry after longer so trail alone entries.
          grown (log_effects after.world.log) after (entry_adds start.world.log entry) so (entries.each entry longer);
      loses = λ n host there up after same so trail alone entries.
          grown (log_effects after.world.log) after _ so
          (lost_keep (log_effects after.world.log) good_id after.world.hosts after.past.attempts script
          (is_lost_write script start.world n host) 1 (requests_of script) (ledger_of start.past.history)
          (λ request listed passes. lost_unended n host there up request listed passes));
    }) change
      where
        grown : (effects : List Effect) (after : MomentWithPast) (added : List HistEvent) → after.past.history ≡ start.past.history ++ added
            → AllKeepBlocks effects good_id after.world.hosts after.past.attempts (ledger_of start.past.history) added
            → GrowsKeeping effects good_id after.world.hosts after.past.attempts start.past.history after.past.history
        grown effects after added so keep =
            subst (GrowsKeeping effects good_id after.world.hosts after.past.attempts start.past.history) (sym so)
            (end_keeps effects good_id after.world.hosts after.past.attempts start.past.history added keep)

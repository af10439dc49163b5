-- A write that is done in a change is one to which a node's step replies there, and that it doesn't refuse.
use Rattle.std.proofs.Common.{◌≡◌, ⊎_elim, ℕ, ◌+◌, ◌==◌, Bool, true, false, List, [], ◌∷◌, ◌++◌, filter, length, Contains, Option, Some}
use Rattle.std.proofs.Common.{None, refl, sym, subst, ◌∙◌}
use Rattle.std.specs.Prelude.{◌/◌}
use Rattle.std.specs.List.{list_any, range_with_len}
use Rattle.std.proofs.lemmas.Bool.{both_ways, eq-eqb}
use Rattle.std.proofs.lemmas.List.Elements.{Contains-append_cases, Contains-append_left, Contains-append_right}
use Rattle.proof_tools.proofs.Lists.{Contains-cons_cases, Contains-nil, list_any-none}
use Rattle.object_id.specs.declared.limits.TheConstants.{BLOCK_BYTES}
use Rattle.cluster_script.specs.declared.statement.Statement.{Statement}
use Rattle.cluster_script.specs.declared.statement.Statement.TheVariants as lines
use Rattle.cluster_script.specs.NumberedRequests.{numbered_requests, request_at}
use Rattle.disk_history.specs.declared.event.HistEvent.{HistEvent}
use Rattle.disk_history.specs.declared.event.HistEvent.TheVariants.{Create, Copy, Delete, WriteStart, WriteDone, WriteRefused, WriterLost}
use Rattle.disk_history.specs.declared.event.HistEvent.TheVariants.{Read}
use Rattle.peer_proto.specs.declared.guest.GuestRsp.{GuestRsp}
use Rattle.peer_proto.specs.declared.guest.GuestRsp.TheVariants as answers
use Rattle.vdi_directory.specs.Decisions.{log_effects}
use Rattle.sheep_world.specs.World.{World}
use Rattle.sheep_world.specs.Began.{Began}
use Rattle.sheep_world.specs.Effects.{open_disk_at}
use Rattle.sheep_world.specs.Granted.{entry_adds}
use Rattle.sheep_world.specs.HistoryAdditions.{added_by, block_in, blocks_read, disk_of, has_begun_check_write, is_lost_write, reply_adds}
use Rattle.sheep_world.specs.HistoryAdditions.{write_ended, writers_lost}
use Rattle.sheep_world.specs.NodeCauses.{NodeCause, GuestAsks, RequestComes, ReplyComes, LossIsTold, EntryIsRead, EntryIsPut, RecoveryTicks}
use Rattle.sheep_world.specs.NodeCauses.{WorkIsRetried, ClientAsks}
use Rattle.overlap_law.specs.DiskEvents.{ends_write_of}
use Rattle.overlap_law.specs.Headline.{ledger_of}
use Rattle.overlap_law.specs.HistoryGrowth.{check_write_at, world_at_cause, added_at_cause, added_by_reply}
use Rattle.overlap_law.specs.KeptHistory.{RepliesAreAlone, WhatIsDoneIsAlone}
use Rattle.overlap_law.specs.MomentChanges.{MomentChange, RunsAreInRange}
use Rattle.overlap_law.specs.Past.{MomentWithPast}
use Rattle.overlap_law.specs.PastWords.{is_refusal}
use Rattle.overlap_law.specs.StayingBlocks.{IsAloneWhereWritten}
use Rattle.overlap_law.specs.StepMoments.{moment_in_step}
use Rattle.overlap_law.proofs.DiskEventsOfHolders.{map_none}
use Rattle.overlap_law.proofs.EndsOfWrites.{asks_none, checks_none, entry_none}
use Rattle.overlap_law.proofs.HistoryInMoments.{by_rules}
use Rattle.overlap_law.proofs.RequestsTold.{ended_told}
use Rattle.overlap_law.proofs.UnendedRequests.{has_ended}

module _ (req : ℕ) where
  -- whether an event says that the request is done
  abbrev is_done : HistEvent → Bool
  is_done (Create disk blocks) = false
  is_done (Copy old new) = false
  is_done (Delete disk) = false
  is_done (WriteStart other disk block coded bytes) = false
  is_done (WriteDone other) = other == req
  is_done (WriteRefused other) = false
  is_done (WriterLost other) = false
  is_done (Read disk block bytes) = false

  -- it is done by none of some events that don't end it, nor by such as are of other kinds
  not_ended : (events : List HistEvent) → has_ended req events ≡ false → Contains events (WriteDone req) → ⊥
  not_ended events none among =
      both_ways (req == req) (list_any-none (ends_write_of req) events (WriteDone req) none among) (eq-eqb req req refl)

  not_done : (events : List HistEvent) → list_any is_done events ≡ false → Contains events (WriteDone req) → ⊥
  not_done events none among =
      both_ways (req == req) (list_any-none is_done events (WriteDone req) none among) (eq-eqb req req refl)

  cause_none : (script : List Statement) (world : World) (cause : NodeCause) → has_ended req (added_at_cause script world cause) ≡ false
  cause_none script world (GuestAsks session other ask) = asks_none req other (open_disk_at session world) (request_at script other)
  cause_none script world (RequestComes name to request) = refl
  cause_none script world (ReplyComes name from rsp) = checks_none req script (check_write_at world (ReplyComes name from rsp))
  cause_none script world (LossIsTold name packet) = refl
  cause_none script world (EntryIsRead entry) = refl
  cause_none script world (EntryIsPut entry) = refl
  cause_none script world RecoveryTicks = refl
  cause_none script world WorkIsRetried = refl
  cause_none script world (ClientAsks req ask) = refl

  -- a reply by which it is done is to it, and no refusal
  abbrev IsDoneBy : ℕ → GuestRsp → Type 0
  IsDoneBy q rsp = (q ≡ req) × (is_refusal rsp ≡ false)

  ended_by : (q : ℕ) (rsp : GuestRsp) → write_ended q rsp ≡ WriteDone req → IsDoneBy q rsp
  ended_by q answers.Done is = (cc (is), refl)
  ended_by q (answers.Piece bytes) is = (cc (is), refl)
  ended_by q (answers.Refused cause) is = absurd (cc (is))
  ended_by q (answers.Granted vid) is = (cc (is), refl)
  ended_by q (answers.Checked found) is = (cc (is), refl)

  write_by : (q : ℕ) (rsp : GuestRsp) → Contains (write_ended q rsp ∷ []) (WriteDone req) → IsDoneBy q rsp
  write_by q rsp among = ⊎_elim
      (λ (own : write_ended q rsp ≡ WriteDone req). ended_by q rsp own)
      (λ (none : Contains [] (WriteDone req)). absurd (Contains-nil (WriteDone req) none))
      (Contains-cons_cases (write_ended q rsp) [] (WriteDone req) among)

  reads_none : (disk offset : ℕ) (rsp : GuestRsp) → list_any is_done (blocks_read disk offset rsp) ≡ false
  reads_none disk offset answers.Done = refl
  reads_none disk offset (answers.Piece bytes) =
      map_none is_done (λ (place : ℕ). Read disk (offset / BLOCK_BYTES + place) (block_in bytes place)) (λ place. refl)
      (range_with_len 0 (length bytes / BLOCK_BYTES))
  reads_none disk offset (answers.Refused cause) = refl
  reads_none disk offset (answers.Granted vid) = refl
  reads_none disk offset (answers.Checked found) = refl

  adds_by : (written : Bool) (q : ℕ) (rsp : GuestRsp) (disk : ℕ) (s : Statement)
      → Contains (reply_adds written q rsp disk s) (WriteDone req) → IsDoneBy q rsp
  adds_by written q rsp disk (lines.Read session offset size) among =
      absurd (not_done (blocks_read disk offset rsp) (reads_none disk offset rsp) among)
  adds_by written q rsp disk (lines.Write session offset size pattern) among = write_by q rsp among
  adds_by true q rsp disk (lines.Check session) among = write_by q rsp among
  adds_by false q rsp disk (lines.Check session) among = absurd (Contains-nil (WriteDone req) among)
  adds_by written q rsp disk s among = absurd (Contains-nil (WriteDone req) among)

  added_by-done : (written : Bool) (q : ℕ) (rsp : GuestRsp) (disk : Option ℕ) (s : Option Statement)
      → Contains (added_by written q rsp disk s) (WriteDone req) → IsDoneBy q rsp
  added_by-done written q rsp None s among = absurd (Contains-nil (WriteDone req) among)
  added_by-done written q rsp (Some disk) None among = absurd (Contains-nil (WriteDone req) among)
  added_by-done written q rsp (Some disk) (Some s) among = adds_by written q rsp disk s among

module _ (script : List Statement) (range : RunsAreInRange script) (start : MomentWithPast) (began : Began script start.world)
    (good_id : ℕ → Bool) where
  abbrev IsSo : MomentWithPast → MomentWithPast → Type 0
  IsSo before after = RepliesAreAlone script good_id start before after → WhatIsDoneIsAlone good_id before after

  -- where it isn't done by the change
  never : (before after : MomentWithPast)
      → ((req : ℕ) → has_ended req before.past.history ≡ false → Contains after.past.history (WriteDone req) → ⊥) → IsSo before after
  never before after none replies = record {
    each = λ req among unended. absurd (none req (sym (ended_told req before.past.history) ∙ unended) among);
  }

  -- where the history gets these, by which it isn't done
  never_by : (before after : MomentWithPast) (added : List HistEvent) → after.past.history ≡ before.past.history ++ added
      → ((req : ℕ) → Contains added (WriteDone req) → ⊥) → IsSo before after
  never_by before after added so none =
      never before after
      (λ req unended among. ⊎_elim
      (λ (old : Contains before.past.history (WriteDone req)). not_ended req before.past.history unended old)
      (λ (new : Contains added (WriteDone req)). none req new)
      (Contains-append_cases before.past.history added (WriteDone req)
      (subst (λ (events : List HistEvent). Contains events (WriteDone req)) so among)))

  pub done_replied : {before after : MomentWithPast} → MomentChange script start before after → IsSo before after
  done_replied change = by_rules script range start began IsSo (record {
    still = λ before after same so.
        never before after
        (λ req unended among. not_ended req before.past.history unended
        (subst (λ (events : List HistEvent). Contains events (WriteDone req)) so among));
    begins = λ cause after same so.
        never_by start after (added_at_cause script start.world cause) so
        (λ req among. not_ended req (added_at_cause script start.world cause) (cause_none req script start.world cause) among);
    replies = λ stepping is by so_far next within reply told same replies. record {
      each = λ req among unended.
          let before = moment_in_step script stepping start so_far in
          let none = sym (ended_told req before.past.history) ∙ unended in
          let added = added_by_reply script start.world stepping.cause reply in
          let not_before : Contains (told.front ++ told.back) (WriteDone req) → ⊥
          = λ there. not_ended req before.past.history none
          (subst (λ (events : List HistEvent). Contains events (WriteDone req)) (sym told.were) there) in
          let done : Contains added (WriteDone req)
          = ⊎_elim
          (λ (front : Contains (told.front ++ added) (WriteDone req)). ⊎_elim
          (λ (before : Contains told.front (WriteDone req)).
          absurd (not_before (Contains-append_left told.front told.back (WriteDone req) before)))
          (λ (here : Contains added (WriteDone req)). here)
          (Contains-append_cases told.front added (WriteDone req) front))
          (λ (back : Contains told.back (WriteDone req)).
          absurd (not_before (Contains-append_right told.front told.back (WriteDone req) back)))
          (Contains-append_cases (told.front ++ added) told.back (WriteDone req)
          (subst (λ (events : List HistEvent). Contains events (WriteDone req)) told.now among)) in
          let (own, accepts) = added_by-done req
          (has_begun_check_write script reply.0 (world_at_cause start.world stepping.cause) (check_write_at start.world stepping.cause))
          reply.0 reply.1 (disk_of script reply.0 (world_at_cause start.world stepping.cause)) (request_at script reply.0) done in
          subst (λ (q : ℕ). IsAloneWhereWritten (log_effects (moment_in_step script stepping start next).world.log) good_id
          (moment_in_step script stepping start next).world.hosts (moment_in_step script stepping start next).past.attempts
          (ledger_of before.past.history) q) own
          (replies stepping so_far next is by within refl refl reply told.among told.free accepts);
    };
    adds = λ entry after longer so.
        never_by start after (entry_adds start.world.log entry) so
        (λ req among. not_ended req (entry_adds start.world.log entry) (entry_none req start.world.log entry) among);
    loses = λ n host there up after same so.
        never_by start after (writers_lost script start.world n (Some host)) so
        (λ req among. not_done req (writers_lost script start.world n (Some host))
        (map_none (is_done req) (λ (request : ℕ × Statement). WriterLost request.0) (λ request. refl)
        (filter (is_lost_write script start.world n host) (numbered_requests script))) among);
  }) change

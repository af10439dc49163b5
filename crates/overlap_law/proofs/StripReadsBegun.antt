-- In every run in range, and at each moment on the way of its events, each coded write of a block that the history begins is of bytes.
use Rattle.std.proofs.Common.{◌≡◌, ⊎_elim, ℕ, ◌+◌, ◌/◌, Bool, true, false, cond, Contains, List, [], ◌∷◌, ◌++◌}
use Rattle.std.proofs.Common.{filter, length, map, Option, Some, None, refl, subst}
use Rattle.std.specs.Prelude.{flat_map}
use Rattle.std.specs.List.{list_all, range_with_len}
use Rattle.std.specs.Option.{option_map_or}
use Rattle.std.proofs.lemmas.Bool.{and_parts}
use Rattle.proof_tools.proofs.Lists.{Contains-cons_cases, Contains-nil}
use Rattle.object_id.specs.declared.entry.Entry.{Entry}
use Rattle.object_id.specs.declared.entry.Entry.TheVariants as entries
use Rattle.object_id.specs.declared.limits.TheConstants.{BLOCK_BYTES}
use Rattle.object_id.specs.declared.oid.Kind.TheVariants.{Block}
use Rattle.object_id.specs.declared.oid.Vid.{Vid}
use Rattle.object_id.specs.Fields.{AreBytes}
use Rattle.gf256.specs.Part.{is_in_strips}
use Rattle.cluster_script.specs.declared.statement.Statement.{Statement}
use Rattle.cluster_script.specs.declared.statement.Statement.TheVariants as lines
use Rattle.cluster_script.specs.Language.{MayStand}
use Rattle.cluster_script.specs.NumberedRequests.{numbered_requests, payload_of, request_at}
use Rattle.cluster_script.specs.Statements.{is_check}
use Rattle.disk_history.specs.declared.event.HistEvent.{HistEvent}
use Rattle.disk_history.specs.declared.event.HistEvent.TheVariants.{Create, Copy, Delete, WriteStart, WriteDone, WriteRefused, WriterLost}
use Rattle.disk_history.specs.declared.event.HistEvent.TheVariants.{Read}
use Rattle.guest_driver.specs.declared.disk.Disk.{Disk}
use Rattle.peer_proto.specs.declared.guest.GuestRsp.{GuestRsp}
use Rattle.vdi_directory.specs.declared.decision.Decision.{Decision}
use Rattle.vdi_directory.specs.declared.decision.Decision.TheVariants as decisions
use Rattle.vdi_directory.specs.declared.header.Header.{Header}
use Rattle.vdi_directory.specs.Decisions.{decision_after}
use Rattle.sheep_node.specs.declared.check_write.CheckWrite.{CheckWrite}
use Rattle.sheep_world.specs.Effects.{open_disk_at}
use Rattle.sheep_world.specs.Granted.{granted_header, disk_cloned, disk_made, granted_adds, decided_adds, entry_adds}
use Rattle.sheep_world.specs.HistoryAdditions.{begins_on, block_checked, block_in, check_write_adds, check_write_grown, disk_of}
use Rattle.sheep_world.specs.HistoryAdditions.{has_begun_check_write, is_lost_write, is_on_disk, writers_lost}
use Rattle.sheep_world.specs.NodeCauses.{NodeCause, GuestAsks, RequestComes, ReplyComes, LossIsTold, EntryIsRead, EntryIsPut, RecoveryTicks}
use Rattle.sheep_world.specs.NodeCauses.{WorkIsRetried, ClientAsks}
use Rattle.sheep_world.specs.World.{World}
use Rattle.sheep_world.specs.RunsWithAsks.{Move}
use Rattle.overlap_law.specs.HistoryGrowth.{HistoryGrows, NothingIsAdded, WritesBegin, RequestIsReplied, EntryAdds, WritersAreLost}
use Rattle.overlap_law.specs.HistoryGrowth.{added_at_cause, added_by_reply, check_write_at, world_at_cause}
use Rattle.overlap_law.specs.MomentChanges.{KeptByChanges, MomentTrail, RunsAreInRange}
use Rattle.overlap_law.specs.Past.{MomentWithPast, run_with_past}
use Rattle.overlap_law.specs.StripReadsAlike.{CodedWritesAreOfBytes}
use Rattle.overlap_law.proofs.HistoryInMoments.{history_grows}
use Rattle.overlap_law.proofs.ReadsToldBack.{is_told}
use Rattle.overlap_law.proofs.ReadsToldEvents.{reply_is_told}
use Rattle.overlap_law.proofs.RunsByChanges.{on_the_way, run-kept}
use Rattle.overlap_law.proofs.StandingWriters.{may_stand}
use Rattle.overlap_law.proofs.StripReadsValues.{HasValue, block_bytes, cause_value, payload_bytes}

-- ---- what events begin

-- the write that an event begins is of bytes, if it is coded
abbrev Has : HistEvent → Type 0
Has (Create disk blocks) = Unit {0}
Has (Copy old new) = Unit {0}
Has (Delete disk) = Unit {0}
Has (WriteStart req disk block coded bytes) = coded ≡ true → AreBytes bytes
Has (WriteDone req) = Unit {0}
Has (WriteRefused req) = Unit {0}
Has (WriterLost req) = Unit {0}
Has (Read disk block bytes) = Unit {0}

abbrev AllHave : List HistEvent → Type 0
AllHave [] = Unit {0}
AllHave (event ∷ events) = Has event × AllHave events

both_have : (front back : List HistEvent) → AllHave front → AllHave back → AllHave (front ++ back)
both_have [] back first rest = rest
both_have (event ∷ front) back first rest = (first.0, both_have front back first.1 rest)

parts_have : (front back : List HistEvent) → AllHave (front ++ back) → AllHave front × AllHave back
parts_have [] back all = (tt, all)
parts_have (event ∷ front) back all = let rest = parts_have front back all.1 in ((all.0, rest.0), rest.1)

have_at : (events : List HistEvent) → AllHave events → (one : HistEvent) → Contains events one → Has one
have_at [] all one among = absurd (Contains-nil one among)
have_at (first ∷ later) all one among = ⊎_elim
    (λ (same : first ≡ one). subst Has same all.0)
    (λ (rest : Contains later one). have_at later all.1 one rest)
    (Contains-cons_cases first later one among)

mapped_have : {X : Type 0} (make : X → HistEvent) → ((x : X) → Has (make x)) → (xs : List X) → AllHave (map make xs)
mapped_have make each [] = tt
mapped_have make each (x ∷ xs) = (each x, mapped_have make each xs)

flat_have : {X : Type 0} (make : X → List HistEvent) → ((x : X) → AllHave (make x)) → (xs : List X) → AllHave (flat_map make xs)
flat_have make each [] = tt
flat_have make each (x ∷ xs) = both_have (make x) (flat_map make xs) (each x) (flat_have make each xs)

told_has : (event : HistEvent) → is_told event ≡ true → Has event
told_has (Create disk blocks) is = tt
told_has (Copy old new) is = tt
told_has (Delete disk) is = tt
told_has (WriteStart req disk block coded bytes) is = absurd (cc (is))
told_has (WriteDone req) is = tt
told_has (WriteRefused req) is = tt
told_has (WriterLost req) is = tt
told_has (Read disk block bytes) is = tt

told_have : (events : List HistEvent) → list_all is_told events ≡ true → AllHave events
told_have [] is = tt
told_have (event ∷ events) is =
    let parts = and_parts (is_told event) (list_all is_told events) is in (told_has event parts.0, told_have events parts.1)

-- an entry begins none
granted_have : (log : List Entry) (id : Vid) (entry : Entry) → AllHave (granted_adds log id entry)
granted_have log id (entries.Publish by of) = by_header (granted_header log id)
  where
    by_header : (header : Option Header) → AllHave (option_map_or (disk_made id) header [])
    by_header None = tt
    by_header (Some header) = (tt, tt)
granted_have log id (entries.Clone by of) = by_header (granted_header log id)
  where
    by_parent : (parent : Option Vid) → AllHave (option_map_or (λ (parent : Vid). Copy parent.0 id.0 ∷ []) parent [])
    by_parent None = tt
    by_parent (Some parent) = (tt, tt)

    by_header : (header : Option Header) → AllHave (option_map_or (disk_cloned id) header [])
    by_header None = tt
    by_header (Some header) = by_parent header.parent
granted_have log id (entries.Snapshot by old of) = (tt, tt)
granted_have log id (entries.Delete by session name tag) = (tt, tt)
granted_have log id entry = tt

entry_have : (log : List Entry) (entry : Entry) → AllHave (entry_adds log entry)
unfolding entry_adds
entry_have log entry = by_decision (decision_after log entry)
  where
    by_decision : (decision : Decision) → AllHave (decided_adds log entry decision)
    by_decision decisions.None = tt
    by_decision (decisions.Granted id) = granted_have log id entry
    by_decision (decisions.Refused cause) = tt

-- ---- in runs

module _ (script : List Statement) (range : RunsAreInRange script) where
  line_have : (req : ℕ) (disk : Option Disk) (line : Statement) → ((before : List Statement) × MayStand before line)
      → AllHave (begins_on req disk line)
  line_have req None (lines.Write session offset count pattern) may = tt
  line_have req (Some disk) (lines.Write session offset count pattern) (before, may) =
      mapped_have
      (λ (place : ℕ).
      WriteStart req disk.inode.vid (offset / BLOCK_BYTES + place) (is_in_strips disk.inode.spec.policy Block)
      (block_in (payload_of pattern count) place))
      (λ place coded. block_bytes (payload_of pattern count) place (payload_bytes pattern count may.2))
      (range_with_len 0 (length (payload_of pattern count) / BLOCK_BYTES))
  line_have req disk line may = tt

  asked_have : (req : ℕ) (disk : Option Disk) (o : Option Statement) → request_at script req ≡ o
      → AllHave (option_map_or (begins_on req disk) o [])
  asked_have req disk None so = tt
  asked_have req disk (Some line) so = line_have req disk line (may_stand script range.is_script req line so)

  write_have : (write : CheckWrite) → HasValue write → AllHave (check_write_grown script write)
  write_have write of = by_check (option_map_or is_check (request_at script write.req) false)
    where
      by_check : (b : Bool) → AllHave (cond b (check_write_adds write) [])
      by_check false = tt
      by_check true =
          flat_have (block_checked write) (λ place. (tt, (λ strips. block_bytes write.value place (of strips), tt)))
          (filter (is_on_disk write) (range_with_len 0 (length write.value / BLOCK_BYTES)))

  -- what the beginning of a step adds
  cause_have : (world : World) (cause : NodeCause) → AllHave (added_at_cause script world cause)
  cause_have world (GuestAsks session req ask) = asked_have req (open_disk_at session world) (request_at script req) refl
  cause_have world (RequestComes name to request) = tt
  cause_have world (ReplyComes name from rsp) = by_write (check_write_at world (ReplyComes name from rsp)) refl
    where
      by_write : (o : Option CheckWrite) → check_write_at world (ReplyComes name from rsp) ≡ o
          → AllHave (option_map_or (check_write_grown script) o [])
      by_write None so = tt
      by_write (Some write) so = write_have write (cause_value world name from rsp write so)
  cause_have world (LossIsTold name packet) = tt
  cause_have world (EntryIsRead entry) = tt
  cause_have world (EntryIsPut entry) = tt
  cause_have world RecoveryTicks = tt
  cause_have world WorkIsRetried = tt
  cause_have world (ClientAsks req ask) = tt

  reply_have : (world : World) (cause : NodeCause) (reply : ℕ × GuestRsp) → AllHave (added_by_reply script world cause reply)
  reply_have world cause reply =
      told_have (added_by_reply script world cause reply)
      (reply_is_told (has_begun_check_write script reply.0 (world_at_cause world cause) (check_write_at world cause)) reply.0 reply.1
      (disk_of script reply.0 (world_at_cause world cause)) (request_at script reply.0))

  -- so it is of what each change adds
  grows_have : {world : World} {log : List Entry} {history later : List HistEvent} → HistoryGrows script world log history later
      → AllHave history → AllHave later
  grows_have (NothingIsAdded same) all = all
  grows_have {world} {log} {history} (WritesBegin cause same) all =
      both_have history (added_at_cause script world cause) all (cause_have world cause)
  grows_have {world} {log} {history} (RequestIsReplied cause reply front back same parts apart) all =
      let split = parts_have front back (subst AllHave parts all) in
      both_have (front ++ added_by_reply script world cause reply) back
      (both_have front (added_by_reply script world cause reply) split.0 (reply_have world cause reply)) split.1
  grows_have {world} {log} {history} (EntryAdds entry longer) all =
      both_have history (entry_adds world.log entry) all (entry_have world.log entry)
  grows_have {world} {log} {history} (WritersAreLost n host same) all =
      both_have history (writers_lost script world n (Some host)) all
      (mapped_have (λ (request : ℕ × Statement). WriterLost request.0) (λ request. tt)
      (filter (is_lost_write script world n host) (numbered_requests script)))

  abbrev HasBegunSo : MomentWithPast → Type 0
  HasBegunSo moment = AllHave moment.past.history

  kept_begun : KeptByChanges script HasBegunSo
  kept_begun = record {
    opens = tt;
    keeps = λ start before after began change holds. grows_have (history_grows script range start began change) holds;
  }

  begun_so : (moment : MomentWithPast) → HasBegunSo moment → CodedWritesAreOfBytes moment.past.history
  begun_so moment all = record {
    each = λ req vid block bytes among. have_at moment.past.history all (WriteStart req vid block true bytes) among refl;
  }

  pub bytes-in_run : (events : List Move) (moment : MomentWithPast) → run_with_past script events ≡ Some moment
      → CodedWritesAreOfBytes moment.past.history
  bytes-in_run events moment run = begun_so moment (run-kept script HasBegunSo kept_begun events moment run)

  pub bytes-on_the_way : (events : List Move) (start moment : MomentWithPast) → run_with_past script events ≡ Some start
      → MomentTrail script start moment → CodedWritesAreOfBytes moment.past.history
  bytes-on_the_way events start moment run trail =
      begun_so moment (on_the_way script HasBegunSo kept_begun events start moment run trail)

-- What an event adds to the history is made of events of few kinds: what holds of these holds of each event that it adds.
use Rattle.std.proofs.Common.{◌≡◌, ℕ, ◌+◌, Bool, true, false, ◌||◌, cond, List, [], ◌∷◌, map, filter, length, All, Contains, Option}
use Rattle.std.proofs.Common.{Some, None, refl}
use Rattle.std.specs.Prelude.{◌/◌, flat_map}
use Rattle.std.specs.List.{list_any, range_with_len}
use Rattle.std.specs.Option.{option_map_or}
use Rattle.std.proofs.lemmas.List.Elements.{All-nil, All-cons, All-append, All-head, All-tail}
use Rattle.proof_tools.proofs.Lists.{Contains-head, Contains-cons}
use Rattle.object_id.specs.declared.entry.Entry.{Entry}
use Rattle.object_id.specs.declared.entry.Entry.TheVariants as entries
use Rattle.object_id.specs.declared.limits.TheConstants.{BLOCK_BYTES}
use Rattle.object_id.specs.declared.oid.Kind.TheVariants.{Block}
use Rattle.object_id.specs.declared.oid.Vid.{Vid}
use Rattle.gf256.specs.Part.{is_in_strips}
use Rattle.disk_history.specs.declared.event.HistEvent.{HistEvent}
use Rattle.disk_history.specs.declared.event.HistEvent.TheVariants.{Create, Copy, Delete, Read, WriteStart, WriteDone, WriteRefused}
use Rattle.vdi_directory.specs.declared.decision.Decision.{Decision}
use Rattle.vdi_directory.specs.declared.decision.Decision.TheVariants as decisions
use Rattle.vdi_directory.specs.declared.header.Header.{Header}
use Rattle.vdi_directory.specs.Decisions.{decision_after}
use Rattle.cluster_script.specs.declared.statement.Statement.{Statement}
use Rattle.cluster_script.specs.declared.statement.Statement.TheVariants as lines
use Rattle.cluster_script.specs.NumberedRequests.{request_at, payload_of}
use Rattle.cluster_script.specs.Statements.{is_check}
use Rattle.guest_driver.specs.declared.disk.Disk.{Disk}
use Rattle.peer_proto.specs.declared.guest.GuestRsp.{GuestRsp}
use Rattle.peer_proto.specs.declared.guest.GuestRsp.TheVariants as answers
use Rattle.sheep_node.specs.declared.check_write.CheckWrite.{CheckWrite}
use Rattle.sheep_world.specs.World.{World}
use Rattle.sheep_world.specs.Effects.{open_disk_at}
use Rattle.sheep_world.specs.Granted.{granted_header, disk_cloned, disk_made, granted_adds, decided_adds, entry_adds}
use Rattle.sheep_world.specs.HistoryAdditions.{added_by, begins_on, block_checked, block_in, block_written, blocks_read, check_write_adds}
use Rattle.sheep_world.specs.HistoryAdditions.{check_write_grown, disk_of, has_begun_check_write, is_on_disk, reply_adds, reply_grown}
use Rattle.sheep_world.specs.HistoryAdditions.{write_ended}
use Rattle.sheep_world.specs.NodeCauses.{NodeCause, GuestAsks, RequestComes, ReplyComes, LossIsTold, EntryIsRead, EntryIsPut, RecoveryTicks}
use Rattle.sheep_world.specs.NodeCauses.{WorkIsRetried, ClientAsks}
use Rattle.overlap_law.specs.HistoryGrowth.{added_at_cause, check_write_at}
use Rattle.overlap_law.specs.PastWords.{is_refusal}

-- where each event fails a test, none passes it
pub none_of : (test : HistEvent → Bool) (events : List HistEvent) → All (λ (event : HistEvent). test event ≡ false) events
    → list_any test events ≡ false
none_of test [] all = refl
none_of test (event ∷ events) all =
    let first = All-head (λ (event : HistEvent). test event ≡ false) event events all in
    let rest : list_any test events ≡ false
    = none_of test events (All-tail (λ (event : HistEvent). test event ≡ false) event events all) in
    λ i. first i || rest i

module _ (P : HistEvent → Type 0) where
  pub map_add : {X : Type 0} (make : X → HistEvent) → ((x : X) → P (make x)) → (xs : List X) → All P (map make xs)
  map_add make each [] = All-nil P
  map_add make each (x ∷ xs) = All-cons P (make x) (map make xs) (each x) (map_add make each xs)

  pub flat_add : {X : Type 0} (make : X → List HistEvent) (xs : List X) → ((x : X) → Contains xs x → All P (make x))
      → All P (flat_map make xs)
  flat_add make [] each = All-nil P
  flat_add make (x ∷ xs) each =
      All-append P (make x) (flat_map make xs) (each x (Contains-head x xs))
      (flat_add make xs (λ y among. each y (Contains-cons x xs y among)))

  single : (event : HistEvent) → P event → All P (event ∷ [])
  single event is = All-cons P event [] is (All-nil P)

  -- ---- what a request begins

  writes_add : (req : ℕ) (disk : Option Disk) (s : Statement)
      → ((opened : Disk) (block : ℕ) (coded : Bool) (bytes : List ℕ) → disk ≡ Some opened
      → P (WriteStart req opened.inode.vid block coded bytes)) → All P (begins_on req disk s)
  writes_add req None (lines.Write number offset size pattern) start = All-nil P
  writes_add req (Some opened) (lines.Write number offset size pattern) start =
      map_add
      (λ (place : ℕ).
      WriteStart req opened.inode.vid (offset / BLOCK_BYTES + place) (is_in_strips opened.inode.spec.policy Block)
      (block_in (payload_of pattern size) place))
      (λ place.
      start opened (offset / BLOCK_BYTES + place) (is_in_strips opened.inode.spec.policy Block)
      (block_in (payload_of pattern size) place) refl)
      (range_with_len 0 (length (payload_of pattern size) / BLOCK_BYTES))
  writes_add req disk s start = All-nil P

  pub asks_add : (req : ℕ) (disk : Option Disk) (s : Option Statement)
      → ((opened : Disk) (block : ℕ) (coded : Bool) (bytes : List ℕ) → disk ≡ Some opened
      → P (WriteStart req opened.inode.vid block coded bytes)) → All P (option_map_or (begins_on req disk) s [])
  asks_add req disk None start = All-nil P
  asks_add req disk (Some s) start = writes_add req disk s start

  -- ---- an entry

  module _ (made : (disk blocks : ℕ) → P (Create disk blocks)) (copied : (old new : ℕ) → P (Copy old new))
      (deleted : (disk : ℕ) → P (Delete disk)) (log : List Entry) where
    granted_add : (id : Vid) (entry : Entry) → All P (granted_adds log id entry)
    granted_add id (entries.Publish by of) = by_header (granted_header log id)
      where
        by_header : (header : Option Header) → All P (option_map_or (disk_made id) header [])
        by_header None = All-nil P
        by_header (Some header) =
            single (Create id.0 (header.spec.size / BLOCK_BYTES)) (made id.0 (header.spec.size / BLOCK_BYTES))
    granted_add id (entries.Clone by of) = by_header (granted_header log id)
      where
        by_parent : (parent : Option Vid) → All P (option_map_or (λ (parent : Vid). Copy parent.0 id.0 ∷ []) parent [])
        by_parent None = All-nil P
        by_parent (Some parent) = single (Copy parent.0 id.0) (copied parent.0 id.0)

        by_header : (header : Option Header) → All P (option_map_or (disk_cloned id) header [])
        by_header None = All-nil P
        by_header (Some header) = by_parent header.parent
    granted_add id (entries.Snapshot by old of) = single (Copy old.0 id.0) (copied old.0 id.0)
    granted_add id (entries.Delete by session name tag) = single (Delete id.0) (deleted id.0)
    granted_add id entry = All-nil P

    pub entry_add : (entry : Entry) → All P (entry_adds log entry)
    unfolding entry_adds
    entry_add entry = by_decision (decision_after log entry)
      where
        by_decision : (decision : Decision) → All P (decided_adds log entry decision)
        by_decision decisions.None = All-nil P
        by_decision (decisions.Granted id) = granted_add id entry
        by_decision (decisions.Refused cause) = All-nil P

  -- ---- a reply

  pub end_so : (req : ℕ) (rsp : GuestRsp) → (is_refusal rsp ≡ false → P (WriteDone req)) → P (WriteRefused req) → P (write_ended req rsp)
  end_so req answers.Done done refused = done refl
  end_so req (answers.Piece bytes) done refused = done refl
  end_so req (answers.Refused cause) done refused = refused
  end_so req (answers.Granted id) done refused = done refl
  end_so req (answers.Checked found) done refused = done refl

  module _ (read : (disk block : ℕ) (bytes : List ℕ) → P (Read disk block bytes)) where
    pub reads_add : (disk offset : ℕ) (rsp : GuestRsp) → All P (blocks_read disk offset rsp)
    reads_add disk offset answers.Done = All-nil P
    reads_add disk offset (answers.Piece bytes) =
        map_add (λ (place : ℕ). Read disk (offset / BLOCK_BYTES + place) (block_in bytes place))
        (λ place. read disk (offset / BLOCK_BYTES + place) (block_in bytes place)) (range_with_len 0 (length bytes / BLOCK_BYTES))
    reads_add disk offset (answers.Refused cause) = All-nil P
    reads_add disk offset (answers.Granted id) = All-nil P
    reads_add disk offset (answers.Checked found) = All-nil P

    statement_adds : (written : Bool) (req : ℕ) (rsp : GuestRsp) → P (write_ended req rsp) → (disk : ℕ) (s : Statement)
        → All P (reply_adds written req rsp disk s)
    statement_adds written req rsp ended disk (lines.Read number offset size) = reads_add disk offset rsp
    statement_adds written req rsp ended disk (lines.Write number offset size pattern) = single (write_ended req rsp) ended
    statement_adds true req rsp ended disk (lines.Check number) = single (write_ended req rsp) ended
    statement_adds false req rsp ended disk (lines.Check number) = All-nil P
    statement_adds written req rsp ended disk s = All-nil P

    pub reply_add : (written : Bool) (req : ℕ) (rsp : GuestRsp) → P (write_ended req rsp) → (disk : Option ℕ) (s : Option Statement)
        → All P (added_by written req rsp disk s)
    reply_add written req rsp ended None s = All-nil P
    reply_add written req rsp ended (Some disk) None = All-nil P
    reply_add written req rsp ended (Some disk) (Some s) = statement_adds written req rsp ended disk s

    module _ (script : List Statement) where
      pub replies_add : (before : World) (write : Option CheckWrite) (replies : List (ℕ × GuestRsp))
          → ((reply : ℕ × GuestRsp) → Contains replies reply → P (write_ended reply.0 reply.1))
          → All P (flat_map (reply_grown script before write) replies)
      replies_add before write replies ended =
          flat_add (reply_grown script before write) replies
          (λ reply among.
          reply_add (has_begun_check_write script reply.0 before write) reply.0 reply.1 (ended reply among)
          (disk_of script reply.0 before) (request_at script reply.0))

      -- ---- the write that a check comes to

      pub check_adds : (write : CheckWrite)
          → ((block : ℕ) (coded : Bool) (bytes : List ℕ) → option_map_or is_check (request_at script write.req) false ≡ true
          → P (WriteStart write.req write.vid.0 block coded bytes)) → All P (check_write_grown script write)
      check_adds write start = by_check (option_map_or is_check (request_at script write.req) false) refl
        where
          by_check : (b : Bool) → option_map_or is_check (request_at script write.req) false ≡ b
              → All P (cond b (check_write_adds write) [])
          by_check false is = All-nil P
          by_check true is =
              flat_add (block_checked write) (filter (is_on_disk write) (range_with_len 0 (length write.value / BLOCK_BYTES)))
              (λ place among.
              let block : ℕ = block_written write place in
              let coded : Bool = is_in_strips write.spec.policy Block in
              let bytes : List ℕ = block_in write.value place in
              All-cons P (Read write.vid.0 block bytes) (WriteStart write.req write.vid.0 block coded bytes ∷ [])
              (read write.vid.0 block bytes)
              (single (WriteStart write.req write.vid.0 block coded bytes) (start block coded bytes is)))

      pub checks_add : (write : Option CheckWrite)
          → ((req disk block : ℕ) (coded : Bool) (bytes : List ℕ) → P (WriteStart req disk block coded bytes))
          → All P (option_map_or (check_write_grown script) write [])
      checks_add None start = All-nil P
      checks_add (Some write) start = check_adds write (λ block coded bytes is. start write.req write.vid.0 block coded bytes)

      -- ---- the beginning of a step

      pub cause_adds : ((req disk block : ℕ) (coded : Bool) (bytes : List ℕ) → P (WriteStart req disk block coded bytes))
          → (world : World) (cause : NodeCause) → All P (added_at_cause script world cause)
      cause_adds start world (GuestAsks session req ask) =
          asks_add req (open_disk_at session world) (request_at script req)
          (λ opened block coded bytes is. start req opened.inode.vid block coded bytes)
      cause_adds start world (RequestComes name to request) = All-nil P
      cause_adds start world (ReplyComes name from rsp) = checks_add (check_write_at world (ReplyComes name from rsp)) start
      cause_adds start world (LossIsTold name packet) = All-nil P
      cause_adds start world (EntryIsRead entry) = All-nil P
      cause_adds start world (EntryIsPut entry) = All-nil P
      cause_adds start world RecoveryTicks = All-nil P
      cause_adds start world WorkIsRetried = All-nil P
      cause_adds start world (ClientAsks req ask) = All-nil P

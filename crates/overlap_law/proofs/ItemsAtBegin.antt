-- What begins the writes of a request in the history: the request, where it is a write on an open disk, or a write to which its check
-- comes.
use Rattle.std.proofs.Common.{◌≡◌, ℕ, ◌==◌, Bool, true, false, ◌||◌, cond, List, [], map, filter, length, Option, Some, None, is_some, refl}
use Rattle.std.proofs.Common.{sym, ap, ◌∙◌}
use Rattle.std.specs.Prelude.{◌/◌}
use Rattle.std.specs.List.{list_any, range_with_len}
use Rattle.std.specs.Option.{option_map, option_map_or, option_and_then}
use Rattle.std.proofs.lemmas.Bool.{eqb-true}
use Rattle.object_id.specs.declared.entry.Entry.{Entry}
use Rattle.object_id.specs.declared.limits.TheConstants.{BLOCK_BYTES}
use Rattle.object_id.specs.declared.oid.Kind.TheVariants.{Block}
use Rattle.gf256.specs.Part.{is_in_strips}
use Rattle.disk_history.specs.declared.event.HistEvent.{HistEvent}
use Rattle.disk_history.specs.declared.event.HistEvent.TheVariants.{WriteStart, WriterLost}
use Rattle.cluster_script.specs.declared.statement.Statement.{Statement}
use Rattle.cluster_script.specs.declared.statement.Statement.TheVariants as lines
use Rattle.cluster_script.specs.NumberedRequests.{payload_of}
use Rattle.guest_driver.specs.declared.disk.Disk.{Disk}
use Rattle.peer_proto.specs.declared.ask.PeerReq.{PeerReq}
use Rattle.sheep_node.specs.declared.check_write.CheckWrite.{CheckWrite}
use Rattle.sheep_node.specs.declared.input.Input.TheVariants as inputs
use Rattle.sheep_node.specs.CheckWrites.{check_write_on}
use Rattle.sheep_node.specs.State.{Node}
use Rattle.sheep_world.specs.Granted.{entry_adds}
use Rattle.sheep_world.specs.HistoryAdditions.{is_write, begins_on, is_on_disk, block_checked, check_write_adds, check_write_grown}
use Rattle.overlap_law.proofs.ClosedAdditions.{none_of, entry_add}
use Rattle.overlap_law.proofs.ItemsOfRequests.{begins_write_of, BeginNone, flat_none, map_none}
use Rattle.overlap_law.proofs.ItemsOfReplies.{each_block-none, is_check_at}

-- an entry doesn't
pub entry_none : (req : ℕ) (log : List Entry) (entry : Entry) → BeginNone req (entry_adds log entry)
entry_none req log entry =
    none_of (begins_write_of req) (entry_adds log entry)
    (entry_add (λ (event : HistEvent). begins_write_of req event ≡ false) (λ disk blocks. refl) (λ old new. refl) (λ disk. refl) log entry)

-- a write of the script does, on the disk that its session has open
abbrev pub BeginsWrite : ℕ → ℕ → Option Disk → Option Statement → Type 0
BeginsWrite req other disk s = (other ≡ req) × (is_some disk ≡ true) × (option_map_or is_write s false ≡ true)

statement_begins : (req other : ℕ) (disk : Option Disk) (s : Statement) → list_any (begins_write_of req) (begins_on other disk s) ≡ true
    → BeginsWrite req other disk (Some s)
statement_begins req other None (lines.Write session offset length pattern) is = absurd (cc (is))
statement_begins req other (Some disk) (lines.Write session offset length pattern) is = by_test (other == req) refl
  where
    by_test : (b : Bool) → (other == req) ≡ b → BeginsWrite req other (Some disk) (Some (lines.Write session offset length pattern))
    by_test true same = (eqb-true other req same, refl, refl)
    by_test false apart =
        let none : list_any (begins_write_of req) (begins_on other (Some disk) (lines.Write session offset length pattern)) ≡ false
        = each_block-none req
        (λ block piece. WriteStart other disk.inode.vid block (is_in_strips disk.inode.spec.policy Block) piece)
        (λ block piece. apart) offset (payload_of pattern length) in
        absurd (cc (is, none))
statement_begins req other disk s is = absurd (cc (is))

pub request_begins : (req other : ℕ) (disk : Option Disk) (s : Option Statement)
    → list_any (begins_write_of req) (option_map_or (begins_on other disk) s []) ≡ true → BeginsWrite req other disk s
request_begins req other disk None is = absurd (cc (is))
request_begins req other disk (Some s) is = statement_begins req other disk s is

pub lost_none : (req : ℕ) (requests : List (ℕ × Statement))
    → BeginNone req (map (λ (request : ℕ × Statement). WriterLost request.0) requests)
lost_none req requests = map_none req (λ (request : ℕ × Statement). WriterLost request.0) (λ request. refl) requests

pub on_open_disk : (disk : Option Disk) → is_some disk ≡ true → is_some (option_map (λ (disk : Disk). disk.inode.vid) disk) ≡ true
on_open_disk None is = absurd (cc (is))
on_open_disk (Some disk) is = refl

-- ---- checks

-- a check of this request comes to a write
abbrev pub ComesToWrite : List Statement → ℕ → Option CheckWrite → Type 0
ComesToWrite script req write = (comes : CheckWrite) × (write ≡ Some comes) × (comes.req ≡ req) × (is_check_at script req ≡ true)

pub check_begins : (script : List Statement) (req : ℕ) (write : Option CheckWrite)
    → list_any (begins_write_of req) (option_map_or (check_write_grown script) write []) ≡ true → ComesToWrite script req write
check_begins script req None is = absurd (cc (is))
check_begins script req (Some write) is = by_check (is_check_at script write.req) refl is
  where
    by_own : (b : Bool) → (write.req == req) ≡ b → is_check_at script write.req ≡ true
        → list_any (begins_write_of req) (check_write_adds write) ≡ true → ComesToWrite script req (Some write)
    by_own true own checks is =
        let same : write.req ≡ req = eqb-true write.req req own in
        (write, refl, same, ap (is_check_at script) (sym same) ∙ checks)
    by_own false apart checks is =
        let none : list_any (begins_write_of req) (check_write_adds write) ≡ false
        = flat_none req (block_checked write) (λ place. λ i. apart i || false)
        (filter (is_on_disk write) (range_with_len 0 (length write.value / BLOCK_BYTES))) in
        absurd (cc (is, none))

    by_check : (b : Bool) → is_check_at script write.req ≡ b
        → list_any (begins_write_of req) (cond b (check_write_adds write) []) ≡ true → ComesToWrite script req (Some write)
    by_check true checks is = by_own (write.req == req) refl checks is
    by_check false checks is = absurd (cc (is))

-- none comes to one by a request
pub served_comes_to_none : (request : PeerReq) (o : Option Node) → option_and_then (check_write_on (inputs.Request request)) o ≡ None
unfolding check_write_on
served_comes_to_none request None = refl
served_comes_to_none request (Some node) = refl

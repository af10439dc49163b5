-- Which disks are there by a history, and deleted; and which events leave that as it is.
use Rattle.std.proofs.Common.{◌≡◌, ℕ, ◌==◌, Bool, true, false, not, cond, List, [], ◌∷◌, ◌++◌, fold, length, map, filter, Option, Some}
use Rattle.std.proofs.Common.{None, option_map, refl, sym, ap, ◌∙◌}
use Rattle.std.specs.Prelude.{◌/◌, ◌+◌, flat_map}
use Rattle.std.specs.List.{list_all, range_with_len}
use Rattle.std.specs.Option.{option_map_or}
use Rattle.std.proofs.lemmas.Bool.{eqb-true, and_parts, and_from}
use Rattle.std.proofs.lemmas.List.Sums.{fold-append}
use Rattle.object_id.specs.declared.limits.TheConstants.{BLOCK_BYTES}
use Rattle.object_id.specs.declared.oid.Kind.TheVariants.{Block}
use Rattle.gf256.specs.Part.{is_in_strips}
use Rattle.cluster_script.specs.declared.statement.Statement.{Statement}
use Rattle.cluster_script.specs.declared.statement.Statement.TheVariants as lines
use Rattle.cluster_script.specs.NumberedRequests.{request_at, payload_of}
use Rattle.cluster_script.specs.Statements.{is_check}
use Rattle.disk_history.specs.declared.event.HistEvent.{HistEvent}
use Rattle.disk_history.specs.declared.event.HistEvent.TheVariants.{Create, Copy, Delete, WriteStart, WriteDone, WriteRefused, WriterLost}
use Rattle.disk_history.specs.declared.event.HistEvent.TheVariants.{Read}
use Rattle.disk_history.specs.Ledger.{Open, Acknowledged, Lost, Item, Disk, Ledger, empty_ledger, zeros_item, is_item_of, item_with_mark}
use Rattle.disk_history.specs.Ledger.{changed_at, with_item, has_block, ledger_after}
use Rattle.guest_driver.specs.declared.disk.Disk as opened
use Rattle.peer_proto.specs.declared.guest.GuestRsp.{GuestRsp}
use Rattle.peer_proto.specs.declared.guest.GuestRsp.TheVariants as answers
use Rattle.sheep_node.specs.declared.check_write.CheckWrite.{CheckWrite}
use Rattle.sheep_world.specs.World.{Host, World}
use Rattle.sheep_world.specs.Effects.{open_disk_at}
use Rattle.sheep_world.specs.HistoryAdditions.{block_in, each_block, begins_on, blocks_read, write_ended, reply_adds, added_by}
use Rattle.sheep_world.specs.HistoryAdditions.{has_begun_check_write, disk_of, block_checked, check_write_adds, check_write_grown}
use Rattle.sheep_world.specs.HistoryAdditions.{is_on_disk, is_lost_write, writers_lost}
use Rattle.sheep_world.specs.NodeCauses.{NodeCause, GuestAsks, RequestComes, ReplyComes, LossIsTold, EntryIsRead, EntryIsPut, RecoveryTicks}
use Rattle.sheep_world.specs.NodeCauses.{WorkIsRetried, ClientAsks}
use Rattle.cluster_script.specs.NumberedRequests.{numbered_requests}
use Rattle.overlap_law.specs.Headline.{ledger_of}
use Rattle.overlap_law.specs.HistoryGrowth.{check_write_at, world_at_cause, added_at_cause, added_by_reply}

-- ---- which disks are there, and deleted

abbrev pub Shapes : Type 0
Shapes = ℕ → Option Bool

abbrev pub shape : Option Disk → Option Bool
shape found = option_map (λ (disk : Disk). disk.deleted) found

abbrev pub shapes_after : Shapes → HistEvent → Shapes
shapes_after f (Create disk blocks) = changed_at disk (Some false) f
shapes_after f (Copy old new) = changed_at new (option_map (λ (b : Bool). false) (f old)) f
shapes_after f (Delete disk) = changed_at disk (option_map (λ (b : Bool). true) (f disk)) f
shapes_after f (WriteStart req disk block coded bytes) = f
shapes_after f (WriteDone req) = f
shapes_after f (WriteRefused req) = f
shapes_after f (WriterLost req) = f
shapes_after f (Read disk block bytes) = f

abbrev pub shapes : List HistEvent → Shapes
shapes history = fold shapes_after (λ (v : ℕ). None) history

changed_shape : (place v : ℕ) (new : Option Disk) (shown : Option Bool) (disks : ℕ → Option Disk) (f : Shapes) → shape new ≡ shown
    → shape (disks v) ≡ f v → shape (changed_at place new disks v) ≡ changed_at place shown f v
changed_shape place v new shown disks f own other = by_test (v == place)
  where
    by_test : (b : Bool) → shape (cond b new (disks v)) ≡ cond b shown (f v)
    by_test true = own
    by_test false = other

told_shape : (deleted : Bool) (found : Option Disk)
    → shape (option_map (λ (disk : Disk). record disk { deleted = deleted }) found) ≡ option_map (λ (b : Bool). deleted) (shape found)
told_shape deleted None = refl
told_shape deleted (Some disk) = refl

item_shape : (block : ℕ) (item : Item) (found : Option Disk) → shape (option_map (with_item block item) found) ≡ shape found
item_shape block item None = refl
item_shape block item (Some disk) = refl

all_shape : (change : List Item → List Item) (found : Option Disk)
    → shape (option_map (λ (disk : Disk). record disk { items = λ block. change (disk.items block) }) found) ≡ shape found
all_shape change None = refl
all_shape change (Some disk) = refl

pub event_shapes : (event : HistEvent) (ledger : Ledger) (f : Shapes) → ((v : ℕ) → shape (ledger.disks v) ≡ f v)
    → (v : ℕ) → shape ((ledger_after ledger event).disks v) ≡ shapes_after f event v
event_shapes (Create disk blocks) ledger f are v =
    changed_shape disk v (Some (record { blocks = blocks; items = λ block. zeros_item ∷ []; deleted = false }))
    (Some false) ledger.disks f refl
    (are v)
event_shapes (Copy old new) ledger f are v =
    changed_shape new v (option_map (λ (disk : Disk). record disk { deleted = false }) (ledger.disks old))
    (option_map (λ (b : Bool). false) (f old)) ledger.disks f
    (told_shape false (ledger.disks old) ∙ ap (option_map (λ (b : Bool). false)) (are old)) (are v)
event_shapes (Delete disk) ledger f are v =
    changed_shape disk v (option_map (λ (disk : Disk). record disk { deleted = true }) (ledger.disks disk))
    (option_map (λ (b : Bool). true) (f disk)) ledger.disks f
    (told_shape true (ledger.disks disk) ∙ ap (option_map (λ (b : Bool). true)) (are disk)) (are v)
event_shapes (WriteStart req disk block coded bytes) ledger f are v = by_test (has_block (ledger.disks disk) block)
  where
    item : Item
    item = record { request = Some req; bytes = bytes; coded = coded; mark = Open }

    by_place : (b : Bool) → (v == disk) ≡ b → shape (cond b (option_map (with_item block item) (ledger.disks disk)) (ledger.disks v)) ≡ f v
    by_place true is =
        item_shape block item (ledger.disks disk) ∙ ap (λ (k : ℕ). shape (ledger.disks k)) (sym (eqb-true v disk is)) ∙ are v
    by_place false is = are v

    by_test : (b : Bool)
        → shape (cond b (changed_at disk (option_map (with_item block item) (ledger.disks disk)) ledger.disks) ledger.disks v) ≡ f v
    by_test true = by_place (v == disk) refl
    by_test false = are v
event_shapes (WriteDone req) ledger f are v = all_shape (map (item_with_mark Acknowledged req)) (ledger.disks v) ∙ are v
event_shapes (WriteRefused req) ledger f are v = all_shape (filter (λ item. not (is_item_of req item))) (ledger.disks v) ∙ are v
event_shapes (WriterLost req) ledger f are v = all_shape (map (item_with_mark Lost req)) (ledger.disks v) ∙ are v
event_shapes (Read disk block bytes) ledger f are v = are v

along : (events : List HistEvent) (ledger : Ledger) (f : Shapes) → ((v : ℕ) → shape (ledger.disks v) ≡ f v)
    → (v : ℕ) → shape ((fold ledger_after ledger events).disks v) ≡ fold shapes_after f events v
along [] ledger f are = are
along (event ∷ events) ledger f are = along events (ledger_after ledger event) (shapes_after f event) (event_shapes event ledger f are)

pub shapes_so : (history : List HistEvent) (v : ℕ) → shape ((ledger_of history).disks v) ≡ shapes history v
shapes_so history = along history empty_ledger (λ (v : ℕ). None) (λ v. refl)

-- ---- events that make no disk, and delete none

abbrev pub is_plain : HistEvent → Bool
is_plain (Create disk blocks) = false
is_plain (Copy old new) = false
is_plain (Delete disk) = false
is_plain (WriteStart req disk block coded bytes) = true
is_plain (WriteDone req) = true
is_plain (WriteRefused req) = true
is_plain (WriterLost req) = true
is_plain (Read disk block bytes) = true

abbrev pub ArePlain : List HistEvent → Type 0
ArePlain events = list_all is_plain events ≡ true

plain_shape : (f : Shapes) (event : HistEvent) → is_plain event ≡ true → shapes_after f event ≡ f
plain_shape f (Create disk blocks) is = absurd (cc (is))
plain_shape f (Copy old new) is = absurd (cc (is))
plain_shape f (Delete disk) is = absurd (cc (is))
plain_shape f (WriteStart req disk block coded bytes) is = refl
plain_shape f (WriteDone req) is = refl
plain_shape f (WriteRefused req) is = refl
plain_shape f (WriterLost req) is = refl
plain_shape f (Read disk block bytes) is = refl

plain_shapes : (events : List HistEvent) (f : Shapes) → ArePlain events → fold shapes_after f events ≡ f
plain_shapes [] f are = refl
plain_shapes (event ∷ events) f are =
    let parts = and_parts (is_plain event) (list_all is_plain events) are in
    plain_shapes events (shapes_after f event) parts.1 ∙ plain_shape f event parts.0

-- plain events among others change no shapes
pub among_shapes : (front added back : List HistEvent) → ArePlain added → shapes (front ++ added ++ back) ≡ shapes (front ++ back)
among_shapes front added back are =
    fold-append shapes_after (λ (v : ℕ). None) (front ++ added) back
    ∙ ap (λ (f : Shapes). fold shapes_after f back)
    (fold-append shapes_after (λ (v : ℕ). None) front added ∙ plain_shapes added (shapes front) are)
    ∙ sym (fold-append shapes_after (λ (v : ℕ). None) front back)

pub behind_shapes : (history added : List HistEvent) → ArePlain added → shapes (history ++ added) ≡ shapes history
behind_shapes history added are = fold-append shapes_after (λ (v : ℕ). None) history added ∙ plain_shapes added (shapes history) are

-- ---- what is plain

map_plain : {X : Type 0} (make : X → HistEvent) → ((x : X) → is_plain (make x) ≡ true) → (xs : List X) → ArePlain (map make xs)
map_plain make each [] = refl
map_plain make each (x ∷ xs) = and_from (is_plain (make x)) (list_all is_plain (map make xs)) (each x) (map_plain make each xs)

pub joined_plain : (front back : List HistEvent) → ArePlain front → ArePlain back → ArePlain (front ++ back)
joined_plain [] back are rest = rest
joined_plain (event ∷ front) back are rest =
    let parts = and_parts (is_plain event) (list_all is_plain front) are in
    and_from (is_plain event) (list_all is_plain (front ++ back)) parts.0 (joined_plain front back parts.1 rest)

pub flat_plain : {X : Type 0} (make : X → List HistEvent) → ((x : X) → ArePlain (make x)) → (xs : List X) → ArePlain (flat_map make xs)
flat_plain make each [] = refl
flat_plain make each (x ∷ xs) = joined_plain (make x) (flat_map make xs) (each x) (flat_plain make each xs)

block_plain : (event : ℕ → List ℕ → HistEvent) → ((block : ℕ) (bytes : List ℕ) → is_plain (event block bytes) ≡ true)
    → (offset : ℕ) (bytes : List ℕ)
    → ArePlain (each_block event offset bytes)
block_plain event each offset bytes =
    map_plain (λ (place : ℕ). event (offset / BLOCK_BYTES + place) (block_in bytes place))
    (λ place. each (offset / BLOCK_BYTES + place) (block_in bytes place)) (range_with_len 0 (length bytes / BLOCK_BYTES))

begins_plain : (req : ℕ) (disk : Option opened.Disk) (s : Statement) → ArePlain (begins_on req disk s)
begins_plain req None (lines.Write session offset count pattern) = refl
begins_plain req (Some disk) (lines.Write session offset count pattern) =
    block_plain (λ block piece. WriteStart req disk.inode.vid block (is_in_strips disk.inode.spec.policy Block) piece)
    (λ block bytes. refl) offset
    (payload_of pattern count)
begins_plain req disk s = refl

request_plain : (req : ℕ) (disk : Option opened.Disk) (s : Option Statement) → ArePlain (option_map_or (begins_on req disk) s [])
request_plain req disk None = refl
request_plain req disk (Some s) = begins_plain req disk s

check_plain : (script : List Statement) (write : Option CheckWrite) → ArePlain (option_map_or (check_write_grown script) write [])
check_plain script None = refl
check_plain script (Some write) = by_test (option_map_or is_check (request_at script write.req) false)
  where
    by_test : (b : Bool) → ArePlain (cond b (check_write_adds write) [])
    by_test true = flat_plain (block_checked write) (λ place. refl)
        (filter (is_on_disk write) (range_with_len 0 (length write.value / BLOCK_BYTES)))
    by_test false = refl

pub cause_plain : (script : List Statement) (world : World) (cause : NodeCause) → ArePlain (added_at_cause script world cause)
cause_plain script world (GuestAsks session req ask) = request_plain req (open_disk_at session world) (request_at script req)
cause_plain script world (RequestComes name to request) = refl
cause_plain script world (ReplyComes name from rsp) = check_plain script (check_write_at world (ReplyComes name from rsp))
cause_plain script world (LossIsTold name packet) = refl
cause_plain script world (EntryIsRead entry) = refl
cause_plain script world (EntryIsPut entry) = refl
cause_plain script world RecoveryTicks = refl
cause_plain script world WorkIsRetried = refl
cause_plain script world (ClientAsks req ask) = refl

read_plain : (disk offset : ℕ) (rsp : GuestRsp) → ArePlain (blocks_read disk offset rsp)
read_plain disk offset answers.Done = refl
read_plain disk offset (answers.Piece bytes) = block_plain (λ block piece. Read disk block piece) (λ block bytes. refl) offset bytes
read_plain disk offset (answers.Refused cause) = refl
read_plain disk offset (answers.Granted vid) = refl
read_plain disk offset (answers.Checked found) = refl

ended_plain : (req : ℕ) (rsp : GuestRsp) → ArePlain (write_ended req rsp ∷ [])
ended_plain req answers.Done = refl
ended_plain req (answers.Piece bytes) = refl
ended_plain req (answers.Refused cause) = refl
ended_plain req (answers.Granted vid) = refl
ended_plain req (answers.Checked found) = refl

adds_plain : (written : Bool) (req : ℕ) (rsp : GuestRsp) (disk : ℕ) (s : Statement) → ArePlain (reply_adds written req rsp disk s)
adds_plain written req rsp disk (lines.Read session offset length) = read_plain disk offset rsp
adds_plain written req rsp disk (lines.Write session offset length pattern) = ended_plain req rsp
adds_plain true req rsp disk (lines.Check session) = ended_plain req rsp
adds_plain false req rsp disk (lines.Check session) = refl
adds_plain written req rsp disk s = refl

added_plain : (written : Bool) (req : ℕ) (rsp : GuestRsp) (disk : Option ℕ) (s : Option Statement)
    → ArePlain (added_by written req rsp disk s)
added_plain written req rsp None s = refl
added_plain written req rsp (Some disk) None = refl
added_plain written req rsp (Some disk) (Some s) = adds_plain written req rsp disk s

pub reply_plain : (script : List Statement) (world : World) (cause : NodeCause) (reply : ℕ × GuestRsp)
    → ArePlain (added_by_reply script world cause reply)
reply_plain script world cause reply =
    added_plain (has_begun_check_write script reply.0 (world_at_cause world cause) (check_write_at world cause)) reply.0 reply.1
    (disk_of script reply.0 (world_at_cause world cause)) (request_at script reply.0)

pub lost_plain : (script : List Statement) (world : World) (n : ℕ) (host : Host) → ArePlain (writers_lost script world n (Some host))
lost_plain script world n host =
    map_plain (λ (request : ℕ × Statement). WriterLost request.0) (λ request. refl)
    (filter (is_lost_write script world n host) (numbered_requests script))

-- Which blocks are told in a step, by what its beginning and its replies add to the history: those of a read's reply, and those of the
-- value that a check comes to write.
use Rattle.std.proofs.Common.{◌≡◌, ⊎_elim, arith, ℕ, zero, suc, ◌+◌, ◌/◌, ◌<◌, Bool, true, false, cond, Contains, List, [], ◌∷◌}
use Rattle.std.proofs.Common.{filter, length, map, Option, Some, None, refl}
use Rattle.std.specs.Prelude.{flat_map}
use Rattle.std.specs.List.{range_with_len}
use Rattle.std.specs.Option.{option_map_or}
use Rattle.std.proofs.lemmas.List.Elements.{Contains-append_cases}
use Rattle.proof_tools.proofs.Lists.{Contains-cons, Contains-cons_cases, Contains-head, Contains-nil}
use Rattle.object_id.specs.declared.limits.TheConstants.{BLOCK_BYTES}
use Rattle.object_id.specs.declared.oid.Kind.TheVariants.{Block}
use Rattle.gf256.specs.Part.{is_in_strips}
use Rattle.cluster_script.specs.declared.statement.Statement.{Statement}
use Rattle.cluster_script.specs.declared.statement.Statement.TheVariants as lines
use Rattle.cluster_script.specs.NumberedRequests.{payload_of, request_at}
use Rattle.cluster_script.specs.Statements.{is_check}
use Rattle.disk_history.specs.declared.event.HistEvent.{HistEvent}
use Rattle.disk_history.specs.declared.event.HistEvent.TheVariants.{Read, WriteStart}
use Rattle.guest_driver.specs.declared.disk.Disk.{Disk}
use Rattle.peer_proto.specs.declared.guest.GuestRsp.{GuestRsp}
use Rattle.peer_proto.specs.declared.guest.GuestRsp.TheVariants as answers
use Rattle.sheep_node.specs.declared.check_write.CheckWrite.{CheckWrite}
use Rattle.sheep_world.specs.Effects.{open_disk_at}
use Rattle.sheep_world.specs.HistoryAdditions.{added_by, begins_on, block_checked, block_in, block_written, blocks_read, check_write_adds}
use Rattle.sheep_world.specs.HistoryAdditions.{check_write_grown, is_on_disk, reply_adds, write_ended}
use Rattle.sheep_world.specs.NodeCauses.{NodeCause, GuestAsks, RequestComes, ReplyComes, LossIsTold, EntryIsRead, EntryIsPut, RecoveryTicks}
use Rattle.sheep_world.specs.NodeCauses.{WorkIsRetried, ClientAsks}
use Rattle.sheep_world.specs.World.{World}
use Rattle.overlap_law.specs.HistoryGrowth.{added_at_cause, check_write_at}

-- ---- elements of what is made of a list

pub flat_found : {X Y : Type 0} (make : X → List Y) (xs : List X) (y : Y) → Contains (flat_map make xs) y
    → (x : X) × Contains xs x × Contains (make x) y
flat_found make [] y among = absurd (Contains-nil y among)
flat_found make (x ∷ xs) y among = ⊎_elim
    (λ (here : Contains (make x) y). (x, Contains-head x xs, here))
    (λ (later : Contains (flat_map make xs) y).
    let (other, there, made) = flat_found make xs y later in (other, Contains-cons x xs other there, made))
    (Contains-append_cases (make x) (flat_map make xs) y among)

map_found : {X Y : Type 0} (make : X → Y) (xs : List X) (y : Y) → Contains (map make xs) y → (x : X) × Contains xs x × (make x ≡ y)
map_found make [] y among = absurd (Contains-nil y among)
map_found make (x ∷ xs) y among = ⊎_elim
    (λ (here : make x ≡ y). (x, Contains-head x xs, here))
    (λ (later : Contains (map make xs) y).
    let (other, there, made) = map_found make xs y later in (other, Contains-cons x xs other there, made))
    (Contains-cons_cases (make x) (map make xs) y among)

in_range : (from count k : ℕ) → Contains (range_with_len from count) k → k < from + count
in_range from zero k among = absurd (Contains-nil k among)
in_range from (suc count) k among = ⊎_elim
    (λ (here : from ≡ k). omega (arith, here))
    (λ (later : Contains (range_with_len (from + 1) count) k).
    let less = in_range (from + 1) count k later in omega (arith, less))
    (Contains-cons_cases from (range_with_len (from + 1) count) k among)

-- ---- a reply

-- a reply tells a block of a disk: of a read of the script that began on the disk
pub record TellsBlock (rsp : GuestRsp) (began : Option ℕ) (line : Option Statement) (vid block : ℕ) : Type 0 where
  pub session : ℕ
  pub offset : ℕ
  pub size : ℕ
  pub told : List ℕ
  pub place : ℕ
  pub on : began ≡ Some vid
  pub reads : line ≡ Some (lines.Read session offset size)
  pub tells : rsp ≡ answers.Piece told
  pub inside : place < length told / 512
  pub at : block ≡ offset / 512 + place

module _ (vid block : ℕ) (bytes : List ℕ) where
  -- one that ends a write reads nothing
  ended_none : (req : ℕ) (rsp : GuestRsp) → write_ended req rsp ≡ Read vid block bytes → ⊥
  ended_none req answers.Done is = cc (is)
  ended_none req (answers.Piece told) is = cc (is)
  ended_none req (answers.Refused cause) is = cc (is)
  ended_none req (answers.Granted other) is = cc (is)
  ended_none req (answers.Checked found) is = cc (is)

  end_none : (req : ℕ) (rsp : GuestRsp) → Contains (write_ended req rsp ∷ []) (Read vid block bytes) → ⊥
  end_none req rsp among = ⊎_elim
      (λ (own : write_ended req rsp ≡ Read vid block bytes). ended_none req rsp own)
      (λ (none : Contains [] (Read vid block bytes)). Contains-nil (Read vid block bytes) none)
      (Contains-cons_cases (write_ended req rsp) [] (Read vid block bytes) among)

  blocks_told : (disk session offset size : ℕ) (rsp : GuestRsp) → Contains (blocks_read disk offset rsp) (Read vid block bytes)
      → TellsBlock rsp (Some disk) (Some (lines.Read session offset size)) vid block
  blocks_told disk session offset size answers.Done among = absurd (Contains-nil (Read vid block bytes) among)
  blocks_told disk session offset size (answers.Piece told) among =
      let (place, within, same) = map_found (λ (place : ℕ). Read disk (offset / BLOCK_BYTES + place) (block_in told place))
      (range_with_len 0 (length told / BLOCK_BYTES)) (Read vid block bytes) among in
      let less = in_range 0 (length told / BLOCK_BYTES) place within in
      let own : disk ≡ vid = cc (same) in
      let at : offset / BLOCK_BYTES + place ≡ block = cc (same) in
      record {
        session = session;
        offset = offset;
        size = size;
        told = told;
        place = place;
        on = λ i. Some (own i);
        reads = refl;
        tells = refl;
        inside = omega (arith, less);
        at = omega (arith, at);
      }
  blocks_told disk session offset size (answers.Refused cause) among = absurd (Contains-nil (Read vid block bytes) among)
  blocks_told disk session offset size (answers.Granted other) among = absurd (Contains-nil (Read vid block bytes) among)
  blocks_told disk session offset size (answers.Checked found) among = absurd (Contains-nil (Read vid block bytes) among)

  adds_told : (written : Bool) (req : ℕ) (rsp : GuestRsp) (disk : ℕ) (line : Statement)
      → Contains (reply_adds written req rsp disk line) (Read vid block bytes) → TellsBlock rsp (Some disk) (Some line) vid block
  adds_told written req rsp disk (lines.Read session offset size) among = blocks_told disk session offset size rsp among
  adds_told written req rsp disk (lines.Write session offset size pattern) among = absurd (end_none req rsp among)
  adds_told true req rsp disk (lines.Check session) among = absurd (end_none req rsp among)
  adds_told false req rsp disk (lines.Check session) among = absurd (Contains-nil (Read vid block bytes) among)
  adds_told written req rsp disk line among = absurd (Contains-nil (Read vid block bytes) among)

  pub reply_told : (written : Bool) (req : ℕ) (rsp : GuestRsp) (began : Option ℕ) (line : Option Statement)
      → Contains (added_by written req rsp began line) (Read vid block bytes) → TellsBlock rsp began line vid block
  reply_told written req rsp None line among = absurd (Contains-nil (Read vid block bytes) among)
  reply_told written req rsp (Some disk) None among = absurd (Contains-nil (Read vid block bytes) among)
  reply_told written req rsp (Some disk) (Some line) among = adds_told written req rsp disk line among

  -- ---- the beginning of a step

  -- a request that begins reads nothing yet
  asked_none : (req : ℕ) (disk : Option Disk) (line : Option Statement)
      → Contains (option_map_or (begins_on req disk) line []) (Read vid block bytes) → ⊥
  asked_none req disk None among = Contains-nil (Read vid block bytes) among
  asked_none req None (Some (lines.Write session offset size pattern)) among = Contains-nil (Read vid block bytes) among
  asked_none req (Some disk) (Some (lines.Write session offset size pattern)) among =
      let payload = payload_of pattern size in
      let (place, within, same) = map_found
      (λ (place : ℕ).
      WriteStart req disk.inode.vid (offset / BLOCK_BYTES + place) (is_in_strips disk.inode.spec.policy Block) (block_in payload place))
      (range_with_len 0 (length payload / BLOCK_BYTES)) (Read vid block bytes) among in
      cc (same)
  asked_none req disk (Some line) among = Contains-nil (Read vid block bytes) among

  -- a check reads what it comes to write
  block_told : (write : CheckWrite) (place : ℕ) → Contains (block_checked write place) (Read vid block bytes) → write.vid.0 ≡ vid
  block_told write place among =
      let own : HistEvent = Read write.vid.0 (block_written write place) (block_in write.value place) in
      let begins : HistEvent = WriteStart write.req write.vid.0 (block_written write place) (is_in_strips write.spec.policy Block)
      (block_in write.value place) in
      ⊎_elim
      (λ (here : own ≡ Read vid block bytes). let same : write.vid.0 ≡ vid = cc (here) in same)
      (λ (later : Contains (begins ∷ []) (Read vid block bytes)). ⊎_elim
      (λ (here : begins ≡ Read vid block bytes). absurd (cc (here)))
      (λ (none : Contains [] (Read vid block bytes)). absurd (Contains-nil (Read vid block bytes) none))
      (Contains-cons_cases begins [] (Read vid block bytes) later))
      (Contains-cons_cases own (begins ∷ []) (Read vid block bytes) among)

  write_told : (script : List Statement) (write : CheckWrite) → Contains (check_write_grown script write) (Read vid block bytes)
      → (option_map_or is_check (request_at script write.req) false ≡ true) × (write.vid.0 ≡ vid)
  write_told script write among = by_check (option_map_or is_check (request_at script write.req) false) refl among
    where
      by_check : (b : Bool) → option_map_or is_check (request_at script write.req) false ≡ b
          → Contains (cond b (check_write_adds write) []) (Read vid block bytes)
          → (option_map_or is_check (request_at script write.req) false ≡ true) × (write.vid.0 ≡ vid)
      by_check true is among =
          let (place, within, told) = flat_found (block_checked write)
          (filter (is_on_disk write) (range_with_len 0 (length write.value / BLOCK_BYTES))) (Read vid block bytes) among in
          (is, block_told write place told)
      by_check false is among = absurd (Contains-nil (Read vid block bytes) among)

  pub cause_told : (script : List Statement) (world : World) (cause : NodeCause)
      → Contains (added_at_cause script world cause) (Read vid block bytes)
      → (write : CheckWrite) × (check_write_at world cause ≡ Some write)
      × (option_map_or is_check (request_at script write.req) false ≡ true) × (write.vid.0 ≡ vid)
  cause_told script world (GuestAsks session req ask) among =
      absurd (asked_none req (open_disk_at session world) (request_at script req) among)
  cause_told script world (RequestComes name to request) among = absurd (Contains-nil (Read vid block bytes) among)
  cause_told script world (ReplyComes name from rsp) among = by_write (check_write_at world (ReplyComes name from rsp)) refl among
    where
      by_write : (o : Option CheckWrite) → check_write_at world (ReplyComes name from rsp) ≡ o
          → Contains (option_map_or (check_write_grown script) o []) (Read vid block bytes)
          → (write : CheckWrite) × (check_write_at world (ReplyComes name from rsp) ≡ Some write)
          × (option_map_or is_check (request_at script write.req) false ≡ true) × (write.vid.0 ≡ vid)
      by_write None so among = absurd (Contains-nil (Read vid block bytes) among)
      by_write (Some write) so among = let (checks, on) = write_told script write among in (write, so, checks, on)
  cause_told script world (LossIsTold name packet) among = absurd (Contains-nil (Read vid block bytes) among)
  cause_told script world (EntryIsRead entry) among = absurd (Contains-nil (Read vid block bytes) among)
  cause_told script world (EntryIsPut entry) among = absurd (Contains-nil (Read vid block bytes) among)
  cause_told script world RecoveryTicks among = absurd (Contains-nil (Read vid block bytes) among)
  cause_told script world WorkIsRetried among = absurd (Contains-nil (Read vid block bytes) among)
  cause_told script world (ClientAsks req ask) among = absurd (Contains-nil (Read vid block bytes) among)

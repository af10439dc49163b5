-- A node refuses for want of an object only a request of its own epoch to write or read a row, of an object that it isn't to recover, and
-- only if it has no open row of the key: for what is asked ends inside the rows of the object.
use Rattle.std.proofs.Common.{◌≡◌, ℕ, ◌+◌, nat_lt, nat_le, Bool, true, false, cond, List, length, Option, Some, None, Result, Ok, Err, refl}
use Rattle.std.proofs.Common.{sym, ap, subst, ◌∙◌}
use Rattle.std.specs.FinMap as tree
use Rattle.std.proofs.lemmas.Bool.{le-leb}
use Rattle.std.proofs.lemmas.Option.{same_Some}
use Rattle.object_store.specs.declared.fault.StoreFault.{StoreFault}
use Rattle.object_store.specs.declared.fault.StoreFault.TheVariants as faults
use Rattle.object_store.specs.declared.key.Key.{Key}
use Rattle.object_store.specs.Bytes.{piece_at}
use Rattle.object_store.specs.Store.{SeenRow, open_row, on_open, write_in, rows_of, read_at, write_at, copy_at}
use Rattle.object_store.specs.declared.row.RowCopy.{RowCopy}
use Rattle.peer_proto.specs.declared.ask.PeerAsk.{PeerAsk}
use Rattle.peer_proto.specs.declared.ask.PeerAsk.TheVariants as asks
use Rattle.peer_proto.specs.declared.ask.PeerReq.{PeerReq}
use Rattle.peer_proto.specs.declared.say.Refusal.{Refusal}
use Rattle.peer_proto.specs.declared.say.Refusal.TheVariants as refusals
use Rattle.peer_proto.specs.declared.say.PeerSay.{PeerSay}
use Rattle.peer_proto.specs.declared.say.PeerSay.TheVariants as says
use Rattle.peer_proto.specs.declared.work.ObjWork.{ObjWork}
use Rattle.peer_proto.specs.declared.work.ObjWork.TheVariants as works
use Rattle.peer_proto.specs.Work.{oid_of}
use Rattle.gateway.specs.Work.{ask_for}
use Rattle.peer_service.specs.State.{Peer, is_waiting}
use Rattle.peer_service.specs.Fence.{epoch_refusal}
use Rattle.peer_service.specs.Serve.{EndsInside, MayServe, step_behind_fence, own_epoch_step, step_if_recovered, peer_write_step}
use Rattle.peer_service.specs.Serve.{peer_say_step, piece_or_refusal, row_or_none, peer_step}
use Rattle.overlap_law.specs.AskedTargets.{IsTargetOf, AsksTarget}
use Rattle.object_id.specs.declared.entry.Entry.{Entry}
use Rattle.object_id.specs.declared.node.NodeId.{NodeId}
use Rattle.overlap_law.specs.Holders.{is_create_work}
use Rattle.overlap_law.proofs.AskedKeys.{own_epoch}

-- the row that a request writes or reads
abbrev pub row_asked : PeerAsk → Option Key
row_asked (asks.Create key size offset bytes) = None
row_asked (asks.Write key offset bytes) = Some key
row_asked (asks.Read key offset size) = Some key
row_asked asks.List = None
row_asked (asks.RecoverRead oid level) = None

abbrev oid_in : Option Key → ℕ
oid_in None = 0
oid_in (Some key) = key.oid

-- that of a work is of its object, and the work creates none
pub record IsRowOfWork (key : Key) (work : ObjWork) : Type 0 where
  pub oid : key.oid ≡ oid_of work
  pub writes : is_create_work work ≡ false

pub row_of_work : (work : ObjWork) (index : ℕ) (key : Key) → row_asked (ask_for work index) ≡ Some key → IsRowOfWork key work
row_of_work (works.Create oid policy size offset bytes) index key is = absurd (cc (is))
row_of_work (works.Write oid policy offset bytes) index key is = record { oid = sym (ap oid_in is); writes = refl }
row_of_work (works.Read oid policy offset size) index key is = record { oid = sym (ap oid_in is); writes = refl }
row_of_work (works.ReadAll oid policy size) index key is = record { oid = sym (ap oid_in is); writes = refl }

-- it is asked of a target
pub row_target : (log : List Entry) (to : NodeId) (epoch : ℕ) (ask : PeerAsk) (key : Key) → row_asked ask ≡ Some key
    → AsksTarget log to epoch ask
    → IsTargetOf log to epoch key
row_target log to epoch (asks.Create other size offset bytes) key is asks = absurd (cc (is))
row_target log to epoch (asks.Write other offset bytes) key is asks = subst (IsTargetOf log to epoch) (same_Some other key is) asks
row_target log to epoch (asks.Read other offset size) key is asks = subst (IsTargetOf log to epoch) (same_Some other key is) asks
row_target log to epoch asks.List key is asks = absurd (cc (is))
row_target log to epoch (asks.RecoverRead oid level) key is asks = absurd (cc (is))

-- a node refuses it for want of an object
pub record LacksRow (peer : Peer) (request : PeerReq) : Type 0 where
  pub key : Key
  pub asks : row_asked request.ask ≡ Some key
  pub epoch : peer.epoch ≡ request.epoch.0
  pub done : is_waiting peer key.oid ≡ false
  pub none : open_row peer.rows key ≡ None

module _ (peer : Peer) where
  abbrev LacksFor : PeerAsk → Type 0
  LacksFor ask = (key : Key) × (row_asked ask ≡ Some key) × (is_waiting peer key.oid ≡ false) × (open_row peer.rows key ≡ None)

  abbrev Lacks : PeerSay → Type 0
  Lacks say = say ≡ says.Refused refusals.NoObj

  -- where a row is open, what ends inside it is served
  no_row : {A : Type 0} (end : ℕ) (row : Option SeenRow) (make : SeenRow → A) (say : Result A StoreFault → PeerSay)
      → ((value : A) → Lacks (say (Ok value)) → ⊥) → EndsInside end row → Lacks (say (on_open end row make)) → row ≡ None
  no_row end None make say serves inside lacks = refl
  no_row end (Some row) make say serves inside lacks =
      let within : nat_le end (length row.bytes) ≡ true = le-leb end (length row.bytes) inside in
      absurd (serves (make row)
      (ap say (sym (ap (λ (b : Bool). cond b (Ok (make row)) (Err faults.OutOfObject)) within)) ∙ lacks))

  own_lacks : (ask : PeerAsk) → MayServe peer ask → Lacks (own_epoch_step ask peer).say → LacksFor ask
  unfolding own_epoch_step
  own_lacks (asks.Create key size offset bytes) may lacks = absurd (cc (lacks))
  own_lacks (asks.Write key offset bytes) may lacks =
      let (done, refused) = by_waiting (is_waiting peer key.oid) lacks in (
        key,
        refl,
        done,
        no_row (offset + length bytes) (open_row peer.rows key)
            (λ row. tree.insert peer.rows key.oid (write_in key.index offset bytes (rows_of peer.rows key.oid)))
            (λ result. (peer_write_step result peer).say) (λ rows is. absurd (cc (is))) may refused,
      )
    where
      by_waiting : (b : Bool) → Lacks (step_if_recovered b peer (peer_write_step (write_at peer.rows key offset bytes) peer)).say
          → (b ≡ false) × Lacks (peer_write_step (write_at peer.rows key offset bytes) peer).say
      by_waiting true lacks = absurd (cc (lacks))
      by_waiting false lacks = (refl, lacks)
  own_lacks (asks.Read key offset size) may lacks =
      let (done, refused) = by_waiting (is_waiting peer key.oid) lacks in (
        key,
        refl,
        done,
        no_row (offset + size) (open_row peer.rows key) (λ row. piece_at row.bytes offset size) piece_or_refusal
            (λ piece is. absurd (cc (is)))
            may refused,
      )
    where
      by_waiting : (b : Bool)
          → Lacks (step_if_recovered b peer (peer_say_step (piece_or_refusal (read_at peer.rows key offset size)) peer)).say
          → (b ≡ false) × Lacks (piece_or_refusal (read_at peer.rows key offset size))
      by_waiting true lacks = absurd (cc (lacks))
      by_waiting false lacks = (refl, lacks)
  own_lacks asks.List may lacks = absurd (cc (lacks))
  own_lacks (asks.RecoverRead oid level) may lacks = by_row (copy_at peer.rows oid level.0) lacks
    where
      by_row : (row : Option RowCopy) → Lacks (row_or_none row) → LacksFor (asks.RecoverRead oid level)
      by_row None lacks = absurd (cc (lacks))
      by_row (Some row) lacks = absurd (cc (lacks))

  -- the fence refuses by the epoch
  fence_none : (own asked : ℕ) → epoch_refusal own asked ≡ Some refusals.NoObj → ⊥
  fence_none own asked is = by_tests (nat_lt asked own) (nat_lt own asked) is
    where
      by_tests : (old new : Bool) → cond old (Some (refusals.OldEpoch (record { 0 = own })))
          (cond new (Some (refusals.NewEpoch (record { 0 = own }))) None) ≡ Some refusals.NoObj → ⊥
      by_tests true new is = cc (is)
      by_tests false true is = cc (is)
      by_tests false false is = cc (is)

  pub lacks_row : (request : PeerReq) → MayServe peer request.ask → Lacks (peer_step peer request).say → LacksRow peer request
  unfolding peer_step
  lacks_row request may lacks = by_fence (epoch_refusal peer.epoch request.epoch.0) refl lacks
    where
      refusal_so : (refusal : Refusal) → says.Refused refusal ≡ says.Refused refusals.NoObj → refusal ≡ refusals.NoObj
      refusal_so refusal same = cc (same)

      by_fence : (o : Option Refusal) → epoch_refusal peer.epoch request.epoch.0 ≡ o → Lacks (step_behind_fence o request.ask peer).say
          → LacksRow peer request
      by_fence None fence lacks =
          let (key, asks, done, none) = own_lacks request.ask may lacks in
          record { key = key; asks = asks; epoch = own_epoch peer.epoch request.epoch.0 fence; done = done; none = none }
      by_fence (Some refusal) fence lacks =
          absurd (fence_none peer.epoch request.epoch.0 (fence ∙ ap (λ (r : Refusal). Some r) (refusal_so refusal lacks)))

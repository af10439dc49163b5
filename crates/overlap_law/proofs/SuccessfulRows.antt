-- A create or write that a peer answers with success leaves a row of the object that covers the peer's epoch.
use Rattle.std.proofs.Common.{◌≡◌, arith, ℕ, ◌+◌, nat_le, nat_eq, Bool, true, false, cond, List, [], ◌∷◌, length, Option, Some, None, refl}
use Rattle.std.proofs.Common.{sym, ap, subst, ◌∙◌}
use Rattle.std.specs.FinMap as tree
use Rattle.std.specs.List.{list_any}
use Rattle.std.proofs.lemmas.Bool.{and_parts, or_left, or_right}
use Rattle.object_id.specs.Oid.{kind_of}
use Rattle.gf256.specs.Part.{part_size, part}
use Rattle.object_store.specs.declared.key.Key.{Key}
use Rattle.object_store.specs.Rows.{is_open, is_open_at, open_at}
use Rattle.object_store.specs.Store.{SeenRow, rows_of, open_row, write_in, write_at, create_in}
use Rattle.object_store.proofs.StoreLaws.{rows_of-insert_same}
use Rattle.peer_proto.specs.declared.ask.PeerAsk.{PeerAsk}
use Rattle.peer_proto.specs.declared.ask.PeerReq.{PeerReq}
use Rattle.peer_proto.specs.declared.say.PeerSay.TheVariants as says
use Rattle.peer_proto.specs.declared.say.Refusal.{Refusal}
use Rattle.peer_proto.specs.declared.work.ObjWork.{ObjWork}
use Rattle.peer_proto.specs.declared.work.ObjWork.TheVariants as works
use Rattle.peer_proto.specs.Work.{oid_of}
use Rattle.peer_service.specs.State.{Peer, is_waiting}
use Rattle.peer_service.specs.Fence.{epoch_refusal}
use Rattle.peer_service.specs.Serve as serve
use Rattle.peer_service.specs.Serve.{peer_write_step, step_if_recovered, step_behind_fence, peer_step}
use Rattle.gateway.specs.Work.{is_making, ask_for}
use Rattle.overlap_law.specs.Each.{end_of_row, row_covers}
use Rattle.overlap_law.proofs.CoveredLevels.{Covers, covers_by, written-covers, created-own}
use Rattle.overlap_law.proofs.RowsInTurn.{AreInTurn, end_open, open_from}
use Rattle.overlap_law.proofs.StoredRows.{write_step_on, write_step_if}

-- an open row covers the epoch
open_covers : (epoch index : ℕ) (rows : List SeenRow) (row : SeenRow) → AreInTurn epoch rows → open_at index rows ≡ Some row
    → Covers epoch epoch rows
open_covers epoch index [] row are on = absurd (cc (on))
open_covers epoch index (first ∷ rows) row are on =
    by_test (is_open_at index first) refl on (λ later. open_covers epoch index rows row are.2 later)
  where
    by_test : (b : Bool) → is_open_at index first ≡ b → cond b (Some first) (open_at index rows) ≡ Some row
        → (open_at index rows ≡ Some row → Covers epoch epoch rows) → Covers epoch epoch (first ∷ rows)
    by_test true is on later =
        let still : is_open first ≡ true = (and_parts (is_open first) (nat_eq first.index index) is).0 in
        let ends : end_of_row epoch first.to ≡ epoch = end_open first.to still epoch in
        or_left (row_covers epoch epoch first) (list_any (row_covers epoch epoch) rows)
        (covers_by epoch epoch first (open_from epoch first still are.0.0) (omega (arith, ends)))
    by_test false is on later = or_right (row_covers epoch epoch first) (list_any (row_covers epoch epoch) rows) (later on)

module _ (peer : Peer) (turns : (oid : ℕ) → AreInTurn peer.epoch (rows_of peer.rows oid)) where
  -- what is put has such a row
  put_covers : (oid : ℕ) (new : List SeenRow) → Covers peer.epoch peer.epoch new
      → Covers peer.epoch peer.epoch (rows_of (tree.insert peer.rows oid new) oid)
  put_covers oid new covers = subst (Covers peer.epoch peer.epoch) (sym (rows_of-insert_same peer.rows oid new)) covers

  written_covers : (key : Key) (offset : ℕ) (bytes : List ℕ) (waiting : Bool)
      → (step_if_recovered waiting peer (peer_write_step (write_at peer.rows key offset bytes) peer)).say ≡ says.Success
      → Covers peer.epoch peer.epoch
      (rows_of (step_if_recovered waiting peer (peer_write_step (write_at peer.rows key offset bytes) peer)).peer.rows key.oid)
  written_covers key offset bytes true said = absurd (cc (said))
  written_covers key offset bytes false said = by_row (open_row peer.rows key) refl said
    where
      by_row : (o : Option SeenRow) → open_row peer.rows key ≡ o
          → (write_step_on o key offset bytes peer).say ≡ says.Success
          → Covers peer.epoch peer.epoch
          (rows_of (write_step_on o key offset bytes peer).peer.rows key.oid)
      by_row None on said = absurd (cc (said))
      by_row (Some row) on said = by_end (nat_le (offset + length bytes) (length row.bytes)) said
        where
          by_end : (b : Bool) → (write_step_if b key offset bytes peer).say ≡ says.Success
              → Covers peer.epoch peer.epoch (rows_of (write_step_if b key offset bytes peer).peer.rows key.oid)
          by_end true said =
              put_covers key.oid (write_in key.index offset bytes (rows_of peer.rows key.oid))
              (written-covers peer.epoch peer.epoch key.index offset bytes (rows_of peer.rows key.oid)
              (open_covers peer.epoch key.index (rows_of peer.rows key.oid) row (turns key.oid) on))
          by_end false said = absurd (cc (said))

  -- what a request of an attempt to create or write asks, in the peer's epoch
  made_covers : (work : ObjWork) (index : ℕ) → is_making work ≡ true → (serve.own_epoch_step (ask_for work index) peer).say ≡ says.Success
      → Covers peer.epoch peer.epoch (rows_of (serve.own_epoch_step (ask_for work index) peer).peer.rows (oid_of work))
  unfolding serve.own_epoch_step
  made_covers (works.Create oid policy size offset bytes) index making said =
      let long : ℕ = part_size policy (kind_of oid) size in
      let from : ℕ = part_size policy (kind_of oid) offset in
      let piece : List ℕ = part policy (kind_of oid) index bytes in
      put_covers oid (create_in index peer.epoch long from piece (rows_of peer.rows oid))
      (created-own peer.epoch index long from piece (rows_of peer.rows oid))
  made_covers (works.Write oid policy offset bytes) index making said =
      written_covers (record { oid = oid; index = index }) (part_size policy (kind_of oid) offset) (part policy (kind_of oid) index bytes)
      (is_waiting peer oid) said
  made_covers (works.Read oid policy offset size) index making said = absurd (cc (making))
  made_covers (works.ReadAll oid policy size) index making said = absurd (cc (making))

  pub success-covers : (request : PeerReq) (work : ObjWork) (index : ℕ) → is_making work ≡ true → request.ask ≡ ask_for work index
      → (peer_step peer request).say ≡ says.Success
      → Covers peer.epoch peer.epoch (rows_of (peer_step peer request).peer.rows (oid_of work))
  unfolding peer_step
  success-covers request work index making asked said = by_fence (epoch_refusal peer.epoch request.epoch.0) said
    where
      own : (ask : PeerAsk) → ask ≡ ask_for work index → (serve.own_epoch_step ask peer).say ≡ says.Success
          → Covers peer.epoch peer.epoch (rows_of (serve.own_epoch_step ask peer).peer.rows (oid_of work))
      own ask is said =
          subst (λ (a : PeerAsk). Covers peer.epoch peer.epoch (rows_of (serve.own_epoch_step a peer).peer.rows (oid_of work))) (sym is)
          (made_covers work index making (ap (λ (a : PeerAsk). (serve.own_epoch_step a peer).say) (sym is) ∙ said))

      by_fence : (refusal : Option Refusal) → (step_behind_fence refusal request.ask peer).say ≡ says.Success
          → Covers peer.epoch peer.epoch (rows_of (step_behind_fence refusal request.ask peer).peer.rows (oid_of work))
      by_fence None said = own request.ask asked said
      by_fence (Some refusal) said = absurd (cc (said))

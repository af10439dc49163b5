-- What the worked peer leaves of its row.
use Rattle.std.proofs.Common.{◌≡◌, ℕ, ◌+◌, ◌≤◌, false, cond, List, [], ◌∷◌, length, map, Option, Some, None, refl, ap, ◌∙◌, arith}
use Rattle.std.specs.Option.{option_map_or}
use Rattle.std.specs.FinMap as tree
use Rattle.object_id.specs.declared.policy.Policy.{Policy}
use Rattle.epoch_log.specs.Epochs.{settled_of}
use Rattle.vdi_directory.specs.Decisions.{log_effects}
use Rattle.vdi_directory.specs.Effects.{header_of}
use Rattle.vdi_directory.specs.States.{state_of}
use Rattle.vdi_directory.specs.Chains.{chain_of, is_above}
use Rattle.vdi_directory.specs.Dead.{is_dead}
use Rattle.object_store.specs.Rows.{open_at, closed, closed_all, purged}
use Rattle.object_store.specs.Store.{SeenRow, open_row, rows_of, write_in}
use Rattle.object_store.proofs.StoreLaws.{rows_of-insert_same}
use Rattle.peer_proto.specs.declared.say.PeerSay.TheVariants as says
use Rattle.peer_service.specs.State.{object_policy, is_dead_object}
use Rattle.peer_service.specs.Serve.{PeerStep, peer_step}
use Rattle.peer_service.specs.Epochs.{has_at, row_entering, peer_in_next_epoch, peer_settled_to}
use Rattle.peer_service.specs.LogReading.{without_objects}
use Rattle.peer_service.specs.Back.{closed_at_end, come_back}
use Rattle.peer_service.specs.Example.{node, key, row, peer, write_of, targets, ended_row, whole_log}
use Rattle.peer_service.proofs.ServeLemmas.{rows_written, peer_step-own, write_made}
use Rattle.peer_service.proofs.EpochLemmas.{entered_rows, back_rows}

has_row : rows_of peer.rows key.oid ≡ row ∷ []
has_row = rows_of-insert_same tree.empty key.oid (row ∷ [])

opened : open_row peer.rows key ≡ Some row
opened = ap (open_at 0) has_row

piece : List ℕ
piece = 7 ∷ 8 ∷ []

ends : 1 + length piece ≤ length row.bytes
unfolding piece
ends = omega arith

pub write_served : peer_step peer (write_of 2) ≡ record { peer = record peer { rows = rows_written peer key 1 (7 ∷ 8 ∷ []) }; say = says.Success }
unfolding piece
write_served = peer_step-own peer (write_of 2) refl ∙ write_made peer key 1 piece row refl opened ends

pub row_written : rows_of (peer_step peer (write_of 2)).peer.rows key.oid
    ≡ record { index = 0; from = record { 0 = 1 }; to = None; bytes = 5 ∷ 7 ∷ 8 ∷ [] } ∷ []
row_written =
    ap (λ (s : PeerStep). rows_of s.peer.rows key.oid) write_served
    ∙ rows_of-insert_same peer.rows key.oid (write_in 0 1 (7 ∷ 8 ∷ []) (rows_of peer.rows key.oid))
    ∙ ap (write_in 0 1 (7 ∷ 8 ∷ [])) has_row

unknown : object_policy peer key.oid ≡ None
unfolding log_effects header_of
unknown = refl

pub row_closed : rows_of (peer_in_next_epoch (node 1) targets peer).rows key.oid ≡ ended_row 2 ∷ []
row_closed =
    entered_rows (node 1) targets peer key.oid
    ∙ ap (map (row_entering (node 1) targets peer key.oid)) has_row
    ∙ ap (λ (p : Option Policy). cond (option_map_or (has_at (node 1) targets 3 key.oid 0) p false) row (closed 2 row) ∷ []) unknown

alive : is_dead_object (come_back whole_log peer) key.oid ≡ false
unfolding come_back without_objects peer_settled_to closed_at_end log_effects is_dead state_of is_above chain_of
alive = refl

pub row_back : rows_of (come_back whole_log peer).rows key.oid ≡ ended_row 2 ∷ []
row_back =
    back_rows whole_log peer key.oid
    ∙ ap (λ b. cond b [] (purged (settled_of whole_log) (closed_all 2 (rows_of peer.rows key.oid)))) alive
    ∙ ap (λ (rows : List SeenRow). purged (settled_of whole_log) (closed_all 2 rows)) has_row

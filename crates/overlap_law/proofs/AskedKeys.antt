-- What a request that a node serves asks of it: it is of the node's epoch, and of the object and index of an attempt's message.
use Rattle.std.proofs.Common.{◌≡◌, ⊎_elim, arith, ℕ, ◌<◌, ◌≤◌, true, List, None, refl, ap, ◌∙◌}
use Rattle.std.proofs.lemmas.Bool.{cases_lt}
use Rattle.object_store.specs.declared.key.Key.{Key}
use Rattle.peer_proto.specs.declared.ask.PeerAsk.{PeerAsk}
use Rattle.peer_proto.specs.declared.ask.PeerAsk.TheVariants as asks
use Rattle.peer_proto.specs.declared.work.ObjWork.{ObjWork}
use Rattle.peer_proto.specs.declared.work.ObjWork.TheVariants as works
use Rattle.peer_proto.specs.Work.{oid_of}
use Rattle.peer_service.specs.Fence.{epoch_refusal}
use Rattle.gateway.specs.Work.{is_making, ask_for}
use Rattle.overlap_law.specs.Holders.{is_create_work}
use Rattle.overlap_law.proofs.EpochLemmas.{older, newer}

-- what isn't refused by its epoch is of the node's own
pub own_epoch : (own requested : ℕ) → epoch_refusal own requested ≡ None → own ≡ requested
own_epoch own requested none = ⊎_elim
    (λ (below : requested < own). let is = older own requested below in absurd (cc (none, is)))
    (λ (most : own ≤ requested). ⊎_elim
    (λ (above : own < requested). let is = newer own requested above in absurd (cc (none, is)))
    (λ (least : requested ≤ own). omega (arith, most, least))
    (cases_lt own requested))
    (cases_lt requested own)

-- the key of what is to be created or written
abbrev key_in : Key → PeerAsk → Key
key_in other (asks.Create key size offset bytes) = key
key_in other (asks.Write key offset bytes) = key
key_in other _ = other

key_for : (other : Key) (work : ObjWork) (index : ℕ) → is_making work ≡ true
    → key_in other (ask_for work index) ≡ record { oid = oid_of work; index = index }
key_for other (works.Create oid policy size offset bytes) index making = refl
key_for other (works.Write oid policy offset bytes) index making = refl
key_for other (works.Read oid policy offset size) index making = absurd (cc (making))
key_for other (works.ReadAll oid policy size) index making = absurd (cc (making))

-- a create is asked for the object and index of a work's message
pub key_asked : (key : Key) (size offset : ℕ) (bytes : List ℕ) (work : ObjWork) (index : ℕ) → is_making work ≡ true
    → asks.Create key size offset bytes ≡ ask_for work index → key ≡ record { oid = oid_of work; index = index }
key_asked key size offset bytes work index making is = ap (key_in key) is ∙ key_for key work index making

-- and by a work that creates
pub create_asked : (key : Key) (size offset : ℕ) (bytes : List ℕ) (work : ObjWork) (index : ℕ)
    → asks.Create key size offset bytes ≡ ask_for work index → is_create_work work ≡ true
create_asked key size offset bytes (works.Create oid policy long from piece) index is = refl
create_asked key size offset bytes (works.Write oid policy from piece) index is = absurd (cc (is))
create_asked key size offset bytes (works.Read oid policy from long) index is = absurd (cc (is))
create_asked key size offset bytes (works.ReadAll oid policy long) index is = absurd (cc (is))

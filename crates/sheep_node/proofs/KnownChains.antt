-- The headers that a node knows, with the chains above them, are sound: each id in them is one.
use Rattle.std.proofs.Common.{◌≡◌, ℕ, ◌==◌, Bool, true, false, cond, List, [], ◌∷◌, ◌++◌, All, Option, Some, None, IfSome, refl, ap, sym, subst, ◌∙◌, append_assoc, append-nil, length, arith}
use Rattle.std.proofs.lemmas.List.{length-append, get_or_append_left}
use Rattle.std.proofs.lemmas.List.Elements.{All-nil, All-cons}
use Rattle.object_id.specs.declared.entry.Entry.{Entry}
use Rattle.object_id.specs.declared.entry.VdiSpec.{VdiSpec}
use Rattle.object_id.specs.declared.oid.Vid.{Vid}
use Rattle.object_id.specs.Oid.{IsVid}
use Rattle.epoch_log.specs.Appending.{IsReservable}
use Rattle.vdi_directory.specs.declared.header.Header.{Header}
use Rattle.vdi_directory.specs.declared.effect.Effect.{Effect}
use Rattle.vdi_directory.specs.declared.effect.Grant.{Grant}
use Rattle.vdi_directory.specs.declared.effect.Effect.TheVariants as effects
use Rattle.vdi_directory.specs.Chains.{chain_from, chain_after, chain_of}
use Rattle.vdi_directory.specs.Decisions.{outcome, log_effects}
use Rattle.vdi_directory.specs.Effects.{header_after, header_of}
use Rattle.vdi_directory.specs.Known.{IsBase}
use Rattle.vdi_directory.proofs.ChainLemmas.{chain_of-push}
use Rattle.vdi_directory.proofs.StateLemmas.{log_effects-none, log_effects-push, header_of-push}
use Rattle.vdi_directory.proofs.ValidLemmas.{header-valid}
use Rattle.sheep_node.proofs.SoundCommands.{IsSoundHeader, HeadersAreSound}

abbrev ChainsAre : List Entry → Type 0
ChainsAre entries = (vid : ℕ) → All IsVid (chain_of (log_effects entries) vid)

-- a parent, with what is above it
from_parent : (entries before : List Entry) (spec : VdiSpec) (parent : Option Vid) → ChainsAre before → IsBase (log_effects entries) spec parent
    → All IsVid (chain_from (chain_of (log_effects before)) parent)
from_parent entries before spec None chains base = All-nil IsVid
from_parent entries before spec (Some parent) chains base =
    All-cons IsVid parent.0 (chain_of (log_effects before) parent.0) base.0 (chains parent.0)

base_is : (known : List Effect) (spec : VdiSpec) (parent : Option Vid) → IsBase known spec parent → IfSome parent (λ (parent : Vid). IsVid parent.0)
base_is known spec None base = tt
base_is known spec (Some parent) base = base.0

chains_next : (entries : List Entry) (entry : Entry) → All IsReservable (entries ++ entry ∷ []) → ChainsAre entries → ChainsAre (entries ++ entry ∷ [])
chains_next entries entry reservable chains vid =
    subst (All IsVid) (sym (ap (λ (known : List Effect). chain_of known vid) (log_effects-push entries entry) ∙ chain_of-push before effect vid))
    (by_effect effect refl)
  where
    before : List Effect
    before = log_effects entries

    effect : Effect
    effect = (outcome before entry).effect

    by_id : (grant : Grant) → effect ≡ effects.Reserved grant → (b : Bool) → (grant.reservation.vid.0 == vid) ≡ b
        → All IsVid (cond b (chain_from (chain_of before) grant.header.parent) (chain_of before vid))
    by_id grant what true same =
        let now : header_of (log_effects (entries ++ entry ∷ [])) vid ≡ Some grant.header
        = ap (λ (known : List Effect). header_of known vid) (log_effects-push entries entry) ∙ header_of-push before effect vid
        ∙ ap (header_after vid (header_of before vid)) what
        ∙ ap (λ (b : Bool). cond b (Some grant.header) (header_of before vid)) same in
        from_parent (entries ++ entry ∷ []) entries grant.header.spec grant.header.parent chains
        (header-valid (entries ++ entry ∷ []) reservable vid grant.header now).base
    by_id grant what false other = chains vid

    by_effect : (e : Effect) → effect ≡ e → All IsVid (chain_after (chain_of before) e vid)
    by_effect effects.Nothing what = chains vid
    by_effect (effects.Reserved grant) what = by_id grant what (grant.reservation.vid.0 == vid) refl
    by_effect (effects.Published id name) what = chains vid
    by_effect (effects.Snapped snap) what = chains vid
    by_effect (effects.Deleted id name) what = chains vid
    by_effect (effects.Held id holder) what = chains vid
    by_effect (effects.Freed id) what = chains vid
    by_effect (effects.Withdrawn id) what = chains vid
    by_effect (effects.Left node) what = chains vid

front_all : (xs ys : List Entry) → All IsReservable (xs ++ ys) → All IsReservable xs
front_all xs ys all k d within =
    let long = length-append xs ys in
    subst IsReservable (get_or_append_left xs ys d k within) (all k d (omega (arith, within, long)))

chains_from : (later entries : List Entry) → All IsReservable (entries ++ later) → ChainsAre entries → ChainsAre (entries ++ later)
chains_from [] entries reservable chains = subst ChainsAre (sym (append-nil entries)) chains
chains_from (entry ∷ later) entries reservable chains =
    let split = append_assoc entries (entry ∷ []) later in
    let all : All IsReservable ((entries ++ entry ∷ []) ++ later) = subst (All IsReservable) (sym split) reservable in
    subst ChainsAre split
    (chains_from later (entries ++ entry ∷ []) all (chains_next entries entry (front_all (entries ++ entry ∷ []) later all) chains))

none_above : ChainsAre []
unfolding chain_of
none_above vid = subst (λ (known : List Effect). All IsVid (chain_of known vid)) (sym log_effects-none) (All-nil IsVid)

-- what is known of an id is sound
pub headers_are_sound : (entries : List Entry) → All IsReservable entries → HeadersAreSound (log_effects entries)
headers_are_sound entries reservable vid header is =
    let valid = header-valid entries reservable vid header is in
    record {
      id = valid.id;
      of_inode = record { name = valid.name; tag = valid.tag; spec = valid.spec };
      parent = base_is (log_effects entries) header.spec header.parent valid.base;
      chain = chains_from entries [] reservable none_above vid;
    }

-- What a node knows of an object's disk is valid, and it stays known as the node reads on.
use Rattle.std.proofs.Common.{◌≡◌, ℕ, ◌*◌, ◌/◌, ◌%◌, ◌^◌, ◌<◌, ◌≤◌, ◌==◌, Bool, true, false, cond, List, [], ◌∷◌, ◌++◌, All, Option, Some, None, is_some, refl, sym, ap, subst, ◌∙◌, arith}
use Rattle.std.specs.Option.{option_map, IfSome}
use Rattle.std.proofs.lemmas.Bool.{eqb-true}
use Rattle.std.proofs.lemmas.Option.{same_Some}
use Rattle.proof_tools.proofs.Booleans.{cond_either}
use Rattle.object_id.specs.declared.entry.Entry.{Entry}
use Rattle.object_id.specs.declared.entry.VdiSpec.{VdiSpec}
use Rattle.object_id.specs.declared.oid.Kind.{Kind}
use Rattle.object_id.specs.declared.oid.Kind.TheVariants.{Block, Inode}
use Rattle.object_id.specs.declared.policy.Policy.{Policy}
use Rattle.object_id.specs.declared.policy.Policy.TheVariants.{Copies, Coded}
use Rattle.object_id.specs.Oid.{kind_of, vid_of}
use Rattle.object_id.specs.Policy.{IsPolicy, need_of}
use Rattle.object_id.specs.Spec.{IsSpec}
use Rattle.gf256.specs.Part.{IsAligned, part_size}
use Rattle.gf256.proofs.Widths.{by_cases}
use Rattle.epoch_log.specs.Appending.{IsReservable}
use Rattle.vdi_directory.specs.declared.header.Header.{Header}
use Rattle.vdi_directory.specs.declared.effect.Effect.{Effect}
use Rattle.vdi_directory.specs.declared.effect.Grant.{Grant}
use Rattle.vdi_directory.specs.declared.effect.Effect.TheVariants as effects
use Rattle.vdi_directory.specs.Effects.{is_used, header_after, header_of}
use Rattle.vdi_directory.specs.Decisions.{outcome, log_effects}
use Rattle.vdi_directory.proofs.StateLemmas.{log_effects-push, header_of-push}
use Rattle.vdi_directory.proofs.DecisionLaws.{grant_outcome-unused}
use Rattle.vdi_directory.proofs.LineLemmas.{line-log_effects}
use Rattle.peer_service.specs.State.{Peer, spec_of, object_policy, object_size, row_size, length_of_rows}
use Rattle.recovery.specs.Step.{IsPartSize}
use Rattle.sheep_node.proofs.OutsideAskLaws.{known_spec, object_aligned, size_most}

-- ---- a header that is known stays, but for its tag

abbrev HasSpecOf : Header → Option Header → Type 0
HasSpecOf header None = ⊥
HasSpecOf header (Some now) = now.spec ≡ header.spec

header_stays : (entries : List Entry) (entry : Entry) (vid : ℕ) (header : Header) → header_of (log_effects entries) vid ≡ Some header
    → HasSpecOf header (header_of (log_effects (entries ++ entry ∷ [])) vid)
header_stays entries entry vid header is =
    let before = log_effects entries in
    let effect = (outcome before entry).effect in
    subst (HasSpecOf header)
    (sym (ap (λ (effects : List Effect). header_of effects vid) (log_effects-push entries entry)
    ∙ header_of-push before effect vid
    ∙ ap (λ (o : Option Header). header_after vid o effect) is))
    (by_effect effect refl)
  where
    by_id : (grant : Grant) → (outcome (log_effects entries) entry).effect ≡ effects.Reserved grant → (b : Bool) → (grant.reservation.vid.0 == vid) ≡ b
        → HasSpecOf header (cond b (Some grant.header) (Some header))
    by_id grant what true same =
        let new : is_used (log_effects entries) grant.reservation.vid.0 ≡ false = (grant_outcome-unused entries entry grant what).1 in
        let used : is_used (log_effects entries) vid ≡ true = (line-log_effects entries).known vid ∙ ap is_some is in
        let unused : is_used (log_effects entries) vid ≡ false
        = ap (is_used (log_effects entries)) (sym (eqb-true grant.reservation.vid.0 vid same)) ∙ new in
        absurd (cc (used, unused))
    by_id grant what false other = refl

    by_effect : (effect : Effect) → (outcome (log_effects entries) entry).effect ≡ effect → HasSpecOf header (header_after vid (Some header) effect)
    by_effect effects.Nothing what = refl
    by_effect (effects.Reserved grant) what = by_id grant what (grant.reservation.vid.0 == vid) refl
    by_effect (effects.Published id name) what = refl
    by_effect (effects.Snapped snap) what =
        cond_either (HasSpecOf header) (snap.old.0 == vid) (Some (record header { tag = snap.tag })) (Some header) refl refl
    by_effect (effects.Deleted id name) what = refl
    by_effect (effects.Held id holder) what = refl
    by_effect (effects.Freed id) what = refl
    by_effect (effects.Withdrawn id) what = refl
    by_effect (effects.Left node) what = refl

-- so the length of an object's rows stays known
pub size_stays : (one other : Peer) (entry : Entry) (oid size : ℕ) → other.entries ≡ one.entries ++ entry ∷ [] → length_of_rows one oid ≡ Some size
    → length_of_rows other oid ≡ Some size
size_stays one other entry oid size more is = by_header (header_of (log_effects one.entries) (vid_of oid)) refl is
  where
    now_by : (header : Header) (now : Option Header) → HasSpecOf header now → row_size (kind_of oid) header.spec ≡ size
        → option_map (row_size (kind_of oid)) (option_map (λ (header : Header). header.spec) now) ≡ Some size
    now_by header None has so = absurd has
    now_by header (Some now) has so = ap (λ (spec : VdiSpec). Some (row_size (kind_of oid) spec)) has ∙ ap (λ (n : ℕ). Some n) so

    by_header : (o : Option Header) → header_of (log_effects one.entries) (vid_of oid) ≡ o
        → option_map (row_size (kind_of oid)) (option_map (λ (header : Header). header.spec) o) ≡ Some size
        → length_of_rows other oid ≡ Some size
    by_header None known so = absurd (cc (so))
    by_header (Some header) known so =
        ap (λ (entries : List Entry). option_map (row_size (kind_of oid)) (option_map (λ (header : Header). header.spec) (header_of (log_effects entries) (vid_of oid)))) more
        ∙ now_by header (header_of (log_effects (one.entries ++ entry ∷ [])) (vid_of oid)) (header_stays one.entries entry (vid_of oid) header known)
        (same_Some (row_size (kind_of oid) header.spec) size so)

-- ---- policies, and the lengths of rows

-- a part is shorter than what it is of, and d parts of blocks are whole blocks
abbrev IsWholePart : ℕ → ℕ → Type 0
IsWholePart n d = (n / d ≤ n) × (n / d * d % 512 ≡ 0)

whole_parts : (policy : Policy) (kind : Kind) (n : ℕ) → IsPolicy policy → IsAligned policy kind n → n ≤ 2 ^ 24
    → (part_size policy kind n < 2 ^ 32) × IsAligned policy kind (part_size policy kind n * need_of policy kind)
whole_parts (Copies copies) kind n is whole most = (omega (arith, most), tt)
whole_parts (Coded d p) Block n is whole most =
    let parts : IsWholePart n d
    = by_cases (IsWholePart n) (omega (arith, whole), omega (arith, whole)) (omega (arith, whole), omega (arith, whole))
    (omega (arith, whole), omega (arith, whole)) (omega (arith, whole), omega (arith, whole)) d is.0 in
    let less : n / d ≤ n = parts.0 in
    (omega (arith, less, most), parts.1)
whole_parts (Coded d p) Inode n is whole most = (omega (arith, most), tt)

module _ (peer : Peer) (reservable : All IsReservable peer.entries) (oid : ℕ) where
  pub policy_valid : IfSome (object_policy peer oid) IsPolicy
  policy_valid = by_spec (spec_of peer oid) refl
    where
      by_spec : (o : Option VdiSpec) → spec_of peer oid ≡ o → IfSome (option_map (λ (spec : VdiSpec). spec.policy) o) IsPolicy
      by_spec None known = tt
      by_spec (Some spec) known = (known_spec peer oid spec reservable known).policy

  pub size_valid : (policy : Policy) (size : ℕ) → object_policy peer oid ≡ Some policy → length_of_rows peer oid ≡ Some size
      → IsPartSize policy oid size
  size_valid policy size = by_spec (spec_of peer oid) refl
    where
      by_spec : (o : Option VdiSpec) → spec_of peer oid ≡ o → option_map (λ (spec : VdiSpec). spec.policy) o ≡ Some policy
          → option_map (row_size (kind_of oid)) o ≡ Some size → IsPartSize policy oid size
      by_spec None known policy_so size_so = absurd (cc (policy_so))
      by_spec (Some spec) known policy_so size_so =
          let is : IsSpec spec = known_spec peer oid spec reservable known in
          subst (λ (policy : Policy). IsPartSize policy oid size) (same_Some spec.policy policy policy_so)
          (subst (IsPartSize spec.policy oid) (same_Some (row_size (kind_of oid) spec) size size_so)
          (whole_parts spec.policy (kind_of oid) (object_size spec (kind_of oid)) is.policy (object_aligned spec.policy (kind_of oid) spec is)
          (size_most (kind_of oid) spec is)))

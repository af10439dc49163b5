-- The tests of equality hold exactly where both sides are the same.
use Rattle.std.proofs.Common.{◌≡◌, ℕ, ◌==◌, ◌&&◌, Bool, true, List, Option, Some, None, refl, ap, sym, subst}
use Rattle.std.specs.Bool.{Decides}
use Rattle.std.specs.Cmp.{IsEquivalence}
use Rattle.std.specs.Cmp.Lexicographic.{pointwise}
use Rattle.std.specs.Str.{bytes_eq}
use Rattle.std.proofs.lemmas.Bool.{and_parts, eqb-true, eq-eqb, and_from}
use Rattle.std.proofs.lemmas.Bool.Decides.{same_from_decides}
use Rattle.std.proofs.lemmas.Slice.Eq.{bytes_eq-Decides, slice_eq-Decides}
use Rattle.object_id.specs.declared.node.NodeId.{NodeId}
use Rattle.object_id.specs.declared.policy.Policy.{Policy}
use Rattle.object_id.specs.declared.policy.Policy.TheVariants.{Copies, Coded}
use Rattle.object_id.specs.declared.entry.Member.{Member}
use Rattle.object_id.specs.declared.entry.VdiSpec.{VdiSpec}
use Rattle.object_id.specs.declared.entry.Origin.{Origin}
use Rattle.object_id.specs.declared.entry.Origin.TheVariants.{Fresh, SnapshotOf, CloneOf}
use Rattle.object_id.specs.declared.entry.Entry.{Entry}
use Rattle.object_id.specs.declared.entry.Entry.TheVariants.{Format, Join, Leave, Reweight, Recovered, Reserve, Publish, Clone, Snapshot, Delete, Lock, Unlock}
use Rattle.object_id.specs.Same.{is_same_policy, is_same_spec, is_same_tag, is_same_origin, is_same_member, is_same_entry}

-- found the same, so the same

text-is : (one other : List ℕ) → bytes_eq one other ≡ true → one ≡ other
text-is one other = (bytes_eq-Decides one other).0

policy-is : (one other : Policy) → is_same_policy one other ≡ true → one ≡ other
policy-is (Copies copies) (Copies others) e = ap (λ (n : ℕ). Copies n) (eqb-true copies others e)
policy-is (Coded d p) (Coded strips parity) e =
    let parts = and_parts (d == strips) (p == parity) e in
    λ i. Coded (eqb-true d strips parts.0 i) (eqb-true p parity parts.1 i)
policy-is _ _ e = absurd (cc (e))

spec-is : (one other : VdiSpec) → is_same_spec one other ≡ true → one ≡ other
spec-is one other e =
    let first = and_parts (one.size == other.size) (is_same_policy one.policy other.policy && one.shift == other.shift) e in
    let rest = and_parts (is_same_policy one.policy other.policy) (one.shift == other.shift) first.1 in
    λ i. record {
      size = eqb-true one.size other.size first.0 i;
      policy = policy-is one.policy other.policy rest.0 i;
      shift = eqb-true one.shift other.shift rest.1 i;
    }

tag-is : (one other : Option (List ℕ)) → is_same_tag one other ≡ true → one ≡ other
tag-is None None e = refl
tag-is (Some tag) (Some other) e = ap (λ (t : List ℕ). Some t) (text-is tag other e)
tag-is _ _ e = absurd (cc (e))

origin-is : (one other : Origin) → is_same_origin one other ≡ true → one ≡ other
origin-is (Fresh spec) (Fresh other) e = ap (λ (s : VdiSpec). Fresh s) (spec-is spec other e)
origin-is (SnapshotOf tag) (SnapshotOf other) e = ap (λ (t : List ℕ). SnapshotOf t) (text-is tag other e)
origin-is (CloneOf base tag) (CloneOf other label) e =
    let parts = and_parts (bytes_eq base other) (bytes_eq tag label) e in
    λ i. CloneOf (text-is base other parts.0 i) (text-is tag label parts.1 i)
origin-is _ _ e = absurd (cc (e))

member-is : (one other : Member) → is_same_member one other ≡ true → one ≡ other
member-is one other e =
    let first = and_parts (one.node.0 == other.node.0) (one.zone == other.zone && one.vnodes == other.vnodes) e in
    let rest = and_parts (one.zone == other.zone) (one.vnodes == other.vnodes) first.1 in
    λ i. record {
      node = record { 0 = eqb-true one.node.0 other.node.0 first.0 i };
      zone = eqb-true one.zone other.zone rest.0 i;
      vnodes = eqb-true one.vnodes other.vnodes rest.1 i;
    }

-- the same, so found the same

number-same : (n : ℕ) → (n == n) ≡ true
number-same n = eq-eqb n n refl

text-same : (text : List ℕ) → bytes_eq text text ≡ true
text-same text = (bytes_eq-Decides text text).1 refl

policy-same : (policy : Policy) → is_same_policy policy policy ≡ true
policy-same (Copies copies) = number-same copies
policy-same (Coded d p) = and_from (d == d) (p == p) (number-same d) (number-same p)

spec-same : (spec : VdiSpec) → is_same_spec spec spec ≡ true
spec-same spec =
    and_from (spec.size == spec.size) (is_same_policy spec.policy spec.policy && spec.shift == spec.shift) (number-same spec.size)
    (and_from (is_same_policy spec.policy spec.policy) (spec.shift == spec.shift) (policy-same spec.policy) (number-same spec.shift))

tag-same : (tag : Option (List ℕ)) → is_same_tag tag tag ≡ true
tag-same None = refl
tag-same (Some tag) = text-same tag

origin-same : (origin : Origin) → is_same_origin origin origin ≡ true
origin-same (Fresh spec) = spec-same spec
origin-same (SnapshotOf tag) = text-same tag
origin-same (CloneOf base tag) = and_from (bytes_eq base base) (bytes_eq tag tag) (text-same base) (text-same tag)

member-same : (member : Member) → is_same_member member member ≡ true
member-same member =
    and_from (member.node.0 == member.node.0) (member.zone == member.zone && member.vnodes == member.vnodes) (number-same member.node.0)
    (and_from (member.zone == member.zone) (member.vnodes == member.vnodes) (number-same member.zone) (number-same member.vnodes))

-- each test decides

pub policies_decided : (one other : Policy) → Decides (is_same_policy one other) (one ≡ other)
policies_decided one other = (policy-is one other, λ e. subst (λ p. is_same_policy one p ≡ true) e (policy-same one))

pub specs_decided : (one other : VdiSpec) → Decides (is_same_spec one other) (one ≡ other)
specs_decided one other = (spec-is one other, λ e. subst (λ s. is_same_spec one s ≡ true) e (spec-same one))

pub tags_decided : (one other : Option (List ℕ)) → Decides (is_same_tag one other) (one ≡ other)
tags_decided one other = (tag-is one other, λ e. subst (λ t. is_same_tag one t ≡ true) e (tag-same one))

pub origins_decided : (one other : Origin) → Decides (is_same_origin one other) (one ≡ other)
origins_decided one other = (origin-is one other, λ e. subst (λ o. is_same_origin one o ≡ true) e (origin-same one))

pub members_decided : (one other : Member) → Decides (is_same_member one other) (one ≡ other)
members_decided one other = (member-is one other, λ e. subst (λ m. is_same_member one m ≡ true) e (member-same one))

pub member_lists_decided : (one other : List Member) → Decides (pointwise is_same_member one other) (one ≡ other)
member_lists_decided one other = slice_eq-Decides members_decided one other (pointwise is_same_member one other) refl

-- what a session asks of a name and a tag
named-is : (by node : NodeId) (session number : ℕ) (name text : List ℕ) (tag label : Option (List ℕ))
    → (by.0 == node.0 && (session == number && (bytes_eq name text && is_same_tag tag label))) ≡ true
    → (by ≡ node) × ((session ≡ number) × ((name ≡ text) × (tag ≡ label)))
named-is by node session number name text tag label e =
    let first = and_parts (by.0 == node.0) (session == number && (bytes_eq name text && is_same_tag tag label)) e in
    let second = and_parts (session == number) (bytes_eq name text && is_same_tag tag label) first.1 in
    let third = and_parts (bytes_eq name text) (is_same_tag tag label) second.1 in
    (λ i. record { 0 = eqb-true by.0 node.0 first.0 i }, (eqb-true session number second.0, (text-is name text third.0, tag-is tag label third.1)))

named-same : (by : NodeId) (session : ℕ) (name : List ℕ) (tag : Option (List ℕ))
    → (by.0 == by.0 && (session == session && (bytes_eq name name && is_same_tag tag tag))) ≡ true
named-same by session name tag =
    and_from (by.0 == by.0) (session == session && (bytes_eq name name && is_same_tag tag tag)) (number-same by.0)
    (and_from (session == session) (bytes_eq name name && is_same_tag tag tag) (number-same session)
    (and_from (bytes_eq name name) (is_same_tag tag tag) (text-same name) (tag-same tag)))

entry-is : (one other : Entry) → is_same_entry one other ≡ true → one ≡ other
entry-is (Format members) (Format others) e = ap (λ (m : List Member). Format m) ((member_lists_decided members others).0 e)
entry-is (Join node zone vnodes) (Join other place weight) e =
    let first = and_parts (node.0 == other.0) (zone == place && vnodes == weight) e in
    let rest = and_parts (zone == place) (vnodes == weight) first.1 in
    λ i. Join (record { 0 = eqb-true node.0 other.0 first.0 i }) (eqb-true zone place rest.0 i) (eqb-true vnodes weight rest.1 i)
entry-is (Leave node) (Leave other) e = λ i. Leave (record { 0 = eqb-true node.0 other.0 e i })
entry-is (Reweight node vnodes) (Reweight other weight) e =
    let parts = and_parts (node.0 == other.0) (vnodes == weight) e in
    λ i. Reweight (record { 0 = eqb-true node.0 other.0 parts.0 i }) (eqb-true vnodes weight parts.1 i)
entry-is (Recovered node epoch) (Recovered other level) e =
    let parts = and_parts (node.0 == other.0) (epoch.0 == level.0) e in
    λ i. Recovered (record { 0 = eqb-true node.0 other.0 parts.0 i }) (record { 0 = eqb-true epoch.0 level.0 parts.1 i })
entry-is (Reserve by session name origin) (Reserve node number text source) e =
    let first = and_parts (by.0 == node.0) (session == number && (bytes_eq name text && is_same_origin origin source)) e in
    let second = and_parts (session == number) (bytes_eq name text && is_same_origin origin source) first.1 in
    let third = and_parts (bytes_eq name text) (is_same_origin origin source) second.1 in
    λ i. Reserve
    (record { 0 = eqb-true by.0 node.0 first.0 i })
    (eqb-true session number second.0 i)
    (text-is name text third.0 i)
    (origin-is origin source third.1 i)
entry-is (Publish by vid) (Publish node id) e =
    let parts = and_parts (by.0 == node.0) (vid.0 == id.0) e in
    λ i. Publish (record { 0 = eqb-true by.0 node.0 parts.0 i }) (record { 0 = eqb-true vid.0 id.0 parts.1 i })
entry-is (Clone by vid) (Clone node id) e =
    let parts = and_parts (by.0 == node.0) (vid.0 == id.0) e in
    λ i. Clone (record { 0 = eqb-true by.0 node.0 parts.0 i }) (record { 0 = eqb-true vid.0 id.0 parts.1 i })
entry-is (Snapshot by old vid) (Snapshot node before id) e =
    let first = and_parts (by.0 == node.0) (old.0 == before.0 && vid.0 == id.0) e in
    let second = and_parts (old.0 == before.0) (vid.0 == id.0) first.1 in
    λ i. Snapshot
    (record { 0 = eqb-true by.0 node.0 first.0 i })
    (record { 0 = eqb-true old.0 before.0 second.0 i })
    (record { 0 = eqb-true vid.0 id.0 second.1 i })
entry-is (Delete by session name tag) (Delete node number text label) e =
    let own = named-is by node session number name text tag label e in
    λ i. Delete (own.0 i) (own.1.0 i) (own.1.1.0 i) (own.1.1.1 i)
entry-is (Lock by session name tag) (Lock node number text label) e =
    let own = named-is by node session number name text tag label e in
    λ i. Lock (own.0 i) (own.1.0 i) (own.1.1.0 i) (own.1.1.1 i)
entry-is (Unlock by session vid) (Unlock node number id) e =
    let first = and_parts (by.0 == node.0) (session == number && vid.0 == id.0) e in
    let second = and_parts (session == number) (vid.0 == id.0) first.1 in
    λ i. Unlock
    (record { 0 = eqb-true by.0 node.0 first.0 i })
    (eqb-true session number second.0 i)
    (record { 0 = eqb-true vid.0 id.0 second.1 i })
entry-is _ _ e = absurd (cc (e))

entry-same : (entry : Entry) → is_same_entry entry entry ≡ true
entry-same (Format members) = (member_lists_decided members members).1 refl
entry-same (Join node zone vnodes) =
    and_from (node.0 == node.0) (zone == zone && vnodes == vnodes) (number-same node.0)
    (and_from (zone == zone) (vnodes == vnodes) (number-same zone) (number-same vnodes))
entry-same (Leave node) = number-same node.0
entry-same (Reweight node vnodes) = and_from (node.0 == node.0) (vnodes == vnodes) (number-same node.0) (number-same vnodes)
entry-same (Recovered node epoch) = and_from (node.0 == node.0) (epoch.0 == epoch.0) (number-same node.0) (number-same epoch.0)
entry-same (Reserve by session name origin) =
    and_from (by.0 == by.0) (session == session && (bytes_eq name name && is_same_origin origin origin)) (number-same by.0)
    (and_from (session == session) (bytes_eq name name && is_same_origin origin origin) (number-same session)
    (and_from (bytes_eq name name) (is_same_origin origin origin) (text-same name) (origin-same origin)))
entry-same (Publish by vid) = and_from (by.0 == by.0) (vid.0 == vid.0) (number-same by.0) (number-same vid.0)
entry-same (Clone by vid) = and_from (by.0 == by.0) (vid.0 == vid.0) (number-same by.0) (number-same vid.0)
entry-same (Snapshot by old vid) =
    and_from (by.0 == by.0) (old.0 == old.0 && vid.0 == vid.0) (number-same by.0)
    (and_from (old.0 == old.0) (vid.0 == vid.0) (number-same old.0) (number-same vid.0))
entry-same (Delete by session name tag) = named-same by session name tag
entry-same (Lock by session name tag) = named-same by session name tag
entry-same (Unlock by session vid) =
    and_from (by.0 == by.0) (session == session && vid.0 == vid.0) (number-same by.0)
    (and_from (session == session) (vid.0 == vid.0) (number-same session) (number-same vid.0))

pub entries_decided : (one other : Entry) → Decides (is_same_entry one other) (one ≡ other)
entries_decided one other = (entry-is one other, λ e. subst (λ x. is_same_entry one x ≡ true) e (entry-same one))

-- a test that decides equality is an equivalence
pub equivalence_of_decided : {K : Type 0} {E : K → K → Bool} → ((one other : K) → Decides (E one other) (one ≡ other)) → IsEquivalence E
equivalence_of_decided {K} {E} decided = record {
  refl = λ x. (decided x x).1 refl;
  symm = λ x y. same_from_decides (E x y) (E y x) (decided x y)
      (λ h. sym ((decided y x).0 h), λ e. (decided y x).1 (sym e));
  congr = λ x y z h. ap (λ k. E k z) ((decided x y).0 h);
}

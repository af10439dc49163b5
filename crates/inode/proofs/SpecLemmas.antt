-- The spec of a disk, in its fields: what is read is valid and stands there, and what stands there is read.
use Rattle.std.proofs.Common.{◌≡◌, ℕ, ◌*◌, ◌^◌, ◌%◌, ◌≤◌, Bool, true, false, cond, eqb, leb, not, ◌&&◌, List, Option, Some, None, Result, Ok, Err, refl, sym, ap, subst, ◌∙◌, arith}
use Rattle.std.specs.Option.{ok_or}
use Rattle.std.proofs.lemmas.Bool.{eqb-true, eqb-false, eq-eqb, ne_eqb, le-leb, leb-true, and_parts, and_from, not-true, not_from_false}
use Rattle.object_id.specs.declared.policy.Policy.{Policy}
use Rattle.object_id.specs.declared.entry.VdiSpec.{VdiSpec}
use Rattle.object_id.specs.declared.limits.TheConstants.{SHIFT_MIN, SHIFT_MAX, VID_MAX}
use Rattle.object_id.specs.Oid.{IsVid}
use Rattle.object_id.specs.Policy.{IsPolicy, policy_byte, strips_of}
use Rattle.object_id.specs.Spec.{IsSpec}
use Rattle.object_id.specs.Fields.{u8_at, u32_at, u64_at}
use Rattle.inode.specs.declared.fault.InodeFault.{InodeFault}
use Rattle.inode.specs.declared.fault.InodeFault.TheVariants as faults
use Rattle.inode.specs.Reading.{◌>>=◌, spelled_policy, shift_at, policy_at, is_size, size_at, spec_at, vid_at}
use Rattle.inode.proofs.PolicyLemmas.{policy-spelled, policy-read}

-- the value of a step that didn't refuse
pub bind-ok : {A B : Type 0} (r : Result A InodeFault) (f : A → Result B InodeFault) (y : B) → (r >>= f) ≡ Ok y → (x : A) × (r ≡ Ok x) × (f x ≡ Ok y)
bind-ok (Ok x) f y e = (x, refl, e)
bind-ok (Err fault) f y e = absurd cc

-- a step with its value goes on
pub goes-on : {A B : Type 0} (r : Result A InodeFault) (x : A) (f : A → Result B InodeFault) (y : Result B InodeFault) → r ≡ Ok x → f x ≡ y → (r >>= f) ≡ y
goes-on r x f y e h = ap (λ s. s >>= f) e ∙ h

-- a test that was passed, with what it let through
pub let-through : {A : Type 0} (b : Bool) (x y : A) (fault : InodeFault) → cond b (Ok x) (Err fault) ≡ Ok y → (b ≡ true) × (x ≡ y)
let-through true x y fault e = (refl, cc)
let-through false x y fault e = absurd cc

pub passes : {A : Type 0} (b : Bool) (x : A) (fault : InodeFault) → b ≡ true → (let made : Result A InodeFault = cond b (Ok x) (Err fault) in made ≡ Ok x)
passes b x fault e = rw e refl

some-read : (read : Option Policy) (policy : Policy) → ok_or read faults.BadPolicy ≡ Ok policy → read ≡ Some policy
some-read None policy e = absurd cc
some-read (Some p) policy e = cc

-- ---- what is read

pub record IsSpecAt (bytes : List ℕ) (spec : VdiSpec) : Type 0 where
  pub valid : IsSpec spec
  pub shift : u8_at 555 bytes ≡ spec.shift
  pub byte : u8_at 552 bytes ≡ policy_byte spec.policy
  pub copies : u8_at 554 bytes ≡ strips_of spec.policy
  pub size : u64_at 536 bytes ≡ spec.size

shift-read : (bytes : List ℕ) (shift : ℕ) → shift_at bytes ≡ Ok shift → (u8_at 555 bytes ≡ shift) × (SHIFT_MIN ≤ shift) × (shift ≤ SHIFT_MAX)
unfolding shift_at
shift-read bytes shift e =
    let through = let-through (leb SHIFT_MIN (u8_at 555 bytes) && leb (u8_at 555 bytes) SHIFT_MAX) (u8_at 555 bytes) shift faults.BadShift e in
    let both = and_parts (leb SHIFT_MIN (u8_at 555 bytes)) (leb (u8_at 555 bytes) SHIFT_MAX) through.0 in
    let low : SHIFT_MIN ≤ u8_at 555 bytes = leb-true SHIFT_MIN (u8_at 555 bytes) both.0 in
    let high : u8_at 555 bytes ≤ SHIFT_MAX = leb-true (u8_at 555 bytes) SHIFT_MAX both.1 in
    (through.1, subst (λ n. SHIFT_MIN ≤ n) through.1 low, subst (λ n. n ≤ SHIFT_MAX) through.1 high)

record IsSize (shift size : ℕ) : Type 0 where
  least : 512 ≤ size
  most : size ≤ 2 ^ 20 * 2 ^ shift
  blocks : size % 512 ≡ 0

size-passed : (shift size : ℕ) → is_size shift size ≡ true → IsSize shift size
size-passed shift size h =
    let both = and_parts (not (eqb size 0) && eqb (size % 512) 0) (leb size (2 ^ 20 * 2 ^ shift)) h in
    let first = and_parts (not (eqb size 0)) (eqb (size % 512) 0) both.0 in
    let some : size ≡ 0 → ⊥ = eqb-false size 0 (not-true _ first.0) in
    let blocks : size % 512 ≡ 0 = eqb-true (size % 512) 0 first.1 in
    record { least = omega (arith, some); most = leb-true size (2 ^ 20 * 2 ^ shift) both.1; blocks = blocks }

size-read : (shift : ℕ) (bytes : List ℕ) (size : ℕ) → size_at shift bytes ≡ Ok size → (u64_at 536 bytes ≡ size) × IsSize shift size
unfolding size_at
size-read shift bytes size e =
    let through = let-through (is_size shift (u64_at 536 bytes)) (u64_at 536 bytes) size faults.BadSize e in
    (through.1, subst (λ n. IsSize shift n) through.1 (size-passed shift (u64_at 536 bytes) through.0))

policy-at_read : (bytes : List ℕ) (policy : Policy) → policy_at bytes ≡ Ok policy
    → IsPolicy policy × (u8_at 552 bytes ≡ policy_byte policy) × (u8_at 554 bytes ≡ strips_of policy)
unfolding policy_at
policy-at_read bytes policy e =
    let spelled = policy-spelled (u8_at 552 bytes) (u8_at 554 bytes) policy (some-read (spelled_policy (u8_at 552 bytes) (u8_at 554 bytes)) policy e) in
    (spelled.valid, sym spelled.byte_is, sym spelled.copies_is)

pub spec-read : (bytes : List ℕ) (spec : VdiSpec) → spec_at bytes ≡ Ok spec → IsSpecAt bytes spec
unfolding spec_at
spec-read bytes spec e =
    let a = bind-ok (shift_at bytes) _ spec e in
    let b = bind-ok (policy_at bytes) _ spec a.2 in
    let c = bind-ok (size_at a.0 bytes) _ spec b.2 in
    let shift = shift-read bytes a.0 a.1 in
    let policy = policy-at_read bytes b.0 b.1 in
    let size = size-read a.0 bytes c.0 c.1 in
    let made : VdiSpec = record { size = c.0; policy = b.0; shift = a.0 } in
    let same : made ≡ spec = let ok : Ok made ≡ Ok spec = c.2 in cc in
    subst (λ s. IsSpecAt bytes s) same (record {
      valid = record { shift = (shift.1, shift.2); policy = policy.0; size = (size.1.least, size.1.most); blocks = size.1.blocks };
      shift = shift.0;
      byte = policy.1;
      copies = policy.2;
      size = size.0;
    })

pub vid-read : (bytes : List ℕ) (vid : ℕ) → vid_at bytes ≡ Ok vid → (u32_at 560 bytes ≡ vid) × IsVid vid
unfolding vid_at
vid-read bytes vid e =
    let through = let-through (leb 1 (u32_at 560 bytes) && leb (u32_at 560 bytes) VID_MAX) (u32_at 560 bytes) vid faults.BadSize e in
    let both = and_parts (leb 1 (u32_at 560 bytes)) (leb (u32_at 560 bytes) VID_MAX) through.0 in
    (through.1, subst (λ n. IsVid n) through.1 (leb-true 1 (u32_at 560 bytes) both.0, leb-true (u32_at 560 bytes) VID_MAX both.1))

-- ---- what stands there is read

shift-again : (bytes : List ℕ) (shift : ℕ) → u8_at 555 bytes ≡ shift → SHIFT_MIN ≤ shift → shift ≤ SHIFT_MAX → shift_at bytes ≡ Ok shift
unfolding shift_at
shift-again bytes shift at low high =
    let fits : (leb SHIFT_MIN (u8_at 555 bytes) && leb (u8_at 555 bytes) SHIFT_MAX) ≡ true
    = ap (λ n. leb SHIFT_MIN n && leb n SHIFT_MAX) at ∙ and_from (leb SHIFT_MIN shift) (leb shift SHIFT_MAX) (le-leb SHIFT_MIN shift low) (le-leb shift SHIFT_MAX high) in
    passes (leb SHIFT_MIN (u8_at 555 bytes) && leb (u8_at 555 bytes) SHIFT_MAX) (u8_at 555 bytes) faults.BadShift fits ∙ ap (λ n. Ok n) at

policy-at_again : (bytes : List ℕ) (policy : Policy) → IsPolicy policy → u8_at 552 bytes ≡ policy_byte policy → u8_at 554 bytes ≡ strips_of policy
    → policy_at bytes ≡ Ok policy
unfolding policy_at
policy-at_again bytes policy valid byte copies =
    ap (λ (read : Option Policy). ok_or read faults.BadPolicy) (policy-read (u8_at 552 bytes) (u8_at 554 bytes) policy valid (sym byte) (sym copies))

size-again : (shift : ℕ) (bytes : List ℕ) (size : ℕ) → u64_at 536 bytes ≡ size → 512 ≤ size → size ≤ 2 ^ 20 * 2 ^ shift → size % 512 ≡ 0
    → size_at shift bytes ≡ Ok size
unfolding size_at
size-again shift bytes size at least most blocks =
    let some : not (eqb size 0) ≡ true = not_from_false (eqb size 0) (ne_eqb size 0 (λ e. omega arith)) in
    let first : (not (eqb size 0) && eqb (size % 512) 0) ≡ true = and_from (not (eqb size 0)) (eqb (size % 512) 0) some (eq-eqb (size % 512) 0 blocks) in
    let fits : is_size shift (u64_at 536 bytes) ≡ true
    = ap (is_size shift) at ∙ and_from (not (eqb size 0) && eqb (size % 512) 0) (leb size (2 ^ 20 * 2 ^ shift)) first (le-leb size (2 ^ 20 * 2 ^ shift) most) in
    passes (is_size shift (u64_at 536 bytes)) (u64_at 536 bytes) faults.BadSize fits ∙ ap (λ n. Ok n) at

pub spec-again : (bytes : List ℕ) (spec : VdiSpec) → IsSpecAt bytes spec → spec_at bytes ≡ Ok spec
unfolding spec_at
spec-again bytes spec at =
    goes-on (shift_at bytes) spec.shift _ (Ok spec) (shift-again bytes spec.shift at.shift at.valid.shift.0 at.valid.shift.1)
    (goes-on (policy_at bytes) spec.policy _ (Ok spec) (policy-at_again bytes spec.policy at.valid.policy at.byte at.copies)
    (goes-on (size_at spec.shift bytes) spec.size _ (Ok spec) (size-again spec.shift bytes spec.size at.size at.valid.size.0 at.valid.size.1 at.valid.blocks) refl))

pub vid-again : (bytes : List ℕ) (vid : ℕ) → u32_at 560 bytes ≡ vid → IsVid vid → vid_at bytes ≡ Ok vid
unfolding vid_at
vid-again bytes vid at valid =
    let fits : (leb 1 (u32_at 560 bytes) && leb (u32_at 560 bytes) VID_MAX) ≡ true
    = ap (λ n. leb 1 n && leb n VID_MAX) at ∙ and_from (leb 1 vid) (leb vid VID_MAX) (le-leb 1 vid valid.0) (le-leb vid VID_MAX valid.1) in
    passes (leb 1 (u32_at 560 bytes) && leb (u32_at 560 bytes) VID_MAX) (u32_at 560 bytes) faults.BadSize fits ∙ ap (λ n. Ok n) at

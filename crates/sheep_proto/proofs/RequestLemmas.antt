-- Requests: what is read is spelled at the front of the bytes, and what is spelled there is read.
use Rattle.std.proofs.Common.{◌≡◌, ℕ, ◌≤◌, Bool, true, false, cond, ltb, eqb, not, List, ◌++◌, length, take, drop, Result, Ok, Err, refl, sym, ap, subst, ◌∙◌, arith, inl, inr}
use Rattle.std.specs.Prelude.{IfOk}
use Rattle.std.proofs.lemmas.Bool.{ltb-false, le-ltb, eqb-true, not-false}
use Rattle.std.proofs.lemmas.Bool.Decides.{eqb_tells}
use Rattle.std.proofs.lemmas.List.{length-append, length-take-le, length-drop}
use Rattle.std.proofs.lemmas.Nat.{from_le_bytes-to_le_bytes_2, from_le_bytes-to_le_bytes_4, from_le_bytes-to_le_bytes_8}
use Rattle.object_id.specs.Fields.{u8_bytes, u32_bytes, u64_bytes, u8_at, u16_at, u32_at, u64_at, zeros, AreBytes, Stands}
use Rattle.object_id.proofs.FieldLemmas.{stands-then, stands-second, stands-front, stands-part, stands-u8, stands-u32, stands-u64, u32-below, u64-below, u64-read}
use Rattle.sheep_proto.specs.declared.common.TheConstants.{HEADER_BYTES, VERSION}
use Rattle.sheep_proto.specs.declared.fault.HeaderFault.{HeaderFault}
use Rattle.sheep_proto.specs.declared.fault.HeaderFault.TheVariants.{ShortHeader, VerMismatch, UnknownOpcode}
use Rattle.sheep_proto.specs.declared.request.ObjReq.{ObjReq}
use Rattle.sheep_proto.specs.declared.request.VdiReq.{VdiReq}
use Rattle.sheep_proto.specs.declared.request.Request.{Request}
use Rattle.sheep_proto.specs.declared.request.Request.TheVariants.{Obj, Vdi}
use Rattle.sheep_proto.specs.Headers.{common_bytes, common_at, is_object_opcode, is_vdi_opcode}
use Rattle.sheep_proto.specs.Requests.{obj_common, obj_bytes, vdi_bytes, request_bytes, reserved_of, obj_at, vdi_at, request_in_bytes, SpellsRequest, IsObjReq, IsVdiReq, IsRequest}
use Rattle.sheep_proto.proofs.HeaderLemmas.{passed, common-fits, common-stands}

-- ---- what is read is spelled

obj-fits : (bytes : List ℕ) → AreBytes bytes → is_object_opcode (u8_at 1 bytes) ≡ true → IsObjReq (obj_at bytes)
obj-fits bytes fits opcode = record {
  opcode = opcode;
  common = common-fits bytes fits;
  oid = u64-below bytes 16 fits;
  cow_oid = u64-below bytes 24 fits;
  copies = fits 32;
  copy_policy = fits 33;
  offset = u64-below bytes 40 fits;
}

vdi-fits : (bytes : List ℕ) → AreBytes bytes → is_vdi_opcode (u8_at 1 bytes) ≡ true → IsVdiReq (vdi_at bytes)
vdi-fits bytes fits opcode = record {
  opcode = opcode;
  common = common-fits bytes fits;
  vdi_size = u64-below bytes 16 fits;
  base_vdi_id = u32-below bytes 24 fits;
  copies = fits 28;
  copy_policy = fits 29;
  store_policy = fits 30;
  block_size_shift = fits 31;
  snapid = u32-below bytes 32 fits;
  kind_word = u32-below bytes 36 fits;
}

obj-spelled : (bytes : List ℕ) → AreBytes bytes → HEADER_BYTES ≤ length bytes → u8_at 0 bytes ≡ VERSION → SpellsRequest bytes (Obj (obj_at bytes))
obj-spelled bytes fits long version =
    let to_16 = common-stands bytes fits long version in
    let to_24 = stands-then bytes 0 16 24 (common_bytes (common_at bytes)) (u64_bytes (u64_at 16 bytes)) to_16 (stands-u64 bytes 16 fits (omega arith)) in
    let to_32 = stands-then bytes 0 24 32 _ (u64_bytes (u64_at 24 bytes)) to_24 (stands-u64 bytes 24 fits (omega arith)) in
    let to_33 = stands-then bytes 0 32 33 _ (u8_bytes (u8_at 32 bytes)) to_32 (stands-u8 bytes 32 (omega arith)) in
    let to_34 = stands-then bytes 0 33 34 _ (u8_bytes (u8_at 33 bytes)) to_33 (stands-u8 bytes 33 (omega arith)) in
    let to_40 = stands-then bytes 0 34 40 _ (take 6 (drop 34 bytes)) to_34 (stands-part bytes 34 6) in
    let to_48 = stands-then bytes 0 40 48 _ (u64_bytes (u64_at 40 bytes)) to_40 (stands-u64 bytes 40 fits (omega arith)) in
    record {
      reserved = take 6 (drop 34 bytes);
      rest = drop 48 bytes;
      count = length-take-le 6 (drop 34 bytes) (omega (arith, length-drop 34 bytes));
      whole = to_48.parts;
    }

vdi-spelled : (bytes : List ℕ) → AreBytes bytes → HEADER_BYTES ≤ length bytes → u8_at 0 bytes ≡ VERSION → SpellsRequest bytes (Vdi (vdi_at bytes))
vdi-spelled bytes fits long version =
    let to_16 = common-stands bytes fits long version in
    let to_24 = stands-then bytes 0 16 24 (common_bytes (common_at bytes)) (u64_bytes (u64_at 16 bytes)) to_16 (stands-u64 bytes 16 fits (omega arith)) in
    let to_28 = stands-then bytes 0 24 28 _ (u32_bytes (u32_at 24 bytes)) to_24 (stands-u32 bytes 24 fits (omega arith)) in
    let to_29 = stands-then bytes 0 28 29 _ (u8_bytes (u8_at 28 bytes)) to_28 (stands-u8 bytes 28 (omega arith)) in
    let to_30 = stands-then bytes 0 29 30 _ (u8_bytes (u8_at 29 bytes)) to_29 (stands-u8 bytes 29 (omega arith)) in
    let to_31 = stands-then bytes 0 30 31 _ (u8_bytes (u8_at 30 bytes)) to_30 (stands-u8 bytes 30 (omega arith)) in
    let to_32 = stands-then bytes 0 31 32 _ (u8_bytes (u8_at 31 bytes)) to_31 (stands-u8 bytes 31 (omega arith)) in
    let to_36 = stands-then bytes 0 32 36 _ (u32_bytes (u32_at 32 bytes)) to_32 (stands-u32 bytes 32 fits (omega arith)) in
    let to_40 = stands-then bytes 0 36 40 _ (u32_bytes (u32_at 36 bytes)) to_36 (stands-u32 bytes 36 fits (omega arith)) in
    let to_48 = stands-then bytes 0 40 48 _ (take 8 (drop 40 bytes)) to_40 (stands-part bytes 40 8) in
    record {
      reserved = take 8 (drop 40 bytes);
      rest = drop 48 bytes;
      count = length-take-le 8 (drop 40 bytes) (omega (arith, length-drop 40 bytes));
      whole = to_48.parts;
    }

-- by the opcode
by-opcode : (bytes : List ℕ) (req : Request) (object vdi : Bool) → AreBytes bytes → HEADER_BYTES ≤ length bytes → u8_at 0 bytes ≡ VERSION
    → is_object_opcode (u8_at 1 bytes) ≡ object → is_vdi_opcode (u8_at 1 bytes) ≡ vdi
    → cond object (Ok (Obj (obj_at bytes))) (cond vdi (Ok (Vdi (vdi_at bytes))) (Err UnknownOpcode)) ≡ Ok req
    → IsRequest req × SpellsRequest bytes req
by-opcode bytes req true vdi fits long version object_is vdi_is e =
    let same : Obj (obj_at bytes) ≡ req = cc in
    subst (λ (r : Request). IsRequest r × SpellsRequest bytes r) same (obj-fits bytes fits object_is, obj-spelled bytes fits long version)
by-opcode bytes req false true fits long version object_is vdi_is e =
    let same : Vdi (vdi_at bytes) ≡ req = cc in
    subst (λ (r : Request). IsRequest r × SpellsRequest bytes r) same (vdi-fits bytes fits vdi_is, vdi-spelled bytes fits long version)
by-opcode bytes req false false fits long version object_is vdi_is e = absurd cc

pub request-spelled : (bytes : List ℕ) (req : Request) → AreBytes bytes → request_in_bytes bytes ≡ Ok req → IsRequest req × SpellsRequest bytes req
request-spelled bytes req fits e =
    let short = passed (ltb (length bytes) HEADER_BYTES) _ _ req e in
    let other = passed (not (eqb (u8_at 0 bytes) VERSION)) _ _ req short.1 in
    let long : HEADER_BYTES ≤ length bytes = ltb-false (length bytes) HEADER_BYTES short.0 in
    let version : u8_at 0 bytes ≡ VERSION = eqb-true (u8_at 0 bytes) VERSION (not-false _ other.0) in
    by-opcode bytes req (is_object_opcode (u8_at 1 bytes)) (is_vdi_opcode (u8_at 1 bytes)) fits long version refl refl other.1

pub request-is_spelled : (bytes : List ℕ) (r : Result Request HeaderFault) → AreBytes bytes → r ≡ request_in_bytes bytes → IfOk r (λ req. IsRequest req × SpellsRequest bytes req)
request-is_spelled bytes (Ok req) fits e = request-spelled bytes req fits (sym e)
request-is_spelled bytes (Err fault) fits e = tt

-- ---- what is spelled is read

-- equal fields make equal requests
same-obj : (opcode flags epoch id data_length oid cow_oid copies copy_policy offset : ℕ) (req : ObjReq) → opcode ≡ req.opcode → flags ≡ req.flags
    → epoch ≡ req.epoch → id ≡ req.id → data_length ≡ req.data_length → oid ≡ req.oid → cow_oid ≡ req.cow_oid → copies ≡ req.copies
    → copy_policy ≡ req.copy_policy → offset ≡ req.offset
    → (let made : ObjReq = record { opcode = opcode; flags = flags; epoch = epoch; id = id; data_length = data_length; oid = oid; cow_oid = cow_oid; copies = copies; copy_policy = copy_policy; offset = offset } in made ≡ req)
same-obj opcode flags epoch id data_length oid cow_oid copies copy_policy offset req a b c d e f g h i j =
    rw (a, b, c, d, e, f, g, h, i, j) refl

same-vdi : (opcode flags epoch id data_length vdi_size base_vdi_id copies copy_policy store_policy block_size_shift snapid kind_word : ℕ) (req : VdiReq)
    → opcode ≡ req.opcode → flags ≡ req.flags → epoch ≡ req.epoch → id ≡ req.id → data_length ≡ req.data_length → vdi_size ≡ req.vdi_size
    → base_vdi_id ≡ req.base_vdi_id → copies ≡ req.copies → copy_policy ≡ req.copy_policy → store_policy ≡ req.store_policy
    → block_size_shift ≡ req.block_size_shift → snapid ≡ req.snapid → kind_word ≡ req.kind_word
    → (let made : VdiReq = record { opcode = opcode; flags = flags; epoch = epoch; id = id; data_length = data_length; vdi_size = vdi_size; base_vdi_id = base_vdi_id; copies = copies; copy_policy = copy_policy; store_policy = store_policy; block_size_shift = block_size_shift; snapid = snapid; kind_word = kind_word } in made ≡ req)
same-vdi opcode flags epoch id data_length vdi_size base_vdi_id copies copy_policy store_policy block_size_shift snapid kind_word req a b c d e f g h i j k l m =
    rw (a, b, c, d, e, f, g, h, i, j, k, l, m) refl

-- what stands before the reserved bytes
obj-front : ObjReq → List ℕ
obj-front req = common_bytes (obj_common req) ++ u64_bytes req.oid ++ u64_bytes req.cow_oid ++ u8_bytes req.copies ++ u8_bytes req.copy_policy

obj-long : (req : ObjReq) (reserved : List ℕ) → length reserved ≡ 6 → length (obj-front req ++ reserved) ≡ 40
unfolding obj-front
obj-long req reserved count = omega (arith, length-append (obj-front req) reserved, count)

obj-read : (bytes : List ℕ) (req : ObjReq) → IsObjReq req → (reserved rest : List ℕ) → length reserved ≡ 6 → bytes ≡ obj_bytes req reserved ++ rest → obj_at bytes ≡ req
unfolding obj-front
obj-read bytes req fits reserved rest count whole =
    let front : length (obj-front req ++ reserved) ≡ 40 = obj-long req reserved count in
    let long : 48 ≡ length (obj_bytes req reserved) = omega (arith, length-append (obj-front req ++ reserved) (u64_bytes req.offset), front) in
    let stands : Stands bytes 0 48 (obj-front req ++ reserved ++ u64_bytes req.offset) = stands-front bytes (obj_bytes req reserved) rest 48 long whole in
    let last : Stands bytes 40 48 (u64_bytes req.offset) = stands-second bytes 0 40 48 (obj-front req ++ reserved) (u64_bytes req.offset) (omega arith) stands in
    same-obj (u8_at 1 bytes) (u16_at 2 bytes) (u32_at 4 bytes) (u32_at 8 bytes) (u32_at 12 bytes) (u64_at 16 bytes) (u64_at 24 bytes) (u8_at 32 bytes) (u8_at 33 bytes) (u64_at 40 bytes) req
    (ap (u8_at 1) whole)
    (ap (u16_at 2) whole ∙ from_le_bytes-to_le_bytes_2 req.flags fits.common.flags)
    (ap (u32_at 4) whole ∙ from_le_bytes-to_le_bytes_4 req.epoch fits.common.epoch)
    (ap (u32_at 8) whole ∙ from_le_bytes-to_le_bytes_4 req.id fits.common.id)
    (ap (u32_at 12) whole ∙ from_le_bytes-to_le_bytes_4 req.data_length fits.common.data_length)
    (ap (u64_at 16) whole ∙ from_le_bytes-to_le_bytes_8 req.oid fits.oid)
    (ap (u64_at 24) whole ∙ from_le_bytes-to_le_bytes_8 req.cow_oid fits.cow_oid)
    (ap (u8_at 32) whole)
    (ap (u8_at 33) whole)
    (u64-read bytes 40 48 req.offset fits.offset last)

vdi-read : (bytes : List ℕ) (req : VdiReq) → IsVdiReq req → (reserved rest : List ℕ) → bytes ≡ vdi_bytes req reserved ++ rest → vdi_at bytes ≡ req
vdi-read bytes req fits reserved rest whole =
    same-vdi (u8_at 1 bytes) (u16_at 2 bytes) (u32_at 4 bytes) (u32_at 8 bytes) (u32_at 12 bytes) (u64_at 16 bytes) (u32_at 24 bytes) (u8_at 28 bytes) (u8_at 29 bytes) (u8_at 30 bytes) (u8_at 31 bytes) (u32_at 32 bytes) (u32_at 36 bytes) req
    (ap (u8_at 1) whole)
    (ap (u16_at 2) whole ∙ from_le_bytes-to_le_bytes_2 req.flags fits.common.flags)
    (ap (u32_at 4) whole ∙ from_le_bytes-to_le_bytes_4 req.epoch fits.common.epoch)
    (ap (u32_at 8) whole ∙ from_le_bytes-to_le_bytes_4 req.id fits.common.id)
    (ap (u32_at 12) whole ∙ from_le_bytes-to_le_bytes_4 req.data_length fits.common.data_length)
    (ap (u64_at 16) whole ∙ from_le_bytes-to_le_bytes_8 req.vdi_size fits.vdi_size)
    (ap (u32_at 24) whole ∙ from_le_bytes-to_le_bytes_4 req.base_vdi_id fits.base_vdi_id)
    (ap (u8_at 28) whole)
    (ap (u8_at 29) whole)
    (ap (u8_at 30) whole)
    (ap (u8_at 31) whole)
    (ap (u32_at 32) whole ∙ from_le_bytes-to_le_bytes_4 req.snapid fits.snapid)
    (ap (u32_at 36) whole ∙ from_le_bytes-to_le_bytes_4 req.kind_word fits.kind_word)

-- an opcode of one kind isn't of the other
vdi-not-object : (opcode : ℕ) → is_vdi_opcode opcode ≡ true → is_object_opcode opcode ≡ false
vdi-not-object opcode h =
    elim (eqb_tells opcode 1) [
      | inl p ↦ absurd (let no : is_vdi_opcode 1 ≡ true = subst (λ (n : ℕ). is_vdi_opcode n ≡ true) p.1 h in cc)
      | inr not_1 ↦ elim (eqb_tells opcode 2) [
        | inl p ↦ absurd (let no : is_vdi_opcode 2 ≡ true = subst (λ (n : ℕ). is_vdi_opcode n ≡ true) p.1 h in cc)
        | inr not_2 ↦ elim (eqb_tells opcode 3) [
          | inl p ↦ absurd (let no : is_vdi_opcode 3 ≡ true = subst (λ (n : ℕ). is_vdi_opcode n ≡ true) p.1 h in cc)
          | inr not_3 ↦ rw (not_1.0, not_2.0, not_3.0) refl
        ]
      ]
    ]

-- which case is taken
object-case : (short version object : Bool) (other : Result Request HeaderFault) (req : Request) → short ≡ false → version ≡ true → object ≡ true
    → cond short (Err ShortHeader) (cond (not version) (Err VerMismatch) (cond object (Ok req) other)) ≡ Ok req
object-case short version object other req s v o = rw (s, v, o) refl

vdi-case : (short version object vdi : Bool) (first req : Request) → short ≡ false → version ≡ true → object ≡ false → vdi ≡ true
    → cond short (Err ShortHeader) (cond (not version) (Err VerMismatch) (cond object (Ok first) (cond vdi (Ok req) (Err UnknownOpcode)))) ≡ Ok req
vdi-case short version object vdi first req s v o d = rw (s, v, o, d) refl

pub request-again : (bytes : List ℕ) (req : Request) → IsRequest req → SpellsRequest bytes req → request_in_bytes bytes ≡ Ok req
unfolding obj-front
request-again bytes (Obj req) fits spells =
    let same : obj_at bytes ≡ req = obj-read bytes req fits spells.reserved spells.rest spells.count spells.whole in
    let front : length (obj-front req ++ spells.reserved) ≡ 40 = obj-long req spells.reserved spells.count in
    let long : HEADER_BYTES ≤ length bytes
    = omega (arith, ap length spells.whole, length-append (obj_bytes req spells.reserved) spells.rest, length-append (obj-front req ++ spells.reserved) (u64_bytes req.offset), front) in
    let opcode : is_object_opcode (u8_at 1 bytes) ≡ true = ap (λ (b : List ℕ). is_object_opcode (u8_at 1 b)) spells.whole ∙ fits.opcode in
    object-case (ltb (length bytes) HEADER_BYTES) (eqb (u8_at 0 bytes) VERSION) (is_object_opcode (u8_at 1 bytes)) _ (Obj (obj_at bytes)) (le-ltb (length bytes) HEADER_BYTES long) (ap (λ (b : List ℕ). eqb (u8_at 0 b) VERSION) spells.whole) opcode
    ∙ ap (λ (r : ObjReq). Ok (Obj r)) same
request-again bytes (Vdi req) fits spells =
    let same : vdi_at bytes ≡ req = vdi-read bytes req fits spells.reserved spells.rest spells.whole in
    let long : HEADER_BYTES ≤ length bytes
    = omega (arith, ap length spells.whole, length-append spells.reserved spells.rest, spells.count) in
    let opcode : is_vdi_opcode (u8_at 1 bytes) ≡ true = ap (λ (b : List ℕ). is_vdi_opcode (u8_at 1 b)) spells.whole ∙ fits.opcode in
    vdi-case (ltb (length bytes) HEADER_BYTES) (eqb (u8_at 0 bytes) VERSION) (is_object_opcode (u8_at 1 bytes)) (is_vdi_opcode (u8_at 1 bytes)) (Obj (obj_at bytes)) (Vdi (vdi_at bytes))
    (le-ltb (length bytes) HEADER_BYTES long) (ap (λ (b : List ℕ). eqb (u8_at 0 b) VERSION) spells.whole) (vdi-not-object (u8_at 1 bytes) opcode) opcode
    ∙ ap (λ (r : VdiReq). Ok (Vdi r)) same

-- bytes begin with the spelling of one request
pub one-request : (bytes : List ℕ) (a b : Request) → IsRequest a → IsRequest b → SpellsRequest bytes a → SpellsRequest bytes b → a ≡ b
one-request bytes a b fits_a fits_b spells_a spells_b =
    let same : Ok a ≡ Ok b = sym (request-again bytes a fits_a spells_a) ∙ request-again bytes b fits_b spells_b in cc

pub encoded-request : (req : Request) (rest : List ℕ) → SpellsRequest (request_bytes req (zeros (reserved_of req)) ++ rest) req
encoded-request (Obj req) rest = record { reserved = zeros 6; rest = rest; count = refl; whole = refl }
encoded-request (Vdi req) rest = record { reserved = zeros 8; rest = rest; count = refl; whole = refl }

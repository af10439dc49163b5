-- Replies: what is read is spelled at the front of the bytes, and what is spelled there is read.
use Rattle.std.proofs.Common.{◌≡◌, ℕ, ◌≤◌, Bool, true, false, cond, ltb, eqb, not, ◌||◌, List, ◌++◌, length, take, drop, Result, Ok, Err, refl, sym, ap, subst, ◌∙◌, arith}
use Rattle.std.specs.Prelude.{IfOk}
use Rattle.std.proofs.lemmas.Bool.{ltb-false, le-ltb, eqb-true, not-false}
use Rattle.std.proofs.lemmas.List.{length-append, length-take-le, length-drop}
use Rattle.std.proofs.lemmas.Nat.{from_le_bytes-to_le_bytes_2, from_le_bytes-to_le_bytes_4}
use Rattle.object_id.specs.Fields.{u32_bytes, u8_at, u16_at, u32_at, zeros, AreBytes, Stands}
use Rattle.object_id.proofs.FieldLemmas.{stands-then, stands-first, stands-second, stands-front, stands-part, stands-u32, u32-below, u32-read}
use Rattle.sheep_proto.specs.declared.common.TheConstants.{HEADER_BYTES, VERSION}
use Rattle.sheep_proto.specs.declared.fault.HeaderFault.{HeaderFault}
use Rattle.sheep_proto.specs.declared.fault.HeaderFault.TheVariants.{ShortHeader, VerMismatch, UnknownOpcode}
use Rattle.sheep_proto.specs.declared.reply.VdiRsp.{VdiRsp}
use Rattle.sheep_proto.specs.Headers.{common_bytes, common_at, is_object_opcode, is_vdi_opcode}
use Rattle.sheep_proto.specs.Replies.{rsp_common, reply_bytes, rsp_at, reply_in_bytes, SpellsReply, IsVdiRsp}
use Rattle.sheep_proto.proofs.HeaderLemmas.{passed, common-fits, common-stands}

-- ---- what is read is spelled

rsp-fits : (bytes : List ℕ) → AreBytes bytes → (is_object_opcode (u8_at 1 bytes) || is_vdi_opcode (u8_at 1 bytes)) ≡ true → IsVdiRsp (rsp_at bytes)
rsp-fits bytes fits opcode = record {
  opcode = opcode;
  common = common-fits bytes fits;
  code = u32-below bytes 16 fits;
  vdi_id = u32-below bytes 24 fits;
}

rsp-spelled : (bytes : List ℕ) → AreBytes bytes → HEADER_BYTES ≤ length bytes → u8_at 0 bytes ≡ VERSION → SpellsReply bytes (rsp_at bytes)
rsp-spelled bytes fits long version =
    let to_16 = common-stands bytes fits long version in
    let to_20 = stands-then bytes 0 16 20 (common_bytes (common_at bytes)) (u32_bytes (u32_at 16 bytes)) to_16 (stands-u32 bytes 16 fits (omega arith)) in
    let to_24 = stands-then bytes 0 20 24 _ (take 4 (drop 20 bytes)) to_20 (stands-part bytes 20 4) in
    let to_28 = stands-then bytes 0 24 28 _ (u32_bytes (u32_at 24 bytes)) to_24 (stands-u32 bytes 24 fits (omega arith)) in
    let to_48 = stands-then bytes 0 28 48 _ (take 20 (drop 28 bytes)) to_28 (stands-part bytes 28 20) in
    record {
      between = take 4 (drop 20 bytes);
      last = take 20 (drop 28 bytes);
      rest = drop 48 bytes;
      count_between = length-take-le 4 (drop 20 bytes) (omega (arith, length-drop 20 bytes));
      count_last = length-take-le 20 (drop 28 bytes) (omega (arith, length-drop 28 bytes));
      whole = to_48.parts;
    }

by-opcode : (bytes : List ℕ) (rsp : VdiRsp) (known : Bool) → AreBytes bytes → HEADER_BYTES ≤ length bytes → u8_at 0 bytes ≡ VERSION
    → (is_object_opcode (u8_at 1 bytes) || is_vdi_opcode (u8_at 1 bytes)) ≡ known
    → cond known (Ok (rsp_at bytes)) (Err UnknownOpcode) ≡ Ok rsp → IsVdiRsp rsp × SpellsReply bytes rsp
by-opcode bytes rsp true fits long version known_is e =
    let same : rsp_at bytes ≡ rsp = cc in
    subst (λ (r : VdiRsp). IsVdiRsp r × SpellsReply bytes r) same (rsp-fits bytes fits known_is, rsp-spelled bytes fits long version)
by-opcode bytes rsp false fits long version known_is e = absurd cc

pub reply-spelled : (bytes : List ℕ) (rsp : VdiRsp) → AreBytes bytes → reply_in_bytes bytes ≡ Ok rsp → IsVdiRsp rsp × SpellsReply bytes rsp
reply-spelled bytes rsp fits e =
    let short = passed (ltb (length bytes) HEADER_BYTES) _ _ rsp e in
    let other = passed (not (eqb (u8_at 0 bytes) VERSION)) _ _ rsp short.1 in
    let long : HEADER_BYTES ≤ length bytes = ltb-false (length bytes) HEADER_BYTES short.0 in
    let version : u8_at 0 bytes ≡ VERSION = eqb-true (u8_at 0 bytes) VERSION (not-false _ other.0) in
    by-opcode bytes rsp (is_object_opcode (u8_at 1 bytes) || is_vdi_opcode (u8_at 1 bytes)) fits long version refl other.1

pub reply-is_spelled : (bytes : List ℕ) (r : Result VdiRsp HeaderFault) → AreBytes bytes → r ≡ reply_in_bytes bytes → IfOk r (λ rsp. IsVdiRsp rsp × SpellsReply bytes rsp)
reply-is_spelled bytes (Ok rsp) fits e = reply-spelled bytes rsp fits (sym e)
reply-is_spelled bytes (Err fault) fits e = tt

-- ---- what is spelled is read

-- equal fields make equal replies
same-rsp : (opcode flags epoch id data_length code vdi_id : ℕ) (rsp : VdiRsp) → opcode ≡ rsp.opcode → flags ≡ rsp.flags → epoch ≡ rsp.epoch
    → id ≡ rsp.id → data_length ≡ rsp.data_length → code ≡ rsp.result → vdi_id ≡ rsp.vdi_id
    → (let made : VdiRsp = record { opcode = opcode; flags = flags; epoch = epoch; id = id; data_length = data_length; result = code; vdi_id = vdi_id } in made ≡ rsp)
same-rsp opcode flags epoch id data_length code vdi_id rsp a b c d e f g = rw (a, b, c, d, e, f, g) refl

-- what stands before the first reserved bytes
rsp-front : VdiRsp → List ℕ
rsp-front rsp = common_bytes (rsp_common rsp) ++ u32_bytes rsp.result

-- the header, cut behind them
rsp-stands : (bytes : List ℕ) (rsp : VdiRsp) (spells : SpellsReply bytes rsp) → Stands bytes 24 28 (u32_bytes rsp.vdi_id) × (HEADER_BYTES ≤ length bytes)
unfolding rsp-front
rsp-stands bytes rsp spells =
    let front : List ℕ = rsp-front rsp ++ spells.between in
    let at_24 : length (rsp-front rsp ++ spells.between) ≡ 24 = omega (arith, length-append (rsp-front rsp) spells.between, spells.count_between) in
    let at_28 : length (rsp-front rsp ++ spells.between ++ u32_bytes rsp.vdi_id) ≡ 28 = omega (arith, length-append (rsp-front rsp ++ spells.between) (u32_bytes rsp.vdi_id), at_24) in
    let at_48 : length (reply_bytes rsp spells.between spells.last) ≡ 48 = omega (arith, length-append (rsp-front rsp ++ spells.between ++ u32_bytes rsp.vdi_id) spells.last, at_28, spells.count_last) in
    let whole : Stands bytes 0 48 (rsp-front rsp ++ spells.between ++ u32_bytes rsp.vdi_id ++ spells.last)
    = stands-front bytes (reply_bytes rsp spells.between spells.last) spells.rest 48 (sym at_48) spells.whole in
    let to_28 : Stands bytes 0 28 (rsp-front rsp ++ spells.between ++ u32_bytes rsp.vdi_id)
    = stands-first bytes 0 28 48 (rsp-front rsp ++ spells.between ++ u32_bytes rsp.vdi_id) spells.last (omega arith) whole in (
      stands-second bytes 0 24 28 (rsp-front rsp ++ spells.between) (u32_bytes rsp.vdi_id) (omega arith) to_28,
      omega (arith, ap length spells.whole, length-append (reply_bytes rsp spells.between spells.last) spells.rest, at_48),
    )

rsp-read : (bytes : List ℕ) (rsp : VdiRsp) → IsVdiRsp rsp → (spells : SpellsReply bytes rsp) → rsp_at bytes ≡ rsp
rsp-read bytes rsp fits spells =
    let whole = spells.whole in
    same-rsp (u8_at 1 bytes) (u16_at 2 bytes) (u32_at 4 bytes) (u32_at 8 bytes) (u32_at 12 bytes) (u32_at 16 bytes) (u32_at 24 bytes) rsp
    (ap (u8_at 1) whole)
    (ap (u16_at 2) whole ∙ from_le_bytes-to_le_bytes_2 rsp.flags fits.common.flags)
    (ap (u32_at 4) whole ∙ from_le_bytes-to_le_bytes_4 rsp.epoch fits.common.epoch)
    (ap (u32_at 8) whole ∙ from_le_bytes-to_le_bytes_4 rsp.id fits.common.id)
    (ap (u32_at 12) whole ∙ from_le_bytes-to_le_bytes_4 rsp.data_length fits.common.data_length)
    (ap (u32_at 16) whole ∙ from_le_bytes-to_le_bytes_4 rsp.result fits.code)
    (u32-read bytes 24 28 rsp.vdi_id fits.vdi_id (rsp-stands bytes rsp spells).0)

reply-case : (short version known : Bool) (rsp : VdiRsp) → short ≡ false → version ≡ true → known ≡ true
    → cond short (Err ShortHeader) (cond (not version) (Err VerMismatch) (cond known (Ok rsp) (Err UnknownOpcode))) ≡ Ok rsp
reply-case short version known rsp s v k = rw (s, v, k) refl

pub reply-again : (bytes : List ℕ) (rsp : VdiRsp) → IsVdiRsp rsp → SpellsReply bytes rsp → reply_in_bytes bytes ≡ Ok rsp
reply-again bytes rsp fits spells =
    let same : rsp_at bytes ≡ rsp = rsp-read bytes rsp fits spells in
    let long : HEADER_BYTES ≤ length bytes = (rsp-stands bytes rsp spells).1 in
    let opcode : (is_object_opcode (u8_at 1 bytes) || is_vdi_opcode (u8_at 1 bytes)) ≡ true
    = ap (λ (b : List ℕ). is_object_opcode (u8_at 1 b) || is_vdi_opcode (u8_at 1 b)) spells.whole ∙ fits.opcode in
    reply-case (ltb (length bytes) HEADER_BYTES) (eqb (u8_at 0 bytes) VERSION) (is_object_opcode (u8_at 1 bytes) || is_vdi_opcode (u8_at 1 bytes)) (rsp_at bytes)
    (le-ltb (length bytes) HEADER_BYTES long) (ap (λ (b : List ℕ). eqb (u8_at 0 b) VERSION) spells.whole) opcode
    ∙ ap (λ (r : VdiRsp). Ok r) same

pub one-reply : (bytes : List ℕ) (a b : VdiRsp) → IsVdiRsp a → IsVdiRsp b → SpellsReply bytes a → SpellsReply bytes b → a ≡ b
one-reply bytes a b fits_a fits_b spells_a spells_b =
    let same : Ok a ≡ Ok b = sym (reply-again bytes a fits_a spells_a) ∙ reply-again bytes b fits_b spells_b in cc

pub encoded-reply : (rsp : VdiRsp) (rest : List ℕ) → SpellsReply (reply_bytes rsp (zeros 4) (zeros 20) ++ rest) rsp
encoded-reply rsp rest = record { between = zeros 4; last = zeros 20; rest = rest; count_between = refl; count_last = refl; whole = refl }

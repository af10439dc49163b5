-- The first 16 bytes of a header: spelling what is read gives them back, and reading what is spelled gives the fields.
use Rattle.std.proofs.Common.{◌≡◌, ℕ, ◌≤◌, Bool, true, false, cond, ltb, eqb, not, List, ◌++◌, length, drop, Result, Ok, Err, refl, sym, ap, subst, ◌∙◌, arith}
use Rattle.std.specs.Prelude.{IfOk}
use Rattle.std.proofs.lemmas.Bool.{ltb-false, le-ltb, eqb-true, not-false}
use Rattle.std.proofs.lemmas.Nat.{from_le_bytes-to_le_bytes_2, from_le_bytes-to_le_bytes_4}
use Rattle.object_id.specs.Fields.{u8_bytes, u16_bytes, u32_bytes, u8_at, u16_at, u32_at, AreBytes, Stands}
use Rattle.object_id.proofs.FieldLemmas.{stands-then, stands-u8, stands-u16, stands-u32, u16-below, u32-below}
use Rattle.sheep_proto.specs.declared.common.Common.{Common}
use Rattle.sheep_proto.specs.declared.common.TheConstants.{HEADER_BYTES, VERSION}
use Rattle.sheep_proto.specs.declared.fault.HeaderFault.{HeaderFault}
use Rattle.sheep_proto.specs.declared.fault.HeaderFault.TheVariants.{ShortHeader, VerMismatch}
use Rattle.sheep_proto.specs.Headers.{common_bytes, common_at, common_of, IsCommon}

-- a test that did not refuse
pub passed : {A : Type 0} (b : Bool) (fault : HeaderFault) (x : Result A HeaderFault) (y : A) → cond b (Err fault) x ≡ Ok y → (b ≡ false) × (x ≡ Ok y)
passed true fault x y e = absurd cc
passed false fault x y e = (refl, e)

-- the fields of the first 16 bytes fit
pub common-fits : (bytes : List ℕ) → AreBytes bytes → IsCommon (common_at bytes)
common-fits bytes fits = record {
  opcode = fits 1;
  flags = u16-below bytes 2 fits;
  epoch = u32-below bytes 4 fits;
  id = u32-below bytes 8 fits;
  data_length = u32-below bytes 12 fits;
}

-- the first 16 bytes spell their fields
pub common-stands : (bytes : List ℕ) → AreBytes bytes → HEADER_BYTES ≤ length bytes → u8_at 0 bytes ≡ VERSION → Stands bytes 0 16 (common_bytes (common_at bytes))
common-stands bytes fits long version =
    let first : Stands bytes 0 1 (u8_bytes VERSION) = subst (λ (v : ℕ). Stands bytes 0 1 (u8_bytes v)) version (stands-u8 bytes 0 (omega arith)) in
    let to_2 = stands-then bytes 0 1 2 (u8_bytes VERSION) (u8_bytes (u8_at 1 bytes)) first (stands-u8 bytes 1 (omega arith)) in
    let to_4 = stands-then bytes 0 2 4 _ (u16_bytes (u16_at 2 bytes)) to_2 (stands-u16 bytes 2 fits (omega arith)) in
    let to_8 = stands-then bytes 0 4 8 _ (u32_bytes (u32_at 4 bytes)) to_4 (stands-u32 bytes 4 fits (omega arith)) in
    let to_12 = stands-then bytes 0 8 12 _ (u32_bytes (u32_at 8 bytes)) to_8 (stands-u32 bytes 8 fits (omega arith)) in
    stands-then bytes 0 12 16 _ (u32_bytes (u32_at 12 bytes)) to_12 (stands-u32 bytes 12 fits (omega arith))

-- what is known of bytes whose first 16 are read
pub record IsRead (bytes : List ℕ) (common : Common) : Type 0 where
  pub long : HEADER_BYTES ≤ length bytes
  pub version : u8_at 0 bytes ≡ VERSION
  pub fields : common_at bytes ≡ common

common-read : (bytes : List ℕ) (common : Common) → common_of bytes ≡ Ok common → IsRead bytes common
common-read bytes common e =
    let short = passed (ltb (length bytes) HEADER_BYTES) _ _ common e in
    let other = passed (not (eqb (u8_at 0 bytes) VERSION)) _ _ common short.1 in
    let same : Ok (common_at bytes) ≡ Ok common = other.1 in
    record {
      long = ltb-false (length bytes) HEADER_BYTES short.0;
      version = eqb-true (u8_at 0 bytes) VERSION (not-false _ other.0);
      fields = cc;
    }

common-spelled : (bytes : List ℕ) (common : Common) → AreBytes bytes → common_of bytes ≡ Ok common
    → IsCommon common × Stands bytes 0 16 (common_bytes common)
common-spelled bytes common fits e =
    let read = common-read bytes common e in
    subst (λ (c : Common). IsCommon c × Stands bytes 0 16 (common_bytes c)) read.fields (common-fits bytes fits, common-stands bytes fits read.long read.version)

pub common-is_spelled : (bytes : List ℕ) (r : Result Common HeaderFault) → AreBytes bytes → r ≡ common_of bytes
    → IfOk r (λ common. IsCommon common × Stands bytes 0 16 (common_bytes common))
common-is_spelled bytes (Ok common) fits e = common-spelled bytes common fits (sym e)
common-is_spelled bytes (Err fault) fits e = tt

-- equal fields make equal headers
same-common : (opcode flags epoch id data_length : ℕ) (common : Common) → opcode ≡ common.opcode → flags ≡ common.flags → epoch ≡ common.epoch
    → id ≡ common.id → data_length ≡ common.data_length
    → (let made : Common = record { opcode = opcode; flags = flags; epoch = epoch; id = id; data_length = data_length } in made ≡ common)
same-common opcode flags epoch id data_length common a b c d e = rw (a, b, c, d, e) refl

common-case : (short version : Bool) (common : Common) → short ≡ false → version ≡ true
    → cond short (Err ShortHeader) (cond (not version) (Err VerMismatch) (Ok common)) ≡ Ok common
common-case short version common s v = rw (s, v) refl

pub common-again : (bytes : List ℕ) (common : Common) → IsCommon common → HEADER_BYTES ≤ length bytes → Stands bytes 0 16 (common_bytes common)
    → common_of bytes ≡ Ok common
common-again bytes common fits long stands =
    let whole : bytes ≡ common_bytes common ++ drop 16 bytes = stands.parts in
    let same : common_at bytes ≡ common
    = same-common (u8_at 1 bytes) (u16_at 2 bytes) (u32_at 4 bytes) (u32_at 8 bytes) (u32_at 12 bytes) common
    (ap (u8_at 1) whole)
    (ap (u16_at 2) whole ∙ from_le_bytes-to_le_bytes_2 common.flags fits.flags)
    (ap (u32_at 4) whole ∙ from_le_bytes-to_le_bytes_4 common.epoch fits.epoch)
    (ap (u32_at 8) whole ∙ from_le_bytes-to_le_bytes_4 common.id fits.id)
    (ap (u32_at 12) whole ∙ from_le_bytes-to_le_bytes_4 common.data_length fits.data_length) in
    common-case (ltb (length bytes) HEADER_BYTES) (eqb (u8_at 0 bytes) VERSION) (common_at bytes) (le-ltb (length bytes) HEADER_BYTES long) (ap (λ (b : List ℕ). eqb (u8_at 0 b) VERSION) whole)
    ∙ ap (λ (c : Common). Ok c) same

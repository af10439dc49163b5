-- The first 16 bytes of a header, and what the refusals before its fields say.
use Rattle.std.proofs.Common.{◌≡◌, ℕ, ◌+◌, ◌<◌, ◌≤◌, ◌^◌, Bool, true, false, cond, List, [], ◌∷◌, ◌++◌, length, drop, Option, Some, None, Result, Ok, Err, refl, sym, ap, subst, ◌∙◌, arith, ◌==◌, ◌&&◌, not}
use Rattle.std.specs.Option.{ok_or}
use Rattle.std.specs.Prelude.{nat_lt, nat_eq, eqb, not}
use Rattle.std.proofs.lemmas.Bool.Decides.{nat_tests}
use Rattle.std.proofs.lemmas.List.{get_or-drop}
use Rattle.std.proofs.lemmas.Bool.{eqb-true, ltb-false, le-ltb, not-false, and_parts, and_from, eq-eqb}
use Rattle.sheep_proto.specs.declared.common.Common.{Common}
use Rattle.peer_proto.specs.declared.opcode.Opcode.{Opcode}
use Rattle.peer_proto.specs.declared.opcode.Opcode.TheVariants as opcodes
use Rattle.peer_proto.specs.declared.fault.PeerFault.{PeerFault}
use Rattle.peer_proto.specs.declared.fault.PeerFault.TheVariants as faults
use Rattle.object_id.specs.Fields.{AreBytes, u8_at}
use Rattle.peer_proto.specs.Opcode.{opcode_byte, opcode_of}
use Rattle.sheep_proto.specs.Headers.{common_bytes, common_at, IsCommon}
use Rattle.peer_proto.specs.Header.{opcode_in, peer_header_in, ◌>>=◌, when, AnswersBytes}
use Rattle.std.proofs.lemmas.Nat.{from_le_bytes-to_le_bytes_2, from_le_bytes-to_le_bytes_4}
use Rattle.std.proofs.lemmas.Option.{same_Some}

-- ---- reading in steps

pub bind-ok : {A B : Type 0} (read : Result A PeerFault) (next : A → Result B PeerFault) (y : B) → (read >>= next) ≡ Ok y
    → (x : A) × (read ≡ Ok x) × (next x ≡ Ok y)
bind-ok (Ok x) next y h = (x, refl, h)
bind-ok (Err f) next y h = absurd cc

abbrev done : {A : Type 0} → A → Result A PeerFault
done x = Ok x

ok-is : {A : Type 0} (x y : A) → done x ≡ done y → x ≡ y
ok-is x y h = cc

pub when-ok : {A : Type 0} (fits : Bool) (x y : A) → when fits x ≡ Ok y → (fits ≡ true) × (x ≡ y)
when-ok true x y h = (refl, cc)
when-ok false x y h = absurd cc

-- what a later step answers is what both steps read
pub answers-then : {A B : Type 0} (read : Result A PeerFault) (next : A → Result B PeerFault) (x : A) (answer : Result B PeerFault)
    → read ≡ Ok x → AnswersBytes (next x) answer → AnswersBytes (read >>= next) answer
answers-then read next x answer is h = subst (λ (r : Result _ PeerFault). AnswersBytes (r >>= next) answer) (sym is) h

pub answered : {A : Type 0} (read : Result A PeerFault) (x : A) → AnswersBytes read (Ok x) → read ≡ Ok x
answered (Ok y) x h = cc
answered (Err f) x h = absurd cc

-- ---- the fields that requests and replies share

pub record CommonFacts (common : Common) (body : List ℕ) : Type 0 where
  pub flags : common.flags ≡ 0
  pub epoch : 1 ≤ common.epoch
  pub counted : common.data_length ≡ length body

pub common-facts : (common : Common) (body : List ℕ)
    → (common.flags == 0 && not (common.epoch == 0) && common.data_length == length body) ≡ true → CommonFacts common body
common-facts common body h =
    let whole = and_parts _ _ h in
    let first = and_parts _ _ whole.0 in
    record { flags = eqb-true _ _ first.0; epoch = grind (arith, nat_tests, first.1); counted = eqb-true _ _ whole.1 }

pub common-passes : (common : Common) (body : List ℕ) → CommonFacts common body
    → (common.flags == 0 && not (common.epoch == 0) && common.data_length == length body) ≡ true
common-passes common body facts =
    let flags : (common.flags == 0) ≡ true = eq-eqb _ _ facts.flags in
    let epoch : not (common.epoch == 0) ≡ true = grind (arith, nat_tests, facts.epoch) in
    let counted : (common.data_length == length body) ≡ true = eq-eqb _ _ facts.counted in
    and_from _ _ (and_from _ _ flags epoch) counted

-- ---- opcodes

pub opcode_of-byte : (opcode : Opcode) → opcode_of (opcode_byte opcode) ≡ Some opcode
opcode_of-byte opcodes.Create = refl
opcode_of-byte opcode = refl

-- of values by their bytes, the one that is chosen has the byte
pub byte-chosen : {X : Type 0} (byte_of : X → ℕ) (b : Bool) (byte n : ℕ) (x found : X) (rest : Option X) → (byte == n) ≡ b → byte_of x ≡ n
    → cond b (Some x) rest ≡ Some found → (rest ≡ Some found → byte_of found ≡ byte) → byte_of found ≡ byte
byte-chosen byte_of true byte n x found rest test is h later = ap byte_of (sym (same_Some x found h)) ∙ is ∙ sym (eqb-true byte n test)
byte-chosen byte_of false byte n x found rest test is h later = later h

pub opcode_byte-of : (byte : ℕ) (opcode : Opcode) → opcode_of byte ≡ Some opcode → opcode_byte opcode ≡ byte
opcode_byte-of byte opcode h =
    byte-chosen opcode_byte (eqb byte 0xA1) byte 0xA1 opcodes.Create opcode _ refl refl h (λ h2.
    byte-chosen opcode_byte (eqb byte 0xA2) byte 0xA2 opcodes.Read opcode _ refl refl h2 (λ h3.
    byte-chosen opcode_byte (eqb byte 0xA3) byte 0xA3 opcodes.Write opcode _ refl refl h3 (λ h4.
    byte-chosen opcode_byte (eqb byte 0xA4) byte 0xA4 opcodes.List opcode _ refl refl h4 (λ h5.
    byte-chosen opcode_byte (eqb byte 0xA5) byte 0xA5 opcodes.RecoverRead opcode None refl refl h5 (λ h6. absurd (cc h6))))))

known-ok : (found : Option Opcode) (opcode : Opcode) → ok_or found faults.UnknownOpcode ≡ Ok opcode → found ≡ Some opcode
known-ok (Some o) opcode h = cc
known-ok None opcode h = absurd cc

-- ---- the refusals before the fields

-- both parts of a header that is read
pub header-parts : (bytes : List ℕ) (opcode : Opcode) (common : Common) → peer_header_in bytes ≡ Ok (opcode, common)
    → (opcode_in bytes ≡ Ok opcode) × (common ≡ common_at bytes)
header-parts bytes opcode common h =
    let b = bind-ok (opcode_in bytes) (λ (o : Opcode). Ok (o, common_at bytes)) (opcode, common) h in
    let pair : (b.0, common_at bytes) ≡ (opcode, common) = ok-is (b.0, common_at bytes) (opcode, common) b.2 in
    (b.1 ∙ ap (λ (p : Opcode × Common). Ok p.0) pair, sym (ap (λ (p : Opcode × Common). p.1) pair))

-- bytes with a header of this version and this opcode
pub record HasHeader (bytes : List ℕ) (opcode : Opcode) : Type 0 where
  pub long : 48 ≤ length bytes
  pub version : u8_at 0 bytes ≡ 1
  pub opcode_is : opcode_byte opcode ≡ u8_at 1 bytes

tested : (short other : Bool) (bytes : List ℕ) (opcode : Opcode) → nat_lt (length bytes) 48 ≡ short → not (eqb (u8_at 0 bytes) 1) ≡ other
    → cond short (Err faults.ShortHeader) (cond other (Err faults.VerMismatch) (ok_or (opcode_of (u8_at 1 bytes)) faults.UnknownOpcode)) ≡ Ok opcode
    → HasHeader bytes opcode
tested true other bytes opcode s o h = absurd cc
tested false true bytes opcode s o h = absurd cc
tested false false bytes opcode s o h = record {
  long = ltb-false _ _ s;
  version = eqb-true (u8_at 0 bytes) 1 (not-false _ o);
  opcode_is = opcode_byte-of (u8_at 1 bytes) opcode (known-ok (opcode_of (u8_at 1 bytes)) opcode h);
}

pub header-in : (bytes : List ℕ) (opcode : Opcode) → opcode_in bytes ≡ Ok opcode → HasHeader bytes opcode
header-in bytes opcode h = tested (nat_lt (length bytes) 48) (not (eqb (u8_at 0 bytes) 1)) bytes opcode refl refl h

pub opcode-in : (bytes : List ℕ) (opcode : Opcode) → HasHeader bytes opcode → opcode_in bytes ≡ Ok opcode
opcode-in bytes opcode head =
    let long : nat_lt (length bytes) 48 ≡ false = le-ltb _ _ head.long in
    let known : opcode_of (u8_at 1 bytes) ≡ Some opcode = ap opcode_of (sym head.opcode_is) ∙ opcode_of-byte opcode in
    rw (long, head.version, known) refl

-- ---- the first 16 bytes

abbrev made : ℕ → ℕ → ℕ → ℕ → ℕ → Common
made opcode flags epoch id data_length = record { opcode = opcode; flags = flags; epoch = epoch; id = id; data_length = data_length }

pub same_common : (o p f g d e epoch id : ℕ) → o ≡ p → f ≡ g → d ≡ e → made o f epoch id d ≡ made p g epoch id e
same_common o p f g d e epoch id eo ef ed = rw (eo, ef, ed) refl

read_common : (o f g e x i j d y : ℕ) → f ≡ g → e ≡ x → i ≡ j → d ≡ y → made o f e i d ≡ made o g x j y
read_common o f g e x i j d y ef ee ei ed = rw (ef, ee, ei, ed) refl

pub common-read : (head : Common) (rest : List ℕ) → IsCommon head → common_at (common_bytes head ++ rest) ≡ head
common-read head rest range =
    let read : Common = common_at (common_bytes head ++ rest) in
    read_common head.opcode read.flags head.flags read.epoch head.epoch read.id head.id read.data_length head.data_length
    (from_le_bytes-to_le_bytes_2 head.flags range.flags)
    (from_le_bytes-to_le_bytes_4 head.epoch range.epoch)
    (from_le_bytes-to_le_bytes_4 head.id range.id)
    (from_le_bytes-to_le_bytes_4 head.data_length range.data_length)

-- no byte stands behind the header
pub none : (body : List ℕ) → nat_eq (length body) 0 ≡ true → [] ≡ body
none [] h = refl
none (b ∷ body) h = absurd (grind (arith, nat_tests, h))

pub byte-below : (opcode : Opcode) → opcode_byte opcode < 2 ^ 8
byte-below opcodes.Create = omega arith
byte-below opcode = omega arith

-- what stands behind a header is bytes too
pub drop-bytes : (n : ℕ) (bytes : List ℕ) → AreBytes bytes → AreBytes (drop n bytes)
drop-bytes n bytes fits k = rw get_or-drop (fits (n + k))

-- what two readings of one text give is the same
pub same_reading : {A : Type 0} (read : Result A PeerFault) (x y : A) → read ≡ Ok x → read ≡ Ok y → x ≡ y
same_reading read x y first second = ok-is x y (sym first ∙ second)

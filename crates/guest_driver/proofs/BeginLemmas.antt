-- How a request begins: what its refusal says, and that its pieces are in the disk's objects.
use Rattle.std.proofs.Common.{◌≡◌, ℕ, zero, suc, ◌+◌, ◌*◌, ◌^◌, ◌<◌, ◌≤◌, ◌==◌, ◌&&◌, ◌%◌, not, nat_le, Bool, true, false, cond, List, [], length, All, Option, Some, None, IsTrue, is_some, refl, ap, sym, subst, ◌∙◌, arith}
use Rattle.std.proofs.lemmas.Bool.{leb-true, eqb-true}
use Rattle.std.proofs.Math.Pow.{pow_mono}
use Rattle.std.proofs.Math.Nat.{mul-le-mul_left}
use Rattle.object_id.specs.declared.cause.Cause.{Cause}
use Rattle.object_id.specs.declared.cause.Cause.TheVariants.{NoVdi, Readonly, InvalidParms}
use Rattle.object_id.specs.declared.entry.VdiSpec.{VdiSpec}
use Rattle.object_id.specs.declared.limits.TheConstants.{OBJECTS_MAX}
use Rattle.object_id.specs.Spec.{IsSpec, objects_of}
use Rattle.inode.specs.Layout.{Content}
use Rattle.peer_proto.specs.declared.guest.DiskAsk.{DiskAsk}
use Rattle.peer_proto.specs.declared.guest.DiskAsk.TheVariants as asks
use Rattle.peer_proto.specs.declared.guest.GuestRsp.TheVariants.{Refused}
use Rattle.guest_driver.specs.declared.disk.Disk.{Disk}
use Rattle.guest_driver.specs.Pieces.{Piece, offset_of, size_of, is_ask, pieces, IsPiece}
use Rattle.guest_driver.specs.Refusals.{past_end, refusal_on}
use Rattle.guest_driver.specs.Driver.{reply_step, read_on, write_on, begin_unless_refused, begin_driver}
use Rattle.guest_driver.specs.Extent.{IsExtent}
use Rattle.guest_driver.specs.OnDisk.{IsPieceOf, IsDriverOn, act_takes_memory, beginning_takes_memory_by, beginning_takes_memory}
use Rattle.guest_driver.proofs.PieceLemmas.{pieces_there, pieces_inside}
use Rattle.guest_driver.proofs.NextLemmas.{read-keeps, write-keeps}

pub not-refused : (refusal : Option Cause) → ((cause : Cause) → refusal ≡ Some cause → ⊥) → refusal ≡ None
not-refused None other = refl
not-refused (Some cause) other = absurd (other cause refl)

pub begin-refused : (disk : Disk) (ask : DiskAsk) (cause : Cause) → refusal_on disk false ask ≡ Some cause
    → begin_driver disk ask ≡ reply_step disk.inode (Refused cause)
unfolding begin_driver
begin-refused disk ask cause e = ap (begin_unless_refused disk.inode ask) e

pub begin-read : (disk : Disk) (ask : DiskAsk) (offset size : ℕ) → ask ≡ asks.Read offset size → refusal_on disk false ask ≡ None
    → begin_driver disk ask ≡ read_on disk.inode [] (pieces disk.inode.spec.shift offset size)
unfolding begin_driver
begin-read disk ask offset size is e =
    ap (begin_unless_refused disk.inode ask) e ∙ ap (λ (ask : DiskAsk). begin_unless_refused disk.inode ask None) is

pub begin-write : (disk : Disk) (ask : DiskAsk) (offset : ℕ) (payload : List ℕ) → ask ≡ asks.Write offset payload → refusal_on disk false ask ≡ None
    → begin_driver disk ask ≡ write_on disk.inode payload (pieces disk.inode.spec.shift offset (length payload))
unfolding begin_driver
begin-write disk ask offset payload is e =
    ap (begin_unless_refused disk.inode ask) e ∙ ap (λ (ask : DiskAsk). begin_unless_refused disk.inode ask None) is

-- a request that isn't refused ends inside the disk
inside-by : (end size : ℕ) (inside : Bool) → nat_le end size ≡ inside → cond inside None (Some InvalidParms) ≡ None → end ≤ size
inside-by end size true e none = leb-true end size e
inside-by end size false e none = absurd (cc (none))

read-passed : (snapshot : Bool) (past : Option Cause) → cond (snapshot && false) (Some NoVdi) past ≡ None → past ≡ None
read-passed true past e = e
read-passed false past e = e

write-passed : (snapshot : Bool) (past : Option Cause) → cond snapshot (Some Readonly) past ≡ None → past ≡ None
write-passed true past e = absurd (cc (e))
write-passed false past e = e

pub ends-inside : (disk : Disk) (ask : DiskAsk) → refusal_on disk false ask ≡ None → offset_of ask + size_of ask ≤ disk.inode.spec.size
ends-inside disk (asks.Read offset size) e =
    inside-by (offset + size) disk.inode.spec.size (nat_le (offset + size) disk.inode.spec.size) refl
    (read-passed disk.snapshot (past_end disk.inode (asks.Read offset size)) e)
ends-inside disk (asks.Write offset payload) e =
    inside-by (offset + length payload) disk.inode.spec.size (nat_le (offset + length payload) disk.inode.spec.size) refl
    (write-passed disk.snapshot (past_end disk.inode (asks.Write offset payload)) e)

-- it asks for something
some-by : (whole : Bool) (other : Bool) (size : ℕ) (none : Bool) → (size == 0) ≡ none → IsTrue (whole && other && not none) → 1 ≤ size
some-by true true zero true e is = absurd (cc (is))
some-by true true zero false e is = absurd (cc (e))
some-by true true (suc n) none e is = omega arith
some-by true false size none e is = absurd (cc (is))
some-by false other size none e is = absurd (cc (is))

pub asks-some : (ask : DiskAsk) → IsTrue (is_ask ask) → 1 ≤ size_of ask
asks-some ask is = some-by (offset_of ask % 512 == 0) (size_of ask % 512 == 0) (size_of ask) (size_of ask == 0) refl is

-- whole blocks
blocks-by : (at long : ℕ) (whole other some : Bool) → (at == 0) ≡ whole → (long == 0) ≡ other → IsTrue (whole && other && some)
    → (at ≡ 0) × (long ≡ 0)
blocks-by at long true true some e f is = (eqb-true _ _ e, eqb-true _ _ f)
blocks-by at long true false some e f is = absurd (cc (is))
blocks-by at long false other some e f is = absurd (cc (is))

pub asks-blocks : (ask : DiskAsk) → IsTrue (is_ask ask) → (offset_of ask % 512 ≡ 0) × (size_of ask % 512 ≡ 0)
asks-blocks ask is =
    blocks-by (offset_of ask % 512) (size_of ask % 512) (offset_of ask % 512 == 0) (size_of ask % 512 == 0) (not (size_of ask == 0)) refl refl is

-- where it is on the disk
pub extent-is : (spec : VdiSpec) (shift offset size : ℕ) → IsSpec spec → shift ≡ spec.shift → 1 ≤ size
    → (offset % 512 ≡ 0) × (size % 512 ≡ 0) → offset + size ≤ spec.size → IsExtent (record { shift = shift; offset = offset; size = size })
extent-is spec shift offset size is e some blocks within =
    subst (λ shift. IsExtent (record { shift = shift; offset = offset; size = size })) (sym e) (record {
      shift = is.shift;
      some = some;
      blocks = blocks;
      end = omega (arith, most, within, wide);
      objects = omega (arith, most, within);
    })
  where
    most : spec.size ≤ OBJECTS_MAX * 2 ^ spec.shift
    most = is.size.1

    wide : OBJECTS_MAX * 2 ^ spec.shift ≤ OBJECTS_MAX * 2 ^ 24
    wide = mul-le-mul_left OBJECTS_MAX (pow_mono is.shift.1)

-- its pieces are in the disk's objects
both : (spec : VdiSpec) (pieces : List Piece) → All (λ (piece : Piece). piece.index < objects_of spec) pieces → All (IsPiece spec.shift) pieces
    → All (IsPieceOf spec) pieces
both spec pieces there inside = λ k d within. record { object = there k d within; within = inside k d within }

pub pieces-are : (spec : VdiSpec) (offset size : ℕ) → 1 ≤ size → offset + size ≤ spec.size → All (IsPieceOf spec) (pieces spec.shift offset size)
pieces-are spec offset size some within =
    both spec (pieces spec.shift offset size) (pieces_there spec offset size some within) (pieces_inside spec.shift offset size some)

pub read-begins-on : (inode : Content) (offset size : ℕ) → 1 ≤ size → offset + size ≤ inode.spec.size
    → IsDriverOn inode (read_on inode [] (pieces inode.spec.shift offset size)).driver
read-begins-on inode offset size some within =
    read-keeps (IsPieceOf inode.spec) inode [] (pieces inode.spec.shift offset size) (pieces-are inode.spec offset size some within)

pub write-begins-on : (inode : Content) (offset : ℕ) (payload : List ℕ) → 1 ≤ length payload → offset + length payload ≤ inode.spec.size
    → IsDriverOn inode (write_on inode payload (pieces inode.spec.shift offset (length payload))).driver
write-begins-on inode offset payload some within =
    write-keeps (IsPieceOf inode.spec) inode payload (pieces inode.spec.shift offset (length payload))
    (pieces-are inode.spec offset (length payload) some within)

pub begin-memory : (disk : Disk) (ask : DiskAsk) (offset : ℕ) (payload : List ℕ) → ask ≡ asks.Write offset payload → refusal_on disk false ask ≡ None
    → beginning_takes_memory disk ask ≡ act_takes_memory (begin_driver disk ask).act
begin-memory disk ask offset payload is none =
    ap (λ (refusal : Option Cause). beginning_takes_memory_by disk ask (is_some refusal)) none
    ∙ ap (λ (ask : DiskAsk). beginning_takes_memory_by disk ask false) is
    ∙ sym (ap (λ (ask : DiskAsk). act_takes_memory (begin_driver disk ask).act) is)

-- What comes of a piece may be read of its blocks, where what a block may come to be read as may be, whichever requests are refused; so may
-- zeros of holes; and what may be read so may be read.
use Rattle.std.proofs.Common.{◌≡◌, ◌≢◌, inl, inr, ⊎_elim, ℕ, zero, suc, ◌*◌, ◌-◌, Bool, true, false, List, [], ◌∷◌, Some, None}
use Rattle.std.proofs.Common.{refl, sym, ap, ◌∙◌}
use Rattle.std.specs.Prelude.{slice_get}
use Rattle.std.specs.List.{list_any}
use Rattle.std.specs.Str.{bytes_eq}
use Rattle.std.proofs.lemmas.Bool.{and_parts, or_left, or_right}
use Rattle.std.proofs.lemmas.List.Elements.{All-nil, All-cons, All-head, All-tail}
use Rattle.std.proofs.lemmas.Option.{same_Some}
use Rattle.object_id.specs.declared.limits.TheConstants.{BLOCK_BYTES}
use Rattle.object_id.specs.declared.oid.Kind.TheVariants.{Block}
use Rattle.object_store.specs.Bytes.{piece_at}
use Rattle.gf256.specs.Part.{is_in_strips}
use Rattle.inode.specs.Layout.{Content}
use Rattle.disk_history.specs.Ledger.{Item, Ledger}
use Rattle.disk_history.specs.Legal.{standing, is_torn}
use Rattle.vdi_directory.specs.declared.effect.Effect.{Effect}
use Rattle.guest_driver.specs.Pieces.{Piece}
use Rattle.overlap_law.specs.Attempts.{AttemptRecord}
use Rattle.overlap_law.specs.StayingBlocks.{MayStay, Stays, WasServed, IsHomeToCome, BlocksStayWritten}
use Rattle.overlap_law.specs.ToldReads.{MayBeReadAs, MayStayReadAs, PieceMayBeRead, PieceIsToCome, HoleMayBeRead}
use Rattle.overlap_law.specs.ToldReads.{HolesMayBeRead, HoleIsToCome, HolesAreToCome}
use Rattle.overlap_law.specs.Words.{Hosts, bytes_by}
use Rattle.overlap_law.specs.WrittenBlocks.{items_at, is_torn_here}
use Rattle.overlap_law.proofs.BlocksOfAnyDisk.{any_block}

-- ---- what stays may be read

any_at : {X : Type 0} (test : X → Bool) (xs : List X) (place : ℕ) (x : X) → slice_get xs place ≡ Some x → test x ≡ true
    → list_any test xs ≡ true
any_at test [] place x at is = absurd (cc (at))
any_at test (y ∷ xs) zero x at is = or_left (test y) (list_any test xs) (ap test (same_Some y x at) ∙ is)
any_at test (y ∷ xs) (suc place) x at is = or_right (test y) (list_any test xs) (any_at test xs place x at is)

pub stays_read : (attempts : List AttemptRecord) (items : List Item) (bytes : List ℕ) → MayStayReadAs attempts items bytes
    → MayBeReadAs items bytes
stays_read attempts items bytes (inl torn) = inl torn
stays_read attempts items bytes (inr may) =
    inr (any_at (λ (item : Item). bytes_eq item.bytes bytes) (standing items) may.place may.item may.among may.same)

-- ---- what comes of a piece

-- an item of a request of which a message was served stays
served_stays : (attempts : List AttemptRecord) (items : List Item) (req : ℕ) (bytes read : List ℕ) → WasServed attempts req → bytes ≡ read
    → MayStay attempts items (Some req) bytes → MayStay attempts items None read
served_stays attempts items req bytes read served same may = record {
  place = may.place;
  item = may.item;
  among = may.among;
  same = ap (bytes_eq may.item.bytes) (sym same) ∙ may.same;
  stays = inr (⊎_elim
      (λ (own : may.item.request ≡ Some req). inr (inr (req, own, served)))
      (λ (stays : Stays attempts may.item). stays)
      may.stays);
}

module _ (ledger : Ledger) (effects : List Effect) (good_id : ℕ → Bool) (hosts : Hosts) (attempts : List AttemptRecord)
    (written : BlocksStayWritten ledger effects good_id hosts attempts) (inode : Content) where
  pub piece_read : (home : ℕ) (piece : Piece) (bytes : List ℕ) → IsHomeToCome hosts attempts inode.vid piece.index home → home ≢ 0
      → PieceIsToCome ledger effects good_id hosts attempts inode home piece bytes
      → PieceMayBeRead (MayStayReadAs attempts) ledger effects good_id inode piece bytes
  piece_read home piece bytes to_come some has = record {
    long = has.long;
    each = λ unit disk inside block.
        by_torn (items_at disk inode.spec piece.index unit) (piece_at bytes (BLOCK_BYTES * unit - piece.offset) BLOCK_BYTES)
        (is_torn_here inode.spec (items_at disk inode.spec piece.index unit)) refl
        (λ whole.
        let (j, attempt, comes, loud, same) = has.each unit disk inside block whole in
        served_stays attempts (items_at disk inode.spec piece.index unit) attempt.req (bytes_by unit attempt.work)
        (piece_at bytes (BLOCK_BYTES * unit - piece.offset) BLOCK_BYTES)
        (record { place = j; attempt = attempt; there = comes.there; of = refl; served = loud }) same
        (written.each inode.vid piece.index unit disk inode.spec
        (any_block ledger effects good_id inode.vid disk inode.spec piece.index unit block) whole home to_come some j attempt comes));
  }
    where
      by_torn : (items : List Item) (read : List ℕ) (b : Bool) → is_torn_here inode.spec items ≡ b
          → (is_torn_here inode.spec items ≡ false → MayStay attempts items None read) → MayStayReadAs attempts items read
      by_torn items read true is may = inl (and_parts (is_in_strips inode.spec.policy Block) (is_torn items) is).1
      by_torn items read false is may = inr (may is)

  hole_read : (piece : Piece) → HoleIsToCome effects good_id hosts attempts inode piece
      → HoleMayBeRead (MayStayReadAs attempts) ledger effects good_id inode piece
  hole_read piece to_come = λ unit disk hole block.
      let (j, entry, comes, is) = to_come block.good block.live block.object hole in
      inr (written.holes inode.vid piece.index unit disk inode.spec
      (any_block ledger effects good_id inode.vid disk inode.spec piece.index unit block) j entry comes is)

  pub holes_read : (pieces : List Piece) → HolesAreToCome effects good_id hosts attempts inode pieces
      → HolesMayBeRead (MayStayReadAs attempts) ledger effects good_id inode pieces
  holes_read [] to_come = All-nil (HoleMayBeRead (MayStayReadAs attempts) ledger effects good_id inode)
  holes_read (piece ∷ pieces) to_come =
      All-cons (HoleMayBeRead (MayStayReadAs attempts) ledger effects good_id inode) piece pieces
      (hole_read piece (All-head (HoleIsToCome effects good_id hosts attempts inode) piece pieces to_come))
      (holes_read pieces (All-tail (HoleIsToCome effects good_id hosts attempts inode) piece pieces to_come))

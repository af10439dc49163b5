-- A read that has told all of its pieces tells of each block what may be read of it: the blocks that its reply adds to the history are
-- those of its pieces.
use Rattle.std.proofs.Common.{◌≡◌, ◌⊎◌, inl, inr, ⊎_elim, arith, ℕ, zero, suc, ◌+◌, ◌*◌, ◌-◌, ◌/◌, ◌^◌, ◌<◌, ◌≤◌, min, max, Bool, true}
use Rattle.std.proofs.Common.{false, List, [], ◌∷◌, length, take, drop, map, Some, pow-add, refl, sym, ap, subst, ◌∙◌}
use Rattle.std.specs.List.{range_with_len}
use Rattle.std.proofs.lemmas.Bool.{cases_lt}
use Rattle.std.proofs.lemmas.List.{length-drop, length-take}
use Rattle.std.proofs.lemmas.Nat.{pow_pos}
use Rattle.std.proofs.Math.Nat.{max-eq_left, max-eq_right, min-eq_left, min-eq_right, lt-div-mul-add, div-mul-le_self, le-div_iff_mul-le}
use Rattle.object_id.specs.declared.limits.TheConstants.{BLOCK_BYTES}
use Rattle.inode.specs.Layout.{Content}
use Rattle.disk_history.specs.declared.event.HistEvent.{HistEvent}
use Rattle.disk_history.specs.declared.event.HistEvent.TheVariants.{Create, Copy, Delete, WriteStart, WriteDone, WriteRefused, WriterLost}
use Rattle.disk_history.specs.declared.event.HistEvent.TheVariants.{Read}
use Rattle.disk_history.specs.Ledger as histories
use Rattle.disk_history.specs.Ledger.{Ledger}
use Rattle.vdi_directory.specs.declared.effect.Effect.{Effect}
use Rattle.peer_proto.specs.declared.guest.GuestRsp.TheVariants as answers
use Rattle.guest_driver.specs.declared.extent.Extent.{Extent}
use Rattle.guest_driver.specs.Extent.{IsExtent, first_index_of, last_index_of, piece_at_index}
use Rattle.guest_driver.proofs.ExtentLemmas.{place_at-past}
use Rattle.sheep_world.specs.HistoryAdditions.{block_in, blocks_read}
use Rattle.overlap_law.specs.Pieces.{IsInPiece, bytes_for}
use Rattle.overlap_law.specs.ToldReads.{WhatIsToldMayBeRead, extent_on, MayBeReadAs, Reading, IsReadUpTo, IsDiskOf}
use Rattle.overlap_law.specs.WrittenBlocks.{blocks_per_object, items_at}

-- ---- where a block stands

-- the part of a request in an object, whose borders are low and high, has the byte p of the disk, which stands so far in it
pub record Stands (offset low start end p b : ℕ) : Type 0 where
  pub first : start - low ≤ b
  pub last : b < start - low + (end - start)
  pub place : start - offset + (b - (start - low)) ≡ p - offset

pub stands : (offset size low high p b : ℕ) → low ≤ p → p < high → offset ≤ p → p < offset + size → b ≡ p - low
    → Stands offset low (max offset low) (min (offset + size) high) p b
stands offset size low high p b above below behind before so = ⊎_elim
    (λ (first : offset < low).
    let start : max offset low ≡ low = max-eq_right (omega (arith, first)) in
    ⊎_elim
    (λ (last : high < offset + size).
    let end : min (offset + size) high ≡ high = min-eq_right (omega (arith, last)) in
    record {
      first = omega (arith, start, so);
      last = omega (arith, start, end, so, above, below);
      place = omega (arith, start, so, above, first);
    })
    (λ (last : offset + size ≤ high).
    let end : min (offset + size) high ≡ offset + size = min-eq_left last in
    record {
      first = omega (arith, start, so);
      last = omega (arith, start, end, so, above, before);
      place = omega (arith, start, so, above, first);
    })
    (cases_lt high (offset + size)))
    (λ (first : low ≤ offset).
    let start : max offset low ≡ offset = max-eq_left first in
    ⊎_elim
    (λ (last : high < offset + size).
    let end : min (offset + size) high ≡ high = min-eq_right (omega (arith, last)) in
    record {
      first = omega (arith, start, so, behind, first);
      last = omega (arith, start, end, so, above, below, first, behind);
      place = omega (arith, start, so, above, first, behind);
    })
    (λ (last : offset + size ≤ high).
    let end : min (offset + size) high ≡ offset + size = min-eq_left last in
    record {
      first = omega (arith, start, so, behind, first);
      last = omega (arith, start, end, so, above, before, first, behind);
      place = omega (arith, start, so, above, first, behind);
    })
    (cases_lt high (offset + size)))
    (cases_lt offset low)

-- what is told of a block of a disk is as asked, or the disk was deleted
pub record IsToldAs (May_be : Reading) (ledger : Ledger) (vid block : ℕ) (bytes : List ℕ) : Type 0 where
  pub disk : histories.Disk
  pub there : ledger.disks vid ≡ Some disk
  pub within : block < disk.blocks
  pub whole : length bytes ≡ BLOCK_BYTES
  pub given : (disk.deleted ≡ true) ⊎ May_be (disk.items block) bytes

-- so it is of each block that some events read of good disks
abbrev pub IsReadAs : Reading → Ledger → (ℕ → Bool) → HistEvent → Type 0
IsReadAs May_be ledger good_id (Create disk blocks) = Unit {0}
IsReadAs May_be ledger good_id (Copy old new) = Unit {0}
IsReadAs May_be ledger good_id (Delete disk) = Unit {0}
IsReadAs May_be ledger good_id (WriteStart req disk at coded bytes) = Unit {0}
IsReadAs May_be ledger good_id (WriteDone req) = Unit {0}
IsReadAs May_be ledger good_id (WriteRefused req) = Unit {0}
IsReadAs May_be ledger good_id (WriterLost req) = Unit {0}
IsReadAs May_be ledger good_id (Read disk block bytes) = good_id disk ≡ true → IsToldAs May_be ledger disk block bytes

abbrev pub AreReadAs : Reading → Ledger → (ℕ → Bool) → List HistEvent → Type 0
AreReadAs May_be ledger good_id [] = Unit {0}
AreReadAs May_be ledger good_id (event ∷ events) = IsReadAs May_be ledger good_id event × AreReadAs May_be ledger good_id events

module _ (May_be : Reading) (ledger : Ledger) (effects : List Effect) (good_id : ℕ → Bool) (inode : Content) (offset size : ℕ) where
  abbrev extent : Extent
  extent = extent_on inode offset size

  module _ (is : IsExtent extent) (within : offset + size ≤ inode.spec.size) (of : IsDiskOf ledger effects inode) (told : List ℕ)
      (up : IsReadUpTo May_be ledger effects good_id inode extent (last_index_of extent + 1) told) where
    long : length told ≡ size
    long = up.long ∙ place_at-past extent is

    -- a block of the reply, by its place there
    module _ (good : good_id inode.vid ≡ true) (j : ℕ) (less : j < size / BLOCK_BYTES) where
      abbrev p : ℕ
      p = offset + BLOCK_BYTES * j

      abbrev k : ℕ
      k = p / 2 ^ inode.spec.shift

      abbrev each_object : ℕ
      each_object = 2 ^ (inode.spec.shift - 9)

      abbrev unit : ℕ
      unit = offset / BLOCK_BYTES + j - k * each_object

      some_wide : 0 < 2 ^ inode.spec.shift
      some_wide = pow_pos inode.spec.shift

      by_blocks : 2 ^ inode.spec.shift ≡ 512 * each_object
      by_blocks =
          let least = is.shift.0 in
          let split : inode.spec.shift ≡ 9 + (inode.spec.shift - 9) = omega (arith, least) in
          ap (λ n. 2 ^ n) split ∙ pow-add 2 9 (inode.spec.shift - 9)

      low : k * 2 ^ inode.spec.shift ≤ p
      low = div-mul-le_self p (2 ^ inode.spec.shift)

      step : (k + 1) * 2 ^ inode.spec.shift ≡ k * 2 ^ inode.spec.shift + 2 ^ inode.spec.shift
      step = grind arith

      high : p < (k + 1) * 2 ^ inode.spec.shift
      high = let above : p < k * 2 ^ inode.spec.shift + 2 ^ inode.spec.shift = lt-div-mul-add some_wide in omega (arith, above, step)

      begins : k * 2 ^ inode.spec.shift ≡ 512 * (k * each_object)
      begins = ap (λ n. k * n) by_blocks ∙ grind arith

      inside_read : p < offset + size
      inside_read = omega (arith, less)

      -- its byte in the object
      byte : BLOCK_BYTES * unit ≡ p - k * 2 ^ inode.spec.shift
      byte =
          let whole = is.blocks.0 in
          omega (arith, whole, begins, low)

      block_so : k * each_object + unit ≡ offset / BLOCK_BYTES + j
      block_so =
          let whole = is.blocks.0 in
          omega (arith, whole, begins, low)

      per_object : blocks_per_object inode.spec ≡ each_object
      per_object = omega (arith, by_blocks)

      at : Stands offset (k * 2 ^ inode.spec.shift) (max offset (k * 2 ^ inode.spec.shift))
          (min (offset + size) ((k + 1) * 2 ^ inode.spec.shift)) p
          (BLOCK_BYTES * unit)
      at = stands offset size (k * 2 ^ inode.spec.shift) ((k + 1) * 2 ^ inode.spec.shift) p (BLOCK_BYTES * unit) low high
          (omega arith) inside_read byte

      first : first_index_of extent ≤ k
      first =
          let least : first_index_of extent * 2 ^ inode.spec.shift ≤ offset = div-mul-le_self offset (2 ^ inode.spec.shift) in
          (le-div_iff_mul-le some_wide).1 (omega (arith, least))

      last : k < last_index_of extent + 1
      last =
          let most : k ≤ last_index_of extent = (le-div_iff_mul-le some_wide).1 (omega (arith, low, inside_read)) in
          omega (arith, most)

      object : k < (inode.spec.size + 2 ^ inode.spec.shift - 1) / 2 ^ inode.spec.shift
      object =
          let most : k + 1 ≤ (inode.spec.size + 2 ^ inode.spec.shift - 1) / 2 ^ inode.spec.shift
          = (le-div_iff_mul-le some_wide).1 (omega (arith, low, inside_read, within, step)) in
          omega (arith, most)

      number : k * blocks_per_object inode.spec + unit ≡ offset / BLOCK_BYTES + j
      number = ap (λ (n : ℕ). k * n + unit) per_object ∙ block_so

      in_piece : IsInPiece (piece_at_index extent k) unit
      in_piece = record { first = at.first; last = at.last }

      bytes_so : bytes_for told (piece_at_index extent k) unit ≡ block_in told j
      bytes_so =
          let place = at.place in
          let so : (piece_at_index extent k).place + (BLOCK_BYTES * unit - (piece_at_index extent k).offset) ≡ j * BLOCK_BYTES = omega
          (arith, place) in
          ap (λ (n : ℕ). take BLOCK_BYTES (drop n told)) so

      has : offset / BLOCK_BYTES + j < of.disk.blocks
      has =
          let large = of.large in
          let whole = is.blocks.0 in
          omega (arith, large, whole, within, less)

      given : (of.disk.deleted ≡ true) ⊎ May_be (of.disk.items (offset / BLOCK_BYTES + j)) (block_in told j)
      given = by_deleted of.disk.deleted refl
        where
          may : of.disk.deleted ≡ false → May_be (of.disk.items (offset / BLOCK_BYTES + j)) (block_in told j)
          may kept =
              subst (λ (block : ℕ). May_be (of.disk.items block) (block_in told j)) number
              (subst (May_be (items_at of.disk inode.spec k unit)) bytes_so
              (up.each k unit of.disk first last in_piece (record {
                there = of.there;
                kept = kept;
                live = of.live kept;
                good = good;
                made_with = of.made_with;
                object = object;
                inside = omega (arith, per_object, byte, high, step, by_blocks);
                block = subst (λ (block : ℕ). block < of.disk.blocks) (sym number) has;
              })))

          by_deleted : (b : Bool) → of.disk.deleted ≡ b
              → (of.disk.deleted ≡ true) ⊎ May_be (of.disk.items (offset / BLOCK_BYTES + j)) (block_in told j)
          by_deleted true gone = inl gone
          by_deleted false kept = inr (may kept)

      pub one_told : IsToldAs May_be ledger inode.vid (offset / BLOCK_BYTES + j) (block_in told j)
      one_told = record {
        disk = of.disk;
        there = of.there;
        within = has;
        whole =
            let some = length-drop (j * BLOCK_BYTES) told in
            let all = length-take BLOCK_BYTES (drop (j * BLOCK_BYTES) told) in
            all ∙ min-eq_left (omega (arith, some, long, less));
        given = given;
      }

    each_read : (n from : ℕ) → from + n ≤ size / BLOCK_BYTES
        → AreReadAs May_be ledger good_id
        (map (λ (place : ℕ). Read inode.vid (offset / BLOCK_BYTES + place) (block_in told place)) (range_with_len from n))
    each_read zero from most = tt
    each_read (suc n) from most = (
      λ good. one_told good from (omega (arith, most)),
      each_read n (from + 1) (omega (arith, most)),
    )

    pub all_read : AreReadAs May_be ledger good_id (blocks_read inode.vid offset (answers.Piece told))
    all_read = each_read (length told / BLOCK_BYTES) 0 (omega (arith, long))

module _ (ledger : Ledger) (effects : List Effect) (good_id : ℕ → Bool) (inode : Content) (offset size : ℕ)
    (is : IsExtent (extent_on inode offset size)) (within : offset + size ≤ inode.spec.size) (of : IsDiskOf ledger effects inode)
    (told : List ℕ)
    (up : IsReadUpTo MayBeReadAs ledger effects good_id inode (extent_on inode offset size)
    (last_index_of (extent_on inode offset size) + 1) told) where
  each_told : (n from : ℕ) → from + n ≤ size / BLOCK_BYTES
      → WhatIsToldMayBeRead good_id ledger
      (map (λ (place : ℕ). Read inode.vid (offset / BLOCK_BYTES + place) (block_in told place)) (range_with_len from n))
  each_told zero from most = tt
  each_told (suc n) from most = (
    λ good.
        let one = one_told MayBeReadAs ledger effects good_id inode offset size is within of told up good from (omega (arith, most)) in
        record { disk = one.disk; there = one.there; within = one.within; whole = one.whole; given = one.given },
    each_told n (from + 1) (omega (arith, most)),
  )

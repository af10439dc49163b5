-- What a read of strips gives at a block is the block of which each message, of as many as the read needs, gave the strip at its index.
use Rattle.std.proofs.Common.{◌≡◌, arith, ℕ, ◌*◌, ◌-◌, ◌/◌, ◌%◌, ◌<◌, ◌≤◌, min, All, List, [], ◌∷◌, length, map, take, drop}
use Rattle.std.proofs.Common.{sym, ap, ap₂, refl, ◌∙◌}
use Rattle.std.proofs.lemmas.List.{length-take, length-drop, length-map}
use Rattle.std.proofs.lemmas.List.Elements.{All-head, All-tail}
use Rattle.object_id.specs.declared.oid.Kind.TheVariants.{Block}
use Rattle.object_id.specs.declared.policy.Policy.TheVariants.{Coded}
use Rattle.object_id.specs.Policy.{IsPolicy}
use Rattle.object_store.specs.Bytes.{piece_at}
use Rattle.gf256.specs.Part.{bytes_of_parts, blocks_through, first_part}
use Rattle.gf256.specs.Polynomial.{ArePoints}
use Rattle.gf256.specs.Strip.{IsBlock, strip_bytes, strip, block_through}
use Rattle.gf256.proofs.StripLaws.{length-strip, block_through-strips}
use Rattle.gf256.proofs.Widths as widths
use Rattle.gateway.specs.declared.message.Message.{Message}
use Rattle.gateway.specs.Attempt.{bytes_in, bytes_through}
use Rattle.overlap_law.specs.ToldPieces.{GaveStrip}
use Rattle.overlap_law.proofs.StripsThrough.{piece-through, blocks_most, width_some}

-- where the strip of a block stands in what was told
strip_from : (d p offset unit : ℕ) → IsPolicy (Coded d p) → offset % 512 ≡ 0 → offset ≤ 512 * unit
    → 512 * unit / d - offset / d ≡ (unit - offset / 512) * (512 / d)
strip_from d p offset unit is whole above =
    widths.by_cases (λ (n : ℕ). 512 * unit / n - offset / n ≡ (unit - offset / 512) * (512 / n)) (omega (arith, whole, above))
    (omega (arith, whole, above)) (omega (arith, whole, above)) (omega (arith, whole, above)) d is.0

module _ (d p offset unit : ℕ) (is : IsPolicy (Coded d p)) (whole : offset % 512 ≡ 0) (above : offset ≤ 512 * unit) (block : List ℕ)
    (is_block : IsBlock block) where
  abbrev Gave : Message → Type 0
  Gave = GaveStrip d offset unit block

  -- the block's place among those that were read
  abbrev u : ℕ
  u = unit - offset / 512

  abbrev index_in : Message → ℕ
  index_in message = message.index

  abbrev told_in : Message → List ℕ
  told_in message = bytes_in message.status

  gave_so : (message : Message) → GaveStrip d offset unit block message
      → take (512 / d) (drop ((unit - offset / 512) * (512 / d)) (bytes_in message.status)) ≡ strip d block message.index
  gave_so message gave =
      ap (λ (k : ℕ). take (512 / d) (drop k (bytes_in message.status))) (sym (strip_from d p offset unit is whole above)) ∙ gave

  strips_given : (messages : List Message) → All Gave messages
      → map (λ (part : List ℕ). take (512 / d) (drop ((unit - offset / 512) * (512 / d)) part)) (map told_in messages)
      ≡ map (strip d block) (map index_in messages)
  strips_given [] gave = refl
  strips_given (message ∷ messages) gave =
      ap₂ ◌∷◌ (gave_so message (All-head Gave message messages gave)) (strips_given messages (All-tail Gave message messages gave))

  first_reaches : (messages : List Message) → length messages ≡ d → All Gave messages
      → unit - offset / 512 < length (first_part (map told_in messages)) / (512 / d)
  first_reaches [] count gave = let some = widths.divides d is.0 in let more = some.some in absurd (omega (arith, more, count))
  first_reaches (message ∷ messages) count gave =
      let own : List ℕ = bytes_in message.status in
      let piece : length (take (512 / d) (drop (u * (512 / d)) own)) ≡ 512 / d
      = ap (λ (part : List ℕ). length part) (gave_so message (All-head Gave message messages gave))
      ∙ length-strip d block message.index in
      let cut : length (take (512 / d) (drop (u * (512 / d)) own)) ≡ min (512 / d) (length (drop (u * (512 / d)) own))
      = length-take (512 / d) (drop (u * (512 / d)) own) in
      let left = length-drop (u * (512 / d)) own in
      let some = width_some d p is in
      blocks_most d p u (length own) is (omega (arith, piece, cut, left, some))

  pub block_read : (messages : List Message) → length messages ≡ d → ArePoints (map (λ (message : Message). message.index) messages)
      → All (GaveStrip d offset unit block) messages
      → piece_at (bytes_through (Coded d p) Block messages) (512 * unit - offset) 512 ≡ block
  unfolding bytes_of_parts
  block_read messages count points gave =
      let indexes : List ℕ = map index_in messages in
      let parts : List (List ℕ) = map told_in messages in
      let blocks : ℕ = length (first_part parts) / strip_bytes d in
      let at : 512 * unit - offset ≡ u * 512 = omega (arith, whole, above) in
      let counted : length indexes ≡ d = length-map messages index_in ∙ count in
      ap (λ (k : ℕ). take 512 (drop k (blocks_through d indexes blocks parts))) at
      ∙ piece-through d indexes blocks u parts (first_reaches messages count gave)
      ∙ ap (block_through d indexes) (strips_given messages gave)
      ∙ block_through-strips d block indexes (widths.divides d is.0) points counted is_block

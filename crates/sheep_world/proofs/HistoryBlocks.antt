-- The events of a piece's blocks, as they are made one after another.
use Rattle.std.proofs.Common.{◌≡◌, ℕ, ◌+◌, ◌/◌, List, [], ◌∷◌, ◌++◌, append_assoc, sym, ap, ◌∙◌, arith}
use Rattle.std.specs.Prelude.{map}
use Rattle.std.specs.List.{range_with_len}
use Rattle.std.proofs.lemmas.List.FromFn.{map-range_with_len_more}
use Rattle.object_id.specs.declared.limits.TheConstants.{BLOCK_BYTES}
use Rattle.disk_history.specs.declared.event.HistEvent.{HistEvent}
use Rattle.sheep_world.specs.HistoryAdditions.{block_in}

-- the events of the first blocks of a piece
abbrev pub first_blocks : (ℕ → List ℕ → HistEvent) → ℕ → List ℕ → ℕ → List HistEvent
first_blocks event offset bytes count = map (λ place. event (offset / BLOCK_BYTES + place) (block_in bytes place)) (range_with_len 0 count)

-- the event of one block more
pub first_blocks-more : (event : ℕ → List ℕ → HistEvent) (offset : ℕ) (bytes : List ℕ) (place : ℕ)
    (before so_far : List HistEvent) (piece : List ℕ)
    → piece ≡ block_in bytes place → so_far ≡ before ++ first_blocks event offset bytes place
    → so_far ++ event (offset / BLOCK_BYTES + place) piece ∷ [] ≡ before ++ first_blocks event offset bytes (place + 1)
first_blocks-more event offset bytes place before so_far piece is was =
    let next : 0 + place ≡ place = omega arith in
    ap (λ (events : List HistEvent). events ++ event (offset / BLOCK_BYTES + place) piece ∷ []) was
    ∙ append_assoc before (first_blocks event offset bytes place) (event (offset / BLOCK_BYTES + place) piece ∷ [])
    ∙ ap (λ (part : List ℕ). before ++ (first_blocks event offset bytes place ++ event (offset / BLOCK_BYTES + place) part ∷ [])) is
    ∙ ap (λ (events : List HistEvent). before ++ events)
    (sym (map-range_with_len_more (λ place. event (offset / BLOCK_BYTES + place) (block_in bytes place)) 0 place place next))

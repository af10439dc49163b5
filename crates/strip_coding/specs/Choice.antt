-- The strips that a block is decoded from: those of the first d distinct indexes.
use Rattle.std.specs.Prelude.{◌≡◌, ℕ, ◌+◌, ◌*◌, ◌==◌, if◌then◌else◌, List, [], ◌∷◌, ◌++◌, take, drop, map, slice_index}
use Rattle.std.specs.List.{All, list_any}
use Rattle.gf256.specs.Strip.{strip, strip_bytes, block_through}

-- the strip at a place among strips that stand one after another
abbrev pub strip_at : ℕ → List ℕ → ℕ → List ℕ
strip_at d strips place = take (strip_bytes d) (drop (place * strip_bytes d) strips)

-- the places, counted on from `place`, of the indexes that are not among those seen before them
unfoldable pub places_after : List ℕ → ℕ → List ℕ → List ℕ
places_after seen place [] = []
places_after seen place (index ∷ indexes) =
    if list_any (λ i. i == index) seen
    then places_after seen (place + 1) indexes
    else place ∷ places_after (seen ++ index ∷ []) (place + 1) indexes

-- the places of the distinct indexes, of each the first at which it stands
abbrev pub distinct_places : List ℕ → List ℕ
distinct_places indexes = places_after [] 0 indexes

-- the places of the first d distinct indexes
abbrev pub chosen_places : ℕ → List ℕ → List ℕ
chosen_places d indexes = take d (distinct_places indexes)

-- the block through the strips at the chosen places
abbrev pub chosen_block : ℕ → List ℕ → List ℕ → List ℕ
chosen_block d indexes strips =
    block_through d (map (slice_index indexes) (chosen_places d indexes)) (map (strip_at d strips) (chosen_places d indexes))

-- the block's strips at the chosen indexes are those given
abbrev pub HasStrips : ℕ → List ℕ → List ℕ → List ℕ → Type 0
HasStrips d indexes strips block =
    All
    (λ place. strip d block (slice_index indexes place) ≡ strip_at d strips place)
    (chosen_places d indexes)

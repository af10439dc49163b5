-- What the write of a check adds to the history, as its blocks are looked at one after another.
use Rattle.std.proofs.Common.{◌≡◌, ℕ, ◌+◌, Bool, true, false, cond, List, [], ◌∷◌, ◌++◌, append_assoc, filter, refl, sym, ap, ◌∙◌, arith}
use Rattle.std.specs.Prelude.{flat_map}
use Rattle.std.specs.List.{range_with_len}
use Rattle.std.proofs.lemmas.Grind.{flat_map-append}
use Rattle.std.proofs.lemmas.List.Elements.{filter-append}
use Rattle.std.proofs.lemmas.List.{append-nil}
use Rattle.proof_tools.proofs.Lists.{range_with_len-append}
use Rattle.disk_history.specs.declared.event.HistEvent.{HistEvent}
use Rattle.sheep_node.specs.declared.check_write.CheckWrite.{CheckWrite}
use Rattle.sheep_world.specs.HistoryAdditions.{is_on_disk, block_checked}

module _ (write : CheckWrite) where
  -- those of the first blocks
  abbrev pub first_checked : ℕ → List HistEvent
  first_checked count = flat_map (block_checked write) (filter (is_on_disk write) (range_with_len 0 count))

  of_one : (place : ℕ) (there : Bool)
      → flat_map (block_checked write) (cond there (place ∷ []) []) ≡ cond there (block_checked write place) []
  of_one place true = refl
  of_one place false = refl

  -- one block more
  pub first_checked-more : (place : ℕ) (before so_far : List HistEvent) → so_far ≡ before ++ first_checked place
      → so_far ++ cond (is_on_disk write place) (block_checked write place) [] ≡ before ++ first_checked (place + 1)
  first_checked-more place before so_far was =
      let same : place ≡ 0 + place = omega arith in
      ap (λ (events : List HistEvent). events ++ cond (is_on_disk write place) (block_checked write place) []) was
      ∙ append_assoc before (first_checked place) (cond (is_on_disk write place) (block_checked write place) [])
      ∙ ap (λ (events : List HistEvent). before ++ events)
      (ap (λ (events : List HistEvent). first_checked place ++ events) (sym (of_one place (is_on_disk write place)))
      ∙ sym (flat_map-append (block_checked write) (filter (is_on_disk write) (range_with_len 0 place))
      (filter (is_on_disk write) (place ∷ [])))
      ∙ ap (flat_map (block_checked write))
      (sym (filter-append (is_on_disk write) (range_with_len 0 place) (place ∷ []))
      ∙ ap (λ next. filter (is_on_disk write) (range_with_len 0 place ++ next ∷ [])) same
      ∙ ap (filter (is_on_disk write)) (range_with_len-append 0 place 1)))

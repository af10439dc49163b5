-- The writers that a node's loss leaves without reply, as they are found one request after another.
use Rattle.std.proofs.Common.{◌≡◌, ℕ, zero, suc, ◌+◌, ◌≤◌, Bool, true, false, cond, List, [], ◌∷◌, ◌++◌, length, take, map, filter}
use Rattle.std.proofs.Common.{Option, Some, refl, sym, ap, ◌∙◌, arith}
use Rattle.std.specs.Prelude.{slice_get}
use Rattle.std.specs.List.{enumerate_from}
use Rattle.std.specs.Option.{option_map_or}
use Rattle.std.proofs.lemmas.List.{take_all}
use Rattle.cluster_script.specs.declared.statement.Statement.{Statement}
use Rattle.cluster_script.specs.Statements.{is_request, requests_of}
use Rattle.disk_history.specs.declared.event.HistEvent.{HistEvent}
use Rattle.disk_history.specs.declared.event.HistEvent.TheVariants.{WriterLost}
use Rattle.sheep_world.specs.World.{Host, World}
use Rattle.sheep_world.specs.HistoryAdditions.{is_lost_write, writers_lost}
use Rattle.sheep_world.specs.LossInParts.{writer_lost}
use Rattle.sheep_world.proofs.ScriptLookUps.{filter-shorter}

module _ (statements : List Statement) (world : World) (node : ℕ) (host : Host) where
  abbrev lost : List (ℕ × Statement) → List HistEvent
  lost requests = map (λ (request : ℕ × Statement). WriterLost request.0) (filter (is_lost_write statements world node host) requests)

  abbrev lost_at : ℕ → Option Statement → List HistEvent
  lost_at req s =
      cond (option_map_or (λ (s : Statement). is_lost_write statements world node host (req, s)) s false) (WriterLost req ∷ []) []

  -- those of the first requests
  abbrev pub first_lost : ℕ → List HistEvent
  first_lost count = lost (enumerate_from 1 (take count (requests_of statements)))

  one_more : (first place : ℕ) (requests : List Statement)
      → lost (enumerate_from first (take (suc place) requests))
      ≡ lost (enumerate_from first (take place requests)) ++ lost_at (first + place) (slice_get requests place)
  one_more first zero [] = refl
  one_more first (suc place) [] = refl
  one_more first zero (s ∷ rest) =
      let same : first ≡ first + 0 = omega arith in
      by_test (is_lost_write statements world node host (first, s)) ∙ ap (λ req. lost_at req (Some s)) same
    where
      by_test : (b : Bool)
          → map (λ (request : ℕ × Statement). WriterLost request.0) (cond b ((first, s) ∷ []) []) ≡ cond b (WriterLost first ∷ []) []
      by_test true = refl
      by_test false = refl
  one_more first (suc place) (s ∷ rest) =
      let same : (first + 1) + place ≡ first + suc place = omega arith in
      by_test (is_lost_write statements world node host (first, s))
      (one_more (first + 1) place rest
      ∙ ap (λ req. lost (enumerate_from (first + 1) (take place rest)) ++ lost_at req (slice_get rest place)) same)
    where
      by_test : (b : Bool)
          → lost (enumerate_from (first + 1) (take (suc place) rest))
          ≡ lost (enumerate_from (first + 1) (take place rest)) ++ lost_at (first + suc place) (slice_get rest place)
          → map (λ (request : ℕ × Statement). WriterLost request.0)
          (cond b ((first, s) ∷ filter (is_lost_write statements world node host) (enumerate_from (first + 1) (take (suc place) rest)))
          (filter (is_lost_write statements world node host) (enumerate_from (first + 1) (take (suc place) rest))))
          ≡ map (λ (request : ℕ × Statement). WriterLost request.0)
          (cond b ((first, s) ∷ filter (is_lost_write statements world node host) (enumerate_from (first + 1) (take place rest)))
          (filter (is_lost_write statements world node host) (enumerate_from (first + 1) (take place rest))))
          ++ lost_at (first + suc place) (slice_get rest place)
      by_test true is = ap (λ (events : List HistEvent). WriterLost first ∷ events) is
      by_test false is = is

  -- the next request is looked at
  pub first_lost-more : (place : ℕ) (so_far : List HistEvent) → so_far ≡ first_lost place
      → so_far ++ writer_lost statements world node host (place + 1) ≡ first_lost (place + 1)
  first_lost-more place so_far was =
      let next : place + 1 ≡ suc place = omega arith in
      let number : 1 + place ≡ suc place = omega arith in
      ap (λ (events : List HistEvent). events ++ writer_lost statements world node host (place + 1)) was
      ∙ ap (λ req. first_lost place ++ writer_lost statements world node host req) next
      ∙ sym (one_more 1 place (requests_of statements)
      ∙ ap (λ req. first_lost place ++ lost_at req (slice_get (requests_of statements) place)) number)
      ∙ sym (ap first_lost next)

  -- there are no more requests than statements
  pub first_lost-all : (count : ℕ) → length statements ≤ count → first_lost count ≡ writers_lost statements world node (Some host)
  first_lost-all count long =
      let few : length (requests_of statements) ≤ length statements = filter-shorter is_request statements in
      let all : length (requests_of statements) ≤ count = omega (arith, few, long) in
      ap (λ requests. lost (enumerate_from 1 requests)) (take_all count (requests_of statements) all)

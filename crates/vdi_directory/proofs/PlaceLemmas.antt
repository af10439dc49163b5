-- At which place of the log an id was granted.
use Rattle.std.proofs.Common.{◌≡◌, ℕ, suc, ◌+◌, ◌<◌, ◌≤◌, ◌||◌, Bool, true, false, cond, List, [], ◌∷◌, ◌++◌, length, refl, ap, ◌∙◌, arith}
use Rattle.std.specs.List.{list_any}
use Rattle.vdi_directory.specs.declared.effect.Effect.{Effect}
use Rattle.vdi_directory.specs.Effects.{grants, is_used}
use Rattle.vdi_directory.specs.Chains.{grant_place}

-- an id that was granted stands before the end, and one that was not at the end
place-any : (before : List Effect) (vid : ℕ) → list_any (grants vid) before ≡ true → grant_place before vid < length before
unfolding grant_place
place-any [] vid used = cc
place-any (effect ∷ before) vid used = by_test (grants vid effect) used (place-any before vid)
  where
    by_test : (b : Bool) → (b || list_any (grants vid) before) ≡ true → (list_any (grants vid) before ≡ true → grant_place before vid < length before)
        → cond b 0 (1 + grant_place before vid) < suc (length before)
    by_test true is later = omega arith
    by_test false is later = let below = later is in omega (arith, below)

place-none : (before : List Effect) (vid : ℕ) → list_any (grants vid) before ≡ false → grant_place before vid ≡ length before
unfolding grant_place
place-none [] vid unused = refl
place-none (effect ∷ before) vid unused = by_test (grants vid effect) unused (place-none before vid)
  where
    by_test : (b : Bool) → (b || list_any (grants vid) before) ≡ false → (list_any (grants vid) before ≡ false → grant_place before vid ≡ length before)
        → cond b 0 (1 + grant_place before vid) ≡ suc (length before)
    by_test true is later = cc
    by_test false is later = let same = later is in omega (arith, same)

pub place-most : (before : List Effect) (vid : ℕ) → grant_place before vid ≤ length before
unfolding grant_place
place-most [] vid = omega arith
place-most (effect ∷ before) vid = by_test (grants vid effect) (place-most before vid)
  where
    by_test : (b : Bool) → grant_place before vid ≤ length before → cond b 0 (1 + grant_place before vid) ≤ suc (length before)
    by_test true most = omega arith
    by_test false most = omega (arith, most)

place-stays : (before later : List Effect) (vid : ℕ) → list_any (grants vid) before ≡ true → grant_place (before ++ later) vid ≡ grant_place before vid
unfolding grant_place
place-stays [] later vid used = cc
place-stays (effect ∷ before) later vid used = by_test (grants vid effect) used (place-stays before later vid)
  where
    by_test : (b : Bool) → (b || list_any (grants vid) before) ≡ true
        → (list_any (grants vid) before ≡ true → grant_place (before ++ later) vid ≡ grant_place before vid)
        → cond b 0 (1 + grant_place (before ++ later) vid) ≡ cond b 0 (1 + grant_place before vid)
    by_test true is rest = refl
    by_test false is rest = ap (λ n. 1 + n) (rest is)

place-next : (before : List Effect) (effect : Effect) (vid : ℕ) → list_any (grants vid) before ≡ false → grant_place (before ++ effect ∷ []) vid
    ≡ length before + cond (grants vid effect) 0 1
unfolding grant_place
place-next [] effect vid unused = by_test (grants vid effect)
  where
    by_test : (b : Bool) → cond b 0 (1 + 0) ≡ length {A = Effect} [] + cond b 0 1
    by_test true = omega arith
    by_test false = omega arith
place-next (first ∷ before) effect vid unused = by_test (grants vid first) unused (place-next before effect vid)
  where
    by_test : (b : Bool) → (b || list_any (grants vid) before) ≡ false
        → (list_any (grants vid) before ≡ false → grant_place (before ++ effect ∷ []) vid ≡ length before + cond (grants vid effect) 0 1)
        → cond b 0 (1 + grant_place (before ++ effect ∷ []) vid) ≡ suc (length before) + cond (grants vid effect) 0 1
    by_test true is rest = cc
    by_test false is rest = let same = rest is in omega (arith, same)

module _ (before : List Effect) (vid : ℕ) where
  pub place-used : is_used before vid ≡ true → grant_place before vid < length before
  unfolding is_used
  place-used used = place-any before vid used

  pub place-kept : (effect : Effect) → is_used before vid ≡ true → grant_place (before ++ effect ∷ []) vid ≡ grant_place before vid
  unfolding is_used
  place-kept effect used = place-stays before (effect ∷ []) vid used

  pub place-new : (effect : Effect) → is_used before vid ≡ false → grants vid effect ≡ true → grant_place (before ++ effect ∷ []) vid ≡ length before
  unfolding is_used
  place-new effect unused here =
      let is = place-next before effect vid unused ∙ ap (λ b. length before + cond b 0 1) here in
      omega (arith, is)

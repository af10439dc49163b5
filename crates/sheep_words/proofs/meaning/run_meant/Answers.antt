use Rattle.std.proofs.Common.{arith, ◌≡◌, ◌<◌, refl, List, [], ◌∷◌, length, None, map, string_bytes}
use Rattle.std.proofs.lemmas.List.{length-map}
use Rattle.clap.specs.Words.{Text}
use Rattle.sheep_words.specs.Mode.{run_meant}
use Rattle.sheep_words.proofs.meaning.run_meant.Goals as goal

run_long : (xs : List Text) → 3 < length xs → None ≡ run_meant xs
run_long [] h = absurd (omega arith)
run_long (a ∷ []) h = absurd (omega arith)
run_long (a ∷ b ∷ []) h = absurd (omega arith)
run_long (a ∷ b ∷ c ∷ []) h = absurd (omega arith)
run_long (a ∷ b ∷ c ∷ d ∷ xs) h = refl

pub returns-in_default : goal.returns-in_default
returns-in_default c = run_long (map (λ w. string_bytes w) c.args.options.now) (simp length-map (omega arith))

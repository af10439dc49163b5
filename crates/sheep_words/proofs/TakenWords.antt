-- What `clap` takes and gives for each list of words that the program takes.
use Rattle.std.proofs.Common.{◌≡◌, refl, ℕ, List, [], ◌∷◌, ◌++◌, true, false, ◌==◌, Option, Some, codes, option_map}
use Rattle.clap.specs.Simple.{subcommand_of}
use Rattle.clap.specs.Takes.{takes}
use Rattle.clap.proofs.OnLiterals.{clap_on_literals}
use Rattle.clap.specs.Words.{Text}
use Rattle.sheep_words.specs.Command.{sheep_app}
use Rattle.sheep_words.specs.Mode.{number_meant, run_with}
use Rattle.sheep_words.specs.Found.{mode_found}
use Rattle.sheep_words.specs.declared.mode.Mode.{Mode}
use Rattle.sheep_words.specs.declared.mode.Mode.TheVariants.{Run, Replay, Gen, Live}

-- `clap` takes the words, and what it gives is this mode
pub record ReadsAs (words : List Text) (m : Option Mode) : Type 0 where
  pub taken : takes sheep_app words ≡ true
  pub read : mode_found (subcommand_of sheep_app words) ≡ m

pub run_alone : ReadsAs (codes "run" ∷ []) (Some (Run 0 false))
unfolding clap_on_literals
run_alone = record { taken = refl; read = refl }

pub run_trace : ReadsAs (codes "run" ∷ codes "--trace" ∷ []) (Some (Run 0 true))
unfolding clap_on_literals
run_trace = record { taken = refl; read = refl }

pub run_seed_is : (n : Text) → ReadsAs (codes "run" ∷ (codes "--seed=" ++ n) ∷ []) (run_with (number_meant n) false)
unfolding clap_on_literals
run_seed_is n = record { taken = refl; read = refl }

pub run_seed_is_trace : (n : Text) → ReadsAs (codes "run" ∷ (codes "--seed=" ++ n) ∷ codes "--trace" ∷ []) (run_with (number_meant n) true)
unfolding clap_on_literals
run_seed_is_trace n = record { taken = refl; read = refl }

pub run_trace_seed_is : (n : Text) → ReadsAs (codes "run" ∷ codes "--trace" ∷ (codes "--seed=" ++ n) ∷ []) (run_with (number_meant n) true)
unfolding clap_on_literals
run_trace_seed_is n = record { taken = refl; read = refl }

-- a word that begins with no hyphen
pub run_seed : (d : ℕ) (ds : Text) → (d == 45) ≡ false → ReadsAs (codes "run" ∷ codes "--seed" ∷ (d ∷ ds) ∷ []) (run_with (number_meant (d ∷ ds)) false)
unfolding clap_on_literals
run_seed d ds h = record { taken = simp h; read = simp h }

pub run_seed_trace : (d : ℕ) (ds : Text) → (d == 45) ≡ false → ReadsAs (codes "run" ∷ codes "--seed" ∷ (d ∷ ds) ∷ codes "--trace" ∷ []) (run_with (number_meant (d ∷ ds)) true)
unfolding clap_on_literals
run_seed_trace d ds h = record { taken = simp h; read = simp h }

pub run_trace_seed : (d : ℕ) (ds : Text) → (d == 45) ≡ false → ReadsAs (codes "run" ∷ codes "--trace" ∷ codes "--seed" ∷ (d ∷ ds) ∷ []) (run_with (number_meant (d ∷ ds)) true)
unfolding clap_on_literals
run_trace_seed d ds h = record { taken = simp h; read = simp h }

pub replay_alone : ReadsAs (codes "replay" ∷ []) (Some Replay)
unfolding clap_on_literals
replay_alone = record { taken = refl; read = refl }

pub gen_number : (d : ℕ) (ds : Text) → (d == 45) ≡ false → ReadsAs (codes "gen" ∷ (d ∷ ds) ∷ []) (option_map Gen (number_meant (d ∷ ds)))
unfolding clap_on_literals
gen_number d ds h = record { taken = simp h; read = simp h }

pub live_alone : ReadsAs (codes "live" ∷ []) (Some (Live false))
unfolding clap_on_literals
live_alone = record { taken = refl; read = refl }

pub live_trace : ReadsAs (codes "live" ∷ codes "--trace" ∷ []) (Some (Live true))
unfolding clap_on_literals
live_trace = record { taken = refl; read = refl }

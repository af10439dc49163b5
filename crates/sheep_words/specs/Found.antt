-- The mode that is found in what `clap` reads.
use Rattle.std.specs.Prelude.{ℕ, false, Bool, List, codes, Option, Some, None, if◌then◌else◌}
use Rattle.std.specs.Option.{option_map, option_map_or, option_and_then}
use Rattle.std.specs.Str.{bytes_eq}
use Rattle.clap.specs.Words.{Row, Text, first_of}
use Rattle.sheep_words.specs.declared.mode.Mode.{Mode}
use Rattle.sheep_words.specs.declared.mode.Mode.TheVariants.{Replay, Gen, Live}
use Rattle.sheep_words.specs.Mode.{number_meant, run_with}

-- whether the flag `--trace` was met: its row holds its value as a text
abbrev pub has_trace : List Row → Bool
has_trace rows = option_map_or (λ text. bytes_eq text (codes "true")) (first_of (codes "trace") rows) false

-- the seed, 0 where none was met
abbrev pub seed_found : Option Text → Option ℕ
seed_found None = Some 0
seed_found (Some text) = number_meant text

-- the mode of a subcommand with these rows
abbrev pub mode_at : Text → List Row → Option Mode
mode_at name rows =
    if bytes_eq name (codes "run") then run_with (seed_found (first_of (codes "seed") rows)) (has_trace rows)
    else if bytes_eq name (codes "replay") then Some Replay
    else if bytes_eq name (codes "gen") then option_map Gen (option_and_then number_meant (first_of (codes "number") rows))
    else if bytes_eq name (codes "live") then Some (Live (has_trace rows))
    else None

-- the mode that was found, where a subcommand was
abbrev pub mode_found : Option (Text × List Row) → Option Mode
mode_found found = option_and_then (λ one. mode_at one.0 one.1) found

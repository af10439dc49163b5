-- Which lists of words the program takes, and what each asks for.
use Rattle.std.specs.Prelude.{ℕ, ◌^◌, ◌==◌, ◌&&◌, not, nat_le, nat_lt, Bool, true, false, List, [], ◌∷◌, length, map, take, drop, Option, Some, None}
use Rattle.std.specs.Prelude.{codes, if◌then◌else◌}
use Rattle.std.specs.declared.string.String.{String}
use Rattle.std.specs.String.{string_bytes}
use Rattle.std.specs.List.{list_all}
use Rattle.std.specs.Option.{option_map}
use Rattle.std.specs.Str.{bytes_eq}
use Rattle.std.specs.Str.Parse.{digits_value}
use Rattle.std.specs.Char.{is_ascii_digit}
use Rattle.sheep_words.specs.declared.mode.Mode.{Mode}
use Rattle.sheep_words.specs.declared.mode.Mode.TheVariants.{Run, Replay, Gen, Live}

-- whether bytes are 1 to 20 decimal digits
abbrev pub is_number_word : List ℕ → Bool
is_number_word word = not (length word == 0) && nat_le (length word) 20 && list_all is_ascii_digit word

-- the number that they spell, where it is below 2^64
abbrev pub number_meant : List ℕ → Option ℕ
number_meant word =
    if is_number_word word && nat_lt (digits_value 10 word) (2 ^ 64) then Some (digits_value 10 word) else None

-- the seed in a word `--seed=N`
abbrev pub seed_meant : List ℕ → Option ℕ
seed_meant word = if bytes_eq (take 7 word) (codes "--seed=") then number_meant (drop 7 word) else None

abbrev pub is_trace_word : List ℕ → Bool
is_trace_word word = bytes_eq word (codes "--trace")

abbrev pub is_seed_word : List ℕ → Bool
is_seed_word word = bytes_eq word (codes "--seed")

-- `run` with a seed, if that is one
abbrev pub run_with : Option ℕ → Bool → Option Mode
run_with seed trace = option_map (λ number. Run number trace) seed

-- what `run` asks for with these options: a seed in one word or two, and a trace, each once at most, in either order
abbrev pub run_meant : List (List ℕ) → Option Mode
run_meant [] = run_with (Some 0) false
run_meant (word ∷ []) = if is_trace_word word then run_with (Some 0) true else run_with (seed_meant word) false
run_meant (word ∷ next ∷ []) =
    if is_trace_word word then run_with (seed_meant next) true
    else if is_trace_word next then run_with (seed_meant word) true
    else if is_seed_word word then run_with (number_meant next) false
    else None
run_meant (word ∷ next ∷ last ∷ []) =
    if is_trace_word word && is_seed_word next then run_with (number_meant last) true
    else if is_seed_word word && is_trace_word last then run_with (number_meant next) true
    else None
run_meant (word ∷ next ∷ last ∷ more ∷ rest) = None

-- what `replay` asks for: it has no options
abbrev pub replay_meant : List (List ℕ) → Option Mode
replay_meant [] = Some Replay
replay_meant (word ∷ words) = None

-- what `gen` asks for, with its number
abbrev pub gen_meant : List (List ℕ) → Option Mode
gen_meant [] = None
gen_meant (word ∷ []) = option_map Gen (number_meant word)
gen_meant (word ∷ next ∷ words) = None

-- what `live` asks for: a trace once at most
abbrev pub live_meant : List (List ℕ) → Option Mode
live_meant [] = Some (Live false)
live_meant (word ∷ []) = if is_trace_word word then Some (Live true) else None
live_meant (word ∷ next ∷ words) = None

-- the mode that the words ask for
abbrev pub mode_meant : List (List ℕ) → Option Mode
mode_meant [] = None
mode_meant (verb ∷ options) =
    if bytes_eq verb (codes "run") then run_meant options
    else if bytes_eq verb (codes "replay") then replay_meant options
    else if bytes_eq verb (codes "gen") then gen_meant options
    else if bytes_eq verb (codes "live") then live_meant options
    else None

-- the mode that a list of texts asks for
abbrev pub mode_asked_for : {A : Type 0} → List (String A) → Option Mode
mode_asked_for words = mode_meant (map (λ word. string_bytes word) words)

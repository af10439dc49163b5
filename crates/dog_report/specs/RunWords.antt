-- How bytes are reported: a word for each run of equal bytes.
use Rattle.std.specs.Prelude.{ℕ, List, ◌++◌, map, codes, decimal}
use Rattle.object_id.specs.Runs.{runs_of}
use Rattle.dog_report.specs.Words.{Words, hex}

-- a run: its byte, and its length
abbrev pub run_word : ℕ × ℕ → List ℕ
run_word run = hex 2 run.0 ++ codes "*" ++ decimal run.1

-- a word for each run
abbrev pub runs_words : List ℕ → Words
runs_words bytes = map run_word (runs_of bytes)

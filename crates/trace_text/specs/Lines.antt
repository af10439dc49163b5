-- The lines of a trace, and of an input that has a script and a trace.
use Rattle.std.specs.Prelude.{ℕ, Bool, List, [], ◌∷◌, bytes_eq, codes}
use Rattle.std.specs.List.{before_first, after_first}
use Rattle.cluster_script.specs.Words.{lines_of}

-- what follows the last LF is a line only where it isn't empty
abbrev pub last_line : List ℕ → List (List ℕ)
last_line [] = []
last_line (byte ∷ bytes) = (byte ∷ bytes) ∷ []

-- parts between LFs, as lines
abbrev pub whole_lines : List (List ℕ) → List (List ℕ)
whole_lines [] = []
whole_lines (line ∷ []) = last_line line
whole_lines (line ∷ next ∷ lines) = line ∷ whole_lines (next ∷ lines)

-- the lines of a trace
abbrev pub lines_in : List ℕ → List (List ℕ)
lines_in text = whole_lines (lines_of text)

-- the line that ends a script, where a trace follows
abbrev pub is_trace_line : List ℕ → Bool
is_trace_line line = bytes_eq line (codes "trace")

-- of an input that has a script and a trace the lines of the script
abbrev pub script_lines : List ℕ → List (List ℕ)
script_lines input = before_first is_trace_line (lines_of input)

-- and those of the trace; without that line there is none
abbrev pub trace_lines : List ℕ → List (List ℕ)
trace_lines input = whole_lines (after_first is_trace_line (lines_of input))

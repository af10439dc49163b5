-- An input that has a script and a trace, cut at its first line that is exactly `trace`.
use Rattle.std.specs.Prelude.{ℕ, List}
use Rattle.std.specs.List.{join_with_byte, after_first}
use Rattle.cluster_script.specs.Words.{lines_of}
use Rattle.trace_text.specs.Lines.{is_trace_line, script_lines}

-- the script: what stands before that line, without the LF in front of it; all of the input where there is no such line
abbrev pub script_part : List ℕ → List ℕ
script_part input = join_with_byte 10 (script_lines input)

-- the trace: what stands behind that line and its LF; nothing where there is no such line
abbrev pub trace_part : List ℕ → List ℕ
trace_part input = join_with_byte 10 (after_first is_trace_line (lines_of input))

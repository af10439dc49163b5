-- The lines of a generated script's rounds are what its statements are written as.
use Rattle.std.proofs.Common.{◌≡◌, ℕ, ◌+◌, ◌*◌, ◌/◌, ◌%◌, ◌^◌, ◌==◌, Bool, true, false, cond, List, [], ◌∷◌, ◌++◌, take, drop, map, codes, decimal, refl, sym, ap, ap₂, ◌∙◌, append_assoc}
use Rattle.std.specs.Prelude.{flat_map}
use Rattle.std.specs.Fmt.{digits}
use Rattle.std.specs.List.{join_with_byte, AllByRecursion}
use Rattle.std.proofs.lemmas.Grind.{flat_map-append}
use Rattle.cluster_script.specs.declared.statement.Pattern.TheVariants.{Fill}
use Rattle.cluster_script.specs.declared.statement.Statement.{Statement}
use Rattle.cluster_script.specs.declared.statement.Statement.TheVariants.{Read, Write, Settle}
use Rattle.cluster_script.specs.Writing.{words_for, line_for, text_for}
use Rattle.schedule.specs.Generated.{piece_text, request_line, control_lines, round_lines}
use Rattle.schedule.specs.GeneratedScript.{text_of_lines, request_statement, control_statements, round_statements}
use Rattle.schedule.proofs.GeneratedParts.{text-append}

piece-bytes : decimal 4096 ≡ codes "4096"
unfolding digits
piece-bytes = refl

five-parts : (a b c d e f : List ℕ) → a ++ b ++ c ++ d ++ e ++ f ≡ a ++ (b ++ (c ++ (d ++ (e ++ f))))
five-parts a b c d e f =
    append_assoc (a ++ b ++ c ++ d) e f ∙ append_assoc (a ++ b ++ c) d (e ++ f) ∙ append_assoc (a ++ b) c (d ++ (e ++ f))
    ∙ append_assoc a b (c ++ (d ++ (e ++ f)))

-- the words of a read, and those of a write
read-line : (session offset : ℕ)
    → decimal session ++ codes " vdi " ++ codes "read" ++ codes " " ++ decimal offset ++ codes " 4096"
    ≡ join_with_byte 32 (words_for (Read session offset 4096))
read-line session offset =
    five-parts (decimal session) (codes " vdi ") (codes "read") (codes " ") (decimal offset) (codes " 4096")
    ∙ ap (λ (bytes : List ℕ). decimal session ++ (codes " vdi read " ++ (decimal offset ++ (codes " " ++ bytes)))) (sym piece-bytes)

write-line : (session offset byte : ℕ)
    → (decimal session ++ codes " vdi " ++ codes "write" ++ codes " " ++ decimal offset ++ codes " 4096") ++ codes " fill " ++ decimal byte
    ≡ join_with_byte 32 (words_for (Write session offset 4096 (Fill byte)))
write-line session offset byte =
    let fill : List ℕ = codes " fill " ++ decimal byte in
    append_assoc (decimal session ++ codes " vdi " ++ codes "write" ++ codes " " ++ decimal offset ++ codes " 4096") (codes " fill ") (decimal byte)
    ∙ ap (λ (piece : List ℕ). piece ++ fill)
    (five-parts (decimal session) (codes " vdi ") (codes "write") (codes " ") (decimal offset) (codes " 4096"))
    ∙ append_assoc (decimal session) (codes " vdi write " ++ (decimal offset ++ codes " 4096")) fill
    ∙ ap (λ (rest : List ℕ). decimal session ++ (codes " vdi write " ++ rest)) (append_assoc (decimal offset) (codes " 4096") fill)
    ∙ ap (λ (bytes : List ℕ). decimal session ++ (codes " vdi write " ++ (decimal offset ++ (codes " " ++ (bytes ++ fill))))) (sym piece-bytes)

request-line : (word : ℕ) → request_line word ≡ join_with_byte 32 (words_for (request_statement word))
request-line word = by_kind (word / 2 ^ 40 % 4 == 0)
  where
    by_kind : (reads : Bool)
        → cond reads (piece_text (codes "read") word) (piece_text (codes "write") word ++ codes " fill " ++ decimal (word / 2 ^ 32 % 256))
        ≡ join_with_byte 32
        (words_for (cond reads (Read (1 + word % 4) (word / 4 % 16384 * 4096) 4096)
        (Write (1 + word % 4) (word / 4 % 16384 * 4096) 4096 (Fill (word / 2 ^ 32 % 256)))))
    by_kind true = read-line (1 + word % 4) (word / 4 % 16384 * 4096)
    by_kind false = write-line (1 + word % 4) (word / 4 % 16384 * 4096) (word / 2 ^ 32 % 256)

requests-text : (words : List ℕ) → text_of_lines (map request_line words) ≡ text_for (map request_statement words)
requests-text [] = refl
requests-text (word ∷ words) =
    ap₂ (λ (line rest : List ℕ). (line ++ codes "\n") ++ rest) (request-line word) (requests-text words)

pub written-append : (first rest : List Statement) → text_for (first ++ rest) ≡ text_for first ++ text_for rest
written-append first rest = flat_map-append line_for first rest

-- lines before more lines, and statements before more statements
both-append : (lines more : List (List ℕ)) (statements rest : List Statement) → text_of_lines lines ≡ text_for statements
    → text_of_lines more ≡ text_for rest → text_of_lines (lines ++ more) ≡ text_for (statements ++ rest)
both-append lines more statements rest first later =
    text-append lines more ∙ ap₂ (λ (a b : List ℕ). a ++ b) first later ∙ sym (written-append statements rest)

abbrev IsControl : ℕ → Type 0
IsControl round = text_of_lines (control_lines round) ≡ text_for (control_statements round)

round-text : (words : List ℕ) (round : ℕ) → IsControl round → text_of_lines (round_lines words round) ≡ text_for (round_statements words round)
round-text words round is =
    let mine : List ℕ = take 50 (drop (50 * round) words) in
    both-append (control_lines round ++ map request_line mine) (codes "settle" ∷ []) (control_statements round ++ map request_statement mine)
    (Settle ∷ [])
    (both-append (control_lines round) (map request_line mine) (control_statements round) (map request_statement mine) is (requests-text mine))
    refl

rounds-text : (words rounds : List ℕ) → AllByRecursion IsControl rounds
    → text_of_lines (flat_map (round_lines words) rounds) ≡ text_for (flat_map (round_statements words) rounds)
rounds-text words [] all = refl
rounds-text words (round ∷ rounds) all =
    both-append (round_lines words round) (flat_map (round_lines words) rounds) (round_statements words round)
    (flat_map (round_statements words) rounds) (round-text words round all.0) (rounds-text words rounds all.1)

-- the text of four rounds
pub four-rounds : (words : List ℕ)
    → text_of_lines (flat_map (round_lines words) (0 ∷ 1 ∷ 2 ∷ 3 ∷ [])) ≡ text_for (flat_map (round_statements words) (0 ∷ 1 ∷ 2 ∷ 3 ∷ []))
unfolding digits
four-rounds words = rounds-text words (0 ∷ 1 ∷ 2 ∷ 3 ∷ []) (refl, (refl, (refl, (refl, tt))))

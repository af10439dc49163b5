-- The line of a generated script, as it is put together.
use Rattle.std.proofs.Common.{◌≡◌, ℕ, ◌+◌, List, [], ◌∷◌, ◌++◌, length, ap, ◌∙◌}
use Rattle.std.specs.Prelude.{codes, decimal}
use Rattle.object_id.specs.Hash.{fnv1a_of}
use Rattle.dog_report.specs.declared.counts.Counts.{Counts}
use Rattle.dog_report.specs.Words.{Words, spaced_words, following_words, hex}
use Rattle.dog_report.specs.Fates.{ReportLine, numbers_told}
use Rattle.dog_report.specs.Report.{report_text}
use Rattle.dog_report.specs.ToldPart.{counts_of}
use Rattle.dog_report.specs.Counts.{generated_words}
use Rattle.dog_report.proofs.CountLaws.{counts-add}
use Rattle.dog_report.proofs.WordLemmas.{more_words, line-pushed}

-- how many requests are told of in each way
abbrev ways : Counts → Words
ways counts =
    codes "ok" ∷ decimal counts.ok ∷ codes "refused" ∷ decimal counts.refused ∷ codes "gone" ∷ decimal counts.gone
    ∷ codes "pending" ∷ decimal counts.pending ∷ codes "unsent" ∷ decimal counts.unsent ∷ []

-- the words behind the first one
abbrev words_behind : ℕ → ℕ → Counts → ℕ → Words
words_behind number requests counts hash =
    decimal number ∷ codes "requests" ∷ decimal requests ∷ (ways counts ++ codes "hash" ∷ hex 16 hash ∷ [])

pub generated-pushed : (lines : List ReportLine) (counts : Counts) (number requests hash : ℕ) (t0 t1 t2 t3 t4 t5 t6 : List ℕ)
    → counts ≡ counts_of lines → requests ≡ counts.ok + counts.refused + counts.gone + counts.pending + counts.unsent
    → hash ≡ fnv1a_of (report_text lines)
    → t0 ≡ codes "gen" → t1 ≡ t0 ++ following_words (decimal number ∷ [])
    → t2 ≡ t1 ++ following_words (codes "requests" ∷ decimal requests ∷ [])
    → t3 ≡ t2 ++ following_words (ways counts)
    → t4 ≡ t3 ++ following_words (codes "hash" ∷ [])
    → t5 ≡ t4 ++ following_words (hex 16 hash ∷ [])
    → t6 ≡ t5 ++ codes "\n"
    → t6 ≡ spaced_words (generated_words number lines) ++ codes "\n"
generated-pushed lines counts number requests hash t0 t1 t2 t3 t4 t5 t6 same sum hashed e0 e1 e2 e3 e4 e5 e6 =
    line-pushed [] (codes "gen") t0 t5 (codes "\n") t6 (words_behind number requests counts hash) e0 all e6
    ∙ ap (λ (counts : Counts). text requests counts hash) same
    ∙ ap (λ requests. text requests (counts_of lines) hash)
    (sum ∙ ap (λ (counts : Counts). counts.ok + counts.refused + counts.gone + counts.pending + counts.unsent) same ∙ counts-add lines)
    ∙ ap (λ hash. text (length (numbers_told lines)) (counts_of lines) hash) hashed
  where
    text : ℕ → Counts → ℕ → List ℕ
    text requests counts hash = spaced_words (codes "gen" ∷ words_behind number requests counts hash) ++ codes "\n"

    to_requests : t2 ≡ t0 ++ following_words (decimal number ∷ codes "requests" ∷ decimal requests ∷ [])
    to_requests = more_words t0 t1 t2 (decimal number ∷ []) (codes "requests" ∷ decimal requests ∷ []) e1 e2

    to_ways : t3 ≡ t0 ++ following_words (decimal number ∷ codes "requests" ∷ decimal requests ∷ ways counts)
    to_ways = more_words t0 t2 t3 (decimal number ∷ codes "requests" ∷ decimal requests ∷ []) (ways counts) to_requests e3

    to_hash : t4 ≡ t0 ++ following_words (decimal number ∷ codes "requests" ∷ decimal requests ∷ (ways counts ++ codes "hash" ∷ []))
    to_hash = more_words t0 t3 t4 (decimal number ∷ codes "requests" ∷ decimal requests ∷ ways counts) (codes "hash" ∷ []) to_ways e4

    all : t5 ≡ t0 ++ following_words (words_behind number requests counts hash)
    all =
        more_words t0 t4 t5 (decimal number ∷ codes "requests" ∷ decimal requests ∷ (ways counts ++ codes "hash" ∷ [])) (hex 16 hash ∷ [])
        to_hash e5

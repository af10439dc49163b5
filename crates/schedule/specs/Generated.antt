-- The script that a number generates, by its lines: six nodes, four sessions with a disk each, and four rounds of reads and
-- writes drawn from the number.
use Rattle.std.specs.Prelude.{ℕ, zero, suc, ◌+◌, ◌-◌, ◌*◌, ◌/◌, ◌%◌, ◌^◌, ◌==◌, List, [], ◌∷◌, ◌++◌, take, drop, map, flat_map, codes}
use Rattle.std.specs.Prelude.{decimal, if◌then◌else◌}
use Rattle.std.specs.List.{range_with_len}
use Rattle.rand_xoshiro.specs.SplitMix64.{mix_u64}

-- the next words of a generator, so many, from a state on
unfoldable pub words_from : ℕ → ℕ → List ℕ
words_from zero rng = []
words_from (suc count) rng = (mix_u64 rng).0 ∷ words_from count (mix_u64 rng).1

-- the generator's state behind so many words
unfoldable pub rng_after : ℕ → ℕ → ℕ
rng_after zero rng = rng
rng_after (suc count) rng = rng_after count (mix_u64 rng).1

-- a session's gateway
abbrev pub session_line : ℕ → List ℕ
session_line session = codes "session " ++ decimal session ++ codes " node " ++ decimal (session - 1)

-- odd sessions keep three copies, even ones strips
abbrev pub policy_text : ℕ → List ℕ
policy_text session = if session % 2 == 1 then codes "3" else codes "2:2"

-- the line by which a session makes its disk
abbrev pub create_line : ℕ → List ℕ
create_line session =
    decimal session ++ codes " vdi create -c " ++ policy_text session ++ codes " -z 20 g" ++ decimal session ++ codes " 64M"

-- a session makes its disk, and then opens it
abbrev pub disk_lines : ℕ → List (List ℕ)
disk_lines session = create_line session ∷ (decimal session ++ codes " vdi open g" ++ decimal session) ∷ []

-- the piece that a word draws: its session, and where it lies
abbrev pub piece_text : List ℕ → ℕ → List ℕ
piece_text verb word =
    decimal (1 + word % 4) ++ codes " vdi " ++ verb ++ codes " " ++ decimal (word / 4 % 16384 * 4096) ++ codes " 4096"

-- the request that a word draws: one in four reads
abbrev pub request_line : ℕ → List ℕ
request_line word =
    if word / 2 ^ 40 % 4 == 0 then piece_text (codes "read") word
    else piece_text (codes "write") word ++ codes " fill " ++ decimal (word / 2 ^ 32 % 256)

-- in round 1 a node fails, and in round 2 one joins
abbrev pub control_lines : ℕ → List (List ℕ)
control_lines round = if round == 1 then codes "fail 5" ∷ [] else (if round == 2 then codes "join 6" ∷ [] else [])

-- a round of fifty requests, by its words
abbrev pub round_lines : List ℕ → ℕ → List (List ℕ)
round_lines words round = control_lines round ++ map request_line (take 50 (drop (50 * round) words)) ++ codes "settle" ∷ []

-- what stands before the rounds
abbrev pub opening_lines : List (List ℕ)
opening_lines =
    codes "cluster 6" ∷ codes "tries 1000" ∷ map session_line (range_with_len 1 4) ++ flat_map disk_lines (range_with_len 1 4)
    ++ codes "settle" ∷ []

-- the lines of the script; the words are the first two hundred of the generator whose state is the number
unfoldable pub generated_lines : ℕ → List (List ℕ)
generated_lines number = opening_lines ++ flat_map (round_lines (words_from 200 number)) (range_with_len 0 4)

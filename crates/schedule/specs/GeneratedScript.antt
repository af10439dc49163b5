-- The script that a number generates, as a text and as the statements that it is read as.
use Rattle.std.specs.Prelude.{ℕ, ◌+◌, ◌-◌, ◌*◌, ◌/◌, ◌%◌, ◌^◌, ◌==◌, List, [], ◌∷◌, ◌++◌, take, drop, map, flat_map, codes, decimal, None}
use Rattle.std.specs.Prelude.{if◌then◌else◌}
use Rattle.std.specs.List.{range_with_len}
use Rattle.object_id.specs.declared.policy.Policy.{Policy}
use Rattle.object_id.specs.declared.policy.Policy.TheVariants.{Copies, Coded}
use Rattle.cluster_script.specs.declared.statement.Pattern.TheVariants.{Fill}
use Rattle.cluster_script.specs.declared.statement.Statement.{Statement}
use Rattle.cluster_script.specs.declared.statement.Statement.TheVariants.{Cluster, Tries, Session, Create, OpenDisk}
use Rattle.cluster_script.specs.declared.statement.Statement.TheVariants.{Read, Write, Fail, Join, Settle}
use Rattle.schedule.specs.Generated.{words_from, generated_lines}

-- lines as a text: an LF ends each
abbrev pub text_of_lines : List (List ℕ) → List ℕ
text_of_lines lines = flat_map (λ line. line ++ codes "\n") lines

-- the text of the script
abbrev pub generated_text : ℕ → List ℕ
generated_text number = text_of_lines (generated_lines number)

-- a session's gateway is the node one below
abbrev pub session_statement : ℕ → Statement
session_statement session = Session session (session - 1)

-- odd sessions keep three copies, even ones two data and two parity strips
abbrev pub disk_policy : ℕ → Policy
disk_policy session = if session % 2 == 1 then Copies 3 else Coded 2 2

-- a session makes a disk of 64 objects of 2^20 bytes, and opens it
abbrev pub disk_statements : ℕ → List Statement
disk_statements session =
    Create session (disk_policy session) 20 (codes "g" ++ decimal session) (64 * 2 ^ 20)
    ∷ OpenDisk session (codes "g" ++ decimal session) None ∷ []

-- the request that a word draws: its session, one of 16,384 pieces of 4,096 bytes, and for a write the byte
abbrev pub request_statement : ℕ → Statement
request_statement word =
    if word / 2 ^ 40 % 4 == 0 then Read (1 + word % 4) (word / 4 % 16384 * 4096) 4096
    else Write (1 + word % 4) (word / 4 % 16384 * 4096) 4096 (Fill (word / 2 ^ 32 % 256))

-- in round 1 a node fails, and in round 2 one joins
abbrev pub control_statements : ℕ → List Statement
control_statements round = if round == 1 then Fail 5 ∷ [] else (if round == 2 then Join 6 ∷ [] else [])

-- a round of fifty requests, by its words
abbrev pub round_statements : List ℕ → ℕ → List Statement
round_statements words round =
    control_statements round ++ map request_statement (take 50 (drop (50 * round) words)) ++ Settle ∷ []

-- what stands before the rounds
abbrev pub opening_statements : List Statement
opening_statements =
    Cluster 6 ∷ Tries 1000 ∷ map session_statement (range_with_len 1 4) ++ flat_map disk_statements (range_with_len 1 4)
    ++ Settle ∷ []

-- the rounds
abbrev pub rounds_of_statements : ℕ → List Statement
rounds_of_statements number = flat_map (round_statements (words_from 200 number)) (range_with_len 0 4)

-- the statements of the script
abbrev pub generated_statements : ℕ → List Statement
generated_statements number = opening_statements ++ rounds_of_statements number

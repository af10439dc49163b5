-- Which words spell a statement, and which texts a script: what reading comes to.
use Rattle.std.specs.Prelude.{◌≡◌, ◌⊎◌, ℕ, ◌+◌, true, List, [], ◌∷◌, ◌++◌, length, codes, Option, Some, None, Ok, Err}
use Rattle.std.specs.List.{filter_map}
use Rattle.std.specs.Str.{is_utf8}
use Rattle.object_id.specs.declared.policy.Policy.{Policy}
use Rattle.object_id.specs.declared.policy.Policy.TheVariants.{Copies}
use Rattle.cluster_script.specs.declared.statement.Pattern.{Pattern}
use Rattle.cluster_script.specs.declared.statement.Pattern.TheVariants as patterns
use Rattle.cluster_script.specs.declared.statement.Statement.{Statement}
use Rattle.cluster_script.specs.declared.statement.Statement.TheVariants.{Cluster, Vnodes, Tries, Limit, Session, Create, OpenDisk, Close}
use Rattle.cluster_script.specs.declared.statement.Statement.TheVariants.{Read, Write, Snapshot, Clone, Delete, Fail, Join, Lose, Settle}
use Rattle.cluster_script.specs.declared.statement.Statement.TheVariants.{ListNodes, ListVdis, ClusterInfo, Dump, Zone, Reweight, Back}
use Rattle.cluster_script.specs.declared.statement.Statement.TheVariants.{Check}
use Rattle.cluster_script.specs.declared.fault.LineCause.{LineCause}
use Rattle.object_id.specs.declared.limits.TheConstants.{SHIFT_DEFAULT}
use Rattle.cluster_script.specs.Language.{IsScript}
use Rattle.cluster_script.specs.Words.{Word, lines_of, words_of, says_nothing}
use Rattle.cluster_script.specs.Numbers.{number_of, size_of_word}
use Rattle.cluster_script.specs.Requests.{policy_of_word}
use Rattle.cluster_script.specs.Script.{line_at, statement_at}

-- digits that are this number
abbrev pub IsNumber : ℕ → Word → Type 0
IsNumber number word = number_of word ≡ Ok number

-- digits and a suffix, where there is one, that are this size
abbrev pub IsSize : ℕ → Word → Type 0
IsSize size word = size_of_word word ≡ Ok size

-- a number of copies, or `D:P`
abbrev pub IsPolicyWord : Policy → Word → Type 0
IsPolicyWord policy word = policy_of_word word ≡ Ok policy

-- an option: its name and a word that spells the value, or nothing for its default
abbrev pub IsOption : {A : Type 0} → Word → (A → Word → Type 0) → A → A → List Word → Type 0
IsOption name Spells default value words =
    ((words ≡ []) × (value ≡ default)) ⊎ ((word : Word) × (words ≡ name ∷ word ∷ []) × Spells value word)

-- a keyword and a number
abbrev pub IsOneNumber : Word → ℕ → List Word → Type 0
IsOneNumber keyword number words = (word : Word) × (words ≡ keyword ∷ word ∷ []) × IsNumber number word

-- a keyword and two numbers
abbrev pub IsTwoNumbers : Word → ℕ → ℕ → List Word → Type 0
IsTwoNumbers keyword first second words =
    (a b : Word) × (words ≡ keyword ∷ a ∷ b ∷ []) × IsNumber first a × IsNumber second b

-- what a session asks: its number, `vdi`, a verb, and the words behind it
abbrev pub IsRequestWords : ℕ → Word → List Word → List Word → Type 0
IsRequestWords session verb rest words = (word : Word) × (words ≡ word ∷ codes "vdi" ∷ verb ∷ rest) × IsNumber session word

-- `[-s TAG] NAME`, behind a verb
abbrev pub IsAskedOfDisk : ℕ → Word → Word → Option Word → List Word → Type 0
IsAskedOfDisk session verb name None words = IsRequestWords session verb (name ∷ []) words
IsAskedOfDisk session verb name (Some tag) words = IsRequestWords session verb (codes "-s" ∷ tag ∷ name ∷ []) words

-- `fill BYTE` or `step BYTE`
abbrev pub IsPatternWords : Pattern → Word → Word → Type 0
IsPatternWords (patterns.Fill byte) name word = (name ≡ codes "fill") × IsNumber byte word
IsPatternWords (patterns.Step byte) name word = (name ≡ codes "step") × IsNumber byte word

-- words that spell a statement
abbrev pub IsSpelled : Statement → List Word → Type 0
IsSpelled (Cluster nodes) words = IsOneNumber (codes "cluster") nodes words
IsSpelled (Vnodes vnodes) words = IsOneNumber (codes "vnodes") vnodes words
IsSpelled (Tries tries) words = IsOneNumber (codes "tries") tries words
IsSpelled (Limit limit) words = IsOneNumber (codes "limit") limit words
IsSpelled (Session session node) words =
    (a b : Word) × (words ≡ codes "session" ∷ a ∷ codes "node" ∷ b ∷ []) × IsNumber session a × IsNumber node b
IsSpelled (Create session policy shift name size) words =
    (c z : List Word) × (word : Word) × IsRequestWords session (codes "create") (c ++ z ++ name ∷ word ∷ []) words
    × IsOption (codes "-c") IsPolicyWord (Copies 3) policy c × IsOption (codes "-z") IsNumber SHIFT_DEFAULT shift z × IsSize size word
IsSpelled (OpenDisk session name tag) words = IsAskedOfDisk session (codes "open") name tag words
IsSpelled (Close session) words = IsRequestWords session (codes "close") [] words
IsSpelled (Read session offset length) words =
    (a b : Word) × IsRequestWords session (codes "read") (a ∷ b ∷ []) words × IsSize offset a × IsSize length b
IsSpelled (Write session offset length pattern) words =
    (a b name byte : Word) × IsRequestWords session (codes "write") (a ∷ b ∷ name ∷ byte ∷ []) words
    × IsSize offset a × IsSize length b × IsPatternWords pattern name byte
IsSpelled (Snapshot session tag) words = IsRequestWords session (codes "snapshot") (codes "-s" ∷ tag ∷ []) words
IsSpelled (Clone session base tag name) words = IsRequestWords session (codes "clone") (codes "-s" ∷ tag ∷ base ∷ name ∷ []) words
IsSpelled (Delete session name tag) words = IsAskedOfDisk session (codes "delete") name tag words
IsSpelled (Fail node) words = IsOneNumber (codes "fail") node words
IsSpelled (Join node) words = IsOneNumber (codes "join") node words
IsSpelled (Lose count) words = IsOneNumber (codes "lose") count words
IsSpelled Settle words = words ≡ codes "settle" ∷ []
IsSpelled ListNodes words = words ≡ codes "node" ∷ codes "list" ∷ []
IsSpelled ListVdis words = words ≡ codes "vdi" ∷ codes "list" ∷ []
IsSpelled ClusterInfo words = words ≡ codes "cluster" ∷ codes "info" ∷ []
IsSpelled Dump words = words ≡ codes "dump" ∷ []
IsSpelled (Zone node zone) words = IsTwoNumbers (codes "zone") node zone words
IsSpelled (Reweight node vnodes) words = IsTwoNumbers (codes "reweight") node vnodes words
IsSpelled (Back node) words = IsOneNumber (codes "back") node words
IsSpelled (Check session) words = IsRequestWords session (codes "check") [] words

-- words say a statement, or nothing
abbrev pub IsSaid : Option Statement → List Word → Type 0
IsSaid None words = says_nothing words ≡ true
IsSaid (Some s) words = IsSpelled s words

-- a line is UTF-8, and its words say this
pub record IsLine (line : List ℕ) (said : Option Statement) : Type 0 where
  pub text : is_utf8 line ≡ true
  pub words : IsSaid said (words_of line)

-- what lines say, one after another
abbrev pub AreLines : List (List ℕ) → List (Option Statement) → Type 0
AreLines [] [] = Unit {0}
AreLines [] (first ∷ later) = ⊥
AreLines (line ∷ lines) [] = ⊥
AreLines (line ∷ lines) (first ∷ later) = IsLine line first × AreLines lines later

-- the statements among what lines say
abbrev pub statements_said : List (Option Statement) → List Statement
statements_said said = filter_map (λ s. s) said

-- the lines of a text say these statements
abbrev pub IsScriptText : List ℕ → List Statement → Type 0
IsScriptText text statements = (said : List (Option Statement)) × AreLines (lines_of text) said × (statements_said said ≡ statements)

-- the first bad line of a text: the lines before it say a script, behind which this line has the cause
pub record IsBadLine (text : List ℕ) (number : ℕ) (cause : LineCause) : Type 0 where
  pub before : List (List ℕ)
  pub line : List ℕ
  pub later : List (List ℕ)
  pub parted : lines_of text ≡ before ++ line ∷ later
  pub counted : number ≡ length before + 1
  pub said : List (Option Statement)
  pub good : AreLines before said
  pub script : IsScript (statements_said said)
  pub bad : line_at statement_at (statements_said said) line ≡ Err cause

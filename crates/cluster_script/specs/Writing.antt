-- A text for each script: each statement on a line of its own, each number in decimal.
use Rattle.std.specs.Prelude.{ℕ, List, [], ◌∷◌, ◌++◌, flat_map, codes, decimal, Option, Some, None}
use Rattle.std.specs.List.{join_with_byte}
use Rattle.object_id.specs.declared.policy.Policy.{Policy}
use Rattle.object_id.specs.declared.policy.Policy.TheVariants.{Copies, Coded}
use Rattle.cluster_script.specs.declared.statement.Pattern.{Pattern}
use Rattle.cluster_script.specs.declared.statement.Pattern.TheVariants as patterns
use Rattle.cluster_script.specs.declared.statement.Statement.{Statement}
use Rattle.cluster_script.specs.declared.statement.Statement.TheVariants.{Cluster, Vnodes, Tries, Limit, Session, Create, OpenDisk, Close}
use Rattle.cluster_script.specs.declared.statement.Statement.TheVariants.{Read, Write, Snapshot, Clone, Delete, Fail, Join, Lose, Settle}
use Rattle.cluster_script.specs.declared.statement.Statement.TheVariants.{ListNodes, ListVdis, ClusterInfo, Dump, Zone, Reweight, Back}
use Rattle.cluster_script.specs.declared.statement.Statement.TheVariants.{Check}
use Rattle.cluster_script.specs.Words.{Word}

-- a number of copies, or `D:P`
abbrev pub policy_word : Policy → Word
policy_word (Copies copies) = decimal copies
policy_word (Coded d p) = decimal d ++ codes ":" ++ decimal p

-- `-s TAG`, where there is a tag
abbrev pub tag_words : Option Word → List Word
tag_words None = []
tag_words (Some tag) = codes "-s" ∷ tag ∷ []

-- `fill BYTE` or `step BYTE`
abbrev pub pattern_words : Pattern → List Word
pattern_words (patterns.Fill byte) = codes "fill" ∷ decimal byte ∷ []
pattern_words (patterns.Step byte) = codes "step" ∷ decimal byte ∷ []

-- what a session asks by a verb
abbrev pub asked_words : ℕ → Word → List Word → List Word
asked_words session verb rest = decimal session ∷ codes "vdi" ∷ verb ∷ rest

-- the words of a statement; a create says both its options
abbrev pub words_for : Statement → List Word
words_for (Cluster nodes) = codes "cluster" ∷ decimal nodes ∷ []
words_for (Vnodes vnodes) = codes "vnodes" ∷ decimal vnodes ∷ []
words_for (Tries tries) = codes "tries" ∷ decimal tries ∷ []
words_for (Limit limit) = codes "limit" ∷ decimal limit ∷ []
words_for (Session session node) = codes "session" ∷ decimal session ∷ codes "node" ∷ decimal node ∷ []
words_for (Create session policy shift name size) =
    asked_words session (codes "create") (codes "-c" ∷ policy_word policy ∷ codes "-z" ∷ decimal shift ∷ name ∷ decimal size ∷ [])
words_for (OpenDisk session name tag) = asked_words session (codes "open") (tag_words tag ++ name ∷ [])
words_for (Close session) = asked_words session (codes "close") []
words_for (Read session offset length) = asked_words session (codes "read") (decimal offset ∷ decimal length ∷ [])
words_for (Write session offset length pattern) =
    asked_words session (codes "write") (decimal offset ∷ decimal length ∷ pattern_words pattern)
words_for (Snapshot session tag) = asked_words session (codes "snapshot") (codes "-s" ∷ tag ∷ [])
words_for (Clone session base tag name) = asked_words session (codes "clone") (codes "-s" ∷ tag ∷ base ∷ name ∷ [])
words_for (Delete session name tag) = asked_words session (codes "delete") (tag_words tag ++ name ∷ [])
words_for (Fail node) = codes "fail" ∷ decimal node ∷ []
words_for (Join node) = codes "join" ∷ decimal node ∷ []
words_for (Lose count) = codes "lose" ∷ decimal count ∷ []
words_for Settle = codes "settle" ∷ []
words_for ListNodes = codes "node" ∷ codes "list" ∷ []
words_for ListVdis = codes "vdi" ∷ codes "list" ∷ []
words_for ClusterInfo = codes "cluster" ∷ codes "info" ∷ []
words_for Dump = codes "dump" ∷ []
words_for (Zone node zone) = codes "zone" ∷ decimal node ∷ decimal zone ∷ []
words_for (Reweight node vnodes) = codes "reweight" ∷ decimal node ∷ decimal vnodes ∷ []
words_for (Back node) = codes "back" ∷ decimal node ∷ []
words_for (Check session) = asked_words session (codes "check") []

-- the line of a statement: its words with a space (32) between, and LF at its end
abbrev pub line_for : Statement → List ℕ
line_for s = join_with_byte 32 (words_for s) ++ codes "\n"

-- the text of a script
abbrev pub text_for : List Statement → List ℕ
text_for statements = flat_map line_for statements

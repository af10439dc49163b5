-- Words that spell a statement are read as it, where it may stand.
use Rattle.std.proofs.Common.{◌≡◌, ℕ, ◌+◌, ◌-◌, ◌*◌, ◌%◌, ◌^◌, ◌≤◌, ◌<◌, Bool, true, false, not, ◌&&◌, List, [], ◌∷◌, ◌++◌, refl, sym, ap, subst, ◌∙◌, inl, inr, Option, Some, None, Result, Ok, Err, append_assoc, arith, if◌then◌else◌}
use Rattle.std.specs.Prelude.{bytes_eq, codes, count_by, sum_by, nat_lt, nat_eq, slice_get, All}
use Rattle.std.specs.List.{list_all, starts_with}
use Rattle.std.proofs.lemmas.Bool.{and_from, false_from_ne_true, le-leb, lt-ltb, eq-eqb, ne_eqb, both_ways}
use Rattle.std.proofs.lemmas.List.Sums.{list_all-from_AllPass}
use Rattle.std.proofs.lemmas.Slice.Eq.{bytes_eq-Decides}
use Rattle.object_id.specs.declared.policy.Policy.{Policy}
use Rattle.object_id.specs.declared.policy.Policy.TheVariants.{Copies}
use Rattle.object_id.specs.declared.limits.TheConstants.{SHIFT_MIN, SHIFT_MAX, BLOCK_BYTES, SHIFT_DEFAULT, LENGTH_MAX, NODES_MAX, VNODES_MAX, TRIES_MAX, LIMIT_MAX, SESSIONS_MAX, LOSSES_MAX, REQUESTS_MAX, READ_BYTES_MAX, WRITE_BYTES_MAX, OBJECTS_MAX, ZONES_MAX}
use Rattle.cluster_script.specs.declared.statement.Pattern.{Pattern}
use Rattle.cluster_script.specs.declared.statement.Pattern.TheVariants as patterns
use Rattle.cluster_script.specs.declared.statement.Statement.{Statement}
use Rattle.cluster_script.specs.declared.statement.Statement.TheVariants.{Cluster, Vnodes, Tries, Limit, Session, Create, OpenDisk, Close, Read, Write, Snapshot, Clone, Delete, Fail, Join, Lose, Settle, ListNodes, ListVdis, ClusterInfo, Dump, Zone, Reweight, Back, Check}
use Rattle.cluster_script.specs.declared.fault.LineCause.{LineCause}
use Rattle.cluster_script.specs.declared.fault.LineCause.TheVariants as causes
use Rattle.object_id.specs.declared.limits.TheConstants.{CHECKS_MAX}
use Rattle.cluster_script.specs.Statements.{is_session_declared, is_request, read_bytes, write_bytes}
use Rattle.cluster_script.specs.Settings.{nodes_set, vnodes_set, tries_set, limit_set}
use Rattle.cluster_script.specs.Nodes.{IsNodeThere}
use Rattle.object_id.specs.Span.{IsSpan}
use Rattle.cluster_script.specs.Language.{MaySet, HasCluster, MayAsk, IsPrintedName, IsPrintedTag, IsByte, MayStand, IsScript}
use Rattle.cluster_script.specs.Words.{Word, keyword_at, is_next_word, option_at, is_name_byte, is_printed_name, name_word_at}
use Rattle.cluster_script.specs.Numbers.{is_digits, digits_value, scaled_number, number_in_range, aligned_number, plain_number_at, blocks_at}
use Rattle.cluster_script.specs.Requests.{request_within_limits, policy_option_at, shift_option_at, tag_at, create_request_at, disk_words_at, open_request_at, close_request_at, check_request_at, span_at, read_request_at, pattern_byte_at, named_pattern_at, pattern_at, write_request_at, snapshot_request_at, clone_request_at, delete_request_at, copy_verb_at, verb_at, vdi_request_at}
use Rattle.cluster_script.specs.ClusterLines.{setting_at, node_number_at, zone_number_at, zone_at, there_at, session_line_at, fail_at, join_at, reweight_at, back_at, lose_at, alone_at, followed_at, barrier_at, happening_at}
use Rattle.cluster_script.specs.Script.{asking_session, session_request_at, statement_behind_cluster, statement_at}
use Rattle.cluster_script.specs.Spelling.{IsNumber, IsSize, IsPolicyWord, IsOption, IsRequestWords, IsAskedOfDisk, IsPatternWords, IsSpelled}
use Rattle.cluster_script.proofs.ScriptFacts.{is_session_declared-session, used-node, failed-node, reads-within, writes-within}

same-bytes : (word : Word) → bytes_eq word word ≡ true
same-bytes word = (bytes_eq-Decides word word).1 refl

other-bytes : (a b : Word) → ((a ≡ b) → ⊥) → bytes_eq a b ≡ false
other-bytes a b differ = false_from_ne_true (bytes_eq a b) (λ same. differ ((bytes_eq-Decides a b).0 same))

pub number-digits : (word : Word) (number : ℕ) → IsNumber number word → is_digits word ≡ true
unfolding scaled_number
number-digits word number is = go (is_digits word) is
  where
    go : (digits : Bool)
        → (if digits && nat_lt (digits_value word * 1) (2 ^ 64) then Ok (digits_value word * 1) else Err causes.Number) ≡ Ok number
        → digits ≡ true
    go true read = refl
    go false read = absurd cc

-- a number is no keyword
number-no-keyword : (word keyword : Word) (number : ℕ) → IsNumber number word → is_digits keyword ≡ false → bytes_eq word keyword ≡ false
number-no-keyword word keyword number is other =
    other-bytes word keyword
    (λ same. both_ways (is_digits keyword) other (subst (λ (w : Word). is_digits w ≡ true) same (number-digits word number is)))

-- a name is no option, which begins with `-` (45)
name-no-option : (name option : Word) → IsPrintedName name → slice_get option 0 ≡ Some 45 → bytes_eq name option ≡ false
name-no-option name option named dash =
    other-bytes name option (λ same. named.no_option (ap (λ (w : Word). slice_get w 0) same ∙ dash))

pub each-printed : (name : List ℕ) → All (λ byte. (33 ≤ byte) × (byte ≤ 126)) name → list_all is_name_byte name ≡ true
each-printed name printed =
    list_all-from_AllPass is_name_byte name
    (λ k d lt. and_from _ _ (le-leb 33 _ (printed k d lt).0) (le-leb _ 126 (printed k d lt).1))

no-dash : (name : List ℕ) → ((slice_get name 0 ≡ Some 45) → ⊥) → not (starts_with nat_eq name (codes "-")) ≡ true
no-dash [] other = refl
no-dash (byte ∷ rest) other = rw (ne_eqb 45 byte (λ same. other (ap (λ (n : ℕ). Some n) (sym same)))) refl

-- a name passes its test
name-passes : (name : Word) → IsPrintedName name → is_printed_name name ≡ true
name-passes name named =
    and_from _ _
    (and_from _ _ (and_from _ _ (le-leb _ _ named.some) (le-leb _ _ named.short)) (each-printed name named.printed))
    (no-dash name named.no_option)

-- each reader takes the words that spell what it reads
keyword_at-spelled : (expected : Word) (rest : List Word) → keyword_at expected (expected ∷ rest) ≡ Ok rest
unfolding keyword_at
keyword_at-spelled expected rest = rw (same-bytes expected) refl

name_word_at-spelled : (name : Word) (rest : List Word) → IsPrintedName name → name_word_at (name ∷ rest) ≡ Ok (name, rest)
unfolding name_word_at
name_word_at-spelled name rest named = rw (name-passes name named) refl

number_in_range-request_within_limits : (low high number : ℕ) → low ≤ number → number ≤ high → number_in_range low high number ≡ Ok number
number_in_range-request_within_limits low high number above below = rw (le-leb low number above, le-leb number high below) refl

aligned_number-whole : (number : ℕ) → number % BLOCK_BYTES ≡ 0 → aligned_number number ≡ Ok number
aligned_number-whole number whole = rw (eq-eqb (number % BLOCK_BYTES) 0 whole) refl

plain_number_at-spelled : (low high number : ℕ) (word : Word) (rest : List Word) → IsNumber number word → low ≤ number → number ≤ high
    → plain_number_at low high (word ∷ rest) ≡ Ok (number, rest)
unfolding plain_number_at
plain_number_at-spelled low high number word rest is above below = rw (is, number_in_range-request_within_limits low high number above below) refl

blocks_at-spelled : (low high number : ℕ) (word : Word) (rest : List Word) → IsSize number word → low ≤ number → number ≤ high
    → number % BLOCK_BYTES ≡ 0 → blocks_at low high (word ∷ rest) ≡ Ok (number, rest)
unfolding blocks_at
blocks_at-spelled low high number word rest is above below whole =
    rw (is, number_in_range-request_within_limits low high number above below, aligned_number-whole number whole) refl

-- an option is read, or its default
option_at-spelled : {A : Type 0} (name : Word) (Spells : A → Word → Type 0) (default value : A)
    (reader : List Word → Result (A × List Word) LineCause) (given rest : List Word)
    → ((word : Word) → Spells value word → reader (word ∷ rest) ≡ Ok (value, rest))
    → is_next_word name rest ≡ false
    → IsOption name Spells default value given → option_at name reader default (given ++ rest) ≡ Ok (value, rest)
unfolding keyword_at
option_at-spelled name Spells default value reader given rest reads other (inl none) = rw (none.0, none.1, other) refl
option_at-spelled name Spells default value reader given rest reads other (inr (word, same, spells)) =
    rw (same, same-bytes name) (reads word spells)

policy_option_at-spelled : (policy : Policy) (word : Word) (rest : List Word) → IsPolicyWord policy word
    → policy_option_at (word ∷ rest) ≡ Ok (policy, rest)
unfolding policy_option_at
policy_option_at-spelled policy word rest is = rw is refl

tag_at-spelled : (tag : Word) (rest : List Word) → IsPrintedName tag → tag_at (tag ∷ rest) ≡ Ok (Some tag, rest)
unfolding tag_at
tag_at-spelled tag rest named = rw (name_word_at-spelled tag rest named) refl

-- `[-s TAG] NAME`, in words
abbrev disk_words : Word → Option Word → List Word
disk_words name None = name ∷ []
disk_words name (Some tag) = codes "-s" ∷ tag ∷ name ∷ []

disk_words_at-spelled : (name : Word) (tag : Option Word) → IsPrintedName name → IsPrintedTag tag → disk_words_at (disk_words name tag) ≡ Ok (name, tag, [])
unfolding disk_words_at keyword_at
disk_words_at-spelled name None named tagged = rw (name-no-option name (codes "-s") named refl, name_word_at-spelled name [] named) refl
disk_words_at-spelled name (Some tag) named tagged = rw (tag_at-spelled tag (name ∷ []) tagged, name_word_at-spelled name [] named) refl

request_within_limits-limits : (before : List Statement) (s : Statement) → count_by is_request before < REQUESTS_MAX
    → sum_by read_bytes before + read_bytes s ≤ READ_BYTES_MAX → sum_by write_bytes before + write_bytes s ≤ WRITE_BYTES_MAX
    → request_within_limits before s ≡ Ok s
request_within_limits-limits before s room reads writes = rw (lt-ltb _ _ room, le-leb _ _ reads, le-leb _ _ writes) refl

-- a request that moves no bytes
still-request_within_limits : (before : List Statement) (s : Statement) → IsScript before → count_by is_request before < REQUESTS_MAX
    → read_bytes s ≡ 0 → write_bytes s ≡ 0 → request_within_limits before s ≡ Ok s
still-request_within_limits before s script room none_read none_written =
    request_within_limits-limits before s room (omega (arith, reads-within before script)) (omega (arith, writes-within before script))

create_request_at-spelled : (before : List Statement) (session : ℕ) (policy : Policy) (shift : ℕ) (name : Word) (size : ℕ)
    (c z : List Word) (word : Word) → IsScript before → MayStand before (Create session policy shift name size)
    → IsOption (codes "-c") IsPolicyWord (Copies 3) policy c → IsOption (codes "-z") IsNumber SHIFT_DEFAULT shift z → IsSize size word
    → create_request_at before session (c ++ (z ++ name ∷ word ∷ [])) ≡ Ok (Create session policy shift name size)
unfolding create_request_at
create_request_at-spelled before session policy shift name size c z word script may policied shifted sized =
    rw (
      option_at-spelled (codes "-c") IsPolicyWord (Copies 3) policy policy_option_at c (z ++ name ∷ word ∷ [])
          (λ w is. policy_option_at-spelled policy w (z ++ name ∷ word ∷ []) is) (no-policy shifted) policied,
      option_at-spelled (codes "-z") IsNumber SHIFT_DEFAULT shift shift_option_at z (name ∷ word ∷ [])
          (λ w is. plain_number_at-spelled SHIFT_MIN SHIFT_MAX shift w (name ∷ word ∷ []) is may.2.shift.0 may.2.shift.1)
          (name-no-option name (codes "-z") may.1 refl) shifted,
      name_word_at-spelled name (word ∷ []) may.1,
      blocks_at-spelled BLOCK_BYTES (OBJECTS_MAX * 2 ^ shift) size word [] sized may.2.size.0 may.2.size.1 may.2.blocks,
    )
    (still-request_within_limits before (Create session policy shift name size) script may.0.room refl refl)
  where
    no-policy : IsOption (codes "-z") IsNumber SHIFT_DEFAULT shift z → is_next_word (codes "-c") (z ++ name ∷ word ∷ []) ≡ false
    no-policy (inl none) = rw none.0 (name-no-option name (codes "-c") may.1 refl)
    no-policy (inr (w, same, is)) = rw same refl

open_request_at-spelled : (before : List Statement) (session : ℕ) (name : Word) (tag : Option Word) → IsScript before
    → MayStand before (OpenDisk session name tag)
    → open_request_at before session (disk_words name tag) ≡ Ok (OpenDisk session name tag)
unfolding open_request_at
open_request_at-spelled before session name tag script may =
    rw (disk_words_at-spelled name tag may.1 may.2) (still-request_within_limits before (OpenDisk session name tag) script may.0.room refl refl)

delete_request_at-spelled : (before : List Statement) (session : ℕ) (name : Word) (tag : Option Word) → IsScript before
    → MayStand before (Delete session name tag)
    → delete_request_at before session (disk_words name tag) ≡ Ok (Delete session name tag)
unfolding delete_request_at
delete_request_at-spelled before session name tag script may =
    rw (disk_words_at-spelled name tag may.1 may.2) (still-request_within_limits before (Delete session name tag) script may.0.room refl refl)

close_request_at-spelled : (before : List Statement) (session : ℕ) → IsScript before → MayStand before (Close session)
    → close_request_at before session [] ≡ Ok (Close session)
unfolding close_request_at
close_request_at-spelled before session script may = still-request_within_limits before (Close session) script may.room refl refl

check_request_at-spelled : (before : List Statement) (session : ℕ) → IsScript before → MayStand before (Check session)
    → check_request_at before session [] ≡ Ok (Check session)
unfolding check_request_at
check_request_at-spelled before session script may =
    rw (lt-ltb _ CHECKS_MAX may.1) (still-request_within_limits before (Check session) script may.0.room refl refl)

span_at-spelled : (offset size : ℕ) (a b : Word) (rest : List Word) → IsSpan offset size → IsSize offset a → IsSize size b
    → span_at (a ∷ b ∷ rest) ≡ Ok (offset, size, rest)
unfolding span_at
span_at-spelled offset size a b rest span at bytes =
    rw (
      blocks_at-spelled 0 (2 ^ 64 - 1) offset a (b ∷ rest) at (omega arith) (omega (arith, span.below)) span.start,
      blocks_at-spelled BLOCK_BYTES LENGTH_MAX size b rest bytes span.least span.most span.whole,
    ) refl

read_request_at-spelled : (before : List Statement) (session offset size : ℕ) (a b : Word) → IsScript before
    → MayStand before (Read session offset size) → IsSize offset a → IsSize size b
    → read_request_at before session (a ∷ b ∷ []) ≡ Ok (Read session offset size)
unfolding read_request_at
read_request_at-spelled before session offset size a b script may at bytes =
    rw (span_at-spelled offset size a b [] may.1 at bytes)
    (request_within_limits-limits before (Read session offset size) may.0.room may.2 (omega (arith, writes-within before script)))

pattern_byte_at-spelled : (pattern : ℕ → Pattern) (byte : ℕ) (word : Word) (rest : List Word) → byte < 2 ^ 8 → IsNumber byte word
    → pattern_byte_at pattern (word ∷ rest) ≡ Ok (pattern byte, rest)
unfolding pattern_byte_at
pattern_byte_at-spelled pattern byte word rest below is = rw (plain_number_at-spelled 0 255 byte word rest is (omega arith) (omega (arith, below))) refl

pattern_at-spelled : (pattern : Pattern) (name word : Word) (rest : List Word) → IsByte pattern → IsPatternWords pattern name word
    → pattern_at (name ∷ word ∷ rest) ≡ Ok (pattern, rest)
unfolding pattern_at named_pattern_at
pattern_at-spelled (patterns.Fill byte) name word rest below (named, is) =
    rw named (pattern_byte_at-spelled (λ b. patterns.Fill b) byte word rest below is)
pattern_at-spelled (patterns.Step byte) name word rest below (named, is) =
    rw named (pattern_byte_at-spelled (λ b. patterns.Step b) byte word rest below is)

write_request_at-spelled : (before : List Statement) (session offset size : ℕ) (pattern : Pattern) (a b name byte : Word)
    → IsScript before → MayStand before (Write session offset size pattern)
    → IsSize offset a → IsSize size b → IsPatternWords pattern name byte
    → write_request_at before session (a ∷ b ∷ name ∷ byte ∷ []) ≡ Ok (Write session offset size pattern)
unfolding write_request_at
write_request_at-spelled before session offset size pattern a b name byte script may at bytes says =
    rw (span_at-spelled offset size a b (name ∷ byte ∷ []) may.1 at bytes, pattern_at-spelled pattern name byte [] may.2 says)
    (request_within_limits-limits before (Write session offset size pattern) may.0.room (omega (arith, reads-within before script)) may.3)

snapshot_request_at-spelled : (before : List Statement) (session : ℕ) (tag : Word) → IsScript before → MayStand before (Snapshot session tag)
    → snapshot_request_at before session (codes "-s" ∷ tag ∷ []) ≡ Ok (Snapshot session tag)
unfolding snapshot_request_at
snapshot_request_at-spelled before session tag script may =
    rw (keyword_at-spelled (codes "-s") (tag ∷ []), name_word_at-spelled tag [] may.1)
    (still-request_within_limits before (Snapshot session tag) script may.0.room refl refl)

clone_request_at-spelled : (before : List Statement) (session : ℕ) (base tag name : Word) → IsScript before
    → MayStand before (Clone session base tag name)
    → clone_request_at before session (codes "-s" ∷ tag ∷ base ∷ name ∷ []) ≡ Ok (Clone session base tag name)
unfolding clone_request_at
clone_request_at-spelled before session base tag name script may =
    rw (
      keyword_at-spelled (codes "-s") (tag ∷ base ∷ name ∷ []),
      name_word_at-spelled tag (base ∷ name ∷ []) may.2,
      name_word_at-spelled base (name ∷ []) may.1,
      name_word_at-spelled name [] may.3,
    )
    (still-request_within_limits before (Clone session base tag name) script may.0.room refl refl)

-- what a session asks for, behind its number and `vdi`
asking_session-spelled : (before : List Statement) (session : ℕ) (word : Word) → IsScript before → is_session_declared session before ≡ true
    → IsNumber session word → asking_session before word ≡ Ok session
unfolding asking_session
asking_session-spelled before session word script there is =
    let bounds : (1 ≤ session) × (session ≤ SESSIONS_MAX) = (is_session_declared-session before session script there).0 in
    rw (is, number_in_range-request_within_limits 1 SESSIONS_MAX session bounds.0 bounds.1, there) refl

session_request_at-spelled : (before : List Statement) (session : ℕ) (word verb : Word) (rest : List Word) (s : Statement)
    → IsScript before → is_session_declared session before ≡ true → IsNumber session word → verb_at before session verb rest ≡ Ok s
    → session_request_at before word (codes "vdi" ∷ verb ∷ rest) ≡ Ok s
unfolding session_request_at vdi_request_at
session_request_at-spelled before session word verb rest s script there is read =
    rw (asking_session-spelled before session word script there is, keyword_at-spelled (codes "vdi") (verb ∷ rest)) read

-- digits begin a request, behind a `cluster`
digits-ask : (before : List Statement) (session : ℕ) (word : Word) (rest : List Word) → HasCluster before → IsNumber session word
    → statement_at before word rest ≡ session_request_at before word rest
unfolding statement_at statement_behind_cluster
digits-ask before session word rest there is =
    rw (
      number-no-keyword word (codes "cluster") session is refl,
      number-no-keyword word (codes "vnodes") session is refl,
      number-no-keyword word (codes "tries") session is refl,
      number-no-keyword word (codes "limit") session is refl,
      number-no-keyword word (codes "zone") session is refl,
      there,
      number-digits word session is,
    ) refl

-- the statement of a line's words
abbrev statement_in : List Statement → List Word → Result Statement LineCause
statement_in before [] = Err causes.Word
statement_in before (first ∷ rest) = statement_at before first rest

request-spelled : (before : List Statement) (session : ℕ) (verb : Word) (rest words : List Word) (s : Statement)
    → IsScript before → MayAsk before session → IsRequestWords session verb rest words → verb_at before session verb rest ≡ Ok s
    → statement_in before words ≡ Ok s
request-spelled before session verb rest words s script may (word, same, is) read =
    rw same (digits-ask before session word (codes "vdi" ∷ verb ∷ rest) (is_session_declared-session before session script may.declared).1 is
    ∙ session_request_at-spelled before session word verb rest s script may.declared is read)

disk_request-spelled : (before : List Statement) (session : ℕ) (verb name : Word) (tag : Option Word) (words : List Word) (s : Statement)
    → IsScript before → MayAsk before session → IsAskedOfDisk session verb name tag words
    → verb_at before session verb (disk_words name tag) ≡ Ok s
    → statement_in before words ≡ Ok s
disk_request-spelled before session verb name None words s script may asked read =
    request-spelled before session verb (disk_words name None) words s script may asked read
disk_request-spelled before session verb name (Some tag) words s script may asked read =
    request-spelled before session verb (disk_words name (Some tag)) words s script may asked read

setting_at-spelled : (statement : ℕ → Statement) (set : Statement → Option ℕ) (most : ℕ) (before : List Statement)
    (number : ℕ) (word : Word) → MaySet before set → 1 ≤ number → number ≤ most → IsNumber number word
    → setting_at statement set most before (word ∷ []) ≡ Ok (statement number)
unfolding setting_at
setting_at-spelled statement set most before number word may above below is =
    rw (may.first, may.once, plain_number_at-spelled 1 most number word [] is above below) refl

node_number_at-spelled : (node : ℕ) (word : Word) (rest : List Word) → node < NODES_MAX → IsNumber node word
    → node_number_at (word ∷ rest) ≡ Ok (node, rest)
node_number_at-spelled node word rest below is = plain_number_at-spelled 0 (NODES_MAX - 1) node word rest is (omega arith) (omega arith)

zone_number_at-spelled : (zone : ℕ) (word : Word) (rest : List Word) → zone < ZONES_MAX → IsNumber zone word
    → zone_number_at (word ∷ rest) ≡ Ok (zone, rest)
zone_number_at-spelled zone word rest below is = plain_number_at-spelled 0 (ZONES_MAX - 1) zone word rest is (omega arith) (omega arith)

zone_at-spelled : (before : List Statement) (node zone : ℕ) (a b : Word) → MayStand before (Zone node zone)
    → IsNumber node a → IsNumber zone b → zone_at before (a ∷ b ∷ []) ≡ Ok (Zone node zone)
unfolding zone_at
zone_at-spelled before node zone a b may first second =
    rw (may.0.first, node_number_at-spelled node a (b ∷ []) may.1 first, may.0.once, zone_number_at-spelled zone b [] may.2 second) refl

there_at-spelled : (before : List Statement) (node : ℕ) (word : Word) (rest : List Word) → IsScript before → IsNodeThere node before
    → IsNumber node word → there_at before (word ∷ rest) ≡ Ok (node, rest)
unfolding there_at
there_at-spelled before node word rest script there is =
    rw (node_number_at-spelled node word rest (used-node before node script there.used) is, there.used, there.stands) refl

session_line_at-spelled : (before : List Statement) (session node : ℕ) (a b : Word) → IsScript before → MayStand before (Session session node)
    → IsNumber session a → IsNumber node b → session_line_at before (a ∷ codes "node" ∷ b ∷ []) ≡ Ok (Session session node)
unfolding session_line_at
session_line_at-spelled before session node a b script may first second =
    rw (
      plain_number_at-spelled 1 SESSIONS_MAX session a (codes "node" ∷ b ∷ []) first may.2 may.3,
      may.1,
      keyword_at-spelled (codes "node") (b ∷ []),
      there_at-spelled before node b [] script may.4 second,
    ) refl

fail_at-spelled : (before : List Statement) (node : ℕ) (word : Word) → IsScript before → MayStand before (Fail node) → IsNumber node word
    → fail_at before (word ∷ []) ≡ Ok (Fail node)
unfolding fail_at
fail_at-spelled before node word script may is = rw (there_at-spelled before node word [] script may.1 is) refl

join_at-spelled : (before : List Statement) (node : ℕ) (word : Word) → MayStand before (Join node) → IsNumber node word
    → join_at before (word ∷ []) ≡ Ok (Join node)
unfolding join_at
join_at-spelled before node word may is = rw (node_number_at-spelled node word [] may.1 is, may.2) refl

reweight_at-spelled : (before : List Statement) (node vnodes : ℕ) (a b : Word) → IsScript before → MayStand before (Reweight node vnodes)
    → IsNumber node a → IsNumber vnodes b → reweight_at before (a ∷ b ∷ []) ≡ Ok (Reweight node vnodes)
unfolding reweight_at
reweight_at-spelled before node vnodes a b script may first second =
    rw (there_at-spelled before node a (b ∷ []) script may.1 first, plain_number_at-spelled 1 VNODES_MAX vnodes b [] second may.2 may.3) refl

back_at-spelled : (before : List Statement) (node : ℕ) (word : Word) → IsScript before → MayStand before (Back node) → IsNumber node word
    → back_at before (word ∷ []) ≡ Ok (Back node)
unfolding back_at
back_at-spelled before node word script may is = rw (node_number_at-spelled node word [] (failed-node before node script may.1) is, may.1) refl

lose_at-spelled : (before : List Statement) (count : ℕ) (word : Word) → MayStand before (Lose count) → IsNumber count word
    → lose_at before (word ∷ []) ≡ Ok (Lose count)
unfolding lose_at
lose_at-spelled before count word may is = rw (is, le-leb _ LOSSES_MAX may.1) refl

-- behind a `cluster` a keyword says what happens
told-happens : (before : List Statement) (first : Word) (words : List Word) → is_digits first ≡ false → HasCluster before
    → statement_behind_cluster before first words ≡ happening_at before first words
unfolding statement_behind_cluster
told-happens before first words other there = rw (there, other) refl

statement_in-spelled : (before : List Statement) (words : List Word) (s : Statement) → IsScript before → IsSpelled s words
    → MayStand before s → statement_in before words ≡ Ok s
unfolding statement_at happening_at barrier_at alone_at followed_at keyword_at verb_at copy_verb_at
statement_in-spelled before words (Cluster nodes) script (word, same, is) may =
    rw same (rw (number-no-keyword word (codes "info") nodes is refl)
    (setting_at-spelled (λ n. Cluster n) nodes_set NODES_MAX before nodes word may.0 may.1 may.2 is))
statement_in-spelled before words (Vnodes vnodes) script (word, same, is) may =
    rw same (setting_at-spelled (λ n. Vnodes n) vnodes_set VNODES_MAX before vnodes word may.0 may.1 may.2 is)
statement_in-spelled before words (Tries tries) script (word, same, is) may =
    rw same (setting_at-spelled (λ n. Tries n) tries_set TRIES_MAX before tries word may.0 may.1 may.2 is)
statement_in-spelled before words (Limit limit) script (word, same, is) may =
    rw same (setting_at-spelled (λ n. Limit n) limit_set LIMIT_MAX before limit word may.0 may.1 may.2 is)
statement_in-spelled before words (Session session node) script (a, b, same, first, second) may =
    rw same (told-happens before (codes "session") (a ∷ codes "node" ∷ b ∷ []) refl may.0
    ∙ session_line_at-spelled before session node a b script may first second)
statement_in-spelled before words (Create session policy shift name size) script (c, z, word, asked, policied, shifted, sized) may =
    request-spelled before session (codes "create") (c ++ z ++ name ∷ word ∷ []) words (Create session policy shift name size)
    script may.0 asked
    (ap (create_request_at before session) (append_assoc c z (name ∷ word ∷ []))
    ∙ create_request_at-spelled before session policy shift name size c z word script may policied shifted sized)
statement_in-spelled before words (OpenDisk session name tag) script asked may =
    disk_request-spelled before session (codes "open") name tag words (OpenDisk session name tag) script may.0 asked
    (open_request_at-spelled before session name tag script may)
statement_in-spelled before words (Close session) script asked may =
    request-spelled before session (codes "close") [] words (Close session) script may asked (close_request_at-spelled before session script may)
statement_in-spelled before words (Read session offset size) script (a, b, asked, at, bytes) may =
    request-spelled before session (codes "read") (a ∷ b ∷ []) words (Read session offset size) script may.0 asked
    (read_request_at-spelled before session offset size a b script may at bytes)
statement_in-spelled before words (Write session offset size pattern) script (a, b, name, byte, asked, at, bytes, says) may =
    request-spelled before session (codes "write") (a ∷ b ∷ name ∷ byte ∷ []) words (Write session offset size pattern) script may.0 asked
    (write_request_at-spelled before session offset size pattern a b name byte script may at bytes says)
statement_in-spelled before words (Snapshot session tag) script asked may =
    request-spelled before session (codes "snapshot") (codes "-s" ∷ tag ∷ []) words (Snapshot session tag) script may.0 asked
    (snapshot_request_at-spelled before session tag script may)
statement_in-spelled before words (Clone session base tag name) script asked may =
    request-spelled before session (codes "clone") (codes "-s" ∷ tag ∷ base ∷ name ∷ []) words (Clone session base tag name)
    script may.0 asked
    (clone_request_at-spelled before session base tag name script may)
statement_in-spelled before words (Delete session name tag) script asked may =
    disk_request-spelled before session (codes "delete") name tag words (Delete session name tag) script may.0 asked
    (delete_request_at-spelled before session name tag script may)
statement_in-spelled before words (Fail node) script (word, same, is) may =
    rw same (told-happens before (codes "fail") (word ∷ []) refl may.0 ∙ fail_at-spelled before node word script may is)
statement_in-spelled before words (Join node) script (word, same, is) may =
    rw same (told-happens before (codes "join") (word ∷ []) refl may.0 ∙ join_at-spelled before node word may is)
statement_in-spelled before words (Lose count) script (word, same, is) may =
    rw same (told-happens before (codes "lose") (word ∷ []) refl may.0 ∙ lose_at-spelled before count word may is)
statement_in-spelled before words Settle script same may = rw same (told-happens before (codes "settle") [] refl may)
statement_in-spelled before words ListNodes script same may = rw same (told-happens before (codes "node") (codes "list" ∷ []) refl may)
statement_in-spelled before words ListVdis script same may = rw same (told-happens before (codes "vdi") (codes "list" ∷ []) refl may)
statement_in-spelled before words ClusterInfo script same may = rw same (told-happens before (codes "cluster") (codes "info" ∷ []) refl may)
statement_in-spelled before words Dump script same may = rw same (told-happens before (codes "dump") [] refl may)
statement_in-spelled before words (Zone node zone) script (a, b, same, first, second) may =
    rw same (zone_at-spelled before node zone a b may first second)
statement_in-spelled before words (Reweight node vnodes) script (a, b, same, first, second) may =
    rw same (told-happens before (codes "reweight") (a ∷ b ∷ []) refl may.0
    ∙ reweight_at-spelled before node vnodes a b script may first second)
statement_in-spelled before words (Back node) script (word, same, is) may =
    rw same (told-happens before (codes "back") (word ∷ []) refl may.0 ∙ back_at-spelled before node word script may is)
statement_in-spelled before words (Check session) script asked may =
    request-spelled before session (codes "check") [] words (Check session) script may.0 asked (check_request_at-spelled before session script may)

-- words that spell a statement are read as it, behind statements after which it may stand
pub what-is-spelled : (before : List Statement) (first : Word) (rest : List Word) (s : Statement) → IsScript before
    → IsSpelled s (first ∷ rest) → MayStand before s → statement_at before first rest ≡ Ok s
what-is-spelled before first rest s script spelled may = statement_in-spelled before (first ∷ rest) s script spelled may

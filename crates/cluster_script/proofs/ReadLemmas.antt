-- What is read is spelled by its words, and may stand where it is read: reader by reader, up to that of a statement.
use Rattle.std.proofs.Common.{◌≡◌, ℕ, ◌+◌, ◌-◌, ◌*◌, ◌^◌, ◌≤◌, ◌<◌, true, ◌&&◌, not, List, [], ◌∷◌, ◌++◌, refl, sym, ap, subst, ◌∙◌, inl, inr, Option, Some, None, Result, Ok, arith, append_assoc}
use Rattle.std.specs.Prelude.{bytes_eq, nat_le, nat_lt, codes, count_by, sum_by, if◌then◌else◌}
use Rattle.std.specs.List.{list_all, list_any, before_first, after_first}
use Rattle.std.proofs.lemmas.Bool.{and_parts, not-true, not-false, leb-true, ltb-true}
use Rattle.object_id.specs.Policy.{IsPolicy, is_width}
use Rattle.object_id.specs.declared.policy.Policy.{Policy}
use Rattle.object_id.specs.declared.policy.Policy.TheVariants.{Copies, Coded}
use Rattle.object_id.specs.declared.limits.TheConstants.{SHIFT_MIN, SHIFT_MAX, BLOCK_BYTES, SHIFT_DEFAULT, LENGTH_MAX, NODES_MAX, VNODES_MAX, TRIES_MAX, LIMIT_MAX, SESSIONS_MAX, LOSSES_MAX, REQUESTS_MAX, READ_BYTES_MAX, WRITE_BYTES_MAX, COPIES_MAX, PARITY_MAX, OBJECTS_MAX, ZONES_MAX}
use Rattle.cluster_script.specs.declared.statement.Pattern.{Pattern}
use Rattle.cluster_script.specs.declared.statement.Pattern.TheVariants as patterns
use Rattle.cluster_script.specs.declared.statement.Statement.{Statement}
use Rattle.cluster_script.specs.declared.statement.Statement.TheVariants.{Cluster, Vnodes, Tries, Limit, Session, Create, OpenDisk, Close, Read, Write, Snapshot, Clone, Delete, Fail, Join, Lose, Settle, ListNodes, ListVdis, ClusterInfo, Dump, Zone, Reweight, Back, Check}
use Rattle.cluster_script.specs.declared.fault.LineCause.{LineCause}
use Rattle.cluster_script.specs.declared.fault.LineCause.TheVariants as causes
use Rattle.object_id.specs.declared.limits.TheConstants.{CHECKS_MAX}
use Rattle.cluster_script.specs.Statements.{is_setting, is_cluster, has, is_session_declared, is_check, is_request, read_bytes, write_bytes}
use Rattle.cluster_script.specs.Settings.{is_set, nodes_set, vnodes_set, tries_set, limit_set, zone_set}
use Rattle.cluster_script.specs.Phases.{losses_from}
use Rattle.cluster_script.specs.Nodes.{is_node_used, is_failed, is_node_there, IsNodeThere}
use Rattle.object_id.specs.Span.{IsSpan}
use Rattle.cluster_script.specs.Language.{MaySet, HasCluster, MayAsk, IsPrintedName, IsPrintedTag, IsByte, MayStand}
use Rattle.cluster_script.specs.Words.{Word, is_next_word, option_at}
use Rattle.cluster_script.specs.Numbers.{is_digits, number_of}
use Rattle.cluster_script.specs.Requests.{has_room, request_within_limits, is_colon, strips_in, copies_in, policy_of_word, policy_option_at, shift_option_at, tag_at, create_request_at, disk_words_at, open_request_at, close_request_at, span_at, read_request_at, pattern_byte_at, named_pattern_at, pattern_at, write_request_at, snapshot_request_at, clone_request_at, delete_request_at, check_request_at, copy_verb_at, verb_at, vdi_request_at}
use Rattle.cluster_script.specs.ClusterLines.{setting_at, zone_at, there_at, session_line_at, fail_at, join_at, reweight_at, back_at, lose_at, alone_at, followed_at, barrier_at, happening_at}
use Rattle.cluster_script.specs.Script.{asking_session, session_request_at, statement_behind_cluster, statement_at}
use Rattle.cluster_script.specs.Spelling.{IsNumber, IsSize, IsPolicyWord, IsOption, IsRequestWords, IsAskedOfDisk, IsPatternWords, IsSpelled}
use Rattle.cluster_script.proofs.ReadingParts.{read-on, test-passed, test-failed, either-way, same-word, word-chosen, word-read, keyword-read, end-read, name-read, option-read, range-kept, number-read, blocks-read}

-- words spell a statement, and it may stand there
abbrev Reads : List Statement → List Word → Statement → Type 0
Reads before words s = IsSpelled s words × MayStand before s

-- the same, under other names for the words and the statement
renamed : (before : List Statement) (first : Word) (words read : List Word) (said s : Statement) → words ≡ read → said ≡ s
    → Reads before (first ∷ words) said → Reads before (first ∷ read) s
renamed before first words read said s parted same reads =
    subst (λ (w : List Word). Reads before (first ∷ w) s) parted (subst (λ (x : Statement). Reads before (first ∷ words) x) same reads)

-- the first word of a line names how its rest is read
chosen : (before : List Statement) (first keyword : Word) (words : List Word) (r t : Result Statement LineCause) (s : Statement)
    → (if bytes_eq first keyword then r else t) ≡ Ok s
    → (r ≡ Ok s → Reads before (keyword ∷ words) s) → (t ≡ Ok s → Reads before (first ∷ words) s) → Reads before (first ∷ words) s
chosen before first keyword words r t s e taken other =
    word-chosen (λ (w : Word). Reads before (w ∷ words) s) first keyword r t s e taken other

-- one of `cluster`, `vnodes`, `tries` and `limit`
setting-reads : (keyword : Word) (statement : ℕ → Statement) (set : Statement → Option ℕ) (most : ℕ) (before : List Statement)
    (words : List Word) (s : Statement)
    → ((number : ℕ) (word : Word) → IsNumber number word → MaySet before set → 1 ≤ number → number ≤ most
    → Reads before (keyword ∷ word ∷ []) (statement number))
    → setting_at statement set most before words ≡ Ok s → Reads before (keyword ∷ words) s
unfolding setting_at
setting-reads keyword statement set most before words s stands e =
    read-on _ _ _ e (λ turn turned e1. read-on _ _ _ e1 (λ number answered e2. read-on _ _ _ e2 (λ end ended e3.
    let first = test-passed _ words turn causes.Word turned in
    let tests = and_parts (list_all is_setting before) (not (is_set set before)) first.0 in
    let read = number-read 1 most turn number answered in
    let none = end-read number.1 end ended in
    let parted : read.word ∷ [] ≡ words = cc in
    let said : statement number.0 ≡ s = cc in
    let may : MaySet before set = record { first = tests.0; once = not-true (is_set set before) tests.1 } in
    renamed before keyword (read.word ∷ []) words (statement number.0) s parted said
    (stands number.0 read.word read.spelled may read.least read.most))))

zone-reads : (before : List Statement) (words : List Word) (s : Statement) → zone_at before words ≡ Ok s
    → Reads before (codes "zone" ∷ words) s
unfolding zone_at
zone-reads before words s e =
    read-on _ _ _ e (λ turn turned e1. read-on _ _ _ e1 (λ node answered e2. read-on _ _ _ e2 (λ rest new e3.
    read-on _ _ _ e3 (λ zone zoned e4. read-on _ _ _ e4 (λ end ended e5.
    let first = test-passed (list_all is_setting before) words turn causes.Word turned in
    let once = test-failed (is_set (zone_set node.0) before) node.1 rest causes.Twice new in
    let a = number-read 0 (NODES_MAX - 1) turn node answered in
    let b = number-read 0 (ZONES_MAX - 1) rest zone zoned in
    let none = end-read zone.1 end ended in
    let parted : a.word ∷ b.word ∷ [] ≡ words = cc in
    let said : Zone node.0 zone.0 ≡ s = cc in
    renamed before (codes "zone") (a.word ∷ b.word ∷ []) words (Zone node.0 zone.0) s parted said (
      (a.word, b.word, refl, a.spelled, b.spelled),
      (record { first = first.0; once = once.0 }, omega (arith, a.most), omega (arith, b.most)),
    ))))))

alone-read : (said : Statement) (words : List Word) (s : Statement) → alone_at said words ≡ Ok s → (words ≡ []) × (said ≡ s)
unfolding alone_at
alone-read said words s e = read-on _ _ _ e (λ end ended e1. (end-read words end ended, cc))

followed-read : (expected : Word) (said : Statement) (words : List Word) (s : Statement) → followed_at expected said words ≡ Ok s
    → (words ≡ expected ∷ []) × (said ≡ s)
unfolding followed_at
followed-read expected said words s e =
    read-on _ _ _ e (λ rest keyword e1.
    let alone = alone-read said rest s e1 in
    (keyword-read expected words rest keyword ∙ ap (λ (w : List Word). expected ∷ w) alone.0, alone.1))

-- behind `cluster`
module _ (before : List Statement) (cluster : HasCluster before) where
  there-read : (words : List Word) (node : ℕ × List Word) → there_at before words ≡ Ok node
      → (word : Word) × (words ≡ word ∷ node.1) × IsNumber node.0 word × IsNodeThere node.0 before
  unfolding there_at
  there-read words node e =
      read-on _ _ _ e (λ number answered e1.
      let passed = test-passed (is_node_there number.0 before) number node causes.Unknown e1 in
      let parts = and_parts (is_node_used number.0 before) (not (is_failed number.0 before)) passed.0 in
      let read = number-read 0 (NODES_MAX - 1) words number answered in
      let there : IsNodeThere number.0 before = record { used = parts.0; stands = not-true (is_failed number.0 before) parts.1 } in
      subst (λ (n : ℕ × List Word). (word : Word) × (words ≡ word ∷ n.1) × IsNumber n.0 word × IsNodeThere n.0 before) passed.1
      (read.word, read.parted, read.spelled, there))

  session-reads : (words : List Word) (s : Statement) → session_line_at before words ≡ Ok s → Reads before (codes "session" ∷ words) s
  unfolding session_line_at
  session-reads words s e =
      read-on _ _ _ e (λ session answered e1. read-on _ _ _ e1 (λ rest new e2. read-on _ _ _ e2 (λ place keyword e3.
      read-on _ _ _ e3 (λ node gateway e4. read-on _ _ _ e4 (λ end ended e5.
      let once = test-failed (is_session_declared session.0 before) session.1 rest causes.Twice new in
      let a = number-read 1 SESSIONS_MAX words session answered in
      let at = keyword-read (codes "node") rest place keyword in
      let b = there-read place node gateway in
      let none = end-read node.1 end ended in
      let parted : a.word ∷ codes "node" ∷ b.0 ∷ [] ≡ words = cc in
      let said : Session session.0 node.0 ≡ s = cc in
      renamed before (codes "session") (a.word ∷ codes "node" ∷ b.0 ∷ []) words (Session session.0 node.0) s parted said
      ((a.word, b.0, refl, a.spelled, b.2), (cluster, once.0, a.least, a.most, b.3)))))))

  fail-reads : (words : List Word) (s : Statement) → fail_at before words ≡ Ok s → Reads before (codes "fail" ∷ words) s
  unfolding fail_at
  fail-reads words s e =
      read-on _ _ _ e (λ node answered e1. read-on _ _ _ e1 (λ end ended e2.
      let a = there-read words node answered in
      let none = end-read node.1 end ended in
      let parted : a.0 ∷ [] ≡ words = cc in
      let said : Fail node.0 ≡ s = cc in
      renamed before (codes "fail") (a.0 ∷ []) words (Fail node.0) s parted said
      ((a.0, refl, a.2), (cluster, a.3))))

  join-reads : (words : List Word) (s : Statement) → join_at before words ≡ Ok s → Reads before (codes "join" ∷ words) s
  unfolding join_at
  join-reads words s e =
      read-on _ _ _ e (λ node answered e1. read-on _ _ _ e1 (λ rest new e2. read-on _ _ _ e2 (λ end ended e3.
      let a = number-read 0 (NODES_MAX - 1) words node answered in
      let once = test-failed (is_node_used node.0 before) node.1 rest causes.Twice new in
      let none = end-read rest end ended in
      let parted : a.word ∷ [] ≡ words = cc in
      let said : Join node.0 ≡ s = cc in
      renamed before (codes "join") (a.word ∷ []) words (Join node.0) s parted said
      ((a.word, refl, a.spelled), (cluster, omega (arith, a.most), once.0)))))

  reweight-reads : (words : List Word) (s : Statement) → reweight_at before words ≡ Ok s → Reads before (codes "reweight" ∷ words) s
  unfolding reweight_at
  reweight-reads words s e =
      read-on _ _ _ e (λ node answered e1. read-on _ _ _ e1 (λ vnodes weighed e2. read-on _ _ _ e2 (λ end ended e3.
      let a = there-read words node answered in
      let b = number-read 1 VNODES_MAX node.1 vnodes weighed in
      let none = end-read vnodes.1 end ended in
      let parted : a.0 ∷ b.word ∷ [] ≡ words = cc in
      let said : Reweight node.0 vnodes.0 ≡ s = cc in
      renamed before (codes "reweight") (a.0 ∷ b.word ∷ []) words (Reweight node.0 vnodes.0) s parted said
      ((a.0, b.word, refl, a.2, b.spelled), (cluster, a.3, b.least, b.most)))))

  back-reads : (words : List Word) (s : Statement) → back_at before words ≡ Ok s → Reads before (codes "back" ∷ words) s
  unfolding back_at
  back-reads words s e =
      read-on _ _ _ e (λ node answered e1. read-on _ _ _ e1 (λ rest failed e2. read-on _ _ _ e2 (λ end ended e3.
      let a = number-read 0 (NODES_MAX - 1) words node answered in
      let passed = test-passed (is_failed node.0 before) node.1 rest causes.Unknown failed in
      let none = end-read rest end ended in
      let parted : a.word ∷ [] ≡ words = cc in
      let said : Back node.0 ≡ s = cc in
      renamed before (codes "back") (a.word ∷ []) words (Back node.0) s parted said
      ((a.word, refl, a.spelled), (cluster, passed.0)))))

  lose-reads : (words : List Word) (s : Statement) → lose_at before words ≡ Ok s → Reads before (codes "lose" ∷ words) s
  unfolding lose_at
  lose-reads words s e =
      read-on _ _ _ e (λ word answered e1. read-on _ _ _ e1 (λ count spelled e2. read-on _ _ _ e2 (λ end ended e3.
      let a = word-read words word answered in
      let passed = test-passed (nat_le (losses_from 0 before + count) LOSSES_MAX) (Lose count) s causes.TooMany e3 in
      let none = end-read word.1 end ended in
      let parted : word.0 ∷ [] ≡ words = cc in
      renamed before (codes "lose") (word.0 ∷ []) words (Lose count) s parted passed.1
      ((word.0, refl, spelled), (cluster, leb-true (losses_from 0 before + count) LOSSES_MAX passed.0)))))

  barrier-reads : (first : Word) (words : List Word) (s : Statement) → barrier_at first words ≡ Ok s → Reads before (first ∷ words) s
  unfolding barrier_at
  barrier-reads first words s e =
      chosen before first (codes "settle") words _ _ s e (alone (codes "settle") Settle refl cluster)
      (λ e1. chosen before first (codes "node") words _ _ s e1 (followed (codes "node") (codes "list") ListNodes refl cluster)
      (λ e2. chosen before first (codes "vdi") words _ _ s e2 (followed (codes "vdi") (codes "list") ListVdis refl cluster)
      (λ e3. chosen before first (codes "cluster") words _ _ s e3 (followed (codes "cluster") (codes "info") ClusterInfo refl cluster)
      (λ e4. chosen before first (codes "dump") words _ _ s e4 (alone (codes "dump") Dump refl cluster)
      (λ e5. absurd cc)))))
    where
      alone : (keyword : Word) (said : Statement) → IsSpelled said (keyword ∷ []) → MayStand before said → alone_at said words ≡ Ok s
          → Reads before (keyword ∷ words) s
      alone keyword said spelled may read =
          let a = alone-read said words s read in
          renamed before keyword [] words said s (sym a.0) a.1 (spelled, may)

      followed : (keyword expected : Word) (said : Statement) → IsSpelled said (keyword ∷ expected ∷ []) → MayStand before said
          → followed_at expected said words ≡ Ok s → Reads before (keyword ∷ words) s
      followed keyword expected said spelled may read =
          let a = followed-read expected said words s read in
          renamed before keyword (expected ∷ []) words said s (sym a.0) a.1 (spelled, may)

  happening-reads : (first : Word) (words : List Word) (s : Statement) → happening_at before first words ≡ Ok s
      → Reads before (first ∷ words) s
  unfolding happening_at
  happening-reads first words s e =
      chosen before first (codes "session") words _ _ s e (session-reads words s)
      (λ e1. chosen before first (codes "fail") words _ _ s e1 (fail-reads words s)
      (λ e2. chosen before first (codes "join") words _ _ s e2 (join-reads words s)
      (λ e3. chosen before first (codes "reweight") words _ _ s e3 (reweight-reads words s)
      (λ e4. chosen before first (codes "back") words _ _ s e4 (back-reads words s)
      (λ e5. chosen before first (codes "lose") words _ _ s e5 (lose-reads words s)
      (barrier-reads first words s))))))

-- a request stays within a script's limits
record IsWithin (before : List Statement) (asked s : Statement) : Type 0 where
  said : asked ≡ s
  room : count_by is_request before < REQUESTS_MAX
  reads : sum_by read_bytes before + read_bytes asked ≤ READ_BYTES_MAX
  writes : sum_by write_bytes before + write_bytes asked ≤ WRITE_BYTES_MAX

request_within_limits-read : (before : List Statement) (asked s : Statement) → request_within_limits before asked ≡ Ok s → IsWithin before asked s
request_within_limits-read before asked s e =
    let passed = test-passed (has_room (read_bytes asked) (write_bytes asked) before) asked s causes.TooMany e in
    let counted = nat_lt (count_by is_request before) REQUESTS_MAX in
    let reading = nat_le (sum_by read_bytes before + read_bytes asked) READ_BYTES_MAX in
    let writing = nat_le (sum_by write_bytes before + write_bytes asked) WRITE_BYTES_MAX in
    let outer = and_parts (counted && reading) writing passed.0 in
    let inner = and_parts counted reading outer.0 in
    record {
      said = passed.1;
      room = ltb-true (count_by is_request before) REQUESTS_MAX inner.0;
      reads = leb-true (sum_by read_bytes before + read_bytes asked) READ_BYTES_MAX inner.1;
      writes = leb-true (sum_by write_bytes before + write_bytes asked) WRITE_BYTES_MAX outer.1;
    }

strips-kept : (word : Word) (policy : Policy) → strips_in word ≡ Ok policy → IsPolicy policy
unfolding strips_in
strips-kept word policy e =
    read-on (number_of (before_first is_colon word)) _ _ e (λ d first e1.
    read-on (number_of (after_first is_colon word)) _ _ e1 (λ p second e2.
    let passed = test-passed (is_width d && nat_le 1 p && nat_le p PARITY_MAX) (Coded d p) policy causes.Range e2 in
    let outer = and_parts (is_width d && nat_le 1 p) (nat_le p PARITY_MAX) passed.0 in
    let inner = and_parts (is_width d) (nat_le 1 p) outer.0 in
    subst IsPolicy passed.1 (inner.0, leb-true 1 p inner.1, leb-true p PARITY_MAX outer.1)))

copies-kept : (word : Word) (policy : Policy) → copies_in word ≡ Ok policy → IsPolicy policy
unfolding copies_in
copies-kept word policy e =
    read-on (number_of word) _ _ e (λ copies spelled e1.
    let passed = test-passed (nat_le 1 copies && nat_le copies COPIES_MAX) (Copies copies) policy causes.Range e1 in
    let parts = and_parts (nat_le 1 copies) (nat_le copies COPIES_MAX) passed.0 in
    subst IsPolicy passed.1 (leb-true 1 copies parts.0, leb-true copies COPIES_MAX parts.1))

policy-kept : (word : Word) (policy : Policy) → policy_of_word word ≡ Ok policy → IsPolicy policy
policy-kept word policy e =
    either-way (list_any is_colon word) (strips_in word) (copies_in word) policy e
    (λ colon read. strips-kept word policy read) (λ none read. copies-kept word policy read)

policy-read : (words : List Word) (policy : Policy × List Word) → policy_option_at words ≡ Ok policy
    → (word : Word) × (words ≡ word ∷ policy.1) × IsPolicyWord policy.0 word × IsPolicy policy.0
unfolding policy_option_at
policy-read words policy e =
    read-on _ _ _ e (λ word read e1. read-on _ _ _ e1 (λ own spelled e2.
    let same : (own, word.1) ≡ policy = cc in
    subst (λ (p : Policy × List Word). (w : Word) × (words ≡ w ∷ p.1) × IsPolicyWord p.0 w × IsPolicy p.0) same
    (word.0, word-read words word read, spelled, policy-kept word.0 own spelled)))

policy-option-read : (words : List Word) (policy : Policy × List Word) → option_at (codes "-c") policy_option_at (Copies 3) words ≡ Ok policy
    → (c : List Word) × (words ≡ c ++ policy.1) × IsOption (codes "-c") IsPolicyWord (Copies 3) policy.0 c × IsPolicy policy.0
policy-option-read words policy e =
    elim (option-read (codes "-c") policy_option_at (Copies 3) words policy e) [
      | inl default ↦
          ([], default.0, inl (refl, default.1), subst IsPolicy (sym default.1) (omega arith, omega arith))
      | inr given ↦
          let read = policy-read given.0 policy given.2 in (
            codes "-c" ∷ read.0 ∷ [],
            given.1 ∙ ap (λ (w : List Word). codes "-c" ∷ w) read.1,
            inr (read.0, refl, read.2),
            read.3,
          )
    ]

shift-option-read : (words : List Word) (shift : ℕ × List Word) → option_at (codes "-z") shift_option_at SHIFT_DEFAULT words ≡ Ok shift
    → (z : List Word) × (words ≡ z ++ shift.1) × IsOption (codes "-z") IsNumber SHIFT_DEFAULT shift.0 z
    × (SHIFT_MIN ≤ shift.0) × (shift.0 ≤ SHIFT_MAX)
shift-option-read words shift e =
    elim (option-read (codes "-z") shift_option_at SHIFT_DEFAULT words shift e) [
      | inl default ↦
          ([], default.0, inl (refl, default.1), omega (arith, default.1), omega (arith, default.1))
      | inr given ↦
          let read = number-read SHIFT_MIN SHIFT_MAX given.0 shift given.2 in (
            codes "-z" ∷ read.word ∷ [],
            given.1 ∙ ap (λ (w : List Word). codes "-z" ∷ w) read.parted,
            inr (read.word, refl, read.spelled),
            read.least,
            read.most,
          )
    ]

span-read : (words : List Word) (span : ℕ × ℕ × List Word) → span_at words ≡ Ok span
    → (a b : Word) × (words ≡ a ∷ b ∷ span.2) × IsSize span.0 a × IsSize span.1 b × IsSpan span.0 span.1
unfolding span_at
span-read words span e =
    read-on _ _ _ e (λ offset begins e1. read-on _ _ _ e1 (λ bytes ends e2.
    let a = blocks-read 0 (2 ^ 64 - 1) words offset begins in
    let b = blocks-read BLOCK_BYTES LENGTH_MAX offset.1 bytes ends in
    let same : (offset.0, bytes.0, bytes.1) ≡ span = cc in
    subst (λ (p : ℕ × ℕ × List Word). (x y : Word) × (words ≡ x ∷ y ∷ p.2) × IsSize p.0 x × IsSize p.1 y × IsSpan p.0 p.1) same (
      a.word,
      b.word,
      a.parted ∙ ap (λ (w : List Word). a.word ∷ w) b.parted,
      a.spelled,
      b.spelled,
      record { below = omega (arith, a.most); start = a.whole; least = b.least; most = b.most; whole = b.whole },
    )))

byte-read : (said : ℕ → Pattern) (words : List Word) (pattern : Pattern × List Word) → pattern_byte_at said words ≡ Ok pattern
    → (number : ℕ) × (byte : Word) × (words ≡ byte ∷ pattern.1) × (said number ≡ pattern.0) × IsNumber number byte × (number < 2 ^ 8)
unfolding pattern_byte_at
byte-read said words pattern e =
    read-on _ _ _ e (λ byte answered e1.
    let read = number-read 0 255 words byte answered in
    let same : (said byte.0, byte.1) ≡ pattern = cc in (
      byte.0,
      read.word,
      read.parted ∙ ap (λ (p : Pattern × List Word). read.word ∷ p.1) same,
      ap (λ (p : Pattern × List Word). p.0) same,
      read.spelled,
      omega (arith, read.most),
    ))

-- a word and the one behind it spell a pattern
abbrev IsPatternRead : List Word → List Word → Pattern → Word → Type 0
IsPatternRead words rest pattern name = (byte : Word) × (words ≡ byte ∷ rest) × IsPatternWords pattern name byte × IsByte pattern

named-pattern-read : (name : Word) (words : List Word) (pattern : Pattern × List Word) → named_pattern_at name words ≡ Ok pattern
    → IsPatternRead words pattern.1 pattern.0 name
unfolding named_pattern_at
named-pattern-read name words pattern e =
    word-chosen (IsPatternRead words pattern.1 pattern.0) name (codes "fill") _ _ pattern e
    (λ filled.
    let read = byte-read (λ byte. patterns.Fill byte) words pattern filled in
    subst (λ (p : Pattern). IsPatternRead words pattern.1 p (codes "fill")) read.3
    (read.1, read.2, (refl, read.4), read.5))
    (λ e1. word-chosen (IsPatternRead words pattern.1 pattern.0) name (codes "step") _ _ pattern e1
    (λ stepped.
    let read = byte-read (λ byte. patterns.Step byte) words pattern stepped in
    subst (λ (p : Pattern). IsPatternRead words pattern.1 p (codes "step")) read.3
    (read.1, read.2, (refl, read.4), read.5))
    (λ e2. absurd cc))

pattern-read : (words : List Word) (pattern : Pattern × List Word) → pattern_at words ≡ Ok pattern
    → (name byte : Word) × (words ≡ name ∷ byte ∷ pattern.1) × IsPatternWords pattern.0 name byte × IsByte pattern.0
unfolding pattern_at
pattern-read words pattern e =
    read-on _ _ _ e (λ name read e1.
    let named = named-pattern-read name.0 name.1 pattern e1 in
    (name.0, named.0, word-read words name read ∙ ap (λ (w : List Word). name.0 ∷ w) named.1, named.2, named.3))

tag-read : (words : List Word) (tag : Option Word × List Word) → tag_at words ≡ Ok tag
    → (name : Word) × (words ≡ name ∷ tag.1) × (tag.0 ≡ Some name) × IsPrintedName name
unfolding tag_at
tag-read words tag e =
    read-on _ _ _ e (λ name named e1.
    let read = name-read words name named in
    let same : (Some name.0, name.1) ≡ tag = cc in (
      name.0,
      read.0 ∙ ap (λ (p : Option Word × List Word). name.0 ∷ p.1) same,
      ap (λ (p : Option Word × List Word). p.0) (sym same),
      read.1,
    ))

-- words name a disk, or with a tag a snapshot of it, behind whichever session and verb
abbrev NamesDisk : Word → Option Word → List Word → Type 0
NamesDisk name tag words =
    (session : ℕ) (word verb : Word) → IsNumber session word → IsAskedOfDisk session verb name tag (word ∷ codes "vdi" ∷ verb ∷ words)

names-disk : (words rest : List Word) (name : Word) (tag : Option Word) → option_at (codes "-s") tag_at None words ≡ Ok (tag, rest)
    → rest ≡ name ∷ []
    → NamesDisk name tag words × IsPrintedTag tag
names-disk words rest name tag e last =
    elim (option-read (codes "-s") tag_at None words (tag, rest) e) [
      | inl default ↦
          subst (λ (t : Option Word). NamesDisk name t words × IsPrintedTag t) (sym default.1)
          (λ session word verb spelled. (word, ap (λ (w : List Word). word ∷ codes "vdi" ∷ verb ∷ w) (default.0 ∙ last), spelled), tt)
      | inr given ↦
          let read = tag-read given.0 (tag, rest) given.2 in
          let parted : words ≡ codes "-s" ∷ read.0 ∷ name ∷ [] =
          given.1 ∙ ap (λ (w : List Word). codes "-s" ∷ w) (read.1 ∙ ap (λ (w : List Word). read.0 ∷ w) last) in
          subst (λ (t : Option Word). NamesDisk name t words × IsPrintedTag t) (sym read.2)
          (λ session word verb spelled. (word, ap (λ (w : List Word). word ∷ codes "vdi" ∷ verb ∷ w) parted, spelled), read.3)
    ]

-- a disk, where nothing follows it
disk-read : (words : List Word) (disk : Word × Option Word × List Word) → disk_words_at words ≡ Ok disk → disk.2 ≡ []
    → NamesDisk disk.0 disk.1 words × IsPrintedName disk.0 × IsPrintedTag disk.1
unfolding disk_words_at
disk-read words disk e none =
    read-on (option_at (codes "-s") tag_at None words) _ _ e (λ tag tagged e1. read-on _ _ _ e1 (λ name named e2.
    let own = name-read tag.1 name named in
    let same : (name.0, tag.0, name.1) ≡ disk = cc in
    let ends : name.1 ≡ [] = ap (λ (d : Word × Option Word × List Word). d.2) same ∙ none in
    let names = names-disk words tag.1 name.0 tag.0 tagged (own.0 ∙ ap (λ (w : List Word). name.0 ∷ w) ends) in
    subst (λ (d : Word × Option Word × List Word). NamesDisk d.0 d.1 words × IsPrintedName d.0 × IsPrintedTag d.1) same
    (names.0, own.1, names.1)))

-- a request of a session that is declared, behind its number, which a word spells
module _ (before : List Statement) (session : ℕ) (known : is_session_declared session before ≡ true)
    (word : Word) (spelled : IsNumber session word) where
  -- words behind the verb ask for what is read
  abbrev Asks : Word → List Word → Statement → Type 0
  Asks verb words s = Reads before (word ∷ codes "vdi" ∷ verb ∷ words) s

  as-asked : (verb : Word) (words rest : List Word) → words ≡ rest → IsRequestWords session verb rest (word ∷ codes "vdi" ∷ verb ∷ words)
  as-asked verb words rest same = (word, ap (λ (w : List Word). word ∷ codes "vdi" ∷ verb ∷ w) same, spelled)

  stays-within : (verb : Word) (words : List Word) (asked s : Statement) → request_within_limits before asked ≡ Ok s
      → IsSpelled asked (word ∷ codes "vdi" ∷ verb ∷ words) → (IsWithin before asked s → MayAsk before session → MayStand before asked)
      → Asks verb words s
  stays-within verb words asked s e says may =
      let kept = request_within_limits-read before asked s e in
      subst (Asks verb words) kept.said (says, may kept (record { declared = known; room = kept.room }))

  create-reads : (words : List Word) (s : Statement) → create_request_at before session words ≡ Ok s → Asks (codes "create") words s
  unfolding create_request_at
  create-reads words s e =
      read-on (option_at (codes "-c") policy_option_at (Copies 3) words) _ _ e (λ policy chosen e1.
      read-on (option_at (codes "-z") shift_option_at SHIFT_DEFAULT policy.1) _ _ e1 (λ shift sized e2.
      read-on _ _ _ e2 (λ name named e3. read-on _ _ _ e3 (λ size measured e4. read-on _ _ _ e4 (λ end ended e5.
      let c = policy-option-read words policy chosen in
      let z = shift-option-read policy.1 shift sized in
      let own = name-read shift.1 name named in
      let b = blocks-read BLOCK_BYTES (OBJECTS_MAX * 2 ^ shift.0) name.1 size measured in
      let none = end-read size.1 end ended in
      let last : shift.1 ≡ name.0 ∷ b.word ∷ [] = cc in
      let parted : words ≡ c.0 ++ z.0 ++ name.0 ∷ b.word ∷ [] =
      c.1 ∙ ap (λ (w : List Word). c.0 ++ w) (z.1 ∙ ap (λ (w : List Word). z.0 ++ w) last)
      ∙ sym (append_assoc c.0 z.0 (name.0 ∷ b.word ∷ [])) in
      stays-within (codes "create") words (Create session policy.0 shift.0 name.0 size.0) s e5
      (c.0, z.0, b.word, as-asked (codes "create") words (c.0 ++ z.0 ++ name.0 ∷ b.word ∷ []) parted, c.2, z.2, b.spelled)
      (λ kept ask. (ask, own.1, record { shift = (z.3, z.4); policy = c.3; size = (b.least, b.most); blocks = b.whole })))))))

  open-reads : (words : List Word) (s : Statement) → open_request_at before session words ≡ Ok s → Asks (codes "open") words s
  unfolding open_request_at
  open-reads words s e =
      read-on _ _ _ e (λ disk named e1. read-on _ _ _ e1 (λ end ended e2.
      let read = disk-read words disk named (end-read disk.2 end ended) in
      stays-within (codes "open") words (OpenDisk session disk.0 disk.1) s e2
      (read.0 session word (codes "open") spelled) (λ kept ask. (ask, read.1, read.2))))

  close-reads : (words : List Word) (s : Statement) → close_request_at before session words ≡ Ok s → Asks (codes "close") words s
  unfolding close_request_at
  close-reads words s e =
      read-on _ _ _ e (λ end ended e1.
      stays-within (codes "close") words (Close session) s e1
      (as-asked (codes "close") words [] (end-read words end ended)) (λ kept ask. ask))

  read-reads : (words : List Word) (s : Statement) → read_request_at before session words ≡ Ok s → Asks (codes "read") words s
  unfolding read_request_at
  read-reads words s e =
      read-on _ _ _ e (λ span measured e1. read-on _ _ _ e1 (λ end ended e2.
      let read = span-read words span measured in
      let none = end-read span.2 end ended in
      let parted : words ≡ read.0 ∷ read.1 ∷ [] = cc in
      stays-within (codes "read") words (Read session span.0 span.1) s e2
      (read.0, read.1, as-asked (codes "read") words (read.0 ∷ read.1 ∷ []) parted, read.3, read.4)
      (λ kept ask. (ask, read.5, kept.reads))))

  write-reads : (words : List Word) (s : Statement) → write_request_at before session words ≡ Ok s → Asks (codes "write") words s
  unfolding write_request_at
  write-reads words s e =
      read-on _ _ _ e (λ span measured e1. read-on _ _ _ e1 (λ pattern filled e2. read-on _ _ _ e2 (λ end ended e3.
      let read = span-read words span measured in
      let full = pattern-read span.2 pattern filled in
      let none = end-read pattern.1 end ended in
      let parted : words ≡ read.0 ∷ read.1 ∷ full.0 ∷ full.1 ∷ [] = cc in
      stays-within (codes "write") words (Write session span.0 span.1 pattern.0) s e3 (
        read.0,
        read.1,
        full.0,
        full.1,
        as-asked (codes "write") words (read.0 ∷ read.1 ∷ full.0 ∷ full.1 ∷ []) parted,
        read.3,
        read.4,
        full.3,
      )
      (λ kept ask. (ask, read.5, full.4, kept.writes)))))

  snapshot-reads : (words : List Word) (s : Statement) → snapshot_request_at before session words ≡ Ok s → Asks (codes "snapshot") words s
  unfolding snapshot_request_at
  snapshot-reads words s e =
      read-on _ _ _ e (λ option keyword e1. read-on _ _ _ e1 (λ tag named e2. read-on _ _ _ e2 (λ end ended e3.
      let own = name-read option tag named in
      let next = keyword-read (codes "-s") words option keyword in
      let none = end-read tag.1 end ended in
      let parted : words ≡ codes "-s" ∷ tag.0 ∷ [] = cc in
      stays-within (codes "snapshot") words (Snapshot session tag.0) s e3
      (as-asked (codes "snapshot") words (codes "-s" ∷ tag.0 ∷ []) parted) (λ kept ask. (ask, own.1)))))

  clone-reads : (words : List Word) (s : Statement) → clone_request_at before session words ≡ Ok s → Asks (codes "clone") words s
  unfolding clone_request_at
  clone-reads words s e =
      read-on _ _ _ e (λ option keyword e1. read-on _ _ _ e1 (λ tag tagged e2. read-on _ _ _ e2 (λ base based e3.
      read-on _ _ _ e3 (λ name named e4. read-on _ _ _ e4 (λ end ended e5.
      let next = keyword-read (codes "-s") words option keyword in
      let a = name-read option tag tagged in
      let b = name-read tag.1 base based in
      let c = name-read base.1 name named in
      let none = end-read name.1 end ended in
      let parted : words ≡ codes "-s" ∷ tag.0 ∷ base.0 ∷ name.0 ∷ [] = cc in
      stays-within (codes "clone") words (Clone session base.0 tag.0 name.0) s e5
      (as-asked (codes "clone") words (codes "-s" ∷ tag.0 ∷ base.0 ∷ name.0 ∷ []) parted) (λ kept ask. (ask, b.1, a.1, c.1)))))))

  delete-reads : (words : List Word) (s : Statement) → delete_request_at before session words ≡ Ok s → Asks (codes "delete") words s
  unfolding delete_request_at
  delete-reads words s e =
      read-on _ _ _ e (λ disk named e1. read-on _ _ _ e1 (λ end ended e2.
      let read = disk-read words disk named (end-read disk.2 end ended) in
      stays-within (codes "delete") words (Delete session disk.0 disk.1) s e2
      (read.0 session word (codes "delete") spelled) (λ kept ask. (ask, read.1, read.2))))

  check-reads : (words : List Word) (s : Statement) → check_request_at before session words ≡ Ok s → Asks (codes "check") words s
  unfolding check_request_at
  check-reads words s e =
      read-on _ _ _ e (λ end ended e1.
      either-way (nat_lt (count_by is_check before) CHECKS_MAX) _ _ s e1
      (λ few e2. stays-within (codes "check") words (Check session) s e2
      (as-asked (codes "check") words [] (end-read words end ended)) (λ kept ask. (ask, ltb-true _ _ few)))
      (λ many none. absurd cc))

  -- the verb names how the rest is read
  verb-chosen : (verb keyword : Word) (words : List Word) (r t : Result Statement LineCause) (s : Statement)
      → (if bytes_eq verb keyword then r else t) ≡ Ok s → (r ≡ Ok s → Asks keyword words s)
      → (t ≡ Ok s → Asks verb words s) → Asks verb words s
  verb-chosen verb keyword words r t s e taken other =
      word-chosen (λ (w : Word). Asks w words s) verb keyword r t s e taken other

  verb-reads : (verb : Word) (words : List Word) (s : Statement) → verb_at before session verb words ≡ Ok s → Asks verb words s
  unfolding verb_at copy_verb_at
  verb-reads verb words s e =
      verb-chosen verb (codes "create") words _ _ s e (create-reads words s)
      (λ e1. verb-chosen verb (codes "open") words _ _ s e1 (open-reads words s)
      (λ e2. verb-chosen verb (codes "close") words _ _ s e2 (close-reads words s)
      (λ e3. verb-chosen verb (codes "read") words _ _ s e3 (read-reads words s)
      (λ e4. verb-chosen verb (codes "write") words _ _ s e4 (write-reads words s)
      (λ e5. verb-chosen verb (codes "snapshot") words _ _ s e5 (snapshot-reads words s)
      (λ e6. verb-chosen verb (codes "clone") words _ _ s e6 (clone-reads words s)
      (λ e7. verb-chosen verb (codes "delete") words _ _ s e7 (delete-reads words s)
      (λ e8. verb-chosen verb (codes "check") words _ _ s e8 (check-reads words s)
      (λ e9. absurd cc)))))))))

  request-reads : (words : List Word) (s : Statement) → vdi_request_at before session words ≡ Ok s → Reads before (word ∷ words) s
  unfolding vdi_request_at
  request-reads words s e =
      read-on _ _ _ e (λ vdi keyword e1. read-on _ _ _ e1 (λ verb answered e2.
      let next = keyword-read (codes "vdi") words vdi keyword in
      let named = word-read vdi verb answered in
      let parted : codes "vdi" ∷ verb.0 ∷ verb.1 ≡ words = cc in
      renamed before word (codes "vdi" ∷ verb.0 ∷ verb.1) words s s parted refl
      (verb-reads verb.0 verb.1 s e2)))

asking_session-read : (before : List Statement) (word : Word) (session : ℕ) → asking_session before word ≡ Ok session
    → IsNumber session word × (is_session_declared session before ≡ true)
unfolding asking_session
asking_session-read before word session e =
    read-on _ _ _ e (λ number spelled e1. read-on _ _ _ e1 (λ ranged-in kept e2.
    let passed = test-passed (is_session_declared ranged-in before) ranged-in session causes.Unknown e2 in
    let request_within_limits = range-kept 1 SESSIONS_MAX number ranged-in kept in
    (spelled ∙ ap (λ (n : ℕ). Ok n) (request_within_limits.0 ∙ passed.1), subst (λ (n : ℕ). is_session_declared n before ≡ true) passed.1 passed.0)))

told-reads : (before : List Statement) (first : Word) (words : List Word) (s : Statement) → statement_behind_cluster before first words ≡ Ok s
    → Reads before (first ∷ words) s
unfolding statement_behind_cluster session_request_at
told-reads before first words s e =
    either-way (not (has is_cluster before)) _ _ s e (λ alone e1. absurd cc)
    (λ behind e1. either-way (is_digits first) _ _ s e1
    (λ digits asked. read-on _ _ _ asked (λ session answered e2.
    let of-session = asking_session-read before first session answered in
    request-reads before session of-session.1 first of-session.0 words s e2))
    (λ other. happening-reads before (not-false (has is_cluster before) behind) first words s))

-- a statement that is read is spelled by its words, and may stand where it is read
pub what-reads : (before : List Statement) (first : Word) (rest : List Word) (s : Statement) → statement_at before first rest ≡ Ok s
    → IsSpelled s (first ∷ rest) × MayStand before s
unfolding statement_at
what-reads before first rest s e =
    either-way (bytes_eq first (codes "cluster") && not (is_next_word (codes "info") rest)) _ _ s e
    (λ chosen read.
    let named = and_parts (bytes_eq first (codes "cluster")) (not (is_next_word (codes "info") rest)) chosen in
    let same = same-word first (codes "cluster") named.0 in
    subst (λ (w : Word). Reads before (w ∷ rest) s) (sym same)
    (setting-reads (codes "cluster") (λ nodes. Cluster nodes) nodes_set NODES_MAX before rest s
    (λ number word spelled may least most. ((word, refl, spelled), (may, least, most))) read))
    (λ none e1. chosen before first (codes "vnodes") rest _ _ s e1
    (setting-reads (codes "vnodes") (λ vnodes. Vnodes vnodes) vnodes_set VNODES_MAX before rest s
    (λ number word spelled may least most. ((word, refl, spelled), (may, least, most))))
    (λ e2. chosen before first (codes "tries") rest _ _ s e2
    (setting-reads (codes "tries") (λ tries. Tries tries) tries_set TRIES_MAX before rest s
    (λ number word spelled may least most. ((word, refl, spelled), (may, least, most))))
    (λ e3. chosen before first (codes "limit") rest _ _ s e3
    (setting-reads (codes "limit") (λ limit. Limit limit) limit_set LIMIT_MAX before rest s
    (λ number word spelled may least most. ((word, refl, spelled), (may, least, most))))
    (λ e4. chosen before first (codes "zone") rest _ _ s e4 (zone-reads before rest s)
    (told-reads before first rest s)))))

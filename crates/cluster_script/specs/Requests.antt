-- The requests of a session, each read after the statements before it.
use Rattle.std.specs.Prelude.{ℕ, ◌+◌, ◌-◌, ◌*◌, ◌^◌, ◌==◌, Bool, ◌&&◌, nat_le, nat_lt, List, bytes_eq, codes, count_by, sum_by, Option}
use Rattle.std.specs.Prelude.{Some, None, Result, Ok, Err, if◌then◌else◌}
use Rattle.std.specs.List.{list_any, before_first, after_first}
use Rattle.object_id.specs.declared.policy.Policy.{Policy}
use Rattle.object_id.specs.declared.policy.Policy.TheVariants.{Copies, Coded}
use Rattle.object_id.specs.declared.limits.TheConstants.{SHIFT_MIN, SHIFT_MAX, BLOCK_BYTES, SHIFT_DEFAULT, LENGTH_MAX, REQUESTS_MAX}
use Rattle.object_id.specs.declared.limits.TheConstants.{READ_BYTES_MAX, WRITE_BYTES_MAX, COPIES_MAX, PARITY_MAX, OBJECTS_MAX}
use Rattle.object_id.specs.Policy.{is_width}
use Rattle.cluster_script.specs.declared.statement.Pattern.{Pattern}
use Rattle.cluster_script.specs.declared.statement.Pattern.TheVariants.{Fill, Step}
use Rattle.cluster_script.specs.declared.statement.Statement.{Statement}
use Rattle.cluster_script.specs.declared.statement.Statement.TheVariants.{Create, OpenDisk, Close, Read, Write}
use Rattle.cluster_script.specs.declared.statement.Statement.TheVariants.{Snapshot, Clone, Delete, Check}
use Rattle.cluster_script.specs.declared.fault.LineCause.{LineCause}
use Rattle.cluster_script.specs.declared.fault.LineCause.TheVariants as causes
use Rattle.object_id.specs.declared.limits.TheConstants.{CHECKS_MAX}
use Rattle.cluster_script.specs.Statements.{is_check, is_request, read_bytes, write_bytes}
use Rattle.cluster_script.specs.ReadResults.{◌>>=◌}
use Rattle.cluster_script.specs.Words.{Word, word_at, keyword_at, option_at, name_word_at, end_of_words}
use Rattle.cluster_script.specs.Numbers.{number_of, plain_number_at, blocks_at}

-- one request more, which reads and writes so many bytes, stays within a script's limits
abbrev pub has_room : ℕ → ℕ → List Statement → Bool
has_room read written before =
    nat_lt (count_by is_request before) REQUESTS_MAX
    && nat_le (sum_by read_bytes before + read) READ_BYTES_MAX
    && nat_le (sum_by write_bytes before + written) WRITE_BYTES_MAX

-- a request that stays within a script's limits
abbrev pub request_within_limits : List Statement → Statement → Result Statement LineCause
request_within_limits before s = if has_room (read_bytes s) (write_bytes s) before then Ok s else Err causes.TooMany

-- a check that stays within them, of which there may be fewer than of other requests
abbrev pub check_within_limits : List Statement → Statement → Result Statement LineCause
check_within_limits before s =
    if nat_lt (count_by is_check before) CHECKS_MAX then request_within_limits before s else Err causes.TooMany

-- the policy of so many whole copies
abbrev pub policy_of_copies : ℕ → Result Policy LineCause
policy_of_copies copies = if nat_le 1 copies && nat_le copies COPIES_MAX then Ok (Copies copies) else Err causes.Range

-- the policy of d data strips and p parity strips
abbrev pub policy_of_strips : ℕ → ℕ → Result Policy LineCause
policy_of_strips d p = if is_width d && nat_le 1 p && nat_le p PARITY_MAX then Ok (Coded d p) else Err causes.Range

-- `:` is 58
abbrev pub is_colon : ℕ → Bool
is_colon byte = byte == 58

-- `D:P`
unfoldable pub strips_in : Word → Result Policy LineCause
strips_in word = do
  d ← number_of (before_first is_colon word)
  p ← number_of (after_first is_colon word)
  policy_of_strips d p

-- a number of copies
unfoldable pub copies_in : Word → Result Policy LineCause
copies_in word = do
  copies ← number_of word
  policy_of_copies copies

-- the policy that a word is
abbrev pub policy_of_word : Word → Result Policy LineCause
policy_of_word word = if list_any is_colon word then strips_in word else copies_in word

-- a policy, and the words after it
unfoldable pub policy_option_at : List Word → Result (Policy × List Word) LineCause
policy_option_at words = do
  word ← word_at words
  policy ← policy_of_word word.0
  Ok (policy, word.1)

-- the size of a data object by its shift, and the words after it
abbrev pub shift_option_at : List Word → Result (ℕ × List Word) LineCause
shift_option_at words = plain_number_at SHIFT_MIN SHIFT_MAX words

-- a tag, and the words after it
unfoldable pub tag_at : List Word → Result (Option Word × List Word) LineCause
tag_at words = do
  tag ← name_word_at words
  Ok (Some tag.0, tag.1)

-- `[-c POLICY] [-z SHIFT] NAME SIZE`
unfoldable pub create_request_at : List Statement → ℕ → List Word → Result Statement LineCause
create_request_at before session words = do
  policy ← option_at (codes "-c") policy_option_at (Copies 3) words
  shift ← option_at (codes "-z") shift_option_at SHIFT_DEFAULT policy.1
  name ← name_word_at shift.1
  size ← blocks_at BLOCK_BYTES (OBJECTS_MAX * 2 ^ shift.0) name.1
  end ← end_of_words size.1
  request_within_limits before (Create session policy.0 shift.0 name.0 size.0)

-- `[-s TAG] NAME`: a disk, or with a tag a snapshot of it, and the words after it
unfoldable pub disk_words_at : List Word → Result (Word × Option Word × List Word) LineCause
disk_words_at words = do
  tag ← option_at (codes "-s") tag_at None words
  name ← name_word_at tag.1
  Ok (name.0, tag.0, name.1)

-- `[-s TAG] NAME`
unfoldable pub open_request_at : List Statement → ℕ → List Word → Result Statement LineCause
open_request_at before session words = do
  disk ← disk_words_at words
  end ← end_of_words disk.2
  request_within_limits before (OpenDisk session disk.0 disk.1)

-- nothing follows the verb
unfoldable pub close_request_at : List Statement → ℕ → List Word → Result Statement LineCause
close_request_at before session words = do
  end ← end_of_words words
  request_within_limits before (Close session)

-- `OFFSET LENGTH`: where the piece lies, and the words after it
unfoldable pub span_at : List Word → Result (ℕ × ℕ × List Word) LineCause
span_at words = do
  offset ← blocks_at 0 (2 ^ 64 - 1) words
  length ← blocks_at BLOCK_BYTES LENGTH_MAX offset.1
  Ok (offset.0, length.0, length.1)

-- `OFFSET LENGTH`
unfoldable pub read_request_at : List Statement → ℕ → List Word → Result Statement LineCause
read_request_at before session words = do
  span ← span_at words
  end ← end_of_words span.2
  request_within_limits before (Read session span.0 span.1)

-- the byte of a pattern, and the words after it
unfoldable pub pattern_byte_at : (ℕ → Pattern) → List Word → Result (Pattern × List Word) LineCause
pattern_byte_at pattern words = do
  byte ← plain_number_at 0 255 words
  Ok (pattern byte.0, byte.1)

-- the pattern that a word names, and the words after its byte
unfoldable pub named_pattern_at : Word → List Word → Result (Pattern × List Word) LineCause
named_pattern_at name words =
    if bytes_eq name (codes "fill") then pattern_byte_at (λ byte. Fill byte) words
    else if bytes_eq name (codes "step") then pattern_byte_at (λ byte. Step byte) words
    else Err causes.Word

-- `fill BYTE` or `step BYTE`, and the words after it
unfoldable pub pattern_at : List Word → Result (Pattern × List Word) LineCause
pattern_at words = do
  name ← word_at words
  named_pattern_at name.0 name.1

-- `OFFSET LENGTH fill BYTE`, or `step BYTE`
unfoldable pub write_request_at : List Statement → ℕ → List Word → Result Statement LineCause
write_request_at before session words = do
  span ← span_at words
  pattern ← pattern_at span.2
  end ← end_of_words pattern.1
  request_within_limits before (Write session span.0 span.1 pattern.0)

-- `-s TAG`
unfoldable pub snapshot_request_at : List Statement → ℕ → List Word → Result Statement LineCause
snapshot_request_at before session words = do
  option ← keyword_at (codes "-s") words
  tag ← name_word_at option
  end ← end_of_words tag.1
  request_within_limits before (Snapshot session tag.0)

-- `-s TAG BASE NAME`
unfoldable pub clone_request_at : List Statement → ℕ → List Word → Result Statement LineCause
clone_request_at before session words = do
  option ← keyword_at (codes "-s") words
  tag ← name_word_at option
  base ← name_word_at tag.1
  name ← name_word_at base.1
  end ← end_of_words name.1
  request_within_limits before (Clone session base.0 tag.0 name.0)

-- `[-s TAG] NAME`
unfoldable pub delete_request_at : List Statement → ℕ → List Word → Result Statement LineCause
delete_request_at before session words = do
  disk ← disk_words_at words
  end ← end_of_words disk.2
  request_within_limits before (Delete session disk.0 disk.1)

-- nothing follows the verb
unfoldable pub check_request_at : List Statement → ℕ → List Word → Result Statement LineCause
check_request_at before session words = do
  end ← end_of_words words
  check_within_limits before (Check session)

-- what a verb asks for of snapshots, clones, disks that go, and the copies of a disk's objects
unfoldable pub copy_verb_at : List Statement → ℕ → Word → List Word → Result Statement LineCause
copy_verb_at before session verb words =
    if bytes_eq verb (codes "snapshot") then snapshot_request_at before session words
    else if bytes_eq verb (codes "clone") then clone_request_at before session words
    else if bytes_eq verb (codes "delete") then delete_request_at before session words
    else if bytes_eq verb (codes "check") then check_request_at before session words
    else Err causes.Word

-- what a verb asks for
unfoldable pub verb_at : List Statement → ℕ → Word → List Word → Result Statement LineCause
verb_at before session verb words =
    if bytes_eq verb (codes "create") then create_request_at before session words
    else if bytes_eq verb (codes "open") then open_request_at before session words
    else if bytes_eq verb (codes "close") then close_request_at before session words
    else if bytes_eq verb (codes "read") then read_request_at before session words
    else if bytes_eq verb (codes "write") then write_request_at before session words
    else copy_verb_at before session verb words

-- `vdi` and the verb
unfoldable pub vdi_request_at : List Statement → ℕ → List Word → Result Statement LineCause
vdi_request_at before session words = do
  vdi ← keyword_at (codes "vdi") words
  verb ← word_at vdi
  verb_at before session verb.0 verb.1

-- In the middle of a step of a run in range, what an opening writes back to its disk's inode names what is made, where the disk isn't
-- dead, if the entries that attempts gave to inodes do: the entries are those that were read.
use Rattle.std.proofs.Common.{◌≡◌, inr, arith, ℕ, ◌+◌, ◌*◌, ◌-◌, ◌≤◌, ◌<◌, nat_le, ◌&&◌, Bool, true, false, List}
use Rattle.std.proofs.Common.{length, Some, refl, sym, ap, subst, ◌∙◌}
use Rattle.std.proofs.lemmas.Bool.{and_parts, and_from, leb-true, le-leb}
use Rattle.object_id.specs.declared.oid.Kind.{Kind}
use Rattle.object_id.specs.declared.oid.Kind.TheVariants.{Inode}
use Rattle.object_id.specs.declared.oid.Vid.{Vid}
use Rattle.object_id.specs.Fields.{u32_at}
use Rattle.object_id.specs.Oid.{IsVid, inode_number, object_number}
use Rattle.object_id.specs.Spec.{objects_of}
use Rattle.object_store.specs.Bytes.{piece_at}
use Rattle.object_store.proofs.CallLaws.{length-laid_over}
use Rattle.inode.specs.Layout.{Content, header_bytes, unread_zeros}
use Rattle.inode.specs.declared.layout.TheConstants.{INODE_HEADER_BYTES}
use Rattle.cluster_script.specs.declared.statement.Statement.{Statement}
use Rattle.vdi_directory.specs.declared.header.Header.{Header}
use Rattle.vdi_directory.specs.Dead.{is_dead}
use Rattle.vdi_directory.specs.Decisions.{log_effects}
use Rattle.gateway.specs.declared.message.Status.{Status}
use Rattle.gateway.specs.Attempt as gateways
use Rattle.gateway.specs.State.{Work}
use Rattle.vdi_ops.specs.InodeWorks.{written_bytes, written_back, write_back}
use Rattle.vdi_ops.specs.Kept.{IsInodeHeader}
use Rattle.vdi_ops.specs.Op.{Opening, Working, Op}
use Rattle.vdi_ops.specs.Tables.{table_in, inode_by}
use Rattle.vdi_ops.proofs.TableLemmas.{blank_fills, header_length}
use Rattle.vdi_ops.proofs.WorkLemmas.{field_text, field_tag}
use Rattle.sheep_node.specs.declared.course.Course.TheVariants.{Commanding}
use Rattle.sheep_node.specs.Changes.{EndsWork}
use Rattle.sheep_node.specs.StepState.{StepState}
use Rattle.sheep_world.specs.NodeCauses.{input_of_cause}
use Rattle.sheep_world.specs.RunsWithAsks.{Move}
use Rattle.overlap_law.specs.Fates.{IsCreated}
use Rattle.overlap_law.specs.Holders.{is_dead_by_log}
use Rattle.overlap_law.specs.MomentChanges.{MomentTrail, RunsAreInRange}
use Rattle.overlap_law.specs.NamedWorks.{HasEntry, NamesWhatIsMade}
use Rattle.overlap_law.specs.OpenTables.{CallsLive}
use Rattle.overlap_law.specs.Past.{MomentWithPast, run_with_past}
use Rattle.overlap_law.specs.StepMoments.{SteppingNode, IsStepping, StepsByChanges, LeadsInStep, first_in_step, moment_in_step}
use Rattle.overlap_law.specs.Tables.{entry_unit, entry_by, StandsFor, EntriesAreMade, OwnEntriesAreMade}
use Rattle.overlap_law.specs.ToDo.{entry_made}
use Rattle.overlap_law.specs.Units.{unit_start, unit_size, unit_end, covers_by}
use Rattle.overlap_law.proofs.CreatedStays.{created-by}
use Rattle.overlap_law.proofs.DoneReads.{number_in_piece}
use Rattle.overlap_law.proofs.EntryWrites.{entry_start, entry_size}
use Rattle.overlap_law.proofs.KnownDisks.{kind-of_inode, vid-of_inode}
use Rattle.overlap_law.proofs.LastReads.{last_reads-in_run}
use Rattle.overlap_law.proofs.OpeningReads.{IsEntryRead, read_long, entry_read, opening_reads, opening_vid, opening_header}
use Rattle.overlap_law.proofs.UnitPieces.{piece-beside}

-- ---- the entries of what is written back

module _ (inode : Content) (bytes : List ℕ) (id : IsVid inode.vid)
    (head : length (header_bytes inode (unread_zeros inode)) ≡ INODE_HEADER_BYTES) (long : length bytes ≡ written_bytes inode.spec) where
  abbrev header : List ℕ
  header = header_bytes inode (unread_zeros inode)

  fits : 0 + length header ≤ length bytes
  fits = omega (arith, head, long)

  -- it has the entries of the disk's objects alone
  pub back_within : (vid index : ℕ) → HasEntry (write_back inode bytes) vid index → (vid ≡ inode.vid) × (index < objects_of inode.spec)
  back_within vid index has =
      let object = has.object in
      let unit : ℕ = entry_unit index in
      let start = entry_start index in
      let size = entry_size index in
      let same : length (written_back inode bytes) ≡ length bytes = length-laid_over bytes 0 header fits in
      let end : ℕ = 0 + length (written_back inode bytes) in
      let covered : nat_le 0 (unit_start Inode unit) && nat_le (unit_end Inode unit) (0 + length (written_back inode bytes)) ≡ true
      = sym (ap (λ (k : Kind). nat_le 0 (unit_start k unit) && nat_le (unit_end k unit) (0 + length (written_back inode bytes)))
      (kind-of_inode inode.vid id)) ∙ has.covered in
      let high = leb-true (unit_end Inode unit) (0 + length (written_back inode bytes))
      (and_parts (nat_le 0 (unit_start Inode unit)) (nat_le (unit_end Inode unit) (0 + length (written_back inode bytes))) covered).1 in
      (omega (arith, object), omega (arith, start, size, high, same, long))

  -- and they are those that were there
  pub back_entry : (index : ℕ) → entry_made index (write_back inode bytes) ≡ u32_at (INODE_HEADER_BYTES + 4 * index) bytes
  back_entry index =
      let unit : ℕ = entry_unit index in
      let from : ℕ = INODE_HEADER_BYTES + 4 * index in
      let start = entry_start index in
      let at : unit_start Inode unit - 0 ≡ INODE_HEADER_BYTES + 4 * index = omega (arith, start) in
      ap (λ (k : Kind). u32_at 0 (piece_at (written_back inode bytes) (unit_start k unit - 0) (unit_size k unit)))
      (kind-of_inode inode.vid id)
      ∙ (λ i. u32_at 0 (piece_at (written_back inode bytes) (at i) (entry_size index i)))
      ∙ ap (λ (xs : List ℕ). u32_at 0 xs) (piece-beside bytes 0 header from 4 (inr (omega (arith, head))) fits)
      ∙ number_in_piece bytes from

  pub back_covers : (index : ℕ) → index < objects_of inode.spec → covers_by (entry_unit index) (write_back inode bytes) ≡ true
  back_covers index within =
      let unit : ℕ = entry_unit index in
      let start = entry_start index in
      let size = entry_size index in
      let same : length (written_back inode bytes) ≡ length bytes = length-laid_over bytes 0 header fits in
      let begins : 0 ≤ unit_start Inode unit = omega arith in
      let ends : unit_start Inode unit + unit_size Inode unit ≤ 0 + length (written_back inode bytes)
      = omega (arith, start, size, same, long, within) in
      ap (λ (k : Kind). nat_le 0 (unit_start k unit) && nat_le (unit_end k unit) (0 + length (written_back inode bytes)))
      (kind-of_inode inode.vid id)
      ∙ and_from (nat_le 0 (unit_start Inode unit)) (nat_le (unit_end Inode unit) (0 + length (written_back inode bytes)))
      (le-leb 0 (unit_start Inode unit) begins)
      (le-leb (unit_end Inode unit) (0 + length (written_back inode bytes)) ends)

-- the header of an inode is as long as it is to be
pub header_long : (header : Header) (vid : ℕ) (table : List ℕ) → IsInodeHeader header
    → length (header_bytes (inode_by header vid table) (unread_zeros (inode_by header vid table))) ≡ INODE_HEADER_BYTES
header_long header vid table is =
    header_length (inode_by header vid table) (unread_zeros (inode_by header vid table))
    (blank_fills (inode_by header vid table) (field_text header.name is.name) (field_tag header.tag is.tag))

-- ---- in the middle of a step

module _ (script : List Statement) (range : RunsAreInRange script) (events : List Move) (start : MomentWithPast)
    (ran : run_with_past script events ≡ Some start) (on : SteppingNode) (is : IsStepping script start.world on)
    (by : StepsByChanges on.cause) (so_far : StepState) (leads : LeadsInStep on (first_in_step on) so_far)
    (trail : MomentTrail script start (moment_in_step script on start so_far)) where
  abbrev here : MomentWithPast
  here = moment_in_step script on start so_far

  pub written_back_names : (session req number : ℕ) (work : Work) (attempt : gateways.Attempt) (status : Status) (op : Op) (bytes : List ℕ)
      (vid : Vid) (snapshot : Bool) (ids : List ℕ) (header : Header)
      → EndsWork (input_of_cause on.cause) on.host.node so_far session req number work attempt status (Commanding op) bytes
      → op.stage ≡ Working vid (Opening snapshot ids header) → is_dead (log_effects here.world.log) vid.0 ≡ false → (live good_id : ℕ
      → Bool)
      → CallsLive live here.world.log here.past.attempts
      → EntriesAreMade (log_effects here.world.log) live good_id here.past.attempts → OwnEntriesAreMade live here.past.attempts
      → NamesWhatIsMade (log_effects here.world.log) good_id here.past.attempts so_far.node.peer.epoch
      (write_back (inode_by header vid.0 (table_in ids header.spec bytes)) bytes)
  written_back_names session req number work attempt status op bytes vid snapshot ids header ends at alive live good_id calls entries own =
      let inode : Content = inode_by header vid.0 (table_in ids header.spec bytes) in
      let reads = opening_reads script range events start ran on is by so_far leads trail session req number work attempt status op
      bytes vid
      snapshot ids header ends at in
      let id : IsVid vid.0 = opening_vid script range events start ran on is by so_far leads trail session req number work attempt status op
      bytes vid snapshot ids header ends at in
      let sound : IsInodeHeader header = opening_header script range events start ran on is by so_far leads trail session req number work
      attempt status op bytes vid snapshot ids header ends at in
      let long : length bytes ≡ written_bytes header.spec = read_long script range events start ran on is by so_far leads trail session req
      number work attempt status (Commanding op) bytes ends refl vid.0 header.spec reads id in
      let head = header_long header vid.0 (table_in ids header.spec bytes) sound in
      let last = last_reads-in_run script range events start here ran trail in
      let dead : is_dead_by_log here.world.log (inode_number vid.0) ≡ false
      = ap (λ (v : ℕ). is_dead (log_effects here.world.log) v) (vid-of_inode vid.0 id) ∙ alive in
      let epoch : ℕ = so_far.node.peer.epoch in
      let read : (index : ℕ) → index < objects_of header.spec
      → IsEntryRead here.past.attempts so_far.node.peer.epoch vid.0 index (u32_at (INODE_HEADER_BYTES + 4 * index) bytes)
      = entry_read script range events start ran on is by so_far leads trail session req number work attempt status
      (Commanding op) bytes ends
      refl vid.0 header.spec reads id last in
      record {
        each = λ v index has good some.
            let where_it_is = back_within inode bytes id head long v index has in
            let one = read index where_it_is.1 in
            let value : entry_by index one.one ≡ entry_made index (write_back inode bytes)
            = one.entry ∙ sym (back_entry inode bytes id head long index) in
            let stands = entries.each one.place one.one one.there vid.0 index one.object
            (calls (inode_number vid.0) (one.place, one.one, one.there, one.object) dead) (ap good_id (sym where_it_is.0) ∙ good) has.inside
            one.covers (λ none. some (sym value ∙ none)) in
            subst (λ (k : ℕ). StandsFor (log_effects here.world.log) here.past.attempts k index so_far.node.peer.epoch
            (entry_made index (write_back inode bytes))) (sym where_it_is.0)
            (subst (StandsFor (log_effects here.world.log) here.past.attempts vid.0 index so_far.node.peer.epoch) value (record {
              chain = stands.chain;
              created = created-by here.past.attempts (object_number (entry_by index one.one) index) one.one.epoch so_far.node.peer.epoch
                  one.within stands.created;
            }));
        own = λ v index has is_vid says_own.
            let where_it_is = back_within inode bytes id head long v index has in
            let one = read index where_it_is.1 in
            let value : entry_by index one.one ≡ vid.0
            = one.entry ∙ sym (back_entry inode bytes id head long index) ∙ says_own ∙ where_it_is.0 in
            subst (λ (k : ℕ). IsCreated here.past.attempts (object_number k index) so_far.node.peer.epoch) (sym where_it_is.0)
            (created-by here.past.attempts (object_number vid.0 index) one.one.epoch so_far.node.peer.epoch one.within
            (own.each one.place one.one one.there vid.0 index id one.object
            (calls (inode_number vid.0) (one.place, one.one, one.there, one.object) dead) has.inside one.covers value));
      }

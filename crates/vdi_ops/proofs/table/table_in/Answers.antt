use Rattle.std.proofs.Common.{ℕ, List, length, map, ap, sym, subst, ◌∙◌}
use Rattle.std.specs.List.Sorted.{IsNonDecreasing}
use Rattle.std.proofs.lemmas.List.Sorted.{IsNonDecreasingBy-from_sort}
use Rattle.std.specs.Int.{w32}
use Rattle.object_id.specs.Fields.{numbers_at}
use Rattle.inode.specs.declared.layout.TheConstants.{INODE_HEADER_BYTES}
use Rattle.vdi_ops.specs.Tables.{kept_entry}
use Rattle.vdi_ops.proofs.IdLemmas.{kept_same, whole_slice}
use Rattle.vdi_ops.proofs.table.table_in.Goals as goal

pub keep_entries-requires : goal.keep_entries-requires
keep_entries-requires c =
    subst IsNonDecreasing (sym c.as_slice.ensures.value)
    (IsNonDecreasingBy-from_sort (λ (x : ℕ). x) c.sort_unstable.new.self.items c.sort_unstable.ensures.sorted)

pub returns : goal.returns
returns c =
    let ids : List ℕ = c.args.ids.items in
    let sorted : List ℕ = c.sort_unstable.new.self.items in
    let bytes : List ℕ = c.args.bytes.now in
    let items = c.as_mut_slice.ensures.value in
    whole_slice c.in_ok-table.table.len c.keep_entries.new.table c.in_ok-table.table.items c.in_ok-table.table.ok.0
    (c.keep_entries.auto.table ∙ ap length items)
    ∙ c.keep_entries.ensures
    ∙ ap (λ (ids : List ℕ). map (kept_entry ids) c.as_mut_slice.result.now) c.as_slice.ensures.value
    ∙ ap (map (kept_entry sorted)) (items ∙ c.in_ok-table.ensures.value)
    ∙ kept_same ids sorted (numbers_at w32 c.objects.result INODE_HEADER_BYTES bytes) c.sort_unstable.ensures.permutation
    ∙ ap (λ n. map (kept_entry ids) (numbers_at w32 n INODE_HEADER_BYTES bytes)) c.objects.ensures

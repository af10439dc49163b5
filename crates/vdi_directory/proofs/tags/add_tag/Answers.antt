use Rattle.std.proofs.Common.{◌≡◌, List, ℕ, Bool, true, false, cond, Some, ap, sym, ◌∙◌}
use Rattle.std.specs.Map.{lookup}
use Rattle.object_id.specs.declared.oid.Vid.{Vid}
use Rattle.vdi_directory.specs.Names.{is_same_bytes}
use Rattle.vdi_directory.proofs.NameLemmas.{is_key, insert-row, is-key-turned}
use Rattle.vdi_directory.proofs.tags.add_tag.Goals as goal

pub returns-clause-ok : goal.returns-clause-ok
returns-clause-ok c =
    let es = c.args.tags.now.entries in
    λ other. ap (lookup (is_key other)) c.in_ok-insert.ensures.entries
    ∙ insert-row es c.in_ok-from_slice.field-0 c.args.vid other
    ∙ ap (λ b. cond b (Some c.args.vid) (lookup (is_key other) es))
    (is-key-turned other c.in_ok-from_slice.field-0 ∙ ap (λ (bytes : List ℕ). is_same_bytes bytes other) c.in_ok-from_slice.ensures.items)

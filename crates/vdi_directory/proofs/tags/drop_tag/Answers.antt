use Rattle.std.proofs.Common.{◌≡◌, List, ℕ, Bool, true, false, cond, None, refl, ap, sym, ◌∙◌}
use Rattle.std.specs.Map.{lookup}
use Rattle.object_id.specs.declared.oid.Vid.{Vid}
use Rattle.vdi_directory.specs.Names.{is_same_bytes}
use Rattle.vdi_directory.specs.NameRows.{tag_in}
use Rattle.vdi_directory.proofs.NameLemmas.{is_key, remove-row, same-is}
use Rattle.vdi_directory.proofs.tags.drop_tag.Goals as goal

pub returns : goal.returns
returns c = λ other. by_test other (is_same_bytes c.args.tag.now other) refl
  where
    by_test : (other : List ℕ) (b : Bool) → is_same_bytes c.args.tag.now other ≡ b
        → tag_in c.remove.new.self other ≡ cond b None (tag_in c.args.tags.now other)
    by_test other true same = ap (tag_in c.remove.new.self) (sym (same-is c.args.tag.now other same)) ∙ c.remove.ensures.updates.1
    by_test other false apart = ap (lookup (is_key other)) c.remove.ensures.entries ∙ remove-row c.args.tags.now.entries c.args.tag.now other apart

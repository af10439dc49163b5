use Rattle.std.proofs.Common.{◌≡◌, false, Option, Some, None, is_some, refl, ap, sym, ◌∙◌}
use Rattle.std.specs.Map.{lookup}
use Rattle.vdi_directory.specs.declared.named.Named.{Named}
use Rattle.vdi_directory.specs.NameRows.{standing_or_none}
use Rattle.vdi_directory.proofs.NameLemmas.{is_key, add-row}
use Rattle.vdi_directory.proofs.names.Names.add.Goals as goal

none-there : (row : Option Named) → is_some row ≡ false → row ≡ None
none-there None not_there = refl
none-there (Some named) not_there = cc

pub returns-in_ok-insert-clause-same : goal.returns-in_ok-insert-clause-same
returns-in_ok-insert-clause-same c =
    let es = c.args.self.now.rows.entries in
    let none : lookup (is_key c.args.name.now) es ≡ None = none-there (lookup (is_key c.args.name.now) es) (sym c.contains_key.ensures ∙ c.if-not-contains_key.true) in
    λ other. ap (λ rows. standing_or_none (lookup (is_key other) rows)) c.in_ok-insert.ensures.entries
    ∙ add-row es c.in_ok-from_slice.field-0 c.new.result c.args.name.now other c.new.ensures c.in_ok-from_slice.ensures.items none

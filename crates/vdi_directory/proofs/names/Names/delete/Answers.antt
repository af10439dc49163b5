use Rattle.std.proofs.Common.{◌≡◌, Option, Some, ap, sym, ◌∙◌}
use Rattle.std.specs.Option.{option_copied_mut}
use Rattle.std.specs.Map.{lookup}
use Rattle.vdi_directory.specs.declared.named.Named.{Named}
use Rattle.vdi_directory.specs.NameRows.{standing_or_none, standing_without}
use Rattle.vdi_directory.proofs.NameLemmas.{is_key, change-row}
use Rattle.vdi_directory.proofs.names.Names.delete.Goals as goal

pub delete-requires : goal.delete-requires
delete-requires c =
    let found : lookup (is_key c.args.name.now) c.args.self.now.rows.entries ≡ Some c.in-Some.named.now
    = sym c.get_mut.ensures.value ∙ ap option_copied_mut c.in-Some.is in
    λ other is. c.requires other (ap (λ (row : Option Named). (standing_or_none row).tagged other) found ∙ is)

pub returns-in-Some : goal.returns-in-Some
returns-in-Some c =
    let es = c.args.self.now.rows.entries in
    let found : lookup (is_key c.args.name.now) es ≡ Some c.in-Some.named.now = sym c.get_mut.ensures.value ∙ ap option_copied_mut c.in-Some.is in
    λ other. change-row es (c.get_mut.follows.lender c.delete.new.self).entries c.args.name.now other c.in-Some.named.now c.delete.new.self
    (standing_without c.args.vid) found c.delete.ensures ((c.get_mut.follows.holds c.delete.new.self).0)

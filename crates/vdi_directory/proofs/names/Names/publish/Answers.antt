use Rattle.std.proofs.Common.{◌≡◌, Some, ap, sym, ◌∙◌}
use Rattle.std.specs.Option.{option_copied_mut}
use Rattle.std.specs.Map.{lookup}
use Rattle.vdi_directory.specs.NameRows.{standing_with_working}
use Rattle.vdi_directory.proofs.NameLemmas.{is_key, change-row}
use Rattle.vdi_directory.proofs.names.Names.publish.Goals as goal

pub returns-in-Some : goal.returns-in-Some
returns-in-Some c =
    let es = c.args.self.now.rows.entries in
    let found : lookup (is_key c.args.name.now) es ≡ Some c.in-Some.named.now = sym c.get_mut.ensures.value ∙ ap option_copied_mut c.in-Some.is in
    λ other. change-row es (c.get_mut.follows.lender c.publish.new.self).entries c.args.name.now other c.in-Some.named.now c.publish.new.self
    (standing_with_working c.args.vid) found c.publish.ensures ((c.get_mut.follows.holds c.publish.new.self).0)

use Rattle.std.proofs.Common.{◌≡◌, List, ap, subst, ◌∙◌}
use Rattle.object_id.specs.declared.entry.Entry.{Entry}
use Rattle.vdi_directory.specs.Names.{is_live_name}
use Rattle.vdi_directory.specs.NameRows.{name_in}
use Rattle.vdi_directory.specs.Effects.{name_of}
use Rattle.vdi_directory.specs.Decisions.{log_effects}
use Rattle.vdi_directory.proofs.StateLemmas.{stands}
use Rattle.vdi_directory.proofs.directory.Directory.is_live.Goals as goal

pub returns : goal.returns
returns c =
    let entries : List Entry = c.self.inside.entries.items in
    subst (λ (all : List Entry). c.is_live.result ≡ is_live_name (name_of (log_effects all) c.args.name.now)) c.self.view_is
    (c.is_live.ensures (name_of (log_effects entries) c.args.name.now)
    (ap (name_in c.self.inside.state.names.rows) c.as_slice.ensures ∙ stands (log_effects entries) c.self.inside.state c.self.invariant c.args.name.now))

use Rattle.std.proofs.Common.{refl, ap, sym, ◌∙◌}
use Rattle.std.proofs.Math.Bool.{or-false}
use Rattle.vdi_directory.specs.declared.effect.Effect.TheVariants as effects
use Rattle.vdi_directory.specs.Vids.{is_in}
use Rattle.vdi_directory.specs.NameRows.{standing_after}
use Rattle.vdi_directory.specs.Effects.{ids_with}
use Rattle.vdi_directory.proofs.directory_state.DirectoryState.snap.Goals as goal

pub returns-clause-ok : goal.returns-clause-ok
returns-clause-ok c = record {
  headers = c.set_tag.ensures;
  names = λ name. c.in_ok-snap.ensures.ok name ∙ ap (λ now. standing_after name now (effects.Snapped c.args.snap)) (c.add.ensures.same name);
  reservations = c.drop_reservation.ensures;
  live = c.add_id.ensures ∙ ap (ids_with c.args.snap.vid.0) c.reserve.ensures.items;
  ranges = c.requires.ranges;
  used = λ vid. sym (or-false (is_in c.args.self.now.used.items vid));
  references = λ vid. refl;
}

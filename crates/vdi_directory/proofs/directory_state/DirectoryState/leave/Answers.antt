use Rattle.std.proofs.Common.{List, refl, subst}
use Rattle.vdi_directory.specs.declared.effect.Reservation.{Reservation}
use Rattle.vdi_directory.specs.References.{parent_in, count_in, reserved_by, LosesReferences}
use Rattle.vdi_directory.specs.Vids.{is_in}
use Rattle.std.proofs.Common.{sym}
use Rattle.std.proofs.Math.Bool.{or-false}
use Rattle.vdi_directory.proofs.directory_state.DirectoryState.leave.Goals as goal

pub returns : goal.returns
returns c = record {
  headers = λ vid. refl;
  names = λ name. refl;
  reservations = c.drop_reservations_of.ensures;
  live = refl;
  ranges = c.requires.ranges;
  used = λ vid. sym (or-false (is_in c.args.self.now.used.items vid));
  references = subst (λ (reservations : List Reservation). LosesReferences (reserved_by c.args.node reservations) (parent_in c.args.self.now.headers) (count_in c.args.self.now.references) (count_in c.drop_references_of.new.references))
      c.as_slice.ensures.value c.drop_references_of.ensures;
}

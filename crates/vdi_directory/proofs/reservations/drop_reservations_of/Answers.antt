use Rattle.std.proofs.Common.{◌==◌, not, rules}
use Rattle.std.proofs.lemmas.Fn.{filter_same}
use Rattle.vdi_directory.specs.declared.effect.Reservation.{Reservation}
use Rattle.vdi_directory.proofs.reservations.drop_reservations_of.Goals as goal

pub returns : goal.returns
returns c = filter_same _ (λ (reservation : Reservation). not (reservation.by.0 == c.args.node.0)) _ (λ x b f' k. search rules) _ _ c.retain.ensures.filtered

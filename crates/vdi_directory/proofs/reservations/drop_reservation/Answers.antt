use Rattle.std.proofs.Common.{◌==◌, not, rules}
use Rattle.std.proofs.lemmas.Fn.{filter_same}
use Rattle.vdi_directory.specs.declared.effect.Reservation.{Reservation}
use Rattle.vdi_directory.proofs.reservations.drop_reservation.Goals as goal

pub returns : goal.returns
returns c = filter_same _ (λ (reservation : Reservation). not (reservation.vid.0 == c.args.vid.0)) _ (λ x b f' k. search rules) _ _ c.retain.ensures.filtered

use Rattle.std.proofs.Common.{◌≡◌, ℕ, ◌+◌, ◌∷◌, ◌++◌, [], List, Some, cond, refl, ap, subst, sym, ◌∙◌, arith}
use Rattle.std.specs.Ordering.{nat_cmp}
use Rattle.std.specs.BTreeMap.{get}
use Rattle.std.specs.Cmp.{unsigned_tied}
use Rattle.vdi_directory.specs.declared.vid_range.VidRange.{VidRange}
use Rattle.vdi_directory.specs.declared.effect.Reservation.{Reservation}
use Rattle.vdi_directory.specs.Vids.{with_vid, is_in, AreRangesFrom}
use Rattle.vdi_directory.specs.References.{one, one_parent_reference}
use Rattle.vdi_directory.proofs.VidLemmas.{with_vid-is}
use Rattle.vdi_directory.proofs.directory_state.DirectoryState.reserve.Goals as goal

pub returns-clause-ok : goal.returns-clause-ok
returns-clause-ok c =
    let vid : ℕ = c.args.grant.reservation.vid.0 in
    let used : List VidRange = c.args.self.now.used.items in
    let put : c.add_used.new.used.items ≡ with_vid vid used = c.add_used.ensures ∙ ap (with_vid vid) c.reserve-2.ensures.items in
    let is = with_vid-is 1 vid used c.requires.ranges c.requires.fresh.0.0 (omega (arith, c.requires.fresh.0.1)) c.requires.fresh.1 in
    record {
      headers = λ other. c.in_ok-insert.ensures.updates.0 other ∙ ap (λ b. cond b (Some c.args.grant.header) (get nat_cmp c.args.self.now.headers other)) (unsigned_tied vid other);
      names = λ name. refl;
      reservations = c.push_reserved.ensures.items ∙ ap (λ (reservations : List Reservation). reservations ++ c.args.grant.reservation ∷ []) c.reserve.ensures.items;
      live = refl;
      ranges = subst (AreRangesFrom 1) (sym put) is.0;
      used = λ other. ap (λ ranges. is_in ranges other) put ∙ is.1 other;
      references = λ other. c.add_child.ensures other
          ∙ ap (λ count. count + one vid other + one_parent_reference c.args.grant.header.parent other) (c.add_place.ensures.same other);
    }

use Rattle.std.proofs.Common.{[], unwrap_or, refl, ap, sym, subst}
use Rattle.std.specs.Ordering.{nat_cmp}
use Rattle.std.specs.Map.{lookup}
use Rattle.std.specs.BTreeMap.{is_at}
use Rattle.vdi_directory.specs.NameRows.{Standing}
use Rattle.vdi_directory.specs.Vids.{is_in, AreRangesFrom}
use Rattle.vdi_directory.specs.Effects.{is_used, header_of, name_of, reservations_of, live_of}
use Rattle.vdi_directory.specs.States.{state_of}
use Rattle.vdi_directory.specs.References.{parent_of, own_of, count_in}
use Rattle.vdi_directory.proofs.ReferenceLemmas.{none-bear}
use Rattle.vdi_directory.proofs.ValidLemmas.{known-none}
use Rattle.vdi_directory.proofs.directory_state.DirectoryState.new.Goals as goal

pub returns : goal.returns
unfolding is_used header_of name_of reservations_of live_of state_of
returns c = record {
  headers = λ vid. ap (lookup (is_at (nat_cmp vid))) c.new.ensures.empty;
  working = λ name. ap (λ (now : Standing). now.working) (c.new-2.ensures name);
  tagged = λ name tag. ap (λ (now : Standing). now.tagged tag) (c.new-2.ensures name);
  taken = λ name. ap (λ (now : Standing). now.taken) (c.new-2.ensures name);
  reservations = c.new-3.ensures.items;
  live = c.new-4.ensures.items;
  ranges = subst (AreRangesFrom 1) (sym c.new-5.ensures.items) tt;
  used = λ vid. ap (λ ranges. is_in ranges vid) c.new-5.ensures.items;
  references = none-bear (parent_of []) (own_of []) (count_in c.new-6.result) (λ vid. refl)
      (λ vid. ap (λ entries. unwrap_or (lookup (is_at (nat_cmp vid)) entries) 0) c.new-6.ensures.empty);
  known = known-none;
}

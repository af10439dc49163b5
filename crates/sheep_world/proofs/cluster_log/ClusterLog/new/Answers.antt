use Rattle.std.proofs.Common.{◌≡◌, ℕ, ◌∷◌, ◌++◌, [], List, ap, sym, subst, ◌∙◌}
use Rattle.std.specs.Ordering.{nat_cmp}
use Rattle.std.specs.FinMap as tree
use Rattle.object_id.specs.declared.entry.Member.{Member}
use Rattle.object_id.specs.declared.entry.Entry.{Entry}
use Rattle.object_id.specs.declared.entry.Entry.TheVariants.{Format}
use Rattle.epoch_log.specs.Appending.{IsLog, MayOpen}
use Rattle.epoch_log.specs.Tally.{IsTally}
use Rattle.disk_lock.specs.Locks.{Holders}
use Rattle.vdi_directory.specs.Effects.{holder_of}
use Rattle.vdi_directory.specs.Decisions.{log_effects}
use Rattle.vdi_directory.specs.DirectoryState.{AreLocks}
use Rattle.vdi_directory.proofs.StateLemmas.{log_effects-none}
use Rattle.sheep_world.proofs.cluster_log.ClusterLog.new.Goals as goal

-- before the first entry nobody holds a disk
no_holders : AreLocks (log_effects []) tree.empty
unfolding holder_of
no_holders = λ (vid : ℕ). tree.get-empty nat_cmp vid ∙ sym (ap (λ before. holder_of before vid) log_effects-none)

pub read_entry-requires-clause-locks : goal.read_entry-requires-clause-locks
read_entry-requires-clause-locks c =
    subst (λ (entries : List Entry). AreLocks (log_effects entries) c.new-locks.result) (sym c.new-directory.ensures)
    (subst (λ (locks : Holders). AreLocks (log_effects []) locks) (sym c.new-locks.ensures) no_holders)

pub invariant_of-result : goal.invariant_of-result
invariant_of-result c =
    let members : List Member = c.args.members in
    let may : MayOpen members = subst MayOpen c.as_slice.ensures (c.may_open.ensures.0 c.if-not-may_open.false) in
    let read : c.read_entry.new.self ≡ Format members ∷ []
    = c.in-Ok.ensures.ok ∙ ap (λ (entries : List Entry). entries ++ Format members ∷ []) c.new-directory.ensures in
    let tally : IsTally (Format members ∷ []) c.in_ok-tally.tally
    = subst (λ (opening : List Member). IsTally (Format opening ∷ []) c.in_ok-tally.tally) c.as_slice-2.ensures c.in_ok-tally.ensures in (
      subst IsLog (sym read) (may, tt),
      subst (λ (entries : List Entry). IsTally entries c.in_ok-tally.tally) (sym read) tally,
      c.in-Ok.ensures.locks,
    )

-- In each run in range no own object that a check hasn't come to, and no other object, has an item of the check.
use Rattle.std.proofs.Common.{◌≡◌, inr, ⊎_elim, ℕ, ◌+◌, ◌*◌, ◌<◌, ◌≤◌, ◌==◌, not, Bool, true, false, List, Contains, Option, Some, refl}
use Rattle.std.proofs.Common.{slice_get, sym, ap, subst, arith, ◌∙◌}
use Rattle.std.specs.List.{list_any}
use Rattle.std.specs.FinMap as tree
use Rattle.std.proofs.lemmas.Bool.{and_cases, eqb-true, lt-ltb, not-false}
use Rattle.std.proofs.lemmas.Map.Views.{Contains-from_any}
use Rattle.object_id.specs.declared.entry.VdiSpec.{VdiSpec}
use Rattle.cluster_script.specs.declared.statement.Statement.{Statement}
use Rattle.disk_history.specs.Changes.{items_in}
use Rattle.disk_history.specs.Ledger.{Item, has_block, is_item_of}
use Rattle.disk_history.specs.Ledger as histories
use Rattle.disk_check.specs.Check.{Check, left_of}
use Rattle.disk_check.specs.Table.{own_indexes}
use Rattle.guest_driver.specs.declared.disk.Disk.{Disk}
use Rattle.sheep_node.specs.declared.course.Course.TheVariants.{Checking}
use Rattle.sheep_world.specs.World.{Host}
use Rattle.sheep_world.specs.RunsWithAsks.{Move}
use Rattle.overlap_law.specs.CheckedAhead.{ChecksHaveNoItemsAhead}
use Rattle.overlap_law.specs.Checks.{HasBlock, IsCheckOn, has_come_to}
use Rattle.overlap_law.specs.Headline.{ledger_of}
use Rattle.overlap_law.specs.MomentChanges.{RunsAreInRange}
use Rattle.overlap_law.specs.Past.{MomentWithPast, run_with_past}
use Rattle.overlap_law.specs.ToldReads.{begins_write_at}
use Rattle.overlap_law.specs.WrittenBlocks.{blocks_per_object, items_at}
use Rattle.overlap_law.proofs.AheadInRuns.{checks-in_run}
use Rattle.overlap_law.proofs.CheckReadsItems.{unbegun_none-in_run}
use Rattle.overlap_law.proofs.CheckedCourses.{is_left}
use Rattle.overlap_law.proofs.CheckedInRuns.{begun-in_run}
use Rattle.overlap_law.proofs.CheckedOnTheWay.{HasSound, IsOfOpen, got_so, has_sound}
use Rattle.overlap_law.proofs.CheckedPlaces.{one_object}
use Rattle.overlap_law.proofs.SoundAlike.{any_at}

-- what is listed as left is left
left_among : (indexes : List ℕ) (index : ℕ) → list_any (λ left. left == index) indexes ≡ true → Contains indexes index
left_among indexes index any = Contains-from_any {eq = λ (x y : ℕ). y == x} (λ x y same. sym (eqb-true y x same)) index indexes any

module _ (script : List Statement) (range : RunsAreInRange script) (events : List Move) (moment : MomentWithPast)
    (ran : run_with_past script events ≡ Some moment) (n : ℕ) (host : Host) (at : tree.get moment.world.hosts n ≡ Some host)
    (up : host.is_lost ≡ false) (req index unit place : ℕ) (check : Check) (opened : Disk) (disk : histories.Disk) (item : Item)
    (checked : IsCheckOn (ledger_of moment.past.history) host.node req check opened disk)
    (out : has_come_to index opened.inode check ≡ false) (has : HasBlock disk opened.inode.spec index unit)
    (got : slice_get (items_at disk opened.inode.spec index unit) place ≡ Some item) where
  abbrev block : ℕ
  block = index * blocks_per_object opened.inode.spec + unit

  of : IsOfOpen opened check
  of = (has_sound script range events moment ran n host at up req check opened disk checked).of

  there : tree.get host.node.requests req ≡ Some (record { session = checked.request.session; course = Checking check })
  there = got_so script range events moment ran n host at up req check opened disk checked

  -- a block of which it began a write is of an own object that it has come to
  begun_none : list_any (begins_write_at req check.vid block) moment.past.history ≡ true → ⊥
  begun_none begins = ⊎_elim
      (λ (other : list_any (λ own. own == index) (own_indexes opened.inode) ≡ false).
      let is = (begun-in_run script range events moment ran n host at up).2 req checked.request.session check there opened checked.on.on
      block begins in
      let spec = of.spec in
      let inside : is.unit < blocks_per_object opened.inode.spec
      = subst (λ (s : VdiSpec). is.unit < blocks_per_object s) spec is.inside in
      let placed : block ≡ is.index * blocks_per_object opened.inode.spec + is.unit
      = subst (λ (s : VdiSpec). block ≡ is.index * blocks_per_object s + is.unit) spec is.at in
      let same : index ≡ is.index
      = one_object (blocks_per_object opened.inode.spec) index is.index unit is.unit has.inside inside placed in
      let listed : list_any (λ own. own == index) (own_indexes opened.inode) ≡ true
      = ap (λ (k : ℕ). list_any (λ own. own == k) (own_indexes opened.inode)) same ∙ is.listed in
      cc (listed, other))
      (λ (left : not (is_left index check) ≡ false).
      let among = left_among (left_of check.stage) index (not-false (is_left index check) left) in
      let spec = of.spec in
      let from : index * blocks_per_object check.spec ≤ block
      = subst (λ (s : VdiSpec). index * blocks_per_object s ≤ block) (sym spec) (omega arith) in
      let none = (checks-in_run script range events moment ran).each n host at req checked.request.session check there index block among
      from in
      cc (none, begins))
      (and_cases (list_any (λ own. own == index) (own_indexes opened.inode)) (not (is_left index check)) out)

  pub none_ahead : is_item_of req item ≡ false
  none_ahead = by_value (is_item_of req item) refl
    where
      unbegun : list_any (begins_write_at req opened.inode.vid block) moment.past.history ≡ false
      unbegun = by_begun (list_any (begins_write_at req opened.inode.vid block) moment.past.history) refl
        where
          by_begun : (b : Bool) → list_any (begins_write_at req opened.inode.vid block) moment.past.history ≡ b
              → list_any (begins_write_at req opened.inode.vid block) moment.past.history ≡ false
          by_begun false none = none
          by_begun true begins =
              let vid = of.vid in
              absurd (begun_none
              (subst (λ (v : ℕ). list_any (begins_write_at req v block) moment.past.history ≡ true) (sym vid) begins))

      sound : HasSound script range events moment ran n host at up req check opened disk checked
      sound = has_sound script range events moment ran n host at up req check opened disk checked

      on_disk : has_block ((ledger_of moment.past.history).disks opened.inode.vid) block ≡ true
      on_disk = ap (λ (o : Option histories.Disk). has_block o block) checked.on.known ∙ lt-ltb block disk.blocks has.block

      none : list_any (is_item_of req) (items_at disk opened.inode.spec index unit) ≡ false
      none =
          subst (λ (o : Option histories.Disk). list_any (is_item_of req) (items_in o block) ≡ false) checked.on.known
          (unbegun_none-in_run script range req (inr sound.checks) events moment ran n host at up opened
          (record { request = checked.request; there = checked.on.there; on = checked.on.on; working = of.working }) block unbegun on_disk)

      by_value : (b : Bool) → is_item_of req item ≡ b → is_item_of req item ≡ false
      by_value false apart = apart
      by_value true own =
          let some = any_at (is_item_of req) (items_at disk opened.inode.spec index unit) place item got own in
          absurd (cc (none, some))

pub ahead-in_run : (script : List Statement) → RunsAreInRange script → (events : List Move) (moment : MomentWithPast)
    → run_with_past script events ≡ Some moment → ChecksHaveNoItemsAhead (ledger_of moment.past.history) moment.world.hosts
ahead-in_run script range events moment ran = record {
  each = λ n host at up req index unit place check opened disk item checked out has got.
      none_ahead script range events moment ran n host at up req index unit place check opened disk item checked out has got;
}

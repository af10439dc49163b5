-- Behind each change on the way of an event nothing but its piece is being written in the object that a write is at, if no other request is
-- writing there: the write's own items are of its pieces.
use Rattle.std.proofs.Common.{◌≡◌, ℕ, ◌*◌, ◌+◌, ◌<◌, ◌==◌, Bool, true, false, List, ◌∷◌, length, Contains, Some, slice_get}
use Rattle.std.proofs.Common.{refl, sym, ap, subst, ◌∙◌}
use Rattle.std.specs.FinMap as tree
use Rattle.std.proofs.lemmas.Bool.{both_ways, eq-eqb, eqb-true}
use Rattle.std.proofs.lemmas.List.Elements.{Contains-append_right}
use Rattle.proof_tools.proofs.Lists.{Contains-head}
use Rattle.cluster_script.specs.declared.statement.Statement.{Statement}
use Rattle.disk_history.specs.Ledger.{Item, is_item_of}
use Rattle.disk_history.specs.Ledger as histories
use Rattle.guest_driver.specs.declared.disk.Disk.{Disk}
use Rattle.guest_driver.specs.Driver.{Writes, DriverStage}
use Rattle.guest_driver.specs.Pieces.{Piece}
use Rattle.sheep_node.specs.declared.course.Course.TheVariants.{Driving}
use Rattle.sheep_node.specs.declared.course.Request.{Request}
use Rattle.sheep_node.specs.State.{session_at}
use Rattle.sheep_world.specs.World.{Host}
use Rattle.sheep_world.specs.RunsWithAsks.{Move}
use Rattle.overlap_law.specs.CopiedStrips.{BesidePiecesIsUnwritten, NoneElseWrites}
use Rattle.overlap_law.specs.Headline.{ledger_of}
use Rattle.overlap_law.specs.MomentChanges.{MomentChange, MomentTrail, Then, RunsAreInRange}
use Rattle.overlap_law.specs.Past.{MomentWithPast, run_with_past}
use Rattle.overlap_law.specs.Pieces.{IsInPiece}
use Rattle.overlap_law.specs.SoundUnwritten.{IsBeingWritten}
use Rattle.overlap_law.specs.WrittenBlocks.{blocks_per_object, items_at}
use Rattle.overlap_law.specs.WrittenPieces.{HasBehind, IsItemOfPiece, ItemsAreOfPieces}
use Rattle.overlap_law.proofs.CopiedItems.{pieces_after, same_piece}
use Rattle.overlap_law.proofs.HistoryApart.{none_else}
use Rattle.overlap_law.proofs.ItemsStayOpen.{own_item}
use Rattle.overlap_law.proofs.StandingItems.{stands_among}
use Rattle.overlap_law.proofs.WrittenStays.{written-in_run}

module _ (script : List Statement) (range : RunsAreInRange script) (events : List Move) (start before after : MomentWithPast)
    (run : run_with_past script events ≡ Some start) (trail : MomentTrail script start before)
    (change : MomentChange script start before after) where
  items : ItemsAreOfPieces (ledger_of after.past.history) after.world.hosts
  items = pieces_after script range events start run trail change

  module _ (n : ℕ) (host : Host) (there : tree.get after.world.hosts n ≡ Some host) (up : host.is_lost ≡ false) (req unit : ℕ)
      (request : Request) (opened : Disk) (disk : histories.Disk) (payload : List ℕ) (stage : DriverStage) (piece : Piece)
      (rest : List Piece) (got : tree.get host.node.requests req ≡ Some request)
      (on : (session_at request.session host.node).disk ≡ Some opened)
      (course : request.course ≡ Driving (Writes payload stage piece rest)) (outside : IsInPiece piece unit → ⊥)
      (known : (ledger_of after.past.history).disks opened.inode.vid ≡ Some disk) (inside : unit < blocks_per_object opened.inode.spec)
      (below : piece.index * blocks_per_object opened.inode.spec + unit < disk.blocks)
      (being : IsBeingWritten after.past.attempts (items_at disk opened.inode.spec piece.index unit)) where
    -- an item of its own is in its piece
    own_inside : (place : ℕ) (item : Item) → slice_get (items_at disk opened.inode.spec piece.index unit) place ≡ Some item
        → is_item_of req item ≡ true → IsInPiece piece unit
    own_inside place item at own =
        let behind : HasBehind after.past.attempts opened.inode.vid opened.inode.spec.shift payload stage piece rest
        = (written-in_run script range events start after run (Then trail change)).each n host there up req request opened payload stage
        piece rest got on course in
        let its : IsItemOfPiece opened.inode.spec.shift behind.offset payload piece.index unit item
        = items.each n host there up req piece.index unit place behind.offset request opened disk item payload stage piece rest
        behind.before (record { there = got; on = on; known = known }) course behind.cut inside at own in
        let one : its.one ≡ piece
        = same_piece opened.inode.spec.shift behind.offset (length payload) its.one piece its.among
        (subst (λ (list : List Piece). Contains list piece) (sym behind.cut)
        (Contains-append_right behind.before (piece ∷ rest) piece (Contains-head piece rest))) its.at in
        subst (λ (p : Piece). IsInPiece p unit) one its.inside

    none_beside : ⊥
    none_beside = by_owner (req == being.attempt.req) refl
      where
        by_owner : (b : Bool) → (req == being.attempt.req) ≡ b → ⊥
        by_owner true own =
            let (place, at) = stands_among (items_at disk opened.inode.spec piece.index unit) being.place being.item being.among in
            outside (own_inside place being.item at
            (own_item req being.item (being.of ∙ ap (λ (k : ℕ). Some k) (sym (eqb-true req being.attempt.req own)))))
        by_owner false apart =
            (none_else script range events start run (Then trail change)).each n host there up req unit request opened disk payload stage
            piece rest got on course known inside below being (λ same. both_ways (req == being.attempt.req) apart
            (eq-eqb req being.attempt.req same))

  pub beside_unwritten : BesidePiecesIsUnwritten (ledger_of after.past.history) after.world.hosts after.past.attempts
  beside_unwritten = record {
    each = λ n host there up req unit request opened disk payload stage piece rest got on course outside known inside below being.
        none_beside n host there up req unit request opened disk payload stage piece rest got on course outside known inside below being;
  }

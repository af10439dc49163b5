-- A write that was there keeps what it has behind it over whatever change of a moment, since no attempt begins behind it.
use Rattle.std.proofs.Common.{◌≡◌, inl, inr, ℕ, false, List, ◌∷◌, ◌++◌, length, Contains, Some}
use Rattle.std.proofs.Common.{refl, sym, ap, subst, ◌∙◌}
use Rattle.std.specs.FinMap as tree
use Rattle.object_id.specs.declared.entry.VdiSpec.{VdiSpec}
use Rattle.cluster_script.specs.declared.statement.Statement.{Statement}
use Rattle.guest_driver.specs.declared.disk.Disk.{Disk}
use Rattle.guest_driver.specs.Driver.{Writes, DriverStage, Entering}
use Rattle.guest_driver.specs.Pieces.{Piece, pieces}
use Rattle.sheep_node.specs.declared.course.Course.TheVariants.{Driving}
use Rattle.sheep_node.specs.declared.course.Request.{Request}
use Rattle.sheep_node.specs.SessionQueues.{session_among}
use Rattle.sheep_world.specs.World.{Host}
use Rattle.sheep_world.specs.RunsWithAsks.{Move}
use Rattle.overlap_law.specs.MomentChanges.{MomentChange, MomentTrail, RunsAreInRange}
use Rattle.overlap_law.specs.Past.{MomentWithPast, run_with_past}
use Rattle.overlap_law.specs.WrittenPieces.{IsWrittenAlone, HasBehind}
use Rattle.overlap_law.proofs.NoneBehind.{IsBehind, none_begins}
use Rattle.overlap_law.proofs.NoRecoveredDue.{began-with_past}
use Rattle.overlap_law.proofs.WrittenAlone.{alone_later}

-- ---- whatever the change

module _ (script : List Statement) (range : RunsAreInRange script) (events : List Move) (start before after : MomentWithPast)
    (ran : run_with_past script events ≡ Some start) (trail : MomentTrail script start before)
    (change : MomentChange script start before after)
    (n : ℕ) (host : Host) (at_host : tree.get after.world.hosts n ≡ Some host) (up : host.is_lost ≡ false) (req : ℕ) (request : Request)
    (there : tree.get host.node.requests req ≡ Some request) (opened : Disk)
    (at : (session_among request.session host.node.sessions).disk ≡ Some opened) (payload : List ℕ) (stage : DriverStage) (piece : Piece)
    (rest : List Piece) (course : request.course ≡ Driving (Writes payload stage piece rest)) (old : Disk)
    (vid_so : opened.inode.vid ≡ old.inode.vid) (spec_so : opened.inode.spec ≡ old.inode.spec) where
  abbrev Was : Piece → Type 0
  Was one = IsWrittenAlone before.past.attempts old.inode.vid payload one

  abbrev Is : Piece → Type 0
  Is one = IsWrittenAlone after.past.attempts opened.inode.vid payload one

  cut_then : (offset : ℕ) (front : List Piece) → pieces old.inode.spec.shift offset (length payload) ≡ front ++ piece ∷ rest
      → pieces opened.inode.spec.shift offset (length payload) ≡ front ++ piece ∷ rest
  cut_then offset front cut = ap (λ (s : VdiSpec). pieces s.shift offset (length payload)) spec_so ∙ cut

  -- a piece that was made is so
  stays : (offset : ℕ) (front : List Piece) → pieces opened.inode.spec.shift offset (length payload) ≡ front ++ piece ∷ rest → (one : Piece)
      → IsBehind front stage piece one → Was one → Is one
  stays offset front cut one behind was =
      alone_later script range start before after (began-with_past script events start ran) change opened.inode.vid payload one
      (λ new o object. none_begins script range events start before after ran trail change n host at_host up req request there opened at
      payload
      stage piece rest course offset front cut one behind new o object)
      (subst (λ (v : ℕ). IsWrittenAlone before.past.attempts v payload one) (sym vid_so) was)

  -- with these pieces behind it
  pub has_then : (offset : ℕ) (front : List Piece) → pieces old.inode.spec.shift offset (length payload) ≡ front ++ piece ∷ rest
      → ((one : Piece) → Contains front one → IsWrittenAlone before.past.attempts old.inode.vid payload one)
      → (stage ≡ Entering → IsWrittenAlone before.past.attempts old.inode.vid payload piece)
      → HasBehind after.past.attempts opened.inode.vid opened.inode.spec.shift payload stage piece rest
  has_then offset front cut each entered = record {
    offset = offset;
    before = front;
    cut = cut_then offset front cut;
    each = λ one among. stays offset front (cut_then offset front cut) one (inl among) (each one among);
    entered = λ entering. stays offset front (cut_then offset front cut) piece (inr (entering, refl)) (entered entering);
  }

  pub kept : HasBehind before.past.attempts old.inode.vid old.inode.spec.shift payload stage piece rest
      → HasBehind after.past.attempts opened.inode.vid opened.inode.spec.shift payload stage piece rest
  kept has = has_then has.offset has.before has.cut has.each has.entered

-- Reads may go on in the middle of a step, where what comes of their pieces is to come, and the holes of open disks are, if what blocks may
-- come to be read as may be read of them.
use Rattle.std.proofs.Common.{◌≡◌, ◌≢◌, inl, inr, ℕ, Bool, true, List, length, Option, Some, None, IfSome, refl, sym, ap, subst, ◌∙◌}
use Rattle.std.specs.Prelude.{unwrap_or}
use Rattle.std.specs.Option.{option_and_then}
use Rattle.std.specs.FinMap as tree
use Rattle.proof_tools.proofs.FiniteMaps.{get-insert_same}
use Rattle.object_id.specs.Spec.{IsSpec}
use Rattle.cluster_script.specs.declared.statement.Statement.{Statement}
use Rattle.disk_history.specs.Ledger.{Ledger}
use Rattle.guest_driver.specs.declared.disk.Disk.{Disk}
use Rattle.guest_driver.specs.Pieces.{Piece, pieces}
use Rattle.inode.specs.Layout.{Content}
use Rattle.sheep_node.specs.declared.ask.Ask.{Ask}
use Rattle.sheep_node.specs.declared.input.Input.TheVariants as inputs
use Rattle.sheep_node.specs.declared.session.Session.{Session}
use Rattle.sheep_node.specs.State.{Node, new_session, session_at}
use Rattle.sheep_world.specs.Asking.{ask_of_statement}
use Rattle.sheep_world.specs.Began.{Began}
use Rattle.sheep_world.specs.ClientAsks.{is_read_ask}
use Rattle.sheep_world.specs.NodeCauses.{NodeCause, GuestAsks, RequestComes, ReplyComes, LossIsTold, EntryIsRead, EntryIsPut, RecoveryTicks}
use Rattle.sheep_world.specs.NodeCauses.{WorkIsRetried, ClientAsks, host_with_node, input_of_cause, IsCause}
use Rattle.sheep_world.specs.World.{Host, World}
use Rattle.vdi_directory.specs.declared.effect.Effect.{Effect}
use Rattle.vdi_directory.specs.States.{state_of, is_live_state}
use Rattle.overlap_law.specs.Attempts.{AttemptRecord}
use Rattle.overlap_law.specs.MomentChanges.{MomentTrail, RunsAreInRange}
use Rattle.overlap_law.specs.Past.{MomentWithPast}
use Rattle.overlap_law.specs.StandingReads.{asked_in, IsBroughtBy, ReadsMayGoOnIn, ReadPiecesAreToCome, ReadHolesAreToCome}
use Rattle.overlap_law.specs.StayingBlocks.{BlocksStayWritten, IsHomeToCome}
use Rattle.overlap_law.specs.ToldReads.{MayStayReadAs, PieceIsToCome, PieceMayBeRead}
use Rattle.overlap_law.specs.Words.{Hosts}
use Rattle.overlap_law.proofs.AsksInCauses.{no_request}
use Rattle.overlap_law.proofs.CausedWorks.{HasWellWorks}
use Rattle.overlap_law.proofs.KnownDisks.{IsKnownInode}
use Rattle.overlap_law.proofs.PiecesRead.{piece_read, holes_read}
use Rattle.overlap_law.proofs.WorksInMoments.{well_along}

-- what a cause brings is what the script has asked, or a client's read
brings : (script : List Statement) (world : World) (n : ℕ) (host : Host) (cause : NodeCause) → IsCause script world n host cause
    → (req session : ℕ) (ask : Ask) → input_of_cause cause ≡ inputs.Guest req session ask → IsBroughtBy (asked_in script) req ask
brings script world n host (GuestAsks session begins asks) asked req number ask from =
    let same : begins ≡ req = cc (from) in
    let asked_so : asks ≡ ask = cc (from) in
    inl (ap (asked_in script) (sym same) ∙ ap (option_and_then ask_of_statement) asked.stands ∙ asked.asks
    ∙ ap (λ (a : Ask). Some a) asked_so)
brings script world n host (RequestComes name to request) so req number ask from = absurd (cc (from))
brings script world n host (ReplyComes name to rsp) so req number ask from = absurd (cc (from))
brings script world n host (LossIsTold name packet) so req number ask from = absurd (cc (from))
brings script world n host (EntryIsRead entry) so req number ask from = absurd (cc (from))
brings script world n host (EntryIsPut entry) so req number ask from = absurd (cc (from))
brings script world n host RecoveryTicks so req number ask from = absurd (cc (from))
brings script world n host WorkIsRetried so req number ask from = absurd (cc (from))
brings script world n host (ClientAsks begins what) so req number ask from =
    let same : begins ≡ req = cc (from) in
    let what_so : what ≡ ask = cc (from) in
    inr (
      ap (λ (o : Option Statement). option_and_then ask_of_statement o) (no_request so req same),
      ap is_read_ask (sym what_so)
          ∙ so.reads,
    )

-- the disk that a session of a node has open is sound
open_sound : (node : Node) (well : HasWellWorks node) (session : ℕ) (disk : Disk) → (session_at session node).disk ≡ Some disk
    → IsSpec disk.inode.spec
open_sound node well session disk opened = (by_session (tree.get node.sessions session) refl opened).disk.spec_valid
  where
    by_session : (o : Option Session) → tree.get node.sessions session ≡ o → (unwrap_or o new_session).disk ≡ Some disk
        → IsKnownInode well.known disk.inode
    by_session None none opened = absurd (cc (opened))
    by_session (Some found) there opened =
        subst (λ (o : Option Disk). IfSome o (λ (d : Disk). IsKnownInode well.known d.inode)) opened
        (well.on_known.each_session session found there).disk

module _ (script : List Statement) (range : RunsAreInRange script) (start : MomentWithPast) (began : Began script start.world)
    (ledger : Ledger) (effects : List Effect) (good_id : ℕ → Bool) where
  -- what is to come of a piece of a good disk may be read of it
  piece_may : (hosts : Hosts) (attempts : List AttemptRecord) → BlocksStayWritten ledger effects good_id hosts attempts → (inode : Content)
      (piece : Piece) (bytes : List ℕ) → length bytes ≡ piece.size
      → (good_id inode.vid ≡ true → is_live_state (state_of effects inode.vid) ≡ true
      → (home : ℕ) × IsHomeToCome hosts attempts inode.vid piece.index home × (home ≢ 0)
      × PieceIsToCome ledger effects good_id hosts attempts inode home piece bytes)
      → PieceMayBeRead (MayStayReadAs attempts) ledger effects good_id inode piece bytes
  piece_may hosts attempts written inode piece bytes long comes = record {
    long = long;
    each = λ unit disk inside block.
        let (home, of, some, to_come) = comes block.good block.live in
        (piece_read ledger effects good_id hosts attempts written inode home piece bytes of some to_come).each unit disk inside block;
  }

  pub reads_may_go_on : (before : MomentWithPast) → MomentTrail script start before
      → BlocksStayWritten ledger effects good_id before.world.hosts before.past.attempts
      → ReadHolesAreToCome script start before effects good_id → ReadPiecesAreToCome script start before ledger effects good_id
      → ReadsMayGoOnIn script start before (MayStayReadAs before.past.attempts) ledger effects good_id
  reads_may_go_on before trail written holes come = record {
    each = λ stepping so_far is by leads before_so.
        let at : tree.get before.world.hosts stepping.n ≡ Some (host_with_node stepping.host so_far.node)
        = ap (λ (m : MomentWithPast). tree.get m.world.hosts stepping.n) before_so
        ∙ get-insert_same start.world.hosts stepping.n (host_with_node stepping.host so_far.node) in
        record {
          brought = brings script start.world stepping.n stepping.host stepping.cause is.caused;
          sound = open_sound so_far.node
              (well_along script range start began trail stepping.n (host_with_node stepping.host so_far.node) at);
          begins = λ session req offset size disk there opened runs.
              holes_read ledger effects good_id before.world.hosts before.past.attempts written disk.inode
              (pieces disk.inode.spec.shift offset size)
              (holes.begins stepping so_far is by leads before_so session req offset size disk there opened runs);
          comes = λ session req number work attempt status told bytes piece rest disk ends opened.
              let of_piece = come.each stepping so_far is by leads before_so session req number work attempt status told bytes piece rest
              disk ends opened in (
                piece_may before.world.hosts before.past.attempts written disk.inode piece bytes of_piece.0 of_piece.1,
                holes_read ledger effects good_id before.world.hosts before.past.attempts written disk.inode rest
                    (holes.behind stepping so_far is by leads before_so session req number work attempt status told bytes piece rest disk
                    ends opened),
              );
        };
  }

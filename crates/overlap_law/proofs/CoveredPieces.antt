-- What a queue has of a read or write covers the objects of its pieces, as it begins and as it goes on.
use Rattle.std.proofs.Common.{◌≡◌, arith, ℕ, zero, suc, ◌+◌, ◌-◌, ◌≤◌, ◌<◌, false, List, [], ◌∷◌, ◌++◌, length, map, All, Option, Some}
use Rattle.std.proofs.Common.{None, subst}
use Rattle.std.specs.List.{range_with_len}
use Rattle.std.proofs.lemmas.List.Elements.{All-nil, All-cons, All-tail}
use Rattle.std.proofs.lemmas.Option.{same_Some}
use Rattle.object_id.specs.declared.cause.Cause.{Cause}
use Rattle.inode.specs.Layout.{Content}
use Rattle.peer_proto.specs.declared.guest.DiskAsk.{DiskAsk}
use Rattle.peer_proto.specs.declared.guest.DiskAsk.TheVariants as disk_asks
use Rattle.gateway_queue.specs.declared.queue.Queued.{Queued}
use Rattle.gateway_queue.specs.Queue.{Covers}
use Rattle.guest_driver.specs.declared.disk.Disk.{Disk}
use Rattle.guest_driver.specs.Pieces.{Piece, offset_of, size_of, first_index, last_index, piece_in, pieces}
use Rattle.guest_driver.specs.PieceWorks.{table_with_entry}
use Rattle.guest_driver.specs.OnDisk.{pieces_left}
use Rattle.guest_driver.specs.Refusals.{refusal_on}
use Rattle.guest_driver.specs.Driver as drivers
use Rattle.guest_driver.specs.Driver.{Driver, Reads, Writes, DriverStage, InPlace, Fetching, Creating, Entering, DriverStep, read_on}
use Rattle.guest_driver.specs.Driver.{write_done, begin_unless_refused, begin_driver, driver_on_done}
use Rattle.guest_driver.proofs.NextLemmas.{read-keeps, write-keeps}
use Rattle.sheep_node.specs.Guests.{queued_as}

-- the index of a piece is one of those that the queue has for a request
abbrev pub CoversPiece : Queued → Piece → Type 0
CoversPiece queued piece = Covers queued piece.index

-- ---- the pieces of a request

each_piece : (P : Piece → Type 0) (shift offset size n index : ℕ)
    → ((k : ℕ) → index ≤ k → k < index + n → P (piece_in shift offset size k))
    → All P (map (piece_in shift offset size) (range_with_len index n))
each_piece P shift offset size zero index holds = All-nil P
each_piece P shift offset size (suc n) index holds =
    All-cons P (piece_in shift offset size index) (map (piece_in shift offset size) (range_with_len (index + 1) n))
    (holds index (omega arith) (omega arith))
    (each_piece P shift offset size n (index + 1) (λ k low high. holds k (omega (arith, low)) (omega (arith, high))))

pub all_covered : (shift req : ℕ) (ask : DiskAsk) → All (CoversPiece (queued_as shift req ask)) (pieces shift (offset_of ask) (size_of ask))
unfolding pieces
all_covered shift req ask =
    each_piece (CoversPiece (queued_as shift req ask)) shift (offset_of ask) (size_of ask)
    (last_index shift (offset_of ask) (size_of ask) + 1 - first_index shift (offset_of ask)) (first_index shift (offset_of ask))
    (λ k low high. (low, omega (arith, low, high)))

pub begins_covered : (disk : Disk) (req : ℕ) (ask : DiskAsk)
    → All (CoversPiece (queued_as disk.inode.spec.shift req ask)) (pieces_left (begin_driver disk ask).driver)
unfolding begin_driver
begins_covered disk req ask = by_refusal ask (refusal_on disk false ask)
  where
    by_refusal : (ask : DiskAsk) (refusal : Option Cause)
        → All (CoversPiece (queued_as disk.inode.spec.shift req ask)) (pieces_left (begin_unless_refused disk.inode ask refusal).driver)
    by_refusal ask (Some cause) = All-nil (CoversPiece (queued_as disk.inode.spec.shift req ask))
    by_refusal (disk_asks.Read offset size) None =
        read-keeps (CoversPiece (queued_as disk.inode.spec.shift req (disk_asks.Read offset size))) disk.inode []
        (pieces disk.inode.spec.shift offset size) (all_covered disk.inode.spec.shift req (disk_asks.Read offset size))
    by_refusal (disk_asks.Write offset payload) None =
        write-keeps (CoversPiece (queued_as disk.inode.spec.shift req (disk_asks.Write offset payload))) disk.inode payload
        (pieces disk.inode.spec.shift offset (length payload)) (all_covered disk.inode.spec.shift req (disk_asks.Write offset payload))

done_keeps : (P : Piece → Type 0) (inode : Content) (bytes payload : List ℕ) (piece : Piece) (rest : List Piece) (stage : DriverStage)
    → All P (piece ∷ rest) → All P (pieces_left (write_done inode bytes payload piece rest stage).driver)
done_keeps P inode bytes payload piece rest InPlace all = write-keeps P inode payload rest (All-tail P piece rest all)
done_keeps P inode bytes payload piece rest Fetching all = all
done_keeps P inode bytes payload piece rest Creating all = all
done_keeps P inode bytes payload piece rest Entering all =
    write-keeps P (table_with_entry inode piece) payload rest (All-tail P piece rest all)

pub goes_on_keeps : (P : Piece → Type 0) (inode : Content) (bytes : List ℕ) (driver : Driver) (step : DriverStep)
    → driver_on_done inode bytes driver ≡ Some step → All P (pieces_left driver) → All P (pieces_left step.driver)
unfolding driver_on_done
goes_on_keeps P inode bytes (Reads told piece rest) step next all =
    subst (λ (s : DriverStep). All P (pieces_left s.driver)) (same_Some (read_on inode (told ++ bytes) rest) step next)
    (read-keeps P inode (told ++ bytes) rest (All-tail P piece rest all))
goes_on_keeps P inode bytes (Writes payload stage piece rest) step next all =
    subst (λ (s : DriverStep). All P (pieces_left s.driver)) (same_Some (write_done inode bytes payload piece rest stage) step next)
    (done_keeps P inode bytes payload piece rest stage all)
goes_on_keeps P inode bytes drivers.Answered step next all = absurd (cc (next))

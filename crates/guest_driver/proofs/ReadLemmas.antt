-- How a read goes: its works are its pieces that aren't holes, and the reply is what they gave, with zeros for the holes.
use Rattle.std.proofs.Common.{◌≡◌, ℕ, ◌==◌, not, Bool, true, false, List, [], ◌∷◌, ◌++◌, map, filter, flat_map, Some, cond, ap, sym, ◌∙◌, append_assoc, append-nil}
use Rattle.object_id.specs.Fields.{zeros}
use Rattle.inode.specs.Layout.{Content}
use Rattle.peer_proto.specs.declared.guest.GuestRsp.TheVariants.{Piece as Told}
use Rattle.guest_driver.specs.declared.act.DriverAct.{DriverAct}
use Rattle.guest_driver.specs.declared.act.DriverAct.TheVariants.{Reply}
use Rattle.guest_driver.specs.Pieces.{Piece}
use Rattle.guest_driver.specs.PieceWorks.{entry_of, read_piece}
use Rattle.guest_driver.specs.Driver.{Reads, work_step, read_on, driver_on_done}
use Rattle.guest_driver.specs.Course.{driver_acts_from, has_object, read_act, told_of}

-- a piece, where the pieces behind it are read so: it is a hole, or there is an object behind it
piece_read : (inode : Content) (given : Piece → List ℕ) (piece : Piece) (rest : List Piece) (told : List ℕ) (hole : Bool)
    → ((so_far : List ℕ) → driver_acts_from (Some (read_on inode so_far rest)) (map given (filter (has_object inode) rest))
    ≡ map (read_act inode) (filter (has_object inode) rest) ++ Reply (Told (so_far ++ flat_map (told_of inode given) rest)) ∷ [])
    → driver_acts_from
    (Some (cond hole (read_on inode (told ++ zeros piece.size) rest) (work_step inode (Reads told piece rest) (read_piece inode piece (entry_of inode piece)))))
    (map given (cond (not hole) (piece ∷ filter (has_object inode) rest) (filter (has_object inode) rest)))
    ≡ map (read_act inode) (cond (not hole) (piece ∷ filter (has_object inode) rest) (filter (has_object inode) rest))
    ++ Reply (Told (told ++ (cond hole (zeros piece.size) (given piece) ++ flat_map (told_of inode given) rest))) ∷ []
unfolding driver_acts_from driver_on_done
piece_read inode given piece rest told true behind =
    behind (told ++ zeros piece.size)
    ∙ ap (λ (xs : List ℕ). map (read_act inode) (filter (has_object inode) rest) ++ Reply (Told xs) ∷ [])
    (append_assoc told (zeros piece.size) (flat_map (told_of inode given) rest))
piece_read inode given piece rest told false behind =
    ap (λ (later : List DriverAct). read_act inode piece ∷ later)
    (behind (told ++ given piece)
    ∙ ap (λ (xs : List ℕ). map (read_act inode) (filter (has_object inode) rest) ++ Reply (Told xs) ∷ [])
    (append_assoc told (given piece) (flat_map (told_of inode given) rest)))

read_from : (inode : Content) (given : Piece → List ℕ) (rest : List Piece) (told : List ℕ)
    → driver_acts_from (Some (read_on inode told rest)) (map given (filter (has_object inode) rest))
    ≡ map (read_act inode) (filter (has_object inode) rest) ++ Reply (Told (told ++ flat_map (told_of inode given) rest)) ∷ []
unfolding driver_acts_from read_on
read_from inode given [] told = ap (λ (xs : List ℕ). Reply (Told xs) ∷ []) (sym (append-nil told))
read_from inode given (piece ∷ rest) told =
    piece_read inode given piece rest told (entry_of inode piece == 0) (read_from inode given rest)

pub read_goes_so : (inode : Content) (given : Piece → List ℕ) (rest : List Piece)
    → driver_acts_from (Some (read_on inode [] rest)) (map given (filter (has_object inode) rest))
    ≡ map (read_act inode) (filter (has_object inode) rest) ++ Reply (Told (flat_map (told_of inode given) rest)) ∷ []
read_goes_so inode given rest = read_from inode given rest []

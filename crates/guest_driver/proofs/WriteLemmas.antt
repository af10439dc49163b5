-- How a write goes: piece after piece, each by what stood behind it when the write began.
use Rattle.std.proofs.Common.{◌≡◌, ◌≢◌, ℕ, zero, suc, ◌+◌, ◌-◌, List, [], ◌∷◌, ◌++◌, map, flat_map, All, Some, refl, ap, ap₂, sym, ◌∙◌, arith}
use Rattle.std.specs.List.{range_with_len}
use Rattle.std.proofs.lemmas.List.{get_or-set_other}
use Rattle.std.proofs.lemmas.List.Elements.{All-head, All-tail}
use Rattle.inode.specs.Layout.{Content}
use Rattle.peer_proto.specs.declared.guest.GuestRsp.TheVariants.{Done}
use Rattle.guest_driver.specs.declared.act.DriverAct.{DriverAct}
use Rattle.guest_driver.specs.declared.act.DriverAct.TheVariants.{Work, Reply}
use Rattle.guest_driver.specs.Pieces.{Piece, first_index, last_index, piece_in, pieces}
use Rattle.guest_driver.specs.PieceWorks.{Backing, Hole, Own, Inherited, backing, backing_of, write_piece, create_piece, read_object, create_copy, write_entry, table_with_entry}
use Rattle.guest_driver.specs.Driver.{write_piece_on, write_on, driver_on_done}
use Rattle.guest_driver.specs.Course.{driver_acts_from, write_acts_by, write_acts, answers_by, answers}
use Rattle.guest_driver.proofs.PieceLemmas.{each}

-- no two pieces are in one object
abbrev AreApart : List Piece → Type 0
AreApart [] = Unit {0}
AreApart (piece ∷ rest) = All (λ (other : Piece). other.index ≢ piece.index) rest × AreApart rest

apart_from : (shift offset size n index : ℕ) → AreApart (map (piece_in shift offset size) (range_with_len index n))
apart_from shift offset size zero index = tt
apart_from shift offset size (suc n) index = (
  each (λ (other : Piece). other.index ≢ index) shift offset size n (index + 1)
      (λ k low high. λ (same : k ≡ index). omega (arith, low, same)),
  apart_from shift offset size n (index + 1),
)

-- an entry that is written changes nothing for the other objects
pub backing_stays : (inode : Content) (piece other : Piece) → other.index ≢ piece.index
    → backing_of (table_with_entry inode piece) other ≡ backing_of inode other
backing_stays inode piece other apart =
    ap (backing inode.vid) (get_or-set_other inode.table piece.index other.index inode.vid 0 apart)

writes_stay : (inode : Content) (payload : List ℕ) (given : Piece → List ℕ) (piece : Piece) (rest : List Piece)
    → All (λ (other : Piece). other.index ≢ piece.index) rest
    → flat_map (write_acts (table_with_entry inode piece) payload given) rest ≡ flat_map (write_acts inode payload given) rest
writes_stay inode payload given piece [] apart = refl
writes_stay inode payload given piece (other ∷ rest) apart =
    ap₂ (λ (xs ys : List DriverAct). xs ++ ys)
    (ap (write_acts_by inode payload other (given other))
    (backing_stays inode piece other (All-head (λ (q : Piece). q.index ≢ piece.index) other rest apart)))
    (writes_stay inode payload given piece rest (All-tail (λ (q : Piece). q.index ≢ piece.index) other rest apart))

answers_stay : (inode : Content) (given : Piece → List ℕ) (piece : Piece) (rest : List Piece)
    → All (λ (other : Piece). other.index ≢ piece.index) rest
    → flat_map (answers (table_with_entry inode piece) given) rest ≡ flat_map (answers inode given) rest
answers_stay inode given piece [] apart = refl
answers_stay inode given piece (other ∷ rest) apart =
    ap₂ (λ (xs ys : List (List ℕ)). xs ++ ys)
    (ap (answers_by (given other))
    (backing_stays inode piece other (All-head (λ (q : Piece). q.index ≢ piece.index) other rest apart)))
    (answers_stay inode given piece rest (All-tail (λ (q : Piece). q.index ≢ piece.index) other rest apart))

-- the pieces behind one whose entry was written
behind_entry : (inode : Content) (payload : List ℕ) (given : Piece → List ℕ) (piece : Piece) (rest : List Piece)
    → All (λ (other : Piece). other.index ≢ piece.index) rest
    → driver_acts_from (Some (write_on (table_with_entry inode piece) payload rest)) (flat_map (answers (table_with_entry inode piece) given) rest)
    ≡ flat_map (write_acts (table_with_entry inode piece) payload given) rest ++ Reply Done ∷ []
    → driver_acts_from (Some (write_on (table_with_entry inode piece) payload rest)) (flat_map (answers inode given) rest)
    ≡ flat_map (write_acts inode payload given) rest ++ Reply Done ∷ []
behind_entry inode payload given piece rest apart later =
    ap (λ (heard : List (List ℕ)). driver_acts_from (Some (write_on (table_with_entry inode piece) payload rest)) heard)
    (sym (answers_stay inode given piece rest apart))
    ∙ later
    ∙ ap (λ (ws : List DriverAct). ws ++ Reply Done ∷ []) (writes_stay inode payload given piece rest apart)

-- a piece, where those behind it are written so
piece_written : (inode : Content) (payload : List ℕ) (given : Piece → List ℕ) (piece : Piece) (rest : List Piece) (behind : Backing)
    → driver_acts_from (Some (write_on inode payload rest)) (flat_map (answers inode given) rest) ≡ flat_map (write_acts inode payload given) rest ++ Reply Done ∷ []
    → driver_acts_from (Some (write_on (table_with_entry inode piece) payload rest)) (flat_map (answers inode given) rest) ≡ flat_map (write_acts inode payload given) rest ++ Reply Done ∷ []
    → driver_acts_from (Some (write_piece_on inode payload piece rest behind)) (answers_by (given piece) behind ++ flat_map (answers inode given) rest)
    ≡ write_acts_by inode payload piece (given piece) behind ++ flat_map (write_acts inode payload given) rest ++ Reply Done ∷ []
unfolding driver_acts_from driver_on_done
piece_written inode payload given piece rest Hole own entry =
    ap (λ (later : List DriverAct). Work (create_piece inode payload piece) ∷ Work (write_entry inode piece) ∷ later) entry
piece_written inode payload given piece rest Own own entry =
    ap (λ (later : List DriverAct). Work (write_piece inode payload piece) ∷ later) own
piece_written inode payload given piece rest (Inherited vid) own entry =
    ap
    (λ (later : List DriverAct).
    Work (read_object inode piece vid) ∷ Work (create_copy inode payload piece (given piece)) ∷ Work (write_entry inode piece) ∷ later)
    entry

all_written : (payload : List ℕ) (given : Piece → List ℕ) (rest : List Piece) (inode : Content) → AreApart rest
    → driver_acts_from (Some (write_on inode payload rest)) (flat_map (answers inode given) rest)
    ≡ flat_map (write_acts inode payload given) rest ++ Reply Done ∷ []
unfolding driver_acts_from
all_written payload given [] inode apart = refl
all_written payload given (piece ∷ rest) inode apart =
    piece_written inode payload given piece rest (backing_of inode piece)
    (all_written payload given rest inode apart.1)
    (behind_entry inode payload given piece rest apart.0 (all_written payload given rest (table_with_entry inode piece) apart.1))

pub write_goes_so : (inode : Content) (payload : List ℕ) (given : Piece → List ℕ) (shift offset size : ℕ)
    → driver_acts_from (Some (write_on inode payload (pieces shift offset size))) (flat_map (answers inode given) (pieces shift offset size))
    ≡ flat_map (write_acts inode payload given) (pieces shift offset size) ++ Reply Done ∷ []
unfolding pieces
write_goes_so inode payload given shift offset size =
    all_written payload given
    (map (piece_in shift offset size) (range_with_len (first_index shift offset) (last_index shift offset size + 1 - first_index shift offset)))
    inode
    (apart_from shift offset size (last_index shift offset size + 1 - first_index shift offset) (first_index shift offset))

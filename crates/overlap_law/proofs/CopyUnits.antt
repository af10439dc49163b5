-- The units of a copy are of attempts: of a row that a create makes, or that a write goes over, and of one that a recovery finds.
use Rattle.std.proofs.Common.{◌≡◌, ◌⊎◌, inl, inr, ⊎_elim, arith, ℕ, ◌+◌, ◌-◌, ◌≤◌, nat_le, Bool, true, false, List, [], ◌&&◌, length, take}
use Rattle.std.proofs.Common.{drop, refl, sym, ap, subst, ◌∙◌}
use Rattle.std.proofs.lemmas.Bool.{le-leb}
use Rattle.std.proofs.lemmas.List.{length-replicate}
use Rattle.object_id.specs.declared.oid.Kind.{Kind}
use Rattle.object_id.specs.declared.oid.Kind.TheVariants.{Block, Inode}
use Rattle.object_id.specs.declared.policy.Policy.{Policy}
use Rattle.object_id.specs.declared.policy.Policy.TheVariants.{Copies, Coded}
use Rattle.object_id.specs.Fields.{zeros}
use Rattle.object_id.specs.Oid.{kind_of}
use Rattle.object_id.specs.Piece.{laid_over}
use Rattle.object_store.specs.declared.key.Key.{Key}
use Rattle.object_store.proofs.CallLaws.{length-laid_over}
use Rattle.gf256.specs.Part.{part, part_size, is_in_strips}
use Rattle.peer_proto.specs.declared.ask.PeerAsk.{PeerAsk}
use Rattle.peer_proto.specs.declared.ask.PeerAsk.TheVariants as asks
use Rattle.peer_proto.specs.declared.work.ObjWork.{ObjWork}
use Rattle.peer_proto.specs.declared.work.ObjWork.TheVariants as works
use Rattle.peer_proto.specs.Work.{oid_of, policy_of}
use Rattle.gateway.specs.Work.{ask_for}
use Rattle.overlap_law.specs.Units.{unit_start, unit_size, unit_end, row_bytes_at, covers_by, unit_part_by}
use Rattle.overlap_law.proofs.UnitPieces.{piece-inside, piece-beside, unit-among}

-- ---- copies are whole

pub whole_size : (policy : Policy) (kind : Kind) → is_in_strips policy kind ≡ false → (n : ℕ) → part_size policy kind n ≡ n
whole_size (Copies copies) kind whole n = refl
whole_size (Coded d p) Block whole n = absurd (cc (whole))
whole_size (Coded d p) Inode whole n = refl

pub whole_part : (policy : Policy) (kind : Kind) → is_in_strips policy kind ≡ false → (index : ℕ) (bytes : List ℕ)
    → part policy kind index bytes ≡ bytes
unfolding part
whole_part (Copies copies) kind whole index bytes = refl
whole_part (Coded d p) Block whole index bytes = absurd (cc (whole))
whole_part (Coded d p) Inode whole index bytes = refl

-- ---- which row is made

-- what a create makes, and over what a write goes
abbrev pub made_by : PeerAsk → List ℕ
made_by (asks.Create key size offset bytes) = laid_over (zeros size) offset bytes
made_by (asks.Write key offset bytes) = []
made_by (asks.Read key offset size) = []
made_by asks.List = []
made_by (asks.RecoverRead oid level) = []

abbrev pub written_by : PeerAsk → List ℕ → List ℕ
written_by (asks.Create key size offset bytes) held = held
written_by (asks.Write key offset bytes) held = laid_over held offset bytes
written_by (asks.Read key offset size) held = held
written_by asks.List held = held
written_by (asks.RecoverRead oid level) held = held

abbrev pub key_asked : PeerAsk → Key
key_asked (asks.Create key size offset bytes) = key
key_asked (asks.Write key offset bytes) = key
key_asked (asks.Read key offset size) = key
key_asked asks.List = record { oid = 0; index = 0 }
key_asked (asks.RecoverRead oid level) = record { oid = oid; index = 0 }

-- where a create or write ends, and how long a created row is
abbrev pub end_asked : PeerAsk → ℕ
end_asked (asks.Create key size offset bytes) = offset + length bytes
end_asked (asks.Write key offset bytes) = offset + length bytes
end_asked (asks.Read key offset size) = 0
end_asked asks.List = 0
end_asked (asks.RecoverRead oid level) = 0

abbrev pub size_asked : PeerAsk → ℕ
size_asked (asks.Create key size offset bytes) = size
size_asked (asks.Write key offset bytes) = 0
size_asked (asks.Read key offset size) = 0
size_asked asks.List = 0
size_asked (asks.RecoverRead oid level) = 0

-- a unit of a row has a work's bytes
pub record HasUnitOf (work : ObjWork) (ask : PeerAsk) (bytes : List ℕ) (unit : ℕ) : Type 0 where
  pub covers : covers_by unit work ≡ true
  pub same : row_bytes_at (policy_of work) (kind_of (oid_of work)) unit bytes ≡ unit_part_by (key_asked ask).index unit work

-- each unit inside a copy that is made has the bytes of the create
pub record IsMadeOf (work : ObjWork) (ask : PeerAsk) : Type 0 where
  pub object : oid_of work ≡ (key_asked ask).oid
  pub each : end_asked ask ≤ size_asked ask → (unit : ℕ) → unit_end (kind_of (oid_of work)) unit ≤ length (made_by ask)
      → HasUnitOf work ask (made_by ask) unit

-- copies of the whole are cut where the whole is
made_bytes : (kind : Kind) (policy : Policy) → is_in_strips policy kind ≡ false → (size offset : ℕ) (piece : List ℕ) (index unit : ℕ)
    → row_bytes_at policy kind unit (laid_over (zeros (part_size policy kind size)) (part_size policy kind offset)
    (part policy kind index piece))
    ≡ part policy kind index (take (unit_size kind unit) (drop (unit_start kind unit) (laid_over (zeros size) offset piece)))
unfolding part
made_bytes kind (Copies copies) whole size offset piece index unit = refl
made_bytes Block (Coded d p) whole size offset piece index unit = absurd (cc (whole))
made_bytes Inode (Coded d p) whole size offset piece index unit = refl

pub made-of : (work : ObjWork) (index : ℕ) → is_in_strips (policy_of work) (kind_of (oid_of work)) ≡ false
    → (key : Key) (size offset : ℕ) (bytes : List ℕ)
    → ask_for work index ≡ asks.Create key size offset bytes → IsMadeOf work (asks.Create key size offset bytes)
made-of (works.Create oid policy size offset piece) index whole key s o b asked =
    subst (IsMadeOf (works.Create oid policy size offset piece)) asked (record {
      object = refl;
      each = λ fits unit ends.
          let kind : Kind = kind_of oid in
          let zero_row : List ℕ = zeros (part_size policy kind size) in
          let full : length zero_row ≡ part_size policy kind size = length-replicate (part_size policy kind size) 0 in
          let long : length (laid_over zero_row (part_size policy kind offset) (part policy kind index piece)) ≡ part_size policy kind size
          = length-laid_over zero_row (part_size policy kind offset) (part policy kind index piece) (omega (arith, full, fits)) ∙ full in
          let size_so : part_size policy kind size ≡ size = whole_size policy kind whole size in
          record {
            covers = le-leb (unit_end kind unit) size (omega (arith, ends, long, size_so));
            same = made_bytes kind policy whole size offset piece index unit;
          };
    })
made-of (works.Write oid policy offset piece) index whole key s o b asked = absurd (cc (asked))
made-of (works.Read oid policy offset size) index whole key s o b asked = absurd (cc (asked))
made-of (works.ReadAll oid policy size) index whole key s o b asked = absurd (cc (asked))

-- a write goes over whole units
abbrev pub GoesByUnits : ObjWork → Type 0
GoesByUnits (works.Create oid policy size offset bytes) = Unit {0}
GoesByUnits (works.Write oid policy offset bytes) = (first : ℕ) × (last : ℕ) × (offset ≡ unit_start (kind_of oid) first)
    × (offset + length bytes ≡ unit_start (kind_of oid) last)
GoesByUnits (works.Read oid policy offset size) = Unit {0}
GoesByUnits (works.ReadAll oid policy size) = Unit {0}

-- each unit of a copy that is written over has the bytes of the write, or those that it had
pub record IsWrittenOf (work : ObjWork) (ask : PeerAsk) : Type 0 where
  pub object : oid_of work ≡ (key_asked ask).oid
  pub each : (held : List ℕ) → end_asked ask ≤ length held → (unit : ℕ) → HasUnitOf work ask (written_by ask held) unit
      ⊎ (row_bytes_at (policy_of work) (kind_of (oid_of work)) unit (written_by ask held)
      ≡ row_bytes_at (policy_of work) (kind_of (oid_of work)) unit held)

module _ (oid : ℕ) (policy : Policy) (offset : ℕ) (piece : List ℕ) (index : ℕ) where
  abbrev kind : Kind
  kind = kind_of oid

  abbrev over : List ℕ → List ℕ
  over held = laid_over held (part_size policy kind offset) (part policy kind index piece)

  -- what is there of copies, in places of the whole
  in_whole : (kind : Kind) (policy : Policy) → is_in_strips policy kind ≡ false → (bytes : List ℕ) (unit : ℕ)
      → row_bytes_at policy kind unit bytes ≡ take (unit_size kind unit) (drop (unit_start kind unit) bytes)
  in_whole kind (Copies copies) whole bytes unit = refl
  in_whole Block (Coded d p) whole bytes unit = absurd (cc (whole))
  in_whole Inode (Coded d p) whole bytes unit = refl

  written_unit : is_in_strips policy kind ≡ false → GoesByUnits (works.Write oid policy offset piece) → (held : List ℕ)
      → part_size policy kind offset + length (part policy kind index piece) ≤ length held → (unit : ℕ)
      → HasUnitOf (works.Write oid policy offset piece) (ask_for (works.Write oid policy offset piece) index) (over held) unit
      ⊎ (row_bytes_at policy kind unit (over held) ≡ row_bytes_at policy kind unit held)
  written_unit whole (first, last, from, to) held fits unit =
      let offset_so : part_size policy kind offset ≡ offset = whole_size policy kind whole offset in
      let piece_so : part policy kind index piece ≡ piece = whole_part policy kind whole index piece in
      let long : length (part policy kind index piece) ≡ length piece = ap length piece_so in
      let inside : offset + length piece ≤ length held = omega (arith, fits, offset_so, long) in
      let over_so : over held ≡ laid_over held offset piece
      = ap (λ (n : ℕ). laid_over held n (part policy kind index piece)) offset_so ∙ ap (laid_over held offset) piece_so in
      let now_so : row_bytes_at policy kind unit (over held)
      ≡ take (unit_size kind unit) (drop (unit_start kind unit) (laid_over held offset piece))
      = in_whole kind policy whole (over held) unit
      ∙ ap (λ (bytes : List ℕ). take (unit_size kind unit) (drop (unit_start kind unit) bytes)) over_so in
      ⊎_elim
      (λ (among : (unit_start kind first ≤ unit_start kind unit) × (unit_end kind unit ≤ unit_start kind last)).
      let low = among.0 in
      let high = among.1 in
      let above : offset ≤ unit_start kind unit = omega (arith, low, from) in
      let below : unit_end kind unit ≤ offset + length piece = omega (arith, high, to) in
      inl (record {
        covers = both (nat_le offset (unit_start kind unit)) (nat_le (unit_end kind unit) (offset + length piece))
            (le-leb offset (unit_start kind unit) above) (le-leb (unit_end kind unit) (offset + length piece) below);
        same = now_so ∙ piece-inside held offset piece (unit_start kind unit) (unit_size kind unit) above below inside
            ∙ sym (whole_part policy kind whole index
            (take (unit_size kind unit) (drop (unit_start kind unit - offset) piece)));
      }))
      (λ (apart : (unit_end kind unit ≤ unit_start kind first) ⊎ (unit_start kind last ≤ unit_start kind unit)).
      inr (now_so
      ∙ piece-beside held offset piece (unit_start kind unit) (unit_size kind unit)
      (⊎_elim
      (λ (before : unit_end kind unit ≤ unit_start kind first). inl (omega (arith, before, from)))
      (λ (behind : unit_start kind last ≤ unit_start kind unit). inr (omega (arith, behind, to)))
      apart) inside
      ∙ sym (in_whole kind policy whole held unit)))
      (unit-among kind unit first last)
    where
      both : (a b : Bool) → a ≡ true → b ≡ true → (a && b) ≡ true
      both true b one other = other
      both false b one other = absurd (cc (one))

pub written-of : (work : ObjWork) (index : ℕ) → is_in_strips (policy_of work) (kind_of (oid_of work)) ≡ false → GoesByUnits work
    → (key : Key) (offset : ℕ) (bytes : List ℕ) → ask_for work index ≡ asks.Write key offset bytes
    → IsWrittenOf work (asks.Write key offset bytes)
written-of (works.Create oid policy size offset piece) index whole units key o b asked = absurd (cc (asked))
written-of (works.Write oid policy offset piece) index whole units key o b asked =
    subst (IsWrittenOf (works.Write oid policy offset piece)) asked (record {
      object = refl;
      each = λ held fits unit. written_unit oid policy offset piece index whole units held fits unit;
    })
written-of (works.Read oid policy offset size) index whole units key o b asked = absurd (cc (asked))
written-of (works.ReadAll oid policy size) index whole units key o b asked = absurd (cc (asked))

-- What a node tells of its rows: a list has each object of which it has a row from before the epoch of the list; and where it has no row of
-- a level, it has none that holds it. Both stay so, since later rows begin in that epoch or behind it.
use Rattle.std.proofs.Common.{◌≡◌, arith, ℕ, ◌<◌, ◌≤◌, nat_le, ◌==◌, ◌&&◌, Bool, true, false, not, cond, List, [], ◌∷◌, Contains, Option}
use Rattle.std.proofs.Common.{Some, None, is_some, option_map, unwrap_or, refl, sym, ap, subst, ◌∙◌}
use Rattle.std.specs.List.{AllByRecursion, list_any}
use Rattle.std.specs.FinMap as tree
use Rattle.std.proofs.lemmas.Bool.{eq-eqb, leb-true}
use Rattle.proof_tools.proofs.FiniteMaps.{keys-contain}
use Rattle.proof_tools.proofs.Lists.{list_any-none}
use Rattle.object_id.specs.declared.node.Epoch.{Epoch}
use Rattle.object_store.specs.Rows.{is_open, closed, reaches, holds, row_holding}
use Rattle.object_store.specs.Store.{AllRows, SeenRow, rows_of, copy_of}
use Rattle.object_store.proofs.CopyLaws.{row_at-none}
use Rattle.peer_proto.specs.declared.ask.PeerAsk.{PeerAsk}
use Rattle.peer_proto.specs.declared.ask.PeerAsk.TheVariants as asks
use Rattle.peer_proto.specs.declared.ask.PeerReq.{PeerReq}
use Rattle.peer_proto.specs.declared.say.PeerSay.{PeerSay}
use Rattle.peer_proto.specs.declared.say.PeerSay.TheVariants as says
use Rattle.peer_proto.specs.declared.say.Refusal.{Refusal}
use Rattle.peer_service.specs.State.{Peer}
use Rattle.peer_service.specs.Fence.{epoch_refusal}
use Rattle.peer_service.specs.Serve as serve
use Rattle.peer_service.specs.Serve.{row_or_none, step_behind_fence, peer_step, tells_refusal}
use Rattle.overlap_law.proofs.RowsInTurn.{closed-from}
use Rattle.overlap_law.proofs.StandingAnswers.{IsToldOfRows}

-- ---- what is told of one row

-- if it is from before an epoch, its object is one of these
abbrev pub IsListedBefore : ℕ → List ℕ → ℕ → SeenRow → Type 0
IsListedBefore epoch oids oid row = row.from.0 < epoch → list_any (λ other. other == oid) oids ≡ true

-- if it is of an object, and the level is below an epoch, it doesn't hold the level
abbrev pub LacksLevel : ℕ → ℕ → ℕ → ℕ → SeenRow → Type 0
LacksLevel epoch of level oid row = of ≡ oid → level < epoch → holds level row ≡ false

-- by a reply to a request for a list
abbrev pub ListTells : PeerReq → PeerSay → ℕ → SeenRow → Type 0
ListTells request say oid row =
    (oids : List ℕ) → request.ask ≡ asks.List → say ≡ says.Objects oids → IsListedBefore request.epoch.0 oids oid row

-- and by one to a request for a row
abbrev pub NoRowTells : PeerReq → PeerSay → ℕ → SeenRow → Type 0
NoRowTells request say oid row = (of : ℕ) (level : Epoch) → request.ask ≡ asks.RecoverRead of level → say ≡ says.NoRow
    → LacksLevel request.epoch.0 of level.0 oid row

-- ---- it stays so

pub listed-closed : (epoch : ℕ) (oids : List ℕ) (oid last : ℕ) (row : SeenRow) → IsListedBefore epoch oids oid row
    → IsListedBefore epoch oids oid (closed last row)
listed-closed epoch oids oid last row is below = is (subst (λ (from : Epoch). from.0 < epoch) (closed-from last row) below)

pub listed-begun : (epoch : ℕ) (oids : List ℕ) (oid : ℕ) (row : SeenRow) → epoch ≤ row.from.0 → IsListedBefore epoch oids oid row
listed-begun epoch oids oid row come below = absurd (omega (arith, come, below))

pub lacks-closed : (level last : ℕ) (row : SeenRow) → holds level row ≡ false → holds level (closed last row) ≡ false
lacks-closed level last row lacks = by_open (is_open row) refl
  where
    of_open : (to : Option Epoch) → not (is_some to) ≡ true → reaches level to ≡ true
    of_open None still = refl
    of_open (Some to) still = absurd (cc (still))

    by_from : (b c : Bool) → (b && true) ≡ false → (b && c) ≡ false
    by_from true c none = absurd (cc (none))
    by_from false c none = refl

    by_open : (b : Bool) → is_open row ≡ b → holds level (cond b (record row { to = Some (record { 0 = last }) }) row) ≡ false
    by_open true still =
        by_from (nat_le row.from.0 level) (nat_le level last)
        (ap (λ (b : Bool). nat_le row.from.0 level && b) (sym (of_open row.to still)) ∙ lacks)
    by_open false shut = lacks

pub lacks-begun : (epoch level : ℕ) (row : SeenRow) → level < epoch → epoch ≤ row.from.0 → holds level row ≡ false
lacks-begun epoch level row below come = by_from (nat_le row.from.0 level) refl
  where
    by_from : (b : Bool) → nat_le row.from.0 level ≡ b → (b && reaches level row.to) ≡ false
    by_from true from = let most = leb-true row.from.0 level from in absurd (omega (arith, most, come, below))
    by_from false from = refl

-- ---- it holds as it is told

-- of the objects that a node has rows of
all_of : (P : SeenRow → Type 0) → ((row : SeenRow) → P row) → (rows : List SeenRow) → AllByRecursion P rows
all_of P so [] = tt
all_of P so (row ∷ rows) = (so row, all_of P so rows)

pub found_among : (oids : List ℕ) (oid : ℕ) → Contains oids oid → list_any (λ other. other == oid) oids ≡ true
found_among oids oid among = by_test (list_any (λ other. other == oid) oids) refl
  where
    by_test : (b : Bool) → list_any (λ other. other == oid) oids ≡ b → b ≡ true
    by_test true is = refl
    by_test false is =
        let other : (oid == oid) ≡ false = list_any-none (λ other. other == oid) oids oid is among in
        let same : (oid == oid) ≡ true = eq-eqb oid oid refl in
        absurd (cc (other, same))

-- the rows of an object that isn't named are none
pub named-all : (rows : AllRows) (oid : ℕ) (P : SeenRow → Type 0)
    → ((row : SeenRow) → list_any (λ other. other == oid) (tree.keys rows) ≡ true → P row) → AllByRecursion P (rows_of rows oid)
named-all rows oid P so = by_rows (tree.get rows oid) refl
  where
    by_rows : (o : Option (List SeenRow)) → tree.get rows oid ≡ o → AllByRecursion P (unwrap_or o [])
    by_rows None none = tt
    by_rows (Some own) there =
        let named : list_any (λ other. other == oid) (tree.keys rows) ≡ true
        = found_among (tree.keys rows) oid (keys-contain tree.nat_cmp-IsAntisymmetric rows oid own there) in
        all_of P (λ row. so row named) own

abbrev objects_or : List ℕ → PeerSay → List ℕ
objects_or none says.Success = none
objects_or none (says.Piece bytes) = none
objects_or none (says.Objects oids) = oids
objects_or none (says.Row row) = none
objects_or none says.NoRow = none
objects_or none (says.Refused refusal) = none

list_told : (peer : Peer) (request : PeerReq) (oids : List ℕ) → request.ask ≡ asks.List → (peer_step peer request).say ≡ says.Objects oids
    → tree.keys peer.rows ≡ oids
unfolding peer_step serve.own_epoch_step
list_told peer request oids asked told =
    by_fence (epoch_refusal peer.epoch request.epoch.0)
    (ap (λ (ask : PeerAsk). (step_behind_fence (epoch_refusal peer.epoch request.epoch.0) ask peer).say) (sym asked) ∙ told)
  where
    by_fence : (refusal : Option Refusal) → (step_behind_fence refusal asks.List peer).say ≡ says.Objects oids → tree.keys peer.rows ≡ oids
    by_fence None told = ap (objects_or oids) told
    by_fence (Some refusal) told = absurd (cc (told))

no_row_told : (peer : Peer) (request : PeerReq) (of : ℕ) (level : Epoch) → request.ask ≡ asks.RecoverRead of level
    → (peer_step peer request).say ≡ says.NoRow → row_holding level.0 (rows_of peer.rows of) ≡ None
unfolding peer_step serve.own_epoch_step
no_row_told peer request of level asked told =
    by_fence (epoch_refusal peer.epoch request.epoch.0)
    (ap (λ (ask : PeerAsk). (step_behind_fence (epoch_refusal peer.epoch request.epoch.0) ask peer).say) (sym asked) ∙ told)
  where
    by_row : (o : Option SeenRow) → row_or_none (option_map copy_of o) ≡ says.NoRow → o ≡ None
    by_row None told = refl
    by_row (Some row) told = absurd (cc (told))

    by_fence : (refusal : Option Refusal) → (step_behind_fence refusal (asks.RecoverRead of level) peer).say ≡ says.NoRow
        → row_holding level.0 (rows_of peer.rows of) ≡ None
    by_fence None told = by_row (row_holding level.0 (rows_of peer.rows of)) told
    by_fence (Some refusal) told = absurd (cc (told))

-- ---- both

pub lists_told : IsToldOfRows ListTells
lists_told = record {
  stands = λ request say no. record {
    ends = λ oid last row is oids asked told. listed-closed request.epoch.0 oids oid last row (is oids asked told);
    changes = λ oid row bytes is. is;
    begins = λ oid row come oids asked told. listed-begun request.epoch.0 oids oid row come;
  };
  says = λ peer request no oid.
      named-all peer.rows oid (ListTells request (peer_step peer request).say oid)
      (λ row named oids asked told below.
      ap (list_any (λ other. other == oid)) (sym (list_told peer request oids asked told)) ∙ named);
}

pub no_rows_told : IsToldOfRows NoRowTells
no_rows_told = record {
  stands = λ request say no. record {
    ends = λ oid last row is of level asked told same below. lacks-closed level.0 last row (is of level asked told same below);
    changes = λ oid row bytes is. is;
    begins = λ oid row come of level asked told same below. lacks-begun request.epoch.0 level.0 row below come;
  };
  says = λ peer request no oid. none_hold peer request oid;
}
  where
    none_hold : (peer : Peer) (request : PeerReq) (oid : ℕ)
        → AllByRecursion (NoRowTells request (peer_step peer request).say oid) (rows_of peer.rows oid)
    none_hold peer request oid = each (rows_of peer.rows oid) (λ of level asked told same.
        row_at-none level.0 (rows_of peer.rows oid)
        (ap (λ (k : ℕ). row_holding level.0 (rows_of peer.rows k)) (sym same) ∙ no_row_told peer request of level asked told))
      where
        each : (rows : List SeenRow) → ((of : ℕ) (level : Epoch) → request.ask ≡ asks.RecoverRead of level
            → (peer_step peer request).say ≡ says.NoRow → of ≡ oid → AllByRecursion (λ row. holds level.0 row ≡ false) rows)
            → AllByRecursion (NoRowTells request (peer_step peer request).say oid) rows
        each [] lack = tt
        each (row ∷ rows) lack = (
          λ of level asked told same below. (lack of level asked told same).0,
          each rows (λ of level asked told same. (lack of level asked told same).1),
        )

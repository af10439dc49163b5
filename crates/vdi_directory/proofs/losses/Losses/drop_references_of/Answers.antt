use Rattle.std.proofs.Common.{◌≡◌, ℕ, ◌+◌, drop, Option, arith}
use Rattle.object_id.specs.declared.oid.Vid.{Vid}
use Rattle.vdi_directory.specs.References.{child_references, AreReferenceCounts, parent_in, left_in, reserved_by}
use Rattle.vdi_directory.proofs.ReferenceLemmas.{reserved-first, reserved-all}
use Rattle.vdi_directory.proofs.losses.Losses.drop_references_of.Goals as goal

pub drop_reserved-requires-clause-can : goal.drop_reserved-requires-clause-can
drop_reserved-requires-clause-can c =
    let left : ℕ → ℕ = reserved_by c.args.node (drop (c.loop-reservation.reservation-index + 1) c.args.reservations.now) in (
      λ vid. (c.loop-reservation.invariant.can).0 vid + left vid,
      reserved-first (parent_in c.args.headers.now) ((c.loop-reservation.invariant.can).0) (left_in c.args.references.now c.loop-reservation.self.left)
          c.args.node c.args.reservations.now c.loop-reservation.reservation-index c.reservation-item.result c.loop-reservation-test.true c.reservation-item.is ((c.loop-reservation.invariant.can).1),
    )

pub loop-reservation-preserved : goal.loop-reservation-preserved
loop-reservation-preserved c =
    let parent : ℕ → Option Vid = parent_in c.args.headers.now in
    let old : ℕ → ℕ = left_in c.args.references.now c.loop-reservation.self.left in
    let new : ℕ → ℕ = left_in c.args.references.now c.drop_reserved.new.self.left in
    let left : ℕ → ℕ = reserved_by c.args.node (drop (c.loop-reservation.reservation-index + 1) c.args.reservations.now) in
    let goes : (own : ℕ → ℕ) → AreReferenceCounts parent (λ vid. own vid + reserved_by c.args.node (drop c.loop-reservation.reservation-index c.args.reservations.now) vid) old
    → AreReferenceCounts parent (λ vid. own vid + left vid) new
    = λ own are. c.in_ok-drop_reserved.ensures.loses (λ vid. own vid + left vid)
    (reserved-first parent own old c.args.node c.args.reservations.now c.loop-reservation.reservation-index c.reservation-item.result c.loop-reservation-test.true c.reservation-item.is are) in
    record {
      loses = λ own are. goes own (c.loop-reservation.invariant.loses own are);
      can = ((c.loop-reservation.invariant.can).0, goes ((c.loop-reservation.invariant.can).0) ((c.loop-reservation.invariant.can).1));
      are = c.in_ok-drop_reserved.ensures.are;
    }

pub returns-clause-loses : goal.returns-clause-loses
returns-clause-loses c =
    λ own are vid. (let none : reserved_by c.args.node (drop c.loop-reservation.reservation-index c.args.reservations.now) vid ≡ 0
    = reserved-all c.args.node c.args.reservations.now c.loop-reservation.reservation-index c.loop-reservation-test.false vid in
    let is : left_in c.args.references.now c.loop-reservation.self.left vid ≡ own vid + reserved_by c.args.node (drop c.loop-reservation.reservation-index c.args.reservations.now) vid
    + child_references (parent_in c.args.headers.now) (left_in c.args.references.now c.loop-reservation.self.left) vid
    = c.loop-reservation.invariant.loses own are vid in omega (arith, none, is))

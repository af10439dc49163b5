use Rattle.std.proofs.Common.{◌≡◌, ℕ, ◌+◌, Option, sym, subst, arith}
use Rattle.object_id.specs.declared.oid.Vid.{Vid}
use Rattle.vdi_directory.specs.References.{one, one_parent_reference, child_references, AreReferenceCounts, parent_in, count_in, left_in}
use Rattle.vdi_directory.proofs.ReferenceLemmas.{key-below, fewer, fewer-total, referenced-some}
use Rattle.vdi_directory.proofs.LossLemmas.{losses-more, losses-kept}
use Rattle.vdi_directory.proofs.losses.Losses.drop_reference.Goals as goal

pub loop-next-smaller : goal.loop-next-smaller
loop-next-smaller c =
    fewer-total (parent_in c.args.headers.now) ((c.loop-next.invariant.can).0) (left_in c.args.references.now c.loop-next.self.left)
    (left_in c.args.references.now c.take_reference.new.self.left)
    c.in-Some.vid.0 (key-below c.in-Some.vid.0 c.in_ok-next.ensures.key) c.in_ok-next.ensures.counts

pub loop-next-preserved : goal.loop-next-preserved
loop-next-preserved c =
    let parent : ℕ → Option Vid = parent_in c.args.headers.now in
    let old : ℕ → ℕ = left_in c.args.references.now c.loop-next.self.left in
    let new : ℕ → ℕ = left_in c.args.references.now c.take_reference.new.self.left in
    let has : (own : ℕ → ℕ) → AreReferenceCounts parent (λ vid. own vid + one_parent_reference c.loop-next.next vid) old
    → AreReferenceCounts parent (λ vid. own vid + one c.in-Some.vid.0 vid) old
    = λ own are. subst (λ (next : Option Vid). AreReferenceCounts parent (λ vid. own vid + one_parent_reference next vid) old) c.in-Some.is are in
    let goes : (own : ℕ → ℕ) → AreReferenceCounts parent (λ vid. own vid + one_parent_reference c.loop-next.next vid) old
    → AreReferenceCounts parent (λ vid. own vid + one_parent_reference c.in_ok-next.next vid) new
    = λ own are. subst (λ (next : Option Vid). AreReferenceCounts parent (λ vid. own vid + one_parent_reference next vid) new) (sym c.in_ok-next.ensures.next)
    (fewer parent own old new c.in-Some.vid.0 (key-below c.in-Some.vid.0 c.in_ok-next.ensures.key) c.in_ok-next.ensures.counts (has own are)) in
    record {
      loses = λ own are. goes own (c.loop-next.invariant.loses own are);
      can = ((c.loop-next.invariant.can).0, goes ((c.loop-next.invariant.can).0) ((c.loop-next.invariant.can).1));
      are = losses-more (count_in c.args.references.now) old new c.loop-next.self.dead.items c.take_reference.new.self.dead.items c.in-Some.vid c.loop-next.invariant.are
          (referenced-some parent ((c.loop-next.invariant.can).0) old c.in-Some.vid.0 (has ((c.loop-next.invariant.can).0) ((c.loop-next.invariant.can).1)))
          c.in_ok-next.ensures.counts c.in_ok-next.ensures.dead;
    }

pub returns-clause-loses : goal.returns-clause-loses
returns-clause-loses c =
    λ own are vid. (let is : left_in c.args.references.now c.loop-next.self.left vid ≡ own vid + 0 + child_references (parent_in c.args.headers.now) (left_in c.args.references.now c.loop-next.self.left) vid
    = subst (λ (next : Option Vid). AreReferenceCounts (parent_in c.args.headers.now) (λ vid. own vid + one_parent_reference next vid) (left_in c.args.references.now c.loop-next.self.left)) c.in_default.is
    (c.loop-next.invariant.loses own are) vid in omega (arith, is))

pub returns-in_err-next-clause-are : goal.returns-in_err-next-clause-are
returns-in_err-next-clause-are c =
    losses-kept c.args.references.now c.loop-next.self.left c.take_reference.new.self.left c.loop-next.self.dead.items c.take_reference.new.self.dead.items
    c.loop-next.invariant.are c.in_err-next.ensures.err c.in_err-next.ensures.err_dead

use Rattle.std.proofs.Common.{◌≡◌, ℕ, ◌+◌, Option, sym, subst, arith}
use Rattle.object_id.specs.declared.oid.Vid.{Vid}
use Rattle.vdi_directory.specs.References.{one_parent_reference, child_references, AreReferenceCounts, parent_in, count_in}
use Rattle.vdi_directory.proofs.ReferenceLemmas.{key-below, fewer, fewer-total}
use Rattle.vdi_directory.proofs.references.drop_reference.Goals as goal

pub loop-next-smaller : goal.loop-next-smaller
loop-next-smaller c =
    fewer-total (parent_in c.args.headers.now) ((c.loop-next.invariant.can).0) (count_in c.loop-next.references) (count_in c.take_reference-next.new.references)
    c.in-Some.vid.0 (key-below c.in-Some.vid.0 c.take_reference-next.ensures.key) c.take_reference-next.ensures.counts

pub loop-next-preserved : goal.loop-next-preserved
loop-next-preserved c =
    let parent : ℕ → Option Vid = parent_in c.args.headers.now in
    let old : ℕ → ℕ = count_in c.loop-next.references in
    let new : ℕ → ℕ = count_in c.take_reference-next.new.references in
    let goes : (own : ℕ → ℕ) → AreReferenceCounts parent (λ vid. own vid + one_parent_reference c.loop-next.next vid) old
    → AreReferenceCounts parent (λ vid. own vid + one_parent_reference c.take_reference-next.result vid) new
    = λ own are. subst (λ (next : Option Vid). AreReferenceCounts parent (λ vid. own vid + one_parent_reference next vid) new) (sym c.take_reference-next.ensures.next)
    (fewer parent own old new c.in-Some.vid.0 (key-below c.in-Some.vid.0 c.take_reference-next.ensures.key) c.take_reference-next.ensures.counts
    (subst (λ (next : Option Vid). AreReferenceCounts parent (λ vid. own vid + one_parent_reference next vid) old) c.in-Some.is are)) in
    record {
      loses = λ own are. goes own (c.loop-next.invariant.loses own are);
      can = ((c.loop-next.invariant.can).0, goes ((c.loop-next.invariant.can).0) ((c.loop-next.invariant.can).1));
    }

pub returns : goal.returns
returns c =
    λ own are vid. (let is : count_in c.loop-next.references vid ≡ own vid + 0 + child_references (parent_in c.args.headers.now) (count_in c.loop-next.references) vid
    = subst (λ (next : Option Vid). AreReferenceCounts (parent_in c.args.headers.now) (λ vid. own vid + one_parent_reference next vid) (count_in c.loop-next.references)) c.in_default.is
    (c.loop-next.invariant.loses own are) vid in omega arith)

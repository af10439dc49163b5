use Rattle.std.proofs.Common.{◌≡◌, ◌≢◌, ◌∙◌, ℕ, ap, sym, subst, Bool, true, false, Option, None, cond}
use Rattle.std.specs.Map.{lookup}
use Rattle.std.specs.BTreeMap.{is_at}
use Rattle.std.specs.Ordering.{nat_cmp}
use Rattle.object_store.specs.Objects.{is_block_of}
use Rattle.object_store.proofs.DiskLemmas.{ids_after, only_named_go, others_stay}
use Rattle.object_store.proofs.row_store.RowStore.drop_blocks.Goals as goal

pub invariant_of-self : goal.invariant_of-self
invariant_of-self g c = ids_after c.in-Some.oid None c.self.inside.objects.entries c.remove.new.self.entries (λ some. absurd (cc (some))) c.remove.ensures.updates.0 c.self.invariant

pub loop-oid-preserved-in-Some : goal.loop-oid-preserved-in-Some
loop-oid-preserved-in-Some g c =
    λ q other. others_stay (is_block_of c.args.vid.0) c.in-Some.oid c.self.inside.objects.entries c.remove.new.self.entries c.remove.ensures.updates.0 c.in-Some.ensures.some.0 q other
    ∙ ap (lookup (is_at (nat_cmp q))) c.self.view_is ∙ c.loop-oid.invariant q other

pub returns : goal.returns
returns g c =
    λ q. only_named_go (is_block_of c.args.vid.0) c.loop-oid.self c.args.self.now
    (c.block_of.ensures.none c.in_default.is) c.loop-oid.invariant q

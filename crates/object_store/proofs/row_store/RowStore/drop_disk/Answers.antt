use Rattle.std.proofs.Common.{◌≡◌, ◌∙◌, ap, sym, true, false, None, cond, nat_eq}
use Rattle.object_id.specs.Oid.{vid_of}
use Rattle.std.specs.Map.{lookup}
use Rattle.std.specs.BTreeMap.{is_at}
use Rattle.std.specs.Ordering.{nat_cmp}
use Rattle.object_store.specs.Objects.{is_block_of}
use Rattle.object_store.proofs.DiskLemmas.{ids_after, disk_gone, none_gone}
use Rattle.object_store.proofs.row_store.RowStore.drop_disk.Goals as goal

pub returns-then-not-is_valid : goal.returns-then-not-is_valid
returns-then-not-is_valid g c =
    λ q. none_gone c.args.vid.0 c.self.inside.objects.entries q (λ valid. absurd (cc (sym (c.is_valid.ensures.1 valid) ∙ c.if-not-is_valid.true))) c.self.invariant
    ∙ ap (λ os. cond (nat_eq (vid_of q) c.args.vid.0) None (lookup (is_at (nat_cmp q)) os)) c.self.view_is

pub invariant_of-self-2 : goal.invariant_of-self-2
invariant_of-self-2 g c = ids_after c.inode.result None c.self.inside.objects.entries c.remove.new.self.entries (λ some. absurd (cc (some))) c.remove.ensures.updates.0 c.self.invariant

pub returns : goal.returns
returns g c =
    let es = c.self.inside.objects.entries in
    λ q. c.drop_blocks.ensures q
    ∙ ap (λ o. cond (is_block_of c.args.vid.0 q) None o)
    (c.remove.ensures.updates.0 q ∙ ap (λ k. cond (is_at (nat_cmp k) q) None (lookup (is_at (nat_cmp q)) es)) c.inode.ensures)
    ∙ disk_gone c.args.vid.0 es q (c.is_valid.ensures.0 c.if-not-is_valid.false) c.self.invariant
    ∙ ap (λ os. cond (nat_eq (vid_of q) c.args.vid.0) None (lookup (is_at (nat_cmp q)) os)) c.self.view_is

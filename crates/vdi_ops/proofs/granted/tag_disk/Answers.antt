use Rattle.std.proofs.Common.{◌≡◌, All, length, ◌∙◌, sym, ap, subst}
use Rattle.object_id.specs.Spec.{IsSpec, objects_of}
use Rattle.inode.specs.Layout.{Content, IsEntry, HasIds}
use Rattle.peer_proto.specs.Work.{IsWork}
use Rattle.vdi_ops.specs.Kept.{IsWholeInode}
use Rattle.vdi_ops.proofs.WorkLemmas.{inode_by-whole, write_tag-work}
use Rattle.vdi_ops.proofs.granted.tag_disk.Goals as goal

pub returns-clause-sound : goal.returns-clause-sound
returns-clause-sound c =
    let count : length c.entries.result.now ≡ objects_of c.args.header.now.spec =
    c.entries.ensures.count ∙ ap objects_of (sym c.requires.disk.1) in
    let entries : All IsEntry c.entries.result.now = subst (All IsEntry) (sym c.entries.ensures.value) c.requires.disk.0.entries in
    subst (λ (inode : Content). IsWholeInode inode × HasIds inode) (sym c.in_ok-inode.ensures) (
      inode_by-whole c.args.header.now c.args.vid.0 c.entries.result.now c.requires.vid c.requires.header count,
      record { vid = c.requires.vid; entries = entries },
    )

pub returns-clause-work : goal.returns-clause-work
returns-clause-work c =
    subst IsWork (sym c.in_ok-work.ensures)
    (write_tag-work c.args.disk.now c.args.tag.now c.requires.disk.0.vid (subst IsSpec c.requires.disk.1 c.requires.header.spec) c.requires.tag)

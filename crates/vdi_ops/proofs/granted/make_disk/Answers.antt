use Rattle.std.proofs.Common.{◌∙◌, sym, ap, subst}
use Rattle.peer_proto.specs.Work.{IsWork}
use Rattle.vdi_ops.specs.InodeWorks.{create_inode}
use Rattle.vdi_ops.proofs.WorkLemmas.{by_holes}
use Rattle.vdi_ops.proofs.granted.make_disk.Goals as goal

pub returns-clause-work : goal.returns-clause-work
returns-clause-work c =
    subst IsWork (sym (c.in_ok-work.ensures ∙ ap create_inode c.in_ok-inode.ensures))
    (by_holes c.args.header.now c.args.vid.0 c.requires.vid c.requires.header)

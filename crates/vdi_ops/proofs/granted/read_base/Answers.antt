use Rattle.std.proofs.Common.{◌∙◌, sym, ap, subst}
use Rattle.peer_proto.specs.Work.{IsWork}
use Rattle.vdi_directory.specs.declared.header.Header.{Header}
use Rattle.vdi_ops.specs.InodeWorks.{read_inode}
use Rattle.vdi_ops.proofs.WorkLemmas.{read_inode-work}
use Rattle.vdi_ops.proofs.granted.read_base.Goals as goal

pub returns-clause-work : goal.returns-clause-work
returns-clause-work c =
    subst IsWork
    (sym (c.read_inode-work.ensures ∙ ap (λ (header : Header). read_inode c.args.parent.0 header.spec) c.in_ok-header.ensures))
    (read_inode-work c.args.parent.0 c.args.header.now.spec c.requires.parent c.requires.header.spec)

use Rattle.vdi_ops.proofs.CourseLemmas.{create_goes, attach_goes, attach_snapshot_goes, close_goes, snapshot_goes, clone_goes, delete_goes, refused_goes}
use Rattle.vdi_ops.proofs.laws.commands_go_so.Goals as goal

pub returns-clause-create : goal.returns-clause-create
returns-clause-create c = create_goes

pub returns-clause-attach : goal.returns-clause-attach
returns-clause-attach c = attach_goes

pub returns-clause-attach_snapshot : goal.returns-clause-attach_snapshot
returns-clause-attach_snapshot c = attach_snapshot_goes

pub returns-clause-close : goal.returns-clause-close
returns-clause-close c = close_goes

pub returns-clause-snapshot : goal.returns-clause-snapshot
returns-clause-snapshot c = snapshot_goes

pub returns-clause-clone : goal.returns-clause-clone
returns-clause-clone c = clone_goes

pub returns-clause-delete : goal.returns-clause-delete
returns-clause-delete c = delete_goes

pub returns-clause-refused : goal.returns-clause-refused
returns-clause-refused c = refused_goes

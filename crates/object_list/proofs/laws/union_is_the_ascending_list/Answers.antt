use Rattle.object_list.proofs.UnionLemmas.{union-ascending, union-has, union-only, union-same}
use Rattle.object_list.proofs.laws.union_is_the_ascending_list.Goals as goal

pub returns-clause-ascending : goal.returns-clause-ascending
returns-clause-ascending c = union-ascending

pub returns-clause-has : goal.returns-clause-has
returns-clause-has c oids others oid = (union-only oids others oid, union-has oids others oid)

pub returns-clause-only : goal.returns-clause-only
returns-clause-only c = union-same

use Rattle.std.proofs.Common.{◌≡◌, ℕ, List, [], ◌∷◌, ◌++◌, All, ◌∙◌, sym, ap, subst}
use Rattle.std.proofs.lemmas.List.Elements.{All-head, All-tail, All-push}
use Rattle.std.proofs.lemmas.Result.{IfOk-weaker}
use Rattle.object_id.specs.Oid.{IsVid}
use Rattle.inode.specs.Layout.{Content, HasIds}
use Rattle.vdi_ops.specs.Tables.{table_in, inode_by}
use Rattle.vdi_ops.specs.Stage.{id_numbers}
use Rattle.vdi_ops.proofs.WorkLemmas.{opened_by_table}
use Rattle.vdi_ops.proofs.works_done.inode_opened.Goals as goal

pub returns-clause-ids : goal.returns-clause-ids
returns-clause-ids c =
    let vid : ℕ = c.args.vid.0 in
    let chain : List ℕ = id_numbers c.args.chain.now in
    let ids : List ℕ = c.push.new.self.items in
    let id : IsVid vid = All-head IsVid vid chain c.requires.ids in
    let all : All IsVid ids = subst (All IsVid) (sym (c.in_ok-push.ensures.items ∙ ap (λ (before : List ℕ). before ++ vid ∷ []) c.in_ok-ids.ensures))
    (All-push IsVid chain vid (All-tail IsVid vid chain c.requires.ids) id) in
    IfOk-weaker c.inode_read.result
    (λ (inode : Content). inode ≡ inode_by c.args.header.now vid (table_in ids c.args.header.now.spec c.args.bytes.now)) HasIds
    (λ inode is. subst HasIds (sym is) (opened_by_table c.args.header.now vid ids c.args.bytes.now id all))
    c.inode_read.ensures

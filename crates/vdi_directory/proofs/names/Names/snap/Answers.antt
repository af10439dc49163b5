use Rattle.std.proofs.Common.{◌≡◌, Option, Some, cond, ap, sym, ◌∙◌}
use Rattle.std.specs.Option.{option_copied_mut}
use Rattle.std.specs.Map.{lookup}
use Rattle.std.proofs.lemmas.Result.{on_ok_weaker, on_err_weaker}
use Rattle.proof_tools.proofs.Booleans.{cond_same}
use Rattle.vdi_directory.specs.declared.named.Named.{Named}
use Rattle.vdi_directory.specs.Names.{is_same_bytes}
use Rattle.vdi_directory.specs.NameRows.{Standing, standing_or_none, standing_with_snapshot, name_in}
use Rattle.vdi_directory.proofs.NameLemmas.{is_key, change-row}
use Rattle.vdi_directory.proofs.names.Names.snap.Goals as goal

pub snap-requires : goal.snap-requires
snap-requires c =
    let es = c.args.self.now.rows.entries in
    let found : lookup (is_key c.as_slice.result.now) es ≡ Some c.in-Some.named.now = sym c.get_mut.ensures.value ∙ ap option_copied_mut c.in-Some.is in
    sym (ap (λ (row : Option Named). (standing_or_none row).tagged c.args.snap.now.tag)
    (ap (λ name. lookup (is_key name) es) (sym c.as_slice.ensures) ∙ found)) ∙ c.requires.free

pub returns-in-Some-clause-ok : goal.returns-in-Some-clause-ok
returns-in-Some-clause-ok c =
    let snap = c.args.snap.now in
    let es = c.args.self.now.rows.entries in
    let name = c.as_slice.result.now in
    let found : lookup (is_key name) es ≡ Some c.in-Some.named.now = sym c.get_mut.ensures.value ∙ ap option_copied_mut c.in-Some.is in
    on_ok_weaker c.snap.result (λ made. λ other.
    change-row es (c.get_mut.follows.lender c.snap.new.self).entries name other c.in-Some.named.now c.snap.new.self
    (standing_with_snapshot snap.old snap.vid snap.tag) found made ((c.get_mut.follows.holds c.snap.new.self).0)
    ∙ ap (λ bytes. cond (is_same_bytes bytes other) (standing_with_snapshot snap.old snap.vid snap.tag (name_in c.args.self.now.rows other)) (name_in c.args.self.now.rows other)) c.as_slice.ensures)
    c.snap.ensures.ok

pub returns-in-Some-clause-err : goal.returns-in-Some-clause-err
returns-in-Some-clause-err c =
    let es = c.args.self.now.rows.entries in
    let name = c.as_slice.result.now in
    let found : lookup (is_key name) es ≡ Some c.in-Some.named.now = sym c.get_mut.ensures.value ∙ ap option_copied_mut c.in-Some.is in
    on_err_weaker c.snap.result (λ same. λ other.
    change-row es (c.get_mut.follows.lender c.snap.new.self).entries name other c.in-Some.named.now c.snap.new.self
    (λ (now : Standing). now) found same ((c.get_mut.follows.holds c.snap.new.self).0)
    ∙ cond_same (is_same_bytes name other) (name_in c.args.self.now.rows other))
    c.snap.ensures.err

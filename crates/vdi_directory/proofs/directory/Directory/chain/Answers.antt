use Rattle.std.proofs.Common.{◌≡◌, ℕ, suc, ◌∷◌, ◌++◌, List, map, length, Option, ap, sym, ◌∙◌, arith}
use Rattle.std.proofs.lemmas.List.{append-nil}
use Rattle.object_id.specs.declared.oid.Vid.{Vid}
use Rattle.vdi_directory.specs.Decisions.{log_effects}
use Rattle.vdi_directory.specs.Chains.{chain_from, chain_of}
use Rattle.vdi_directory.proofs.LineLemmas.{line-log_effects}
use Rattle.vdi_directory.proofs.ChainLemmas.{number_of, map-push}
use Rattle.vdi_directory.proofs.directory.Directory.chain.Goals as goal

pub loop-next-init : goal.loop-next-init
loop-next-init c =
    let chains : ℕ → List ℕ = chain_of (log_effects c.args.self.now) in
    ap (λ (ids : List Vid). map number_of ids ++ chain_from chains c.parent-next.result) c.new-chain.ensures.items
    ∙ ap (chain_from chains) c.parent-next.ensures ∙ sym ((line-log_effects c.args.self.now).chains c.args.vid.0)

pub loop-next-smaller : goal.loop-next-smaller
loop-next-smaller c =
    let chains : ℕ → List ℕ = chain_of (log_effects c.args.self.now) in
    let rest : length (chain_from chains c.parent-next-in-Some.result) ≡ length (chains c.in-Some.parent.0)
    = ap (λ (next : Option Vid). length (chain_from chains next)) c.parent-next-in-Some.ensures
    ∙ ap length (sym ((line-log_effects c.args.self.now).chains c.in-Some.parent.0)) in
    let whole : length (chain_from chains c.loop-next.next) ≡ suc (length (chains c.in-Some.parent.0))
    = ap (λ (next : Option Vid). length (chain_from chains next)) c.in-Some.is in
    omega (arith, rest, whole)

pub loop-next-preserved : goal.loop-next-preserved
loop-next-preserved c =
    let chains : ℕ → List ℕ = chain_of (log_effects c.args.self.now) in
    ap (λ (ids : List Vid). map number_of ids ++ chain_from chains c.parent-next-in-Some.result) c.in_ok-push.ensures.items
    ∙ map-push c.loop-next.chain.items c.in-Some.parent (chain_from chains c.parent-next-in-Some.result)
    ∙ ap (λ (later : List ℕ). map number_of c.loop-next.chain.items ++ c.in-Some.parent.0 ∷ later)
    (ap (chain_from chains) c.parent-next-in-Some.ensures ∙ sym ((line-log_effects c.args.self.now).chains c.in-Some.parent.0))
    ∙ ap (λ (next : Option Vid). map number_of c.loop-next.chain.items ++ chain_from chains next) (sym c.in-Some.is)
    ∙ c.loop-next.invariant

pub returns-clause-chain : goal.returns-clause-chain
returns-clause-chain c =
    let chains : ℕ → List ℕ = chain_of (log_effects c.args.self.now) in
    sym (append-nil (map number_of c.loop-next.chain.items))
    ∙ ap (λ (next : Option Vid). map number_of c.loop-next.chain.items ++ chain_from chains next) (sym c.in_default.is)
    ∙ c.loop-next.invariant

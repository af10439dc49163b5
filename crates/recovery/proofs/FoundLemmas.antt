-- The rows that are found at a level fit their object.
use Rattle.std.proofs.Common.{◌≡◌, ℕ, ◌<◌, ◌≤◌, ◌==◌, nat_le, nat_lt, ◌&&◌, Bool, true, false, cond, ltb-true, zero, suc, List, [], ◌∷◌, length, take, Option, Some, None, refl, ap, sym, subst, ◌∙◌, arith, unwrap_or}
use Rattle.std.specs.Borrow.{Bor}
use Rattle.std.specs.List.{filter_map, cons_option}
use Rattle.std.specs.Option.{IfSome}
use Rattle.std.proofs.lemmas.Bool.{and_parts, eqb-true}
use Rattle.object_id.specs.declared.limits.TheConstants.{TARGETS_MAX}
use Rattle.object_id.specs.declared.node.NodeId.{NodeId}
use Rattle.object_id.specs.declared.oid.Kind.{Kind}
use Rattle.object_id.specs.declared.oid.Kind.TheVariants.{Block, Inode}
use Rattle.object_id.specs.declared.policy.Policy.{Policy}
use Rattle.object_id.specs.declared.policy.Policy.TheVariants.{Copies, Coded}
use Rattle.object_id.specs.Oid.{kind_of}
use Rattle.object_id.specs.Policy.{IsPolicy, wanted_of, need_of}
use Rattle.gf256.specs.Polynomial.{ArePoints}
use Rattle.gf256.proofs.Widths.{width_most}
use Rattle.object_list.specs.Gathered.{is_same_node}
use Rattle.object_store.specs.declared.row.RowCopy.{RowCopy}
use Rattle.object_store.specs.Rows.{reaches}
use Rattle.object_store.specs.Store.{copy_at}
use Rattle.recovery.specs.declared.search.RowAnswer.{RowAnswer}
use Rattle.recovery.specs.Shown.{NodeView, live_policy, is_asked_row, fitting, own_row}
use Rattle.recovery.specs.State.{Search}
use Rattle.recovery.specs.Level.{answered_row, row_of_target, rows_in_order, rows_taken, indexes_of}
use Rattle.recovery.specs.Kept.{rows_at, rows_of_refs}
use Rattle.recovery.specs.Step.{HaveSize, IsFittingRow, AnswersFit, IsPartSize, MayEndLevel}
use Rattle.recovery.proofs.TakenParts.{Each, each-ordered, each-taken, points-taken, need-some}

pub live_known : (shown : NodeView) (oid : ℕ) (policy : Policy) → live_policy shown oid ≡ Some policy → shown.policy_of oid ≡ Some policy
live_known shown oid policy is = by_dead (shown.is_dead oid) is
  where
    by_dead : (b : Bool) → cond b None (shown.policy_of oid) ≡ Some policy → shown.policy_of oid ≡ Some policy
    by_dead true is = absurd (cc (is))
    by_dead false is = is

pub valid_policy : (shown : NodeView) (oid : ℕ) (policy : Policy) → IfSome (shown.policy_of oid) IsPolicy → live_policy shown oid ≡ Some policy
    → IsPolicy policy
valid_policy shown oid policy may is = subst (λ (o : Option Policy). IfSome o IsPolicy) (live_known shown oid policy is) may

pub wanted-most : (policy : Policy) (kind : Kind) → IsPolicy policy → wanted_of policy kind ≤ TARGETS_MAX
wanted-most (Copies copies) kind is = is.1
wanted-most (Coded d p) Block is = let few = width_most d is.0 in let most = is.2 in omega (arith, few, most)
wanted-most (Coded d p) Inode is = let most = is.2 in omega (arith, most)

pub asked-fits : (shown : NodeView) (oid level wanted : ℕ) (size : Option ℕ) (row : RowCopy) → shown.size_of oid ≡ size → wanted ≤ TARGETS_MAX
    → is_asked_row level wanted size row ≡ true → IsFittingRow shown oid row
asked-fits shown oid level wanted None row is most asked = absurd (cc (asked))
asked-fits shown oid level wanted (Some size) row is most asked =
    let last = and_parts (nat_le row.from.0 level && reaches level row.to && nat_lt row.index wanted) (row.length == size) asked in
    let third = and_parts (nat_le row.from.0 level && reaches level row.to) (nat_lt row.index wanted) last.0 in
    let below = ltb-true row.index wanted third.1 in
    (is ∙ ap (λ (n : ℕ). Some n) (sym (eqb-true row.length size last.1)), omega (arith, below, most))

own-fits : (shown : NodeView) (oid level : ℕ) → IfSome (shown.policy_of oid) IsPolicy → IfSome (own_row shown oid level) (IsFittingRow shown oid)
own-fits shown oid level valid = by_policy (shown.policy_of oid) (copy_at shown.rows oid level) valid
  where
    by_test : (policy : Policy) (row : RowCopy) → IsPolicy policy → (b : Bool)
        → is_asked_row level (wanted_of policy (kind_of oid)) (shown.size_of oid) row ≡ b → IfSome (cond b (Some row) None) (IsFittingRow shown oid)
    by_test policy row valid true is =
        asked-fits shown oid level (wanted_of policy (kind_of oid)) (shown.size_of oid) row refl (wanted-most policy (kind_of oid) valid) is
    by_test policy row valid false is = tt

    by_policy : (o : Option Policy) (row : Option RowCopy) → IfSome o IsPolicy
        → IfSome (fitting level o (shown.size_of oid) oid row) (IsFittingRow shown oid)
    by_policy None row valid = tt
    by_policy (Some policy) None valid = tt
    by_policy (Some policy) (Some row) valid =
        by_test policy row valid (is_asked_row level (wanted_of policy (kind_of oid)) (shown.size_of oid) row) refl

answered-fits : (shown : NodeView) (oid : ℕ) (node : NodeId) (answers : List RowAnswer) → AnswersFit shown oid answers
    → IfSome (answered_row node answers) (IsFittingRow shown oid)
answered-fits shown oid node [] fit = tt
answered-fits shown oid node (answer ∷ answers) fit = by_node (is_same_node node answer.from) (answered-fits shown oid node answers fit.1)
  where
    by_node : (b : Bool) → IfSome (answered_row node answers) (IsFittingRow shown oid)
        → IfSome (cond b answer.row (answered_row node answers)) (IsFittingRow shown oid)
    by_node true rest = fit.0
    by_node false rest = rest

target-fits : (shown : NodeView) (oid : ℕ) (me : NodeId) (own : Option RowCopy) (answers : List RowAnswer) (node : NodeId)
    → IfSome own (IsFittingRow shown oid) → AnswersFit shown oid answers → IfSome (row_of_target me own answers node) (IsFittingRow shown oid)
target-fits shown oid me own answers node mine fit = by_node (is_same_node me node)
  where
    by_node : (b : Bool) → IfSome (cond b own (answered_row node answers)) (IsFittingRow shown oid)
    by_node true = mine
    by_node false = answered-fits shown oid node answers fit

each-found : (P : RowCopy → Type 0) (f : NodeId → Option RowCopy) (nodes : List NodeId) → ((node : NodeId) → IfSome (f node) P)
    → Each P (filter_map f nodes)
each-found P f [] all = tt
each-found P f (node ∷ nodes) all = by_row (f node) (all node) (each-found P f nodes all)
  where
    by_row : (o : Option RowCopy) → IfSome o P → Each P (filter_map f nodes) → Each P (cons_option o (filter_map f nodes))
    by_row None one rest = rest
    by_row (Some row) one rest = (one, rest)

pub rows-fit : (me : NodeId) (epoch : ℕ) (shown : NodeView) (search : Search) (policy : Policy) → MayEndLevel epoch shown search
    → Each (IsFittingRow shown search.oid) (rows_at me shown policy search)
rows-fit me epoch shown search policy may =
    each-found (IsFittingRow shown search.oid) (row_of_target me (own_row shown search.oid search.level) search.answers)
    (shown.targets search.level search.oid policy)
    (λ node. target-fits shown search.oid me (own_row shown search.oid search.level) search.answers node
    (own-fits shown search.oid search.level may.policy) may.answers)

each-weaker : (P Q : RowCopy → Type 0) (rows : List RowCopy) → ((row : RowCopy) → P row → Q row) → Each P rows → Each Q rows
each-weaker P Q [] weaker all = tt
each-weaker P Q (row ∷ rows) weaker all = (weaker row all.0, each-weaker P Q rows weaker all.1)

have-size : (shown : NodeView) (oid size : ℕ) (rows : List RowCopy) → shown.size_of oid ≡ Some size → Each (IsFittingRow shown oid) rows → HaveSize size rows
have-size shown oid size [] is all = tt
have-size shown oid size (row ∷ rows) is all =
    (ap (λ (o : Option ℕ). unwrap_or o 0) (sym all.0.0 ∙ is), have-size shown oid size rows is all.1)

one-size : (shown : NodeView) (oid : ℕ) (policy : Policy) (rows : List RowCopy) → 1 ≤ length rows → Each (IsFittingRow shown oid) rows
    → ((size : ℕ) → shown.size_of oid ≡ Some size → IsPartSize policy oid size) → (size : ℕ) × HaveSize size rows × IsPartSize policy oid size
one-size shown oid policy [] some all sizes = absurd (omega (arith, some))
one-size shown oid policy (row ∷ rows) some all sizes =
    (row.length, have-size shown oid row.length (row ∷ rows) all.0.0 all, sizes row.length all.0.0)

pub taken-points : (me : NodeId) (epoch : ℕ) (shown : NodeView) (search : Search) (policy : Policy) → MayEndLevel epoch shown search
    → ArePoints (indexes_of (rows_taken policy (kind_of search.oid) (rows_at me shown policy search)))
taken-points me epoch shown search policy may =
    points-taken policy (kind_of search.oid) (rows_at me shown policy search)
    (each-weaker (IsFittingRow shown search.oid) (λ row. row.index < TARGETS_MAX) (rows_at me shown policy search) (λ row fit. fit.1)
    (rows-fit me epoch shown search policy may))

pub taken-size : (me : NodeId) (epoch : ℕ) (shown : NodeView) (search : Search) (policy : Policy) → MayEndLevel epoch shown search
    → live_policy shown search.oid ≡ Some policy
    → length (rows_taken policy (kind_of search.oid) (rows_at me shown policy search)) ≡ need_of policy (kind_of search.oid)
    → (size : ℕ) × HaveSize size (rows_taken policy (kind_of search.oid) (rows_at me shown policy search)) × IsPartSize policy search.oid size
taken-size me epoch shown search policy may live count =
    let rows : List RowCopy = rows_at me shown policy search in
    let kind : Kind = kind_of search.oid in
    let fit : Each (IsFittingRow shown search.oid) (rows_taken policy kind rows)
    = each-taken (IsFittingRow shown search.oid) (need_of policy kind) (rows_in_order policy kind rows)
    (each-ordered (IsFittingRow shown search.oid) policy kind rows (rows-fit me epoch shown search policy may)) in
    one-size shown search.oid policy (rows_taken policy kind rows)
    (let some = need-some policy kind (valid_policy shown search.oid policy may.policy live) in omega (arith, some, count)) fit
    (λ size is. may.size policy size (live_known shown search.oid policy live) is)

pub taken-refs : (n : ℕ) (rows : List (Bor RowCopy)) → rows_of_refs (take n rows) ≡ take n (rows_of_refs rows)
taken-refs zero rows = refl
taken-refs (suc n) [] = refl
taken-refs (suc n) (row ∷ rows) = ap (λ (rest : List RowCopy). row.now ∷ rest) (taken-refs n rows)

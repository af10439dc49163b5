-- One entry more, kind by kind, and what it does to the tally.
use Rattle.std.proofs.Common.{◌≡◌, ◌≢◌, ◌⊎◌, inl, inr, ℕ, suc, ◌+◌, ◌-◌, ◌<◌, ◌≤◌, ◌==◌, ◌&&◌, ◌||◌, nat_lt, not, Bool, true, false, cond, List, [], ◌∷◌, ◌++◌, length, get_or, set, take, filter, fold, Some, None, refl, ap, sym, ◌∙◌, subst, arith}
use Rattle.std.specs.List.{list_any}
use Rattle.std.specs.Ordering.{nat_cmp, is_eq}
use Rattle.std.specs.Cmp.{unsigned_tied, tied_then}
use Rattle.std.specs.BTreeMap.{is_at}
use Rattle.std.specs.BTreeSet.{BTreeSet, contains}
use Rattle.std.proofs.lemmas.Bool.{eq-eqb, ne_eqb, le-ltb, and_right, cases_eq, cases_lt}
use Rattle.std.proofs.lemmas.List.{take_all, take-append-le, append-nil, get_or_append_left, get_or_push, length_push, length-set, get_or-set_same, get_or-set_other}
use Rattle.std.proofs.lemmas.List.Elements.{filter-append, filter_agree}
use Rattle.std.proofs.lemmas.List.Folds.{list_any-append}
use Rattle.std.proofs.Math.Bool.{or-false}
use Rattle.std.specs.Cmp.{nat_eq_equiv}
use Rattle.object_id.specs.declared.node.NodeId.{NodeId}
use Rattle.object_id.specs.declared.node.Epoch.{Epoch}
use Rattle.object_id.specs.declared.entry.Member.{Member}
use Rattle.object_id.specs.declared.entry.Entry.{Entry}
use Rattle.object_id.specs.declared.entry.Entry.TheVariants.{Format, Recovered}
use Rattle.epoch_log.specs.declared.epoch_record.EpochRecord.{EpochRecord}
use Rattle.epoch_log.specs.declared.epoch_record.Mark.{Mark}
use Rattle.epoch_log.specs.declared.tally.Tally.{Tally}
use Rattle.epoch_log.specs.Members.{is_member_node, members_without, members_after}
use Rattle.epoch_log.specs.Epochs.{begins_epoch, epoch_of, initial_members, members_in, recovers, recovery_of, has_recovered, missing_in, is_settled, greatest, settled_of}
use Rattle.epoch_log.specs.Appending.{MayAppend, IsLog}
use Rattle.epoch_log.specs.Tally.{IsTally, AreMarks, mark_of, term_in, new_term, lacking, early_cmp, is_early}
use Rattle.epoch_log.proofs.GreatestLemmas.{greatest-same, greatest-one}
use Rattle.epoch_log.proofs.EpochLemmas.{initial_members-append, epoch_of-append, members_in-append, members_in-begun, missing_in-same, missing_in-append, is_settled-append, settled_of-begun}
use Rattle.epoch_log.proofs.MembersLemmas.{IsLog-some}

-- what `next_members` says of an entry, by its answer
pub next-Some : {X : Type 0} (b : Bool) (x y : X) → Some y ≡ cond b (Some x) None → (b ≡ true) × (y ≡ x)
next-Some true x y is = (refl, cc)
next-Some false x y is = cc

pub next-None : {X : Type 0} (b : Bool) (x : X) → None ≡ cond b (Some x) None → b ≡ false
next-None true x is = cc
next-None false x is = refl

-- an entry that begins an epoch is no `Recovered`
begins_epoch-recovers : (entry : Entry) → begins_epoch entry ≡ true → (epoch node : ℕ) → recovers epoch node entry ≡ false
begins_epoch-recovers (Recovered by of) is epoch node = cc
begins_epoch-recovers entry is epoch node = refl

none-recovers : (entry : Entry) → recovery_of entry ≡ None → (epoch node : ℕ) → recovers epoch node entry ≡ false
none-recovers (Recovered by of) is epoch node = cc
none-recovers entry is epoch node = refl

pub recovery_of-is : (entry : Entry) (node : NodeId) (epoch : Epoch) → recovery_of entry ≡ Some (node, epoch) → entry ≡ Recovered node epoch
recovery_of-is (Recovered by of) node epoch is = let both : ◌≡◌ {A = NodeId × Epoch} (by, of) (node, epoch) = cc in λ i. Recovered ((both i).0) ((both i).1)
recovery_of-is entry node epoch is = cc

has_recovered-push : (entries : List Entry) (entry : Entry) (epoch node : ℕ)
    → has_recovered (entries ++ entry ∷ []) epoch node ≡ (has_recovered entries epoch node || recovers epoch node entry)
has_recovered-push entries entry epoch node =
    list_any-append (recovers epoch node) entries (entry ∷ []) ∙ ap (λ b. has_recovered entries epoch node || b) (or-false (recovers epoch node entry))

has_recovered-kept : (entries : List Entry) (entry : Entry) (epoch node : ℕ) → recovers epoch node entry ≡ false
    → has_recovered (entries ++ entry ∷ []) epoch node ≡ has_recovered entries epoch node
has_recovered-kept entries entry epoch node other =
    has_recovered-push entries entry epoch node ∙ ap (λ b. has_recovered entries epoch node || b) other ∙ or-false (has_recovered entries epoch node)

-- an entry that begins no epoch changes no members
changes-kept : (entries : List Entry) (entry : Entry) → begins_epoch entry ≡ false → filter begins_epoch (entries ++ entry ∷ []) ≡ filter begins_epoch entries
changes-kept entries entry stays =
    filter-append begins_epoch entries (entry ∷ []) ∙ ap (λ b. filter begins_epoch entries ++ cond b (entry ∷ []) []) stays ∙ append-nil (filter begins_epoch entries)

epoch_of-kept : (entries : List Entry) (entry : Entry) → begins_epoch entry ≡ false → epoch_of (entries ++ entry ∷ []) ≡ epoch_of entries
epoch_of-kept entries entry stays = ap (λ changes. length changes + 1) (changes-kept entries entry stays)

members_in-kept : (entries : List Entry) (entry : Entry) (epoch : ℕ) → 1 ≤ length entries → begins_epoch entry ≡ false
    → members_in (entries ++ entry ∷ []) epoch ≡ members_in entries epoch
members_in-kept entries entry epoch some stays =
    ap (λ first. fold members_after first (take (epoch - 1) (filter begins_epoch (entries ++ entry ∷ [])))) (initial_members-append entries (entry ∷ []) some)
    ∙ ap (λ changes. fold members_after (initial_members entries) (take (epoch - 1) changes)) (changes-kept entries entry stays)

term_in-same : (old new : List Entry) (epoch : ℕ) → members_in new epoch ≡ members_in old epoch
    → ((node : ℕ) → has_recovered new epoch node ≡ has_recovered old epoch node) → term_in new epoch ≡ term_in old epoch
term_in-same old new epoch members same =
    let missing : missing_in new epoch ≡ missing_in old epoch = missing_in-same old new epoch members same in
    λ i. record { members = members i; missing = missing i }

is_settled-same : (old new : List Entry) (epoch : ℕ) → term_in new epoch ≡ term_in old epoch → is_settled new epoch ≡ is_settled old epoch
is_settled-same old new epoch same = ap (λ (term : EpochRecord). epoch == 1 || length term.missing == 0) same

settled_of-kept : (entries : List Entry) (entry : Entry) → begins_epoch entry ≡ false
    → ((epoch : ℕ) → 1 ≤ epoch → epoch ≤ epoch_of entries → is_settled (entries ++ entry ∷ []) epoch ≡ is_settled entries epoch)
    → settled_of (entries ++ entry ∷ []) ≡ settled_of entries
settled_of-kept entries entry stays same =
    ap (greatest (is_settled (entries ++ entry ∷ []))) (epoch_of-kept entries entry stays)
    ∙ greatest-same (is_settled entries) (is_settled (entries ++ entry ∷ [])) (epoch_of entries) same

-- what each place of a list holds, once the list is one longer
pub each-push : {X : Type 0} (says : ℕ → X) (xs : List X) (y : X) → ((k : ℕ) (d : X) → k < length xs → get_or xs k d ≡ says k)
    → y ≡ says (length xs) → (k : ℕ) (d : X) → k < length (xs ++ y ∷ []) → get_or (xs ++ y ∷ []) k d ≡ says k
each-push says xs y each last k d within = by_place (cases_lt k (length xs))
  where
    by_place : (k < length xs) ⊎ (length xs ≤ k) → get_or (xs ++ y ∷ []) k d ≡ says k
    by_place (inl before) = get_or_append_left xs (y ∷ []) d k before ∙ each k d before
    by_place (inr behind) =
        let long : length (xs ++ y ∷ []) ≡ length xs + 1 = length_push xs y in
        let here : length xs ≡ k = omega arith in
        get_or_push xs y d k here ∙ last ∙ ap says here

-- neither a beginning nor a `Recovered`
pub tally-other : (entries : List Entry) (entry : Entry) (tally : Tally) → IsLog entries → begins_epoch entry ≡ false → recovery_of entry ≡ None
    → IsTally entries tally → IsTally (entries ++ entry ∷ []) tally
tally-other entries entry tally log stays none t =
    let some : 1 ≤ length entries = IsLog-some entries log in
    let same : (epoch : ℕ) → term_in (entries ++ entry ∷ []) epoch ≡ term_in entries epoch
    = λ epoch. term_in-same entries (entries ++ entry ∷ []) epoch (members_in-kept entries entry epoch some stays)
    (λ node. has_recovered-kept entries entry epoch node (none-recovers entry none epoch node)) in
    let epochs : epoch_of (entries ++ entry ∷ []) ≡ epoch_of entries = epoch_of-kept entries entry stays in
    record {
      epochs = t.epochs ∙ sym epochs;
      terms = λ k d within. t.terms k d within ∙ sym (same (k + 1));
      early = λ epoch node above. t.early epoch node (omega arith) ∙ sym (has_recovered-kept entries entry epoch node (none-recovers entry none epoch node));
      settled = t.settled ∙ sym (settled_of-kept entries entry stays (λ epoch _ _. is_settled-same entries (entries ++ entry ∷ []) epoch (same epoch)));
    }

-- an entry that begins an epoch
pub tally-begins_epoch : (entries : List Entry) (entry : Entry) (old new : Tally) (members : List Member) → IsLog entries → MayAppend entries entry
    → begins_epoch entry ≡ true → IsTally entries old → members ≡ members_after (members_in entries (epoch_of entries)) entry
    → new.terms.items ≡ old.terms.items ++ new_term old.early (length old.terms.items + 1) members ∷ []
    → new.settled.0 ≡ cond (length (new_term old.early (length old.terms.items + 1) members).missing == 0) (length old.terms.items + 1) old.settled.0
    → new.early ≡ old.early → IsTally (entries ++ entry ∷ []) new
tally-begins_epoch entries entry old new members log may starts t made terms settled early =
    let some : 1 ≤ length entries = IsLog-some entries log in
    let later : List Entry = entries ++ entry ∷ [] in
    let count : ℕ = length old.terms.items in
    let grown : epoch_of later ≡ epoch_of entries + 1
    = epoch_of-append entries (entry ∷ []) ∙ ap (λ b. epoch_of entries + length (cond b (entry ∷ []) [])) starts in
    let kept : (epoch node : ℕ) → has_recovered later epoch node ≡ has_recovered entries epoch node
    = λ epoch node. has_recovered-kept entries entry epoch node (begins_epoch-recovers entry starts epoch node) in
    let same : (epoch : ℕ) → epoch ≤ epoch_of entries → term_in later epoch ≡ term_in entries epoch
    = λ epoch begun. term_in-same entries later epoch (members_in-append entries (entry ∷ []) epoch some begun) (kept epoch) in
    let next : count + 1 ≡ epoch_of entries + 1 = ap (λ n. n + 1) t.epochs in
    let theirs : members_in later (count + 1) ≡ members = ap (members_in later) next ∙ members_in-begun entries entry some starts ∙ sym made in
    let recovered : (member : Member) → not (is_early old.early (count + 1) member.node.0) ≡ not (has_recovered later (count + 1) member.node.0)
    = λ member. ap not (t.early (count + 1) member.node.0 (omega (arith, t.epochs)) ∙ sym (kept (count + 1) member.node.0)) in
    let missing : filter (λ (m : Member). not (is_early old.early (count + 1) m.node.0)) members ≡ missing_in later (count + 1)
    = filter_agree (λ (m : Member). not (is_early old.early (count + 1) m.node.0)) (λ m. not (has_recovered later (count + 1) m.node.0)) recovered members
    ∙ sym (ap (filter (λ (m : Member). not (has_recovered later (count + 1) m.node.0))) theirs) in
    let fresh : new_term old.early (count + 1) members ≡ term_in later (count + 1)
    = λ i. record { members = sym theirs i; missing = missing i } in
    let longer : length new.terms.items ≡ count + 1 = ap length terms ∙ length_push old.terms.items (new_term old.early (count + 1) members) in
    record {
      epochs = longer ∙ next ∙ sym grown;
      terms = subst (λ (all : List EpochRecord). (k : ℕ) (d : EpochRecord) → k < length all → get_or all k d ≡ term_in later (k + 1)) (sym terms)
          (each-push (λ k. term_in later (k + 1)) old.terms.items (new_term old.early (count + 1) members)
          (λ k d within. t.terms k d within ∙ sym (same (k + 1) (omega (arith, t.epochs)))) fresh);
      early = λ epoch node above. ap (λ set. is_early set epoch node) early ∙ t.early epoch node (omega arith) ∙ sym (kept epoch node);
      settled = settled ∙ newest (sym missing) (omega (arith, t.epochs, settled_of-begun entries)) t.settled grown t.epochs
          (λ epoch _ begun. is_settled-same entries later epoch (same epoch begun));
    }
  where
    -- the newest epoch is settled where nobody is missing, else what was settled is
    newest : missing_in (entries ++ entry ∷ []) (length old.terms.items + 1) ≡ (new_term old.early (length old.terms.items + 1) members).missing
        → 1 ≤ length old.terms.items → old.settled.0 ≡ settled_of entries → epoch_of (entries ++ entry ∷ []) ≡ epoch_of entries + 1
        → length old.terms.items ≡ epoch_of entries
        → ((epoch : ℕ) → 1 ≤ epoch → epoch ≤ epoch_of entries → is_settled (entries ++ entry ∷ []) epoch ≡ is_settled entries epoch)
        → cond (length (new_term old.early (length old.terms.items + 1) members).missing == 0) (length old.terms.items + 1) old.settled.0
        ≡ settled_of (entries ++ entry ∷ [])
    newest missing some was grown count same =
        let later : List Entry = entries ++ entry ∷ [] in
        let top : epoch_of later ≡ suc (epoch_of entries) = omega arith in
        let next : length old.terms.items + 1 ≡ suc (epoch_of entries) = omega arith in
        let kept : List Member = (new_term old.early (length old.terms.items + 1) members).missing in
        let above : (suc (epoch_of entries) == 1) ≡ false = ne_eqb (suc (epoch_of entries)) 1 (λ same. omega arith) in
        let left : missing_in later (suc (epoch_of entries)) ≡ kept = ap (missing_in later) (sym next) ∙ missing in
        let test : is_settled later (suc (epoch_of entries)) ≡ (length kept == 0)
        = ap (λ b. b || length (missing_in later (suc (epoch_of entries))) == 0) above ∙ ap (λ (ms : List Member). length ms == 0) left in
        let below : greatest (is_settled later) (epoch_of entries) ≡ old.settled.0
        = greatest-same (is_settled entries) (is_settled later) (epoch_of entries) same ∙ sym was in
        sym (ap (greatest (is_settled later)) top
        ∙ ap (λ b. cond b (suc (epoch_of entries)) (greatest (is_settled later) (epoch_of entries))) test
        ∙ ap (λ g. cond (length kept == 0) (suc (epoch_of entries)) g) below
        ∙ ap (λ n. cond (length kept == 0) n old.settled.0) (sym next))

-- one node more that recovered before the epoch began
pub is_early-insert : (old new : BTreeSet (Epoch × NodeId)) (epoch : Epoch) (node : NodeId)
    → ((key : Epoch × NodeId) → contains early_cmp new key ≡ cond (is_at (early_cmp (epoch, node)) key) true (contains early_cmp old key))
    → (of by : ℕ) → is_early new of by ≡ (is_early old of by || (epoch.0 == of && node.0 == by))
unfolding is_early
is_early-insert old new epoch node is of by =
    is (record { 0 = of }, record { 0 = by })
    ∙ ap (λ b. cond b true (is_early old of by)) here ∙ turned (epoch.0 == of && node.0 == by) (is_early old of by)
  where
    here : is_at (early_cmp (epoch, node)) (record { 0 = of }, record { 0 = by }) ≡ (epoch.0 == of && node.0 == by)
    here =
        sym (tied_then (nat_cmp epoch.0 of) (nat_cmp node.0 by))
        ∙ ap (λ b. b && is_eq (nat_cmp node.0 by)) (unsigned_tied epoch.0 of) ∙ ap (λ b. epoch.0 == of && b) (unsigned_tied node.0 by)

    turned : (b a : Bool) → cond b true a ≡ (a || b)
    turned true true = refl
    turned true false = refl
    turned false true = refl
    turned false false = refl

-- a `Recovered` of an epoch that has not begun
pub tally-early : (entries : List Entry) (node : NodeId) (epoch : Epoch) (old new : Tally) → IsLog entries → IsTally entries old
    → (1 ≤ epoch.0 → length old.terms.items < epoch.0)
    → ((of by : ℕ) → is_early new.early of by ≡ (is_early old.early of by || (epoch.0 == of && node.0 == by)))
    → new.terms.items ≡ old.terms.items → new.settled.0 ≡ old.settled.0 → IsTally (entries ++ Recovered node epoch ∷ []) new
tally-early entries node epoch old new log t ahead early terms settled =
    let some : 1 ≤ length entries = IsLog-some entries log in
    let entry : Entry = Recovered node epoch in
    let later : List Entry = entries ++ entry ∷ [] in
    let epochs : epoch_of later ≡ epoch_of entries = epoch_of-kept entries entry refl in
    let same : (of : ℕ) → 1 ≤ of → of ≤ epoch_of entries → term_in later of ≡ term_in entries of
    = λ of first begun. term_in-same entries later of (members_in-kept entries entry of some refl)
    (λ by. has_recovered-kept entries entry of by (ap (λ b. b && node.0 == by) (ne_eqb epoch.0 of (λ is. apart of first begun is t.epochs)))) in
    record {
      epochs = ap length terms ∙ t.epochs ∙ sym epochs;
      terms = subst (λ (all : List EpochRecord). (k : ℕ) (d : EpochRecord) → k < length all → get_or all k d ≡ term_in later (k + 1)) (sym terms)
          (λ k d within. t.terms k d within ∙ sym (same (k + 1) (omega arith) (omega (arith, t.epochs))));
      early = λ of by above.
          early of by ∙ ap (λ b. b || (epoch.0 == of && node.0 == by)) (t.early of by (omega arith)) ∙ sym (has_recovered-push entries entry of by);
      settled = settled ∙ t.settled ∙ sym (settled_of-kept entries entry refl (λ of first begun. is_settled-same entries later of (same of first begun)));
    }
  where
    apart : (of : ℕ) → 1 ≤ of → of ≤ epoch_of entries → epoch.0 ≡ of → length old.terms.items ≡ epoch_of entries → ⊥
    apart of first begun is count =
        let above : length old.terms.items < epoch.0 = ahead (omega arith) in
        omega arith

-- a `Recovered` of an epoch that has begun
pub tally-recovers : (entries : List Entry) (node : NodeId) (epoch : Epoch) (old new : Tally) → IsLog entries → IsTally entries old
    → 1 ≤ epoch.0 → epoch.0 ≤ length old.terms.items
    → ((d : EpochRecord) → new.terms.items ≡ set old.terms.items (epoch.0 - 1) (lacking node.0 (get_or old.terms.items (epoch.0 - 1) d)))
    → ((d : EpochRecord) → new.settled.0 ≡ cond (length (get_or new.terms.items (epoch.0 - 1) d).missing == 0 && nat_lt old.settled.0 epoch.0) epoch.0 old.settled.0)
    → new.early ≡ old.early → IsTally (entries ++ Recovered node epoch ∷ []) new
tally-recovers entries node epoch old new log t first begun terms settled early =
    let some : 1 ≤ length entries = IsLog-some entries log in
    let entry : Entry = Recovered node epoch in
    let later : List Entry = entries ++ entry ∷ [] in
    let d : EpochRecord = term_in entries 1 in
    let epochs : epoch_of later ≡ epoch_of entries = epoch_of-kept entries entry refl in
    let others : (of : ℕ) → of ≢ epoch.0 → term_in later of ≡ term_in entries of
    = λ of apart. term_in-same entries later of (members_in-kept entries entry of some refl)
    (λ by. has_recovered-kept entries entry of by (ap (λ b. b && node.0 == by) (ne_eqb epoch.0 of (λ is. apart (sym is))))) in
    let its : term_in later epoch.0 ≡ lacking node.0 (term_in entries epoch.0)
    = this_term some (omega (arith, t.epochs)) in
    let long : length new.terms.items ≡ length old.terms.items
    = ap length (terms d) ∙ length-set old.terms.items (epoch.0 - 1) (lacking node.0 (get_or old.terms.items (epoch.0 - 1) d)) in
    let place : epoch.0 - 1 + 1 ≡ epoch.0 = omega arith in
    let was : get_or old.terms.items (epoch.0 - 1) d ≡ term_in entries epoch.0
    = t.terms (epoch.0 - 1) d (omega arith) ∙ ap (term_in entries) place in
    let now : (e : EpochRecord) → get_or new.terms.items (epoch.0 - 1) e ≡ term_in later epoch.0
    = λ e. ap (λ (all : List EpochRecord). get_or all (epoch.0 - 1) e) (terms d)
    ∙ get_or-set_same old.terms.items (epoch.0 - 1) (lacking node.0 (get_or old.terms.items (epoch.0 - 1) d)) e (omega arith)
    ∙ ap (lacking node.0) was ∙ sym its in
    record {
      epochs = long ∙ t.epochs ∙ sym epochs;
      terms = λ k e within. elim (cases_eq k (epoch.0 - 1)) [
        | inl here ↦ (ap (λ (j : ℕ). get_or new.terms.items j e) here ∙ now e ∙ ap (term_in later) (sym place) ∙ ap (λ (j : ℕ). term_in later (j + 1)) (sym here))
        | inr apart ↦ (ap (λ (all : List EpochRecord). get_or all k e) (terms d)
            ∙ get_or-set_other old.terms.items (epoch.0 - 1) k (lacking node.0 (get_or old.terms.items (epoch.0 - 1) d)) e apart
            ∙ t.terms k e (omega arith) ∙ sym (others (k + 1) (λ is. apart (omega arith))))
      ];
      early = λ of by above.
          ap (λ (set : BTreeSet (Epoch × NodeId)). is_early set of by) early ∙ t.early of by (omega arith)
          ∙ sym (has_recovered-kept entries entry of by (ap (λ b. b && node.0 == by) (ne_eqb epoch.0 of (λ is. omega (arith, t.epochs)))));
      settled = settled d ∙ newest (now d) t.settled epochs (omega (arith, t.epochs)) (settled_of-begun entries).0
          (λ of apart. is_settled-same entries later of (others of apart))
          (is_settled-append entries (entry ∷ []) epoch.0 some (omega (arith, t.epochs)));
    }
  where
    this_term : 1 ≤ length entries → epoch.0 ≤ epoch_of entries → term_in (entries ++ Recovered node epoch ∷ []) epoch.0 ≡ lacking node.0 (term_in entries epoch.0)
    this_term some within =
        let members : members_in (entries ++ Recovered node epoch ∷ []) epoch.0 ≡ members_in entries epoch.0
        = members_in-kept entries (Recovered node epoch) epoch.0 some refl in
        let says : (member : Member) → not (has_recovered (Recovered node epoch ∷ []) epoch.0 member.node.0) ≡ not (is_member_node node.0 member)
        = λ member. ap not (or-false (epoch.0 == epoch.0 && node.0 == member.node.0)
        ∙ ap (λ b. b && node.0 == member.node.0) (eq-eqb epoch.0 epoch.0 refl) ∙ nat_eq_equiv.symm node.0 member.node.0) in
        let missing : missing_in (entries ++ Recovered node epoch ∷ []) epoch.0 ≡ members_without node.0 (missing_in entries epoch.0)
        = missing_in-append entries (Recovered node epoch ∷ []) epoch.0 some within
        ∙ filter_agree (λ (m : Member). not (has_recovered (Recovered node epoch ∷ []) epoch.0 m.node.0)) (λ m. not (is_member_node node.0 m)) says (missing_in entries epoch.0) in
        λ i. record { members = members i; missing = missing i }

    -- the epoch is settled where nobody is missing any more, and then it counts where it is above the settled one
    newest : get_or new.terms.items (epoch.0 - 1) (term_in entries 1) ≡ term_in (entries ++ Recovered node epoch ∷ []) epoch.0
        → old.settled.0 ≡ settled_of entries → epoch_of (entries ++ Recovered node epoch ∷ []) ≡ epoch_of entries → epoch.0 ≤ epoch_of entries
        → 1 ≤ settled_of entries
        → ((of : ℕ) → of ≢ epoch.0 → is_settled (entries ++ Recovered node epoch ∷ []) of ≡ is_settled entries of)
        → (is_settled entries epoch.0 ≡ true → is_settled (entries ++ Recovered node epoch ∷ []) epoch.0 ≡ true)
        → cond (length (get_or new.terms.items (epoch.0 - 1) (term_in entries 1)).missing == 0 && nat_lt old.settled.0 epoch.0) epoch.0 old.settled.0
        ≡ settled_of (entries ++ Recovered node epoch ∷ [])
    newest now was epochs within least others more =
        let later : List Entry = entries ++ Recovered node epoch ∷ [] in
        let only : greatest (is_settled later) (epoch_of entries)
        ≡ cond (is_settled later epoch.0 && nat_lt (settled_of entries) epoch.0) epoch.0 (settled_of entries)
        = greatest-one (is_settled entries) (is_settled later) (epoch_of entries) epoch.0 first within others more in
        let missing : (length (get_or new.terms.items (epoch.0 - 1) (term_in entries 1)).missing == 0) ≡ (length (missing_in later epoch.0) == 0)
        = ap (λ (term : EpochRecord). length term.missing == 0) now in
        ap (λ b. cond (b && nat_lt old.settled.0 epoch.0) epoch.0 old.settled.0) missing
        ∙ ap (λ (s : ℕ). cond (length (missing_in later epoch.0) == 0 && nat_lt s epoch.0) epoch.0 s) was
        ∙ ap (λ b. cond b epoch.0 (settled_of entries)) (sym (by_first (cases_eq epoch.0 1) least))
        ∙ sym only ∙ sym (ap (greatest (is_settled later)) epochs)
      where
        by_first : (epoch.0 ≡ 1) ⊎ (epoch.0 ≢ 1) → 1 ≤ settled_of entries
            → (is_settled (entries ++ Recovered node epoch ∷ []) epoch.0 && nat_lt (settled_of entries) epoch.0)
            ≡ (length (missing_in (entries ++ Recovered node epoch ∷ []) epoch.0) == 0 && nat_lt (settled_of entries) epoch.0)
        by_first (inl one) least =
            let above : nat_lt (settled_of entries) epoch.0 ≡ false = le-ltb (settled_of entries) epoch.0 (omega arith) in
            and_right (is_settled (entries ++ Recovered node epoch ∷ []) epoch.0) (nat_lt (settled_of entries) epoch.0) above
            ∙ sym (and_right (length (missing_in (entries ++ Recovered node epoch ∷ []) epoch.0) == 0) (nat_lt (settled_of entries) epoch.0) above)
        by_first (inr more) least =
            ap (λ b. (b || length (missing_in (entries ++ Recovered node epoch ∷ []) epoch.0) == 0) && nat_lt (settled_of entries) epoch.0) (ne_eqb epoch.0 1 more)

filter-all : (members : List Member) → filter (λ member. true) members ≡ members
filter-all [] = refl
filter-all (member ∷ members) = ap (λ rest. member ∷ rest) (filter-all members)

-- the first entry
pub tally-new : (members : List Member) (tally : Tally) → tally.terms.items ≡ record { members = members; missing = members } ∷ []
    → tally.early.keys ≡ [] → tally.settled.0 ≡ 1 → IsTally (Format members ∷ []) tally
unfolding is_early
tally-new members tally terms early settled =
    let first : term_in (Format members ∷ []) 1 ≡ record { members = members; missing = members }
    = λ i. record { members = members; missing = filter-all members i } in
    record {
      epochs = ap length terms;
      terms = subst (λ (all : List EpochRecord). (k : ℕ) (d : EpochRecord) → k < length all → get_or all k d ≡ term_in (Format members ∷ []) (k + 1)) (sym terms)
          (each-push (λ k. term_in (Format members ∷ []) (k + 1)) [] (record { members = members; missing = members }) (λ k d within. absurd (omega arith)) (sym first));
      early = λ epoch node _. ap (list_any (is_at (early_cmp (record { 0 = epoch }, record { 0 = node })))) early;
      settled = settled;
    }

-- one mark more
pub marks-push : (entries : List Entry) (entry : Entry) (marks : List Mark) (mark : Mark) → AreMarks entries marks
    → mark ≡ mark_of (entries ++ entry ∷ []) → AreMarks (entries ++ entry ∷ []) (marks ++ mark ∷ [])
marks-push entries entry marks mark kept is =
    let later : List Entry = entries ++ entry ∷ [] in
    let long : length later ≡ length entries + 1 = length_push entries entry in
    let count : length marks ≡ length entries = kept.count in
    let whole : take (length marks + 1) later ≡ later = take_all (length marks + 1) later (omega arith) in
    record {
      count = length_push marks mark ∙ ap (λ n. n + 1) kept.count ∙ sym long;
      each = each-push (λ k. mark_of (take (k + 1) later)) marks mark
          (λ k d within. kept.each k d within ∙ sym (ap mark_of (take-append-le (k + 1) entries (entry ∷ []) (omega arith)))) (is ∙ sym (ap mark_of whole));
    }

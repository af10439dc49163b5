-- A finished list has what was made before its recovery's epoch, or the node itself has a row of it: another node that holds it there came
-- to the epoch, and told of each object of which it has a row from before.
use Rattle.std.proofs.Common.{◌≡◌, ◌≢◌, ◌⊎◌, inl, inr, ⊎_elim, arith, ℕ, ◌≤◌, ◌<◌, nat_le, not, Bool, true, false, cond, List, [], ◌∷◌}
use Rattle.std.proofs.Common.{length, filter, Option, Some, None, refl, sym, ap, subst, ◌∙◌, slice_get}
use Rattle.std.specs.FinMap as tree
use Rattle.std.proofs.lemmas.Bool.{and_parts, cases_eq, eq-eqb, leb-true, or_left, or_right}
use Rattle.std.proofs.lemmas.Option.{same_Some}
use Rattle.object_id.specs.declared.node.NodeId.{NodeId}
use Rattle.object_id.specs.declared.policy.Policy.{Policy}
use Rattle.object_id.specs.Oid.{kind_of}
use Rattle.object_id.specs.Policy.{need_of}
use Rattle.epoch_log.specs.Members.{is_member}
use Rattle.epoch_log.specs.Epochs.{epoch_of, members_in, settled_of}
use Rattle.object_list.specs.Gathered.{is_same_node, has_node}
use Rattle.object_store.specs.Store.{rows_of}
use Rattle.vdi_directory.specs.Decisions.{log_effects}
use Rattle.recovery.specs.State.{is_listed}
use Rattle.sheep_world.specs.World.{Host}
use Rattle.overlap_law.specs.Attempts.{AttemptRecord, object_of}
use Rattle.overlap_law.specs.Words.{is_made}
use Rattle.overlap_law.specs.Holders.{targets_by, is_object_among}
use Rattle.overlap_law.specs.Past.{MomentWithPast}
use Rattle.overlap_law.specs.Each.{row_covers, end_of_row, has_row_at, holds_level, policy_in}
use Rattle.overlap_law.specs.HeldLevels.{level_of, CanBeFoundAt, TheMadeIsListed}
use Rattle.overlap_law.specs.Lists.{ListsAreWhole}
use Rattle.overlap_law.proofs.HeldLevels.{first, none_waits, lives_by, HasMade, holds_made, gives-found}
use Rattle.overlap_law.proofs.IndexesHeld.{any_found}
use Rattle.overlap_law.proofs.ReadInMoments.{are_present}

-- one of some nodes passes a test
pub some_passes : (p : NodeId → Bool) (nodes : List NodeId) → 1 ≤ length (filter p nodes)
    → (node : NodeId) × (has_node node nodes ≡ true) × (p node ≡ true)
some_passes p [] some = absurd (omega (arith, some))
some_passes p (node ∷ nodes) some = by_test (p node) refl some (λ more. some_passes p nodes more)
  where
    by_test : (b : Bool) → p node ≡ b → 1 ≤ length (cond b (node ∷ filter p nodes) (filter p nodes))
        → (1 ≤ length (filter p nodes) → (other : NodeId) × (has_node other nodes ≡ true) × (p other ≡ true))
        → (other : NodeId) × (has_node other (node ∷ nodes) ≡ true) × (p other ≡ true)
    by_test true is some_so others = (node, or_left (is_same_node node node) (has_node node nodes) (eq-eqb node.0 node.0 refl), is)
    by_test false is some_so others =
        let (other, among, passes) = others some_so in
        (other, or_right (is_same_node other node) (has_node other nodes) among, passes)

module _ (good : ℕ → Bool) (moment : MomentWithPast) (has : HasMade good moment)
    (lists : ListsAreWhole (lives_by moment.world.log) moment.world.hosts moment.world.wire) where
  module _ (n : ℕ) (host : Host) (at : tree.get moment.world.hosts n ≡ Some host) (up : host.is_lost ≡ false) (j : ℕ)
      (attempt : AttemptRecord)
      (got : slice_get moment.past.attempts j ≡ Some attempt) (policy : Policy) (me_so : host.node.recovery.me.0 ≡ n)
      (listed : is_listed host.node.recovery ≡ true) (settled : settled_of moment.world.log < host.node.recovery.epoch)
      (within : host.node.recovery.epoch ≤ epoch_of moment.world.log) (good_so : good (object_of attempt) ≡ true)
      (policy_so : policy_in (log_effects moment.world.log) (object_of attempt) ≡ Some policy)
      (needed : 1 ≤ need_of policy (kind_of (object_of attempt))) (made : is_made attempt ≡ true)
      (before : attempt.epoch < host.node.recovery.epoch) where
    abbrev oid : ℕ
    oid = object_of attempt

    abbrev level : ℕ
    level = level_of moment.world.log attempt

    abbrev IsThere : Type 0
    IsThere = (is_object_among oid host.node.recovery.lists.objects ≡ true)
        ⊎ (has_row_at host.node.peer.epoch host.node.peer.rows oid level ≡ true)

    found : CanBeFoundAt (targets_by moment.world.log) moment.world.log moment.world.hosts oid level host.node.recovery.epoch policy
    found =
        (gives-found good moment has).each n host at j attempt got policy listed settled within good_so policy_so made before

    later : 1 < host.node.recovery.epoch
    later =
        let least : 1 ≤ attempt.epoch
        = first moment.world.log (lives_by moment.world.log) good moment.world.hosts moment.past.attempts (holds_made good moment has)
        j attempt got made good_so in
        omega (arith, least, before)

    -- another node that holds it told of it
    told : (q : NodeId) → is_member q.0 (members_in moment.world.log host.node.recovery.epoch) ≡ true → q.0 ≢ n → (teller : Host)
        → tree.get moment.world.hosts q.0 ≡ Some teller → has_row_at teller.node.peer.epoch teller.node.peer.rows oid level ≡ true
        → is_object_among oid host.node.recovery.lists.objects ≡ true
    told q member apart teller teller_at holds =
        let (i, row, row_at, found_row, covers) = any_found (row_covers teller.node.peer.epoch level) (rows_of teller.node.peer.rows oid)
        holds in
        let begins = leb-true row.from.0 level
        (and_parts (nat_le row.from.0 level) (nat_le level (end_of_row teller.node.peer.epoch row.to)) covers).0 in
        let below = found.below in
        lists.each n host at up q.0 teller teller_at host.node.recovery.lists.objects (inr (record {
          member = (are_present moment has.terms.sound).members n host at q later ∙ member;
          other = λ (same : q.0 ≡ host.node.recovery.me.0). apart (same ∙ me_so);
          answered = none_waits moment.world.log moment.world.hosts (are_present moment has.terms.sound) has.terms.answers.answered
              host.node.recovery.lists.waiting q listed;
          joined = refl;
        })) oid (ap not (has.alive oid good_so)) i row row_at (omega (arith, begins, below))

    listed_or_own : IsThere
    listed_or_own =
        let enough = found.enough in
        let (q, placed, member) = some_passes (λ (node : NodeId). is_member node.0 (members_in moment.world.log host.node.recovery.epoch))
        (targets_by moment.world.log level oid policy) (omega (arith, enough, needed)) in
        by_holder q member (tree.get moment.world.hosts q.0) refl (found.rows q placed member)
      where
        by_holder : (q : NodeId) → is_member q.0 (members_in moment.world.log host.node.recovery.epoch) ≡ true → (o : Option Host)
            → tree.get moment.world.hosts q.0 ≡ o → holds_level o oid level ≡ true → IsThere
        by_holder q member None is holds = absurd (cc (holds))
        by_holder q member (Some teller) is holds = ⊎_elim
            (λ (own : q.0 ≡ n).
            let same : teller ≡ host = same_Some teller host (sym is ∙ ap (tree.get moment.world.hosts) own ∙ at) in
            inr (subst (λ (h : Host). has_row_at h.node.peer.epoch h.node.peer.rows oid level ≡ true) same holds))
            (λ (apart : q.0 ≢ n). inl (told q member apart teller is holds))
            (cases_eq q.0 n)

  pub gives-listed : TheMadeIsListed moment.world.log (log_effects moment.world.log) good moment.world.hosts moment.past.attempts
  gives-listed = record {
    each = λ n host at up j attempt got policy me_so listed settled within good_so policy_so needed made before.
        listed_or_own n host at up j attempt got policy me_so listed settled within good_so policy_so needed made before;
  }

-- That the invariant gives the holders of a base: at its own epoch by what was served, at a later settled one by what was recovered.
use Rattle.std.proofs.Common.{◌≡◌, ◌⊎◌, inl, inr, ⊎_elim, ℕ, zero, suc, ◌<◌, ◌≤◌, ◌==◌, not, max, Bool, true, false, List, [], ◌∷◌, length}
use Rattle.std.proofs.Common.{Option, Some, None, refl, sym, ap, subst, ◌∙◌, slice_get, slice_index_or, arith}
use Rattle.std.specs.Option.{option_map_or}
use Rattle.std.specs.FinMap as tree
use Rattle.std.proofs.lemmas.Bool.{eqb-true, eq-eqb, or_left, or_right, and_parts, cases_lt}
use Rattle.std.proofs.lemmas.List.Folds.{Any-from_list_any, list_any-from_Any}
use Rattle.object_id.specs.declared.node.NodeId.{NodeId}
use Rattle.object_id.specs.declared.entry.Entry.{Entry}
use Rattle.object_id.specs.declared.policy.Policy.{Policy}
use Rattle.epoch_log.specs.Members.{is_member_node, is_member}
use Rattle.epoch_log.specs.Epochs.{members_in, settled_of}
use Rattle.vdi_directory.specs.Decisions.{log_effects}
use Rattle.hash_ring.proofs.TargetLaws.{targets_are_members}
use Rattle.object_list.specs.Gathered as lists
use Rattle.peer_proto.specs.Work.{policy_of}
use Rattle.sheep_world.specs.Incarnations.{EndedIncarnation}
use Rattle.sheep_world.specs.World.{Host, World}
use Rattle.overlap_law.specs.Attempts.{AttemptRecord, object_of, attempts_on}
use Rattle.overlap_law.specs.Words.{Hosts, is_made}
use Rattle.overlap_law.specs.Packets.{Wire}
use Rattle.overlap_law.specs.Fates.{FatesAreOfTheWire, AttemptsAreShaped, IdsAreKnown}
use Rattle.overlap_law.specs.Groups.{TermsAreKept}
use Rattle.overlap_law.specs.Rows.{ServedRowsStay, RecoveredRowsAreKept}
use Rattle.overlap_law.specs.Holders.{targets_by, is_live_object, is_good, is_object_among}
use Rattle.overlap_law.specs.Past.{MomentWithPast, counts}
use Rattle.overlap_law.specs.Facts.{HoldersOfTheBase, EachGood}
use Rattle.overlap_law.specs.Each.{has_row_at, holds_level}
use Rattle.overlap_law.specs.Overlap.{Overlap, CallsFewer}
use Rattle.overlap_law.proofs.BaseLemmas.{made-served}
use Rattle.overlap_law.proofs.OverlapLemmas.{IsBaseAt, base-at}

-- a node of a list is one of it
pub has-itself : (nodes : List NodeId) (k : ℕ) (d : NodeId) → k < length nodes → lists.has_node (slice_index_or nodes k d) nodes ≡ true
has-itself [] k d within = absurd (omega arith)
has-itself (node ∷ nodes) zero d within = or_left (node.0 == node.0) (lists.has_node node nodes) (eq-eqb node.0 node.0 refl)
has-itself (node ∷ nodes) (suc k) d within = or_right
    (node.0 == (slice_index_or nodes k d).0) (lists.has_node (slice_index_or nodes k d) nodes) (has-itself nodes k d (omega arith))

-- the targets of an epoch are its members
pub target-member : (log : List Entry) (epoch oid : ℕ) (policy : Policy) (node : NodeId)
    → lists.has_node node (targets_by log epoch oid policy) ≡ true
    → is_member node.0 (members_in log epoch) ≡ true
unfolding targets_by
target-member log epoch oid policy node there =
    let found = Any-from_list_any (lists.is_same_node node) _ there in
    let member = targets_are_members (members_in log epoch) _ _ found.1 (found.0, found.2, found.3) in
    list_any-from_Any (is_member_node node.0) (members_in log epoch) (
      member.0,
      member.1,
      member.2,
      member.3,
      eq-eqb member.1.node.0 node.0
          (ap (λ (other : NodeId). other.0) member.4 ∙ eqb-true found.1.0 node.0 found.4),
    )

-- a node that counts is there
host-there : (test : Host → Bool) (found : Option Host) → option_map_or test found false ≡ true → (host : Host) × (found ≡ Some host)
host-there test None h = absurd (cc)
host-there test (Some host) h = (host, refl)

holds-from : (found : Option Host) (host : Host) (oid level : ℕ) → found ≡ Some host
    → has_row_at host.node.peer.epoch host.node.peer.rows oid level ≡ true → holds_level found oid level ≡ true
holds-from found host oid level e h = subst (λ (o : Option Host). holds_level o oid level ≡ true) (sym e) h

-- which of the two the greater one is
pub greater : (own settled : ℕ) → ((max own settled ≡ own) × (settled ≤ own)) ⊎ ((max own settled ≡ settled) × (own < settled))
greater own settled = ⊎_elim
    (λ (below : own < settled). inr (omega arith, below))
    (λ (above : settled ≤ own). inl (omega arith, above))
    (cases_lt own settled)

module _ {log : List Entry} {hosts : Hosts} {wire : Wire} {attempts : List AttemptRecord} {live good : ℕ → Bool}
    (lives : CallsFewer good live) (fates : FatesAreOfTheWire wire attempts) (shape : AttemptsAreShaped (targets_by log) log attempts)
    (known : IdsAreKnown log attempts) (terms : TermsAreKept log hosts) (stays : ServedRowsStay live hosts attempts)
    (kept : RecoveredRowsAreKept (targets_by log) log (log_effects log) good hosts attempts) where
  -- at its own epoch, where that isn't below the settled one, each target has a row
  at-own : (base : AttemptRecord) (j : ℕ) → slice_get attempts j ≡ Some base → is_made base ≡ true → settled_of log ≤ base.epoch
      → (target : NodeId) (host : Host) → tree.get hosts target.0 ≡ Some host → good (object_of base) ≡ true
      → lists.has_node target (targets_by log base.epoch (object_of base) (policy_of base.work)) ≡ true
      → has_row_at host.node.peer.epoch host.node.peer.rows (object_of base) base.epoch ≡ true
  at-own base j there made later target host at is_good placed =
      let own = subst (λ (nodes : List NodeId). lists.has_node target nodes ≡ true) (sym (shape.targets j base there)) placed in
      let read = terms.settled_read.most target.0 host at in
      ⊎_elim
      (λ (h : has_row_at host.node.peer.epoch host.node.peer.rows (object_of base) base.epoch ≡ true). h)
      (λ (below : base.epoch < host.node.peer.settled). absurd (omega arith))
      (stays.each j base there target.0 host at (lives (object_of base) is_good)
      (made-served target base (fates.whole j base there) made own))

  -- at a later settled epoch too
  at-settled : (base : AttemptRecord) (j : ℕ) → slice_get attempts j ≡ Some base → is_made base ≡ true → base.epoch < settled_of log
      → (target : NodeId) (host : Host) → tree.get hosts target.0 ≡ Some host → good (object_of base) ≡ true
      → lists.has_node target (targets_by log (settled_of log) (object_of base) (policy_of base.work)) ≡ true
      → has_row_at host.node.peer.epoch host.node.peer.rows (object_of base) (settled_of log) ≡ true
  at-settled base j there made later target host at is_good placed =
      let reserved = known.reserved j base there in
      let before = known.before j base there in
      let member = target-member log (settled_of log) (object_of base) (policy_of base.work) target placed in
      kept.each target.0 host at (object_of base) (settled_of log) (policy_of base.work) is_good
      (shape.policy j base there)
      (terms.settles.each target (omega arith) member)
      (terms.settled_read.most target.0 host at)
      placed
      (record { place = j; attempt = base; there = there; object = refl; made = made; before = omega arith })

  -- at the greater of the two
  at-greater : (base : AttemptRecord) (j : ℕ) → slice_get attempts j ≡ Some base → is_made base ≡ true
      → (level : ℕ) → ((level ≡ base.epoch) × (settled_of log ≤ base.epoch)) ⊎ ((level ≡ settled_of log) × (base.epoch < settled_of log))
      → (target : NodeId) (host : Host) → tree.get hosts target.0 ≡ Some host → good (object_of base) ≡ true
      → lists.has_node target (targets_by log level (object_of base) (policy_of base.work)) ≡ true
      → has_row_at host.node.peer.epoch host.node.peer.rows (object_of base) level ≡ true
  at-greater base j there made level (inl own) target host at is_good = subst
      (λ (l : ℕ). lists.has_node target (targets_by log l (object_of base) (policy_of base.work)) ≡ true
      → has_row_at host.node.peer.epoch host.node.peer.rows (object_of base) l ≡ true)
      (sym own.0) (at-own base j there made own.1 target host at is_good)
  at-greater base j there made level (inr settled) target host at is_good = subst
      (λ (l : ℕ). lists.has_node target (targets_by log l (object_of base) (policy_of base.work)) ≡ true
      → has_row_at host.node.peer.epoch host.node.peer.rows (object_of base) l ≡ true)
      (sym settled.0) (at-settled base j there made settled.1 target host at is_good)

  -- the same of an object that the base is on
  at-object : (base : AttemptRecord) (j : ℕ) → slice_get attempts j ≡ Some base → is_made base ≡ true → (oid : ℕ) → object_of base ≡ oid
      → (target : NodeId) (host : Host) → tree.get hosts target.0 ≡ Some host → good oid ≡ true
      → lists.has_node target (targets_by log (max base.epoch (settled_of log)) oid (policy_of base.work)) ≡ true
      → has_row_at host.node.peer.epoch host.node.peer.rows oid (max base.epoch (settled_of log)) ≡ true
  at-object base j there made oid same target host at = subst
      (λ (q : ℕ). good q ≡ true → lists.has_node target (targets_by log (max base.epoch (settled_of log)) q (policy_of base.work)) ≡ true
      → has_row_at host.node.peer.epoch host.node.peer.rows q (max base.epoch (settled_of log)) ≡ true)
      same
      (at-greater base j there made (max base.epoch (settled_of log)) (greater base.epoch (settled_of log)) target host at)

  -- each target of that epoch that is there holds it
  holder : (oid : ℕ) → good oid ≡ true → (base : AttemptRecord) (j : ℕ) → IsBaseAt attempts oid j base → (target : NodeId)
      → lists.has_node target (targets_by log (max base.epoch (settled_of log)) oid (policy_of base.work)) ≡ true
      → (host : Host) × (tree.get hosts target.0 ≡ Some host)
      → holds_level (tree.get hosts target.0) oid (max base.epoch (settled_of log)) ≡ true
  holder oid is_good base j is target placed found =
      holds-from (tree.get hosts target.0) found.0 oid (max base.epoch (settled_of log)) found.1
      (at-object base j is.there is.made oid is.object target found.0 found.1 is_good placed)

  -- so each that counts does, where what counts is there
  pub holders : (counts_in : NodeId → ℕ → Bool)
      → ((target : NodeId) (epoch : ℕ) → counts_in target epoch ≡ true → (host : Host) × (tree.get hosts target.0 ≡ Some host))
      → (oid : ℕ) → good oid ≡ true → HoldersOfTheBase (targets_by log) counts_in (settled_of log) hosts oid (attempts_on oid attempts)
  holders counts_in there oid is_good = record {
    each = λ base h k d within counted.
        let made = base-at oid attempts base h in
        let target = slice_index_or (targets_by log (max base.epoch (settled_of log)) oid (policy_of base.work)) k d in
        holder oid is_good base made.0 made.1 target
        (has-itself (targets_by log (max base.epoch (settled_of log)) oid (policy_of base.work)) k d within)
        (there target (max base.epoch (settled_of log)) counted);
  }

-- who counts for an epoch is there
pub counted-there : (ended : List EndedIncarnation) (world : World) (target : NodeId) (epoch : ℕ) → counts ended world target epoch ≡ true
    → (host : Host) × (tree.get world.hosts target.0 ≡ Some host)
counted-there ended world target epoch counted = host-there _ (tree.get world.hosts target.0) counted

-- what is good is live
pub good-live : (log : List Entry) (attempts : List AttemptRecord) (unavailable : List ℕ)
    → CallsFewer (is_good log attempts unavailable) (is_live_object log attempts)
good-live log attempts unavailable oid is = (and_parts (is_live_object log attempts oid) (not (is_object_among oid unavailable)) is).0

pub gives-holders : (moment : MomentWithPast) → Overlap moment → EachGood moment.world moment.past
    (HoldersOfTheBase (targets_by moment.world.log) (counts moment.past.ended moment.world) (settled_of moment.world.log)
    moment.world.hosts)
gives-holders moment o = holders
    (good-live moment.world.log moment.past.attempts moment.past.unavailable)
    o.attempts.fates o.attempts.shape o.attempts.known o.terms o.rows.stays o.rows.kept
    (counts moment.past.ended moment.world) (counted-there moment.past.ended moment.world)

-- The inode of an id that is published was created by the epoch of its publication, over each change of a moment: what a node publishes it
-- has created before, and nothing else that the log gets publishes an id.
use Rattle.std.proofs.Common.{◌≡◌, ◌⊎◌, inl, inr, ⊎_elim, arith, ℕ, ◌||◌, Bool, true, false, cond, List, [], ◌∷◌, ◌++◌, Some, None}
use Rattle.std.proofs.Common.{slice_get, refl, sym, ap, subst, ◌∙◌}
use Rattle.std.specs.FinMap as tree
use Rattle.std.specs.List.{list_any}
use Rattle.std.proofs.lemmas.Bool.{both_ways, or_cases, or_left, or_right}
use Rattle.std.proofs.lemmas.List.Folds.{list_any-append}
use Rattle.object_id.specs.declared.entry.Entry.{Entry}
use Rattle.object_id.specs.declared.entry.Entry.TheVariants as entries
use Rattle.object_id.specs.declared.oid.Vid.{Vid}
use Rattle.object_id.specs.Oid.{inode_number}
use Rattle.cluster_script.specs.declared.statement.Statement.{Statement}
use Rattle.epoch_log.specs.Epochs.{epoch_of}
use Rattle.vdi_directory.specs.declared.effect.Effect.{Effect}
use Rattle.vdi_directory.specs.Decisions.{outcome, log_effects}
use Rattle.vdi_directory.specs.States.{state_of, is_live_state}
use Rattle.vdi_directory.proofs.StateLemmas.{log_effects-none, log_effects-push}
use Rattle.sheep_world.specs.Began.{Began}
use Rattle.sheep_world.specs.World.{Host}
use Rattle.overlap_law.specs.Attempts.{AttemptRecord}
use Rattle.overlap_law.specs.Drafts.{published_by}
use Rattle.overlap_law.specs.Each.{EachUp}
use Rattle.overlap_law.specs.Fates.{IsCreated}
use Rattle.overlap_law.specs.Grants.{gives, publishes, published_in}
use Rattle.overlap_law.specs.MomentChanges.{MomentChange, RunsAreInRange}
use Rattle.overlap_law.specs.Past.{MomentWithPast}
use Rattle.overlap_law.specs.Reached.{Hosts}
use Rattle.overlap_law.specs.Tables.{PublishedInodesAreMade}
use Rattle.overlap_law.proofs.AnswersInMoments.{not_lost}
use Rattle.overlap_law.proofs.CreatedStays.{created_stays, created-by}
use Rattle.overlap_law.proofs.DatedEffects.{by_entries, last_epoch-push, epoch_rises}
use Rattle.overlap_law.proofs.LogsOfMoments.{IsOfMembers, IsPutHere, gets_entry}
use Rattle.overlap_law.proofs.PublishedIds.{published_by_entry, live_before}
use Rattle.overlap_law.proofs.ReadInMoments.{HostsAreSound, epoch_within}

-- ---- what the log gets

-- an entry is the first that a node has to put
pub record IsPutNow (hosts : Hosts) (entry : Entry) : Type 0 where
  pub n : ℕ
  pub host : Host
  pub there : tree.get hosts n ≡ Some host
  pub up : host.is_lost ≡ false
  pub later : List Entry
  pub first : host.node.outbox ≡ entry ∷ later

-- an entry of the membership publishes nothing
pub members_publish : (entry : Entry) → IsOfMembers entry → published_by entry ≡ None
members_publish (entries.Format members) is = absurd is
members_publish (entries.Join node zone vnodes) is = refl
members_publish (entries.Leave node) is = refl
members_publish (entries.Reweight node vnodes) is = refl
members_publish (entries.Recovered node epoch) is = absurd is
members_publish (entries.Reserve by session name origin) is = absurd is
members_publish (entries.Publish by vid) is = absurd is
members_publish (entries.Clone by vid) is = absurd is
members_publish (entries.Snapshot by old vid) is = absurd is
members_publish (entries.Delete by session name tag) is = absurd is
members_publish (entries.Lock by session name tag) is = absurd is
members_publish (entries.Unlock by session vid) is = absurd is

-- and gives nobody an id
pub members_give : (before : List Effect) (vid : ℕ) (entry : Entry) → IsOfMembers entry → gives vid (outcome before entry).effect ≡ false
members_give before vid (entries.Format members) is = absurd is
members_give before vid (entries.Join node zone vnodes) is = refl
members_give before vid (entries.Leave node) is = refl
members_give before vid (entries.Reweight node vnodes) is = refl
members_give before vid (entries.Recovered node epoch) is = absurd is
members_give before vid (entries.Reserve by session name origin) is = absurd is
members_give before vid (entries.Publish by of) is = absurd is
members_give before vid (entries.Clone by of) is = absurd is
members_give before vid (entries.Snapshot by old of) is = absurd is
members_give before vid (entries.Delete by session name tag) is = absurd is
members_give before vid (entries.Lock by session name tag) is = absurd is
members_give before vid (entries.Unlock by session of) is = absurd is

-- the log stays, or gets an entry of the membership, or one that a node puts as the event begins
abbrev pub LogGets : MomentWithPast → MomentWithPast → MomentWithPast → Type 0
LogGets start before after = (after.world.log ≡ before.world.log)
    ⊎ ((entry : Entry) × (after.world.log ≡ before.world.log ++ entry ∷ [])
    × (IsOfMembers entry ⊎ ((before ≡ start) × IsPutNow before.world.hosts entry)))

pub log_gets : (script : List Statement) {start before after : MomentWithPast} → MomentChange script start before after
    → LogGets start before after
log_gets script {start} {before} {after} change = ⊎_elim
    (λ (same : after.world.log ≡ before.world.log). inl same)
    (λ (more : (entry : Entry) × (after.world.log ≡ before.world.log ++ entry ∷ [])
    × (IsOfMembers entry ⊎ IsPutHere script start before after entry)).
    inr (
      more.0,
      more.1,
      ⊎_elim
          (λ (members : IsOfMembers more.0). inl members)
          (λ (put : IsPutHere script start before after more.0).
          inr (
            put.first,
            subst (λ (m : MomentWithPast). IsPutNow m.world.hosts more.0) (sym put.first) (record {
              n = put.n;
              host = put.host;
              there = put.there;
              up = not_lost put.host put.up;
              later = put.so.0;
              first = put.so.1;
            }),
          ))
          more.2,
    ))
    (gets_entry script change)

-- the inodes of the ids that outboxes publish were created
abbrev pub OutboxesAreCreated : MomentWithPast → Type 0
OutboxesAreCreated moment = EachUp moment.world.hosts
    (λ n node. (place : ℕ) (entry : Entry) (vid : Vid) → slice_get node.outbox place ≡ Some entry
    → published_by entry ≡ Some vid → IsCreated moment.past.attempts (inode_number vid.0) node.peer.epoch)

-- ---- what was published once

-- whether an id was published
abbrev pub was_published : List Entry → ℕ → Bool
was_published log vid = list_any (publishes vid) (log_effects log)

pub published-push : (log : List Entry) (entry : Entry) (vid : ℕ)
    → was_published (log ++ entry ∷ []) vid ≡ (was_published log vid || (publishes vid (outcome (log_effects log) entry).effect || false))
published-push log entry vid =
    ap (list_any (publishes vid)) (log_effects-push log entry)
    ∙ list_any-append (publishes vid) (log_effects log) ((outcome (log_effects log) entry).effect ∷ [])

-- what was published was so by a longer log
pub published_stays : (log : List Entry) (entry : Entry) (vid : ℕ) → was_published log vid ≡ true
    → was_published (log ++ entry ∷ []) vid ≡ true
published_stays log entry vid was =
    published-push log entry vid
    ∙ or_left (was_published log vid) (publishes vid (outcome (log_effects log) entry).effect || false) was

none_live : (vid : ℕ) → is_live_state (state_of [] vid) ≡ true → ⊥
unfolding state_of
none_live vid live = cc (live)

-- what is published, and not deleted, was published
pub live_was : (vid : ℕ) (log : List Entry) → is_live_state (state_of (log_effects log) vid) ≡ true → was_published log vid ≡ true
live_was vid = by_entries (λ (log : List Entry). is_live_state (state_of (log_effects log) vid) ≡ true → was_published log vid ≡ true)
    (λ live. absurd (none_live vid (subst (λ (all : List Effect). is_live_state (state_of all vid) ≡ true) log_effects-none live))) one_more
  where
    one_more : (log : List Entry) (entry : Entry) → (is_live_state (state_of (log_effects log) vid) ≡ true → was_published log vid ≡ true)
        → is_live_state (state_of (log_effects (log ++ entry ∷ [])) vid) ≡ true → was_published (log ++ entry ∷ []) vid ≡ true
    one_more log entry before live =
        published-push log entry vid
        ∙ ⊎_elim
        (λ (now : publishes vid (outcome (log_effects log) entry).effect ≡ true).
        or_right (was_published log vid) (publishes vid (outcome (log_effects log) entry).effect || false)
        (or_left (publishes vid (outcome (log_effects log) entry).effect) false now))
        (λ (was : is_live_state (state_of (log_effects log) vid) ≡ true).
        or_left (was_published log vid) (publishes vid (outcome (log_effects log) entry).effect || false) (before was))
        (live_before log entry vid live)

-- the inode of an id that was published, if it is deleted now or not, was created by the epoch of its publication
abbrev pub WhatWasPublishedIsCreated : List Entry → List AttemptRecord → Type 0
WhatWasPublishedIsCreated log attempts = (vid : ℕ) → was_published log vid ≡ true
    → IsCreated attempts (inode_number vid) (published_in log vid)

-- so is that of each that isn't deleted
pub published_made : (log : List Entry) (good_id : ℕ → Bool) (attempts : List AttemptRecord) → WhatWasPublishedIsCreated log attempts
    → PublishedInodesAreMade log good_id attempts
published_made log good_id attempts created = record { each = λ vid live good. created vid (live_was vid log live) }

-- with an entry more
module _ (log : List Entry) (attempts : List AttemptRecord) (published : WhatWasPublishedIsCreated log attempts) (entry : Entry)
    (created : (vid : ℕ) → publishes vid (outcome (log_effects log) entry).effect ≡ true
    → IsCreated attempts (inode_number vid) (epoch_of log))
  where
    published-more : WhatWasPublishedIsCreated (log ++ entry ∷ []) attempts
    published-more vid is =
        by_test (publishes vid (outcome (log_effects log) entry).effect) refl (last_epoch-push (publishes vid) log entry)
        (sym (published-push log entry vid) ∙ is)
      where
        by_test : (b : Bool) → publishes vid (outcome (log_effects log) entry).effect ≡ b
            → published_in (log ++ entry ∷ []) vid ≡ cond b (epoch_of (log ++ entry ∷ [])) (published_in log vid)
            → (was_published log vid || (publishes vid (outcome (log_effects log) entry).effect || false)) ≡ true
            → IsCreated attempts (inode_number vid) (published_in (log ++ entry ∷ []) vid)
        by_test true now at either =
            let rises = epoch_rises log entry in
            created-by attempts (inode_number vid) (epoch_of log) (published_in (log ++ entry ∷ []) vid) (omega (arith, at, rises))
            (created vid now)
        by_test false not at either =
            let was : was_published log vid ≡ true = ⊎_elim
            (λ (was : was_published log vid ≡ true). was)
            (λ (now : (publishes vid (outcome (log_effects log) entry).effect || false) ≡ true).
            absurd (both_ways (publishes vid (outcome (log_effects log) entry).effect || false) (ap (λ (b : Bool). b || false) not) now))
            (or_cases (was_published log vid) (publishes vid (outcome (log_effects log) entry).effect || false) either) in
            subst (λ (epoch : ℕ). IsCreated attempts (inode_number vid) epoch) (sym at) (published vid was)

-- ---- each change

module _ (script : List Statement) (range : RunsAreInRange script) (start before after : MomentWithPast) (began : Began script start.world)
    (change : MomentChange script start before after) (sound : HostsAreSound before) where
  pub published_after : OutboxesAreCreated start → WhatWasPublishedIsCreated before.world.log before.past.attempts
      → WhatWasPublishedIsCreated after.world.log after.past.attempts
  published_after put published vid is =
      created_stays script range start before after began change (inode_number vid) (published_in after.world.log vid)
      (by_log (log_gets script change) vid is)
    where
      entry_created : (entry : Entry) → IsOfMembers entry ⊎ ((before ≡ start) × IsPutNow before.world.hosts entry) → (vid : ℕ)
          → publishes vid (outcome (log_effects before.world.log) entry).effect ≡ true
          → IsCreated before.past.attempts (inode_number vid) (epoch_of before.world.log)
      entry_created entry whose vid publishes_it = by_whose whose
        where
          of : Vid
          of = (published_by_entry (log_effects before.world.log) vid entry publishes_it).0

          says : published_by entry ≡ Some of
          says = (published_by_entry (log_effects before.world.log) vid entry publishes_it).1

          own : of.0 ≡ vid
          own = (published_by_entry (log_effects before.world.log) vid entry publishes_it).2

          by_whose : IsOfMembers entry ⊎ ((before ≡ start) × IsPutNow before.world.hosts entry)
              → IsCreated before.past.attempts (inode_number vid) (epoch_of before.world.log)
          by_whose (inl members) = let none = members_publish entry members in absurd (cc (none, says))
          by_whose (inr (same, put_now)) =
              let behind = epoch_within before.world.log put_now.n put_now.host.node.me put_now.host.node.peer
              (sound.each put_now.n put_now.host put_now.there).read in
              created-by before.past.attempts (inode_number vid) put_now.host.node.peer.epoch (epoch_of before.world.log) behind
              (subst (λ (k : ℕ). IsCreated before.past.attempts (inode_number k) put_now.host.node.peer.epoch) own
              (subst OutboxesAreCreated (sym same) put put_now.n put_now.host put_now.there put_now.up 0 entry of
              (ap (λ (outbox : List Entry). slice_get outbox 0) put_now.first) says))

      by_log : LogGets start before after → WhatWasPublishedIsCreated after.world.log before.past.attempts
      by_log (inl same) = subst (λ (log : List Entry). WhatWasPublishedIsCreated log before.past.attempts) (sym same) published
      by_log (inr (entry, is, whose)) =
          subst (λ (log : List Entry). WhatWasPublishedIsCreated log before.past.attempts) (sym is)
          (published-more before.world.log before.past.attempts published entry
          (λ vid publishes_it. entry_created entry whose vid publishes_it))

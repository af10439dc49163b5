-- What attempts give to inodes stands for objects that were created, over each change of a moment, if after it the works that are to do
-- name such objects: an attempt that begins is one of those works.
use Rattle.std.proofs.Common.{◌≡◌, ◌≢◌, inl, inr, ⊎_elim, ℕ, ◌<◌, Bool, true, false, List, Some, refl, sym, ap, subst, ◌∙◌}
use Rattle.std.specs.FinMap as tree
use Rattle.proof_tools.proofs.FiniteMaps.{get-insert_same}
use Rattle.object_id.specs.declared.limits.TheConstants.{OBJECTS_MAX}
use Rattle.object_id.specs.Oid.{IsVid, inode_number, object_number}
use Rattle.cluster_script.specs.declared.statement.Statement.{Statement}
use Rattle.vdi_directory.specs.declared.effect.Effect.{Effect}
use Rattle.vdi_directory.specs.Chains.{is_above}
use Rattle.vdi_directory.specs.Decisions.{log_effects}
use Rattle.gateway.specs.State.{Open}
use Rattle.sheep_node.specs.Changes.{attempt_in}
use Rattle.sheep_world.specs.Began.{Began}
use Rattle.sheep_world.specs.NodeCauses.{host_with_node}
use Rattle.sheep_world.specs.World.{Host}
use Rattle.overlap_law.specs.Attempts.{AttemptRecord, object_of}
use Rattle.overlap_law.specs.Fates.{IsCreated}
use Rattle.overlap_law.specs.MomentChanges.{MomentChange, RunsAreInRange}
use Rattle.overlap_law.specs.Past.{MomentWithPast}
use Rattle.overlap_law.specs.Tables.{entry_unit, entry_by, StandsFor, EntriesAreMade, OwnEntriesAreMade}
use Rattle.overlap_law.specs.ToDo.{IsEntryToDo, WorksNameWhatIsMade}
use Rattle.overlap_law.specs.Units.{covers_unit}
use Rattle.overlap_law.proofs.AnswersInMoments.{not_lost}
use Rattle.overlap_law.proofs.ChainsStay.{above-stays}
use Rattle.overlap_law.proofs.CreatedStays.{created_stays}
use Rattle.overlap_law.proofs.LogsOfMoments.{log_of_change}
use Rattle.overlap_law.proofs.NewAttempts.{IsOpened, WasAttempt, come_from}

-- what an entry stands for, by a longer log, and by attempts that went on
pub stands-later : (before after : MomentWithPast) → ((elder vid : ℕ) → is_above (log_effects before.world.log) elder vid ≡ true
    → is_above (log_effects after.world.log) elder vid ≡ true)
    → ((oid epoch : ℕ) → IsCreated before.past.attempts oid epoch → IsCreated after.past.attempts oid epoch)
    → (vid index epoch entry : ℕ) → StandsFor (log_effects before.world.log) before.past.attempts vid index epoch entry
    → StandsFor (log_effects after.world.log) after.past.attempts vid index epoch entry
stands-later before after above created vid index epoch entry stands = record {
  chain = ⊎_elim
      (λ (own : entry ≡ vid). inl own)
      (λ (higher : is_above (log_effects before.world.log) entry vid ≡ true). inr (above entry vid higher))
      stands.chain;
  created = created (object_number entry index) epoch stands.created;
}

-- an attempt that begins is a work that is to do, at a node of its epoch
module _ (script : List Statement) (start after : MomentWithPast) (new : AttemptRecord) (o : IsOpened script start after new) where
  abbrev pub now : Host
  now = host_with_node o.stepping.host o.next.node

  pub opened_there : tree.get after.world.hosts o.stepping.n ≡ Some now
  opened_there =
      ap (λ (m : MomentWithPast). tree.get m.world.hosts o.stepping.n) o.moment_so
      ∙ get-insert_same start.world.hosts o.stepping.n (host_with_node o.stepping.host o.next.node)

  pub opened_up : now.is_lost ≡ false
  opened_up = not_lost o.stepping.host o.is.up

  pub opened_epoch : now.node.peer.epoch ≡ new.epoch
  opened_epoch = o.epoch_so ∙ ap (λ (a : AttemptRecord). a.epoch) o.opened

  pub opened_to_do : (vid index : ℕ) → object_of new ≡ inode_number vid → index < OBJECTS_MAX → covers_unit (entry_unit index) new ≡ true
      → IsEntryToDo now.node o.asked.work vid index
  opened_to_do vid index object inside covered = record {
    to_do = inl (record {
      req = o.req;
      open_work = record o.asked { stage = Open (attempt_in o.asked o.lined.node) };
      there = o.at_gateway;
      same = refl;
    });
    object = ap (λ (a : AttemptRecord). object_of a) o.opened ∙ object;
    inside = inside;
    covered = ap (λ (a : AttemptRecord). covers_unit (entry_unit index) a) o.opened ∙ covered;
  }

-- ---- each change

module _ (script : List Statement) (range : RunsAreInRange script) (start before after : MomentWithPast) (began : Began script start.world)
    (change : MomentChange script start before after) where
  created_later : (oid epoch : ℕ) → IsCreated before.past.attempts oid epoch → IsCreated after.past.attempts oid epoch
  created_later = created_stays script range start before after began change

  stands_later : (vid index epoch entry : ℕ) → StandsFor (log_effects before.world.log) before.past.attempts vid index epoch entry
      → StandsFor (log_effects after.world.log) after.past.attempts vid index epoch entry
  stands_later =
      stands-later before after (above-stays before.world.log after.world.log (log_of_change script change)) created_later

  module _ (good_id : ℕ → Bool)
      (named : WorksNameWhatIsMade (log_effects after.world.log) good_id after.world.hosts after.past.attempts) (live : ℕ → Bool) where
    abbrev HasMade : List Effect → List AttemptRecord → AttemptRecord → Type 0
    HasMade effects attempts attempt = (vid index : ℕ) → object_of attempt ≡ inode_number vid → live (inode_number vid) ≡ true
        → good_id vid ≡ true → index < OBJECTS_MAX → covers_unit (entry_unit index) attempt ≡ true → entry_by index attempt ≢ 0
        → StandsFor effects attempts vid index attempt.epoch (entry_by index attempt)

    abbrev HasOwnMade : List AttemptRecord → AttemptRecord → Type 0
    HasOwnMade attempts attempt = (vid index : ℕ) → IsVid vid → object_of attempt ≡ inode_number vid → live (inode_number vid) ≡ true
        → index < OBJECTS_MAX → covers_unit (entry_unit index) attempt ≡ true → entry_by index attempt ≡ vid
        → IsCreated attempts (object_number vid index) attempt.epoch

    opened_made : (new : AttemptRecord) → IsOpened script start after new → HasMade (log_effects after.world.log) after.past.attempts new
    opened_made new o vid index object alive good inside covered some =
        let same : entry_by index new ≡ entry_by index (record new { work = o.asked.work })
        = ap (λ (a : AttemptRecord). entry_by index a) (sym o.opened) in
        subst (λ (entry : ℕ). StandsFor (log_effects after.world.log) after.past.attempts vid index new.epoch entry) (sym same)
        (subst (λ (epoch : ℕ). StandsFor (log_effects after.world.log) after.past.attempts vid index epoch
        (entry_by index (record new { work = o.asked.work }))) (opened_epoch script start after new o)
        (named.each o.stepping.n (now script start after new o) (opened_there script start after new o) (opened_up script start after new o)
        o.asked.work vid index (opened_to_do script start after new o vid index object inside covered) good
        (λ none. some (same ∙ none))))

    opened_own : (new : AttemptRecord) → IsOpened script start after new → HasOwnMade after.past.attempts new
    opened_own new o vid index is_vid object alive inside covered own =
        let same : entry_by index new ≡ entry_by index (record new { work = o.asked.work })
        = ap (λ (a : AttemptRecord). entry_by index a) (sym o.opened) in
        subst (λ (epoch : ℕ). IsCreated after.past.attempts (object_number vid index) epoch) (opened_epoch script start after new o)
        (named.own o.stepping.n (now script start after new o) (opened_there script start after new o) (opened_up script start after new o)
        o.asked.work vid index (opened_to_do script start after new o vid index object inside covered) is_vid (sym same ∙ own))

    pub entries_after : EntriesAreMade (log_effects before.world.log) live good_id before.past.attempts
        → EntriesAreMade (log_effects after.world.log) live good_id after.past.attempts
    entries_after made = record {
      each = λ j now got. ⊎_elim
          (λ (w : WasAttempt before j now).
          subst (HasMade (log_effects after.world.log) after.past.attempts) w.same
          (λ vid index object alive good inside covered some.
          stands_later vid index w.was.epoch (entry_by index w.was)
          (made.each j w.was w.at vid index object alive good inside covered some)))
          (λ (o : IsOpened script start after now). opened_made now o)
          (come_from script range start began change j now got);
    }

    pub own_after : OwnEntriesAreMade live before.past.attempts → OwnEntriesAreMade live after.past.attempts
    own_after made = record {
      each = λ j now got. ⊎_elim
          (λ (w : WasAttempt before j now).
          subst (HasOwnMade after.past.attempts) w.same
          (λ vid index is_vid object alive inside covered own.
          created_later (object_number vid index) w.was.epoch (made.each j w.was w.at vid index is_vid object alive inside covered own)))
          (λ (o : IsOpened script start after now). opened_own now o)
          (come_from script range start began change j now got);
    }

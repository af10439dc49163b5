-- What an entry adds to the history is told by the log with the entry as by the log before it.
use Rattle.std.proofs.Common.{◌≡◌, ◌∙◌, ◌==◌, ◌&&◌, ℕ, Bool, true, false, cond, List, [], ◌∷◌, ◌++◌, Option, None, Some, refl, ap}
use Rattle.std.specs.Option.{option_map_or}
use Rattle.object_id.specs.declared.oid.Vid.{Vid}
use Rattle.object_id.specs.declared.node.NodeId.{NodeId}
use Rattle.object_id.specs.declared.entry.Entry.{Entry}
use Rattle.object_id.specs.declared.entry.Entry.TheVariants.{Format, Join, Leave, Reweight, Recovered, Reserve, Publish, Clone, Snapshot}
use Rattle.object_id.specs.declared.entry.Entry.TheVariants.{Delete, Lock, Unlock}
use Rattle.vdi_directory.specs.declared.header.Header.{Header}
use Rattle.vdi_directory.specs.declared.effect.Source.{Source}
use Rattle.vdi_directory.specs.declared.effect.Reservation.{Reservation}
use Rattle.vdi_directory.specs.declared.effect.Effect.{Effect}
use Rattle.vdi_directory.specs.declared.effect.Effect.TheVariants as effects
use Rattle.vdi_directory.specs.declared.decision.Decision.{Decision}
use Rattle.vdi_directory.specs.declared.decision.Decision.TheVariants as decisions
use Rattle.vdi_directory.specs.Sources.{is_for}
use Rattle.vdi_directory.specs.Effects.{header_after, header_of, reservations_of, reservation_on}
use Rattle.vdi_directory.specs.Decisions.{nothing, grant_outcome, publication, outcome, log_effects, decision_after}
use Rattle.vdi_directory.proofs.StateLemmas.{log_effects-push, header_of-push}
use Rattle.sheep_world.specs.Granted.{granted_header, disk_made, disk_cloned, granted_adds, decided_adds, entry_adds}

-- what publishes an id leaves each header as it was
header-published : (by : NodeId) (is_right : Source → Bool) (reservation : Option Reservation) (vid : ℕ) (header : Option Header)
    → header_after vid header (publication by is_right reservation).effect ≡ header
header-published by is_right None vid header = refl
header-published by is_right (Some reservation) vid header = by_right (reservation.by.0 == by.0 && is_right reservation.source)
  where
    by_right : (b : Bool)
        → header_after vid header (cond b (grant_outcome reservation.vid (effects.Published reservation.vid reservation.name)) nothing).effect ≡ header
    by_right true = refl
    by_right false = refl

header-after : (log : List Entry) (entry : Entry) (vid : Vid)
    → granted_header (log ++ entry ∷ []) vid ≡ header_after vid.0 (granted_header log vid) (outcome (log_effects log) entry).effect
header-after log entry vid =
    ap (λ (effects : List Effect). header_of effects vid.0) (log_effects-push log entry)
    ∙ header_of-push (log_effects log) (outcome (log_effects log) entry).effect vid.0

granted_adds-after : (log : List Entry) (vid : Vid) (entry : Entry) → granted_adds (log ++ entry ∷ []) vid entry ≡ granted_adds log vid entry
granted_adds-after log vid (Format members) = refl
granted_adds-after log vid (Join node zone vnodes) = refl
granted_adds-after log vid (Leave node) = refl
granted_adds-after log vid (Reweight node vnodes) = refl
granted_adds-after log vid (Recovered node epoch) = refl
granted_adds-after log vid (Reserve by session name origin) = refl
granted_adds-after log vid (Publish by of) =
    ap (λ (header : Option Header). option_map_or (disk_made vid) header [])
    (header-after log (Publish by of) vid
    ∙ header-published by (is_for false) (reservation_on of (reservations_of (log_effects log))) vid.0 (granted_header log vid))
granted_adds-after log vid (Clone by of) =
    ap (λ (header : Option Header). option_map_or (disk_cloned vid) header [])
    (header-after log (Clone by of) vid
    ∙ header-published by (is_for true) (reservation_on of (reservations_of (log_effects log))) vid.0 (granted_header log vid))
granted_adds-after log vid (Snapshot by old of) = refl
granted_adds-after log vid (Delete by session name tag) = refl
granted_adds-after log vid (Lock by session name tag) = refl
granted_adds-after log vid (Unlock by session of) = refl

decided_adds-after : (log : List Entry) (entry : Entry) (decision : Decision)
    → decided_adds (log ++ entry ∷ []) entry decision ≡ decided_adds log entry decision
decided_adds-after log entry decisions.None = refl
decided_adds-after log entry (decisions.Granted vid) = granted_adds-after log vid entry
decided_adds-after log entry (decisions.Refused cause) = refl

pub entry_adds-after : (log : List Entry) (entry : Entry)
    → decided_adds (log ++ entry ∷ []) entry (decision_after log entry) ≡ entry_adds log entry
unfolding entry_adds
entry_adds-after log entry = decided_adds-after log entry (decision_after log entry)

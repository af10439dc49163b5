-- A live id's line, by its header.
use Rattle.std.proofs.Common.{◌≡◌, ℕ, ◌+◌, ◌==◌, true, List, [], ◌∷◌, ◌++◌, drop, map, Option, Some, None, slice_get, refl, sym, ap, ap₂, ◌∙◌, append-nil, arith}
use Rattle.std.specs.Prelude.{codes, decimal}
use Rattle.std.specs.List.{list_any}
use Rattle.std.specs.Option.{option_map, option_map_or}
use Rattle.std.proofs.lemmas.Option.{none-some}
use Rattle.object_id.specs.declared.oid.Vid.{Vid}
use Rattle.object_id.specs.declared.entry.Entry.{Entry}
use Rattle.disk_lock.specs.declared.holder.Holder.{Holder}
use Rattle.vdi_directory.specs.declared.header.Header.{Header}
use Rattle.vdi_directory.specs.declared.effect.Effect.{Effect}
use Rattle.vdi_directory.specs.Decisions.{log_effects}
use Rattle.vdi_directory.specs.Effects.{header_of, live_of, holder_of}
use Rattle.vdi_directory.specs.Known.{HasTagOf, IsHeaderOf}
use Rattle.vdi_directory.specs.States.{VdiState, Unused, Reserved, Working, Snapshot, Deleted, Freed, state_of, is_live_state}
use Rattle.cluster_script.specs.Writing.{policy_word}
use Rattle.vdi_directory.proofs.DecisionLaws.{live-is}
use Rattle.dog_report.specs.Words.{Words, hex, spaced_words}
use Rattle.dog_report.specs.Lists.{tag_word, state_words, vdi_words}
use Rattle.dog_report.specs.ListParts.{lines_text, header_tag_word, header_state_words, header_details}
use Rattle.dog_report.proofs.ListLemmas.{drop-at, drop-past, is-in, line-step}

-- the tag and the state of a live id, by its header's tag
abbrev TagTells : VdiState → List ℕ → Option Holder → Type 0
TagTells state tag holder = (tag_word state ≡ header_tag_word tag) × (state_words state holder ≡ header_state_words tag holder)

tag-tells : (state : VdiState) (tag : List ℕ) (holder : Option Holder) → is_live_state state ≡ true
    → HasTagOf state tag → TagTells state tag holder
tag-tells Unused tag holder live has = absurd (cc)
tag-tells (Reserved by) tag holder live has = absurd (cc)
tag-tells Working tag holder live has =
    (sym (ap header_tag_word has), sym (ap (λ tag. header_state_words tag holder) has))
tag-tells (Snapshot []) tag holder live has = absurd (omega (arith, has.1.0))
tag-tells (Snapshot (byte ∷ bytes)) tag holder live has =
    (sym (ap header_tag_word has.0), sym (ap (λ tag. header_state_words tag holder) has.0))
tag-tells Deleted tag holder live has = absurd (cc)
tag-tells Freed tag holder live has = absurd (cc)

-- a live id's line is that of its header
pub vdi_words-header : (entries : List Entry) (vid : ℕ) (header : Header) (holder : Option Holder)
    → header_of (log_effects entries) vid ≡ Some header
    → IsHeaderOf (log_effects entries) vid header → list_any (λ other. other == vid) (live_of (log_effects entries)) ≡ true
    → holder ≡ holder_of (log_effects entries) vid
    → codes "vdi" ∷ header_details vid header holder
    ≡ option_map_or (vdi_words (log_effects entries) vid) (header_of (log_effects entries) vid) []
vdi_words-header entries vid header holder there is live holds =
    let effects : List Effect = log_effects entries in
    let told : TagTells (state_of effects vid) header.tag holder
    = tag-tells (state_of effects vid) header.tag holder (sym (live-is entries vid) ∙ live) is.state in
    ap₂ (λ (tag : List ℕ) (state : Words). codes "vdi"
    ∷ hex 6 vid ∷ header.name ∷ tag ∷ decimal header.spec.size ∷ policy_word header.spec.policy
    ∷ decimal header.spec.shift ∷ hex 6 (option_map_or (λ (parent : Vid). parent.0) header.parent 0) ∷ state)
    (sym told.0) (sym told.1 ∙ ap (state_words (state_of effects vid)) holds)
    ∙ sym (ap (λ (found : Option Header). option_map_or (vdi_words effects vid) found []) there)

-- the id of a number
abbrev pub vid_numbered : ℕ → Vid
vid_numbered number = record { 0 = number }

-- the id at a place, as it is found
pub id-at : (live : List ℕ) (place : ℕ) (vid : Vid) → Some vid ≡ option_map vid_numbered (slice_get live place)
    → slice_get live place ≡ Some vid.0
id-at live place vid is = go (slice_get live place) is
  where
    go : (found : Option ℕ) → Some vid ≡ option_map vid_numbered found → found ≡ Some vid.0
    go None h = absurd (none-some _ (sym h))
    go (Some number) h = cc

-- it is a live one
pub live-at : (live : List ℕ) (place : ℕ) (vid : Vid) → Some vid ≡ option_map vid_numbered (slice_get live place)
    → list_any (λ other. other == vid.0) live ≡ true
live-at live place vid is = is-in live place vid.0 (id-at live place vid is)

-- its line is added: what was added, with the lines of the ids that are left, is all of them
pub live-step : (line_of : ℕ → Words) (live : List ℕ) (place next : ℕ) (vid : Vid) (old new all : List ℕ)
    → Some vid ≡ option_map vid_numbered (slice_get live place)
    → new ≡ old ++ spaced_words (line_of vid.0) ++ codes "\n"
    → next ≡ place + 1 → old ++ lines_text (map line_of (drop place live)) ≡ all → new ++ lines_text (map line_of (drop next live)) ≡ all
live-step line_of live place next vid old new all is told after kept =
    ap (λ (n : ℕ). new ++ lines_text (map line_of (drop n live))) after ∙
    line-step old new all (line_of vid.0) (map line_of (drop (place + 1) live)) told
    (ap (λ (ids : List ℕ). old ++ lines_text (map line_of ids)) (sym (drop-at live place vid.0 (id-at live place vid is))) ∙ kept)

-- past the last, all are added
pub live-end : (line_of : ℕ → Words) (live : List ℕ) (place : ℕ) (text all : List ℕ) → None ≡ option_map vid_numbered (slice_get live place)
    → text ++ lines_text (map line_of (drop place live)) ≡ all → text ≡ all
live-end line_of live place text all is kept = go (slice_get live place) refl is
  where
    go : (found : Option ℕ) → slice_get live place ≡ found → None ≡ option_map vid_numbered found → text ≡ all
    go None none h =
        sym (append-nil text) ∙ ap (λ (ids : List ℕ). text ++ lines_text (map line_of ids)) (sym (drop-past live place none)) ∙ kept
    go (Some number) there h = absurd (none-some _ h)

-- What the beginning of a step adds to the history keeps what blocks may be read as: it begins writes, and reads blocks.
use Rattle.std.proofs.Common.{◌≡◌, ℕ, Bool, true, List, [], ◌∷◌, ◌++◌, map, refl, sym, ap, ◌∙◌, append-nil}
use Rattle.std.specs.Prelude.{◌+◌}
use Rattle.std.specs.List.{list_all}
use Rattle.std.specs.List.{All as Each}
use Rattle.std.proofs.lemmas.List.Elements.{All-head, All-tail}
use Rattle.cluster_script.specs.declared.statement.Statement.{Statement}
use Rattle.disk_history.specs.declared.event.HistEvent.{HistEvent}
use Rattle.disk_history.specs.Ledger.{Ledger, ledger_after}
use Rattle.sheep_world.specs.World.{World}
use Rattle.sheep_world.specs.NodeCauses.{NodeCause}
use Rattle.vdi_directory.specs.declared.effect.Effect.{Effect}
use Rattle.overlap_law.specs.Attempts.{AttemptRecord}
use Rattle.overlap_law.specs.Headline.{ledger_of}
use Rattle.overlap_law.specs.HistoryGrowth.{added_at_cause}
use Rattle.overlap_law.specs.StayingBlocks.{KeepsBlocks, AllKeepBlocks, are_apart, GrowsKeeping}
use Rattle.overlap_law.specs.Words.{Hosts}
use Rattle.overlap_law.proofs.ClosedAdditions.{cause_adds}

module _ (effects : List Effect) (good_id : ℕ → Bool) (hosts : Hosts) (attempts : List AttemptRecord) where
  abbrev pub All : Ledger → List HistEvent → Type 0
  All = AllKeepBlocks effects good_id hosts attempts

  -- events that keep it of any ledger
  abbrev pub KeepAlways : List HistEvent → Type 0
  KeepAlways events = (ledger : Ledger) → All ledger events

  pub map_keep : {X : Type 0} (make : X → HistEvent)
      → ((x : X) (ledger : Ledger) → KeepsBlocks effects good_id hosts attempts ledger (make x)) → (xs : List X) → KeepAlways (map make xs)
  map_keep make each [] ledger = tt
  map_keep make each (x ∷ xs) ledger = (each x ledger, map_keep make each xs (ledger_after ledger (make x)))

  abbrev Kept : HistEvent → Type 0
  Kept event = (ledger : Ledger) → KeepsBlocks effects good_id hosts attempts ledger event

  in_turn : (events : List HistEvent) → Each Kept events → KeepAlways events
  in_turn [] each ledger = tt
  in_turn (event ∷ events) each ledger = (
    All-head Kept event events each ledger,
    in_turn events (All-tail Kept event events each) (ledger_after ledger event),
  )

  pub cause_keeps : (script : List Statement) (world : World) (cause : NodeCause) → KeepAlways (added_at_cause script world cause)
  cause_keeps script world cause =
      in_turn (added_at_cause script world cause)
      (cause_adds Kept (λ disk at bytes ledger. tt) script (λ req disk at coded bytes ledger. tt) world cause)

  -- a history that stays as it is
  pub nothing_keeps : (history : List HistEvent) → GrowsKeeping effects good_id hosts attempts history history
  nothing_keeps history = record {
    front = history;
    added = [];
    back = [];
    were = sym (append-nil history);
    now = sym (ap (λ (events : List HistEvent). events ++ []) (append-nil history) ∙ append-nil history);
    keep = tt;
    apart = refl;
  }

  -- or gets events at its end that keep what blocks may be read as
  pub end_keeps : (history added : List HistEvent) → AllKeepBlocks effects good_id hosts attempts (ledger_of history) added
      → GrowsKeeping effects good_id hosts attempts history (history ++ added)
  end_keeps history added keep = record {
    front = history;
    added = added;
    back = [];
    were = sym (append-nil history);
    now = sym (append-nil (history ++ added));
    keep = keep;
    apart = none_apart added;
  }
    where
      none_apart : (added : List HistEvent) → list_all (λ (one : HistEvent). list_all (are_apart one) []) added ≡ true
      none_apart [] = refl
      none_apart (one ∷ added) = none_apart added

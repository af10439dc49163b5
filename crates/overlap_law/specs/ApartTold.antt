-- Of what was told since an event began: a request has no item in a block of it.
use Rattle.std.specs.Prelude.{◌≡◌, ℕ, ◌++◌, Contains, List}
use Rattle.disk_history.specs.declared.event.HistEvent.{HistEvent}
use Rattle.disk_history.specs.declared.event.HistEvent.TheVariants.{Read}
use Rattle.overlap_law.specs.Headline.{ledger_of}
use Rattle.overlap_law.specs.Past.{MomentWithPast}
use Rattle.overlap_law.specs.ReadsToldApart.{HasNoItemIn}

-- a request has no item, in a moment on the way of an event, in a block that the history tells since the event began
abbrev pub IsApartFromTold : MomentWithPast → MomentWithPast → ℕ → Type 0
IsApartFromTold start before req = (grown : List HistEvent) → before.past.history ≡ start.past.history ++ grown → (vid block : ℕ)
    (bytes : List ℕ) → Contains grown (Read vid block bytes) → HasNoItemIn (ledger_of before.past.history) req vid block

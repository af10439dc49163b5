-- Which event a line spells.
use Rattle.std.specs.Prelude.{ℕ, ◌<◌, ◌^◌, ◌==◌, not, nat_lt, List, [], ◌∷◌, length, map, filter, bytes_eq, Option, All}
use Rattle.std.specs.List.{find, slice_split}
use Rattle.std.specs.Char.{is_ascii_digit}
use Rattle.std.specs.Str.Parse.{digits_value}
use Rattle.sheep_node.specs.declared.event.Event.{Event}
use Rattle.sheep_node.specs.declared.event.Event.TheVariants.{Guest, Deliver, LoseRequest, LoseReply, LogNext, Put, RecoverTick, RetryTick}
use Rattle.sheep_node.specs.declared.event.Event.TheVariants.{Lost, Leave, Join, Reweight, Back, Phase}
use Rattle.trace_text.specs.Spelling.{event_text}

-- the numbers that an event is named by
abbrev pub numbers_of : Event → List ℕ
numbers_of (Guest session) = session ∷ []
numbers_of (Deliver sender number) = sender.0 ∷ number ∷ []
numbers_of (LoseRequest sender number) = sender.0 ∷ number ∷ []
numbers_of (LoseReply sender number) = sender.0 ∷ number ∷ []
numbers_of (LogNext node) = node.0 ∷ []
numbers_of (Put node) = node.0 ∷ []
numbers_of (RecoverTick node) = node.0 ∷ []
numbers_of (RetryTick node) = node.0 ∷ []
numbers_of (Lost node) = node.0 ∷ []
numbers_of (Leave node) = node.0 ∷ []
numbers_of (Join node) = node.0 ∷ []
numbers_of (Reweight node) = node.0 ∷ []
numbers_of (Back node) = node.0 ∷ []
numbers_of Phase = []

-- the events that are named by these numbers
abbrev pub events_of : List ℕ → List Event
events_of [] = Phase ∷ []
events_of (number ∷ []) =
    Guest number ∷ LogNext (record { 0 = number }) ∷ Put (record { 0 = number }) ∷ RecoverTick (record { 0 = number })
    ∷ RetryTick (record { 0 = number }) ∷ Lost (record { 0 = number }) ∷ Leave (record { 0 = number })
    ∷ Join (record { 0 = number }) ∷ Reweight (record { 0 = number }) ∷ Back (record { 0 = number }) ∷ []
events_of (sender ∷ number ∷ []) =
    Deliver (record { 0 = sender }) number ∷ LoseRequest (record { 0 = sender }) number
    ∷ LoseReply (record { 0 = sender }) number ∷ []
events_of (sender ∷ number ∷ more ∷ rest) = []

-- the numbers below 2^32 that stand in a line: its longest parts of digits
abbrev pub numbers_in : List ℕ → List ℕ
numbers_in line =
    filter (λ number. nat_lt number (2 ^ 32))
    (map (digits_value 10)
    (filter (λ part. not (length part == 0)) (slice_split (λ byte. not (is_ascii_digit byte)) line)))

-- the event whose text a line is
unfoldable pub event_in : List ℕ → Option Event
event_in line = find (λ event. bytes_eq (event_text event) line) (events_of (numbers_in line))

-- the numbers of an event are below 2^32
abbrev pub IsNamed : Event → Type 0
IsNamed event = All (λ number. number < 2 ^ 32) (numbers_of event)

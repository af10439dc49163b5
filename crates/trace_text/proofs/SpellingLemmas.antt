-- A trace grows by a line for each event.
use Rattle.std.proofs.Common.{◌≡◌, ℕ, ◌+◌, ◌<◌, List, [], ◌++◌, length, get_or, take, codes, sym, ap, ◌∙◌}
use Rattle.std.proofs.lemmas.List.{take_more, flat_map_more}
use Rattle.sheep_node.specs.declared.event.Event.{Event}
use Rattle.trace_text.specs.Spelling.{event_text, trace_text_of}

pub one-more-event : (events : List Event) (i : ℕ) (event : Event) → i < length events
    → trace_text_of (take (i + 1) events) ≡ trace_text_of (take i events) ++ (event_text (get_or events i event) ++ codes "\n")
one-more-event events i event lt =
    ap trace_text_of (take_more events i event lt)
    ∙ sym (flat_map_more (λ (e : Event). event_text e ++ codes "\n") [] (take i events) (get_or events i event))

-- Reading undoes spelling.
use Rattle.std.proofs.Common.{◌≡◌, ◌↔◌, ℕ, ◌<◌, ◌^◌, Bool, true, false, cond, List, [], ◌∷◌, codes, decimal, bytes_eq, Option, Some, refl, sym, ap, subst, ◌∙◌, All}
use Rattle.std.specs.List.{find, AllByRecursion}
use Rattle.std.proofs.lemmas.Option.{same_Some}
use Rattle.std.proofs.lemmas.Slice.Eq.{bytes_eq-Decides}
use Rattle.sheep_node.specs.declared.event.Event.{Event}
use Rattle.sheep_node.specs.declared.event.Event.TheVariants.{Guest, Deliver, LoseRequest, LoseReply, LogNext, Put, RecoverTick, RetryTick, Lost, Leave, Join, Reweight, Back, Phase}
use Rattle.trace_text.specs.Spelling.{name_text, event_text}
use Rattle.trace_text.specs.EventReading.{numbers_of, events_of, numbers_in, event_in, IsNamed}
use Rattle.trace_text.proofs.NumberLemmas.{number_after, numbers_after, numbers-small, first-fits, second-fits}

-- an event's text has its numbers
text-numbers : (event : Event) → IsNamed event → numbers_in (event_text event) ≡ numbers_of event
text-numbers (Guest session) h = number_after (codes "guest ") session refl (first-fits session [] h)
text-numbers (Deliver sender number) h = numbers_after (codes "deliver ") sender.0 number refl (first-fits sender.0 (number ∷ []) h) (second-fits sender.0 number h)
text-numbers (LoseRequest sender number) h = numbers_after (codes "loserequest ") sender.0 number refl (first-fits sender.0 (number ∷ []) h) (second-fits sender.0 number h)
text-numbers (LoseReply sender number) h = numbers_after (codes "losereply ") sender.0 number refl (first-fits sender.0 (number ∷ []) h) (second-fits sender.0 number h)
text-numbers (LogNext node) h = number_after (codes "log ") node.0 refl (first-fits node.0 [] h)
text-numbers (Put node) h = number_after (codes "put ") node.0 refl (first-fits node.0 [] h)
text-numbers (RecoverTick node) h = number_after (codes "recover ") node.0 refl (first-fits node.0 [] h)
text-numbers (RetryTick node) h = number_after (codes "retry ") node.0 refl (first-fits node.0 [] h)
text-numbers (Lost node) h = number_after (codes "lost ") node.0 refl (first-fits node.0 [] h)
text-numbers (Leave node) h = number_after (codes "leave ") node.0 refl (first-fits node.0 [] h)
text-numbers (Join node) h = number_after (codes "join ") node.0 refl (first-fits node.0 [] h)
text-numbers (Reweight node) h = number_after (codes "reweight ") node.0 refl (first-fits node.0 [] h)
text-numbers (Back node) h = number_after (codes "back ") node.0 refl (first-fits node.0 [] h)
text-numbers Phase h = refl

same : (bytes : List ℕ) → bytes_eq bytes bytes ≡ true
same bytes = (bytes_eq-Decides bytes bytes).1 refl

-- of the events with its numbers an event is the first-fits of its text
found_again : (event : Event) → find (λ other. bytes_eq (event_text other) (event_text event)) (events_of (numbers_of event)) ≡ Some event
found_again (Guest session) = rw (same (decimal session)) refl
found_again (Deliver sender number) = rw (same (name_text sender number)) refl
found_again (LoseRequest sender number) = rw (same (name_text sender number)) refl
found_again (LoseReply sender number) = rw (same (name_text sender number)) refl
found_again (LogNext node) = rw (same (decimal node.0)) refl
found_again (Put node) = rw (same (decimal node.0)) refl
found_again (RecoverTick node) = rw (same (decimal node.0)) refl
found_again (RetryTick node) = rw (same (decimal node.0)) refl
found_again (Lost node) = rw (same (decimal node.0)) refl
found_again (Leave node) = rw (same (decimal node.0)) refl
found_again (Join node) = rw (same (decimal node.0)) refl
found_again (Reweight node) = rw (same (decimal node.0)) refl
found_again (Back node) = rw (same (decimal node.0)) refl
found_again Phase = refl

-- what is found passes the test, and is one of the list
module _ {X : Type 0} (test : X → Bool) (P : X → Type 0) where
  found_if : (x y : X) (b : Bool) (later : Option X) → test x ≡ b → P x → (later ≡ Some y → P y × (test y ≡ true))
      → cond b (Some x) later ≡ Some y → P y × (test y ≡ true)
  found_if x y true later e p from is = subst (λ (z : X). P z × (test z ≡ true)) (same_Some x y is) (p, e)
  found_if x y false later e p from is = from is

  pub found : (xs : List X) (y : X) → AllByRecursion P xs → find test xs ≡ Some y → P y × (test y ≡ true)
  found [] y all is = absurd (cc)
  found (x ∷ xs) y all is = found_if x y (test x) (find test xs) refl all.0 (found xs y all.1) is

pub events-named : (numbers : List ℕ) → AllByRecursion (λ event. numbers_of event ≡ numbers) (events_of numbers)
events-named [] = (refl, tt)
events-named (number ∷ []) = (refl, (refl, (refl, (refl, (refl, (refl, (refl, (refl, (refl, (refl, tt))))))))))
events-named (sender ∷ number ∷ []) = (refl, (refl, (refl, tt)))
events-named (sender ∷ number ∷ more ∷ rest) = tt

-- a line that is an event's text is read as this event
pub text-read : (event : Event) → IsNamed event → event_in (event_text event) ≡ Some event
unfolding event_in
text-read event h =
    ap (λ (numbers : List ℕ). find (λ other. bytes_eq (event_text other) (event_text event)) (events_of numbers)) (text-numbers event h)
    ∙ found_again event

-- and no other line is
pub read-text : (line : List ℕ) (event : Event) → event_in line ≡ Some event → (line ≡ event_text event) × IsNamed event
unfolding event_in
read-text line event is =
    let one : (numbers_of event ≡ numbers_in line) × (bytes_eq (event_text event) line ≡ true) =
    found (λ (other : Event). bytes_eq (event_text other) line) (λ other. numbers_of other ≡ numbers_in line)
    (events_of (numbers_in line)) event (events-named (numbers_in line)) is in (
      sym ((bytes_eq-Decides (event_text event) line).0 one.1),
      subst (λ (numbers : List ℕ). All (λ number. number < 2 ^ 32) numbers) (sym one.0) (numbers-small line),
    )

pub read-exactly : (line : List ℕ) (event : Event) → (event_in line ≡ Some event) ↔ ((line ≡ event_text event) × IsNamed event)
read-exactly line event =
    (read-text line event, λ spelled. ap event_in spelled.0 ∙ text-read event spelled.1)

-- one text is of one event
pub one-event : (one other : Event) → IsNamed one → IsNamed other → event_text one ≡ event_text other → one ≡ other
one-event one other h k is = same_Some one other (sym (text-read one h) ∙ ap event_in is ∙ text-read other k)

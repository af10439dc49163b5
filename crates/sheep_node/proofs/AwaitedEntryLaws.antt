-- A command waits for exactly the entry that its course wants.
use Rattle.std.proofs.Common.{◌≡◌, ◌↔◌, Bool, true, false, IsTrue, Option, Some, None, refl, ap, ◌∙◌}
use Rattle.std.specs.Option.{option_map_or}
use Rattle.object_id.specs.declared.entry.Entry.{Entry}
use Rattle.object_id.specs.Same.{is_same_entry}
use Rattle.object_id.proofs.SameLemmas.{entries_decided}
use Rattle.vdi_ops.specs.Op.{Op, entry_wanted}
use Rattle.sheep_node.specs.declared.course.Course.TheVariants.{Commanding}
use Rattle.sheep_node.specs.AwaitedEntry.{waits_for_entry}

pub waits_only : (entry : Entry) (op : Op) → waits_for_entry entry (Commanding op) ≡ true → entry_wanted op ≡ Some entry
waits_only entry op waits = by_wanted (entry_wanted op) refl waits
  where
    by_wanted : (o : Option Entry) → entry_wanted op ≡ o → option_map_or (λ (wanted : Entry). is_same_entry wanted entry) o false ≡ true
        → entry_wanted op ≡ Some entry
    by_wanted None is waits = absurd (cc (waits))
    by_wanted (Some wanted) is waits = is ∙ ap (λ (e : Entry). Some e) ((entries_decided wanted entry).0 waits)

pub waits_each : (entry : Entry) (op : Op) → entry_wanted op ≡ Some entry → waits_for_entry entry (Commanding op) ≡ true
waits_each entry op wanted =
    ap (λ (o : Option Entry). option_map_or (λ (wanted : Entry). is_same_entry wanted entry) o false) wanted
    ∙ (entries_decided entry entry).1 refl

-- so the command's own answer is the course's
pub waits_as_told : (told : Bool) (entry : Entry) (op : Op) → (IsTrue told ↔ (entry_wanted op ≡ Some entry))
    → told ≡ waits_for_entry entry (Commanding op)
waits_as_told told entry op says = by_answers told (waits_for_entry entry (Commanding op)) says refl
  where
    by_answers : (told waits : Bool) → (IsTrue told ↔ (entry_wanted op ≡ Some entry)) → waits_for_entry entry (Commanding op) ≡ waits → told ≡ waits
    by_answers true true says is = refl
    by_answers true false says is = absurd (cc (is, waits_each entry op (says.0 refl)))
    by_answers false true says is = absurd (cc (says.1 (waits_only entry op is)))
    by_answers false false says is = refl

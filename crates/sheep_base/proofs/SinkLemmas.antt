-- How the bytes that a sink was given add up over several calls.
use Rattle.std.proofs.Common.{ℕ, List, [], ◌++◌, None, Some, sym, ap, ◌∙◌, append_assoc, append-nil, Bool, IsTrue, IsFalse}
use Rattle.std.proofs.lemmas.Bool.{false≢true}
use Rattle.std.specs.Prelude.{Option}
use Rattle.sheep_base.specs.Sink.{Gains}

pub Gains-nil : (stops : Bool) (a : Option (List ℕ)) → Gains stops a a []
Gains-nil stops None = tt
Gains-nil stops (Some x) = sym (append-nil x)

-- no kind of sink both stops telling and begins to
not_both : (stops : Bool) → IsTrue stops → IsFalse stops → ⊥
not_both stops p q = false≢true (sym q ∙ p)

pub Gains-trans : (stops : Bool) (a b c : Option (List ℕ)) (bs cs : List ℕ) → Gains stops a b bs → Gains stops b c cs → Gains stops a c (bs ++ cs)
Gains-trans stops None None None bs cs p q = tt
Gains-trans stops None None (Some z) bs cs p q = q
Gains-trans stops None (Some y) None bs cs p q = tt
Gains-trans stops None (Some y) (Some z) bs cs p q = p
Gains-trans stops (Some x) None None bs cs p q = p
Gains-trans stops (Some x) None (Some z) bs cs p q = absurd (not_both stops p q)
Gains-trans stops (Some x) (Some y) None bs cs p q = q
Gains-trans stops (Some x) (Some y) (Some z) bs cs p q = q ∙ ap (λ l. l ++ cs) p ∙ append_assoc x bs cs

-- What is found of an epoch, and what one more epoch changes.
use Rattle.std.proofs.Common.{◌≡◌, ◌≢◌, ℕ, Bool, true, false, cond, List, [], ◌∷◌, ◌++◌, reverse, find, Option, Some, None, Bor, is_some, option_copied, IsTrue, refl, sym, ap, ap₂, ◌∙◌}
use Rattle.std.specs.Prelude.{◌==◌, ◌||◌}
use Rattle.std.proofs.lemmas.List.{reverse-append}
use Rattle.std.proofs.lemmas.Bool.{ne_eqb, eq-eqb}
use Rattle.object_id.specs.declared.entry.Member.{Member}
use Rattle.object_id.specs.declared.policy.Policy.{Policy}
use Rattle.object_id.specs.Oid.{kind_of}
use Rattle.object_id.specs.Policy.{wanted_of}
use Rattle.hash_ring.specs.Circle.{hash_of_object}
use Rattle.hash_ring.specs.Placement.{targets_of}
use Rattle.vnode_table.specs.Targets.{targets_in}
use Rattle.vnode_table.specs.Epochs.{EpochMembers, is_entered, members_at}
use Rattle.vnode_table.specs.Places.{is_of}

-- an epoch was entered exactly where its term is found
pub is_some-find : (terms : List EpochMembers) (epoch : ℕ) → is_some (find (is_of epoch) terms) ≡ is_entered terms epoch
is_some-find [] epoch = refl
is_some-find (t ∷ ts) epoch = go (t.epoch == epoch) (is_some-find ts epoch)
  where
    go : (b : Bool) → is_some (find (is_of epoch) ts) ≡ is_entered ts epoch
        → is_some (cond b (Some t) (find (is_of epoch) ts)) ≡ (b || is_entered ts epoch)
    go true e = refl
    go false e = e

-- the same of what a search by reference answers
pub is_some-found : (found : Option (Bor EpochMembers)) (epochs : List EpochMembers) (epoch : ℕ)
    → option_copied found ≡ find (is_of epoch) epochs → is_some found ≡ is_entered epochs epoch
is_some-found found epochs epoch e = copied found ∙ ap is_some e ∙ is_some-find epochs epoch
  where
    copied : (f : Option (Bor EpochMembers)) → is_some f ≡ is_some (option_copied f)
    copied None = refl
    copied (Some x) = refl

-- its members are then those of the term
pub members_at-find : (terms : List EpochMembers) (epoch : ℕ) (term : EpochMembers) → find (is_of epoch) terms ≡ Some term
    → members_at terms epoch ≡ term.members
members_at-find [] epoch term e = cc
members_at-find (t ∷ ts) epoch term e = go (t.epoch == epoch) e (λ f. members_at-find ts epoch term f)
  where
    go : (b : Bool) → cond b (Some t) (find (is_of epoch) ts) ≡ Some term
        → (find (is_of epoch) ts ≡ Some term → members_at ts epoch ≡ term.members)
        → cond b t.members (members_at ts epoch) ≡ term.members
    go true f ih = let same : t ≡ term = cc in ap (λ (u : EpochMembers). u.members) same
    go false f ih = ih f

pub members_at-found : (found : Bor EpochMembers) (epochs : List EpochMembers) (epoch : ℕ)
    → Some found.now ≡ find (is_of epoch) epochs → found.now.members ≡ members_at epochs epoch
members_at-found found epochs epoch e = sym (members_at-find epochs epoch found.now (sym e))

-- the targets by these members, hash and number are those of the object in the epoch
pub targets_in-parts : (epochs : List EpochMembers) (epoch oid : ℕ) (policy : Policy) (members : List Member) (hash wanted : ℕ)
    → members ≡ members_at epochs epoch → hash ≡ hash_of_object oid → wanted ≡ wanted_of policy (kind_of oid)
    → targets_of members hash wanted ≡ targets_in epochs epoch oid policy
unfolding targets_in
targets_in-parts epochs epoch oid policy members hash wanted m h w =
    ap (λ ms. targets_of ms hash wanted) m ∙ ap₂ (λ x n. targets_of (members_at epochs epoch) x n) h w

pub reverse-push : (terms : List EpochMembers) (term : EpochMembers) → reverse (terms ++ term ∷ []) ≡ term ∷ reverse terms
reverse-push terms term = reverse-append terms (term ∷ [])

pub members_at-other : (term : EpochMembers) (terms : List EpochMembers) (epoch : ℕ) → term.epoch ≢ epoch
    → members_at (term ∷ terms) epoch ≡ members_at terms epoch
members_at-other term terms epoch h =
    ap (λ b. cond b term.members (members_at terms epoch)) (ne_eqb term.epoch epoch h)

pub members_at-itself : (term : EpochMembers) (terms : List EpochMembers) → members_at (term ∷ terms) term.epoch ≡ term.members
members_at-itself term terms = ap (λ b. cond b term.members (members_at terms term.epoch)) (eq-eqb term.epoch term.epoch refl)

pub is_entered-more : (term : EpochMembers) (terms : List EpochMembers) (epoch : ℕ) → IsTrue (is_entered terms epoch)
    → IsTrue (is_entered (term ∷ terms) epoch)
is_entered-more term terms epoch h = go (term.epoch == epoch)
  where
    go : (b : Bool) → IsTrue (b || is_entered terms epoch)
    go true = refl
    go false = h

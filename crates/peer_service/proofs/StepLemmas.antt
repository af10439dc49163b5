-- What is pending once objects are pending no more.
use Rattle.std.proofs.Common.{◌≡◌, ◌≢◌, ℕ, Bool, true, false, not, cond, ◌==◌, ◌||◌, List, [], ◌∷◌, filter, Option, Some, None, refl, ap, sym, ◌∙◌, arith}
use Rattle.std.proofs.lemmas.Bool.Decides.{nat_tests}
use Rattle.std.specs.List.{list_any}
use Rattle.std.specs.Option.{option_map}
use Rattle.peer_proto.specs.declared.ask.PeerAsk.TheVariants as asks
use Rattle.object_store.specs.declared.key.Key.{Key}
use Rattle.peer_service.specs.State.{Peer, is_object_awaited, is_waiting}
use Rattle.peer_service.specs.Serve.{own_epoch_step}

abbrev has : ℕ → List ℕ → Bool
has oid oids = list_any (λ other. other == oid) oids

abbrev without : (ℕ → Bool) → List ℕ → List ℕ
without goes oids = filter (λ other. not (goes other)) oids

differ : (b : Bool) → b ≢ not b
differ true is = absurd (cc (is))
differ false is = absurd (cc (is))

-- one goes and the other doesn't, so they aren't the same
apart : (goes : ℕ → Bool) (first oid : ℕ) (b : Bool) → goes first ≡ b → goes oid ≡ not b → (first == oid) ≡ false
apart goes first oid b one other = go (first == oid) refl
  where
    go : (t : Bool) → (first == oid) ≡ t → t ≡ false
    go true is = let same : first ≡ oid = grind (arith, nat_tests) in absurd (differ b (sym one ∙ ap goes same ∙ other))
    go false is = refl

left_out : (goes : ℕ → Bool) (oid : ℕ) → goes oid ≡ true → (oids : List ℕ) → has oid (without goes oids) ≡ false
left_out goes oid out [] = refl
left_out goes oid out (first ∷ rest) = go (goes first) refl (left_out goes oid out rest)
  where
    go : (b : Bool) → goes first ≡ b → has oid (without goes rest) ≡ false → has oid (cond (not (goes first)) (first ∷ without goes rest) (without goes rest)) ≡ false
    go true is later = ap (λ b. has oid (cond (not b) (first ∷ without goes rest) (without goes rest))) is ∙ later
    go false is later =
        ap (λ b. has oid (cond (not b) (first ∷ without goes rest) (without goes rest))) is
        ∙ ap (λ b. b || has oid (without goes rest)) (apart goes first oid false is out) ∙ later

left_in : (goes : ℕ → Bool) (oid : ℕ) → goes oid ≡ false → (oids : List ℕ) → has oid (without goes oids) ≡ has oid oids
left_in goes oid in_still [] = refl
left_in goes oid in_still (first ∷ rest) = go (goes first) refl (left_in goes oid in_still rest)
  where
    go : (b : Bool) → goes first ≡ b → has oid (without goes rest) ≡ has oid rest
        → has oid (cond (not (goes first)) (first ∷ without goes rest) (without goes rest)) ≡ has oid (first ∷ rest)
    go true is later =
        ap (λ b. has oid (cond (not b) (first ∷ without goes rest) (without goes rest))) is ∙ later
        ∙ sym (ap (λ b. b || has oid rest) (apart goes first oid true is in_still))
    go false is later =
        ap (λ b. has oid (cond (not b) (first ∷ without goes rest) (without goes rest))) is
        ∙ ap (λ more. first == oid || more) later

-- an object that goes is waited for no more, once it is known what is pending
pub waits_no_more : (goes : ℕ → Bool) (oid : ℕ) (pending : Option (List ℕ)) (oids : List ℕ) → pending ≡ Some oids → goes oid ≡ true
    → is_object_awaited oid (option_map (without goes) pending) ≡ false
waits_no_more goes oid pending oids is out =
    ap (λ (p : Option (List ℕ)). is_object_awaited oid (option_map (without goes) p)) is ∙ left_out goes oid out oids

-- an object that doesn't go is waited for as before
pub waits_on : (goes : ℕ → Bool) (oid : ℕ) (pending : Option (List ℕ)) → goes oid ≡ false
    → is_object_awaited oid (option_map (without goes) pending) ≡ is_object_awaited oid pending
waits_on goes oid None stays = refl
waits_on goes oid (Some oids) stays = left_in goes oid stays oids

pub create_pending : (peer : Peer) (key : Key) (size offset : ℕ) (bytes oids : List ℕ) → peer.pending ≡ Some oids
    → is_waiting (own_epoch_step (asks.Create key size offset bytes) peer).peer key.oid ≡ false
unfolding own_epoch_step
create_pending peer key size offset bytes oids is =
    let same : (key.oid == key.oid) ≡ true = grind (arith, nat_tests) in
    waits_no_more (λ other. other == key.oid) key.oid peer.pending oids is same

pub create_others_pending : (peer : Peer) (key : Key) (size offset : ℕ) (bytes : List ℕ) (oid : ℕ) → oid ≢ key.oid
    → is_waiting (own_epoch_step (asks.Create key size offset bytes) peer).peer oid ≡ is_waiting peer oid
unfolding own_epoch_step
create_others_pending peer key size offset bytes oid other =
    waits_on (λ o. o == key.oid) oid peer.pending (go (oid == key.oid) refl)
  where
    go : (t : Bool) → (oid == key.oid) ≡ t → t ≡ false
    go true is = let same : oid ≡ key.oid = grind (arith, nat_tests) in absurd (other same)
    go false is = refl

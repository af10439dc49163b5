-- Each list that the program takes is taken by `clap`, and is read as the mode that it asks for.
use Rattle.std.proofs.Common.{arith, ◌≡◌, ◌∙◌, ◌==◌, ap, refl, sym, subst, ℕ, List, [], ◌∷◌, ◌++◌, Bool, true, false, ◌&&◌, Option, Some, None, codes, option_map, cond, take, drop}
use Rattle.std.specs.Str.{bytes_eq}
use Rattle.std.proofs.lemmas.Slice.Eq.{bytes_eq-Decides}
use Rattle.std.proofs.lemmas.List.{take-append-drop}
use Rattle.clap.specs.Words.{Text}
use Rattle.std.specs.Char.{is_ascii_digit}
use Rattle.sheep_words.specs.Mode.{number_meant, is_seed_word, is_trace_word, seed_meant, run_with, run_meant, replay_meant, gen_meant, live_meant, mode_meant}
use Rattle.std.specs.Option.{is_some}
use Rattle.clap.specs.Simple.{is_simple, subcommand_of}
use Rattle.clap.specs.Takes.{takes}
use Rattle.clap.proofs.OnLiterals.{clap_on_literals}
use Rattle.sheep_words.specs.Command.{sheep_app}
use Rattle.sheep_words.specs.Found.{mode_found}
use Rattle.sheep_words.proofs.DigitLemmas.{no_minus}
use Rattle.sheep_words.proofs.TakenWords.{ReadsAs, run_alone, run_trace, run_seed_is, run_seed_is_trace, run_trace_seed_is, run_seed, run_seed_trace, run_trace_seed, replay_alone, gen_number, live_alone, live_trace}
use Rattle.sheep_words.specs.declared.mode.Mode.{Mode}
use Rattle.sheep_words.specs.declared.mode.Mode.TheVariants.{Run, Gen, Live}

pub text_is : (a b : Text) → bytes_eq a b ≡ true → a ≡ b
text_is a b h = (bytes_eq-Decides a b).0 h

-- a number's text begins with a digit
abbrev Begins : Text → Type 0
Begins t = (d : ℕ) × (ds : Text) × (t ≡ d ∷ ds) × ((d == 45) ≡ false)

number_begins_by : (f : ℕ → Mode) (m : Mode) (t : Text) → option_map f (number_meant t) ≡ Some m → Begins t
number_begins_by f m [] h = absurd (cc)
number_begins_by f m (d ∷ ds) h = go (is_ascii_digit d) refl h
  where
    go : (b : Bool) → is_ascii_digit d ≡ b → option_map f (number_meant (d ∷ ds)) ≡ Some m → Begins (d ∷ ds)
    go true e h = (d, ds, refl, no_minus d e)
    go false e h = let none : option_map f (number_meant (d ∷ ds)) ≡ None = grind (arith, e) in absurd (cc)

-- `--seed=N` is that text and then N
abbrev IsSeed : (ℕ → Mode) → Mode → Text → Type 0
IsSeed f m a = (n : Text) × (a ≡ codes "--seed=" ++ n) × (option_map f (number_meant n) ≡ Some m)

seed_split : (f : ℕ → Mode) (m : Mode) (a : Text) → option_map f (seed_meant a) ≡ Some m → IsSeed f m a
seed_split f m a h = go (bytes_eq (take 7 a) (codes "--seed=")) refl h
  where
    go : (b : Bool) → bytes_eq (take 7 a) (codes "--seed=") ≡ b → option_map f (cond b (number_meant (drop 7 a)) None) ≡ Some m → IsSeed f m a
    go true e h = (drop 7 a, sym (take-append-drop 7 a) ∙ ap (λ t. t ++ drop 7 a) (text_is (take 7 a) (codes "--seed=") e), h)
    go false e h = absurd (cc)

-- ---- `run`

abbrev RunReads : List Text → Mode → Type 0
RunReads ws m = ReadsAs (codes "run" ∷ ws) (Some m)

given : (ws : List Text) (m : Mode) (o : Option Mode) → o ≡ Some m → ReadsAs ws o → ReadsAs ws (Some m)
given ws m o h r = subst (ReadsAs ws) h r

seed_word : (m : Mode) (a : Text) → IsSeed (λ n. Run n false) m a → RunReads (a ∷ []) m
seed_word m a s = subst (λ w. RunReads (w ∷ []) m) (sym s.1) (given _ m _ s.2 (run_seed_is s.0))

trace_seed_word : (m : Mode) (b : Text) → IsSeed (λ n. Run n true) m b → RunReads (codes "--trace" ∷ b ∷ []) m
trace_seed_word m b s = subst (λ w. RunReads (codes "--trace" ∷ w ∷ []) m) (sym s.1) (given _ m _ s.2 (run_trace_seed_is s.0))

seed_word_trace : (m : Mode) (a : Text) → IsSeed (λ n. Run n true) m a → RunReads (a ∷ codes "--trace" ∷ []) m
seed_word_trace m a s = subst (λ w. RunReads (w ∷ codes "--trace" ∷ []) m) (sym s.1) (given _ m _ s.2 (run_seed_is_trace s.0))

seed_two : (m : Mode) (b : Text) → run_with (number_meant b) false ≡ Some m → Begins b → RunReads (codes "--seed" ∷ b ∷ []) m
seed_two m b h g = subst (λ w. RunReads (codes "--seed" ∷ w ∷ []) m) (sym g.2)
    (given _ m _ (subst (λ w. run_with (number_meant w) false ≡ Some m) g.2 h) (run_seed g.0 g.1 g.3))

seed_two_trace : (m : Mode) (b : Text) → run_with (number_meant b) true ≡ Some m → Begins b → RunReads (codes "--seed" ∷ b ∷ codes "--trace" ∷ []) m
seed_two_trace m b h g = subst (λ w. RunReads (codes "--seed" ∷ w ∷ codes "--trace" ∷ []) m) (sym g.2)
    (given _ m _ (subst (λ w. run_with (number_meant w) true ≡ Some m) g.2 h) (run_seed_trace g.0 g.1 g.3))

trace_seed_two : (m : Mode) (b : Text) → run_with (number_meant b) true ≡ Some m → Begins b → RunReads (codes "--trace" ∷ codes "--seed" ∷ b ∷ []) m
trace_seed_two m b h g = subst (λ w. RunReads (codes "--trace" ∷ codes "--seed" ∷ w ∷ []) m) (sym g.2)
    (given _ m _ (subst (λ w. run_with (number_meant w) true ≡ Some m) g.2 h) (run_trace_seed g.0 g.1 g.3))

one_word : (a : Text) (m : Mode) (t : Bool) → is_trace_word a ≡ t
    → cond t (Some (Run 0 true)) (run_with (seed_meant a) false) ≡ Some m → RunReads (a ∷ []) m
one_word a m true e h = subst (λ w. RunReads (w ∷ []) m) (sym (text_is a (codes "--trace") e)) (given _ m _ h run_trace)
one_word a m false e h = seed_word m a (seed_split (λ n. Run n false) m a h)

two_words : (a b : Text) (m : Mode) (t u s : Bool) → is_trace_word a ≡ t → is_trace_word b ≡ u → is_seed_word a ≡ s
    → cond t (run_with (seed_meant b) true) (cond u (run_with (seed_meant a) true) (cond s (run_with (number_meant b) false) None)) ≡ Some m
    → RunReads (a ∷ b ∷ []) m
two_words a b m true u s e f g h = subst (λ w. RunReads (w ∷ b ∷ []) m) (sym (text_is a (codes "--trace") e)) (trace_seed_word m b (seed_split (λ n. Run n true) m b h))
two_words a b m false true s e f g h = subst (λ w. RunReads (a ∷ w ∷ []) m) (sym (text_is b (codes "--trace") f)) (seed_word_trace m a (seed_split (λ n. Run n true) m a h))
two_words a b m false false true e f g h = subst (λ w. RunReads (w ∷ b ∷ []) m) (sym (text_is a (codes "--seed") g)) (seed_two m b h (number_begins_by (λ n. Run n false) m b h))
two_words a b m false false false e f g h = absurd (cc)

seed_first : (a b c : Text) (m : Mode) (s v : Bool) → is_seed_word a ≡ s → is_trace_word c ≡ v
    → cond (s && v) (run_with (number_meant b) true) None ≡ Some m → RunReads (a ∷ b ∷ c ∷ []) m
seed_first a b c m true true g k h =
    subst (λ w. RunReads (w ∷ b ∷ c ∷ []) m) (sym (text_is a (codes "--seed") g))
    (subst (λ w. RunReads (codes "--seed" ∷ b ∷ w ∷ []) m) (sym (text_is c (codes "--trace") k)) (seed_two_trace m b h (number_begins_by (λ n. Run n true) m b h)))
seed_first a b c m true false g k h = absurd (cc)
seed_first a b c m false v g k h = absurd (cc)

three_words : (a b c : Text) (m : Mode) (t u : Bool) → is_trace_word a ≡ t → is_seed_word b ≡ u
    → cond (t && u) (run_with (number_meant c) true) (cond (is_seed_word a && is_trace_word c) (run_with (number_meant b) true) None) ≡ Some m
    → RunReads (a ∷ b ∷ c ∷ []) m
three_words a b c m true true e f h =
    subst (λ w. RunReads (w ∷ b ∷ c ∷ []) m) (sym (text_is a (codes "--trace") e))
    (subst (λ w. RunReads (codes "--trace" ∷ w ∷ c ∷ []) m) (sym (text_is b (codes "--seed") f)) (trace_seed_two m c h (number_begins_by (λ n. Run n true) m c h)))
three_words a b c m true false e f h = seed_first a b c m (is_seed_word a) (is_trace_word c) refl refl h
three_words a b c m false u e f h = seed_first a b c m (is_seed_word a) (is_trace_word c) refl refl h

run_agrees : (ws : List Text) (m : Mode) → run_meant ws ≡ Some m → RunReads ws m
run_agrees [] m h = given _ m _ h run_alone
run_agrees (a ∷ []) m h = one_word a m (is_trace_word a) refl h
run_agrees (a ∷ b ∷ []) m h = two_words a b m (is_trace_word a) (is_trace_word b) (is_seed_word a) refl refl refl h
run_agrees (a ∷ b ∷ c ∷ []) m h = three_words a b c m (is_trace_word a) (is_seed_word b) refl refl h
run_agrees (a ∷ b ∷ c ∷ d ∷ ws) m h = absurd (cc)

replay_agrees : (ws : List Text) (m : Mode) → replay_meant ws ≡ Some m → ReadsAs (codes "replay" ∷ ws) (Some m)
replay_agrees [] m h = given _ m _ h replay_alone
replay_agrees (a ∷ ws) m h = absurd (cc)

gen_agrees : (ws : List Text) (m : Mode) → gen_meant ws ≡ Some m → ReadsAs (codes "gen" ∷ ws) (Some m)
gen_agrees [] m h = absurd (cc)
gen_agrees (a ∷ []) m h =
    let g = number_begins_by Gen m a h in
    subst (λ w. ReadsAs (codes "gen" ∷ w ∷ []) (Some m)) (sym g.2)
    (given _ m _ (subst (λ w. option_map Gen (number_meant w) ≡ Some m) g.2 h) (gen_number g.0 g.1 g.3))
gen_agrees (a ∷ b ∷ ws) m h = absurd (cc)

live_word : (a : Text) (m : Mode) (t : Bool) → is_trace_word a ≡ t → cond t (Some (Live true)) None ≡ Some m → ReadsAs (codes "live" ∷ a ∷ []) (Some m)
live_word a m true e h = subst (λ w. ReadsAs (codes "live" ∷ w ∷ []) (Some m)) (sym (text_is a (codes "--trace") e)) (given _ m _ h live_trace)
live_word a m false e h = absurd (cc)

live_agrees : (ws : List Text) (m : Mode) → live_meant ws ≡ Some m → ReadsAs (codes "live" ∷ ws) (Some m)
live_agrees [] m h = given _ m _ h live_alone
live_agrees (a ∷ []) m h = live_word a m (is_trace_word a) refl h
live_agrees (a ∷ b ∷ ws) m h = absurd (cc)

first_word : (w : Text) (ws : List Text) (m : Mode) (r p g l : Bool)
    → bytes_eq w (codes "run") ≡ r → bytes_eq w (codes "replay") ≡ p → bytes_eq w (codes "gen") ≡ g → bytes_eq w (codes "live") ≡ l
    → cond r (run_meant ws) (cond p (replay_meant ws) (cond g (gen_meant ws) (cond l (live_meant ws) None))) ≡ Some m
    → ReadsAs (w ∷ ws) (Some m)
first_word w ws m true p g l a b c d h = subst (λ x. ReadsAs (x ∷ ws) (Some m)) (sym (text_is w (codes "run") a)) (run_agrees ws m h)
first_word w ws m false true g l a b c d h = subst (λ x. ReadsAs (x ∷ ws) (Some m)) (sym (text_is w (codes "replay") b)) (replay_agrees ws m h)
first_word w ws m false false true l a b c d h = subst (λ x. ReadsAs (x ∷ ws) (Some m)) (sym (text_is w (codes "gen") c)) (gen_agrees ws m h)
first_word w ws m false false false true a b c d h = subst (λ x. ReadsAs (x ∷ ws) (Some m)) (sym (text_is w (codes "live") d)) (live_agrees ws m h)
first_word w ws m false false false false a b c d h = absurd (cc)

pub agrees : (words : List Text) (m : Mode) → mode_meant words ≡ Some m → ReadsAs words (Some m)
agrees [] m h = absurd (cc)
agrees (w ∷ ws) m h = first_word w ws m (bytes_eq w (codes "run")) (bytes_eq w (codes "replay")) (bytes_eq w (codes "gen")) (bytes_eq w (codes "live")) refl refl refl refl h

-- where the list means a mode, what clap gives means the same
pub read_exactly : (words : List Text) → is_some (mode_meant words) ≡ true → mode_found (subcommand_of sheep_app words) ≡ mode_meant words
read_exactly words h = go (mode_meant words) refl h
  where
    go : (o : Option Mode) → mode_meant words ≡ o → is_some o ≡ true → mode_found (subcommand_of sheep_app words) ≡ mode_meant words
    go None e s = absurd (cc)
    go (Some m) e s = (agrees words m e).read ∙ sym e

-- where clap refuses for more than memory, the list means none
pub refused_means_none : (words : List Text) → ¬ (takes sheep_app words ≡ true) → None ≡ mode_meant words
refused_means_none words h = go (mode_meant words) refl
  where
    go : (o : Option Mode) → mode_meant words ≡ o → None ≡ mode_meant words
    go None e = sym e
    go (Some m) e = absurd (h (agrees words m e).taken)

pub sheep_is_simple : is_simple sheep_app ≡ true
unfolding clap_on_literals
sheep_is_simple = refl

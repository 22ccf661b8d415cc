-- Names that are read: those of clean words are sound, those of taxa differ, and what holds of the words holds of the names. Assumes nothing.
use Prim.Native.Nat.{ℕ}
use Rattle.block.proofs.OutcomeLaws.{then-done, need-done, pick-else, done_inj, All, all_one, all_left, fold-keeps}
use Rattle.block.specs.Names.{known, add_name, name_turn, unique_names}
use Rattle.block.specs.Outcome.{done, need}
use Rattle.block.specs.Sound.{no_underscore, no_return, not_blank, sound_name, sound_names, names_differ}
use Rattle.block.specs.TaxonOrder.{TokenNamed, all_named}
use Rattle.lexer.proofs.Basics.{and_left, and_right, and_both, or-both, or_left, or_right, alike-sym}
use Rattle.lexer.proofs.LabelLaws.{label-parts}
use Rattle.lexer.proofs.TokensClean.{clean-text}
use Rattle.lexer.specs.Base.{alike}
use Rattle.lexer.specs.Words.{Numbered, label}
use Rattle.lexer.specs.declared.refusal.Refusal.{Refusal}
use borrow.Author.Tests.{not-true}
use mathlib.Core.Bool.{true, false, not}
use mathlib.Core.List.{List, [], ◌∷◌, ◌++◌, Memᴰ}
use mathlib.Core.Option.{some}
use mathlib.Core.Path.{◌≡◌, refl, ◌∙◌}

-- A word whose text is UTF-8 without a CR.
abbrev pub Clean : Numbered → Type 0
Clean w = clean-text w.token.text ≡ true

pub label-sound : (w : Numbered) (n : List ℕ) → Clean w → label w ≡ some n → sound_name n ≡ true
unfolding sound_name no_underscore no_return not_blank
label-sound w n c h =
    let p = label-parts w n h c in
    and_both (and_both (and_both p.utf (rw p.unlined)) (rw p.returnless)) p.marked

known-one : (m : List ℕ) (names : List (List ℕ)) (n : List ℕ) → known m names ≡ false → alike m n ≡ false → known m (names ++ (n ∷ [])) ≡ false
unfolding known
known-one m [] n h a = or-both a refl
known-one m (k ∷ r) n h a = or-both (or_left (alike m k) (known m r) h) (known-one m r n (or_right (alike m k) (known m r) h) a)

names-differ-one : (names : List (List ℕ)) (n : List ℕ) → names_differ names ≡ true → known n names ≡ false → names_differ (names ++ (n ∷ [])) ≡ true
unfolding names_differ known
names-differ-one [] n h k = refl
names-differ-one (m ∷ r) n h k =
    let unlike = alike-sym m n ∙ or_left (alike n m) (known n r) k in
    let new : not (known m (r ++ (n ∷ []))) ≡ true =
    rw (known-one m r n (not-true (known m r) (and_left (not (known m r)) (names_differ r) h)) unlike)
    in
    and_both new (names-differ-one r n (and_right (not (known m r)) (names_differ r) h) (or_right (alike n m) (known n r) k))

-- Names of taxa: something holds of each, and no two are alike.
pub record Named (N : List ℕ → Type 0) (names : List (List ℕ)) : Type 0 where
  pub each : All N names
  pub differ : names_differ names ≡ true

-- Where the first holds of a word that is a name, the second holds of the name.
abbrev pub Names : (Numbered → Type 0) → (List ℕ → Type 0) → Type 0
Names Q N = (w : Numbered) (n : List ℕ) → Q w → label w ≡ some n → N n

abbrev pub SoundName : List ℕ → Type 0
SoundName n = sound_name n ≡ true

pub all_sound : (names : List (List ℕ)) → All SoundName names → sound_names names ≡ true
unfolding sound_names
all_sound [] p = refl
all_sound (n ∷ r) p = and_both p.0 (all_sound r p.1)

-- A part of names that differ.
known-left : (n : List ℕ) (l r : List (List ℕ)) → known n (l ++ r) ≡ false → known n l ≡ false
unfolding known
known-left n [] r h = refl
known-left n (m ∷ l) r h = or-both (or_left (alike n m) (known n (l ++ r)) h) (known-left n l r (or_right (alike n m) (known n (l ++ r)) h))

names-differ-left : (l r : List (List ℕ)) → names_differ (l ++ r) ≡ true → names_differ l ≡ true
unfolding names_differ
names-differ-left [] r h = refl
names-differ-left (m ∷ l) r h =
    let new : not (known m l) ≡ true =
    rw (known-left m l r (not-true (known m (l ++ r)) (and_left (not (known m (l ++ r))) (names_differ (l ++ r)) h)))
    in
    and_both new (names-differ-left l r (and_right (not (known m (l ++ r))) (names_differ (l ++ r)) h))

module _ (N : List ℕ → Type 0) where
  pub named_none : Named N []
  unfolding names_differ
  named_none = record { each = tt; differ = refl }

  pub named-one : (names : List (List ℕ)) (n : List ℕ) → Named N names → N n → known n names ≡ false → Named N (names ++ (n ∷ []))
  named-one names n h p k = record { each = all_one N names n h.each p; differ = names-differ-one names n h.differ k }

  pub named-left : (l r : List (List ℕ)) → Named N (l ++ r) → Named N l
  named-left l r h = record { each = all_left N l r h.each; differ = names-differ-left l r h.differ }

  pub named-right : (l r : List (List ℕ)) → Named N (l ++ r) → Named N r
  unfolding names_differ
  named-right [] r h = h
  named-right (m ∷ l) r h =
      named-right l r (record { each = h.each.1; differ = and_right (not (known m (l ++ r))) (names_differ (l ++ r)) h.differ })

  module _ (Q : Numbered → Type 0) (name : Names Q N) where
    -- a word that must be a name
    pub need-named : (w : Numbered) (i : ℕ) (n : List ℕ) → Q w → need (label w) Refusal.NotName i ≡ done n → N n
    need-named w i n q h = name w n q (need-done (label w) Refusal.NotName i n h)

    name-turn-named : (names : List (List ℕ)) (w : Numbered) (out : List (List ℕ)) → Named N names → Q w → name_turn names w ≡ done out → Named N out
    unfolding name_turn add_name
    name-turn-named names w out p q h =
        let l = then-done (need (label w) Refusal.NotName w.index) (λ n. add_name names w n) out h in
        let k = pick-else (known l.0 names) Refusal.TaxonTwice w.index (done (names ++ (l.0 ∷ []))) out l.2 in
        rw (← done_inj k.1) (named-one names l.0 p (need-named w w.index l.0 q l.1) k.0)

    pub unique-names-named : (ws : List Numbered) (names : List (List ℕ)) → All Q ws → unique_names ws ≡ done names → Named N names
    unfolding unique_names
    unique-names-named ws names q h = fold-keeps (Named N) Q name_turn name-turn-named [] ws names named_none q h

-- The name of a word among these tokens is that of one of them.
pub token-named : (ws : List Numbered) → Names (λ w. Memᴰ w ws) (TokenNamed ws)
token-named ws w n q h = record { token = w; among = q; named = h }

pub all-named : (ws : List Numbered) (texts : List (List ℕ)) → All (TokenNamed ws) texts → all_named ws texts
unfolding all_named
all-named ws [] p = tt
all-named ws (n ∷ r) p = (p.0, all-named ws r p.1)

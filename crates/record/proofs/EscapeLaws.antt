-- Names and labels in a record: escapes are read back, hold no LF, and are the only spelling of a text. Assumes nothing.
use Prim.Native.Nat.{ℕ}
use Rattle.lexer.proofs.Basics.{or-both, or_left, or_right, among-append}
use Rattle.lexer.specs.Base.{pick, among}
use Rattle.record.specs.Spell.{escape, escaped}
use Rattle.record.specs.Unspell.{with_byte, unescaped}
use borrow.Author.Tests.{eqb-true, eqb-false, ne_eqb}
use lib.Dec.{eqb}
use mathlib.Core.Bool.{Bool, true, false, ◌||◌}
use mathlib.Core.List.{List, [], ◌∷◌, ◌++◌}
use mathlib.Core.Option.{Option, none, some, none-ne-some, some-injective}
use mathlib.Core.Path.{◌≡◌, refl, sym, ap, ◌∙◌}

-- One byte, whatever stands behind it
unescaped-plain : (b : ℕ) (r : List ℕ) → eqb b 92 ≡ false → unescaped (b ∷ r) ≡ with_byte b (unescaped r)
unfolding unescaped with_byte pick
unescaped-plain b [] h = rw h
unescaped-plain b (c ∷ r) h = rw h

escape-read : (b : ℕ) (r : List ℕ) → unescaped (escape b ++ r) ≡ with_byte b (unescaped r)
unfolding escape unescaped pick
escape-read b r = go (eqb b 10) refl (eqb b 92) refl
  where
    go : (t : Bool) → eqb b 10 ≡ t → (u : Bool) → eqb b 92 ≡ u
        → unescaped (pick t (92 ∷ 48 ∷ []) (pick u (92 ∷ 49 ∷ []) (b ∷ [])) ++ r) ≡ with_byte b (unescaped r)
    go true e u f = ap (λ x. with_byte x (unescaped r)) (sym (eqb-true b 10 e))
    go false e true f = ap (λ x. with_byte x (unescaped r)) (sym (eqb-true b 92 f))
    go false e false f = unescaped-plain b r f

escape-clean : (b : ℕ) → among 10 (escape b) ≡ false
unfolding escape among pick
escape-clean b = go (eqb b 10) refl (eqb b 92)
  where
    go : (t : Bool) → eqb b 10 ≡ t → (u : Bool) → among 10 (pick t (92 ∷ 48 ∷ []) (pick u (92 ∷ 49 ∷ []) (b ∷ []))) ≡ false
    go true e u = refl
    go false e true = refl
    go false e false = or-both (ne_eqb 10 b (λ q. eqb-false b 10 e (sym q))) refl

pub unescaped-escaped : (n : List ℕ) → unescaped (escaped n) ≡ some n
unfolding escaped unescaped with_byte
unescaped-escaped [] = refl
unescaped-escaped (b ∷ r) = rw (escape-read b (escaped r), unescaped-escaped r)

pub escaped-clean : (n : List ℕ) → among 10 (escaped n) ≡ false
unfolding escaped among
escaped-clean [] = refl
escaped-clean (b ∷ r) = among-append 10 (escape b) (escaped r) ∙ or-both (escape-clean b) (escaped-clean r)

-- A byte read in front of a rest that is spelled as it is read
escaped-more : (b : ℕ) (r n : List ℕ) → ((m : List ℕ) → unescaped r ≡ some m → escaped m ≡ r) → with_byte b (unescaped r) ≡ some n
    → escaped n ≡ escape b ++ r
unfolding escaped with_byte
escaped-more b r n spelled h = go (unescaped r) spelled h
  where
    go : (o : Option (List ℕ)) → ((m : List ℕ) → o ≡ some m → escaped m ≡ r) → with_byte b o ≡ some n → escaped n ≡ escape b ++ r
    go none f g = absurd (none-ne-some n g)
    go (some m) f g = rw (← some-injective _ n g, f m refl)

escaped-plain : (b : ℕ) (r n : List ℕ) → ((m : List ℕ) → unescaped r ≡ some m → escaped m ≡ r) → eqb 10 b ≡ false → eqb b 92 ≡ false
    → unescaped (b ∷ r) ≡ some n → escaped n ≡ b ∷ r
unfolding escape pick
escaped-plain b r n spelled e f h =
    let plain : escape b ≡ b ∷ [] = rw (ne_eqb b 10 (λ q. eqb-false 10 b e (sym q)), f) in
    escaped-more b r n spelled (sym (unescaped-plain b r f) ∙ h) ∙ ap (λ x. x ++ r) plain

escaped-pair : (c : ℕ) (r n : List ℕ) → ((m : List ℕ) → unescaped r ≡ some m → escaped m ≡ r) → unescaped (92 ∷ c ∷ r) ≡ some n
    → escaped n ≡ 92 ∷ c ∷ r
unfolding unescaped escape pick
escaped-pair c r n spelled h = go (eqb c 48) refl (eqb c 49) refl h
  where
    go : (t : Bool) → eqb c 48 ≡ t → (u : Bool) → eqb c 49 ≡ u
        → pick t (with_byte 10 (unescaped r)) (pick u (with_byte 92 (unescaped r)) none) ≡ some n → escaped n ≡ 92 ∷ c ∷ r
    go true e u f g = rw (eqb-true c 48 e) (escaped-more 10 r n spelled g)
    go false e true f g = rw (eqb-true c 49 f) (escaped-more 92 r n spelled g)
    go false e false f g = absurd (none-ne-some n g)

pub escaped-unescaped : (v n : List ℕ) → among 10 v ≡ false → unescaped v ≡ some n → escaped n ≡ v
unfolding escaped unescaped pick among
escaped-unescaped [] n clean h = rw (← some-injective _ n h)
escaped-unescaped (b ∷ []) n clean h = go (eqb b 92) refl h
  where
    go : (t : Bool) → eqb b 92 ≡ t → pick t none (some (b ∷ [])) ≡ some n → escaped n ≡ b ∷ []
    go true e g = absurd (none-ne-some n g)
    go false e g = escaped-plain b [] n (λ m q. rw (← some-injective _ m q)) (or_left _ false clean) e h
escaped-unescaped (b ∷ c ∷ r) n clean h = go (escaped-unescaped r) (escaped-unescaped (c ∷ r)) (eqb b 92) refl
  where
    go : ((m : List ℕ) → among 10 r ≡ false → unescaped r ≡ some m → escaped m ≡ r)
        → ((m : List ℕ) → among 10 (c ∷ r) ≡ false → unescaped (c ∷ r) ≡ some m → escaped m ≡ c ∷ r) → (t : Bool) → eqb b 92 ≡ t
        → escaped n ≡ b ∷ c ∷ r
    go two one true e =
        let q : b ≡ 92 = eqb-true b 92 e in
        rw q (escaped-pair c r n (λ m w. two m (or_right (eqb 10 c) _ (or_right (eqb 10 b) _ clean)) w) (sym (ap (λ x. unescaped (x ∷ c ∷ r)) q) ∙ h))
    go two one false e = escaped-plain b (c ∷ r) n (λ m q. one m (or_right (eqb 10 b) _ clean) q) (or_left _ (eqb 10 c || among 10 r) clean) e h

-- A line of escaped bytes by its first byte: an LF ends it, a backslash and the byte behind it are one byte of its text, any other byte is itself.
-- Assumes nothing.
use Prim.Native.Nat.{ℕ, ◌<◌}
use Rattle.judging.specs.NameRest.{unescape}
use Rattle.lexer.proofs.Basics.{by-test, chosen}
use Rattle.lexer.specs.Base.{pick}
use Rattle.record.specs.Spell.{escape, escaped}
use borrow.Author.Tests.{eqb-true, eqb-false}
use lib.Dec.{eqb, lit<}
use lib.ListN.{get_or}
use mathlib.Core.Bool.{Bool, true, false}
use mathlib.Core.List.{List, [], ◌∷◌, ◌++◌}
use mathlib.Core.Path.{◌≡◌, refl, sym, ◌∙◌}
use native.Mathlib.Omega.{arith}

-- A text escaped, with the LF behind it.
abbrev pub ended : List ℕ → List ℕ
ended n = escaped n ++ (10 ∷ [])

-- What a backslash before a byte means is an ASCII byte.
pub unescape-ascii : (y : ℕ) → unescape y < 128
unfolding unescape
unescape-ascii y = chosen (λ d. d < 128) (eqb y 48) (λ t. lit< tt) (λ f. chosen (λ d. d < 128) (eqb y 49) (λ t. lit< tt) (λ g. lit< tt))

-- A byte other than LF and the backslash is not escaped.
pub plain-escaped : (c : ℕ) (n : List ℕ) → eqb c 10 ≡ false → eqb c 92 ≡ false → escaped (c ∷ n) ≡ c ∷ escaped n
unfolding escaped escape pick
plain-escaped c n p q = rw (p, q)

-- What a backslash before a byte means is escaped so.
pub slash-escaped : (y : ℕ) (n : List ℕ) → (unescape y ≡ 0 → ⊥) → escaped (unescape y ∷ n) ≡ 92 ∷ y ∷ escaped n
unfolding escaped escape unescape pick
slash-escaped y n some =
    by-test (eqb y 48)
    (λ p. rw (eqb-true y 48 p))
    (λ p. by-test (eqb y 49) (λ q. rw (eqb-true y 49 q)) (λ q. absurd (some (rw (p, q)))))

-- A line whose text begins with a byte: it begins with a backslash and a byte that mean it, or with it. What holds of both holds of the line.
pub escaped-cases : (P : List ℕ → Type 0) (x : ℕ) (m rest : List ℕ) → ((y : ℕ) (t : List ℕ) → x ≡ unescape y → (unescape y ≡ 0 → ⊥) → P (92 ∷ y ∷ t))
    → (eqb x 10 ≡ false → eqb x 92 ≡ false → P (x ∷ (ended m ++ rest))) → P (ended (x ∷ m) ++ rest)
unfolding escaped escape unescape pick
escaped-cases P x m rest slash plain = go (eqb x 10) refl (eqb x 92) refl
  where
    go : (u : Bool) → eqb x 10 ≡ u → (v : Bool) → eqb x 92 ≡ v
        → P (((pick u (92 ∷ 48 ∷ []) (pick v (92 ∷ 49 ∷ []) (x ∷ [])) ++ escaped m) ++ (10 ∷ [])) ++ rest)
    go true p v q = slash 48 _ (eqb-true x 10 p) (λ z. omega arith)
    go false p true q = slash 49 _ (eqb-true x 92 q) (λ z. omega arith)
    go false p false q = plain p q

-- A line is not empty.
some_bytes : (c : ℕ) (l : List ℕ) → [] ≡ c ∷ l → ⊥
some_bytes c l e = let z : ◌≡◌ {A = ℕ} 0 1 = cc in omega arith

pub no-line : (n rest : List ℕ) → [] ≡ ended n ++ rest → ⊥
unfolding escaped
no-line [] rest e = some_bytes 10 rest e
no-line (x ∷ m) rest e = escaped-cases (λ l. [] ≡ l → ⊥) x m rest (λ y t meant some. some_bytes 92 (y ∷ t)) (λ p q. some_bytes x (ended m ++ rest)) e

-- What is known of a line's text by the line's first byte, and the bytes behind that.
pub record Front (c : ℕ) (t n : List ℕ) : Type 0 where
  pub line-end : c ≡ 10 → n ≡ []
  pub plain : eqb c 10 ≡ false → eqb c 92 ≡ false → (m : List ℕ) × (n ≡ c ∷ m)
  pub slash : c ≡ 92 → (m : List ℕ) × (n ≡ unescape (get_or t 0 0) ∷ m) × (unescape (get_or t 0 0) ≡ 0 → ⊥)

pub front : (c : ℕ) (t n rest : List ℕ) → c ∷ t ≡ ended n ++ rest → Front c t n
unfolding escaped
front c t [] rest e =
    let ten : c ≡ 10 = cc in
    record { line-end = λ q. refl; plain = λ p q. absurd (eqb-false c 10 p ten); slash = λ q. absurd (omega arith) }
front c t (x ∷ m) rest e = escaped-cases (λ l. c ∷ t ≡ l → Front c t (x ∷ m)) x m rest escape itself e
  where
    escape : (y : ℕ) (r : List ℕ) → x ≡ unescape y → (unescape y ≡ 0 → ⊥) → c ∷ t ≡ 92 ∷ y ∷ r → Front c t (x ∷ m)
    escape y r meant some e =
        let first : c ≡ 92 = cc in
        let second : t ≡ y ∷ r = cc in
        record {
          line-end = λ q. absurd (omega arith);
          plain = λ p q. absurd (eqb-false c 92 q first);
          slash = λ q. rw second (m, cc, some);
        }

    itself : eqb x 10 ≡ false → eqb x 92 ≡ false → c ∷ t ≡ x ∷ (ended m ++ rest) → Front c t (x ∷ m)
    itself p q e =
        let same : c ≡ x = cc in
        record {
          line-end = λ f. absurd (eqb-false x 10 p (sym same ∙ f));
          plain = λ f g. (m, cc);
          slash = λ f. absurd (eqb-false x 92 q (sym same ∙ f));
        }

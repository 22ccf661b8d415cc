-- A name and its escaped line: byte by byte, and that names are alike exactly where their escaped bytes are. Assumes nothing.
use Rattle.std.specs.Prelude.{Some, None, Option}
use Prim.Native.Nat.{ℕ, ◌+◌, ◌≤◌, ◌<◌}
use Rattle.lexer.proofs.ListLaws.{drop-next}
use Rattle.lexer.specs.Base.{pick, alike, lower}
use Rattle.naming.proofs.LikeLaws.{ended-like, first-unlike, first-like, first-within}
use Rattle.naming.proofs.LineLaws.{before-end, line-front, lower-mark}
use Rattle.naming.specs.Lines.{line_at, BytesLike}
use Rattle.naming.specs.Rows.{NameLike}
use Rattle.record.proofs.EscapeLaws.{escaped-clean}
use Rattle.record.specs.Spell.{escape, escaped}
use borrow.Author.Tests.{eqb-true, eqb-false, ne_eqb}
use lib.Dec.{eqb, lit<}
use lib.ListN.{length, get_or, drop, drop_of_length-le}
use mathlib.Core.Bool.{Bool, true, false, ◌&&◌}
use mathlib.Core.List.{List, [], ◌∷◌, ◌++◌}
use mathlib.Core.Path.{◌≡◌, refl, sym, ap, ◌∙◌}
use native.Mathlib.Omega.{arith}

-- Two names by their first bytes, each of which is an LF, a backslash, or another byte.
module _ (a b : ℕ) (l r : List ℕ) (more : alike (escaped l) (escaped r) ≡ alike l r) where
  abbrev first-of : Bool → Bool → ℕ → List ℕ
  first-of t u c = pick t (92 ∷ 48 ∷ []) (pick u (92 ∷ 49 ∷ []) (c ∷ []))

  other-than : (c k : ℕ) → k < 97 → eqb c k ≡ false → eqb k (lower c) ≡ false
  other-than c k h e = ne_eqb k (lower c) (λ q. eqb-false c k e (lower-mark c k h (sym q)))

  than-other : (c k : ℕ) → k < 97 → eqb c k ≡ false → eqb (lower c) k ≡ false
  than-other c k h e = ne_eqb (lower c) k (λ q. eqb-false c k e (lower-mark c k h q))

  both_false : (p q x y : Bool) → p ≡ false → q ≡ false → p && x ≡ q && y
  both_false p q x y e f = rw (e, f)

  firsts-alike : (t u v w : Bool) → eqb a 10 ≡ t → eqb a 92 ≡ u → eqb b 10 ≡ v → eqb b 92 ≡ w
      → alike (first-of t u a ++ escaped l) (first-of v w b ++ escaped r) ≡ alike (a ∷ l) (b ∷ r)
  unfolding alike lower pick
  firsts-alike true u true w p q f g = rw (eqb-true a 10 p, eqb-true b 10 f) more
  firsts-alike true u false true p q f g = rw (eqb-true a 10 p, eqb-true b 92 g)
  firsts-alike true u false false p q f g = rw (eqb-true a 10 p) (both_false _ _ _ (alike l r) (other-than b 92 (lit< tt) g) (other-than b 10 (lit< tt) f))
  firsts-alike false true true w p q f g = rw (eqb-true a 92 q, eqb-true b 10 f)
  firsts-alike false true false true p q f g = rw (eqb-true a 92 q, eqb-true b 92 g) more
  firsts-alike false true false false p q f g = rw (eqb-true a 92 q) (both_false _ _ _ (alike l r) (other-than b 92 (lit< tt) g) (other-than b 92 (lit< tt) g))
  firsts-alike false false true w p q f g = rw (eqb-true b 10 f) (both_false _ _ _ (alike l r) (than-other a 92 (lit< tt) q) (than-other a 10 (lit< tt) p))
  firsts-alike false false false true p q f g = rw (eqb-true b 92 g) (both_false _ _ _ (alike l r) (than-other a 92 (lit< tt) q) (than-other a 92 (lit< tt) q))
  firsts-alike false false false false p q f g = rw more

pub escaped-alike : (l r : List ℕ) → alike (escaped l) (escaped r) ≡ alike l r
unfolding alike escaped escape pick
escaped-alike [] [] = refl
escaped-alike [] (b ∷ r) = go (eqb b 10) (eqb b 92)
  where
    go : (t u : Bool) → alike [] (pick t (92 ∷ 48 ∷ []) (pick u (92 ∷ 49 ∷ []) (b ∷ [])) ++ escaped r) ≡ false
    go true u = refl
    go false true = refl
    go false false = refl
escaped-alike (a ∷ l) [] = go (eqb a 10) (eqb a 92)
  where
    go : (t u : Bool) → alike (pick t (92 ∷ 48 ∷ []) (pick u (92 ∷ 49 ∷ []) (a ∷ [])) ++ escaped l) [] ≡ false
    go true u = refl
    go false true = refl
    go false false = refl
escaped-alike (a ∷ l) (b ∷ r) = firsts-alike a b l r (escaped-alike l r) (eqb a 10) (eqb a 92) (eqb b 10) (eqb b 92) refl refl refl refl

-- Where an escaped name and an LF stand, the line is the escaped name.
pub line-name : (b : List ℕ) (at : ℕ) (n rest : List ℕ) → drop at b ≡ escaped n ++ (10 ∷ rest) → line_at b at ≡ escaped n
unfolding line_at
line-name b at n rest e = rw e (line-front (escaped n) rest (escaped-clean n))

-- What a byte is escaped as.
pub escape-lf : (c : ℕ) → c ≡ 10 → escape c ≡ 92 ∷ 48 ∷ []
unfolding escape pick
escape-lf c e = rw e

pub escape-slash : (c : ℕ) → c ≡ 92 → escape c ≡ 92 ∷ 49 ∷ []
unfolding escape pick
escape-slash c e = rw e

-- The bytes of a backslash and a byte, and those of a byte that is not escaped, in front of a line.
module _ (b : List ℕ) (i : ℕ) where
  bytes-none : (front : List ℕ) → ((m : List ℕ) → alike (front ++ m) (line_at b i) ≡ false) → BytesLike b i front None
  bytes-none front none = record { none = λ _. none; some = λ j e. absurd (cc); within = λ j e. absurd (cc) }

  bytes-some : (front : List ℕ) (j : ℕ) → ((m : List ℕ) → alike (front ++ m) (line_at b i) ≡ alike m (line_at b j)) → (i < j) × (j ≤ length b) → BytesLike b i front (Some j)
  bytes-some front j some near =
      record {
        none = λ e. absurd (cc);
        some = λ k e m. let same : j ≡ k = cc in some m ∙ ap (λ n. alike m (line_at b n)) same;
        within = λ k e. let same : j ≡ k = cc in rw (← same) near;
      }

  module _ {x : ℕ} (is : x ≡ get_or b i 10) (y : ℕ) where
    pub slash-other : (x ≡ 92 → ⊥) → BytesLike b i (92 ∷ y ∷ []) None
    unfolding lower pick
    slash-other other = bytes-none (92 ∷ y ∷ []) (λ m. first-unlike b i 92 (y ∷ m) (λ e. other (is ∙ lower-mark (get_or b i 10) 92 (lit< tt) (sym e))))

    module _ (slash : x ≡ 92) where
      pub slash-before : i < length b
      slash-before = before-end b i (λ e. let z : 92 ≡ 10 = sym slash ∙ is ∙ e in omega arith)

      slash-passed : (m : List ℕ) → alike (92 ∷ y ∷ m) (line_at b i) ≡ alike (y ∷ m) (line_at b (i + 1))
      slash-passed m = first-like b i 92 (y ∷ m) (ap lower (sym slash ∙ is)) (λ e. omega arith)

      module _ {u v : ℕ} (small : u ≡ lower y) (second : v ≡ lower (get_or b (i + 1) 10)) where
        pub slash-second : (u ≡ v → ⊥) → BytesLike b i (92 ∷ y ∷ []) None
        slash-second other = bytes-none (92 ∷ y ∷ []) (λ m. slash-passed m ∙ first-unlike b (i + 1) y m (λ e. other (small ∙ e ∙ sym second)))

        pub slash-within : (y ≡ 10 → ⊥) → u ≡ v → i + 2 ≤ length b
        slash-within other e = omega (arith, first-within b (i + 1) y [] (sym small ∙ e ∙ second) other)

        pub slash-both : (y ≡ 10 → ⊥) → u ≡ v → BytesLike b i (92 ∷ y ∷ []) (Some (i + 2))
        slash-both other e =
            let same : lower y ≡ lower (get_or b (i + 1) 10) = sym small ∙ e ∙ second in
            let two : i + 1 + 1 ≡ i + 2 = omega arith in
            bytes-some (92 ∷ y ∷ []) (i + 2) (λ m. slash-passed m ∙ first-like b (i + 1) y m same other ∙ ap (λ n. alike m (line_at b n)) two) (omega arith, slash-within other e)

  module _ (c : ℕ) (line : c ≡ 10 → ⊥) (slash : c ≡ 92 → ⊥) where
    escape-plain : escape c ≡ c ∷ []
    unfolding escape pick
    escape-plain = rw (ne_eqb c 10 line, ne_eqb c 92 slash)

    module _ {u v : ℕ} (small : u ≡ lower c) (is : v ≡ lower (get_or b i 10)) where
      pub plain-unlike : (u ≡ v → ⊥) → BytesLike b i (escape c) None
      plain-unlike other =
          rw escape-plain (bytes-none (c ∷ []) (λ m. first-unlike b i c m (λ e. other (small ∙ e ∙ sym is))))

      pub plain-within : u ≡ v → i < length b
      plain-within e = first-within b i c [] (sym small ∙ e ∙ is) line

      pub plain-like : u ≡ v → BytesLike b i (escape c) (Some (i + 1))
      plain-like e =
          let same : lower c ≡ lower (get_or b i 10) = sym small ∙ e ∙ is in
          let near : (i < i + 1) × (i + 1 ≤ length b) = (omega arith, omega (arith, plain-within e)) in
          rw escape-plain (bytes-some (c ∷ []) (i + 1) (λ m. first-like b i c m same line) near)

-- A name is compared with a line as far as here: what is left of both decides.
pub record Naming (b : List ℕ) (at : ℕ) (name : List ℕ) (i k : ℕ) : Type 0 where
  pub rest : alike (escaped (drop k name)) (line_at b i) ≡ alike (escaped name) (line_at b at)

module _ (b : List ℕ) (at : ℕ) (name : List ℕ) where
  named : (r : Bool) → r ≡ alike (escaped name) (line_at b at) → NameLike b at name r
  named r e n rest here = e ∙ ap (alike (escaped name)) (line-name b at n rest here) ∙ escaped-alike name n

  module _ (i k : ℕ) (w : Naming b at name i k) where
    module _ (h : k < length name) {r : Option ℕ} (like : BytesLike b i (escape (get_or name k 0)) r) where
      pub naming-unlike : r ≡ None → NameLike b at name false
      unfolding escaped
      naming-unlike z = named false (sym (rw (drop-next name k h) (like.none z (escaped (drop (k + 1) name)))) ∙ w.rest)

      pub naming-turn : (j : ℕ) → r ≡ Some j → Naming b at name j (k + 1)
      unfolding escaped
      naming-turn j some = record { rest = sym (rw (drop-next name k h) (like.some j some (escaped (drop (k + 1) name)))) ∙ w.rest }

    pub naming-end : length name ≤ k → {x : ℕ} → x ≡ get_or b i 10 → NameLike b at name (eqb x 10)
    unfolding escaped
    naming-end h {x} is = named (eqb x 10) (ap (λ c. eqb c 10) is ∙ ended-like b i ∙ sym (rw (drop_of_length-le name h)) ∙ w.rest)

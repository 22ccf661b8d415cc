-- Fixed bytes that stand at a place of others: a walk that compares them all. Assumes nothing.
use Rattle.std.specs.Prelude.{Some, None, Option}
use Prim.Native.Nat.{ℕ, ◌+◌, ◌-◌, ◌≤◌, ◌<◌}
use Rattle.judging.proofs.JudgeLaws.{judges-none, judges-one}
use Rattle.judging.specs.Judges.{Judges}
use Rattle.lexer.proofs.Basics.{and_left, and_right, by-test}
use Rattle.lexer.proofs.ListLaws.{drop-next}
use borrow.Author.Tests.{eq-eqb, eqb-true}
use lib.Dec.{eqb}
use lib.ListN.{length, drop, get_or, take, length-append, length-drop, get_or-append}
use lib.Seq.{append_snoc, get_or-drop, take_all, take-suc}
use mathlib.Core.Bool.{Bool, true, false, ◌&&◌, true≢false}
use mathlib.Core.List.{List, ◌++◌}
use mathlib.Core.Path.{◌≡◌, refl, sym, ap, ◌∙◌}
use native.Mathlib.Nat.{add-zero}
use native.Mathlib.Numerals.{add-one}
use native.Mathlib.Omega.{arith}

-- So many bytes of a word were compared: they stand at the place, or the word does not.
pub record Compared (b : List ℕ) (i : ℕ) (word : List ℕ) (same : Bool) (k : ℕ) : Type 0 where
  pub below : k ≤ length word
  pub here : same ≡ true → drop i b ≡ take k word ++ drop (i + k) b
  pub other : same ≡ false → (rest : List ℕ) → drop i b ≡ word ++ rest → ⊥

module _ (b : List ℕ) (i : ℕ) (word : List ℕ) where
  abbrev word_judged : Option ℕ → Type 0
  word_judged r = Judges b i (λ (u : Unit {0}). Unit {0}) (λ u. word) r

  -- Fewer bytes are left than the word has.
  pub word-short : length b - i < length word → word_judged None
  word-short h = judges-none b i _ _ (λ u rest g e. omega (arith, length-drop i b, ap length e, length-append word rest))

  -- It stands there.
  pub word-whole : drop i b ≡ word ++ drop (i + length word) b → word_judged (Some (i + length word))
  word-whole here = judges-one b i _ _ tt (drop (i + length word) b) tt here (λ u t g e. refl)

  pub compared-start : Compared b i word true 0
  compared-start = record { below = omega arith; here = λ t. ap (λ n. drop n b) (sym (add-zero i)); other = λ f. absurd (true≢false f) }

  module _ (same : Bool) (k : ℕ) (w : Compared b i word same k) where
    pub compared-turn : k < length word → i + k < length b → Compared b i word (same && eqb (get_or b (i + k) 0) (get_or word k 0)) (k + 1)
    compared-turn h l = record { below = omega arith; here = here; other = other }
      where
        alike : Bool
        alike = eqb (get_or b (i + k) 0) (get_or word k 0)

        here : same && alike ≡ true → drop i b ≡ take (k + 1) word ++ drop (i + (k + 1)) b
        here t =
            let e : get_or b (i + k) 0 ≡ get_or word k 0 = eqb-true (get_or b (i + k) 0) (get_or word k 0) (and_right same alike t) in
            let far : i + (k + 1) ≡ i + k + 1 = omega arith in
            w.here (and_left same alike t) ∙ ap (λ l. take k word ++ l) (drop-next b (i + k) l)
            ∙ sym (rw (far, add-one k, take-suc word k 0 h, ← e) (append_snoc (take k word) (get_or b (i + k) 0) (drop (i + k + 1) b)))

        other : same && alike ≡ false → (rest : List ℕ) → drop i b ≡ word ++ rest → ⊥
        other f rest e =
            let e' : get_or b (i + k) 0 ≡ get_or word k 0 = sym (get_or-drop i b k 0) ∙ ap (λ l. get_or l k 0) e ∙ get_or-append word rest 0 k h in
            by-test same
            (λ t. true≢false (sym (rw (t, eq-eqb (get_or b (i + k) 0) (get_or word k 0) e') refl) ∙ f))
            (λ g. w.other g rest e)

    pub compared_same : length word ≤ k → same ≡ true → word_judged (Some (i + length word))
    compared_same h t =
        let all : k ≡ length word = omega (arith, w.below) in
        word-whole (rw all at (w.here t ∙ ap (λ l. l ++ drop (i + k) b) (take_all k word h)))

    pub compared-other : same ≡ false → word_judged None
    compared-other f = judges-none b i _ _ (λ u rest g e. w.other f rest e)

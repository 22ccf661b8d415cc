-- One byte of each scan for an end, as the loops of src/scanning.rt take it, with what their turns keep. Assumes nothing.
use Rattle.std.specs.Prelude.{Ok, Err}
use Prim.Native.Nat.{ℕ, zero, suc, ◌+◌, ◌-◌, ◌≤◌, ◌<◌}
use Rattle.lexer.specs.Base.{pick}
use Rattle.lexer.proofs.Basics.{by-test}
use Rattle.lexer.specs.Scanning.{comment_end, quote_end, string_end}
use Rattle.lexer.specs.Refusals.{fault}
use Rattle.lexer.specs.declared.refusal.Refusal.{Refusal}
use borrow.Author.Tests.{eq-eqb, ne_eqb, ltb-true, ltb-false}
use lib.Dec.{eqb, ltb}
use lib.ListN.{length, get_or, drop, drop_of_length-le}
use lib.Seq.{drop-cons}
use mathlib.Core.Bool.{Bool, true, false}
use mathlib.Core.List.{List}
use mathlib.Core.Path.{◌≡◌, refl}
use native.Mathlib.Numerals.{add-one}
use native.Mathlib.Omega.{arith}

-- Double-quoted text
module _ (text : List ℕ) (mark i : ℕ) (h : i < length text) where
  pub string-over : get_or text i 0 ≡ 34 → string_end mark i (drop i text) ≡ Ok (i + 1)
  unfolding string_end pick
  string-over e = rw (add-one i, drop-cons text i 0, eq-eqb (get_or text i 0) 34 e)

  pub string-goes-on : (get_or text i 0 ≡ 34 → ⊥) → string_end mark i (drop i text) ≡ string_end mark (i + 1) (drop (i + 1) text)
  unfolding string_end pick
  string-goes-on e = rw (add-one i, drop-cons text i 0, ne_eqb (get_or text i 0) 34 e)

-- Comments
module _ (text : List ℕ) (mark i : ℕ) (h : i < length text) where
  pub comment-over : get_or text i 0 ≡ 93 → (d : ℕ) → d ≡ 0 → comment_end mark d i (drop i text) ≡ Ok (i + 1)
  unfolding comment_end pick
  comment-over e d z =
      let e' : eqb (get_or text i 0) 91 ≡ false = ne_eqb (get_or text i 0) 91 (λ b. omega arith) in
      rw (z, add-one i, drop-cons text i 0, e', eq-eqb (get_or text i 0) 93 e)

  pub comment-closes : get_or text i 0 ≡ 93 → (d : ℕ) → (d ≡ 0 → ⊥) → comment_end mark d i (drop i text) ≡ comment_end mark (d - 1) (i + 1) (drop (i + 1) text)
  unfolding comment_end pick
  comment-closes e zero z = absurd (z refl)
  comment-closes e (suc d) z =
      let e' : eqb (get_or text i 0) 91 ≡ false = ne_eqb (get_or text i 0) 91 (λ b. omega arith) in
      let down : suc d - 1 ≡ d = omega arith in
      rw (down, add-one i, drop-cons text i 0, e', eq-eqb (get_or text i 0) 93 e)

  pub comment-opens : get_or text i 0 ≡ 91 → (d : ℕ) → comment_end mark d i (drop i text) ≡ comment_end mark (d + 1) (i + 1) (drop (i + 1) text)
  unfolding comment_end pick
  comment-opens e zero = rw (add-one i, drop-cons text i 0, eq-eqb (get_or text i 0) 91 e)
  comment-opens e (suc d) = rw (add-one (suc d), add-one i, drop-cons text i 0, eq-eqb (get_or text i 0) 91 e)

  pub comment-goes-on : (get_or text i 0 ≡ 91 → ⊥) → (get_or text i 0 ≡ 93 → ⊥) → (d : ℕ) → comment_end mark d i (drop i text) ≡ comment_end mark d (i + 1) (drop (i + 1) text)
  unfolding comment_end pick
  comment-goes-on o e zero = rw (add-one i, drop-cons text i 0, ne_eqb (get_or text i 0) 91 o, ne_eqb (get_or text i 0) 93 e)
  comment-goes-on o e (suc d) = rw (add-one i, drop-cons text i 0, ne_eqb (get_or text i 0) 91 o, ne_eqb (get_or text i 0) 93 e)

-- Single-quoted text
module _ (text : List ℕ) (mark i : ℕ) (h : i < length text) where
  quote-over : eqb (get_or text i 0) 39 ≡ false → (closing : Bool) → closing ≡ true → quote_end mark closing i (drop i text) ≡ Ok i
  unfolding quote_end pick
  quote-over e c t = rw (t, drop-cons text i 0, e)

  pub quote-doubled : eqb (get_or text i 0) 39 ≡ true → (closing : Bool) → closing ≡ true → quote_end mark closing i (drop i text) ≡ quote_end mark false (i + 1) (drop (i + 1) text)
  unfolding quote_end pick
  quote-doubled e c t = rw (t, add-one i, drop-cons text i 0, e)

  pub quote-same : eqb (get_or text i 0) 39 ≡ false → quote_end mark false i (drop i text) ≡ quote_end mark false (i + 1) (drop (i + 1) text)
  unfolding quote_end pick
  quote-same e = rw (add-one i, drop-cons text i 0, e)

  pub quote-goes-on : (closing : Bool) → closing ≡ false → quote_end mark closing i (drop i text) ≡ quote_end mark (eqb (get_or text i 0) 39) (i + 1) (drop (i + 1) text)
  unfolding quote_end pick
  quote-goes-on c f = rw (f, add-one i, drop-cons text i 0) (go (eqb (get_or text i 0) 39))
    where
      go : (b : Bool) → pick b (quote_end mark true (suc i) (drop (suc i) text)) (quote_end mark false (suc i) (drop (suc i) text)) ≡ quote_end mark b (suc i) (drop (suc i) text)
      go true = refl
      go false = refl

-- At the end of the text
module _ (text : List ℕ) (mark i : ℕ) (h : length text ≤ i) where
  pub string-open : string_end mark i (drop i text) ≡ Err (fault Refusal.OpenQuote mark)
  unfolding string_end
  string-open = rw (drop_of_length-le text h)

  pub comment-open : (d : ℕ) → comment_end mark d i (drop i text) ≡ Err (fault Refusal.OpenComment mark)
  unfolding comment_end
  comment-open zero = rw (drop_of_length-le text h)
  comment-open (suc d) = rw (drop_of_length-le text h)

  quote-closed : (closing : Bool) → closing ≡ true → quote_end mark closing i (drop i text) ≡ Ok i
  unfolding quote_end
  quote-closed c t = rw (t, drop_of_length-le text h)

  pub quote-open : (closing : Bool) → closing ≡ false → quote_end mark closing i (drop i text) ≡ Err (fault Refusal.OpenQuote mark)
  unfolding quote_end
  quote-open c f = rw (f, drop_of_length-le text h)

-- Behind a quote, at another byte or past the text
pub quote-ended : (text : List ℕ) (mark i : ℕ) → (get_or text i 0 ≡ 39 → ⊥) → (closing : Bool) → closing ≡ true → quote_end mark closing i (drop i text) ≡ Ok i
quote-ended text mark i n c t =
    by-test (ltb i (length text)) (λ h. quote-over text mark i (ltb-true i (length text) h) (ne_eqb (get_or text i 0) 39 n) c t)
    (λ f. quote-closed text mark i (ltb-false i (length text) f) c t)

-- What the turns of each loop keep: from here, as it stands, the end is the same as from behind the mark.
pub record Stringing (text : List ℕ) (mark i : ℕ) : Type 0 where
  pub within : i ≤ length text
  pub rest : string_end mark i (drop i text) ≡ string_end mark (mark + 1) (drop (mark + 1) text)

pub record Quoting (text : List ℕ) (mark : ℕ) (closing : Bool) (i : ℕ) : Type 0 where
  pub within : i ≤ length text
  pub rest : quote_end mark closing i (drop i text) ≡ quote_end mark false (mark + 1) (drop (mark + 1) text)

pub record Commenting (text : List ℕ) (mark depth i : ℕ) : Type 0 where
  pub within : i ≤ length text
  pub deep : depth ≤ i
  pub rest : comment_end mark depth i (drop i text) ≡ comment_end mark 0 (mark + 1) (drop (mark + 1) text)

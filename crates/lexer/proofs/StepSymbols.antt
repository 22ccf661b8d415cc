-- What stands at a byte between two tokens, by the byte's symbol. Assumes nothing.
use Rattle.std.specs.Prelude.{Ok, Err, Result, MatchResult}
use Rattle.std.specs.Result.{IsOkAnd}
use Prim.Native.Nat.{ℕ, ◌+◌, ◌<◌}
use Rattle.lexer.proofs.ListLaws.{drop-next}
use Rattle.lexer.specs.Scanning.{comment_end, quote_end, string_end, word_end, symbol_at, first_symbol, skipped, taken, step_of, token_step}
use Rattle.lexer.specs.declared.Fault.{Fault}
use Rattle.lexer.specs.declared.Step.{Step}
use Rattle.lexer.specs.declared.Symbol.{Symbol}
use lib.ListN.{length, drop}
use mathlib.Core.Bool.{false}
use mathlib.Core.List.{List}
use mathlib.Core.Logic.{◌⊎◌, inl, inr}
use mathlib.Core.Path.{◌≡◌, ap, ◌∙◌}
use native.Mathlib.Numerals.{add-one}

-- What stands where something ends, as `map` makes it of the end.
module _ (P : ℕ → Step → Type 0) where
  pub skipped-mapped : (r : Result ℕ (Fault ℕ)) (m : Result Step (Fault ℕ)) → ((j : ℕ) (s : Step) → P j s → s ≡ Step.Skip j)
      → MatchResult r (λ j. IsOkAnd m (P j)) (λ f. m ≡ Err f) → m ≡ skipped r
  unfolding skipped
  skipped-mapped (Ok j) (Ok s) h e = ap Ok (h j s e)
  skipped-mapped (Ok j) (Err f) h e = absurd e
  skipped-mapped (Err f) m h e = e

  pub taken-mapped : (r : Result ℕ (Fault ℕ)) (m : Result Step (Fault ℕ)) → ((j : ℕ) (s : Step) → P j s → s ≡ Step.Token j)
      → MatchResult r (λ j. IsOkAnd m (P j)) (λ f. m ≡ Err f) → m ≡ taken r
  unfolding taken
  taken-mapped (Ok j) (Ok s) h e = ap Ok (h j s e)
  taken-mapped (Ok j) (Err f) h e = absurd e
  taken-mapped (Err f) m h e = e

module _ (text : List ℕ) (i : ℕ) (h : i < length text) (s : Symbol) (is : s ≡ symbol_at text i) where
  step-symbol : token_step i (drop i text) ≡ step_of s i (drop (i + 1) text)
  unfolding token_step symbol_at first_symbol
  step-symbol = rw (is, drop-next text i h)

  pub step-word : s ≡ Symbol.Other → token_step i (drop i text) ≡ taken (word_end 0 0 (i + 1) (drop (i + 1) text))
  unfolding step_of
  step-word e = step-symbol ∙ rw (e, add-one i)

  pub step-single : s ≡ Symbol.Single → token_step i (drop i text) ≡ taken (quote_end i false (i + 1) (drop (i + 1) text))
  unfolding step_of
  step-single e = step-symbol ∙ rw (e, add-one i)

  pub step-double : s ≡ Symbol.Double → token_step i (drop i text) ≡ taken (string_end i (i + 1) (drop (i + 1) text))
  unfolding step_of
  step-double e = step-symbol ∙ rw (e, add-one i)

  pub step-open : s ≡ Symbol.Open → token_step i (drop i text) ≡ skipped (comment_end i 0 (i + 1) (drop (i + 1) text))
  unfolding step_of
  step-open e = step-symbol ∙ rw (e, add-one i)

  -- newlines, closing brackets and punctuation marks
  pub step-mark : (s ≡ Symbol.Newline) ⊎ (s ≡ Symbol.Close) ⊎ (s ≡ Symbol.Punctuation) → token_step i (drop i text) ≡ Ok (Step.Token (i + 1))
  unfolding step_of
  step-mark (inl e) = step-symbol ∙ rw (e, add-one i)
  step-mark (inr (inl e)) = step-symbol ∙ rw (e, add-one i)
  step-mark (inr (inr e)) = step-symbol ∙ rw (e, add-one i)

  -- blanks, the CR of a CR LF, and the later bytes of a character
  pub step-blank : (s ≡ Symbol.Blank) ⊎ (s ≡ Symbol.Return) ⊎ (s ≡ Symbol.Part) → token_step i (drop i text) ≡ Ok (Step.Skip (i + 1))
  unfolding step_of
  step-blank (inl e) = step-symbol ∙ rw (e, add-one i)
  step-blank (inr (inl e)) = step-symbol ∙ rw (e, add-one i)
  step-blank (inr (inr e)) = step-symbol ∙ rw (e, add-one i)

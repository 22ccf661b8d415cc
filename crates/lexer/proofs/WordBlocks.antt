-- Blocks of a word: a plain byte goes on with the word, and so behind blocks of them the word ends as from their first. Assumes nothing.
use Rattle.std.specs.Prelude.{Ok, Result}
use Prim.Native.Nat.{ℕ, ◌+◌, ◌≤◌, ◌<◌}
use Rattle.lexer.proofs.ByteBlocks.{all-eight, blocks-ahead, blocks-alike}
use Rattle.lexer.proofs.ClassLaws.{plain-symbol}
use Rattle.lexer.proofs.SymbolTags.{Continues}
use Rattle.lexer.proofs.WordEnds.{Wording, resumed, word-goes-on}
use Rattle.lexer.specs.ByteBlocks.{is_plain, all_first, blocks_end}
use Rattle.lexer.specs.Classes.{rank, is_open, is_other, is_part}
use Rattle.lexer.specs.Scanning.{word_end, goes_on}
use Rattle.lexer.specs.declared.Symbol.{Symbol}
use Rattle.lexer.specs.declared.Fault.{Fault}
use lib.ListN.{length, get_or, drop}
use mathlib.Core.Bool.{Bool, true, ◌&&◌}
use mathlib.Core.List.{List}
use mathlib.Core.Path.{◌≡◌, refl, sym, ap, ◌∙◌}
use native.Mathlib.Omega.{arith}

pub other-continues : Continues Symbol.Other
unfolding is_open goes_on is_other is_part rank
other-continues = record { closed = refl; on = refl }

module _ (text : List ℕ) where
  -- where the word ends that goes on at an index
  abbrev end_from : ℕ → Result ℕ (Fault ℕ)
  end_from i = word_end 0 0 i (drop i text)

  -- from a plain byte and from the one behind it the word ends alike
  pub word_next : (i : ℕ) → i < length text → is_plain (get_or text i 0) ≡ true → end_from i ≡ end_from (i + 1)
  word_next i h t = word-goes-on text i h Symbol.Other (plain-symbol text i h t) other-continues

  -- eight bytes, each with its test by another name
  pub word-eight : (i : ℕ) → i + 8 ≤ length text → (a b c d a' b' c' d' : Bool) → a ≡ is_plain (get_or text i 0) → b ≡ is_plain (get_or text (i + 1) 0)
      → c ≡ is_plain (get_or text (i + 2) 0) → d ≡ is_plain (get_or text (i + 3) 0) → a' ≡ is_plain (get_or text (i + 4) 0) → b' ≡ is_plain (get_or text (i + 5) 0)
      → c' ≡ is_plain (get_or text (i + 6) 0) → d' ≡ is_plain (get_or text (i + 7) 0)
      → (a && b && c && d) && (a' && b' && c' && d') ≡ all_first is_plain 8 (drop i text)
  word-eight i room a b c d a' b' c' d' p q r s p' q' r' s' = rw (p, q, r, s, p', q', r', s') (all-eight is_plain text i room)

-- The turns of the loop over a word: at its start, behind the blocks of plain bytes from a place on, and behind a comment.
pub wording-start : (text : List ℕ) (from : ℕ) → from ≤ length text → Wording text from from
wording-start text from h = record { ahead = omega arith; within = h; rest = refl }

module _ (text : List ℕ) (i j : ℕ) (h : i ≤ length text) (e : j ≡ blocks_end is_plain 8 i (drop i text)) where
  pub plain-ahead : i ≤ j
  plain-ahead = rw e (blocks-ahead is_plain text 8 i h).0

  pub wording-blocks : (from : ℕ) → Wording text from i → Wording text from j
  wording-blocks from k =
      let within = (blocks-ahead is_plain text 8 i h).1 in
      let same = blocks-alike is_plain text (λ i. word_end 0 0 i (drop i text)) (word_next text) 8 i h in
      record { ahead = omega (arith, plain-ahead, k.ahead); within = rw e within; rest = rw e (same ∙ k.rest) }

pub wording-skips : (text : List ℕ) (from i j : ℕ) (s : Result ℕ (Fault ℕ)) → Wording text from i → (i < j) × (j ≤ length text)
    → word_end 0 0 i (drop i text) ≡ resumed text s → s ≡ Ok j → Wording text from j
wording-skips text from i j s k ahead same at =
    record { ahead = omega (arith, k.ahead, ahead); within = ahead.1; rest = sym (same ∙ ap (resumed text) at) ∙ k.rest }

-- The walk over the text of SYMBOLS: the symbols so far, and those of what is left of the text, are those of the whole. Assumes nothing.
use Prim.Native.Nat.{ℕ, ◌+◌, ◌≤◌, ◌<◌}
use Rattle.block.specs.Format.{unspaced}
use Rattle.block.specs.Formats.{Listed}
use Rattle.lexer.proofs.Yielded.{YieldsByte}
use Rattle.lexer.specs.Base.{pick}
use Rattle.lexer.specs.Bytes.{left}
use Rattle.lexer.specs.Classes.{symbol, is_space, is_part}
use Rattle.lexer.specs.declared.Cursor.{Cursor}
use lib.ListN.{length, take, set, length-append, length-set, length-take}
use lib.Seq.{append_snoc, take-suc-set}
use mathlib.Core.Bool.{Bool, true, false, ◌||◌}
use mathlib.Core.List.{List, [], ◌∷◌, ◌++◌, append-nil}
use mathlib.Core.Path.{◌≡◌, sym, ap, ◌∙◌}
use native.Mathlib.Numerals.{add-one}
use native.Mathlib.Omega.{arith}

pub record Unspacing (text : List ℕ) (c : Cursor) (bytes : List ℕ) (count : ℕ) (d : Cursor) : Type 0 where
  pub few : count ≤ 74
  pub whole : length bytes ≡ 74
  pub rest : take count bytes ++ unspaced (left text d) ≡ unspaced (left text c)

module _ (text : List ℕ) (c : Cursor) (bytes : List ℕ) where
  module _ (count : ℕ) (d : Cursor) (k : Unspacing text c bytes count d) where
    module _ (b : ℕ) (e : Cursor) (y : YieldsByte text d.at (left text d) b e) (p : Bool) (is : p ≡ (is_space (symbol b (left text e)) || is_part (symbol b (left text e)))) where
      -- a blank byte is dropped
      pub unspacing-blank : p ≡ true → Unspacing text c bytes count e
      unfolding unspaced pick
      unspacing-blank t =
          let same : unspaced (left text d) ≡ unspaced (left text e) = rw (y.here, ← is, t) in
          record { few = k.few; whole = k.whole; rest = rw same at k.rest }

      module _ (f : p ≡ false) where
        next : unspaced (left text d) ≡ b ∷ unspaced (left text e)
        unfolding unspaced pick
        next = rw (y.here, ← is, f)

        -- any other is one symbol more
        pub unspacing-symbol : count < 74 → Unspacing text c (set bytes count b) (count + 1) e
        unspacing-symbol h =
            let more : take (count + 1) (set bytes count b) ≡ take count bytes ++ (b ∷ []) = rw (add-one count) (take-suc-set bytes count b (omega (arith, k.whole))) in
            record {
              few = omega arith;
              whole = length-set bytes count b ∙ k.whole;
              rest = rw (more, append_snoc (take count bytes) b (unspaced (left text e))) (rw next at k.rest);
            }

        -- and behind 74 there are more than 74
        pub unspacing-over : 74 ≤ count → Listed bytes 75 (unspaced (left text c))
        unspacing-over h =
            record {
              few = λ l. absurd (omega arith);
              many = λ l. omega (arith, k.few, k.whole, length-take count bytes, length-append (take count bytes) (b ∷ unspaced (left text e)), ap length (rw next at k.rest));
            }

    pub unspacing-end : left text d ≡ [] → Listed bytes count (unspaced (left text c))
    unfolding unspaced
    unspacing-end e =
        record {
          few = λ l. sym (append-nil (take count bytes)) ∙ rw e at k.rest;
          many = λ l. absurd (omega (arith, k.few));
        }

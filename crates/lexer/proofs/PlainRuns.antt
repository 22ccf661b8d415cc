-- The plain bytes from a place on: a word is these and what is left of it behind them. Assumes nothing.
use Prim.Native.Nat.{ℕ, zero, suc, ◌+◌, ◌-◌, ◌≤◌, ◌<◌}
use Rattle.lexer.proofs.Basics.{chosen}
use Rattle.lexer.proofs.ByteBlocks.{blocks-alike}
use Rattle.lexer.proofs.ClassLaws.{plain-is-other, plain-small}
use Rattle.lexer.proofs.ListLaws.{drop-next}
use Rattle.lexer.specs.Base.{pick}
use Rattle.lexer.specs.ByteBlocks.{is_plain, plain_end, blocks_end}
use Rattle.lexer.specs.Bytes.{cursor, left, rest_of, run_behind, run_of}
use Rattle.lexer.specs.Classes.{symbol, symbol_of, rank, is_single, is_double, is_open, is_other, is_part}
use Rattle.lexer.specs.Tokens.{tail, next, after_word, after_between, text_step}
use Rattle.lexer.specs.declared.Cursor.{Cursor}
use Rattle.lexer.specs.declared.Mode.{Mode}
use lib.ListN.{length, get_or, drop, take, drop_of_length-le, length-drop}
use lib.Seq.{drop-drop, get_or-drop}
use mathlib.Core.Bool.{true, false}
use mathlib.Core.List.{List, [], ◌∷◌, ◌++◌}
use mathlib.Core.Path.{◌≡◌, refl, ap, ◌∙◌}
use native.Mathlib.Omega.{arith}

-- Where the plain bytes from an index on end.
module _ (text : List ℕ) where
  abbrev end_from : ℕ → ℕ
  end_from i = plain_end i (drop i text)

  -- From a plain byte and from the one behind it they end alike; at another byte, and past the end of the text, there are none; and behind blocks of
  -- them they end as from the first.
  pub plain-next : (i : ℕ) → i < length text → is_plain (get_or text i 0) ≡ true → end_from i ≡ end_from (i + 1)
  unfolding plain_end pick
  plain-next i h t = rw (drop-next text i h, t)

  pub plain-stops : (i : ℕ) → i < length text → is_plain (get_or text i 0) ≡ false → end_from i ≡ i
  unfolding plain_end pick
  plain-stops i h f = rw (drop-next text i h, f)

  pub plain_over : (i : ℕ) → length text ≤ i → end_from i ≡ i
  unfolding plain_end
  plain_over i h = rw (drop_of_length-le text h)

  pub plain-blocks : (from i : ℕ) → from ≤ length text → i ≡ blocks_end is_plain 8 from (drop from text) → end_from i ≡ end_from from
  plain-blocks from i h e = rw e (blocks-alike is_plain text end_from plain-next 8 from h)

-- A plain byte is one of a word.
pub plain-tail : (b : ℕ) (r : List ℕ) → is_plain b ≡ true → tail Mode.Word (b ∷ r) ≡ b ∷ tail Mode.Word r
unfolding tail symbol symbol_of text_step next after_word after_between is_single is_double is_open is_other is_part rank pick
plain-tail b r t = rw (plain-is-other b t)

-- What stands up to where the plain bytes end, and behind it.
pub record Running (i : ℕ) (r : List ℕ) (e : ℕ) : Type 0 where
  pub ahead : i ≤ e
  pub within : e ≤ i + length r
  pub rest : tail Mode.Word r ≡ take (e - i) r ++ tail Mode.Word (drop (e - i) r)
  pub each : (k : ℕ) → k < e - i → is_plain (get_or r k 0) ≡ true

-- There are none, or a plain byte comes before others.
running_none : (i : ℕ) (r : List ℕ) → Running i r i
running_none i r = let z : i - i ≡ 0 = omega arith in record { ahead = omega arith; within = omega arith; rest = rw z; each = λ k h. absurd (omega arith) }

running_more : (i b : ℕ) (r : List ℕ) (e : ℕ) → is_plain b ≡ true → Running (i + 1) r e → Running i (b ∷ r) e
running_more i b r e t k =
    let ahead = k.ahead in
    let one : e - i ≡ suc (e - (i + 1)) = omega arith in
    record {
      ahead = omega arith;
      within = omega (arith, k.within);
      rest = rw one (plain-tail b r t ∙ ap (λ l. b ∷ l) k.rest);
      each = λ n h. each n (omega arith);
    }
  where
    each : (n : ℕ) → n < suc (e - (i + 1)) → is_plain (get_or (b ∷ r) n 0) ≡ true
    each zero h = t
    each (suc n) h = k.each n (omega arith)

-- So they end where the definition says.
pub running : (r : List ℕ) (i : ℕ) → Running i r (plain_end i r)
unfolding plain_end
running [] i = running_none i []
running (b ∷ r) i = chosen (Running i (b ∷ r)) (is_plain b) (λ t. running_more i b r (plain_end (i + 1) r) t (running r (i + 1))) (λ f. running_none i (b ∷ r))

-- What is left of a token's text at a cursor is what stands up to another and what is left there; the bytes between are plain.
pub record PlainRun (text : List ℕ) (c d : Cursor) : Type 0 where
  pub ahead : c.at ≤ d.at
  pub within : d.at - c.at ≤ length text - c.at
  pub rest : left text c ≡ take (d.at - c.at) (drop c.at text) ++ left text d
  pub each : (k : ℕ) → k < d.at - c.at → (is_plain (get_or text (c.at + k) 0) ≡ true) × (get_or text (c.at + k) 0 < 128)

-- Up to itself; in a word; and by the mode of a cursor.
run_none : (text : List ℕ) (c : Cursor) → PlainRun text c c
run_none text c =
    let z : c.at - c.at ≡ 0 = omega arith in
    record { ahead = omega arith; within = omega arith; rest = rw z; each = λ k h. absurd (omega arith) }

run-word : (text : List ℕ) (i e : ℕ) → Running i (drop i text) e → PlainRun text (cursor Mode.Word i) (cursor Mode.Word e)
unfolding left rest_of
run-word text i e k =
    let ahead = k.ahead in
    let there : i + (e - i) ≡ e = omega arith in
    record {
      ahead = k.ahead;
      within = omega (arith, k.within, length-drop i text);
      rest = k.rest ∙ ap (λ l. take (e - i) (drop i text) ++ tail Mode.Word l) (drop-drop (e - i) i text ∙ ap (λ n. drop n text) there);
      each = λ n h. let t = rw (get_or-drop i text n 0) at (k.each n h) in (t, plain-small (get_or text (i + n) 0) t);
    }

pub run-left : (text : List ℕ) (c d : Cursor) → d ≡ run_behind text c → PlainRun text c d
unfolding run_behind run_of
run-left text c d e = rw e (go c.mode c.at)
  where
    go : (m : Mode) (i : ℕ) → PlainRun text (cursor m i) (run_of m i (drop i text))
    go Mode.Between i = run_none text (cursor Mode.Between i)
    go Mode.Word i = run-word text i (plain_end i (drop i text)) (running (drop i text) i)
    go Mode.Quoted i = run_none text (cursor Mode.Quoted i)
    go Mode.Closing i = run_none text (cursor Mode.Closing i)
    go Mode.String i = run_none text (cursor Mode.String i)
    go (Mode.Comment d) i = run_none text (cursor (Mode.Comment d) i)
    go (Mode.WordComment d) i = run_none text (cursor (Mode.WordComment d) i)

-- The cursor behind the plain bytes, by the mode.
pub run-word-end : (text : List ℕ) (c : Cursor) (e : ℕ) → c.mode ≡ Mode.Word → e ≡ plain_end c.at (drop c.at text) → cursor c.mode e ≡ run_behind text c
unfolding run_behind run_of
run-word-end text c e m h = rw (m, h)

pub run-stays : (text : List ℕ) (c : Cursor) → (c.mode ≡ Mode.Word → ⊥) → c ≡ run_behind text c
unfolding run_behind run_of
run-stays text c o = go c.mode o
  where
    go : (m : Mode) → (m ≡ Mode.Word → ⊥) → cursor m c.at ≡ run_of m c.at (drop c.at text)
    go Mode.Between o = refl
    go Mode.Word o = absurd (o refl)
    go Mode.Quoted o = refl
    go Mode.Closing o = refl
    go Mode.String o = refl
    go (Mode.Comment d) o = refl
    go (Mode.WordComment d) o = refl

-- Runs of ASCII bytes: eight of them by one test, a byte and blocks passed, what the loop that looks for a run's end keeps, and that UTF-8 goes
-- on behind a run as before it. Assumes nothing.
use Prim.Native.Nat.{ℕ, suc, ◌+◌, ◌≤◌, ◌<◌}
use Rattle.lexer.proofs.Basics.{by-test, chosen}
use Rattle.lexer.proofs.ByteBlocks.{all-eight, blocks-ahead, blocks-alike}
use Rattle.lexer.proofs.Utf8Checking.{Checking, checking-turn, from-ascii}
use Rattle.lexer.specs.Base.{pick}
use Rattle.lexer.specs.ByteBlocks.{is_ascii, all_first, blocks_end}
use Rattle.lexer.specs.Utf8.{ascii_end}
use borrow.Author.Tests.{ltb-true, ltb-false, lt-ltb, le-ltb}
use lib.Bits.{bit_or, or_add_and, or_lt, and_le_l, and_le_r}
use lib.Dec.{ltb}
use lib.ListN.{length, drop, get_or, drop_of_length-le, length-drop}
use lib.Seq.{drop-cons}
use mathlib.Core.Bool.{true, false, ◌&&◌}
use mathlib.Core.List.{List, [], ◌∷◌}
use mathlib.Core.Path.{◌≡◌, refl, sym, ap, ◌∙◌}
use native.Mathlib.Numerals.{add-one}
use native.Mathlib.Omega.{arith}

-- A bitwise or is ASCII just if both of its numbers are.
or-ascii : (a b : ℕ) → is_ascii (bit_or a b) ≡ is_ascii a && is_ascii b
unfolding is_ascii
or-ascii a b = by-test (ltb a 128) (λ p. by-test (ltb b 128) (both p) (second p)) first
  where
    both : ltb a 128 ≡ true → ltb b 128 ≡ true → ltb (bit_or a b) 128 ≡ ltb a 128 && ltb b 128
    both p q = lt-ltb (bit_or a b) 128 (or_lt 7 a b (ltb-true a 128 p) (ltb-true b 128 q)) ∙ sym (rw (p, q))

    second : ltb a 128 ≡ true → ltb b 128 ≡ false → ltb (bit_or a b) 128 ≡ ltb a 128 && ltb b 128
    second p q = le-ltb (bit_or a b) 128 (omega (arith, or_add_and a b, and_le_l a b, ltb-false b 128 q)) ∙ sym (rw (p, q))

    first : ltb a 128 ≡ false → ltb (bit_or a b) 128 ≡ ltb a 128 && ltb b 128
    first p = le-ltb (bit_or a b) 128 (omega (arith, or_add_and a b, and_le_r a b, ltb-false a 128 p)) ∙ sym (rw p)

abbrev four : ℕ → ℕ → ℕ → ℕ → ℕ
four a b c d = bit_or (bit_or (bit_or a b) c) d

four-ascii : (a b c d : ℕ) → is_ascii (four a b c d) ≡ is_ascii a && is_ascii b && is_ascii c && is_ascii d
four-ascii a b c d = or-ascii (bit_or (bit_or a b) c) d ∙ ap (λ t. t && is_ascii d) (or-ascii (bit_or a b) c ∙ ap (λ t. t && is_ascii c) (or-ascii a b))

eight-ascii : (a b c d a' b' c' d' : ℕ) → is_ascii (bit_or (four a b c d) (four a' b' c' d'))
    ≡ (is_ascii a && is_ascii b && is_ascii c && is_ascii d) && (is_ascii a' && is_ascii b' && is_ascii c' && is_ascii d')
eight-ascii a b c d a' b' c' d' = or-ascii (four a b c d) (four a' b' c' d') ∙ rw (four-ascii a b c d, four-ascii a' b' c' d')

module _ (text : List ℕ) where
  -- where the ASCII bytes from an index on end
  abbrev run_end : ℕ → ℕ
  run_end i = ascii_end i (drop i text)

  run-next : (i : ℕ) → i < length text → get_or text i 0 < 128 → run_end i ≡ run_end (i + 1)
  unfolding ascii_end pick
  run-next i h small = rw (add-one i, drop-cons text i 0, lt-ltb (get_or text i 0) 128 small)

  run-stops : (i : ℕ) → i < length text → 128 ≤ get_or text i 0 → run_end i ≡ i
  unfolding ascii_end pick
  run-stops i h large = rw (drop-cons text i 0, le-ltb (get_or text i 0) 128 large)

  run-over : (i : ℕ) → length text ≤ i → run_end i ≡ i
  unfolding ascii_end
  run-over i h = rw (drop_of_length-le text h)

  abbrev byte : ℕ → ℕ
  byte j = get_or text j 0

  pub ascii-eight : (i : ℕ) → i + 8 ≤ length text
      → is_ascii (bit_or (four (byte i) (byte (i + 1)) (byte (i + 2)) (byte (i + 3))) (four (byte (i + 4)) (byte (i + 5)) (byte (i + 6)) (byte (i + 7))))
      ≡ all_first is_ascii 8 (drop i text)
  ascii-eight i room = eight-ascii (byte i) _ _ _ (byte (i + 4)) _ _ _ ∙ all-eight is_ascii text i room

  -- behind the blocks of ASCII bytes the run ends as from their first
  run-blocks : (size i : ℕ) → i ≤ length text → run_end (blocks_end is_ascii size i (drop i text)) ≡ run_end i
  unfolding is_ascii
  run-blocks size i h = blocks-alike is_ascii text run_end (λ i h small. run-next i h (ltb-true (get_or text i 0) 128 small)) size i h

-- What the turns keep: from here the run ends where it ends from the first byte on.
pub record Running (text : List ℕ) (from i : ℕ) : Type 0 where
  pub within : i ≤ length text
  pub rest : ascii_end i (drop i text) ≡ ascii_end from (drop from text)

pub running-start : (text : List ℕ) (from i : ℕ) → from ≤ length text → i ≡ blocks_end is_ascii 16 from (drop from text) → Running text from i
running-start text from i h e = rw e (record { within = (blocks-ahead is_ascii text 16 from h).1; rest = run-blocks text 16 from h })

module _ (text : List ℕ) (from i : ℕ) (k : Running text from i) where
  pub running-turn : i < length text → get_or text i 0 < 128 → Running text from (i + 1)
  running-turn h small = record { within = omega arith; rest = sym (run-next text i h small) ∙ k.rest }

  pub running-stops : i < length text → 128 ≤ get_or text i 0 → i ≡ ascii_end from (drop from text)
  running-stops h large = sym (run-stops text i h large) ∙ k.rest

  pub running-end : length text ≤ i → i ≡ ascii_end from (drop from text)
  running-end h = sym (run-over text i h) ∙ k.rest

pub run-forward : (r : List ℕ) (i : ℕ) → i ≤ ascii_end i r
unfolding ascii_end
run-forward [] i = omega arith
run-forward (b ∷ r) i = chosen (λ j. i ≤ j) (ltb b 128) (λ t. let more = run-forward r (suc i) in omega arith) (λ f. omega arith)

-- Behind the ASCII bytes the rest is well-formed just if it was before them.
checking-run : (text : List ℕ) (low high i : ℕ) → Checking text 0 low high i → Checking text 0 low high (ascii_end i (drop i text))
unfolding ascii_end
checking-run text low high i k = go (drop i text) i refl k
  where
    go : (r : List ℕ) (i : ℕ) → drop i text ≡ r → Checking text 0 low high i → Checking text 0 low high (ascii_end i r)
    go [] i e k = k
    go (b ∷ r) i e k = chosen (λ j. Checking text 0 low high j) (ltb b 128) (λ t. go r (suc i) behind (passed (ltb-true b 128 t))) (λ f. k)
      where
        lt : i < length text
        lt = omega (arith, simp length-drop at (ap length e))

        behind : drop (suc i) text ≡ r
        behind = let whole = drop-cons text i 0 lt in cc

        passed : b < 128 → Checking text 0 low high (suc i)
        passed small = record { below = omega (arith, lt); rest = rw behind (sym (from-ascii low high b r small) ∙ (rw e at k.rest)) }

-- An ASCII byte, and the ASCII bytes behind it, where no character is open.
pub checking-ascii : (text : List ℕ) (more low high i j : ℕ) → Checking text more low high i → i < length text → more ≡ 0 → get_or text i 0 < 128
    → j ≡ ascii_end (i + 1) (drop (i + 1) text) → Checking text more low high j
checking-ascii text more low high i j k h none small e =
    let here : Checking text 0 low high i = rw none at k in
    rw (none, e) (checking-run text low high (i + 1) (checking-turn text 0 low high i here h 0 low high (from-ascii low high (get_or text i 0) (drop (i + 1) text) small)))

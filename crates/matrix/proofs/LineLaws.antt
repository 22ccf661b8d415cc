-- The lines that begin in tokens, token by token: where one begins, where it is over, how many there are, and the tokens of one. Assumes nothing.
use Prim.Native.Nat.{ℕ, zero, suc, ◌+◌, ◌-◌, ◌≤◌, ◌<◌}
use Rattle.block.specs.Commands.{newline}
use Rattle.block.specs.CommandsCut.{first_where}
use Rattle.block.specs.Interleaved.{to_newline, lines_from}
use Rattle.lexer.proofs.Basics.{by-test}
use Rattle.lexer.proofs.RangeLaws.{range-next, range-end}
use Rattle.lexer.specs.Base.{pick}
use Rattle.lexer.specs.Stored.{word_of, range}
use Rattle.matrix.specs.PagesHeld.{LineBegins, LineEnds}
use borrow.Author.Tests.{lt-ltb, le-ltb, ltb-true, ltb-false}
use lib.Dec.{ltb}
use lib.ListN.{length}
use mathlib.Core.Bool.{Bool, true, false, not}
use mathlib.Core.List.{List, [], ◌∷◌}
use mathlib.Core.Path.{◌≡◌, refl, sym, ◌∙◌}
use native.Mathlib.Numerals.{add-one}
use native.Mathlib.Omega.{arith}

module _ (text work : List ℕ) (i to : ℕ) where
  -- from the end on there are none
  pub lines_end : (begun : Bool) → to ≤ i → lines_from begun (range text work i to) ≡ []
  unfolding lines_from
  lines_end true h = rw (range-end text work i to h)
  lines_end false h = rw (range-end text work i to h)

  pub line-none : to ≤ i → to_newline (range text work i to) ≡ []
  unfolding to_newline
  line-none h = rw (range-end text work i to h)

  module _ (h : i < to) where
    -- a newline ends a line, and begins none
    module _ (e : newline (word_of text work i) ≡ true) where
      lines-newline : lines_from false (range text work i to) ≡ lines_from false (range text work (i + 1) to)
      unfolding lines_from pick
      lines-newline = rw (range-next text work i to h, e)

      line-over : lines_from true (range text work i to) ≡ lines_from false (range text work i to)
      unfolding lines_from pick
      line-over = rw (range-next text work i to h, e)

      pub line-stops : to_newline (range text work i to) ≡ []
      unfolding to_newline pick
      line-stops = rw (range-next text work i to h, e)

    -- any other token begins a line, or is one more of it
    module _ (e : newline (word_of text work i) ≡ false) where
      pub lines-line : lines_from false (range text work i to) ≡ record { first = word_of text work i; rest = to_newline (range text work (i + 1) to) } ∷ lines_from true (range text work (i + 1) to)
      unfolding lines_from pick
      lines-line = rw (range-next text work i to h, e)

      line_on : lines_from true (range text work i to) ≡ lines_from true (range text work (i + 1) to)
      unfolding lines_from pick
      line_on = rw (range-next text work i to h, e)

      pub line-next : to_newline (range text work i to) ≡ word_of text work i ∷ to_newline (range text work (i + 1) to)
      unfolding to_newline pick
      line-next = rw (range-next text work i to h, e)

-- Where newlines end, the next line begins.
module _ (text work : List ℕ) (to : ℕ) where
  pub line-begins : (n i : ℕ) → to - i ≡ n → LineBegins text work i to (first_where (λ w. not (newline w)) text work i n)
  unfolding first_where pick
  line-begins zero i e = record { ahead = omega arith; lines = refl; here = λ h. absurd (omega (arith, e)) }
  line-begins (suc n) i e =
      by-test (newline (word_of text work i))
      (λ t.
      let m = line-begins n (suc i) (omega (arith, e)) in
      let skip = rw (add-one i) at (lines-newline text work i to (omega (arith, e)) t) in
      rw t (record { ahead = omega (arith, m.ahead); lines = skip ∙ m.lines; here = m.here }))
      (λ f. rw f (record { ahead = omega arith; lines = refl; here = λ h. f }))

-- Tokens of a line passed so far.
pub record Within (text work : List ℕ) (i to j : ℕ) : Type 0 where
  pub ahead : i ≤ j
  pub lines : lines_from true (range text work i to) ≡ lines_from true (range text work j to)

module _ {text work : List ℕ} {i to : ℕ} where
  pub within-start : Within text work i to i
  within-start = record { ahead = omega arith; lines = refl }

  module _ {j : ℕ} (k : Within text work i to j) where
    pub within-turn : j < to → newline (word_of text work j) ≡ false → Within text work i to (j + 1)
    within-turn h e = record { ahead = omega (arith, k.ahead); lines = k.lines ∙ line_on text work j to h e }

    pub within-newline : j < to → newline (word_of text work j) ≡ true → LineEnds text work i to j
    within-newline h e = record { ahead = k.ahead; lines = k.lines ∙ line-over text work j to h e }

    pub within_end : to ≤ j → LineEnds text work i to j
    within_end h = record { ahead = k.ahead; lines = k.lines ∙ lines_end text work j to true h ∙ sym (lines_end text work j to false h) }

-- The line at an index, and where the next begins behind it: one line, and those from there on.
module _ (text work : List ℕ) (j to e next : ℕ) (h : j < to) (here : newline (word_of text work j) ≡ false) (over : LineEnds text work (j + 1) to e) (begins : LineBegins text work e to next) where
  pub line-then : lines_from false (range text work j to) ≡ record { first = word_of text work j; rest = to_newline (range text work (j + 1) to) } ∷ lines_from false (range text work next to)
  line-then = rw (lines-line text work j to h here, over.lines, begins.lines)

  pub next-ahead : j < next
  next-ahead = omega (arith, over.ahead, begins.ahead)

-- Fewer lines are left than are still asked for exactly where there are fewer lines than were asked for.
pub record Counting (text work : List ℕ) (i to taxa left j : ℕ) : Type 0 where
  pub here : j < to → newline (word_of text work j) ≡ false
  pub rest : ltb (length (lines_from false (range text work j to))) left ≡ ltb (length (lines_from false (range text work i to))) taxa

ltb-less : (a n : ℕ) → 0 < n → ltb (suc a) n ≡ ltb a (n - 1)
ltb-less a n h =
    by-test (ltb a (n - 1)) (λ e. let l = ltb-true a (n - 1) e in lt-ltb (suc a) n (omega arith) ∙ sym e)
    (λ e. let l = ltb-false a (n - 1) e in le-ltb (suc a) n (omega arith) ∙ sym e)

module _ {text work : List ℕ} {i to taxa : ℕ} where
  module _ {left j : ℕ} (k : Counting text work i to taxa left j) where
    pub counting-turn : {e next : ℕ} → j < to → 0 < left → LineEnds text work (j + 1) to e → LineBegins text work e to next → Counting text work i to taxa (left - 1) next
    counting-turn {e} {next} h more over begins =
        record {
          here = begins.here;
          rest = sym (ltb-less (length (lines_from false (range text work next to))) left more) ∙ sym (rw (line-then text work j to e next h (k.here h) over begins)) ∙ k.rest;
        }

    pub counting-end : to ≤ j → ltb 0 left ≡ ltb (length (lines_from false (range text work i to))) taxa
    counting-end h = sym (rw (lines_end text work j to false h)) ∙ k.rest

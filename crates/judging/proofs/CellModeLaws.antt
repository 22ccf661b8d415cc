-- Steps of the modes in which cells are read, and runs of steps. Assumes nothing.
use Rattle.std.specs.Prelude.{Some, None}
use Prim.Native.Nat.{ℕ, ◌+◌, ◌*◌, ◌-◌, ◌≤◌, ◌<◌}
use Rattle.judging.specs.CellModes.{begun, is_digit, ends, grown, next, row_end, run, step, step_index, within}
use Rattle.judging.specs.declared.cells.Mode.{Mode}
use Rattle.lexer.proofs.Basics.{and_both, and-false, by-test}
use Rattle.lexer.specs.Base.{pick}
use borrow.Author.Tests.{eq-eqb, eqb-false, eqb-true, le-leb, le-ltb, lt-ltb, ne_eqb}
use lib.Dec.{eqb}
use mathlib.Core.Bool.{Bool, true, false, false≢true, ◌&&◌}
use mathlib.Core.List.{List, [], ◌∷◌, ◌++◌}
use mathlib.Core.Path.{◌≡◌, refl, sym, ap, ◌∙◌}
use native.Mathlib.Omega.{arith}

-- A run over bytes and more bytes is a run over the first, and from there over the others.
pub run-append : (count : ℕ) (m : Mode) (a b : List ℕ) → run count m (a ++ b) ≡ run count (run count m a) b
unfolding run
run-append count m [] b = refl
run-append count m (x ∷ a) b = run-append count (step count m x) a b

-- The same where one byte is told apart.
pub run-then : (count : ℕ) (m : Mode) (a : List ℕ) (b : ℕ) (r : List ℕ) → run count m (a ++ (b ∷ r)) ≡ run count (step count (run count m a) b) r
unfolding run
run-then count m a b r = run-append count m a (b ∷ r)

-- Where neither an index nor `m` or `g` was read, no cell may end.
pub ends-other : (m : Mode) → ((set : Bool) (low n : ℕ) → m ≡ Mode.Index set low n → ⊥) → (m ≡ Mode.Whole → ⊥) → ends m ≡ false
unfolding ends
ends-other Mode.Fresh i w = refl
ends-other (Mode.Opened low) i w = refl
ends-other (Mode.Index set low n) i w = absurd (i set low n refl)
ends-other Mode.Whole i w = absurd (w refl)
ends-other Mode.Wrong i w = refl

-- Behind `m` or `g` no byte but a blank may stand, and none where no cell began.
pub within-other : (count b : ℕ) (m : Mode) → (m ≡ Mode.Fresh → ⊥) → ((low : ℕ) → m ≡ Mode.Opened low → ⊥)
    → ((set : Bool) (low n : ℕ) → m ≡ Mode.Index set low n → ⊥) → within count m b ≡ Mode.Wrong
unfolding within
within-other count b Mode.Fresh f o i = absurd (f refl)
within-other count b (Mode.Opened low) f o i = absurd (o low refl)
within-other count b (Mode.Index set low n) f o i = absurd (i set low n refl)
within-other count b Mode.Whole f o i = refl
within-other count b Mode.Wrong f o i = refl

-- From a wrong mode no step and no run leads away.
step-wrong : (count b : ℕ) → step count Mode.Wrong b ≡ Mode.Wrong
unfolding step next ends within pick
step-wrong count b = by-test (eqb b 32) (λ t. rw t) (λ f. rw f)

pub run-wrong : (count : ℕ) (t : List ℕ) → run count Mode.Wrong t ≡ Mode.Wrong
unfolding run
run-wrong count [] = refl
run-wrong count (b ∷ t) = rw (step-wrong count b) (run-wrong count t)

-- What is at most 9 above `0` is a digit.
pub digit-byte : (d : ℕ) → d < 10 → is_digit (48 + d) ≡ true
unfolding is_digit
digit-byte d h = and_both (le-leb 48 (48 + d) (omega arith)) (le-leb (48 + d) 57 (omega arith))

-- Nothing above `0` is a byte below it.
pub digit-other : (d x : ℕ) → x < 48 → eqb (48 + d) x ≡ false
digit-other d x h = ne_eqb (48 + d) x (λ e. omega arith)

module _ (count : ℕ) where
  -- A blank leads to a new cell where a cell may end, and nowhere else; any other byte is read within the cell.
  pub step-blank : (m : Mode) → ends m ≡ true → step count m 32 ≡ Mode.Fresh
  unfolding step next pick
  step-blank m h = rw h

  pub step-stuck : (m : Mode) → ends m ≡ false → step count m 32 ≡ Mode.Wrong
  unfolding step next pick
  step-stuck m h = rw h

  pub step-within : (m : Mode) (b : ℕ) → eqb b 32 ≡ false → step count m b ≡ within count m b
  unfolding step pick
  step-within m b h = rw h

  -- A blank is no cell.
  pub cell-unblank : (b : ℕ) → ends (step count Mode.Fresh b) ≡ true → eqb b 32 ≡ false
  unfolding step next ends pick
  cell-unblank b h = by-test (eqb b 32) (λ t. absurd (false≢true (rw t at h))) (λ f. f)

  -- A digit leads to the mode of the index with that digit, if it stays below the count.
  pub begun-digit : (set : Bool) (low d : ℕ) → d < count → begun count set low (48 + d) ≡ Mode.Index set low d
  unfolding begun pick
  begun-digit set low d h =
      let e : 48 + d - 48 ≡ d = omega arith in
      rw (e, lt-ltb d count h)

  pub grown-digit : (set : Bool) (low n d : ℕ) → 1 ≤ n → d < 10 → n * 10 + d < count → step count (Mode.Index set low n) (48 + d) ≡ Mode.Index set low (n * 10 + d)
  unfolding within step_index grown pick
  grown-digit set low n d some small h =
      let e : 48 + d - 48 ≡ d = omega arith in
      step-within (Mode.Index set low n) (48 + d) (digit-other d 32 (omega arith))
      ∙ rw (digit-byte d small, ne_eqb n 0 (λ z. omega arith), e, lt-ltb (n * 10 + d) count h)

  -- A step by a byte that is no blank, where the mode is known.
  pub step-known : {m k r : Mode} (b : ℕ) → (b ≡ 32 → ⊥) → m ≡ k → r ≡ within count k b → r ≡ step count m b
  step-known {m} {k} {r} b other e h = h ∙ sym (step-within k b (ne_eqb b 32 other)) ∙ ap (λ x. step count x b) (sym e)

  -- A further digit leads on exactly if the value that it makes is below the count.
  pub grown-within : (set : Bool) (low n b : ℕ) → (n ≡ 0 → ⊥) → n * 10 + (b - 48) < count → grown count set low n b ≡ Mode.Index set low (n * 10 + (b - 48))
  unfolding grown pick
  grown-within set low n b some h = rw (ne_eqb n 0 some, lt-ltb (n * 10 + (b - 48)) count h)

  pub grown-past : (set : Bool) (low n b : ℕ) → (n ≡ 0 → ⊥) → count ≤ n * 10 + (b - 48) → grown count set low n b ≡ Mode.Wrong
  unfolding grown pick
  grown-past set low n b some h = rw (ne_eqb n 0 some, le-ltb (n * 10 + (b - 48)) count h)

-- What a row is judged to be, where the count of characters less 1 is compared: no row has no cells.
module _ (end : ℕ) (m : Mode) (blanks : ℕ) (gap : Bool) (characters : ℕ) where
  pub row-end-none : characters ≡ 0 → row_end end m blanks gap characters ≡ None
  unfolding row_end pick
  row-end-none none = rw (ne_eqb (blanks + 1) characters (λ e. omega arith), and-false (ends m))

  fewer-same : (characters ≡ 0 → ⊥) → eqb (blanks + 1) characters ≡ eqb (characters - 1) blanks
  fewer-same some =
      by-test (eqb (characters - 1) blanks) (λ t. eq-eqb (blanks + 1) characters (omega (arith, some, eqb-true (characters - 1) blanks t)) ∙ sym t)
      (λ f. let other = eqb-false (characters - 1) blanks f in ne_eqb (blanks + 1) characters (λ e. other (omega arith)) ∙ sym f)

  pub row-end-some : (characters ≡ 0 → ⊥) → (e t : Bool) → e ≡ ends m → e && eqb (characters - 1) blanks ≡ t → row_end end m blanks gap characters ≡ pick t (Some (end, gap)) None
  unfolding row_end
  row-end-some some e t same test = rw (fewer-same some, ← same, test)

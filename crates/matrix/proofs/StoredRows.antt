-- Stored rows: one more of them, their names; and that they are the same where work memory was kept up to an index. Assumes nothing.
use Prim.Native.Nat.{ℕ, zero, suc, ◌+◌, ◌≤◌, ◌<◌}
use Rattle.block.proofs.OutcomeLaws.{All}
use Rattle.block.specs.Format.{Format}
use Rattle.block.specs.Sequential.{names}
use Rattle.lexer.proofs.RangeLaws.{word_kept, range-kept}
use Rattle.matrix.specs.Lines.{name_at, stored, names_stored, row_at, rows_sequential}
use Rattle.slots.specs.Filling.{Cleared}
use lib.ListN.{length, take, drop, set, length-drop}
use lib.Seq.{drop-set-add, take-suc-set, take-take}
use mathlib.Core.List.{List, [], ◌∷◌, ◌++◌}
use mathlib.Core.Path.{◌≡◌, refl, sym, ap, ◌∙◌}
use native.Mathlib.Numerals.{add-one}
use native.Mathlib.Omega.{arith}

-- One number more that is stored behind the others.
pub stored_more : (work : List ℕ) (at rows s : ℕ) → at + rows < length work → stored (set work (at + rows) s) at (rows + 1) ≡ stored work at rows ++ (s ∷ [])
unfolding stored
stored_more work at rows s h = rw (drop-set-add at work rows s, add-one rows) (take-suc-set (drop at work) rows s (omega (arith, length-drop at work)))

module _ (text work : List ℕ) (f : Format) (n to : ℕ) where
  pub rows_more : (starts : List ℕ) (s : ℕ) → rows_sequential text work f n to (starts ++ (s ∷ [])) ≡ rows_sequential text work f n to starts ++ (row_at text work f n to s ∷ [])
  unfolding rows_sequential
  rows_more [] s = refl
  rows_more (t ∷ r) s = rw (rows_more r s)

  pub rows-names : (starts : List ℕ) → names (rows_sequential text work f n to starts) ≡ names_stored text work starts
  unfolding rows_sequential names_stored names row_at
  rows-names [] = refl
  rows-names (s ∷ r) = rw (rows-names r)

-- Numbers that are stored in front of an index are the same where work memory was kept up to it.
front-of : (l n m : ℕ) (w : List ℕ) → l + n ≤ m → take n (drop l (take m w)) ≡ take n (drop l w)
front-of zero n m w h = take-take n m w (omega arith)
front-of (suc l) n zero w h = absurd (omega arith)
front-of (suc l) n (suc m) [] h = refl
front-of (suc l) n (suc m) (x ∷ w) h = front-of l n m w (omega arith)

pub stored-kept : (work before : List ℕ) (at lines rows : ℕ) → take at work ≡ take at before → lines + rows ≤ at → stored work lines rows ≡ stored before lines rows
unfolding stored
stored-kept work before at lines rows e h = sym (front-of lines rows at work h) ∙ ap (λ x. take rows (drop lines x)) e ∙ front-of lines rows at before h

-- What stands in front of a table that was cleared was kept.
pub cleared-front : (before work : List ℕ) (at base : ℕ) → Cleared before work base → at ≤ base → take at work ≡ take at before
cleared-front before work at base c h = sym (take-take at base work h) ∙ ap (take at) c.front ∙ take-take at base before h

-- Names and rows
module _ (text work before : List ℕ) (at : ℕ) (kept : take at work ≡ take at before) where
  pub names-kept : (starts : List ℕ) → All (λ s. s < at) starts → names_stored text work starts ≡ names_stored text before starts
  unfolding names_stored name_at
  names-kept [] h = refl
  names-kept (s ∷ r) h = rw (word_kept text work before at kept s h.0, names-kept r h.1)

  pub rows-kept : (f : Format) (n to : ℕ) → to ≤ at → (starts : List ℕ) → All (λ s. s < at) starts → rows_sequential text work f n to starts ≡ rows_sequential text before f n to starts
  unfolding rows_sequential row_at name_at
  rows-kept f n to l [] h = refl
  rows-kept f n to l (s ∷ r) h = rw (word_kept text work before at kept s h.0, range-kept text work before at kept (s + 1) to l, rows-kept f n to l r h.1)

-- Stored lines of an interleaved matrix: one more of them; and that they mean the same where work memory was kept. Assumes nothing.
use Prim.Native.Nat.{ℕ, ◌+◌, ◌≤◌, ◌<◌}
use Rattle.block.proofs.OutcomeLaws.{All}
use Rattle.block.specs.Format.{Format}
use Rattle.block.specs.Interleaved.{Page, first_page}
use Rattle.lexer.proofs.RangeLaws.{word_kept, range-kept}
use Rattle.matrix.proofs.StoredRows.{names-kept}
use Rattle.matrix.specs.Lines.{name_at, names_stored}
use Rattle.matrix.specs.PagesHeld.{line_at, with_line, page_held, pages_held}
use lib.ListN.{take}
use mathlib.Core.List.{List, [], ◌∷◌, ◌++◌, map-append}
use mathlib.Core.Path.{◌≡◌, refl, ap}

-- A stored line more.
module _ (text work : List ℕ) (f : Format) (taxa to : ℕ) where
  page-more : (p : Page) (starts : List ℕ) (s : ℕ) → page_held text work f taxa to p (starts ++ (s ∷ [])) ≡ with_line f taxa (page_held text work f taxa to p starts) (line_at text work f to s)
  unfolding page_held
  page-more p [] s = refl
  page-more p (t ∷ r) s = page-more (with_line f taxa p (line_at text work f to t)) r s

-- Its name stands behind the others.
names_more : (text work starts : List ℕ) (s : ℕ) → names_stored text work (starts ++ (s ∷ [])) ≡ names_stored text work starts ++ (name_at text work s ∷ [])
unfolding names_stored
names_more text work starts s = rw map-append

-- Stored lines mean the same where work memory was kept.
module _ (text work before : List ℕ) (at : ℕ) (kept : take at work ≡ take at before) (f : Format) (taxa to : ℕ) (h : to ≤ at) where
  line_kept : (s : ℕ) → s < at → line_at text work f to s ≡ line_at text before f to s
  unfolding line_at name_at
  line_kept s l = rw (word_kept text work before at kept s l, range-kept text work before at kept (s + 1) to h)

  name-kept : (s : ℕ) → s < at → name_at text work s ≡ name_at text before s
  unfolding name_at
  name-kept s l = rw (word_kept text work before at kept s l)

  -- one line more, by what work memory holds now
  pub held_more : (p : Page) (starts : List ℕ) (s : ℕ) → s < at → page_held text before f taxa to p (starts ++ (s ∷ [])) ≡ with_line f taxa (page_held text before f taxa to p starts) (line_at text work f to s)
  held_more p starts s l = rw (line_kept s l) (page-more text before f taxa to p starts s)

  pub named_more : (starts : List ℕ) (s : ℕ) → All (λ s. s < at) starts → s < at → names_stored text before (starts ++ (s ∷ [])) ≡ names_stored text work starts ++ (name_at text work s ∷ [])
  named_more starts s a l = rw (names-kept text work before at kept starts a, name-kept s l) (names_more text before starts s)

  pub page-kept : (p : Page) (starts : List ℕ) → All (λ s. s < at) starts → page_held text work f taxa to p starts ≡ page_held text before f taxa to p starts
  unfolding page_held
  page-kept p [] a = refl
  page-kept p (s ∷ r) a = rw (line_kept s a.0) (page-kept (with_line f taxa p (line_at text before f to s)) r a.1)

  pub pages-kept : (starts : List ℕ) → All (λ s. s < at) starts → pages_held text work f taxa to starts ≡ pages_held text before f taxa to starts
  unfolding pages_held
  pages-kept starts a = ap (λ p. p.below) (page-kept first_page starts a)

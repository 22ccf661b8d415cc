-- Cells in a record: sound cells are read back, hold no LF, and are spelled in one way. Assumes nothing.
use Prim.Native.Nat.{ℕ, ◌≤◌}
use Rattle.block.specs.Cell.{Cell, state, uncertain, polymorphic, missing, gap}
use Rattle.lexer.proofs.Basics.{and_left, and_right, or-both, same_true}
use Rattle.lexer.specs.Base.{pick, among, is_empty, same}
use Rattle.record.proofs.DecimalLaws.{is_digit, all_digits, decimal-digits, decimal-some, undecimal-decimal, decimal-undecimal}
use Rattle.record.proofs.LineLaws.{made_some}
use Rattle.record.proofs.PartLaws.{joined, joined_free, Every, every, list_read, list-spelled}
use Rattle.record.specs.Decimal.{decimal, undecimal}
use Rattle.block.specs.Sound.{sound_set, sound_cell, sound_cells, rising}
use Rattle.record.specs.Spell.{dotted, spell_cell, spell_cells}
use Rattle.record.specs.Unspell.{numbers, made, unspell_cell, unspell_cells}
use borrow.Author.Tests.{eqb-true, ne_eqb, not-true, leb-true, lt-leb}
use lib.Dec.{eqb, leb}
use mathlib.Core.Bool.{Bool, true, false, true≢false}
use mathlib.Core.List.{List, [], ◌∷◌, map}
use mathlib.Core.Option.{some, none-ne-some, some-injective}
use mathlib.Core.Path.{◌≡◌, refl, sym, ap, ◌∙◌}
use native.Mathlib.Omega.{arith}

-- A byte that is no digit is not in a decimal.
digits-free : (b : ℕ) → is_digit b ≡ false → (t : List ℕ) → all_digits t ≡ true → among b t ≡ false
unfolding all_digits among
digits-free b o [] h = refl
digits-free b o (c ∷ t) h =
    or-both (ne_eqb b c (λ e. true≢false (sym (and_left _ (all_digits t) h) ∙ ap is_digit (sym e) ∙ o))) (digits-free b o t (and_right (is_digit c) _ h))

pub decimal-free : (b : ℕ) → is_digit b ≡ false → (n : ℕ) → among b (decimal n) ≡ false
decimal-free b o n = digits-free b o (decimal n) (decimal-digits n)

-- Indices joined by dots, and cells parted by blanks
dotted-joined : (s : List ℕ) → dotted s ≡ joined 46 (map decimal s)
unfolding dotted joined
dotted-joined [] = refl
dotted-joined (i ∷ []) = refl
dotted-joined (i ∷ j ∷ r) = rw (dotted-joined (j ∷ r))

cells-joined : (cs : List Cell) → spell_cells cs ≡ joined 32 (map spell_cell cs)
unfolding spell_cells joined
cells-joined [] = refl
cells-joined (c ∷ []) = refl
cells-joined (c ∷ d ∷ r) = rw (cells-joined (d ∷ r))

-- A set's indices
set-read : (s : List ℕ) → is_empty s ≡ false → numbers (dotted s) ≡ some s
unfolding numbers is_digit
set-read s h = rw (dotted-joined s) (list_read undecimal decimal 46 s h (every (decimal-free 46 refl) s) (every undecimal-decimal s))

set-spelled : (t s : List ℕ) → numbers t ≡ some s → dotted s ≡ t
unfolding numbers
set-spelled t s h = rw dotted-joined (list-spelled undecimal decimal 46 decimal-undecimal [] t s h)

pub dotted-free : (b : ℕ) → is_digit b ≡ false → eqb b 46 ≡ false → (s : List ℕ) → among b (dotted s) ≡ false
dotted-free b o d s = rw dotted-joined (joined_free decimal b 46 d s (every (decimal-free b o) s))

-- One cell
state-read : (t : List ℕ) → all_digits t ≡ true → is_empty t ≡ false → unspell_cell t ≡ made state (undecimal t)
unfolding unspell_cell all_digits is_empty is_digit pick same
state-read [] h e = absurd (true≢false e)
state-read (b ∷ r) h e = rw (letter 117 refl, letter 112 refl, letter 109 refl, letter 103 refl)
  where
    letter : (x : ℕ) → leb 58 x ≡ true → eqb b x ≡ false
    letter x l =
        let digit : b ≤ 57 = leb-true b 57 (and_right (leb 48 b) _ (and_left _ (all_digits r) h)) in
        let big : 58 ≤ x = leb-true 58 x l in
        ne_eqb b x (λ q. omega arith)

-- Bytes below the dot are in no cell.
low-other : (b x : ℕ) → b ≤ 45 → 46 ≤ x → eqb b x ≡ false
low-other b x l h = ne_eqb b x (λ q. omega arith)

low_digit : (b : ℕ) → b ≤ 45 → is_digit b ≡ false
unfolding is_digit
low_digit b l = rw (lt-leb 48 b (omega arith))

pub cell_free : (b : ℕ) → b ≤ 45 → (c : Cell) → among b (spell_cell c) ≡ false
unfolding spell_cell among
cell_free b l (state i) = decimal-free b (low_digit b l) i
cell_free b l (uncertain s) = or-both (low-other b 117 l (omega arith)) (dotted-free b (low_digit b l) (low-other b 46 l (omega arith)) s)
cell_free b l (polymorphic s) = or-both (low-other b 112 l (omega arith)) (dotted-free b (low_digit b l) (low-other b 46 l (omega arith)) s)
cell_free b l missing = or-both (low-other b 109 l (omega arith)) refl
cell_free b l gap = or-both (low-other b 103 l (omega arith)) refl

set-some : (count : ℕ) (s : List ℕ) → sound_set count s ≡ true → is_empty s ≡ false
unfolding sound_set
set-some count s h = not-true _ (and_left _ (rising count s) h)

cell-read : (count : ℕ) (c : Cell) → sound_cell count c ≡ true → unspell_cell (spell_cell c) ≡ some c
unfolding sound_cell spell_cell unspell_cell pick made same
cell-read count (state i) h = state-read (decimal i) (decimal-digits i) (decimal-some i) ∙ rw undecimal-decimal
cell-read count (uncertain s) h = rw (set-read s (set-some count s h))
cell-read count (polymorphic s) h = rw (set-read s (set-some count s h))
cell-read count missing h = refl
cell-read count gap h = refl

each-cell-read : (count : ℕ) (cs : List Cell) → sound_cells count cs ≡ true → Every (λ c. unspell_cell (spell_cell c) ≡ some c) cs
unfolding sound_cells
each-cell-read count [] h = tt
each-cell-read count (c ∷ r) h =
    (cell-read count c (and_left _ (sound_cells count r) h), each-cell-read count r (and_right (sound_cell count c) _ h))

cell-spelled : (p : List ℕ) (c : Cell) → unspell_cell p ≡ some c → spell_cell c ≡ p
unfolding unspell_cell spell_cell pick
cell-spelled [] c h = absurd (none-ne-some c h)
cell-spelled (b ∷ r) c h = go (eqb b 117) refl (eqb b 112) refl (same (b ∷ r) (109 ∷ [])) refl (same (b ∷ r) (103 ∷ [])) refl h
  where
    go : (u : Bool) → eqb b 117 ≡ u → (p : Bool) → eqb b 112 ≡ p → (m : Bool) → same (b ∷ r) (109 ∷ []) ≡ m → (g : Bool)
        → same (b ∷ r) (103 ∷ []) ≡ g
        → pick u (made uncertain (numbers r)) (pick p (made polymorphic (numbers r)) (pick m (some missing) (pick g (some gap) (made state (undecimal (b ∷ r)))))) ≡ some c
        → spell_cell c ≡ b ∷ r
    go true e p f m k g l h =
        let s = made_some uncertain (numbers r) c h in
        rw (← s.2, set-spelled r s.0 s.1, eqb-true b 117 e)
    go false e true f m k g l h =
        let s = made_some polymorphic (numbers r) c h in
        rw (← s.2, set-spelled r s.0 s.1, eqb-true b 112 f)
    go false e false f true k g l h = rw (← some-injective missing c h) (sym (same_true _ _ k))
    go false e false f false k true l h = rw (← some-injective gap c h) (sym (same_true _ _ l))
    go false e false f false k false l h =
        let s = made_some state (undecimal (b ∷ r)) c h in
        rw (← s.2) (decimal-undecimal (b ∷ r) s.0 s.1)

pub cells-spelled : (v : List ℕ) (cs : List Cell) → unspell_cells v ≡ some cs → spell_cells cs ≡ v
unfolding unspell_cells
cells-spelled v cs h = rw cells-joined (list-spelled unspell_cell spell_cell 32 cell-spelled [] v cs h)

pub cells-read : (count : ℕ) (cs : List Cell) → is_empty cs ≡ false → sound_cells count cs ≡ true → unspell_cells (spell_cells cs) ≡ some cs
unfolding unspell_cells
cells-read count cs e h = rw (cells-joined cs) (list_read unspell_cell spell_cell 32 cs e (every (cell_free 32 (omega arith)) cs) (each-cell-read count cs h))

pub cells-clean : (cs : List Cell) → among 10 (spell_cells cs) ≡ false
cells-clean cs = rw cells-joined (joined_free spell_cell 10 32 refl cs (every (cell_free 10 (omega arith)) cs))

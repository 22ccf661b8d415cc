-- A whole set that is put at once: how its states are spelled, and the cell that its words have. Assumes nothing.
use Prim.Native.Nat.{ℕ, zero, suc, ◌+◌, ◌-◌, ◌≤◌, ◌<◌}
use Rattle.block.specs.Cell.{Cell, insert, insert_all}
use Rattle.block.specs.Chunk.{plain, within, closer, set_cell}
use Rattle.block.specs.Format.{Format}
use Rattle.block.specs.declared.kinds.Bracket.{Bracket}
use Rattle.emit.proofs.DecimalMade.{decimal-one}
use Rattle.emit.proofs.PutLaws.{puts-as, puts_none, puts_then}
use Rattle.emit.specs.Puts.{Puts}
use Rattle.lexer.proofs.Basics.{and_left, and_right, by-test, eqb_same}
use Rattle.lexer.proofs.ListLaws.{take_next}
use Rattle.lexer.specs.Base.{pick}
use Rattle.lexer.specs.PlainWords.{part}
use Rattle.lexer.specs.Stored.{word_of}
use Rattle.lexer.specs.Words.{is_mark, punct, is_word}
use Rattle.lexer.specs.declared.Kind.{Kind}
use Rattle.matrix.specs.Taken.{also, states_taken, taken, word_taken}
use Rattle.matrix.specs.WholeSets.{SetBytes, WholeSet, bracket_of, opener, rising, is_simple}
use Rattle.reading.proofs.DecodedLaws.{decoded-state}
use Rattle.reading.proofs.RowPieces.{row_one}
use Rattle.reading.proofs.RowSteps.{taken-brace, taken-closer, taken-parenthesis, taken-states}
use Rattle.reading.specs.CodedCells.{Digits, RowPut, cells_coded, codes_of, has_cells, letter_of, marked_digits, word_coded}
use Rattle.reading.specs.declared.cells.Putting.{Putting}
use Rattle.record.specs.Spell.{dotted, spell_cell}
use borrow.Author.Tests.{lt-ltb, leb-true, ltb-true}
use lib.Dec.{eqb, leb, ltb}
use lib.ListN.{length, get_or, drop, length-take, length-drop}
use lib.Seq.{get_or-drop, get_or-take}
use mathlib.Core.Bool.{true, ◌&&◌}
use mathlib.Core.List.{List, [], ◌∷◌, ◌++◌}
use mathlib.Core.Path.{◌≡◌, refl, sym, ap, ◌∙◌}
use native.Mathlib.Nat.{min-eq_left}
use native.Mathlib.Omega.{arith}

-- What rising states say of the first, and of those behind it.
module _ (codes : List ℕ) (least b : ℕ) (r : List ℕ) (t : rising codes least (b ∷ r) ≡ true) where
  abbrev c : ℕ
  c = get_or codes b 0

  first : leb least c && ltb c 10 ≡ true
  unfolding rising
  first = and_left (leb least c && ltb c 10) (is_simple b) (and_left (leb least c && ltb c 10 && is_simple b) (rising codes (c + 1) r) t)

  rising-least : least ≤ c
  rising-least = leb-true least c (and_left (leb least c) (ltb c 10) first)

  rising-low : c < 10
  rising-low = ltb-true c 10 (and_right (leb least c) (ltb c 10) first)

  rising-rest : rising codes (c + 1) r ≡ true
  unfolding rising
  rising-rest = and_right (leb least c && ltb c 10 && is_simple b) (rising codes (c + 1) r) t

rising-digit : (codes : List ℕ) (least : ℕ) (l : List ℕ) → rising codes least l ≡ true → (k : ℕ) → k < length l → get_or codes (get_or l k 0) 0 < 10
rising-digit codes least [] t k h = absurd (omega arith)
rising-digit codes least (b ∷ r) t zero h = rising-low codes least b r t
rising-digit codes least (b ∷ r) t (suc k) h = rising-digit codes (get_or codes b 0 + 1) r (rising-rest codes least b r t) k (omega arith)

-- The states of such a word are its codes, and they are the set that they make.
rising-states : (codes : List ℕ) (least : ℕ) (l : List ℕ) → rising codes least l ≡ true → states_taken (cells_coded codes l) ≡ codes_of codes l
unfolding cells_coded codes_of states_taken also
rising-states codes least [] t = refl
rising-states codes least (b ∷ r) t =
    let low = rising-low codes least b r t in
    rw (decoded-state (get_or codes b 0) (omega arith)) (ap (λ s. get_or codes b 0 ∷ s) (rising-states codes (get_or codes b 0 + 1) r (rising-rest codes least b r t)))

insert-first : (i : ℕ) (codes r : List ℕ) → rising codes (i + 1) r ≡ true → insert i (codes_of codes r) ≡ i ∷ codes_of codes r
unfolding insert codes_of pick
insert-first i codes [] t = refl
insert-first i codes (b ∷ r) t = let l = rising-least codes (i + 1) b r t in rw (lt-ltb i (get_or codes b 0) (omega arith)) refl

rising-set : (codes : List ℕ) (least : ℕ) (l : List ℕ) → rising codes least l ≡ true → insert_all (codes_of codes l) [] ≡ codes_of codes l
unfolding insert_all codes_of
rising-set codes least [] t = refl
rising-set codes least (b ∷ r) t =
    let rest = rising-rest codes least b r t in
    ap (insert (get_or codes b 0)) (rising-set codes (get_or codes b 0 + 1) r rest) ∙ insert-first (get_or codes b 0) codes r rest

-- They are spelled by a mark and a digit each.
digits-dotted : (codes : List ℕ) (least m b : ℕ) (r : List ℕ) (behind : List ℕ) → rising codes least (b ∷ r) ≡ true
    → marked_digits codes m (b ∷ r) behind ≡ m ∷ (dotted (codes_of codes (b ∷ r)) ++ behind)
unfolding marked_digits codes_of dotted
digits-dotted codes least m b [] behind t = rw (decimal-one (get_or codes b 0) (rising-low codes least b [] t)) refl
digits-dotted codes least m b (d ∷ r) behind t =
    rw (decimal-one (get_or codes b 0) (rising-low codes least b (d ∷ r) t))
    (ap (λ l. m ∷ (48 + get_or codes b 0) ∷ l) (digits-dotted codes (get_or codes b 0 + 1) 46 d r behind (rising-rest codes least b (d ∷ r) t)))

letter-spelled : (codes : List ℕ) (mark : ℕ) (l behind : List ℕ) → 0 < length l → rising codes 0 l ≡ true
    → marked_digits codes (letter_of mark) l behind ≡ spell_cell (set_cell (bracket_of mark) (codes_of codes l)) ++ behind
unfolding letter_of bracket_of set_cell spell_cell pick
letter-spelled codes mark [] behind h t = absurd (omega arith)
letter-spelled codes mark (b ∷ r) behind h t = digits-dotted codes 0 (letter_of mark) b r behind t ∙ go
  where
    go : letter_of mark ∷ (dotted (codes_of codes (b ∷ r)) ++ behind) ≡ spell_cell (set_cell (bracket_of mark) (codes_of codes (b ∷ r))) ++ behind
    go = by-test (eqb mark 123) (λ e. rw e refl) (λ e. rw e refl)

-- The bytes of a whole set.
module _ (codes text : List ℕ) (start end : ℕ) (s : SetBytes codes text start end) where
  abbrev states : List ℕ
  states = part text (start + 1) end

  states-size : length states ≡ end - (start + 1)
  states-size = let within = s.within in length-take (end - (start + 1)) (drop (start + 1) text) ∙ rw (length-drop (start + 1) text) (min-eq_left (omega arith))

  pub set-digits : Digits codes text (start + 1) end
  set-digits =
      let some = s.some in
      let within = s.within in
      record { ahead = omega arith; within = omega arith; each = λ k h l. each k h l }
    where
      each : (k : ℕ) → start + 1 ≤ k → k < end → get_or codes (get_or text k 0) 0 < 10
      each k h l =
          let at : k - (start + 1) < end - (start + 1) = omega arith in
          let there : start + 1 + (k - (start + 1)) ≡ k = omega arith in
          let low = rising-digit codes 0 states s.rises (k - (start + 1)) (omega (arith, states-size)) in
          rw (get_or-take (end - (start + 1)) (drop (start + 1) text) (k - (start + 1)) 0 at, get_or-drop (start + 1) text (k - (start + 1)) 0, there) at low

  set-spelled : (behind : List ℕ) → marked_digits codes (letter_of (get_or text start 0)) states behind ≡ spell_cell (set_cell (bracket_of (get_or text start 0)) (codes_of codes states)) ++ behind
  set-spelled behind = letter-spelled codes (get_or text start 0) states behind (omega (arith, states-size, s.some)) s.rises

  -- A blank, if others were put, and such a set.
  pub whole-put : {a b d : List ℕ} {row : Putting} {m n l letter : ℕ} → letter ≡ letter_of (get_or text start 0) → Puts a row.at (λ behind. pick row.started (32 ∷ behind) behind) b m
      → Puts b m (marked_digits codes letter states) d n → l ≡ row.left - 1
      → RowPut a row (set_cell (bracket_of (get_or text start 0)) (codes_of codes states) ∷ []) d (record { at = n; started = true; left = l })
  whole-put e p q f = row_one _ p (puts-as q (λ behind. ap (λ x. marked_digits codes x states behind) e ∙ set-spelled behind)) f

-- Whatever puts the states that are left makes all of them put.
module _ (codes text : List ℕ) (from end : ℕ) (before : List ℕ) (n letter : ℕ) where
  pub record DigitsLeft (buffer : List ℕ) (at mark i : ℕ) : Type 0 where
    pub ahead : from ≤ i
    pub within : i ≤ end
    pub kept : length buffer ≡ length before
    pub rest : (after : List ℕ) (next : ℕ) → Puts buffer at (marked_digits codes mark (part text i end)) after next → Puts before n (marked_digits codes letter (part text from end)) after next

  pub digits-turn : {buffer b d : List ℕ} {at mark i m k : ℕ} (code : ℕ) → DigitsLeft buffer at mark i → i < end → i < length text → code ≡ get_or codes (get_or text i 0) 0
      → Puts buffer at (λ behind. mark ∷ behind) b m → Puts b m (λ behind. (48 + code) ∷ behind) d k → DigitsLeft d k 46 (i + 1)
  unfolding marked_digits
  digits-turn {i = i} code l h here e p q =
      record {
        ahead = omega (arith, l.ahead);
        within = omega arith;
        kept = q.kept ∙ p.kept ∙ l.kept;
        rest = λ after next r. l.rest after next (puts-as (puts_then p (puts_then q r)) (λ behind. sym (rw (take_next text i end h here, e) refl)));
      }

  pub digits-end : {buffer : List ℕ} {at mark i : ℕ} → DigitsLeft buffer at mark i → end ≤ i → Puts before n (marked_digits codes letter (part text from end)) buffer at
  unfolding marked_digits
  digits-end {buffer} {at} {i = i} l h = let none : end - i ≡ 0 = omega arith in l.rest buffer at (rw none puts_none)

-- The cell that the three words of a whole set give a row.
module _ {codes text starts : List ℕ} {i to : ℕ} {k : Bracket} {states : List ℕ} (s : WholeSet codes text starts i to k states) (f : Format) (cells : List Cell) where
  pub set-opens : taken f (plain cells) (word_of text starts i) ≡ within cells k i []
  unfolding punct is_mark opener word_of
  set-opens = go k s.opened
    where
      go : (k : Bracket) → (word_of text starts i).token.kind ≡ Kind.Punctuation (opener k) → taken f (plain cells) (word_of text starts i) ≡ within cells k i []
      go Bracket.Brace e = taken-brace f cells (word_of text starts i) (rw e refl)
      go Bracket.Parenthesis e = taken-parenthesis f cells (word_of text starts i) (rw e refl) (rw e refl)

  pub set-grows : word_coded codes (word_of text starts (i + 1)) ≡ word_taken f (word_of text starts (i + 1))
      → taken f (within cells k i []) (word_of text starts (i + 1)) ≡ within cells k i (codes_of codes states)
  unfolding punct is_mark word_coded has_cells is_word pick
  set-grows same =
      taken-states f cells (word_of text starts (i + 1)) k i [] (rw s.word refl)
      ∙ ap (λ l. within cells k i (insert_all (states_taken l) [])) (sym same ∙ coded)
      ∙ ap (λ l. within cells k i (insert_all l [])) (rising-states codes 0 states s.rises)
      ∙ ap (within cells k i) (rising-set codes 0 states s.rises)
    where
      coded : word_coded codes (word_of text starts (i + 1)) ≡ cells_coded codes states
      coded = rw s.word refl

  pub set-ends : taken f (within cells k i (codes_of codes states)) (word_of text starts (i + 2)) ≡ plain (cells ++ (set_cell k (codes_of codes states) ∷ []))
  unfolding punct is_mark
  set-ends = taken-closer f cells (word_of text starts (i + 2)) k i (codes_of codes states) (rw s.closed (eqb_same (closer k)))

-- Places in the lines of a character, found one from another. Assumes nothing.
use Prim.Native.Nat.{ℕ, ◌+◌, ◌≤◌, ◌<◌, min}
use Rattle.block.specs.Reading.{Character}
use Rattle.judging.proofs.EscapedLines.{escaped-cases}
use Rattle.lexer.proofs.ListLaws.{drop-next}
use Rattle.naming.proofs.RowLaws.{drop-behind}
use Rattle.lexer.proofs.Basics.{by-test, or_left, or_right}
use Rattle.lexer.specs.Base.{among, bytes, is_empty}
use Rattle.record.proofs.EscapeLaws.{escaped-clean}
use Rattle.record.proofs.WordLaws.{decimal-clean, order-clean}
use Rattle.record.specs.Decimal.{decimal}
use Rattle.record.specs.Form.{any_label}
use Rattle.record.specs.Spell.{escaped, line, order_word, spell_character, spell_characters, spell_states}
use Rattle.writing.proofs.QuotedBytes.{line-ended}
use Rattle.writing.specs.CharacterLines.{LabelFound, LabelsTold, LineBehind, NextFound, NoState, OrderFound, StatesFound, count_on, label_on, order_on}
use borrow.Author.Tests.{eq-eqb, eqb-false, leb-true, leb-false, ne_eqb}
use lib.Dec.{eqb, leb}
use lib.ListN.{length, get_or, drop, drop_of_length-le, length-append}
use lib.Seq.{append_snoc, get_or-drop}
use mathlib.Core.Bool.{true, false, not}
use mathlib.Core.List.{List, [], ◌∷◌, ◌++◌}
use mathlib.Core.Path.{◌≡◌, refl, sym, ap, ◌∙◌}
use native.Mathlib.Nat.{add-zero}
use native.Mathlib.Omega.{arith}

-- The byte at a place is the first of what stands there.
pub byte-here : (b : List ℕ) (at : ℕ) (l : List ℕ) → drop at b ≡ l → get_or b at 0 ≡ get_or l 0 0
byte-here b at l e =
    let first : get_or (drop at b) 0 0 ≡ get_or b at 0 = get_or-drop at b 0 0 ∙ ap (λ k. get_or b k 0) (add-zero at) in
    sym first ∙ ap (λ t. get_or t 0 0) e

-- So many bytes further on, or at the end of the bytes, stands what stands behind so many bytes.
skip-drop : (b : List ℕ) (n r : ℕ) → r ≡ min n (length b) → drop r b ≡ drop n b
skip-drop b n r e =
    by-test (leb n (length b))
    (λ t. let l = leb-true n (length b) t in let same : r ≡ n = omega arith in ap (λ k. drop k b) same)
    (λ f.
    let l = leb-false n (length b) f in
    let short : length b ≤ r = omega arith in
    let far : length b ≤ n = omega arith in
    drop_of_length-le b short ∙ sym (drop_of_length-le b far))

pub skip-over : (b : List ℕ) (at r : ℕ) (x rest : List ℕ) → r ≡ min (at + length x) (length b) → drop at b ≡ x ++ rest → drop r b ≡ rest
skip-over b at r x rest e here = skip-drop b (at + length x) r e ∙ drop-behind b at x rest here

-- The line at a place ends at an LF, goes on behind any other byte, and is none behind the end.
module _ (b : List ℕ) (i : ℕ) where
  pub line-ends : i < length b → get_or b i 0 ≡ 10 → LineBehind b i (i + 1)
  unfolding among
  line-ends h e = record { found = go }
    where
      go : (line rest : List ℕ) → among 10 line ≡ false → drop i b ≡ line ++ (10 ∷ rest) → drop (i + 1) b ≡ rest
      go [] rest clean here = let next = drop-next b i h in cc
      go (c ∷ line) rest clean here =
          let next = drop-next b i h in
          let ten : 10 ≡ c = cc in
          absurd (eqb-false 10 c (or_left _ (among 10 line) clean) ten)

  pub line_on : i < length b → (get_or b i 0 ≡ 10 → ⊥) → (r : ℕ) → LineBehind b (i + 1) r → LineBehind b i r
  unfolding among
  line_on h other r behind = record { found = go }
    where
      go : (line rest : List ℕ) → among 10 line ≡ false → drop i b ≡ line ++ (10 ∷ rest) → drop r b ≡ rest
      go [] rest clean here =
          let next = drop-next b i h in
          let ten : get_or b i 0 ≡ 10 = cc in
          absurd (other ten)
      go (c ∷ line) rest clean here =
          let next = drop-next b i h in
          let later : drop (i + 1) b ≡ line ++ (10 ∷ rest) = cc in
          behind.found line rest (or_right (eqb 10 c) _ clean) later

  pub line-past : length b ≤ i → (r : ℕ) → LineBehind b i r
  line-past h r = record { found = λ line rest clean here. absurd (none line rest (sym (drop_of_length-le b h) ∙ here)) }
    where
      none : (line rest : List ℕ) → [] ≡ line ++ (10 ∷ rest) → ⊥
      none [] rest e = let z : ◌≡◌ {A = ℕ} 0 1 = cc in omega arith
      none (c ∷ l) rest e = let z : ◌≡◌ {A = ℕ} 0 1 = cc in omega arith

-- The label behind the line of the number and a key.
pub label-found : (b : List ℕ) (at j i r : ℕ) → j ≡ min (at + 10) (length b) → LineBehind b j i → r ≡ min (i + 6) (length b) → LabelFound b at r
unfolding spell_character line label_on order_on count_on bytes
label-found b at j i r s l t =
    record {
      found = λ k c behind e.
          skip-over b i r (bytes "label=") (label_on c behind) t (l.found (decimal k) _ (decimal-clean k) (skip-over b at j (bytes "character=") _ s e));
    }

-- The type behind the line of the label and a key.
pub order-found : (b : List ℕ) (at i r : ℕ) → LineBehind b at i → r ≡ min (i + 6) (length b) → OrderFound b at r
unfolding label_on bytes
order-found b at i r l t =
    record {
      found = λ c behind e. skip-over b i r (bytes "order=") (order_on c behind) t (l.found (escaped c.label) _ (escaped-clean c.label) e);
    }

-- The state labels behind the line of the type and that of the count.
pub states-found : (b : List ℕ) (at i j r : ℕ) → LineBehind b at i → j ≡ min (i + 7) (length b) → LineBehind b j r → StatesFound b at r
unfolding order_on count_on bytes
states-found b at i j r l s m =
    record {
      found = λ c behind e.
          m.found (decimal (length c.states)) _ (decimal-clean (length c.states))
          (skip-over b i j (bytes "states=") (count_on c behind) s (l.found (order_word c.ordering) _ (order-clean c.ordering) e));
    }

-- State labels stand at a place exactly if the byte there is an `s`.
module _ (b : List ℕ) (i : ℕ) (behind : List ℕ) (other : NoState behind) where
  pub states-none : (get_or b i 0 ≡ 115 → ⊥) → (states : List (List ℕ)) → drop i b ≡ spell_states states behind → states ≡ []
  unfolding spell_states line bytes
  states-none differs [] e = refl
  states-none differs (s ∷ r) e = absurd (differs (byte-here b i _ e))

  pub states-some : get_or b i 0 ≡ 115 → (states : List (List ℕ)) → drop i b ≡ spell_states states behind
      → (s : List ℕ) × (r : List (List ℕ)) × (states ≡ s ∷ r) × (drop i b ≡ bytes "state=" ++ (escaped s ++ (10 ∷ spell_states r behind)))
  unfolding spell_states line
  states-some e [] here = absurd (other (sym (byte-here b i _ here) ∙ e))
  states-some e (s ∷ r) here = (s, r, refl, here)

  -- A test of the byte tells whether there are any.
  states-tested : (states : List (List ℕ)) → drop i b ≡ spell_states states behind → eqb (get_or b i 0) 115 ≡ not (is_empty states)
  unfolding spell_states line bytes is_empty
  states-tested [] e = ne_eqb _ 115 (λ q. other (sym (byte-here b i _ e) ∙ q))
  states-tested (s ∷ r) e = rw (byte-here b i _ e)

-- A label is empty exactly if an LF stands where it is to begin.
pub label-tested : (b : List ℕ) (at : ℕ) (label rest : List ℕ) → drop at b ≡ escaped label ++ (10 ∷ rest) → eqb (get_or b at 0) 10 ≡ is_empty label
unfolding escaped is_empty
label-tested b at [] rest e = rw (byte-here b at _ e)
label-tested b at (x ∷ m) rest e =
    let first = byte-here b at _ (e ∙ line-ended (x ∷ m) rest) in
    rw first (escaped-cases (λ l. eqb (get_or l 0 0) 10 ≡ false) x m rest (λ y t meant some. refl) (λ p q. p))

-- A label that does not begin with an LF tells that a character has one; of one with the empty label, an `s` tells whether it has state labels.
module _ (b : List ℕ) (label states u : ℕ) (here : u ≡ get_or b label 0) where
  pub label-tells : (u ≡ 10 → ⊥) → LabelsTold b label states (not (eqb u 10))
  unfolding any_label label_on
  label-tells other =
      record {
        told = λ c behind s.
            let some : is_empty c.label ≡ false = sym (label-tested b label c.label _ s.label_here) ∙ ap (λ y. eqb y 10) (sym here) ∙ ne_eqb u 10 other in
            rw (ne_eqb u 10 other, some);
      }

  pub states-tell : u ≡ 10 → {v : ℕ} → v ≡ get_or b states 0 → LabelsTold b label states (eqb v 115)
  unfolding any_label label_on
  states-tell e {v} q =
      record {
        told = λ c behind s.
            let none : is_empty c.label ≡ true = sym (label-tested b label c.label _ s.label_here) ∙ ap (λ y. eqb y 10) (sym here) ∙ eq-eqb u 10 e in
            rw (q, none, states-tested b states behind s.no_more c.states s.states_here);
      }

-- The next character: behind the line of a state label what stands behind the next, and here if there is none.
module _ (b : List ℕ) (i : ℕ) where
  pub next_here : (get_or b i 0 ≡ 115 → ⊥) → NextFound b i i
  unfolding spell_states
  next_here differs =
      record { found = λ states behind other e. e ∙ ap (λ l. spell_states l behind) (states-none b i behind other differs states e) }

  pub next-on : i < length b → get_or b i 0 ≡ 115 → (j : ℕ) → LineBehind b (i + 1) j → (r : ℕ) → NextFound b j r → NextFound b i r
  unfolding bytes among
  next-on h first j l r next = record { found = go }
    where
      go : (states : List (List ℕ)) (behind : List ℕ) → NoState behind → drop i b ≡ spell_states states behind → drop r b ≡ behind
      go states behind other e =
          let (s, more, same, here) = states-some b i behind other first states e in
          let one : drop (i + 1) b ≡ bytes "tate=" ++ escaped s ++ (10 ∷ spell_states more behind) = drop-behind b i (115 ∷ []) _ here in
          next.found more behind other (l.found (bytes "tate=" ++ escaped s) _ (escaped-clean s) one)

-- Behind an escaped text and its LF stands the rest.
pub line-rest : (b : List ℕ) (at r : ℕ) (l rest : List ℕ) → r ≡ at + length l + 1 → drop at b ≡ l ++ (10 ∷ rest) → drop r b ≡ rest
line-rest b at r l rest e here =
    let size : r ≡ at + length (l ++ (10 ∷ [])) = omega (arith, length-append l (10 ∷ [])) in
    ap (λ k. drop k b) size ∙ drop-behind b at (l ++ (10 ∷ [])) rest (here ∙ sym (append_snoc l 10 rest))

-- No state label stands where characters begin, or none are left.
pub characters-begin : (k : ℕ) (cs : List Character) → NoState (spell_characters k cs [])
unfolding spell_characters spell_character line bytes
characters-begin k [] e = omega arith
characters-begin k (c ∷ r) e = omega arith

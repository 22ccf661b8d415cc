-- Names put in quotes: what is put for a byte, bytes that stand as they are, and a name that goes on behind its first bytes. Assumes nothing.
use Prim.Native.Nat.{ℕ, ◌+◌, ◌-◌, ◌≤◌, ◌<◌}
use Rattle.emit.proofs.PutLaws.{puts-as, puts_then}
use Rattle.emit.specs.Puts.{Puts}
use Rattle.judging.proofs.EscapedLines.{front, no-line, plain-escaped, slash-escaped}
use Rattle.lexer.proofs.ListLaws.{drop-next}
use Rattle.naming.proofs.RowLaws.{drop-behind}
use Rattle.judging.specs.NameRest.{unescape}
use Rattle.lexer.proofs.Basics.{and_both, and_left, and_right, by-test, or_left, or_right}
use Rattle.lexer.specs.Base.{pick}
use Rattle.record.specs.Form.{quote, quoted, quoted_from}
use Rattle.record.specs.Spell.{escape, escaped}
use Rattle.writing.specs.FormPut.{QuotedPut}
use Rattle.writing.specs.QuotedNames.{RestQuoted, Run, all_plain, special}
use Rattle.writing.specs.declared.Putting.{Putting}
use borrow.Author.Tests.{eq-eqb, eqb-false, ne_eqb, not-true}
use lib.Dec.{eqb}
use lib.ListN.{length, get_or, drop, take, drop_of_length-le, length-append, length-drop, get_or-eq_default}
use lib.Seq.{append_snoc, get_or-drop, take-append_seam}
use mathlib.Core.Bool.{Bool, true, false, not, ◌||◌}
use mathlib.Core.List.{List, [], ◌∷◌, ◌++◌, append_assoc}
use mathlib.Core.Path.{◌≡◌, refl, sym, ap, ◌∙◌}
use native.Mathlib.Nat.{add-zero}
use native.Mathlib.Omega.{arith}

-- What is put for a byte of a name.
module _ (b : ℕ) (behind : List ℕ) where
  pub quote-doubled : b ≡ 39 → 39 ∷ 39 ∷ behind ≡ quote b ++ behind
  unfolding quote pick
  quote-doubled e = rw e

  pub quote-blank : b ≡ 32 → 95 ∷ behind ≡ quote b ++ behind
  unfolding quote pick
  quote-blank e = rw e

  pub quote-plain : (b ≡ 39 → ⊥) → (b ≡ 32 → ⊥) → b ∷ behind ≡ quote b ++ behind
  unfolding quote pick
  quote-plain q s = rw (ne_eqb b 39 q, ne_eqb b 32 s)

-- A line's text with the LF behind it, in front of the rest.
pub line-ended : (name rest : List ℕ) → escaped name ++ (10 ∷ rest) ≡ escaped name ++ (10 ∷ []) ++ rest
line-ended name rest = sym (append_snoc (escaped name) 10 rest)

-- One text escaped behind another.
escaped-append : (l r : List ℕ) → escaped (l ++ r) ≡ escaped l ++ escaped r
unfolding escaped
escaped-append [] r = refl
escaped-append (b ∷ l) r = rw (escaped-append l r) (sym (append_assoc (escape b) (escaped l) (escaped r)))

-- A byte that is one of the four, and one that is none of them.
pub is-special : (b : ℕ) → ((b ≡ 10 → ⊥) → (b ≡ 92 → ⊥) → (b ≡ 39 → ⊥) → b ≡ 32) → special b ≡ true
unfolding special
is-special b one =
    by-test (eqb b 10) (λ t. rw t)
    (λ f. by-test (eqb b 92) (λ t. rw (f, t))
    (λ g. by-test (eqb b 39) (λ t. rw (f, g, t))
    (λ h. rw (f, g, h, eq-eqb b 32 (one (eqb-false b 10 f) (eqb-false b 92 g) (eqb-false b 39 h))))))

pub not-special : (b : ℕ) → (b ≡ 10 → ⊥) → (b ≡ 92 → ⊥) → (b ≡ 39 → ⊥) → (b ≡ 32 → ⊥) → special b ≡ false
unfolding special
not-special b line slash quote blank = rw (ne_eqb b 10 line, ne_eqb b 92 slash, ne_eqb b 39 quote, ne_eqb b 32 blank)

-- Bytes that stand as they are, in the record and in quotes.
plain_byte : (b : ℕ) → special b ≡ false → (eqb b 10 ≡ false) × (eqb b 92 ≡ false) × (eqb b 39 ≡ false) × (eqb b 32 ≡ false)
unfolding special
plain_byte b p = go (eqb b 10) (eqb b 92) (eqb b 39) (eqb b 32) p
  where
    go : (u v w x : Bool) → u || v || (w || x) ≡ false → (u ≡ false) × (v ≡ false) × (w ≡ false) × (x ≡ false)
    go u v w x e =
        let first = or_left (u || v) (w || x) e in
        let last = or_right (u || v) (w || x) e in
        (or_left u v first, or_right u v first, or_left w x last, or_right w x last)

plain-first : (b : ℕ) (l : List ℕ) → all_plain (b ∷ l) ≡ true → special b ≡ false
unfolding all_plain
plain-first b l p = not-true _ (and_left _ (all_plain l) p)

plain-later : (b : ℕ) (l : List ℕ) → all_plain (b ∷ l) ≡ true → all_plain l ≡ true
unfolding all_plain
plain-later b l p = and_right (not (special b)) _ p

plain-snoc : (l : List ℕ) (c : ℕ) → all_plain l ≡ true → special c ≡ false → all_plain (l ++ (c ∷ [])) ≡ true
unfolding all_plain
plain-snoc [] c p q = rw q
plain-snoc (b ∷ l) c p q = and_both {a = not (special b)} (and_left _ (all_plain l) p) (plain-snoc l c (and_right (not (special b)) _ p) q)

-- They are written as they are in the record.
run-escaped : (l : List ℕ) → all_plain l ≡ true → escaped l ≡ l
unfolding escaped
run-escaped [] p = refl
run-escaped (b ∷ l) p =
    let q = plain_byte b (plain-first b l p) in
    plain-escaped b l q.0 q.1 ∙ ap (λ t. b ∷ t) (run-escaped l (plain-later b l p))

-- And in quotes.
run-quoted : (l m behind : List ℕ) → all_plain l ≡ true → quoted_from (l ++ m) behind ≡ l ++ quoted_from m behind
unfolding quoted_from quote pick
run-quoted [] m behind p = refl
run-quoted (b ∷ l) m behind p =
    let q = plain_byte b (plain-first b l p) in
    rw (q.2, q.3) (ap (λ t. b ∷ t) (run-quoted l m behind (plain-later b l p)))

-- A name whose line begins with them begins with them.
run-front : (l t name rest : List ℕ) → all_plain l ≡ true → l ++ t ≡ escaped name ++ (10 ∷ rest) → (m : List ℕ) × (name ≡ l ++ m)
run-front [] t name rest p e = (name, refl)
run-front (b ∷ l) t name rest p e =
    let q = plain_byte b (plain-first b l p) in
    let (m, same) = (front b (l ++ t) name rest (e ∙ line-ended name rest)).plain q.0 q.1 in
    let whole : b ∷ (l ++ t) ≡ b ∷ (escaped m ++ (10 ∷ rest)) = e ∙ ap (λ n. escaped n ++ (10 ∷ rest)) same ∙ ap (λ n. n ++ (10 ∷ rest)) (plain-escaped b m q.0 q.1) in
    let later : l ++ t ≡ escaped m ++ (10 ∷ rest) = cc in
    let (more, rest-same) = run-front l t m rest (plain-later b l p) later in
    (more, same ∙ ap (λ n. b ∷ n) rest-same)

-- A run from a place on: none of it yet, and one byte more.
pub run-start : (b : List ℕ) (at : ℕ) → Run b at at
unfolding all_plain
run-start b at = record { read = []; here = refl; ahead = sym (add-zero at); plain = refl }

pub run-turn : (b : List ℕ) (from at : ℕ) → Run b from at → at < length b → special (get_or b at 0) ≡ false → Run b from (at + 1)
run-turn b from at r h p =
    record {
      read = r.read ++ (get_or b at 0 ∷ []);
      here = r.here ∙ ap (λ t. r.read ++ t) (drop-next b at h) ∙ sym (append_snoc r.read (get_or b at 0) (drop (at + 1) b));
      ahead = omega (arith, r.ahead, length-append r.read (get_or b at 0 ∷ []));
      plain = plain-snoc r.read (get_or b at 0) r.plain p;
    }

-- A name that goes on behind its first bytes: they stand at a place, mean these bytes of the name, and these are put for them.
module _ (b : List ℕ) (i j : ℕ) (stands means put : List ℕ) (here : drop i b ≡ stands ++ drop j b) (next : j ≡ i + length stands)
    (escapes : escaped means ≡ stands) (quotes : (m behind : List ℕ) → quoted_from (means ++ m) behind ≡ put ++ quoted_from m behind)
    (begins : (name rest : List ℕ) → drop i b ≡ escaped name ++ (10 ∷ rest) → (m : List ℕ) × (name ≡ means ++ m)) where
  quoted-on : {before middle after : List ℕ} {n k : ℕ} {r : Putting} → Puts before n (λ behind. put ++ behind) middle k
      → RestQuoted b j middle k after r → RestQuoted b i before n after r
  quoted-on f g name rest e =
      let (m, same) = begins name rest e in
      let spelled : escaped name ≡ stands ++ escaped m = ap escaped same ∙ escaped-append means m ∙ ap (λ t. t ++ escaped m) escapes in
      let line : drop i b ≡ stands ++ (escaped m ++ (10 ∷ rest)) = e ∙ ap (λ t. t ++ (10 ∷ rest)) spelled ∙ append_assoc stands (escaped m) (10 ∷ rest) in
      let later : drop j b ≡ escaped m ++ (10 ∷ rest) = ap (λ k. drop k b) next ∙ drop-behind b i stands _ line in
      let s = g m rest later in
      record {
        next = s.next ∙ omega (arith, next, ap length spelled, length-append stands (escaped m));
        put = puts-as (puts_then f s.put) (λ behind. sym (ap (λ t. quoted_from t behind) same ∙ quotes m behind));
      }

-- Bytes that stand as they are.
pub quoted-run : {b : List ℕ} {i j : ℕ} → (run : Run b i j) → {before middle after : List ℕ} {n k : ℕ} {r : Putting}
    → Puts before n (λ behind. run.read ++ behind) middle k → RestQuoted b j middle k after r → RestQuoted b i before n after r
quoted-run {b} {i} {j} run f =
    quoted-on b i j run.read run.read run.read run.here run.ahead (run-escaped run.read run.plain)
    (λ m behind. run-quoted run.read m behind run.plain)
    (λ name rest e. run-front run.read (drop j b) name rest run.plain (sym run.here ∙ e))
    f

-- Nothing is escaped behind a backslash and a byte.
escaped-none : (y : ℕ) → 92 ∷ y ∷ escaped [] ≡ 92 ∷ y ∷ []
unfolding escaped
escaped-none y = refl

-- A byte of its own.
module _ (b : List ℕ) (i : ℕ) (inside : i < length b) where
  pub quoted-byte : (get_or b i 0 ≡ 10 → ⊥) → (get_or b i 0 ≡ 92 → ⊥) → {before middle after : List ℕ} {n k : ℕ} {r : Putting}
      → Puts before n (λ behind. quote (get_or b i 0) ++ behind) middle k → RestQuoted b (i + 1) middle k after r → RestQuoted b i before n after r
  unfolding quoted_from escaped
  quoted-byte no-line no_slash f =
      let c = get_or b i 0 in
      let p = ne_eqb c 10 no-line in
      let q = ne_eqb c 92 no_slash in
      quoted-on b i (i + 1) (c ∷ []) (c ∷ []) (quote c) (drop-next b i inside) refl (plain-escaped c [] p q) (λ m behind. refl)
      (λ name rest e. (front c (drop (i + 1) b) name rest (sym (drop-next b i inside) ∙ e ∙ line-ended name rest)).plain p q)
      f

  -- A backslash and the byte behind it.
  slash-begins : get_or b i 0 ≡ 92 → (name rest : List ℕ) → drop i b ≡ escaped name ++ (10 ∷ rest)
      → (m : List ℕ) × (name ≡ unescape (get_or b (i + 1) 0) ∷ m) × (unescape (get_or b (i + 1) 0) ≡ 0 → ⊥)
  slash-begins s name rest e =
      let at : get_or (drop (i + 1) b) 0 0 ≡ get_or b (i + 1) 0 = get_or-drop (i + 1) b 0 0 ∙ ap (λ k. get_or b k 0) (add-zero (i + 1)) in
      rw at at ((front (get_or b i 0) (drop (i + 1) b) name rest (sym (drop-next b i inside) ∙ e ∙ line-ended name rest)).slash s)

  -- An LF ends the name.
  pub quoted-end : get_or b i 0 ≡ 10 → {before after : List ℕ} {n k : ℕ} → Puts before n (λ behind. 39 ∷ behind) after k
      → {r : Putting} → r.at ≡ i + 1 → r.n ≡ k → RestQuoted b i before n after r
  unfolding quoted_from escaped
  quoted-end e f at same name rest line =
      let none : name ≡ [] = (front (get_or b i 0) (drop (i + 1) b) name rest (sym (drop-next b i inside) ∙ line ∙ line-ended name rest)).line-end e in
      rw none (record { next = at ∙ omega arith; put = rw same f })

-- What the byte behind a backslash means, if it means any.
meant-byte : (y : ℕ) → (unescape y ≡ 0 → ⊥) → unescape y ≡ pick (eqb y 48) 10 92
unfolding unescape pick
meant-byte y some = by-test (eqb y 48) (λ p. rw p) (λ p. by-test (eqb y 49) (λ q. rw (p, q)) (λ q. absurd (some (rw (p, q)))))

meant-quoted : (y : ℕ) (m behind : List ℕ) → quoted_from (pick (eqb y 48) 10 92 ∷ m) behind ≡ pick (eqb y 48) 10 92 ∷ quoted_from m behind
unfolding quoted_from quote pick
meant-quoted y m behind = by-test (eqb y 48) (λ p. rw p) (λ p. rw p)

-- A backslash and the byte behind it.
pub quoted-slash : (b : List ℕ) (i : ℕ) → i + 1 < length b → get_or b i 0 ≡ 92 → (meant : ℕ) → meant ≡ pick (eqb (get_or b (i + 1) 0) 48) 10 92
    → {before middle after : List ℕ} {n k : ℕ} {r : Putting} → Puts before n (λ behind. meant ∷ behind) middle k
    → RestQuoted b (i + 2) middle k after r → RestQuoted b i before n after r
quoted-slash b i inside s meant e f g name rest line =
    let y = get_or b (i + 1) 0 in
    let (m, same, some) = slash-begins b i (omega arith) s name rest line in
    let means : unescape y ≡ meant = meant-byte y some ∙ sym e in
    let further : i + 1 + 1 ≡ i + 2 = omega arith in
    let two : drop i b ≡ 92 ∷ y ∷ drop (i + 2) b =
    drop-next b i (omega arith) ∙ ap (λ c. c ∷ drop (i + 1) b) s
    ∙ ap (λ t. 92 ∷ t) (drop-next b (i + 1) inside ∙ ap (λ k. y ∷ drop k b) further) in
    quoted-on b i (i + 2) (92 ∷ y ∷ []) (meant ∷ []) (meant ∷ []) two refl (ap (λ c. escaped (c ∷ [])) (sym means) ∙ slash-escaped y [] some ∙ escaped-none y)
    (λ m behind. rw e (meant-quoted y m behind))
    (λ name rest line.
    let (m, same, some) = slash-begins b i (omega arith) s name rest line in
    (m, same ∙ ap (λ c. c ∷ m) means))
    f g name rest line

-- A backslash with nothing behind it is in no name.
pub quoted-no-slash : (b : List ℕ) (i : ℕ) → i < length b → length b < i + 2 → get_or b i 0 ≡ 92 → {before after : List ℕ} {n : ℕ} {r : Putting}
    → RestQuoted b i before n after r
unfolding unescape pick
quoted-no-slash b i inside short s name rest line =
    let (m, same, some) = slash-begins b i inside s name rest line in
    let none : get_or b (i + 1) 0 ≡ 0 = get_or-eq_default b 0 (omega arith) in
    absurd (some (rw none))

-- Behind the end of the bytes there is no name.
pub quoted-past : (b : List ℕ) (i : ℕ) → length b ≤ i → {before after : List ℕ} {n : ℕ} {r : Putting} → RestQuoted b i before n after r
quoted-past b i h name rest e = absurd (no-line name rest (sym (drop_of_length-le b h) ∙ e ∙ line-ended name rest))

-- A run is inside the bytes, and is the part of them from its first place up to its last.
module _ (b : List ℕ) (from to : ℕ) (run : Run b from to) where
  pub run_inside : from < to → to ≤ length b
  run_inside h = omega (arith, run.ahead, simp (length-append, length-drop) at (ap length run.here))

  pub run-part : take (to - from) (drop from b) ≡ run.read
  run-part =
      let size : to - from ≡ length run.read = omega (arith, run.ahead) in
      rw (size, run.here) (take-append_seam run.read (drop to b))

-- The first quote is put, and the rest of the name behind it.
pub quoted-whole : (b : List ℕ) (at : ℕ) {before middle after : List ℕ} {n m : ℕ} {r : Putting} → Puts before n (λ behind. 39 ∷ behind) middle m
    → RestQuoted b at middle m after r → QuotedPut b at before n after r
unfolding quoted
quoted-whole b at f g name rest e = let s = g name rest e in record { next = s.next; put = puts_then f s.put }

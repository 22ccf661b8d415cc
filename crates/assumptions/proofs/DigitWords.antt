-- Words of digits alone that are told by their bytes at once: the number that one spells, and the one part of a list that it is. Assumes nothing.
use Rattle.std.specs.Prelude.{Result}
use Prim.Native.Nat.{ℕ, zero, suc, ◌+◌, ◌*◌, ◌-◌, ◌≤◌, ◌<◌}
use Rattle.assumptions.proofs.ListWalks.{then-done}
use Rattle.assumptions.proofs.PartLaws.{plain-told}
use Rattle.assumptions.specs.ListCode.{Follows}
use Rattle.assumptions.specs.ListParts.{Spells, told}
use Rattle.assumptions.specs.ToldWords.{told_number}
use Rattle.assumptions.specs.declared.characters.Listed as Code
use Rattle.block.specs.CharacterList.{part, parts, to_dash, cut_from, Listed, part_turn, list_turn}
use Rattle.block.specs.Outcome.{fold}
use Rattle.block.specs.Typeset.{Types}
use Rattle.block.specs.declared.model.CharacterOrdering.{CharacterOrdering}
use Rattle.lexer.proofs.Basics.{and-false, and_left, and_right, by-test}
use Rattle.lexer.proofs.ListLaws.{drop-next}
use Rattle.lexer.proofs.WordsTold.{PlainTo, plain-start, plain_turn, word-told}
use Rattle.lexer.specs.Base.{alike, bytes, lower, pick}
use Rattle.lexer.specs.ByteBlocks.{is_plain}
use Rattle.lexer.specs.Lexing.{token_at}
use Rattle.lexer.specs.PlainWords.{is_ends}
use Rattle.lexer.specs.Words.{Numbered, digits, is, largest, positive, unsigned, is_word}
use Rattle.lexer.specs.declared.Fault.{Fault}
use borrow.Author.Tests.{leb-true, leb-false, le-leb, lt-leb, ne_eqb}
use lib.Dec.{eqb, leb}
use lib.ListN.{length, get_or, take, drop, drop_of_length-le}
use mathlib.Core.Bool.{true, false, ◌&&◌}
use mathlib.Core.List.{List, [], ◌∷◌}
use mathlib.Core.Path.{◌≡◌, refl, sym, ap, ◌∙◌}
use native.Mathlib.Omega.{arith}

digit-plain : (b : ℕ) → 48 ≤ b → b ≤ 57 → is_plain b ≡ true
unfolding is_plain
digit-plain b low high = rw (le-leb 45 b (omega arith), le-leb b 57 high, ne_eqb b 47 (λ e. omega arith)) refl

-- Digits from a place up to another, and the number that they spell.
record Spelling (text : List ℕ) (start n i : ℕ) : Type 0 where
  plain : PlainTo text start i
  begun : 0 < n → start < i
  small : n ≤ 18446744073709551615
  rest : (end : ℕ) → i ≤ end → digits 0 (take (end - start) (drop start text)) ≡ digits n (take (end - i) (drop i text))

spelling-start : (text : List ℕ) (start : ℕ) → Spelling text start 0 start
spelling-start text start = record { plain = plain-start text start; begun = λ h. absurd (omega arith); small = omega arith; rest = λ end h. refl }

module _ (text : List ℕ) (start n i : ℕ) (k : Spelling text start n i) (h : i < length text) where
  module _ (low : 48 ≤ get_or text i 0) (high : get_or text i 0 ≤ 57) where
    digits-next : (end : ℕ) → i + 1 ≤ end → digits n (take (end - i) (drop i text)) ≡ digits (n * 10 + (get_or text i 0 - 48)) (take (end - (i + 1)) (drop (i + 1) text))
    unfolding digits pick
    digits-next end l =
        let more : end - i ≡ suc (end - (i + 1)) = omega arith in
        rw (more, drop-next text i h, le-leb 48 (get_or text i 0) low, le-leb (get_or text i 0) 57 high) refl

    spelling-turn : n * 10 + (get_or text i 0 - 48) ≤ 18446744073709551615 → Spelling text start (n * 10 + (get_or text i 0 - 48)) (i + 1)
    spelling-turn l =
        let ahead = k.plain.ahead in
        record {
          plain = plain_turn text start i k.plain (digit-plain (get_or text i 0) low high);
          begun = λ _. omega arith;
          small = l;
          rest = λ end e. k.rest end (omega arith) ∙ digits-next end e;
        }

  spelling-end : is_ends (get_or text i 0) ≡ true → 0 < n → Spells (token_at text start) n
  unfolding digits largest
  spelling-end e some =
      let word = word-told text start i (k.begun some) h k.plain.each e in
      let none : i - i ≡ 0 = omega arith in
      record {
        word = ap (λ t. t.kind) word.told;
        value = ap (λ t. digits 0 t.text) word.told ∙ k.rest i (omega arith) ∙ rw none refl;
        some = some;
        small = le-leb n 18446744073709551615 k.small;
      }

-- What a word is told to spell, byte by byte.
pub told_over : (text : List ℕ) (n i : ℕ) → length text ≤ i → told_number n (drop i text) ≡ 0
unfolding told_number
told_over text n i h = rw (drop_of_length-le text h) refl

module _ (text : List ℕ) (n i : ℕ) (h : i < length text) where
  abbrev b : ℕ
  b = get_or text i 0

  pub told-digit : leb 48 b && leb b 57 ≡ true → n < 1844674407370955160 → told_number n (drop i text) ≡ told_number (n * 10 + (b - 48)) (drop (i + 1) text)
  unfolding told_number pick
  told-digit digit short = rw (drop-next text i h, digit, lt-leb 1844674407370955160 n short) refl

  pub told-long : leb 48 b && leb b 57 ≡ true → 1844674407370955160 ≤ n → told_number n (drop i text) ≡ 0
  unfolding told_number pick
  told-long digit long = rw (drop-next text i h, digit, le-leb 1844674407370955160 n long) refl

  pub told-end : leb 48 b && leb b 57 ≡ false → is_ends b ≡ true → told_number n (drop i text) ≡ n
  unfolding told_number pick
  told-end other end = rw (drop-next text i h, other, end) refl

  pub told-other : leb 48 b && leb b 57 ≡ false → is_ends b ≡ false → told_number n (drop i text) ≡ 0
  unfolding told_number pick
  told-other other on = rw (drop-next text i h, other, on) refl

-- A word that is told to be a number spells it.
module _ (text : List ℕ) (start : ℕ) where
  spells-from : (left n i m : ℕ) → i + left ≡ length text → Spelling text start n i → told_number n (drop i text) ≡ m → 0 < m → Spells (token_at text start) m
  spells-from zero n i m e k v some = let none = told_over text n i (omega arith) in absurd (omega (arith, v, none))
  spells-from (suc left) n i m e k v some =
      let b = get_or text i 0 in
      let more : i < length text = omega arith in
      by-test (leb 48 b && leb b 57)
      (λ digit.
      by-test (leb 1844674407370955160 n)
      (λ long. let none = told-long text n i more digit (leb-true 1844674407370955160 n long) in absurd (omega (arith, v, none)))
      (λ short.
      let below = leb-false 1844674407370955160 n short in
      let low = leb-true 48 b (and_left (leb 48 b) (leb b 57) digit) in
      let high = leb-true b 57 (and_right (leb 48 b) (leb b 57) digit) in
      spells-from left (n * 10 + (b - 48)) (i + 1) m (omega arith) (spelling-turn text start n i k more low high (omega arith)) (sym (told-digit text n i more digit below) ∙ v) some))
      (λ other.
      by-test (is_ends b)
      (λ end. let value : n ≡ m = sym (told-end text n i more other end) ∙ v in rw (← value) (spelling-end text start n i k more end (omega arith)))
      (λ on. let none = told-other text n i more other on in absurd (omega (arith, v, none))))

  pub told-spells : 0 < told_number 0 (drop start text) → Spells (token_at text start) (told_number 0 (drop start text))
  told-spells some =
      by-test (leb start (length text))
      (λ t. let h = leb-true start (length text) t in spells-from (length text - start) 0 start (told_number 0 (drop start text)) (omega arith) (spelling-start text start) refl some)
      (λ f. let h = leb-false start (length text) f in let none = told_over text 0 start (omega arith) in absurd (omega (arith, none, some)))

-- Where digits spell a number that is not 0, the first byte is a digit, and the others spell one behind it.
module _ (m b : ℕ) (r : List ℕ) (h : 0 < digits m (b ∷ r)) where
  digit-test : leb 48 b && leb b 57 ≡ true
  unfolding digits pick
  digit-test = by-test (leb 48 b && leb b 57) (λ t. t) (λ f. let z : 0 < 0 = rw f at h in absurd (omega arith))

  digit-first : (48 ≤ b) × (b ≤ 57)
  digit-first = (leb-true 48 b (and_left (leb 48 b) (leb b 57) digit-test), leb-true b 57 (and_right (leb 48 b) (leb b 57) digit-test))

  digit-rest : 0 < digits (m * 10 + (b - 48)) r
  unfolding digits pick
  digit-rest = rw digit-test at h

  no_digit : (a : ℕ) → (a < 48) → eqb b a ≡ false
  no_digit a l = let d = digit-first in ne_eqb b a (λ e. omega (arith, d.0))

-- So there is no dash among them, and the word is one part.
to-dash-digits : (m : ℕ) (l : List ℕ) → 0 < digits m l → to_dash l ≡ l
unfolding to_dash pick
to-dash-digits m [] h = refl
to-dash-digits m (b ∷ r) h = rw (no_digit m b r h 45 (omega arith)) (ap (λ t. b ∷ t) (to-dash-digits (m * 10 + (b - 48)) r (digit-rest m b r h)))

no-more-parts : (w : Numbered) (m : ℕ) (l : List ℕ) → 0 < digits m l → cut_from w true l ≡ []
unfolding cut_from pick
no-more-parts w m [] h = refl
no-more-parts w m (b ∷ r) h = rw (no_digit m b r h 45 (omega arith)) (no-more-parts w (m * 10 + (b - 48)) r (digit-rest m b r h))

one-part : (w : Numbered) (l : List ℕ) → 0 < digits 0 l → cut_from w false l ≡ part w l ∷ []
unfolding cut_from digits pick
one-part w [] h = absurd (omega arith)
one-part w (b ∷ r) h =
    let more = digit-rest 0 b r h in
    rw (no_digit 0 b r h 45 (omega arith), to-dash-digits (0 * 10 + (b - 48)) r more, no-more-parts w (0 * 10 + (b - 48)) r more) refl

-- They are not ALL.
not-all : (b : ℕ) (r : List ℕ) → 0 < digits 0 (b ∷ r) → alike (bytes "ALL") (b ∷ r) ≡ false
unfolding alike bytes lower pick
not-all b r h =
    let d = digit-first 0 b r h in
    rw (lt-leb 65 b (omega arith), ne_eqb 97 b (λ e. omega arith)) refl

-- They spell the number by any rule.
positive-digits : (b : ℕ) (r : List ℕ) (n : ℕ) → digits 0 (b ∷ r) ≡ n → 0 < n → leb n largest ≡ true → n ≡ positive (b ∷ r)
unfolding positive unsigned pick
positive-digits b r n v some small = sym (rw (no_digit 0 b r (rw v some) 43 (omega arith), v, small) refl)

module _ (count : ℕ) (w : Numbered) (n : ℕ) (s : Spells w.token n) where
  spelled-word : is_word w.token.kind ≡ true
  unfolding is_word
  spelled-word = rw s.word refl

  some-digits : 0 < digits 0 w.token.text
  some-digits = rw s.value s.some

  pub number-told : told count (part w w.token.text) ≡ record { index = w.index; dash = false; stride = false; all = false; character = pick (leb n count) n 0; number = n }
  unfolding is digits pick
  number-told = go w.token.text refl some-digits s.value
    where
      go : (l : List ℕ) → w.token.text ≡ l → 0 < digits 0 l → digits 0 l ≡ n → told count (part w l) ≡ record { index = w.index; dash = false; stride = false; all = false; character = pick (leb n count) n 0; number = n }
      go [] e h v = absurd (omega arith)
      go (b ∷ r) e h v =
          let other : is (bytes "ALL") w ≡ false = rw (e, not-all b r h) (and-false (is_word w.token.kind)) in
          plain-told count w false other spelled-word b r n (λ d. let f = digit-first 0 b r h in omega arith) (positive-digits b r n v s.some s.small) ∙ rw (no_digit 0 b r h 46 (omega arith)) refl

  list-turn-number : (l : Listed) → list_turn count l w ≡ part_turn count l (part w w.token.text)
  unfolding list_turn parts pick fold
  list-turn-number l = rw (spelled-word, one-part w w.token.text some-digits) (then-done (part_turn count l (part w w.token.text)))

  pub number-follows : (o : CharacterOrdering) (ts us : Types) (l : Listed) (r : Result Code.Listed (Fault ℕ)) → Follows o ts us (part_turn count l (part w w.token.text)) r → Follows o ts us (list_turn count l w) r
  number-follows o ts us l r f = rw (list-turn-number l) f

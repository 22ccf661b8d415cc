-- Whole sets: what the tokens at a place are by their bytes, and what judging a set comes to. Assumes nothing.
use Rattle.std.specs.Prelude.{Some}
use Prim.Native.Nat.{ℕ, zero, suc, ◌+◌, ◌-◌, ◌≤◌, ◌<◌}
use Rattle.block.specs.Chunk.{closer}
use Rattle.block.specs.Commands.{newline}
use Rattle.block.specs.Outcome.{done}
use Rattle.block.specs.declared.kinds.Bracket.{Bracket}
use Rattle.lexer.proofs.Basics.{all-four, all_under, and_left, and_right, by-test, eqb_same, implied, not-both, or_left, or_right, under_at, and-false}
use Rattle.lexer.proofs.ListLaws.{drop-next, take_next}
use Rattle.lexer.proofs.WordsTold.{word-told}
use Rattle.lexer.specs.Base.{pick, among, bytes}
use Rattle.lexer.specs.ByteBlocks.{is_plain}
use Rattle.lexer.specs.Classes.{class, symbol, symbol_of, marks, rank, is_newline, is_single, is_double, is_other}
use Rattle.lexer.specs.Lexing.{first_token, token_at}
use Rattle.lexer.specs.PlainWords.{is_alone, is_ends, part}
use Rattle.lexer.specs.Stored.{word_of}
use Rattle.lexer.specs.Tokens.{token, kind_of}
use Rattle.lexer.specs.Words.{punct, is_mark, is_word, is_line_end}
use Rattle.lexer.specs.declared.Kind.{Kind}
use Rattle.matrix.specs.RowShape.{coded, symbols_coded, within_with, chunk_shape}
use Rattle.matrix.specs.WholeSets.{SetBytes, SetClosed, WholeSet, bracket_of, is_marks, opener, rising, is_set, set_closes, is_simple}
use Rattle.matrix.specs.declared.matrix.Chunk.{Chunk}
use borrow.Author.Tests.{eqb-true, le-leb, le-ltb, lt-leb, lt-ltb, ltb-true, ltb-false, ne_eqb}
use lib.Dec.{eqb, leb, ltb}
use lib.ListN.{length, get_or, drop, length-take, length-drop}
use lib.Seq.{get_or-drop, get_or-take}
use mathlib.Core.Bool.{Bool, true, false, ◌&&◌, ◌||◌, not}
use mathlib.Core.List.{List, [], ◌∷◌}
use mathlib.Core.Path.{◌≡◌, refl, ap, ◌∙◌}
use native.Mathlib.Nat.{min-eq_left}
use native.Mathlib.Omega.{arith}

-- Letters and digits are plain, by a computed test of all below 128.
simple-all : all_under (λ b. not (is_simple b) || is_plain b) 128 ≡ true
unfolding all_under is_simple is_plain
simple-all = refl

simple-small : (b : ℕ) → is_simple b ≡ true → b < 128
unfolding is_simple
simple-small b t = by-test (ltb b 128) (λ h. ltb-true b 128 h) (λ f. not-both (large (ltb-false b 128 f)) t)
  where
    large : 128 ≤ b → is_simple b ≡ false
    large h =
        let digit = lt-leb b 57 (omega arith) in
        let capital = lt-leb b 90 (omega arith) in
        let small = lt-leb b 122 (omega arith) in
        rw (digit, capital, small) (simp and-false)

simple-plain : (b : ℕ) → is_simple b ≡ true → is_plain b ≡ true
simple-plain b t = implied (is_simple b) (is_plain b) (under_at (λ b. not (is_simple b) || is_plain b) 128 b simple-all (simple-small b t)) t

-- Rising states are bytes of a word, and all are cells.
rising-plain : (codes : List ℕ) (least : ℕ) (l : List ℕ) → rising codes least l ≡ true → (k : ℕ) → k < length l → is_plain (get_or l k 0) ≡ true
unfolding rising
rising-plain codes least [] t k h = absurd (omega arith)
rising-plain codes least (b ∷ r) t zero h =
    let letter = and_right (leb least (get_or codes b 0) && ltb (get_or codes b 0) 10) (is_simple b) (and_left (leb least (get_or codes b 0) && ltb (get_or codes b 0) 10 && is_simple b) (rising codes (get_or codes b 0 + 1) r) t) in
    simple-plain b letter
rising-plain codes least (b ∷ r) t (suc k) h =
    rising-plain codes (get_or codes b 0 + 1) r (and_right (leb least (get_or codes b 0) && ltb (get_or codes b 0) 10 && is_simple b) (rising codes (get_or codes b 0 + 1) r) t) k (omega arith)

rising-coded : (codes : List ℕ) (least : ℕ) (l : List ℕ) → rising codes least l ≡ true → (n : ℕ) → coded codes n true l ≡ Some ((n + length l), true)
unfolding rising coded pick
rising-coded codes least [] t n = ap (λ m. Some (m, true)) (omega arith)
rising-coded codes least (b ∷ r) t n =
    let c = get_or codes b 0 in
    let front = and_left (leb least c && ltb c 10 && is_simple b) (rising codes (c + 1) r) t in
    let few : c < 10 = ltb-true c 10 (and_right (leb least c) (ltb c 10) (and_left (leb least c && ltb c 10) (is_simple b) front)) in
    let good : eqb c 255 ≡ false = ne_eqb c 255 (λ e. omega arith) in
    let state : ltb c 96 ≡ true = lt-ltb c 96 (omega arith) in
    rw (good, state) (rising-coded codes (c + 1) r (and_right (leb least c && ltb c 10 && is_simple b) (rising codes (c + 1) r) t) (n + 1) ∙ ap (λ m. Some (m, true)) (omega arith))

-- All states rise if the first does and those behind it do: what the code asks of the first, by its code.
module _ (codes text : List ℕ) (least i end code : ℕ) (e : code ≡ get_or codes (get_or text i 0) 0) (h : i < end) (w : i < length text) where
  abbrev b : ℕ
  b = get_or text i 0

  abbrev more : Bool
  more = rising codes (code + 1) (part text (i + 1) end)

  rising-next : rising codes least (part text i end) ≡ leb least code && ltb code 10 && is_simple b && more
  unfolding rising
  rising-next = rw (take_next text i end h w, e) refl

  pub rising-high : ltb code least || ltb 9 code ≡ true → rising codes least (part text i end) ≡ false
  rising-high t =
      rising-next
      ∙ by-test (ltb code least) (λ l. rw (lt-leb least code (ltb-true code least l)) refl)
      (λ f. let over = ltb-true 9 code (rw f at t) in rw (le-ltb code 10 (omega arith), and-false (leb least code)) refl)

  pub rising-other : is_simple b ≡ false → rising codes least (part text i end) ≡ false
  rising-other s = rising-next ∙ rw (s, and-false (leb least code && ltb code 10)) refl

  pub rising-turn : ltb code least || ltb 9 code ≡ false → is_simple b ≡ true → rising codes least (part text i end) ≡ more
  rising-turn t s =
      let low = ltb-false code least (or_left (ltb code least) (ltb 9 code) t) in
      let few = ltb-false 9 code (or_right (ltb code least) (ltb 9 code) t) in
      rising-next ∙ rw (le-leb least code low, lt-ltb code 10 (omega arith), s) refl

pub rising_none : (codes text : List ℕ) (least i end : ℕ) → end ≤ i → rising codes least (part text i end) ≡ true
unfolding rising
rising_none codes text least i end h = let none : end - i ≡ 0 = omega arith in rw none refl

-- The tokens at the marks of a set.
open-token : (k : Bracket) (r : List ℕ) → (token (opener k) r).kind ≡ Kind.Punctuation (opener k)
unfolding opener token symbol symbol_of class kind_of is_newline is_single is_double is_other rank pick among bytes marks
open-token Bracket.Brace r = refl
open-token Bracket.Parenthesis r = refl

close-token : (k : Bracket) (r : List ℕ) → (token (closer k) r).kind ≡ Kind.Punctuation (closer k)
unfolding closer token symbol symbol_of class kind_of is_newline is_single is_double is_other rank pick among bytes marks
close-token Bracket.Brace r = refl
close-token Bracket.Parenthesis r = refl

close-ends : (k : Bracket) → is_ends (closer k) ≡ true
unfolding closer is_ends is_alone
close-ends Bracket.Brace = refl
close-ends Bracket.Parenthesis = refl

mark-at : (text : List ℕ) (i b : ℕ) → i < length text → get_or text i 0 ≡ b → (token_at text i).kind ≡ (token b (drop (i + 1) text)).kind
unfolding token_at first_token
mark-at text i b h e = rw (drop-next text i h, e)

-- The marks of a set, and its bytes.
marks-told : (b e : ℕ) → is_marks b e ≡ true → (b ≡ opener (bracket_of b)) × (e ≡ closer (bracket_of b))
unfolding is_marks opener closer bracket_of pick
marks-told b e t =
    by-test (eqb b 123)
    (λ f. let brace = eqb-true b 123 f in by-test (eqb e 125) (λ g. rw brace (refl, eqb-true e 125 g)) (λ g. not-both refl (rw (brace, g) at t)))
    (λ f. let round = rw f at t in let mark = eqb-true b 40 (and_left (eqb b 40) (eqb e 41) round) in rw mark (refl, eqb-true e 41 (and_right (eqb b 40) (eqb e 41) round)))

set-bytes-told : (codes text : List ℕ) (start end : ℕ) → is_set codes text start end ≡ true → SetBytes codes text start end
unfolding is_set
set-bytes-told codes text start end t =
    let four = all-four (ltb (start + 1) end) (ltb end (length text)) (is_marks (get_or text start 0) (get_or text end 0)) (rising codes 0 (part text (start + 1) end)) t in
    let marks = marks-told (get_or text start 0) (get_or text end 0) four.2 in
    record { opens = marks.0; some = ltb-true (start + 1) end four.0; within = ltb-true end (length text) four.1; rises = four.3; closes = marks.1 }

-- The three words of a set by its bytes.
module _ (codes text work : List ℕ) (i to end : ℕ) where
  abbrev start : ℕ
  start = get_or work i 0

  abbrev states : List ℕ
  states = part text (start + 1) end

  set-told : SetBytes codes text start end → i + 2 < to → get_or work (i + 1) 0 ≡ start + 1 → get_or work (i + 2) 0 ≡ end → SetClosed codes text work i to end
  unfolding word_of
  set-told s room first last =
      let k = bracket_of (get_or text start 0) in
      let within = s.within in
      let size : length states ≡ end - (start + 1) = length-take (end - (start + 1)) (drop (start + 1) text) ∙ rw (length-drop (start + 1) text) (min-eq_left (omega arith)) in
      let each : (j : ℕ) → j < end - (start + 1) → is_plain (get_or text (start + 1 + j) 0) ≡ true = λ j h.
      rw (get_or-take (end - (start + 1)) (drop (start + 1) text) j 0 h, get_or-drop (start + 1) text j 0) at (rising-plain codes 0 states s.rises j (omega (arith, size))) in
      let word = word-told text (start + 1) end s.some s.within each (rw s.closes (close-ends k)) in
      record {
        bytes = s;
        whole = record {
          room = room;
          opened = mark-at text start (opener k) (omega (arith, s.some)) s.opens ∙ open-token k (drop (start + 1) text);
          word = ap (token_at text) first ∙ word.told;
          closed = ap (λ x. (token_at text x).kind) last ∙ (mark-at text end (closer k) s.within s.closes ∙ close-token k (drop (end + 1) text));
          some = omega (arith, size, s.some);
          rises = s.rises;
        };
      }

-- Where a set closes.
module _ (codes text work : List ℕ) (i to : ℕ) where
  abbrev first : Bool
  first = eqb (get_or work (i + 1) 0) (get_or work i 0 + 1)

  abbrev whole : Bool
  whole = is_set codes text (get_or work i 0) (get_or work (i + 2) 0)

  whole-closed : ltb (i + 2) to && first && whole ≡ true → SetClosed codes text work i to (get_or work (i + 2) 0)
  whole-closed t =
      let front = and_left (ltb (i + 2) to && first) whole t in
      let bytes = set-bytes-told codes text (get_or work i 0) (get_or work (i + 2) 0) (and_right (ltb (i + 2) to && first) whole t) in
      set-told codes text work i to (get_or work (i + 2) 0) bytes (ltb-true (i + 2) to (and_left (ltb (i + 2) to) first front)) (eqb-true (get_or work (i + 1) 0) (get_or work i 0 + 1) (and_right (ltb (i + 2) to) first front)) refl

  pub closes-told : (end : ℕ) → end ≡ set_closes codes text work i to → (end ≡ 0 → ⊥) → SetClosed codes text work i to end
  unfolding set_closes pick
  closes-told end e some =
      by-test (ltb (i + 2) to && first && whole) (λ t. let there : end ≡ get_or work (i + 2) 0 = e ∙ rw t refl in rw there (whole-closed t)) (λ f. absurd (some (e ∙ rw f refl)))

-- What judging the three words comes to, and that none of them is a newline.
module _ {codes text work : List ℕ} {i to : ℕ} {k : Bracket} {states : List ℕ} (s : WholeSet codes text work i to k states) where
  pub open-line : newline (word_of text work i) ≡ false
  unfolding newline is_line_end
  open-line = rw s.opened refl

  pub states-line : newline (word_of text work (i + 1)) ≡ false
  unfolding newline is_line_end
  states-line = rw s.word refl

  pub close-line : newline (word_of text work (i + 2)) ≡ false
  unfolding newline is_line_end
  close-line = rw s.closed refl

  pub open-shape : (n : ℕ) → chunk_shape codes (Chunk.Plain n) (word_of text work i) ≡ done (Chunk.Within n k i true)
  unfolding chunk_shape punct is_mark pick opener word_of
  open-shape n = go k s.opened
    where
      go : (k : Bracket) → (word_of text work i).token.kind ≡ Kind.Punctuation (opener k) → chunk_shape codes (Chunk.Plain n) (word_of text work i) ≡ done (Chunk.Within n k i true)
      go Bracket.Brace e = rw e refl
      go Bracket.Parenthesis e = rw e refl

  pub states-shape : (n mark : ℕ) → chunk_shape codes (Chunk.Within n k mark true) (word_of text work (i + 1)) ≡ done (Chunk.Within n k mark false)
  unfolding chunk_shape punct is_mark pick symbols_coded within_with is_word
  states-shape n mark =
      let all : coded codes 0 true states ≡ Some ((length states), true) = rising-coded codes 0 states s.rises 0 ∙ ap (λ m. Some (m, true)) (omega arith) in
      let more : eqb (length states) 0 ≡ false = ne_eqb (length states) 0 (λ e. omega (arith, s.some)) in
      rw (s.word, all, more) refl

  pub close-shape : (n mark : ℕ) → chunk_shape codes (Chunk.Within n k mark false) (word_of text work (i + 2)) ≡ done (Chunk.Plain (n + 1))
  unfolding chunk_shape punct is_mark pick
  close-shape n mark = rw (s.closed, eqb_same (closer k)) refl

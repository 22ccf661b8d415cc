-- Words that are told by their bytes at once, and bytes that are a token by themselves: what the definitions make of them. Assumes nothing.
use Rattle.std.specs.Prelude.{Ok}
use Prim.Native.Nat.{ℕ, zero, suc, ◌+◌, ◌-◌, ◌≤◌, ◌<◌}
use Rattle.lexer.proofs.Basics.{agree, agree-true, all_under, and-false, and_left, and_right, by-test, implied, not-both, or-second, under_at}
use Rattle.lexer.proofs.ClassLaws.{plain-is-other}
use Rattle.lexer.proofs.LabelLaws.{label-given}
use Rattle.lexer.proofs.ListLaws.{drop-next}
use Rattle.lexer.proofs.PlainRuns.{plain-tail, running}
use Rattle.lexer.proofs.TableLaws.{tabulated-at}
use Rattle.lexer.specs.Base.{pick, among, bytes, given}
use Rattle.lexer.specs.ByteBlocks.{is_plain, plain_end}
use Rattle.lexer.specs.Classes.{class, next1, symbol, symbol_of, marks, rank, is_newline, is_return, is_blank, is_single, is_double, is_open, is_other, is_part, is_space, blank}
use Rattle.lexer.specs.Lexing.{first_token, token_at, word_at}
use Rattle.lexer.specs.PlainWords.{PlainWord, is_alone, is_ends, told_end, word_byte, word_bytes, word_stop, word_token}
use Rattle.lexer.specs.Scanning.{goes_on, step_of, token_step, word_end, taken}
use Rattle.lexer.specs.Tokens.{token, kind_of, text_of, tail, next, text_step}
use Rattle.lexer.specs.Words.{label, is_word, is_quoted}
use Rattle.lexer.specs.declared.Class.{Class}
use Rattle.lexer.specs.declared.Mode.{Mode}
use Rattle.lexer.specs.declared.Step.{Step}
use borrow.Author.Tests.{eqb-true, eqb-false, le-ltb, lt-ltb, ltb-true, ltb-false, ne_eqb}
use lib.Dec.{eqb, leb, ltb}
use lib.ListN.{length, get_or, take, drop, length-drop, get_or-eq_default}
use lib.Seq.{get_or-drop}
use mathlib.Core.Bool.{Bool, true, false, ◌&&◌, ◌||◌, not, false≢true}
use mathlib.Core.List.{List, [], ◌∷◌}
use mathlib.Core.Path.{◌≡◌, refl, sym, ap, ◌∙◌}
use native.Mathlib.Numerals.{add-one}
use native.Mathlib.Omega.{arith}

-- Does the class end a word, whatever comes next? Is the byte LF, or a mark that is no closing bracket?
ending-class : Class → Bool
ending-class Class.Newline = true
ending-class Class.Blank = true
ending-class Class.Quote = false
ending-class Class.Comment = false
ending-class Class.Punctuation = true
ending-class Class.Other = false
ending-class Class.Part = false

mark-class : Class → Bool
mark-class Class.Newline = false
mark-class Class.Blank = false
mark-class Class.Quote = false
mark-class Class.Comment = false
mark-class Class.Punctuation = true
mark-class Class.Other = false
mark-class Class.Part = false

mark-known : (k : Class) → mark-class k ≡ true → k ≡ Class.Punctuation
unfolding mark-class
mark-known Class.Newline h = absurd (false≢true h)
mark-known Class.Blank h = absurd (false≢true h)
mark-known Class.Quote h = absurd (false≢true h)
mark-known Class.Comment h = absurd (false≢true h)
mark-known Class.Punctuation h = refl
mark-known Class.Other h = absurd (false≢true h)
mark-known Class.Part h = absurd (false≢true h)

-- The classes of such bytes, by a computed test of all below 128.
told-class : ℕ → Bool
told-class b = (not (is_ends b) || ending-class (class b)) && (not (is_alone b) || eqb b 10 || (mark-class (class b) && not (eqb b 93)))

told-all : all_under told-class 128 ≡ true
unfolding all_under told-class ending-class mark-class class pick among bytes marks is_alone is_ends
told-all = refl

ends-small : (b : ℕ) → is_ends b ≡ true → b < 128
unfolding is_ends is_alone
ends-small b t = by-test (ltb b 128) (λ h. ltb-true b 128 h) (λ f. not-both (large (ltb-false b 128 f)) t)
  where
    large : 128 ≤ b → is_ends b ≡ false
    large h =
        let e1 = ne_eqb b 10 (λ e. omega arith) in
        let e2 = ne_eqb b 13 (λ e. omega arith) in
        let e3 = ne_eqb b 32 (λ e. omega arith) in
        let e4 = ne_eqb b 40 (λ e. omega arith) in
        let e5 = ne_eqb b 41 (λ e. omega arith) in
        let e6 = ne_eqb b 44 (λ e. omega arith) in
        let e7 = ne_eqb b 59 (λ e. omega arith) in
        let e8 = ne_eqb b 61 (λ e. omega arith) in
        let e9 = ne_eqb b 123 (λ e. omega arith) in
        let e10 = ne_eqb b 125 (λ e. omega arith) in
        rw (e1, e2, e3, e4, e5, e6, e7, e8, e9, e10)

alone-ends : (b : ℕ) → is_alone b ≡ true → is_ends b ≡ true
unfolding is_ends
alone-ends b t = or-second (eqb b 32 || eqb b 13) (is_alone b) t

told-both : (b : ℕ) → is_ends b ≡ true → told-class b ≡ true
told-both b t = under_at told-class 128 b told-all (ends-small b t)

end-class : (b : ℕ) → is_ends b ≡ true → ending-class (class b) ≡ true
unfolding told-class
end-class b t = implied (is_ends b) (ending-class (class b)) (and_left (not (is_ends b) || ending-class (class b)) (not (is_alone b) || eqb b 10 || (mark-class (class b) && not (eqb b 93))) (told-both b t)) t

-- What a step makes of a byte that is a token by itself: LF, or a mark; and of a blank.
not-false : (s : Bool) → not s ≡ true → s ≡ false
not-false true e = absurd (false≢true e)
not-false false e = refl

alone-mark : (b : ℕ) → is_alone b ≡ true → eqb b 10 ≡ false → (class b ≡ Class.Punctuation) × (eqb b 93 ≡ false)
unfolding told-class
alone-mark b t f =
    let all = and_right (not (is_ends b) || ending-class (class b)) (not (is_alone b) || eqb b 10 || (mark-class (class b) && not (eqb b 93))) (told-both b (alone-ends b t)) in
    let both : mark-class (class b) && not (eqb b 93) ≡ true = rw (t, f) at all in
    (mark-known (class b) (and_left (mark-class (class b)) (not (eqb b 93)) both), not-false (eqb b 93) (and_right (mark-class (class b)) (not (eqb b 93)) both))

alone-first : (b : ℕ) (r : List ℕ) (i : ℕ) → is_alone b ≡ true → token_step i (b ∷ r) ≡ Ok (Step.Token (suc i))
unfolding token_step symbol class symbol_of step_of pick
alone-first b r i t = by-test (eqb b 10) (λ e. line (eqb-true b 10 e)) (λ f. let m = alone-mark b t f in rw (m.0, m.1) refl)
  where
    line : b ≡ 10 → step_of (symbol b r) i r ≡ Ok (Step.Token (suc i))
    line e = rw e refl

alone-step : (text : List ℕ) (i : ℕ) → i < length text → is_alone (get_or text i 0) ≡ true → token_step i (drop i text) ≡ Ok (Step.Token (i + 1))
alone-step text i h t = rw (drop-next text i h) (alone-first (get_or text i 0) (drop (i + 1) text) i t ∙ ap (λ n. Ok (Step.Token n)) (sym (add-one i)))

pub blank_step : (text : List ℕ) (i : ℕ) → i < length text → get_or text i 0 ≡ 32 → token_step i (drop i text) ≡ Ok (Step.Skip (i + 1))
unfolding token_step symbol class symbol_of step_of pick
blank_step text i h e = rw (drop-next text i h, e, add-one i) refl

-- A byte that ends a word, by what is left of the word and by where it ends.
module _ (b : ℕ) (r : List ℕ) where
  tail-ends : is_ends b ≡ true → tail Mode.Word (b ∷ r) ≡ []
  unfolding tail symbol ending-class symbol_of text_step is_open is_other is_part rank pick
  tail-ends t = go (class b) (end-class b t)
    where
      go : (k : Class) → ending-class k ≡ true → text_step Mode.Word (symbol_of k b r) b (tail (next Mode.Word (symbol_of k b r)) r) ≡ []
      go Class.Newline h = by-test (eqb b 13 && next1 10 r) (λ t. rw t refl) (λ f. rw f refl)
      go Class.Blank h = refl
      go Class.Quote h = absurd (false≢true h)
      go Class.Comment h = absurd (false≢true h)
      go Class.Punctuation h = by-test (eqb b 93) (λ t. rw t refl) (λ f. rw f refl)
      go Class.Other h = absurd (false≢true h)
      go Class.Part h = absurd (false≢true h)

  word-end-here : (i : ℕ) → is_ends b ≡ true → word_end 0 0 i (b ∷ r) ≡ Ok i
  unfolding word_end symbol ending-class symbol_of goes_on is_open is_other is_part rank pick
  word-end-here i t = go (class b) (end-class b t)
    where
      go : (k : Class) → ending-class k ≡ true
          → pick (is_open (symbol_of k b r)) (word_end 1 i (suc i) r) (pick (goes_on (symbol_of k b r)) (word_end 0 0 (suc i) r) (Ok i)) ≡ Ok i
      go Class.Newline h = by-test (eqb b 13 && next1 10 r) (λ t. rw t refl) (λ f. rw f refl)
      go Class.Blank h = refl
      go Class.Quote h = absurd (false≢true h)
      go Class.Comment h = absurd (false≢true h)
      go Class.Punctuation h = by-test (eqb b 93) (λ t. rw t refl) (λ f. rw f refl)
      go Class.Other h = absurd (false≢true h)
      go Class.Part h = absurd (false≢true h)

  -- A plain byte goes on with it.
  word-end-on : (i : ℕ) → is_plain b ≡ true → word_end 0 0 i (b ∷ r) ≡ word_end 0 0 (suc i) r
  unfolding word_end symbol symbol_of goes_on is_open is_other is_part rank pick
  word-end-on i t = rw (plain-is-other b t)

  token-plain : is_plain b ≡ true → token b r ≡ word_token (b ∷ tail Mode.Word r)
  unfolding token symbol symbol_of kind_of text_of is_newline is_single is_double is_other rank pick
  token-plain t = rw (plain-is-other b t)

  step-plain : (i : ℕ) → is_plain b ≡ true → token_step i (b ∷ r) ≡ taken (word_end 0 0 (suc i) r)
  unfolding token_step symbol symbol_of step_of
  step-plain i t = rw (plain-is-other b t)

-- So many plain bytes, and then one that ends a word.
module _ where
  run-tail : (n : ℕ) (l : List ℕ) → n < length l → ((k : ℕ) → k < n → is_plain (get_or l k 0) ≡ true) → is_ends (get_or l n 0) ≡ true → tail Mode.Word l ≡ take n l
  run-tail n [] h each t = absurd (omega arith)
  run-tail zero (b ∷ r) h each t = tail-ends b r t
  run-tail (suc n) (b ∷ r) h each t = plain-tail b r (each 0 (omega arith)) ∙ ap (λ l. b ∷ l) (run-tail n r (omega arith) (λ k l. each (suc k) (omega arith)) t)

  run-end : (n : ℕ) (l : List ℕ) (i : ℕ) → n < length l → ((k : ℕ) → k < n → is_plain (get_or l k 0) ≡ true) → is_ends (get_or l n 0) ≡ true → word_end 0 0 i l ≡ Ok (i + n)
  run-end n [] i h each t = absurd (omega arith)
  run-end zero (b ∷ r) i h each t = word-end-here b r i t ∙ ap Ok (omega arith)
  run-end (suc n) (b ∷ r) i h each t = word-end-on b r i (each 0 (omega arith)) ∙ run-end n r (suc i) (omega arith) (λ k l. each (suc k) (omega arith)) t ∙ ap Ok (omega arith)

  run-token : (n : ℕ) (l : List ℕ) → 0 < n → n < length l → ((k : ℕ) → k < n → is_plain (get_or l k 0) ≡ true) → is_ends (get_or l n 0) ≡ true → first_token l ≡ word_token (take n l)
  unfolding first_token
  run-token zero l some h each t = absurd (omega arith)
  run-token (suc n) [] some h each t = absurd (omega arith)
  run-token (suc n) (b ∷ r) some h each t =
      token-plain b r (each 0 (omega arith)) ∙ ap (λ l. word_token (b ∷ l)) (run-tail n r (omega arith) (λ k l. each (suc k) (omega arith)) t)

  run_step : (n : ℕ) (l : List ℕ) (i : ℕ) → 0 < n → n < length l → ((k : ℕ) → k < n → is_plain (get_or l k 0) ≡ true) → is_ends (get_or l n 0) ≡ true → token_step i l ≡ Ok (Step.Token (i + n))
  unfolding taken
  run_step zero l i some h each t = absurd (omega arith)
  run_step (suc n) [] i some h each t = absurd (omega arith)
  run_step (suc n) (b ∷ r) i some h each t =
      step-plain b r i (each 0 (omega arith)) ∙ rw (run-end n r (suc i) (omega arith) (λ k l. each (suc k) (omega arith)) t) (ap (λ n. Ok (Step.Token n)) (omega arith))

pub word-told : (text : List ℕ) (start end : ℕ) → start < end → end < length text → ((k : ℕ) → k < end - start → is_plain (get_or text (start + k) 0) ≡ true)
    → is_ends (get_or text end 0) ≡ true → PlainWord text start end
unfolding token_at
word-told text start end some within each ends =
    let there : start + (end - start) ≡ end = omega arith in
    let long : end - start < length (drop start text) = rw (length-drop start text) (omega arith) in
    let plain : (k : ℕ) → k < end - start → is_plain (get_or (drop start text) k 0) ≡ true = λ k h. rw (get_or-drop start text k 0) (each k h) in
    let last : is_ends (get_or (drop start text) (end - start) 0) ≡ true = rw (get_or-drop start text (end - start) 0, there) ends in
    record {
      within = omega arith;
      told = run-token (end - start) (drop start text) (omega arith) long plain last;
      each = each;
      stepped = run_step (end - start) (drop start text) start (omega arith) long plain last ∙ ap (λ n. Ok (Step.Token n)) there;
    }

-- Where the code tells that a word ends, one does: there the plain bytes from a place on end.
module _ (text : List ℕ) (start end : ℕ) where
  abbrev ended : Bool
  ended = ltb (plain_end start (drop start text)) (length text) && is_ends (get_or text (plain_end start (drop start text)) 0)

  run-told : end ≡ plain_end start (drop start text) → start < end → ended ≡ true → PlainWord text start end
  run-told e some t =
      let k = running (drop start text) start in
      let last : ltb end (length text) && is_ends (get_or text end 0) ≡ true = rw e t in
      word-told text start end some (ltb-true end (length text) (and_left (ltb end (length text)) (is_ends (get_or text end 0)) last)) (λ n h. rw (← get_or-drop start text n 0) (k.each n (rw (← e) h))) (and_right (ltb end (length text)) (is_ends (get_or text end 0)) last)

  pub stop-told : end ≡ word_stop text start → start < end → PlainWord text start end
  unfolding word_stop pick
  stop-told e some = by-test ended (λ t. run-told (e ∙ rw t refl) some t) (λ f. let none : end ≡ start = e ∙ rw f refl in absurd (omega arith))

  -- By what the code asks.
  module _ (e : end ≡ plain_end start (drop start text)) where
    pub stop-here : end < length text → is_ends (get_or text end 0) ≡ true → end ≡ word_stop text start
    unfolding word_stop pick
    stop-here h t = rw (← e, lt-ltb end (length text) h, t) refl

    pub stop-past : length text ≤ end → start ≡ word_stop text start
    unfolding word_stop pick
    stop-past h = rw (← e, le-ltb end (length text) h) refl

    pub stop-other : is_ends (get_or text end 0) ≡ false → start ≡ word_stop text start
    unfolding word_stop pick
    stop-other f = rw (← e, f, and-false (ltb end (length text))) refl

-- The same of a token: a byte that is one by itself, or such a word.
module _ (text : List ℕ) (i : ℕ) where
  pub told-alone : is_alone (get_or text i 0) ≡ true → i + 1 ≡ told_end text i
  unfolding told_end pick
  told-alone t = rw t refl

  pub told-word : is_alone (get_or text i 0) ≡ false → word_stop text i ≡ told_end text i
  unfolding told_end pick
  told-word f = rw f refl

  pub told-step : (end : ℕ) → end ≡ told_end text i → i < length text → i < end → token_step i (drop i text) ≡ Ok (Step.Token end)
  told-step end e h some =
      by-test (is_alone (get_or text i 0)) (λ t. alone-step text i h t ∙ ap (λ n. Ok (Step.Token n)) (told-alone t ∙ sym e)) (λ f. (stop-told text i end (e ∙ sym (told-word f)) some).stepped)

-- The table of how bytes stand to a word: what its entries say, by a computed test of all of them.
standing : ℕ → Bool
standing b = agree (is_plain b) (eqb (word_byte b) 1) && agree (is_ends b) (leb 2 (word_byte b)) && agree (is_alone b) (eqb (word_byte b) 3)

standing-all : all_under standing 256 ≡ true
unfolding all_under standing agree is_plain is_ends is_alone word_byte pick
standing-all = refl

module _ (table : List ℕ) (same : table ≡ word_bytes) (b entry : ℕ) (here : entry ≡ get_or table b 0) (small : b < 256) where
  stands : word_byte b ≡ entry
  stands = sym (tabulated-at word_byte 256 b 0 small) ∙ ap (λ t. get_or t b 0) (sym same) ∙ sym here

  each : (agree (is_plain b) (eqb entry 1) ≡ true) × (agree (is_ends b) (leb 2 entry) ≡ true) × (agree (is_alone b) (eqb entry 3) ≡ true)
  unfolding standing
  each =
      let all = rw stands at (under_at standing 256 b standing-all small) in
      let front = and_left (agree (is_plain b) (eqb entry 1) && agree (is_ends b) (leb 2 entry)) (agree (is_alone b) (eqb entry 3)) all in
      (and_left (agree (is_plain b) (eqb entry 1)) (agree (is_ends b) (leb 2 entry)) front, and_right (agree (is_plain b) (eqb entry 1)) (agree (is_ends b) (leb 2 entry)) front, and_right (agree (is_plain b) (eqb entry 1) && agree (is_ends b) (leb 2 entry)) (agree (is_alone b) (eqb entry 3)) all)

  pub stands_on : is_plain b ≡ eqb entry 1
  stands_on = agree-true (is_plain b) (eqb entry 1) each.0

  pub stands-end : is_ends b ≡ leb 2 entry
  stands-end = agree-true (is_ends b) (leb 2 entry) each.1

  pub stands-alone : is_alone b ≡ eqb entry 3
  stands-alone = agree-true (is_alone b) (eqb entry 3) each.2

-- Plain bytes from a place up to another.
pub record PlainTo (text : List ℕ) (start i : ℕ) : Type 0 where
  pub ahead : start ≤ i
  pub each : (k : ℕ) → k < i - start → is_plain (get_or text (start + k) 0) ≡ true

pub plain-start : (text : List ℕ) (start : ℕ) → PlainTo text start start
plain-start text start = record { ahead = omega arith; each = λ k h. absurd (omega arith) }

pub plain_turn : (text : List ℕ) (start i : ℕ) → PlainTo text start i → is_plain (get_or text i 0) ≡ true → PlainTo text start (i + 1)
plain_turn text start i s t =
    let ahead = s.ahead in
    record {
      ahead = omega arith;
      each = λ k h. by-test (eqb (start + k) i) (λ e. rw (eqb-true (start + k) i e) t) (λ f. s.each k (let ne = eqb-false (start + k) i f in omega (arith, ne)));
    }

-- A token whose first byte is plain is a name.
nothing-plain : is_plain 0 ≡ false
unfolding is_plain
nothing-plain = refl

pub plain_label : (text : List ℕ) (start : ℕ) → is_plain (get_or text start 0) ≡ true → given (label (word_at text start)) ≡ true
unfolding word_at token_at first_token is_word is_quoted blank symbol symbol_of is_space is_newline is_return is_blank is_part rank
plain_label text start t = by-test (ltb start (length text)) (λ h. here (ltb-true start (length text) h)) (λ f. past (ltb-false start (length text) f))
  where
    here : start < length text → given (label (word_at text start)) ≡ true
    here h = rw (label-given, drop-next text start h, token-plain (get_or text start 0) (drop (start + 1) text) t, plain-is-other (get_or text start 0) t) refl

    past : length text ≤ start → given (label (word_at text start)) ≡ true
    past h = not-both (ap is_plain (get_or-eq_default text 0 h) ∙ nothing-plain) t

-- What the scanning definitions pass over is what the modes pass over: comments, quoted texts and words, each from behind its first byte to its
-- end. Assumes nothing.
use Rattle.std.specs.Prelude.{Ok, Err, Result}
use Prim.Native.Nat.{ℕ, zero, suc, ◌+◌, ◌≤◌, ◌<◌}
use Rattle.lexer.proofs.Basics.{by-test, not-both, and-true, chosen, and-false}
use Rattle.lexer.specs.Base.{pick, among, bytes}
use Rattle.lexer.specs.Classes.{class, marks, symbol, symbol_of, rank, is_return, is_blank, is_single, is_double, is_open, is_close, is_other, is_part}
use Rattle.lexer.specs.Places.{starts_from, opened_from, opens, opens_between}
use Rattle.lexer.specs.Scanning.{comment_end, quote_end, string_end, word_end, goes_on}
use Rattle.lexer.specs.Tokens.{next, after_between, after_word, after_comment, up, begins, begins_between, unclosed, tokens_from, left_open, open_kind}
use Rattle.lexer.specs.declared.Class.{Class}
use Rattle.lexer.specs.declared.Fault.{Fault}
use Rattle.lexer.specs.declared.Mode.{Mode}
use Rattle.lexer.specs.declared.Symbol.{Symbol}
use Rattle.lexer.specs.declared.refusal.Refusal.{Refusal}
use borrow.Author.Tests.{eqb-true}
use lib.Dec.{eqb}
use lib.ListN.{length, drop}
use mathlib.Core.Bool.{Bool, true, false, ◌||◌}
use mathlib.Core.List.{List, [], ◌∷◌}
use mathlib.Core.Option.{some}
use mathlib.Core.Path.{◌≡◌, refl, sym, ◌∙◌}
use native.Mathlib.Omega.{arith}

-- What holds of a byte's symbol if it holds of each symbol that the byte can have: four symbols are those of one byte each, two those of LF and CR.
pub symbol-cases : (P : Symbol → Type 0) (b : ℕ) (r : List ℕ)
    → (eqb b 39 ≡ true → P Symbol.Single) → (eqb b 34 ≡ true → P Symbol.Double) → (eqb b 91 ≡ true → P Symbol.Open) → (eqb b 93 ≡ true → P Symbol.Close)
    → (eqb b 10 || eqb b 13 ≡ true → P Symbol.Newline) → (eqb b 10 || eqb b 13 ≡ true → P Symbol.Return)
    → P Symbol.Blank → P Symbol.Punctuation → P Symbol.Other → P Symbol.Part → P (symbol b r)
unfolding symbol symbol_of class
symbol-cases P b r single double opening closing newline return blank mark other part =
    chosen Q _ (λ t. chosen P _ (λ _. return t) (λ _. newline t)) λ _.
    chosen Q _ (λ _. blank) λ _.
    chosen Q _ (λ e. chosen P _ single λ f. double (rw f at e)) λ _.
    chosen Q _ opening λ _.
    chosen Q _ (λ _. chosen P _ closing (λ _. mark)) λ _.
    chosen Q _ (λ _. other) λ _.
    chosen P _ (λ _. part) λ _.
    chosen P _ (λ _. blank) (λ _. other)
  where
    Q : Class → Type 0
    Q c = P (symbol_of c b r)

-- Each of the four symbols is told by its byte.
module _ (b : ℕ) (r : List ℕ) where
  pub open-byte : is_open (symbol b r) ≡ eqb b 91
  unfolding symbol symbol_of class pick rank is_open
  open-byte =
      by-test (eqb b 91) (λ t. rw (eqb-true b 91 t))
      (λ f. symbol-cases (λ s. is_open s ≡ eqb b 91) b r (λ _. sym f) (λ _. sym f) (not-both f) (λ _. sym f) (λ _. sym f) (λ _. sym f) (sym f) (sym f) (sym f) (sym f))

  pub close-byte : is_close (symbol b r) ≡ eqb b 93
  unfolding symbol symbol_of class pick rank is_close among marks bytes
  close-byte =
      by-test (eqb b 93) (λ t. rw (eqb-true b 93 t))
      (λ f. symbol-cases (λ s. is_close s ≡ eqb b 93) b r (λ _. sym f) (λ _. sym f) (λ _. sym f) (not-both f) (λ _. sym f) (λ _. sym f) (sym f) (sym f) (sym f) (sym f))

  pub single-byte : is_single (symbol b r) ≡ eqb b 39
  unfolding symbol symbol_of class pick rank is_single
  single-byte =
      by-test (eqb b 39) (λ t. rw (eqb-true b 39 t))
      (λ f. symbol-cases (λ s. is_single s ≡ eqb b 39) b r (not-both f) (λ _. sym f) (λ _. sym f) (λ _. sym f) (λ _. sym f) (λ _. sym f) (sym f) (sym f) (sym f) (sym f))

  pub double-byte : is_double (symbol b r) ≡ eqb b 34
  unfolding symbol symbol_of class pick rank is_double
  double-byte =
      by-test (eqb b 34) (λ t. rw (eqb-true b 34 t))
      (λ f. symbol-cases (λ s. is_double s ≡ eqb b 34) b r (λ _. sym f) (not-both f) (λ _. sym f) (λ _. sym f) (λ _. sym f) (λ _. sym f) (sym f) (sym f) (sym f) (sym f))

-- From a mode at `i` to between two tokens at `j`, where no token begins.
pub record Passed (m : Mode) (i j : ℕ) (r : List ℕ) : Type 0 where
  pub count : ℕ
  pub place : i + count ≡ j
  pub room : count ≤ length r
  pub tokens : tokens_from m r ≡ tokens_from Mode.Between (drop count r)
  pub starts : starts_from m i r ≡ starts_from Mode.Between j (drop count r)
  pub opened : (since : ℕ) → (later : ℕ) × (opened_from m since i r ≡ opened_from Mode.Between later j (drop count r))

-- From a mode at `i` to the end of the text, with something left open, whose opening mark is this.
pub record Unclosed (n : Refusal) (m : Mode) (since i : ℕ) (r : List ℕ) (mark : ℕ) : Type 0 where
  pub what : left_open (tokens_from m r) ≡ some n
  pub opened : opened_from m since i r ≡ mark
  pub within : mark < i + length r

abbrev pub Ends : Mode → ℕ → ℕ → List ℕ → Result ℕ (Fault ℕ) → Type 0
Ends m since i r (Ok j) = Passed m i j r
Ends m since i r (Err f) = Unclosed f.0 m since i r f.1

pub here : (i : ℕ) (r : List ℕ) → Passed Mode.Between i i r
here i r = record { count = 0; place = omega arith; room = omega arith; tokens = refl; starts = refl; opened = λ since. (since, refl) }

-- One byte more in front, at which no token begins.
one_more : (m : Mode) (since i b : ℕ) (r : List ℕ) → begins m (symbol b r) ≡ false → (e : Result ℕ (Fault ℕ))
    → Ends (next m (symbol b r)) (pick (opens m (symbol b r)) i since) (suc i) r e → Ends m since i (b ∷ r) e
unfolding tokens_from starts_from opened_from pick
one_more m since i b r quiet (Ok j) p =
    record {
      count = suc p.count;
      place = omega arith;
      room = omega arith;
      tokens = rw quiet p.tokens;
      starts = rw quiet p.starts;
      opened = λ o. p.opened (pick (opens m (symbol b r)) i o);
    }
one_more m since i b r quiet (Err f) u = record { what = rw quiet u.what; opened = u.opened; within = omega arith }

-- At a byte that means in this mode what it means between two tokens, nothing is passed.
as-between : (m : Mode) (i b : ℕ) (r : List ℕ) → next m (symbol b r) ≡ next Mode.Between (symbol b r)
    → begins m (symbol b r) ≡ begins Mode.Between (symbol b r) → opens m (symbol b r) ≡ opens Mode.Between (symbol b r) → Passed m i i (b ∷ r)
unfolding tokens_from starts_from opened_from
as-between m i b r after begun opening =
    record {
      count = 0;
      place = omega arith;
      room = omega arith;
      tokens = rw (after, begun);
      starts = rw (after, begun);
      opened = λ since. (since, rw (after, opening));
    }

-- A test that tells both the mode after a byte and where to look for the end.
module _ (since i : ℕ) (r : List ℕ) where
  ends-one : (t : Bool) (m m' : Mode) (e e' : Result ℕ (Fault ℕ)) → Ends m since i r e → Ends m' since i r e' → Ends (pick t m m') since i r (pick t e e')
  unfolding pick
  ends-one true m m' e e' p q = p
  ends-one false m m' e e' p q = q

-- A byte in a comment: one comment more around what follows, one less, or as many.
in-comment : (m deeper outer same : Mode) (since i b : ℕ) (r : List ℕ) (e e' e'' : Result ℕ (Fault ℕ))
    → next m (symbol b r) ≡ pick (is_open (symbol b r)) deeper (pick (is_close (symbol b r)) outer same) → begins m (symbol b r) ≡ false
    → opens m (symbol b r) ≡ false → Ends deeper since (suc i) r e → Ends outer since (suc i) r e'
    → Ends same since (suc i) r e'' → Ends m since i (b ∷ r) (pick (eqb b 91) e (pick (eqb b 93) e' e''))
unfolding pick
in-comment m deeper outer same since i b r e e' e'' after quiet shut p q s =
    let tests = ends-one since (suc i) r in
    one_more m since i b r quiet (pick (eqb b 91) e (pick (eqb b 93) e' e''))
    (rw (after, shut, open-byte b r, close-byte b r) (tests (eqb b 91) _ _ _ _ p (tests (eqb b 93) _ _ _ _ q s)))

-- A comment between two tokens, in which so many more are open.
pub comment-ends : (r : List ℕ) (mark d i : ℕ) → mark < i → Ends (Mode.Comment d) mark i r (comment_end mark d i r)
unfolding comment_end tokens_from opened_from unclosed left_open open_kind next after_comment up begins opens
comment-ends [] mark d i lt = record { what = refl; opened = refl; within = omega arith }
comment-ends (b ∷ r) mark zero i lt =
    in-comment (Mode.Comment 0) _ _ _ mark i b r _ _ _ refl refl refl
    (comment-ends r mark 1 (suc i) (omega arith))
    (here (suc i) r)
    (comment-ends r mark 0 (suc i) (omega arith))
comment-ends (b ∷ r) mark (suc d) i lt =
    in-comment (Mode.Comment (suc d)) _ _ _ mark i b r _ _ _ refl refl refl
    (comment-ends r mark (suc (suc d)) (suc i) (omega arith))
    (comment-ends r mark d (suc i) (omega arith))
    (comment-ends r mark (suc d) (suc i) (omega arith))

-- A double-quoted text.
pub string-ends : (r : List ℕ) (mark i : ℕ) → mark < i → Ends Mode.String mark i r (string_end mark i r)
unfolding string_end tokens_from opened_from unclosed left_open open_kind next begins opens pick
string-ends [] mark i lt = record { what = refl; opened = refl; within = omega arith }
string-ends (b ∷ r) mark i lt =
    one_more Mode.String mark i b r refl (string_end mark i (b ∷ r))
    (rw (double-byte b r) (ends-one mark (suc i) r (eqb b 34) _ _ _ _ (here (suc i) r) (string-ends r mark (suc i) (omega arith))))

-- A single-quoted text; `closing` says that a quote was passed just now.
abbrev in-quote : Bool → Mode
in-quote false = Mode.Quoted
in-quote true = Mode.Closing

closing-byte : (mark i b : ℕ) (r : List ℕ) (e : Result ℕ (Fault ℕ)) → Ends Mode.Quoted mark (suc i) r e
    → Ends Mode.Closing mark i (b ∷ r) (pick (eqb b 39) e (Ok i))
unfolding next begins opens pick
closing-byte mark i b r e p =
    chosen (λ e. Ends Mode.Closing mark i (b ∷ r) e) (eqb b 39) {x = e} {y = Ok i}
    (λ t. let s : is_single (symbol b r) ≡ true = single-byte b r ∙ t in doubled s)
    (λ f. let s : is_single (symbol b r) ≡ false = single-byte b r ∙ f in closed s)
  where
    doubled : is_single (symbol b r) ≡ true → Ends Mode.Closing mark i (b ∷ r) e
    doubled s = one_more Mode.Closing mark i b r (rw s (and-false (begins_between (symbol b r)))) e (rw (s, and-false (opens_between (symbol b r))) p)

    closed : is_single (symbol b r) ≡ false → Passed Mode.Closing i i (b ∷ r)
    closed s = as-between Mode.Closing i b r (rw s) (rw s (and-true (begins_between (symbol b r)))) (rw s (and-true (opens_between (symbol b r))))

pub quote-ends : (r : List ℕ) (mark : ℕ) (closing : Bool) (i : ℕ) → mark < i → Ends (in-quote closing) mark i r (quote_end mark closing i r)
unfolding quote_end tokens_from starts_from opened_from unclosed left_open open_kind next begins opens pick
quote-ends [] mark false i lt = record { what = refl; opened = refl; within = omega arith }
quote-ends [] mark true i lt = record { count = 0; place = omega arith; room = omega arith; tokens = refl; starts = refl; opened = λ since. (since, refl) }
quote-ends (b ∷ r) mark false i lt =
    one_more Mode.Quoted mark i b r refl (quote_end mark false i (b ∷ r))
    (rw (single-byte b r) (ends-one mark (suc i) r (eqb b 39) _ _ _ _ (quote-ends r mark true (suc i) (omega arith)) (quote-ends r mark false (suc i) (omega arith))))
quote-ends (b ∷ r) mark true i lt = closing-byte mark i b r (quote_end mark false (suc i) r) (quote-ends r mark false (suc i) (omega arith))

-- A word, and a comment in it that so many others are open around.
pub record Word-ends (r : List ℕ) : Type 0 where
  pub word : (mark since i : ℕ) → Ends Mode.Word since i r (word_end 0 mark i r)
  pub comment : (mark d i : ℕ) → mark < i → Ends (Mode.WordComment d) mark i r (word_end (suc d) mark i r)

module _ (b : ℕ) (r : List ℕ) (k : Word-ends r) where
  word-byte : (mark since i : ℕ) → Ends Mode.Word since i (b ∷ r) (word_end 0 mark i (b ∷ r))
  unfolding word_end goes_on next after_word after_between begins begins_between opens opens_between rank is_return is_blank is_single is_double is_open is_other is_part pick
  word-byte mark since i = go (symbol b r) refl
    where
      Goal : Symbol → Type 0
      Goal s = Ends Mode.Word since i (b ∷ r) (pick (is_open s) (word_end 1 i (suc i) r) (pick (goes_on s) (word_end 0 mark (suc i) r) (Ok i)))

      go : (s : Symbol) → symbol b r ≡ s → Goal s
      go Symbol.Newline e = as-between Mode.Word i b r (rw e) (rw e) (rw e)
      go Symbol.Return e = as-between Mode.Word i b r (rw e) (rw e) (rw e)
      go Symbol.Blank e = as-between Mode.Word i b r (rw e) (rw e) (rw e)
      go Symbol.Single e = as-between Mode.Word i b r (rw e) (rw e) (rw e)
      go Symbol.Double e = as-between Mode.Word i b r (rw e) (rw e) (rw e)
      go Symbol.Open e = one_more Mode.Word since i b r (rw e) (word_end 1 i (suc i) r) (rw e (k.comment i 0 (suc i) (omega arith)))
      go Symbol.Close e = as-between Mode.Word i b r (rw e) (rw e) (rw e)
      go Symbol.Punctuation e = as-between Mode.Word i b r (rw e) (rw e) (rw e)
      go Symbol.Other e = one_more Mode.Word since i b r (rw e) (word_end 0 mark (suc i) r) (rw e (k.word mark since (suc i)))
      go Symbol.Part e = one_more Mode.Word since i b r (rw e) (word_end 0 mark (suc i) r) (rw e (k.word mark since (suc i)))

  comment-byte : (mark d i : ℕ) → mark < i → Ends (Mode.WordComment d) mark i (b ∷ r) (word_end (suc d) mark i (b ∷ r))
  unfolding word_end next after_comment up begins opens
  comment-byte mark zero i lt =
      in-comment (Mode.WordComment 0) _ _ _ mark i b r _ _ _ refl refl refl
      (k.comment mark 1 (suc i) (omega arith))
      (k.word mark mark (suc i))
      (k.comment mark 0 (suc i) (omega arith))
  comment-byte mark (suc d) i lt =
      in-comment (Mode.WordComment (suc d)) _ _ _ mark i b r _ _ _ refl refl refl
      (k.comment mark (suc (suc d)) (suc i) (omega arith))
      (k.comment mark d (suc i) (omega arith))
      (k.comment mark (suc d) (suc i) (omega arith))

pub word-ends : (r : List ℕ) → Word-ends r
unfolding word_end tokens_from starts_from opened_from unclosed left_open open_kind
word-ends [] =
    record {
      word = λ mark since i. record { count = 0; place = omega arith; room = omega arith; tokens = refl; starts = refl; opened = λ since. (since, refl) };
      comment = λ mark d i lt. record { what = refl; opened = refl; within = omega arith };
    }
word-ends (b ∷ r) = record { word = word-byte b r (word-ends r); comment = comment-byte b r (word-ends r) }

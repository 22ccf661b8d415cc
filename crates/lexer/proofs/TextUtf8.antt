-- The text of a token is UTF-8 where the whole text is. Assumes nothing.
use Prim.Native.Nat.{ℕ, zero, suc, ◌≤◌}
use Rattle.lexer.proofs.Basics.{by-test, and_left, and_right, and_both, chosen}
use Rattle.lexer.proofs.SymbolLaws.{symbol-part, symbol-high-cases, each-symbol}
use Rattle.lexer.specs.Base.{pick}
use Rattle.lexer.specs.Classes.{symbol, rank, is_newline, is_return, is_single, is_double, is_open, is_close, is_other, is_part}
use Rattle.lexer.specs.Tokens.{tail, text_step, quoted_byte, next, after_between, after_word, after_comment, up}
use Rattle.lexer.specs.Utf8.{utf8_from, Follows, after_lead, is_lead, follow}
use Rattle.lexer.specs.declared.Mode.{Mode}
use Rattle.lexer.specs.declared.Symbol.{Symbol}
use borrow.Author.Tests.{ltb-false, leb-true}
use lib.Dec.{eqb, ltb, leb, lit≤}
use mathlib.Core.Bool.{true, false, ◌&&◌}
use mathlib.Core.List.{List, [], ◌∷◌}
use mathlib.Core.Path.{◌≡◌, refl, ◌∙◌}
use native.Mathlib.Omega.{arith}

-- What comes behind a well-formed byte: so many bytes of its character, the next of them in a range of the later bytes.
pub record Behind (n low high b : ℕ) (r : List ℕ) : Type 0 where
  pub more : ℕ
  pub from : ℕ
  pub to : ℕ
  pub later : 128 ≤ from
  pub last : to ≤ 191
  pub rest : utf8_from more from to r ≡ true
  -- the same byte goes before any other rest that is well-formed there
  pub before : (t : List ℕ) → utf8_from more from to t ≡ true → utf8_from n low high (b ∷ t) ≡ true

pub lead-range : (b : ℕ) → (128 ≤ (after_lead b).low) × ((after_lead b).high ≤ 191)
unfolding after_lead follow
lead-range b =
    let P : Follows → Type 0 = λ f. (128 ≤ f.low) × (f.high ≤ 191) in
    chosen P (ltb b 224) (λ _. omega arith) λ _.
    chosen P (eqb b 224) (λ _. omega arith) λ _.
    chosen P (eqb b 237) (λ _. omega arith) λ _.
    chosen P (ltb b 240) (λ _. omega arith) λ _.
    chosen P (eqb b 240) (λ _. omega arith) λ _.
    chosen P (eqb b 244) (λ _. omega arith) λ _. omega arith

pub behind : (n low high b : ℕ) (r : List ℕ) → utf8_from n low high (b ∷ r) ≡ true → Behind n low high b r
unfolding utf8_from pick
behind (suc n) low high b r h =
    let inside = and_left (leb low b && leb b high) (utf8_from n 128 191 r) h in
    record {
      more = n;
      from = 128;
      to = 191;
      later = lit≤ tt;
      last = lit≤ tt;
      rest = and_right (leb low b && leb b high) (utf8_from n 128 191 r) h;
      before = λ t k. and_both inside k;
    }
behind zero low high b r h = by-test (ltb b 128) ascii longer
  where
    ascii : ltb b 128 ≡ true → Behind zero low high b r
    ascii e = record { more = 0; from = 128; to = 191; later = lit≤ tt; last = lit≤ tt; rest = rw e at h; before = λ t k. rw e k }

    longer : ltb b 128 ≡ false → Behind zero low high b r
    longer e =
        let h' = rw e at h in
        record {
          more = (after_lead b).more;
          from = (after_lead b).low;
          to = (after_lead b).high;
          later = (lead-range b).0;
          last = (lead-range b).1;
          rest = and_right (is_lead b) (utf8_from (after_lead b).more (after_lead b).low (after_lead b).high r) h';
          before = λ t k. rw e (and_both (and_left (is_lead b) (utf8_from (after_lead b).more (after_lead b).low (after_lead b).high r) h') k);
        }

-- Inside a character a byte is one of the later bytes.
pub later-byte : (n low high b : ℕ) (r : List ℕ) → 128 ≤ low → high ≤ 191 → utf8_from (suc n) low high (b ∷ r) ≡ true → symbol b r ≡ Symbol.Part
unfolding utf8_from
later-byte n low high b r le he h =
    let both = and_left (leb low b && leb b high) (utf8_from n 128 191 r) h in
    let l = leb-true low b (and_left (leb low b) (leb b high) both) in
    let u = leb-true b high (and_right (leb low b) (leb b high) both) in
    symbol-part b r (omega arith) (omega arith)

-- An ASCII byte is a character of its own.
pub after-ascii : (low high b : ℕ) (r : List ℕ) → ltb b 128 ≡ true → utf8_from zero low high (b ∷ r) ≡ true → utf8_from zero 128 191 r ≡ true
unfolding utf8_from pick
after-ascii low high b r e h = rw e at h

-- Where a character begins, the range of later bytes means nothing.
pub range-free : (low high : ℕ) (t : List ℕ) → utf8_from zero low high t ≡ utf8_from zero 128 191 t
unfolding utf8_from
range-free low high [] = refl
range-free low high (b ∷ t) = refl

-- In this mode the text of the token that is open is well-formed where the rest is: in the same place of a character, or as one that begins.
abbrev pub Keeps : Mode → List ℕ → Type 0
Keeps m r = (n low high : ℕ) → 128 ≤ low → high ≤ 191 → utf8_from n low high r ≡ true → utf8_from n low high (tail m r) ≡ true

abbrev pub Begins : Mode → List ℕ → Type 0
Begins m r = (n low high : ℕ) → 128 ≤ low → high ≤ 191 → utf8_from n low high r ≡ true → utf8_from 0 128 191 (tail m r) ≡ true

-- What each mode makes of a well-formed rest. A comment inside a word, and what stands behind a closing quote, begin a character.
pub record Kept (r : List ℕ) : Type 0 where
  pub word : Keeps Mode.Word r
  pub quoted : Keeps Mode.Quoted r
  pub string : Keeps Mode.String r
  pub closing : Begins Mode.Closing r
  pub comment : (d : ℕ) → Begins (Mode.WordComment d) r

-- One byte more in front of a rest.
module _ (b : ℕ) (r : List ℕ) (k : Kept r) where
  -- it goes before the text that the rest leaves in a mode
  module _ (n low high : ℕ) (h : utf8_from n low high (b ∷ r) ≡ true) where
    with-text : (m : Mode) → Keeps m r → utf8_from n low high (b ∷ tail m r) ≡ true
    with-text m keeps = let f = behind n low high b r h in f.before (tail m r) (keeps f.more f.from f.to f.later f.last f.rest)

    in-comment : (d : ℕ) → utf8_from 0 128 191 (tail (Mode.WordComment d) r) ≡ true
    in-comment d = let f = behind n low high b r h in k.comment d f.more f.from f.to f.later f.last f.rest

  -- what the byte adds to the text of the token that is open, if its symbol is this, before the text that the rest adds
  abbrev added : Mode → Symbol → List ℕ
  added m s = text_step m s b (tail (next m s) r)

  -- At the front of a character: what holds of an ASCII byte with each symbol, and of the three symbols that another byte can have, holds of the byte's symbol.
  ascii-or-longer : (P : Symbol → Type 0) (low high : ℕ) → utf8_from zero low high (b ∷ r) ≡ true
      → (utf8_from zero 128 191 r ≡ true → (s : Symbol) → P s) → P Symbol.Part → P Symbol.Blank → P Symbol.Other → P (symbol b r)
  ascii-or-longer P low high h ascii part blank other =
      by-test (ltb b 128) (λ e. ascii (after-ascii low high b r e h) (symbol b r)) (λ e. symbol-high-cases P b r (ltb-false b 128 e) part blank other)

  word_kept : Keeps Mode.Word (b ∷ r)
  unfolding tail next after_word after_between text_step pick rank is_single is_double is_open is_other is_part utf8_from
  word_kept (suc n) low high le he h = rw (later-byte n low high b r le he h) (with-text (suc n) low high h Mode.Word k.word)
  word_kept zero low high le he h = each-symbol (λ s. utf8_from zero low high (added Mode.Word s) ≡ true) refl refl refl refl refl opens refl refl kept kept (symbol b r)
    where
      kept : utf8_from zero low high (b ∷ tail Mode.Word r) ≡ true
      kept = with-text zero low high h Mode.Word k.word

      opens : utf8_from zero low high (tail (Mode.WordComment 0) r) ≡ true
      opens = range-free low high (tail (Mode.WordComment 0) r) ∙ in-comment zero low high h 0

  quoted-kept : Keeps Mode.Quoted (b ∷ r)
  unfolding tail next text_step quoted_byte pick rank is_newline is_return is_single utf8_from
  quoted-kept (suc n) low high le he h = rw (later-byte n low high b r le he h) (with-text (suc n) low high h Mode.Quoted k.quoted)
  quoted-kept zero low high le he h =
      ascii-or-longer P low high h (λ rest. each-symbol P (line rest) (range-free low high (tail Mode.Quoted r) ∙ line rest) kept (closes rest) kept kept kept kept kept kept) kept kept kept
    where
      P : Symbol → Type 0
      P s = utf8_from zero low high (added Mode.Quoted s) ≡ true

      kept : utf8_from zero low high (b ∷ tail Mode.Quoted r) ≡ true
      kept = with-text zero low high h Mode.Quoted k.quoted

      line : utf8_from zero 128 191 r ≡ true → utf8_from zero 128 191 (tail Mode.Quoted r) ≡ true
      line = k.quoted zero 128 191 (lit≤ tt) (lit≤ tt)

      closes : utf8_from zero 128 191 r ≡ true → utf8_from zero low high (tail Mode.Closing r) ≡ true
      closes rest = range-free low high (tail Mode.Closing r) ∙ k.closing zero 128 191 (lit≤ tt) (lit≤ tt) rest

  string-kept : Keeps Mode.String (b ∷ r)
  unfolding tail next text_step quoted_byte pick rank is_newline is_return is_double utf8_from
  string-kept (suc n) low high le he h = rw (later-byte n low high b r le he h) (with-text (suc n) low high h Mode.String k.string)
  string-kept zero low high le he h =
      ascii-or-longer P low high h (λ rest. each-symbol P (line rest) (range-free low high (tail Mode.String r) ∙ line rest) kept kept refl kept kept kept kept kept) kept kept kept
    where
      P : Symbol → Type 0
      P s = utf8_from zero low high (added Mode.String s) ≡ true

      kept : utf8_from zero low high (b ∷ tail Mode.String r) ≡ true
      kept = with-text zero low high h Mode.String k.string

      line : utf8_from zero 128 191 r ≡ true → utf8_from zero 128 191 (tail Mode.String r) ≡ true
      line = k.string zero 128 191 (lit≤ tt) (lit≤ tt)

  closing-kept : Begins Mode.Closing (b ∷ r)
  unfolding tail next after_between text_step pick rank is_single is_double is_open is_other utf8_from
  closing-kept (suc n) low high le he h = rw (later-byte n low high b r le he h)
  closing-kept zero low high le he h =
      each-symbol (λ s. utf8_from zero 128 191 (added Mode.Closing s) ≡ true) refl refl refl (with-text zero low high h Mode.Quoted k.quoted) refl refl refl refl refl refl (symbol b r)

  comment-kept : (d : ℕ) → Begins (Mode.WordComment d) (b ∷ r)
  unfolding tail next after_comment up text_step pick rank is_open is_close
  comment-kept d (suc n) low high le he h = rw (later-byte n low high b r le he h) (in-comment (suc n) low high h d)
  comment-kept d zero low high le he h =
      ascii-or-longer P low high h (λ rest. each-symbol P same same same same same (in-comment zero low high h (suc d)) (closes d rest) same same same) same same same
    where
      P : Symbol → Type 0
      P s = utf8_from zero 128 191 (added (Mode.WordComment d) s) ≡ true

      same : utf8_from zero 128 191 (tail (Mode.WordComment d) r) ≡ true
      same = in-comment zero low high h d

      closes : (e : ℕ) → utf8_from zero 128 191 r ≡ true → utf8_from zero 128 191 (tail (up Mode.Word Mode.WordComment e) r) ≡ true
      closes zero rest = k.word zero 128 191 (lit≤ tt) (lit≤ tt) rest
      closes (suc e) rest = k.comment e zero 128 191 (lit≤ tt) (lit≤ tt) rest

pub kept : (r : List ℕ) → Kept r
unfolding tail utf8_from
kept [] =
    record {
      word = λ n low high le he h. h;
      quoted = λ n low high le he h. h;
      string = λ n low high le he h. h;
      closing = λ n low high le he h. refl;
      comment = λ d n low high le he h. refl;
    }
kept (b ∷ r) =
    record {
      word = word_kept b r (kept r);
      quoted = quoted-kept b r (kept r);
      string = string-kept b r (kept r);
      closing = closing-kept b r (kept r);
      comment = comment-kept b r (kept r);
    }

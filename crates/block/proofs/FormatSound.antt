-- A format that is read has symbols that a record may have. Assumes nothing.
use Prim.Native.Nat.{ℕ, ◌≤◌}
use Rattle.block.proofs.OutcomeLaws.{then-done, pick-else, pick-when, pick-either, refused-done, done_inj, Any, all_any, fold-keeps}
use Rattle.block.proofs.Pigeonhole.{pigeonhole}
use Rattle.block.specs.Dna.{acgt}
use Rattle.block.specs.Format.{Format, Options, Formatting, option, perhaps, equals, value, equal, valid_symbol, valid_symbols, options, no_options, with_type, with_symbols, with_missing, with_gap, with_interleave, with_case, with_labels, with_no_tokens, once, key, key_option, format_option, unspaced, single_symbol, symbol_value, format_value, format_turn, format_end, settled, format_of, dna_options, all_valid, clashes, all_differ, signs, good_symbols, judged, format, default_format}
use Rattle.block.specs.Outcome.{done, then, fold}
use Rattle.block.specs.Run.{run_text}
use Rattle.block.specs.Sound.{distinct, most_symbols, sound_symbols}
use Rattle.block.specs.declared.data.DataType.{DataType}
use Rattle.block.specs.declared.formats.Key.{Key}
use Rattle.block.specs.declared.formats.Valued.{Valued}
use Rattle.lexer.proofs.Basics.{and_left, and_right, and_both, or_left, or_right, or-both, by-test, same_refl, all_under, under_at, picked, picked_value}
use Rattle.lexer.specs.Base.{among, lower, given, bytes}
use Rattle.lexer.specs.Words.{Numbered, is, punct, is_string}
use Rattle.lexer.specs.declared.refusal.Refusal.{Refusal}
use borrow.Author.Tests.{eqb-true, not-true, leb-true, le-leb}
use lib.Dec.{eqb, leb}
use lib.ListN.{length}
use mathlib.Core.Bool.{Bool, true, false, ◌&&◌, ◌||◌, not, false≢true}
use mathlib.Core.List.{List, [], ◌∷◌}
use mathlib.Core.Option.{Option, none, some, get_or}
use mathlib.Core.Path.{◌≡◌, refl}
use native.Mathlib.Omega.{arith}

-- A sign that is given is a valid symbol.
abbrev Sign : Option ℕ → Type 0
Sign none = Unit {0}
Sign (some b) = valid_symbol b ≡ true

record Signed (o : Options) : Type 0 where
  missing : Sign o.missing
  gap : Sign o.gap

abbrev SignedAt : Formatting → Type 0
SignedAt (option o) = Signed o
SignedAt (perhaps o i) = Signed o
SignedAt (equals o k i) = Signed o
SignedAt (value o k i) = Signed o

once-done : (seen : Bool) (w : Numbered) (next t : Formatting) → once seen w next ≡ done t → next ≡ t
unfolding once
once-done seen w next t h = done_inj (pick-else seen Refusal.FormatOption w.index (done next) t h).1

once-signed : (seen : Bool) (w : Numbered) (next t : Formatting) → SignedAt next → once seen w next ≡ done t → SignedAt t
once-signed seen w next t p h = rw (← once-done seen w next t h) p

done-signed : (s t : Formatting) → SignedAt s → done s ≡ done t → SignedAt t
done-signed s t p h = rw (← done_inj h) p

key-signed : (o : Options) (w : Numbered) (k : Key) (t : Formatting) → Signed o → key_option o w k ≡ done t → SignedAt t
unfolding key_option with_case with_labels with_no_tokens with_interleave options
key-signed o w Key.DataType t p h = once-signed _ w (equals o Valued.DataType w.index) t p h
key-signed o w Key.RespectCase t p h = once-signed _ w (option (with_case o)) t (record { missing = p.missing; gap = p.gap }) h
key-signed o w Key.Labels t p h = once-signed _ w (option (with_labels o)) t (record { missing = p.missing; gap = p.gap }) h
key-signed o w Key.NoTokens t p h = once-signed _ w (option (with_no_tokens o)) t (record { missing = p.missing; gap = p.gap }) h
key-signed o w Key.Interleave t p h = once-signed _ w (perhaps (with_interleave true o) w.index) t (record { missing = p.missing; gap = p.gap }) h
key-signed o w Key.Symbols t p h = once-signed _ w (equals o Valued.Symbols w.index) t p h
key-signed o w Key.Missing t p h = once-signed _ w (equals o Valued.Missing w.index) t p h
key-signed o w Key.Gap t p h = once-signed _ w (equals o Valued.Gap w.index) t p h
key-signed o w Key.Unknown t p h = refused-done Refusal.FormatOption w.index t h

option-signed : (o : Options) (w : Numbered) (t : Formatting) → Signed o → format_option o w ≡ done t → SignedAt t
unfolding format_option
option-signed o w t p h = key-signed o w (key w) t p h

single-valid : (text : List ℕ) (b : ℕ) → single_symbol text ≡ some b → valid_symbol b ≡ true
unfolding single_symbol
single-valid [] b h = absurd (let z : ◌≡◌ {A = ℕ} 0 1 = cc in omega arith)
single-valid (c ∷ []) b h = rw (← picked_value (valid_symbol c) c b h) (picked (valid_symbol c) c b h)
single-valid (c ∷ d ∷ r) b h = absurd (let z : ◌≡◌ {A = ℕ} 0 1 = cc in omega arith)

sign-signed : (s : Option ℕ) (f : ℕ → Options) (i : ℕ) (t : Formatting) → ((b : ℕ) → s ≡ some b → Signed (f b)) → symbol_value s f i ≡ done t → SignedAt t
unfolding symbol_value
sign-signed none f i t p h = refused-done Refusal.FormatOption i t h
sign-signed (some b) f i t p h = rw (← done_inj h) (p b refl)

value-signed : (o : Options) (k : Valued) (i : ℕ) (w : Numbered) (t : Formatting) → Signed o → format_value o k i w ≡ done t → SignedAt t
unfolding format_value with_type with_symbols with_missing with_gap with_interleave options
value-signed o Valued.DataType i w t p h =
    pick-either (is (bytes "STANDARD") w) _ _ t (done-signed (option (with_type DataType.Standard o)) t (record { missing = p.missing; gap = p.gap }))
    (pick-either (is (bytes "DNA") w) _ _ t (done-signed (option (with_type DataType.Dna o)) t (record { missing = p.missing; gap = p.gap }))
    (refused-done Refusal.FormatOption i t)) h
value-signed o Valued.Symbols i w t p h =
    let q = pick-when (is_string w.token.kind) Refusal.FormatOption w.index (done (option (with_symbols (unspaced w.token.text) o))) t h in
    rw (← done_inj q.1) (record { missing = p.missing; gap = p.gap })
value-signed o Valued.Missing i w t p h =
    sign-signed (single_symbol w.token.text) (λ b. with_missing b o) w.index t (λ b e. record { missing = single-valid w.token.text b e; gap = p.gap }) h
value-signed o Valued.Gap i w t p h =
    sign-signed (single_symbol w.token.text) (λ b. with_gap b o) w.index t (λ b e. record { missing = p.missing; gap = single-valid w.token.text b e }) h
value-signed o Valued.Interleave i w t p h =
    pick-either (is (bytes "YES") w) _ _ t (done-signed (option (with_interleave true o)) t (record { missing = p.missing; gap = p.gap }))
    (pick-either (is (bytes "NO") w) _ _ t (done-signed (option (with_interleave false o)) t (record { missing = p.missing; gap = p.gap }))
    (refused-done Refusal.FormatOption w.index t)) h

turn_signed : (s : Formatting) (w : Numbered) (t : Formatting) → SignedAt s → Any w → format_turn s w ≡ done t → SignedAt t
unfolding format_turn
turn_signed (option o) w t p q h = option-signed o w t p h
turn_signed (perhaps o i) w t p q h = pick-either (punct 61 w) _ _ t (done-signed (value o Valued.Interleave i) t p) (option-signed o w t p) h
turn_signed (equals o k i) w t p q h = rw (← done_inj (pick-when (punct 61 w) Refusal.NoValue i (done (value o k i)) t h).1) p
turn_signed (value o k i) w t p q h = value-signed o k i w t p h

end-signed : (s : Formatting) (o : Options) → SignedAt s → format_end s ≡ done o → Signed o
unfolding format_end
end-signed (option o) u p h = rw (← done_inj h) p
end-signed (perhaps o i) u p h = rw (← done_inj h) p
end-signed (equals o k i) u p h = refused-done Refusal.NoValue i u h
end-signed (value o k i) u p h = refused-done Refusal.NoValue i u h

-- What holds of a format that is read.
pub record Good (f : Format) : Type 0 where
  -- its symbols are those of a record, whatever cells occur
  pub symbols : (gaps : Bool) → (gaps ≡ true → given f.gap ≡ true) → sound_symbols f.data_type f.symbols gaps ≡ true
  pub dna : f.data_type ≡ DataType.Dna → f.symbols ≡ acgt

valid-test : ℕ → Bool
valid-test b = not (valid_symbol b) || among b valid_symbols

valid-tested : all_under valid-test 127 ≡ true
unfolding run_text all_under valid-test
valid-tested = refl

-- A valid symbol is one of the 74.
valid-listed : (b : ℕ) → valid_symbol b ≡ true → among b valid_symbols ≡ true
unfolding valid_symbol valid-test
valid-listed b h =
    let low = and_left (leb 33 b && leb b 126) (not (among b (Rattle.block.specs.Format.invalid))) h in
    let small = leb-true b 126 (and_right (leb 33 b) (leb b 126) low) in
    let test = under_at valid-test 127 b valid-tested (omega arith) in
    rw h at test

-- Symbols that differ in a format are different bytes.
clashes-apart : (f : Format) (a : ℕ) (r : List ℕ) → clashes f a r ≡ false → among a r ≡ false
unfolding clashes among equal
clashes-apart f a [] h = refl
clashes-apart f a (b ∷ r) h =
    let folded = not f.respect_case && eqb (lower a) (lower b) in
    or-both (or_left (eqb a b) folded (or_left (eqb a b || folded) (clashes f a r) h)) (clashes-apart f a r (or_right (eqb a b || folded) (clashes f a r) h))

differ-distinct : (f : Format) (l : List ℕ) → all_differ f l ≡ true → distinct l ≡ true
unfolding all_differ distinct
differ-distinct f [] h = refl
differ-distinct f (a ∷ r) h =
    let apart : not (among a r) ≡ true = rw (clashes-apart f a r (not-true (clashes f a r) (and_left (not (clashes f a r)) (all_differ f r) h))) in
    and_both apart (differ-distinct f r (and_right (not (clashes f a r)) (all_differ f r) h))

all_listed : (l : List ℕ) → all_valid l ≡ true → (b : ℕ) → among b l ≡ true → among b valid_symbols ≡ true
unfolding all_valid among
all_listed [] v b h = absurd (false≢true h)
all_listed (a ∷ r) v b h =
    by-test (eqb b a) (λ e. rw (eqb-true b a e) (valid-listed a (and_left (valid_symbol a) (all_valid r) v)))
    (λ e. all_listed r (and_right (valid_symbol a) (all_valid r) v) b (rw e at h))

symbols-counted : length valid_symbols ≡ 74
unfolding run_text
symbols-counted = refl

-- There are at most 74 different valid symbols.
pub at-most-74 : (l : List ℕ) → all_valid l ≡ true → distinct l ≡ true → length l ≤ 74
at-most-74 l v d = rw symbols-counted at (pigeonhole l valid_symbols d (all_listed l v))

-- So missing leaves 73 of them for the states, and a gap beside it 72.
module _ (f : Format) (v : all_valid f.symbols ≡ true) (m : valid_symbol f.missing ≡ true) where
  with-missing : all_differ f (f.missing ∷ f.symbols) ≡ true → length f.symbols ≤ 73
  unfolding all_valid
  with-missing d =
      let few = at-most-74 (f.missing ∷ f.symbols) (and_both m v) (differ-distinct f (f.missing ∷ f.symbols) d) in
      omega arith

  with-gap : (g : ℕ) → valid_symbol g ≡ true → all_differ f (g ∷ f.missing ∷ f.symbols) ≡ true → length f.symbols ≤ 72
  unfolding all_valid
  with-gap g s d =
      let few = at-most-74 (g ∷ f.missing ∷ f.symbols) (and_both s (and_both m v)) (differ-distinct f (g ∷ f.missing ∷ f.symbols) d) in
      omega arith

  most : (gap : Option ℕ) → Sign gap → all_differ f (signs f gap) ≡ true → (gaps : Bool) → (gaps ≡ true → given gap ≡ true) → leb (length f.symbols) (most_symbols gaps) ≡ true
  unfolding signs most_symbols given
  most none s d true g = absurd (false≢true (g refl))
  most none s d false g = le-leb (length f.symbols) 73 (with-missing d)
  most (some b) s d true g = le-leb (length f.symbols) 72 (with-gap b s d)
  most (some b) s d false g = le-leb (length f.symbols) 73 (omega (arith, with-gap b s d))

-- The states are distinct where all signs differ.
pub states-distinct : (f : Format) (gap : Option ℕ) → all_differ f (signs f gap) ≡ true → distinct f.symbols ≡ true
unfolding signs all_differ
states-distinct f none d = differ-distinct f f.symbols (and_right (not (clashes f f.missing f.symbols)) (all_differ f f.symbols) d)
states-distinct f (some g) d =
    let rest = and_right (not (clashes f g (f.missing ∷ f.symbols))) (all_differ f (f.missing ∷ f.symbols)) d in
    differ-distinct f f.symbols (and_right (not (clashes f f.missing f.symbols)) (all_differ f f.symbols) rest)

default-sign : (s : Option ℕ) (b : ℕ) → Sign s → valid_symbol b ≡ true → valid_symbol (get_or s b) ≡ true
default-sign none b p q = q
default-sign (some c) b p q = p

question-valid : valid_symbol 63 ≡ true
unfolding run_text
question-valid = refl

settled-good : (t : DataType) (o : Options) → Signed o → good_symbols o (settled t o) ≡ true → Good (settled t o)
unfolding settled good_symbols sound_symbols
settled-good DataType.Dna o p h = record { symbols = λ gaps g. same_refl acgt; dna = λ e. refl }
settled-good DataType.Standard o p h =
    let f = settled DataType.Standard o in
    let allowed = dna_options DataType.Standard o f in
    let two = leb 2 (length f.symbols) in
    let three = and_left (allowed && two && all_valid f.symbols) (all_differ f (signs f f.gap)) h in
    let differ = and_right (allowed && two && all_valid f.symbols) (all_differ f (signs f f.gap)) h in
    let valid = and_right (allowed && two) (all_valid f.symbols) three in
    let enough = and_right allowed two (and_left (allowed && two) (all_valid f.symbols) three) in
    let missing = default-sign o.missing 63 p.missing question-valid in
    record {
      symbols = λ gaps g. and_both (and_both (and_both enough (most f valid missing o.gap p.gap differ gaps g)) valid) (states-distinct f o.gap differ);
      dna = λ e. absurd (let z : ◌≡◌ {A = ℕ} 0 1 = cc in omega arith);
    }

judged-good : (i : ℕ) (o : Options) (f : Format) → Signed o → judged i o ≡ done f → Good f
unfolding judged format_of
judged-good i o f p h =
    let q = pick-when (good_symbols o (format_of o)) Refusal.Symbols i (done (format_of o)) f h in
    rw (← done_inj q.1) (settled-good (get_or o.data_type DataType.Standard) o p q.0)

no-signs : Signed no_options
unfolding no_options options
no-signs = record { missing = tt; gap = tt }

-- The format of a FORMAT command.
pub format-good : (i : ℕ) (ws : List Numbered) (f : Format) → format i ws ≡ done f → Good f
unfolding format
format-good i ws f h =
    let j = then-done (then (fold format_turn (option no_options) ws) format_end) (judged i) f h in
    let e = then-done (fold format_turn (option no_options) ws) format_end j.0 j.1 in
    let t = fold-keeps SignedAt Any format_turn turn_signed (option no_options) ws e.0 no-signs (all_any ws) e.1 in
    judged-good i j.0 f (end-signed e.0 j.0 t e.2) j.2

-- The format without a FORMAT command.
pub default-good : Good default_format
unfolding run_text default_format
default-good = record { symbols = sound; dna = λ e. absurd (let z : ◌≡◌ {A = ℕ} 0 1 = cc in omega arith) }
  where
    sound : (gaps : Bool) → (gaps ≡ true → given default_format.gap ≡ true) → sound_symbols default_format.data_type default_format.symbols gaps ≡ true
    sound true g = refl
    sound false g = refl

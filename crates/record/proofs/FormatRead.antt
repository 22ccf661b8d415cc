-- FORMAT of a written form is read as its data type, symbols and signs. Assumes nothing.
use Prim.Native.Nat.{ℕ, suc, ◌<◌}
use Rattle.block.specs.Blocks.{State, step, is_outside, block_step, ends, inner_step, data_step, data_command, with_format, in_phase}
use Rattle.block.specs.Dna.{acgt}
use Rattle.block.specs.Format as F
use Rattle.block.specs.Format.{Format, Formatting, Options, option, value, no_options, format_turn, valid_symbol, all_valid, equal, unspaced}
use Rattle.block.specs.Outcome.{Outcome, done}
use Rattle.block.specs.Run.{run_text}
use Rattle.block.specs.declared.data.DataType.{DataType}
use Rattle.block.specs.declared.formats.Valued.{Valued}
use Rattle.lexer.proofs.Basics.{and_left, and_right, by-test, or-false, same_true, all_under, under_at}
use Rattle.lexer.specs.Base.{pick, given, among}
use Rattle.lexer.specs.Classes.{symbol, is_space, is_part}
use Rattle.lexer.specs.Run.{run_tokens}
use Rattle.lexer.specs.Tokens.{Token}
use Rattle.lexer.specs.Words.{is_string}
use Rattle.lexer.specs.declared.Kind.{Kind}
use Rattle.record.proofs.CommandLaws.{at, Turns, token-turned, words_from, Passes, here, there, Reads, command-read}
use Rattle.record.proofs.DimensionsRead.{declared, in_form}
use Rattle.record.proofs.FormTokens.{word, key, mark, string, sign_token, gap_tokens}
use Rattle.record.proofs.SymbolLaws.{missing-valid, gap-valid, missing-free, gap-free, symbols-two, symbols-valid, symbols-distinct}
use Rattle.record.specs.Form.{missing_sign, gap_sign}
use Rattle.block.specs.Sound.{distinct, sound_symbols}
use Rattle.block.specs.declared.dimension.Dimensions.{Dimensions}
use borrow.Author.Tests.{eqb-true, leb-true, not-true}
use lib.Dec.{eqb, leb}
use mathlib.Core.Bool.{Bool, true, false, ◌&&◌, ◌||◌, not, false≢true}
use mathlib.Core.List.{List, [], ◌∷◌}
use mathlib.Core.Option.{Option, none, some}
use mathlib.Core.Path.{◌≡◌, refl, ap, ◌∙◌}
use native.Mathlib.Omega.{arith}

-- The gap sign, if there is a gap.
unfoldable pub gap_of : ℕ → Bool → Option ℕ
gap_of g true = some g
gap_of g false = none

-- The format that a form has.
unfoldable pub form_of : DataType → List ℕ → Bool → Format
form_of DataType.Standard symbols gaps =
    record { data_type = DataType.Standard; symbols = symbols; missing = missing_sign DataType.Standard symbols; gap = gap_of (gap_sign DataType.Standard symbols) gaps; respect_case = true; interleave = false }
form_of DataType.Dna symbols gaps =
    record { data_type = DataType.Dna; symbols = symbols; missing = 63; gap = some 45; respect_case = false; interleave = false }

-- A valid symbol is no White_Space, and no part of a longer character.
solid : ℕ → List ℕ → Bool
solid b r = not (valid_symbol b) || not (is_space (symbol b r) || is_part (symbol b r))

all-solid : (r : List ℕ) → all_under (λ b. solid b r) 127 ≡ true
unfolding F.valid_symbol F.invalid run_tokens all_under solid
all-solid r = refl

valid-small : (b : ℕ) → valid_symbol b ≡ true → b < 127
unfolding F.valid_symbol
valid-small b v =
    let high : leb b 126 ≡ true = and_right (leb 33 b) (leb b 126) (and_left (leb 33 b && leb b 126) (not (among b F.invalid)) v) in
    omega (arith, leb-true b 126 high)

valid-solid : (b : ℕ) (r : List ℕ) → valid_symbol b ≡ true → is_space (symbol b r) || is_part (symbol b r) ≡ false
unfolding solid
valid-solid b r v =
    let s : not (valid_symbol b) || not (is_space (symbol b r) || is_part (symbol b r)) ≡ true = under_at (λ x. solid x r) 127 b (all-solid r) (valid-small b v) in
    not-true (is_space (symbol b r) || is_part (symbol b r)) (rw v at s)

unspaced-valid : (symbols : List ℕ) → all_valid symbols ≡ true → unspaced symbols ≡ symbols
unfolding unspaced all_valid pick
unspaced-valid [] v = refl
unspaced-valid (b ∷ r) v =
    rw (valid-solid b r (and_left (valid_symbol b) (all_valid r) v)) (ap (λ x. b ∷ x) (unspaced-valid r (and_right (valid_symbol b) (all_valid r) v)))

-- A symbol's token as the value of an option.
sign-turned : {s u t : Formatting} (b : ℕ) {ts : List Token} → ((i : ℕ) (k : Kind) → format_turn s (at i (record { kind = k; text = b ∷ [] })) ≡ done u) → Turns format_turn u ts t → Turns format_turn s (sign_token b ∷ ts) t
unfolding words_from sign_token
sign-turned {u = u} b once r =
    by-test (eqb b 43)
    (λ e. rw e (token-turned (mark 43) refl refl (λ i. (u, rw (eqb-true b 43 e) at (once i (Kind.Punctuation 43)), r))))
    (λ f. rw f (token-turned (word (b ∷ [])) refl refl (λ i. (u, once i Kind.Word, r))))

-- Where case is respected, symbols are equal that are the same, and differ all that are distinct.
module _ (f : Format) (c : f.respect_case ≡ true) where
  pub equal-eqb : (a b : ℕ) → equal f a b ≡ eqb a b
  unfolding equal
  equal-eqb a b = rw c (or-false (eqb a b))

  clashes-among : (a : ℕ) (l : List ℕ) → F.clashes f a l ≡ among a l
  unfolding F.clashes among
  clashes-among a [] = refl
  clashes-among a (b ∷ r) = rw (equal-eqb a b, clashes-among a r) refl

  differ-distinct : (l : List ℕ) → F.all_differ f l ≡ distinct l
  unfolding F.all_differ distinct
  differ-distinct [] = refl
  differ-distinct (a ∷ r) = rw (clashes-among a r, differ-distinct r) refl

-- The options that the form of a STANDARD matrix gives, with its symbols or before them.
abbrev standard_options : Option (List ℕ) → ℕ → Option ℕ → Options
standard_options symbols m g =
    record { data_type = some DataType.Standard; symbols = symbols; missing = some m; gap = g; interleave = none; respect_case = true; labels = false; no_tokens = false }

abbrev before_missing : Options
before_missing =
    record { data_type = some DataType.Standard; symbols = none; missing = none; gap = none; interleave = none; respect_case = true; labels = false; no_tokens = false }

-- To unfold it opens what the turns of FORMAT compute by.
turn_of : Formatting → Token → Outcome Formatting
unfolding words_from given is_string F.options F.no_options F.with_type F.with_symbols F.with_missing F.with_gap F.with_case F.once F.key F.key_option F.format_option F.single_symbol F.symbol_value F.format_value F.format_turn
turn_of s t = format_turn s (at 0 t)

symbols-turned : (m : ℕ) (g : Option ℕ) (symbols : List ℕ) {rest : List Token} → all_valid symbols ≡ true
    → Turns format_turn (option (standard_options none m g)) (key "SYMBOLS" ∷ mark 61 ∷ string symbols ∷ mark 59 ∷ rest) (option (standard_options (some symbols) m g))
unfolding turn_of
symbols-turned m g symbols v = record { turned = λ i. rw (unspaced-valid symbols v) refl }

gap-turned : {t : Formatting} (m g : ℕ) (gaps : Bool) {ts : List Token} → (gaps ≡ true → valid_symbol g ≡ true)
    → Turns format_turn (option (standard_options none m (gap_of g gaps))) ts t
    → Turns format_turn (option (standard_options none m none)) (gap_tokens g gaps ts) t
unfolding turn_of gap_tokens gap_of
gap-turned m g false v r = r
gap-turned {t} m g true {ts} v r =
    let sign : (j : ℕ) → Turns format_turn (value (standard_options none m none) Valued.Gap j) (sign_token g ∷ ts) t = λ j. sign-turned g (λ i k. rw (v refl) refl) r in
    record { turned = λ i. (sign i).turned (suc (suc i)) }

missing-turned : {t : Formatting} (m : ℕ) {ts : List Token} → valid_symbol m ≡ true → Turns format_turn (option (standard_options none m none)) ts t
    → Turns format_turn (option no_options) (key "DATATYPE" ∷ mark 61 ∷ key "STANDARD" ∷ key "RESPECTCASE" ∷ key "MISSING" ∷ mark 61 ∷ sign_token m ∷ ts) t
unfolding turn_of
missing-turned {t} m {ts} v r =
    let sign : (j : ℕ) → Turns format_turn (value before_missing Valued.Missing j) (sign_token m ∷ ts) t = λ j. sign-turned m (λ i k. rw v refl) r in
    record { turned = λ i. (sign (suc (suc (suc (suc i))))).turned (suc (suc (suc (suc (suc (suc i)))))) }

-- The symbols may stand together.
signs-distinct : (symbols : List ℕ) (gaps : Bool) → sound_symbols DataType.Standard symbols gaps ≡ true
    → distinct (F.signs (form_of DataType.Standard symbols gaps) (form_of DataType.Standard symbols gaps).gap) ≡ true
unfolding F.signs distinct form_of gap_of
signs-distinct symbols true s =
    rw (gap-free symbols s, missing-free symbols true s, symbols-distinct symbols true s) refl
signs-distinct symbols false s = rw (missing-free symbols false s, symbols-distinct symbols false s) refl

signs-good : (symbols : List ℕ) (gaps : Bool) → sound_symbols DataType.Standard symbols gaps ≡ true → (h : ℕ)
    → F.judged h (standard_options (some symbols) (missing_sign DataType.Standard symbols) (gap_of (gap_sign DataType.Standard symbols) gaps)) ≡ done (form_of DataType.Standard symbols gaps)
unfolding F.judged F.format_of F.settled F.good_symbols F.dna_options pick form_of
signs-good symbols gaps s h =
    let f : Format = form_of DataType.Standard symbols gaps in
    let good : F.all_differ f (F.signs f f.gap) ≡ true = differ-distinct f refl (F.signs f f.gap) ∙ signs-distinct symbols gaps s in
    rw (symbols-two symbols gaps s, symbols-valid symbols gaps s, good) refl

-- The words behind FORMAT, up to `;`.
unfoldable pub format_words : DataType → List ℕ → Bool → List Token → List Token
format_words DataType.Standard symbols gaps rest =
    key "DATATYPE" ∷ mark 61 ∷ key "STANDARD" ∷ key "RESPECTCASE" ∷ key "MISSING" ∷ mark 61 ∷ sign_token (missing_sign DataType.Standard symbols) ∷ gap_tokens (gap_sign DataType.Standard symbols) gaps (key "SYMBOLS" ∷ mark 61 ∷ string symbols ∷ mark 59 ∷ rest)
format_words DataType.Dna symbols gaps rest =
    key "DATATYPE" ∷ mark 61 ∷ key "DNA" ∷ key "MISSING" ∷ mark 61 ∷ key "?" ∷ key "GAP" ∷ mark 61 ∷ key "-" ∷ mark 59 ∷ rest

gap-valid-if : (symbols : List ℕ) (gaps : Bool) → sound_symbols DataType.Standard symbols gaps ≡ true → gaps ≡ true → valid_symbol (gap_sign DataType.Standard symbols) ≡ true
gap-valid-if symbols true s e = gap-valid DataType.Standard symbols s
gap-valid-if symbols false s e = absurd (false≢true e)

dna-read : (rest : List Token) (gaps : Bool) (h i : ℕ) → F.format h (words_from i (format_words DataType.Dna acgt gaps rest)) ≡ done (form_of DataType.Dna acgt gaps)
unfolding turn_of format_words form_of run_text
dna-read rest gaps h i = refl

format-words-read : (t : DataType) (symbols : List ℕ) (gaps : Bool) (rest : List Token) → sound_symbols t symbols gaps ≡ true → (h i : ℕ)
    → F.format h (words_from i (format_words t symbols gaps rest)) ≡ done (form_of t symbols gaps)
unfolding words_from F.format F.format_end format_words sound_symbols
format-words-read DataType.Standard symbols gaps rest s h i =
    let m : ℕ = missing_sign DataType.Standard symbols in
    let g : ℕ = gap_sign DataType.Standard symbols in
    let all : Turns format_turn (option no_options) (format_words DataType.Standard symbols gaps rest) (option (standard_options (some symbols) m (gap_of g gaps))) =
    missing-turned m (missing-valid DataType.Standard symbols gaps s)
    (gap-turned m g gaps (gap-valid-if symbols gaps s)
    (symbols-turned m (gap_of g gaps) symbols (symbols-valid symbols gaps s)))
    in
    rw (all.turned i) (signs-good symbols gaps s h)
format-words-read DataType.Dna symbols gaps rest s h i = rw (same_true symbols acgt s) (dna-read rest gaps h i)

sign-token-passes : (b : ℕ) {ts rest : List Token} → Passes ts rest → Passes (sign_token b ∷ ts) rest
unfolding words_from sign_token
sign-token-passes b p = by-test (eqb b 43) (λ t. rw t (there (mark 43) refl p)) (λ f. rw f (there (word (b ∷ [])) refl p))

gap-passes : (g : ℕ) (gaps : Bool) {ts rest : List Token} → Passes ts rest → Passes (gap_tokens g gaps ts) rest
unfolding words_from gap_tokens
gap-passes g false p = p
gap-passes g true p = there (key "GAP") refl (there (mark 61) refl (sign-token-passes g p))

format-passes : (t : DataType) (symbols : List ℕ) (gaps : Bool) (rest : List Token) → Passes (format_words t symbols gaps rest) rest
unfolding words_from format_words
format-passes DataType.Standard symbols gaps rest =
    let last : Passes (key "SYMBOLS" ∷ mark 61 ∷ string symbols ∷ mark 59 ∷ rest) rest = there (key "SYMBOLS") refl (there (mark 61) refl (there (string symbols) refl here)) in
    let signs : Passes (sign_token (missing_sign DataType.Standard symbols) ∷ gap_tokens (gap_sign DataType.Standard symbols) gaps (key "SYMBOLS" ∷ mark 61 ∷ string symbols ∷ mark 59 ∷ rest)) rest =
    sign-token-passes (missing_sign DataType.Standard symbols) (gap-passes (gap_sign DataType.Standard symbols) gaps last)
    in
    there (key "DATATYPE") refl (there (mark 61) refl (there (key "STANDARD") refl (there (key "RESPECTCASE") refl (there (key "MISSING") refl (there (mark 61) refl signs)))))
format-passes DataType.Dna symbols gaps rest =
    there (key "DATATYPE") refl (there (mark 61) refl (there (key "DNA") refl (there (key "MISSING") refl (there (mark 61) refl (there (key "?") refl (there (key "GAP") refl (there (mark 61) refl (there (key "-") refl here))))))))

pub format_read : {t : State} (b : ℕ) (d : Dimensions) (type : DataType) (symbols : List ℕ) (gaps : Bool) {rest : List Token}
    → sound_symbols type symbols gaps ≡ true → Reads (in_form b (declared (some d) (some (form_of type symbols gaps)) [] none)) rest t
    → Reads (in_form b (declared (some d) none [] none)) (key "FORMAT" ∷ format_words type symbols gaps rest) t
unfolding words_from step is_outside block_step ends inner_step data_step data_command given with_format in_phase
format_read b d type symbols gaps {rest} s r =
    command-read (key "FORMAT") refl refl (format-passes type symbols gaps rest)
    (λ i. (in_form b (declared (some d) (some (form_of type symbols gaps)) [] none), rw (format-words-read type symbols gaps rest s i (suc i)) refl, r))

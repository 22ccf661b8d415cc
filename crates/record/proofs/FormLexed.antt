-- The written form of a sound reading is UTF-8 and is lexed as expected: its commands, and the whole. Assumes nothing.
use Prim.Native.Nat.{ℕ, suc}
use Rattle.block.proofs.SoundParts.{symbols-sound, names-sound, labels-sound}
use Rattle.block.specs.Blocks.{has_ordered}
use Rattle.block.specs.Format.{valid_symbol, all_valid}
use Rattle.block.specs.Reading.{Character, Reading}
use Rattle.block.specs.declared.data.DataType.{DataType}
use Rattle.block.specs.declared.model.CharacterOrdering.{CharacterOrdering}
use Rattle.lexer.proofs.Basics.{and_left, and_right, and_both, by-test, chosen-alike}
use Rattle.lexer.specs.Base.{bytes, is_empty}
use Rattle.lexer.specs.Run.{run_tokens}
use Rattle.lexer.specs.Tokens.{Token, tokens}
use Rattle.lexer.specs.Utf8.{utf8}
use Rattle.lexer.specs.declared.Mode.{Mode}
use Rattle.record.proofs.CellsLexed.{rows-lexed}
use Rattle.record.proofs.DecimalLaws.{is_digit, all_digits, decimal-digits, decimal-some}
use Rattle.record.proofs.FormTokens.{word, key, mark, newline, string, sign_token, gap_tokens, format_tokens, label_tokens, each_tokens, states_tokens, entry_tokens, comma_tokens, entries_tokens, labels_tokens, types_tokens, assumptions_tokens, dimensions_tokens, form_tokens}
use Rattle.record.proofs.PlainBytes.{is_plain, plain_class, plain-symbol, digit-plain, valid-ascii, valid-plain}
use Rattle.record.proofs.QuotedLexed.{quoted-lexed}
use Rattle.record.proofs.QuotedUtf8.{ascii-utf8}
use Rattle.record.proofs.SignsValid.{Signs, signs-valid}
use Rattle.record.proofs.WordsLexed.{Lexes, Inside, Parts, stepped, text-lexed, all_plain, blank-parts, mark-parts, word-lexed}
use Rattle.record.specs.Decimal.{decimal}
use Rattle.record.specs.Form.{missing_sign, gap_sign, gap_option, form_format, any_label, labelled, form_label, form_each, form_states, form_entry, comma, form_entries, form_labels, form_types, form_assumptions, form_dimensions, form}
use Rattle.block.specs.Sound.{sound_name, sound_names, sound_label, sound_labels, gap_in, Sound}
use Rattle.record.specs.Spell.{order_word}
use borrow.Author.Tests.{eqb-true}
use lib.Dec.{eqb}
use lib.ListN.{length}
use mathlib.Core.Bool.{Bool, true, false, ◌&&◌}
use mathlib.Core.List.{List, [], ◌∷◌, ◌++◌}
use mathlib.Core.Path.{◌≡◌, refl, ◌∙◌}

-- The ends of a command and of a block
semicolon-parts : {r : List ℕ} {ts : List Token} → Lexes r ts → Parts (bytes ";\n" ++ r) (mark 59 ∷ newline ∷ ts)
unfolding run_tokens
semicolon-parts e = mark-parts 59 refl refl (text-lexed (bytes "\n") (newline ∷ []) (λ x. refl) (λ x. refl) e)

end-parts : {r : List ℕ} {ts : List Token}
    → Lexes r ts → Parts (bytes ";\nEND;\n" ++ r) (mark 59 ∷ newline ∷ key "END" ∷ mark 59 ∷ newline ∷ ts)
unfolding run_tokens
end-parts e = semicolon-parts (text-lexed (bytes "END;\n") (key "END" ∷ mark 59 ∷ newline ∷ []) (λ x. refl) (λ x. refl) e)

-- DIMENSIONS
digits-plain : (u : List ℕ) → all_digits u ≡ true → all_plain u ≡ true
unfolding all_digits is_digit all_plain
digits-plain [] h = refl
digits-plain (b ∷ u) h =
    and_both (digit-plain b (and_left (is_digit b) (all_digits u) h)) (digits-plain u (and_right (is_digit b) (all_digits u) h))

decimal-lexed : (n : ℕ) {r : List ℕ} {ts : List Token} → Parts r ts → Lexes (decimal n ++ r) (word (decimal n) ∷ ts)
decimal-lexed n e = word-lexed (decimal n) (digits-plain (decimal n) (decimal-digits n)) (decimal-some n) e

dimensions-lexed : (x : Reading) {r : List ℕ} {ts : List Token} → Lexes r ts → Lexes (form_dimensions x r) (dimensions_tokens x ts)
unfolding form_dimensions dimensions_tokens run_tokens
dimensions-lexed x e =
    let characters = decimal-lexed (length x.characters) (semicolon-parts e) in
    let count = text-lexed (bytes "NCHAR=") (key "NCHAR" ∷ mark 61 ∷ []) (λ x. refl) (λ x. refl) characters in
    let taxa = decimal-lexed (length x.taxa) (blank-parts count) in
    text-lexed (bytes "DIMENSIONS NTAX=") (key "DIMENSIONS" ∷ key "NTAX" ∷ mark 61 ∷ []) (λ x. refl) (λ x. refl) taxa

-- FORMAT
sign-lexed : (b : ℕ) {r : List ℕ} {ts : List Token} → valid_symbol b ≡ true → Parts r ts → Lexes (b ∷ r) (sign_token b ∷ ts)
unfolding sign_token all_plain run_tokens
sign-lexed b v e =
    by-test (eqb b 43)
    (λ t. rw (t, eqb-true b 43 t) (mark-parts 43 refl refl e.between).between)
    (λ f. rw f (word-lexed (b ∷ []) (and_both (valid-plain b v f) refl) refl e))

gap_parts : (g : ℕ) (gaps : Bool) {r : List ℕ} {ts : List Token}
    → (gaps ≡ true → valid_symbol g ≡ true) → Parts r ts → Parts (gap_option g gaps r) (gap_tokens g gaps ts)
unfolding gap_option gap_tokens run_tokens
gap_parts g false v e = e
gap_parts g true v e =
    blank-parts (text-lexed (bytes "GAP=") (key "GAP" ∷ mark 61 ∷ []) (λ x. refl) (λ x. refl) (sign-lexed g (v refl) e))

-- The symbols in their double quotes.
plain-string : (b : ℕ) {r rest : List ℕ} {ts : List Token}
    → is_plain b ≡ true → Inside Mode.String r rest ts → Inside Mode.String (b ∷ r) (b ∷ rest) ts
unfolding stepped
plain-string b {r} p e = record { ends = rw (plain-symbol b r p, e.ends); tokens = rw (plain-symbol b r p, e.tokens) }

sign-string : (b : ℕ) {r rest : List ℕ} {ts : List Token}
    → valid_symbol b ≡ true → Inside Mode.String r rest ts → Inside Mode.String (b ∷ r) (b ∷ rest) ts
unfolding run_tokens
sign-string b v e =
    by-test (eqb b 43)
    (λ t. rw (eqb-true b 43 t) (record { ends = rw e.ends; tokens = e.tokens }))
    (λ f. plain-string b (valid-plain b v f) e)

symbols-string : (l : List ℕ) {r : List ℕ} {ts : List Token} → all_valid l ≡ true → Lexes r ts → Inside Mode.String (l ++ (34 ∷ r)) l ts
unfolding all_valid run_tokens
symbols-string [] v e = record { ends = refl; tokens = e.tokens }
symbols-string (b ∷ l) v e =
    sign-string b (and_left (valid_symbol b) (all_valid l) v) (symbols-string l (and_right (valid_symbol b) (all_valid l) v) e)

symbols-utf8 : (l : List ℕ) → all_valid l ≡ true → (r : List ℕ) → utf8 (l ++ r) ≡ utf8 r
unfolding all_valid
symbols-utf8 [] v r = refl
symbols-utf8 (b ∷ l) v r =
    ascii-utf8 b (valid-ascii b (and_left (valid_symbol b) (all_valid l) v)) (l ++ r)
    ∙ symbols-utf8 l (and_right (valid_symbol b) (all_valid l) v) r

string-lexed : (l : List ℕ) {r : List ℕ} {ts : List Token} → all_valid l ≡ true → Lexes r ts → Lexes (34 ∷ l ++ (34 ∷ r)) (string l ∷ ts)
unfolding run_tokens
string-lexed l {r} v e =
    let s = symbols-string l v e in
    record { well_formed = symbols-utf8 l v (34 ∷ r) ∙ e.well_formed; tokens = rw (s.ends, s.tokens) }

format-lexed : (t : DataType) {symbols : List ℕ} {gaps : Bool} {r : List ℕ} {ts : List Token}
    → Signs t symbols gaps
    → Lexes r ts
    → Lexes (form_format t symbols gaps r) (format_tokens t symbols gaps ts)
unfolding form_format format_tokens run_tokens
format-lexed DataType.Standard {symbols} {gaps} v e =
    let standard = DataType.Standard in
    let end = (semicolon-parts e).between in
    let states = text-lexed (bytes "SYMBOLS=") (key "SYMBOLS" ∷ mark 61 ∷ []) (λ x. refl) (λ x. refl) (string-lexed symbols v.all end) in
    let gap = gap_parts (gap_sign standard symbols) gaps v.gap (blank-parts states) in
    let missing = sign-lexed (missing_sign standard symbols) v.missing gap in
    text-lexed (bytes "FORMAT DATATYPE=STANDARD RESPECTCASE MISSING=")
    (key "FORMAT" ∷ key "DATATYPE" ∷ mark 61 ∷ key "STANDARD" ∷ key "RESPECTCASE" ∷ key "MISSING" ∷ mark 61 ∷ [])
    (λ x. refl) (λ x. refl) missing
format-lexed DataType.Dna {symbols} {gaps} v e =
    text-lexed (bytes "FORMAT DATATYPE=DNA MISSING=? GAP=-;\n")
    (format_tokens DataType.Dna symbols gaps [])
    (λ x. refl) (λ x. refl) e

-- CHARSTATELABELS
label-parts : (l : List ℕ) {r : List ℕ} {ts : List Token} → sound_label l ≡ true → Parts r ts → Parts (form_label l r) (label_tokens l ts)
unfolding form_label label_tokens sound_label is_empty
label-parts [] h e = e
label-parts (b ∷ l) h e = blank-parts (quoted-lexed (b ∷ l) h e)

each-parts : (ss : List (List ℕ)) {r : List ℕ} {ts : List Token}
    → sound_names ss ≡ true → Parts r ts → Parts (form_each ss r) (each_tokens ss ts)
unfolding form_each each_tokens sound_names
each-parts [] h e = e
each-parts (s ∷ ss) h e =
    blank-parts (quoted-lexed s (and_left (sound_name s) (sound_names ss) h) (each-parts ss (and_right (sound_name s) (sound_names ss) h) e))

states-parts : (ss : List (List ℕ)) {r : List ℕ} {ts : List Token}
    → sound_names ss ≡ true → Parts r ts → Parts (form_states ss r) (states_tokens ss ts)
unfolding form_states states_tokens run_tokens
states-parts [] h e = e
states-parts (s ∷ ss) h e = blank-parts (mark-parts 47 refl refl (each-parts (s ∷ ss) h e).between).between

entry-parts : (k : ℕ) (c : Character) {r : List ℕ} {ts : List Token}
    → sound_label c.label ≡ true → sound_names c.states ≡ true → Parts r ts → Parts (form_entry k c r) (entry_tokens k c ts)
unfolding form_entry entry_tokens
entry-parts k c l s e = blank-parts (decimal-lexed k (label-parts c.label l (states-parts c.states s e)))

comma-parts : (first : Bool) {r : List ℕ} {ts : List Token} → Parts r ts → Parts (comma first r) (comma_tokens first ts)
unfolding comma comma_tokens run_tokens
comma-parts true e = e
comma-parts false e = mark-parts 44 refl refl e.between

entries-parts : (first : Bool) (k : ℕ) (cs : List Character) {r : List ℕ} {ts : List Token}
    → sound_labels cs ≡ true → Parts r ts → Parts (form_entries first k cs r) (entries_tokens first k cs ts)
unfolding form_entries entries_tokens sound_labels
entries-parts first k [] h e = e
entries-parts first k (c ∷ cs) {r} {ts} h e =
    let l = sound_label c.label in
    let s = sound_names c.states in
    let more = sound_labels cs in
    let this = and_left (l && s) more h in
    let entry =
    comma-parts first (entry-parts k c (and_left l s this) (and_right l s this) (entries-parts false (suc k) cs (and_right (l && s) more h) e))
    in
    chosen-alike Parts (any_label c) entry (entries-parts first (suc k) cs (and_right (l && s) more h) e)

labels-lexed : (cs : List Character) {r : List ℕ} {ts : List Token}
    → sound_labels cs ≡ true → Lexes r ts → Lexes (form_labels cs r) (labels_tokens cs ts)
unfolding form_labels labels_tokens all_plain is_plain plain_class run_tokens
labels-lexed cs h e =
    chosen-alike Lexes (labelled cs) (word-lexed (bytes "CHARSTATELABELS") refl refl (entries-parts true 1 cs h (semicolon-parts e))) e

-- ASSUMPTIONS
types-parts : (cs : List Character) {r : List ℕ} {ts : List Token} → Parts r ts → Parts (form_types cs r) (types_tokens cs ts)
unfolding form_types types_tokens order_word all_plain is_plain plain_class run_tokens
types-parts [] e = e
types-parts (c ∷ cs) {r} {ts} e = go c.ordering (types-parts cs e)
  where
    go : (o : CharacterOrdering)
        → Parts (form_types cs r) (types_tokens cs ts)
        → Parts (form_types (record { label = c.label; states = c.states; ordering = o } ∷ cs) r)
        (types_tokens (record { label = c.label; states = c.states; ordering = o } ∷ cs) ts)
    go CharacterOrdering.Ordered more = blank-parts (word-lexed (bytes "ORD") refl refl more)
    go CharacterOrdering.Unordered more = blank-parts (word-lexed (bytes "UNORD") refl refl more)

assumptions-lexed : (cs : List Character) → Lexes (form_assumptions cs []) (assumptions_tokens cs)
unfolding form_assumptions assumptions_tokens run_tokens
assumptions-lexed cs =
    let nothing : Lexes [] [] = record { well_formed = refl; tokens = refl } in
    let types = (types-parts cs (end-parts nothing)).between in
    let block =
    text-lexed (bytes "BEGIN ASSUMPTIONS;\nTYPESET * w (VECTOR) =")
    (key "BEGIN" ∷ key "ASSUMPTIONS" ∷ mark 59 ∷ newline ∷ key "TYPESET" ∷ mark 42 ∷ key "w" ∷ mark 40 ∷ key "VECTOR" ∷ mark 41 ∷ mark 61 ∷ [])
    (λ x. refl) (λ x. refl) types
    in
    chosen-alike Lexes (has_ordered cs) block nothing

-- The whole form
form-lexes : (r : Reading) → Sound r → Lexes (form r) (form_tokens r)
unfolding form form_tokens run_tokens
form-lexes r s =
    let signs = signs-valid r.data_type r.symbols (gap_in r.taxa) (symbols-sound r s) in
    let end = (end-parts (assumptions-lexed r.characters)).between in
    let rows = rows-lexed signs r.taxa s.cells_sound (names-sound r s) (λ y. y) end in
    let matrix = text-lexed (bytes "MATRIX\n") (key "MATRIX" ∷ newline ∷ []) (λ x. refl) (λ x. refl) rows in
    let format = format-lexed r.data_type signs (labels-lexed r.characters (labels-sound r s) matrix) in
    text-lexed (bytes "#NEXUS\nBEGIN DATA;\n")
    (key "#NEXUS" ∷ newline ∷ key "BEGIN" ∷ key "DATA" ∷ mark 59 ∷ newline ∷ [])
    (λ x. refl) (λ x. refl) (dimensions-lexed r format)

pub form-lexed : (r : Reading) → Sound r → tokens (form r) ≡ form_tokens r
unfolding form run_tokens
form-lexed r s = (form-lexes r s).tokens

pub form-utf8 : (r : Reading) → Sound r → utf8 (form r) ≡ true
form-utf8 r s = (form-lexes r s).well_formed

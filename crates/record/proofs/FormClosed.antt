-- The tokens of a written form leave no quote and no comment open: each piece adds only closed tokens. Assumes nothing.
use Prim.Native.Nat.{ℕ, suc}
use Rattle.block.specs.Blocks.{has_ordered}
use Rattle.block.specs.Cell.{Cell, state, uncertain, polymorphic, missing, gap}
use Rattle.block.specs.Reading.{Taxon, Character, Reading}
use Rattle.block.specs.declared.data.DataType.{DataType}
use Rattle.lexer.proofs.Basics.{by-test, chosen}
use Rattle.lexer.specs.Base.{pick}
use Rattle.lexer.specs.Tokens.{Token, left_open, open_kind}
use Rattle.lexer.specs.declared.Kind.{Kind}
use Rattle.lexer.specs.declared.refusal.Refusal.{Refusal}
use Rattle.record.proofs.FormTokens.{mark, sign_token, gap_tokens, format_tokens, label_tokens, each_tokens, states_tokens, entry_tokens, comma_tokens, entries_tokens, labels_tokens, joined, joined_kind, sign_joined, set_tokens, cell_tokens, cells_tokens, rows_tokens, types_tokens, assumptions_tokens, dimensions_tokens, form_tokens}
use Rattle.record.specs.Form.{any_label, labelled, sign, missing_sign, gap_sign}
use lib.Dec.{eqb}
use mathlib.Core.Bool.{Bool, true, false}
use mathlib.Core.List.{List, [], ◌∷◌}
use mathlib.Core.Option.{Option, none}
use mathlib.Core.Path.{◌≡◌, refl}

-- The first leaves open what the second does.
abbrev OpenLike : List Token → List Token → Type 0
OpenLike us ts = left_open us ≡ left_open ts

-- FORMAT
sign-open : (b : ℕ) (more : Option Refusal) → open_kind (sign_token b).kind more ≡ more
unfolding sign_token pick open_kind
sign-open b more = by-test (eqb b 43) (λ t. rw t) (λ f. rw f)

gap-open : (g : ℕ) (gaps : Bool) (ts : List Token) → OpenLike (gap_tokens g gaps ts) ts
unfolding gap_tokens left_open open_kind
gap-open g false ts = refl
gap-open g true ts = rw sign-open

format-open : (t : DataType) (symbols : List ℕ) (gaps : Bool) (ts : List Token) → OpenLike (format_tokens t symbols gaps ts) ts
unfolding format_tokens left_open open_kind
format-open DataType.Standard symbols gaps ts = rw (sign-open, gap-open)
format-open DataType.Dna symbols gaps ts = refl

-- CHARSTATELABELS
label-open : (l : List ℕ) (ts : List Token) → OpenLike (label_tokens l ts) ts
unfolding label_tokens left_open open_kind
label-open [] ts = refl
label-open (b ∷ l) ts = refl

each-open : (ss : List (List ℕ)) (ts : List Token) → OpenLike (each_tokens ss ts) ts
unfolding each_tokens left_open open_kind
each-open [] ts = refl
each-open (s ∷ ss) ts = each-open ss ts

states-open : (ss : List (List ℕ)) (ts : List Token) → OpenLike (states_tokens ss ts) ts
unfolding states_tokens left_open open_kind
states-open [] ts = refl
states-open (s ∷ ss) ts = each-open (s ∷ ss) ts

entry-open : (k : ℕ) (c : Character) (ts : List Token) → OpenLike (entry_tokens k c ts) ts
unfolding entry_tokens left_open open_kind
entry-open k c ts = rw (label-open, states-open)

comma-open : (first : Bool) (ts : List Token) → OpenLike (comma_tokens first ts) ts
unfolding comma_tokens left_open open_kind
comma-open true ts = refl
comma-open false ts = refl

entries-open : (first : Bool) (k : ℕ) (cs : List Character) (ts : List Token) → OpenLike (entries_tokens first k cs ts) ts
unfolding entries_tokens
entries-open first k [] ts = refl
entries-open first k (c ∷ cs) ts =
    let entry : OpenLike (comma_tokens first (entry_tokens k c (entries_tokens false (suc k) cs ts))) ts =
    rw (comma-open, entry-open, entries-open false (suc k) cs ts)
    in
    chosen (λ (us : List Token). OpenLike us ts) (any_label c) (λ _. entry) (λ _. entries-open first (suc k) cs ts)

labels-open : (cs : List Character) (ts : List Token) → OpenLike (labels_tokens cs ts) ts
unfolding labels_tokens left_open open_kind
labels-open cs ts = chosen (λ (us : List Token). OpenLike us ts) (labelled cs) (λ _. rw entries-open) (λ _. refl)

-- Cells
joined-open : (b : ℕ) (ts : List Token) → OpenLike (joined b ts) ts
unfolding joined joined_kind left_open open_kind
joined-open b [] = refl
joined-open b (t ∷ ts) = go t.kind
  where
    go : (k : Kind) → left_open (joined_kind b k t.text ts) ≡ open_kind k (left_open ts)
    go Kind.Word = refl
    go Kind.Quoted = refl
    go Kind.String = refl
    go (Kind.Punctuation c) = refl
    go Kind.Newline = refl
    go Kind.OpenQuote = refl
    go Kind.OpenComment = refl

sign-joined-open : (b : ℕ) (ts : List Token) → OpenLike (sign_joined b ts) ts
unfolding sign_joined left_open open_kind
sign-joined-open b ts = chosen (λ (us : List Token). OpenLike us ts) (eqb b 43) (λ _. refl) (λ _. joined-open b ts)

set-open : (symbols s : List ℕ) (ts : List Token) → OpenLike (set_tokens symbols s ts) ts
unfolding set_tokens
set-open symbols [] ts = refl
set-open symbols (i ∷ s) ts = rw (sign-joined-open, set-open symbols s ts)

cell-open : (t : DataType) (symbols : List ℕ) (c : Cell) (ts : List Token) → OpenLike (cell_tokens t symbols c ts) ts
unfolding cell_tokens left_open open_kind
cell-open t symbols (state i) ts = sign-joined-open (sign symbols i) ts
cell-open t symbols (uncertain s) ts = set-open symbols s (mark 125 ∷ ts)
cell-open t symbols (polymorphic s) ts = set-open symbols s (mark 41 ∷ ts)
cell-open t symbols missing ts = sign-joined-open (missing_sign t symbols) ts
cell-open t symbols gap ts = sign-joined-open (gap_sign t symbols) ts

cells_open : (t : DataType) (symbols : List ℕ) (cs : List Cell) (ts : List Token) → OpenLike (cells_tokens t symbols cs ts) ts
unfolding cells_tokens
cells_open t symbols [] ts = refl
cells_open t symbols (c ∷ cs) ts = rw (cell-open, cells_open t symbols cs ts)

rows-open : (t : DataType) (symbols : List ℕ) (xs : List Taxon) (ts : List Token) → OpenLike (rows_tokens t symbols xs ts) ts
unfolding rows_tokens left_open open_kind
rows-open t symbols [] ts = refl
rows-open t symbols (x ∷ xs) ts = rw (cells_open, rows-open t symbols xs ts)

-- ASSUMPTIONS
types-open : (cs : List Character) (ts : List Token) → OpenLike (types_tokens cs ts) ts
unfolding types_tokens left_open open_kind
types-open [] ts = refl
types-open (c ∷ cs) ts = types-open cs ts

assumptions-closed : (cs : List Character) → left_open (assumptions_tokens cs) ≡ none
unfolding assumptions_tokens left_open open_kind
assumptions-closed cs = chosen (λ (us : List Token). left_open us ≡ none) (has_ordered cs) (λ _. rw types-open) (λ _. refl)

pub form-closed : (r : Reading) → left_open (form_tokens r) ≡ none
unfolding form_tokens dimensions_tokens left_open open_kind
form-closed r = rw (format-open, labels-open, rows-open, assumptions-closed)

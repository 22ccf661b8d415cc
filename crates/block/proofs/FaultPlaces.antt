-- Every fault of a text stands at its place: 0,0, an opening mark, or a token. Assumes nothing.
use Prim.Native.Nat.{ℕ, suc, ◌≤◌, ◌<◌}
use Rattle.block.proofs.Faulted.{Ends, gives, refuses}
use Rattle.block.proofs.OpenMarks.{quote-mark, comment-mark}
use Rattle.block.proofs.OutcomeLaws.{All, Any, all-member}
use Rattle.block.proofs.TokenFaults.{Met, met, at_none, parse-faults}
use Rattle.block.proofs.ToldFaults.{Told}
use Rattle.block.specs.Faults.{TokenOf, MayStandAt, not_nexus, empty_command, unended_command, unended_block, words_after_end, not_begin, wrong_block, wrong_command, no_taxa_count, not_ready, not_filled, no_matrix, taxa_dimension, dimension, taxa_count, names_count, matrix_count, row_count, label_count, type_count, not_name, name_twice, row_twice, no_count, no_value, format_option, wrong_symbols, cell_symbol, open_set, not_states, wrong_row, no_row, no_entry, label_entry, type_form, type_word, default_type, character_list, ordered_dna, Stops, Whole, Begins, FaultAt, not_utf8, open_quote, open_comment, no_token, at_token, SaidFirst}
use Rattle.block.specs.Outcome.{Outcome}
use Rattle.block.specs.Parse.{fault, placed, place_of, parse, read_tokens, read}
use Rattle.block.specs.Reading.{Reading}
use Rattle.lexer.proofs.Basics.{by-test}
use Rattle.lexer.proofs.StoredLaws.{stored-count, stored-token, stored-below}
use Rattle.lexer.specs.Base.{pick}
use Rattle.lexer.specs.Places.{place, place_from, starts, opened, nowhere}
use Rattle.lexer.specs.Refusals.{number}
use Rattle.lexer.specs.Stored.{Stored}
use Rattle.lexer.specs.Tokens.{Token, tokens, left_open, open_kind}
use Rattle.lexer.specs.Utf8.{utf8}
use Rattle.lexer.specs.Words.{Numbered, numbered}
use Rattle.lexer.specs.declared.Kind.{Kind}
use Rattle.lexer.specs.declared.Place.{Place}
use Rattle.lexer.specs.declared.refusal.Refusal.{Refusal}
use lib.ListN.{length, drop, get_or, length-drop, get_or-eq_default}
use lib.Seq.{drop-drop, take-length}
use mathlib.Core.Bool.{true, false}
use mathlib.Core.List.{List, [], ◌∷◌, head-eq_of_cons-eq}
use mathlib.Core.Option.{Option, none, some}
use mathlib.Core.Path.{◌≡◌, refl, sym, ap, ◌∙◌}
use native.Mathlib.Numerals.{add-one}
use native.Mathlib.Omega.{arith}

-- A token's refusal has a number from 6 to 29.
stands-number : (text : List ℕ) (n : Refusal) (w : Numbered) → MayStandAt text n w → (6 ≤ number n) × (number n ≤ 29)
stands-number text n w (not_nexus a b) = (omega arith, omega arith)
stands-number text n w (empty_command a b) = (omega arith, omega arith)
stands-number text n w (unended_command a b c) = (omega arith, omega arith)
stands-number text n w (unended_block a b c) = (omega arith, omega arith)
stands-number text n w (words_after_end a b c) = (omega arith, omega arith)
stands-number text n w (not_begin a b c) = (omega arith, omega arith)
stands-number text n w (wrong_block a b) = (omega arith, omega arith)
stands-number text n w (wrong_command a b) = (omega arith, omega arith)
stands-number text n w (no_taxa_count a b c d) = (omega arith, omega arith)
stands-number text n w (not_ready a b c) = (omega arith, omega arith)
stands-number text n w (not_filled a b) = (omega arith, omega arith)
stands-number text n w (no_matrix a b c d) = (omega arith, omega arith)
stands-number text n w (taxa_dimension a b c d) = (omega arith, omega arith)
stands-number text n w (dimension a) = (omega arith, omega arith)
stands-number text n w (taxa_count a b c) = (omega arith, omega arith)
stands-number text n w (names_count a b c d e) = (omega arith, omega arith)
stands-number text n w (matrix_count a b c) = (omega arith, omega arith)
stands-number text n w (row_count a b c) = (omega arith, omega arith)
stands-number text n w (label_count a b c d) = (omega arith, omega arith)
stands-number text n w (type_count a b c) = (omega arith, omega arith)
stands-number text n w (not_name a b) = (omega arith, omega arith)
stands-number text n w (name_twice a b c d e f) = (omega arith, omega arith)
stands-number text n w (row_twice a b c d) = (omega arith, omega arith)
stands-number text n w (no_count a b) = (omega arith, omega arith)
stands-number text n w (no_value a b) = (omega arith, omega arith)
stands-number text n w (format_option a) = (omega arith, omega arith)
stands-number text n w (wrong_symbols a b c) = (omega arith, omega arith)
stands-number text n w (cell_symbol a b) = (omega arith, omega arith)
stands-number text n w (open_set a b) = (omega arith, omega arith)
stands-number text n w (not_states a b c) = (omega arith, omega arith)
stands-number text n w (wrong_row a) = (omega arith, omega arith)
stands-number text n w (no_row a b c d e f) = (omega arith, omega arith)
stands-number text n w (no_entry a) = (omega arith, omega arith)
stands-number text n w (label_entry a) = (omega arith, omega arith)
stands-number text n w (type_form a) = (omega arith, omega arith)
stands-number text n w (type_word a) = (omega arith, omega arith)
stands-number text n w (default_type a) = (omega arith, omega arith)
stands-number text n w (character_list a) = (omega arith, omega arith)
stands-number text n w (ordered_dna a b c d e) = (omega arith, omega arith)

-- A token with an index is the one that stands behind so many others.
record Indexed (all : List Token) (w : Numbered) : Type 0 where
  below : w.index < length all
  later : List Token
  at : drop w.index all ≡ w.token ∷ later

numbered-indexed : (all ts : List Token) (i : ℕ) → drop i all ≡ ts → All (Indexed all) (numbered i ts)
unfolding numbered
numbered-indexed all [] i e = tt
numbered-indexed all (t ∷ ts) i e = (
  record { below = let l = ap length e in omega (arith, length-drop i all); later = ts; at = e },
  numbered-indexed all ts (suc i) (rw (← add-one i, ← drop-drop 1 i all, e)),
)

-- Where a token begins.
begins : (text : List ℕ) (w : Numbered) → Whole text → TokenOf text w → Begins text w (get_or (starts text) w.index 0)
begins text w whole token =
    let x = all-member (Indexed (tokens text)) (numbered 0 (tokens text)) w (numbered-indexed (tokens text) (tokens text) 0 refl) token in
    let n = length (starts text) in
    let stored : Stored text (starts text) n = record { count = refl; held = take-length (starts text) } in
    let count = stored-count text whole.closed in
    let below : w.index < n = omega (arith, x.below) in
    record {
      token = token;
      counted = x.below;
      start = refl;
      inside = stored-below text (starts text) n w.index stored below;
      same = head-eq_of_cons-eq (sym (stored-token text (starts text) n w.index whole.closed stored below) ∙ x.at);
    }

-- A token that the text does not have is refused at its first byte.
no-token-first : (text : List ℕ) → Whole text → place text (get_or (starts text) (length (tokens text)) 0) ≡ record { line = 1; column = 1 }
unfolding place place_from
no-token-first text whole =
    let all : length (starts text) ≤ length (tokens text) = omega (arith, stored-count text whole.closed) in
    rw (get_or-eq_default (starts text) 0 all)

told-fault : (text : List ℕ) (n : Refusal) (i : ℕ) → Whole text → Told text n i → Stops text n i → FaultAt text n (place_of text i)
unfolding place_of
told-fault text n i whole (Told.at_token w token stands) stops =
    let k = stands-number text n w stands in
    at_token w whole k.0 k.1 stops stands (begins text w whole token)

met-fault : (text : List ℕ) (n : Refusal) (i : ℕ) → Whole text → Met text n i → FaultAt text n (place_of text i)
unfolding place_of
met-fault text n i whole (met t stops) = told-fault text n i whole t stops
met-fault text n i whole (at_none e) = rw (no-token-first text whole) (no_token whole e)

placed-fault : (text : List ℕ) (o : Outcome Reading) (n : Refusal) (p : Place) → Whole text → Ends (Met text) Any o → placed text o ≡ fault n p → FaultAt text n p
unfolding placed
placed-fault text o n p whole (gives g) e = absurd (let z : ◌≡◌ {A = ℕ} 0 1 = cc in omega arith)
placed-fault text o n p whole (refuses {n = m} {i = i} t) e =
    let same : m ≡ n = cc in
    let here : place_of text i ≡ p = cc in
    rw (← same, ← here) (met-fault text m i whole t)

-- What a text leaves open is a quote or a comment.
module _ (P : Refusal → Type 0) (quote : P Refusal.OpenQuote) (comment : P Refusal.OpenComment) where
  open-kinds : (k : Kind) (more : Option Refusal) (n : Refusal) → (more ≡ some n → P n) → open_kind k more ≡ some n → P n
  unfolding open_kind
  open-kinds Kind.Word more n f e = f e
  open-kinds Kind.Quoted more n f e = f e
  open-kinds Kind.String more n f e = f e
  open-kinds (Kind.Punctuation b) more n f e = f e
  open-kinds Kind.Newline more n f e = f e
  open-kinds Kind.OpenQuote more n f e = let k : Refusal.OpenQuote ≡ n = cc in rw (← k) quote
  open-kinds Kind.OpenComment more n f e = let k : Refusal.OpenComment ≡ n = cc in rw (← k) comment

  open-refusals : (ts : List Token) (n : Refusal) → left_open ts ≡ some n → P n
  unfolding left_open
  open-refusals [] n e = absurd (let z : ◌≡◌ {A = ℕ} 0 1 = cc in omega arith)
  open-refusals (t ∷ ts) n e = open-kinds t.kind (left_open ts) n (λ k. open-refusals ts n k) e

-- What a text that is not UTF-8, or leaves something open, is refused for.
module _ (text : List ℕ) where
  not-utf8 : utf8 text ≡ false → read text ≡ fault Refusal.NotUtf8 (record { line = 0; column = 0 })
  unfolding read pick nowhere
  not-utf8 e = rw e

  left-open : (n : Refusal) → utf8 text ≡ true → left_open (tokens text) ≡ some n → read text ≡ fault n (place text (opened text))
  unfolding read pick read_tokens
  left-open n u e = rw (u, e)

  whole-placed : Whole text → read text ≡ placed text (parse (tokens text))
  unfolding read pick read_tokens
  whole-placed w = rw (w.utf, w.closed)

  open-fault : (n : Refusal) → utf8 text ≡ true → left_open (tokens text) ≡ some n → FaultAt text n (place text (opened text))
  open-fault n u e =
      open-refusals (λ m. left_open (tokens text) ≡ some m → FaultAt text m (place text (opened text))) (λ q. open_quote u q (quote-mark text q)) (λ q. open_comment u q (comment-mark text q)) (tokens text) n e e

  -- Two ways to say what the text is refused for.
  said : (m n : Refusal) (p q : Place) → read text ≡ fault m p → FaultAt text m p → read text ≡ fault n q → FaultAt text n q
  said m n p q a f b =
      let same : m ≡ n = cc in
      let here : p ≡ q = cc in
      rw (← same, ← here) f

  pub fault-at : (n : Refusal) (p : Place) → read text ≡ fault n p → FaultAt text n p
  fault-at n p e = by-test (utf8 text) (λ u. lexed u (left_open (tokens text)) refl) (λ u. said Refusal.NotUtf8 n _ p (not-utf8 u) (not_utf8 u) e)
    where
      lexed : utf8 text ≡ true → (o : Option Refusal) → left_open (tokens text) ≡ o → FaultAt text n p
      lexed u none c = let w : Whole text = record { utf = u; closed = c } in placed-fault text (parse (tokens text)) n p w (parse-faults text) (sym (whole-placed w) ∙ e)
      lexed u (some m) c = said m n _ p (left-open m u c) (open-fault m u c) e

  utf8-said : (p : Place) → FaultAt text Refusal.NotUtf8 p → utf8 text ≡ false
  utf8-said p (not_utf8 e) = e
  utf8-said p (at_token w whole low high stops stands b) = absurd (omega arith)

  quote-said : (p : Place) → FaultAt text Refusal.OpenQuote p → (utf8 text ≡ true) × (left_open (tokens text) ≡ some Refusal.OpenQuote)
  quote-said p (open_quote u e m) = (u, e)
  quote-said p (at_token w whole low high stops stands b) = absurd (omega arith)

  comment-said : (p : Place) → FaultAt text Refusal.OpenComment p → (utf8 text ≡ true) × (left_open (tokens text) ≡ some Refusal.OpenComment)
  comment-said p (open_comment u e m) = (u, e)
  comment-said p (at_token w whole low high stops stands b) = absurd (omega arith)

  pub said-first : SaidFirst text
  said-first =
      record {
        not_utf8 = (λ h. utf8-said h.0 (fault-at Refusal.NotUtf8 h.0 h.1), λ e. (record { line = 0; column = 0 }, not-utf8 e));
        open_quote = (λ h. quote-said h.0 (fault-at Refusal.OpenQuote h.0 h.1), λ e. (place text (opened text), left-open Refusal.OpenQuote e.0 e.1));
        open_comment = (λ h. comment-said h.0 (fault-at Refusal.OpenComment h.0 h.1), λ e. (place text (opened text), left-open Refusal.OpenComment e.0 e.1));
      }

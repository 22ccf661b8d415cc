-- One step between two tokens: what `token_step` says of the rest of a text is what the modes make of it. Assumes nothing.
use Rattle.std.specs.Prelude.{Ok, Err, Result}
use Prim.Native.Nat.{ℕ, suc, ◌≤◌, ◌<◌}
use Rattle.lexer.proofs.ScanLaws.{Passed, Unclosed, Ends, here, comment-ends, string-ends, quote-ends, word-ends}
use Rattle.lexer.proofs.SymbolLaws.{each-symbol}
use Rattle.lexer.specs.Base.{pick}
use Rattle.lexer.specs.Classes.{symbol, rank, is_newline, is_return, is_blank, is_single, is_double, is_open, is_other, is_part}
use Rattle.lexer.specs.Lexing.{token_at, first_token}
use Rattle.lexer.specs.Places.{starts_from, opened_from, opens, opens_between}
use Rattle.lexer.specs.Scanning.{comment_end, quote_end, string_end, word_end, skipped, taken, step_of, token_step}
use Rattle.lexer.specs.Tokens.{Token, token, kind_of, next, after_between, begins, begins_between, tokens_from, left_open, open_kind}
use Rattle.lexer.specs.declared.Fault.{Fault}
use Rattle.lexer.specs.declared.Mode.{Mode}
use Rattle.lexer.specs.declared.Step.{Step}
use Rattle.lexer.specs.declared.Symbol.{Symbol}
use Rattle.lexer.specs.declared.refusal.Refusal.{Refusal}
use lib.ListN.{length, drop, get_or, length-drop}
use lib.Seq.{drop-cons, drop-drop}
use mathlib.Core.Bool.{Bool, true, false}
use mathlib.Core.List.{List, ◌∷◌}
use mathlib.Core.Option.{Option, some}
use mathlib.Core.Path.{◌≡◌, refl, ap, ◌∙◌, subst}
use native.Mathlib.Omega.{arith}

-- The bytes from `i` to `j` are passed over: no token begins in them.
pub record Skipped (text : List ℕ) (i j : ℕ) : Type 0 where
  pub ahead : i < j
  pub within : j ≤ length text
  pub tokens : tokens_from Mode.Between (drop i text) ≡ tokens_from Mode.Between (drop j text)
  pub starts : starts_from Mode.Between i (drop i text) ≡ starts_from Mode.Between j (drop j text)
  pub opened : (since : ℕ) → (later : ℕ) × (opened_from Mode.Between since i (drop i text) ≡ opened_from Mode.Between later j (drop j text))

-- The bytes from `i` to `j` are one token.
pub record Taken (text : List ℕ) (i j : ℕ) : Type 0 where
  pub ahead : i < j
  pub within : j ≤ length text
  pub tokens : tokens_from Mode.Between (drop i text) ≡ token_at text i ∷ tokens_from Mode.Between (drop j text)
  pub starts : starts_from Mode.Between i (drop i text) ≡ i ∷ starts_from Mode.Between j (drop j text)
  pub opened : (since : ℕ) → (later : ℕ) × (opened_from Mode.Between since i (drop i text) ≡ opened_from Mode.Between later j (drop j text))

-- What begins at `i` leaves a quote or a comment open, whose opening mark is this byte.
pub record Unended (text : List ℕ) (i : ℕ) (n : Refusal) (mark : ℕ) : Type 0 where
  pub what : left_open (tokens_from Mode.Between (drop i text)) ≡ some n
  pub opened : (since : ℕ) → opened_from Mode.Between since i (drop i text) ≡ mark
  pub within : mark < length text

-- What a step says of the rest behind the byte with this symbol, at which it begins.
abbrev Behind : Symbol → ℕ → List ℕ → Result Step (Fault ℕ) → Type 0
Behind s i r (Ok (Step.Skip j)) = (begins_between s ≡ false) × Passed (after_between s) (suc i) j r
Behind s i r (Ok (Step.Token j)) = (begins_between s ≡ true) × Passed (after_between s) (suc i) j r
Behind s i r (Err f) = (since : ℕ) → Unclosed f.0 (after_between s) (pick (opens_between s) i since) (suc i) r f.1

module _ (s : Symbol) (i : ℕ) (r : List ℕ) where
  skipped-behind : (e : Result ℕ (Fault ℕ)) → begins_between s ≡ false
      → ((since : ℕ) → Ends (after_between s) (pick (opens_between s) i since) (suc i) r e) → Behind s i r (skipped e)
  unfolding skipped
  skipped-behind (Ok j) h p = (h, p 0)
  skipped-behind (Err f) h p = p

  taken-behind : (e : Result ℕ (Fault ℕ)) → begins_between s ≡ true
      → ((since : ℕ) → Ends (after_between s) (pick (opens_between s) i since) (suc i) r e) → Behind s i r (taken e)
  unfolding taken
  taken-behind (Ok j) h p = (h, p 0)
  taken-behind (Err f) h p = p

step-behind : (s : Symbol) (i : ℕ) (r : List ℕ) → Behind s i r (step_of s i r)
unfolding step_of after_between begins_between opens_between rank is_return is_blank is_single is_double is_open is_other is_part pick
step-behind Symbol.Newline i r = (refl, here (suc i) r)
step-behind Symbol.Return i r = (refl, here (suc i) r)
step-behind Symbol.Blank i r = (refl, here (suc i) r)
step-behind Symbol.Single i r = taken-behind Symbol.Single i r (quote_end i false (suc i) r) refl (λ _. quote-ends r i false (suc i) (omega arith))
step-behind Symbol.Double i r = taken-behind Symbol.Double i r (string_end i (suc i) r) refl (λ _. string-ends r i (suc i) (omega arith))
step-behind Symbol.Open i r = skipped-behind Symbol.Open i r (comment_end i 0 (suc i) r) refl (λ _. comment-ends r i 0 (suc i) (omega arith))
step-behind Symbol.Close i r = (refl, here (suc i) r)
step-behind Symbol.Punctuation i r = (refl, here (suc i) r)
step-behind Symbol.Other i r = taken-behind Symbol.Other i r (word_end 0 0 (suc i) r) refl (λ since. (word-ends r).word 0 since (suc i))
step-behind Symbol.Part i r = (refl, here (suc i) r)

-- A token that begins is none that is left open.
never-open : (s : Symbol) (b : ℕ) (more : Option Refusal) → open_kind (kind_of s b) more ≡ more
unfolding open_kind kind_of rank is_newline is_single is_double is_other pick
never-open s b more = each-symbol (λ s. open_kind (kind_of s b) more ≡ more) refl refl refl refl refl refl refl refl refl refl s

pub open-past : (t : Bool) (b : ℕ) (r : List ℕ) (more : List Token) → left_open (pick t (token b r ∷ more) more) ≡ left_open more
unfolding pick left_open token
open-past true b r more = never-open (symbol b r) b (left_open more)
open-past false b r more = refl

module _ (text : List ℕ) (i : ℕ) (lt : i < length text) where
  first : drop i text ≡ get_or text i 0 ∷ drop (suc i) text
  first = drop-cons text i 0 lt

  at : Symbol
  at = symbol (get_or text i 0) (drop (suc i) text)

  told : (e : Result Step (Fault ℕ)) → token_step i (drop i text) ≡ e → Behind at i (drop (suc i) text) e
  unfolding token_step at
  told e h = subst (λ e. Behind (symbol (get_or text i 0) (drop (suc i) text)) i (drop (suc i) text) e) (rw first at h) (step-behind _ i (drop (suc i) text))

  lands : {m : Mode} {j : ℕ} (p : Passed m (suc i) j (drop (suc i) text)) → drop p.count (drop (suc i) text) ≡ drop j text
  lands p = drop-drop p.count (suc i) text ∙ ap (λ n. drop n text) p.place

  opened-behind : (j : ℕ) → Passed (after_between at) (suc i) j (drop (suc i) text) → (since : ℕ)
      → (later : ℕ) × (opened_from Mode.Between since i (drop i text) ≡ opened_from Mode.Between later j (drop j text))
  unfolding opened_from next opens at
  opened-behind j p since =
      let o = p.opened (pick (opens_between at) i since) in
      (o.0, rw (first, ← lands p) o.1)

  skip : (j : ℕ) → Behind at i (drop (suc i) text) (Ok (Step.Skip j)) → Skipped text i j
  unfolding tokens_from starts_from next begins pick at
  skip j (quiet, p) =
      record {
        ahead = omega arith;
        within = omega (arith, length-drop (suc i) text);
        tokens = rw (first, quiet, ← lands p) p.tokens;
        starts = rw (first, quiet, ← lands p) p.starts;
        opened = opened-behind j p;
      }

  take : (j : ℕ) → Behind at i (drop (suc i) text) (Ok (Step.Token j)) → Taken text i j
  unfolding tokens_from starts_from next begins pick at token_at first_token
  take j (begun, p) =
      record {
        ahead = omega arith;
        within = omega (arith, length-drop (suc i) text);
        tokens = rw (first, begun, ← lands p) (ap (λ more. token (get_or text i 0) (drop (suc i) text) ∷ more) p.tokens);
        starts = rw (first, begun, ← lands p) (ap (λ more. i ∷ more) p.starts);
        opened = opened-behind j p;
      }

  unended : (n : Refusal) (mark : ℕ) → ((since : ℕ) → Unclosed n (after_between at) (pick (opens_between at) i since) (suc i) (drop (suc i) text) mark) → Unended text i n mark
  unfolding tokens_from opened_from next begins opens at
  unended n mark u =
      record {
        what = rw first (open-past (begins_between at) (get_or text i 0) (drop (suc i) text) (tokens_from (after_between at) (drop (suc i) text)) ∙ (u 0).what);
        opened = λ since. rw first (u since).opened;
        within = let w = (u 0).within in omega (arith, length-drop (suc i) text);
      }

-- What each step says of the text.
pub step_skip : (text : List ℕ) (i j : ℕ) → i < length text → token_step i (drop i text) ≡ Ok (Step.Skip j) → Skipped text i j
step_skip text i j lt e = skip text i lt j (told text i lt (Ok (Step.Skip j)) e)

pub step-token : (text : List ℕ) (i j : ℕ) → i < length text → token_step i (drop i text) ≡ Ok (Step.Token j) → Taken text i j
step-token text i j lt e = take text i lt j (told text i lt (Ok (Step.Token j)) e)

pub step-open : (text : List ℕ) (i : ℕ) (f : Fault ℕ) → i < length text → token_step i (drop i text) ≡ Err f → Unended text i f.0 f.1
step-open text i f lt e = unended text i lt f.0 f.1 (told text i lt (Err f) e)

-- Work memory that holds where a text's tokens begin gives the tokens: each is the token that begins at its start. Assumes nothing.
use Prim.Native.Nat.{ℕ, zero, suc, ◌+◌, ◌≤◌, ◌<◌}
use Rattle.lexer.proofs.Basics.{by-test}
use Rattle.lexer.proofs.ListLaws.{drop-map, drop-tail}
use Rattle.lexer.proofs.MarkLaws.{drop-first, unmarked-length}
use Rattle.lexer.proofs.StepLaws.{open-past}
use Rattle.lexer.specs.Base.{pick}
use Rattle.lexer.specs.Classes.{symbol}
use Rattle.lexer.specs.Lexing.{token_at, first_token}
use Rattle.lexer.specs.Places.{starts_from, starts, first_byte}
use Rattle.lexer.specs.Stored.{Stored}
use Rattle.lexer.specs.Tokens.{next, begins, unclosed, tokens_from, tokens, unmarked, left_open, open_kind}
use Rattle.lexer.specs.declared.Mode.{Mode}
use lib.ListN.{length, drop, get_or, length-map, length-take}
use lib.Seq.{get_or-take}
use mathlib.Core.Bool.{Bool, true, false}
use mathlib.Core.List.{List, [], ◌∷◌, map}
use mathlib.Core.Option.{none}
use mathlib.Core.Path.{◌≡◌, refl, sym, ap, ◌∙◌}
use native.Mathlib.Omega.{arith}

-- A mode at the end of a text leaves nothing open, or says so.
unclosed-none : (m : Mode) → left_open (unclosed m) ≡ none → unclosed m ≡ []
unfolding unclosed left_open open_kind
unclosed-none Mode.Between h = refl
unclosed-none Mode.Word h = refl
unclosed-none Mode.Quoted h = cc
unclosed-none Mode.Closing h = refl
unclosed-none Mode.String h = cc
unclosed-none (Mode.Comment d) h = cc
unclosed-none (Mode.WordComment d) h = cc

-- The tokens of a rest that leaves nothing open are those that begin at its starts.
module _ (text : List ℕ) where
  tokens-at-starts : (r : List ℕ) (m : Mode) (p : ℕ) → drop p text ≡ r → left_open (tokens_from m r) ≡ none → tokens_from m r ≡ map (token_at text) (starts_from m p r)
  unfolding tokens_from starts_from pick token_at first_token
  tokens-at-starts [] m p e h = unclosed-none m h
  tokens-at-starts (b ∷ r) m p e h =
      let more = tokens_from (next m (symbol b r)) r in
      let k = tokens-at-starts r (next m (symbol b r)) (suc p) (sym (drop-tail text p b r (sym e))) (sym (open-past (begins m (symbol b r)) b r more) ∙ h) in
      by-test (begins m (symbol b r)) (λ t. rw (t, e, k)) (λ f. rw (f, k))

  tokens-stored : left_open (tokens text) ≡ none → tokens text ≡ map (token_at text) (starts text)
  unfolding tokens starts
  tokens-stored h = tokens-at-starts (unmarked text) Mode.Between (first_byte text) (drop-first text) h

-- A start is below where the text ends.
picked-within : (t : Bool) (p : ℕ) (l : List ℕ) (bound : ℕ) → p < bound → ((k : ℕ) → k < length l → get_or l k 0 < bound) → (k : ℕ)
    → k < length (pick t (p ∷ l) l) → get_or (pick t (p ∷ l) l) k 0 < bound
unfolding pick
picked-within true p l bound this more zero lt = this
picked-within true p l bound this more (suc k) lt = more k (omega arith)
picked-within false p l bound this more k lt = more k lt

starts-within : (r : List ℕ) (m : Mode) (p i : ℕ) → i < length (starts_from m p r) → get_or (starts_from m p r) i 0 < p + length r
unfolding starts_from
starts-within [] m p i lt = absurd (omega arith)
starts-within (b ∷ r) m p i lt = picked-within (begins m (symbol b r)) p _ (p + suc (length r)) (omega arith) (λ k l. let w = starts-within r (next m (symbol b r)) (suc p) k l in omega arith) i lt

start-below : (text : List ℕ) (i : ℕ) → i < length (starts text) → get_or (starts text) i 0 < length text
unfolding starts
start-below text i lt =
    let w = starts-within (unmarked text) Mode.Between (first_byte text) i lt in
    omega (arith, unmarked-length text)

pub stored-count : (text : List ℕ) → left_open (tokens text) ≡ none → length (tokens text) ≡ length (starts text)
stored-count text h = ap length (tokens-stored text h) ∙ length-map (starts text) (token_at text)

pub stored-room : (text work : List ℕ) (n : ℕ) → Stored text work n → n ≤ length work
stored-room text work n k = omega (arith, k.count, ap length k.held, length-take n work)

-- What is stored at an index.
module _ (text work : List ℕ) (n i : ℕ) where
  stored-start : Stored text work n → i < n → get_or work i 0 ≡ get_or (starts text) i 0
  stored-start k lt = sym (get_or-take n work i 0 lt) ∙ ap (λ l. get_or l i 0) k.held

  pub stored-token : left_open (tokens text) ≡ none → Stored text work n → i < n → drop i (tokens text) ≡ token_at text (get_or work i 0) ∷ drop (i + 1) (tokens text)
  stored-token h k lt =
      let within : i < length (starts text) = omega (arith, k.count) in
      rw (tokens-stored text h, stored-start k lt) (drop-map (token_at text) (starts text) i within)

  pub stored-below : Stored text work n → i < n → get_or work i 0 < length text
  stored-below k lt =
      let within : i < length (starts text) = omega (arith, k.count) in
      rw (stored-start k lt) (start-below text i within)

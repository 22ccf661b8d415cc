-- The walk that stores where each token begins: what its turns keep, and what they come to. Assumes nothing.
use Rattle.std.specs.Prelude.{Ok, Err, Result}
use Prim.Native.Nat.{ℕ, suc, ◌+◌, ◌≤◌, ◌<◌}
use Rattle.lexer.proofs.MarkLaws.{first-within, drop-first}
use Rattle.lexer.proofs.StepLaws.{Skipped, Taken, Unended, open-past}
use Rattle.lexer.specs.Base.{pick}
use Rattle.lexer.specs.Lexing.{token_at, first_token}
use Rattle.lexer.specs.Places.{starts_from, opened_from, first_byte, starts, opened}
use Rattle.lexer.specs.Stored.{Stored, walk_of, walked}
use Rattle.lexer.specs.Tokens.{tokens_from, tokens, left_open, unclosed}
use Rattle.lexer.specs.declared.Mode.{Mode}
use Rattle.lexer.specs.declared.Fault.{Fault}
use Rattle.lexer.specs.Refusals.{fault}
use lib.ListN.{length, get_or, take, drop, set, length-set, drop_of_length-le}
use lib.Seq.{drop-cons, length-take-le, take-suc-set}
use mathlib.Core.Bool.{true}
use mathlib.Core.List.{List, [], ◌∷◌, ◌++◌, append_assoc, append-nil}
use mathlib.Core.Option.{none, some}
use mathlib.Core.Path.{◌≡◌, refl, sym, ap, subst, ◌∙◌}
use native.Mathlib.Numerals.{add-one}
use native.Mathlib.Omega.{arith}

-- So many starts are stored, and what is stored and what the rest gives make up what the text gives.
pub record Storing (text before work : List ℕ) (i n : ℕ) : Type 0 where
  pub within : i ≤ length text
  pub below : n ≤ i
  pub room : length text ≤ length before
  pub kept : length work ≡ length before
  pub stored : take n work ++ starts_from Mode.Between i (drop i text) ≡ starts text
  pub left : left_open (tokens_from Mode.Between (drop i text)) ≡ left_open (tokens text)
  pub since : ℕ
  pub mark : opened_from Mode.Between since i (drop i text) ≡ opened text

pub storing-start : (text work : List ℕ) → length text ≤ length work → Storing text work work (first_byte text) 0
unfolding starts tokens opened
storing-start text work h =
    record {
      within = first-within text;
      below = omega arith;
      room = h;
      kept = refl;
      stored = rw (drop-first text);
      left = rw (drop-first text);
      since = 0;
      mark = rw (drop-first text);
    }

-- What the walk answers, and what that says of work memory.
abbrev pub Finished : List ℕ → List ℕ → Result ℕ (Fault ℕ) → Type 0
Finished text work r = record { answer : r ≡ walked text; stored : (n : ℕ) → r ≡ Ok n → Stored text work n }

module _ (text before work : List ℕ) (i n : ℕ) (s : Storing text before work i n) where
  pub storing-skip : (j : ℕ) → Skipped text i j → Storing text before work j n
  storing-skip j k =
      let o = k.opened s.since in
      record {
        within = k.within;
        below = omega arith;
        room = s.room;
        kept = s.kept;
        stored = rw k.starts at s.stored;
        left = ap left_open (sym k.tokens) ∙ s.left;
        since = o.0;
        mark = sym o.1 ∙ s.mark;
      }

  -- the token's kind is none that is left open
  token-closed : (j : ℕ) → i < length text → left_open (token_at text i ∷ tokens_from Mode.Between (drop j text)) ≡ left_open (tokens_from Mode.Between (drop j text))
  unfolding token_at first_token pick
  token-closed j h = rw (drop-cons text i 0 h) (open-past true (get_or text i 0) (drop (suc i) text) (tokens_from Mode.Between (drop j text)))

  pub storing-token : (j : ℕ) → Taken text i j → Storing text before (set work n i) j (n + 1)
  storing-token j k =
      let o = k.opened s.since in
      let more = starts_from Mode.Between j (drop j text) in
      let held : take (n + 1) (set work n i) ≡ take n work ++ (i ∷ []) = rw (add-one n) (take-suc-set work n i (omega arith)) in
      record {
        within = k.within;
        below = omega arith;
        room = s.room;
        kept = length-set work n i ∙ s.kept;
        stored = ap (λ l. l ++ more) held ∙ append_assoc (take n work) (i ∷ []) more ∙ ap (λ l. take n work ++ l) (sym k.starts) ∙ s.stored;
        left = sym (token-closed j (omega arith)) ∙ ap left_open (sym k.tokens) ∙ s.left;
        since = o.0;
        mark = sym o.1 ∙ s.mark;
      }

  pub storing-end : length text ≤ i → Finished text work (Ok n)
  unfolding tokens_from starts_from left_open unclosed walk_of walked
  storing-end h =
      let done = drop_of_length-le text h in
      let closed : left_open (tokens text) ≡ none = sym s.left ∙ rw done in
      let held : take n work ≡ starts text = sym (append-nil (take n work)) ∙ rw done at s.stored in
      let count : n ≡ length (starts text) = sym (length-take-le n work (omega arith)) ∙ ap length held in
      let stored : Stored text work n = record { count = count; held = held } in
      record { answer = rw closed (ap Ok count); stored = λ m h. let e : n ≡ m = cc in subst (λ m. Stored text work m) e stored }

  pub storing-open : (f : Fault ℕ) → Unended text i f.0 f.1 → Finished text work (Err f)
  unfolding walk_of walked
  storing-open f u =
      let what : left_open (tokens text) ≡ some f.0 = sym s.left ∙ u.what in
      let at : opened text ≡ f.1 = sym s.mark ∙ u.opened s.since in
      record { answer = rw what (ap (λ i. Err (fault f.0 i)) (sym at)); stored = λ m h. absurd (let z : ◌≡◌ {A = ℕ} 0 1 = cc in omega arith) }

-- Cutting tokens into commands, and reading on behind one: state relations from the tokens behind to those in front of them. Assumes nothing.
use Prim.Native.Nat.{ℕ, suc}
use Rattle.block.specs.Blocks.{State, step}
use Rattle.block.specs.Commands as Commands
use Rattle.block.specs.Commands.{command, commands_from, up_to_end, ended, words, begun}
use Rattle.block.specs.Outcome.{Outcome, done, then, fold, need}
use Rattle.lexer.proofs.Basics.{by-test}
use Rattle.lexer.specs.Base as Base
use Rattle.lexer.specs.Tokens.{Token}
use Rattle.lexer.specs.Words as Words
use Rattle.lexer.specs.Words.{Numbered, numbered, is_line_end, is_mark}
use Rattle.lexer.specs.declared.Kind.{Kind}
use Rattle.record.proofs.FormTokens.{word, mark, newline, joined, joined_kind, sign_joined}
use borrow.Author.Tests.{eqb-true}
use lib.Dec.{eqb}
use mathlib.Core.Bool.{true, false, true≢false}
use mathlib.Core.List.{List, [], ◌∷◌}
use mathlib.Core.Path.{◌≡◌, refl}

-- A token with an index.
abbrev pub at : ℕ → Token → Numbered
at i t = record { index = i; token = t }

-- The words up to the next `;`, with indices from a number on. To unfold it opens what constant tokens are read by.
unfoldable pub words_from : ℕ → List Token → List Numbered
unfolding Base.pick Base.bytes Base.alike Base.lower Words.numbered Words.is_line_end Words.is_mark Words.is_word Words.is Words.punct Commands.newline Commands.semicolon Commands.up_to_end Commands.words then fold need
words_from i ts = words (up_to_end (numbered i ts))

-- The tokens after the next `;`.
pub data Passes : List Token → List Token → Type 0 where
  here : {rest : List Token} → Passes (mark 59 ∷ rest) rest
  there : {ts rest : List Token} (t : Token) → is_mark 59 t.kind ≡ false → Passes ts rest → Passes (t ∷ ts) rest

passes-ended : {ts rest : List Token} → Passes ts rest → (i : ℕ) → ended (numbered i ts) ≡ true
unfolding words_from ended
passes-ended here i = refl
passes-ended (there t n p) i = rw n (passes-ended p (suc i))

passes-rest : {ts rest : List Token} → Passes ts rest → (i : ℕ) → (j : ℕ) × (commands_from true (numbered i ts) ≡ commands_from false (numbered j rest))
unfolding words_from commands_from
passes-rest here i = (suc i, refl)
passes-rest (there t n p) i = let (j, e) = passes-rest p (suc i) in (j, rw n e)

-- From a state these tokens are read to another, whatever their indices.
pub record Reads (s : State) (ts : List Token) (t : State) : Type 0 where
  pub read : (i : ℕ) → fold step s (commands_from false (numbered i ts)) ≡ done t

pub nothing_read : (s : State) → Reads s [] s
unfolding words_from commands_from
nothing_read s = record { read = λ i. refl }

pub newline-read : {s t : State} {ts : List Token} → Reads s ts t → Reads s (newline ∷ ts) t
unfolding words_from commands_from
newline-read r = record { read = λ i. r.read (suc i) }

-- One command, then the others.
pub command-read : {s t : State} (h : Token) {ts rest : List Token} → is_line_end h.kind ≡ false → is_mark 59 h.kind ≡ false → Passes ts rest
    → ((i : ℕ) → (u : State) × (step s (command (at i h) (up_to_end (numbered (suc i) ts))) ≡ done u) × Reads u rest t) → Reads s (h ∷ ts) t
unfolding words_from commands_from begun
command-read {s} {t} h {ts} {rest} l m p next = record { read = go }
  where
    go : (i : ℕ) → fold step s (commands_from false (numbered i (h ∷ ts))) ≡ done t
    go i =
        let (j, e) = passes-rest p (suc i) in
        let (u, stepped, after) = next i in
        rw (l, m, passes-ended p (suc i), e, stepped) (after.read j)

-- The turns of a fold over the words up to the next `;`, whatever their indices.
pub record Turns {S : Type 0} (turn : S → Numbered → Outcome S) (s : S) (ts : List Token) (t : S) : Type 0 where
  pub turned : (i : ℕ) → fold turn s (words (up_to_end (numbered i ts))) ≡ done t

module _ {S : Type 0} {turn : S → Numbered → Outcome S} {s : S} where
  pub end-turned : {rest : List Token} → Turns turn s (mark 59 ∷ rest) s
  unfolding words_from
  end-turned = record { turned = λ i. refl }

  pub newline-turned : {t : S} {ts : List Token} → Turns turn s ts t → Turns turn s (newline ∷ ts) t
  unfolding words_from
  newline-turned r = record { turned = λ i. r.turned (suc i) }

  pub token-turned : (w : Token) {t : S} {ts : List Token} → is_line_end w.kind ≡ false → is_mark 59 w.kind ≡ false
      → ((i : ℕ) → (u : S) × (turn s (at i w) ≡ done u) × Turns turn u ts t) → Turns turn s (w ∷ ts) t
  unfolding words_from
  token-turned w {t} {ts} l m next = record { turned = go }
    where
      go : (i : ℕ) → fold turn s (words (up_to_end (numbered i (w ∷ ts)))) ≡ done t
      go i = let (u, once, after) = next i in rw (m, l, once) (after.turned (suc i))

-- A symbol in front of tokens is `+`, or a word alone, or joins the word that they begin with.
joined-cases : (P : List Token → Type 0) (b : ℕ) (ts : List Token) → P (word (b ∷ []) ∷ ts)
    → ((u : List ℕ) (r : List Token) → ts ≡ word u ∷ r → P (word (b ∷ u) ∷ r)) → P (joined b ts)
unfolding joined joined_kind
joined-cases P b [] alone joins = alone
joined-cases P b (w ∷ r) alone joins = go w.kind alone joins
  where
    go : (k : Kind) → P (word (b ∷ []) ∷ record { kind = k; text = w.text } ∷ r) → ((u : List ℕ) (q : List Token) → record { kind = k; text = w.text } ∷ r ≡ word u ∷ q → P (word (b ∷ u) ∷ q)) → P (joined_kind b k w.text r)
    go Kind.Word a j = j w.text r refl
    go Kind.Quoted a j = a
    go Kind.String a j = a
    go (Kind.Punctuation c) a j = a
    go Kind.Newline a j = a
    go Kind.OpenQuote a j = a
    go Kind.OpenComment a j = a

pub sign-cases : (P : List Token → Type 0) (b : ℕ) (ts : List Token) → (b ≡ 43 → P (mark 43 ∷ ts)) → P (word (b ∷ []) ∷ ts)
    → ((u : List ℕ) (r : List Token) → ts ≡ word u ∷ r → P (word (b ∷ u) ∷ r)) → P (sign_joined b ts)
unfolding words_from sign_joined
sign-cases P b ts plus alone joins =
    by-test (eqb b 43) (λ t. rw t (plus (eqb-true b 43 t))) (λ f. rw f (joined-cases P b ts alone joins))

passes-behind : {t : Token} {ts rest : List Token} → is_mark 59 t.kind ≡ false → Passes (t ∷ ts) rest → Passes ts rest
unfolding words_from
passes-behind n here = absurd (true≢false n)
passes-behind n (there t m p) = p

-- Symbols part no command.
pub sign-passes : (b : ℕ) {ts rest : List Token} → Passes ts rest → Passes (sign_joined b ts) rest
unfolding words_from
sign-passes b {ts} {rest} p =
    sign-cases (λ l. Passes l rest) b ts (λ e. there (mark 43) refl p) (there (word (b ∷ [])) refl p)
    (λ u r e. let q : Passes (word u ∷ r) rest = rw e at p in there (word (b ∷ u)) refl (passes-behind refl q))

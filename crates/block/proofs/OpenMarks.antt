-- The mark of what a text leaves open: the last token begins at an open quote's, and an open comment's is the outermost. Assumes nothing.
use Prim.Native.Nat.{ℕ, zero, suc, ◌+◌, ◌≤◌, ◌<◌}
use Rattle.block.specs.Faults.{mode_after, QuoteMark, CommentMark}
use Rattle.lexer.proofs.Basics.{not-both, pick_second}
use Rattle.lexer.proofs.StepLaws.{open-past}
use Rattle.lexer.specs.Base.{pick}
use Rattle.lexer.specs.Classes.{symbol, rank, is_newline, is_return, is_blank, is_single, is_double, is_open, is_close, is_other, is_part}
use Rattle.lexer.specs.Places.{starts_from, first_byte, starts, opens_between, opens, opened_from, opened}
use Rattle.lexer.specs.Tokens.{after_between, after_word, up, after_comment, next, begins_between, begins, unclosed, tokens_from, unmarked, tokens, open_kind, left_open}
use Rattle.lexer.specs.declared.Mode.{Mode}
use Rattle.lexer.specs.declared.Symbol.{Symbol}
use Rattle.lexer.specs.declared.refusal.Refusal.{Refusal}
use lib.ListN.{length}
use mathlib.Core.Bool.{Bool, true, false}
use mathlib.Core.List.{List, [], ◌∷◌, ◌++◌}
use mathlib.Core.Logic.{◌⊎◌, inl, inr, ⊎_elim}
use mathlib.Core.Option.{some}
use mathlib.Core.Path.{◌≡◌, refl, sym, ◌∙◌}
use native.Mathlib.Omega.{arith}

-- In quotes, or behind a quote that may be doubled; in a comment.
abbrev quoting : Mode → Bool
quoting Mode.Between = false
quoting Mode.Word = false
quoting Mode.Quoted = true
quoting Mode.Closing = true
quoting Mode.String = true
quoting (Mode.Comment d) = false
quoting (Mode.WordComment d) = false

abbrev commenting : Mode → Bool
commenting Mode.Between = false
commenting Mode.Word = false
commenting Mode.Quoted = false
commenting Mode.Closing = false
commenting Mode.String = false
commenting (Mode.Comment d) = true
commenting (Mode.WordComment d) = true

quote-quoting : (m : Mode) → left_open (unclosed m) ≡ some Refusal.OpenQuote → quoting m ≡ true
unfolding left_open unclosed open_kind
quote-quoting Mode.Between h = cc
quote-quoting Mode.Word h = cc
quote-quoting Mode.Quoted h = refl
quote-quoting Mode.Closing h = refl
quote-quoting Mode.String h = refl
quote-quoting (Mode.Comment d) h = cc
quote-quoting (Mode.WordComment d) h = cc

comment-commenting : (m : Mode) → left_open (unclosed m) ≡ some Refusal.OpenComment → commenting m ≡ true
unfolding left_open unclosed open_kind
comment-commenting Mode.Between h = cc
comment-commenting Mode.Word h = cc
comment-commenting Mode.Quoted h = cc
comment-commenting Mode.Closing h = cc
comment-commenting Mode.String h = cc
comment-commenting (Mode.Comment d) h = refl
comment-commenting (Mode.WordComment d) h = refl

commenting-comment : (m : Mode) → commenting m ≡ true → left_open (unclosed m) ≡ some Refusal.OpenComment
unfolding left_open unclosed open_kind
commenting-comment Mode.Between h = not-both refl h
commenting-comment Mode.Word h = not-both refl h
commenting-comment Mode.Quoted h = not-both refl h
commenting-comment Mode.Closing h = not-both refl h
commenting-comment Mode.String h = not-both refl h
commenting-comment (Mode.Comment d) h = refl
commenting-comment (Mode.WordComment d) h = refl

-- What false implies.
never : {X : Type 0} → ◌≡◌ {A = Bool} false true → X
never h = not-both refl h

-- Something holds of every symbol.
each : (P : Symbol → Type 0) → P Symbol.Newline → P Symbol.Return → P Symbol.Blank → P Symbol.Single → P Symbol.Double → P Symbol.Open → P Symbol.Close
    → P Symbol.Punctuation → P Symbol.Other → P Symbol.Part → (s : Symbol) → P s
each P a b c d e f g h i j Symbol.Newline = a
each P a b c d e f g h i j Symbol.Return = b
each P a b c d e f g h i j Symbol.Blank = c
each P a b c d e f g h i j Symbol.Single = d
each P a b c d e f g h i j Symbol.Double = e
each P a b c d e f g h i j Symbol.Open = f
each P a b c d e f g h i j Symbol.Close = g
each P a b c d e f g h i j Symbol.Punctuation = h
each P a b c d e f g h i j Symbol.Other = i
each P a b c d e f g h i j Symbol.Part = j

-- A byte after which there are quotes goes on with them, or opens them and begins a token.
abbrev Quotes : Mode → Symbol → Type 0
Quotes m s = quoting (next m s) ≡ true → ((quoting m ≡ true) × (opens m s ≡ false) × (begins m s ≡ false)) ⊎ ((opens m s ≡ true) × (begins m s ≡ true))

quote-step : (m : Mode) (s : Symbol) → Quotes m s
unfolding next after_between after_word up after_comment opens opens_between begins begins_between pick rank is_newline is_return is_blank is_single is_double is_open is_close is_other is_part
quote-step Mode.Between s = each (Quotes Mode.Between) never never never (λ h. inr (refl, refl)) (λ h. inr (refl, refl)) never never never never never s
quote-step Mode.Word s = each (Quotes Mode.Word) never never never (λ h. inr (refl, refl)) (λ h. inr (refl, refl)) never never never never never s
quote-step Mode.Quoted s = λ h. inl (refl, refl, refl)
quote-step Mode.Closing s = each (Quotes Mode.Closing) never never never (λ h. inl (refl, refl, refl)) (λ h. inr (refl, refl)) never never never never never s
quote-step Mode.String s = λ h. inl (refl, refl, refl)
quote-step (Mode.Comment zero) s = each (Quotes (Mode.Comment zero)) never never never never never never never never never never s
quote-step (Mode.Comment (suc d)) s = each (Quotes (Mode.Comment (suc d))) never never never never never never never never never never s
quote-step (Mode.WordComment zero) s = each (Quotes (Mode.WordComment zero)) never never never never never never never never never never s
quote-step (Mode.WordComment (suc d)) s = each (Quotes (Mode.WordComment (suc d))) never never never never never never never never never never s

-- A byte after which there is a comment goes on with it, or opens it where nothing is open.
abbrev Comments : Mode → Symbol → Type 0
Comments m s = commenting (next m s) ≡ true → ((commenting m ≡ true) × (opens m s ≡ false)) ⊎ ((unclosed m ≡ []) × (opens m s ≡ true))

comment-step : (m : Mode) (s : Symbol) → Comments m s
unfolding next after_between after_word opens opens_between pick rank is_newline is_return is_blank is_single is_double is_open is_close is_other is_part unclosed
comment-step Mode.Between s = each (Comments Mode.Between) never never never never never (λ h. inr (refl, refl)) never never never never s
comment-step Mode.Word s = each (Comments Mode.Word) never never never never never (λ h. inr (refl, refl)) never never never never s
comment-step Mode.Quoted s = each (Comments Mode.Quoted) never never never never never never never never never never s
comment-step Mode.Closing s = each (Comments Mode.Closing) never never never never never (λ h. inr (refl, refl)) never never never never s
comment-step Mode.String s = each (Comments Mode.String) never never never never never never never never never never s
comment-step (Mode.Comment d) s = λ h. inl (refl, refl)
comment-step (Mode.WordComment d) s = λ h. inl (refl, refl)

-- A rest that leaves a quote open: it was open before, and no token begins; or the last token begins at its mark.
abbrev QuoteOpen : Bool → ℕ → ℕ → List ℕ → Type 0
QuoteOpen before since o begun = ((before ≡ true) × (o ≡ since) × (begun ≡ [])) ⊎ ((l : List ℕ) × (begun ≡ l ++ (o ∷ [])))

quoted-turn : (before t u : Bool) (i since o : ℕ) (more : List ℕ) → o ≡ pick t i since → more ≡ []
    → ((before ≡ true) × (t ≡ false) × (u ≡ false)) ⊎ ((t ≡ true) × (u ≡ true)) → QuoteOpen before since o (pick u (i ∷ more) more)
unfolding pick
quoted-turn before t u i since o more e f (inl x) = inl (x.0, e ∙ pick_second t i since x.1, pick_second u (i ∷ more) more x.2 ∙ f)
quoted-turn before t u i since o more e f (inr y) = inr ([], rw (y.1, e, y.0, f))

later-turn : (u : Bool) (i o : ℕ) (more l : List ℕ) → more ≡ l ++ (o ∷ []) → (k : List ℕ) × (pick u (i ∷ more) more ≡ k ++ (o ∷ []))
unfolding pick
later-turn true i o more l e = (i ∷ l, rw e)
later-turn false i o more l e = (l, e)

quote-marks : (r : List ℕ) (m : Mode) (since i : ℕ) → left_open (tokens_from m r) ≡ some Refusal.OpenQuote
    → QuoteOpen (quoting m) since (opened_from m since i r) (starts_from m i r)
unfolding tokens_from opened_from starts_from
quote-marks [] m since i h = inl (quote-quoting m h, refl, refl)
quote-marks (b ∷ r) m since i h =
    let s = symbol b r in
    ⊎_elim (λ a. quoted-turn (quoting m) (opens m s) (begins m s) i since _ _ a.1 a.2 (quote-step m s a.0))
    (λ c. inr (later-turn (begins m s) i _ _ c.0 c.1))
    (quote-marks r (next m s) (pick (opens m s) i since) (suc i) (sym (open-past (begins m s) b r (tokens_from (next m s) r)) ∙ h))

-- A rest that leaves a comment open: it is open from the front on; or from its mark on, before which nothing is open.
record Inner (m : Mode) (r : List ℕ) (i o : ℕ) : Type 0 where
  passed : ℕ
  place : o ≡ i + passed
  inside : passed < length r
  before : unclosed (mode_after m r passed) ≡ []
  behind : (k : ℕ) → passed < k → k ≤ length r → commenting (mode_after m r k) ≡ true

abbrev CommentOpen : Mode → List ℕ → ℕ → ℕ → ℕ → Type 0
CommentOpen m r since i o = (((k : ℕ) → k ≤ length r → commenting (mode_after m r k) ≡ true) × (o ≡ since)) ⊎ Inner m r i o

after_none : (m : Mode) (r : List ℕ) → mode_after m r 0 ≡ m
unfolding mode_after
after_none m [] = refl
after_none m (b ∷ r) = refl

commented-turn : (b : ℕ) (r : List ℕ) (m : Mode) (since i o : ℕ) → CommentOpen (next m (symbol b r)) r (pick (opens m (symbol b r)) i since) (suc i) o → CommentOpen m (b ∷ r) since i o
unfolding mode_after pick
commented-turn b r m since i o (inr c) =
    inr (record { passed = suc c.passed; place = omega (arith, c.place); inside = omega (arith, c.inside); before = c.before; behind = later })
  where
    later : (k : ℕ) → suc c.passed < k → k ≤ length (b ∷ r) → commenting (mode_after m (b ∷ r) k) ≡ true
    later zero l h = absurd (omega arith)
    later (suc k) l h = c.behind k (omega arith) (omega arith)
commented-turn b r m since i o (inl a) = ⊎_elim held opened_here (comment-step m (symbol b r) (rw (after_none (next m (symbol b r)) r) at (a.0 0 (omega arith))))
  where
    held : (commenting m ≡ true) × (opens m (symbol b r) ≡ false) → CommentOpen m (b ∷ r) since i o
    held x = inl (stays, a.1 ∙ pick_second (opens m (symbol b r)) i since x.1)
      where
        stays : (k : ℕ) → k ≤ length (b ∷ r) → commenting (mode_after m (b ∷ r) k) ≡ true
        stays zero h = x.0
        stays (suc k) h = a.0 k (omega arith)

    opened_here : (unclosed m ≡ []) × (opens m (symbol b r) ≡ true) → CommentOpen m (b ∷ r) since i o
    opened_here y = inr (record { passed = 0; place = first (rw y.1 at a.1); inside = omega arith; before = y.0; behind = later })
      where
        first : o ≡ i → o ≡ i + 0
        first e = omega arith

        later : (k : ℕ) → 0 < k → k ≤ length (b ∷ r) → commenting (mode_after m (b ∷ r) k) ≡ true
        later zero l h = absurd (omega arith)
        later (suc k) l h = a.0 k (omega arith)

comment-marks : (r : List ℕ) (m : Mode) (since i : ℕ) → left_open (tokens_from m r) ≡ some Refusal.OpenComment → CommentOpen m r since i (opened_from m since i r)
unfolding tokens_from opened_from mode_after
comment-marks [] m since i h = inl (λ k l. comment-commenting m h, refl)
comment-marks (b ∷ r) m since i h =
    let s = symbol b r in
    commented-turn b r m since i _ (comment-marks r (next m s) (pick (opens m s) i since) (suc i) (sym (open-past (begins m s) b r (tokens_from (next m s) r)) ∙ h))

module _ (text : List ℕ) where
  pub quote-mark : left_open (tokens text) ≡ some Refusal.OpenQuote → QuoteMark text (opened text)
  unfolding tokens starts opened
  quote-mark h = ⊎_elim (λ a. never a.0) (λ c. record { earlier = c.0; last = c.1 }) (quote-marks (unmarked text) Mode.Between 0 (first_byte text) h)

  pub comment-mark : left_open (tokens text) ≡ some Refusal.OpenComment → CommentMark text (opened text)
  unfolding tokens opened mode_after
  comment-mark h = ⊎_elim (λ a. never (rw (after_none Mode.Between (unmarked text)) at (a.0 0 (omega arith)))) mark (comment-marks (unmarked text) Mode.Between 0 (first_byte text) h)
    where
      mark : Inner Mode.Between (unmarked text) (first_byte text) (opened text) → CommentMark text (opened text)
      mark c =
          record {
            passed = c.passed;
            stands = c.place;
            inside = c.inside;
            before = c.before;
            behind = λ k l h. commenting-comment (mode_after Mode.Between (unmarked text) k) (c.behind k l h);
          }

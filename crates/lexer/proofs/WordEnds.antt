-- Where a word ends, from byte to byte, with the comments in it passed over whole. Assumes nothing.
use Rattle.std.specs.Prelude.{Ok, Err, Result}
use Rattle.lexer.proofs.ListLaws.{drop-tail}
use Prim.Native.Nat.{ℕ, zero, suc, ◌+◌, ◌≤◌, ◌<◌}
use Rattle.lexer.proofs.ScanLaws.{comment-ends}
use Rattle.lexer.proofs.SymbolTags.{Continues, Stops}
use Rattle.lexer.specs.Base.{pick}
use Rattle.lexer.specs.Classes.{rank, is_open}
use Rattle.lexer.specs.Scanning.{comment_end, word_end, goes_on, symbol_at, first_symbol}
use Rattle.lexer.specs.declared.Fault.{Fault}
use Rattle.lexer.specs.Refusals.{fault}
use Rattle.lexer.specs.declared.Symbol.{Symbol}
use Rattle.lexer.specs.declared.refusal.Refusal.{Refusal}
use lib.Dec.{eqb}
use lib.ListN.{length, drop, drop_of_length-le, length-drop}
use lib.Seq.{drop-cons}
use mathlib.Core.Bool.{Bool, true, false}
use mathlib.Core.List.{List, [], ◌∷◌}
use mathlib.Core.Path.{◌≡◌, refl, ap, ◌∙◌}
use native.Mathlib.Numerals.{add-one}
use native.Mathlib.Omega.{arith}

-- Outside a comment the mark does not matter.
word-unmarked : (m n i : ℕ) (r : List ℕ) → word_end 0 m i r ≡ word_end 0 n i r
unfolding word_end
word-unmarked m n i [] = refl
word-unmarked m n i (b ∷ r) = rw (word-unmarked m n (suc i) r)

-- What follows a word by depth, place and rest, and in a comment goes by its brackets alone: it comes to what it does behind the comment, by
-- where the comment has ended.
module _ {X : Type 0} (text : List ℕ) (follow : ℕ → ℕ → List ℕ → X) (over : Fault ℕ → X) where
  abbrev pub behind : Result ℕ (Fault ℕ) → X
  behind (Ok j) = follow 0 j (drop j text)
  behind (Err f) = over f

  behind-pick : (o e : Bool) (x y z : X) (u v w : Result ℕ (Fault ℕ)) → x ≡ behind u → y ≡ behind v → z ≡ behind w → pick o x (pick e y z) ≡ behind (pick o u (pick e v w))
  unfolding pick
  behind-pick true e x y z u v w p q r = p
  behind-pick false true x y z u v w p q r = q
  behind-pick false false x y z u v w p q r = r

  module _ (mark : ℕ) (none : (d i : ℕ) → follow (suc d) i [] ≡ over (fault Refusal.OpenComment mark))
      (step : (d i b : ℕ) (r : List ℕ) → follow (suc d) i (b ∷ r)
      ≡ pick (eqb b 91) (follow (suc (suc d)) (suc i) r) (pick (eqb b 93) (follow d (suc i) r) (follow (suc d) (suc i) r))) where
    pub comment-passed : (d i : ℕ) (r : List ℕ) → r ≡ drop i text → follow (suc d) i r ≡ behind (comment_end mark d i r)
    unfolding comment_end
    comment-passed zero i [] e = none 0 i
    comment-passed (suc d) i [] e = none (suc d) i
    comment-passed zero i (b ∷ r) e =
        let t = drop-tail text i b r e in
        step 0 i b r
        ∙ behind-pick (eqb b 91) (eqb b 93) _ _ _ (comment_end mark 1 (suc i) r) (Ok (suc i)) (comment_end mark 0 (suc i) r)
        (comment-passed 1 (suc i) r t)
        (ap (follow 0 (suc i)) t)
        (comment-passed 0 (suc i) r t)
    comment-passed (suc d) i (b ∷ r) e =
        let t = drop-tail text i b r e in
        step (suc d) i b r
        ∙ behind-pick (eqb b 91) (eqb b 93) _ _ _ (comment_end mark (suc (suc d)) (suc i) r) (comment_end mark d (suc i) r) (comment_end mark (suc d) (suc i) r)
        (comment-passed (suc (suc d)) (suc i) r t)
        (comment-passed d (suc i) r t)
        (comment-passed (suc d) (suc i) r t)

-- What a word comes to behind a comment in it, by where the comment has ended.
abbrev pub resumed : List ℕ → Result ℕ (Fault ℕ) → Result ℕ (Fault ℕ)
resumed text (Ok j) = word_end 0 0 j (drop j text)
resumed text (Err f) = Err f

-- Inside a comment a word goes on as the comment does, and behind it as a word.
word-comment : (text : List ℕ) (mark d i : ℕ) (r : List ℕ) → r ≡ drop i text → word_end (suc d) mark i r ≡ resumed text (comment_end mark d i r)
unfolding word_end
word-comment text mark d i r e = comment-passed text follow Err mark (λ d i. refl) (λ d i b r. refl) d i r e ∙ unmarked (comment_end mark d i r)
  where
    follow : ℕ → ℕ → List ℕ → Result ℕ (Fault ℕ)
    follow d i r = word_end d mark i r

    unmarked : (s : Result ℕ (Fault ℕ)) → behind text follow Err s ≡ resumed text s
    unmarked (Ok j) = word-unmarked mark 0 j (drop j text)
    unmarked (Err f) = refl

-- What the turns of the loop keep: from here the word ends where it does from its start.
pub record Wording (text : List ℕ) (from i : ℕ) : Type 0 where
  pub ahead : from ≤ i
  pub within : i ≤ length text
  pub rest : word_end 0 0 i (drop i text) ≡ word_end 0 0 from (drop from text)

module _ (text : List ℕ) (i : ℕ) (h : i < length text) where
  word-byte : word_end 0 0 i (drop i text) ≡ pick (is_open (symbol_at text i)) (word_end 1 i (i + 1) (drop (i + 1) text)) (pick (goes_on (symbol_at text i)) (word_end 0 0 (i + 1) (drop (i + 1) text)) (Ok i))
  unfolding word_end symbol_at first_symbol
  word-byte = rw (add-one i, drop-cons text i 0)

  module _ (s : Symbol) (is : s ≡ symbol_at text i) where
    pub word-goes-on : Continues s → word_end 0 0 i (drop i text) ≡ word_end 0 0 (i + 1) (drop (i + 1) text)
    unfolding pick
    word-goes-on p = word-byte ∙ rw (← is, p.closed, p.on)

    pub word_over : Stops s → word_end 0 0 i (drop i text) ≡ Ok i
    unfolding pick
    word_over p = word-byte ∙ rw (← is, p.closed, p.over)

    -- A comment in a word, by where it has ended.
    pub word-skips : s ≡ Symbol.Open → (e : Result ℕ (Fault ℕ)) → e ≡ comment_end i 0 (i + 1) (drop (i + 1) text) → word_end 0 0 i (drop i text) ≡ resumed text e
    unfolding pick is_open rank
    word-skips o e ends = word-byte ∙ rw (← is, o) (word-comment text i 0 (i + 1) (drop (i + 1) text) refl ∙ rw (← ends))

  -- and it has gone on, within the text
  pub skip-ahead : (e : Result ℕ (Fault ℕ)) → e ≡ comment_end i 0 (i + 1) (drop (i + 1) text) → (j : ℕ) → e ≡ Ok j → (i < j) × (j ≤ length text)
  skip-ahead e ends j t =
      let rest = drop (i + 1) text in
      let p = rw (← ends, t) at (comment-ends rest i 0 (i + 1) (omega arith)) in
      omega (arith, length-drop (i + 1) text, p)

-- A word that goes on to the end of the text ends there.
pub word-last : (text : List ℕ) (i : ℕ) → length text ≤ i → word_end 0 0 i (drop i text) ≡ Ok i
unfolding word_end
word-last text i h = rw (drop_of_length-le text h)

-- What is told of a part: of a dash in a word, of another part of a word, and of a token that is no word. Assumes nothing.
use Rattle.std.specs.Prelude as Std
use Rattle.std.specs.Prelude.{Some, None, is_some}
use Rattle.std.proofs.Common.{◌⊎◌, inl, inr}
use Rattle.std.proofs.lemmas.Option.{some_pair_parts}
use Prim.Native.Nat.{ℕ}
use Rattle.assumptions.proofs.PartWalks.{to-dash-on}
use Rattle.assumptions.specs.ListParts.{told, first_part, digits_value, Parted, PartedHere, PartEnd}
use Rattle.assumptions.specs.declared.parts.Part as Code
use Rattle.block.specs.CharacterList.{Part, part, to_dash, cut_from, is_dash, is_stride, is_all, character_number}
use Rattle.lexer.proofs.Basics.{by-test}
use Rattle.lexer.proofs.Yielded.{Yields, YieldsByte}
use Rattle.lexer.specs.Base.{pick, bytes, same, is_empty}
use Rattle.lexer.specs.Bytes.{left}
use Rattle.lexer.specs.Words.{Numbered, is, punct, number, positive, unsigned, digits, largest, is_word, is_quoted, is_string, is_mark}
use Rattle.lexer.specs.declared.Cursor.{Cursor}
use Rattle.lexer.specs.declared.Kind.{Kind}
use borrow.Author.Tests.{ne_eqb}
use lib.Dec.{eqb, leb}
use mathlib.Core.Bool.{Bool, true, false, ◌&&◌, ◌||◌, not, false≢true, true≢false}
use mathlib.Core.List.{List, [], ◌∷◌}
use mathlib.Core.Path.{◌≡◌, refl, sym, ap, ◌∙◌}
use native.Mathlib.Omega.{arith}

-- A word is no mark, and in no quotes.
word-unmarked : (b : ℕ) (k : Kind) → is_word k ≡ true → is_mark b k ≡ false
unfolding is_word is_mark
word-unmarked b Kind.Word h = refl
word-unmarked b Kind.Quoted h = refl
word-unmarked b Kind.String h = refl
word-unmarked b (Kind.Punctuation m) h = absurd (false≢true h)
word-unmarked b Kind.Newline h = refl
word-unmarked b Kind.OpenQuote h = refl
word-unmarked b Kind.OpenComment h = refl

word-unquoted : (k : Kind) → is_word k ≡ true → is_quoted k || is_string k ≡ false
unfolding is_word is_quoted is_string
word-unquoted Kind.Word h = refl
word-unquoted Kind.Quoted h = absurd (false≢true h)
word-unquoted Kind.String h = absurd (false≢true h)
word-unquoted (Kind.Punctuation m) h = refl
word-unquoted Kind.Newline h = refl
word-unquoted Kind.OpenQuote h = refl
word-unquoted Kind.OpenComment h = refl

-- What the arm of a `match` says: in quotes, and not.
pub quoted-kind : (k : Kind) → (k ≡ Kind.Quoted) ⊎ (k ≡ Kind.String) → true ≡ is_quoted k || is_string k
unfolding is_quoted is_string
quoted-kind k (inl e) = rw e
quoted-kind k (inr e) = rw e

pub other-kind : (k : Kind) → (k ≡ Kind.Quoted → ⊥) → (k ≡ Kind.String → ⊥) → false ≡ is_quoted k || is_string k
unfolding is_quoted is_string
other-kind Kind.Word q s = refl
other-kind Kind.Quoted q s = absurd (q refl)
other-kind Kind.String q s = absurd (s refl)
other-kind (Kind.Punctuation b) q s = refl
other-kind Kind.Newline q s = refl
other-kind Kind.OpenQuote q s = refl
other-kind Kind.OpenComment q s = refl

pub other-word : (k : Kind) → (k ≡ Kind.Word → ⊥) → is_word k ≡ false
unfolding is_word
other-word Kind.Word h = absurd (h refl)
other-word Kind.Quoted h = refl
other-word Kind.String h = refl
other-word (Kind.Punctuation b) h = refl
other-word Kind.Newline h = refl
other-word Kind.OpenQuote h = refl
other-word Kind.OpenComment h = refl

-- A text of one byte, and a longer one
pub same-alone : (text : List ℕ) (a b : ℕ) (l : List ℕ) (d : Cursor) (r : Std.Option (ℕ × Cursor)) (q : Bool) → l ≡ a ∷ left text d → Yields text d.at (left text d) r → is_some r ≡ not q → eqb a b && q ≡ same l (b ∷ [])
unfolding same
same-alone text a b l d None true here y e = rw (here, y.end refl)
same-alone text a b l d None false here y e = absurd (false≢true e)
same-alone text a b l d (Some (c, f)) true here y e = absurd (true≢false e)
same-alone text a b l d (Some (c, f)) false here y e = rw (here, (y.byte c f refl).here)

-- A part ends at a dash.
pub dash-ends : (b : ℕ) (l r : List ℕ) → l ≡ b ∷ r → eqb b 45 ≡ is_empty (to_dash l)
unfolding to_dash is_empty pick
dash-ends b l r here = rw here (go (eqb b 45))
  where
    go : (t : Bool) → t ≡ is_empty (pick t [] (b ∷ to_dash r))
    go true = refl
    go false = refl

same_none : (l : List ℕ) → same l [] ≡ is_empty l
unfolding same is_empty
same_none [] = refl
same_none (b ∷ l) = refl

pick-zero : (t : Bool) → ◌≡◌ {A = ℕ} (pick t 0 0) 0
unfolding pick
pick-zero true = refl
pick-zero false = refl

-- a token that is no word
pub whole-told : (count : ℕ) (w : Numbered) → is_word w.token.kind ≡ false
    → told count (part w w.token.text) ≡ record { index = w.index; dash = same w.token.text (45 ∷ []); stride = punct 92 w; all = false; character = pick (is_quoted w.token.kind || is_string w.token.kind) 0 (pick (same w.token.text (46 ∷ [])) count (pick (leb (number w) count) (number w) 0)); number = number w }
unfolding told part is_dash is_stride is_all character_number number is
whole-told count w h = rw h

module _ (count : ℕ) (w : Numbered) (all : Bool) (a : is (bytes "ALL") w ≡ all) where
  module _ (h : is_word w.token.kind ≡ true) where
    -- a dash
    dash-told : told count (part w (45 ∷ [])) ≡ record { index = w.index; dash = true; stride = false; all = all; character = 0; number = 0 }
    unfolding told part is_dash is_stride is_all punct character_number same number positive unsigned digits largest pick
    dash-told = rw (word-unmarked 92 w.token.kind h, a, word-unquoted w.token.kind h, pick-zero (leb 0 count))

    -- another part of a word
    pub plain-told : (b : ℕ) (t : List ℕ) (n : ℕ) → (b ≡ 45 → ⊥) → n ≡ positive (b ∷ t)
        → told count (part w (b ∷ t)) ≡ record { index = w.index; dash = false; stride = false; all = all; character = pick (eqb b 46 && is_empty t) count (pick (leb n count) n 0); number = n }
    unfolding told part is_dash is_stride is_all punct character_number same number pick
    plain-told b t n o e = rw (ne_eqb b 45 o, word-unmarked 92 w.token.kind h, a, word-unquoted w.token.kind h, same_none t, ← e)

-- The number of a part of a word
part-positive : (b : ℕ) (l r : List ℕ) (n : ℕ) → l ≡ b ∷ r → (b ≡ 45 → ⊥) → n ≡ pick (eqb b 43) (digits_value r) (digits_value l) → n ≡ positive (b ∷ to_dash r)
unfolding digits_value positive unsigned pick
part-positive b l r n here o e =
    e ∙ by-test (eqb b 43) (λ t. rw t) (λ f. rw (f, to-dash-on b l r here o))

-- The next part of a word
module _ (text : List ℕ) (count : ℕ) (w : Numbered) (c : Cursor) where
  parted-more : {q : Code.Part} {d : Cursor} → PartedHere text count w c q d → Parted text count w c (Some (q, d))
  parted-more {q} {d} p =
      record {
        more = λ q' d' e. let f = some_pair_parts _ _ _ _ e in rw (← f.0, ← f.1) p;
        end = λ e. let z : ◌≡◌ {A = ℕ} 0 1 = cc in absurd (omega arith);
      }

  pub parted-end : left text c ≡ [] → Parted text count w c None
  unfolding cut_from
  parted-end h = record { more = λ q d e. let z : ◌≡◌ {A = ℕ} 0 1 = cc in absurd (omega arith); end = λ _. rw h }

  module _ (b : ℕ) (r : List ℕ) (here : left text c ≡ b ∷ r) where
    first-dash : b ≡ 45 → (first_part (left text c) ≡ 45 ∷ []) × (cut_from w false (left text c) ≡ part w (first_part (left text c)) ∷ cut_from w false r)
    unfolding first_part cut_from pick
    first-dash h = (rw (here, h), rw (here, h))

    first_plain : (b ≡ 45 → ⊥) → (first_part (left text c) ≡ b ∷ to_dash r) × (cut_from w false (left text c) ≡ part w (first_part (left text c)) ∷ cut_from w true r)
    unfolding first_part cut_from pick
    first_plain h = (rw (here, ne_eqb b 45 h), rw (here, ne_eqb b 45 h))

  module _ (index : ℕ) (all : Bool) (i : w.index ≡ index) (h : is_word w.token.kind ≡ true) (a : is (bytes "ALL") w ≡ all) (b : ℕ) (d : Cursor) (y : YieldsByte text c.at (left text c) b d) where
    abbrev tests : ℕ → Bool → ℕ → ℕ → Code.Part
    tests x dash k n = record { index = x; dash = dash; stride = false; all = all; character = k; number = n }

    -- a dash is a part of its own
    pub parted-dash : b ≡ 45 → Parted text count w c (Some ((record { index = index; dash = true; stride = false; all = all; character = 0; number = 0 }), d))
    parted-dash o =
        let f = first-dash b (left text d) y.here o in
        parted-more (record { here = f.1; tests = rw f.0 (ap (λ (x : ℕ). tests x true 0 0) (sym i) ∙ sym (dash-told count w all a h)); ahead = y.ahead; within = y.within })

    -- any other goes up to the next dash
    pub parted-plain : (b ≡ 45 → ⊥) → (n k : ℕ) (e : Cursor) → n ≡ pick (eqb b 43) (digits_value (left text d)) (digits_value (left text c)) → k ≡ pick (eqb b 46 && is_empty (to_dash (left text d))) count (pick (leb n count) n 0) → PartEnd text d e
        → Parted text count w c (Some ((record { index = index; dash = false; stride = false; all = all; character = k; number = n }), e))
    parted-plain o n k e num char end =
        let f = first_plain b (left text d) y.here o in
        let p = part-positive b (left text c) (left text d) n y.here o num in
        parted-more
        (record {
          here = f.1 ∙ ap (λ (ps : List Part). part w (first_part (left text c)) ∷ ps) (end.rest w);
          tests = rw (f.0, char) (ap (λ (x : ℕ). tests x false (pick (eqb b 46 && is_empty (to_dash (left text d))) count (pick (leb n count) n 0)) n) (sym i) ∙ sym (plain-told count w all a h b (to_dash (left text d)) n o p));
          ahead = omega (arith, y.ahead, end.onward);
          within = end.within y.within;
        })

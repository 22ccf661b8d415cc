-- The lines of a character: what judging its number, its label, its type and its state labels tells. Assumes nothing.
use Rattle.std.specs.Prelude.{Some, None, Option}
use Prim.Native.Nat.{ℕ, suc, ◌+◌, ◌≤◌}
use Rattle.block.specs.Sound.{sound_label, sound_name}
use Rattle.judging.proofs.EscapedLines.{ended, front}
use Rattle.judging.proofs.JudgeLaws.{wrong-no-end}
use Rattle.judging.proofs.ListTold.{Listing, listing-over, listing-short, listing_step}
use Rattle.judging.proofs.NameJudged.{lf-within}
use Rattle.judging.proofs.TellLaws.{no_end, same-told, tells-end, tells-keyed, tells-no-key, tells_none, tells-retold}
use Rattle.judging.specs.Judges.{Judges, Stands}
use Rattle.judging.specs.Numbers.{NumberJudged}
use Rattle.judging.specs.Parts.{KeyedNumber, LabelTold, NumberTold, StatesGood, StatesTold, spell_state}
use Rattle.judging.specs.Tells.{nothing, until, Tells, behind_of, flag_of, number_of}
use Rattle.lexer.proofs.ListLaws.{drop-next}
use Rattle.lexer.specs.Base.{bytes, is_empty}
use Rattle.record.specs.Decimal.{decimal}
use Rattle.record.specs.Spell.{escaped, line}
use borrow.Author.Tests.{eq-eqb, ne_eqb}
use lib.Dec.{eqb}
use lib.ListN.{length, drop, get_or, length-append}
use lib.Seq.{get_or-drop}
use mathlib.Core.Bool.{true, not}
use mathlib.Core.List.{List, [], ◌∷◌, ◌++◌, append_assoc}
use mathlib.Core.Path.{◌≡◌, refl, sym, ap, ◌∙◌, subst}
use native.Mathlib.Nat.{add-zero}
use native.Mathlib.Omega.{arith}

-- Fixed bytes at a place.
abbrev pub Fixed : List ℕ → ℕ → List ℕ → Option ℕ → Type 0
Fixed b i key r = Judges b i (λ (u : Unit {0}). Unit {0}) (λ u. key) r

-- A number and the LF behind it.
number-told : (b : List ℕ) (i : ℕ) (r : Option (ℕ × ℕ)) → NumberJudged b i r → Tells b i (λ v. v ≤ 1048576) (λ v. decimal v ++ (10 ∷ [])) (λ v. v) (number_of r)
unfolding number_of
number-told b i r judged = record { found = found r judged; all = all }
  where
    found : (r : Option (ℕ × ℕ)) → NumberJudged b i r → (j v : ℕ) → number_of r ≡ until j v
        → (s : Stands b i (λ v. v ≤ 1048576) (λ v. decimal v ++ (10 ∷ [])) j) × (v ≡ s.what)
    found (Some (w, k)) judged j v e =
        let (kj, wv) = same-told e in
        let same : Some (w, k) ≡ Some (v, j) = rw (kj, wv) refl in
        let s = judged.found v j same in
        let end : j ≡ i + length (decimal v ++ (10 ∷ [])) = simp length-append (omega (arith, s.end)) in
        (record { what = v; sound = s.few; here = s.here ∙ sym (append_assoc (decimal v) (10 ∷ []) (drop j b)); end = end }, refl)
    found None judged j v e = absurd (no_end e)

    all : (v : ℕ) (rest : List ℕ) → v ≤ 1048576 → drop i b ≡ (decimal v ++ (10 ∷ [])) ++ rest → number_of r ≡ until (i + length (decimal v ++ (10 ∷ []))) v
    all v rest few e =
        let told = judged.all v rest few (e ∙ append_assoc (decimal v) (10 ∷ []) rest) in
        let end : i + length (decimal v) + 1 ≡ i + length (decimal v ++ (10 ∷ [])) = simp length-append (omega arith) in
        ap number_of told ∙ ap (λ n. until n v) end

-- A number behind a key.
module _ (b : List ℕ) (i : ℕ) (key : List ℕ) (r : Option ℕ) (judged : Fixed b i key r) where
  pub number-keyed : (j : ℕ) → r ≡ Some j → (s : Option (ℕ × ℕ)) → NumberJudged b j s → KeyedNumber b i key s
  number-keyed j here s told = tells-keyed b i key _ _ (λ v. v) r judged j here (number_of s) (number-told b j s told)

  pub number-no-key : r ≡ None → KeyedNumber b i key None
  unfolding number_of
  number-no-key none = tells-no-key b i key _ _ (λ v. v) r judged none

-- The line of a character's number.
module _ (b : List ℕ) (i k : ℕ) (r : Option ℕ) (judged : Fixed b i (bytes "character=") r) where
  pub numbered : (j : ℕ) → r ≡ Some j → (s : Option ℕ) → Fixed b j (decimal k) s → (l : ℕ) → s ≡ Some l → (t : Option ℕ) → Fixed b l (10 ∷ []) t
      → NumberTold b i k t
  unfolding line
  numbered j here s digits l there t ended =
      tells-keyed b i (bytes "character=") _ _ (λ u. tt) r judged j here (behind_of t)
      (tells-keyed b j (decimal k) _ _ (λ u. tt) s digits l there (behind_of t) (tells-end b l _ _ t ended))

  pub numbered-otherwise : (j : ℕ) → r ≡ Some j → (s : Option ℕ) → Fixed b j (decimal k) s → s ≡ None → NumberTold b i k None
  unfolding line behind_of
  numbered-otherwise j here s digits none =
      tells-keyed b i (bytes "character=") _ _ (λ u. tt) r judged j here nothing (tells-no-key b j (decimal k) _ (λ (u : Unit {0}). 10 ∷ []) (λ u. tt) s digits none)

  pub unnumbered : r ≡ None → NumberTold b i k None
  unfolding line behind_of
  unnumbered none = tells-no-key b i (bytes "character=") _ (λ (u : Unit {0}). decimal k ++ (10 ∷ [])) (λ u. tt) r judged none

-- A text with a byte is not empty.
no_byte : (c : ℕ) (l : List ℕ) → c ∷ l ≡ [] → ⊥
no_byte c l e = let z : ◌≡◌ {A = ℕ} 0 1 = cc in omega arith

-- The line of a label.
module _ (b : List ℕ) (i : ℕ) (r : Option ℕ) (judged : Fixed b i (bytes "label=") r) where
  -- There is no label just if an LF stands where it would begin.
  label-empty : (j : ℕ) (l rest : List ℕ) → drop j b ≡ (escaped l ++ (10 ∷ [])) ++ rest → not (eqb (get_or b j 0) 10) ≡ not (is_empty l)
  unfolding escaped is_empty
  label-empty j [] rest e =
      let lf : get_or b j 0 ≡ 10 = ap (λ k. get_or b k 0) (sym (add-zero j)) ∙ sym (get_or-drop j b 0 0) ∙ ap (λ l. get_or l 0 0) e in
      ap not (eq-eqb (get_or b j 0) 10 lf)
  label-empty j (c ∷ l) rest e =
      ap not
      (ne_eqb (get_or b j 0) 10
      (λ lf. no_byte c l ((front 10 (drop (j + 1) b) (c ∷ l) rest (sym (drop-next b j (lf-within b j lf) ∙ ap (λ x. x ∷ drop (j + 1) b) lf) ∙ e)).line-end refl)))

  pub labelled-line : (j : ℕ) → r ≡ Some j → (s : Option ℕ) → Judges b j (λ l. sound_label l ≡ true) (λ l. escaped l ++ (10 ∷ [])) s
      → (k : ℕ) → s ≡ Some k → LabelTold b i (Some (k, (not (eqb (get_or b j 0) 10))))
  unfolding line flag_of behind_of
  labelled-line j here s told k there =
      let first : Tells b j (λ l. sound_label l ≡ true) (λ l. escaped l ++ (10 ∷ [])) (λ l. tt) (until k tt) =
      subst (λ a. Tells b j (λ l. sound_label l ≡ true) (λ l. escaped l ++ (10 ∷ [])) (λ l. tt) (behind_of a)) there (tells-end b j _ _ s told) in
      tells-keyed b i (bytes "label=") _ _ (λ l. not (is_empty l)) r judged j here _
      (tells-retold b j _ _ (λ l. tt) (λ l. not (is_empty l)) k tt _ (λ l rest g e. label-empty j l rest e) first)

  pub label-otherwise : (j : ℕ) → r ≡ Some j → (s : Option ℕ) → Judges b j (λ l. sound_label l ≡ true) (λ l. escaped l ++ (10 ∷ [])) s
      → s ≡ None → LabelTold b i None
  unfolding line flag_of behind_of
  label-otherwise j here s told none =
      tells-keyed b i (bytes "label=") _ _ (λ l. not (is_empty l)) r judged j here nothing
      (tells_none b j _ _ _ (λ l rest g e. wrong-no-end _ (sym none ∙ told.all l rest g e)))

  pub unlabelled : r ≡ None → LabelTold b i None
  unfolding line flag_of
  unlabelled none = tells-no-key b i (bytes "label=") _ (λ l. escaped l ++ (10 ∷ [])) (λ l. not (is_empty l)) r judged none

-- State labels, one behind another.
abbrev pub StatesLeft : List ℕ → ℕ → ℕ → ℕ → ℕ → Type 0
StatesLeft b i n at left = (next : ℕ) × Listing b StatesGood spell_state (λ s. tt {0}) (λ u v. tt {0}) i 1 n (tt {0}) at next left (tt {0})

module _ (b : List ℕ) (i n at left : ℕ) (walk : StatesLeft b i n at left) {less : ℕ} (some : left ≡ suc less) {r : Option ℕ}
    (judged : Judges b at (λ s. sound_name s ≡ true) (λ s. bytes "state=" ++ (escaped s ++ (10 ∷ []))) r) where
  -- One more stands there.
  pub states-step : (j : ℕ) → r ≡ Some j → StatesLeft b i n j less
  unfolding spell_state line behind_of
  states-step j here =
      (suc walk.0, listing_step b _ _ _ _ walk.1 some j tt (subst (λ a. Tells b at (λ s. sound_name s ≡ true) (λ s. line "state=" (escaped s) []) (λ s. tt) (behind_of a)) here (tells-end b at _ _ r judged)))

  -- None stands there.
  pub states-short : r ≡ None → StatesTold b i n None
  unfolding spell_state line behind_of
  states-short none =
      listing-short b _ _ _ _ walk.1 some (subst (λ a. Tells b at (λ s. sound_name s ≡ true) (λ s. line "state=" (escaped s) []) (λ s. tt) (behind_of a)) none (tells-end b at _ _ r judged))

-- None are left.
pub states-over : (b : List ℕ) (i n at left : ℕ) → StatesLeft b i n at left → left ≤ 0 → StatesTold b i n (Some at)
unfolding behind_of
states-over b i n at left walk over = listing-over b _ _ _ _ walk.1 over

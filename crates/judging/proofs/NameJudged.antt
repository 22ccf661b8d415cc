-- A name judged byte by byte: at each byte, what is judged behind it is judged of the rest of the name from it on. Assumes nothing.
use Rattle.std.specs.Prelude.{Some, None, Option}
use Prim.Native.Nat.{ℕ, ◌+◌, ◌≤◌, ◌<◌}
use Rattle.block.specs.Sound.{sound_name, sound_label}
use Rattle.judging.proofs.EscapedLines.{ended, unescape-ascii, plain-escaped, slash-escaped, no-line, front}
use Rattle.judging.proofs.JudgeLaws.{judges-none, judges-one, judges-on, judges-as}
use Rattle.judging.proofs.NameRests.{name-whole, name-settled}
use Rattle.judging.proofs.WideBlanks.{wide_below, wide-ended}
use Rattle.judging.specs.Judges.{Judges}
use Rattle.judging.specs.NameRest.{name_rest, unescape}
use Rattle.judging.specs.declared.names.Naming.{Naming}
use Rattle.lexer.proofs.Basics.{chosen, not-both, or_left, or_right}
use Rattle.lexer.proofs.ListLaws.{drop-next, some-within}
use Rattle.lexer.specs.Base.{pick, is_empty}
use Rattle.lexer.specs.Classes.{wide_blank}
use Rattle.record.specs.Spell.{escaped}
use borrow.Author.Tests.{leb-false, eqb-false, ne_eqb}
use lib.Dec.{leb, eqb}
use lib.ListN.{length, get_or, drop, drop_of_length-le}
use lib.Seq.{get_or-drop}
use mathlib.Core.Bool.{Bool, true, false, ◌||◌}
use mathlib.Core.List.{List, [], ◌∷◌, ◌++◌}
use mathlib.Core.Path.{◌≡◌, refl, sym, ap, ◌∙◌}
use native.Mathlib.Nat.{add-zero}
use native.Mathlib.Omega.{arith}

-- The byte at a place, or 0 behind the end.
abbrev byte : List ℕ → ℕ → ℕ
byte b i = get_or b i 0

-- An LF stands within the list.
pub lf-within : (l : List ℕ) (i : ℕ) → get_or l i 0 ≡ 10 → i < length l
lf-within l i lf = some-within l i (λ e. omega arith)

-- A line at a place whose text passes a test.
abbrev pub Lined : List ℕ → ℕ → (List ℕ → Bool) → Option ℕ → Type 0
Lined b i test r = Judges b i (λ n. test n ≡ true) ended r

-- Where an LF stands, the text of a line is empty.
module _ (b : List ℕ) (i : ℕ) (test : List ℕ → Bool) (lf : get_or b i 0 ≡ 10) where
  here : drop i b ≡ 10 ∷ drop (i + 1) b
  here = drop-next b i (lf-within b i lf) ∙ ap (λ c. c ∷ drop (i + 1) b) lf

  only : (n rest : List ℕ) → drop i b ≡ ended n ++ rest → n ≡ []
  only n rest e = (front 10 (drop (i + 1) b) n rest (sym here ∙ e)).line-end refl

  -- It is a line if the empty text passes the test.
  pub line-over : Lined b i test (pick (test []) (Some (i + 1)) None)
  unfolding escaped
  line-over =
      chosen (Lined b i test) (test [])
      (λ t. judges-one b i _ ended [] (drop (i + 1) b) t here (λ n rest g e. ap (λ m. length (ended m)) (only n rest e)))
      (λ f. judges-none b i _ ended (λ n rest g e. not-both f (ap test (sym (only n rest e)) ∙ g)))

-- Behind the end no line stands.
pub line-past : (b : List ℕ) (i : ℕ) (test : List ℕ → Bool) → length b ≤ i → Lined b i test None
line-past b i test past = judges-none b i _ ended (λ n rest g e. no-line n rest (sym (drop_of_length-le b past) ∙ e))

-- A line whose first byte is itself, and two tests that agree: one of the text, and one of what stands behind that byte in the text.
module _ (b : List ℕ) (i : ℕ) (lt : i < length b) (no-lf : byte b i ≡ 10 → ⊥) (no_slash : byte b i ≡ 92 → ⊥) (test more : List ℕ → Bool) (wide : Bool)
    (seen : wide ≡ wide_blank (byte b i) (drop (i + 1) b)) (step : (n : List ℕ) → wide_blank (byte b i) n ≡ wide → test (byte b i ∷ n) ≡ more n) where
  -- the byte is neither an LF nor a backslash
  lf : eqb (byte b i) 10 ≡ false
  lf = ne_eqb (byte b i) 10 no-lf

  slash : eqb (byte b i) 92 ≡ false
  slash = ne_eqb (byte b i) 92 no_slash

  -- White_Space begins with it in the text just if it does in the line
  same-wide : (n rest : List ℕ) → drop (i + 1) b ≡ ended n ++ rest → wide_blank (byte b i) n ≡ wide
  same-wide n rest e = sym (wide-ended (byte b i) n rest) ∙ ap (wide_blank (byte b i)) (sym e) ∙ sym seen

  -- What the second test judges behind the byte, the first judges from the byte on.
  pub line_plain : (r : Option ℕ) → Lined b (i + 1) more r → Lined b i test r
  line_plain =
      judges-on b i (i + 1) (byte b i ∷ []) _ ended _ ended (λ n. byte b i ∷ n) refl (drop-next b i lt) (λ n. ap (λ l. l ++ (10 ∷ [])) (plain-escaped (byte b i) n lf slash))
      (λ n rest e. let s = step n (same-wide n rest e) in ((λ g. s ∙ g), (λ g. sym s ∙ g)))
      (λ n rest g e. (front (byte b i) (drop (i + 1) b) n rest (sym (drop-next b i lt) ∙ e)).plain lf slash)

-- A line whose first byte is a backslash, and what that means before the byte behind it.
module _ (b : List ℕ) (i : ℕ) (lt : i < length b) (slash : get_or b i 0 ≡ 92) (d : ℕ) (meant : d ≡ unescape (get_or b (i + 1) 0)) where
  -- the backslash, and what it means
  first : drop i b ≡ 92 ∷ drop (i + 1) b
  first = drop-next b i lt ∙ ap (λ c. c ∷ drop (i + 1) b) slash

  second : unescape (get_or (drop (i + 1) b) 0 0) ≡ d
  second = ap unescape (get_or-drop (i + 1) b 0 0 ∙ ap (λ k. get_or b k 0) (add-zero (i + 1))) ∙ sym meant

  -- that begins the text
  begins : (n rest : List ℕ) → drop i b ≡ ended n ++ rest → (m : List ℕ) × (n ≡ d ∷ m) × (d ≡ 0 → ⊥)
  begins n rest e = rw second at ((front 92 (drop (i + 1) b) n rest (sym first ∙ e)).slash refl)

  -- Where it is none, no line stands.
  pub line-no-escape : (test : List ℕ → Bool) → d ≡ 0 → Lined b i test None
  line-no-escape test none = judges-none b i _ ended (λ n rest g e. (begins n rest e).2 none)

  module _ (some : d ≡ 0 → ⊥) where
    -- Where it is a byte, both bytes stand within the list.
    pub escape-within : i + 1 < length b
    unfolding unescape pick
    escape-within = some-within b (i + 1) (λ e. some (meant ∙ rw e))

    both : drop i b ≡ 92 ∷ get_or b (i + 1) 0 ∷ drop (i + 2) b
    both =
        let next : i + 1 + 1 ≡ i + 2 = omega arith in
        first ∙ ap (λ l. 92 ∷ l) (drop-next b (i + 1) escape-within ∙ ap (λ k. get_or b (i + 1) 0 ∷ drop k b) next)

    -- and it is escaped so
    spells : (n : List ℕ) → escaped (d ∷ n) ≡ 92 ∷ get_or b (i + 1) 0 ∷ escaped n
    spells n = ap (λ k. escaped (k ∷ n)) meant ∙ slash-escaped (get_or b (i + 1) 0) n (λ e. some (meant ∙ e))

    -- Two tests agree: one of the text, and one of what stands behind that byte in the text. What the second judges behind both bytes, the first judges
    -- from the backslash on.
    pub line-escape : (test more : List ℕ → Bool) → ((n : List ℕ) → wide_blank d n ≡ false → test (d ∷ n) ≡ more n) → (r : Option ℕ)
        → Lined b (i + 2) more r → Lined b i test r
    line-escape test more step =
        judges-on b i (i + 2) (92 ∷ get_or b (i + 1) 0 ∷ []) _ ended _ ended (λ n. d ∷ n) refl both (λ n. ap (λ l. l ++ (10 ∷ [])) (spells n))
        (λ n rest e. let s = step n (narrow n) in ((λ g. s ∙ g), (λ g. sym s ∙ g)))
        (λ n rest g e. let (m, same, _) = begins n rest e in (m, same))
      where
        narrow : (n : List ℕ) → wide_blank d n ≡ false
        narrow n = wide_below d n (omega (arith, meant, unescape-ascii (get_or b (i + 1) 0)))

-- Two tests that agree on each text judge alike.
line-alike : (b : List ℕ) (i : ℕ) (test more : List ℕ → Bool) → ((n rest : List ℕ) → drop i b ≡ ended n ++ rest → test n ≡ more n) → (r : Option ℕ)
    → Lined b i more r → Lined b i test r
line-alike b i test more same =
    judges-as b i _ ended _ ended (λ n. n) (λ n. refl)
    (λ n rest e. let s = same n rest e in ((λ g. s ∙ g), (λ g. sym s ∙ g)))
    (λ n rest g e. (n, refl))

-- Where no LF stands, a label is a name.
pub label-name : (b : List ℕ) (i : ℕ) → (get_or b i 0 ≡ 10 → ⊥) → (r : Option ℕ) → Lined b i sound_name r → Lined b i sound_label r
unfolding sound_label is_empty escaped
label-name b i no-lf = line-alike b i sound_label sound_name same
  where
    same : (n rest : List ℕ) → drop i b ≡ ended n ++ rest → sound_label n ≡ sound_name n
    same [] rest e = absurd (no-lf (ap (λ k. get_or b k 0) (sym (add-zero i)) ∙ sym (get_or-drop i b 0 0) ∙ ap (λ l. get_or l 0 0) e))
    same (x ∷ m) rest e = refl

-- What the turns keep: what is judged from here on, of what is open, is judged of a line from its first byte on, by a test of its whole text.
pub record Walking (b : List ℕ) (i : ℕ) (whole : List ℕ → Bool) (s : Naming) (at : ℕ) : Type 0 where
  pub back : (r : Option ℕ) → Lined b at (name_rest s) r → Lined b i whole r

-- At the first byte of a name, nothing is open.
pub walking_start : (b : List ℕ) (i : ℕ) (s : Naming) → s.more ≡ 0 → s.low ≡ 128 → s.high ≡ 191 → s.blank ≡ true → Walking b i sound_name s i
walking_start b i s more low high all = record { back = line-alike b i sound_name (name_rest s) (λ n rest e. sym (name-whole s n more low high all)) }

-- Is a byte no ASCII byte, an LF, a backslash, or one that no name holds?
abbrev pub ends-run : ℕ → Bool
ends-run c = leb 128 c || eqb c 10 || eqb c 92 || (eqb c 95 || eqb c 13)

-- What a byte of a run is not.
in-run : (c : ℕ) → ends-run c ≡ false → (c < 128) × (c ≡ 10 → ⊥) × (c ≡ 92 → ⊥) × (eqb c 95 || eqb c 13 ≡ false)
in-run c h =
    let three = or_left (leb 128 c || eqb c 10 || eqb c 92) (eqb c 95 || eqb c 13) h in
    let two = or_left (leb 128 c || eqb c 10) (eqb c 92) three in (
      leb-false 128 c (or_left (leb 128 c) (eqb c 10) two),
      eqb-false c 10 (or_right (leb 128 c) (eqb c 10) two),
      eqb-false c 92 (or_right (leb 128 c || eqb c 10) (eqb c 92) three),
      or_right (leb 128 c || eqb c 10 || eqb c 92) (eqb c 95 || eqb c 13) h,
    )

module _ (b : List ℕ) (i : ℕ) (whole : List ℕ → Bool) (s : Naming) (at : ℕ) (k : Walking b i whole s at) where
  -- Bytes are passed: what is judged behind them is judged from here on.
  pub walking-turn : (t : Naming) (next : ℕ) → ((r : Option ℕ) → Lined b next (name_rest t) r → Lined b at (name_rest s) r) → Walking b i whole t next
  walking-turn t next on = record { back = λ r judged. k.back r (on r judged) }

  -- An ASCII byte is passed that leaves open what was.
  pub walking-settled : at < length b → s.more ≡ 0 → s.blank ≡ false → ends-run (byte b at) ≡ false → Walking b i whole s (at + 1)
  walking-settled lt none seen h =
      let (small, lf, slash, plain) = in-run (byte b at) h in
      walking-turn s (at + 1) (line_plain b at lt lf slash (name_rest s) (name_rest s) _ refl (λ n w. name-settled s (byte b at) n none seen small plain))

-- The first four lines of a record: what judging words, counts and symbols tells. Assumes nothing.
use Rattle.std.specs.Prelude.{Some, None, Option}
use Prim.Native.Nat.{ℕ, ◌+◌, ◌-◌, ◌≤◌, ◌<◌}
use Rattle.block.specs.Blocks.{is_ordered}
use Rattle.block.specs.Dna.{acgt}
use Rattle.block.specs.Format.{all_valid}
use Rattle.block.specs.Sound.{distinct, most_symbols, sound_symbols}
use Rattle.block.specs.declared.data.DataType.{DataType}
use Rattle.block.specs.declared.data.TaxonNumber.{TaxonNumber}
use Rattle.block.specs.declared.model.CharacterOrdering.{CharacterOrdering}
use Rattle.judging.proofs.JudgeLaws.{wrong-no-end}
use Rattle.naming.proofs.RowLaws.{drop-behind}
use Rattle.judging.proofs.LinesTold.{Fixed}
use Rattle.judging.proofs.NameJudged.{lf-within}
use Rattle.judging.proofs.RowsTold.{line-behind}
use Rattle.judging.proofs.SymbolRuns.{Fresh, run-fresh, run-whole}
use Rattle.judging.proofs.TellLaws.{no_end, same-told, tells_as, tells-failed, tells-keyed, tells-no-first, tells-no-key, tells_none, tells-passed, tells-same, tells-then, tells-untested, tells-value}
use Rattle.judging.specs.Judges.{Stands}
use Rattle.judging.specs.Lists.{spelled_all}
use Rattle.judging.specs.Opening.{Apart, BehindTaxa, BehindType, CountGood, CountTold, Opening, OpeningGood, OpeningTold, Sizes, StandardTold, SymbolsTold, WordTold, headed_of, opened, opening_sizes, run_of, spell_opening}
use Rattle.judging.specs.Parts.{KeyedNumber, OrderTold, PlainTold, plain_character, spell_counted, spell_lines}
use Rattle.judging.specs.Tells.{Part, nothing, until, Tells, flag_of, number_of}
use Rattle.judging.specs.declared.heads.Head.{Head}
use Rattle.lexer.proofs.Basics.{all-four, and_both, not-both, or-both, or_left, or_right, same_refl, same_true}
use Rattle.lexer.proofs.ListLaws.{drop-next}
use Rattle.lexer.specs.Base.{among, bytes, pick}
use Rattle.record.specs.Decimal.{decimal, decimal_from, digit}
use Rattle.record.specs.Spell.{escaped, line, order_word, type_word}
use borrow.Author.Tests.{le-leb, le-ltb, leb-true, ltb-false}
use lib.Dec.{leb, ltb}
use lib.ListN.{length, drop, get_or, take, length-append, length-drop, take-append-drop}
use lib.Seq.{drop-drop, get_or-drop, length-take-le}
use mathlib.Core.Bool.{Bool, true, false, ◌||◌}
use mathlib.Core.List.{List, [], ◌∷◌, ◌++◌, append_assoc}
use mathlib.Core.Path.{◌≡◌, refl, sym, ap, ◌∙◌, subst}
use native.Mathlib.Nat.{add-zero}
use native.Mathlib.Omega.{arith}

-- One of two words, of which neither begins with the other.
module _ (b : List ℕ) (i : ℕ) (first second : List ℕ) (apart : Apart first second) (r : Option ℕ) (judged : Fixed b i first r) where
  abbrev word : Bool → List ℕ
  word x = pick x second first

  pub word_first : (j : ℕ) → r ≡ Some j → WordTold b i first second (Some (j, false))
  unfolding flag_of pick
  word_first j here = record { found = found; all = all }
    where
      s : Stands b i (λ (u : Unit {0}). Unit {0}) (λ u. first) j
      s = judged.found j here

      found : (k : ℕ) (v : Bool) → until j false ≡ until k v → (t : Stands b i (λ (x : Bool). Unit {0}) word k) × (v ≡ t.what)
      found k v e = let (jk, fv) = same-told e in (record { what = false; sound = tt; here = rw jk at s.here; end = rw jk at s.end }, sym fv)

      all : (x : Bool) (rest : List ℕ) → Unit {0} → drop i b ≡ word x ++ rest → until j false ≡ until (i + length (word x)) x
      all false rest g e = ap (λ n. until n false) s.end
      all true rest g e = absurd (apart (drop j b) rest (sym s.here ∙ e))

  module _ (none : r ≡ None) (t : Option ℕ) (other : Fixed b i second t) where
    pub word-second : (j : ℕ) → t ≡ Some j → WordTold b i first second (Some (j, true))
    unfolding flag_of pick
    word-second j here = record { found = found; all = all }
      where
        s : Stands b i (λ (u : Unit {0}). Unit {0}) (λ u. second) j
        s = other.found j here

        found : (k : ℕ) (v : Bool) → until j true ≡ until k v → (t : Stands b i (λ (x : Bool). Unit {0}) word k) × (v ≡ t.what)
        found k v e = let (jk, tv) = same-told e in (record { what = true; sound = tt; here = rw jk at s.here; end = rw jk at s.end }, sym tv)

        all : (x : Bool) (rest : List ℕ) → Unit {0} → drop i b ≡ word x ++ rest → until j true ≡ until (i + length (word x)) x
        all false rest g e = absurd (wrong-no-end _ (sym none ∙ judged.all tt rest tt e))
        all true rest g e = ap (λ n. until n true) s.end

    pub word-neither : t ≡ None → WordTold b i first second None
    unfolding flag_of pick
    word-neither nor = tells_none b i _ _ _ neither
      where
        neither : (x : Bool) (rest : List ℕ) → Unit {0} → drop i b ≡ word x ++ rest → ⊥
        neither false rest g e = wrong-no-end _ (sym none ∙ judged.all tt rest tt e)
        neither true rest g e = wrong-no-end _ (sym nor ∙ other.all tt rest tt e)

-- One of two words, one for each type of a character.
ordering-told : (b : List ℕ) (i : ℕ) (spelled : CharacterOrdering → List ℕ) (r : Option (ℕ × Bool)) (first second : List ℕ)
    → spelled CharacterOrdering.Unordered ≡ first → spelled CharacterOrdering.Ordered ≡ second → WordTold b i first second r
    → Tells b i (λ (o : CharacterOrdering). Unit {0}) spelled is_ordered (flag_of r)
unfolding is_ordered pick
ordering-told b i spelled r first second unordered ordered = tells-same b i (λ o. Unit {0}) spelled is_ordered made spells (λ x g. tt) tells maker (flag_of r)
  where
    made : Bool → CharacterOrdering
    made false = CharacterOrdering.Unordered
    made true = CharacterOrdering.Ordered

    spells : (x : Bool) → Unit {0} → spelled (made x) ≡ pick x second first
    spells false g = unordered
    spells true g = ordered

    tells : (x : Bool) → Unit {0} → is_ordered (made x) ≡ x
    tells false g = refl
    tells true g = refl

    maker : (o : CharacterOrdering) → Unit {0} → (x : Bool) × Unit {0} × (o ≡ made x)
    maker CharacterOrdering.Unordered g = (false, tt, refl)
    maker CharacterOrdering.Ordered g = (true, tt, refl)

-- The line of a character's type; and all lines behind the number of one without labels.
pub order-told : (b : List ℕ) (i : ℕ) (r : Option (ℕ × Bool))
    → (Apart (bytes "order=UNORD\n") (bytes "order=ORD\n") → WordTold b i (bytes "order=UNORD\n") (bytes "order=ORD\n") r) → OrderTold b i r
unfolding line order_word bytes
order-told b i r told =
    ordering-told b i (λ o. line "order=" (order_word o) []) r _ _ refl refl
    (told (λ s t e. let z : ◌≡◌ {A = ℕ} 85 79 = ap (λ l. get_or l 6 0) e in omega (arith, z)))

pub plain-told : (b : List ℕ) (i : ℕ) (r : Option (ℕ × Bool))
    → (Apart (bytes "label=\norder=UNORD\nstates=0\n") (bytes "label=\norder=ORD\nstates=0\n")
    → WordTold b i (bytes "label=\norder=UNORD\nstates=0\n") (bytes "label=\norder=ORD\nstates=0\n") r) → PlainTold b i r
unfolding plain_character spell_lines spell_counted spelled_all line order_word escaped decimal decimal_from digit bytes
plain-told b i r told =
    ordering-told b i (λ o. spell_lines (plain_character o)) r _ _ refl refl
    (told (λ s t e. let z : ◌≡◌ {A = ℕ} 85 79 = ap (λ l. get_or l 13 0) e in omega (arith, z)))

-- A count that is not 0.
module _ (b : List ℕ) (i : ℕ) (key : List ℕ) (r : Option (ℕ × ℕ)) (judged : KeyedNumber b i key r) where
  abbrev keyed : ℕ → List ℕ
  keyed v = key ++ (decimal v ++ (10 ∷ []))

  module _ (n j : ℕ) (here : r ≡ Some (n, j)) where
    number : Tells b i (λ v. v ≤ 1048576) keyed (λ v. v) (until j n)
    unfolding number_of
    number = subst (λ a. KeyedNumber b i key a) here judged

    pub count-some : (n ≡ 0 → ⊥) → CountTold b i key (Some (n, j))
    unfolding number_of
    count-some some =
        tells-passed b i (λ v. v ≤ 1048576) keyed (λ v. v) (leb 1)
        (λ v rest g e. let is : n ≡ v = tells-value b i _ _ _ j n number v rest g e in le-leb 1 v (omega (arith, is))) (until j n) number

    pub count-zero : n ≡ 0 → CountTold b i key None
    unfolding number_of
    count-zero zero =
        tells-failed b i (λ v. v ≤ 1048576) keyed (λ v. v) (leb 1)
        (λ v rest g e. let is : 0 ≡ v = sym zero ∙ tells-value b i _ _ _ j n number v rest g e in rw (sym is) refl)

  pub count_none : r ≡ None → CountTold b i key None
  unfolding number_of
  count_none none = tells-untested b i (λ v. v ≤ 1048576) keyed (λ v. v) (leb 1) (subst (λ a. KeyedNumber b i key a) none judged)

-- The symbols of STANDARD behind their key, and where the run of valid symbols that are all different ends.
module _ (b : List ℕ) (i end : ℕ) (run : end ≡ i + run_of [] (drop i b)) where
  abbrev Good : List ℕ → Type 0
  Good s = sound_symbols DataType.Standard s false ≡ true

  -- The symbols of a line are the whole run.
  symbols-run : (s rest : List ℕ) → Good s → drop i b ≡ (s ++ (10 ∷ [])) ++ rest → end ≡ i + length s
  unfolding sound_symbols among
  symbols-run s rest good e =
      let (two, most, valid, different) = all-four (leb 2 (length s)) (leb (length s) (most_symbols false)) (all_valid s) (distinct s) good in
      let fresh : Fresh [] s = record { valid = valid; different = different; new = λ x t. refl } in
      run ∙ ap (λ n. i + n) (ap (run_of []) (e ∙ append_assoc s (10 ∷ []) rest) ∙ run-whole [] s rest fresh)

  -- Behind them stands the LF.
  symbols-end : (s rest : List ℕ) → Good s → drop i b ≡ (s ++ (10 ∷ [])) ++ rest → get_or b end 0 ≡ 10
  symbols-end s rest good e =
      let there : drop end b ≡ 10 ∷ rest = rw (symbols-run s rest good e) (drop-behind b i s (10 ∷ rest) (e ∙ append_assoc s (10 ∷ []) rest)) in
      ap (λ k. get_or b k 0) (sym (add-zero end)) ∙ sym (get_or-drop end b 0 0) ∙ ap (λ l. get_or l 0 0) there

  -- Another byte stands there.
  pub symbols-other : (get_or b end 0 ≡ 10 → ⊥) → StandardTold b i None
  unfolding number_of
  symbols-other other = tells_none b i _ _ _ (λ s rest good e. other (symbols-end s rest good e))

  -- There are too few, or too many.
  pub symbols-not-so-many : ltb (end - i) 2 || ltb 73 (end - i) ≡ true → StandardTold b i None
  unfolding number_of sound_symbols most_symbols
  symbols-not-so-many bad = tells_none b i _ _ _ none
    where
      none : (s rest : List ℕ) → Good s → drop i b ≡ (s ++ (10 ∷ [])) ++ rest → ⊥
      none s rest good e =
          let (two, most, valid, different) = all-four (leb 2 (length s)) (leb (length s) 73) (all_valid s) (distinct s) good in
          let size : end - i ≡ length s = omega (arith, symbols-run s rest good e) in
          let low : ltb (end - i) 2 ≡ false = le-ltb (end - i) 2 (omega (arith, leb-true 2 (length s) two, size)) in
          let high : ltb 73 (end - i) ≡ false = le-ltb 73 (end - i) (omega (arith, leb-true (length s) 73 most, size)) in
          not-both (or-both low high) bad

  -- So many stand there, and the LF.
  pub symbols-whole : get_or b end 0 ≡ 10 → ltb (end - i) 2 || ltb 73 (end - i) ≡ false → StandardTold b i (Some ((end - i), (end + 1)))
  unfolding number_of sound_symbols most_symbols
  symbols-whole lf size = record { found = found; all = all }
    where
      symbols : List ℕ
      symbols = take (run_of [] (drop i b)) (drop i b)

      within : end < length b
      within = lf-within b end lf

      long : length symbols ≡ end - i
      long =
          length-take-le (run_of [] (drop i b)) (drop i b) (rw (length-drop i b) (omega (arith, run, within))) ∙ omega (arith, run)

      good : Good symbols
      good =
          let f = run-fresh [] (drop i b) in
          let low : 2 ≤ length symbols = omega (arith, long, ltb-false (end - i) 2 (or_left (ltb (end - i) 2) (ltb 73 (end - i)) size)) in
          let high : length symbols ≤ 73 = omega (arith, long, ltb-false 73 (end - i) (or_right (ltb (end - i) 2) (ltb 73 (end - i)) size)) in
          and_both (and_both (and_both (le-leb 2 (length symbols) low) (le-leb (length symbols) 73 high)) f.valid) f.different

      stands : drop i b ≡ (symbols ++ (10 ∷ [])) ++ drop (end + 1) b
      stands =
          let behind : drop (run_of [] (drop i b)) (drop i b) ≡ 10 ∷ drop (end + 1) b =
          drop-drop (run_of [] (drop i b)) i b ∙ ap (λ n. drop n b) (sym run) ∙ drop-next b end within ∙ ap (λ c. c ∷ drop (end + 1) b) lf in
          sym (take-append-drop (run_of [] (drop i b)) (drop i b)) ∙ ap (λ l. symbols ++ l) behind ∙ sym (append_assoc symbols (10 ∷ []) (drop (end + 1) b))

      reach : end + 1 ≡ i + length (symbols ++ (10 ∷ []))
      reach = simp length-append (omega (arith, long, run))

      found : (j v : ℕ) → until (end + 1) (end - i) ≡ until j v → (s : Stands b i Good (λ s. s ++ (10 ∷ [])) j) × (v ≡ length s.what)
      found j v e =
          let (ej, nv) = same-told e in
          (record { what = symbols; sound = good; here = rw ej at stands; end = rw ej at reach }, sym nv ∙ sym long)

      all : (s rest : List ℕ) → Good s → drop i b ≡ (s ++ (10 ∷ [])) ++ rest → until (end + 1) (end - i) ≡ until (i + length (s ++ (10 ∷ []))) (length s)
      all s rest g e =
          let whole = symbols-run s rest g e in
          let far : end + 1 ≡ i + length (s ++ (10 ∷ [])) = simp length-append (omega (arith, whole)) in
          let size : end - i ≡ length s = omega (arith, whole) in
          rw (far, size) refl

-- The line of the symbols of STANDARD.
module _ (b : List ℕ) (i : ℕ) (t : DataType) (is : t ≡ DataType.Standard) (r : Option ℕ) (judged : Fixed b i (bytes "symbols=") r) where
  pub symbols-keyed : (j : ℕ) → r ≡ Some j → (s : Option (ℕ × ℕ)) → StandardTold b j s → SymbolsTold b i t s
  unfolding line
  symbols-keyed j here s told = rw is (tells-keyed b i (bytes "symbols=") _ _ length r judged j here (number_of s) told)

  pub symbols-no-key : r ≡ None → SymbolsTold b i t None
  unfolding line number_of
  symbols-no-key none = rw is (tells-no-key b i (bytes "symbols=") _ (λ s. s ++ (10 ∷ [])) length r judged none)

-- The line of the symbols of DNA.
module _ (b : List ℕ) (i : ℕ) (t : DataType) (is : t ≡ DataType.Dna) (r : Option ℕ) (judged : Fixed b i (bytes "symbols=ACGT\n") r) where
  pub symbols-dna : (j : ℕ) → r ≡ Some j → SymbolsTold b i t (Some (4, j))
  unfolding line number_of sound_symbols bytes acgt
  symbols-dna j here = rw is (record { found = found; all = all })
    where
      s : Stands b i (λ (u : Unit {0}). Unit {0}) (λ u. bytes "symbols=ACGT\n") j
      s = judged.found j here

      found : (k v : ℕ) → until j 4 ≡ until k v
          → (s : Stands b i (λ s. sound_symbols DataType.Dna s false ≡ true) (λ s. line "symbols=" s []) k) × (v ≡ length s.what)
      found k v e =
          let (jk, nv) = same-told e in
          (record { what = acgt; sound = same_refl acgt; here = rw jk at s.here; end = rw jk at s.end }, sym nv)

      all : (x rest : List ℕ) → sound_symbols DataType.Dna x false ≡ true → drop i b ≡ line "symbols=" x [] ++ rest → until j 4 ≡ until (i + length (line "symbols=" x [])) (length x)
      all x rest g e = let known : x ≡ acgt = same_true x acgt g in rw (known, s.end) refl

  pub symbols-no-dna : r ≡ None → SymbolsTold b i t None
  unfolding line number_of sound_symbols bytes acgt
  symbols-no-dna none = rw is (tells_none b i _ _ _ no-dna)
    where
      no-dna : (x rest : List ℕ) → sound_symbols DataType.Dna x false ≡ true → drop i b ≡ line "symbols=" x [] ++ rest → ⊥
      no-dna x rest g e = let known : x ≡ acgt = same_true x acgt g in wrong-no-end _ (sym none ∙ judged.all tt rest tt (rw known at e))

-- The count of characters and the symbols.
module _ (b : List ℕ) (i : ℕ) (t : DataType) (n : TaxonNumber) (r : Option (ℕ × ℕ)) (judged : CountTold b i (bytes "characters=") r) where
  abbrev counted : ℕ → List ℕ
  counted v = bytes "characters=" ++ (decimal v ++ (10 ∷ []))

  abbrev Symbols : List ℕ → Type 0
  Symbols s = sound_symbols t s false ≡ true

  abbrev lined : List ℕ → List ℕ
  lined s = line "symbols=" s []

  abbrev sizes : ℕ → List ℕ → Sizes
  sizes v s = opening_sizes (opened t n.0 (v, s))

  as-behind-taxa : (s : Part Sizes) → Tells b i (λ (p : ℕ × List ℕ). CountGood p.0 × Symbols p.1) (λ p. counted p.0 ++ lined p.1) (λ p. sizes p.0 p.1) s
      → Tells b i (λ (p : ℕ × List ℕ). CountGood p.0 × Symbols p.1) (λ p. line "characters=" (decimal p.0) (lined p.1)) (λ p. sizes p.0 p.1) s
  unfolding line
  as-behind-taxa =
      tells-same b i _ _ _ (λ (p : ℕ × List ℕ). p) (λ p g. line-behind "characters=" (decimal p.0) (lined p.1)) (λ p g. g) (λ p g. refl) (λ p g. (p, g, refl))

  behind-characters : (v j : ℕ) → r ≡ Some (v, j) → (s : Part Sizes) → Tells b j Symbols lined (sizes v) s
      → Tells b i (λ (p : ℕ × List ℕ). CountGood p.0 × Symbols p.1) (λ p. line "characters=" (decimal p.0) (lined p.1)) (λ p. sizes p.0 p.1) s
  unfolding number_of
  behind-characters v j here s told =
      as-behind-taxa s (tells-then b i CountGood counted (λ v. v) (λ v. Symbols) (λ v. lined) sizes j v s (subst (λ a. CountTold b i (bytes "characters=") a) here judged) told)

  pub behind-taxa-whole : (v j : ℕ) → r ≡ Some (v, j) → (s : Option (ℕ × ℕ)) → SymbolsTold b j t s → (states k : ℕ) → s ≡ Some (states, k)
      → (h : Head) → h.data_type ≡ t → h.taxa.0 ≡ n.0 → h.characters.0 ≡ v → h.states ≡ states → BehindTaxa b i t n (Some (k, h))
  unfolding number_of opening_sizes headed_of
  behind-taxa-whole v j here s told states k end h typed taxa characters counted =
      rw (typed, taxa, characters, counted)
      (behind-characters v j here _
      (tells_as b j Symbols lined (sizes v) (λ x. x) (λ m. record { data_type = t; taxa = n.0; characters = v; states = m }) (λ x g. refl) (λ x g. g) (λ x g. refl) (λ x g. (x, g, refl)) k states
      (subst (λ a. SymbolsTold b j t a) end told)))

  pub behind-taxa-no-symbols : (v j : ℕ) → r ≡ Some (v, j) → (s : Option (ℕ × ℕ)) → SymbolsTold b j t s → s ≡ None → BehindTaxa b i t n None
  unfolding number_of headed_of
  behind-taxa-no-symbols v j here s told none =
      behind-characters v j here nothing (tells_none b j _ _ _ (λ x rest g e. no_end ((subst (λ a. SymbolsTold b j t a) none told).all x rest g e)))

  pub behind-taxa-no-count : r ≡ None → BehindTaxa b i t n None
  unfolding number_of headed_of
  behind-taxa-no-count none =
      as-behind-taxa nothing (tells-no-first b i CountGood counted (λ v. v) (λ v. Symbols) (λ v. lined) sizes (subst (λ a. CountTold b i (bytes "characters=") a) none judged))

-- The count of taxa and what stands behind it.
module _ (b : List ℕ) (i : ℕ) (t : DataType) (r : Option (ℕ × ℕ)) (judged : CountTold b i (bytes "taxa=") r) where
  abbrev counting : ℕ → List ℕ
  counting v = bytes "taxa=" ++ (decimal v ++ (10 ∷ []))

  abbrev Others : ℕ × List ℕ → Type 0
  Others p = CountGood p.0 × (sound_symbols t p.1 false ≡ true)

  abbrev others : ℕ × List ℕ → List ℕ
  others p = line "characters=" (decimal p.0) (line "symbols=" p.1 [])

  as-behind-type : (s : Part Sizes)
      → Tells b i (λ (p : ℕ × (ℕ × List ℕ)). CountGood p.0 × Others p.1) (λ p. counting p.0 ++ others p.1) (λ p. opening_sizes (opened t p.0 p.1)) s
      → Tells b i (λ (p : ℕ × (ℕ × List ℕ)). CountGood p.0 × Others p.1) (λ p. line "taxa=" (decimal p.0) (others p.1)) (λ p. opening_sizes (opened t p.0 p.1)) s
  unfolding line
  as-behind-type =
      tells-same b i _ _ _ (λ (p : ℕ × (ℕ × List ℕ)). p) (λ p g. line-behind "taxa=" (decimal p.0) (others p.1)) (λ p g. g) (λ p g. refl) (λ p g. (p, g, refl))

  pub behind-type-whole : (v j : ℕ) → r ≡ Some (v, j) → (n : TaxonNumber) → n.0 ≡ v → (h : Option (ℕ × Head)) → BehindTaxa b j t n h → BehindType b i t h
  unfolding number_of
  behind-type-whole v j here n is h told =
      as-behind-type (headed_of h)
      (tells-then b i CountGood counting (λ v. v) (λ v. Others) (λ v. others) (λ v p. opening_sizes (opened t v p)) j v (headed_of h) (subst (λ a. CountTold b i (bytes "taxa=") a) here judged)
      (subst (λ m. Tells b j Others others (λ p. opening_sizes (opened t m p)) (headed_of h)) is told))

  pub behind-type-no-count : r ≡ None → BehindType b i t None
  unfolding number_of headed_of
  behind-type-no-count none =
      as-behind-type nothing
      (tells-no-first b i CountGood counting (λ v. v) (λ v. Others) (λ v. others) (λ v p. opening_sizes (opened t v p)) (subst (λ a. CountTold b i (bytes "taxa=") a) none judged))

-- The four lines.
module _ (b : List ℕ) (i : ℕ) (r : Option (ℕ × Bool))
    (judged : Apart (bytes "datatype=STANDARD\n") (bytes "datatype=DNA\n") → WordTold b i (bytes "datatype=STANDARD\n") (bytes "datatype=DNA\n") r) where
  abbrev typed : Bool → DataType
  typed x = pick x DataType.Dna DataType.Standard

  abbrev Lines : Type 0
  Lines = ℕ × (ℕ × List ℕ)

  abbrev GoodBehind : DataType → Lines → Type 0
  GoodBehind t p = CountGood p.0 × (CountGood p.1.0 × (sound_symbols t p.1.1 false ≡ true))

  abbrev lines : Lines → List ℕ
  lines p = line "taxa=" (decimal p.0) (line "characters=" (decimal p.1.0) (line "symbols=" p.1.1 []))

  abbrev typing : Bool → List ℕ
  typing x = pick x (bytes "datatype=DNA\n") (bytes "datatype=STANDARD\n")

  apart : Apart (bytes "datatype=STANDARD\n") (bytes "datatype=DNA\n")
  unfolding bytes
  apart s t e = let z : ◌≡◌ {A = ℕ} 83 68 = ap (λ l. get_or l 9 0) e in omega (arith, z)

  spells : (x : Bool) → line "datatype=" (type_word (typed x)) [] ≡ typing x
  unfolding line type_word pick bytes
  spells false = refl
  spells true = refl

  type-made : (t : DataType) → (x : Bool) × (t ≡ typed x)
  unfolding pick
  type-made DataType.Standard = (false, refl)
  type-made DataType.Dna = (true, refl)

  as-opening : (s : Part Sizes)
      → Tells b i (λ (p : Bool × Lines). Unit {0} × GoodBehind (typed p.0) p.1) (λ p. typing p.0 ++ lines p.1) (λ p. opening_sizes (opened (typed p.0) p.1.0 p.1.1)) s
      → Tells b i OpeningGood spell_opening opening_sizes s
  unfolding spell_opening
  as-opening =
      tells-same b i OpeningGood spell_opening opening_sizes (λ (p : Bool × Lines). opened (typed p.0) p.1.0 p.1.1)
      (λ p g. line-behind "datatype=" (type_word (typed p.0)) (lines p.1) ∙ ap (λ l. l ++ lines p.1) (spells p.0))
      (λ p g. record { taxa = g.1.0; characters = g.1.1.0; symbols = g.1.1.1 })
      (λ p g. refl)
      (λ o g. made o g (type-made o.data_type))
    where
      made : (o : Opening) → OpeningGood o → (x : Bool) × (o.data_type ≡ typed x)
          → (p : Bool × Lines) × (Unit {0} × GoodBehind (typed p.0) p.1) × (o ≡ opened (typed p.0) p.1.0 p.1.1)
      made o g (x, is) = (
        (x, (o.taxa, (o.characters, o.symbols))),
        (tt, (g.taxa, (g.characters, rw is at g.symbols))),
        ap (λ t. record { data_type = t; taxa = o.taxa; characters = o.characters; symbols = o.symbols }) is,
      )

  pub opening-whole : (j : ℕ) (x : Bool) → r ≡ Some (j, x) → (t : DataType) → t ≡ typed x → (h : Option (ℕ × Head)) → BehindType b j t h → OpeningTold b i h
  unfolding flag_of
  opening-whole j x here t is h told =
      as-opening (headed_of h)
      (tells-then b i (λ x. Unit {0}) typing (λ x. x) (λ x. GoodBehind (typed x)) (λ x. lines) (λ x p. opening_sizes (opened (typed x) p.0 p.1)) j x (headed_of h)
      (subst (λ a. Tells b i (λ x. Unit {0}) typing (λ x. x) (flag_of a)) here (judged apart)) (subst (λ t. BehindType b j t h) is told))

  pub opening-none : r ≡ None → OpeningTold b i None
  unfolding flag_of headed_of
  opening-none none =
      as-opening nothing
      (tells-no-first b i (λ x. Unit {0}) typing (λ x. x) (λ x. GoodBehind (typed x)) (λ x. lines) (λ x p. opening_sizes (opened (typed x) p.0 p.1))
      (subst (λ a. Tells b i (λ x. Unit {0}) typing (λ x. x) (flag_of a)) none (judged apart)))

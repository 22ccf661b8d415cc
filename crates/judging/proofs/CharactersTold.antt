-- The characters of a record: what judging their lines tells of each, and of all. Assumes nothing.
use Rattle.std.specs.Prelude.{Some, None, Option}
use Prim.Native.Nat.{ℕ, suc, ◌+◌, ◌-◌, ◌≤◌, ◌<◌}
use Rattle.block.specs.Blocks.{is_ordered}
use Rattle.block.specs.Reading.{Character}
use Rattle.block.specs.Sound.{sound_label}
use Rattle.block.specs.declared.model.CharacterOrdering.{CharacterOrdering}
use Rattle.judging.proofs.ListTold.{Listing, listing-over, listing-short, listing_start, listing_step}
use Rattle.judging.proofs.RowsTold.{line-behind}
use Rattle.judging.proofs.TellLaws.{no_end, tells_as, tells-no-first, tells_none, tells-same, tells-then}
use Rattle.judging.specs.Lists.{Listed, spelled_all}
use Rattle.judging.specs.Parts.{CharacterGood, CharacterTold, CharactersTold, CountedTold, Few, KeyedNumber, LabelTold, LinesTold, NumberTold, OrderTold, StatesGood, StatesTold, Tail, TailTold, character_marks, join_marks, no_marks, spell_counted, spell_lines, spell_one, spell_state, spell_tail, tail_marks}
use Rattle.judging.specs.Tells.{Marks, Part, nothing, until, Tells, behind_of, characters_of, flag_of, number_of}
use Rattle.lexer.specs.Base.{bytes, is_empty}
use Rattle.record.specs.Decimal.{decimal}
use Rattle.record.specs.Form.{any_label}
use Rattle.record.specs.Spell.{escaped, line, order_word}
use borrow.Author.Tests.{lt-ltb}
use lib.Dec.{ltb}
use lib.ListN.{length}
use mathlib.Core.Bool.{Bool, true, false, ◌||◌, not}
use mathlib.Core.List.{List, [], ◌∷◌, ◌++◌}
use mathlib.Core.Path.{◌≡◌, refl, sym, subst}
use native.Mathlib.Omega.{arith}

-- State labels behind their count.
module _ (b : List ℕ) (i most : ℕ) (small : most ≤ 1048576) (r : Option (ℕ × ℕ)) (judged : KeyedNumber b i (bytes "states=") r) where
  abbrev FewOf : ℕ → List (List ℕ) → Type 0
  FewOf n ss = Listed StatesGood 1 n ss × (n ≤ most)

  abbrev counted : ℕ → List ℕ
  counted n = bytes "states=" ++ (decimal n ++ (10 ∷ []))

  abbrev is_some : List (List ℕ) → Bool
  is_some ss = not (is_empty ss)

  as-counted : (s : Part Bool)
      → Tells b i (λ (p : ℕ × List (List ℕ)). (p.0 ≤ 1048576) × FewOf p.0 p.1) (λ p. counted p.0 ++ spelled_all spell_state 1 p.1) (λ p. is_some p.1) s
      → Tells b i (Few most) spell_counted is_some s
  unfolding spell_counted line
  as-counted =
      tells-same b i (Few most) spell_counted is_some (λ (p : ℕ × List (List ℕ)). p.1)
      (λ p g. rw g.1.0.count (line-behind "states=" (decimal p.0) (spelled_all spell_state 1 p.1)))
      (λ p g. record { few = omega (arith, g.1.0.count, g.1.1); each = g.1.0.each })
      (λ p g. refl)
      (λ ss g. ((length ss, ss), (omega (arith, g.few), (record { count = refl; each = g.each }, g.few)), refl))

  behind-count : (n j : ℕ) → r ≡ Some (n, j) → (s : Part Bool) → Tells b j (FewOf n) (spelled_all spell_state 1) is_some s → Tells b i (Few most) spell_counted is_some s
  unfolding number_of
  behind-count n j here s told =
      as-counted s
      (tells-then b i (λ v. v ≤ 1048576) counted (λ v. v) FewOf (λ v. spelled_all spell_state 1) (λ v. is_some) j n s (subst (λ a. KeyedNumber b i (bytes "states=") a) here judged) told)

  -- There are too many.
  pub states-many : (n j : ℕ) → r ≡ Some (n, j) → most < n → CountedTold b i most None
  unfolding flag_of
  states-many n j here many = behind-count n j here nothing (tells_none b j _ _ _ (λ ss rest g e. omega (arith, g.1)))

  -- As many stand there.
  there : (n : ℕ) (ss : List (List ℕ)) → length ss ≡ n → is_some ss ≡ ltb 0 n
  unfolding is_empty
  there n [] e = rw (sym e) refl
  there n (s ∷ ss) e = sym (lt-ltb 0 n (omega (arith, e)))

  pub states-counted : (n j : ℕ) → r ≡ Some (n, j) → n ≤ most → (s : Option ℕ) → StatesTold b j n s → (k : ℕ) → s ≡ Some k
      → CountedTold b i most (Some (k, (ltb 0 n)))
  unfolding flag_of behind_of
  states-counted n j here few s told k end =
      behind-count n j here (until k (ltb 0 n))
      (tells_as b j (FewOf n) (spelled_all spell_state 1) is_some (λ ss. ss) (λ (u : Unit {0}). ltb 0 n) (λ ss g. refl) (λ ss g. (g, few)) (λ ss g. there n ss g.count) (λ ss g. (ss, g.0, refl)) k tt
      (subst (λ a. StatesTold b j n a) end told))

  -- Fewer stand there.
  pub states-fewer : (n j : ℕ) → r ≡ Some (n, j) → (s : Option ℕ) → StatesTold b j n s → s ≡ None → CountedTold b i most None
  unfolding flag_of behind_of
  states-fewer n j here s told none =
      behind-count n j here nothing
      (tells_none b j _ _ _ (λ ss rest g e. no_end ((subst (λ a. StatesTold b j n a) none told).all ss rest g.0 e)))

  -- No count stands there.
  pub states-uncounted : r ≡ None → CountedTold b i most None
  unfolding flag_of number_of
  states-uncounted none =
      as-counted nothing
      (tells-no-first b i (λ v. v ≤ 1048576) counted (λ v. v) FewOf (λ v. spelled_all spell_state 1) (λ v. is_some) (subst (λ a. KeyedNumber b i (bytes "states=") a) none judged))

-- The type and the state labels.
module _ (b : List ℕ) (i : ℕ) (labelled : Bool) (most : ℕ) (r : Option (ℕ × Bool)) (judged : OrderTold b i r) where
  abbrev ordering : CharacterOrdering → List ℕ
  ordering o = line "order=" (order_word o) []

  abbrev marks : Bool → List (List ℕ) → Marks
  marks ordered ss = record { labelled = labelled || not (is_empty ss); ordered = ordered }

  as-tail : (s : Part Marks)
      → Tells b i (λ (p : CharacterOrdering × List (List ℕ)). Unit {0} × Few most p.1) (λ p. ordering p.0 ++ spell_counted p.1) (λ p. marks (is_ordered p.0) p.1) s
      → Tells b i (λ t. Few most t.states) spell_tail (tail_marks labelled) s
  unfolding spell_tail tail_marks
  as-tail =
      tells-same b i (λ t. Few most t.states) spell_tail (tail_marks labelled)
      (λ (p : CharacterOrdering × List (List ℕ)). record { ordering = p.0; states = p.1 })
      (λ p g. line-behind "order=" (order_word p.0) (spell_counted p.1))
      (λ p g. g.1)
      (λ p g. refl)
      (λ t g. ((t.ordering, t.states), (tt, g), refl))

  behind-order : (j : ℕ) (ordered : Bool) → r ≡ Some (j, ordered) → (s : Part Marks) → Tells b j (Few most) spell_counted (marks ordered) s
      → Tells b i (λ t. Few most t.states) spell_tail (tail_marks labelled) s
  unfolding flag_of
  behind-order j ordered here s told =
      as-tail s
      (tells-then b i (λ o. Unit {0}) ordering is_ordered (λ v. Few most) (λ v. spell_counted) marks j ordered s (subst (λ a. OrderTold b i a) here judged) told)

  pub tail-whole : (j : ℕ) (ordered : Bool) → r ≡ Some (j, ordered) → (s : Option (ℕ × Bool)) → CountedTold b j most s → (k : ℕ) (any : Bool) → s ≡ Some (k, any)
      → TailTold b i labelled most (Some (k, (labelled || any), ordered))
  unfolding flag_of characters_of
  tail-whole j ordered here s told k any end =
      behind-order j ordered here _
      (tells_as b j (Few most) spell_counted (marks ordered) (λ ss. ss) (λ x. record { labelled = labelled || x; ordered = ordered }) (λ ss g. refl) (λ ss g. g) (λ ss g. refl) (λ ss g. (ss, g, refl)) k any
      (subst (λ a. CountedTold b j most a) end told))

  pub tail-uncounted : (j : ℕ) (ordered : Bool) → r ≡ Some (j, ordered) → (s : Option (ℕ × Bool)) → CountedTold b j most s → s ≡ None → TailTold b i labelled most None
  unfolding flag_of characters_of
  tail-uncounted j ordered here s told none =
      behind-order j ordered here nothing (tells_none b j _ _ _ (λ ss rest g e. no_end ((subst (λ a. CountedTold b j most a) none told).all ss rest g e)))

  pub tail-unordered : r ≡ None → TailTold b i labelled most None
  unfolding flag_of characters_of
  tail-unordered none =
      as-tail nothing (tells-no-first b i (λ o. Unit {0}) ordering is_ordered (λ v. Few most) (λ v. spell_counted) marks (subst (λ a. OrderTold b i a) none judged))

-- The label, and the lines behind it.
module _ (b : List ℕ) (i most : ℕ) (r : Option (ℕ × Bool)) (judged : LabelTold b i r) where
  abbrev labelling : List ℕ → List ℕ
  labelling l = line "label=" (escaped l) []

  abbrev is_label : List ℕ → Bool
  is_label l = not (is_empty l)

  abbrev Label : List ℕ → Type 0
  Label l = sound_label l ≡ true

  abbrev TailFew : Tail → Type 0
  TailFew t = Few most t.states

  as-lines : (s : Part Marks)
      → Tells b i (λ (p : List ℕ × Tail). Label p.0 × TailFew p.1) (λ p. labelling p.0 ++ spell_tail p.1) (λ p. tail_marks (is_label p.0) p.1) s
      → Tells b i (CharacterGood most) spell_lines character_marks s
  unfolding spell_lines spell_tail tail_marks character_marks any_label
  as-lines =
      tells-same b i (CharacterGood most) spell_lines character_marks
      (λ (p : List ℕ × Tail). record { label = p.0; states = p.1.states; ordering = p.1.ordering })
      (λ p g. line-behind "label=" (escaped p.0) _)
      (λ p g. record { label = g.0; states = g.1 })
      (λ p g. refl)
      (λ c g. ((c.label, record { ordering = c.ordering; states = c.states }), (g.label, g.states), refl))

  pub lines-whole : (l : ℕ) (labelled : Bool) → r ≡ Some (l, labelled) → (t : Option (ℕ × Bool × Bool)) → TailTold b l labelled most t → LinesTold b i most t
  unfolding flag_of
  lines-whole l labelled here t tail =
      as-lines (characters_of t)
      (tells-then b i Label labelling is_label (λ v. TailFew) (λ v. spell_tail) tail_marks l labelled (characters_of t) (subst (λ a. LabelTold b i a) here judged) tail)

  pub lines-unlabelled : r ≡ None → LinesTold b i most None
  unfolding flag_of characters_of
  lines-unlabelled none =
      as-lines nothing (tells-no-first b i Label labelling is_label (λ v. TailFew) (λ v. spell_tail) tail_marks (subst (λ a. LabelTold b i a) none judged))

-- The number, and the lines behind it.
module _ (b : List ℕ) (i k most : ℕ) (r : Option ℕ) (judged : NumberTold b i k r) where
  abbrev numbering : List ℕ
  numbering = line "character=" (decimal k) []

  as-character : (s : Part Marks)
      → Tells b i (λ (p : Unit {0} × Character). Unit {0} × CharacterGood most p.1) (λ p. numbering ++ spell_lines p.1) (λ p. character_marks p.1) s
      → Tells b i (CharacterGood most) (spell_one k) character_marks s
  unfolding spell_one
  as-character =
      tells-same b i (CharacterGood most) (spell_one k) character_marks (λ (p : Unit {0} × Character). p.1) (λ p g. line-behind "character=" (decimal k) _) (λ p g. g.1)
      (λ p g. refl)
      (λ c g. ((tt, c), (tt, g), refl))

  pub character-whole : (j : ℕ) → r ≡ Some j → (t : Option (ℕ × Bool × Bool)) → LinesTold b j most t → CharacterTold b i k most t
  unfolding behind_of
  character-whole j here t lines =
      as-character (characters_of t)
      (tells-then b i (λ u. Unit {0}) (λ u. numbering) (λ u. tt {0}) (λ v. CharacterGood most) (λ v. spell_lines) (λ v. character_marks) j tt (characters_of t)
      (subst (λ a. NumberTold b i k a) here judged) lines)

  pub character-unnumbered : r ≡ None → CharacterTold b i k most None
  unfolding behind_of characters_of
  character-unnumbered none =
      as-character nothing
      (tells-no-first b i (λ u. Unit {0}) (λ u. numbering) (λ u. tt {0}) (λ v. CharacterGood most) (λ v. spell_lines) (λ v. character_marks)
      (subst (λ a. NumberTold b i k a) none judged))

-- What the turns over characters keep: what is judged of the characters that are left is judged of all.
pub record CharactersLeft (b : List ℕ) (i n most at : ℕ) (labelled ordered : Bool) (done : ℕ) : Type 0 where
  pub walk : most ≤ 1048576
      → Listing b (λ k. CharacterGood most) spell_one character_marks join_marks i 1 n no_marks at (done + 1) (n - done) (record { labelled = labelled; ordered = ordered })

-- One more is left than behind the next.
one_more : (n done : ℕ) → done < n → n - done ≡ suc (n - (done + 1))
one_more n done some = omega arith

module _ {b : List ℕ} {i n most at : ℕ} {labelled ordered : Bool} {done : ℕ} (walk : CharactersLeft b i n most at labelled ordered done) (some : done < n)
    {r : Option (ℕ × Bool × Bool)} (told : most ≤ 1048576 → CharacterTold b at (done + 1) most r) where
  -- One more stands there.
  pub characters-step : (j : ℕ) (l o : Bool) → r ≡ Some (j, l, o) → CharactersLeft b i n most j (labelled || l) (ordered || o) (done + 1)
  unfolding characters_of join_marks
  characters-step j l o here =
      let next : suc (done + 1) ≡ done + 1 + 1 = omega arith in
      record {
        walk = λ small.
            subst (λ m. Listing b (λ k. CharacterGood most) spell_one character_marks join_marks i 1 n no_marks j m (n - (done + 1)) (record { labelled = labelled || l; ordered = ordered || o })) next
            (listing_step b _ _ _ _ (walk.walk small) (one_more n done some) j _ (subst (λ a. CharacterTold b at (done + 1) most a) here (told small)));
      }

  -- None stands there.
  pub characters-short : r ≡ None → most ≤ 1048576 → CharactersTold b i n most None
  unfolding characters_of
  characters-short none small =
      listing-short b _ _ _ _ (walk.walk small) (one_more n done some) (subst (λ a. CharacterTold b at (done + 1) most a) none (told small))

-- None are left.
pub characters-over : {b : List ℕ} {i n most at : ℕ} {labelled ordered : Bool} {done : ℕ} → CharactersLeft b i n most at labelled ordered done → n ≤ done
    → most ≤ 1048576 → CharactersTold b i n most (Some (at, labelled, ordered))
unfolding characters_of
characters-over walk over small = listing-over _ _ _ _ _ (walk.walk small) (omega arith)

-- Before the first.
pub characters-start : (b : List ℕ) (i n most : ℕ) → CharactersLeft b i n most i false false 0
unfolding no_marks
characters-start b i n most = record { walk = λ small. let all : n - 0 ≡ n = omega arith in rw all (listing_start _ _ _ _ _ _ _ _ _) }

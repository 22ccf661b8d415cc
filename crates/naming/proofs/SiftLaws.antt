-- Bits that are set, and names of which some are suspects: no two are alike exactly if at most as many are among the suspects as there are. Assumes nothing.
use Prim.Native.Nat.{ℕ, suc, ◌+◌, ◌*◌, ◌/◌, ◌%◌, ◌≤◌, ◌<◌, max}
use Rattle.block.specs.Names.{known}
use Rattle.block.specs.Sound.{names_differ}
use Rattle.lexer.proofs.Basics.{by-test, and-false, and-true, alike-sym, alike_both, eqb_same, not-both, or-first, or-second}
use Rattle.lexer.specs.Base.{pick, alike, lower}
use Rattle.naming.proofs.JudgedLaws.{known-last, moved, few-none, none-one}
use Rattle.naming.specs.Entries.{known_count, few_known}
use Rattle.naming.specs.Sifting.{bits_of, other_of, Set, BitsSet, Marks}
use borrow.Author.Tests.{eqb-true, eqb-false, leb-true, leb-false, le-leb, lt-leb}
use lib.Arith.{bin_ind}
use lib.Bits.{bit_or, or_step, or_comm, or_self}
use lib.Dec.{eqb, leb, leb-suc-suc}
use lib.ListN.{length, get_or, set, length-set, length-append}
use lib.Seq.{get_or-set_same, get_or-set_other}
use mathlib.Core.Bool.{Bool, true, false, ◌&&◌, ◌||◌, not, false≢true}
use mathlib.Core.List.{List, [], ◌∷◌, ◌++◌}
use mathlib.Core.Path.{◌≡◌, refl, sym, ap, ap₂, ◌∙◌}
use native.Mathlib.Omega.{arith}

-- Bits that are joined in any order.
or-half : (a b : ℕ) → bit_or a b / 2 ≡ bit_or (a / 2) (b / 2)
or-half a b = omega (arith, or_step a b)

or-odd : (a b : ℕ) → bit_or a b % 2 ≡ max (a % 2) (b % 2)
or-odd a b = omega (arith, or_step a b)

or_assoc : (a b c : ℕ) → bit_or (bit_or a b) c ≡ bit_or a (bit_or b c)
or_assoc =
    bin_ind (λ (n : ℕ). (b c : ℕ) → bit_or (bit_or n b) c ≡ bit_or n (bit_or b c)) (λ b c. refl)
    (λ n more b c.
    let halves : bit_or (bit_or n b / 2) (c / 2) ≡ bit_or (n / 2) (bit_or b c / 2) = ap (λ x. bit_or x (c / 2)) (or-half n b) ∙ more (b / 2) (c / 2) ∙ ap (bit_or (n / 2)) (sym (or-half b c)) in
    let odds : max (bit_or n b % 2) (c % 2) ≡ max (n % 2) (bit_or b c % 2) = omega (arith, or-odd n b, or-odd b c) in
    or_step (bit_or n b) c ∙ ap₂ (λ x y. x * 2 + y) halves odds ∙ sym (or_step n (bit_or b c)))

-- Bits that were set besides others.
or_kept : (w m g : ℕ) → bit_or w g ≡ w → bit_or (bit_or w m) g ≡ bit_or w m
or_kept w m g h = or_assoc w m g ∙ ap (bit_or w) (or_comm m g) ∙ sym (or_assoc w g m) ∙ ap (λ x. bit_or x m) h

or_new : (w m : ℕ) → bit_or (bit_or w m) m ≡ bit_or w m
or_new w m = or_assoc w m m ∙ ap (bit_or w) (or_self m)

-- Bits are set in a word; or there is no such word, or they were set before.
module _ (words : List ℕ) (i bits : ℕ) where
  pub bits-outside : length words ≤ i → BitsSet words words i bits false
  bits-outside out = record { size = refl; new = λ l. absurd (omega arith); old = λ j more s. s; told = λ t. absurd (false≢true t) }

  pub bits-held : bit_or (get_or words i 0) bits ≡ get_or words i 0 → BitsSet words words i bits false
  bits-held is = record { size = refl; new = λ _. is; old = λ j more s. s; told = λ t. absurd (false≢true t) }

  module _ (inside : i < length words) (other : bit_or (get_or words i 0) bits ≡ get_or words i 0 → ⊥) where
    abbrev new_word : ℕ
    new_word = bit_or (get_or words i 0) bits

    still-set : (j more : ℕ) → Set words j more → Set (set words i new_word) j more
    still-set j more s l =
        let before : bit_or (get_or words j 0) more ≡ get_or words j 0 = s (omega (arith, length-set words i new_word)) in
        by-test (eqb j i)
        (λ e.
        let same : j ≡ i = eqb-true j i e in
        let now : get_or (set words i new_word) j 0 ≡ new_word = ap (λ k. get_or (set words i new_word) k 0) same ∙ get_or-set_same words i new_word 0 inside in
        rw now (or_kept (get_or words i 0) bits more (rw same at before)))
        (λ e. rw (get_or-set_other words i j new_word 0 (eqb-false j i e)) before)

    pub bits-new : BitsSet words (set words i (bit_or (get_or words i 0) bits)) i bits true
    bits-new =
        record {
          size = length-set words i new_word;
          new = λ _. rw (get_or-set_same words i new_word 0 inside) (or_new (get_or words i 0) bits);
          old = still-set;
          told = λ _ s. other (s inside);
        }

-- The bits of a number and of the other are set one after the other.
pub marks-both : (words between after : List ℕ) (h : ℕ) {bits more : ℕ} → bits ≡ bits_of h → more ≡ bits_of (other_of h) → {r s : Bool}
    → BitsSet words between (h / 262144) bits r → BitsSet between after (other_of h / 262144) more s → Marks words after h (r || s)
marks-both words between after h is are {r} {s} first second =
    record {
      size = second.size ∙ first.size;
      new = record { first = second.old (h / 262144) (bits_of h) (rw (← is) first.new); second = rw (← are) second.new };
      old = λ g m.
          record {
            first = second.old (g / 262144) (bits_of g) (first.old (g / 262144) (bits_of g) m.first);
            second = second.old (other_of g / 262144) (bits_of (other_of g)) (first.old (other_of g / 262144) (bits_of (other_of g)) m.second);
          };
      told = λ y m.
          by-test r
          (λ t. first.told t (rw is m.first))
          (λ f. second.told (rw f at y) (rw are (first.old (other_of h / 262144) (bits_of (other_of h)) m.second)));
    }

-- A name is known exactly where a name like it is.
known-like : (m n : List ℕ) (es : List (List ℕ)) → alike m n ≡ true → known m es ≡ true → known n es ≡ true
unfolding known
known-like m n [] a k = k
known-like m n (e ∷ es) a k =
    by-test (alike m e)
    (λ t. or-first (alike n e) (known n es) (alike_both n e m (alike-sym n m ∙ a) (alike-sym e m ∙ t)))
    (λ f. or-second (alike n e) (known n es) (known-like m n es a (rw f at k)))

-- One name more behind others.
differ-last : (ns : List (List ℕ)) (n : List ℕ) → names_differ (ns ++ (n ∷ [])) ≡ names_differ ns && not (known n ns)
unfolding names_differ known
differ-last [] n = refl
differ-last (m ∷ ns) n = rw (known-last m ns n, differ-last ns n, alike-sym n m) (moved (known m ns) (alike m n) (names_differ ns) (known n ns))

picks : (a b : Bool) (x : ℕ) → pick a (suc (pick b (suc x) x)) (pick b (suc x) x) ≡ pick b (suc (pick a (suc x) x)) (pick a (suc x) x)
unfolding pick
picks true true x = refl
picks true false x = refl
picks false true x = refl
picks false false x = refl

count-last : (es ns : List (List ℕ)) (n : List ℕ) → known_count es (ns ++ (n ∷ [])) ≡ pick (known n es) (suc (known_count es ns)) (known_count es ns)
unfolding known_count
count-last es [] n = refl
count-last es (m ∷ ns) n = rw (count-last es ns n) (picks (known m es) (known n es) (known_count es ns))

-- How many are among some with one more, which is not among them.
count-more : (es : List (List ℕ)) (n : List ℕ) (ns : List (List ℕ)) → known n es ≡ false → known_count (es ++ (n ∷ [])) ns ≡ known_count es ns + known_count (n ∷ []) ns
unfolding known_count known
count-more es n [] h = refl
count-more es n (m ∷ ns) h = rw (known-last m es n) (go (known m es) refl (alike m n) refl (count-more es n ns h))
  where
    go : (k : Bool) → known m es ≡ k → (a : Bool) → alike m n ≡ a → known_count (es ++ (n ∷ [])) ns ≡ known_count es ns + known_count (n ∷ []) ns
        → pick (k || a) (suc (known_count (es ++ (n ∷ [])) ns)) (known_count (es ++ (n ∷ [])) ns)
        ≡ pick k (suc (known_count es ns)) (known_count es ns) + pick (a || false) (suc (known_count (n ∷ []) ns)) (known_count (n ∷ []) ns)
    go true k true a more = absurd (not-both h (known-like m n es a k))
    go true k false a more = unfold pick in omega arith
    go false k true a more = unfold pick in omega arith
    go false k false a more = unfold pick in more

-- A name is known exactly where at least one is like it.
count-known : (n : List ℕ) (ns : List (List ℕ)) → leb (known_count (n ∷ []) ns) 0 ≡ not (known n ns)
unfolding few_known
count-known n ns = few-none (n ∷ []) ns ∙ none-one n ns

alike_same : (n : List ℕ) → alike n n ≡ true
unfolding alike
alike_same [] = refl
alike_same (a ∷ n) = rw (eqb_same (lower a), alike_same n)

-- Where a name is among those in front of it, not all differ.
known-within : (m : List ℕ) (ns : List (List ℕ)) (n : List ℕ) (more : List (List ℕ)) → alike m n ≡ true → known m (ns ++ (n ∷ more)) ≡ true
unfolding known
known-within m [] n more a = or-first (alike m n) (known m more) a
known-within m (k ∷ ns) n more a = or-second (alike m k) (known m (ns ++ (n ∷ more))) (known-within m ns n more a)

differ-twice : (ns : List (List ℕ)) (n : List ℕ) (more : List (List ℕ)) → known n ns ≡ true → names_differ (ns ++ (n ∷ more)) ≡ false
unfolding names_differ known
differ-twice [] n more k = absurd (false≢true k)
differ-twice (m ∷ ns) n more k =
    by-test (alike n m)
    (λ a. rw (known-within m ns n more (alike-sym m n ∙ a)))
    (λ o. rw (differ-twice ns n more (rw o at k)) (and-false (not (known m (ns ++ (n ∷ more))))))

joint : (a c l : ℕ) → l ≤ a → leb (suc (a + c)) (suc l) ≡ leb a l && leb c 0
joint a c l h = leb-suc-suc (a + c) l ∙ go (leb a l) refl (leb c 0) refl
  where
    go : (x : Bool) → leb a l ≡ x → (y : Bool) → leb c 0 ≡ y → leb (a + c) l ≡ x && y
    go true p true q = le-leb (a + c) l (omega (arith, leb-true a l p, leb-true c 0 q))
    go true p false q = lt-leb (a + c) l (omega (arith, leb-false c 0 q))
    go false p y q = lt-leb (a + c) l (omega (arith, leb-false a l p))

-- Of some names these are suspects: each is among the names; and no two names are alike exactly if no more of them are among the suspects than there are
-- suspects.
pub record Suspected (es ns : List (List ℕ)) : Type 0 where
  pub among : (n : List ℕ) → known n es ≡ true → known n ns ≡ true
  pub many : length es ≤ known_count es ns
  pub told : names_differ ns ≡ few_known es (length es) ns

pub suspected-start : Suspected [] []
suspected-start = record { among = λ n k. k; many = unfold known_count in omega arith; told = unfold names_differ few_known known_count in refl }

module _ (es ns : List (List ℕ)) (n : List ℕ) (s : Suspected es ns) where
  -- A name that is not among those in front of it is none.
  pub suspected-passed : known n ns ≡ false → Suspected es (ns ++ (n ∷ []))
  unfolding few_known pick
  suspected-passed new =
      let out : known n es ≡ false = by-test (known n es) (λ t. absurd (not-both new (s.among n t))) (λ f. f) in
      let count : known_count es (ns ++ (n ∷ [])) ≡ known_count es ns = count-last es ns n ∙ rw out in
      record {
        among = λ m k. known-last m ns n ∙ or-first (known m ns) (alike m n) (s.among m k);
        many = omega (arith, count, s.many);
        told = differ-last ns n ∙ rw new (and-true (names_differ ns)) ∙ s.told ∙ ap (λ c. leb c (length es)) (sym count);
      }

  -- One that is not among the suspects is a further one.
  pub suspected-entered : known n es ≡ false → Suspected (es ++ (n ∷ [])) (ns ++ (n ∷ []))
  unfolding few_known pick
  suspected-entered new =
      let last : known n (es ++ (n ∷ [])) ≡ true = known-last n es n ∙ or-second (known n es) (alike n n) (alike_same n) in
      let count : known_count (es ++ (n ∷ [])) (ns ++ (n ∷ [])) ≡ suc (known_count es ns + known_count (n ∷ []) ns) =
      count-last (es ++ (n ∷ [])) ns n ∙ rw last (ap suc (count-more es n ns new)) in
      let size : length (es ++ (n ∷ [])) ≡ suc (length es) = omega (arith, length-append es (n ∷ [])) in
      record {
        among = λ m k.
            by-test (known m es)
            (λ t. known-last m ns n ∙ or-first (known m ns) (alike m n) (s.among m t))
            (λ f. known-last m ns n ∙ or-second (known m ns) (alike m n) (rw f at (sym (known-last m es n) ∙ k)));
        many = omega (arith, count, size, s.many);
        told = differ-last ns n ∙ ap₂ (λ x y. x && y) s.told (sym (count-known n ns))
            ∙ sym (joint (known_count es ns) (known_count (n ∷ []) ns) (length es) s.many) ∙ ap₂ leb (sym count) (sym size);
      }

  -- One that is among the suspects is like one in front of it.
  pub suspected-twice : known n es ≡ true → (more : List (List ℕ)) → names_differ (ns ++ (n ∷ more)) ≡ false
  suspected-twice k more = differ-twice ns n more (s.among n k)

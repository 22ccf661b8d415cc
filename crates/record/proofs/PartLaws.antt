-- Values spelled one by one with a byte between each two, and read back one by one. Assumes nothing.
use Prim.Native.Nat.{ℕ}
use Rattle.lexer.proofs.Basics.{or-both, or_left, or_right, among-append, eqb_same, eqb-sym, chosen}
use Rattle.lexer.specs.Base.{pick, among, is_empty}
use Rattle.record.specs.Unspell.{parts, before}
use borrow.Author.Tests.{eqb-true}
use lib.Dec.{eqb}
use mathlib.Core.Bool.{true, false, true≢false}
use mathlib.Core.List.{List, [], ◌∷◌, ◌++◌, map, append_assoc, append-nil}
use mathlib.Core.Option.{Option, none, some, none-ne-some, some-injective}
use mathlib.Core.Path.{◌≡◌, refl, sym, ap, ◌∙◌}

-- Parts with a byte between each two.
unfoldable pub joined : ℕ → List (List ℕ) → List ℕ
joined at [] = []
joined at (p ∷ []) = p
joined at (p ∷ q ∷ r) = p ++ (at ∷ joined at (q ∷ r))

-- Something that holds of every one of a list.
module _ {A : Type 0} where
  abbrev pub Every : (A → Type 0) → List A → Type 0
  Every P [] = Unit {0}
  Every P (x ∷ r) = P x × Every P r

  pub every : {P : A → Type 0} → ((x : A) → P x) → (l : List A) → Every P l
  every f [] = tt
  every f (x ∷ r) = (f x, every f r)

-- Values spelled one by one
module _ {A : Type 0} (enc : A → List ℕ) where
  -- a byte that none of them holds, and that does not part them, is not in their spelling
  pub joined_free : (b at : ℕ) → eqb b at ≡ false → (l : List A) → Every (λ y. among b (enc y) ≡ false) l
      → among b (joined at (map enc l)) ≡ false
  unfolding joined among
  joined_free b at o [] h = refl
  joined_free b at o (x ∷ []) h = h.0
  joined_free b at o (x ∷ y ∷ r) h =
      among-append b (enc x) (at ∷ joined at (map enc (y ∷ r))) ∙ or-both h.0 (or-both o (joined_free b at o (y ∷ r) h.1))

-- The first before the others: both are there.
before-some : {A : Type 0} (o : Option A) (m : Option (List A)) (l : List A) → before o m ≡ some l
    → (x : A) × (r : List A) × (o ≡ some x) × (m ≡ some r) × (x ∷ r ≡ l)
unfolding before
before-some none m l h = absurd (none-ne-some l h)
before-some (some x) none l h = absurd (none-ne-some l h)
before-some (some x) (some r) l h = (x, r, refl, refl, some-injective (x ∷ r) l h)

-- The parts of a text, read one by one.
module _ {A : Type 0} (dec : List ℕ → Option A) (enc : A → List ℕ) (at : ℕ) where
  -- bytes of the part that is open
  parts-open : (o p t : List ℕ) → among at p ≡ false → parts dec at o (p ++ t) ≡ parts dec at (o ++ p) t
  unfolding parts among pick
  parts-open o [] t h = rw append-nil
  parts-open o (b ∷ p) t h =
      let other : eqb b at ≡ false = eqb-sym b at ∙ or_left _ (among at p) h in
      rw (other, parts-open (o ++ (b ∷ [])) p t (or_right (eqb at b) _ h), append_assoc o (b ∷ []) p)

  -- What is spelled with a byte between each two is read back, and the other way round.
  pub list_read : (l : List A) → is_empty l ≡ false → Every (λ y. among at (enc y) ≡ false) l → Every (λ x. dec (enc x) ≡ some x) l
      → parts dec at [] (joined at (map enc l)) ≡ some l
  unfolding is_empty joined parts before pick
  list_read [] h free read = absurd (true≢false h)
  list_read (x ∷ []) h free read = ap (parts dec at []) (sym (append-nil (enc x))) ∙ parts-open [] (enc x) [] free.0 ∙ rw read.0
  list_read (x ∷ y ∷ r) h free read =
      parts-open [] (enc x) (at ∷ joined at (map enc (y ∷ r))) free.0
      ∙ rw (eqb_same, read.0, list_read (y ∷ r) refl free.1 read.1)

  -- there is at least one part
  parts-some : (o t : List ℕ) (l : List A) → parts dec at o t ≡ some l → is_empty l ≡ false
  unfolding parts is_empty
  parts-some o [] l h = rw (← (before-some (dec o) (some []) l h).4)
  parts-some o (b ∷ t) l h =
      chosen (λ (m : Option (List A)). m ≡ some l → is_empty l ≡ false) (eqb b at) (λ _ g. rw (← (before-some (dec o) (parts dec at [] t) l g).4)) (λ _. parts-some (o ++ (b ∷ [])) t l) h

  joined-more : (x : A) (l : List A) → is_empty l ≡ false → joined at (map enc (x ∷ l)) ≡ enc x ++ (at ∷ joined at (map enc l))
  unfolding joined is_empty
  joined-more x [] h = absurd (true≢false h)
  joined-more x (y ∷ l) h = refl

  pub list-spelled : ((p : List ℕ) (x : A) → dec p ≡ some x → enc x ≡ p) → (o t : List ℕ) (l : List A) → parts dec at o t ≡ some l
      → joined at (map enc l) ≡ o ++ t
  unfolding parts joined
  list-spelled spelled o [] l h =
      let p = before-some (dec o) (some []) l h in
      rw (← p.4, ← some-injective [] p.1 p.3, append-nil) (spelled o p.0 p.2)
  list-spelled spelled o (b ∷ t) l h =
      chosen (λ (m : Option (List A)). m ≡ some l → joined at (map enc l) ≡ o ++ (b ∷ t)) (eqb b at) (λ e g. cut e (before-some (dec o) (parts dec at [] t) l g) (list-spelled spelled [] t)) (λ _ g. list-spelled spelled (o ++ (b ∷ [])) t l g ∙ append_assoc o (b ∷ []) t) h
    where
      cut : eqb b at ≡ true → (x : A) × (r : List A) × (dec o ≡ some x) × (parts dec at [] t ≡ some r) × (x ∷ r ≡ l)
          → ((r : List A) → parts dec at [] t ≡ some r → joined at (map enc r) ≡ t) → joined at (map enc l) ≡ o ++ (b ∷ t)
      cut e p more =
          rw (← p.4, joined-more p.0 p.1 (parts-some [] t p.1 p.3), spelled o p.0 p.2, more p.1 p.3, eqb-true b at e)

-- Laws of judging parts of which something is told: where nothing stands, where one thing stands, a part made of another, a part that must pass a test besides, and a part
-- behind another, which may depend on what is told of the first. Assumes nothing.
use Rattle.std.specs.Prelude.{Some, None, Option}
use Prim.Native.Nat.{ℕ, ◌+◌}
use Rattle.judging.proofs.JudgeLaws.{wrong-no-end}
use Rattle.naming.proofs.RowLaws.{drop-behind}
use Rattle.judging.specs.Judges.{Stands, Judges}
use Rattle.judging.specs.Tells.{Part, nothing, until, Tells, behind_of}
use Rattle.lexer.proofs.Basics.{not-both}
use lib.ListN.{length, drop, length-append}
use mathlib.Core.Bool.{Bool, true, false}
use mathlib.Core.List.{List, ◌++◌, append_assoc}
use mathlib.Core.Path.{◌≡◌, refl, sym, ap, ◌∙◌, subst}
use native.Mathlib.Omega.{arith}

-- Where nothing stands there is no end.
pub no_end : {T : Type 0} {j : ℕ} {v : T} → nothing ≡ until j v → ⊥
no_end e = let z : ◌≡◌ {A = ℕ} 0 1 = cc in omega arith

-- What is told with an end that is the same answer is the same.
pub same-told : {T : Type 0} {j k : ℕ} {v w : T} → until j v ≡ until k w → (j ≡ k) × (v ≡ w)
same-told e = (cc, cc)

module _ {A T : Type 0} (b : List ℕ) (i : ℕ) (good : A → Type 0) (spelled : A → List ℕ) (tell : A → T) where
  -- Where nothing good stands, the answer is none.
  pub tells_none : ((what : A) (rest : List ℕ) → good what → drop i b ≡ spelled what ++ rest → ⊥) → Tells b i good spelled tell nothing
  tells_none absent = record { found = λ j v e. absurd (no_end e); all = λ what rest g e. absurd (absent what rest g e) }

  -- Where something good stands, and nothing else that is good, the answer is its end and what is told of it.
  pub tells-one : (what : A) (rest : List ℕ) → good what → drop i b ≡ spelled what ++ rest → ((w : A) (t : List ℕ) → good w → drop i b ≡ spelled w ++ t → w ≡ what)
      → Tells b i good spelled tell (until (i + length (spelled what)) (tell what))
  tells-one what rest g e only = record { found = found; all = λ w t h f. ap (λ x. until (i + length (spelled x)) (tell x)) (sym (only w t h f)) }
    where
      found : (j : ℕ) (v : T) → until (i + length (spelled what)) (tell what) ≡ until j v → (s : Stands b i good spelled j) × (v ≡ tell s.what)
      found j v q =
          let (end, is) = same-told q in
          let behind : drop j b ≡ rest = ap (λ n. drop n b) (sym end) ∙ drop-behind b i (spelled what) rest e in
          (record { what = what; sound = g; here = rw behind e; end = sym end }, sym is)

  -- Where the answer is none, nothing good stands.
  pub tells-nothing : Tells b i good spelled tell nothing → (what : A) (rest : List ℕ) → good what → drop i b ≡ spelled what ++ rest → ⊥
  tells-nothing told what rest g e = no_end (told.all what rest g e)

  -- What is told is told of all that stands there.
  pub tells-value : (j : ℕ) (v : T) → Tells b i good spelled tell (until j v) → (what : A) (rest : List ℕ) → good what → drop i b ≡ spelled what ++ rest
      → v ≡ tell what
  tells-value j v told what rest g e = (same-told (told.all what rest g e)).1

-- A part of which nothing is told but its end.
pub tells-end : {A : Type 0} (b : List ℕ) (i : ℕ) (good : A → Type 0) (spelled : A → List ℕ) (r : Option ℕ) → Judges b i good spelled r
    → Tells b i good spelled (λ a. tt) (behind_of r)
unfolding behind_of
tells-end {A} b i good spelled r judged = record { found = found r judged; all = λ what rest g e. ap behind_of (judged.all what rest g e) }
  where
    found : (r : Option ℕ) → Judges b i good spelled r → (j : ℕ) (v : Unit {0}) → behind_of r ≡ until j v → (s : Stands b i good spelled j) × (v ≡ tt)
    found (Some k) judged j tt e = (judged.found j (ap Some (same-told e).0), refl)
    found None judged j v e = absurd (no_end e)

-- And back: where nothing is told, its end is all.
pub tells-judges : {A : Type 0} (b : List ℕ) (i : ℕ) (good : A → Type 0) (spelled : A → List ℕ) (r : Option ℕ) → Tells b i good spelled (λ a. tt) (behind_of r)
    → Judges b i good spelled r
unfolding behind_of
tells-judges {A} b i good spelled r told = record { found = λ j e. (told.found j tt (ap behind_of e)).0; all = all r told }
  where
    all : (r : Option ℕ) → Tells b i good spelled (λ a. tt) (behind_of r) → (what : A) (rest : List ℕ) → good what → drop i b ≡ spelled what ++ rest
        → r ≡ Some (i + length (spelled what))
    all (Some k) told what rest g e = ap Some (same-told (told.all what rest g e)).0
    all None told what rest g e = absurd (no_end (told.all what rest g e))

-- A part that is made of another: spelled alike, good alike, and told of alike.
module _ {A B T W : Type 0} (b : List ℕ) (i : ℕ) {good : A → Type 0} {spelled : A → List ℕ} {tell : A → T}
    (more : B → Type 0) (whole : B → List ℕ) (say : B → W) (made : A → B) (turn : T → W)
    (spells : (a : A) → good a → whole (made a) ≡ spelled a)
    (good-made : (a : A) → good a → more (made a))
    (tells : (a : A) → good a → say (made a) ≡ turn (tell a))
    (maker : (w : B) → more w → (a : A) × good a × (w ≡ made a)) where
  -- Where one ends, so does the other.
  pub tells_as : (j : ℕ) (v : T) → Tells b i good spelled tell (until j v) → Tells b i more whole say (until j (turn v))
  tells_as j v told = record { found = found; all = all }
    where
      found : (k : ℕ) (w : W) → until j (turn v) ≡ until k w → (s : Stands b i more whole k) × (w ≡ say s.what)
      found k w e =
          let (s, is) = told.found j v refl in
          let a = s.what in
          let (jk, vw) = same-told e in
          let stands : drop i b ≡ whole (made a) ++ drop k b = rw (spells a s.sound, sym jk) s.here in
          let end : k ≡ i + length (whole (made a)) = rw (spells a s.sound, sym jk) s.end in
          (record { what = made a; sound = good-made a s.sound; here = stands; end = end }, sym vw ∙ ap turn is ∙ sym (tells a s.sound))

      all : (w : B) (rest : List ℕ) → more w → drop i b ≡ whole w ++ rest → until j (turn v) ≡ until (i + length (whole w)) (say w)
      all w rest g e =
          let (a, h, same) = maker w g in
          let stands : drop i b ≡ spelled a ++ rest = (rw same at e) ∙ ap (λ l. l ++ rest) (spells a h) in
          let (end, is) = same-told (told.all a rest h stands) in
          let far : j ≡ i + length (whole w) = rw (same, spells a h) end in
          let said : turn v ≡ say w = ap turn is ∙ sym (tells a h) ∙ ap say (sym same) in
          rw (far, said) refl

  -- Where there is none, there is no other.
  tells-as-none : Tells b i good spelled tell nothing → Tells b i more whole say nothing
  tells-as-none told =
      tells_none b i more whole say
      (λ w rest g e. let (a, h, same) = maker w g in no_end (told.all a rest h ((rw same at e) ∙ ap (λ l. l ++ rest) (spells a h))))

-- A part that is made of another, of which the same is told.
module _ {A B T : Type 0} (b : List ℕ) (i : ℕ) {good : A → Type 0} {spelled : A → List ℕ} {tell : A → T}
    (more : B → Type 0) (whole : B → List ℕ) (say : B → T) (made : A → B)
    (spells : (a : A) → good a → whole (made a) ≡ spelled a)
    (good-made : (a : A) → good a → more (made a))
    (tells : (a : A) → good a → say (made a) ≡ tell a)
    (maker : (w : B) → more w → (a : A) × good a × (w ≡ made a)) where
  pub tells-same : (r : Part T) → Tells b i good spelled tell r → Tells b i more whole say r
  tells-same nothing told = tells-as-none b i more whole say made (λ v. v) spells good-made tells maker told
  tells-same (until j v) told = tells_as b i more whole say made (λ v. v) spells good-made tells maker j v told

-- Something else told of the same part: what it is, it is of all that stands there.
module _ {A T W : Type 0} (b : List ℕ) (i : ℕ) (good : A → Type 0) (spelled : A → List ℕ) (tell : A → T) (say : A → W) where
  pub tells-retold : (j : ℕ) (v : T) (w : W) → ((a : A) (rest : List ℕ) → good a → drop i b ≡ spelled a ++ rest → w ≡ say a)
      → Tells b i good spelled tell (until j v) → Tells b i good spelled say (until j w)
  tells-retold j v w is told = record { found = found; all = all }
    where
      found : (k : ℕ) (x : W) → until j w ≡ until k x → (s : Stands b i good spelled k) × (x ≡ say s.what)
      found k x e =
          let (jk, wx) = same-told e in
          let (s, _) = told.found k v (ap (λ n. until n v) jk) in
          (s, sym wx ∙ is s.what (drop k b) s.sound s.here)

      all : (a : A) (rest : List ℕ) → good a → drop i b ≡ spelled a ++ rest → until j w ≡ until (i + length (spelled a)) (say a)
      all a rest g e = rw ((same-told (told.all a rest g e)).0, is a rest g e) refl

-- A part that must pass a test besides.
module _ {A T : Type 0} (b : List ℕ) (i : ℕ) (good : A → Type 0) (spelled : A → List ℕ) (tell : A → T) (test : A → Bool) where
  abbrev pub Tested : A → Type 0
  Tested a = good a × (test a ≡ true)

  -- What stands there passes the test, or does not.
  abbrev pub Found : Bool → Type 0
  Found answer = (a : A) (rest : List ℕ) → good a → drop i b ≡ spelled a ++ rest → test a ≡ answer

  -- It passes.
  pub tells-passed : Found true → (r : Part T) → Tells b i good spelled tell r → Tells b i Tested spelled tell r
  tells-passed passed r told = record { found = found; all = λ what rest g e. told.all what rest g.0 e }
    where
      found : (k : ℕ) (w : T) → r ≡ until k w → (s : Stands b i Tested spelled k) × (w ≡ tell s.what)
      found k w e =
          let (s, is) = told.found k w e in
          let ok : test s.what ≡ true = passed s.what (drop k b) s.sound s.here in
          (record { what = s.what; sound = (s.sound, ok); here = s.here; end = s.end }, is)

  -- It fails.
  pub tells-failed : Found false → Tells b i Tested spelled tell nothing
  tells-failed failed = tells_none b i Tested spelled tell (λ a rest g e. not-both (failed a rest g.0 e) g.1)

  -- There is none.
  pub tells-untested : Tells b i good spelled tell nothing → Tells b i Tested spelled tell nothing
  tells-untested told = tells_none b i Tested spelled tell (λ a rest g e. no_end (told.all a rest g.0 e))

-- A part behind another, which may depend on what is told of the first.
module _ {A B T W : Type 0} (b : List ℕ) (i : ℕ) (good : A → Type 0) (spelled : A → List ℕ) (tell : A → T)
    (good' : T → B → Type 0) (spelled' : T → B → List ℕ) (tell' : T → B → W) where
  abbrev pub Both : A × B → Type 0
  Both p = good p.0 × good' (tell p.0) p.1

  abbrev pub joined : A × B → List ℕ
  joined p = spelled p.0 ++ spelled' (tell p.0) p.1

  abbrev pub told_both : A × B → W
  told_both p = tell' (tell p.0) p.1

  -- Where there is no first, there are not both.
  pub tells-no-first : Tells b i good spelled tell nothing → Tells b i Both joined told_both nothing
  tells-no-first told =
      tells_none b i Both joined told_both
      (λ p rest g e. no_end (told.all p.0 _ g.0 (e ∙ append_assoc (spelled p.0) (spelled' (tell p.0) p.1) rest)))

  -- Where the first stands, and the second behind it, both do.
  found-both : (k : ℕ) (v : T) (j : ℕ) (w : W) (s : Stands b i good spelled k) → v ≡ tell s.what → (t : Stands b k (good' v) (spelled' v) j)
      → w ≡ tell' v t.what → (p : Stands b i Both joined j) × (w ≡ told_both p.what)
  found-both k v j w s sv t tw =
      let x = s.what in
      let y = t.what in
      let stands : drop i b ≡ (spelled x ++ spelled' v y) ++ drop j b =
      s.here ∙ ap (λ l. spelled x ++ l) t.here ∙ sym (append_assoc (spelled x) (spelled' v y) (drop j b)) in
      let end : j ≡ i + length (spelled x ++ spelled' v y) = simp length-append (omega (arith, s.end, t.end)) in
      (record { what = (x, y); sound = (s.sound, rw sv at t.sound); here = rw sv at stands; end = rw sv at end }, rw sv at tw)

  -- Behind the end of the first, both are judged as the second.
  pub tells-then : (k : ℕ) (v : T) (r : Part W) → Tells b i good spelled tell (until k v) → Tells b k (good' v) (spelled' v) (tell' v) r
      → Tells b i Both joined told_both r
  tells-then k v r first second = record { found = found; all = all }
    where
      found : (j : ℕ) (w : W) → r ≡ until j w → (s : Stands b i Both joined j) × (w ≡ told_both s.what)
      found j w e = let (s, sv) = first.found k v refl in let (t, tw) = second.found j w e in found-both k v j w s sv t tw

      all : (p : A × B) (rest : List ℕ) → Both p → drop i b ≡ joined p ++ rest → r ≡ until (i + length (joined p)) (told_both p)
      all (x, y) rest (g, h) e =
          let stands : drop i b ≡ spelled x ++ (spelled' (tell x) y ++ rest) = e ∙ append_assoc (spelled x) (spelled' (tell x) y) rest in
          let (end, is) = same-told (first.all x _ g stands) in
          let behind : drop k b ≡ spelled' (tell x) y ++ rest = rw end (drop-behind b i (spelled x) _ stands) in
          let last : r ≡ until (k + length (spelled' (tell x) y)) (tell' (tell x) y) =
          rw (← is) (second.all y rest (rw (sym is) at h) (rw (sym is) at behind)) in
          let sum : k + length (spelled' (tell x) y) ≡ i + length (joined (x, y)) = simp length-append (omega (arith, end)) in
          last ∙ ap (λ n. until n (tell' (tell x) y)) sum

-- A part behind a key.
module _ {A T : Type 0} (b : List ℕ) (i : ℕ) (key : List ℕ) (good : A → Type 0) (spelled : A → List ℕ) (tell : A → T) (r : Option ℕ)
    (judged : Judges b i (λ (u : Unit {0}). Unit {0}) (λ u. key) r) where
  -- The key stands there: it is judged as what stands behind it.
  pub tells-keyed : (j : ℕ) → r ≡ Some j → (s : Part T) → Tells b j good spelled tell s → Tells b i good (λ a. key ++ spelled a) tell s
  unfolding behind_of
  tells-keyed j here s told =
      tells-same b i good (λ a. key ++ spelled a) tell (λ (p : Unit {0} × A). p.1) (λ p g. refl) (λ p g. g.1) (λ p g. refl) (λ a g. ((tt, a), (tt, g), refl)) s
      (tells-then b i (λ u. Unit {0}) (λ u. key) (λ u. tt) (λ v. good) (λ v. spelled) (λ v. tell) j tt s first told)
    where
      first : Tells b i (λ (u : Unit {0}). Unit {0}) (λ u. key) (λ u. tt {0}) (until j (tt {0}))
      first = subst (λ a. Tells b i (λ (u : Unit {0}). Unit {0}) (λ u. key) (λ u. tt) (behind_of a)) here (tells-end b i _ _ r judged)

  -- It does not: there is none.
  pub tells-no-key : r ≡ None → Tells b i good (λ a. key ++ spelled a) tell nothing
  tells-no-key none =
      tells_none b i good (λ a. key ++ spelled a) tell
      (λ a rest g e. wrong-no-end _ (sym none ∙ judged.all tt (spelled a ++ rest) tt (e ∙ append_assoc key (spelled a) rest)))

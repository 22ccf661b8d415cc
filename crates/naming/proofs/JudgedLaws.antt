-- Names that differ, with those that were entered, and what remains to be judged of rows. Assumes nothing.
use Rattle.std.specs.Prelude.{Some, None}
use Prim.Native.Nat.{ℕ, suc, ◌+◌, ◌-◌, ◌≤◌, ◌<◌}
use Rattle.block.specs.Names.{known}
use Rattle.block.specs.Reading.{Taxon}
use Rattle.block.specs.Sequential.{names}
use Rattle.block.specs.Sound.{names_differ}
use Rattle.lexer.proofs.Basics.{or_assoc, or-false, and_assoc, alike-sym}
use Rattle.lexer.specs.Base.{pick, alike}
use Rattle.naming.proofs.EscapeLike.{escaped-alike}
use Rattle.naming.proofs.RowLaws.{row_before, row-name}
use Rattle.naming.specs.Entries.{name_lines, none_known, new_differ, known_count, few_known, RowsJudged, Remains}
use Rattle.naming.specs.Lines.{line_at}
use Rattle.naming.specs.Rows.{RowsStand, RowPassed, NamesJudged}
use Rattle.record.specs.Spell.{escaped}
use lib.Dec.{leb, leb-suc-zero, leb-suc-suc}
use lib.ListN.{length}
use mathlib.Core.Bool.{Bool, true, false, ◌&&◌, ◌||◌, not}
use mathlib.Core.List.{List, [], ◌∷◌, ◌++◌}
use mathlib.Core.Path.{◌≡◌, refl, sym, ap, ◌∙◌}
use native.Mathlib.Omega.{arith}

-- Names are known, and differ, as their lines.
known-lines : (n : List ℕ) (ts : List Taxon) → known (escaped n) (name_lines ts) ≡ known n (names ts)
unfolding known name_lines names
known-lines n [] = refl
known-lines n (t ∷ ts) = rw (escaped-alike n t.name, known-lines n ts)

lines-differ : (ts : List Taxon) → names_differ (name_lines ts) ≡ names_differ (names ts)
unfolding names_differ name_lines names
lines-differ [] = refl
lines-differ (t ∷ ts) = rw (known-lines t.name ts, lines-differ ts)

-- One name more behind those that were entered.
pub known-last : (m : List ℕ) (es : List (List ℕ)) (n : List ℕ) → known m (es ++ (n ∷ [])) ≡ known m es || alike m n
unfolding known
known-last m [] n = or-false (alike m n)
known-last m (e ∷ es) n = rw (known-last m es n) (or_assoc (alike m e) (known m es) (alike m n))

pub moved : (x y a z : Bool) → not (x || y) && (a && not z) ≡ not x && a && not (y || z)
moved true y a z = refl
moved false true true z = refl
moved false true false z = refl
moved false false a z = refl

none_last : (es : List (List ℕ)) (n : List ℕ) (ns : List (List ℕ)) → none_known (es ++ (n ∷ [])) ns ≡ none_known es ns && not (known n ns)
unfolding known none_known
none_last es n [] = refl
none_last es n (m ∷ ns) = rw (known-last m es n, none_last es n ns, alike-sym n m) (moved (known m es) (alike m n) (none_known es ns) (known n ns))

-- A name that is not among those that were entered is entered, and the names behind it remain; one that is among them is there twice.
new-turn : (es : List (List ℕ)) (n : List ℕ) (ns : List (List ℕ)) → known n es ≡ false → new_differ es (n ∷ ns) ≡ new_differ (es ++ (n ∷ [])) ns
unfolding new_differ none_known names_differ
new-turn es n ns h = rw (h, none_last es n ns) (and_assoc (none_known es ns) (not (known n ns)) (names_differ ns))

new-twice : (es : List (List ℕ)) (n : List ℕ) (ns : List (List ℕ)) → known n es ≡ true → new_differ es (n ∷ ns) ≡ false
unfolding new_differ none_known
new-twice es n ns h = rw h

none-start : (ns : List (List ℕ)) → none_known [] ns ≡ true
unfolding none_known known
none-start [] = refl
none-start (n ∷ ns) = none-start ns

pub none-one : (n : List ℕ) (ns : List (List ℕ)) → none_known (n ∷ []) ns ≡ not (known n ns)
none-one n ns = none_last [] n ns ∙ rw (none-start ns)

new-start : (ns : List (List ℕ)) → new_differ [] ns ≡ names_differ ns
unfolding new_differ
new-start ns = rw (none-start ns)

-- Names that were entered may stand in any order.
none-same : (es fs : List (List ℕ)) → ((m : List ℕ) → known m es ≡ known m fs) → (ns : List (List ℕ)) → none_known es ns ≡ none_known fs ns
unfolding none_known
none-same es fs same [] = refl
none-same es fs same (n ∷ ns) = rw (same n, none-same es fs same ns)

new-same : (es fs : List (List ℕ)) → ((m : List ℕ) → known m es ≡ known m fs) → (ns : List (List ℕ)) → new_differ es ns ≡ new_differ fs ns
unfolding new_differ
new-same es fs same ns = rw (none-same es fs same ns)

-- Names that are only looked for, of which at most so many may be found: one that is not found, one that is, and one too many.
pub few-turn : (es : List (List ℕ)) (n : List ℕ) (ns : List (List ℕ)) (room : ℕ) → known n es ≡ false → few_known es room (n ∷ ns) ≡ few_known es room ns
unfolding few_known known_count pick
few-turn es n ns room h = rw h

pub few-hit : (es : List (List ℕ)) (n : List ℕ) (ns : List (List ℕ)) (room : ℕ) → known n es ≡ true → few_known es (suc room) (n ∷ ns) ≡ few_known es room ns
unfolding few_known known_count pick
few-hit es n ns room h = rw h (leb-suc-suc (known_count es ns) room)

pub few-over : (es : List (List ℕ)) (n : List ℕ) (ns : List (List ℕ)) → known n es ≡ true → few_known es 0 (n ∷ ns) ≡ false
unfolding few_known known_count pick
few-over es n ns h = rw h (leb-suc-zero (known_count es ns))

pub few-none : (es ns : List (List ℕ)) → few_known es 0 ns ≡ none_known es ns
unfolding few_known known_count pick none_known
few-none es [] = refl
few-none es (n ∷ ns) = go (known n es) (few-none es ns)
  where
    go : (k : Bool) → leb (known_count es ns) 0 ≡ none_known es ns → leb (pick k (suc (known_count es ns)) (known_count es ns)) 0 ≡ not k && none_known es ns
    go true e = leb-suc-zero (known_count es ns)
    go false e = e

-- One row.
module _ (b : List ℕ) (characters here : ℕ) (test : List (List ℕ) → Bool) {name : ℕ} (begins : here < length b → name ≡ here + 5) where
  name-line : (t : Taxon) (ts : List Taxon) (rest : List ℕ) → RowsStand b here characters (t ∷ ts) rest → line_at b name ≡ escaped t.name
  name-line t ts rest s = ap (line_at b) (begins (row_before b here t ts rest s.here)) ∙ row-name b here t ts rest s.here

  -- The answer is known by the first name.
  pub row_told : (r : Bool) (left : ℕ) → ((ns : List (List ℕ)) → test (line_at b name ∷ ns) ≡ r) → RowsJudged b characters here (suc left) test r
  unfolding name_lines
  row_told r left told [] rest e s = absurd (omega arith)
  row_told r left told (t ∷ ts) rest e s = sym (rw (← name-line t ts rest s) (told (name_lines ts)))

  -- The rows behind it remain.
  pub row-turn : (other : List (List ℕ) → Bool) {next : ℕ} (left : ℕ) → RowPassed b here characters next → ((ns : List (List ℕ)) → test (line_at b name ∷ ns) ≡ other ns)
      → Remains b characters here (suc left) test next left other
  row-turn other {next} left passed same = record { back = back }
    where
      back : (r : Bool) → RowsJudged b characters next left other r → RowsJudged b characters here (suc left) test r
      back r judged [] rest e s = absurd (omega arith)
      back r judged (t ∷ ts) rest e s =
          unfold name_lines in
          judged ts rest (omega arith) (passed t ts rest s) ∙ sym (rw (← name-line t ts rest s) (same (name_lines ts)))

module _ {b : List ℕ} {characters : ℕ} where
  pub remains-all : (at rows : ℕ) (test : List (List ℕ) → Bool) → Remains b characters at rows test at rows test
  remains-all at rows test = record { back = λ r judged. judged }

  -- What remains of what remains.
  pub remains-on : {at rows here left next later : ℕ} {test other more : List (List ℕ) → Bool} → Remains b characters at rows test here left other
      → Remains b characters here left other next later more → Remains b characters at rows test next later more
  remains-on first second = record { back = λ r judged. first.back r (second.back r judged) }

  -- Tests that are the same.
  remains-same : (at rows : ℕ) (test other : List (List ℕ) → Bool) → ((ns : List (List ℕ)) → test ns ≡ other ns) → Remains b characters at rows test at rows other
  remains-same at rows test other same = record { back = λ r judged ts rest e s. judged ts rest e s ∙ sym (same (name_lines ts)) }

-- The answer that two are alike is no place, and places that are the same answer are equal.
pub twice-nowhere : (next : ℕ) → None ≡ Some next → ⊥
twice-nowhere next e = let z : ◌≡◌ {A = ℕ} 0 1 = cc in omega arith

pub behind-somewhere : (next : ℕ) → Some next ≡ None → ⊥
behind-somewhere next e = let z : ◌≡◌ {A = ℕ} 0 1 = cc in omega arith

pub same-behind : (p q : ℕ) → Some p ≡ Some q → p ≡ q
same-behind p q e = cc

-- The names of so many rows were entered, and are different; those behind remain to be judged, with any rows behind all.
pub record NamesPassed (b : List ℕ) (characters at rows : ℕ) (es : List (List ℕ)) (here count : ℕ) : Type 0 where
  pub few : count ≤ rows
  pub rest : (later : ℕ) → Remains b characters at (rows + later) names_differ here (rows - count + later) (new_differ es)

module _ {b : List ℕ} {characters at rows : ℕ} where
  pub passed_start : NamesPassed b characters at rows [] at 0
  passed_start =
      record {
        few = omega arith;
        rest = λ later.
            let all : rows - 0 + later ≡ rows + later = omega arith in
            rw all (remains-same at (rows + later) names_differ (new_differ []) (λ ns. sym (new-start ns)));
      }

  module _ {es : List (List ℕ)} {here count : ℕ} (k : NamesPassed b characters at rows es here count) where
    module _ (h : count < rows) {name : ℕ} (begins : here < length b → name ≡ here + 5) where
      one_less : (later : ℕ) → rows - count + later ≡ suc (rows - (count + 1) + later)
      one_less later = omega arith

      pub passed-twice : known (line_at b name) es ≡ true → (later : ℕ) → RowsJudged b characters at (rows + later) names_differ false
      passed-twice y later =
          (k.rest later).back false
          (rw (one_less later) (row_told b characters here (new_differ es) begins false (rows - (count + 1) + later) (λ ns. new-twice es (line_at b name) ns y)))

      pub passed-turn : known (line_at b name) es ≡ false → {next : ℕ} → RowPassed b here characters next → {fs : List (List ℕ)}
          → ((m : List ℕ) → known m fs ≡ known m (es ++ (line_at b name ∷ []))) → NamesPassed b characters at rows fs next (count + 1)
      passed-turn n {next} passed {fs} same =
          record {
            few = omega arith;
            rest = λ later.
                remains-on (rw (one_less later) at (k.rest later))
                (row-turn b characters here (new_differ es) begins (new_differ fs) (rows - (count + 1) + later) passed
                (λ ns. new-turn es (line_at b name) ns n ∙ sym (new-same fs (es ++ (line_at b name ∷ [])) same ns)));
          }

    pub passed-end : rows ≤ count → (later : ℕ) → Remains b characters at (rows + later) names_differ here later (new_differ es)
    passed-end h later = let none : rows - count + later ≡ later = omega (arith, k.few) in rw none at (k.rest later)

-- The names of rows behind those that were entered were looked for among them.
module _ {b : List ℕ} {characters at rows next later : ℕ} (es : List (List ℕ)) (rest : Remains b characters at rows names_differ next later (new_differ es)) {n : Bool}
    (looked : RowsJudged b characters next later (few_known es 0) n) where
  none-looked : RowsJudged b characters next later (none_known es) n
  none-looked ts rest l s = looked ts rest l s ∙ few-none es (name_lines ts)

  pub behind-known : n ≡ false → RowsJudged b characters at rows names_differ false
  unfolding new_differ
  behind-known f = rest.back false (λ ts rest l s. sym (rw (sym (none-looked ts rest l s) ∙ f)))

  pub behind-new : n ≡ true → Remains b characters at rows names_differ next later names_differ
  unfolding new_differ
  behind-new y = remains-on rest (record { back = λ w judged ts rest l s. judged ts rest l s ∙ sym (rw (sym (none-looked ts rest l s) ∙ y)) })

-- The names of rows are judged by their lines; where no rows are left, they differ.
pub by_lines : (b : List ℕ) (characters at taxa : ℕ) (r : Bool) → RowsJudged b characters at taxa names_differ r → NamesJudged b at taxa characters r
by_lines b characters at taxa r judged ts rest e s = judged ts rest e s ∙ lines-differ ts

pub none_left : (b : List ℕ) (characters at taxa here left : ℕ) → Remains b characters at taxa names_differ here left names_differ → left ≤ 0 → NamesJudged b at taxa characters true
none_left b characters at taxa here left rest h = by_lines b characters at taxa true (rest.back true (λ ts rest e s. none ts e))
  where
    none : (ts : List Taxon) → length ts ≡ left → true ≡ names_differ (name_lines ts)
    none [] e = unfold names_differ name_lines in refl
    none (t ∷ ts) e = absurd (omega arith)

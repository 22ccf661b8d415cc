-- Cells and taxa as pieces: cells behind others, where the next place says whether there were any, and a taxon behind others. Assumes nothing.
use Prim.Native.Nat.{ℕ, ◌≤◌, ◌<◌}
use Rattle.block.specs.Cell.{Cell}
use Rattle.block.specs.Reading.{Taxon}
use Rattle.emit.proofs.PutLaws.{puts-as, puts-out, puts_then}
use Rattle.emit.specs.Puts.{Puts, last_place}
use Rattle.lexer.proofs.Basics.{by-test}
use Rattle.lexer.specs.Base.{byte, bytes, is_empty, pick}
use Rattle.reading.specs.Pieces.{spell_on}
use Rattle.record.proofs.LookupLaws.{cell-some}
use Rattle.record.specs.Spell.{escaped, line, spell_cell, spell_cells, spell_taxa}
use borrow.Author.Tests.{eq-eqb, ne_eqb, ltb-false, ltb-true}
use lib.Dec.{eqb, ltb}
use lib.ListN.{length, length-append}
use mathlib.Core.Bool.{true, false, not}
use mathlib.Core.List.{List, [], ◌∷◌, ◌++◌, append_assoc}
use mathlib.Core.Path.{◌≡◌, refl, sym, ap, ◌∙◌}
use native.Mathlib.Omega.{arith}

-- Cells parted by blanks, in front of what stands behind them.
more-spelled : (c : Cell) (r : List Cell) (rest : List ℕ) → spell_cells (c ∷ r) ++ rest ≡ spell_cell c ++ spell_on true r rest
unfolding spell_cells spell_on pick
more-spelled c [] rest = refl
more-spelled c (d ∷ r) rest = append_assoc (spell_cell c) (byte " " ∷ spell_cells (d ∷ r)) rest ∙ ap (λ l. spell_cell c ++ (byte " " ∷ l)) (more-spelled d r rest)

cells-spelled : (cs : List Cell) (rest : List ℕ) → spell_cells cs ++ rest ≡ spell_on false cs rest
unfolding spell_cells spell_on pick
cells-spelled [] rest = refl
cells-spelled (c ∷ r) rest = more-spelled c r rest

-- Cells behind others.
behind_more : (xs ys : List Cell) (rest : List ℕ) → spell_on true (xs ++ ys) rest ≡ spell_on true xs (spell_on true ys rest)
unfolding spell_on pick
behind_more [] ys rest = refl
behind_more (x ∷ xs) ys rest = ap (λ l. byte " " ∷ (spell_cell x ++ l)) (behind_more xs ys rest)

behind-first : (xs ys : List Cell) (rest : List ℕ) → spell_on false (xs ++ ys) rest ≡ spell_on false xs (spell_on (not (is_empty xs)) ys rest)
unfolding spell_on pick is_empty
behind-first [] ys rest = refl
behind-first (x ∷ xs) ys rest = ap (λ l. spell_cell x ++ l) (behind_more xs ys rest)

-- At the last place it does not matter what is put.
puts-last : {a b : List ℕ} {n m : ℕ} {p : List ℕ → List ℕ} (q : List ℕ → List ℕ) → length a ≤ last_place → last_place ≤ n → Puts a n p b m → Puts a n q b m
puts-last {a} {b} {n} {m} {p} q small last f =
    record {
      written = λ behind. puts-out a n (q behind) (omega arith) ∙ sym (puts-out a n (p behind) (omega arith)) ∙ f.written behind;
      reached = λ behind. omega (arith, f.reached behind);
      kept = f.kept;
    }

-- Cells were put from one place up to another, and others behind them: there were some exactly where the places differ.
module _ {a b : List ℕ} {n m : ℕ} (xs : List Cell) (small : length a ≤ last_place) (before : n ≤ last_place) (after : m ≤ last_place) where
  places : n < last_place → Puts a n (spell_on false xs) b m → not (eqb m n) ≡ not (is_empty xs)
  unfolding is_empty spell_on pick
  places h f = go xs f
    where
      go : (l : List Cell) → Puts a n (spell_on false l) b m → not (eqb m n) ≡ not (is_empty l)
      go [] f = let same : m ≡ n = omega (arith, f.reached []) in ap not (eq-eqb m n same)
      go (x ∷ r) f =
          let long = length-append (spell_cell x) (spell_on true r []) in
          ap not (ne_eqb m n (λ e. omega (arith, f.reached [], cell-some x, long)))

  pub puts-behind : {c : List ℕ} {k : ℕ} (ys : List Cell) → Puts a n (spell_on false xs) b m → Puts b m (spell_on (not (eqb m n)) ys) c k → Puts a n (spell_on false (xs ++ ys)) c k
  puts-behind ys f g =
      by-test (ltb n last_place)
      (λ t. puts-as (puts_then f g) (λ rest. sym (behind-first xs ys rest ∙ ap (λ s. spell_on false xs (spell_on s ys rest)) (sym (places (ltb-true n last_place t) f)))))
      (λ t. puts-last (spell_on false (xs ++ ys)) small (ltb-false n last_place t) (puts_then f g))

-- A taxon, and taxa behind it.
pub taxon-put : {a b : List ℕ} {n m : ℕ} (name : List ℕ) (cells : List Cell) → Puts a n (λ rest. bytes "name=" ++ (escaped name ++ (byte "\n" ∷ (bytes "cells=" ++ spell_on false cells (byte "\n" ∷ rest))))) b m
    → Puts a n (spell_taxa (record { name = name; cells = cells } ∷ [])) b m
unfolding spell_taxa line
taxon-put name cells f = puts-as f (λ rest. ap (λ l. bytes "name=" ++ (escaped name ++ (byte "\n" ∷ (bytes "cells=" ++ l)))) (sym (cells-spelled cells (byte "\n" ∷ rest))))

pub taxa-put : {a b c : List ℕ} {n m k : ℕ} (t : Taxon) (ts : List Taxon) → Puts a n (spell_taxa (t ∷ [])) b m → Puts b m (spell_taxa ts) c k → Puts a n (spell_taxa (t ∷ ts)) c k
unfolding spell_taxa
taxa-put t ts f g = puts-as (puts_then f g) (λ rest. refl)

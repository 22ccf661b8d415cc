-- Pieces of a record: what stands behind a piece is appended to it. Assumes nothing.
use Prim.Native.Nat.{ℕ, ◌+◌}
use Prim.Native.String.{String}
use Rattle.block.specs.Reading.{Taxon, Reading}
use Rattle.lexer.specs.Base.{bytes}
use Rattle.record.specs.Spell.{line, spell_taxa, spell_head}
use lib.ListN.{length, length-append}
use mathlib.Core.List.{List, [], ◌∷◌, ◌++◌, append_assoc}
use mathlib.Core.Path.{◌≡◌, refl, ap, ◌∙◌}
use native.Mathlib.Omega.{arith}

pub line-behind : (key : String) (v x y : List ℕ) → line key v (x ++ y) ≡ line key v x ++ y
unfolding line
line-behind key v x y = simp append_assoc

pub taxa-behind : (ts : List Taxon) (x y : List ℕ) → spell_taxa ts (x ++ y) ≡ spell_taxa ts x ++ y
unfolding spell_taxa
taxa-behind [] x y = refl
taxa-behind (t ∷ ts) x y = rw (taxa-behind ts x y, line-behind, line-behind)

pub head-behind : (r : Reading) (x y : List ℕ) → spell_head r (x ++ y) ≡ spell_head r x ++ y
unfolding spell_head
head-behind r x y = simp line-behind

pub taxa-append : (us vs : List Taxon) (x : List ℕ) → spell_taxa (us ++ vs) x ≡ spell_taxa us (spell_taxa vs x)
unfolding spell_taxa
taxa-append [] vs x = refl
taxa-append (u ∷ us) vs x = rw (taxa-append us vs x)

pub line-length : (key : String) (v x : List ℕ) → length (line key v x) ≡ length (line key v []) + length x
line-length key v x = ap length (line-behind key v [] x) ∙ length-append (line key v []) x

pub cells-length : (c x : List ℕ) → length (line "cells=" c x) ≡ 6 + length c + 1 + length x
unfolding line bytes
cells-length c x = omega (arith, length-append c (10 ∷ x))

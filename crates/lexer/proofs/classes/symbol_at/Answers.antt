-- The function `symbol_at` meets its contract: the symbol of the bytes that are told at once computes. Assumes nothing.
use Prim.Native.Nat.{ℕ}
use Rattle.lexer.proofs.ClassLaws.{plain-symbol, symbol-at-byte}
use Rattle.lexer.specs.Base.{pick, among, bytes}
use Rattle.lexer.specs.Classes.{class, marks, symbol, symbol_of}
use Rattle.lexer.specs.declared.Symbol.{Symbol}
use mathlib.Core.List.{List, [], ◌∷◌}
use mathlib.Core.Logic.{⊎_elim, inl, inr}
use mathlib.Core.Path.{◌≡◌, refl, sym, ◌∙◌}
use types.Run.{OneOf}
use Rattle.lexer.proofs.classes.symbol_at.Goals as goal

-- the symbol of each mark that is told
marked : (b : ℕ) (r : List ℕ) → OneOf (40 ∷ 42 ∷ 44 ∷ 47 ∷ 58 ∷ 61 ∷ 92 ∷ 123 ∷ 125 ∷ []) b → symbol b r ≡ Symbol.Punctuation
unfolding symbol symbol_of class pick among bytes marks
marked b r (inl e) = rw e
marked b r (inr (inl e)) = rw e
marked b r (inr (inr (inl e))) = rw e
marked b r (inr (inr (inr (inl e)))) = rw e
marked b r (inr (inr (inr (inr (inl e))))) = rw e
marked b r (inr (inr (inr (inr (inr (inl e)))))) = rw e
marked b r (inr (inr (inr (inr (inr (inr (inl e))))))) = rw e
marked b r (inr (inr (inr (inr (inr (inr (inr (inl e)))))))) = rw e
marked b r (inr (inr (inr (inr (inr (inr (inr (inr e)))))))) = rw e

pub returns-then-plain : goal.returns-then-plain
returns-then-plain c = plain-symbol _ _ c.requires (sym c.plain.ensures ∙ c.if-plain.true)

pub returns-in-10 : goal.returns-in-10
unfolding symbol symbol_of class pick
returns-in-10 c = symbol-at-byte _ _ 10 _ c.requires c.in-10.is (λ r. refl)

pub returns-in-9 : goal.returns-in-9
unfolding symbol symbol_of class pick
returns-in-9 c =
    let h = c.requires in
    ⊎_elim (λ e. symbol-at-byte _ _ 9 _ h e (λ r. refl)) (λ e. symbol-at-byte _ _ 32 _ h e (λ r. refl)) c.in-9.is

pub returns-in-34 : goal.returns-in-34
unfolding symbol symbol_of class pick
returns-in-34 c = symbol-at-byte _ _ 34 _ c.requires c.in-34.is (λ r. refl)

pub returns-in-39 : goal.returns-in-39
unfolding symbol symbol_of class pick
returns-in-39 c = symbol-at-byte _ _ 39 _ c.requires c.in-39.is (λ r. refl)

pub returns-in-91 : goal.returns-in-91
unfolding symbol symbol_of class pick
returns-in-91 c = symbol-at-byte _ _ 91 _ c.requires c.in-91.is (λ r. refl)

pub returns-in-93 : goal.returns-in-93
unfolding symbol symbol_of class pick among bytes marks
returns-in-93 c = symbol-at-byte _ _ 93 _ c.requires c.in-93.is (λ r. refl)

pub returns-in-40 : goal.returns-in-40
returns-in-40 c = symbol-at-byte _ _ _ _ c.requires refl (λ r. marked _ r c.in-40.is)

pub returns-in-41 : goal.returns-in-41
unfolding symbol symbol_of class pick among bytes marks
returns-in-41 c =
    let h = c.requires in
    ⊎_elim (λ e. symbol-at-byte _ _ 41 _ h e (λ r. refl)) (λ e. symbol-at-byte _ _ 59 _ h e (λ r. refl)) c.in-41.is

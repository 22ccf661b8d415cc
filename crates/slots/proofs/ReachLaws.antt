-- Where the letters of a name lead, one after the other. Assumes nothing.
use Prim.Native.Nat.{ℕ, ◌+◌}
use Rattle.lexer.proofs.Basics.{by-test}
use Rattle.lexer.specs.declared.Cursor.{Cursor}
use Rattle.slots.proofs.TrieLaws.{leads-then}
use Rattle.slots.specs.Trie.{Leads, Ends, LetterTold, letters_left}
use Rattle.slots.specs.declared.trie.Letter.{Letter}
use borrow.Author.Tests.{eqb-true, eqb-false}
use lib.Dec.{eqb}
use mathlib.Core.List.{List, [], ◌∷◌}
use mathlib.Core.Path.{◌≡◌}

module _ {text work : List ℕ} {head top : ℕ} {all : List ℕ} {link : ℕ} {c : Cursor} (i : Leads head work top (head + 1) all link (letters_left text c)) {l : Letter} (t : LetterTold text c l) where
  pub reach-whole : l.code ≡ 257 → {n : ℕ} → ((h : ℕ) (r : List ℕ) → Leads h work top link (l.code ∷ r) n r) → Leads head work top (head + 1) all n []
  reach-whole e b = leads-then head work top i (rw (t.last e, ← e) (b head []))

  pub reach-more : (l.code ≡ 257 → ⊥) → {n : ℕ} → ((h : ℕ) (r : List ℕ) → Leads h work top link (l.code ∷ r) n r) → Leads head work top (head + 1) all n (letters_left text l.next)
  reach-more o b = leads-then head work top i (rw (t.more o).here (b head (letters_left text l.next)))

  pub reach-part : {n : ℕ} → ((h : ℕ) (r : List ℕ) → Leads h work top link (l.code ∷ r) n (l.code ∷ r) × Ends work top n (l.code ∷ r))
      → Leads head work top (head + 1) all n (letters_left text c) × Ends work top n (letters_left text c)
  reach-part {n} b =
      by-test (eqb l.code 257)
      (λ e. let s = eqb-true l.code 257 e in go [] (rw s (t.last s)))
      (λ e. go (letters_left text l.next) (t.more (eqb-false l.code 257 e)).here)
    where
      go : (r : List ℕ) → letters_left text c ≡ l.code ∷ r → Leads head work top (head + 1) all n (letters_left text c) × Ends work top n (letters_left text c)
      go r e = (leads-then head work top i (rw e (b head r).0), rw e (b head r).1)

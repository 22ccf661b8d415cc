-- The function `place_at` meets its contract: a lexer at the front of the text goes on to the byte. Assumes nothing.
use Prim.Native.Nat.{ℕ}
use Rattle.lexer.proofs.lexer_of.place_at.Goals as goal
use Rattle.lexer.specs.Places.{place}
use Rattle.lexer.specs.Positions.{moved_to, start, lexer_at, place_of}
use Rattle.lexer.specs.declared.Place.{Place}
use Rattle.lexer.specs.declared.lexer_of.Lexer.{Lexer}
use denote.Bor.{Bor}
use mathlib.Core.List.{List}
use mathlib.Core.Path.{◌≡◌, ap, ◌∙◌}
use native.Mathlib.Nat.{sub-zero}

-- what `skip_to` answers at a lexer
abbrev skipped : Lexer → ℕ → Lexer
skipped r n = lexer_at r.text (moved_to r.text.now r.at r.line r.column n)

placed : (s : Bor (List ℕ)) (n : ℕ) (r r' : Lexer) (t : Place) → r ≡ lexer_at s start → r' ≡ skipped r n → t ≡ place_of r' → t ≡ place s.now n
unfolding place moved_to
placed s n r r' t e e' e'' = e'' ∙ (ap place_of (e' ∙ ap (λ (x : Lexer). skipped x n) e) ∙ rw sub-zero)

pub returns : goal.returns
returns c = placed _ _ _ _ _ c.new.ensures c.skip_to.ensures c.place.ensures

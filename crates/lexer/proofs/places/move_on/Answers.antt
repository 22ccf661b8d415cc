-- The function move_on meets its contract. Assumes nothing.
use Prim.Native.Nat.{◌+◌}
use Rattle.lexer.specs.Base.{pick}
use Rattle.lexer.specs.Classes.{rank, is_newline, is_return, is_part}
use Rattle.lexer.specs.Places.{move}
use Rattle.lexer.specs.declared.Place.{Place}
use Rattle.lexer.specs.declared.Symbol.{Symbol}
use mathlib.Core.Logic.{⊎_elim}
use mathlib.Core.Path.{◌≡◌, refl, sym, ap}
use native.Mathlib.Numerals.{add-one}
use Rattle.lexer.proofs.places.move_on.Goals as goal

-- any other symbol than newline, return and part takes one column
column : (p : Place) (s : Symbol) → (s ≡ Symbol.Newline → ⊥) → (s ≡ Symbol.Return → ⊥) → (s ≡ Symbol.Part → ⊥)
    → ◌≡◌ {A = Place} (record { line = p.line; column = p.column + 1 }) (move p s)
unfolding move pick rank is_newline is_return is_part
column p Symbol.Newline n r q = absurd (n refl)
column p Symbol.Return n r q = absurd (r refl)
column p Symbol.Blank n r q = rw add-one
column p Symbol.Single n r q = rw add-one
column p Symbol.Double n r q = rw add-one
column p Symbol.Open n r q = rw add-one
column p Symbol.Close n r q = rw add-one
column p Symbol.Punctuation n r q = rw add-one
column p Symbol.Other n r q = rw add-one
column p Symbol.Part n r q = absurd (q refl)

pub returns-in-Newline : goal.returns-in-Newline
unfolding move pick rank is_newline is_return is_part
returns-in-Newline c = rw add-one (sym (ap (move c.args.p) c.in-Newline.is))

pub returns-in-Return : goal.returns-in-Return
unfolding move pick rank is_newline is_return is_part
returns-in-Return c = ⊎_elim (λ e. sym (ap (move c.args.p) e)) (λ e. sym (ap (move c.args.p) e)) c.in-Return.is

pub returns-in_default : goal.returns-in_default
returns-in_default c = column c.args.p c.args.s c.in_default.not-Newline c.in_default.not-Return c.in_default.not-Part

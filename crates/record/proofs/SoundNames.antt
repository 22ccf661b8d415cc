-- What the test of a name says. Assumes nothing.
use Prim.Native.Nat.{ℕ}
use Rattle.lexer.proofs.Basics.{all-four}
use Rattle.lexer.proofs.LabelLaws.{NameParts}
use Rattle.lexer.specs.Base.{among}
use Rattle.lexer.specs.Classes.{blank}
use Rattle.lexer.specs.Utf8.{utf8}
use Rattle.block.specs.Sound.{no_underscore, no_return, not_blank, sound_name}
use borrow.Author.Tests.{not-true}
use mathlib.Core.Bool.{true, ◌||◌, not}
use mathlib.Core.List.{List}
use mathlib.Core.Path.{◌≡◌}

pub sound-name : (n : List ℕ) → sound_name n ≡ true → NameParts n
unfolding sound_name no_underscore no_return not_blank
sound-name n h =
    let p = all-four (utf8 n) (not (among 95 n)) (not (among 13 n)) (not (blank n) || among 32 n) h in
    record { utf = p.0; unlined = not-true (among 95 n) p.1; returnless = not-true (among 13 n) p.2; marked = p.3 }

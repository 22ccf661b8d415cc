-- The format that a style means, and the one that the code makes of it. Assumes nothing.
use Rattle.std.specs.Prelude.{Some, None, Option}
use Prim.Native.Nat.{ℕ, ◌≤◌}
use Rattle.block.specs.Format as F
use Rattle.block.specs.Formats.{Settled, meant, options_of}
use Rattle.block.specs.declared.format_options.Options.{Options}
use Rattle.block.specs.declared.formats.Format.{Format}
use Rattle.commands.specs.MatrixHeld.{format_held}
use Rattle.commands.specs.StateHeld.{style_of}
use Rattle.commands.specs.StatePlaced.{StylePlaced}
use Rattle.lexer.proofs.Basics.{by-test}
use Rattle.lexer.specs.Base.{bytes}
use Rattle.parser.specs.Storing.{symbols_few}
use borrow.Author.Tests.{le-leb, lt-leb, leb-true, leb-false}
use lib.Dec.{leb}
use lib.ListN.{length, length-take}
use mathlib.Core.Bool.{true}
use mathlib.Core.List.{List}
use mathlib.Core.Path.{◌≡◌, refl, sym, ap, ◌∙◌}
use native.Mathlib.Omega.{arith}

-- A format that holds all its symbols is the one that was meant.
module _ (f : Format) (g : F.Format) (s : Settled f g) where
  settled-meant : leb (length g.symbols) 74 ≡ true → meant f ≡ g
  settled-meant e =
      by-test (leb f.count 74) (λ t. s.few (leb-true f.count 74 t))
      (λ n. absurd (omega (arith, s.many (leb-false f.count 74 n), leb-true (length g.symbols) 74 e)))

  settled-count : leb f.count 74 ≡ leb (length g.symbols) 74
  unfolding meant
  settled-count =
      by-test (leb f.count 74)
      (λ t.
      let few = leb-true f.count 74 t in
      let same = ap (λ x. length x.symbols) (s.few few) in
      t ∙ sym (le-leb (length g.symbols) 74 (omega (arith, same, length-take f.count f.symbols))))
      (λ n. n ∙ sym (lt-leb (length g.symbols) 74 (s.many (leb-false f.count 74 n))))

default-short : length (F.default_format).symbols ≤ 74
unfolding F.default_format bytes
default-short = omega arith

-- The same by the style.
module _ (text front : List ℕ) (style : Option Options) where
  module _ (e : style ≡ None) where
    held-default : F.default_format ≡ format_held text front style
    unfolding format_held style_of
    held-default = rw e

    pub default-meant : (f : Format) → meant f ≡ F.default_format → meant f ≡ format_held text front style
    default-meant f m = m ∙ held-default

    pub default-few : true ≡ symbols_few text front style
    unfolding symbols_few
    default-few = rw (← held-default) (sym (le-leb (length (F.default_format).symbols) 74 default-short))

  module _ (o : Options) (e : style ≡ Some o) where
    held-given : F.format_of (options_of text front o) ≡ format_held text front style
    unfolding format_held style_of
    held-given = rw e

    module _ (f : Format) (s : Settled f (F.format_of (options_of text front o))) where
      pub given-meant : symbols_few text front style ≡ true → meant f ≡ format_held text front style
      unfolding symbols_few
      given-meant few = settled-meant f _ (rw held-given at s) few

      pub given-few : leb f.count 74 ≡ symbols_few text front style
      unfolding symbols_few
      given-few = settled-count f _ (rw held-given at s)

-- A style that is placed has few symbols.
pub placed-few : (text front : List ℕ) (size : ℕ) (style : Option Options) → StylePlaced text front size style → symbols_few text front style ≡ true
unfolding symbols_few format_held style_of
placed-few text front size None p = sym (default-few text front None refl)
placed-few text front size (Some o) p = le-leb (length (F.format_of (options_of text front o)).symbols) 74 p

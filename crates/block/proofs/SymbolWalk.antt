-- The walk over the symbols of a format for the state that a symbol is. Assumes nothing.
use Prim.Native.Nat.{ℕ, ◌+◌, ◌≤◌, ◌<◌}
use Rattle.block.specs.Chunk.{find_symbol, state_of}
use Rattle.block.specs.Format.{Format, equal}
use Rattle.block.specs.Formats.{meant}
use Rattle.block.specs.declared.formats.Format as Code
use Rattle.lexer.proofs.ListLaws.{drop-next}
use Rattle.lexer.specs.Base.{pick}
use lib.ListN.{length, get_or, drop, drop_of_length-le, length-take}
use lib.Seq.{get_or-take}
use mathlib.Core.Bool.{true, false}
use mathlib.Core.Option.{none, some}
use mathlib.Core.Path.{◌≡◌, refl}
use native.Mathlib.Numerals.{add-one}
use native.Mathlib.Omega.{arith}

-- What is sought is found alike from an index on.
pub record Seeking (f : Format) (b i : ℕ) : Type 0 where
  pub rest : find_symbol f b i (drop i f.symbols) ≡ state_of f b

pub seeking-start : (f : Format) (b : ℕ) → Seeking f b 0
unfolding state_of
seeking-start f b = record { rest = refl }

module _ (f : Format) (b i : ℕ) (s : Seeking f b i) where
  pub seeking-turn : i < length f.symbols → equal f (get_or f.symbols i 0) b ≡ false → Seeking f b (i + 1)
  unfolding find_symbol pick
  seeking-turn h e = record { rest = rw (add-one i) (rw (drop-next f.symbols i h, e, add-one i) at s.rest) }

  pub seeking-found : i < length f.symbols → equal f (get_or f.symbols i 0) b ≡ true → some i ≡ state_of f b
  unfolding find_symbol pick
  seeking-found h e = rw (drop-next f.symbols i h, e) at s.rest

  pub seeking-end : length f.symbols ≤ i → none ≡ state_of f b
  unfolding find_symbol
  seeking-end h = rw (drop_of_length-le f.symbols h) at s.rest

-- The symbols that a format of the code means are the first of its array.
module _ (f : Code.Format) (i : ℕ) where
  pub symbol-meant : i < length (meant f).symbols → get_or (meant f).symbols i 0 ≡ get_or f.symbols i 0
  unfolding meant
  symbol-meant h = get_or-take f.count f.symbols i 0 (omega (arith, length-take f.count f.symbols))

-- A format that is read has at most 73 symbols, so that the code's format holds them all. Assumes nothing.
use Prim.Native.Nat.{ℕ, ◌≤◌}
use Rattle.block.proofs.FormatSound.{format-good}
use Rattle.block.specs.Dna.{acgt}
use Rattle.block.specs.Format.{Format, all_valid, format}
use Rattle.block.specs.Outcome.{done}
use Rattle.block.specs.Sound.{distinct, most_symbols, sound_symbols}
use Rattle.block.specs.declared.data.DataType.{DataType}
use Rattle.lexer.proofs.Basics.{all-four, same_true}
use Rattle.lexer.specs.Base.{bytes}
use Rattle.lexer.specs.Words.{Numbered}
use borrow.Author.Tests.{leb-true}
use lib.Dec.{leb}
use lib.ListN.{length}
use mathlib.Core.Bool.{true, false, false≢true}
use mathlib.Core.List.{List}
use mathlib.Core.Path.{◌≡◌, ap}
use native.Mathlib.Omega.{arith}

sound-few : (t : DataType) (l : List ℕ) → sound_symbols t l false ≡ true → length l ≤ 73
unfolding sound_symbols most_symbols acgt bytes
sound-few DataType.Standard l h = leb-true (length l) 73 (all-four (leb 2 (length l)) (leb (length l) 73) (all_valid l) (distinct l) h).1
sound-few DataType.Dna l h = omega (arith, ap length (same_true l acgt h))

pub format-few : (i : ℕ) (ws : List Numbered) (f : Format) → format i ws ≡ done f → length f.symbols ≤ 73
format-few i ws f h = sound-few f.data_type f.symbols ((format-good i ws f h).symbols false (λ e. absurd (false≢true e)))

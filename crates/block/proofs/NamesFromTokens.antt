-- The name of every taxon of a reading, and each of its labels and state labels, is the name of a token of the text. Assumes nothing.
use Prim.Native.Nat.{ℕ}
use Rattle.block.proofs.MatrixSound.{Untyped}
use Rattle.block.proofs.NamesSound.{token-named, all-named}
use Rattle.block.proofs.OutcomeLaws.{members}
use Rattle.block.proofs.ReadCommands.{read-finished}
use Rattle.block.proofs.ReadingSound.{reading-untyped}
use Rattle.block.specs.Parse.{reading, read}
use Rattle.block.specs.Reading.{Reading}
use Rattle.block.specs.Sequential.{names}
use Rattle.block.specs.Sound.{label_texts}
use Rattle.block.specs.TaxonOrder.{TokenNamed, all_named}
use Rattle.lexer.specs.Tokens.{tokens}
use Rattle.lexer.specs.Words.{numbered}
use mathlib.Core.List.{List, Memᴰ}
use mathlib.Core.Path.{◌≡◌}

module _ (text : List ℕ) (r : Reading) (h : read text ≡ reading r) where
  -- the reading, with names and labels of tokens
  from-tokens : Untyped (TokenNamed (numbered 0 (tokens text))) r
  from-tokens =
      let ws = numbered 0 (tokens text) in
      reading-untyped (TokenNamed ws) (λ w. Memᴰ w ws) (token-named ws) text r (members ws) (read-finished text r h)

  pub names-from-tokens : all_named (numbered 0 (tokens text)) (names r.taxa)
  names-from-tokens = all-named (numbered 0 (tokens text)) (names r.taxa) from-tokens.names_each

  pub labels-from-tokens : all_named (numbered 0 (tokens text)) (label_texts r.characters)
  labels-from-tokens = all-named (numbered 0 (tokens text)) (label_texts r.characters) from-tokens.labels_each

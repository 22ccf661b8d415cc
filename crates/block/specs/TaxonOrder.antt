-- The order of the taxa, and where names come from, as statements about a text's commands and tokens.
use Rattle.std.specs.Prelude.{ℕ, eqb, length, Bool, true, false, ◌↔◌, ◌≡◌}
use Rattle.block.specs.Blocks as Blocks
use Rattle.block.specs.Blocks.{Data, Phase, outside, in_taxa, in_data, in_assumptions, in_trees, State, at_start, step, row_of, matrix_shape}
use Rattle.block.specs.Commands.{Command, command, commands, words, newline}
use Rattle.block.specs.Interleaved.{all_long}
use Rattle.block.specs.Names.{unique_names}
use Rattle.block.specs.Outcome.{done, fold}
use Rattle.block.specs.Reading.{Taxon}
use Rattle.block.specs.Sequential.{Shape, names}
use Rattle.block.specs.declared.dimension.Dimensions.{Dimensions}
use Rattle.lexer.specs.Base.{pick, bytes}
use Rattle.lexer.specs.Tokens.{tokens}
use Rattle.lexer.specs.Words.{Numbered, numbered, is, label}
use mathlib.Core.List.{List, [], ◌∷◌, ◌++◌, Memᴰ}
use Rattle.std.proofs.Math.Option.{Option, none, some}

-- The tokens behind the header, the first that is no newline.
unfoldable pub behind_header : List Numbered → List Numbered
behind_header [] = []
behind_header (w ∷ r) = let later = behind_header r in pick (newline w) later r

-- The commands of a text.
unfoldable pub commands_of : List ℕ → List Command
commands_of text = commands (behind_header (numbered 0 (tokens text)))

-- One of these tokens is this name.
pub record TokenNamed (ws : List Numbered) (n : List ℕ) : Type 0 where
  pub token : Numbered
  pub among : Memᴰ token ws
  pub named : label token ≡ some n

-- Each of these texts is the name of one of the tokens.
unfoldable pub all_named : List Numbered → List (List ℕ) → Type 0
all_named ws [] = Unit {0}
all_named ws (n ∷ r) = TokenNamed ws n × all_named ws r

-- The blocks in which TAXLABELS declares taxa: TAXA, and DATA or CHARACTERS.
unfoldable pub is_declaring : Phase → Bool
is_declaring outside = false
is_declaring (in_taxa b count names) = true
is_declaring (in_data b d) = true
is_declaring (in_assumptions b default set) = false
is_declaring (in_trees b) = false

-- A TAXLABELS command among these that declares the names: the commands before it lead to such a block.
pub record Declares (cs : List Command) (declared : List (List ℕ)) : Type 0 where
  pub before : List Command
  pub head : Numbered
  pub raw : List Numbered
  pub after : List Command
  pub here : cs ≡ before ++ (command head raw ∷ after)
  pub word : is (bytes "TAXLABELS") head ≡ true
  pub state : State
  pub reached : fold step at_start before ≡ done state
  pub inside : is_declaring state.phase ≡ true
  pub named : unique_names (words raw) ≡ done declared

-- The MATRIX command of a text: the commands before it lead to a data block, by which its rows are read.
pub record MatrixOf (cs : List Command) : Type 0 where
  -- the command, between those before it and those after it
  pub before : List Command
  pub head : Numbered
  pub raw : List Numbered
  pub after : List Command
  pub here : cs ≡ before ++ (command head raw ∷ after)
  pub word : is (bytes "MATRIX") head ≡ true
  -- the state before it, with the open data block
  pub state : State
  pub reached : fold step at_start before ≡ done state
  pub block : ℕ
  pub block_data : Data
  pub inside : state.phase ≡ in_data block block_data
  -- what the block says that the matrix is to be, and its rows as they come
  pub dimensions : Dimensions
  pub sized : block_data.dimensions ≡ some dimensions
  pub shape : Shape
  pub shaped : matrix_shape block_data dimensions head.index ≡ done shape
  pub rows : List Taxon
  pub read : Blocks.rows shape raw ≡ done rows
  -- there are as many rows as NTAX says, where it is given, and as many as declared names, where there are such
  pub as_ntax : eqb dimensions.taxa 0 ≡ false → length rows ≡ dimensions.taxa
  pub as_names : (ns : List (List ℕ)) → block_data.taxa ≡ some ns → length rows ≡ length ns
  -- every row has NCHAR cells, and its name is that of one of the command's tokens
  pub long : all_long dimensions.characters rows ≡ true
  pub named : all_named raw (names rows)
  -- the block has names as declared exactly where a TAXLABELS command before it declares them
  pub declared : (ns : List (List ℕ)) → (block_data.taxa ≡ some ns) ↔ Declares before ns

-- Each of these taxa has the cells of the row with its name.
unfoldable pub all_rows : List Taxon → List Taxon → Type 0
all_rows rows [] = Unit {0}
all_rows rows (t ∷ r) = (row_of t.name rows ≡ some t) × all_rows rows r

-- Without a declaration the taxa are the rows as they come. With one, the k-th taxon has the k-th declared name and the cells of the row of
-- that name.
abbrev pub Follows : Option (List (List ℕ)) → List Taxon → List Taxon → Type 0
Follows none rows taxa = taxa ≡ rows
Follows (some declared) rows taxa = (names taxa ≡ declared) × all_rows rows taxa

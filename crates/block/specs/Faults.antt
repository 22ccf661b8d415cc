-- Where a text is refused: at 0,0, at an opening mark, or at a token, and which token each number may name.
use Rattle.std.specs.Prelude.{ℕ, zero, suc, ◌+◌, ◌*◌, ◌≤◌, ◌<◌, eqb, length, get_or, Bool, true, false, ◌&&◌, ◌||◌, not, ◌↔◌, ◌⊎◌, ◌≡◌}
use Rattle.block.specs.Blocks.{Data, Phase, outside, in_taxa, in_data, in_assumptions, in_trees, State, at_start, declared_count, rows, matrix_shape, labelling, characters_in, ends, is_outside, step, orderable, finish}
use Rattle.block.specs.Cell.{Cell}
use Rattle.block.specs.Chunk.{symbols, only_states}
use Rattle.block.specs.Commands.{Command, command, empty, unended, words, newline, semicolon}
use Rattle.block.specs.Dimensions.{dimensions}
use Rattle.block.specs.Format.{Format, default_format, Options, no_options, option, key, format_turn, format_end, format_of, good_symbols}
use Rattle.block.specs.Interleaved.{Line, lines, Page, first_page, pages, all_long}
use Rattle.block.specs.Names.{unique_names}
use Rattle.block.specs.Outcome.{done, refused, then, fold}
use Rattle.block.specs.Parse.{fault, read}
use Rattle.block.specs.Reading.{Taxon, Reading}
use Rattle.block.specs.Sequential.{Shape, names, between, sequential_turn}
use Rattle.block.specs.TaxonOrder.{commands_of}
use Rattle.block.specs.Typeset.{Types, star, types, Typeset, typeset_turn}
use Rattle.block.specs.declared.dimension.Dimensions.{Dimensions}
use Rattle.block.specs.declared.formats.Key.{Key}
use Rattle.lexer.specs.Base.{pick, bytes, byte, is_empty, given, alike}
use Rattle.lexer.specs.Classes.{symbol}
use Rattle.lexer.specs.Lexing.{token_at}
use Rattle.lexer.specs.Places.{place, starts, first_byte}
use Rattle.lexer.specs.Refusals.{number}
use Rattle.lexer.specs.Tokens.{next, unclosed, tokens, unmarked, left_open}
use Rattle.lexer.specs.Utf8.{utf8}
use Rattle.lexer.specs.Words.{Numbered, numbered, is, punct, label, largest}
use Rattle.lexer.specs.declared.Mode.{Mode}
use Rattle.lexer.specs.declared.Place.{Place}
use Rattle.lexer.specs.declared.refusal.Refusal.{Refusal}
use mathlib.Core.List.{List, [], ◌∷◌, ◌++◌, Memᴰ, map}
use Rattle.std.proofs.Math.Option
use Rattle.std.proofs.Math.Option.{Option, none, some}

-- A token of the text, with its index.
abbrev pub TokenOf : List ℕ → Numbered → Type 0
TokenOf text w = Memᴰ w (numbered 0 (tokens text))

-- The first token that is no newline: where #NEXUS must stand.
unfoldable pub leading : List Numbered → Option Numbered
leading [] = none
leading (w ∷ r) = let later = leading r in pick (newline w) later (some w)

abbrev pub Header : List ℕ → Numbered → Type 0
Header text w = leading (numbered 0 (tokens text)) ≡ some w

-- A command of the text to which reading comes: the commands before it are taken, and lead to a state.
pub record ComesTo (text : List ℕ) (c : Command) : Type 0 where
  pub before : List Command
  pub after : List Command
  pub here : commands_of text ≡ before ++ (c ∷ after)
  pub state : State
  pub reached : fold step at_start before ≡ done state

-- All commands of the text are taken, and lead to a state.
pub record ComesToEnd (text : List ℕ) : Type 0 where
  pub state : State
  pub reached : fold step at_start (commands_of text) ≡ done state

-- The first word of such a command, which is of this kind.
pub record FirstWord (text : List ℕ) (kind : Numbered → Bool) (w : Numbered) : Type 0 where
  pub behind : List Numbered
  pub comes : ComesTo text (command w behind)
  pub of_kind : kind w ≡ true

-- A word behind the first word of a command of this kind: any token up to its `;` but a newline.
pub record LaterWord (text : List ℕ) (kind : Numbered → Bool) (w : Numbered) : Type 0 where
  pub first : Numbered
  pub behind : List Numbered
  pub comes : ComesTo text (command first behind)
  pub of_kind : kind first ≡ true
  pub among : Memᴰ w behind
  pub shown : newline w ≡ false

-- The name of a block of this kind: the one word behind a BEGIN outside a block.
pub record BlockName (text : List ℕ) (kind : Numbered → Bool) (w : Numbered) : Type 0 where
  pub first : Numbered
  pub behind : List Numbered
  pub comes : ComesTo text (command first behind)
  pub top : is_outside comes.state.phase ≡ true
  pub begins : is (bytes "BEGIN") first ≡ true
  pub alone : words behind ≡ w ∷ []
  pub of_kind : kind w ≡ true

-- The index of the name of the block that is open.
unfoldable pub open_name : Phase → Option ℕ
open_name outside = none
open_name (in_taxa b count names) = some b
open_name (in_data b d) = some b
open_name (in_assumptions b default set) = some b
open_name (in_trees b) = some b

-- The name of a block of this kind that END ends.
pub record EndedName (text : List ℕ) (kind : Numbered → Bool) (w : Numbered) : Type 0 where
  pub name : BlockName text kind w
  pub end : Numbered
  pub first : FirstWord text ends end
  pub opened : open_name first.comes.state.phase ≡ some w.index

-- Kinds of words: any; a block that must hold something when it ends, and one that may be read; the label commands; the commands with names of
-- taxa, and with names of any kind; the options of DIMENSIONS that take a value.
abbrev pub any : Numbered → Bool
any w = true

unfoldable pub filled_block : Numbered → Bool
filled_block w = is (bytes "TAXA") w || (is (bytes "DATA") w || is (bytes "CHARACTERS") w)

unfoldable pub known_block : Numbered → Bool
known_block w = filled_block w || (is (bytes "ASSUMPTIONS") w || is (bytes "TREES") w)

unfoldable pub label_word : Numbered → Bool
label_word w = given (labelling w)

unfoldable pub taxon_word : Numbered → Bool
taxon_word w = is (bytes "TAXLABELS") w || is (bytes "MATRIX") w

unfoldable pub name_word : Numbered → Bool
name_word w = taxon_word w || (label_word w || is (bytes "TYPESET") w)

unfoldable pub count_word : Numbered → Bool
count_word w = is (bytes "NTAX") w || is (bytes "NCHAR") w

-- The marks that open a set of states.
unfoldable pub set_mark : Numbered → Bool
set_mark w = punct (byte "{") w || punct (byte "(") w

-- The format of the data block that is open.
unfoldable pub format_in : Phase → Format
format_in outside = default_format
format_in (in_taxa b count names) = default_format
format_in (in_data b d) = Option.get_or d.format default_format
format_in (in_assumptions b default set) = default_format
format_in (in_trees b) = default_format

-- The options of FORMAT that take a value.
unfoldable pub valued_key : Key → Bool
valued_key Key.DataType = true
valued_key Key.RespectCase = false
valued_key Key.Labels = false
valued_key Key.NoTokens = false
valued_key Key.Interleave = true
valued_key Key.Symbols = true
valued_key Key.Missing = true
valued_key Key.Gap = true
valued_key Key.Unknown = false

-- Why a block may not begin in this state: its name is none that is read; or there is such a block already, or the matrix is, which must stand
-- behind TAXA and before ASSUMPTIONS.
pub data Misplaced (s : State) (w : Numbered) : Type 0 where
  unknown : known_block w ≡ false → Misplaced s w
  taxa_late : is (bytes "TAXA") w ≡ true → given s.taxa || given s.matrix ≡ true → Misplaced s w
  data_twice : is (bytes "DATA") w || is (bytes "CHARACTERS") w ≡ true → given s.matrix ≡ true → Misplaced s w
  assumptions_early : is (bytes "ASSUMPTIONS") w ≡ true → given s.matrix ≡ false → Misplaced s w
  assumptions_twice : is (bytes "ASSUMPTIONS") w ≡ true → s.assumptions ≡ true → Misplaced s w

-- A block that must hold something holds nothing: no names of taxa, no matrix.
unfoldable pub unfilled : Phase → Bool
unfilled outside = false
unfilled (in_taxa b count names) = not (given names)
unfilled (in_data b d) = not (given d.matrix)
unfilled (in_assumptions b default set) = false
unfilled (in_trees b) = false

-- What MATRIX lacks before it: DIMENSIONS; a count of characters or of taxa in it; NTAX beside NEWTAXA.
pub data NotReady (d : Data) : Type 0 where
  no_dimensions : d.dimensions ≡ none → NotReady d
  no_counts : {x : Dimensions} → d.dimensions ≡ some x → eqb x.characters 0 || eqb (declared_count d.taxa x.taxa) 0 ≡ true → NotReady d
  no_new_count : {x : Dimensions} → d.dimensions ≡ some x → x.new_taxa && eqb x.taxa 0 ≡ true → NotReady d

-- By what a MATRIX command with this first word is read, where reading comes to it: the data of the block, and the shape that follows from it.
pub record ShapedBy (s : State) (w : Numbered) (sh : Shape) : Type 0 where
  pub block : ℕ
  pub block_data : Data
  pub inside : s.phase ≡ in_data block block_data
  pub dimensions : Dimensions
  pub sized : block_data.dimensions ≡ some dimensions
  pub shaped : matrix_shape block_data dimensions w.index ≡ done sh

-- A word's name is like one of these, ASCII case ignored.
pub record LikeOne (names : List (List ℕ)) (w : Numbered) : Type 0 where
  pub name : List ℕ
  pub named : label w ≡ some name
  pub other : List ℕ
  pub among : Memᴰ other names
  pub like : alike name other ≡ true

-- A row of the matrix with these words begins at this one, and these are the names of the rows before it: those that the words before it are
-- read as; or, on the first page, the first words of the lines before.
pub data BeginsRow (sh : Shape) (raw : List Numbered) : Numbered → List (List ℕ) → Type 0 where
  in_sequence : (before after : List Numbered) {w : Numbered} {rows : List Taxon} → sh.format.interleave ≡ false → words raw ≡ before ++ (w ∷ after)
      → fold (sequential_turn sh) (between []) before ≡ done (between rows) → BeginsRow sh raw w (names rows)
  on_page : (before after : List Line) (l : Line) {ns : List (List ℕ)} → sh.format.interleave ≡ true → lines raw ≡ before ++ (l ∷ after)
      → length before < sh.taxa → map (λ (k : Line). label k.first) before ≡ map some ns → BeginsRow sh raw l.first ns

-- The rows of the matrix with these words are not as many as they are to be: one begins, at this word, behind the last; or a page begins with it
-- that has too few lines.
pub data RowsMiscounted (sh : Shape) (raw : List Numbered) : Numbered → Type 0 where
  too_many : (before after : List Numbered) {w : Numbered} {rows : List Taxon} → sh.format.interleave ≡ false → words raw ≡ before ++ (w ∷ after)
      → fold (sequential_turn sh) (between []) before ≡ done (between rows) → length rows ≡ sh.taxa → RowsMiscounted sh raw w
  short_page : (before after : List Line) (l : Line) (whole : ℕ) → sh.format.interleave ≡ true → lines raw ≡ before ++ (l ∷ after)
      → length before ≡ whole * sh.taxa → suc (length after) < sh.taxa → RowsMiscounted sh raw l.first

-- At the end they are not, or, of pages, have not all their cells.
pub data RowsMissing (sh : Shape) (raw : List Numbered) : Type 0 where
  too_few : {rows : List Taxon} → sh.format.interleave ≡ false → fold (sequential_turn sh) (between []) (words raw) ≡ done (between rows) → ¬ (length rows ≡ sh.taxa) → RowsMissing sh raw
  pages_short : {p : Page} → sh.format.interleave ≡ true → pages sh first_page (lines raw) ≡ done p → eqb (length p.below) sh.taxa && all_long sh.characters p.below ≡ false → RowsMissing sh raw

-- The declared names are not as many as NTAX, which is given, says; or their count has more than 64 bits.
abbrev pub NamesMiscounted : ℕ → List (List ℕ) → Type 0
NamesMiscounted ntax ns = (¬ (ntax ≡ 0) × ¬ (length ns ≡ ntax)) ⊎ (largest < length ns)

-- What TYPESET is judged by in this state.
abbrev pub typeset_in : State → Numbered → Typeset
typeset_in s w = record { characters = characters_in s.matrix; head = w.index }

-- Which token a number may stand at.
pub data MayStandAt (text : List ℕ) : Refusal → Numbered → Type 0 where
  -- 6: the first token that is no newline, where it is not #NEXUS
  not_nexus : {w : Numbered} → Header text w → is (bytes "#NEXUS") w ≡ false → MayStandAt text Refusal.NoNexus w
  -- 7: a `;` with no command before it
  empty_command : {w : Numbered} → semicolon w ≡ true → ComesTo text (empty w.index) → MayStandAt text Refusal.EmptyCommand w
  -- 8: the first word of a command that no `;` ends
  unended_command : {w : Numbered} → newline w ≡ false → semicolon w ≡ false → ComesTo text (unended w.index) → MayStandAt text Refusal.UnendedCommand w
  -- 9: the name of the block that is open at the end
  unended_block : {w : Numbered} (e : ComesToEnd text) → BlockName text known_block w → open_name e.state.phase ≡ some w.index → MayStandAt text Refusal.UnendedBlock w
  -- 10: END or ENDBLOCK with words behind it, in a block
  words_after_end : {w : Numbered} (f : FirstWord text ends w) → is_outside f.comes.state.phase ≡ false → is_empty (words f.behind) ≡ false → MayStandAt text Refusal.WordsAfterEnd w
  -- 11: the first word of a command outside a block that is not BEGIN and a name
  not_begin : {w : Numbered} (f : FirstWord text any w) → is_outside f.comes.state.phase ≡ true → ((b : Numbered) → words f.behind ≡ b ∷ [] → is (bytes "BEGIN") w ≡ false) → MayStandAt text Refusal.NotBegin w
  -- 12: the name of a block that may not begin there
  wrong_block : {w : Numbered} (n : BlockName text any w) → Misplaced n.comes.state w → MayStandAt text Refusal.Block w
  -- 13: the first word of a command in a block
  wrong_command : {w : Numbered} (f : FirstWord text any w) → is_outside f.comes.state.phase ≡ false → MayStandAt text Refusal.Command w
  -- 14: the word DIMENSIONS (of TAXA) without NTAX; the word MATRIX, before which something lacks; the name of a block that holds nothing when it
  -- ends; #NEXUS, where no command is refused and there is no matrix
  no_taxa_count : {w : Numbered} {b : ℕ} {x : Dimensions} (f : FirstWord text (is (bytes "DIMENSIONS")) w) → f.comes.state.phase ≡ in_taxa b 0 none → dimensions (words f.behind) ≡ done x → x.taxa ≡ 0 → MayStandAt text Refusal.Absent w
  not_ready : {w : Numbered} {b : ℕ} {d : Data} (f : FirstWord text (is (bytes "MATRIX")) w) → f.comes.state.phase ≡ in_data b d → NotReady d → MayStandAt text Refusal.Absent w
  not_filled : {w : Numbered} (e : EndedName text filled_block w) → unfilled e.first.comes.state.phase ≡ true → MayStandAt text Refusal.Absent w
  no_matrix : {w : Numbered} (e : ComesToEnd text) → e.state.matrix ≡ none → Header text w → is (bytes "#NEXUS") w ≡ true → MayStandAt text Refusal.Absent w
  -- 15: the word DIMENSIONS (of TAXA) with NCHAR or NEWTAXA; a word behind DIMENSIONS
  taxa_dimension : {w : Numbered} {b : ℕ} {x : Dimensions} (f : FirstWord text (is (bytes "DIMENSIONS")) w) → f.comes.state.phase ≡ in_taxa b 0 none → dimensions (words f.behind) ≡ done x → not (eqb x.characters 0) || x.new_taxa ≡ true → MayStandAt text Refusal.Dimension w
  dimension : {w : Numbered} → LaterWord text (is (bytes "DIMENSIONS")) w → MayStandAt text Refusal.Dimension w
  -- 16: the name of a TAXA block that ends, whose names are not as many as its NTAX says
  taxa_count : {w : Numbered} {count : ℕ} {ns : List (List ℕ)} (e : EndedName text (is (bytes "TAXA")) w) → e.first.comes.state.phase ≡ in_taxa w.index count (some ns) → ¬ (length ns ≡ count) → MayStandAt text Refusal.Count w
  -- the word MATRIX, where the declared names are not as many as NTAX says, or the rows not as many as they are to be at the end; a word of a
  -- matrix at which they become too many, or its last page too short
  names_count : {w : Numbered} {b : ℕ} {d : Data} {x : Dimensions} {ns : List (List ℕ)} (f : FirstWord text (is (bytes "MATRIX")) w) → f.comes.state.phase ≡ in_data b d → d.dimensions ≡ some x → d.taxa ≡ some ns → NamesMiscounted x.taxa ns → MayStandAt text Refusal.Count w
  matrix_count : {w : Numbered} {sh : Shape} (f : FirstWord text (is (bytes "MATRIX")) w) → ShapedBy f.comes.state w sh → RowsMissing sh f.behind → MayStandAt text Refusal.Count w
  row_count : {w : Numbered} {sh : Shape} (l : LaterWord text (is (bytes "MATRIX")) w) → ShapedBy l.comes.state l.first sh → RowsMiscounted sh l.behind w → MayStandAt text Refusal.Count w
  -- the word CHARLABELS, whose words are not as many as the matrix has characters; the word TYPESET of a VECTOR with types for more or fewer
  label_count : {w h : Numbered} {sh : Shape} (f : FirstWord text (is (bytes "CHARLABELS")) w) (m : FirstWord text (is (bytes "MATRIX")) h) → ShapedBy m.comes.state h sh → ¬ (length (words f.behind) ≡ sh.characters) → MayStandAt text Refusal.Count w
  type_count : {w : Numbered} {ts : Types} {bad : Option ℕ} (f : FirstWord text (is (bytes "TYPESET")) w) → fold (typeset_turn (typeset_in f.comes.state w)) star (words f.behind) ≡ done (types ts bad) → ¬ (length ts ≡ characters_in f.comes.state.matrix) → MayStandAt text Refusal.Count w
  -- 17: a word that is no name, in a command with names
  not_name : {w : Numbered} → LaterWord text name_word w → label w ≡ none → MayStandAt text Refusal.NotName w
  -- 18: a word of TAXLABELS whose name is like that of a word before it; a word at which a row begins whose name is like that of a row before it
  name_twice : {w : Numbered} {ns : List (List ℕ)} (l : LaterWord text (is (bytes "TAXLABELS")) w) (before after : List Numbered) → words l.behind ≡ before ++ (w ∷ after) → unique_names before ≡ done ns → LikeOne ns w → MayStandAt text Refusal.TaxonTwice w
  row_twice : {w : Numbered} {sh : Shape} {ns : List (List ℕ)} (l : LaterWord text (is (bytes "MATRIX")) w) → ShapedBy l.comes.state l.first sh → BeginsRow sh l.behind w ns → LikeOne ns w → MayStandAt text Refusal.TaxonTwice w
  -- 19: an option of DIMENSIONS or of FORMAT that takes a value
  no_count : {w : Numbered} → LaterWord text (is (bytes "DIMENSIONS")) w → count_word w ≡ true → MayStandAt text Refusal.NoValue w
  no_value : {w : Numbered} → LaterWord text (is (bytes "FORMAT")) w → valued_key (key w) ≡ true → MayStandAt text Refusal.NoValue w
  -- 20: a word behind FORMAT; 21: the word FORMAT, whose options give symbols that cannot stand together
  format_option : {w : Numbered} → LaterWord text (is (bytes "FORMAT")) w → MayStandAt text Refusal.FormatOption w
  wrong_symbols : {w : Numbered} {o : Options} (f : FirstWord text (is (bytes "FORMAT")) w) → then (fold format_turn (option no_options) (words f.behind)) format_end ≡ done o → good_symbols o (format_of o) ≡ false → MayStandAt text Refusal.Symbols w
  -- 22: a word of a matrix that is no cells by the block's format
  cell_symbol : {w : Numbered} (l : LaterWord text (is (bytes "MATRIX")) w) → symbols (format_in l.comes.state.phase) w ≡ refused Refusal.CellSymbol w.index → MayStandAt text Refusal.CellSymbol w
  -- 23: a mark that opens a set, or a word of cells that are not all states
  open_set : {w : Numbered} → LaterWord text (is (bytes "MATRIX")) w → set_mark w ≡ true → MayStandAt text Refusal.StateSet w
  not_states : {w : Numbered} {cells : List Cell} (l : LaterWord text (is (bytes "MATRIX")) w) → symbols (format_in l.comes.state.phase) w ≡ done cells → only_states cells ≡ none → MayStandAt text Refusal.StateSet w
  -- 24: a word of a matrix; 25: the word MATRIX, where no row has a declared name
  wrong_row : {w : Numbered} → LaterWord text (is (bytes "MATRIX")) w → MayStandAt text Refusal.Row w
  no_row : {w : Numbered} {sh : Shape} {taken : List Taxon} {ns : List (List ℕ)} {n : List ℕ} (f : FirstWord text (is (bytes "MATRIX")) w) (by : ShapedBy f.comes.state w sh) → rows sh f.behind ≡ done taken → by.block_data.taxa ≡ some ns → Memᴰ n ns → ((t : Taxon) → Memᴰ t taken → alike n t.name ≡ false) → MayStandAt text Refusal.TaxonAbsent w
  -- 26: the first word of a label command, or one behind it
  no_entry : {w : Numbered} → FirstWord text label_word w → MayStandAt text Refusal.LabelEntry w
  label_entry : {w : Numbered} → LaterWord text label_word w → MayStandAt text Refusal.LabelEntry w
  -- 27: the word TYPESET or one behind it, or one behind OPTIONS
  type_form : {w : Numbered} → FirstWord text (is (bytes "TYPESET")) w → MayStandAt text Refusal.TypeSet w
  type_word : {w : Numbered} → LaterWord text (is (bytes "TYPESET")) w → MayStandAt text Refusal.TypeSet w
  default_type : {w : Numbered} → LaterWord text (is (bytes "OPTIONS")) w → MayStandAt text Refusal.TypeSet w
  -- 28: a word behind TYPESET
  character_list : {w : Numbered} → LaterWord text (is (bytes "TYPESET")) w → MayStandAt text Refusal.CharacterList w
  -- 29: #NEXUS, where no command is refused and DNA has an ordered character
  ordered_dna : {w : Numbered} {r : Reading} (e : ComesToEnd text) → e.state.matrix ≡ some r → orderable r.data_type r.characters ≡ false → Header text w → is (bytes "#NEXUS") w ≡ true → MayStandAt text Refusal.OrderedDna w

-- Where reading stops, with this number at the token of this index: at the first token; at a command, the first that is refused; or at the end.
pub data Stops (text : List ℕ) : Refusal → ℕ → Type 0 where
  at_front : {w : Numbered} → Header text w → is (bytes "#NEXUS") w ≡ false → Stops text Refusal.NoNexus w.index
  at_command : {n : Refusal} {i : ℕ} {c : Command} (m : ComesTo text c) → step m.state c ≡ refused n i → Stops text n i
  at_end : {n : Refusal} {i : ℕ} {w : Numbered} (e : ComesToEnd text) → Header text w → finish w.index e.state ≡ refused n i → Stops text n i

-- The text is UTF-8 and leaves no quote or comment open.
pub record Whole (text : List ℕ) : Type 0 where
  pub utf : utf8 text ≡ true
  pub closed : left_open (tokens text) ≡ none

-- A token and where it begins in the text.
pub record Begins (text : List ℕ) (w : Numbered) (at : ℕ) : Type 0 where
  pub token : TokenOf text w
  pub counted : w.index < length (tokens text)
  pub start : at ≡ get_or (starts text) w.index 0
  pub inside : at < length text
  pub same : token_at text at ≡ w.token

-- What the lexer is inside of after so many bytes of a rest.
unfoldable pub mode_after : Mode → List ℕ → ℕ → Mode
mode_after m [] k = m
mode_after m (b ∷ r) zero = m
mode_after m (b ∷ r) (suc k) = mode_after (next m (symbol b r)) r k

-- The opening mark of the quote that stays open: the last token begins there.
pub record QuoteMark (text : List ℕ) (at : ℕ) : Type 0 where
  pub earlier : List ℕ
  pub last : starts text ≡ earlier ++ (at ∷ [])

-- The opening mark of the comment that stays open, the outermost: before it, so many bytes behind a byte order mark, nothing is open, and from
-- there to the end a comment is.
pub record CommentMark (text : List ℕ) (at : ℕ) : Type 0 where
  pub passed : ℕ
  pub stands : at ≡ first_byte text + passed
  pub inside : passed < length (unmarked text)
  pub before : unclosed (mode_after Mode.Between (unmarked text) passed) ≡ []
  pub behind : (k : ℕ) → passed < k → k ≤ length (unmarked text) → left_open (unclosed (mode_after Mode.Between (unmarked text) k)) ≡ some Refusal.OpenComment

-- A refusal and its place.
pub data FaultAt (text : List ℕ) : Refusal → Place → Type 0 where
  -- 3, at 0,0: the text is not UTF-8
  not_utf8 : utf8 text ≡ false → FaultAt text Refusal.NotUtf8 (record { line = 0; column = 0 })
  -- 4 and 5, at the opening mark: the text is UTF-8 and leaves a quote or a comment open
  open_quote : {at : ℕ} → utf8 text ≡ true → left_open (tokens text) ≡ some Refusal.OpenQuote → QuoteMark text at → FaultAt text Refusal.OpenQuote (place text at)
  open_comment : {at : ℕ} → utf8 text ≡ true → left_open (tokens text) ≡ some Refusal.OpenComment → CommentMark text at → FaultAt text Refusal.OpenComment (place text at)
  -- 6, at 1,1: the text has no token but newlines
  no_token : Whole text → leading (numbered 0 (tokens text)) ≡ none → FaultAt text Refusal.NoNexus (record { line = 1; column = 1 })
  -- 6 to 29, at the token that is refused
  at_token : {n : Refusal} {at : ℕ} (w : Numbered) → Whole text → 6 ≤ number n → number n ≤ 29 → Stops text n w.index → MayStandAt text n w → Begins text w at → FaultAt text n (place text at)

-- 3 is said exactly where the text is not UTF-8, 4 and 5 exactly where it is and leaves a quote or a comment open. So a text that is read, or
-- is refused by another number, is UTF-8 and leaves nothing open.
pub record SaidFirst (text : List ℕ) : Type 0 where
  pub not_utf8 : ((p : Place) × (read text ≡ fault Refusal.NotUtf8 p)) ↔ (utf8 text ≡ false)
  pub open_quote : ((p : Place) × (read text ≡ fault Refusal.OpenQuote p)) ↔ ((utf8 text ≡ true) × (left_open (tokens text) ≡ some Refusal.OpenQuote))
  pub open_comment : ((p : Place) × (read text ≡ fault Refusal.OpenComment p)) ↔ ((utf8 text ≡ true) × (left_open (tokens text) ≡ some Refusal.OpenComment))

-- The reading that a record spells, if the bytes are a record.
use Rattle.std.specs.Prelude.{ℕ, zero, suc, leb, eqb, length, ◌&&◌, List, [], ◌∷◌, ◌++◌}
use Prim.Native.String.{String}
use Rattle.std.proofs.Math.Option.{Option, none, some, bind}
use Rattle.lexer.specs.Base.{pick, bytes, same, byte}
use Rattle.block.specs.Cell.{Cell, state, uncertain, polymorphic, missing, gap}
use Rattle.block.specs.Reading.{Taxon, Character, Reading}
use Rattle.block.specs.declared.data.DataType.{DataType}
use Rattle.block.specs.declared.model.CharacterOrdering.{CharacterOrdering}
use Rattle.record.specs.Decimal.{undecimal}
use Rattle.block.specs.Sound.{sound}

-- The lines of some bytes, if each is ended by LF.
unfoldable pub lines_with : ℕ → Option (List (List ℕ)) → Option (List (List ℕ))
lines_with b none = none
lines_with b (some []) = none
lines_with b (some (l ∷ r)) = some ((b ∷ l) ∷ r)

unfoldable pub line_more : Option (List (List ℕ)) → Option (List (List ℕ))
line_more none = none
line_more (some r) = some ([] ∷ r)

unfoldable pub lines : List ℕ → Option (List (List ℕ))
lines [] = some []
lines (b ∷ r) =
    let more = lines r in
    let ended = line_more more in
    let longer = lines_with b more in
    pick (eqb b (byte "\n")) ended longer

-- What stands behind these bytes.
unfoldable pub behind : List ℕ → List ℕ → Option (List ℕ)
behind [] l = some l
behind (a ∷ k) [] = none
behind (a ∷ k) (b ∷ l) = let more = behind k l in pick (eqb a b) more none

-- The value of a line with this key, written with its `=`.
unfoldable pub value : String → List ℕ → Option (List ℕ)
value key l = behind (bytes key) l

-- A name or label with its escapes read back: a backslash stands only before `0` or `1`.
unfoldable pub with_byte : ℕ → Option (List ℕ) → Option (List ℕ)
with_byte b none = none
with_byte b (some r) = some (b ∷ r)

unfoldable pub unescaped : List ℕ → Option (List ℕ)
unescaped [] = some []
unescaped (b ∷ []) = pick (eqb b (byte "\\")) none (some (b ∷ []))
unescaped (b ∷ c ∷ r) =
    let lf = with_byte (byte "\n") (unescaped r) in
    let backslash = with_byte (byte "\\") (unescaped r) in
    let other = with_byte b (unescaped (c ∷ r)) in
    pick (eqb b (byte "\\")) (pick (eqb c (byte "0")) lf (pick (eqb c (byte "1")) backslash none)) other

module _ {A : Type 0} where
  -- The first before the others, if all are there.
  unfoldable pub before : Option A → Option (List A) → Option (List A)
  before none more = none
  before (some a) none = none
  before (some a) (some r) = some (a ∷ r)

module _ {A : Type 0} (part : List ℕ → Option A) (between : ℕ) where
  -- The parts of a text with a byte between each two, one by one: the bytes so far of the part that is open, then the rest of the text.
  -- There is at least one part.
  unfoldable pub parts : List ℕ → List ℕ → Option (List A)
  parts so_far [] = before (part so_far) (some [])
  parts so_far (b ∷ r) =
      let next = before (part so_far) (parts [] r) in
      let longer = parts (so_far ++ (b ∷ [])) r in
      pick (eqb b between) next longer

-- Indices joined by dots.
unfoldable pub numbers : List ℕ → Option (List ℕ)
numbers v = parts undecimal (byte ".") [] v

module _ {A B : Type 0} where
  unfoldable pub made : (A → B) → Option A → Option B
  made f none = none
  made f (some a) = some (f a)

unfoldable pub unspell_cell : List ℕ → Option Cell
unspell_cell [] = none
unspell_cell (b ∷ r) =
    let unsure = made uncertain (numbers r) in
    let several = made polymorphic (numbers r) in
    let index = made state (undecimal (b ∷ r)) in
    let only = same (b ∷ r) in
    pick (eqb b (byte "u")) unsure
    (pick (eqb b (byte "p")) several
    (pick (only (byte "m" ∷ [])) (some missing)
    (pick (only (byte "g" ∷ [])) (some gap)
    index)))

-- Cells parted by one blank.
unfoldable pub unspell_cells : List ℕ → Option (List Cell)
unspell_cells v = parts unspell_cell (byte " ") [] v

unfoldable pub type_of : List ℕ → Option DataType
type_of v =
    pick (same v (bytes "STANDARD")) (some DataType.Standard)
    (pick (same v (bytes "DNA")) (some DataType.Dna)
    none)

unfoldable pub order_of : List ℕ → Option CharacterOrdering
order_of v =
    pick (same v (bytes "ORD")) (some CharacterOrdering.Ordered)
    (pick (same v (bytes "UNORD")) (some CharacterOrdering.Unordered)
    none)

-- The largest count of taxa or of characters.
unfoldable pub most : ℕ
most = 1048576

unfoldable pub count_of : List ℕ → Option ℕ
count_of v = bind (undecimal v) (λ n. pick (leb 1 n && leb n most) (some n) none)

-- The record's head.
pub record Head : Type 0 where
  pub data_type : DataType
  pub taxa : ℕ
  pub characters : ℕ
  pub symbols : List ℕ

-- A record so far.
pub record Draft : Type 0 where
  pub head : Head
  pub taxa : List Taxon
  pub characters : List Character

-- Which line comes next, with what is read of the record up to there. A character's state lines count down.
pub data Next : Type 0 where
  datatype_line : Next
  taxa_line : DataType → Next
  characters_line : DataType → ℕ → Next
  symbols_line : DataType → ℕ → ℕ → Next
  name_line : Draft → Next
  cells_line : Draft → List ℕ → Next
  character_line : Draft → Next
  label_line : Draft → Next
  order_line : Draft → List ℕ → Next
  states_line : Draft → List ℕ → CharacterOrdering → Next
  state_line : Draft → List ℕ → CharacterOrdering → ℕ → List (List ℕ) → Next
  no_line : Draft → Next

unfoldable pub no_taxa : DataType → ℕ → ℕ → List ℕ → Next
no_taxa t n k s = name_line (record { head = record { data_type = t; taxa = n; characters = k; symbols = s }; taxa = []; characters = [] })

-- Behind a taxon: the next, or the first character.
unfoldable pub with_taxon : Draft → List ℕ → List Cell → Next
with_taxon d n cells =
    let t : Taxon = record { name = n; cells = cells } in
    let e : Draft = record { head = d.head; taxa = d.taxa ++ (t ∷ []); characters = d.characters } in
    pick (eqb (length e.taxa) d.head.taxa) (character_line e) (name_line e)

-- Behind a character: the next, or the end.
unfoldable pub with_character : Draft → List ℕ → CharacterOrdering → List (List ℕ) → Next
with_character d l o s =
    let c : Character = record { label = l; states = s; ordering = o } in
    let e : Draft = record { head = d.head; taxa = d.taxa; characters = d.characters ++ (c ∷ []) } in
    pick (eqb (length e.characters) d.head.characters) (no_line e) (character_line e)

unfoldable pub with_states : Draft → List ℕ → CharacterOrdering → ℕ → List (List ℕ) → Next
with_states d l o zero s = with_character d l o s
with_states d l o (suc n) s = state_line d l o (suc n) s

-- One line more.
unfoldable pub line_turn : Next → List ℕ → Option Next
line_turn datatype_line l = bind (value "datatype=" l) (λ v. made taxa_line (type_of v))
line_turn (taxa_line t) l = bind (value "taxa=" l) (λ v. made (characters_line t) (count_of v))
line_turn (characters_line t n) l = bind (value "characters=" l) (λ v. made (symbols_line t n) (count_of v))
line_turn (symbols_line t n k) l = made (no_taxa t n k) (value "symbols=" l)
line_turn (name_line d) l = bind (value "name=" l) (λ v. made (cells_line d) (unescaped v))
line_turn (cells_line d n) l = bind (value "cells=" l) (λ v. made (with_taxon d n) (unspell_cells v))
line_turn (character_line d) l =
    bind (value "character=" l) (λ v. bind (undecimal v) (λ k. pick (eqb k (suc (length d.characters))) (some (label_line d)) none))
line_turn (label_line d) l = bind (value "label=" l) (λ v. made (order_line d) (unescaped v))
line_turn (order_line d n) l = bind (value "order=" l) (λ v. made (states_line d n) (order_of v))
line_turn (states_line d n o) l = bind (value "states=" l) (λ v. made (λ k. with_states d n o k []) (undecimal v))
line_turn (state_line d n o zero s) l = none
line_turn (state_line d n o (suc k) s) l = bind (value "state=" l) (λ v. made (λ x. with_states d n o k (s ++ (x ∷ []))) (unescaped v))
line_turn (no_line d) l = none

unfoldable pub turns : Next → List (List ℕ) → Option Next
turns m [] = some m
turns m (l ∷ r) = bind (line_turn m l) (λ n. turns n r)

unfoldable pub drafted : Next → Option Reading
drafted datatype_line = none
drafted (taxa_line t) = none
drafted (characters_line t n) = none
drafted (symbols_line t n k) = none
drafted (name_line d) = none
drafted (cells_line d n) = none
drafted (character_line d) = none
drafted (label_line d) = none
drafted (order_line d n) = none
drafted (states_line d n o) = none
drafted (state_line d n o k s) = none
drafted (no_line d) =
    some (record { data_type = d.head.data_type; symbols = d.head.symbols; taxa = d.taxa; characters = d.characters })

-- The shape of a record: its lines, in document 01's order.
unfoldable pub shape : List ℕ → Option Reading
shape b = bind (bind (lines b) (turns datatype_line)) drafted

unfoldable pub if_sound : Reading → Option Reading
if_sound r = pick (sound r) (some r) none

-- The reading of a record: bytes that have the shape of one, and whose reading is one that a text could have.
unfoldable pub unspell : List ℕ → Option Reading
unspell b = bind (shape b) if_sound

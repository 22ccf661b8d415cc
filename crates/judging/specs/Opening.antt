-- The first four lines of a record, and what judging them tells.
use Rattle.std.specs.Prelude.{ℕ, suc, ◌≤◌, leb, length, Bool, true, false, ◌&&◌, not, List, [], ◌∷◌, ◌++◌, ◌≡◌, Some, None, Option}
use Rattle.block.specs.Format.{valid_symbol}
use Rattle.block.specs.Sound.{sound_symbols}
use Rattle.block.specs.declared.data.DataType.{DataType}
use Rattle.block.specs.declared.data.TaxonNumber.{TaxonNumber}
use Rattle.judging.specs.Tells.{Part, nothing, until, Tells, flag_of, number_of}
use Rattle.lexer.specs.Base.{among, byte, pick}
use Rattle.record.specs.Decimal.{decimal}
use Rattle.record.specs.Spell.{line, type_word}
use Rattle.judging.specs.declared.heads.Head.{Head}

-- How many valid symbols stand in front, up to one that stood there before or is among these.
unfoldable pub run_of : List ℕ → List ℕ → ℕ
run_of seen [] = 0
run_of seen (b ∷ r) = let more = suc (run_of (b ∷ seen) r) in pick (valid_symbol b && not (among b seen)) more 0

-- Neither of two words begins with the other.
abbrev pub Apart : List ℕ → List ℕ → Type 0
Apart first second = (s t : List ℕ) → first ++ s ≡ second ++ t → ⊥

-- One of two words: which, is told.
abbrev pub WordTold : List ℕ → ℕ → List ℕ → List ℕ → Option (ℕ × Bool) → Type 0
WordTold b i first second r = Tells b i (λ (x : Bool). Unit {0}) (λ x. pick x second first) (λ x. x) (flag_of r)

-- A count behind a key, 1 to the largest: it is told.
abbrev pub CountGood : ℕ → Type 0
CountGood n = (n ≤ 1048576) × (leb 1 n ≡ true)

abbrev pub CountTold : List ℕ → ℕ → List ℕ → Option (ℕ × ℕ) → Type 0
CountTold b i key r = Tells b i CountGood (λ v. key ++ (decimal v ++ (byte "\n" ∷ []))) (λ v. v) (number_of r)

-- Symbols: how many there are is told. Whether 73 of them are too many, beside a gap, shows when the cells have been read.
abbrev pub StandardTold : List ℕ → ℕ → Option (ℕ × ℕ) → Type 0
StandardTold b i r = Tells b i (λ s. sound_symbols DataType.Standard s false ≡ true) (λ s. s ++ (byte "\n" ∷ [])) length (number_of r)

abbrev pub SymbolsTold : List ℕ → ℕ → DataType → Option (ℕ × ℕ) → Type 0
SymbolsTold b i t r = Tells b i (λ s. sound_symbols t s false ≡ true) (λ s. line "symbols=" s []) length (number_of r)

-- The four lines.
pub record Opening : Type 0 where
  pub data_type : DataType
  pub taxa : ℕ
  pub characters : ℕ
  pub symbols : List ℕ

pub record OpeningGood (o : Opening) : Type 0 where
  pub taxa : CountGood o.taxa
  pub characters : CountGood o.characters
  pub symbols : sound_symbols o.data_type o.symbols false ≡ true

unfoldable pub spell_opening : Opening → List ℕ
spell_opening o =
    line "datatype=" (type_word o.data_type)
    (line "taxa=" (decimal o.taxa)
    (line "characters=" (decimal o.characters)
    (line "symbols=" o.symbols [])))

-- What is told of them: the type of the data, and how many taxa, characters and symbols there are.
pub record Sizes : Type 0 where
  pub data_type : DataType
  pub taxa : ℕ
  pub characters : ℕ
  pub states : ℕ

unfoldable pub opening_sizes : Opening → Sizes
opening_sizes o = record { data_type = o.data_type; taxa = o.taxa; characters = o.characters; states = length o.symbols }

unfoldable pub headed_of : Option (ℕ × Head) → Part Sizes
headed_of (Some (j, h)) = until j (record { data_type = h.data_type; taxa = h.taxa.0; characters = h.characters.0; states = h.states })
headed_of None = nothing

abbrev pub OpeningTold : List ℕ → ℕ → Option (ℕ × Head) → Type 0
OpeningTold b i r = Tells b i OpeningGood spell_opening opening_sizes (headed_of r)

-- The same behind the type of the data, and behind the count of taxa.
abbrev pub opened : DataType → ℕ → ℕ × List ℕ → Opening
opened t n p = record { data_type = t; taxa = n; characters = p.0; symbols = p.1 }

abbrev pub BehindTaxa : List ℕ → ℕ → DataType → TaxonNumber → Option (ℕ × Head) → Type 0
BehindTaxa b i t n r =
    Tells b i (λ (p : ℕ × List ℕ). CountGood p.0 × (sound_symbols t p.1 false ≡ true)) (λ p. line "characters=" (decimal p.0) (line "symbols=" p.1 []))
    (λ p. opening_sizes (opened t n.0 p)) (headed_of r)

abbrev pub BehindType : List ℕ → ℕ → DataType → Option (ℕ × Head) → Type 0
BehindType b i t r =
    Tells b i (λ (p : ℕ × (ℕ × List ℕ)). CountGood p.0 × (CountGood p.1.0 × (sound_symbols t p.1.1 false ≡ true)))
    (λ p. line "taxa=" (decimal p.0) (line "characters=" (decimal p.1.0) (line "symbols=" p.1.1 [])))
    (λ p. opening_sizes (opened t p.0 p.1)) (headed_of r)

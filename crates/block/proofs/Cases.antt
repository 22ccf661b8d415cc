-- Cases of the reading, by computation. Assumes nothing.
use Prim.Native.String.{String}
use Rattle.block.specs.Cell.{Cell, state, uncertain, polymorphic, missing, gap}
use Rattle.block.specs.Parse.{reading, fault}
use Rattle.block.specs.Reading.{Taxon, Character}
use Rattle.block.specs.Run.{run_text}
use Rattle.block.specs.Sound.{sound_name}
use Rattle.block.specs.declared.data.DataType.{DataType}
use Rattle.block.specs.declared.model.CharacterOrdering.{CharacterOrdering}
use Rattle.lexer.specs.Base.{bytes}
use Rattle.lexer.specs.declared.refusal.Refusal.{Refusal}
use mathlib.Core.Bool.{true, false}
use mathlib.Core.List.{List, [], ◌∷◌, map}
use mathlib.Core.Path.{◌≡◌, refl}

plain : Character
plain = record { label = []; states = []; ordering = CharacterOrdering.Unordered }

taxon : String → List Cell → Taxon
taxon name cells = record { name = bytes name; cells = cells }

-- `{0}` is a set of one, `(1)` another, and repeated states merge.
sets : run_text (bytes "#NEXUS BEGIN DATA; DIMENSIONS NTAX=1 NCHAR=3; MATRIX a {0}(1){1 0[x]1}; END;") ≡ reading (record { data_type = DataType.Standard; symbols = bytes "01"; taxa = taxon "a" (uncertain (0 ∷ []) ∷ polymorphic (1 ∷ []) ∷ uncertain (0 ∷ 1 ∷ []) ∷ []) ∷ []; characters = plain ∷ plain ∷ plain ∷ [] })
unfolding run_text plain taxon
sets = refl

-- Rows follow the declared order, with the declared names; pages are read to the last.
declared-order : run_text (bytes "#NEXUS\nBEGIN TAXA; DIMENSIONS NTAX=2; TAXLABELS Bb a_a; END;\nBEGIN CHARACTERS; DIMENSIONS NCHAR=3; FORMAT INTERLEAVE GAP=-;\nMATRIX\nA_A 01\nbB 1?\n\na_a -\nbb 0\n; END;") ≡ reading (record { data_type = DataType.Standard; symbols = bytes "01"; taxa = taxon "Bb" (state 1 ∷ missing ∷ state 0 ∷ []) ∷ taxon "a a" (state 0 ∷ state 1 ∷ gap ∷ []) ∷ []; characters = plain ∷ plain ∷ plain ∷ [] })
unfolding run_text plain taxon
declared-order = refl

-- Missing and gap are tried before the codes of DNA, and a fault is met at its word.
missing-before-codes : run_text (bytes "#NEXUS BEGIN DATA; DIMENSIONS NTAX=1 NCHAR=3; FORMAT DATATYPE=DNA MISSING=n; MATRIX x NR-; END;") ≡ reading (record { data_type = DataType.Dna; symbols = bytes "ACGT"; taxa = taxon "x" (missing ∷ uncertain (0 ∷ 2 ∷ []) ∷ gap ∷ []) ∷ []; characters = plain ∷ plain ∷ plain ∷ [] })
unfolding run_text plain taxon
missing-before-codes = refl

fault-at-its-word : run_text (bytes "#NEXUS\nBEGIN DATA;\nDIMENSIONS NTAX=1 NCHAR=3;\nMATRIX\na 0\n 12;\nEND;") ≡ fault Refusal.CellSymbol (record { line = 6; column = 2 })
unfolding run_text
fault-at-its-word = refl

-- A range ends at its last character, `.` is the last of all, a stride begins at the first; the others have the default type.
ordered : Character
ordered = record { label = []; states = []; ordering = CharacterOrdering.Ordered }

type-lists : run_text (bytes "#NEXUS BEGIN DATA; DIMENSIONS NTAX=1 NCHAR=6; MATRIX a 010101; END; BEGIN ASSUMPTIONS; TYPESET * t = UNORD: 2-3 ., ORD: 1-5\\4; OPTIONS DEFTYPE=ORD; END;") ≡ reading (record { data_type = DataType.Standard; symbols = bytes "01"; taxa = taxon "a" (state 0 ∷ state 1 ∷ state 0 ∷ state 1 ∷ state 0 ∷ state 1 ∷ []) ∷ []; characters = ordered ∷ plain ∷ plain ∷ ordered ∷ ordered ∷ plain ∷ [] })
unfolding run_text plain ordered taxon
type-lists = refl

-- A character that is typed twice is refused at the type word, once the whole list is good; DNA takes no code but N for missing.
typed-twice : run_text (bytes "#NEXUS BEGIN DATA; DIMENSIONS NTAX=1 NCHAR=2; MATRIX a 01; END;\nBEGIN ASSUMPTIONS; TYPESET * t = ORD: 1,\nUNORD: 2 1-2; END;") ≡ fault Refusal.TypeSet (record { line = 3; column = 1 })
unfolding run_text
typed-twice = refl

missing-is-a-code : run_text (bytes "#NEXUS BEGIN DATA; DIMENSIONS NTAX=1 NCHAR=1;\nFORMAT DATATYPE=DNA MISSING=R; MATRIX a A; END;") ≡ fault Refusal.Symbols (record { line = 2; column = 1 })
unfolding run_text
missing-is-a-code = refl

-- No name holds `_` or CR, is empty, or is White_Space without a U+0020.
names : map sound_name (bytes "a b" ∷ bytes " " ∷ bytes "\n " ∷ bytes "a_b" ∷ bytes "a\rb" ∷ [] ∷ bytes "\t" ∷ (194 ∷ 160 ∷ []) ∷ (194 ∷ []) ∷ []) ≡ true ∷ true ∷ true ∷ false ∷ false ∷ false ∷ false ∷ false ∷ false ∷ []
unfolding run_text
names = refl

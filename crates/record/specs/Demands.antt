-- What the definitions promise, statement by statement. proofs/Demands.antt names the proof of each.
use Rattle.std.specs.Prelude.{ℕ, ◌+◌, ◌*◌, ◌≤◌, ◌<◌, length, take, drop, true, false, List, [], ◌∷◌, ◌++◌, map, ◌↔◌, ◌≡◌, Ok, Err, Result}
use Rattle.std.proofs.Math.Option.{some}
use Rattle.lexer.specs.Base.{bytes, byte}
use Rattle.lexer.specs.Refusals.{number}
use Rattle.lexer.specs.Refusals as Refusals
use Rattle.lexer.specs.Tokens.{tokens}
use Rattle.lexer.specs.Utf8.{utf8}
use Rattle.lexer.specs.Words.{numbered}
use Rattle.block.specs.Faults.{FaultAt, SaidFirst}
use Rattle.block.specs.LabelOrder.{LabelsFollow}
use Rattle.block.specs.Parse.{reading, fault, read}
use Rattle.block.specs.Reading.{Taxon, Character, Reading}
use Rattle.block.specs.Sequential.{names}
use Rattle.block.specs.Sound.{label_texts, Sound}
use Rattle.block.specs.TaxonOrder.{commands_of, MatrixOf, Follows, all_named}
use Rattle.lexer.specs.declared.Place.{Place}
use Rattle.lexer.specs.declared.refusal.Refusal.{Refusal}
use Rattle.record.specs.Calls.{read_answer, read_leaves, write_answer, write_leaves, Found, lookup_answer}
use Rattle.record.specs.Decimal.{decimal}
use Rattle.record.specs.Form.{form}
use Rattle.record.specs.Lookup.{Stretch}
use Rattle.record.specs.Program.{program_prints}
use Rattle.record.specs.Spell.{line, escaped, spell_cells, spell_taxa, spell_characters, spell_head, spell}
use Rattle.record.specs.Unspell.{unspell}
use Rattle.lexer.specs.declared.Fault.{Fault}

-- A text, of any length, has a reading.
abbrev pub Reads : List ℕ → Reading → Type 0
Reads text r = read text ≡ reading r

-- Demand 1. Every fault of a text, of any length, has its number and place (`FaultAt`): 3 at 0,0; 4 and 5 at the opening mark, of nested
-- comments the outermost; 6 at 1,1 where there is no token; and 6 to 29 at a token of the text, where the number may stand (`MayStandAt`) and
-- reading stops, everything before it being taken (`Stops`).
abbrev pub FaultsHaveTheirPlace : Type 0
FaultsHaveTheirPlace = (text : List ℕ) (n : Refusal) (p : Place) → read text ≡ fault n p → FaultAt text n p

-- Demand 1. 3 comes first, then 4 or 5, then the rest: each of these is said of a text exactly where it applies.
abbrev pub FaultsComeInOrder : Type 0
FaultsComeInOrder = (text : List ℕ) → SaidFirst text

-- Demand 2. Every reading is sound: its conditions are the fields of `Sound`.
abbrev pub EveryReadingIsSound : Type 0
EveryReadingIsSound = (text : List ℕ) (r : Reading) → Reads text r → Sound r

-- Demand 2. Rows follow any declared order: the k-th taxon has the k-th declared name, with the cells of the row of that name. Names are
-- declared exactly where a TAXLABELS command before MATRIX declares them (`MatrixOf`); where none does, taxa are the rows as they come.
-- There are as many rows as NTAX or the declared names say; every row has NCHAR cells and the name of a token of MATRIX.
abbrev pub TaxaFollowTheDeclaration : Type 0
TaxaFollowTheDeclaration =
    (text : List ℕ) (r : Reading) → Reads text r → (m : MatrixOf (commands_of text)) × Follows m.block_data.taxa m.rows r.taxa

-- Demand 2. Names are those of the text's tokens.
abbrev pub NamesComeFromTokens : Type 0
NamesComeFromTokens = (text : List ℕ) (r : Reading) → Reads text r → all_named (numbered 0 (tokens text)) (names r.taxa)

-- Demand 2. Labels and state labels are those of the text's tokens.
abbrev pub LabelsComeFromTokens : Type 0
LabelsComeFromTokens = (text : List ℕ) (r : Reading) → Reads text r → all_named (numbered 0 (tokens text)) (label_texts r.characters)

-- Demand 2. Labels belong to their characters: the k-th character has the label that the k-th name of CHARLABELS or an entry of
-- CHARSTATELABELS with the number k gives it, and the state labels, in their order, of an entry of STATELABELS or CHARSTATELABELS with that
-- number; it has none where no label command of the text's data block gives it any. Each of these commands stands at most once.
abbrev pub LabelsFollowTheCommands : Type 0
LabelsFollowTheCommands = (text : List ℕ) (r : Reading) → Reads text r → LabelsFollow (commands_of text) r.characters

-- The counts of a record are at most 1,048,576.
pub record Counted (r : Reading) : Type 0 where
  pub taxa : length r.taxa ≤ 1048576
  pub characters : length r.characters ≤ 1048576

-- Demand 3. A record gives back its reading.
abbrev pub RecordsAreReadBack : Type 0
RecordsAreReadBack = (r : Reading) → Sound r → Counted r → unspell (spell r) ≡ some r

-- Demand 3. Only the record of a reading gives it, and the reading is sound and within the counts.
abbrev pub RecordsAreSpelled : Type 0
RecordsAreSpelled = (b : List ℕ) (r : Reading) → unspell b ≡ some r → (spell r ≡ b) × Sound r × Counted r

-- Demand 3. The record of a text of at most 1,048,576 bytes is never refused (31).
abbrev pub RecordsOfTextsPass : Type 0
RecordsOfTextsPass = (text : List ℕ) (r : Reading) → length text ≤ 1048576 → Reads text r → unspell (spell r) ≡ some r

-- Some text's reading, sound and within the counts, spells these bytes.
abbrev pub SomeReadingSpells : List ℕ → Type 0
SomeReadingSpells b = (text : List ℕ) × (r : Reading) × Reads text r × Sound r × Counted r × (spell r ≡ b)

-- Demands 2 and 3. 31 stands exactly where no text of any length has these bytes as its record, or a count is above 1,048,576: bytes are not
-- refused if and only if some text's reading, sound and within the counts, spells them.
abbrev pub NotRefusedIsSomeReading : Type 0
NotRefusedIsSomeReading = (b : List ℕ) → ((r : Reading) × (unspell b ≡ some r)) ↔ SomeReadingSpells b

-- Demand 3. The written form is read again, whatever its length.
abbrev pub FormsAreReadAgain : Type 0
FormsAreReadAgain = (r : Reading) → Sound r → Reads (form r) r

-- Readings agree if each of these is equal in both: the data type; the symbols in order; the taxa's names and cells; for each character its
-- label, its state labels and its type. Lists are equal also in length.
pub record Agree (r s : Reading) : Type 0 where
  pub data_type : r.data_type ≡ s.data_type
  pub symbols : r.symbols ≡ s.symbols
  pub names : names r.taxa ≡ names s.taxa
  pub cells : map (λ (t : Taxon). t.cells) r.taxa ≡ map (λ (t : Taxon). t.cells) s.taxa
  pub labels : map (λ (c : Character). c.label) r.characters ≡ map (λ (c : Character). c.label) s.characters
  pub states : map (λ (c : Character). c.states) r.characters ≡ map (λ (c : Character). c.states) s.characters
  pub types : map (λ (c : Character). c.ordering) r.characters ≡ map (λ (c : Character). c.ordering) s.characters

-- Demand 3. Two readings have equal forms exactly when they agree.
abbrev pub FormsTellReadingsApart : Type 0
FormsTellReadingsApart = (r s : Reading) → Sound r → Sound s → (form r ≡ form s) ↔ Agree r s

-- Demand 3. Two texts that are read have written forms with the same bytes exactly when their readings agree.
abbrev pub FormsTellTextsApart : Type 0
FormsTellTextsApart = (t u : List ℕ) (r s : Reading) → Reads t r → Reads u s → (form r ≡ form s) ↔ Agree r s

-- Two bytes are the same, ASCII case ignored: they are equal, or one is a capital, A to Z, and the other its small letter, 32 more.
pub data SameLetter (a b : ℕ) : Type 0 where
  equal : a ≡ b → SameLetter a b
  capital : 65 ≤ a → a ≤ 90 → b ≡ a + 32 → SameLetter a b
  small : 65 ≤ b → b ≤ 90 → a ≡ b + 32 → SameLetter a b

abbrev pub Alike : List ℕ → List ℕ → Type 0
Alike [] [] = Unit {0}
Alike [] (b ∷ r) = ⊥
Alike (a ∷ l) [] = ⊥
Alike (a ∷ l) (b ∷ r) = SameLetter a b × Alike l r

-- A row of a reading: a taxon, with the taxa above it and below it.
pub record Row (r : Reading) : Type 0 where
  pub above : List Taxon
  pub taxon : Taxon
  pub below : List Taxon
  pub all : above ++ (taxon ∷ below) ≡ r.taxa

-- A stretch of a record is the cells of a row. Before it stand the head, the rows above, the line of this row's name and the key `cells=`;
-- behind it the LF, the rows below and the characters. It is never empty.
pub record CellsOf {r : Reading} (row : Row r) (b : List ℕ) (s : Stretch) : Type 0 where
  pub before : take s.start b ≡ spell_head r (spell_taxa row.above (line "name=" (escaped row.taxon.name) (bytes "cells=")))
  pub cells : take s.size (drop s.start b) ≡ spell_cells row.taxon.cells
  pub behind : drop (s.start + s.size) b ≡ byte "\n" ∷ spell_taxa row.below (spell_characters 1 r.characters [])
  pub some : 1 ≤ s.size

-- A lookup that is refused with a number hands back an empty stretch.
abbrev pub nothing_found : ℕ → Found
nothing_found n = record { refused = n; stretch = record { start = 0; size = 0 } }

-- The lookup. 31 with an empty stretch stands exactly where the bytes are no record.
abbrev pub LookupRefusesOtherBytes : Type 0
LookupRefusesOtherBytes = (name b : List ℕ) → (lookup_answer name b ≡ nothing_found 31) ↔ ¬ (SomeReadingSpells b)

-- The lookup. In a record, a name that some row has, ASCII case ignored, is found: the number is 0, and the stretch is the cells of that row.
abbrev pub LookupFindsTheRow : Type 0
LookupFindsTheRow =
    (name b : List ℕ) (r : Reading) → unspell b ≡ some r → (row : Row r) → Alike name row.taxon.name
    → ((lookup_answer name b).refused ≡ 0) × CellsOf row b (lookup_answer name b).stretch

-- The lookup. In a record, 33 with an empty stretch stands exactly where no row has the name.
abbrev pub LookupRefusesOtherNames : Type 0
LookupRefusesOtherNames =
    (name b : List ℕ) (r : Reading) → unspell b ≡ some r
    → (lookup_answer name b ≡ nothing_found 33) ↔ ((row : Row r) → ¬ (Alike name row.taxon.name))

-- A call that is lent this buffer leaves these bytes: it answers their length, the buffer then begins with them, and behind them it is as it
-- was.
pub record Left (bs buffer : List ℕ) (a : Result ℕ (Fault Place)) (after : List ℕ) : Type 0 where
  pub counted : a ≡ Ok (length bs)
  pub result : take (length bs) after ≡ bs
  pub rest : drop (length bs) after ≡ drop (length bs) buffer

-- Read gives these bytes for a text, and write for a record: with work memory of 4n + 64 numbers or more and a buffer of their length or
-- more, whatever it held, the call leaves them.
abbrev pub ReadGives : List ℕ → List ℕ → Type 0
ReadGives text bs =
    (work : ℕ) (buffer : List ℕ) → 4 * length text + 64 ≤ work → length bs ≤ length buffer
    → Left bs buffer (read_answer text work (length buffer)) (read_leaves text work buffer)

abbrev pub WriteGives : List ℕ → List ℕ → Type 0
WriteGives b bs =
    (buffer : List ℕ) → length bs ≤ length buffer → Left bs buffer (write_answer b (length buffer)) (write_leaves b buffer)

-- Demands 2 and 3, of the calls. Read gives the record of a text's reading, and nothing else, for texts of at most 1,048,576 bytes.
abbrev pub ReadGivesTheRecord : Type 0
ReadGivesTheRecord =
    (text b : List ℕ) → ReadGives text b ↔ (length text ≤ 1048576) × ((r : Reading) × Reads text r × (spell r ≡ b))

-- Demand 3, of the calls. Write gives the form of a record's reading, and nothing else, for forms of at most 1,048,576 bytes.
abbrev pub WriteGivesTheForm : Type 0
WriteGivesTheForm =
    (b f : List ℕ) → WriteGives b f ↔ (length f ≤ 1048576) × ((r : Reading) × (unspell b ≡ some r) × (form r ≡ f))

-- Demand 3, of the calls. What one call left, any call with memory long enough gives.
abbrev pub WhatIsLeftIsGiven : Type 0
WhatIsLeftIsGiven =
    ((text : List ℕ) (work : ℕ) (buffer : List ℕ) (n : ℕ) → read_answer text work (length buffer) ≡ Ok n
    → ReadGives text (take n (read_leaves text work buffer)))
    × ((b buffer : List ℕ) (n : ℕ) → write_answer b (length buffer) ≡ Ok n → WriteGives b (take n (write_leaves b buffer)))

-- Demand 3, of the calls. A text is read, its record written, and what was written is read again: that gives back the record byte for byte.
abbrev pub CallsGiveBackRecordsOfTexts : Type 0
CallsGiveBackRecordsOfTexts =
    (text : List ℕ) (r : Reading) → length text ≤ 1048576 → Reads text r → length (form r) ≤ 1048576
    → ReadGives text (spell r) × WriteGives (spell r) (form r) × ReadGives (form r) (spell r)

-- Demand 3, of the calls. The same of every record, of a short text or not: what write gives for it, read again, gives it back. What it gives,
-- and that it gives something wherever the form is at most 1,048,576 bytes, is `WriteGivesTheForm`.
abbrev pub CallsGiveBackRecords : Type 0
CallsGiveBackRecords = (b f : List ℕ) → WriteGives b f → ReadGives f b

-- Demand 3, of the calls. Two texts are read and their records written: the written bytes are the same exactly when the readings agree.
abbrev pub CallsTellTextsApart : Type 0
CallsTellTextsApart =
    (t u b c f g : List ℕ) (r s : Reading) → Reads t r → Reads u s → ReadGives t b → ReadGives u c → WriteGives b f → WriteGives c g
    → (f ≡ g) ↔ Agree r s

-- An answer is a refusal with this number, at this line and column.
abbrev pub Refuses : Result ℕ (Fault Place) → ℕ → ℕ → ℕ → Type 0
Refuses a n l c = (why : Refusal) × (number why ≡ n) × (a ≡ Err (Refusals.fault why (record { line = l; column = c })))

-- The text is of at most 1,048,576 bytes, and work memory is long enough.
abbrev pub Taken : List ℕ → ℕ → Type 0
Taken text work = (length text ≤ 1048576) × (4 * length text + 64 ≤ work)

-- Demand 1, of the calls. What read refuses, in order, and where.
pub record ReadRefuses (text : List ℕ) (work room : ℕ) : Type 0 where
  -- 1: the text is longer than 1,048,576 bytes
  pub too_long : Refuses (read_answer text work room) 1 0 0 ↔ 1048576 < length text
  -- 2: it is not, and work memory is short
  pub memory_short : Refuses (read_answer text work room) 2 0 0 ↔ (length text ≤ 1048576) × (work < 4 * length text + 64)
  -- 3: neither, and the text is not UTF-8
  pub not_utf8 : Refuses (read_answer text work room) 3 0 0 ↔ Taken text work × (utf8 text ≡ false)
  -- 4 to 29: nothing of these, and the text itself is refused, at the place of its fault, which has a line
  pub faulty : (n : Refusal) (p : Place) → 1 ≤ p.line → (read_answer text work room ≡ Err (Refusals.fault n p)) ↔ Taken text work × (read text ≡ fault n p)
  pub placed : (n : Refusal) (p : Place) → utf8 text ≡ true → read text ≡ fault n p → 1 ≤ p.line
  -- 30: nothing of these, and the record is longer than the buffer
  pub no_room : Refuses (read_answer text work room) 30 0 0 ↔ Taken text work × ((r : Reading) × Reads text r × (room < length (spell r)))
  -- else the answer is the record's length
  pub answers : (n : ℕ) → (read_answer text work room ≡ Ok n) ↔ (n ≤ room) × Taken text work × ((r : Reading) × Reads text r × (length (spell r) ≡ n))

abbrev pub ReadRefusesInOrder : Type 0
ReadRefusesInOrder = (text : List ℕ) (work room : ℕ) → ReadRefuses text work room

-- Demand 1, of the calls. What write refuses, in order, all at 0,0.
pub record WriteRefuses (b : List ℕ) (room : ℕ) : Type 0 where
  -- 31: the bytes are not a record
  pub not_record : Refuses (write_answer b room) 31 0 0 ↔ ¬ (SomeReadingSpells b)
  -- 32: they are, and the form is longer than 1,048,576 bytes
  pub form_long : Refuses (write_answer b room) 32 0 0 ↔ ((r : Reading) × (unspell b ≡ some r) × (1048576 < length (form r)))
  -- 30: neither, and the form is longer than the buffer
  pub no_room : Refuses (write_answer b room) 30 0 0 ↔ ((r : Reading) × (unspell b ≡ some r) × (length (form r) ≤ 1048576) × (room < length (form r)))
  -- else the answer is the form's length
  pub answers : (n : ℕ) → (write_answer b room ≡ Ok n) ↔ (n ≤ room) × (n ≤ 1048576) × ((r : Reading) × (unspell b ≡ some r) × (length (form r) ≡ n))
  pub nowhere : (n : Refusal) (p : Place) → write_answer b room ≡ Err (Refusals.fault n p) → (p.line ≡ 0) × (p.column ≡ 0)

abbrev pub WriteRefusesInOrder : Type 0
WriteRefusesInOrder = (b : List ℕ) (room : ℕ) → WriteRefuses b room

-- A refusal leaves the buffer as it was; success touches only the result's bytes, and they lie in the buffer.
pub record Kept (buffer : List ℕ) (a : Result ℕ (Fault Place)) (after : List ℕ) : Type 0 where
  pub refused : (n : Refusal) (p : Place) → a ≡ Err (Refusals.fault n p) → after ≡ buffer
  pub answered : (n : ℕ) → a ≡ Ok n → (n ≤ length buffer) × (drop n after ≡ drop n buffer)
  pub room : length after ≡ length buffer

-- Demand 1, of the calls. Buffers are kept.
abbrev pub BuffersAreKept : Type 0
BuffersAreKept =
    ((text : List ℕ) (work : ℕ) (buffer : List ℕ) → Kept buffer (read_answer text work (length buffer)) (read_leaves text work buffer))
    × ((b buffer : List ℕ) → Kept buffer (write_answer b (length buffer)) (write_leaves b buffer))

-- The lines of a refusal.
abbrev pub refusal_lines : ℕ → ℕ → ℕ → List ℕ
refusal_lines n l c = line "refused=" (decimal n) (line "line=" (decimal l) (line "column=" (decimal c) []))

-- The program. Of more than 1,024 bytes it prints refusal 1, at 0,0; of others the record, or the three lines of the refusal. That the record
-- of so short a text always fits is not shown, so 30 has its line here.
pub record ProgramPrints (input : List ℕ) : Type 0 where
  pub too_long : 1024 < length input → program_prints input ≡ bytes "refused=1\nline=0\ncolumn=0\n"
  pub recorded : (r : Reading) → length input ≤ 1024 → Reads input r → length (spell r) ≤ 65536 → program_prints input ≡ spell r
  pub no_room : (r : Reading) → length input ≤ 1024 → Reads input r → 65536 < length (spell r) → program_prints input ≡ bytes "refused=30\nline=0\ncolumn=0\n"
  pub faulty : (n : Refusal) (p : Place) → length input ≤ 1024 → read input ≡ fault n p → program_prints input ≡ refusal_lines (number n) p.line p.column

abbrev pub TheProgramPrints : Type 0
TheProgramPrints = (input : List ℕ) → ProgramPrints input

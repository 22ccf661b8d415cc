-- Document 01's number for each refusal, and a refusal with where it is met.
use Rattle.std.specs.Prelude.{ℕ}
use Rattle.lexer.specs.declared.Fault.{Fault}
use Rattle.lexer.specs.declared.refusal.Refusal.{Refusal}

abbrev pub number : Refusal → ℕ
number Refusal.TextTooLong = 1
number Refusal.WorkMemoryShort = 2
number Refusal.NotUtf8 = 3
number Refusal.OpenQuote = 4
number Refusal.OpenComment = 5
number Refusal.NoNexus = 6
number Refusal.EmptyCommand = 7
number Refusal.UnendedCommand = 8
number Refusal.UnendedBlock = 9
number Refusal.WordsAfterEnd = 10
number Refusal.NotBegin = 11
number Refusal.Block = 12
number Refusal.Command = 13
number Refusal.Absent = 14
number Refusal.Dimension = 15
number Refusal.Count = 16
number Refusal.NotName = 17
number Refusal.TaxonTwice = 18
number Refusal.NoValue = 19
number Refusal.FormatOption = 20
number Refusal.Symbols = 21
number Refusal.CellSymbol = 22
number Refusal.StateSet = 23
number Refusal.Row = 24
number Refusal.TaxonAbsent = 25
number Refusal.LabelEntry = 26
number Refusal.TypeSet = 27
number Refusal.CharacterList = 28
number Refusal.OrderedDna = 29
number Refusal.BufferShort = 30
number Refusal.NotRecord = 31
number Refusal.FormTooLong = 32
number Refusal.NoSuchName = 33

-- A refusal, and the token, the byte or the place at which it is met.
abbrev pub fault : {P : Type 0} → Refusal → P → Fault P
fault n p = record { 0 = n; 1 = p }

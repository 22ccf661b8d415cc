-- Document 01's cases at the edges, its worked example, and what it calls plausible and wrong, as one table: what is asked, and what stands
-- in the answer. That the definitions give these answers is shown in proofs/Starred.antt.
use Rattle.std.specs.Prelude.{ℕ, zero, suc, ◌+◌, ◌*◌, length, List, [], ◌∷◌, ◌++◌}
use Prim.Native.String.{String}
use Rattle.lexer.specs.Base.{bytes}
use Rattle.record.specs.Decimal.{decimal}
use Rattle.record.specs.Run.{run_read, run_write}
use Rattle.record.specs.Spell.{line}

-- A question: a text to be read, or a record to be written, with the room of the buffer. The answer: what is printed, and what is left
-- in the buffer behind it.
pub data Question : Type 0 where
  read : ℕ → List ℕ → Question
  write : ℕ → List ℕ → Question

pub record Case : Type 0 where
  pub asked : Question
  pub prints : List ℕ
  pub leaves : List ℕ

unfoldable pub ask : Question → List (List ℕ)
ask (read room text) = run_read (4 * length text + 64) room text
ask (write room record_bytes) = run_write room record_bytes

-- The byte that a buffer holds before a call.
unfoldable pub untouched : ℕ → List ℕ
untouched zero = []
untouched (suc n) = 170 ∷ untouched n

-- A refusal with its place; the buffer has 2 bytes.
unfoldable pub refusal : ℕ → ℕ → ℕ → List ℕ
refusal n l c = line "refused=" (decimal n) (line "line=" (decimal l) (line "column=" (decimal c) []))

unfoldable pub refused : List ℕ → ℕ → ℕ → ℕ → Case
refused text n l c = record { asked = read 2 text; prints = refusal n l c; leaves = untouched 2 }

-- A text that is read, with one byte more room than its record needs.
unfoldable pub reads : List ℕ → List ℕ → Case
reads text record_bytes = record { asked = read (length record_bytes + 1) text; prints = record_bytes; leaves = record_bytes ++ untouched 1 }

-- A record that is written, likewise.
unfoldable pub writes : List ℕ → List ℕ → Case
writes record_bytes form = record { asked = write (length form + 1) record_bytes; prints = form; leaves = form ++ untouched 1 }

-- A text with a data block of these words.
unfoldable pub data_block : String → List ℕ
data_block words = bytes "#NEXUS\nBEGIN DATA;\n" ++ (bytes words ++ bytes "END;\n")

-- A record of STANDARD with symbols 01, one taxon and characters without labels.
unfoldable pub characters : ℕ → ℕ → List ℕ
characters k zero = []
characters k (suc n) = bytes "character=" ++ (decimal k ++ (bytes "\nlabel=\norder=UNORD\nstates=0\n" ++ characters (suc k) n))

-- The worked example.
unfoldable pub example : List ℕ
example = bytes "#NEXUS\nBEGIN DATA;\nDIMENSIONS NTAX=2 NCHAR=3;\nMATRIX\na_b 0{01}?\nC 1(1)0;\nEND;\n"

unfoldable pub example_record : List ℕ
example_record =
    bytes "datatype=STANDARD\ntaxa=2\ncharacters=3\nsymbols=01\nname=a b\ncells=0 u0.1 m\nname=C\ncells=1 p1 0\ncharacter=1\nlabel=\norder=UNORD\nstates=0\ncharacter=2\nlabel=\norder=UNORD\nstates=0\ncharacter=3\nlabel=\norder=UNORD\nstates=0\n"

unfoldable pub example_form : List ℕ
example_form =
    bytes "#NEXUS\nBEGIN DATA;\nDIMENSIONS NTAX=2 NCHAR=3;\nFORMAT DATATYPE=STANDARD RESPECTCASE MISSING=! SYMBOLS=\"01\";\nMATRIX\n'a_b' 0{01}!\n'C' 1(1)0\n;\nEND;\n"

-- A record of one taxon, symbols behind the counts.
unfoldable pub record_of : String → String → ℕ → List ℕ → String → List ℕ
record_of type symbols count name cells =
    line "datatype=" (bytes type)
    (line "taxa=" (bytes "1")
    (line "characters=" (decimal count)
    (line "symbols=" (bytes symbols)
    (line "name=" name
    (line "cells=" (bytes cells)
    (characters 1 count))))))

unfoldable pub standard : ℕ → String → String → List ℕ
standard count name cells = record_of "STANDARD" "01" count (bytes name) cells

unfoldable pub starred : List Case
starred =
    -- the worked example, its record and its form
    reads example example_record
    ∷ writes example_record example_form
    -- the empty text: 6 at 1,1; a byte order mark, then X: 6 at 1,2
    ∷ refused [] 6 1 1
    ∷ refused (239 ∷ 187 ∷ 191 ∷ 88 ∷ []) 6 1 2
    -- ab[c]d is abd; 'a''b' is a'b
    ∷ reads (data_block "DIMENSIONS NTAX=1 NCHAR=1;\nMATRIX\nab[c]d 0;\n") (standard 1 "abd" "0")
    ∷ reads (data_block "DIMENSIONS NTAX=1 NCHAR=1;\nMATRIX\n'a''b' 0;\n") (standard 1 "a'b" "0")
    -- {0} is u0; {} is 23
    ∷ reads (data_block "DIMENSIONS NTAX=1 NCHAR=1;\nMATRIX\na {0};\n") (standard 1 "a" "u0")
    ∷ refused (data_block "DIMENSIONS NTAX=1 NCHAR=1;\nMATRIX\na {};\n") 23 5 3
    -- NCHAR=3: 0101 is 24; 010 1 in the last row is 16
    ∷ refused (data_block "DIMENSIONS NTAX=1 NCHAR=3;\nMATRIX\na 0101;\n") 24 5 3
    ∷ refused (data_block "DIMENSIONS NTAX=1 NCHAR=3;\nMATRIX\na 010 1;\n") 16 5 7
    -- NTAX=0 is 15
    ∷ refused (data_block "DIMENSIONS NTAX=0 NCHAR=3;\nMATRIX\na 010;\n") 15 3 17
    -- the name _ is one blank; ' ' is 17
    ∷ reads (data_block "DIMENSIONS NTAX=1 NCHAR=1;\nMATRIX\n_ 0;\n") (standard 1 " " "0")
    ∷ refused (data_block "DIMENSIONS NTAX=1 NCHAR=1;\nMATRIX\n' ' 0;\n") 17 5 1
    -- SYMBOLS="aA" is 21; with RESPECTCASE it is read
    ∷ refused (data_block "DIMENSIONS NTAX=1 NCHAR=1;\nFORMAT SYMBOLS=\"aA\";\nMATRIX\nx A;\n") 21 4 1
    ∷ reads (data_block "DIMENSIONS NTAX=1 NCHAR=1;\nFORMAT SYMBOLS=\"aA\" RESPECTCASE;\nMATRIX\nx A;\n") (record_of "STANDARD" "aA" 1 (bytes "x") "1")
    -- DNA N is u0.1.2.3; under MISSING=N it is m
    ∷ reads (data_block "DIMENSIONS NTAX=1 NCHAR=1;\nFORMAT DATATYPE=DNA;\nMATRIX\nx N;\n") (record_of "DNA" "ACGT" 1 (bytes "x") "u0.1.2.3")
    ∷ reads (data_block "DIMENSIONS NTAX=1 NCHAR=1;\nFORMAT DATATYPE=DNA MISSING=N;\nMATRIX\nx N;\n") (record_of "DNA" "ACGT" 1 (bytes "x") "m")
    -- ORD: 1-3\2 of three is ORD, UNORD, ORD; ORD: 1, is 27
    ∷ reads (data_block "DIMENSIONS NTAX=1 NCHAR=3;\nMATRIX\na 010;\n" ++ bytes "BEGIN ASSUMPTIONS;\nTYPESET * t = ORD: 1-3\\2;\nEND;\n") (bytes "datatype=STANDARD\ntaxa=1\ncharacters=3\nsymbols=01\nname=a\ncells=0 1 0\ncharacter=1\nlabel=\norder=ORD\nstates=0\ncharacter=2\nlabel=\norder=UNORD\nstates=0\ncharacter=3\nlabel=\norder=ORD\nstates=0\n")
    ∷ refused (data_block "DIMENSIONS NTAX=1 NCHAR=3;\nMATRIX\na 010;\n" ++ bytes "BEGIN ASSUMPTIONS;\nTYPESET * t = ORD: 1,;\nEND;\n") 27 8 1
    -- a last comma in CHARSTATELABELS is taken
    ∷ reads (data_block "DIMENSIONS NTAX=1 NCHAR=1;\nCHARSTATELABELS 1 eye / no yes,;\nMATRIX\na 0;\n") (bytes "datatype=STANDARD\ntaxa=1\ncharacters=1\nsymbols=01\nname=a\ncells=0\ncharacter=1\nlabel=eye\norder=UNORD\nstates=2\nstate=no\nstate=yes\n")
    -- a buffer of the record's length is enough; one byte less is 30
    ∷ record { asked = read 213 example; prints = example_record; leaves = example_record }
    ∷ record { asked = read 212 example; prints = refusal 30 0 0; leaves = untouched 212 }
    -- a fault in the text comes before the room
    ∷ record { asked = read 0 (bytes "X"); prints = refusal 6 1 1; leaves = [] }
    -- columns count characters
    ∷ refused (195 ∷ 169 ∷ 88 ∷ 59 ∷ 10 ∷ 195 ∷ 169 ∷ 59 ∷ []) 6 1 1
    ∷ refused (bytes "#NEXUS [" ++ (195 ∷ 169 ∷ bytes "] X;")) 11 1 12
    -- names are folded within ASCII alone: two letters that differ in case beyond it are two taxa
    ∷ reads (bytes "#NEXUS BEGIN DATA;DIMENSIONS NTAX=2 NCHAR=1;MATRIX " ++ (195 ∷ 137 ∷ bytes " 0 " ++ (195 ∷ 169 ∷ bytes " 1;END;")))
    (bytes "datatype=STANDARD\ntaxa=2\ncharacters=1\nsymbols=01\nname=" ++ (195 ∷ 137 ∷ bytes "\ncells=0\nname=" ++ (195 ∷ 169 ∷ bytes "\ncells=1\ncharacter=1\nlabel=\norder=UNORD\nstates=0\n")))
    -- a name of blanks alone is written as `_`
    ∷ writes (standard 1 " " "0") (bytes "#NEXUS\nBEGIN DATA;\nDIMENSIONS NTAX=1 NCHAR=1;\nFORMAT DATATYPE=STANDARD RESPECTCASE MISSING=! SYMBOLS=\"01\";\nMATRIX\n'_' 0\n;\nEND;\n")
    ∷ []

unfoldable pub answered : Case → List (List ℕ)
answered c = ask c.asked

unfoldable pub expected : Case → List (List ℕ)
expected c = c.prints ∷ c.leaves ∷ []

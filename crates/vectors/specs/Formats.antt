-- FORMAT: options, values, and symbols that may stand together.
-- Made from host/definitions/chosen/06-formats.txt, with the Rust's answers.
use Rattle.std.specs.Prelude.{◌∷◌, ◌++◌, ◌≡◌, refl}
use Rattle.lexer.specs.Base.{bytes}
use Rattle.vectors.specs.Asked.{read, answered, refused}

-- Symbols stand in the record as declared, blanks and newlines dropped.
c1 :
    read 147 (bytes "#NEXUS BEGIN DATA;DIMENSIONS NTAX=1 NCHAR=2;FORMAT SYMBOLS=\"B \n" ++ (227 ∷ 128 ∷ 128 ∷ bytes "0\";MATRIX a 0b;END;"))
    ≡ answered 1 (bytes "datatype=STANDARD\ntaxa=1\ncharacters=2\nsymbols=B0\nname=a\ncells=1 0\ncharacter=1\nlabel=\norder=UNORD\nstates=0\ncharacter=2\nlabel=\norder=UNORD\nstates=0\n")
unfolding read answered
c1 = refl

-- Case is ignored without RESPECTCASE: b is the state B.
c2 :
    read 147 (bytes "#NEXUS BEGIN DATA;DIMENSIONS NTAX=1 NCHAR=2;FORMAT SYMBOLS=\"0B\";MATRIX a 0b;END;")
    ≡ answered 1 (bytes "datatype=STANDARD\ntaxa=1\ncharacters=2\nsymbols=0B\nname=a\ncells=0 1\ncharacter=1\nlabel=\norder=UNORD\nstates=0\ncharacter=2\nlabel=\norder=UNORD\nstates=0\n")
unfolding read answered
c2 = refl

-- With RESPECTCASE, wherever it stands, b and B are two states.
c3 :
    read 148 (bytes "#NEXUS BEGIN DATA;DIMENSIONS NTAX=1 NCHAR=2;FORMAT SYMBOLS=\"B0b\" RESPECTCASE;MATRIX a 0b;END;")
    ≡ answered 1 (bytes "datatype=STANDARD\ntaxa=1\ncharacters=2\nsymbols=B0b\nname=a\ncells=1 2\ncharacter=1\nlabel=\norder=UNORD\nstates=0\ncharacter=2\nlabel=\norder=UNORD\nstates=0\n")
unfolding read answered
c3 = refl

-- With RESPECTCASE the state B is not b: 22.
c4 :
    read 2 (bytes "#NEXUS BEGIN DATA;DIMENSIONS NTAX=1 NCHAR=2;FORMAT RESPECTCASE SYMBOLS=\"0B\";MATRIX a 0b;END;")
    ≡ refused 22 1 86 2
unfolding read refused
c4 = refl

-- Missing and gap are compared ignoring case too.
c5 :
    read 147 (bytes "#NEXUS BEGIN DATA;DIMENSIONS NTAX=1 NCHAR=2;FORMAT MISSING=B GAP=x;MATRIX a 0b;END;")
    ≡ answered 1 (bytes "datatype=STANDARD\ntaxa=1\ncharacters=2\nsymbols=01\nname=a\ncells=0 m\ncharacter=1\nlabel=\norder=UNORD\nstates=0\ncharacter=2\nlabel=\norder=UNORD\nstates=0\n")
unfolding read answered
c5 = refl

-- With RESPECTCASE they are not.
c6 :
    read 2 (bytes "#NEXUS BEGIN DATA;DIMENSIONS NTAX=1 NCHAR=2;FORMAT RESPECTCASE MISSING=B;MATRIX a 0b;END;")
    ≡ refused 22 1 83 2
unfolding read refused
c6 = refl

-- A gap cell, missing by default `?`.
c7 :
    read 231 (bytes "#NEXUS BEGIN DATA;DIMENSIONS NTAX=1 NCHAR=4;FORMAT GAP=- SYMBOLS=\"0b\";MATRIX a 0-?B;END;")
    ≡ answered 1 (bytes "datatype=STANDARD\ntaxa=1\ncharacters=4\nsymbols=0b\nname=a\ncells=0 g m 1\ncharacter=1\nlabel=\norder=UNORD\nstates=0\ncharacter=2\nlabel=\norder=UNORD\nstates=0\ncharacter=3\nlabel=\norder=UNORD\nstates=0\ncharacter=4\nlabel=\norder=UNORD\nstates=0\n")
unfolding read answered
c7 = refl

-- Missing and gap declared: quoted, double-quoted, the mark `+`.
c8 :
    read 189 (bytes "#NEXUS BEGIN DATA;DIMENSIONS NTAX=1 NCHAR=3;FORMAT MISSING=\".\" GAP=+;MATRIX a .+0;END;")
    ≡ answered 1 (bytes "datatype=STANDARD\ntaxa=1\ncharacters=3\nsymbols=01\nname=a\ncells=m g 0\ncharacter=1\nlabel=\norder=UNORD\nstates=0\ncharacter=2\nlabel=\norder=UNORD\nstates=0\ncharacter=3\nlabel=\norder=UNORD\nstates=0\n")
unfolding read answered
c8 = refl

-- A declared missing symbol: `?` is then no cell.
c9 :
    read 2 (bytes "#NEXUS BEGIN DATA;DIMENSIONS NTAX=1 NCHAR=2;FORMAT MISSING='x';MATRIX a x?;END;")
    ≡ refused 22 1 73 2
unfolding read refused
c9 = refl

-- LABELS and NOTOKENS change nothing; DATATYPE=STANDARD is the default.
c10 :
    read 105 (bytes "#NEXUS BEGIN DATA;DIMENSIONS NTAX=1 NCHAR=1;FORMAT DATATYPE=Standard LABELS NOTOKENS;MATRIX a 1;END;")
    ≡ answered 1 (bytes "datatype=STANDARD\ntaxa=1\ncharacters=1\nsymbols=01\nname=a\ncells=1\ncharacter=1\nlabel=\norder=UNORD\nstates=0\n")
unfolding read answered
c10 = refl

-- FORMAT without options is the default.
c11 :
    read 105 (bytes "#NEXUS BEGIN DATA;DIMENSIONS NTAX=1 NCHAR=1;FORMAT;MATRIX a ?;END;")
    ≡ answered 1 (bytes "datatype=STANDARD\ntaxa=1\ncharacters=1\nsymbols=01\nname=a\ncells=m\ncharacter=1\nlabel=\norder=UNORD\nstates=0\n")
unfolding read answered
c11 = refl

-- FORMAT may stand before DIMENSIONS.
c12 :
    read 106 (bytes "#NEXUS BEGIN DATA;FORMAT SYMBOLS=\"012\";DIMENSIONS NTAX=1 NCHAR=1;MATRIX a 2;END;")
    ≡ answered 1 (bytes "datatype=STANDARD\ntaxa=1\ncharacters=1\nsymbols=012\nname=a\ncells=2\ncharacter=1\nlabel=\norder=UNORD\nstates=0\n")
unfolding read answered
c12 = refl

-- Symbols that are marks elsewhere: `+` and `#`.
c13 :
    read 190 (bytes "#NEXUS BEGIN DATA;DIMENSIONS NTAX=1 NCHAR=3;FORMAT SYMBOLS=\"#+-\";MATRIX a -#+;END;")
    ≡ answered 1 (bytes "datatype=STANDARD\ntaxa=1\ncharacters=3\nsymbols=#+-\nname=a\ncells=2 0 1\ncharacter=1\nlabel=\norder=UNORD\nstates=0\ncharacter=2\nlabel=\norder=UNORD\nstates=0\ncharacter=3\nlabel=\norder=UNORD\nstates=0\n")
unfolding read answered
c13 = refl

-- An unknown option is 20 at it.
c14 :
    read 2 (bytes "#NEXUS BEGIN DATA;FORMAT LABELS EQUATE=\"x=0\";END;")
    ≡ refused 20 1 33 2
unfolding read refused
c14 = refl

-- A quoted option is unknown.
c15 :
    read 2 (bytes "#NEXUS BEGIN DATA;FORMAT 'LABELS';END;")
    ≡ refused 20 1 26 2
unfolding read refused
c15 = refl

-- An option twice is 20 at the second, before its value.
c16 :
    read 2 (bytes "#NEXUS BEGIN DATA;FORMAT GAP=- GAP=xy;END;")
    ≡ refused 20 1 32 2
unfolding read refused
c16 = refl

-- LABELS twice, in another case.
c17 :
    read 2 (bytes "#NEXUS BEGIN DATA;FORMAT LABELS labels;END;")
    ≡ refused 20 1 33 2
unfolding read refused
c17 = refl

-- DATATYPE twice.
c18 :
    read 2 (bytes "#NEXUS BEGIN DATA;FORMAT DATATYPE=DNA DATATYPE=DNA;END;")
    ≡ refused 20 1 39 2
unfolding read refused
c18 = refl

-- MISSING twice.
c19 :
    read 2 (bytes "#NEXUS BEGIN DATA;FORMAT MISSING=x MISSING=x;END;")
    ≡ refused 20 1 36 2
unfolding read refused
c19 = refl

-- SYMBOLS twice.
c20 :
    read 2 (bytes "#NEXUS BEGIN DATA;FORMAT SYMBOLS=\"01\" SYMBOLS=\"01\";END;")
    ≡ refused 20 1 39 2
unfolding read refused
c20 = refl

-- INTERLEAVE twice.
c21 :
    read 2 (bytes "#NEXUS BEGIN DATA;FORMAT INTERLEAVE INTERLEAVE;END;")
    ≡ refused 20 1 37 2
unfolding read refused
c21 = refl

-- RESPECTCASE twice.
c22 :
    read 2 (bytes "#NEXUS BEGIN DATA;FORMAT RESPECTCASE RESPECTCASE;END;")
    ≡ refused 20 1 38 2
unfolding read refused
c22 = refl

-- NOTOKENS twice.
c23 :
    read 2 (bytes "#NEXUS BEGIN DATA;FORMAT NOTOKENS NOTOKENS;END;")
    ≡ refused 20 1 35 2
unfolding read refused
c23 = refl

-- Another DATATYPE is 20 at the option, not at the value.
c24 :
    read 2 (bytes "#NEXUS BEGIN DATA;FORMAT DATATYPE=RNA;END;")
    ≡ refused 20 1 26 2
unfolding read refused
c24 = refl

-- A quoted DATATYPE is another.
c25 :
    read 2 (bytes "#NEXUS BEGIN DATA;FORMAT DATATYPE='DNA';END;")
    ≡ refused 20 1 26 2
unfolding read refused
c25 = refl

-- INTERLEAVE=X is 20 at the value.
c26 :
    read 2 (bytes "#NEXUS BEGIN DATA;FORMAT INTERLEAVE=X;END;")
    ≡ refused 20 1 37 2
unfolding read refused
c26 = refl

-- INTERLEAVE NO is 20 at NO: it is an option of its own.
c27 :
    read 2 (bytes "#NEXUS BEGIN DATA;FORMAT INTERLEAVE NO;END;")
    ≡ refused 20 1 37 2
unfolding read refused
c27 = refl

-- SYMBOLS without double quotes is 20 at the value.
c28 :
    read 2 (bytes "#NEXUS BEGIN DATA;FORMAT SYMBOLS=01;END;")
    ≡ refused 20 1 34 2
unfolding read refused
c28 = refl

-- SYMBOLS in single quotes too.
c29 :
    read 2 (bytes "#NEXUS BEGIN DATA;FORMAT SYMBOLS='01';END;")
    ≡ refused 20 1 34 2
unfolding read refused
c29 = refl

-- Two bytes for MISSING are 20 at the value.
c30 :
    read 2 (bytes "#NEXUS BEGIN DATA;FORMAT MISSING=xy;END;")
    ≡ refused 20 1 34 2
unfolding read refused
c30 = refl

-- `=` is no valid symbol: MISSING== is 20 at the second.
c31 :
    read 2 (bytes "#NEXUS BEGIN DATA;FORMAT MISSING==;END;")
    ≡ refused 20 1 34 2
unfolding read refused
c31 = refl

-- A character beyond ASCII is none.
c32 :
    read 2 (bytes "#NEXUS BEGIN DATA;FORMAT GAP=" ++ (195 ∷ 169 ∷ bytes ";END;"))
    ≡ refused 20 1 30 2
unfolding read refused
c32 = refl

-- The empty text is none.
c33 :
    read 2 (bytes "#NEXUS BEGIN DATA;FORMAT GAP='';END;")
    ≡ refused 20 1 30 2
unfolding read refused
c33 = refl

-- A blank is none.
c34 :
    read 2 (bytes "#NEXUS BEGIN DATA;FORMAT GAP=' ';END;")
    ≡ refused 20 1 30 2
unfolding read refused
c34 = refl

-- DEL is none.
c35 :
    read 2 (bytes "#NEXUS BEGIN DATA;FORMAT GAP=" ++ (127 ∷ bytes ";END;"))
    ≡ refused 20 1 30 2
unfolding read refused
c35 = refl

-- LABELS takes no value: 20 at the `=`.
c36 :
    read 2 (bytes "#NEXUS BEGIN DATA;FORMAT LABELS=x;END;")
    ≡ refused 20 1 32 2
unfolding read refused
c36 = refl

-- An absent `=` is 19 at the option.
c37 :
    read 2 (bytes "#NEXUS BEGIN DATA;FORMAT LABELS SYMBOLS \"01\";END;")
    ≡ refused 19 1 33 2
unfolding read refused
c37 = refl

-- An absent value is 19 at the option.
c38 :
    read 2 (bytes "#NEXUS BEGIN DATA;FORMAT LABELS MISSING=;END;")
    ≡ refused 19 1 33 2
unfolding read refused
c38 = refl

-- INTERLEAVE= and nothing is 19 at INTERLEAVE.
c39 :
    read 2 (bytes "#NEXUS BEGIN DATA;FORMAT INTERLEAVE=;END;")
    ≡ refused 19 1 26 2
unfolding read refused
c39 = refl

-- GAP at the very end is 19.
c40 :
    read 2 (bytes "#NEXUS BEGIN DATA;FORMAT GAP;END;")
    ≡ refused 19 1 26 2
unfolding read refused
c40 = refl

-- One symbol is 21 at the word FORMAT.
c41 :
    read 2 (bytes "#NEXUS BEGIN DATA;FORMAT SYMBOLS=\"0\";END;")
    ≡ refused 21 1 19 2
unfolding read refused
c41 = refl

-- An invalid symbol is 21: `~`.
c42 :
    read 2 (bytes "#NEXUS BEGIN DATA;FORMAT SYMBOLS=\"0~9\";END;")
    ≡ refused 21 1 19 2
unfolding read refused
c42 = refl

-- An invalid symbol beyond ASCII is 21.
c43 :
    read 2 (bytes "#NEXUS BEGIN DATA;FORMAT SYMBOLS=\"0" ++ (195 ∷ 169 ∷ bytes "\";END;"))
    ≡ refused 21 1 19 2
unfolding read refused
c43 = refl

-- Equal symbols are 21; a and A are equal without RESPECTCASE.
c44 :
    read 2 (bytes "#NEXUS BEGIN DATA;FORMAT SYMBOLS=\"aA\";END;")
    ≡ refused 21 1 19 2
unfolding read refused
c44 = refl

-- Equal symbols apart from each other.
c45 :
    read 2 (bytes "#NEXUS BEGIN DATA;FORMAT SYMBOLS=\"010\" RESPECTCASE;END;")
    ≡ refused 21 1 19 2
unfolding read refused
c45 = refl

-- A state that is the default missing symbol is 21.
c46 :
    read 2 (bytes "#NEXUS BEGIN DATA;FORMAT SYMBOLS=\"0?\";END;")
    ≡ refused 21 1 19 2
unfolding read refused
c46 = refl

-- A state that is the declared missing symbol, ignoring case, is 21.
c47 :
    read 2 (bytes "#NEXUS BEGIN DATA;FORMAT SYMBOLS=\"0x\" MISSING=X;END;")
    ≡ refused 21 1 19 2
unfolding read refused
c47 = refl

-- A state that is the gap is 21, also where the states are the default.
c48 :
    read 2 (bytes "#NEXUS BEGIN DATA;FORMAT GAP=1;END;")
    ≡ refused 21 1 19 2
unfolding read refused
c48 = refl

-- Missing and gap alike are 21.
c49 :
    read 2 (bytes "#NEXUS BEGIN DATA;FORMAT MISSING=x GAP=X;END;")
    ≡ refused 21 1 19 2
unfolding read refused
c49 = refl

-- The gap and the default missing symbol.
c50 :
    read 2 (bytes "#NEXUS BEGIN DATA;FORMAT GAP=?;END;")
    ≡ refused 21 1 19 2
unfolding read refused
c50 = refl

-- A 20 further on comes before 21.
c51 :
    read 2 (bytes "#NEXUS BEGIN DATA;FORMAT SYMBOLS=\"0\" X;END;")
    ≡ refused 20 1 38 2
unfolding read refused
c51 = refl

-- With RESPECTCASE the symbols a and A may stand together.
c52 :
    read 105 (bytes "#NEXUS BEGIN DATA;DIMENSIONS NTAX=1 NCHAR=1;FORMAT RESPECTCASE SYMBOLS=\"aA\";MATRIX x A;END;")
    ≡ answered 1 (bytes "datatype=STANDARD\ntaxa=1\ncharacters=1\nsymbols=aA\nname=x\ncells=1\ncharacter=1\nlabel=\norder=UNORD\nstates=0\n")
unfolding read answered
c52 = refl

-- An option behind a bare INTERLEAVE.
c53 :
    read 147 (bytes "#NEXUS BEGIN DATA;DIMENSIONS NTAX=1 NCHAR=2;FORMAT INTERLEAVE GAP=-;MATRIX\na 0\na -;END;")
    ≡ answered 1 (bytes "datatype=STANDARD\ntaxa=1\ncharacters=2\nsymbols=01\nname=a\ncells=0 g\ncharacter=1\nlabel=\norder=UNORD\nstates=0\ncharacter=2\nlabel=\norder=UNORD\nstates=0\n")
unfolding read answered
c53 = refl

-- Options before LABELS stay.
c54 :
    read 190 (bytes "#NEXUS BEGIN DATA;DIMENSIONS NTAX=1 NCHAR=3;FORMAT SYMBOLS=\"012\" MISSING=x GAP=- LABELS;MATRIX a 2x-;END;")
    ≡ answered 1 (bytes "datatype=STANDARD\ntaxa=1\ncharacters=3\nsymbols=012\nname=a\ncells=2 m g\ncharacter=1\nlabel=\norder=UNORD\nstates=0\ncharacter=2\nlabel=\norder=UNORD\nstates=0\ncharacter=3\nlabel=\norder=UNORD\nstates=0\n")
unfolding read answered
c54 = refl

-- All options, one after another.
c55 :
    read 275 (bytes "#NEXUS BEGIN DATA;DIMENSIONS NTAX=1 NCHAR=5;FORMAT DATATYPE=STANDARD SYMBOLS=\"abX2\" MISSING=x GAP=- INTERLEAVE=YES RESPECTCASE LABELS NOTOKENS;MATRIX\na abX\na 2-;END;")
    ≡ answered 1 (bytes "datatype=STANDARD\ntaxa=1\ncharacters=5\nsymbols=abX2\nname=a\ncells=0 1 2 3 g\ncharacter=1\nlabel=\norder=UNORD\nstates=0\ncharacter=2\nlabel=\norder=UNORD\nstates=0\ncharacter=3\nlabel=\norder=UNORD\nstates=0\ncharacter=4\nlabel=\norder=UNORD\nstates=0\ncharacter=5\nlabel=\norder=UNORD\nstates=0\n")
unfolding read answered
c55 = refl

-- The same from the last to the first.
c56 :
    read 275 (bytes "#NEXUS BEGIN DATA;DIMENSIONS NTAX=1 NCHAR=5;FORMAT NOTOKENS LABELS RESPECTCASE INTERLEAVE=YES GAP=- MISSING=x SYMBOLS=\"abX2\" DATATYPE=STANDARD;MATRIX\na abX\na 2-;END;")
    ≡ answered 1 (bytes "datatype=STANDARD\ntaxa=1\ncharacters=5\nsymbols=abX2\nname=a\ncells=0 1 2 3 g\ncharacter=1\nlabel=\norder=UNORD\nstates=0\ncharacter=2\nlabel=\norder=UNORD\nstates=0\ncharacter=3\nlabel=\norder=UNORD\nstates=0\ncharacter=4\nlabel=\norder=UNORD\nstates=0\ncharacter=5\nlabel=\norder=UNORD\nstates=0\n")
unfolding read answered
c56 = refl

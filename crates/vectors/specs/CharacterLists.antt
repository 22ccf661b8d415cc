-- Character lists of TYPESET: numbers, ranges, `.`, ALL and strides, shown by the types of five characters.
-- Made from host/definitions/chosen/12-character-lists.txt, with the Rust's answers.
use Rattle.std.specs.Prelude.{◌≡◌, refl}
use Rattle.lexer.specs.Base.{bytes}
use Rattle.vectors.specs.Asked.{read, answered, refused}

-- Single numbers, leading zeros.
c1 :
    read 269 (bytes "#NEXUS BEGIN DATA;DIMENSIONS NTAX=1 NCHAR=5;MATRIX a 01010;END;BEGIN ASSUMPTIONS;TYPESET * t=ORD:4 02;END;")
    ≡ answered 1 (bytes "datatype=STANDARD\ntaxa=1\ncharacters=5\nsymbols=01\nname=a\ncells=0 1 0 1 0\ncharacter=1\nlabel=\norder=UNORD\nstates=0\ncharacter=2\nlabel=\norder=ORD\nstates=0\ncharacter=3\nlabel=\norder=UNORD\nstates=0\ncharacter=4\nlabel=\norder=ORD\nstates=0\ncharacter=5\nlabel=\norder=UNORD\nstates=0\n")
unfolding read answered
c1 = refl

-- A range ends at its last character.
c2 :
    read 267 (bytes "#NEXUS BEGIN DATA;DIMENSIONS NTAX=1 NCHAR=5;MATRIX a 01010;END;BEGIN ASSUMPTIONS;TYPESET * t=ORD:2-4;END;")
    ≡ answered 1 (bytes "datatype=STANDARD\ntaxa=1\ncharacters=5\nsymbols=01\nname=a\ncells=0 1 0 1 0\ncharacter=1\nlabel=\norder=UNORD\nstates=0\ncharacter=2\nlabel=\norder=ORD\nstates=0\ncharacter=3\nlabel=\norder=ORD\nstates=0\ncharacter=4\nlabel=\norder=ORD\nstates=0\ncharacter=5\nlabel=\norder=UNORD\nstates=0\n")
unfolding read answered
c2 = refl

-- A range with blanks around its dash, and one with a comment.
c3 :
    read 265 (bytes "#NEXUS BEGIN DATA;DIMENSIONS NTAX=1 NCHAR=5;MATRIX a 01010;END;BEGIN ASSUMPTIONS;TYPESET * t=ORD:1 - 2 4-[x]5;END;")
    ≡ answered 1 (bytes "datatype=STANDARD\ntaxa=1\ncharacters=5\nsymbols=01\nname=a\ncells=0 1 0 1 0\ncharacter=1\nlabel=\norder=ORD\nstates=0\ncharacter=2\nlabel=\norder=ORD\nstates=0\ncharacter=3\nlabel=\norder=UNORD\nstates=0\ncharacter=4\nlabel=\norder=ORD\nstates=0\ncharacter=5\nlabel=\norder=ORD\nstates=0\n")
unfolding read answered
c3 = refl

-- `.` is the last character.
c4 :
    read 271 (bytes "#NEXUS BEGIN DATA;DIMENSIONS NTAX=1 NCHAR=5;MATRIX a 01010;END;BEGIN ASSUMPTIONS;TYPESET * t=ORD:.;END;")
    ≡ answered 1 (bytes "datatype=STANDARD\ntaxa=1\ncharacters=5\nsymbols=01\nname=a\ncells=0 1 0 1 0\ncharacter=1\nlabel=\norder=UNORD\nstates=0\ncharacter=2\nlabel=\norder=UNORD\nstates=0\ncharacter=3\nlabel=\norder=UNORD\nstates=0\ncharacter=4\nlabel=\norder=UNORD\nstates=0\ncharacter=5\nlabel=\norder=ORD\nstates=0\n")
unfolding read answered
c4 = refl

-- `.` as the end of a range.
c5 :
    read 269 (bytes "#NEXUS BEGIN DATA;DIMENSIONS NTAX=1 NCHAR=5;MATRIX a 01010;END;BEGIN ASSUMPTIONS;TYPESET * t=ORD:4-.;END;")
    ≡ answered 1 (bytes "datatype=STANDARD\ntaxa=1\ncharacters=5\nsymbols=01\nname=a\ncells=0 1 0 1 0\ncharacter=1\nlabel=\norder=UNORD\nstates=0\ncharacter=2\nlabel=\norder=UNORD\nstates=0\ncharacter=3\nlabel=\norder=UNORD\nstates=0\ncharacter=4\nlabel=\norder=ORD\nstates=0\ncharacter=5\nlabel=\norder=ORD\nstates=0\n")
unfolding read answered
c5 = refl

-- `.` as both ends: one character.
c6 :
    read 271 (bytes "#NEXUS BEGIN DATA;DIMENSIONS NTAX=1 NCHAR=5;MATRIX a 01010;END;BEGIN ASSUMPTIONS;TYPESET * t=ORD:.-5;END;")
    ≡ answered 1 (bytes "datatype=STANDARD\ntaxa=1\ncharacters=5\nsymbols=01\nname=a\ncells=0 1 0 1 0\ncharacter=1\nlabel=\norder=UNORD\nstates=0\ncharacter=2\nlabel=\norder=UNORD\nstates=0\ncharacter=3\nlabel=\norder=UNORD\nstates=0\ncharacter=4\nlabel=\norder=UNORD\nstates=0\ncharacter=5\nlabel=\norder=ORD\nstates=0\n")
unfolding read answered
c6 = refl

-- ALL.
c7 :
    read 263 (bytes "#NEXUS BEGIN DATA;DIMENSIONS NTAX=1 NCHAR=5;MATRIX a 01010;END;BEGIN ASSUMPTIONS;TYPESET * t=ORD:ALL;END;")
    ≡ answered 1 (bytes "datatype=STANDARD\ntaxa=1\ncharacters=5\nsymbols=01\nname=a\ncells=0 1 0 1 0\ncharacter=1\nlabel=\norder=ORD\nstates=0\ncharacter=2\nlabel=\norder=ORD\nstates=0\ncharacter=3\nlabel=\norder=ORD\nstates=0\ncharacter=4\nlabel=\norder=ORD\nstates=0\ncharacter=5\nlabel=\norder=ORD\nstates=0\n")
unfolding read answered
c7 = refl

-- ALL with a stride, in small letters.
c8 :
    read 267 (bytes "#NEXUS BEGIN DATA;DIMENSIONS NTAX=1 NCHAR=5;MATRIX a 01010;END;BEGIN ASSUMPTIONS;TYPESET * t=ORD:all\\2;END;")
    ≡ answered 1 (bytes "datatype=STANDARD\ntaxa=1\ncharacters=5\nsymbols=01\nname=a\ncells=0 1 0 1 0\ncharacter=1\nlabel=\norder=ORD\nstates=0\ncharacter=2\nlabel=\norder=UNORD\nstates=0\ncharacter=3\nlabel=\norder=ORD\nstates=0\ncharacter=4\nlabel=\norder=UNORD\nstates=0\ncharacter=5\nlabel=\norder=ORD\nstates=0\n")
unfolding read answered
c8 = refl

-- A stride begins at the first.
c9 :
    read 269 (bytes "#NEXUS BEGIN DATA;DIMENSIONS NTAX=1 NCHAR=5;MATRIX a 01010;END;BEGIN ASSUMPTIONS;TYPESET * t=ORD:2-5\\2;END;")
    ≡ answered 1 (bytes "datatype=STANDARD\ntaxa=1\ncharacters=5\nsymbols=01\nname=a\ncells=0 1 0 1 0\ncharacter=1\nlabel=\norder=UNORD\nstates=0\ncharacter=2\nlabel=\norder=ORD\nstates=0\ncharacter=3\nlabel=\norder=UNORD\nstates=0\ncharacter=4\nlabel=\norder=ORD\nstates=0\ncharacter=5\nlabel=\norder=UNORD\nstates=0\n")
unfolding read answered
c9 = refl

-- A stride larger than the range leaves the first alone.
c10 :
    read 271 (bytes "#NEXUS BEGIN DATA;DIMENSIONS NTAX=1 NCHAR=5;MATRIX a 01010;END;BEGIN ASSUMPTIONS;TYPESET * t=ORD:2-5\\9;END;")
    ≡ answered 1 (bytes "datatype=STANDARD\ntaxa=1\ncharacters=5\nsymbols=01\nname=a\ncells=0 1 0 1 0\ncharacter=1\nlabel=\norder=UNORD\nstates=0\ncharacter=2\nlabel=\norder=ORD\nstates=0\ncharacter=3\nlabel=\norder=UNORD\nstates=0\ncharacter=4\nlabel=\norder=UNORD\nstates=0\ncharacter=5\nlabel=\norder=UNORD\nstates=0\n")
unfolding read answered
c10 = refl

-- A stride of 2^64 - 1.
c11 :
    read 271 (bytes "#NEXUS BEGIN DATA;DIMENSIONS NTAX=1 NCHAR=5;MATRIX a 01010;END;BEGIN ASSUMPTIONS;TYPESET * t=ORD:2-.\\18446744073709551615;END;")
    ≡ answered 1 (bytes "datatype=STANDARD\ntaxa=1\ncharacters=5\nsymbols=01\nname=a\ncells=0 1 0 1 0\ncharacter=1\nlabel=\norder=UNORD\nstates=0\ncharacter=2\nlabel=\norder=ORD\nstates=0\ncharacter=3\nlabel=\norder=UNORD\nstates=0\ncharacter=4\nlabel=\norder=UNORD\nstates=0\ncharacter=5\nlabel=\norder=UNORD\nstates=0\n")
unfolding read answered
c11 = refl

-- A stride after a single number, and a list that goes on behind it.
c12 :
    read 269 (bytes "#NEXUS BEGIN DATA;DIMENSIONS NTAX=1 NCHAR=5;MATRIX a 01010;END;BEGIN ASSUMPTIONS;TYPESET * t=ORD:2\\2 4;END;")
    ≡ answered 1 (bytes "datatype=STANDARD\ntaxa=1\ncharacters=5\nsymbols=01\nname=a\ncells=0 1 0 1 0\ncharacter=1\nlabel=\norder=UNORD\nstates=0\ncharacter=2\nlabel=\norder=ORD\nstates=0\ncharacter=3\nlabel=\norder=UNORD\nstates=0\ncharacter=4\nlabel=\norder=ORD\nstates=0\ncharacter=5\nlabel=\norder=UNORD\nstates=0\n")
unfolding read answered
c12 = refl

-- A stride may be quoted, with a sign.
c13 :
    read 267 (bytes "#NEXUS BEGIN DATA;DIMENSIONS NTAX=1 NCHAR=5;MATRIX a 01010;END;BEGIN ASSUMPTIONS;TYPESET * t=ORD:1-5\\'+2';END;")
    ≡ answered 1 (bytes "datatype=STANDARD\ntaxa=1\ncharacters=5\nsymbols=01\nname=a\ncells=0 1 0 1 0\ncharacter=1\nlabel=\norder=ORD\nstates=0\ncharacter=2\nlabel=\norder=UNORD\nstates=0\ncharacter=3\nlabel=\norder=ORD\nstates=0\ncharacter=4\nlabel=\norder=UNORD\nstates=0\ncharacter=5\nlabel=\norder=ORD\nstates=0\n")
unfolding read answered
c13 = refl

-- A quoted dash is a dash.
c14 :
    read 267 (bytes "#NEXUS BEGIN DATA;DIMENSIONS NTAX=1 NCHAR=5;MATRIX a 01010;END;BEGIN ASSUMPTIONS;TYPESET * t=ORD:2 '-' 4;END;")
    ≡ answered 1 (bytes "datatype=STANDARD\ntaxa=1\ncharacters=5\nsymbols=01\nname=a\ncells=0 1 0 1 0\ncharacter=1\nlabel=\norder=UNORD\nstates=0\ncharacter=2\nlabel=\norder=ORD\nstates=0\ncharacter=3\nlabel=\norder=ORD\nstates=0\ncharacter=4\nlabel=\norder=ORD\nstates=0\ncharacter=5\nlabel=\norder=UNORD\nstates=0\n")
unfolding read answered
c14 = refl

-- A double-quoted dash too, and an end in the next word.
c15 :
    read 267 (bytes "#NEXUS BEGIN DATA;DIMENSIONS NTAX=1 NCHAR=5;MATRIX a 01010;END;BEGIN ASSUMPTIONS;TYPESET * t=ORD:2 \"-\" 3 5;END;")
    ≡ answered 1 (bytes "datatype=STANDARD\ntaxa=1\ncharacters=5\nsymbols=01\nname=a\ncells=0 1 0 1 0\ncharacter=1\nlabel=\norder=UNORD\nstates=0\ncharacter=2\nlabel=\norder=ORD\nstates=0\ncharacter=3\nlabel=\norder=ORD\nstates=0\ncharacter=4\nlabel=\norder=UNORD\nstates=0\ncharacter=5\nlabel=\norder=ORD\nstates=0\n")
unfolding read answered
c15 = refl

-- A range from a number to itself.
c16 :
    read 271 (bytes "#NEXUS BEGIN DATA;DIMENSIONS NTAX=1 NCHAR=5;MATRIX a 01010;END;BEGIN ASSUMPTIONS;TYPESET * t=ORD:3-3;END;")
    ≡ answered 1 (bytes "datatype=STANDARD\ntaxa=1\ncharacters=5\nsymbols=01\nname=a\ncells=0 1 0 1 0\ncharacter=1\nlabel=\norder=UNORD\nstates=0\ncharacter=2\nlabel=\norder=UNORD\nstates=0\ncharacter=3\nlabel=\norder=ORD\nstates=0\ncharacter=4\nlabel=\norder=UNORD\nstates=0\ncharacter=5\nlabel=\norder=UNORD\nstates=0\n")
unfolding read answered
c16 = refl

-- The dash of one word and the end in the next; ranges one after another.
c17 :
    read 265 (bytes "#NEXUS BEGIN DATA;DIMENSIONS NTAX=1 NCHAR=5;MATRIX a 01010;END;BEGIN ASSUMPTIONS;TYPESET * t=ORD:1- 2 3 -4;END;")
    ≡ answered 1 (bytes "datatype=STANDARD\ntaxa=1\ncharacters=5\nsymbols=01\nname=a\ncells=0 1 0 1 0\ncharacter=1\nlabel=\norder=ORD\nstates=0\ncharacter=2\nlabel=\norder=ORD\nstates=0\ncharacter=3\nlabel=\norder=ORD\nstates=0\ncharacter=4\nlabel=\norder=ORD\nstates=0\ncharacter=5\nlabel=\norder=UNORD\nstates=0\n")
unfolding read answered
c17 = refl

-- Number 0 is 28 at it.
c18 :
    read 2 (bytes "#NEXUS BEGIN DATA;DIMENSIONS NTAX=1 NCHAR=5;MATRIX a 01010;END;BEGIN ASSUMPTIONS;TYPESET * t=ORD:1 0;END;")
    ≡ refused 28 1 100 2
unfolding read refused
c18 = refl

-- A number above NCHAR is 28 at it.
c19 :
    read 2 (bytes "#NEXUS BEGIN DATA;DIMENSIONS NTAX=1 NCHAR=5;MATRIX a 01010;END;BEGIN ASSUMPTIONS;TYPESET * t=ORD:1 6;END;")
    ≡ refused 28 1 100 2
unfolding read refused
c19 = refl

-- 2^64 + 1 is no number.
c20 :
    read 2 (bytes "#NEXUS BEGIN DATA;DIMENSIONS NTAX=1 NCHAR=5;MATRIX a 01010;END;BEGIN ASSUMPTIONS;TYPESET * t=ORD:18446744073709551617;END;")
    ≡ refused 28 1 98 2
unfolding read refused
c20 = refl

-- A quoted number is 28.
c21 :
    read 2 (bytes "#NEXUS BEGIN DATA;DIMENSIONS NTAX=1 NCHAR=5;MATRIX a 01010;END;BEGIN ASSUMPTIONS;TYPESET * t=ORD:1 '2';END;")
    ≡ refused 28 1 100 2
unfolding read refused
c21 = refl

-- A double-quoted number is 28.
c22 :
    read 2 (bytes "#NEXUS BEGIN DATA;DIMENSIONS NTAX=1 NCHAR=5;MATRIX a 01010;END;BEGIN ASSUMPTIONS;TYPESET * t=ORD:\"2\";END;")
    ≡ refused 28 1 98 2
unfolding read refused
c22 = refl

-- A quoted range is one part: 28.
c23 :
    read 2 (bytes "#NEXUS BEGIN DATA;DIMENSIONS NTAX=1 NCHAR=5;MATRIX a 01010;END;BEGIN ASSUMPTIONS;TYPESET * t=ORD:'2-4';END;")
    ≡ refused 28 1 98 2
unfolding read refused
c23 = refl

-- A name is 28: named sets are not taken.
c24 :
    read 2 (bytes "#NEXUS BEGIN DATA;DIMENSIONS NTAX=1 NCHAR=5;MATRIX a 01010;END;BEGIN ASSUMPTIONS;TYPESET * t=ORD:1 x;END;")
    ≡ refused 28 1 100 2
unfolding read refused
c24 = refl

-- `..` is 28.
c25 :
    read 2 (bytes "#NEXUS BEGIN DATA;DIMENSIONS NTAX=1 NCHAR=5;MATRIX a 01010;END;BEGIN ASSUMPTIONS;TYPESET * t=ORD:..;END;")
    ≡ refused 28 1 98 2
unfolding read refused
c25 = refl

-- A bare +1 is 28 at the mark.
c26 :
    read 2 (bytes "#NEXUS BEGIN DATA;DIMENSIONS NTAX=1 NCHAR=5;MATRIX a 01010;END;BEGIN ASSUMPTIONS;TYPESET * t=ORD:+1;END;")
    ≡ refused 28 1 98 2
unfolding read refused
c26 = refl

-- ALL in a range by one word is 28 at it: ALL-3.
c27 :
    read 2 (bytes "#NEXUS BEGIN DATA;DIMENSIONS NTAX=1 NCHAR=5;MATRIX a 01010;END;BEGIN ASSUMPTIONS;TYPESET * t=ORD:1 ALL-3;END;")
    ≡ refused 28 1 100 2
unfolding read refused
c27 = refl

-- ALL as the end of a range.
c28 :
    read 2 (bytes "#NEXUS BEGIN DATA;DIMENSIONS NTAX=1 NCHAR=5;MATRIX a 01010;END;BEGIN ASSUMPTIONS;TYPESET * t=ORD:1-ALL;END;")
    ≡ refused 28 1 98 2
unfolding read refused
c28 = refl

-- ALL as the start of a range is 28 at ALL.
c29 :
    read 2 (bytes "#NEXUS BEGIN DATA;DIMENSIONS NTAX=1 NCHAR=5;MATRIX a 01010;END;BEGIN ASSUMPTIONS;TYPESET * t=ORD:ALL - 3;END;")
    ≡ refused 28 1 98 2
unfolding read refused
c29 = refl

-- ALL before a dash and nothing is 28 at ALL.
c30 :
    read 2 (bytes "#NEXUS BEGIN DATA;DIMENSIONS NTAX=1 NCHAR=5;MATRIX a 01010;END;BEGIN ASSUMPTIONS;TYPESET * t=ORD:ALL -;END;")
    ≡ refused 28 1 98 2
unfolding read refused
c30 = refl

-- A quoted ALL is 28.
c31 :
    read 2 (bytes "#NEXUS BEGIN DATA;DIMENSIONS NTAX=1 NCHAR=5;MATRIX a 01010;END;BEGIN ASSUMPTIONS;TYPESET * t=ORD:'ALL';END;")
    ≡ refused 28 1 98 2
unfolding read refused
c31 = refl

-- ALL as the end of a range, in a word of its own.
c32 :
    read 2 (bytes "#NEXUS BEGIN DATA;DIMENSIONS NTAX=1 NCHAR=5;MATRIX a 01010;END;BEGIN ASSUMPTIONS;TYPESET * t=ORD:1 - ALL;END;")
    ≡ refused 28 1 102 2
unfolding read refused
c32 = refl

-- A range without an end is 28 at its first token.
c33 :
    read 2 (bytes "#NEXUS BEGIN DATA;DIMENSIONS NTAX=1 NCHAR=5;MATRIX a 01010;END;BEGIN ASSUMPTIONS;TYPESET * t=ORD:2 1 -;END;")
    ≡ refused 28 1 100 2
unfolding read refused
c33 = refl

-- A range without an end before the next list.
c34 :
    read 2 (bytes "#NEXUS BEGIN DATA;DIMENSIONS NTAX=1 NCHAR=5;MATRIX a 01010;END;BEGIN ASSUMPTIONS;TYPESET * t=ORD:2-,UNORD:1;END;")
    ≡ refused 28 1 98 2
unfolding read refused
c34 = refl

-- A wrong end is 28 at the end's token.
c35 :
    read 2 (bytes "#NEXUS BEGIN DATA;DIMENSIONS NTAX=1 NCHAR=5;MATRIX a 01010;END;BEGIN ASSUMPTIONS;TYPESET * t=ORD:1 - 6;END;")
    ≡ refused 28 1 102 2
unfolding read refused
c35 = refl

-- A falling range is 28 at its first token.
c36 :
    read 2 (bytes "#NEXUS BEGIN DATA;DIMENSIONS NTAX=1 NCHAR=5;MATRIX a 01010;END;BEGIN ASSUMPTIONS;TYPESET * t=ORD:1 4 - 3;END;")
    ≡ refused 28 1 100 2
unfolding read refused
c36 = refl

-- A falling range is judged before its stride.
c37 :
    read 2 (bytes "#NEXUS BEGIN DATA;DIMENSIONS NTAX=1 NCHAR=5;MATRIX a 01010;END;BEGIN ASSUMPTIONS;TYPESET * t=ORD:4-3 \\ 0;END;")
    ≡ refused 28 1 98 2
unfolding read refused
c37 = refl

-- Two dashes are 28.
c38 :
    read 2 (bytes "#NEXUS BEGIN DATA;DIMENSIONS NTAX=1 NCHAR=5;MATRIX a 01010;END;BEGIN ASSUMPTIONS;TYPESET * t=ORD:1--3;END;")
    ≡ refused 28 1 98 2
unfolding read refused
c38 = refl

-- A range of three is 28.
c39 :
    read 2 (bytes "#NEXUS BEGIN DATA;DIMENSIONS NTAX=1 NCHAR=5;MATRIX a 01010;END;BEGIN ASSUMPTIONS;TYPESET * t=ORD:1-2-4;END;")
    ≡ refused 28 1 98 2
unfolding read refused
c39 = refl

-- A dash at the start is 28.
c40 :
    read 2 (bytes "#NEXUS BEGIN DATA;DIMENSIONS NTAX=1 NCHAR=5;MATRIX a 01010;END;BEGIN ASSUMPTIONS;TYPESET * t=ORD:-2;END;")
    ≡ refused 28 1 98 2
unfolding read refused
c40 = refl

-- No stride is 28 at the first token.
c41 :
    read 2 (bytes "#NEXUS BEGIN DATA;DIMENSIONS NTAX=1 NCHAR=5;MATRIX a 01010;END;BEGIN ASSUMPTIONS;TYPESET * t=ORD:2 - 5 \\;END;")
    ≡ refused 28 1 98 2
unfolding read refused
c41 = refl

-- No stride behind a single number.
c42 :
    read 2 (bytes "#NEXUS BEGIN DATA;DIMENSIONS NTAX=1 NCHAR=5;MATRIX a 01010;END;BEGIN ASSUMPTIONS;TYPESET * t=ORD:1 2 \\;END;")
    ≡ refused 28 1 100 2
unfolding read refused
c42 = refl

-- A stride of 0 is 28 at it.
c43 :
    read 2 (bytes "#NEXUS BEGIN DATA;DIMENSIONS NTAX=1 NCHAR=5;MATRIX a 01010;END;BEGIN ASSUMPTIONS;TYPESET * t=ORD:1-5 \\ 0;END;")
    ≡ refused 28 1 104 2
unfolding read refused
c43 = refl

-- `.` is no stride.
c44 :
    read 2 (bytes "#NEXUS BEGIN DATA;DIMENSIONS NTAX=1 NCHAR=5;MATRIX a 01010;END;BEGIN ASSUMPTIONS;TYPESET * t=ORD:1-5\\.;END;")
    ≡ refused 28 1 102 2
unfolding read refused
c44 = refl

-- 2^64 is no stride.
c45 :
    read 2 (bytes "#NEXUS BEGIN DATA;DIMENSIONS NTAX=1 NCHAR=5;MATRIX a 01010;END;BEGIN ASSUMPTIONS;TYPESET * t=ORD:1-5\\18446744073709551616;END;")
    ≡ refused 28 1 102 2
unfolding read refused
c45 = refl

-- Of `\2-3` the stride is 2, and the dash is 28.
c46 :
    read 2 (bytes "#NEXUS BEGIN DATA;DIMENSIONS NTAX=1 NCHAR=5;MATRIX a 01010;END;BEGIN ASSUMPTIONS;TYPESET * t=ORD:1-5\\2-3;END;")
    ≡ refused 28 1 102 2
unfolding read refused
c46 = refl

-- A second stride is 28 at its mark.
c47 :
    read 2 (bytes "#NEXUS BEGIN DATA;DIMENSIONS NTAX=1 NCHAR=5;MATRIX a 01010;END;BEGIN ASSUMPTIONS;TYPESET * t=ORD:1-5\\2\\2;END;")
    ≡ refused 28 1 103 2
unfolding read refused
c47 = refl

-- A quoted `\` is none.
c48 :
    read 2 (bytes "#NEXUS BEGIN DATA;DIMENSIONS NTAX=1 NCHAR=5;MATRIX a 01010;END;BEGIN ASSUMPTIONS;TYPESET * t=ORD:1-5 '\\' 2;END;")
    ≡ refused 28 1 102 2
unfolding read refused
c48 = refl

-- Ranges that meet in one character: 27 at the type word.
c49 :
    read 2 (bytes "#NEXUS BEGIN DATA;DIMENSIONS NTAX=1 NCHAR=5;MATRIX a 01010;END;BEGIN ASSUMPTIONS;TYPESET * t=ORD:1-3 3-4;END;")
    ≡ refused 27 1 94 2
unfolding read refused
c49 = refl

-- Strides that pass each other by.
c50 :
    read 263 (bytes "#NEXUS BEGIN DATA;DIMENSIONS NTAX=1 NCHAR=5;MATRIX a 01010;END;BEGIN ASSUMPTIONS;TYPESET * t=ORD:1-5\\2 2-5\\2;END;")
    ≡ answered 1 (bytes "datatype=STANDARD\ntaxa=1\ncharacters=5\nsymbols=01\nname=a\ncells=0 1 0 1 0\ncharacter=1\nlabel=\norder=ORD\nstates=0\ncharacter=2\nlabel=\norder=ORD\nstates=0\ncharacter=3\nlabel=\norder=ORD\nstates=0\ncharacter=4\nlabel=\norder=ORD\nstates=0\ncharacter=5\nlabel=\norder=ORD\nstates=0\n")
unfolding read answered
c50 = refl

-- A stride that meets an earlier number: 27.
c51 :
    read 2 (bytes "#NEXUS BEGIN DATA;DIMENSIONS NTAX=1 NCHAR=5;MATRIX a 01010;END;BEGIN ASSUMPTIONS;TYPESET * t=ORD:5 1-.\\2;END;")
    ≡ refused 27 1 94 2
unfolding read refused
c51 = refl

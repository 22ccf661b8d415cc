-- ASSUMPTIONS: OPTIONS and the shape of TYPESET.
-- Made from host/definitions/chosen/11-types.txt, with the Rust's answers.
use Rattle.std.specs.Prelude.{◌≡◌, refl}
use Rattle.lexer.specs.Base.{bytes}
use Rattle.vectors.specs.Asked.{read, answered, refused}

-- OPTIONS alone: every character ordered.
c1 :
    read 143 (bytes "#NEXUS BEGIN DATA;DIMENSIONS NTAX=1 NCHAR=2;MATRIX a 01;END;BEGIN ASSUMPTIONS;OPTIONS DEFTYPE=ORD;END;")
    ≡ answered 1 (bytes "datatype=STANDARD\ntaxa=1\ncharacters=2\nsymbols=01\nname=a\ncells=0 1\ncharacter=1\nlabel=\norder=ORD\nstates=0\ncharacter=2\nlabel=\norder=ORD\nstates=0\n")
unfolding read answered
c1 = refl

-- DEFTYPE=UNORD, in small letters.
c2 :
    read 147 (bytes "#NEXUS BEGIN DATA;DIMENSIONS NTAX=1 NCHAR=2;MATRIX a 01;END;BEGIN ASSUMPTIONS;options deftype = unord;END;")
    ≡ answered 1 (bytes "datatype=STANDARD\ntaxa=1\ncharacters=2\nsymbols=01\nname=a\ncells=0 1\ncharacter=1\nlabel=\norder=UNORD\nstates=0\ncharacter=2\nlabel=\norder=UNORD\nstates=0\n")
unfolding read answered
c2 = refl

-- A TYPESET over the default, which comes first.
c3 :
    read 145 (bytes "#NEXUS BEGIN DATA;DIMENSIONS NTAX=1 NCHAR=2;MATRIX a 01;END;BEGIN ASSUMPTIONS;OPTIONS DEFTYPE=ORD;TYPESET * t=UNORD:2;END;")
    ≡ answered 1 (bytes "datatype=STANDARD\ntaxa=1\ncharacters=2\nsymbols=01\nname=a\ncells=0 1\ncharacter=1\nlabel=\norder=ORD\nstates=0\ncharacter=2\nlabel=\norder=UNORD\nstates=0\n")
unfolding read answered
c3 = refl

-- A TYPESET over the default, which comes last.
c4 :
    read 145 (bytes "#NEXUS BEGIN DATA;DIMENSIONS NTAX=1 NCHAR=2;MATRIX a 01;END;BEGIN ASSUMPTIONS;TYPESET * t=UNORD:1;OPTIONS DEFTYPE=ORD;END;")
    ≡ answered 1 (bytes "datatype=STANDARD\ntaxa=1\ncharacters=2\nsymbols=01\nname=a\ncells=0 1\ncharacter=1\nlabel=\norder=UNORD\nstates=0\ncharacter=2\nlabel=\norder=ORD\nstates=0\n")
unfolding read answered
c4 = refl

-- A TYPESET without `*` is applied.
c5 :
    read 145 (bytes "#NEXUS BEGIN DATA;DIMENSIONS NTAX=1 NCHAR=2;MATRIX a 01;END;BEGIN ASSUMPTIONS;TYPESET t=ORD:1;END;")
    ≡ answered 1 (bytes "datatype=STANDARD\ntaxa=1\ncharacters=2\nsymbols=01\nname=a\ncells=0 1\ncharacter=1\nlabel=\norder=ORD\nstates=0\ncharacter=2\nlabel=\norder=UNORD\nstates=0\n")
unfolding read answered
c5 = refl

-- VECTOR: a type for each.
c6 :
    read 145 (bytes "#NEXUS BEGIN DATA;DIMENSIONS NTAX=1 NCHAR=2;MATRIX a 01;END;BEGIN ASSUMPTIONS;TYPESET * t (VECTOR)=ORD UNORD;END;")
    ≡ answered 1 (bytes "datatype=STANDARD\ntaxa=1\ncharacters=2\nsymbols=01\nname=a\ncells=0 1\ncharacter=1\nlabel=\norder=ORD\nstates=0\ncharacter=2\nlabel=\norder=UNORD\nstates=0\n")
unfolding read answered
c6 = refl

-- VECTOR over the default.
c7 :
    read 145 (bytes "#NEXUS BEGIN DATA;DIMENSIONS NTAX=1 NCHAR=2;MATRIX a 01;END;BEGIN ASSUMPTIONS;OPTIONS DEFTYPE=ORD;TYPESET t(vector)=UNORD ord;END;")
    ≡ answered 1 (bytes "datatype=STANDARD\ntaxa=1\ncharacters=2\nsymbols=01\nname=a\ncells=0 1\ncharacter=1\nlabel=\norder=UNORD\nstates=0\ncharacter=2\nlabel=\norder=ORD\nstates=0\n")
unfolding read answered
c7 = refl

-- (STANDARD), two types, a quoted name.
c8 :
    read 145 (bytes "#NEXUS BEGIN DATA;DIMENSIONS NTAX=1 NCHAR=2;MATRIX a 01;END;BEGIN ASSUMPTIONS;TYPESET 't' (STANDARD) = ORD:2,UNORD:1;END;")
    ≡ answered 1 (bytes "datatype=STANDARD\ntaxa=1\ncharacters=2\nsymbols=01\nname=a\ncells=0 1\ncharacter=1\nlabel=\norder=UNORD\nstates=0\ncharacter=2\nlabel=\norder=ORD\nstates=0\n")
unfolding read answered
c8 = refl

-- Labels and states stay when types are given.
c9 :
    read 154 (bytes "#NEXUS BEGIN DATA;DIMENSIONS NTAX=1 NCHAR=2;CHARSTATELABELS 2 e/x;MATRIX a 01;END;BEGIN ASSUMPTIONS;TYPESET t=ORD:2;END;")
    ≡ answered 1 (bytes "datatype=STANDARD\ntaxa=1\ncharacters=2\nsymbols=01\nname=a\ncells=0 1\ncharacter=1\nlabel=\norder=UNORD\nstates=0\ncharacter=2\nlabel=e\norder=ORD\nstates=1\nstate=x\n")
unfolding read answered
c9 = refl

-- A second OPTIONS is 13.
c10 :
    read 2 (bytes "#NEXUS BEGIN DATA;DIMENSIONS NTAX=1 NCHAR=2;MATRIX a 01;END;BEGIN ASSUMPTIONS;OPTIONS DEFTYPE=ORD;OPTIONS;END;")
    ≡ refused 13 1 99 2
unfolding read refused
c10 = refl

-- A second TYPESET is 13.
c11 :
    read 2 (bytes "#NEXUS BEGIN DATA;DIMENSIONS NTAX=1 NCHAR=2;MATRIX a 01;END;BEGIN ASSUMPTIONS;TYPESET t=ORD:1;TYPESET;END;")
    ≡ refused 13 1 95 2
unfolding read refused
c11 = refl

-- Another command is 13.
c12 :
    read 2 (bytes "#NEXUS BEGIN DATA;DIMENSIONS NTAX=1 NCHAR=2;MATRIX a 01;END;BEGIN ASSUMPTIONS;WTSET * w=1:ALL;END;")
    ≡ refused 13 1 79 2
unfolding read refused
c12 = refl

-- OPTIONS without `=` is 13 at OPTIONS, not 19.
c13 :
    read 2 (bytes "#NEXUS BEGIN DATA;DIMENSIONS NTAX=1 NCHAR=2;MATRIX a 01;END;BEGIN ASSUMPTIONS;OPTIONS DEFTYPE ORD;END;")
    ≡ refused 13 1 79 2
unfolding read refused
c13 = refl

-- OPTIONS of another form is 13: another word.
c14 :
    read 2 (bytes "#NEXUS BEGIN DATA;DIMENSIONS NTAX=1 NCHAR=2;MATRIX a 01;END;BEGIN ASSUMPTIONS;OPTIONS POLYTCOUNT=ORD;END;")
    ≡ refused 13 1 79 2
unfolding read refused
c14 = refl

-- OPTIONS with a fifth token is 13 before its type word.
c15 :
    read 2 (bytes "#NEXUS BEGIN DATA;DIMENSIONS NTAX=1 NCHAR=2;MATRIX a 01;END;BEGIN ASSUMPTIONS;OPTIONS DEFTYPE=X x;END;")
    ≡ refused 13 1 79 2
unfolding read refused
c15 = refl

-- OPTIONS with three tokens.
c16 :
    read 2 (bytes "#NEXUS BEGIN DATA;DIMENSIONS NTAX=1 NCHAR=2;MATRIX a 01;END;BEGIN ASSUMPTIONS;OPTIONS DEFTYPE=;END;")
    ≡ refused 13 1 79 2
unfolding read refused
c16 = refl

-- OPTIONS alone.
c17 :
    read 2 (bytes "#NEXUS BEGIN DATA;DIMENSIONS NTAX=1 NCHAR=2;MATRIX a 01;END;BEGIN ASSUMPTIONS;OPTIONS;END;")
    ≡ refused 13 1 79 2
unfolding read refused
c17 = refl

-- Another mark in the place of `=`.
c18 :
    read 2 (bytes "#NEXUS BEGIN DATA;DIMENSIONS NTAX=1 NCHAR=2;MATRIX a 01;END;BEGIN ASSUMPTIONS;OPTIONS DEFTYPE:ORD;END;")
    ≡ refused 13 1 79 2
unfolding read refused
c18 = refl

-- Another type word is 27 at it.
c19 :
    read 2 (bytes "#NEXUS BEGIN DATA;DIMENSIONS NTAX=1 NCHAR=2;MATRIX a 01;END;BEGIN ASSUMPTIONS;OPTIONS DEFTYPE=IRREV;END;")
    ≡ refused 27 1 95 2
unfolding read refused
c19 = refl

-- A quoted type word is 27.
c20 :
    read 2 (bytes "#NEXUS BEGIN DATA;DIMENSIONS NTAX=1 NCHAR=2;MATRIX a 01;END;BEGIN ASSUMPTIONS;OPTIONS DEFTYPE='ORD';END;")
    ≡ refused 27 1 95 2
unfolding read refused
c20 = refl

-- TYPESET without a name is 27 at TYPESET.
c21 :
    read 2 (bytes "#NEXUS BEGIN DATA;DIMENSIONS NTAX=1 NCHAR=2;MATRIX a 01;END;BEGIN ASSUMPTIONS;TYPESET *;END;")
    ≡ refused 27 1 79 2
unfolding read refused
c21 = refl

-- A second `*` is 17 at it.
c22 :
    read 2 (bytes "#NEXUS BEGIN DATA;DIMENSIONS NTAX=1 NCHAR=2;MATRIX a 01;END;BEGIN ASSUMPTIONS;TYPESET * * t=ORD:1;END;")
    ≡ refused 17 1 89 2
unfolding read refused
c22 = refl

-- A name in double quotes is 17.
c23 :
    read 2 (bytes "#NEXUS BEGIN DATA;DIMENSIONS NTAX=1 NCHAR=2;MATRIX a 01;END;BEGIN ASSUMPTIONS;TYPESET \"t\"=ORD:1;END;")
    ≡ refused 17 1 87 2
unfolding read refused
c23 = refl

-- `(` and nothing is 27 at TYPESET.
c24 :
    read 2 (bytes "#NEXUS BEGIN DATA;DIMENSIONS NTAX=1 NCHAR=2;MATRIX a 01;END;BEGIN ASSUMPTIONS;TYPESET t (;END;")
    ≡ refused 27 1 79 2
unfolding read refused
c24 = refl

-- Another format is 27 at it.
c25 :
    read 2 (bytes "#NEXUS BEGIN DATA;DIMENSIONS NTAX=1 NCHAR=2;MATRIX a 01;END;BEGIN ASSUMPTIONS;TYPESET t (X)=ORD:1;END;")
    ≡ refused 27 1 90 2
unfolding read refused
c25 = refl

-- An unclosed format is 27 at its word, not at what stands there.
c26 :
    read 2 (bytes "#NEXUS BEGIN DATA;DIMENSIONS NTAX=1 NCHAR=2;MATRIX a 01;END;BEGIN ASSUMPTIONS;TYPESET t (VECTOR=ORD ORD;END;")
    ≡ refused 27 1 90 2
unfolding read refused
c26 = refl

-- A format that the end leaves unclosed.
c27 :
    read 2 (bytes "#NEXUS BEGIN DATA;DIMENSIONS NTAX=1 NCHAR=2;MATRIX a 01;END;BEGIN ASSUMPTIONS;TYPESET t (STANDARD;END;")
    ≡ refused 27 1 90 2
unfolding read refused
c27 = refl

-- No `=` is 27 at TYPESET.
c28 :
    read 2 (bytes "#NEXUS BEGIN DATA;DIMENSIONS NTAX=1 NCHAR=2;MATRIX a 01;END;BEGIN ASSUMPTIONS;TYPESET t ORD:1;END;")
    ≡ refused 27 1 79 2
unfolding read refused
c28 = refl

-- No `=` behind a format.
c29 :
    read 2 (bytes "#NEXUS BEGIN DATA;DIMENSIONS NTAX=1 NCHAR=2;MATRIX a 01;END;BEGIN ASSUMPTIONS;TYPESET t (VECTOR);END;")
    ≡ refused 27 1 79 2
unfolding read refused
c29 = refl

-- A name and nothing.
c30 :
    read 2 (bytes "#NEXUS BEGIN DATA;DIMENSIONS NTAX=1 NCHAR=2;MATRIX a 01;END;BEGIN ASSUMPTIONS;TYPESET t;END;")
    ≡ refused 27 1 79 2
unfolding read refused
c30 = refl

-- Nothing behind `=` is 27 at TYPESET.
c31 :
    read 2 (bytes "#NEXUS BEGIN DATA;DIMENSIONS NTAX=1 NCHAR=2;MATRIX a 01;END;BEGIN ASSUMPTIONS;TYPESET t=;END;")
    ≡ refused 27 1 79 2
unfolding read refused
c31 = refl

-- An empty VECTOR is 27, not 16.
c32 :
    read 2 (bytes "#NEXUS BEGIN DATA;DIMENSIONS NTAX=1 NCHAR=2;MATRIX a 01;END;BEGIN ASSUMPTIONS;TYPESET t(VECTOR)=;END;")
    ≡ refused 27 1 79 2
unfolding read refused
c32 = refl

-- VECTOR of another count is 16 at TYPESET, before its words.
c33 :
    read 2 (bytes "#NEXUS BEGIN DATA;DIMENSIONS NTAX=1 NCHAR=2;MATRIX a 01;END;BEGIN ASSUMPTIONS;TYPESET t(VECTOR)=ORD X ORD;END;")
    ≡ refused 16 1 79 2
unfolding read refused
c33 = refl

-- A comma counts as a word of VECTOR.
c34 :
    read 2 (bytes "#NEXUS BEGIN DATA;DIMENSIONS NTAX=1 NCHAR=2;MATRIX a 01;END;BEGIN ASSUMPTIONS;TYPESET t(VECTOR)=ORD,ORD;END;")
    ≡ refused 16 1 79 2
unfolding read refused
c34 = refl

-- A wrong word of VECTOR is 27 at it.
c35 :
    read 2 (bytes "#NEXUS BEGIN DATA;DIMENSIONS NTAX=1 NCHAR=2;MATRIX a 01;END;BEGIN ASSUMPTIONS;TYPESET t(VECTOR)=ORD X;END;")
    ≡ refused 27 1 101 2
unfolding read refused
c35 = refl

-- Of two wrong words the first counts.
c36 :
    read 2 (bytes "#NEXUS BEGIN DATA;DIMENSIONS NTAX=1 NCHAR=2;MATRIX a 01;END;BEGIN ASSUMPTIONS;TYPESET t(VECTOR)=: X;END;")
    ≡ refused 27 1 97 2
unfolding read refused
c36 = refl

-- Another type word is 27 at it, before its list.
c37 :
    read 2 (bytes "#NEXUS BEGIN DATA;DIMENSIONS NTAX=1 NCHAR=2;MATRIX a 01;END;BEGIN ASSUMPTIONS;TYPESET t=X:9;END;")
    ≡ refused 27 1 89 2
unfolding read refused
c37 = refl

-- No `:` is 27 at the type word.
c38 :
    read 2 (bytes "#NEXUS BEGIN DATA;DIMENSIONS NTAX=1 NCHAR=2;MATRIX a 01;END;BEGIN ASSUMPTIONS;TYPESET t=ORD 1;END;")
    ≡ refused 27 1 89 2
unfolding read refused
c38 = refl

-- A type word alone is 27 at it.
c39 :
    read 2 (bytes "#NEXUS BEGIN DATA;DIMENSIONS NTAX=1 NCHAR=2;MATRIX a 01;END;BEGIN ASSUMPTIONS;TYPESET t=ORD;END;")
    ≡ refused 27 1 89 2
unfolding read refused
c39 = refl

-- An empty list is 28 at the type word.
c40 :
    read 2 (bytes "#NEXUS BEGIN DATA;DIMENSIONS NTAX=1 NCHAR=2;MATRIX a 01;END;BEGIN ASSUMPTIONS;TYPESET t=ORD:;END;")
    ≡ refused 28 1 89 2
unfolding read refused
c40 = refl

-- A comma at once is an empty list.
c41 :
    read 2 (bytes "#NEXUS BEGIN DATA;DIMENSIONS NTAX=1 NCHAR=2;MATRIX a 01;END;BEGIN ASSUMPTIONS;TYPESET t=ORD:,UNORD:1;END;")
    ≡ refused 28 1 89 2
unfolding read refused
c41 = refl

-- A last comma is 27 at TYPESET.
c42 :
    read 2 (bytes "#NEXUS BEGIN DATA;DIMENSIONS NTAX=1 NCHAR=2;MATRIX a 01;END;BEGIN ASSUMPTIONS;TYPESET t=ORD:1,;END;")
    ≡ refused 27 1 79 2
unfolding read refused
c42 = refl

-- Two commas are 27 at the second.
c43 :
    read 2 (bytes "#NEXUS BEGIN DATA;DIMENSIONS NTAX=1 NCHAR=2;MATRIX a 01;END;BEGIN ASSUMPTIONS;TYPESET t=ORD:1,,UNORD:2;END;")
    ≡ refused 27 1 95 2
unfolding read refused
c43 = refl

-- A character typed twice in two lists is 27 at the later type word.
c44 :
    read 2 (bytes "#NEXUS BEGIN DATA;DIMENSIONS NTAX=1 NCHAR=2;MATRIX a 01;END;BEGIN ASSUMPTIONS;TYPESET t=ORD:1,UNORD:2 1;END;")
    ≡ refused 27 1 95 2
unfolding read refused
c44 = refl

-- A character typed twice in one list is 27 at the type word.
c45 :
    read 2 (bytes "#NEXUS BEGIN DATA;DIMENSIONS NTAX=1 NCHAR=2;MATRIX a 01;END;BEGIN ASSUMPTIONS;TYPESET t=ORD:2 2;END;")
    ≡ refused 27 1 89 2
unfolding read refused
c45 = refl

-- The same type twice is twice.
c46 :
    read 2 (bytes "#NEXUS BEGIN DATA;DIMENSIONS NTAX=1 NCHAR=2;MATRIX a 01;END;BEGIN ASSUMPTIONS;TYPESET t=ORD:1,ORD:ALL;END;")
    ≡ refused 27 1 95 2
unfolding read refused
c46 = refl

-- 28 late in a list comes before 27 early in it.
c47 :
    read 2 (bytes "#NEXUS BEGIN DATA;DIMENSIONS NTAX=1 NCHAR=2;MATRIX a 01;END;BEGIN ASSUMPTIONS;TYPESET t=ORD:1 1 9;END;")
    ≡ refused 28 1 97 2
unfolding read refused
c47 = refl

-- 27 in one list comes before 28 in the next.
c48 :
    read 2 (bytes "#NEXUS BEGIN DATA;DIMENSIONS NTAX=1 NCHAR=2;MATRIX a 01;END;BEGIN ASSUMPTIONS;TYPESET t=ORD:1 1,UNORD:9;END;")
    ≡ refused 27 1 89 2
unfolding read refused
c48 = refl

-- DNA: states, ambiguity codes, missing and gap.
-- Made from host/definitions/chosen/08-dna.txt, with the Rust's answers.
use Rattle.std.specs.Prelude.{◌≡◌, refl}
use Rattle.lexer.specs.Base.{bytes}
use Rattle.vectors.specs.Asked.{read, answered, refused}

-- All fifteen codes in capitals.
c1 :
    read 742 (bytes "#NEXUS BEGIN DATA;DIMENSIONS NTAX=1 NCHAR=15;FORMAT DATATYPE=DNA;MATRIX x ACGTRYSWKMBDHVN;END;")
    ≡ answered 1 (bytes "datatype=DNA\ntaxa=1\ncharacters=15\nsymbols=ACGT\nname=x\ncells=0 1 2 3 u0.2 u1.3 u1.2 u0.3 u2.3 u0.1 u1.2.3 u0.2.3 u0.1.3 u0.1.2 u0.1.2.3\ncharacter=1\nlabel=\norder=UNORD\nstates=0\ncharacter=2\nlabel=\norder=UNORD\nstates=0\ncharacter=3\nlabel=\norder=UNORD\nstates=0\ncharacter=4\nlabel=\norder=UNORD\nstates=0\ncharacter=5\nlabel=\norder=UNORD\nstates=0\ncharacter=6\nlabel=\norder=UNORD\nstates=0\ncharacter=7\nlabel=\norder=UNORD\nstates=0\ncharacter=8\nlabel=\norder=UNORD\nstates=0\ncharacter=9\nlabel=\norder=UNORD\nstates=0\ncharacter=10\nlabel=\norder=UNORD\nstates=0\ncharacter=11\nlabel=\norder=UNORD\nstates=0\ncharacter=12\nlabel=\norder=UNORD\nstates=0\ncharacter=13\nlabel=\norder=UNORD\nstates=0\ncharacter=14\nlabel=\norder=UNORD\nstates=0\ncharacter=15\nlabel=\norder=UNORD\nstates=0\n")
unfolding read answered
c1 = refl

-- All fifteen codes in small letters.
c2 :
    read 742 (bytes "#NEXUS BEGIN DATA;DIMENSIONS NTAX=1 NCHAR=15;FORMAT DATATYPE=DNA;MATRIX x acgtryswkmbdhvn;END;")
    ≡ answered 1 (bytes "datatype=DNA\ntaxa=1\ncharacters=15\nsymbols=ACGT\nname=x\ncells=0 1 2 3 u0.2 u1.3 u1.2 u0.3 u2.3 u0.1 u1.2.3 u0.2.3 u0.1.3 u0.1.2 u0.1.2.3\ncharacter=1\nlabel=\norder=UNORD\nstates=0\ncharacter=2\nlabel=\norder=UNORD\nstates=0\ncharacter=3\nlabel=\norder=UNORD\nstates=0\ncharacter=4\nlabel=\norder=UNORD\nstates=0\ncharacter=5\nlabel=\norder=UNORD\nstates=0\ncharacter=6\nlabel=\norder=UNORD\nstates=0\ncharacter=7\nlabel=\norder=UNORD\nstates=0\ncharacter=8\nlabel=\norder=UNORD\nstates=0\ncharacter=9\nlabel=\norder=UNORD\nstates=0\ncharacter=10\nlabel=\norder=UNORD\nstates=0\ncharacter=11\nlabel=\norder=UNORD\nstates=0\ncharacter=12\nlabel=\norder=UNORD\nstates=0\ncharacter=13\nlabel=\norder=UNORD\nstates=0\ncharacter=14\nlabel=\norder=UNORD\nstates=0\ncharacter=15\nlabel=\norder=UNORD\nstates=0\n")
unfolding read answered
c2 = refl

-- Missing `?` and gap `-` by default.
c3 :
    read 144 (bytes "#NEXUS BEGIN DATA;DIMENSIONS NTAX=1 NCHAR=2;FORMAT DATATYPE=DNA;MATRIX x ?-;END;")
    ≡ answered 1 (bytes "datatype=DNA\ntaxa=1\ncharacters=2\nsymbols=ACGT\nname=x\ncells=m g\ncharacter=1\nlabel=\norder=UNORD\nstates=0\ncharacter=2\nlabel=\norder=UNORD\nstates=0\n")
unfolding read answered
c3 = refl

-- Sets of states, in any case and order; a set of one is a set.
c4 :
    read 148 (bytes "#NEXUS BEGIN DATA;DIMENSIONS NTAX=1 NCHAR=2;FORMAT DATATYPE=DNA;MATRIX x {tA}(g);END;")
    ≡ answered 1 (bytes "datatype=DNA\ntaxa=1\ncharacters=2\nsymbols=ACGT\nname=x\ncells=u0.3 p2\ncharacter=1\nlabel=\norder=UNORD\nstates=0\ncharacter=2\nlabel=\norder=UNORD\nstates=0\n")
unfolding read answered
c4 = refl

-- SYMBOLS="ACGT" is allowed.
c5 :
    read 144 (bytes "#NEXUS BEGIN DATA;DIMENSIONS NTAX=1 NCHAR=2;FORMAT DATATYPE=DNA SYMBOLS=\" A CGT\";MATRIX x ac;END;")
    ≡ answered 1 (bytes "datatype=DNA\ntaxa=1\ncharacters=2\nsymbols=ACGT\nname=x\ncells=0 1\ncharacter=1\nlabel=\norder=UNORD\nstates=0\ncharacter=2\nlabel=\norder=UNORD\nstates=0\n")
unfolding read answered
c5 = refl

-- MISSING=N: an N is missing.
c6 :
    read 147 (bytes "#NEXUS BEGIN DATA;DIMENSIONS NTAX=1 NCHAR=2;FORMAT MISSING=n DATATYPE=dna;MATRIX x NR;END;")
    ≡ answered 1 (bytes "datatype=DNA\ntaxa=1\ncharacters=2\nsymbols=ACGT\nname=x\ncells=m u0.2\ncharacter=1\nlabel=\norder=UNORD\nstates=0\ncharacter=2\nlabel=\norder=UNORD\nstates=0\n")
unfolding read answered
c6 = refl

-- With MISSING=N a `?` is 22.
c7 :
    read 2 (bytes "#NEXUS BEGIN DATA;DIMENSIONS NTAX=1 NCHAR=2;FORMAT DATATYPE=DNA MISSING=N;MATRIX x A?;END;")
    ≡ refused 22 1 84 2
unfolding read refused
c7 = refl

-- A declared gap takes the place of `-`.
c8 :
    read 144 (bytes "#NEXUS BEGIN DATA;DIMENSIONS NTAX=1 NCHAR=2;FORMAT DATATYPE=DNA GAP=.;MATRIX x A.;END;")
    ≡ answered 1 (bytes "datatype=DNA\ntaxa=1\ncharacters=2\nsymbols=ACGT\nname=x\ncells=0 g\ncharacter=1\nlabel=\norder=UNORD\nstates=0\ncharacter=2\nlabel=\norder=UNORD\nstates=0\n")
unfolding read answered
c8 = refl

-- With GAP=. a `-` is 22.
c9 :
    read 2 (bytes "#NEXUS BEGIN DATA;DIMENSIONS NTAX=1 NCHAR=2;FORMAT DATATYPE=DNA GAP=.;MATRIX x A-;END;")
    ≡ refused 22 1 80 2
unfolding read refused
c9 = refl

-- Missing stands before a code: x is no code.
c10 :
    read 102 (bytes "#NEXUS BEGIN DATA;DIMENSIONS NTAX=1 NCHAR=1;FORMAT DATATYPE=DNA MISSING=x GAP=?;MATRIX x X;END;")
    ≡ answered 1 (bytes "datatype=DNA\ntaxa=1\ncharacters=1\nsymbols=ACGT\nname=x\ncells=m\ncharacter=1\nlabel=\norder=UNORD\nstates=0\n")
unfolding read answered
c10 = refl

-- U is 22.
c11 :
    read 2 (bytes "#NEXUS BEGIN DATA;DIMENSIONS NTAX=1 NCHAR=2;FORMAT DATATYPE=DNA;MATRIX x AU;END;")
    ≡ refused 22 1 74 2
unfolding read refused
c11 = refl

-- X is 22.
c12 :
    read 2 (bytes "#NEXUS BEGIN DATA;DIMENSIONS NTAX=1 NCHAR=2;FORMAT DATATYPE=DNA;MATRIX x AX;END;")
    ≡ refused 22 1 74 2
unfolding read refused
c12 = refl

-- A digit is 22.
c13 :
    read 2 (bytes "#NEXUS BEGIN DATA;DIMENSIONS NTAX=1 NCHAR=2;FORMAT DATATYPE=DNA;MATRIX x A0;END;")
    ≡ refused 22 1 74 2
unfolding read refused
c13 = refl

-- An ambiguity code in a set is 23.
c14 :
    read 2 (bytes "#NEXUS BEGIN DATA;DIMENSIONS NTAX=1 NCHAR=2;FORMAT DATATYPE=DNA;MATRIX x A{AR};END;")
    ≡ refused 23 1 76 2
unfolding read refused
c14 = refl

-- N in a set is 23.
c15 :
    read 2 (bytes "#NEXUS BEGIN DATA;DIMENSIONS NTAX=1 NCHAR=2;FORMAT DATATYPE=DNA;MATRIX x A{N};END;")
    ≡ refused 23 1 76 2
unfolding read refused
c15 = refl

-- RESPECTCASE with DNA is 21 at FORMAT.
c16 :
    read 2 (bytes "#NEXUS BEGIN DATA;FORMAT DATATYPE=DNA RESPECTCASE;END;")
    ≡ refused 21 1 19 2
unfolding read refused
c16 = refl

-- SYMBOLS other than ACGT is 21: in another order, in small letters.
c17 :
    read 2 (bytes "#NEXUS BEGIN DATA;FORMAT DATATYPE=DNA SYMBOLS=\"ACTG\";END;")
    ≡ refused 21 1 19 2
unfolding read refused
c17 = refl

-- SYMBOLS in small letters.
c18 :
    read 2 (bytes "#NEXUS BEGIN DATA;FORMAT DATATYPE=DNA SYMBOLS=\"acgt\";END;")
    ≡ refused 21 1 19 2
unfolding read refused
c18 = refl

-- A code for missing is 21.
c19 :
    read 2 (bytes "#NEXUS BEGIN DATA;FORMAT DATATYPE=DNA MISSING=R;END;")
    ≡ refused 21 1 19 2
unfolding read refused
c19 = refl

-- A state for missing is 21.
c20 :
    read 2 (bytes "#NEXUS BEGIN DATA;FORMAT DATATYPE=DNA MISSING=a;END;")
    ≡ refused 21 1 19 2
unfolding read refused
c20 = refl

-- A code for the gap is 21; N too.
c21 :
    read 2 (bytes "#NEXUS BEGIN DATA;FORMAT DATATYPE=DNA GAP=n;END;")
    ≡ refused 21 1 19 2
unfolding read refused
c21 = refl

-- Missing `-` meets the default gap: 21.
c22 :
    read 2 (bytes "#NEXUS BEGIN DATA;FORMAT DATATYPE=DNA MISSING=-;END;")
    ≡ refused 21 1 19 2
unfolding read refused
c22 = refl

-- DNA with an ordered character is 29 at #NEXUS.
c23 :
    read 2 (bytes "#NEXUS BEGIN DATA;DIMENSIONS NTAX=1 NCHAR=2;FORMAT DATATYPE=DNA;MATRIX x ac;END;BEGIN ASSUMPTIONS;TYPESET * t=ORD:2;END;BEGIN TREES;MATRIX x ac;END;")
    ≡ refused 29 1 1 2
unfolding read refused
c23 = refl

-- DEFTYPE=ORD for DNA is fine if a TYPESET makes every character UNORD.
c24 :
    read 102 (bytes "#NEXUS BEGIN DATA;DIMENSIONS NTAX=1 NCHAR=1;FORMAT DATATYPE=DNA;MATRIX x T;END;BEGIN ASSUMPTIONS;OPTIONS DEFTYPE=ORD;TYPESET t=UNORD:ALL;END;")
    ≡ answered 1 (bytes "datatype=DNA\ntaxa=1\ncharacters=1\nsymbols=ACGT\nname=x\ncells=3\ncharacter=1\nlabel=\norder=UNORD\nstates=0\n")
unfolding read answered
c24 = refl

-- 29 comes behind a fault in a later block.
c25 :
    read 2 (bytes "#NEXUS BEGIN DATA;DIMENSIONS NTAX=1 NCHAR=1;FORMAT DATATYPE=DNA;MATRIX x T;END;BEGIN ASSUMPTIONS;OPTIONS DEFTYPE=ORD;END;BEGIN X;")
    ≡ refused 12 1 128 2
unfolding read refused
c25 = refl

-- The commands of the TAXA and the data block: which may stand where, and what must be there before MATRIX.
-- Made from host/definitions/chosen/04-block-commands.txt, with the Rust's answers.
use Rattle.std.specs.Prelude.{◌≡◌, refl}
use Rattle.lexer.specs.Base.{bytes}
use Rattle.vectors.specs.Asked.{read, answered, refused}

-- TAXLABELS before DIMENSIONS is 13 at it.
c1 :
    read 2 (bytes "#NEXUS BEGIN TAXA;TAXLABELS a;END;")
    ≡ refused 13 1 19 2
unfolding read refused
c1 = refl

-- A second DIMENSIONS is 13.
c2 :
    read 2 (bytes "#NEXUS BEGIN TAXA;DIMENSIONS NTAX=1;DIMENSIONS NTAX=1;END;")
    ≡ refused 13 1 37 2
unfolding read refused
c2 = refl

-- A second TAXLABELS is 13 before its names are judged.
c3 :
    read 2 (bytes "#NEXUS BEGIN TAXA;DIMENSIONS NTAX=1;TAXLABELS a;TAXLABELS =;END;")
    ≡ refused 13 1 49 2
unfolding read refused
c3 = refl

-- An unknown command is 13 at its first token.
c4 :
    read 2 (bytes "#NEXUS BEGIN TAXA;TITLE t;END;")
    ≡ refused 13 1 19 2
unfolding read refused
c4 = refl

-- NCHAR in the DIMENSIONS of TAXA is 15 at the word DIMENSIONS, behind all options.
c5 :
    read 2 (bytes "#NEXUS BEGIN TAXA;DIMENSIONS NCHAR=1 NTAX=1;END;")
    ≡ refused 15 1 19 2
unfolding read refused
c5 = refl

-- NEWTAXA there is 15 at DIMENSIONS.
c6 :
    read 2 (bytes "#NEXUS BEGIN TAXA;DIMENSIONS NEWTAXA NTAX=1;END;")
    ≡ refused 15 1 19 2
unfolding read refused
c6 = refl

-- A wrong option there comes before.
c7 :
    read 2 (bytes "#NEXUS BEGIN TAXA;DIMENSIONS NCHAR=1 X;END;")
    ≡ refused 15 1 38 2
unfolding read refused
c7 = refl

-- DIMENSIONS without NTAX is 14 at DIMENSIONS.
c8 :
    read 2 (bytes "#NEXUS BEGIN TAXA;DIMENSIONS;END;")
    ≡ refused 14 1 19 2
unfolding read refused
c8 = refl

-- No TAXLABELS is 14 at the block's name.
c9 :
    read 2 (bytes "#NEXUS BEGIN TAXA;DIMENSIONS NTAX=1;END;")
    ≡ refused 14 1 14 2
unfolding read refused
c9 = refl

-- An empty block is 14 at its name.
c10 :
    read 2 (bytes "#NEXUS BEGIN TAXA; END;")
    ≡ refused 14 1 14 2
unfolding read refused
c10 = refl

-- Names too few are 16 at the block's name, when it ends.
c11 :
    read 2 (bytes "#NEXUS BEGIN TAXA;DIMENSIONS NTAX=2;TAXLABELS a;END;")
    ≡ refused 16 1 14 2
unfolding read refused
c11 = refl

-- A token that is no name is 17 before the count is judged.
c12 :
    read 2 (bytes "#NEXUS BEGIN TAXA;DIMENSIONS NTAX=1;TAXLABELS a b \"c\";END;")
    ≡ refused 17 1 51 2
unfolding read refused
c12 = refl

-- A name twice is 18 at the later, ASCII case ignored, `_` as a blank, quoted or not.
c13 :
    read 2 (bytes "#NEXUS BEGIN TAXA;DIMENSIONS NTAX=4;TAXLABELS c a_B d 'A b';END;")
    ≡ refused 18 1 55 2
unfolding read refused
c13 = refl

-- A command after MATRIX is 13.
c14 :
    read 2 (bytes "#NEXUS BEGIN DATA;DIMENSIONS NTAX=1 NCHAR=1;MATRIX a 0;FORMAT;END;")
    ≡ refused 13 1 56 2
unfolding read refused
c14 = refl

-- A second FORMAT is 13 before its options are judged.
c15 :
    read 2 (bytes "#NEXUS BEGIN DATA;FORMAT;FORMAT X;END;")
    ≡ refused 13 1 26 2
unfolding read refused
c15 = refl

-- A second DIMENSIONS is 13.
c16 :
    read 2 (bytes "#NEXUS BEGIN DATA;DIMENSIONS;DIMENSIONS;END;")
    ≡ refused 13 1 30 2
unfolding read refused
c16 = refl

-- A second TAXLABELS is 13.
c17 :
    read 2 (bytes "#NEXUS BEGIN DATA;TAXLABELS a;TAXLABELS b;END;")
    ≡ refused 13 1 31 2
unfolding read refused
c17 = refl

-- A second STATELABELS is 13.
c18 :
    read 2 (bytes "#NEXUS BEGIN DATA;STATELABELS 1;STATELABELS 1;END;")
    ≡ refused 13 1 33 2
unfolding read refused
c18 = refl

-- A second STATELABELS is 13 behind another label command too.
c19 :
    read 2 (bytes "#NEXUS BEGIN DATA;CHARLABELS;STATELABELS 1;STATELABELS 1;END;")
    ≡ refused 13 1 44 2
unfolding read refused
c19 = refl

-- A second CHARLABELS is 13.
c20 :
    read 2 (bytes "#NEXUS BEGIN DATA;CHARLABELS;CHARLABELS;END;")
    ≡ refused 13 1 30 2
unfolding read refused
c20 = refl

-- A second CHARSTATELABELS is 13.
c21 :
    read 2 (bytes "#NEXUS BEGIN DATA;CHARSTATELABELS 1;CHARSTATELABELS 1;END;")
    ≡ refused 13 1 37 2
unfolding read refused
c21 = refl

-- An unknown command is 13.
c22 :
    read 2 (bytes "#NEXUS BEGIN DATA;TITLE t;END;")
    ≡ refused 13 1 19 2
unfolding read refused
c22 = refl

-- A quoted END is no END: 13.
c23 :
    read 2 (bytes "#NEXUS BEGIN DATA;'END';END;")
    ≡ refused 13 1 19 2
unfolding read refused
c23 = refl

-- TAXLABELS behind a TAXA block is 13 before its names are judged.
c24 :
    read 2 (bytes "#NEXUS BEGIN TAXA;DIMENSIONS NTAX=1;TAXLABELS a;END;BEGIN DATA;TAXLABELS =;END;")
    ≡ refused 13 1 64 2
unfolding read refused
c24 = refl

-- A block without MATRIX is 14 at its name.
c25 :
    read 2 (bytes "#NEXUS BEGIN DATA;DIMENSIONS NTAX=1 NCHAR=1;END;")
    ≡ refused 14 1 14 2
unfolding read refused
c25 = refl

-- MATRIX without DIMENSIONS is 14 at MATRIX, before its rows.
c26 :
    read 2 (bytes "#NEXUS BEGIN DATA;MATRIX ];END;")
    ≡ refused 14 1 19 2
unfolding read refused
c26 = refl

-- MATRIX without NCHAR is 14 at MATRIX.
c27 :
    read 2 (bytes "#NEXUS BEGIN DATA;DIMENSIONS NTAX=1;MATRIX ];END;")
    ≡ refused 14 1 37 2
unfolding read refused
c27 = refl

-- MATRIX without NTAX and without names is 14.
c28 :
    read 2 (bytes "#NEXUS BEGIN DATA;DIMENSIONS NCHAR=1;MATRIX a 0;END;")
    ≡ refused 14 1 38 2
unfolding read refused
c28 = refl

-- An empty TAXLABELS gives no NTAX: 14.
c29 :
    read 2 (bytes "#NEXUS BEGIN DATA;TAXLABELS;DIMENSIONS NCHAR=1;MATRIX a 0;END;")
    ≡ refused 14 1 48 2
unfolding read refused
c29 = refl

-- An empty TAXLABELS beside an NTAX is 16.
c30 :
    read 2 (bytes "#NEXUS BEGIN DATA;TAXLABELS;DIMENSIONS NTAX=1 NCHAR=1;MATRIX a 0;END;")
    ≡ refused 16 1 55 2
unfolding read refused
c30 = refl

-- NTAX unlike the names of TAXA is 16 at MATRIX, before its rows.
c31 :
    read 2 (bytes "#NEXUS BEGIN TAXA;DIMENSIONS NTAX=1;TAXLABELS a;END;BEGIN DATA;DIMENSIONS NTAX=2 NCHAR=1;MATRIX ];END;")
    ≡ refused 16 1 90 2
unfolding read refused
c31 = refl

-- NEWTAXA with names and without NTAX is 14 at MATRIX.
c32 :
    read 2 (bytes "#NEXUS BEGIN DATA;TAXLABELS a;DIMENSIONS NEWTAXA NCHAR=1;MATRIX a 0;END;")
    ≡ refused 14 1 58 2
unfolding read refused
c32 = refl

-- A label command before DIMENSIONS.
c33 :
    read 106 (bytes "#NEXUS BEGIN DATA;CHARLABELS x;DIMENSIONS NTAX=1 NCHAR=1;MATRIX a 0;END;")
    ≡ answered 1 (bytes "datatype=STANDARD\ntaxa=1\ncharacters=1\nsymbols=01\nname=a\ncells=0\ncharacter=1\nlabel=x\norder=UNORD\nstates=0\n")
unfolding read answered
c33 = refl

-- FORMAT and a label command before TAXLABELS.
c34 :
    read 107 (bytes "#NEXUS BEGIN DATA;DIMENSIONS NCHAR=1;FORMAT SYMBOLS=\"012\";CHARLABELS x;TAXLABELS a;MATRIX a 2;END;")
    ≡ answered 1 (bytes "datatype=STANDARD\ntaxa=1\ncharacters=1\nsymbols=012\nname=a\ncells=2\ncharacter=1\nlabel=x\norder=UNORD\nstates=0\n")
unfolding read answered
c34 = refl

-- Labels of characters and states.
-- Made from host/definitions/chosen/10-labels.txt, with the Rust's answers.
use Rattle.std.specs.Prelude.{◌≡◌, refl}
use Rattle.lexer.specs.Base.{bytes}
use Rattle.vectors.specs.Asked.{read, answered, refused}

-- CHARLABELS: a label for each, in order.
c1 :
    read 154 (bytes "#NEXUS BEGIN DATA;DIMENSIONS NTAX=1 NCHAR=2;CHARLABELS x_y 'it''s';MATRIX a 01;END;")
    ≡ answered 1 (bytes "datatype=STANDARD\ntaxa=1\ncharacters=2\nsymbols=01\nname=a\ncells=0 1\ncharacter=1\nlabel=x y\norder=UNORD\nstates=0\ncharacter=2\nlabel=it's\norder=UNORD\nstates=0\n")
unfolding read answered
c1 = refl

-- STATELABELS: a number, then its labels; a character without an entry has none.
c2 :
    read 169 (bytes "#NEXUS BEGIN DATA;DIMENSIONS NTAX=1 NCHAR=2;STATELABELS 2 none some;MATRIX a 01;END;")
    ≡ answered 1 (bytes "datatype=STANDARD\ntaxa=1\ncharacters=2\nsymbols=01\nname=a\ncells=0 1\ncharacter=1\nlabel=\norder=UNORD\nstates=0\ncharacter=2\nlabel=\norder=UNORD\nstates=2\nstate=none\nstate=some\n")
unfolding read answered
c2 = refl

-- STATELABELS of both, with a last comma; labels may be alike.
c3 :
    read 171 (bytes "#NEXUS BEGIN DATA;DIMENSIONS NTAX=1 NCHAR=2;STATELABELS 2 a a,1 a,;MATRIX a 01;END;")
    ≡ answered 1 (bytes "datatype=STANDARD\ntaxa=1\ncharacters=2\nsymbols=01\nname=a\ncells=0 1\ncharacter=1\nlabel=\norder=UNORD\nstates=1\nstate=a\ncharacter=2\nlabel=\norder=UNORD\nstates=2\nstate=a\nstate=a\n")
unfolding read answered
c3 = refl

-- CHARSTATELABELS: a label with states, states alone.
c4 :
    read 186 (bytes "#NEXUS BEGIN DATA;DIMENSIONS NTAX=1 NCHAR=2;CHARSTATELABELS 1 eye/'dark blue' green,2/x;MATRIX a 01;END;")
    ≡ answered 1 (bytes "datatype=STANDARD\ntaxa=1\ncharacters=2\nsymbols=01\nname=a\ncells=0 1\ncharacter=1\nlabel=eye\norder=UNORD\nstates=2\nstate=dark blue\nstate=green\ncharacter=2\nlabel=\norder=UNORD\nstates=1\nstate=x\n")
unfolding read answered
c4 = refl

-- A label alone, and a number alone, which marks nothing.
c5 :
    read 151 (bytes "#NEXUS BEGIN DATA;DIMENSIONS NTAX=1 NCHAR=2;CHARSTATELABELS 2 tail,1,;MATRIX a 01;END;")
    ≡ answered 1 (bytes "datatype=STANDARD\ntaxa=1\ncharacters=2\nsymbols=01\nname=a\ncells=0 1\ncharacter=1\nlabel=\norder=UNORD\nstates=0\ncharacter=2\nlabel=tail\norder=UNORD\nstates=0\n")
unfolding read answered
c5 = refl

-- Label and states of one character in two entries.
c6 :
    read 124 (bytes "#NEXUS BEGIN DATA;DIMENSIONS NTAX=1 NCHAR=1;CHARSTATELABELS 1 eye,1/x y;MATRIX a 0;END;")
    ≡ answered 1 (bytes "datatype=STANDARD\ntaxa=1\ncharacters=1\nsymbols=01\nname=a\ncells=0\ncharacter=1\nlabel=eye\norder=UNORD\nstates=2\nstate=x\nstate=y\n")
unfolding read answered
c6 = refl

-- Label and states in two commands, the later one first.
c7 :
    read 116 (bytes "#NEXUS BEGIN DATA;DIMENSIONS NTAX=1 NCHAR=1;STATELABELS 1 x;CHARLABELS eye;MATRIX a 0;END;")
    ≡ answered 1 (bytes "datatype=STANDARD\ntaxa=1\ncharacters=1\nsymbols=01\nname=a\ncells=0\ncharacter=1\nlabel=eye\norder=UNORD\nstates=1\nstate=x\n")
unfolding read answered
c7 = refl

-- CHARSTATELABELS and STATELABELS beside each other.
c8 :
    read 116 (bytes "#NEXUS BEGIN DATA;DIMENSIONS NTAX=1 NCHAR=1;CHARSTATELABELS 1 eye;STATELABELS 1 x;MATRIX a 0;END;")
    ≡ answered 1 (bytes "datatype=STANDARD\ntaxa=1\ncharacters=1\nsymbols=01\nname=a\ncells=0\ncharacter=1\nlabel=eye\norder=UNORD\nstates=1\nstate=x\n")
unfolding read answered
c8 = refl

-- Labels are judged with the final symbols: three for three.
c9 :
    read 130 (bytes "#NEXUS BEGIN DATA;DIMENSIONS NTAX=1 NCHAR=1;STATELABELS 1 x y z;FORMAT SYMBOLS=\"012\";MATRIX a 0;END;")
    ≡ answered 1 (bytes "datatype=STANDARD\ntaxa=1\ncharacters=1\nsymbols=012\nname=a\ncells=0\ncharacter=1\nlabel=\norder=UNORD\nstates=3\nstate=x\nstate=y\nstate=z\n")
unfolding read answered
c9 = refl

-- `1 /` gives no states, and the number is a quoted one.
c10 :
    read 105 (bytes "#NEXUS BEGIN DATA;DIMENSIONS NTAX=1 NCHAR=1;CHARSTATELABELS '+01'/;MATRIX a 0;END;")
    ≡ answered 1 (bytes "datatype=STANDARD\ntaxa=1\ncharacters=1\nsymbols=01\nname=a\ncells=0\ncharacter=1\nlabel=\norder=UNORD\nstates=0\n")
unfolding read answered
c10 = refl

-- A label that is one blank: `_`.
c11 :
    read 106 (bytes "#NEXUS BEGIN DATA;DIMENSIONS NTAX=1 NCHAR=1;CHARLABELS _;MATRIX a 0;END;")
    ≡ answered 1 (bytes "datatype=STANDARD\ntaxa=1\ncharacters=1\nsymbols=01\nname=a\ncells=0\ncharacter=1\nlabel= \norder=UNORD\nstates=0\n")
unfolding read answered
c11 = refl

-- Four state labels for DNA.
c12 :
    read 134 (bytes "#NEXUS BEGIN DATA;DIMENSIONS NTAX=1 NCHAR=1;FORMAT DATATYPE=DNA;STATELABELS \"1\" A C G T;MATRIX a c;END;BEGIN TREES;MATRIX a 0;END;")
    ≡ answered 1 (bytes "datatype=DNA\ntaxa=1\ncharacters=1\nsymbols=ACGT\nname=a\ncells=1\ncharacter=1\nlabel=\norder=UNORD\nstates=4\nstate=A\nstate=C\nstate=G\nstate=T\n")
unfolding read answered
c12 = refl

-- CHARLABELS too few are 16 at the command.
c13 :
    read 2 (bytes "#NEXUS BEGIN DATA;DIMENSIONS NTAX=1 NCHAR=2;CHARLABELS x;MATRIX a 01;END;")
    ≡ refused 16 1 45 2
unfolding read refused
c13 = refl

-- Commas count as labels in CHARLABELS.
c14 :
    read 2 (bytes "#NEXUS BEGIN DATA;DIMENSIONS NTAX=1 NCHAR=2;CHARLABELS x,y;MATRIX a 01;END;")
    ≡ refused 16 1 45 2
unfolding read refused
c14 = refl

-- A token that is no name in CHARLABELS is 17.
c15 :
    read 2 (bytes "#NEXUS BEGIN DATA;DIMENSIONS NTAX=1 NCHAR=2;CHARLABELS x ,;MATRIX a 01;END;")
    ≡ refused 17 1 58 2
unfolding read refused
c15 = refl

-- A label that a CHARSTATELABELS gave already is 26 at the token, before 17.
c16 :
    read 2 (bytes "#NEXUS BEGIN DATA;DIMENSIONS NTAX=1 NCHAR=1;CHARSTATELABELS 1 x;CHARLABELS \"y\";MATRIX a 0;END;")
    ≡ refused 26 1 76 2
unfolding read refused
c16 = refl

-- An empty CHARSTATELABELS is 26 at the command.
c17 :
    read 2 (bytes "#NEXUS BEGIN DATA;DIMENSIONS NTAX=1 NCHAR=1;CHARSTATELABELS;MATRIX a 0;END;")
    ≡ refused 26 1 45 2
unfolding read refused
c17 = refl

-- An empty entry is 26 at the command, not at the comma.
c18 :
    read 2 (bytes "#NEXUS BEGIN DATA;DIMENSIONS NTAX=1 NCHAR=1;STATELABELS 1 x,,;MATRIX a 0;END;")
    ≡ refused 26 1 45 2
unfolding read refused
c18 = refl

-- A comma alone is one empty entry.
c19 :
    read 2 (bytes "#NEXUS BEGIN DATA;DIMENSIONS NTAX=1 NCHAR=1;STATELABELS ,;MATRIX a 0;END;")
    ≡ refused 26 1 45 2
unfolding read refused
c19 = refl

-- Number 0 is 26 at it.
c20 :
    read 2 (bytes "#NEXUS BEGIN DATA;DIMENSIONS NTAX=1 NCHAR=1;CHARSTATELABELS 0 x;MATRIX a 0;END;")
    ≡ refused 26 1 61 2
unfolding read refused
c20 = refl

-- A number above NCHAR is 26 at it.
c21 :
    read 2 (bytes "#NEXUS BEGIN DATA;DIMENSIONS NTAX=1 NCHAR=2;STATELABELS 3 x;MATRIX a 01;END;")
    ≡ refused 26 1 57 2
unfolding read refused
c21 = refl

-- A word for the number is 26.
c22 :
    read 2 (bytes "#NEXUS BEGIN DATA;DIMENSIONS NTAX=1 NCHAR=2;STATELABELS x y;MATRIX a 01;END;")
    ≡ refused 26 1 57 2
unfolding read refused
c22 = refl

-- A label given twice is 26 at the number, before the label is judged.
c23 :
    read 2 (bytes "#NEXUS BEGIN DATA;DIMENSIONS NTAX=1 NCHAR=1;CHARSTATELABELS 1 x,1 \"y\";MATRIX a 0;END;")
    ≡ refused 26 1 65 2
unfolding read refused
c23 = refl

-- A label that is no name is 17 at it.
c24 :
    read 2 (bytes "#NEXUS BEGIN DATA;DIMENSIONS NTAX=1 NCHAR=1;CHARSTATELABELS 1 \"x\";MATRIX a 0;END;")
    ≡ refused 17 1 63 2
unfolding read refused
c24 = refl

-- Another token in the place of `/` is 26 at it.
c25 :
    read 2 (bytes "#NEXUS BEGIN DATA;DIMENSIONS NTAX=1 NCHAR=1;CHARSTATELABELS 1 x y;MATRIX a 0;END;")
    ≡ refused 26 1 65 2
unfolding read refused
c25 = refl

-- A quoted `/` is no `/`.
c26 :
    read 2 (bytes "#NEXUS BEGIN DATA;DIMENSIONS NTAX=1 NCHAR=1;CHARSTATELABELS 1 x '/' y;MATRIX a 0;END;")
    ≡ refused 26 1 65 2
unfolding read refused
c26 = refl

-- States given twice are 26 at the number, before a state label is judged.
c27 :
    read 2 (bytes "#NEXUS BEGIN DATA;DIMENSIONS NTAX=1 NCHAR=1;STATELABELS 1 x,1 \"y\";MATRIX a 0;END;")
    ≡ refused 26 1 61 2
unfolding read refused
c27 = refl

-- `1 /` marks the states as given.
c28 :
    read 2 (bytes "#NEXUS BEGIN DATA;DIMENSIONS NTAX=1 NCHAR=1;CHARSTATELABELS 1/,1/x;MATRIX a 0;END;")
    ≡ refused 26 1 64 2
unfolding read refused
c28 = refl

-- A state label that is no name is 17 at it.
c29 :
    read 2 (bytes "#NEXUS BEGIN DATA;DIMENSIONS NTAX=1 NCHAR=1;CHARSTATELABELS 1 x/y =;MATRIX a 0;END;")
    ≡ refused 17 1 67 2
unfolding read refused
c29 = refl

-- STATELABELS has no `/`: 17 at it.
c30 :
    read 2 (bytes "#NEXUS BEGIN DATA;DIMENSIONS NTAX=1 NCHAR=1;STATELABELS 1/x;MATRIX a 0;END;")
    ≡ refused 17 1 58 2
unfolding read refused
c30 = refl

-- More state labels than symbols are 26 at the number.
c31 :
    read 2 (bytes "#NEXUS BEGIN DATA;DIMENSIONS NTAX=1 NCHAR=1;CHARSTATELABELS 1 e/x y z;MATRIX a 0;END;")
    ≡ refused 26 1 61 2
unfolding read refused
c31 = refl

-- 17 at a state label comes before too many.
c32 :
    read 2 (bytes "#NEXUS BEGIN DATA;DIMENSIONS NTAX=1 NCHAR=1;STATELABELS 1 x y z ];MATRIX a 0;END;")
    ≡ refused 17 1 65 2
unfolding read refused
c32 = refl

-- Commands are judged in their order, not entry by entry.
c33 :
    read 2 (bytes "#NEXUS BEGIN DATA;DIMENSIONS NTAX=1 NCHAR=1;STATELABELS 2 x;CHARLABELS;MATRIX a 0;END;")
    ≡ refused 26 1 57 2
unfolding read refused
c33 = refl

-- Labels are judged behind the rows.
c34 :
    read 2 (bytes "#NEXUS BEGIN DATA;DIMENSIONS NTAX=1 NCHAR=1;CHARLABELS;MATRIX a 2;END;")
    ≡ refused 22 1 65 2
unfolding read refused
c34 = refl

-- States first, then the label of the same character.
c35 :
    read 124 (bytes "#NEXUS BEGIN DATA;DIMENSIONS NTAX=1 NCHAR=1;CHARSTATELABELS 1/x y,1 eye;MATRIX a 0;END;")
    ≡ answered 1 (bytes "datatype=STANDARD\ntaxa=1\ncharacters=1\nsymbols=01\nname=a\ncells=0\ncharacter=1\nlabel=eye\norder=UNORD\nstates=2\nstate=x\nstate=y\n")
unfolding read answered
c35 = refl

-- Sequential rows and their cells.
-- Made from host/definitions/chosen/07-rows.txt, with the Rust's answers.
use Rattle.std.specs.Prelude.{◌∷◌, ◌++◌, ◌≡◌, refl}
use Rattle.lexer.specs.Base.{bytes}
use Rattle.vectors.specs.Asked.{read, answered, refused}

-- A row breaks anywhere.
c1 :
    read 208 (bytes "#NEXUS BEGIN DATA;DIMENSIONS NTAX=2 NCHAR=3;MATRIX a 0\n1\n\n0 b\n01 [x]0;END;")
    ≡ answered 1 (bytes "datatype=STANDARD\ntaxa=2\ncharacters=3\nsymbols=01\nname=a\ncells=0 1 0\nname=b\ncells=0 1 0\ncharacter=1\nlabel=\norder=UNORD\nstates=0\ncharacter=2\nlabel=\norder=UNORD\nstates=0\ncharacter=3\nlabel=\norder=UNORD\nstates=0\n")
unfolding read answered
c1 = refl

-- Sets uncertain and polymorphic, of one state or more; `{0}` is u0 and (1) is p1.
c2 :
    read 152 (bytes "#NEXUS BEGIN DATA;DIMENSIONS NTAX=1 NCHAR=2;FORMAT SYMBOLS=\"012\" GAP=-;MATRIX a {0}(12);END;")
    ≡ answered 1 (bytes "datatype=STANDARD\ntaxa=1\ncharacters=2\nsymbols=012\nname=a\ncells=u0 p1.2\ncharacter=1\nlabel=\norder=UNORD\nstates=0\ncharacter=2\nlabel=\norder=UNORD\nstates=0\n")
unfolding read answered
c2 = refl

-- Indices rise whatever the order, and repeated states are one.
c3 :
    read 154 (bytes "#NEXUS BEGIN DATA;DIMENSIONS NTAX=1 NCHAR=2;FORMAT SYMBOLS=\"012\" GAP=-;MATRIX a {2 0 1[x]0}(2\n2);END;")
    ≡ answered 1 (bytes "datatype=STANDARD\ntaxa=1\ncharacters=2\nsymbols=012\nname=a\ncells=u0.1.2 p2\ncharacter=1\nlabel=\norder=UNORD\nstates=0\ncharacter=2\nlabel=\norder=UNORD\nstates=0\n")
unfolding read answered
c3 = refl

-- A word of cells before and behind a set.
c4 :
    read 212 (bytes "#NEXUS BEGIN DATA;DIMENSIONS NTAX=2 NCHAR=3;MATRIX a 0{01}? b ?(1)1;END;")
    ≡ answered 1 (bytes "datatype=STANDARD\ntaxa=2\ncharacters=3\nsymbols=01\nname=a\ncells=0 u0.1 m\nname=b\ncells=m p1 1\ncharacter=1\nlabel=\norder=UNORD\nstates=0\ncharacter=2\nlabel=\norder=UNORD\nstates=0\ncharacter=3\nlabel=\norder=UNORD\nstates=0\n")
unfolding read answered
c4 = refl

-- Missing and gap.
c5 :
    read 148 (bytes "#NEXUS BEGIN DATA;DIMENSIONS NTAX=1 NCHAR=2;FORMAT SYMBOLS=\"012\" GAP=-;MATRIX a ?-;END;")
    ≡ answered 1 (bytes "datatype=STANDARD\ntaxa=1\ncharacters=2\nsymbols=012\nname=a\ncells=m g\ncharacter=1\nlabel=\norder=UNORD\nstates=0\ncharacter=2\nlabel=\norder=UNORD\nstates=0\n")
unfolding read answered
c5 = refl

-- Data after the last row is 16 at it.
c6 :
    read 2 (bytes "#NEXUS BEGIN DATA;DIMENSIONS NTAX=2 NCHAR=3;MATRIX a 010 b 010 1;END;")
    ≡ refused 16 1 64 2
unfolding read refused
c6 = refl

-- Data after the last row is 16 whatever it is.
c7 :
    read 2 (bytes "#NEXUS BEGIN DATA;DIMENSIONS NTAX=2 NCHAR=3;MATRIX a 010 b 010 ];END;")
    ≡ refused 16 1 64 2
unfolding read refused
c7 = refl

-- A cell too many in an earlier row is a taxon: 1 is its name.
c8 :
    read 208 (bytes "#NEXUS BEGIN DATA;DIMENSIONS NTAX=2 NCHAR=3;MATRIX a 010 1 010;END;")
    ≡ answered 1 (bytes "datatype=STANDARD\ntaxa=2\ncharacters=3\nsymbols=01\nname=a\ncells=0 1 0\nname=1\ncells=0 1 0\ncharacter=1\nlabel=\norder=UNORD\nstates=0\ncharacter=2\nlabel=\norder=UNORD\nstates=0\ncharacter=3\nlabel=\norder=UNORD\nstates=0\n")
unfolding read answered
c8 = refl

-- Rows too few are 16 at MATRIX.
c9 :
    read 2 (bytes "#NEXUS BEGIN DATA;DIMENSIONS NTAX=2 NCHAR=3;MATRIX a 010;END;")
    ≡ refused 16 1 45 2
unfolding read refused
c9 = refl

-- No row at all is 16 at MATRIX.
c10 :
    read 2 (bytes "#NEXUS BEGIN DATA;DIMENSIONS NTAX=2 NCHAR=3;MATRIX  ;END;")
    ≡ refused 16 1 45 2
unfolding read refused
c10 = refl

-- A row that begins with no name is 17.
c11 :
    read 2 (bytes "#NEXUS BEGIN DATA;DIMENSIONS NTAX=2 NCHAR=3;MATRIX a 010 \"b\" 010;END;")
    ≡ refused 17 1 58 2
unfolding read refused
c11 = refl

-- A name twice is 18 at the later.
c12 :
    read 2 (bytes "#NEXUS BEGIN DATA;DIMENSIONS NTAX=2 NCHAR=3;MATRIX 'x y' 010 X_Y 0;END;")
    ≡ refused 18 1 62 2
unfolding read refused
c12 = refl

-- A name twice, where the first is another.
c13 :
    read 2 (bytes "#NEXUS BEGIN DATA;DIMENSIONS NTAX=3 NCHAR=1;MATRIX a 0 b 0 B 0;END;")
    ≡ refused 18 1 60 2
unfolding read refused
c13 = refl

-- A row that the end cuts off is 24 at its name.
c14 :
    read 2 (bytes "#NEXUS BEGIN DATA;DIMENSIONS NTAX=2 NCHAR=3;MATRIX a 010 b 01;END;")
    ≡ refused 24 1 58 2
unfolding read refused
c14 = refl

-- A row without cells is 24 at its name.
c15 :
    read 2 (bytes "#NEXUS BEGIN DATA;DIMENSIONS NTAX=2 NCHAR=3;MATRIX a 010 b;END;")
    ≡ refused 24 1 58 2
unfolding read refused
c15 = refl

-- A short row takes the next name for cells: 22 there.
c16 :
    read 2 (bytes "#NEXUS BEGIN DATA;DIMENSIONS NTAX=2 NCHAR=3;MATRIX a 01 b 010;END;")
    ≡ refused 22 1 57 2
unfolding read refused
c16 = refl

-- A word too long is 24 at the word.
c17 :
    read 2 (bytes "#NEXUS BEGIN DATA;DIMENSIONS NTAX=2 NCHAR=3;MATRIX a 0 101 b 010;END;")
    ≡ refused 24 1 56 2
unfolding read refused
c17 = refl

-- A word too long is judged whole first: 22 at the word's start.
c18 :
    read 2 (bytes "#NEXUS BEGIN DATA;DIMENSIONS NTAX=2 NCHAR=3;MATRIX a 0 1012;END;")
    ≡ refused 22 1 56 2
unfolding read refused
c18 = refl

-- An undeclared symbol is 22 at the word that holds it.
c19 :
    read 2 (bytes "#NEXUS BEGIN DATA;DIMENSIONS NTAX=1 NCHAR=2;FORMAT SYMBOLS=\"012\" GAP=-;MATRIX a 0x;END;")
    ≡ refused 22 1 81 2
unfolding read refused
c19 = refl

-- `-` is no cell where no gap is declared.
c20 :
    read 2 (bytes "#NEXUS BEGIN DATA;DIMENSIONS NTAX=2 NCHAR=3;MATRIX a 0-0 b 010;END;")
    ≡ refused 22 1 54 2
unfolding read refused
c20 = refl

-- Quoted cells are 22.
c21 :
    read 2 (bytes "#NEXUS BEGIN DATA;DIMENSIONS NTAX=1 NCHAR=2;FORMAT SYMBOLS=\"012\" GAP=-;MATRIX a '01';END;")
    ≡ refused 22 1 81 2
unfolding read refused
c21 = refl

-- Double-quoted cells are 22.
c22 :
    read 2 (bytes "#NEXUS BEGIN DATA;DIMENSIONS NTAX=1 NCHAR=2;FORMAT SYMBOLS=\"012\" GAP=-;MATRIX a \"01\";END;")
    ≡ refused 22 1 81 2
unfolding read refused
c22 = refl

-- A comma between cells is 22.
c23 :
    read 2 (bytes "#NEXUS BEGIN DATA;DIMENSIONS NTAX=1 NCHAR=2;FORMAT SYMBOLS=\"012\" GAP=-;MATRIX a 0,1;END;")
    ≡ refused 22 1 82 2
unfolding read refused
c23 = refl

-- A closing bracket alone is 22.
c24 :
    read 2 (bytes "#NEXUS BEGIN DATA;DIMENSIONS NTAX=1 NCHAR=2;FORMAT SYMBOLS=\"012\" GAP=-;MATRIX a 0};END;")
    ≡ refused 22 1 82 2
unfolding read refused
c24 = refl

-- `+` that is not declared is 22 at the mark.
c25 :
    read 2 (bytes "#NEXUS BEGIN DATA;DIMENSIONS NTAX=1 NCHAR=2;FORMAT SYMBOLS=\"012\" GAP=-;MATRIX a 0+;END;")
    ≡ refused 22 1 82 2
unfolding read refused
c25 = refl

-- A character beyond ASCII is 22.
c26 :
    read 2 (bytes "#NEXUS BEGIN DATA;DIMENSIONS NTAX=1 NCHAR=2;FORMAT SYMBOLS=\"012\" GAP=-;MATRIX a 0" ++ (195 ∷ 169 ∷ bytes ";END;"))
    ≡ refused 22 1 81 2
unfolding read refused
c26 = refl

-- An open set is 23 at its bracket, not 24 at the row's name.
c27 :
    read 2 (bytes "#NEXUS BEGIN DATA;DIMENSIONS NTAX=1 NCHAR=2;FORMAT SYMBOLS=\"012\" GAP=-;MATRIX a 0{01;END;")
    ≡ refused 23 1 82 2
unfolding read refused
c27 = refl

-- An open set takes in the next row's name: 22 there.
c28 :
    read 2 (bytes "#NEXUS BEGIN DATA;DIMENSIONS NTAX=2 NCHAR=3;MATRIX a 01{0 b 010;END;")
    ≡ refused 22 1 59 2
unfolding read refused
c28 = refl

-- An empty set is 23 at its bracket.
c29 :
    read 2 (bytes "#NEXUS BEGIN DATA;DIMENSIONS NTAX=1 NCHAR=2;FORMAT SYMBOLS=\"012\" GAP=-;MATRIX a 0{};END;")
    ≡ refused 23 1 82 2
unfolding read refused
c29 = refl

-- An empty set in parentheses.
c30 :
    read 2 (bytes "#NEXUS BEGIN DATA;DIMENSIONS NTAX=1 NCHAR=2;FORMAT SYMBOLS=\"012\" GAP=-;MATRIX a 0( );END;")
    ≡ refused 23 1 82 2
unfolding read refused
c30 = refl

-- The other closer in a set is 22 at it.
c31 :
    read 2 (bytes "#NEXUS BEGIN DATA;DIMENSIONS NTAX=1 NCHAR=2;FORMAT SYMBOLS=\"012\" GAP=-;MATRIX a 0{1);END;")
    ≡ refused 22 1 84 2
unfolding read refused
c31 = refl

-- An opener in a set is 22 at it.
c32 :
    read 2 (bytes "#NEXUS BEGIN DATA;DIMENSIONS NTAX=1 NCHAR=2;FORMAT SYMBOLS=\"012\" GAP=-;MATRIX a 0(1(;END;")
    ≡ refused 22 1 84 2
unfolding read refused
c32 = refl

-- A comma in a set is 22.
c33 :
    read 2 (bytes "#NEXUS BEGIN DATA;DIMENSIONS NTAX=1 NCHAR=2;FORMAT SYMBOLS=\"012\" GAP=-;MATRIX a 0{0,1};END;")
    ≡ refused 22 1 84 2
unfolding read refused
c33 = refl

-- A quoted state in a set is 22.
c34 :
    read 2 (bytes "#NEXUS BEGIN DATA;DIMENSIONS NTAX=1 NCHAR=2;FORMAT SYMBOLS=\"012\" GAP=-;MATRIX a 0{'1'};END;")
    ≡ refused 22 1 83 2
unfolding read refused
c34 = refl

-- Missing in a set is 23 at the word in the set.
c35 :
    read 2 (bytes "#NEXUS BEGIN DATA;DIMENSIONS NTAX=1 NCHAR=2;FORMAT SYMBOLS=\"012\" GAP=-;MATRIX a 0{1 ?};END;")
    ≡ refused 23 1 85 2
unfolding read refused
c35 = refl

-- A gap in a set is 23.
c36 :
    read 2 (bytes "#NEXUS BEGIN DATA;DIMENSIONS NTAX=1 NCHAR=2;FORMAT SYMBOLS=\"012\" GAP=-;MATRIX a 0(-);END;")
    ≡ refused 23 1 83 2
unfolding read refused
c36 = refl

-- In one word an undeclared symbol wins over an earlier missing one.
c37 :
    read 2 (bytes "#NEXUS BEGIN DATA;DIMENSIONS NTAX=1 NCHAR=2;FORMAT SYMBOLS=\"012\" GAP=-;MATRIX a 0{?x};END;")
    ≡ refused 22 1 83 2
unfolding read refused
c37 = refl

-- In two words the first fault counts.
c38 :
    read 2 (bytes "#NEXUS BEGIN DATA;DIMENSIONS NTAX=1 NCHAR=2;FORMAT SYMBOLS=\"012\" GAP=-;MATRIX a 0{? x};END;")
    ≡ refused 23 1 83 2
unfolding read refused
c38 = refl

-- A set behind the last row is 16 at its bracket.
c39 :
    read 2 (bytes "#NEXUS BEGIN DATA;DIMENSIONS NTAX=1 NCHAR=2;FORMAT SYMBOLS=\"012\" GAP=-;MATRIX a 01 {0};END;")
    ≡ refused 16 1 84 2
unfolding read refused
c39 = refl

-- A row is full with a set too: the next token is 16.
c40 :
    read 2 (bytes "#NEXUS BEGIN DATA;DIMENSIONS NTAX=1 NCHAR=2;FORMAT SYMBOLS=\"012\" GAP=-;MATRIX a 0{1}2;END;")
    ≡ refused 16 1 85 2
unfolding read refused
c40 = refl

-- DIMENSIONS, and which taxa the record has, in which order.
-- Made from host/definitions/chosen/05-dimensions-and-taxa.txt, with the Rust's answers.
use Rattle.std.specs.Prelude.{◌∷◌, ◌++◌, ◌≡◌, refl}
use Rattle.lexer.specs.Base.{bytes}
use Rattle.vectors.specs.Asked.{read, answered, refused}

-- Options in any order; leading zeros.
c1 :
    read 105 (bytes "#NEXUS BEGIN DATA;DIMENSIONS NCHAR=001 ntax = 1;MATRIX a 0;END;")
    ≡ answered 1 (bytes "datatype=STANDARD\ntaxa=1\ncharacters=1\nsymbols=01\nname=a\ncells=0\ncharacter=1\nlabel=\norder=UNORD\nstates=0\n")
unfolding read answered
c1 = refl

-- A quoted number, with a sign: '+1' and "1".
c2 :
    read 105 (bytes "#NEXUS BEGIN DATA;DIMENSIONS NTAX='+1' NCHAR=\"1\";MATRIX a 0;END;")
    ≡ answered 1 (bytes "datatype=STANDARD\ntaxa=1\ncharacters=1\nsymbols=01\nname=a\ncells=0\ncharacter=1\nlabel=\norder=UNORD\nstates=0\n")
unfolding read answered
c2 = refl

-- NEWTAXA without names changes nothing.
c3 :
    read 105 (bytes "#NEXUS BEGIN DATA;DIMENSIONS NEWTAXA NTAX=1 NCHAR=1;MATRIX a 0;END;")
    ≡ answered 1 (bytes "datatype=STANDARD\ntaxa=1\ncharacters=1\nsymbols=01\nname=a\ncells=0\ncharacter=1\nlabel=\norder=UNORD\nstates=0\n")
unfolding read answered
c3 = refl

-- NEWTAXA with names adds none, and NTAX must equal their count.
c4 :
    read 105 (bytes "#NEXUS BEGIN TAXA;DIMENSIONS NTAX=1;TAXLABELS a;END;BEGIN DATA;DIMENSIONS NEWTAXA NTAX=1 NCHAR=1;MATRIX a 0;END;")
    ≡ answered 1 (bytes "datatype=STANDARD\ntaxa=1\ncharacters=1\nsymbols=01\nname=a\ncells=0\ncharacter=1\nlabel=\norder=UNORD\nstates=0\n")
unfolding read answered
c4 = refl

-- NEWTAXA with names and another NTAX is 16.
c5 :
    read 2 (bytes "#NEXUS BEGIN TAXA;DIMENSIONS NTAX=1;TAXLABELS a;END;BEGIN DATA;DIMENSIONS NEWTAXA NTAX=2 NCHAR=1;MATRIX a 0 b 0;END;")
    ≡ refused 16 1 98 2
unfolding read refused
c5 = refl

-- The least text with 2^64 - 1 characters: the row is short, 24 at its name.
c6 :
    read 2 (bytes "#NEXUS BEGIN DATA;DIMENSIONS NTAX=1 NCHAR=18446744073709551615;MATRIX a 0;END;")
    ≡ refused 24 1 71 2
unfolding read refused
c6 = refl

-- 2^64 is 15 at the value.
c7 :
    read 2 (bytes "#NEXUS BEGIN DATA;DIMENSIONS NTAX=18446744073709551616 NCHAR=1;MATRIX a 0;END;")
    ≡ refused 15 1 35 2
unfolding read refused
c7 = refl

-- NTAX=0 is 15 at the value.
c8 :
    read 2 (bytes "#NEXUS BEGIN DATA;DIMENSIONS NCHAR=1 NTAX=0;MATRIX a 0;END;")
    ≡ refused 15 1 43 2
unfolding read refused
c8 = refl

-- A bare +1 is 15 at the mark.
c9 :
    read 2 (bytes "#NEXUS BEGIN DATA;DIMENSIONS NTAX=+1 NCHAR=1;MATRIX a 0;END;")
    ≡ refused 15 1 35 2
unfolding read refused
c9 = refl

-- A blank inside quotes, a sign alone and the empty text are no numbers.
c10 :
    read 2 (bytes "#NEXUS BEGIN DATA;DIMENSIONS NTAX=' 1';MATRIX a 0;END;")
    ≡ refused 15 1 35 2
unfolding read refused
c10 = refl

-- A sign alone.
c11 :
    read 2 (bytes "#NEXUS BEGIN DATA;DIMENSIONS NTAX='+';MATRIX a 0;END;")
    ≡ refused 15 1 35 2
unfolding read refused
c11 = refl

-- The empty text.
c12 :
    read 2 (bytes "#NEXUS BEGIN DATA;DIMENSIONS NTAX='';MATRIX a 0;END;")
    ≡ refused 15 1 35 2
unfolding read refused
c12 = refl

-- `:` stands behind 9 in ASCII, and is no digit.
c13 :
    read 2 (bytes "#NEXUS BEGIN DATA;DIMENSIONS NTAX='1:';MATRIX a 0;END;")
    ≡ refused 15 1 35 2
unfolding read refused
c13 = refl

-- `/` stands before 0.
c14 :
    read 2 (bytes "#NEXUS BEGIN DATA;DIMENSIONS NTAX='1/';MATRIX a 0;END;")
    ≡ refused 15 1 35 2
unfolding read refused
c14 = refl

-- Two signs are none either.
c15 :
    read 2 (bytes "#NEXUS BEGIN DATA;DIMENSIONS NTAX='++1';MATRIX a 0;END;")
    ≡ refused 15 1 35 2
unfolding read refused
c15 = refl

-- Digits beyond ASCII are no digits.
c16 :
    read 2 (bytes "#NEXUS BEGIN DATA;DIMENSIONS NTAX=" ++ (217 ∷ 161 ∷ bytes ";MATRIX a 0;END;"))
    ≡ refused 15 1 35 2
unfolding read refused
c16 = refl

-- `-1` is a word, and no number.
c17 :
    read 2 (bytes "#NEXUS BEGIN DATA;DIMENSIONS NTAX=-1;MATRIX a 0;END;")
    ≡ refused 15 1 35 2
unfolding read refused
c17 = refl

-- An unknown option is 15 at it, before its `=`.
c18 :
    read 2 (bytes "#NEXUS BEGIN DATA;DIMENSIONS NTAX=1 N;MATRIX a 0;END;")
    ≡ refused 15 1 37 2
unfolding read refused
c18 = refl

-- A quoted option is unknown.
c19 :
    read 2 (bytes "#NEXUS BEGIN DATA;DIMENSIONS 'NTAX'=1;MATRIX a 0;END;")
    ≡ refused 15 1 30 2
unfolding read refused
c19 = refl

-- An option twice is 15 at the second, before its `=` is looked for.
c20 :
    read 2 (bytes "#NEXUS BEGIN DATA;DIMENSIONS NTAX=1 NTAX;MATRIX a 0;END;")
    ≡ refused 15 1 37 2
unfolding read refused
c20 = refl

-- NCHAR twice.
c21 :
    read 2 (bytes "#NEXUS BEGIN DATA;DIMENSIONS NCHAR=1 NCHAR=1;MATRIX a 0;END;")
    ≡ refused 15 1 38 2
unfolding read refused
c21 = refl

-- NEWTAXA twice is 15.
c22 :
    read 2 (bytes "#NEXUS BEGIN DATA;DIMENSIONS NEWTAXA NEWTAXA;MATRIX a 0;END;")
    ≡ refused 15 1 38 2
unfolding read refused
c22 = refl

-- NEWTAXA takes no value: 15 at the `=`.
c23 :
    read 2 (bytes "#NEXUS BEGIN DATA;DIMENSIONS NEWTAXA=1;MATRIX a 0;END;")
    ≡ refused 15 1 37 2
unfolding read refused
c23 = refl

-- An absent `=` is 19 at the option.
c24 :
    read 2 (bytes "#NEXUS BEGIN DATA;DIMENSIONS NCHAR=1 NTAX 1;MATRIX a 0;END;")
    ≡ refused 19 1 38 2
unfolding read refused
c24 = refl

-- An absent value is 19 at the option.
c25 :
    read 2 (bytes "#NEXUS BEGIN DATA;DIMENSIONS NCHAR=1 NTAX=;MATRIX a 0;END;")
    ≡ refused 19 1 38 2
unfolding read refused
c25 = refl

-- A quoted `=` is none.
c26 :
    read 2 (bytes "#NEXUS BEGIN DATA;DIMENSIONS NTAX '=' 1;MATRIX a 0;END;")
    ≡ refused 19 1 30 2
unfolding read refused
c26 = refl

-- An option at the very end is 19.
c27 :
    read 2 (bytes "#NEXUS BEGIN DATA;DIMENSIONS NTAX;MATRIX a 0;END;")
    ≡ refused 19 1 30 2
unfolding read refused
c27 = refl

-- Rows in declared order with the declared spelling, found ignoring ASCII case.
c28 :
    read 120 (bytes "#NEXUS BEGIN DATA;DIMENSIONS NTAX=2 NCHAR=1;TAXLABELS 'a' b;MATRIX b 1 A 0;END;")
    ≡ answered 1 (bytes "datatype=STANDARD\ntaxa=2\ncharacters=1\nsymbols=01\nname=a\ncells=0\nname=b\ncells=1\ncharacter=1\nlabel=\norder=UNORD\nstates=0\n")
unfolding read answered
c28 = refl

-- TAXLABELS alone gives NTAX.
c29 :
    read 120 (bytes "#NEXUS BEGIN DATA;TAXLABELS a B;DIMENSIONS NCHAR=1;MATRIX b 1 a 0;END;")
    ≡ answered 1 (bytes "datatype=STANDARD\ntaxa=2\ncharacters=1\nsymbols=01\nname=a\ncells=0\nname=B\ncells=1\ncharacter=1\nlabel=\norder=UNORD\nstates=0\n")
unfolding read answered
c29 = refl

-- The declared order of a TAXA block.
c30 :
    read 122 (bytes "#NEXUS BEGIN TAXA;DIMENSIONS NTAX=2;TAXLABELS x_y z;END;BEGIN DATA;DIMENSIONS NCHAR=1;MATRIX z 0 'X Y' 1;END;")
    ≡ answered 1 (bytes "datatype=STANDARD\ntaxa=2\ncharacters=1\nsymbols=01\nname=x y\ncells=1\nname=z\ncells=0\ncharacter=1\nlabel=\norder=UNORD\nstates=0\n")
unfolding read answered
c30 = refl

-- Without a declaration rows stand as they come.
c31 :
    read 135 (bytes "#NEXUS BEGIN DATA;DIMENSIONS NTAX=3 NCHAR=1;MATRIX c 1 a 0 b ?;END;")
    ≡ answered 1 (bytes "datatype=STANDARD\ntaxa=3\ncharacters=1\nsymbols=01\nname=c\ncells=1\nname=a\ncells=0\nname=b\ncells=m\ncharacter=1\nlabel=\norder=UNORD\nstates=0\n")
unfolding read answered
c31 = refl

-- A declared taxon without a row is 25 at MATRIX, before a wrong label command.
c32 :
    read 2 (bytes "#NEXUS BEGIN DATA;DIMENSIONS NTAX=1 NCHAR=1;TAXLABELS a;CHARLABELS;MATRIX b 0;END;")
    ≡ refused 25 1 68 2
unfolding read refused
c32 = refl

-- 25 stands behind every fault of the rows.
c33 :
    read 2 (bytes "#NEXUS BEGIN DATA;DIMENSIONS NTAX=2 NCHAR=1;TAXLABELS a c;MATRIX b 1 A 2;END;")
    ≡ refused 22 1 72 2
unfolding read refused
c33 = refl

-- Case is folded from A to Z.
c34 :
    read 2 (bytes "#NEXUS BEGIN DATA;DIMENSIONS NTAX=2 NCHAR=1;TAXLABELS azAZ AZaz;MATRIX b 1 A 0;END;")
    ≡ refused 18 1 60 2
unfolding read refused
c34 = refl

-- Case is folded in ASCII alone: é and É differ.
c35 :
    read 122 (bytes "#NEXUS BEGIN DATA;DIMENSIONS NTAX=2 NCHAR=1;MATRIX " ++ (195 ∷ 169 ∷ bytes " 0 " ++ (195 ∷ 137 ∷ bytes " 1;END;")))
    ≡ answered 1 (bytes "datatype=STANDARD\ntaxa=2\ncharacters=1\nsymbols=01\nname=" ++ (195 ∷ 169 ∷ bytes "\ncells=0\nname=" ++ (195 ∷ 137 ∷ bytes "\ncells=1\ncharacter=1\nlabel=\norder=UNORD\nstates=0\n")))
unfolding read answered
c35 = refl

-- K and the Kelvin sign differ.
c36 :
    read 122 (bytes "#NEXUS BEGIN DATA;DIMENSIONS NTAX=2 NCHAR=1;MATRIX k 0 " ++ (226 ∷ 132 ∷ 170 ∷ bytes " 1;END;"))
    ≡ answered 1 (bytes "datatype=STANDARD\ntaxa=2\ncharacters=1\nsymbols=01\nname=k\ncells=0\nname=" ++ (226 ∷ 132 ∷ 170 ∷ bytes "\ncells=1\ncharacter=1\nlabel=\norder=UNORD\nstates=0\n"))
unfolding read answered
c36 = refl

-- `@` and backquote, `[` and `{`, are not each other's capitals.
c37 :
    read 124 (bytes "#NEXUS BEGIN DATA;DIMENSIONS NTAX=2 NCHAR=1;MATRIX 'a@[' 0 'a`{' 1;END;")
    ≡ answered 1 (bytes "datatype=STANDARD\ntaxa=2\ncharacters=1\nsymbols=01\nname=a@[\ncells=0\nname=a`{\ncells=1\ncharacter=1\nlabel=\norder=UNORD\nstates=0\n")
unfolding read answered
c37 = refl

-- A name `_` is one blank.
c38 :
    read 105 (bytes "#NEXUS BEGIN DATA;DIMENSIONS NTAX=1 NCHAR=1;MATRIX _ 0;END;")
    ≡ answered 1 (bytes "datatype=STANDARD\ntaxa=1\ncharacters=1\nsymbols=01\nname= \ncells=0\ncharacter=1\nlabel=\norder=UNORD\nstates=0\n")
unfolding read answered
c38 = refl

-- A name of blanks with an underscore: two blanks.
c39 :
    read 106 (bytes "#NEXUS BEGIN DATA;DIMENSIONS NTAX=1 NCHAR=1;MATRIX '_ ' 0;END;")
    ≡ answered 1 (bytes "datatype=STANDARD\ntaxa=1\ncharacters=1\nsymbols=01\nname=  \ncells=0\ncharacter=1\nlabel=\norder=UNORD\nstates=0\n")
unfolding read answered
c39 = refl

-- `_` becomes a blank in quotes too.
c40 :
    read 107 (bytes "#NEXUS BEGIN DATA;DIMENSIONS NTAX=1 NCHAR=1;MATRIX 'a_b' 0;END;")
    ≡ answered 1 (bytes "datatype=STANDARD\ntaxa=1\ncharacters=1\nsymbols=01\nname=a b\ncells=0\ncharacter=1\nlabel=\norder=UNORD\nstates=0\n")
unfolding read answered
c40 = refl

-- A name of blanks is 17.
c41 :
    read 2 (bytes "#NEXUS BEGIN DATA;DIMENSIONS NTAX=1 NCHAR=1;MATRIX ' ' 0;END;")
    ≡ refused 17 1 52 2
unfolding read refused
c41 = refl

-- A name of LF and U+3000 is 17.
c42 :
    read 2 (bytes "#NEXUS BEGIN DATA;DIMENSIONS NTAX=1 NCHAR=1;MATRIX '\n" ++ (227 ∷ 128 ∷ 128 ∷ bytes "' 0;END;"))
    ≡ refused 17 1 52 2
unfolding read refused
c42 = refl

-- The empty name is 17.
c43 :
    read 2 (bytes "#NEXUS BEGIN DATA;DIMENSIONS NTAX=1 NCHAR=1;MATRIX '' 0;END;")
    ≡ refused 17 1 52 2
unfolding read refused
c43 = refl

-- U+0085 alone is 17.
c44 :
    read 2 (bytes "#NEXUS BEGIN DATA;DIMENSIONS NTAX=1 NCHAR=1;MATRIX '" ++ (194 ∷ 133 ∷ bytes "' 0;END;"))
    ≡ refused 17 1 52 2
unfolding read refused
c44 = refl

-- U+200B alone is a name.
c45 :
    read 107 (bytes "#NEXUS BEGIN DATA;DIMENSIONS NTAX=1 NCHAR=1;MATRIX '" ++ (226 ∷ 128 ∷ 139 ∷ bytes "' 0;END;"))
    ≡ answered 1 (bytes "datatype=STANDARD\ntaxa=1\ncharacters=1\nsymbols=01\nname=" ++ (226 ∷ 128 ∷ 139 ∷ bytes "\ncells=0\ncharacter=1\nlabel=\norder=UNORD\nstates=0\n"))
unfolding read answered
c45 = refl

-- A name may be a number, or a keyword.
c46 :
    read 122 (bytes "#NEXUS BEGIN DATA;DIMENSIONS NTAX=2 NCHAR=1;MATRIX END 0 0 1;END;")
    ≡ answered 1 (bytes "datatype=STANDARD\ntaxa=2\ncharacters=1\nsymbols=01\nname=END\ncells=0\nname=0\ncells=1\ncharacter=1\nlabel=\norder=UNORD\nstates=0\n")
unfolding read answered
c46 = refl

-- NEWTAXA last.
c47 :
    read 105 (bytes "#NEXUS BEGIN DATA;DIMENSIONS NTAX=1 NCHAR=1 NEWTAXA;MATRIX a 0;END;")
    ≡ answered 1 (bytes "datatype=STANDARD\ntaxa=1\ncharacters=1\nsymbols=01\nname=a\ncells=0\ncharacter=1\nlabel=\norder=UNORD\nstates=0\n")
unfolding read answered
c47 = refl

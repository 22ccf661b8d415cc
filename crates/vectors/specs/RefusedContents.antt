-- Records whose names, cells or characters no reading has: 31. Some that look so and are records stand beside them.
-- Made from host/definitions/chosen/15-refused-contents.txt, with the Rust's answers.
use Rattle.std.specs.Prelude.{◌∷◌, ◌++◌, ◌≡◌, refl}
use Rattle.lexer.specs.Base.{bytes}
use Rattle.vectors.specs.Asked.{write, answered, refused}

-- A backslash before another byte.
c1 :
    write 2 (bytes "datatype=STANDARD\ntaxa=1\ncharacters=1\nsymbols=01\nname=\\2\ncells=0\ncharacter=1\nlabel=\norder=UNORD\nstates=0\n")
    ≡ refused 31 0 0 2
unfolding write refused
c1 = refl

-- A backslash at the end.
c2 :
    write 2 (bytes "datatype=STANDARD\ntaxa=1\ncharacters=1\nsymbols=01\nname=a\\\ncells=0\ncharacter=1\nlabel=\norder=UNORD\nstates=0\n")
    ≡ refused 31 0 0 2
unfolding write refused
c2 = refl

-- A name that is not UTF-8.
c3 :
    write 2 (bytes "datatype=STANDARD\ntaxa=1\ncharacters=1\nsymbols=01\nname=" ++ (255 ∷ bytes "\ncells=0\ncharacter=1\nlabel=\norder=UNORD\nstates=0\n"))
    ≡ refused 31 0 0 2
unfolding write refused
c3 = refl

-- An escape between the two bytes of a character.
c4 :
    write 2 (bytes "datatype=STANDARD\ntaxa=1\ncharacters=1\nsymbols=01\nname=" ++ (195 ∷ bytes "\\0" ++ (169 ∷ bytes "\ncells=0\ncharacter=1\nlabel=\norder=UNORD\nstates=0\n")))
    ≡ refused 31 0 0 2
unfolding write refused
c4 = refl

-- `_` in a name.
c5 :
    write 2 (bytes "datatype=STANDARD\ntaxa=1\ncharacters=1\nsymbols=01\nname=a_b\ncells=0\ncharacter=1\nlabel=\norder=UNORD\nstates=0\n")
    ≡ refused 31 0 0 2
unfolding write refused
c5 = refl

-- CR in a name.
c6 :
    write 2 (bytes "datatype=STANDARD\ntaxa=1\ncharacters=1\nsymbols=01\nname=a\rb\ncells=0\ncharacter=1\nlabel=\norder=UNORD\nstates=0\n")
    ≡ refused 31 0 0 2
unfolding write refused
c6 = refl

-- The empty name.
c7 :
    write 2 (bytes "datatype=STANDARD\ntaxa=1\ncharacters=1\nsymbols=01\nname=\ncells=0\ncharacter=1\nlabel=\norder=UNORD\nstates=0\n")
    ≡ refused 31 0 0 2
unfolding write refused
c7 = refl

-- A name of U+00A0 alone.
c8 :
    write 2 (bytes "datatype=STANDARD\ntaxa=1\ncharacters=1\nsymbols=01\nname=" ++ (194 ∷ 160 ∷ bytes "\ncells=0\ncharacter=1\nlabel=\norder=UNORD\nstates=0\n"))
    ≡ refused 31 0 0 2
unfolding write refused
c8 = refl

-- A name of an escaped LF alone.
c9 :
    write 2 (bytes "datatype=STANDARD\ntaxa=1\ncharacters=1\nsymbols=01\nname=\\0\ncells=0\ncharacter=1\nlabel=\norder=UNORD\nstates=0\n")
    ≡ refused 31 0 0 2
unfolding write refused
c9 = refl

-- An escaped LF and a blank are a name.
c10 :
    write 129 (bytes "datatype=STANDARD\ntaxa=1\ncharacters=1\nsymbols=01\nname=\\0 \ncells=0\ncharacter=1\nlabel=\norder=UNORD\nstates=0\n")
    ≡ answered 1 (bytes "#NEXUS\nBEGIN DATA;\nDIMENSIONS NTAX=1 NCHAR=1;\nFORMAT DATATYPE=STANDARD RESPECTCASE MISSING=! SYMBOLS=\"01\";\nMATRIX\n'\n_' 0\n;\nEND;\n")
unfolding write answered
c10 = refl

-- `=` in a name is plain, and so are NUL and U+FEFF: a record.
c11 :
    write 133 (bytes "datatype=STANDARD\ntaxa=1\ncharacters=1\nsymbols=01\nname=a=" ++ (0 ∷ 239 ∷ 187 ∷ 191 ∷ bytes "\ncells=0\ncharacter=1\nlabel=\norder=UNORD\nstates=0\n"))
    ≡ answered 1 (bytes "#NEXUS\nBEGIN DATA;\nDIMENSIONS NTAX=1 NCHAR=1;\nFORMAT DATATYPE=STANDARD RESPECTCASE MISSING=! SYMBOLS=\"01\";\nMATRIX\n'a=" ++ (0 ∷ 239 ∷ 187 ∷ 191 ∷ bytes "' 0\n;\nEND;\n"))
unfolding write answered
c11 = refl

-- Names that differ beyond ASCII in case alone: a record.
c12 :
    write 138 (bytes "datatype=STANDARD\ntaxa=2\ncharacters=2\nsymbols=01\nname=" ++ (195 ∷ 169 ∷ bytes "\ncells=0 1\nname=" ++ (195 ∷ 137 ∷ bytes "\ncells=0 m\ncharacter=1\nlabel=\norder=UNORD\nstates=0\ncharacter=2\nlabel=\norder=UNORD\nstates=0\n")))
    ≡ answered 1 (bytes "#NEXUS\nBEGIN DATA;\nDIMENSIONS NTAX=2 NCHAR=2;\nFORMAT DATATYPE=STANDARD RESPECTCASE MISSING=! SYMBOLS=\"01\";\nMATRIX\n'" ++ (195 ∷ 169 ∷ bytes "' 01\n'" ++ (195 ∷ 137 ∷ bytes "' 0!\n;\nEND;\n")))
unfolding write answered
c12 = refl

-- Two names alike, ASCII case ignored.
c13 :
    write 2 (bytes "datatype=STANDARD\ntaxa=2\ncharacters=2\nsymbols=01\nname=a\ncells=0 1\nname=A\ncells=0 m\ncharacter=1\nlabel=\norder=UNORD\nstates=0\ncharacter=2\nlabel=\norder=UNORD\nstates=0\n")
    ≡ refused 31 0 0 2
unfolding write refused
c13 = refl

-- Two names alike, where the first is another.
c14 :
    write 2 (bytes "datatype=STANDARD\ntaxa=3\ncharacters=1\nsymbols=01\nname=a\ncells=0\nname=b\ncells=0\nname=B\ncells=0\ncharacter=1\nlabel=\norder=UNORD\nstates=0\n")
    ≡ refused 31 0 0 2
unfolding write refused
c14 = refl

-- A later name that is none.
c15 :
    write 2 (bytes "datatype=STANDARD\ntaxa=2\ncharacters=2\nsymbols=01\nname=a\ncells=0 1\nname=_\ncells=0 m\ncharacter=1\nlabel=\norder=UNORD\nstates=0\ncharacter=2\nlabel=\norder=UNORD\nstates=0\n")
    ≡ refused 31 0 0 2
unfolding write refused
c15 = refl

-- A label with `_`.
c16 :
    write 2 (bytes "datatype=STANDARD\ntaxa=1\ncharacters=1\nsymbols=01\nname=a\ncells=0\ncharacter=1\nlabel=_\norder=ORD\nstates=1\nstate=s\n")
    ≡ refused 31 0 0 2
unfolding write refused
c16 = refl

-- A label with a CR.
c17 :
    write 2 (bytes "datatype=STANDARD\ntaxa=1\ncharacters=1\nsymbols=01\nname=a\ncells=0\ncharacter=1\nlabel=l\r\norder=ORD\nstates=1\nstate=s\n")
    ≡ refused 31 0 0 2
unfolding write refused
c17 = refl

-- A label that is not UTF-8.
c18 :
    write 2 (bytes "datatype=STANDARD\ntaxa=1\ncharacters=1\nsymbols=01\nname=a\ncells=0\ncharacter=1\nlabel=" ++ (128 ∷ bytes "\norder=ORD\nstates=1\nstate=s\n"))
    ≡ refused 31 0 0 2
unfolding write refused
c18 = refl

-- A label of a tab alone.
c19 :
    write 2 (bytes "datatype=STANDARD\ntaxa=1\ncharacters=1\nsymbols=01\nname=a\ncells=0\ncharacter=1\nlabel=\t\norder=ORD\nstates=1\nstate=s\n")
    ≡ refused 31 0 0 2
unfolding write refused
c19 = refl

-- A label with a wrong escape.
c20 :
    write 2 (bytes "datatype=STANDARD\ntaxa=1\ncharacters=1\nsymbols=01\nname=a\ncells=0\ncharacter=1\nlabel=\\\norder=ORD\nstates=1\nstate=s\n")
    ≡ refused 31 0 0 2
unfolding write refused
c20 = refl

-- An empty state label.
c21 :
    write 2 (bytes "datatype=STANDARD\ntaxa=1\ncharacters=1\nsymbols=01\nname=a\ncells=0\ncharacter=1\nlabel=l\norder=ORD\nstates=1\nstate=\n")
    ≡ refused 31 0 0 2
unfolding write refused
c21 = refl

-- An empty state label behind a good one.
c22 :
    write 2 (bytes "datatype=STANDARD\ntaxa=1\ncharacters=1\nsymbols=01\nname=a\ncells=0\ncharacter=1\nlabel=l\norder=ORD\nstates=2\nstate=s\nstate=\n")
    ≡ refused 31 0 0 2
unfolding write refused
c22 = refl

-- A label with `_` on a later character.
c23 :
    write 2 (bytes "datatype=STANDARD\ntaxa=2\ncharacters=2\nsymbols=01\nname=a\ncells=0 1\nname=b\ncells=0 m\ncharacter=1\nlabel=\norder=UNORD\nstates=0\ncharacter=2\nlabel=_\norder=UNORD\nstates=0\n")
    ≡ refused 31 0 0 2
unfolding write refused
c23 = refl

-- A state label with a CR.
c24 :
    write 2 (bytes "datatype=STANDARD\ntaxa=1\ncharacters=1\nsymbols=01\nname=a\ncells=0\ncharacter=1\nlabel=l\norder=ORD\nstates=1\nstate=\r\n")
    ≡ refused 31 0 0 2
unfolding write refused
c24 = refl

-- A state label that is not UTF-8.
c25 :
    write 2 (bytes "datatype=STANDARD\ntaxa=1\ncharacters=1\nsymbols=01\nname=a\ncells=0\ncharacter=1\nlabel=l\norder=ORD\nstates=1\nstate=" ++ (226 ∷ 130 ∷ bytes "\n"))
    ≡ refused 31 0 0 2
unfolding write refused
c25 = refl

-- A cell too few.
c26 :
    write 2 (bytes "datatype=STANDARD\ntaxa=2\ncharacters=2\nsymbols=01\nname=a\ncells=0\nname=b\ncells=0 m\ncharacter=1\nlabel=\norder=UNORD\nstates=0\ncharacter=2\nlabel=\norder=UNORD\nstates=0\n")
    ≡ refused 31 0 0 2
unfolding write refused
c26 = refl

-- A cell too many.
c27 :
    write 2 (bytes "datatype=STANDARD\ntaxa=2\ncharacters=2\nsymbols=01\nname=a\ncells=0 1\nname=b\ncells=0 m m\ncharacter=1\nlabel=\norder=UNORD\nstates=0\ncharacter=2\nlabel=\norder=UNORD\nstates=0\n")
    ≡ refused 31 0 0 2
unfolding write refused
c27 = refl

-- No cell.
c28 :
    write 2 (bytes "datatype=STANDARD\ntaxa=1\ncharacters=1\nsymbols=01\nname=a\ncells=\ncharacter=1\nlabel=\norder=UNORD\nstates=0\n")
    ≡ refused 31 0 0 2
unfolding write refused
c28 = refl

-- Two blanks between cells.
c29 :
    write 2 (bytes "datatype=STANDARD\ntaxa=2\ncharacters=2\nsymbols=01\nname=a\ncells=0  1\nname=b\ncells=0 m\ncharacter=1\nlabel=\norder=UNORD\nstates=0\ncharacter=2\nlabel=\norder=UNORD\nstates=0\n")
    ≡ refused 31 0 0 2
unfolding write refused
c29 = refl

-- A blank at the end.
c30 :
    write 2 (bytes "datatype=STANDARD\ntaxa=2\ncharacters=2\nsymbols=01\nname=a\ncells=0 1 \nname=b\ncells=0 m\ncharacter=1\nlabel=\norder=UNORD\nstates=0\ncharacter=2\nlabel=\norder=UNORD\nstates=0\n")
    ≡ refused 31 0 0 2
unfolding write refused
c30 = refl

-- An index that is no state.
c31 :
    write 2 (bytes "datatype=STANDARD\ntaxa=1\ncharacters=1\nsymbols=01\nname=a\ncells=2\ncharacter=1\nlabel=\norder=UNORD\nstates=0\n")
    ≡ refused 31 0 0 2
unfolding write refused
c31 = refl

-- An index that is no state, in a later cell of a later row.
c32 :
    write 2 (bytes "datatype=STANDARD\ntaxa=2\ncharacters=2\nsymbols=01\nname=a\ncells=0 1\nname=b\ncells=0 2\ncharacter=1\nlabel=\norder=UNORD\nstates=0\ncharacter=2\nlabel=\norder=UNORD\nstates=0\n")
    ≡ refused 31 0 0 2
unfolding write refused
c32 = refl

-- An index in a set that is no state.
c33 :
    write 2 (bytes "datatype=STANDARD\ntaxa=1\ncharacters=1\nsymbols=01\nname=a\ncells=u0.2\ncharacter=1\nlabel=\norder=UNORD\nstates=0\n")
    ≡ refused 31 0 0 2
unfolding write refused
c33 = refl

-- A set that does not rise.
c34 :
    write 2 (bytes "datatype=STANDARD\ntaxa=1\ncharacters=1\nsymbols=01\nname=a\ncells=p1.0\ncharacter=1\nlabel=\norder=UNORD\nstates=0\n")
    ≡ refused 31 0 0 2
unfolding write refused
c34 = refl

-- A set with a state twice.
c35 :
    write 2 (bytes "datatype=STANDARD\ntaxa=1\ncharacters=1\nsymbols=01\nname=a\ncells=u1.1\ncharacter=1\nlabel=\norder=UNORD\nstates=0\n")
    ≡ refused 31 0 0 2
unfolding write refused
c35 = refl

-- An empty set.
c36 :
    write 2 (bytes "datatype=STANDARD\ntaxa=1\ncharacters=1\nsymbols=01\nname=a\ncells=u\ncharacter=1\nlabel=\norder=UNORD\nstates=0\n")
    ≡ refused 31 0 0 2
unfolding write refused
c36 = refl

-- A set with a dot at the end.
c37 :
    write 2 (bytes "datatype=STANDARD\ntaxa=1\ncharacters=1\nsymbols=01\nname=a\ncells=p0.\ncharacter=1\nlabel=\norder=UNORD\nstates=0\n")
    ≡ refused 31 0 0 2
unfolding write refused
c37 = refl

-- Another letter.
c38 :
    write 2 (bytes "datatype=STANDARD\ntaxa=1\ncharacters=1\nsymbols=01\nname=a\ncells=x\ncharacter=1\nlabel=\norder=UNORD\nstates=0\n")
    ≡ refused 31 0 0 2
unfolding write refused
c38 = refl

-- A capital.
c39 :
    write 2 (bytes "datatype=STANDARD\ntaxa=1\ncharacters=1\nsymbols=01\nname=a\ncells=M\ncharacter=1\nlabel=\norder=UNORD\nstates=0\n")
    ≡ refused 31 0 0 2
unfolding write refused
c39 = refl

-- An index of DNA that is no state.
c40 :
    write 2 (bytes "datatype=DNA\ntaxa=1\ncharacters=1\nsymbols=ACGT\nname=a\ncells=4\ncharacter=1\nlabel=\norder=UNORD\nstates=0\n")
    ≡ refused 31 0 0 2
unfolding write refused
c40 = refl

-- A number out of order.
c41 :
    write 2 (bytes "datatype=STANDARD\ntaxa=1\ncharacters=1\nsymbols=01\nname=a\ncells=0\ncharacter=2\nlabel=\norder=UNORD\nstates=0\n")
    ≡ refused 31 0 0 2
unfolding write refused
c41 = refl

-- More state labels than symbols.
c42 :
    write 2 (bytes "datatype=STANDARD\ntaxa=1\ncharacters=1\nsymbols=01\nname=a\ncells=0\ncharacter=1\nlabel=l\norder=ORD\nstates=3\nstate=s\nstate=t\nstate=u\n")
    ≡ refused 31 0 0 2
unfolding write refused
c42 = refl

-- More state labels than symbols on a later character.
c43 :
    write 2 (bytes "datatype=STANDARD\ntaxa=2\ncharacters=2\nsymbols=01\nname=a\ncells=0 1\nname=b\ncells=0 m\ncharacter=1\nlabel=\norder=UNORD\nstates=0\ncharacter=2\nlabel=\norder=UNORD\nstates=3\nstate=x\nstate=y\nstate=z\n")
    ≡ refused 31 0 0 2
unfolding write refused
c43 = refl

-- As many as symbols are a record.
c44 :
    write 213 (bytes "datatype=STANDARD\ntaxa=1\ncharacters=1\nsymbols=01\nname=a\ncells=0\ncharacter=1\nlabel=l\norder=ORD\nstates=2\nstate=s\nstate=s\n")
    ≡ answered 1 (bytes "#NEXUS\nBEGIN DATA;\nDIMENSIONS NTAX=1 NCHAR=1;\nFORMAT DATATYPE=STANDARD RESPECTCASE MISSING=! SYMBOLS=\"01\";\nCHARSTATELABELS 1 'l' / 's' 's';\nMATRIX\n'a' 0\n;\nEND;\nBEGIN ASSUMPTIONS;\nTYPESET * w (VECTOR) = ORD;\nEND;\n")
unfolding write answered
c44 = refl

-- More state lines than states says.
c45 :
    write 2 (bytes "datatype=STANDARD\ntaxa=1\ncharacters=1\nsymbols=01\nname=a\ncells=0\ncharacter=1\nlabel=l\norder=ORD\nstates=0\nstate=s\n")
    ≡ refused 31 0 0 2
unfolding write refused
c45 = refl

-- Fewer state lines than states says.
c46 :
    write 2 (bytes "datatype=STANDARD\ntaxa=1\ncharacters=1\nsymbols=01\nname=a\ncells=0\ncharacter=1\nlabel=l\norder=ORD\nstates=2\nstate=s\n")
    ≡ refused 31 0 0 2
unfolding write refused
c46 = refl

-- Another type.
c47 :
    write 2 (bytes "datatype=STANDARD\ntaxa=1\ncharacters=1\nsymbols=01\nname=a\ncells=0\ncharacter=1\nlabel=\norder=unord\nstates=0\n")
    ≡ refused 31 0 0 2
unfolding write refused
c47 = refl

-- DNA with an ordered character.
c48 :
    write 2 (bytes "datatype=DNA\ntaxa=1\ncharacters=1\nsymbols=ACGT\nname=a\ncells=3\ncharacter=1\nlabel=\norder=ORD\nstates=0\n")
    ≡ refused 31 0 0 2
unfolding write refused
c48 = refl

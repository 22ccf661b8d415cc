-- Written forms of records, and buffers of every length.
-- Made from host/definitions/chosen/13-forms.txt, with the Rust's answers.
use Rattle.std.specs.Prelude.{◌∷◌, ◌++◌, ◌≡◌, refl}
use Rattle.lexer.specs.Base.{bytes}
use Rattle.vectors.specs.Asked.{read, read_with_little, write, answered, refused}

-- The least form: missing is `!` though no cell is missing.
c1 :
    write 128 (bytes "datatype=STANDARD\ntaxa=1\ncharacters=1\nsymbols=01\nname=a\ncells=0\ncharacter=1\nlabel=\norder=UNORD\nstates=0\n")
    ≡ answered 1 (bytes "#NEXUS\nBEGIN DATA;\nDIMENSIONS NTAX=1 NCHAR=1;\nFORMAT DATATYPE=STANDARD RESPECTCASE MISSING=! SYMBOLS=\"01\";\nMATRIX\n'a' 0\n;\nEND;\n")
unfolding write answered
c1 = refl

-- Two taxa, a missing cell and both kinds of sets.
c2 :
    write 141 (bytes "datatype=STANDARD\ntaxa=2\ncharacters=2\nsymbols=01\nname=a\ncells=0 m\nname=b\ncells=u0.1 p1\ncharacter=1\nlabel=\norder=UNORD\nstates=0\ncharacter=2\nlabel=\norder=UNORD\nstates=0\n")
    ≡ answered 1 (bytes "#NEXUS\nBEGIN DATA;\nDIMENSIONS NTAX=2 NCHAR=2;\nFORMAT DATATYPE=STANDARD RESPECTCASE MISSING=! SYMBOLS=\"01\";\nMATRIX\n'a' 0!\n'b' {01}(1)\n;\nEND;\n")
unfolding write answered
c2 = refl

-- The missing symbol is the lowest that is no state.
c3 :
    write 141 (bytes "datatype=STANDARD\ntaxa=2\ncharacters=2\nsymbols=!#\nname=a\ncells=0 m\nname=b\ncells=u0.1 p1\ncharacter=1\nlabel=\norder=UNORD\nstates=0\ncharacter=2\nlabel=\norder=UNORD\nstates=0\n")
    ≡ answered 1 (bytes "#NEXUS\nBEGIN DATA;\nDIMENSIONS NTAX=2 NCHAR=2;\nFORMAT DATATYPE=STANDARD RESPECTCASE MISSING=$ SYMBOLS=\"!#\";\nMATRIX\n'a' !$\n'b' {!#}(#)\n;\nEND;\n")
unfolding write answered
c3 = refl

-- `"` and `'` are no valid symbols: behind `!` comes `#`, behind `&` `+`.
c4 :
    write 143 (bytes "datatype=STANDARD\ntaxa=2\ncharacters=2\nsymbols=!#$%\nname=a\ncells=0 m\nname=b\ncells=u0.1 p1\ncharacter=1\nlabel=\norder=UNORD\nstates=0\ncharacter=2\nlabel=\norder=UNORD\nstates=0\n")
    ≡ answered 1 (bytes "#NEXUS\nBEGIN DATA;\nDIMENSIONS NTAX=2 NCHAR=2;\nFORMAT DATATYPE=STANDARD RESPECTCASE MISSING=& SYMBOLS=\"!#$%\";\nMATRIX\n'a' !&\n'b' {!#}(#)\n;\nEND;\n")
unfolding write answered
c4 = refl

-- The gap symbol is the next lowest.
c5 :
    write 135 (bytes "datatype=STANDARD\ntaxa=1\ncharacters=2\nsymbols=0#\nname=a\ncells=g m\ncharacter=1\nlabel=\norder=UNORD\nstates=0\ncharacter=2\nlabel=\norder=UNORD\nstates=0\n")
    ≡ answered 1 (bytes "#NEXUS\nBEGIN DATA;\nDIMENSIONS NTAX=1 NCHAR=2;\nFORMAT DATATYPE=STANDARD RESPECTCASE MISSING=! GAP=$ SYMBOLS=\"0#\";\nMATRIX\n'a' $!\n;\nEND;\n")
unfolding write answered
c5 = refl

-- A gap in the last cell of the last taxon alone.
c6 :
    write 142 (bytes "datatype=STANDARD\ntaxa=2\ncharacters=2\nsymbols=01\nname=a\ncells=0 1\nname=b\ncells=1 g\ncharacter=1\nlabel=\norder=UNORD\nstates=0\ncharacter=2\nlabel=\norder=UNORD\nstates=0\n")
    ≡ answered 1 (bytes "#NEXUS\nBEGIN DATA;\nDIMENSIONS NTAX=2 NCHAR=2;\nFORMAT DATATYPE=STANDARD RESPECTCASE MISSING=! GAP=# SYMBOLS=\"01\";\nMATRIX\n'a' 01\n'b' 1#\n;\nEND;\n")
unfolding write answered
c6 = refl

-- The gap symbol may be the next but one.
c7 :
    write 136 (bytes "datatype=STANDARD\ntaxa=1\ncharacters=2\nsymbols=#!$\nname=a\ncells=g m\ncharacter=1\nlabel=\norder=UNORD\nstates=0\ncharacter=2\nlabel=\norder=UNORD\nstates=0\n")
    ≡ answered 1 (bytes "#NEXUS\nBEGIN DATA;\nDIMENSIONS NTAX=1 NCHAR=2;\nFORMAT DATATYPE=STANDARD RESPECTCASE MISSING=% GAP=& SYMBOLS=\"#!$\";\nMATRIX\n'a' &%\n;\nEND;\n")
unfolding write answered
c7 = refl

-- Symbols a and A in their order.
c8 :
    write 141 (bytes "datatype=STANDARD\ntaxa=2\ncharacters=2\nsymbols=aA\nname=a\ncells=0 m\nname=b\ncells=u0.1 p1\ncharacter=1\nlabel=\norder=UNORD\nstates=0\ncharacter=2\nlabel=\norder=UNORD\nstates=0\n")
    ≡ answered 1 (bytes "#NEXUS\nBEGIN DATA;\nDIMENSIONS NTAX=2 NCHAR=2;\nFORMAT DATATYPE=STANDARD RESPECTCASE MISSING=! SYMBOLS=\"aA\";\nMATRIX\n'a' a!\n'b' {aA}(A)\n;\nEND;\n")
unfolding write answered
c8 = refl

-- DNA: a gap, missing, a state.
c9 :
    write 106 (bytes "datatype=DNA\ntaxa=1\ncharacters=3\nsymbols=ACGT\nname=a\ncells=g m 3\ncharacter=1\nlabel=\norder=UNORD\nstates=0\ncharacter=2\nlabel=\norder=UNORD\nstates=0\ncharacter=3\nlabel=\norder=UNORD\nstates=0\n")
    ≡ answered 1 (bytes "#NEXUS\nBEGIN DATA;\nDIMENSIONS NTAX=1 NCHAR=3;\nFORMAT DATATYPE=DNA MISSING=? GAP=-;\nMATRIX\n'a' -?T\n;\nEND;\n")
unfolding write answered
c9 = refl

-- DNA sets are written by their states.
c10 :
    write 115 (bytes "datatype=DNA\ntaxa=1\ncharacters=3\nsymbols=ACGT\nname=a\ncells=u0.1.2.3 p2 u0\ncharacter=1\nlabel=\norder=UNORD\nstates=0\ncharacter=2\nlabel=\norder=UNORD\nstates=0\ncharacter=3\nlabel=\norder=UNORD\nstates=0\n")
    ≡ answered 1 (bytes "#NEXUS\nBEGIN DATA;\nDIMENSIONS NTAX=1 NCHAR=3;\nFORMAT DATATYPE=DNA MISSING=? GAP=-;\nMATRIX\n'a' {ACGT}(G){A}\n;\nEND;\n")
unfolding write answered
c10 = refl

-- Names: a quote is doubled, a blank is `_`, LF and backslash stand as themselves.
c11 :
    write 137 (bytes "datatype=STANDARD\ntaxa=1\ncharacters=1\nsymbols=01\nname=it's\\0 \\1 x\ncells=0\ncharacter=1\nlabel=\norder=UNORD\nstates=0\n")
    ≡ answered 1 (bytes "#NEXUS\nBEGIN DATA;\nDIMENSIONS NTAX=1 NCHAR=1;\nFORMAT DATATYPE=STANDARD RESPECTCASE MISSING=! SYMBOLS=\"01\";\nMATRIX\n'it''s\n_\\_x' 0\n;\nEND;\n")
unfolding write answered
c11 = refl

-- A name of one blank.
c12 :
    write 128 (bytes "datatype=STANDARD\ntaxa=1\ncharacters=1\nsymbols=01\nname= \ncells=0\ncharacter=1\nlabel=\norder=UNORD\nstates=0\n")
    ≡ answered 1 (bytes "#NEXUS\nBEGIN DATA;\nDIMENSIONS NTAX=1 NCHAR=1;\nFORMAT DATATYPE=STANDARD RESPECTCASE MISSING=! SYMBOLS=\"01\";\nMATRIX\n'_' 0\n;\nEND;\n")
unfolding write answered
c12 = refl

-- A tab and characters beyond ASCII stand as they are.
c13 :
    write 135 (bytes "datatype=STANDARD\ntaxa=1\ncharacters=1\nsymbols=01\nname=\t" ++ (195 ∷ 164 ∷ 194 ∷ 160 ∷ 226 ∷ 128 ∷ 168 ∷ bytes "\ncells=0\ncharacter=1\nlabel=\norder=UNORD\nstates=0\n"))
    ≡ answered 1 (bytes "#NEXUS\nBEGIN DATA;\nDIMENSIONS NTAX=1 NCHAR=1;\nFORMAT DATATYPE=STANDARD RESPECTCASE MISSING=! SYMBOLS=\"01\";\nMATRIX\n'\t" ++ (195 ∷ 164 ∷ 194 ∷ 160 ∷ 226 ∷ 128 ∷ 168 ∷ bytes "' 0\n;\nEND;\n"))
unfolding write answered
c13 = refl

-- A label with a quote, states, a character without either, states without a label.
c14 :
    write 179 (bytes "datatype=STANDARD\ntaxa=1\ncharacters=3\nsymbols=01\nname=a\ncells=0 1 0\ncharacter=1\nlabel=it's\norder=UNORD\nstates=2\nstate=x y\nstate=z\ncharacter=2\nlabel=\norder=UNORD\nstates=0\ncharacter=3\nlabel=\norder=UNORD\nstates=1\nstate=\\0q\n")
    ≡ answered 1 (bytes "#NEXUS\nBEGIN DATA;\nDIMENSIONS NTAX=1 NCHAR=3;\nFORMAT DATATYPE=STANDARD RESPECTCASE MISSING=! SYMBOLS=\"01\";\nCHARSTATELABELS 1 'it''s' / 'x_y' 'z', 3 / '\nq';\nMATRIX\n'a' 010\n;\nEND;\n")
unfolding write answered
c14 = refl

-- A label alone on a later character.
c15 :
    write 153 (bytes "datatype=STANDARD\ntaxa=1\ncharacters=3\nsymbols=01\nname=a\ncells=0 1 0\ncharacter=1\nlabel=\norder=UNORD\nstates=0\ncharacter=2\nlabel=l\norder=UNORD\nstates=0\ncharacter=3\nlabel=\norder=UNORD\nstates=0\n")
    ≡ answered 1 (bytes "#NEXUS\nBEGIN DATA;\nDIMENSIONS NTAX=1 NCHAR=3;\nFORMAT DATATYPE=STANDARD RESPECTCASE MISSING=! SYMBOLS=\"01\";\nCHARSTATELABELS 2 'l';\nMATRIX\n'a' 010\n;\nEND;\n")
unfolding write answered
c15 = refl

-- An ordered character: a VECTOR of all types, behind labels.
c16 :
    write 217 (bytes "datatype=STANDARD\ntaxa=1\ncharacters=3\nsymbols=01\nname=a\ncells=0 1 0\ncharacter=1\nlabel=x\norder=UNORD\nstates=0\ncharacter=2\nlabel=\norder=ORD\nstates=0\ncharacter=3\nlabel=\norder=UNORD\nstates=0\n")
    ≡ answered 1 (bytes "#NEXUS\nBEGIN DATA;\nDIMENSIONS NTAX=1 NCHAR=3;\nFORMAT DATATYPE=STANDARD RESPECTCASE MISSING=! SYMBOLS=\"01\";\nCHARSTATELABELS 1 'x';\nMATRIX\n'a' 010\n;\nEND;\nBEGIN ASSUMPTIONS;\nTYPESET * w (VECTOR) = UNORD ORD UNORD;\nEND;\n")
unfolding write answered
c16 = refl

-- The last character alone is ordered.
c17 :
    write 194 (bytes "datatype=STANDARD\ntaxa=1\ncharacters=3\nsymbols=01\nname=a\ncells=0 1 0\ncharacter=1\nlabel=\norder=UNORD\nstates=0\ncharacter=2\nlabel=\norder=UNORD\nstates=0\ncharacter=3\nlabel=\norder=ORD\nstates=0\n")
    ≡ answered 1 (bytes "#NEXUS\nBEGIN DATA;\nDIMENSIONS NTAX=1 NCHAR=3;\nFORMAT DATATYPE=STANDARD RESPECTCASE MISSING=! SYMBOLS=\"01\";\nMATRIX\n'a' 010\n;\nEND;\nBEGIN ASSUMPTIONS;\nTYPESET * w (VECTOR) = UNORD UNORD ORD;\nEND;\n")
unfolding write answered
c17 = refl

-- Indices of two digits.
c18 :
    write 142 (bytes "datatype=STANDARD\ntaxa=1\ncharacters=1\nsymbols=0123456789ab\nname=a\ncells=u9.10.11\ncharacter=1\nlabel=\norder=UNORD\nstates=0\n")
    ≡ answered 1 (bytes "#NEXUS\nBEGIN DATA;\nDIMENSIONS NTAX=1 NCHAR=1;\nFORMAT DATATYPE=STANDARD RESPECTCASE MISSING=! SYMBOLS=\"0123456789ab\";\nMATRIX\n'a' {9ab}\n;\nEND;\n")
unfolding write answered
c18 = refl

-- 73 symbols: the missing symbol is the last one left.
c19 :
    write 199 (bytes "datatype=STANDARD\ntaxa=1\ncharacters=1\nsymbols=!#$%&+-.0123456789?@ABCDEFGHIJKLMNOPQRSTUVWXYZ_abcdefghijklmnopqrstuvwxyz\nname=a\ncells=72\ncharacter=1\nlabel=\norder=UNORD\nstates=0\n")
    ≡ answered 1 (bytes "#NEXUS\nBEGIN DATA;\nDIMENSIONS NTAX=1 NCHAR=1;\nFORMAT DATATYPE=STANDARD RESPECTCASE MISSING=| SYMBOLS=\"!#$%&+-.0123456789?@ABCDEFGHIJKLMNOPQRSTUVWXYZ_abcdefghijklmnopqrstuvwxyz\";\nMATRIX\n'a' z\n;\nEND;\n")
unfolding write answered
c19 = refl

-- 72 symbols beside a gap.
c20 :
    write 204 (bytes "datatype=STANDARD\ntaxa=1\ncharacters=1\nsymbols=|#%&+-.0123456789?@ABCDEFGHIJKLMNOPQRSTUVWXYZ_abcdefghijklmnopqrstuvwxy!\nname=a\ncells=g\ncharacter=1\nlabel=\norder=UNORD\nstates=0\n")
    ≡ answered 1 (bytes "#NEXUS\nBEGIN DATA;\nDIMENSIONS NTAX=1 NCHAR=1;\nFORMAT DATATYPE=STANDARD RESPECTCASE MISSING=$ GAP=z SYMBOLS=\"|#%&+-.0123456789?@ABCDEFGHIJKLMNOPQRSTUVWXYZ_abcdefghijklmnopqrstuvwxy!\";\nMATRIX\n'a' z\n;\nEND;\n")
unfolding write answered
c20 = refl

-- All together: a gap, a label with states, an ordered character.
c21 :
    write 232 (bytes "datatype=STANDARD\ntaxa=2\ncharacters=2\nsymbols=01\nname=a\ncells=g 1\nname=b\ncells=u0.1 m\ncharacter=1\nlabel=l\norder=ORD\nstates=1\nstate=s\ncharacter=2\nlabel=\norder=UNORD\nstates=0\n")
    ≡ answered 1 (bytes "#NEXUS\nBEGIN DATA;\nDIMENSIONS NTAX=2 NCHAR=2;\nFORMAT DATATYPE=STANDARD RESPECTCASE MISSING=! GAP=# SYMBOLS=\"01\";\nCHARSTATELABELS 1 'l' / 's';\nMATRIX\n'a' #1\n'b' {01}!\n;\nEND;\nBEGIN ASSUMPTIONS;\nTYPESET * w (VECTOR) = ORD UNORD;\nEND;\n")
unfolding write answered
c21 = refl

-- A form in a buffer of its own length.
c22 :
    write 127 (bytes "datatype=STANDARD\ntaxa=1\ncharacters=1\nsymbols=01\nname=a\ncells=0\ncharacter=1\nlabel=\norder=UNORD\nstates=0\n")
    ≡ answered 0 (bytes "#NEXUS\nBEGIN DATA;\nDIMENSIONS NTAX=1 NCHAR=1;\nFORMAT DATATYPE=STANDARD RESPECTCASE MISSING=! SYMBOLS=\"01\";\nMATRIX\n'a' 0\n;\nEND;\n")
unfolding write answered
c22 = refl

-- A buffer one byte shorter is 30, and untouched.
c23 :
    write 126 (bytes "datatype=STANDARD\ntaxa=1\ncharacters=1\nsymbols=01\nname=a\ncells=0\ncharacter=1\nlabel=\norder=UNORD\nstates=0\n")
    ≡ refused 30 0 0 126
unfolding write refused
c23 = refl

-- A record in a buffer of its own length.
c24 :
    read 104 (bytes "#NEXUS BEGIN DATA;DIMENSIONS NTAX=1 NCHAR=1;MATRIX a 0;END;")
    ≡ answered 0 (bytes "datatype=STANDARD\ntaxa=1\ncharacters=1\nsymbols=01\nname=a\ncells=0\ncharacter=1\nlabel=\norder=UNORD\nstates=0\n")
unfolding read answered
c24 = refl

-- A buffer one byte shorter than the record is 30.
c25 :
    read 103 (bytes "#NEXUS BEGIN DATA;DIMENSIONS NTAX=1 NCHAR=1;MATRIX a 0;END;")
    ≡ refused 30 0 0 103
unfolding read refused
c25 = refl

-- Work memory one number short is 2.
c26 :
    read_with_little 2 (bytes "#NEXUS BEGIN DATA;DIMENSIONS NTAX=1 NCHAR=1;MATRIX a 0;END;")
    ≡ refused 2 0 0 2
unfolding read_with_little refused
c26 = refl

-- Words, quoted text, comments and marks, as names and cells show them.
-- Made from host/definitions/chosen/02-words.txt, with the Rust's answers.
use Rattle.std.specs.Prelude.{◌∷◌, ◌++◌, ◌≡◌, refl}
use Rattle.lexer.specs.Base.{bytes}
use Rattle.vectors.specs.Asked.{read, answered, refused}

-- A comment inside a word joins its halves: ab[c]d is abd.
c1 :
    read 149 (bytes "#NEXUS BEGIN DATA;DIMENSIONS NTAX=1 NCHAR=2;MATRIX ab[c]d 01;END;")
    ≡ answered 1 (bytes "datatype=STANDARD\ntaxa=1\ncharacters=2\nsymbols=01\nname=abd\ncells=0 1\ncharacter=1\nlabel=\norder=UNORD\nstates=0\ncharacter=2\nlabel=\norder=UNORD\nstates=0\n")
unfolding read answered
c1 = refl

-- A newline in such a comment too.
c2 :
    read 149 (bytes "#NEXUS BEGIN DATA;DIMENSIONS NTAX=1 NCHAR=2;MATRIX ab[\n[x]y]d 01;END;")
    ≡ answered 1 (bytes "datatype=STANDARD\ntaxa=1\ncharacters=2\nsymbols=01\nname=abd\ncells=0 1\ncharacter=1\nlabel=\norder=UNORD\nstates=0\ncharacter=2\nlabel=\norder=UNORD\nstates=0\n")
unfolding read answered
c2 = refl

-- A comment joins keywords, numbers and cells.
c3 :
    read 147 (bytes "#NE[x]XUS BEGIN DA[x]TA;DIMENSIONS NTAX=0[x]1 NCHAR=2;MATRIX a 0[]1;END;")
    ≡ answered 1 (bytes "datatype=STANDARD\ntaxa=1\ncharacters=2\nsymbols=01\nname=a\ncells=0 1\ncharacter=1\nlabel=\norder=UNORD\nstates=0\ncharacter=2\nlabel=\norder=UNORD\nstates=0\n")
unfolding read answered
c3 = refl

-- A doubled quote in single quotes is one.
c4 :
    read 149 (bytes "#NEXUS BEGIN DATA;DIMENSIONS NTAX=1 NCHAR=2;MATRIX 'a''b' 01;END;")
    ≡ answered 1 (bytes "datatype=STANDARD\ntaxa=1\ncharacters=2\nsymbols=01\nname=a'b\ncells=0 1\ncharacter=1\nlabel=\norder=UNORD\nstates=0\ncharacter=2\nlabel=\norder=UNORD\nstates=0\n")
unfolding read answered
c4 = refl

-- Double quotes have no such rule, and are no name.
c5 :
    read 2 (bytes "#NEXUS BEGIN DATA;DIMENSIONS NTAX=1 NCHAR=2;MATRIX \"a\"\"b\" 01;END;")
    ≡ refused 17 1 52 2
unfolding read refused
c5 = refl

-- CR and CR LF in quotes become LF, which the record writes as `\0`.
c6 :
    read 153 (bytes "#NEXUS BEGIN DATA;DIMENSIONS NTAX=1 NCHAR=2;MATRIX 'a\rb\r\nc' 01;END;")
    ≡ answered 1 (bytes "datatype=STANDARD\ntaxa=1\ncharacters=2\nsymbols=01\nname=a\\0b\\0c\ncells=0 1\ncharacter=1\nlabel=\norder=UNORD\nstates=0\ncharacter=2\nlabel=\norder=UNORD\nstates=0\n")
unfolding read answered
c6 = refl

-- A backslash is written as `\1`; other marks, tabs and newlines stand for themselves in quotes.
c7 :
    read 154 (bytes "#NEXUS BEGIN DATA;DIMENSIONS NTAX=1 NCHAR=2;MATRIX 'a\\\t[;]\"' 01;END;")
    ≡ answered 1 (bytes "datatype=STANDARD\ntaxa=1\ncharacters=2\nsymbols=01\nname=a\\1\t[;]\"\ncells=0 1\ncharacter=1\nlabel=\norder=UNORD\nstates=0\ncharacter=2\nlabel=\norder=UNORD\nstates=0\n")
unfolding read answered
c7 = refl

-- A quote ends a word, and a word may follow a quote at once: a name and its cells.
c8 :
    read 120 (bytes "#NEXUS BEGIN DATA;DIMENSIONS NTAX=2 NCHAR=1;MATRIX'a'0'b'1;END;")
    ≡ answered 1 (bytes "datatype=STANDARD\ntaxa=2\ncharacters=1\nsymbols=01\nname=a\ncells=0\nname=b\ncells=1\ncharacter=1\nlabel=\norder=UNORD\nstates=0\n")
unfolding read answered
c8 = refl

-- A word before a quote is a token of its own: the row of a has no cell there.
c9 :
    read 2 (bytes "#NEXUS BEGIN DATA;DIMENSIONS NTAX=1 NCHAR=2;MATRIX a'b' 01;END;")
    ≡ refused 22 1 53 2
unfolding read refused
c9 = refl

-- Two quoted texts with a comment between are two tokens.
c10 :
    read 2 (bytes "#NEXUS BEGIN DATA;DIMENSIONS NTAX=1 NCHAR=2;MATRIX 'a'[x]'b' 01;END;")
    ≡ refused 22 1 58 2
unfolding read refused
c10 = refl

-- A closing bracket by itself is a mark, and no name.
c11 :
    read 2 (bytes "#NEXUS BEGIN DATA;DIMENSIONS NTAX=1 NCHAR=2;MATRIX ] 01;END;")
    ≡ refused 17 1 52 2
unfolding read refused
c11 = refl

-- `~ # $ % & ! ? @ | - .` and NUL are part of a word.
c12 :
    read 159 (bytes "#NEXUS BEGIN DATA;DIMENSIONS NTAX=1 NCHAR=2;MATRIX a~#$%&!?@|-." ++ (0 ∷ bytes " 01;END;"))
    ≡ answered 1 (bytes "datatype=STANDARD\ntaxa=1\ncharacters=2\nsymbols=01\nname=a~#$%&!?@|-." ++ (0 ∷ bytes "\ncells=0 1\ncharacter=1\nlabel=\norder=UNORD\nstates=0\ncharacter=2\nlabel=\norder=UNORD\nstates=0\n"))
unfolding read answered
c12 = refl

-- Characters beyond ASCII stand as they are.
c13 :
    read 157 (bytes "#NEXUS BEGIN DATA;DIMENSIONS NTAX=1 NCHAR=2;MATRIX " ++ (195 ∷ 164 ∷ 206 ∷ 187 ∷ 229 ∷ 173 ∷ 151 ∷ 240 ∷ 159 ∷ 152 ∷ 128 ∷ bytes " 01;END;"))
    ≡ answered 1 (bytes "datatype=STANDARD\ntaxa=1\ncharacters=2\nsymbols=01\nname=" ++ (195 ∷ 164 ∷ 206 ∷ 187 ∷ 229 ∷ 173 ∷ 151 ∷ 240 ∷ 159 ∷ 152 ∷ 128 ∷ bytes "\ncells=0 1\ncharacter=1\nlabel=\norder=UNORD\nstates=0\ncharacter=2\nlabel=\norder=UNORD\nstates=0\n"))
unfolding read answered
c13 = refl

-- A blank of each length ends a word: U+00A0, U+1680, U+2009, U+202F, U+205F, U+3000.
c14 :
    read 147 (bytes "#NEXUS BEGIN DATA;DIMENSIONS NTAX=1 NCHAR=2;MATRIX a 0" ++ (194 ∷ 160 ∷ 225 ∷ 154 ∷ 128 ∷ 226 ∷ 128 ∷ 137 ∷ 226 ∷ 128 ∷ 175 ∷ 226 ∷ 129 ∷ 159 ∷ 227 ∷ 128 ∷ 128 ∷ bytes "1;END;"))
    ≡ answered 1 (bytes "datatype=STANDARD\ntaxa=1\ncharacters=2\nsymbols=01\nname=a\ncells=0 1\ncharacter=1\nlabel=\norder=UNORD\nstates=0\ncharacter=2\nlabel=\norder=UNORD\nstates=0\n")
unfolding read answered
c14 = refl

-- A tab, VT and FF end a word too.
c15 :
    read 147 (bytes "#NEXUS BEGIN DATA;DIMENSIONS NTAX=1 NCHAR=2;MATRIX a 0\t" ++ (11 ∷ 12 ∷ bytes "1;END;"))
    ≡ answered 1 (bytes "datatype=STANDARD\ntaxa=1\ncharacters=2\nsymbols=01\nname=a\ncells=0 1\ncharacter=1\nlabel=\norder=UNORD\nstates=0\ncharacter=2\nlabel=\norder=UNORD\nstates=0\n")
unfolding read answered
c15 = refl

-- U+200B, U+180E and U+FEFF are no blanks.
c16 :
    read 156 (bytes "#NEXUS BEGIN DATA;DIMENSIONS NTAX=1 NCHAR=2;MATRIX a" ++ (226 ∷ 128 ∷ 139 ∷ 225 ∷ 160 ∷ 142 ∷ 239 ∷ 187 ∷ 191 ∷ bytes " 01;END;"))
    ≡ answered 1 (bytes "datatype=STANDARD\ntaxa=1\ncharacters=2\nsymbols=01\nname=a" ++ (226 ∷ 128 ∷ 139 ∷ 225 ∷ 160 ∷ 142 ∷ 239 ∷ 187 ∷ 191 ∷ bytes "\ncells=0 1\ncharacter=1\nlabel=\norder=UNORD\nstates=0\ncharacter=2\nlabel=\norder=UNORD\nstates=0\n"))
unfolding read answered
c16 = refl

-- `+` is a mark, so 0+1 are three tokens: 22 at the second.
c17 :
    read 2 (bytes "#NEXUS BEGIN DATA;DIMENSIONS NTAX=1 NCHAR=2;MATRIX a 0+1;END;")
    ≡ refused 22 1 55 2
unfolding read refused
c17 = refl

-- Each mark ends a word and is a token: were one none, the count of labels would be another, and 16.
c18 :
    read 2 (bytes "#NEXUS BEGIN DATA;DIMENSIONS NTAX=1 NCHAR=33;CHARLABELS a(b)c{d}e]f/g\\h,i:j=k*l`m<n>o^p+q;MATRIX a 000000000000000000000000000000000;END;")
    ≡ refused 17 1 58 2
unfolding read refused
c18 = refl

-- And these are none: the label is one word, and one is the count.
c19 :
    read 132 (bytes "#NEXUS BEGIN DATA;DIMENSIONS NTAX=1 NCHAR=1;CHARLABELS a-b.c~d#e$f%g&h!i?j@k|l" ++ (127 ∷ bytes "m" ++ (1 ∷ bytes "n;MATRIX a 0;END;")))
    ≡ answered 1 (bytes "datatype=STANDARD\ntaxa=1\ncharacters=1\nsymbols=01\nname=a\ncells=0\ncharacter=1\nlabel=a-b.c~d#e$f%g&h!i?j@k|l" ++ (127 ∷ bytes "m" ++ (1 ∷ bytes "n\norder=UNORD\nstates=0\n")))
unfolding read answered
c19 = refl

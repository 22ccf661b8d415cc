-- Texts: what is no text, what stays open, the byte order mark, #NEXUS, and the places of tokens.
-- Made from host/definitions/chosen/01-texts.txt, with the Rust's answers.
use Rattle.std.specs.Prelude.{[], ◌∷◌, ◌++◌, ◌≡◌, refl}
use Rattle.lexer.specs.Base.{bytes}
use Rattle.vectors.specs.Asked.{read, read_with_little, answered, refused}

-- A byte that begins no character is 3, at no place.
c1 :
    read 2 (bytes "#NEXUS" ++ (255 ∷ []))
    ≡ refused 3 0 0 2
unfolding read refused
c1 = refl

-- An overlong form of `/` is 3.
c2 :
    read 2 (bytes "#NEXUS " ++ (192 ∷ 175 ∷ []))
    ≡ refused 3 0 0 2
unfolding read refused
c2 = refl

-- An overlong form of three bytes is 3.
c3 :
    read 2 (bytes "#NEXUS " ++ (224 ∷ 159 ∷ 191 ∷ []))
    ≡ refused 3 0 0 2
unfolding read refused
c3 = refl

-- A surrogate is 3.
c4 :
    read 2 (bytes "#NEXUS " ++ (237 ∷ 160 ∷ 128 ∷ []))
    ≡ refused 3 0 0 2
unfolding read refused
c4 = refl

-- What lies beyond U+10FFFF is 3.
c5 :
    read 2 (bytes "#NEXUS " ++ (244 ∷ 144 ∷ 128 ∷ 128 ∷ []))
    ≡ refused 3 0 0 2
unfolding read refused
c5 = refl

-- A byte that only goes on with a character is 3.
c6 :
    read 2 (bytes "#NEXUS " ++ (128 ∷ []))
    ≡ refused 3 0 0 2
unfolding read refused
c6 = refl

-- An overlong form of two bytes with the highest lead is 3.
c7 :
    read 2 (bytes "#NEXUS " ++ (193 ∷ 191 ∷ []))
    ≡ refused 3 0 0 2
unfolding read refused
c7 = refl

-- An overlong form of four bytes is 3.
c8 :
    read 2 (bytes "#NEXUS " ++ (240 ∷ 143 ∷ 191 ∷ 191 ∷ []))
    ≡ refused 3 0 0 2
unfolding read refused
c8 = refl

-- A lead above 244 is 3.
c9 :
    read 2 (bytes "#NEXUS " ++ (245 ∷ 128 ∷ 128 ∷ 128 ∷ []))
    ≡ refused 3 0 0 2
unfolding read refused
c9 = refl

-- A character that a letter cuts off is 3.
c10 :
    read 2 (bytes "#NEXUS " ++ (194 ∷ bytes "A"))
    ≡ refused 3 0 0 2
unfolding read refused
c10 = refl

-- A character that another's lead cuts off is 3.
c11 :
    read 2 (bytes "#NEXUS " ++ (225 ∷ 128 ∷ 194 ∷ 128 ∷ []))
    ≡ refused 3 0 0 2
unfolding read refused
c11 = refl

-- The first and the last character of each form of UTF-8, up to U+10FFFF, around the surrogates too.
c12 :
    read 198 (bytes "#NEXUS BEGIN DATA;DIMENSIONS NTAX=1 NCHAR=2;MATRIX " ++ (194 ∷ 128 ∷ 223 ∷ 191 ∷ 224 ∷ 160 ∷ 128 ∷ 224 ∷ 191 ∷ 191 ∷ 225 ∷ 128 ∷ 128 ∷ 236 ∷ 191 ∷ 191 ∷ 237 ∷ 128 ∷ 128 ∷ 237 ∷ 159 ∷ 191 ∷ 238 ∷ 128 ∷ 128 ∷ 239 ∷ 191 ∷ 191 ∷ 240 ∷ 144 ∷ 128 ∷ 128 ∷ 240 ∷ 191 ∷ 191 ∷ 191 ∷ 241 ∷ 128 ∷ 128 ∷ 128 ∷ 243 ∷ 191 ∷ 191 ∷ 191 ∷ 244 ∷ 128 ∷ 128 ∷ 128 ∷ 244 ∷ 143 ∷ 191 ∷ 191 ∷ bytes " 01;END;"))
    ≡ answered 1 (bytes "datatype=STANDARD\ntaxa=1\ncharacters=2\nsymbols=01\nname=" ++ (194 ∷ 128 ∷ 223 ∷ 191 ∷ 224 ∷ 160 ∷ 128 ∷ 224 ∷ 191 ∷ 191 ∷ 225 ∷ 128 ∷ 128 ∷ 236 ∷ 191 ∷ 191 ∷ 237 ∷ 128 ∷ 128 ∷ 237 ∷ 159 ∷ 191 ∷ 238 ∷ 128 ∷ 128 ∷ 239 ∷ 191 ∷ 191 ∷ 240 ∷ 144 ∷ 128 ∷ 128 ∷ 240 ∷ 191 ∷ 191 ∷ 191 ∷ 241 ∷ 128 ∷ 128 ∷ 128 ∷ 243 ∷ 191 ∷ 191 ∷ 191 ∷ 244 ∷ 128 ∷ 128 ∷ 128 ∷ 244 ∷ 143 ∷ 191 ∷ 191 ∷ bytes "\ncells=0 1\ncharacter=1\nlabel=\norder=UNORD\nstates=0\ncharacter=2\nlabel=\norder=UNORD\nstates=0\n"))
unfolding read answered
c12 = refl

-- A character that the end of the text cuts off is 3.
c13 :
    read 2 (bytes "#NEXUS " ++ (226 ∷ 130 ∷ []))
    ≡ refused 3 0 0 2
unfolding read refused
c13 = refl

-- 3 comes before an open quote.
c14 :
    read 2 (bytes "'" ++ (255 ∷ []))
    ≡ refused 3 0 0 2
unfolding read refused
c14 = refl

-- Work memory that is one number short is 2, before a text that is not UTF-8.
c15 :
    read_with_little 2 (bytes "#NEXUS" ++ (255 ∷ []))
    ≡ refused 2 0 0 2
unfolding read_with_little refused
c15 = refl

-- An open single quote is 4 at its mark, before a missing #NEXUS.
c16 :
    read 2 (bytes "ab 'c")
    ≡ refused 4 1 4 2
unfolding read refused
c16 = refl

-- An open double quote is 4 at its mark.
c17 :
    read 2 (bytes "#NEXUS\n \"a'")
    ≡ refused 4 2 2 2
unfolding read refused
c17 = refl

-- Three single quotes are an open one: the second and third are one quote in it.
c18 :
    read 2 (bytes "#NEXUS '''")
    ≡ refused 4 1 8 2
unfolding read refused
c18 = refl

-- An open comment is 5 at its mark, of nested ones the outermost.
c19 :
    read 2 (bytes "#NEXUS\n[a[b]")
    ≡ refused 5 2 1 2
unfolding read refused
c19 = refl

-- An open comment inside a word is at its mark, not at the word.
c20 :
    read 2 (bytes "#NEXUS ab[c")
    ≡ refused 5 1 10 2
unfolding read refused
c20 = refl

-- The last mark that opens counts, behind quotes and comments that close.
c21 :
    read 2 (bytes "'a''b' [c] \"d\" 'e")
    ≡ refused 4 1 16 2
unfolding read refused
c21 = refl

-- A comment in a comment, closed: the next token is X.
c22 :
    read 2 (bytes "[a[b]c]X")
    ≡ refused 6 1 8 2
unfolding read refused
c22 = refl

-- A quote inside a comment opens nothing.
c23 :
    read 2 (bytes "[']X")
    ≡ refused 6 1 4 2
unfolding read refused
c23 = refl

-- A closing bracket inside quotes closes no comment, and the comment's mark in quotes opens none.
c24 :
    read 149 (bytes "#NEXUS BEGIN DATA;DIMENSIONS NTAX=1 NCHAR=2;MATRIX '[a]' 01;END;")
    ≡ answered 1 (bytes "datatype=STANDARD\ntaxa=1\ncharacters=2\nsymbols=01\nname=[a]\ncells=0 1\ncharacter=1\nlabel=\norder=UNORD\nstates=0\ncharacter=2\nlabel=\norder=UNORD\nstates=0\n")
unfolding read answered
c24 = refl

-- A comment inside double quotes is none: `[` is no valid symbol.
c25 :
    read 2 (bytes "#NEXUS BEGIN DATA;FORMAT SYMBOLS=\"01[x]\";END;")
    ≡ refused 21 1 19 2
unfolding read refused
c25 = refl

-- The empty text is 6 at 1,1.
c26 :
    read 2 []
    ≡ refused 6 1 1 2
unfolding read refused
c26 = refl

-- A text of newlines, blanks and comments alone is 6 at 1,1.
c27 :
    read 2 (bytes "\n [x]\r")
    ≡ refused 6 1 1 2
unfolding read refused
c27 = refl

-- A byte order mark alone is at 1,1.
c28 :
    read 2 (239 ∷ 187 ∷ 191 ∷ [])
    ≡ refused 6 1 1 2
unfolding read refused
c28 = refl

-- A mark takes a column: what follows it stands at column 2.
c29 :
    read 2 (239 ∷ 187 ∷ 191 ∷ bytes "X")
    ≡ refused 6 1 2 2
unfolding read refused
c29 = refl

-- A second mark is part of a word.
c30 :
    read 2 (239 ∷ 187 ∷ 191 ∷ 239 ∷ 187 ∷ 191 ∷ bytes "#NEXUS")
    ≡ refused 6 1 2 2
unfolding read refused
c30 = refl

-- A quoted #NEXUS is none.
c31 :
    read 2 (bytes "'#NEXUS'")
    ≡ refused 6 1 1 2
unfolding read refused
c31 = refl

-- The first token decides, behind newlines.
c32 :
    read 2 (bytes "\n\n NEXUS #NEXUS")
    ≡ refused 6 3 2 2
unfolding read refused
c32 = refl

-- A mark before a text that is read.
c33 :
    read 105 (239 ∷ 187 ∷ 191 ∷ bytes "#nexus BEGIN DATA;DIMENSIONS NTAX=1 NCHAR=1;MATRIX a 0;END;")
    ≡ answered 1 (bytes "datatype=STANDARD\ntaxa=1\ncharacters=1\nsymbols=01\nname=a\ncells=0\ncharacter=1\nlabel=\norder=UNORD\nstates=0\n")
unfolding read answered
c33 = refl

-- Columns count characters: a tab, a combining mark and a character of four bytes take one each.
c34 :
    read 2 (bytes "[\t" ++ (204 ∷ 129 ∷ 240 ∷ 159 ∷ 152 ∷ 128 ∷ bytes "]X"))
    ≡ refused 6 1 6 2
unfolding read refused
c34 = refl

-- CR LF is one newline, CR and LF are one each.
c35 :
    read 2 (bytes "\r\n\r\n\r\n X")
    ≡ refused 6 4 2 2
unfolding read refused
c35 = refl

-- LF CR is two newlines, CR CR LF is two.
c36 :
    read 2 (bytes "\n\r\r\r\n X")
    ≡ refused 6 5 2 2
unfolding read refused
c36 = refl

-- Newlines count inside a comment and inside quotes.
c37 :
    read 2 (bytes "#NEXUS[\r\n]'\n'X;")
    ≡ refused 11 2 2 2
unfolding read refused
c37 = refl

-- U+0085, U+2028, VT and FF are blanks: no new line, one column each.
c38 :
    read 2 (194 ∷ 133 ∷ 226 ∷ 128 ∷ 168 ∷ 11 ∷ 12 ∷ bytes "X")
    ≡ refused 6 1 5 2
unfolding read refused
c38 = refl

-- The place of a word is its own, not that of a comment before it.
c39 :
    read 2 (bytes "[x] X")
    ≡ refused 6 1 5 2
unfolding read refused
c39 = refl

-- The place of a word with a comment inside is its first character.
c40 :
    read 2 (bytes "#NEXUS B[\n]EGIN;")
    ≡ refused 11 1 8 2
unfolding read refused
c40 = refl

-- Three comments in each other.
c41 :
    read 2 (bytes "[a[b[c]d]e]X")
    ≡ refused 6 1 12 2
unfolding read refused
c41 = refl

-- A letter in the place of a third byte.
c42 :
    read 2 (bytes "#NEXUS " ++ (225 ∷ 128 ∷ bytes "A"))
    ≡ refused 3 0 0 2
unfolding read refused
c42 = refl

-- Bytes that have not the shape of a record, or a head that no reading has: 31.
-- Made from host/definitions/chosen/14-refused-heads.txt, with the Rust's answers.
use Rattle.std.specs.Prelude.{[], ◌∷◌, ◌++◌, ◌≡◌, refl}
use Rattle.lexer.specs.Base.{bytes}
use Rattle.vectors.specs.Asked.{write, refused}

-- No bytes at all.
c1 :
    write 2 []
    ≡ refused 31 0 0 2
unfolding write refused
c1 = refl

-- The last LF is absent.
c2 :
    write 2 (bytes "datatype=STANDARD\ntaxa=1\ncharacters=1\nsymbols=01\nname=a\ncells=0\ncharacter=1\nlabel=\norder=UNORD\nstates=0")
    ≡ refused 31 0 0 2
unfolding write refused
c2 = refl

-- A line more at the end.
c3 :
    write 2 (bytes "datatype=STANDARD\ntaxa=1\ncharacters=1\nsymbols=01\nname=a\ncells=0\ncharacter=1\nlabel=\norder=UNORD\nstates=0\n\n")
    ≡ refused 31 0 0 2
unfolding write refused
c3 = refl

-- A line more before the first.
c4 :
    write 2 (bytes "\ndatatype=STANDARD\ntaxa=1\ncharacters=1\nsymbols=01\nname=a\ncells=0\ncharacter=1\nlabel=\norder=UNORD\nstates=0\n")
    ≡ refused 31 0 0 2
unfolding write refused
c4 = refl

-- Two lines in the other order.
c5 :
    write 2 (bytes "datatype=STANDARD\ncharacters=1\ntaxa=1\nsymbols=01\nname=a\ncells=0\ncharacter=1\nlabel=\norder=UNORD\nstates=0\n")
    ≡ refused 31 0 0 2
unfolding write refused
c5 = refl

-- A key in capitals.
c6 :
    write 2 (bytes "datatype=STANDARD\ntaxa=1\ncharacters=1\nsymbols=01\nname=a\nCells=0\ncharacter=1\nlabel=\norder=UNORD\nstates=0\n")
    ≡ refused 31 0 0 2
unfolding write refused
c6 = refl

-- A line that the end cuts off.
c7 :
    write 2 (bytes "datatype=STANDARD\ntaxa=1\ncharacters=1\nsymbols=01\nname=a\ncells=0\ncharacter=1\nlabel=\norder=UNORD\n")
    ≡ refused 31 0 0 2
unfolding write refused
c7 = refl

-- A blank behind a value.
c8 :
    write 2 (bytes "datatype=STANDARD\ntaxa=1 \ncharacters=1\nsymbols=01\nname=a\ncells=0\ncharacter=1\nlabel=\norder=UNORD\nstates=0\n")
    ≡ refused 31 0 0 2
unfolding write refused
c8 = refl

-- CR LF for LF.
c9 :
    write 2 (bytes "datatype=STANDARD\ntaxa=1\r\ncharacters=1\nsymbols=01\nname=a\ncells=0\ncharacter=1\nlabel=\norder=UNORD\nstates=0\n")
    ≡ refused 31 0 0 2
unfolding write refused
c9 = refl

-- A leading zero.
c10 :
    write 2 (bytes "datatype=STANDARD\ntaxa=01\ncharacters=1\nsymbols=01\nname=a\ncells=0\ncharacter=1\nlabel=\norder=UNORD\nstates=0\n")
    ≡ refused 31 0 0 2
unfolding write refused
c10 = refl

-- A sign.
c11 :
    write 2 (bytes "datatype=STANDARD\ntaxa=1\ncharacters=+1\nsymbols=01\nname=a\ncells=0\ncharacter=1\nlabel=\norder=UNORD\nstates=0\n")
    ≡ refused 31 0 0 2
unfolding write refused
c11 = refl

-- No digits.
c12 :
    write 2 (bytes "datatype=STANDARD\ntaxa=1\ncharacters=1\nsymbols=01\nname=a\ncells=0\ncharacter=1\nlabel=\norder=UNORD\nstates=\n")
    ≡ refused 31 0 0 2
unfolding write refused
c12 = refl

-- A leading zero in a cell.
c13 :
    write 2 (bytes "datatype=STANDARD\ntaxa=1\ncharacters=1\nsymbols=01\nname=a\ncells=00\ncharacter=1\nlabel=\norder=UNORD\nstates=0\n")
    ≡ refused 31 0 0 2
unfolding write refused
c13 = refl

-- A leading zero in a character's number.
c14 :
    write 2 (bytes "datatype=STANDARD\ntaxa=1\ncharacters=1\nsymbols=01\nname=a\ncells=0\ncharacter=01\nlabel=\norder=UNORD\nstates=0\n")
    ≡ refused 31 0 0 2
unfolding write refused
c14 = refl

-- Another data type.
c15 :
    write 2 (bytes "datatype=Standard\ntaxa=1\ncharacters=1\nsymbols=01\nname=a\ncells=0\ncharacter=1\nlabel=\norder=UNORD\nstates=0\n")
    ≡ refused 31 0 0 2
unfolding write refused
c15 = refl

-- taxa=0.
c16 :
    write 2 (bytes "datatype=STANDARD\ntaxa=0\ncharacters=1\nsymbols=01\nname=a\ncells=0\ncharacter=1\nlabel=\norder=UNORD\nstates=0\n")
    ≡ refused 31 0 0 2
unfolding write refused
c16 = refl

-- characters=0.
c17 :
    write 2 (bytes "datatype=STANDARD\ntaxa=1\ncharacters=0\nsymbols=01\nname=a\ncells=0\ncharacter=1\nlabel=\norder=UNORD\nstates=0\n")
    ≡ refused 31 0 0 2
unfolding write refused
c17 = refl

-- A count above 1,048,576; the rows are not there either.
c18 :
    write 2 (bytes "datatype=STANDARD\ntaxa=1048577\ncharacters=1\nsymbols=01\nname=a\ncells=0\ncharacter=1\nlabel=\norder=UNORD\nstates=0\n")
    ≡ refused 31 0 0 2
unfolding write refused
c18 = refl

-- More taxa than rows.
c19 :
    write 2 (bytes "datatype=STANDARD\ntaxa=2\ncharacters=1\nsymbols=01\nname=a\ncells=0\ncharacter=1\nlabel=\norder=UNORD\nstates=0\n")
    ≡ refused 31 0 0 2
unfolding write refused
c19 = refl

-- Fewer taxa than rows.
c20 :
    write 2 (bytes "datatype=STANDARD\ntaxa=1\ncharacters=2\nsymbols=01\nname=a\ncells=0 1\nname=b\ncells=0 m\ncharacter=1\nlabel=\norder=UNORD\nstates=0\ncharacter=2\nlabel=\norder=UNORD\nstates=0\n")
    ≡ refused 31 0 0 2
unfolding write refused
c20 = refl

-- More characters than stand there.
c21 :
    write 2 (bytes "datatype=STANDARD\ntaxa=1\ncharacters=2\nsymbols=01\nname=a\ncells=0\ncharacter=1\nlabel=\norder=UNORD\nstates=0\n")
    ≡ refused 31 0 0 2
unfolding write refused
c21 = refl

-- DNA with other symbols.
c22 :
    write 2 (bytes "datatype=DNA\ntaxa=1\ncharacters=1\nsymbols=ACTG\nname=a\ncells=3\ncharacter=1\nlabel=\norder=UNORD\nstates=0\n")
    ≡ refused 31 0 0 2
unfolding write refused
c22 = refl

-- One symbol.
c23 :
    write 2 (bytes "datatype=STANDARD\ntaxa=1\ncharacters=1\nsymbols=0\nname=a\ncells=0\ncharacter=1\nlabel=\norder=UNORD\nstates=0\n")
    ≡ refused 31 0 0 2
unfolding write refused
c23 = refl

-- No symbol.
c24 :
    write 2 (bytes "datatype=STANDARD\ntaxa=1\ncharacters=1\nsymbols=\nname=a\ncells=0\ncharacter=1\nlabel=\norder=UNORD\nstates=0\n")
    ≡ refused 31 0 0 2
unfolding write refused
c24 = refl

-- An invalid symbol.
c25 :
    write 2 (bytes "datatype=STANDARD\ntaxa=1\ncharacters=1\nsymbols=0~\nname=a\ncells=0\ncharacter=1\nlabel=\norder=UNORD\nstates=0\n")
    ≡ refused 31 0 0 2
unfolding write refused
c25 = refl

-- Each mark that is no valid symbol: `\`.
c26 :
    write 2 (bytes "datatype=STANDARD\ntaxa=1\ncharacters=1\nsymbols=0\\\nname=a\ncells=0\ncharacter=1\nlabel=\norder=UNORD\nstates=0\n")
    ≡ refused 31 0 0 2
unfolding write refused
c26 = refl

-- `(` is no valid symbol.
c27 :
    write 2 (bytes "datatype=STANDARD\ntaxa=1\ncharacters=1\nsymbols=0(\nname=a\ncells=0\ncharacter=1\nlabel=\norder=UNORD\nstates=0\n")
    ≡ refused 31 0 0 2
unfolding write refused
c27 = refl

-- `)` is no valid symbol.
c28 :
    write 2 (bytes "datatype=STANDARD\ntaxa=1\ncharacters=1\nsymbols=0)\nname=a\ncells=0\ncharacter=1\nlabel=\norder=UNORD\nstates=0\n")
    ≡ refused 31 0 0 2
unfolding write refused
c28 = refl

-- `[` is no valid symbol.
c29 :
    write 2 (bytes "datatype=STANDARD\ntaxa=1\ncharacters=1\nsymbols=0[\nname=a\ncells=0\ncharacter=1\nlabel=\norder=UNORD\nstates=0\n")
    ≡ refused 31 0 0 2
unfolding write refused
c29 = refl

-- `]` is no valid symbol.
c30 :
    write 2 (bytes "datatype=STANDARD\ntaxa=1\ncharacters=1\nsymbols=0]\nname=a\ncells=0\ncharacter=1\nlabel=\norder=UNORD\nstates=0\n")
    ≡ refused 31 0 0 2
unfolding write refused
c30 = refl

-- `{` is no valid symbol.
c31 :
    write 2 (bytes "datatype=STANDARD\ntaxa=1\ncharacters=1\nsymbols=0{\nname=a\ncells=0\ncharacter=1\nlabel=\norder=UNORD\nstates=0\n")
    ≡ refused 31 0 0 2
unfolding write refused
c31 = refl

-- `}` is no valid symbol.
c32 :
    write 2 (bytes "datatype=STANDARD\ntaxa=1\ncharacters=1\nsymbols=0}\nname=a\ncells=0\ncharacter=1\nlabel=\norder=UNORD\nstates=0\n")
    ≡ refused 31 0 0 2
unfolding write refused
c32 = refl

-- `/` is no valid symbol.
c33 :
    write 2 (bytes "datatype=STANDARD\ntaxa=1\ncharacters=1\nsymbols=0/\nname=a\ncells=0\ncharacter=1\nlabel=\norder=UNORD\nstates=0\n")
    ≡ refused 31 0 0 2
unfolding write refused
c33 = refl

-- `,` is no valid symbol.
c34 :
    write 2 (bytes "datatype=STANDARD\ntaxa=1\ncharacters=1\nsymbols=0,\nname=a\ncells=0\ncharacter=1\nlabel=\norder=UNORD\nstates=0\n")
    ≡ refused 31 0 0 2
unfolding write refused
c34 = refl

-- `;` is no valid symbol.
c35 :
    write 2 (bytes "datatype=STANDARD\ntaxa=1\ncharacters=1\nsymbols=0;\nname=a\ncells=0\ncharacter=1\nlabel=\norder=UNORD\nstates=0\n")
    ≡ refused 31 0 0 2
unfolding write refused
c35 = refl

-- `:` is no valid symbol.
c36 :
    write 2 (bytes "datatype=STANDARD\ntaxa=1\ncharacters=1\nsymbols=0:\nname=a\ncells=0\ncharacter=1\nlabel=\norder=UNORD\nstates=0\n")
    ≡ refused 31 0 0 2
unfolding write refused
c36 = refl

-- `=` is no valid symbol.
c37 :
    write 2 (bytes "datatype=STANDARD\ntaxa=1\ncharacters=1\nsymbols=0=\nname=a\ncells=0\ncharacter=1\nlabel=\norder=UNORD\nstates=0\n")
    ≡ refused 31 0 0 2
unfolding write refused
c37 = refl

-- `*` is no valid symbol.
c38 :
    write 2 (bytes "datatype=STANDARD\ntaxa=1\ncharacters=1\nsymbols=0*\nname=a\ncells=0\ncharacter=1\nlabel=\norder=UNORD\nstates=0\n")
    ≡ refused 31 0 0 2
unfolding write refused
c38 = refl

-- `'` is no valid symbol.
c39 :
    write 2 (bytes "datatype=STANDARD\ntaxa=1\ncharacters=1\nsymbols=0'\nname=a\ncells=0\ncharacter=1\nlabel=\norder=UNORD\nstates=0\n")
    ≡ refused 31 0 0 2
unfolding write refused
c39 = refl

-- `"` is no valid symbol.
c40 :
    write 2 (bytes "datatype=STANDARD\ntaxa=1\ncharacters=1\nsymbols=0\"\nname=a\ncells=0\ncharacter=1\nlabel=\norder=UNORD\nstates=0\n")
    ≡ refused 31 0 0 2
unfolding write refused
c40 = refl

-- Backquote is no valid symbol.
c41 :
    write 2 (bytes "datatype=STANDARD\ntaxa=1\ncharacters=1\nsymbols=0`\nname=a\ncells=0\ncharacter=1\nlabel=\norder=UNORD\nstates=0\n")
    ≡ refused 31 0 0 2
unfolding write refused
c41 = refl

-- `<` is no valid symbol.
c42 :
    write 2 (bytes "datatype=STANDARD\ntaxa=1\ncharacters=1\nsymbols=0<\nname=a\ncells=0\ncharacter=1\nlabel=\norder=UNORD\nstates=0\n")
    ≡ refused 31 0 0 2
unfolding write refused
c42 = refl

-- `>` is no valid symbol.
c43 :
    write 2 (bytes "datatype=STANDARD\ntaxa=1\ncharacters=1\nsymbols=0>\nname=a\ncells=0\ncharacter=1\nlabel=\norder=UNORD\nstates=0\n")
    ≡ refused 31 0 0 2
unfolding write refused
c43 = refl

-- `^` is no valid symbol.
c44 :
    write 2 (bytes "datatype=STANDARD\ntaxa=1\ncharacters=1\nsymbols=0^\nname=a\ncells=0\ncharacter=1\nlabel=\norder=UNORD\nstates=0\n")
    ≡ refused 31 0 0 2
unfolding write refused
c44 = refl

-- DEL is no valid symbol.
c45 :
    write 2 (bytes "datatype=STANDARD\ntaxa=1\ncharacters=1\nsymbols=0" ++ (127 ∷ bytes "\nname=a\ncells=0\ncharacter=1\nlabel=\norder=UNORD\nstates=0\n"))
    ≡ refused 31 0 0 2
unfolding write refused
c45 = refl

-- A blank among the symbols.
c46 :
    write 2 (bytes "datatype=STANDARD\ntaxa=1\ncharacters=1\nsymbols=0 1\nname=a\ncells=0\ncharacter=1\nlabel=\norder=UNORD\nstates=0\n")
    ≡ refused 31 0 0 2
unfolding write refused
c46 = refl

-- A symbol twice.
c47 :
    write 2 (bytes "datatype=STANDARD\ntaxa=1\ncharacters=1\nsymbols=010\nname=a\ncells=0\ncharacter=1\nlabel=\norder=UNORD\nstates=0\n")
    ≡ refused 31 0 0 2
unfolding write refused
c47 = refl

-- A symbol twice, where the first is another.
c48 :
    write 2 (bytes "datatype=STANDARD\ntaxa=1\ncharacters=1\nsymbols=011\nname=a\ncells=0\ncharacter=1\nlabel=\norder=UNORD\nstates=0\n")
    ≡ refused 31 0 0 2
unfolding write refused
c48 = refl

-- 74 symbols.
c49 :
    write 2 (bytes "datatype=STANDARD\ntaxa=1\ncharacters=1\nsymbols=!#$%&+-.0123456789?@ABCDEFGHIJKLMNOPQRSTUVWXYZ_abcdefghijklmnopqrstuvwxyz|\nname=a\ncells=0\ncharacter=1\nlabel=\norder=UNORD\nstates=0\n")
    ≡ refused 31 0 0 2
unfolding write refused
c49 = refl

-- 73 symbols beside a gap cell.
c50 :
    write 2 (bytes "datatype=STANDARD\ntaxa=1\ncharacters=1\nsymbols=#$%&+-.0123456789?@ABCDEFGHIJKLMNOPQRSTUVWXYZ_abcdefghijklmnopqrstuvwxyz|\nname=a\ncells=g\ncharacter=1\nlabel=\norder=UNORD\nstates=0\n")
    ≡ refused 31 0 0 2
unfolding write refused
c50 = refl

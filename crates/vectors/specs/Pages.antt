-- Interleaved pages.
-- Made from host/definitions/chosen/09-pages.txt, with the Rust's answers.
use Rattle.std.specs.Prelude.{◌≡◌, refl}
use Rattle.lexer.specs.Base.{bytes}
use Rattle.vectors.specs.Asked.{read, answered, refused}

-- Two pages, a blank line between: names as on the first page.
c1 :
    read 208 (bytes "#NEXUS BEGIN DATA;DIMENSIONS NTAX=2 NCHAR=3;FORMAT INTERLEAVE;MATRIX\na 01\nb 10\n\nA 0\nB ?;END;")
    ≡ answered 1 (bytes "datatype=STANDARD\ntaxa=2\ncharacters=3\nsymbols=01\nname=a\ncells=0 1 0\nname=b\ncells=1 0 m\ncharacter=1\nlabel=\norder=UNORD\nstates=0\ncharacter=2\nlabel=\norder=UNORD\nstates=0\ncharacter=3\nlabel=\norder=UNORD\nstates=0\n")
unfolding read answered
c1 = refl

-- The first row on MATRIX's own line, lines with comments alone, CR LF.
c2 :
    read 211 (bytes "#NEXUS BEGIN DATA;DIMENSIONS NTAX=2 NCHAR=3;FORMAT INTERLEAVE;MATRIX a 01\r\n[x]\r\nb 10\r\n \r\na 1\r\nb{01};END;")
    ≡ answered 1 (bytes "datatype=STANDARD\ntaxa=2\ncharacters=3\nsymbols=01\nname=a\ncells=0 1 1\nname=b\ncells=1 0 u0.1\ncharacter=1\nlabel=\norder=UNORD\nstates=0\ncharacter=2\nlabel=\norder=UNORD\nstates=0\ncharacter=3\nlabel=\norder=UNORD\nstates=0\n")
unfolding read answered
c2 = refl

-- A newline inside a comment and inside a quoted name parts no line.
c3 :
    read 211 (bytes "#NEXUS BEGIN DATA;DIMENSIONS NTAX=2 NCHAR=3;FORMAT INTERLEAVE;MATRIX\n'a\nb' 0[\n]1 0\nc 111;END;")
    ≡ answered 1 (bytes "datatype=STANDARD\ntaxa=2\ncharacters=3\nsymbols=01\nname=a\\0b\ncells=0 1 0\nname=c\ncells=1 1 1\ncharacter=1\nlabel=\norder=UNORD\nstates=0\ncharacter=2\nlabel=\norder=UNORD\nstates=0\ncharacter=3\nlabel=\norder=UNORD\nstates=0\n")
unfolding read answered
c3 = refl

-- Three pages.
c4 :
    read 211 (bytes "#NEXUS BEGIN DATA;DIMENSIONS NTAX=2 NCHAR=3;FORMAT INTERLEAVE;MATRIX\na 0\nb 1\na 1\nb 0\na ?\nb (01);END;")
    ≡ answered 1 (bytes "datatype=STANDARD\ntaxa=2\ncharacters=3\nsymbols=01\nname=a\ncells=0 1 m\nname=b\ncells=1 0 p0.1\ncharacter=1\nlabel=\norder=UNORD\nstates=0\ncharacter=2\nlabel=\norder=UNORD\nstates=0\ncharacter=3\nlabel=\norder=UNORD\nstates=0\n")
unfolding read answered
c4 = refl

-- INTERLEAVE=YES; one taxon, a page each line.
c5 :
    read 147 (bytes "#NEXUS BEGIN DATA;DIMENSIONS NTAX=1 NCHAR=2;FORMAT INTERLEAVE=YES;MATRIX\na 0\na 1;END;")
    ≡ answered 1 (bytes "datatype=STANDARD\ntaxa=1\ncharacters=2\nsymbols=01\nname=a\ncells=0 1\ncharacter=1\nlabel=\norder=UNORD\nstates=0\ncharacter=2\nlabel=\norder=UNORD\nstates=0\n")
unfolding read answered
c5 = refl

-- INTERLEAVE=NO: rows break anywhere.
c6 :
    read 147 (bytes "#NEXUS BEGIN DATA;DIMENSIONS NTAX=1 NCHAR=2;FORMAT INTERLEAVE=NO;MATRIX\na\n0\n1;END;")
    ≡ answered 1 (bytes "datatype=STANDARD\ntaxa=1\ncharacters=2\nsymbols=01\nname=a\ncells=0 1\ncharacter=1\nlabel=\norder=UNORD\nstates=0\ncharacter=2\nlabel=\norder=UNORD\nstates=0\n")
unfolding read answered
c6 = refl

-- Pages of declared taxa: the declared order and spelling.
c7 :
    read 164 (bytes "#NEXUS BEGIN DATA;DIMENSIONS NTAX=2 NCHAR=2;TAXLABELS b A;FORMAT INTERLEAVE;MATRIX\na 0\nB 1\na 0\nb 1;END;")
    ≡ answered 1 (bytes "datatype=STANDARD\ntaxa=2\ncharacters=2\nsymbols=01\nname=b\ncells=1 1\nname=A\ncells=0 0\ncharacter=1\nlabel=\norder=UNORD\nstates=0\ncharacter=2\nlabel=\norder=UNORD\nstates=0\n")
unfolding read answered
c7 = refl

-- A page with too few lines is 16 at its first token, before its own lines.
c8 :
    read 2 (bytes "#NEXUS BEGIN DATA;DIMENSIONS NTAX=2 NCHAR=3;FORMAT INTERLEAVE;MATRIX\na 01\nb 10\n \"a\" 2;END;")
    ≡ refused 16 4 2 2
unfolding read refused
c8 = refl

-- A short first page: nothing else is judged.
c9 :
    read 2 (bytes "#NEXUS BEGIN DATA;DIMENSIONS NTAX=2 NCHAR=3;FORMAT INTERLEAVE;MATRIX\n] 2;END;")
    ≡ refused 16 2 1 2
unfolding read refused
c9 = refl

-- A fault of an earlier page comes before a short page.
c10 :
    read 2 (bytes "#NEXUS BEGIN DATA;DIMENSIONS NTAX=2 NCHAR=3;FORMAT INTERLEAVE;MATRIX\na 01\nb 12\na 0;END;")
    ≡ refused 22 3 3 2
unfolding read refused
c10 = refl

-- A line that begins with no name is 17.
c11 :
    read 2 (bytes "#NEXUS BEGIN DATA;DIMENSIONS NTAX=2 NCHAR=3;FORMAT INTERLEAVE;MATRIX\na 01\n= 10;END;")
    ≡ refused 17 3 1 2
unfolding read refused
c11 = refl

-- A later page's line that begins with no name is 17.
c12 :
    read 2 (bytes "#NEXUS BEGIN DATA;DIMENSIONS NTAX=2 NCHAR=3;FORMAT INTERLEAVE;MATRIX\na 01\nb 10\na 0\n\"b\" 0;END;")
    ≡ refused 17 5 1 2
unfolding read refused
c12 = refl

-- A name twice on the first page is 18.
c13 :
    read 2 (bytes "#NEXUS BEGIN DATA;DIMENSIONS NTAX=2 NCHAR=3;FORMAT INTERLEAVE;MATRIX\na 01\nA 10;END;")
    ≡ refused 18 3 1 2
unfolding read refused
c13 = refl

-- A name twice on the first page, where the first is another.
c14 :
    read 2 (bytes "#NEXUS BEGIN DATA;DIMENSIONS NTAX=3 NCHAR=1;FORMAT INTERLEAVE;MATRIX\na 0\nb 0\nb 1;END;")
    ≡ refused 18 4 1 2
unfolding read refused
c14 = refl

-- Names of a later page in another order are 24 at the name.
c15 :
    read 2 (bytes "#NEXUS BEGIN DATA;DIMENSIONS NTAX=2 NCHAR=3;FORMAT INTERLEAVE;MATRIX\na 01\nb 10\nb 0\na 0;END;")
    ≡ refused 24 4 1 2
unfolding read refused
c15 = refl

-- A name is judged before the cells of its line.
c16 :
    read 2 (bytes "#NEXUS BEGIN DATA;DIMENSIONS NTAX=2 NCHAR=3;FORMAT INTERLEAVE;MATRIX\na 01\nb 10\nc 2\nb 0;END;")
    ≡ refused 24 4 1 2
unfolding read refused
c16 = refl

-- A line without cells is 24 at its name.
c17 :
    read 2 (bytes "#NEXUS BEGIN DATA;DIMENSIONS NTAX=2 NCHAR=3;FORMAT INTERLEAVE;MATRIX\na\n01\nb 01;END;")
    ≡ refused 24 2 1 2
unfolding read refused
c17 = refl

-- A line of another width is 24 at its name.
c18 :
    read 2 (bytes "#NEXUS BEGIN DATA;DIMENSIONS NTAX=2 NCHAR=3;FORMAT INTERLEAVE;MATRIX\na 01\nb 010;END;")
    ≡ refused 24 3 1 2
unfolding read refused
c18 = refl

-- The width of a page counts cells, not marks.
c19 :
    read 211 (bytes "#NEXUS BEGIN DATA;DIMENSIONS NTAX=2 NCHAR=3;FORMAT INTERLEAVE;MATRIX\na {01}10\nb 010;END;")
    ≡ answered 1 (bytes "datatype=STANDARD\ntaxa=2\ncharacters=3\nsymbols=01\nname=a\ncells=u0.1 1 0\nname=b\ncells=0 1 0\ncharacter=1\nlabel=\norder=UNORD\nstates=0\ncharacter=2\nlabel=\norder=UNORD\nstates=0\ncharacter=3\nlabel=\norder=UNORD\nstates=0\n")
unfolding read answered
c19 = refl

-- A line too long for NCHAR is 24 at its name.
c20 :
    read 2 (bytes "#NEXUS BEGIN DATA;DIMENSIONS NTAX=2 NCHAR=3;FORMAT INTERLEAVE;MATRIX\na 01\nb 10\na 01\nb 01;END;")
    ≡ refused 24 4 1 2
unfolding read refused
c20 = refl

-- An undeclared symbol is 22 at its word.
c21 :
    read 2 (bytes "#NEXUS BEGIN DATA;DIMENSIONS NTAX=2 NCHAR=3;FORMAT INTERLEAVE;MATRIX\na 0 2\nb 10;END;")
    ≡ refused 22 2 5 2
unfolding read refused
c21 = refl

-- A set must close on its line: 23 at its bracket.
c22 :
    read 2 (bytes "#NEXUS BEGIN DATA;DIMENSIONS NTAX=2 NCHAR=3;FORMAT INTERLEAVE;MATRIX\na 01{0\n1}\nb 010;END;")
    ≡ refused 23 2 5 2
unfolding read refused
c22 = refl

-- An empty set is 23.
c23 :
    read 2 (bytes "#NEXUS BEGIN DATA;DIMENSIONS NTAX=2 NCHAR=3;FORMAT INTERLEAVE;MATRIX\na 01{}\nb 010;END;")
    ≡ refused 23 2 5 2
unfolding read refused
c23 = refl

-- Rows that end short are 16 at MATRIX, not 24.
c24 :
    read 2 (bytes "#NEXUS BEGIN DATA;DIMENSIONS NTAX=2 NCHAR=3;FORMAT INTERLEAVE;MATRIX\na 01\nb 10;END;")
    ≡ refused 16 1 63 2
unfolding read refused
c24 = refl

-- No line at all is 16 at MATRIX.
c25 :
    read 2 (bytes "#NEXUS BEGIN DATA;DIMENSIONS NTAX=2 NCHAR=3;FORMAT INTERLEAVE;MATRIX\n [x]\n;END;")
    ≡ refused 16 1 63 2
unfolding read refused
c25 = refl

-- DNA in pages.
c26 :
    read 161 (bytes "#NEXUS BEGIN DATA;DIMENSIONS NTAX=2 NCHAR=2;FORMAT DATATYPE=DNA INTERLEAVE;MATRIX\na A\nb C\na G\nb T;END;")
    ≡ answered 1 (bytes "datatype=DNA\ntaxa=2\ncharacters=2\nsymbols=ACGT\nname=a\ncells=0 2\nname=b\ncells=1 3\ncharacter=1\nlabel=\norder=UNORD\nstates=0\ncharacter=2\nlabel=\norder=UNORD\nstates=0\n")
unfolding read answered
c26 = refl

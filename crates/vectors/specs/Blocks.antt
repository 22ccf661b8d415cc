-- Blocks: what begins and ends them, which may follow which, and commands that do not end.
-- Made from host/definitions/chosen/03-blocks.txt, with the Rust's answers.
use Rattle.std.specs.Prelude.{◌≡◌, refl}
use Rattle.lexer.specs.Base.{bytes}
use Rattle.vectors.specs.Asked.{read, answered, refused}

-- The least text that is read.
c1 :
    read 105 (bytes "#NEXUS BEGIN DATA;DIMENSIONS NTAX=1 NCHAR=1;MATRIX a 0;END; ")
    ≡ answered 1 (bytes "datatype=STANDARD\ntaxa=1\ncharacters=1\nsymbols=01\nname=a\ncells=0\ncharacter=1\nlabel=\norder=UNORD\nstates=0\n")
unfolding read answered
c1 = refl

-- Keywords in small letters, newlines between all words, ENDBLOCK, CHARACTERS.
c2 :
    read 105 (bytes "#nexus\nbegin\ncharacters\n;\ndimensions\nntax\n=\n1\nnchar\n=\n1\n;\nmatrix\na\n0\n;\nendblock\n;")
    ≡ answered 1 (bytes "datatype=STANDARD\ntaxa=1\ncharacters=1\nsymbols=01\nname=a\ncells=0\ncharacter=1\nlabel=\norder=UNORD\nstates=0\n")
unfolding read answered
c2 = refl

-- TREES is passed over anywhere, any number of times, whatever it holds.
c3 :
    read 105 (bytes "#NEXUS BEGIN TREES;x ( = ];'END' y;END;BEGIN DATA;DIMENSIONS NTAX=1 NCHAR=1;MATRIX a 0;END;BEGIN trees;MATRIX;ENDBLOCK;")
    ≡ answered 1 (bytes "datatype=STANDARD\ntaxa=1\ncharacters=1\nsymbols=01\nname=a\ncells=0\ncharacter=1\nlabel=\norder=UNORD\nstates=0\n")
unfolding read answered
c3 = refl

-- A TAXA block, a CHARACTERS block, an empty ASSUMPTIONS block.
c4 :
    read 105 (bytes "#NEXUS BEGIN TAXA;DIMENSIONS NTAX=1;TAXLABELS a;END;BEGIN CHARACTERS;DIMENSIONS NCHAR=1;MATRIX a 1;END;BEGIN ASSUMPTIONS;END;")
    ≡ answered 1 (bytes "datatype=STANDARD\ntaxa=1\ncharacters=1\nsymbols=01\nname=a\ncells=1\ncharacter=1\nlabel=\norder=UNORD\nstates=0\n")
unfolding read answered
c4 = refl

-- `;` behind #NEXUS is an empty command: 7 at it.
c5 :
    read 2 (bytes "#NEXUS;")
    ≡ refused 7 1 7 2
unfolding read refused
c5 = refl

-- `;` behind a newline in a block is 7, before what stands behind it.
c6 :
    read 2 (bytes "#NEXUS BEGIN DATA;\n;x;END;")
    ≡ refused 7 2 1 2
unfolding read refused
c6 = refl

-- An empty command in TREES is 7.
c7 :
    read 2 (bytes "#NEXUS BEGIN TREES;\n;END;")
    ≡ refused 7 2 1 2
unfolding read refused
c7 = refl

-- A command that never ends is 8 at its first token, whatever it is.
c8 :
    read 2 (bytes "#NEXUS\n\nBEGIN DATA")
    ≡ refused 8 3 1 2
unfolding read refused
c8 = refl

-- A command that never ends is 8 before it is judged: DIMENSIONS with a wrong option.
c9 :
    read 2 (bytes "#NEXUS BEGIN DATA;DIMENSIONS X=1")
    ≡ refused 8 1 19 2
unfolding read refused
c9 = refl

-- 8 in TREES.
c10 :
    read 2 (bytes "#NEXUS BEGIN TREES;x y")
    ≡ refused 8 1 20 2
unfolding read refused
c10 = refl

-- A block that nothing follows is 9 at its name.
c11 :
    read 2 (bytes "#NEXUS BEGIN\nDATA;")
    ≡ refused 9 2 1 2
unfolding read refused
c11 = refl

-- A DATA block with its matrix and without END is 9, not 14.
c12 :
    read 2 (bytes "#NEXUS BEGIN DATA;DIMENSIONS NTAX=1 NCHAR=1;MATRIX a 0;\n")
    ≡ refused 9 1 14 2
unfolding read refused
c12 = refl

-- A TAXA block without END is 9 at its name.
c13 :
    read 2 (bytes "#NEXUS\nBEGIN TAXA;\n")
    ≡ refused 9 2 7 2
unfolding read refused
c13 = refl

-- An ASSUMPTIONS block without END is 9.
c14 :
    read 2 (bytes "#NEXUS BEGIN DATA;DIMENSIONS NTAX=1 NCHAR=1;MATRIX a 0;END;BEGIN ASSUMPTIONS;OPTIONS DEFTYPE=ORD;")
    ≡ refused 9 1 66 2
unfolding read refused
c14 = refl

-- A TREES block without END is 9.
c15 :
    read 2 (bytes "#NEXUS BEGIN DATA;DIMENSIONS NTAX=1 NCHAR=1;MATRIX a 0;END;BEGIN TREES;x;")
    ≡ refused 9 1 66 2
unfolding read refused
c15 = refl

-- A word after END is 10 at END, before an absent matrix.
c16 :
    read 2 (bytes "#NEXUS BEGIN DATA;END x;END;")
    ≡ refused 10 1 19 2
unfolding read refused
c16 = refl

-- A word after ENDBLOCK in TREES is 10.
c17 :
    read 2 (bytes "#NEXUS BEGIN TREES;ENDBLOCK ];")
    ≡ refused 10 1 20 2
unfolding read refused
c17 = refl

-- A newline after END is no word.
c18 :
    read 105 (bytes "#NEXUS BEGIN DATA;DIMENSIONS NTAX=1 NCHAR=1;MATRIX a 1;END\n\n;")
    ≡ answered 1 (bytes "datatype=STANDARD\ntaxa=1\ncharacters=1\nsymbols=01\nname=a\ncells=1\ncharacter=1\nlabel=\norder=UNORD\nstates=0\n")
unfolding read answered
c18 = refl

-- A command at the top that is not BEGIN and a name is 11 at its first token.
c19 :
    read 2 (bytes "#NEXUS DATA BEGIN;")
    ≡ refused 11 1 8 2
unfolding read refused
c19 = refl

-- BEGIN alone is 11.
c20 :
    read 2 (bytes "#NEXUS BEGIN;")
    ≡ refused 11 1 8 2
unfolding read refused
c20 = refl

-- BEGIN and two names are 11 at BEGIN.
c21 :
    read 2 (bytes "#NEXUS BEGIN DATA TAXA;")
    ≡ refused 11 1 8 2
unfolding read refused
c21 = refl

-- END at the top is 11.
c22 :
    read 2 (bytes "#NEXUS END;")
    ≡ refused 11 1 8 2
unfolding read refused
c22 = refl

-- A quoted BEGIN is 11.
c23 :
    read 2 (bytes "#NEXUS 'BEGIN' DATA;")
    ≡ refused 11 1 8 2
unfolding read refused
c23 = refl

-- An unknown block is 12 at its name, before its commands.
c24 :
    read 2 (bytes "#NEXUS BEGIN X;;END;")
    ≡ refused 12 1 14 2
unfolding read refused
c24 = refl

-- A keyword with a letter more is another word.
c25 :
    read 2 (bytes "#NEXUS BEGIN DATAS;")
    ≡ refused 12 1 14 2
unfolding read refused
c25 = refl

-- DAT is no DATA.
c26 :
    read 2 (bytes "#NEXUS BEGIN DAT;")
    ≡ refused 12 1 14 2
unfolding read refused
c26 = refl

-- A quoted name and a mark are unknown blocks.
c27 :
    read 2 (bytes "#NEXUS BEGIN 'DATA';END;")
    ≡ refused 12 1 14 2
unfolding read refused
c27 = refl

-- BEGIN = is 12 at the mark, not 11.
c28 :
    read 2 (bytes "#NEXUS BEGIN =;")
    ≡ refused 12 1 14 2
unfolding read refused
c28 = refl

-- A second TAXA block is 12 at its name.
c29 :
    read 2 (bytes "#NEXUS BEGIN TAXA;DIMENSIONS NTAX=1;TAXLABELS a;END;BEGIN TAXA;x;END;")
    ≡ refused 12 1 59 2
unfolding read refused
c29 = refl

-- A TAXA block behind the matrix is 12.
c30 :
    read 2 (bytes "#NEXUS BEGIN DATA;DIMENSIONS NTAX=1 NCHAR=1;MATRIX a 0;END;BEGIN TAXA;DIMENSIONS NTAX=1;TAXLABELS a;END;")
    ≡ refused 12 1 66 2
unfolding read refused
c30 = refl

-- A second matrix is 12, CHARACTERS behind DATA.
c31 :
    read 2 (bytes "#NEXUS BEGIN DATA;DIMENSIONS NTAX=1 NCHAR=1;MATRIX a 0;END;BEGIN CHARACTERS;END;")
    ≡ refused 12 1 66 2
unfolding read refused
c31 = refl

-- ASSUMPTIONS before the matrix is 12.
c32 :
    read 2 (bytes "#NEXUS BEGIN ASSUMPTIONS;END;")
    ≡ refused 12 1 14 2
unfolding read refused
c32 = refl

-- A second ASSUMPTIONS block is 12.
c33 :
    read 2 (bytes "#NEXUS BEGIN DATA;DIMENSIONS NTAX=1 NCHAR=1;MATRIX a 0;END;BEGIN ASSUMPTIONS;END;BEGIN ASSUMPTIONS;END;")
    ≡ refused 12 1 88 2
unfolding read refused
c33 = refl

-- No matrix at all is 14 at #NEXUS.
c34 :
    read 2 (bytes "\n #NEXUS BEGIN TAXA;DIMENSIONS NTAX=1;TAXLABELS a;END;")
    ≡ refused 14 2 2 2
unfolding read refused
c34 = refl

-- 14 at #NEXUS comes last: a fault in a later block is met first.
c35 :
    read 2 (bytes "#NEXUS BEGIN TREES;END;BEGIN X;")
    ≡ refused 12 1 30 2
unfolding read refused
c35 = refl

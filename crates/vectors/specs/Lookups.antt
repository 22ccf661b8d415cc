-- Lookups: the stretch of a taxon's cells in a record.
-- Made from host/definitions/chosen/16-lookups.txt, with the Rust's answers.
use Rattle.std.specs.Prelude.{[], ◌∷◌, ◌++◌, ◌≡◌, refl}
use Rattle.lexer.specs.Base.{bytes}
use Rattle.record.specs.Run.{run_lookup}

-- The first taxon.
c1 :
    run_lookup (bytes "a b") (bytes "datatype=STANDARD\ntaxa=3\ncharacters=2\nsymbols=01\nname=a b\ncells=0 u0.1\nname=\\0\\1" ++ (195 ∷ 137 ∷ bytes "\ncells=m 1\nname=C\ncells=p1 g\ncharacter=1\nlabel=C\norder=UNORD\nstates=0\ncharacter=2\nlabel=\norder=ORD\nstates=0\n"))
    ≡ 0 ∷ 64 ∷ 6 ∷ []
unfolding run_lookup
c1 = refl

-- The last taxon, in another case.
c2 :
    run_lookup (bytes "c") (bytes "datatype=STANDARD\ntaxa=3\ncharacters=2\nsymbols=01\nname=a b\ncells=0 u0.1\nname=\\0\\1" ++ (195 ∷ 137 ∷ bytes "\ncells=m 1\nname=C\ncells=p1 g\ncharacter=1\nlabel=C\norder=UNORD\nstates=0\ncharacter=2\nlabel=\norder=ORD\nstates=0\n"))
    ≡ 0 ∷ 106 ∷ 4 ∷ []
unfolding run_lookup
c2 = refl

-- The second: escapes are read back, and take their bytes in the record.
c3 :
    run_lookup (bytes "\n\\" ++ (195 ∷ 137 ∷ [])) (bytes "datatype=STANDARD\ntaxa=3\ncharacters=2\nsymbols=01\nname=a b\ncells=0 u0.1\nname=\\0\\1" ++ (195 ∷ 137 ∷ bytes "\ncells=m 1\nname=C\ncells=p1 g\ncharacter=1\nlabel=C\norder=UNORD\nstates=0\ncharacter=2\nlabel=\norder=ORD\nstates=0\n"))
    ≡ 0 ∷ 89 ∷ 3 ∷ []
unfolding run_lookup
c3 = refl

-- The first in capitals.
c4 :
    run_lookup (bytes "A B") (bytes "datatype=STANDARD\ntaxa=3\ncharacters=2\nsymbols=01\nname=a b\ncells=0 u0.1\nname=\\0\\1" ++ (195 ∷ 137 ∷ bytes "\ncells=m 1\nname=C\ncells=p1 g\ncharacter=1\nlabel=C\norder=UNORD\nstates=0\ncharacter=2\nlabel=\norder=ORD\nstates=0\n"))
    ≡ 0 ∷ 64 ∷ 6 ∷ []
unfolding run_lookup
c4 = refl

-- No such name is 33.
c5 :
    run_lookup (bytes "d") (bytes "datatype=STANDARD\ntaxa=3\ncharacters=2\nsymbols=01\nname=a b\ncells=0 u0.1\nname=\\0\\1" ++ (195 ∷ 137 ∷ bytes "\ncells=m 1\nname=C\ncells=p1 g\ncharacter=1\nlabel=C\norder=UNORD\nstates=0\ncharacter=2\nlabel=\norder=ORD\nstates=0\n"))
    ≡ 33 ∷ 0 ∷ 0 ∷ []
unfolding run_lookup
c5 = refl

-- The front of a name is not the name.
c6 :
    run_lookup (bytes "a") (bytes "datatype=STANDARD\ntaxa=3\ncharacters=2\nsymbols=01\nname=a b\ncells=0 u0.1\nname=\\0\\1" ++ (195 ∷ 137 ∷ bytes "\ncells=m 1\nname=C\ncells=p1 g\ncharacter=1\nlabel=C\norder=UNORD\nstates=0\ncharacter=2\nlabel=\norder=ORD\nstates=0\n"))
    ≡ 33 ∷ 0 ∷ 0 ∷ []
unfolding run_lookup
c6 = refl

-- More than a name is not the name.
c7 :
    run_lookup (bytes "a bc") (bytes "datatype=STANDARD\ntaxa=3\ncharacters=2\nsymbols=01\nname=a b\ncells=0 u0.1\nname=\\0\\1" ++ (195 ∷ 137 ∷ bytes "\ncells=m 1\nname=C\ncells=p1 g\ncharacter=1\nlabel=C\norder=UNORD\nstates=0\ncharacter=2\nlabel=\norder=ORD\nstates=0\n"))
    ≡ 33 ∷ 0 ∷ 0 ∷ []
unfolding run_lookup
c7 = refl

-- The caller's `_` is no blank.
c8 :
    run_lookup (bytes "a_b") (bytes "datatype=STANDARD\ntaxa=3\ncharacters=2\nsymbols=01\nname=a b\ncells=0 u0.1\nname=\\0\\1" ++ (195 ∷ 137 ∷ bytes "\ncells=m 1\nname=C\ncells=p1 g\ncharacter=1\nlabel=C\norder=UNORD\nstates=0\ncharacter=2\nlabel=\norder=ORD\nstates=0\n"))
    ≡ 33 ∷ 0 ∷ 0 ∷ []
unfolding run_lookup
c8 = refl

-- The caller's escapes are not read.
c9 :
    run_lookup (bytes "\\0\\1" ++ (195 ∷ 137 ∷ [])) (bytes "datatype=STANDARD\ntaxa=3\ncharacters=2\nsymbols=01\nname=a b\ncells=0 u0.1\nname=\\0\\1" ++ (195 ∷ 137 ∷ bytes "\ncells=m 1\nname=C\ncells=p1 g\ncharacter=1\nlabel=C\norder=UNORD\nstates=0\ncharacter=2\nlabel=\norder=ORD\nstates=0\n"))
    ≡ 33 ∷ 0 ∷ 0 ∷ []
unfolding run_lookup
c9 = refl

-- Case is folded in ASCII alone.
c10 :
    run_lookup (bytes "\n\\" ++ (195 ∷ 169 ∷ [])) (bytes "datatype=STANDARD\ntaxa=3\ncharacters=2\nsymbols=01\nname=a b\ncells=0 u0.1\nname=\\0\\1" ++ (195 ∷ 137 ∷ bytes "\ncells=m 1\nname=C\ncells=p1 g\ncharacter=1\nlabel=C\norder=UNORD\nstates=0\ncharacter=2\nlabel=\norder=ORD\nstates=0\n"))
    ≡ 33 ∷ 0 ∷ 0 ∷ []
unfolding run_lookup
c10 = refl

-- The empty name is 33.
c11 :
    run_lookup [] (bytes "datatype=STANDARD\ntaxa=3\ncharacters=2\nsymbols=01\nname=a b\ncells=0 u0.1\nname=\\0\\1" ++ (195 ∷ 137 ∷ bytes "\ncells=m 1\nname=C\ncells=p1 g\ncharacter=1\nlabel=C\norder=UNORD\nstates=0\ncharacter=2\nlabel=\norder=ORD\nstates=0\n"))
    ≡ 33 ∷ 0 ∷ 0 ∷ []
unfolding run_lookup
c11 = refl

-- A name that is not UTF-8 is 33.
c12 :
    run_lookup (255 ∷ []) (bytes "datatype=STANDARD\ntaxa=3\ncharacters=2\nsymbols=01\nname=a b\ncells=0 u0.1\nname=\\0\\1" ++ (195 ∷ 137 ∷ bytes "\ncells=m 1\nname=C\ncells=p1 g\ncharacter=1\nlabel=C\norder=UNORD\nstates=0\ncharacter=2\nlabel=\norder=ORD\nstates=0\n"))
    ≡ 33 ∷ 0 ∷ 0 ∷ []
unfolding run_lookup
c12 = refl

-- A label is no name.
c13 :
    run_lookup (bytes "label=C") (bytes "datatype=STANDARD\ntaxa=3\ncharacters=2\nsymbols=01\nname=a b\ncells=0 u0.1\nname=\\0\\1" ++ (195 ∷ 137 ∷ bytes "\ncells=m 1\nname=C\ncells=p1 g\ncharacter=1\nlabel=C\norder=UNORD\nstates=0\ncharacter=2\nlabel=\norder=ORD\nstates=0\n"))
    ≡ 33 ∷ 0 ∷ 0 ∷ []
unfolding run_lookup
c13 = refl

-- A record with a fault behind the row that is asked for is 31.
c14 :
    run_lookup (bytes "a b") (bytes "datatype=STANDARD\ntaxa=3\ncharacters=2\nsymbols=01\nname=a b\ncells=0 u0.1\nname=\\0\\1" ++ (195 ∷ 137 ∷ bytes "\ncells=m 1\nname=C\ncells=p1 g\ncharacter=1\nlabel=C\norder=UNORD\nstates=0\ncharacter=2\nlabel=\norder=X\nstates=0\n"))
    ≡ 31 ∷ 0 ∷ 0 ∷ []
unfolding run_lookup
c14 = refl

-- 31 comes before 33.
c15 :
    run_lookup (bytes "d") (bytes "datatype=STANDARD\ntaxa=3\ncharacters=2\nsymbols=01\nname=a b\ncells=0 u0.1\nname=\\0\\1" ++ (195 ∷ 137 ∷ bytes "\ncells=m 2\nname=C\ncells=p1 g\ncharacter=1\nlabel=C\norder=UNORD\nstates=0\ncharacter=2\nlabel=\norder=ORD\nstates=0\n"))
    ≡ 31 ∷ 0 ∷ 0 ∷ []
unfolding run_lookup
c15 = refl

-- A single taxon of one cell.
c16 :
    run_lookup (bytes "x") (bytes "datatype=DNA\ntaxa=1\ncharacters=1\nsymbols=ACGT\nname=X\ncells=u0.1.2.3\ncharacter=1\nlabel=\norder=UNORD\nstates=0\n")
    ≡ 0 ∷ 59 ∷ 8 ∷ []
unfolding run_lookup
c16 = refl

-- Ten taxa: the count in the head has two digits.
c17 :
    run_lookup (bytes "9") (bytes "datatype=STANDARD\ntaxa=10\ncharacters=1\nsymbols=01\nname=0\ncells=0\nname=1\ncells=0\nname=2\ncells=0\nname=3\ncells=0\nname=4\ncells=0\nname=5\ncells=0\nname=6\ncells=0\nname=7\ncells=0\nname=8\ncells=0\nname=9\ncells=1\ncharacter=1\nlabel=\norder=UNORD\nstates=0\n")
    ≡ 0 ∷ 198 ∷ 1 ∷ []
unfolding run_lookup
c17 = refl

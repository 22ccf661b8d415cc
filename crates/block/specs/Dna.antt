-- The IUPAC codes: four states, and for the eleven ambiguity codes the set of states that each allows.
use Rattle.std.specs.Prelude.{ℕ, eqb, Bool, List, [], ◌∷◌}
use Rattle.block.specs.Cell.{Cell, state, uncertain}
use Rattle.lexer.specs.Base.{pick, lower, given, bytes, byte}
use Rattle.std.proofs.Math.Option.{Option, none, some}

-- The symbols of DNA, in the order of their indices.
unfoldable pub acgt : List ℕ
acgt = bytes "ACGT"

-- The cell of a small letter: a c g t, r y s w k m, b d h v, n.
unfoldable pub dna_letter : ℕ → Option Cell
dna_letter b =
    pick (eqb b (byte "a")) (some (state 0))
    (pick (eqb b (byte "c")) (some (state 1))
    (pick (eqb b (byte "g")) (some (state 2))
    (pick (eqb b (byte "t")) (some (state 3))
    (pick (eqb b (byte "r")) (some (uncertain (0 ∷ 2 ∷ [])))
    (pick (eqb b (byte "y")) (some (uncertain (1 ∷ 3 ∷ [])))
    (pick (eqb b (byte "s")) (some (uncertain (1 ∷ 2 ∷ [])))
    (pick (eqb b (byte "w")) (some (uncertain (0 ∷ 3 ∷ [])))
    (pick (eqb b (byte "k")) (some (uncertain (2 ∷ 3 ∷ [])))
    (pick (eqb b (byte "m")) (some (uncertain (0 ∷ 1 ∷ [])))
    (pick (eqb b (byte "b")) (some (uncertain (1 ∷ 2 ∷ 3 ∷ [])))
    (pick (eqb b (byte "d")) (some (uncertain (0 ∷ 2 ∷ 3 ∷ [])))
    (pick (eqb b (byte "h")) (some (uncertain (0 ∷ 1 ∷ 3 ∷ [])))
    (pick (eqb b (byte "v")) (some (uncertain (0 ∷ 1 ∷ 2 ∷ [])))
    (pick (eqb b (byte "n")) (some (uncertain (0 ∷ 1 ∷ 2 ∷ 3 ∷ [])))
    none))))))))))))))

-- The cell of a DNA code, ASCII case ignored.
unfoldable pub dna_cell : ℕ → Option Cell
dna_cell b = dna_letter (lower b)

-- Is the byte a DNA code?
unfoldable pub dna_code : ℕ → Bool
dna_code b = given (dna_cell b)

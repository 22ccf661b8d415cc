-- How a chosen question is put, and what its answer is. A lent buffer holds 170 everywhere before a call.
use Rattle.std.specs.Prelude.{ℕ, ◌+◌, ◌*◌, length, replicate, List, [], ◌∷◌, ◌++◌}
use Rattle.record.specs.Decimal.{decimal}
use Rattle.record.specs.Run.{run_read, run_write}
use Rattle.record.specs.Spell.{line}

-- A read call with just the work memory that the text needs, and a buffer of so many bytes.
unfoldable pub read : ℕ → List ℕ → List (List ℕ)
unfolding run_read
read room text = run_read (4 * length text + 64) room text

-- The same with one number of work memory less.
unfoldable pub read_with_little : ℕ → List ℕ → List (List ℕ)
unfolding run_read
read_with_little room text = run_read (4 * length text + 63) room text

-- A write call with a buffer of so many bytes.
unfoldable pub write : ℕ → List ℕ → List (List ℕ)
unfolding run_write
write room record_bytes = run_write room record_bytes

-- The answer is printed and stands in the buffer, whose last bytes, so many, are untouched.
unfoldable pub answered : ℕ → List ℕ → List (List ℕ)
answered spare b = b ∷ (b ++ replicate spare 170) ∷ []

-- A refusal's number, line and column are printed, and the buffer, of so many bytes, is untouched.
unfoldable pub refused : ℕ → ℕ → ℕ → ℕ → List (List ℕ)
unfolding run_read
refused n l c room = line "refused=" (decimal n) (line "line=" (decimal l) (line "column=" (decimal c) [])) ∷ replicate room 170 ∷ []

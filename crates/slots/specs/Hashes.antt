-- A number for each name, the same for names that are alike.
use Rattle.std.specs.Prelude.{ℕ, ◌+◌, ◌*◌, ◌%◌, List, [], ◌∷◌}
use Rattle.lexer.specs.Base.{lower}

-- The number of a name with one byte more; ASCII case is ignored.
unfoldable pub mixed : ℕ → ℕ → ℕ
mixed h b = (h + lower b) * 2654435761 % 4294967296

unfoldable pub hash_from : ℕ → List ℕ → ℕ
hash_from h [] = h
hash_from h (b ∷ r) = hash_from (mixed h b) r

-- The number of a name.
unfoldable pub hash : List ℕ → ℕ
hash n = hash_from 0 n

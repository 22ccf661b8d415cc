-- The byte patterns of the definition are the UTF-8 of Unicode's White_Space: tested over every character below U+3100. From there on the first
-- byte is above 227, or 227 before a byte from 132 on, and no pattern begins so. Assumes nothing.
use Prim.Native.Nat.{ℕ, ◌+◌, ◌/◌, ◌%◌}
use Rattle.lexer.proofs.Basics.{all_under}
use Rattle.lexer.specs.Base.{pick, among}
use Rattle.lexer.specs.Classes.{symbol, is_space}
use Rattle.lexer.specs.Run.{run_tokens}
use lib.Dec.{ltb}
use mathlib.Core.Bool.{Bool, true, false, beq}
use mathlib.Core.List.{List, [], ◌∷◌}
use mathlib.Core.Path.{◌≡◌, refl}

-- The 25 characters with the property White_Space.
white-space : List ℕ
white-space =
    9 ∷ 10 ∷ 11 ∷ 12 ∷ 13 ∷ 32 ∷ 133 ∷ 160 ∷ 5760 ∷ 8192 ∷ 8193 ∷ 8194 ∷ 8195 ∷ 8196 ∷ 8197 ∷ 8198 ∷ 8199 ∷ 8200 ∷ 8201 ∷ 8202 ∷ 8232 ∷ 8233 ∷ 8239 ∷ 8287 ∷ 12288 ∷ []

-- The UTF-8 of a character below U+10000.
encoded : ℕ → List ℕ
encoded c =
    pick (ltb c 128) (c ∷ [])
    (pick (ltb c 2048) ((192 + c / 64) ∷ (128 + c % 64) ∷ [])
    ((224 + c / 4096) ∷ (128 + c / 64 % 64) ∷ (128 + c % 64) ∷ []))

begins-space : List ℕ → Bool
begins-space [] = false
begins-space (b ∷ r) = is_space (symbol b r)

-- Do the two agree on a character?
pub agree : ℕ → Bool
agree c = beq (begins-space (encoded c)) (among c white-space)

pub white-space-is-right : all_under agree 12544 ≡ true
unfolding run_tokens white-space encoded begins-space agree all_under
white-space-is-right = refl

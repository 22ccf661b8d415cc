-- Taxon names: each a name, no two alike, ASCII case ignored.
use Rattle.std.specs.Prelude.{ℕ, Bool, false, ◌||◌, List, [], ◌∷◌, ◌++◌}
use Rattle.block.specs.Outcome.{Outcome, done, refused, then, fold, need}
use Rattle.lexer.specs.Base.{pick, alike}
use Rattle.lexer.specs.Words.{Numbered, label}
use Rattle.lexer.specs.declared.refusal.Refusal.{Refusal}

-- Is a name among these?
unfoldable pub known : List ℕ → List (List ℕ) → Bool
known n [] = false
known n (m ∷ r) = let more = known n r in alike n m || more

-- One more name behind the others: 17 if the word is none, 18 if it is known.
unfoldable pub add_name : List (List ℕ) → Numbered → List ℕ → Outcome (List (List ℕ))
add_name names w n = pick (known n names) (refused Refusal.TaxonTwice w.index) (done (names ++ (n ∷ [])))

unfoldable pub name_turn : List (List ℕ) → Numbered → Outcome (List (List ℕ))
name_turn names w = then (need (label w) Refusal.NotName w.index) (λ n. add_name names w n)

-- The names that the words of TAXLABELS are.
unfoldable pub unique_names : List Numbered → Outcome (List (List ℕ))
unique_names ws = fold name_turn [] ws

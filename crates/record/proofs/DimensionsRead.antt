-- BEGIN DATA and DIMENSIONS of a written form are read. Assumes nothing.
use Prim.Native.Nat.{ℕ, suc}
use Rattle.block.specs.Blocks.{State, Data, in_data, at_start, in_phase, no_data, begin_block, begin_words, step, is_outside, block_step, ends, inner_step, data_step, data_command, with_dimensions}
use Rattle.block.specs.Dimensions as D
use Rattle.block.specs.Dimensions.{dimensions}
use Rattle.block.specs.Format.{Format}
use Rattle.block.specs.Labels.{LabelCommand}
use Rattle.block.specs.Outcome.{done}
use Rattle.block.specs.Reading.{Reading}
use Rattle.block.specs.declared.dimension.Dimensions.{Dimensions}
use Rattle.lexer.specs.Base.{given}
use Rattle.lexer.specs.Tokens.{Token}
use Rattle.lexer.specs.Words.{positive, number}
use Rattle.record.proofs.CommandLaws.{Reads, Passes, here, there, command-read, words_from}
use Rattle.record.proofs.FormTokens.{word, key, mark}
use mathlib.Core.Bool.{false}
use mathlib.Core.List.{List, [], ◌∷◌}
use mathlib.Core.Option.{Option, none, some}
use mathlib.Core.Path.{◌≡◌, refl}

-- In the DATA block of a form, whose name has this index.
abbrev pub declared : Option Dimensions → Option Format → List LabelCommand → Option Reading → Data
declared d f l m = record { dimensions = d; format = f; taxa = none; labels = l; matrix = m }

abbrev pub in_form : ℕ → Data → State
in_form b d = record { phase = in_data b d; taxa = none; matrix = none; assumptions = false }

pub begin-data-read : {t : State} {rest : List Token} → ((b : ℕ) → Reads (in_form b (declared none none [] none)) rest t)
    → Reads at_start (key "BEGIN" ∷ key "DATA" ∷ mark 59 ∷ rest) t
unfolding words_from at_start step is_outside begin_words begin_block given in_phase no_data
begin-data-read r =
    command-read (key "BEGIN") refl refl (there (key "DATA") refl here)
    (λ i. (in_form (suc i) (declared none none [] none), refl, r (suc i)))

-- The counts of so many taxa and characters.
abbrev pub sizes : ℕ → ℕ → Dimensions
sizes n m = record { taxa = n; characters = m; new_taxa = false }

-- The words behind DIMENSIONS, up to `;`.
abbrev size_tokens : List ℕ → List ℕ → List Token → List Token
size_tokens u v rest = key "NTAX" ∷ mark 61 ∷ word u ∷ key "NCHAR" ∷ mark 61 ∷ word v ∷ mark 59 ∷ rest

sizes-read : (n m : ℕ) (u v : List ℕ) (rest : List Token) → positive u ≡ suc n → positive v ≡ suc m → (i : ℕ)
    → dimensions (words_from i (size_tokens u v rest)) ≡ done (sizes (suc n) (suc m))
unfolding words_from dimensions number D.dimensions_of D.no_dimensions D.with_count D.count_option D.dimension_option D.dimension_value D.dimension_turn D.dimension_end
sizes-read n m u v rest p q i = rw (p, q) refl

sizes-passes : (u v : List ℕ) (rest : List Token) → Passes (size_tokens u v rest) rest
unfolding words_from
sizes-passes u v rest =
    there (key "NTAX") refl (there (mark 61) refl (there (word u) refl (there (key "NCHAR") refl (there (mark 61) refl (there (word v) refl here)))))

pub dimensions-read : {t : State} (b n m : ℕ) (u v : List ℕ) {rest : List Token} → positive u ≡ suc n → positive v ≡ suc m
    → Reads (in_form b (declared (some (sizes (suc n) (suc m))) none [] none)) rest t
    → Reads (in_form b (declared none none [] none)) (key "DIMENSIONS" ∷ size_tokens u v rest) t
unfolding words_from step is_outside block_step ends inner_step data_step data_command given with_dimensions in_phase
dimensions-read b n m u v {rest} p q r =
    command-read (key "DIMENSIONS") refl refl (sizes-passes u v rest)
    (λ i. (in_form b (declared (some (sizes (suc n) (suc m))) none [] none), rw (sizes-read n m u v rest p q (suc i)) refl, r))

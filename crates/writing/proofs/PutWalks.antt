-- Walks that put a part after another: what puts the parts that are left puts the whole. Assumes nothing.
use Prim.Native.Nat.{ℕ}
use lib.ListN.{length}
use mathlib.Core.List.{List}
use mathlib.Core.Path.{◌≡◌, refl, ◌∙◌}

-- A buffer as it is on the way: what puts what is left behind what was put so far, puts the whole.
pub record Going {A : Type 0} (before : List ℕ) (whole : List ℕ → A → Type 0) (buffer : List ℕ) (left : List ℕ → A → Type 0) : Type 0 where
  pub kept : length buffer ≡ length before
  pub finish : (after : List ℕ) (answer : A) → left after answer → whole after answer

pub going_start : {A : Type 0} {before : List ℕ} {whole : List ℕ → A → Type 0} → Going before whole before whole
going_start = record { kept = refl; finish = λ after answer p. p }

-- One part more is put.
pub going-turn : {A : Type 0} {before buffer later : List ℕ} {whole left less : List ℕ → A → Type 0} → Going before whole buffer left
    → length later ≡ length buffer → ((after : List ℕ) (answer : A) → less after answer → left after answer) → Going before whole later less
going-turn g kept on = record { kept = kept ∙ g.kept; finish = λ after answer p. g.finish after answer (on after answer p) }

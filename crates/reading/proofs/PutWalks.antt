-- Walks that put a piece part by part: what is left of it, put behind what was put so far, comes to the whole. Assumes nothing.
use Prim.Native.Nat.{ℕ, ◌≤◌, ◌<◌}
use Rattle.emit.proofs.PutLaws.{puts-as, puts_none, puts_then}
use Rattle.emit.specs.Puts.{Puts}
use borrow.Author.Tests.{leb-true, lt-leb}
use lib.Dec.{leb}
use lib.ListN.{length}
use mathlib.Core.Bool.{Bool, true, ◌||◌}
use mathlib.Core.List.{List}
use mathlib.Core.Path.{◌≡◌, refl, sym, ◌∙◌}

pub record Putting (before : List ℕ) (at : ℕ) (whole : List ℕ → List ℕ) (buffer : List ℕ) (n : ℕ) (rest : List ℕ → List ℕ) : Type 0 where
  pub kept : length buffer ≡ length before
  pub finish : {after : List ℕ} {next : ℕ} → Puts buffer n rest after next → Puts before at whole after next

pub putting-start : {a : List ℕ} {n : ℕ} {whole : List ℕ → List ℕ} → Putting a n whole a n whole
putting-start = record { kept = refl; finish = λ p. p }

module _ {a b : List ℕ} {n m : ℕ} {whole rest : List ℕ → List ℕ} (k : Putting a n whole b m rest) where
  -- One part more is put.
  pub putting-turn : {c : List ℕ} {next : ℕ} {part more : List ℕ → List ℕ} → Puts b m part c next → ((behind : List ℕ) → rest behind ≡ part (more behind))
      → Putting a n whole c next more
  putting-turn f e = record { kept = f.kept ∙ k.kept; finish = λ p. k.finish (puts-as (puts_then f p) (λ behind. sym (e behind))) }

  -- What is left, by another name.
  pub putting-as : {more : List ℕ → List ℕ} → ((behind : List ℕ) → rest behind ≡ more behind) → Putting a n whole b m more
  putting-as e = record { kept = k.kept; finish = λ p. k.finish (puts-as p (λ behind. sym (e behind))) }

  -- Nothing is left.
  pub putting-end : ((behind : List ℕ) → rest behind ≡ behind) → Puts a n whole b m
  putting-end e = k.finish (puts-as puts_none (λ behind. sym (e behind)))

-- A piece that was put, where its buffer and its place have other names.
pub puts-from : {a b c : List ℕ} {n m k : ℕ} {p : List ℕ → List ℕ} → b ≡ a → m ≡ n → Puts b m p c k → Puts a n p c k
puts-from e f q = rw (e, f) at q

-- There is room, if anything has room.
pub room-or : (room : Bool) (n end size : ℕ) → room ≡ leb end size → leb size n || room ≡ true → n < size → end ≤ size
room-or room n end size e either h = leb-true end size (sym e ∙ rw (lt-leb size n h) at either)

-- Bytes that are put over the last of others: what stands there then is one run of bytes. Assumes nothing.
use Prim.Native.Nat.{ℕ, zero, suc, ◌+◌, ◌≤◌, min}
use Rattle.emit.proofs.PutLaws.{puts-sets, set-sets}
use Rattle.emit.specs.Puts.{Puts, puts, last_place}
use lib.ListN.{length, take, set, length-append, length-take}
use lib.Seq.{set-set, sets}
use mathlib.Core.List.{List, [], ◌∷◌, ◌++◌, append-nil}
use mathlib.Core.Path.{◌≡◌, refl, sym, ap, ◌∙◌}
use native.Mathlib.Omega.{arith}

-- A run over one that begins at the same place and is no longer.
run-over : (a : List ℕ) (n : ℕ) (l r : List ℕ) → length l ≤ length r → sets (sets a n l) n r ≡ sets a n r
run-over a n [] r h = refl
run-over a n (v ∷ l) [] h = absurd (omega arith)
run-over a n (v ∷ l) (w ∷ r) h =
    ap (λ b. sets b (suc n) r) (set-sets (set a n v) n (suc n) w l (omega arith) ∙ ap (λ b. sets b (suc n) l) (set-set a n v w))
    ∙ run-over (set a n w) (suc n) l r (omega arith)

-- A run over the bytes of one from a place on.
runs-over : (a : List ℕ) (n : ℕ) (l : List ℕ) (k : ℕ) (r : List ℕ) → k ≤ length l → length l ≤ k + length r → sets (sets a n l) (n + k) r ≡ sets a n (take k l ++ r)
runs-over a n l zero r h e = let here : n + 0 ≡ n = omega arith in rw here (run-over a n l r (omega arith))
runs-over a n [] (suc k) r h e = absurd (omega arith)
runs-over a n (v ∷ l) (suc k) r h e = let next : n + suc k ≡ suc n + k = omega arith in rw next (runs-over (set a n v) (suc n) l k r (omega arith) (omega arith))

-- A piece over the bytes of a list from a place on, which is no shorter than these.
pub puts-over : {a b c : List ℕ} {n m next : ℕ} {p : List ℕ → List ℕ} (l : List ℕ) (k : ℕ) → Puts a n (λ behind. l ++ behind) b m → k ≤ length l
    → ((behind : List ℕ) → length l ≤ k + length (p behind))
    → Puts b (n + k) p c next
    → Puts a n (λ behind. take k l ++ p behind) c next
unfolding puts
puts-over {a} {b} {n = n} {p = p} l k f h long g =
    let before : b ≡ sets a n l = sym (f.written []) ∙ ap (puts a n) (append-nil l) ∙ puts-sets a n l in
    let size : length (take k l) ≡ k = omega (arith, length-take k l) in
    record {
      written = λ behind.
          puts-sets a n (take k l ++ p behind)
          ∙ sym (runs-over a n l k (p behind) h (long behind))
          ∙ ap (λ x. sets x (n + k) (p behind)) (sym before)
          ∙ sym (puts-sets b (n + k) (p behind))
          ∙ g.written behind;
      reached = λ behind. ap (λ s. min last_place s) (omega (arith, length-append (take k l) (p behind), size)) ∙ g.reached behind;
      kept = g.kept ∙ f.kept;
    }

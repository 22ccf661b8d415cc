-- A search in a table with a trie behind it, slot by slot and then in the trie. Assumes nothing.
use Prim.Native.Nat.{ℕ, ◌+◌, ◌≤◌, ◌<◌}
use Rattle.lexer.proofs.Basics.{by-test}
use Rattle.slots.proofs.FillingLaws.{none_kept}
use Rattle.slots.specs.Entering.{EnteredFrom}
use Rattle.slots.specs.Seeking.{Nearer}
use Rattle.slots.specs.Trie.{Led}
use borrow.Author.Tests.{ltb-true, ltb-false}
use lib.Dec.{ltb}
use lib.ListN.{get_or}
use mathlib.Core.Bool.{Bool, true, false}
use mathlib.Core.List.{List}
use mathlib.Core.Path.{◌≡◌, sym, ◌∙◌}
use native.Mathlib.Omega.{arith}

-- The first of so many things of which the test holds, or their count where it holds of none.
pub record First (test : ℕ → Bool) (count r : ℕ) : Type 0 where
  pub few : r ≤ count
  pub hit : r < count → test r ≡ true
  pub miss : (k : ℕ) → k < r → test k ≡ false

-- What is entered from a slot on that is taken by another number is entered from the next on.
pub entered-next : {work : List ℕ} {p stop head v : ℕ} {ls : List ℕ} → p < stop → (get_or work p 0 ≡ v → ⊥) → EnteredFrom work p stop head ls v → EnteredFrom work (p + 1) stop head ls v
entered-next {p = p} h other e =
    record {
      place = e.place;
      ahead = past;
      within = λ l. e.within (omega arith);
      taken = λ q l m. e.taken q (omega arith) m;
      holds = e.holds;
      led = e.led;
    }
  where
    past : p + 1 ≤ e.place
    past =
        by-test (ltb p e.place) (λ t. let l = ltb-true p e.place t in omega arith)
        (λ f. let l = ltb-false p e.place f in let same : e.place ≡ p = omega (arith, e.ahead) in absurd (other (rw same at (e.holds (omega arith)))))

-- Nothing is entered from a slot on that is free.
pub none-entered : {work : List ℕ} {p stop head v : ℕ} {ls : List ℕ} → p < stop → get_or work p 0 ≡ 0 → 0 < v → EnteredFrom work p stop head ls v → ⊥
none-entered {work} {p} {stop} {v = v} h free some e =
    none_kept work p stop v h free some (record { place = e.place; ahead = e.ahead; taken = e.taken; holds = e.holds })

module _ (work : List ℕ) (stop head : ℕ) (ls : List ℕ) (test : ℕ → Bool) (count : ℕ) where
  -- Of what was found so far the test holds, and whatever is before it and has the test hold is entered from here on.
  pub record Sought (p found : ℕ) : Type 0 where
    pub few : found ≤ count
    pub hit : found < count → test found ≡ true
    pub rest : (k : ℕ) → k < found → test k ≡ true → EnteredFrom work p stop head ls (k + 1)

  module _ {p found : ℕ} (s : Sought p found) where
    -- of the one that is nearer the test holds as well
    nearer-hit : {v r : ℕ} → Nearer test found v r → r < count → test r ≡ true
    nearer-hit {r = r} n l =
        by-test (ltb r found) (λ e. n.hit (ltb-true r found e))
        (λ e. let m = ltb-false r found e in let same : r ≡ found = omega (arith, n.few) in rw same (s.hit (omega (arith, same))))

    module _ (h : p < stop) {v : ℕ} (is : v ≡ get_or work p 0) where
      pub sought-turn : {r : ℕ} → Nearer test found v r → Sought (p + 1) r
      sought-turn n =
          record {
            few = omega (arith, n.few, s.few);
            hit = nearer-hit n;
            rest = λ k l t. entered-next h (λ e. n.miss k (is ∙ e) l t) (s.rest k (omega (arith, n.few)) t);
          }

      pub sought-end : v ≡ 0 → First test count found
      sought-end z =
          record {
            few = s.few;
            hit = s.hit;
            miss = λ k l. by-test (test k) (λ t. absurd (none-entered h (sym is ∙ z) (omega arith) (s.rest k l t))) (λ f. f);
          }

    -- Behind the window what is left is in the trie.
    module _ (past : stop ≤ p) where
      led : (k : ℕ) → k < found → test k ≡ true → Led work head ls (k + 1)
      led k l t = let e = s.rest k l t in e.led (omega (arith, e.ahead))

      pub sought-none : ((v : ℕ) → Led work head ls v → ⊥) → First test count found
      sought-none none = record { few = s.few; hit = s.hit; miss = λ k l. by-test (test k) (λ t. absurd (none (k + 1) (led k l t))) (λ f. f) }

      pub sought-value : {n r : ℕ} → ((v : ℕ) → Led work head ls v → n ≡ v) → Nearer test found n r → First test count r
      sought-value value n =
          record {
            few = omega (arith, n.few, s.few);
            hit = nearer-hit n;
            miss = λ k l. by-test (test k) (λ t. absurd (n.miss k (value (k + 1) (led k (omega (arith, n.few)) t)) l t)) (λ f. f);
          }

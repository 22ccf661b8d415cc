-- Letters that lead through a trie, and that they do so still when it grows. Assumes nothing.
use Prim.Native.Nat.{ℕ, ◌+◌, ◌-◌, ◌<◌}
use Rattle.lexer.proofs.Basics.{and_left, and_right, and_both, not-both}
use Rattle.slots.specs.Trie.{Node, Path, stands, down, beside, Grown, Leads, Ends}
use borrow.Author.Tests.{ltb-true, lt-ltb}
use lib.Dec.{ltb}
use lib.ListN.{get_or}
use mathlib.Core.Bool.{true, false, ◌&&◌}
use mathlib.Core.List.{List, [], ◌∷◌}
use mathlib.Core.Path.{◌≡◌, sym, ◌∙◌}
use native.Mathlib.Omega.{arith}

-- What a path begins with.
module _ {work : List ℕ} {top : ℕ} where
  pub path-value : {link v : ℕ} → Path work top link [] v → (0 < v) × (get_or work link 0 ≡ v)
  path-value (stands s l e) = (s, e)

  path-ahead : {link x v : ℕ} {r : List ℕ} → Path work top link (x ∷ r) v → (link < get_or work link 0) × (get_or work link 0 + 2 < top) × (0 < get_or work (get_or work link 0) 0)
  path-ahead (down n p) = (n.ahead, n.below, omega (arith, n.holds, n.some))
  path-ahead (beside y n o p) = (n.ahead, n.below, omega (arith, n.holds, n.some))

  path-down : {link x v : ℕ} {r : List ℕ} → Path work top link (x ∷ r) v → get_or work (get_or work link 0) 0 ≡ x → Path work top (get_or work link 0 + 1) r v
  path-down (down n p) e = p
  path-down (beside y n o p) e = absurd (o (sym n.holds ∙ e))

  path-beside : {link x v : ℕ} {r : List ℕ} → Path work top link (x ∷ r) v → (get_or work (get_or work link 0) 0 ≡ x → ⊥) → Path work top (get_or work link 0 + 2) (x ∷ r) v
  path-beside (down n p) o = absurd (o n.holds)
  path-beside (beside y n _ p) o = p

-- A trie that has grown.
module _ {head : ℕ} {work : List ℕ} {top : ℕ} {later : List ℕ} {high : ℕ} (g : Grown head work top later high) where
  link-grown : {link x : ℕ} → head < link → Node work top link x → get_or later link 0 ≡ get_or work link 0
  link-grown {link} h n = g.stays link h (omega (arith, n.ahead, n.below)) (omega (arith, n.ahead))

  node-grown : {link x : ℕ} → head < link → Node work top link x → Node later high link x
  node-grown {link} h n =
      let same = link-grown h n in
      let letter = g.stays (get_or work link 0) (omega (arith, n.ahead)) (omega (arith, n.below)) (omega (arith, n.holds, n.some)) in
      record {
        ahead = rw same n.ahead;
        below = rw same (omega (arith, n.below, g.more));
        holds = rw same (letter ∙ n.holds);
        some = n.some;
      }

  pub path-grown : {link v : ℕ} {ls : List ℕ} → head < link → Path work top link ls v → Path later high link ls v
  path-grown {link} h (stands s l e) = stands {link = link} s (omega (arith, g.more)) (g.stays link h l (omega (arith, e)) ∙ e)
  path-grown {v = v} h (down {r = r} n p) = down {v = v} {r = r} (node-grown h n) (rw (link-grown h n) (path-grown (omega (arith, n.ahead)) p))
  path-grown {v = v} h (beside {r = r} y n o p) = beside {v = v} {r = r} y (node-grown h n) o (rw (link-grown h n) (path-grown (omega (arith, n.ahead)) p))

-- Letters lead from one link to another.
module _ (head : ℕ) (work : List ℕ) (top : ℕ) where
  pub leads-same : (from : ℕ) (ls : List ℕ) → Leads head work top from ls from ls
  leads-same from ls = record { ahead = omega arith; below = λ l. l; back = λ v p. p; on = λ h later high g v p. p }

  pub leads-then : {from mid to : ℕ} {ls ms ns : List ℕ} → Leads head work top from ls mid ms → Leads head work top mid ms to ns → Leads head work top from ls to ns
  leads-then a b =
      record {
        ahead = omega (arith, a.ahead, b.ahead);
        below = λ l. b.below (a.below l);
        back = λ v p. b.back v (a.back v p);
        on = λ h later high g v p. a.on h later high g v (b.on (omega (arith, a.ahead)) later high g v p);
      }

  leads-down : {link x : ℕ} (r : List ℕ) → Node work top link x → Leads head work top link (x ∷ r) (get_or work link 0 + 1) r
  leads-down r n =
      record {
        ahead = omega (arith, n.ahead);
        below = λ l. omega (arith, n.below);
        back = λ v p. path-down p n.holds;
        on = λ h later high g v p. down {v = v} {r = r} (node-grown g h n) (rw (link-grown g h n) p);
      }

  leads-beside : {link x y : ℕ} (r : List ℕ) → Node work top link y → (y ≡ x → ⊥) → Leads head work top link (x ∷ r) (get_or work link 0 + 2) (x ∷ r)
  leads-beside {y = y} r n o =
      record {
        ahead = omega (arith, n.ahead);
        below = λ l. omega (arith, n.below);
        back = λ v p. path-beside p (λ e. o (sym n.holds ∙ e));
        on = λ h later high g v p. beside {v = v} {r = r} y (node-grown g h n) o (rw (link-grown g h n) p);
      }

-- What the code finds at a link.
pub node-within : (link node top : ℕ) → (ltb link node && ltb 2 (top - node)) ≡ true → (link < node) × (node + 2 < top)
node-within link node top t =
    let a = ltb-true link node (and_left (ltb link node) (ltb 2 (top - node)) t) in
    let b = ltb-true 2 (top - node) (and_right (ltb link node) (ltb 2 (top - node)) t) in
    (a, omega arith)

module _ {work : List ℕ} {top link node : ℕ} (is : node ≡ get_or work link 0) where
  pub ends-here : (x : ℕ) (r : List ℕ) → (ltb link node && ltb 2 (top - node)) ≡ false → Ends work top link (x ∷ r)
  ends-here x r f v p =
      let a = path-ahead p in
      not-both f (and_both (lt-ltb link node (omega (arith, a.0))) (lt-ltb 2 (top - node) (omega (arith, a.1))))

  pub ends-blank : (x : ℕ) (r : List ℕ) {y : ℕ} → y ≡ get_or work node 0 → y ≡ 0 → Ends work top link (x ∷ r)
  ends-blank x r e z v p = let a = (path-ahead p).2 in omega (arith, rw is at e)

  module _ (t : (ltb link node && ltb 2 (top - node)) ≡ true) where
    node-here : {y : ℕ} → y ≡ get_or work node 0 → 0 < y → Node work top link y
    node-here e s = let l = node-within link node top t in record { ahead = omega arith; below = omega arith; holds = rw (← is) (sym e); some = s }

    pub leads-behind : (head : ℕ) (r : List ℕ) {x y : ℕ} → y ≡ get_or work node 0 → y ≡ x → 0 < x → Leads head work top link (x ∷ r) (node + 1) r
    leads-behind head r e same s = rw (is, ← same) (leads-down head work top r (node-here e (omega arith)))

    pub leads-past : (head : ℕ) (r : List ℕ) {x y : ℕ} → y ≡ get_or work node 0 → (y ≡ x → ⊥) → (y ≡ 0 → ⊥) → Leads head work top link (x ∷ r) (node + 2) (x ∷ r)
    leads-past head r e other some = rw is (leads-beside head work top r (node-here e (omega (arith, some))) other)

-- A trie that grows by the letters of a name, node by node. Assumes nothing.
use Prim.Native.Nat.{ℕ, ◌+◌, ◌≤◌, ◌<◌}
use Rattle.lexer.proofs.Basics.{and_left, and_right}
use Rattle.lexer.specs.declared.Cursor.{Cursor}
use Rattle.slots.specs.Trie.{Path, stands, down, Grown, LetterTold, LettersRoom, LettersPut, letters_left, node_room, with_node}
use Rattle.slots.specs.declared.trie.Letter.{Letter}
use borrow.Author.Tests.{leb-true}
use lib.Dec.{leb}
use lib.ListN.{length, get_or, take, set, length-set}
use lib.Seq.{get_or-set_same, get_or-set_other, take-set-le}
use mathlib.Core.Bool.{true}
use mathlib.Core.List.{List, [], ◌∷◌}
use mathlib.Core.Path.{◌≡◌, refl, ap, ◌∙◌}
use native.Mathlib.Omega.{arith}

grown-same : (head : ℕ) (work : List ℕ) (top : ℕ) → Grown head work top work top
grown-same head work top = record { more = omega arith; stays = λ q a b s. refl }

grown-then : {head : ℕ} {a : List ℕ} {t : ℕ} {b : List ℕ} {u : ℕ} {c : List ℕ} {w : ℕ} → Grown head a t b u → Grown head b u c w → Grown head a t c w
grown-then g h =
    record {
      more = omega (arith, g.more, h.more);
      stays = λ q l m s. let first = g.stays q l m s in h.stays q l (omega (arith, g.more)) (rw first s) ∙ first;
    }

-- What is known where there is room for a node.
pub room-told : (memory top : ℕ) → node_room memory top ≡ true → (top + 3 ≤ memory) × (top ≤ 4294967292)
unfolding node_room
room-told memory top t =
    (leb-true (top + 3) memory (and_right (leb top 4294967292) (leb (top + 3) memory) t), leb-true top 4294967292 (and_left (leb top 4294967292) (leb (top + 3) memory) t))

-- A node more.
module _ (work : List ℕ) (link top x : ℕ) where
  abbrev one : List ℕ
  one = set work link top

  abbrev two : List ℕ
  two = set one top x

  abbrev three : List ℕ
  three = set two (top + 1) 0

  node-size : length (with_node work link top x) ≡ length work
  unfolding with_node
  node-size = simp length-set

  node-front : (n : ℕ) → n ≤ link → link < top → take n (with_node work link top x) ≡ take n work
  unfolding with_node
  node-front n h b =
      take-set-le n three (top + 2) 0 (omega arith) ∙ take-set-le n two (top + 1) 0 (omega arith) ∙ take-set-le n one top x (omega arith) ∙ take-set-le n work link top h

  -- behind its letter a node holds 0, and in front of it only the link has changed
  node-behind : (q : ℕ) → q ≤ top → get_or (with_node work link top x) q 0 ≡ get_or two q 0
  unfolding with_node
  node-behind q l = get_or-set_other three (top + 2) q 0 0 (λ e. omega arith) ∙ get_or-set_other two (top + 1) q 0 0 (λ e. omega arith)

  node-before : (q : ℕ) → q < top → get_or (with_node work link top x) q 0 ≡ get_or one q 0
  node-before q l = node-behind q (omega arith) ∙ get_or-set_other one top q x 0 (λ e. omega arith)

  module _ (below : link < top) (room : top + 3 ≤ length work) where
    node-link : get_or (with_node work link top x) link 0 ≡ top
    node-link = node-before link below ∙ get_or-set_same work link top 0 (omega arith)

    node-letter : get_or (with_node work link top x) top 0 ≡ x
    node-letter = node-behind top (omega arith) ∙ get_or-set_same one top x 0 (omega (arith, length-set work link top))

    node-free : get_or (with_node work link top x) (top + 1) 0 ≡ 0
    unfolding with_node
    node-free = get_or-set_other three (top + 2) (top + 1) 0 0 (λ e. omega arith) ∙ get_or-set_same two (top + 1) 0 0 (omega (arith, length-set one top x, length-set work link top))

    node-grown : (head : ℕ) → get_or work link 0 ≡ 0 → Grown head work top (with_node work link top x) (top + 3)
    node-grown head free =
        record {
          more = omega arith;
          stays = λ q l m s. node-before q m ∙ get_or-set_other work link q top 0 (λ e. let z : get_or work q 0 ≡ 0 = rw e free in omega arith);
        }

module _ (before : List ℕ) (first head next : ℕ) (all : List ℕ) where
  -- What a turn keeps: a link that leads nowhere yet, from which the rest of the letters have the values that all of them have from the first on.
  pub record Growing (work : List ℕ) (link top : ℕ) (rest : List ℕ) : Type 0 where
    pub size : length work ≡ length before
    pub front : take head work ≡ take head before
    pub grown : Grown head before next work top
    pub ahead : head < link
    pub below : link < top
    pub free : get_or work link 0 ≡ 0
    pub on : (later : List ℕ) (high : ℕ) → Grown head work top later high → (v : ℕ) → Path later high link rest v → Path later high first all v

  pub growing-start : LettersRoom before first head next → Growing before first next all
  growing-start r =
      record {
        size = refl;
        front = refl;
        grown = grown-same head before next;
        ahead = r.behind;
        below = r.below;
        free = r.free;
        on = λ later high g v p. p;
      }

  module _ {work : List ℕ} {link top : ℕ} where
    growing-turn : {x : ℕ} {r : List ℕ} → Growing work link top (x ∷ r) → 0 < x → top + 3 ≤ length work → Growing (with_node work link top x) (top + 1) (top + 3) r
    growing-turn {x} {r} g some room =
        let one = node-grown work link top x g.below room head g.free in
        record {
          size = node-size work link top x ∙ g.size;
          front = node-front work link top x head (omega (arith, g.ahead)) g.below ∙ g.front;
          grown = grown-then g.grown one;
          ahead = omega (arith, g.ahead, g.below);
          below = omega arith;
          free = node-free work link top x g.below room;
          on = λ later high h v p.
              let leads : get_or later link 0 ≡ top = h.stays link g.ahead (omega (arith, g.below)) (rw (node-link work link top x g.below room) (omega (arith, g.below))) ∙ node-link work link top x g.below room in
              let letter : get_or later top 0 ≡ x = h.stays top (omega (arith, g.ahead, g.below)) (omega arith) (rw (node-letter work link top x g.below room) some) ∙ node-letter work link top x g.below room in
              g.on later high (grown-then one h) v
              (down {v = v} {r = r}
              (record { ahead = rw leads g.below; below = rw leads (omega (arith, h.more)); holds = rw leads letter; some = some })
              (rw leads p));
        }

    -- A value is put behind all letters.
    pub growing-end : Growing work link top [] → {v : ℕ} → 0 < v → link < length work → head < length work → LettersPut before (set (set work link v) head top) first head next all v
    growing-end g {v} some here room =
        let after = set (set work link v) head top in
        let top-here : get_or after head 0 ≡ top = get_or-set_same (set work link v) head top 0 (omega (arith, length-set work link v)) in
        let more : Grown head work top after top =
        record {
          more = omega arith;
          stays = λ q l m s. get_or-set_other (set work link v) head q top 0 (λ e. omega arith) ∙ get_or-set_other work link q v 0 (λ e. let z : get_or work q 0 ≡ 0 = rw e g.free in omega arith);
        } in
        let value : get_or after link 0 ≡ v = get_or-set_other (set work link v) head link top 0 (λ e. omega (arith, g.ahead)) ∙ get_or-set_same work link v 0 here in
        record {
          size = length-set (set work link v) head top ∙ length-set work link v ∙ g.size;
          front = take-set-le head (set work link v) head top (omega arith) ∙ take-set-le head work link v (omega (arith, g.ahead)) ∙ g.front;
          grown = λ _. rw top-here (grown-then g.grown more);
          led = λ _. rw top-here (g.on after top more v (stands {link = link} some g.below value));
        }

    -- The trie is given up.
    pub growing-lost : {rest : List ℕ} → Growing work link top rest → head < length work → (v : ℕ) → LettersPut before (set work head 0) first head next all v
    growing-lost g room v =
        let none : get_or (set work head 0) head 0 ≡ 0 = get_or-set_same work head 0 0 room in
        record {
          size = length-set work head 0 ∙ g.size;
          front = take-set-le head work head 0 (omega arith) ∙ g.front;
          grown = λ h. absurd (omega arith);
          led = λ h. absurd (omega arith);
        }

  -- A node for the next letter of a name.
  module _ {text work : List ℕ} {link top : ℕ} {c : Cursor} (g : Growing work link top (letters_left text c)) {l : Letter} (t : LetterTold text c l) (room : top + 3 ≤ length work)
      {after : List ℕ} (is : after ≡ with_node work link top l.code) where
    pub put-size : length after ≡ length work
    put-size = ap length is ∙ node-size work link top l.code

    pub growing-last : l.code ≡ 257 → Growing after (top + 1) (top + 3) []
    growing-last e = rw is (growing-turn (rw (t.last e, ← e) at g) t.some room)

    pub growing-more : (l.code ≡ 257 → ⊥) → Growing after (top + 1) (top + 3) (letters_left text l.next)
    growing-more o = rw is (growing-turn (rw (t.more o).here at g) t.some room)

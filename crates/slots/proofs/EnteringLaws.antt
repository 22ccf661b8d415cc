-- Numbers that are entered in a table with a trie behind it, and one more of them. Assumes nothing.
use Prim.Native.Nat.{ℕ, ◌-◌, ◌≤◌, ◌<◌}
use Rattle.lexer.proofs.Basics.{by-test}
use Rattle.lexer.specs.Base.{pick}
use Rattle.slots.proofs.TrieLaws.{path-grown}
use Rattle.slots.specs.Entering.{EnteredFrom, NameEntered, window_end}
use Rattle.slots.specs.Filling.{Taken, Free, slot_of}
use Rattle.slots.specs.Hashes.{hash}
use Rattle.slots.specs.Trie.{Led, PathPut, letters}
use Rattle.slots.specs.declared.Table.{Table}
use borrow.Author.Tests.{ltb-true}
use lib.Dec.{ltb}
use lib.ListN.{length, get_or, take, set, length-set}
use lib.Seq.{get_or-take, get_or-set_same, get_or-set_other, take-set-le, take-take}
use mathlib.Core.List.{List}
use mathlib.Core.Path.{◌≡◌, sym, ap, ◌∙◌}
use native.Mathlib.Omega.{arith}

-- A window ends with its table or before.
pub window-within : (end from : ℕ) → window_end end from ≤ end
unfolding window_end pick
window-within end from =
    by-test (ltb 16 (end - from))
    (λ e. let l = ltb-true 16 (end - from) e in rw e (omega arith))
    (λ e. rw e (omega arith))

-- What is entered is so still where numbers above 0 in front of the trie stay, and the trie has what it had.
module _ {before after : List ℕ} {head : ℕ} (same : (q : ℕ) → q < head → 0 < get_or before q 0 → get_or after q 0 ≡ get_or before q 0) (led : (ls : List ℕ) (v : ℕ) → Led before head ls v → Led after head ls v) where
  taken-kept : {from place : ℕ} → (from < place → place ≤ head) → Taken before from place → Taken after from place
  taken-kept w t q l m = let some = t q l m in rw (same q (omega (arith, w (omega arith))) some) some

  entered-kept : {from stop v : ℕ} {ls : List ℕ} → stop ≤ head → 0 < v → EnteredFrom before from stop head ls v → EnteredFrom after from stop head ls v
  entered-kept {v = v} {ls = ls} h some e =
      record {
        place = e.place;
        ahead = e.ahead;
        within = e.within;
        taken = taken-kept (λ l. omega (arith, e.within l)) e.taken;
        holds = λ l. let here = e.holds l in same e.place (omega arith) (omega arith) ∙ here;
        led = λ l. led ls v (e.led l);
      }

-- What is entered is so in any work memory that is the same from the table on.
led-same : {work other : List ℕ} {head : ℕ} → ((q : ℕ) → head ≤ q → get_or other q 0 ≡ get_or work q 0) → (ls : List ℕ) (v : ℕ) → Led work head ls v → Led other head ls v
led-same {work} {other} {head} same ls v p h =
    let top = same head (omega arith) in
    rw top (path-grown {head = head} {top = get_or work head 0} {high = get_or work head 0} (record { more = omega arith; stays = λ q l m s. same q (omega arith) }) (omega arith) (p (rw top at h)))

pub entered-same : {work other : List ℕ} {base from stop head v : ℕ} {ls : List ℕ} → base ≤ from → base ≤ head → ((q : ℕ) → base ≤ q → get_or other q 0 ≡ get_or work q 0)
    → EnteredFrom work from stop head ls v → EnteredFrom other from stop head ls v
entered-same {v = v} {ls = ls} a b same e =
    record {
      place = e.place;
      ahead = e.ahead;
      within = e.within;
      taken = λ q l m. rw (same q (omega arith)) (e.taken q l m);
      holds = λ l. same e.place (omega (arith, e.ahead)) ∙ e.holds l;
      led = λ l. led-same (λ q m. same q (omega arith)) ls v (e.led l);
    }

-- A slot stands in the table or behind it.
pub slot-behind : (t : Table) (h : ℕ) → t.base ≤ slot_of t h
unfolding slot_of
slot-behind t h = omega arith

-- A number more is entered.
module _ (work : List ℕ) (t : Table) (name : List ℕ) (v p : ℕ) (some : 0 < v) (order : t.base ≤ t.end)
    (free : Free work (slot_of t (hash name)) (window_end t.end (slot_of t (hash name))) p) where
  within : window_end t.end (slot_of t (hash name)) ≤ t.end
  within = window-within t.end (slot_of t (hash name))

  -- at a free slot of the window
  module _ (below : p < window_end t.end (slot_of t (hash name))) (room : t.end ≤ length work) where
    same-slots : (q : ℕ) → q < t.end → 0 < get_or work q 0 → get_or (set work p v) q 0 ≡ get_or work q 0
    same-slots q l s = get_or-set_other work p q v 0 (λ e. let z : get_or work q 0 ≡ 0 = rw e (free.stop below) in omega arith)

    same-trie : (ls : List ℕ) (w : ℕ) → Led work t.end ls w → Led (set work p v) t.end ls w
    same-trie = led-same (λ q l. get_or-set_other work p q v 0 (λ e. omega (arith, within)))

    pub name_set : NameEntered work (set work p v) t name v
    name_set =
        record {
          size = length-set work p v;
          front = take-set-le t.base work p v (omega (arith, slot-behind t (hash name), free.ahead));
          new =
              record {
                place = p;
                ahead = free.ahead;
                within = free.within;
                taken = taken-kept same-slots same-trie (λ l. omega (arith, within)) free.taken;
                holds = λ _. get_or-set_same work p v 0 (omega (arith, within));
                led = λ l. absurd (omega arith);
              };
          old = λ n w s e. entered-kept same-slots same-trie (window-within t.end (slot_of t (hash n))) s e;
        }

  -- in the trie
  module _ (past : window_end t.end (slot_of t (hash name)) ≤ p) {after : List ℕ} (put : PathPut work after t.end (letters name) v) where
    same-front : (q : ℕ) → q < t.end → 0 < get_or work q 0 → get_or after q 0 ≡ get_or work q 0
    same-front q l s = sym (get_or-take t.end after q 0 l) ∙ ap (λ w. get_or w q 0) put.front ∙ get_or-take t.end work q 0 l

    pub name-put : NameEntered work after t name v
    name-put =
        record {
          size = put.size;
          front = sym (take-take t.base t.end after order) ∙ ap (take t.base) put.front ∙ take-take t.base t.end work order;
          new =
              record {
                place = p;
                ahead = free.ahead;
                within = free.within;
                taken = taken-kept same-front put.old (λ l. omega (arith, within, free.within l)) free.taken;
                holds = λ l. absurd (omega arith);
                led = λ _. put.new;
              };
          old = λ n w s e. entered-kept same-front put.old (window-within t.end (slot_of t (hash n))) s e;
        }

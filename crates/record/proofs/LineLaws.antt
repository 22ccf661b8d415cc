-- Lines of a record: bytes are cut into lines and put together again, and a line's value is what stands behind its key. Assumes nothing.
use Prim.Native.Nat.{ℕ}
use Prim.Native.String.{String}
use Rattle.lexer.proofs.Basics.{or-both, or_left, or_right, eqb_same, among-append}
use Rattle.lexer.specs.Base.{pick, bytes, among}
use Rattle.record.specs.Spell.{line}
use Rattle.record.specs.Unspell.{lines, lines_with, line_more, behind, value, made, Next, line_turn, turns}
use borrow.Author.Tests.{eqb-true, eqb-false, ne_eqb}
use lib.Dec.{eqb}
use mathlib.Core.Bool.{Bool, true, false, ◌||◌}
use mathlib.Core.List.{List, [], ◌∷◌, ◌++◌, append_assoc}
use mathlib.Core.Option.{Option, none, some, bind, bind-eq-some_iff, none-ne-some, some-injective}
use mathlib.Core.Path.{◌≡◌, refl, sym, ap, subst, ◌∙◌}

module _ {A B : Type 0} where
  pub made_some : (f : A → B) (o : Option A) (b : B) → made f o ≡ some b → (a : A) × (o ≡ some a) × (f a ≡ b)
  unfolding made
  made_some f none b h = absurd (none-ne-some b h)
  made_some f (some a) b h = (a, refl, some-injective (f a) b h)

-- Lines, each ended by LF, in front of what stands behind them.
unfoldable pub ended : List (List ℕ) → List ℕ → List ℕ
ended [] behind = behind
ended (l ∷ r) behind = l ++ (10 ∷ ended r behind)

-- No line holds an LF.
abbrev pub Clean : List (List ℕ) → Type 0
Clean [] = Unit {0}
Clean (l ∷ r) = (among 10 l ≡ false) × Clean r

-- These are the lines of the bytes.
pub record Lined (b : List ℕ) (ls : List (List ℕ)) : Type 0 where
  pub joined : ended ls [] ≡ b
  pub clean : Clean ls

lined-more : (c : ℕ) (r : List ℕ) (t : Bool) → eqb c 10 ≡ t → (o : Option (List (List ℕ)))
    → ((ls : List (List ℕ)) → o ≡ some ls → Lined r ls) → (ls : List (List ℕ)) → pick t (line_more o) (lines_with c o) ≡ some ls
    → Lined (c ∷ r) ls
unfolding pick line_more lines_with ended among
lined-more c r true e none ih ls h = absurd (none-ne-some ls h)
lined-more c r true e (some ks) ih ls h =
    let i : Lined r ks = ih ks refl in
    let ten : c ≡ 10 = eqb-true c 10 e in
    subst (Lined (c ∷ r)) (some-injective _ ls h) (record { joined = rw (ten, i.joined); clean = (refl, i.clean) })
lined-more c r false e none ih ls h = absurd (none-ne-some ls h)
lined-more c r false e (some []) ih ls h = absurd (none-ne-some ls h)
lined-more c r false e (some (k ∷ ks)) ih ls h =
    let i : Lined r (k ∷ ks) = ih (k ∷ ks) refl in
    let other : eqb 10 c ≡ false = ne_eqb 10 c (λ q. eqb-false c 10 e (sym q)) in
    subst (Lined (c ∷ r)) (some-injective _ ls h) (record { joined = ap (◌∷◌ c) i.joined; clean = (or-both other i.clean.0, i.clean.1) })

pub lined : (b : List ℕ) (ls : List (List ℕ)) → lines b ≡ some ls → Lined b ls
unfolding lines ended
lined [] ls h = subst (Lined []) (some-injective _ ls h) (record { joined = refl; clean = tt })
lined (c ∷ r) ls h = lined-more c r (eqb c 10) refl (lines r) (lined r) ls h

lines-line : (l rest : List ℕ) (ls : List (List ℕ)) → among 10 l ≡ false → lines rest ≡ some ls
    → lines (l ++ (10 ∷ rest)) ≡ some (l ∷ ls)
unfolding lines pick among line_more lines_with
lines-line [] rest ls h e = rw e
lines-line (b ∷ l) rest ls h e =
    let other : eqb b 10 ≡ false = ne_eqb b 10 (λ q. eqb-false 10 b (or_left _ (among 10 l) h) (sym q)) in
    rw (other, lines-line l rest ls (or_right (eqb 10 b) _ h) e)

-- A line's key and value
behind-key : (k v : List ℕ) → behind k (k ++ v) ≡ some v
unfolding behind pick
behind-key [] v = refl
behind-key (a ∷ k) v = rw eqb_same (behind-key k v)

key-behind : (k l v : List ℕ) → behind k l ≡ some v → k ++ v ≡ l
unfolding behind pick
key-behind [] l v h = sym (some-injective l v h)
key-behind (a ∷ k) [] v h = absurd (none-ne-some v h)
key-behind (a ∷ k) (b ∷ l) v h = go (eqb a b) refl (behind k l) (key-behind k l v) h
  where
    go : (t : Bool) → eqb a b ≡ t → (o : Option (List ℕ)) → (o ≡ some v → k ++ v ≡ l) → pick t o none ≡ some v → a ∷ k ++ v ≡ b ∷ l
    go true e o ih g =
        let same : a ≡ b = eqb-true a b e in
        let rest : k ++ v ≡ l = ih g in
        cc
    go false e o ih g = absurd (none-ne-some v g)

pub value-key : (key : String) (v : List ℕ) → value key (bytes key ++ v) ≡ some v
unfolding value
value-key key v = behind-key (bytes key) v

-- The value of a line without LF holds none, and the line is its key and its value.
pub record Valued (key : String) (l v : List ℕ) : Type 0 where
  pub clean : among 10 v ≡ false
  pub whole : (behind : List ℕ) → l ++ (10 ∷ behind) ≡ line key v behind

pub valued : (key : String) (l v : List ℕ) → among 10 l ≡ false → value key l ≡ some v → Valued key l v
unfolding value line
valued key l v clean h =
    let e : bytes key ++ v ≡ l = key-behind (bytes key) l v h in
    let c : among 10 (bytes key) || among 10 v ≡ false = sym (among-append 10 (bytes key) v) ∙ ap (among 10) e ∙ clean in
    record { clean = or_right (among 10 (bytes key)) _ c; whole = λ behind. rw (← e) (append_assoc (bytes key) v (10 ∷ behind)) }

-- The bytes of a record lead from one line to another.
pub record Leads (m : Next) (b : List ℕ) (n : Next) : Type 0 where
  pub reached : bind (lines b) (turns m) ≡ some n

pub leads-line : (key : String) (v rest : List ℕ) {l m n : Next} → among 10 (bytes key) ≡ false → among 10 v ≡ false
    → line_turn l (bytes key ++ v) ≡ some m → Leads m rest n → Leads l (line key v rest) n
unfolding bind turns line
leads-line key v rest {l} {m} {n} k c turn h =
    let more = (bind-eq-some_iff (lines rest) (turns m)).0 h.reached in
    let clean : among 10 (bytes key ++ v) ≡ false = among-append 10 (bytes key) v ∙ or-both k c in
    let cut = lines-line (bytes key ++ v) rest more.0 clean more.1 in
    record { reached = rw (← append_assoc (bytes key) v (10 ∷ rest), cut, turn) more.2 }

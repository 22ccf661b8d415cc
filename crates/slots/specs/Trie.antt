-- Names in a trie, which stands in work memory behind a table. A link is a number of work memory that holds where a node stands, or 0. A node has three
-- numbers: a letter; the link to the nodes that follow it, or a value behind the last letter of a name; and the link to the next node beside it. Where the
-- table ends stands the trie's head, which is where its next node goes, and behind it the link to its first node. Links lead forward.
use Rattle.std.specs.Prelude.{ℕ, ◌+◌, ◌≤◌, ◌<◌, eqb, leb, length, get_or, take, set, Bool, ◌&&◌, List, [], ◌∷◌, ◌≡◌}
use Rattle.lexer.specs.Base.{lower, pick}
use Rattle.lexer.specs.Bytes.{left}
use Rattle.lexer.specs.Words.{spaced}
use Rattle.lexer.specs.declared.Cursor.{Cursor}
use Rattle.slots.specs.declared.Entry.{Entry}
use Rattle.slots.specs.declared.trie.Branch.{Branch}
use Rattle.slots.specs.declared.trie.Letter.{Letter}
use Rattle.slots.specs.declared.trie.Reach.{Reach}

-- The letters of a name: a byte with 1 added, ASCII case ignored; behind the last one 257.
unfoldable pub letters : List ℕ → List ℕ
letters [] = 257 ∷ []
letters (b ∷ r) = (lower b + 1) ∷ letters r

-- The letters that are left of a token's name behind a cursor.
unfoldable pub letters_left : List ℕ → Cursor → List ℕ
letters_left text c = letters (spaced (left text c))

-- Has work memory of so many numbers room for a node at this place, and is the place behind it below 2^32, so that a number holds it?
unfoldable pub node_room : ℕ → ℕ → Bool
node_room memory top = leb top 4294967292 && leb (top + 3) memory

-- A link leads to a node of this letter, further on and below the place of the next one.
pub record Node (work : List ℕ) (top link x : ℕ) : Type 0 where
  pub ahead : link < get_or work link 0
  pub below : get_or work link 0 + 2 < top
  pub holds : get_or work (get_or work link 0) 0 ≡ x
  pub some : 0 < x

-- From a link on these letters lead to a value.
pub data Path (work : List ℕ) (top : ℕ) : ℕ → List ℕ → ℕ → Type 0 where
  stands : {link v : ℕ} → 0 < v → link < top → get_or work link 0 ≡ v → Path work top link [] v
  down : {link x v : ℕ} {r : List ℕ} → Node work top link x → Path work top (get_or work link 0 + 1) r v → Path work top link (x ∷ r) v
  beside : {link x v : ℕ} {r : List ℕ} (y : ℕ) → Node work top link y → (y ≡ x → ⊥) → Path work top (get_or work link 0 + 2) (x ∷ r) v → Path work top link (x ∷ r) v

-- The trie with this head has a value for these letters, unless it was given up.
abbrev pub Led : List ℕ → ℕ → List ℕ → ℕ → Type 0
Led work head ls v = head + 1 < get_or work head 0 → Path work (get_or work head 0) (head + 1) ls v

-- Numbers above 0 between the head of a trie and the place of its next node stay as they are.
pub record Grown (head : ℕ) (before : List ℕ) (top : ℕ) (after : List ℕ) (high : ℕ) : Type 0 where
  pub more : top ≤ high
  pub stays : (q : ℕ) → head < q → q < top → 0 < get_or before q 0 → get_or after q 0 ≡ get_or before q 0

-- Letters from one link on have the values that the rest of them have from another on, now and in all that the trie grows to.
pub record Leads (head : ℕ) (work : List ℕ) (top from : ℕ) (all : List ℕ) (to : ℕ) (rest : List ℕ) : Type 0 where
  pub ahead : from ≤ to
  pub below : from < top → to < top
  pub back : (v : ℕ) → Path work top from all v → Path work top to rest v
  pub on : head < from → (later : List ℕ) (high : ℕ) → Grown head work top later high → (v : ℕ) → Path later high to rest v → Path later high from all v

-- No value is to be had from a link on.
abbrev pub Ends : List ℕ → ℕ → ℕ → List ℕ → Type 0
Ends work top link ls = (v : ℕ) → Path work top link ls v → ⊥

-- The next letter of a name, and the cursor behind it; 257 at the end.
pub record LetterMore (text : List ℕ) (c : Cursor) (r : Letter) : Type 0 where
  pub here : letters_left text c ≡ r.code ∷ letters_left text r.next
  pub ahead : c.at < r.next.at
  pub within : r.next.at ≤ length text

pub record LetterTold (text : List ℕ) (c : Cursor) (r : Letter) : Type 0 where
  pub some : 0 < r.code
  pub few : r.code ≤ 257
  pub last : r.code ≡ 257 → letters_left text c ≡ 257 ∷ []
  pub more : (r.code ≡ 257 → ⊥) → LetterMore text c r

-- Where a letter leads from a link on: to the link behind its node, or, if no node has it, to the last link.
abbrev pub Branched : List ℕ → ℕ → ℕ → ℕ → Branch → Type 0
Branched work top from x (Branch.Behind n) = (head : ℕ) (r : List ℕ) → Leads head work top from (x ∷ r) n r
Branched work top from x (Branch.Last n) = (head : ℕ) (r : List ℕ) → Leads head work top from (x ∷ r) n (x ∷ r) × Ends work top n (x ∷ r)

-- Where letters lead: to the link behind all of them, or to one that the rest of them, behind a cursor, do not lead on from.
abbrev pub Reached : List ℕ → List ℕ → ℕ → ℕ → List ℕ → Reach → Type 0
Reached text work head top ls (Reach.Whole n) = Leads head work top (head + 1) ls n []
Reached text work head top ls (Reach.Part n c) = Leads head work top (head + 1) ls n (letters_left text c) × Ends work top n (letters_left text c)

-- What the trie has for these letters: a value, none, or nothing that is known where it was given up.
abbrev pub Told : List ℕ → ℕ → List ℕ → Entry → Type 0
Told work head ls Entry.Unknown = Unit {0}
Told work head ls Entry.None = (v : ℕ) → Led work head ls v → ⊥
Told work head ls (Entry.Value n) = (0 < n) × ((v : ℕ) → Led work head ls v → n ≡ v)

-- What stands behind all the letters of a name.
unfoldable pub entry_of : ℕ → Entry
entry_of n = pick (eqb n 0) Entry.None (Entry.Value n)

-- Work memory with a node more, to which a link leads now.
unfoldable pub with_node : List ℕ → ℕ → ℕ → ℕ → List ℕ
with_node work link top x = set (set (set (set work link top) top x) (top + 1) 0) (top + 2) 0

-- Letters can be put from a link on that leads nowhere yet.
pub record LettersRoom (work : List ℕ) (first head next : ℕ) : Type 0 where
  pub behind : head < first
  pub below : first < next
  pub free : get_or work first 0 ≡ 0
  pub space : head < length work

-- Letters were put from a link on, with a value behind them, or the trie was given up.
pub record LettersPut (before after : List ℕ) (first head next : ℕ) (ls : List ℕ) (v : ℕ) : Type 0 where
  pub size : length after ≡ length before
  pub front : take head after ≡ take head before
  pub grown : head + 1 < get_or after head 0 → Grown head before next after (get_or after head 0)
  pub led : head + 1 < get_or after head 0 → Path after (get_or after head 0) first ls v

-- A value was put for these letters, or the trie was given up; all that were put before are there still, and work memory in front is as it was.
pub record PathPut (before after : List ℕ) (head : ℕ) (ls : List ℕ) (v : ℕ) : Type 0 where
  pub size : length after ≡ length before
  pub front : take head after ≡ take head before
  pub new : Led after head ls v
  pub old : (ms : List ℕ) (w : ℕ) → Led before head ms w → Led after head ms w

-- Character lists in a TYPESET: numbers, `.` for the last, ALL, ranges, and `\` with a stride.
use Rattle.std.specs.Prelude.{ℕ, zero, suc, ◌-◌, ◌%◌, ltb, leb, eqb, Bool, true, false, ◌&&◌, ◌||◌, List, [], ◌∷◌, ◌++◌}
use Rattle.block.specs.Outcome.{Outcome, done, refused, then, fold}
use Rattle.block.specs.declared.kinds.Further.{Further}
use Rattle.block.specs.declared.kinds.Item.{Item}
use Rattle.block.specs.declared.kinds.Range.{Range}
use Rattle.lexer.specs.Base.{pick, bytes, same, byte}
use Rattle.lexer.specs.Words.{Numbered, is, punct, number, is_word, is_quoted, is_string}
use Rattle.lexer.specs.declared.refusal.Refusal.{Refusal}

-- A part of a list, as a token of its own, and the token that it is part of. Words are cut at each `-`, which is a part of its own; any other
-- token is one part.
pub record Part : Type 0 where
  pub own : Numbered
  pub word : Numbered

unfoldable pub part : Numbered → List ℕ → Part
part w text = record { own = record { index = w.index; token = record { kind = w.token.kind; text = text } }; word = w }

-- The bytes up to the next `-`.
unfoldable pub to_dash : List ℕ → List ℕ
to_dash [] = []
to_dash (b ∷ r) = let more = b ∷ to_dash r in pick (eqb b (byte "-")) [] more

unfoldable pub cut_from : Numbered → Bool → List ℕ → List Part
cut_from w begun [] = []
cut_from w false (b ∷ r) =
    let dash = part w (byte "-" ∷ []) ∷ cut_from w false r in
    let this = part w (b ∷ to_dash r) ∷ cut_from w true r in
    pick (eqb b (byte "-")) dash this
cut_from w true (b ∷ r) =
    let dash = part w (byte "-" ∷ []) ∷ cut_from w false r in
    let more = cut_from w true r in
    pick (eqb b (byte "-")) dash more

unfoldable pub parts : Numbered → List Part
parts w =
    let cut = cut_from w false w.token.text in
    pick (is_word w.token.kind) cut (part w w.token.text ∷ [])

-- A dash, also in quotes; a stride's `\`, a mark; ALL, a whole word.
unfoldable pub is_dash : Part → Bool
is_dash p = same p.own.token.text (byte "-" ∷ [])

unfoldable pub is_stride : Part → Bool
is_stride p = punct (byte "\\") p.word

unfoldable pub is_all : Part → Bool
is_all p = is (bytes "ALL") p.word

-- The number of a character, from 1 to NCHAR; 0 if the part is none. Quoted text is none.
unfoldable pub character_number : ℕ → Part → ℕ
character_number count p =
    let k = p.own.token.kind in
    let n = number p.own in
    let index = pick (leb n count) n 0 in
    pick (is_quoted k || is_string k) 0 (pick (same p.own.token.text (byte "." ∷ [])) count index)

-- The characters from first to last, each stride-th.
unfoldable pub range : ℕ → ℕ → ℕ → Range
range f l s = record { first = f; last = l; stride = s }

-- A list begins, or goes on, with a number or ALL.
unfoldable pub first_number : Part → ℕ → Outcome Item
first_number p zero = refused Refusal.CharacterList p.word.index
first_number p (suc n) = done (Item.Single false (suc n) (suc n) p.word.index)

unfoldable pub first_item : ℕ → Part → Outcome Item
first_item count p =
    let one = first_number p (character_number count p) in
    pick (is_all p) (done (Item.Single true 1 count p.word.index)) one

-- The part of a list behind a complete range.
unfoldable pub next_item : ℕ → Range → Part → Outcome Further
next_item count r p = then (first_item count p) (λ m. done (Further.Past r m))

unfoldable pub last_number : ℕ → ℕ → Part → ℕ → Outcome Further
last_number f i p zero = refused Refusal.CharacterList p.word.index
last_number f i p (suc n) = pick (ltb (suc n) f) (refused Refusal.CharacterList i) (done (Further.On (Item.Pair f (suc n) i)))

unfoldable pub stride_number : ℕ → ℕ → Part → ℕ → Outcome Further
stride_number f l p zero = refused Refusal.CharacterList p.word.index
stride_number f l p (suc n) = done (Further.Past (range f l (suc n)) Item.Number)

-- One part more, where the list is at a first number; behind it (ALL or not); behind its dash; behind the last number; or behind its `\`. ALL
-- is no end of a range; a range rises, which is judged before its stride.
unfoldable pub item_turn : ℕ → Item → Part → Outcome Further
item_turn count Item.Number p = then (first_item count p) (λ m. done (Further.On m))
item_turn count (Item.Single all f l i) p =
    let ranged = pick all (refused Refusal.CharacterList i) (done (Further.On (Item.To f i))) in
    let next = next_item count (range f l 1) p in
    pick (is_dash p) ranged (pick (is_stride p) (done (Further.On (Item.By f l i))) next)
item_turn count (Item.To f i) p = last_number f i p (character_number count p)
item_turn count (Item.Pair f l i) p =
    let next = next_item count (range f l 1) p in
    pick (is_stride p) (done (Further.On (Item.By f l i))) next
item_turn count (Item.By f l i) p = stride_number f l p (number p.own)

-- A list so far: its ranges, and where it is.
pub record Listed : Type 0 where
  pub ranges : List Range
  pub item : Item

unfoldable pub listed : List Range → Item → Listed
listed rs m = record { ranges = rs; item = m }

unfoldable pub with_further : List Range → Further → Listed
with_further rs (Further.On m) = listed rs m
with_further rs (Further.Past r m) = listed (rs ++ (r ∷ [])) m

unfoldable pub part_turn : ℕ → Listed → Part → Outcome Listed
part_turn count s p = then (item_turn count s.item p) (λ n. done (with_further s.ranges n))

unfoldable pub list_turn : ℕ → Listed → Numbered → Outcome Listed
list_turn count s w = fold (part_turn count) s (parts w)

-- The ranges of a list whose words have ended.
unfoldable pub item_end : List Range → Item → Outcome (List Range)
item_end rs Item.Number = done rs
item_end rs (Item.Single all f l i) = done (rs ++ (range f l 1 ∷ []))
item_end rs (Item.To f i) = refused Refusal.CharacterList i
item_end rs (Item.Pair f l i) = done (rs ++ (range f l 1 ∷ []))
item_end rs (Item.By f l i) = refused Refusal.CharacterList i

-- Is a character, by its number, in a range?
unfoldable pub in_range : Range → ℕ → Bool
in_range r k = leb r.first k && leb k r.last && eqb ((k - r.first) % r.stride) 0

-- The lines behind the number of a character that has neither a label nor state labels: where they stand, no other character's lines do. Assumes nothing.
use Rattle.std.specs.Prelude.{Some, Option}
use Prim.Native.Nat.{ℕ, ◌≤◌}
use Rattle.block.specs.Reading.{Character}
use Rattle.block.specs.Sound.{sound_label}
use Rattle.block.specs.declared.model.CharacterOrdering.{CharacterOrdering}
use Rattle.judging.proofs.EscapedLines.{front}
use Rattle.judging.proofs.NumberLaws.{leading-decimal}
use Rattle.judging.proofs.ReadingParts.{lines-spelled}
use Rattle.judging.proofs.TellLaws.{tells-one}
use Rattle.judging.specs.Numbers.{leading}
use Rattle.judging.specs.Parts.{CharacterGood, LinesTold, PlainTold, character_marks, plain_character, spell_lines}
use Rattle.judging.specs.Tells.{Tells, until, characters_of, flag_of}
use Rattle.lexer.specs.Base.{bytes, is_empty}
use Rattle.record.specs.Decimal.{decimal}
use Rattle.record.specs.Form.{any_label}
use Rattle.record.specs.Spell.{escaped, line, order_word}
use lib.ListN.{length, drop, get_or}
use mathlib.Core.Bool.{Bool, false}
use mathlib.Core.List.{List, [], ◌∷◌, ◌++◌, append_assoc}
use mathlib.Core.Path.{◌≡◌, refl, sym, ap, ◌∙◌, subst}
use native.Mathlib.Omega.{arith}

-- The line of no label, of a type, and of no state labels.
label-only : (l x y : List ℕ) → line "label=" (escaped []) x ≡ line "label=" (escaped l) y → (l ≡ []) × (x ≡ y)
unfolding line bytes escaped
label-only l x y e =
    let text : 10 ∷ x ≡ escaped l ++ (10 ∷ y) = ap (drop 6) e in
    let none : l ≡ [] = (front 10 x l y (text ∙ sym (append_assoc (escaped l) (10 ∷ []) y))).line-end refl in
    let rest : 10 ∷ x ≡ 10 ∷ y = rw none at text in
    (none, cc)

order-only : (o p : CharacterOrdering) (x y : List ℕ) → line "order=" (order_word o) x ≡ line "order=" (order_word p) y → (p ≡ o) × (x ≡ y)
unfolding line order_word bytes
order-only CharacterOrdering.Unordered CharacterOrdering.Unordered x y e = (refl, ap (drop 12) e)
order-only CharacterOrdering.Unordered CharacterOrdering.Ordered x y e = let z : ◌≡◌ {A = ℕ} 85 79 = ap (λ l. get_or l 6 0) e in absurd (omega (arith, z))
order-only CharacterOrdering.Ordered CharacterOrdering.Unordered x y e = let z : ◌≡◌ {A = ℕ} 79 85 = ap (λ l. get_or l 6 0) e in absurd (omega (arith, z))
order-only CharacterOrdering.Ordered CharacterOrdering.Ordered x y e = (refl, ap (drop 10) e)

states-only : (ss : List (List ℕ)) (x y : List ℕ) → length ss ≤ 1048576 → line "states=" (decimal 0) x ≡ line "states=" (decimal (length ss)) y → ss ≡ []
unfolding line bytes
states-only [] x y few e = refl
states-only (s ∷ ss) x y few e =
    let digits : decimal 0 ++ (10 ∷ x) ≡ decimal (length (s ∷ ss)) ++ (10 ∷ y) = ap (drop 7) e in
    let none : 0 ≡ length (s ∷ ss) = sym (leading-decimal 0 x (omega arith)) ∙ ap (leading 0) digits ∙ leading-decimal (length (s ∷ ss)) y few in
    absurd (omega arith)

-- So no other character's lines begin with these.
plain-only : (o : CharacterOrdering) (c : Character) (x y : List ℕ) → length c.states ≤ 1048576 → spell_lines (plain_character o) ++ x ≡ spell_lines c ++ y → c ≡ plain_character o
unfolding plain_character
plain-only o c x y few e =
    let (label, behind) = label-only c.label _ _ (lines-spelled (plain_character o) x ∙ e ∙ sym (lines-spelled c y)) in
    let (ordering, last) = order-only o c.ordering _ _ behind in
    let states : c.states ≡ [] = states-only c.states _ _ few last in
    let made : ◌≡◌ {A = Character} (record { label = c.label; states = c.states; ordering = c.ordering }) (plain_character o) = rw (label, states, ordering) refl in
    made

-- Where they stand, the character is told.
pub plain_lines : (b : List ℕ) (i most : ℕ) → most ≤ 1048576 → (r : Option (ℕ × Bool)) → PlainTold b i r → (j : ℕ) (ordered : Bool) → r ≡ Some (j, ordered)
    → LinesTold b i most (Some (j, false, ordered))
unfolding flag_of characters_of character_marks any_label is_empty plain_character sound_label
plain_lines b i most small r told j ordered here =
    let (s, is) = (subst (λ a. PlainTold b i a) here told).found j ordered refl in
    let good : CharacterGood most (plain_character s.what) = record { label = refl; states = record { few = omega arith; each = tt } } in
    let one =
    tells-one b i (CharacterGood most) spell_lines character_marks (plain_character s.what) (drop j b) good s.here
    (λ c t g e. plain-only s.what c (drop j b) t (omega (arith, g.states.few)) (sym s.here ∙ e)) in
    subst (λ p. Tells b i (CharacterGood most) spell_lines character_marks p)
    (ap (λ n. until n (character_marks (plain_character s.what))) (sym s.end) ∙ ap (λ v. until j (record { labelled = false; ordered = v })) (sym is)) one

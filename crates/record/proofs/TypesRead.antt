-- The types of a written form's characters are read: all unordered, or a VECTOR in ASSUMPTIONS. Assumes nothing.
use Prim.Native.Nat.{ℕ, suc}
use Rattle.block.specs.Blocks.{State, outside, in_assumptions, in_phase, begin_assumptions, begin_block, begin_words, step, is_outside, block_step, ends, inner_step, characters_in, assumption_step, end_block, with_types, matrix_typed, retyped, unordered, is_ordered, has_ordered}
use Rattle.block.specs.Outcome.{done}
use Rattle.block.specs.Reading.{Character, Reading}
use Rattle.block.specs.Run.{run_text}
use Rattle.block.specs.Typeset as T
use Rattle.block.specs.Typeset.{Types, Typeset, ordering, typeset, typeset_turn}
use Rattle.block.specs.declared.model.CharacterOrdering.{CharacterOrdering}
use Rattle.lexer.proofs.Basics.{or_left, or_right, by-test}
use Rattle.lexer.specs.Base.{given, is_empty}
use Rattle.lexer.specs.Tokens.{Token}
use Rattle.record.proofs.CommandLaws.{at, Turns, end-turned, Reads, nothing_read, newline-read, command-read, Passes, here, there, words_from}
use Rattle.record.proofs.FormTokens.{word, key, mark, types_tokens, assumptions_tokens}
use Rattle.record.proofs.LabelsRead.{if_any, labels_of}
use Rattle.record.specs.Spell.{order_word}
use borrow.Author.Tests.{eq-eqb}
use lib.ListN.{length}
use mathlib.Core.Bool.{Bool, true, false, true≢false}
use mathlib.Core.List.{List, [], ◌∷◌, ◌++◌, append-nil, append_assoc}
use mathlib.Core.Option.{Option, none, some, get_or}
use mathlib.Core.Path.{◌≡◌, refl, sym, ap, ◌∙◌}

-- The types of characters.
types_of : List Character → Types
types_of [] = []
types_of (c ∷ r) = some c.ordering ∷ types_of r

-- The characters before any type is given.
abbrev pub untyped : List Character → List Character
untyped cs = unordered (labels_of cs)

module _ {A : Type 0} where
  any-back : (s : List A) → get_or (if_any s) [] ≡ s
  unfolding if_any
  any-back [] = refl
  any-back (a ∷ s) = refl

unordered-back : (o : CharacterOrdering) → is_ordered o ≡ false → CharacterOrdering.Unordered ≡ o
unfolding is_ordered
unordered-back CharacterOrdering.Ordered h = absurd (true≢false h)
unordered-back CharacterOrdering.Unordered h = refl

untyped-back : (cs : List Character) → has_ordered cs ≡ false → untyped cs ≡ cs
unfolding unordered labels_of has_ordered
untyped-back [] h = refl
untyped-back (c ∷ r) h =
    rw (any-back c.label, any-back c.states, unordered-back c.ordering (or_left (is_ordered c.ordering) (has_ordered r) h), untyped-back r (or_right (is_ordered c.ordering) (has_ordered r) h))
    refl

typed-back : (cs : List Character) → retyped CharacterOrdering.Unordered (types_of cs) (untyped cs) ≡ cs
unfolding unordered labels_of retyped types_of
typed-back [] = refl
typed-back (c ∷ r) = rw (any-back c.label, any-back c.states, typed-back r) refl

untyped-length : (cs : List Character) → length (untyped cs) ≡ length cs
unfolding unordered labels_of
untyped-length [] = refl
untyped-length (c ∷ r) = ap suc (untyped-length r)

types-length : (cs : List Character) → length (types_of cs) ≡ length cs
unfolding types_of
types-length [] = refl
types-length (c ∷ r) = ap suc (types-length r)

-- The VECTOR.
order-read : (o : CharacterOrdering) (i : ℕ) → ordering (at i (word (order_word o))) ≡ some o
unfolding words_from ordering order_word
order-read CharacterOrdering.Ordered i = refl
order-read CharacterOrdering.Unordered i = refl

types-turned : (t : Typeset) (cs : List Character) (ts : Types) (rest : List Token)
    → Turns (typeset_turn t) (T.types ts none) (types_tokens cs (mark 59 ∷ rest)) (T.types (ts ++ types_of cs) none)
unfolding words_from types_tokens types_of typeset_turn T.vector_word
types-turned t [] ts rest = rw append-nil end-turned
types-turned t (c ∷ r) ts rest =
    let more : Turns (typeset_turn t) (T.types (ts ++ (some c.ordering ∷ [])) none) (types_tokens r (mark 59 ∷ rest)) (T.types (ts ++ (some c.ordering ∷ types_of r)) none) =
    rw append_assoc at (types-turned t r (ts ++ (some c.ordering ∷ [])) rest)
    in
    record { turned = λ i. rw (order-read c.ordering i) (more.turned (suc i)) }

-- The words behind TYPESET.
abbrev typeset_words : List Character → List Token → List Token
typeset_words cs rest = mark 42 ∷ key "w" ∷ mark 40 ∷ key "VECTOR" ∷ mark 41 ∷ mark 61 ∷ types_tokens cs (mark 59 ∷ rest)

typeset-turned : (t : Typeset) (cs : List Character) (rest : List Token) → Turns (typeset_turn t) T.star (typeset_words cs rest) (T.types (types_of cs) none)
unfolding run_text
typeset-turned t cs rest = record { turned = λ i. (types-turned t cs [] rest).turned (suc (suc (suc (suc (suc (suc i)))))) }

types-passes : (cs : List Character) {ts rest : List Token} → Passes ts rest → Passes (types_tokens cs ts) rest
unfolding words_from types_tokens
types-passes [] p = p
types-passes (c ∷ r) p = there (word (order_word c.ordering)) refl (types-passes r p)

typeset-passes : (cs : List Character) (rest : List Token) → Passes (typeset_words cs rest) rest
unfolding words_from
typeset-passes cs rest =
    there (mark 42) refl (there (key "w") refl (there (mark 40) refl (there (key "VECTOR") refl (there (mark 41) refl (there (mark 61) refl (types-passes cs here))))))

vector-whole : (t : Typeset) (cs : List Character) → is_empty cs ≡ false → t.characters ≡ length cs → T.vector_end t (types_of cs) none ≡ done (types_of cs)
unfolding words_from T.vector_end types_of is_empty
vector-whole t [] h e = absurd (true≢false h)
vector-whole t (c ∷ r) h e = rw (eq-eqb (suc (length (types_of r))) t.characters (ap suc (types-length r) ∙ sym e)) refl

typeset-read : (t : Typeset) (cs : List Character) (rest : List Token) (i : ℕ) → is_empty cs ≡ false → t.characters ≡ length cs
    → typeset t (words_from i (typeset_words cs rest)) ≡ done (types_of cs)
unfolding words_from typeset T.typeset_end
typeset-read t cs rest i h e = rw ((typeset-turned t cs rest).turned i) (vector-whole t cs h e)

-- The state behind the DATA block of a form, and behind its ASSUMPTIONS.
abbrev pub with_characters : Reading → List Character → Reading
with_characters r cs = record { data_type = r.data_type; symbols = r.symbols; taxa = r.taxa; characters = cs }

abbrev pub behind_blocks : Reading → Bool → State
behind_blocks r b = record { phase = outside; taxa = none; matrix = some r; assumptions = b }

abbrev in_types : ℕ → Reading → Option Types → State
in_types b r set = record { phase = in_assumptions b none set; taxa = none; matrix = some r; assumptions = false }

begin-read : (u : Reading) {t : State} {rest : List Token} → ((b : ℕ) → Reads (in_types b u none) rest t)
    → Reads (behind_blocks u false) (key "BEGIN" ∷ key "ASSUMPTIONS" ∷ mark 59 ∷ rest) t
unfolding words_from step is_outside begin_words begin_block begin_assumptions in_phase
begin-read u r = command-read (key "BEGIN") refl refl (there (key "ASSUMPTIONS") refl here) (λ i. (in_types (suc i) u none, refl, r (suc i)))

types-read : (b : ℕ) (r : Reading) (cs : List Character) {t : State} {rest : List Token} → is_empty cs ≡ false
    → Reads (in_types b (with_characters r (untyped cs)) (some (types_of cs))) rest t
    → Reads (in_types b (with_characters r (untyped cs)) none) (key "TYPESET" ∷ typeset_words cs rest) t
unfolding words_from step is_outside block_step ends inner_step characters_in assumption_step given in_phase
types-read b r cs {rest = rest} h more =
    command-read (key "TYPESET") refl refl (typeset-passes cs rest)
    (λ i. (
      in_types b (with_characters r (untyped cs)) (some (types_of cs)),
      rw (typeset-read (record { characters = length (untyped cs); head = i }) cs rest (suc i) h (untyped-length cs)) refl,
      more,
    ))

end_read : (b : ℕ) (r : Reading) {t : State} {rest : List Token} → Reads (behind_blocks r true) rest t
    → Reads (in_types b (with_characters r (untyped r.characters)) (some (types_of r.characters))) (key "END" ∷ mark 59 ∷ rest) t
unfolding words_from step is_outside block_step ends end_block matrix_typed with_types is_empty
end_read b r more = command-read (key "END") refl refl here (λ i. (behind_blocks r true, rw (typed-back r.characters) refl, more))

pub assumptions-read : (r : Reading) → is_empty r.characters ≡ false
    → Reads (behind_blocks (with_characters r (untyped r.characters)) false) (assumptions_tokens r.characters) (behind_blocks r (has_ordered r.characters))
unfolding words_from assumptions_tokens
assumptions-read r h =
    by-test (has_ordered r.characters)
    (λ t. rw t
    (begin-read (with_characters r (untyped r.characters))
    (λ b. newline-read (types-read b r r.characters h (newline-read (end_read b r (newline-read (nothing_read (behind_blocks r true)))))))))
    (λ f. rw (f, untyped-back r.characters f) (nothing_read (behind_blocks r false)))

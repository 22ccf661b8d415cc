-- What one word more comes to in an entry list of labels, by what work memory holds. Assumes nothing.
use Prim.Native.Nat.{ℕ, ◌+◌, ◌-◌, ◌*◌, ◌≤◌, ◌<◌}
use Rattle.block.proofs.WalkLaws.{words-end, words_last}
use Rattle.block.specs.Commands.{newline, words}
use Rattle.block.specs.Labels.{Labelled, LabelCommand, next, numbered, labelled, states, at, character, begin_states, entry_number, entry_begins, entry_label, entry_states, state_label, entry_turn}
use Rattle.block.specs.NamesHeld.{name_of, names_of}
use Rattle.block.specs.Outcome.{done, refused, then, need}
use Rattle.block.specs.declared.kinds.Labelling.{Labelling}
use Rattle.labels.proofs.LabelSlotLaws.{character-states, stored-states}
use Rattle.labels.specs.LabelEntries.{command_of}
use Rattle.labels.specs.LabelSlots.{labels_held, label_one}
use Rattle.lexer.proofs.Basics.{by-test, and_left}
use Rattle.lexer.proofs.LabelLaws.{label-some, label-none, label-given}
use Rattle.lexer.proofs.RangeLaws.{word-front, range_front}
use Rattle.lexer.specs.Base.{pick, given, byte}
use Rattle.lexer.specs.Classes.{blank}
use Rattle.lexer.specs.Stored.{word_of, range}
use Rattle.lexer.specs.Words.{Numbered, label, number, punct, is_word, is_quoted, is_line_end}
use Rattle.lexer.specs.declared.Kind.{Kind}
use Rattle.lexer.specs.declared.refusal.Refusal.{Refusal}
use borrow.Author.Tests.{lt-ltb, le-ltb}
use lib.Dec.{eqb, leb}
use lib.ListN.{length, get_or, take, set, length-map}
use lib.Seq.{take-set-le}
use mathlib.Core.Bool.{Bool, true, false, not, ◌&&◌, ◌||◌, cond, true≢false, false≢true}
use mathlib.Core.List.{List, [], ◌∷◌, ◌++◌, map-append}
use mathlib.Core.Path.{◌≡◌, refl, sym, ap, ◌∙◌}
use native.Mathlib.Omega.{arith}

-- State labels begin, by the number that work memory holds for the character's.
module _ (text work : List ℕ) (here n k : ℕ) (from : 1 ≤ k) (to : k ≤ n) (number i : ℕ) {b : Bool} (h : b ≡ not (eqb (get_or work (here + n + (k - 1)) 0) 0)) where
  pub states-twice : b ≡ true → refused Refusal.LabelEntry number ≡ begin_states (labels_held text work here n) k number
  unfolding begin_states pick
  states-twice e = rw (character-states text work here n k from to ∙ sym h ∙ e)

  pub states-begin : b ≡ false → done (at (labels_held text work here n) (states k number (names_of (words (range text (take here work) (i + 1) (i + 1)))))) ≡ begin_states (labels_held text work here n) k number
  unfolding begin_states pick names_of
  states-begin e = rw (words-end text (take here work) (i + 1) (i + 1) (omega arith), character-states text work here n k from to ∙ sym h ∙ e)

-- An entry begins: with a comma; with a number that is no character's; or with one that is.
module _ (what : Labelling) (head : ℕ) (ws : List Numbered) (cs : List Labelled) (w : Numbered) where
  pub begins-comma : punct (byte ",") w ≡ true → refused Refusal.LabelEntry head ≡ entry_begins (command_of what head ws) cs w
  unfolding entry_begins pick
  begins-comma e = rw e

  module _ (e : punct (byte ",") w ≡ false) (k : ℕ) (spelled : k ≡ number w) (n : ℕ) (all : length cs ≡ n) where
    pub begins-outside : leb 1 k && leb k n ≡ false → refused Refusal.LabelEntry w.index ≡ entry_begins (command_of what head ws) cs w
    unfolding entry_begins pick
    begins-outside t = rw (e, ← spelled, all, t)

    pub begins-number : leb 1 k && leb k n ≡ true → entry_begins (command_of what head ws) cs w ≡ entry_number what cs w k
    unfolding entry_begins pick
    begins-number t = rw (e, ← spelled, all, t)

-- A word behind the number of a character, or behind its label
module _ (count : ℕ) (c : LabelCommand) (cs : List Labelled) (k i : ℕ) (w : Numbered) where
  labelled-one : entry_label cs k i w ≡ then (label_one cs k i w) (λ ds. done (at ds (labelled k i)))
  unfolding entry_label label_one pick then need
  labelled-one =
      by-test (given (character k cs).label) (λ e. rw e refl)
      (λ e. by-test (given (label w)) (λ g. rw (e, label-some w g) refl) (λ g. rw (e, label-none w g) refl))

  pub character-comma : (has_label : Bool) → punct (byte ",") w ≡ true → done (at cs next) ≡ entry_turn count c cs (cond has_label (labelled k i) (numbered k i)) w
  unfolding entry_turn pick
  character-comma true e = rw e
  character-comma false e = rw e

  module _ (e : punct (byte ",") w ≡ false) where
    pub character-slash : (has_label : Bool) → punct (byte "/") w ≡ true → entry_turn count c cs (cond has_label (labelled k i) (numbered k i)) w ≡ begin_states cs k i
    unfolding entry_turn pick
    character-slash true f = rw (e, f)
    character-slash false f = rw (e, f)

    module _ (f : punct (byte "/") w ≡ false) where
      pub character-label : (has_label : Bool) → has_label ≡ false → entry_turn count c cs (cond has_label (labelled k i) (numbered k i)) w ≡ then (label_one cs k i w) (λ ds. done (at ds (labelled k i)))
      unfolding entry_turn pick
      character-label true h = absurd (true≢false h)
      character-label false h = rw (e, f) labelled-one

      pub character-more : (has_label : Bool) → has_label ≡ true → refused Refusal.LabelEntry w.index ≡ entry_turn count c cs (cond has_label (labelled k i) (numbered k i)) w
      unfolding entry_turn pick
      character-more true h = rw (e, f)
      character-more false h = absurd (false≢true h)

  -- and among its state labels
  module _ (s : List (List ℕ)) where
    pub states-comma : punct (byte ",") w ≡ true → entry_turn count c cs (states k i s) w ≡ then (entry_states count cs k i s) (λ ds. done (at ds next))
    unfolding entry_turn pick
    states-comma e = rw e

    pub states-more : punct (byte ",") w ≡ false → given (label w) ≡ true → done (at cs (states k i (s ++ (name_of w ∷ [])))) ≡ entry_turn count c cs (states k i s) w
    unfolding entry_turn pick state_label then need name_of
    states-more e g = rw (e, label-some w g)

    pub states-nameless : punct (byte ",") w ≡ false → given (label w) ≡ false → refused Refusal.NotName w.index ≡ entry_turn count c cs (states k i s) w
    unfolding entry_turn pick state_label then need
    states-nameless e g = rw (e, label-none w g)

-- A name is no newline.
line-nameless : (k : Kind) → is_word k || is_quoted k ≡ true → is_line_end k ≡ false
unfolding is_word is_quoted is_line_end
line-nameless Kind.Word h = refl
line-nameless Kind.Quoted h = refl
line-nameless Kind.String h = refl
line-nameless (Kind.Punctuation b) h = refl
line-nameless Kind.Newline h = sym h
line-nameless Kind.OpenQuote h = refl
line-nameless Kind.OpenComment h = refl

name-lineless : (w : Numbered) → given (label w) ≡ true → newline w ≡ false
unfolding newline
name-lineless w h = line-nameless w.token.kind (and_left (is_word w.token.kind || is_quoted w.token.kind) (not (blank w.token.text)) (sym (label-given w) ∙ h))

-- State labels so far, with one name more
pub names-grown : (text work : List ℕ) (here from i : ℕ) → from ≤ i → i < here → given (label (word_of text work i)) ≡ true
    → names_of (words (range text (take here work) from (i + 1))) ≡ names_of (words (range text (take here work) from i)) ++ (name_of (word_of text work i) ∷ [])
unfolding names_of
names-grown text work here from i l h g =
    let same = word-front text work here i h in
    let full = name-lineless (word_of text work i) g in
    rw (words_last text (take here work) from i l (rw same full), map-append, same)

-- State labels end: too many, or stored.
module _ (text work : List ℕ) (here n k : ℕ) (from : 1 ≤ k) (to : k ≤ n) (symbols number first i : ℕ) (h : i ≤ here) (count : ℕ) (counted : count ≡ length (words (range text work first i))) where
  counted-names : length (names_of (words (range text (take here work) first i))) ≡ count
  unfolding names_of
  counted-names = length-map (words (range text (take here work) first i)) name_of ∙ rw (range_front text work here first i h) (sym counted)

  pub states-many : symbols < count → refused Refusal.LabelEntry number ≡ entry_states symbols (labels_held text work here n) k number (names_of (words (range text (take here work) first i)))
  unfolding entry_states pick
  states-many l = rw (counted-names, lt-ltb symbols count l)

  pub states-few : count ≤ symbols → symbols < 128 → here + 2 * n ≤ length work → first ≤ i → (after : List ℕ) → after ≡ set work (here + n + (k - 1)) (first * 128 + count + 1)
      → (take here after ≡ take here work) × (done (labels_held text after here n) ≡ entry_states symbols (labels_held text work here n) k number (names_of (words (range text (take here work) first i))))
  unfolding entry_states pick
  states-few l few fits back after put = (
    ap (take here) put ∙ take-set-le here work (here + n + (k - 1)) (first * 128 + count + 1) (omega arith),
    rw (counted-names, le-ltb symbols count l, put, range_front text work here first i h) (ap done (stored-states text work here n fits k from to first i count back h counted (omega arith))),
  )

-- Which character each label and each list of state labels belongs to, as statements about a text's commands and their words.
use Rattle.std.specs.Prelude.{ℕ, suc, length, Bool, true, false, ◌&&◌, not, List, [], ◌∷◌, ◌++◌, map, ◌≡◌}
use Rattle.block.specs.Blocks.{Data, in_data, State, at_start, step}
use Rattle.block.specs.Commands.{Command, command, words}
use Rattle.block.specs.Outcome.{done, fold}
use Rattle.block.specs.Reading.{Character}
use Rattle.block.specs.declared.kinds.Labelling.{Labelling}
use Rattle.lexer.specs.Base.{bytes, byte}
use Rattle.lexer.specs.Words.{Numbered, is, punct, label, number}
use Rattle.std.proofs.Math.Option.{some}

-- This one is the k-th of these, counted from 1.
pub record Kth {A : Type 0} (l : List A) (k : ℕ) (a : A) : Type 0 where
  pub before : List A
  pub after : List A
  pub here : l ≡ before ++ (a ∷ after)
  pub counted : suc (length before) ≡ k

-- `,` and `/`
unfoldable pub comma : Numbered → Bool
comma w = punct (byte ",") w

unfoldable pub slash : Numbered → Bool
slash w = punct (byte "/") w

-- No comma is among these words.
unfoldable pub no_comma : List Numbered → Bool
no_comma [] = true
no_comma (w ∷ r) = not (comma w) && no_comma r

-- There are no words, or the last is a comma.
unfoldable pub comma_last : List Numbered → Bool
comma_last [] = true
comma_last (w ∷ []) = comma w
comma_last (w ∷ v ∷ r) = comma_last (v ∷ r)

-- There are no words, or the first is a comma.
unfoldable pub comma_first : List Numbered → Bool
comma_first [] = true
comma_first (w ∷ r) = comma w

-- An entry of a command with these words: what stands from one comma, or the beginning, to the next comma, or the end.
pub record EntryOf (ws entry : List Numbered) : Type 0 where
  pub before : List Numbered
  pub after : List Numbered
  pub here : ws ≡ before ++ (entry ++ after)
  pub begins : comma_last before ≡ true
  pub ends : comma_first after ≡ true
  pub whole : no_comma entry ≡ true

-- An entry of CHARSTATELABELS labels the k-th character so: its first word is that number, and its second, which is not `/`, the name.
pub record EntryLabel (entry : List Numbered) (k : ℕ) (n : List ℕ) : Type 0 where
  pub first : Numbered
  pub second : Numbered
  pub rest : List Numbered
  pub words : entry ≡ first ∷ second ∷ rest
  pub numbered : number first ≡ k
  pub unmarked : slash second ≡ false
  pub named : label second ≡ some n

-- What stands in an entry between a character's number and its state labels: nothing in STATELABELS; in CHARSTATELABELS `/`, behind the
-- character's label if the entry has one.
unfoldable pub before_states : Labelling → List Numbered → Bool
before_states Labelling.CharLabels front = false
before_states Labelling.StateLabels [] = true
before_states Labelling.StateLabels (v ∷ r) = false
before_states Labelling.CharStateLabels [] = false
before_states Labelling.CharStateLabels (v ∷ []) = slash v
before_states Labelling.CharStateLabels (v ∷ x ∷ []) = not (slash v) && slash x
before_states Labelling.CharStateLabels (v ∷ x ∷ y ∷ r) = false

-- An entry of such a command gives the k-th character these state labels: the names of its last words, in their order.
pub record EntryStates (what : Labelling) (entry : List Numbered) (k : ℕ) (s : List (List ℕ)) : Type 0 where
  pub first : Numbered
  pub front : List Numbered
  pub last : List Numbered
  pub words : entry ≡ first ∷ (front ++ last)
  pub numbered : number first ≡ k
  pub fronted : before_states what front ≡ true
  pub named : map label last ≡ map some s

-- A command with these words labels the k-th character so: the k-th name of CHARLABELS, or an entry of CHARSTATELABELS.
abbrev pub GivesLabel : Labelling → List Numbered → ℕ → List ℕ → Type 0
GivesLabel Labelling.CharLabels ws k n = (w : Numbered) × Kth ws k w × (label w ≡ some n)
GivesLabel Labelling.StateLabels ws k n = ⊥
GivesLabel Labelling.CharStateLabels ws k n = (entry : List Numbered) × EntryOf ws entry × EntryLabel entry k n

-- It gives the k-th character these state labels: an entry of STATELABELS or CHARSTATELABELS.
abbrev pub GivesStates : Labelling → List Numbered → ℕ → List (List ℕ) → Type 0
GivesStates what ws k s = (entry : List Numbered) × EntryOf ws entry × EntryStates what entry k s

-- The first word of a label command.
unfoldable pub keyword : Labelling → List ℕ
keyword Labelling.CharLabels = bytes "CHARLABELS"
keyword Labelling.StateLabels = bytes "STATELABELS"
keyword Labelling.CharStateLabels = bytes "CHARSTATELABELS"

-- A label command among these, of this kind and with these words: the commands before it lead to a data block.
pub record IsLabelCommand (cs : List Command) (what : Labelling) (ws : List Numbered) : Type 0 where
  pub before : List Command
  pub head : Numbered
  pub raw : List Numbered
  pub after : List Command
  pub here : cs ≡ before ++ (command head raw ∷ after)
  pub word : is (keyword what) head ≡ true
  pub words : words raw ≡ ws
  pub state : State
  pub reached : fold step at_start before ≡ done state
  pub block : ℕ
  pub block_data : Data
  pub inside : state.phase ≡ in_data block block_data

-- One of the label commands gives the k-th character this label, or these state labels.
pub record LabelGiven (cs : List Command) (k : ℕ) (n : List ℕ) : Type 0 where
  pub what : Labelling
  pub words : List Numbered
  pub among : IsLabelCommand cs what words
  pub gives : GivesLabel what words k n

pub record StatesGiven (cs : List Command) (k : ℕ) (s : List (List ℕ)) : Type 0 where
  pub what : Labelling
  pub words : List Numbered
  pub among : IsLabelCommand cs what words
  pub gives : GivesStates what words k s

-- The k-th character has the label and the state labels that these commands give it, and, where they give none, an empty label and no
-- state labels.
pub record LabelledBy (cs : List Command) (k : ℕ) (c : Character) : Type 0 where
  pub label : (n : List ℕ) → LabelGiven cs k n → c.label ≡ n
  pub label_given : ¬ (c.label ≡ []) → LabelGiven cs k c.label
  pub states : (s : List (List ℕ)) → StatesGiven cs k s → c.states ≡ s
  pub states_given : ¬ (c.states ≡ []) → StatesGiven cs k c.states

-- The labels of these characters are those of the label commands among these commands, of which there is at most one of each kind.
pub record LabelsFollow (cs : List Command) (characters : List Character) : Type 0 where
  pub once : (what : Labelling) (ws vs : List Numbered) (c : IsLabelCommand cs what ws) (d : IsLabelCommand cs what vs) → c.before ≡ d.before
  pub each : (k : ℕ) (c : Character) → Kth characters k c → LabelledBy cs k c

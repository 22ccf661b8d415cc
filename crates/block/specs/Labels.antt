-- Labels: CHARLABELS, STATELABELS and CHARSTATELABELS, applied after the matrix is read.
use Rattle.std.specs.Prelude.{ℕ, ◌-◌, ltb, leb, eqb, length, get_or, set, replicate, ◌&&◌, List, [], ◌∷◌, ◌++◌}
use Rattle.block.specs.Outcome.{Outcome, done, refused, then, fold, need}
use Rattle.block.specs.declared.kinds.Labelling.{Labelling}
use Rattle.lexer.specs.Base.{pick, given, byte}
use Rattle.lexer.specs.Words.{Numbered, punct, label, number}
use Rattle.lexer.specs.declared.refusal.Refusal.{Refusal}
use Rattle.std.proofs.Math.Option.{Option, none, some}

-- What is labelled of a character so far: its label and its state labels, if they were given.
pub record Labelled : Type 0 where
  pub label : Option (List ℕ)
  pub states : Option (List (List ℕ))

unfoldable pub unlabelled : Labelled
unlabelled = record { label = none; states = none }

-- A label command: which it is, the index of its first word, and its other words.
pub record LabelCommand : Type 0 where
  pub what : Labelling
  pub head : ℕ
  pub words : List Numbered

-- CHARLABELS: one label for each character, in order.
unfoldable pub label_each : List Labelled → List Numbered → Outcome (List Labelled)
label_each [] ws = done []
label_each (c ∷ cs) [] = done (c ∷ cs)
label_each (c ∷ cs) (w ∷ ws) =
    let name = need (label w) Refusal.NotName w.index in
    let more = then name (λ n. then (label_each cs ws) (λ r. done (record { label = some n; states = c.states } ∷ r))) in
    pick (given c.label) (refused Refusal.LabelEntry w.index) more

unfoldable pub char_labels : ℕ → List Numbered → List Labelled → Outcome (List Labelled)
char_labels head ws cs = let each = label_each cs ws in pick (eqb (length ws) (length cs)) each (refused Refusal.Count head)

-- Where an entry list is: before its first entry; at the number of a next one; behind the number, or the label, of a character (with the
-- index of the number's token); or in its state labels.
pub data Entry : Type 0 where
  first : Entry
  next : Entry
  numbered : ℕ → ℕ → Entry
  labelled : ℕ → ℕ → Entry
  states : ℕ → ℕ → List (List ℕ) → Entry

pub record Entries : Type 0 where
  pub characters : List Labelled
  pub entry : Entry

unfoldable pub at : List Labelled → Entry → Entries
at cs e = record { characters = cs; entry = e }

-- A character by its number, and the list with that character changed.
unfoldable pub character : ℕ → List Labelled → Labelled
character k cs = get_or cs (k - 1) unlabelled

unfoldable pub with_label : ℕ → List ℕ → List Labelled → List Labelled
with_label k n cs = set cs (k - 1) (record { label = some n; states = (character k cs).states })

unfoldable pub with_states : ℕ → List (List ℕ) → List Labelled → List Labelled
with_states k s cs = set cs (k - 1) (record { label = (character k cs).label; states = some s })

-- State labels begin; they may be given once.
unfoldable pub begin_states : List Labelled → ℕ → ℕ → Outcome Entries
begin_states cs k i = pick (given (character k cs).states) (refused Refusal.LabelEntry i) (done (at cs (states k i [])))

-- An entry's number is from 1 to NCHAR, whatever the kind of its token. In STATELABELS its state labels follow at once.
unfoldable pub entry_number : Labelling → List Labelled → Numbered → ℕ → Outcome Entries
entry_number Labelling.CharLabels cs w k = done (at cs (numbered k w.index))
entry_number Labelling.CharStateLabels cs w k = done (at cs (numbered k w.index))
entry_number Labelling.StateLabels cs w k = begin_states cs k w.index

unfoldable pub entry_begins : LabelCommand → List Labelled → Numbered → Outcome Entries
entry_begins c cs w =
    let k = number w in
    let begun = entry_number c.what cs w k in
    let good = pick (leb 1 k && leb k (length cs)) begun (refused Refusal.LabelEntry w.index) in
    pick (punct (byte ",") w) (refused Refusal.LabelEntry c.head) good

-- A character's label: it may be given once.
unfoldable pub entry_label : List Labelled → ℕ → ℕ → Numbered → Outcome Entries
entry_label cs k i w =
    let named = then (need (label w) Refusal.NotName w.index) (λ n. done (at (with_label k n cs) (labelled k i))) in
    pick (given (character k cs).label) (refused Refusal.LabelEntry i) named

-- The state labels of an entry that ends: at most as many as there are symbols.
unfoldable pub entry_states : ℕ → List Labelled → ℕ → ℕ → List (List ℕ) → Outcome (List Labelled)
entry_states count cs k i s = pick (ltb count (length s)) (refused Refusal.LabelEntry i) (done (with_states k s cs))

unfoldable pub state_label : List Labelled → ℕ → ℕ → List (List ℕ) → Numbered → Outcome Entries
state_label cs k i s w =
    then (need (label w) Refusal.NotName w.index) (λ n. done (at cs (states k i (s ++ (n ∷ [])))))

-- One word more. Entries are parted by commas; `/` parts a character's label from its state labels.
unfoldable pub entry_turn : ℕ → LabelCommand → List Labelled → Entry → Numbered → Outcome Entries
entry_turn count c cs first w = entry_begins c cs w
entry_turn count c cs next w = entry_begins c cs w
entry_turn count c cs (numbered k i) w =
    let label = entry_label cs k i w in
    let states = begin_states cs k i in
    pick (punct (byte ",") w) (done (at cs next)) (pick (punct (byte "/") w) states label)
entry_turn count c cs (labelled k i) w =
    let states = begin_states cs k i in
    pick (punct (byte ",") w) (done (at cs next)) (pick (punct (byte "/") w) states (refused Refusal.LabelEntry w.index))
entry_turn count c cs (states k i s) w =
    let ended = then (entry_states count cs k i s) (λ ds. done (at ds next)) in
    let more = state_label cs k i s w in
    pick (punct (byte ",") w) ended more

-- The end of the words: one last comma is taken; a command with no entry is refused.
unfoldable pub entry_end : ℕ → LabelCommand → List Labelled → Entry → Outcome (List Labelled)
entry_end count c cs first = refused Refusal.LabelEntry c.head
entry_end count c cs next = done cs
entry_end count c cs (numbered k i) = done cs
entry_end count c cs (labelled k i) = done cs
entry_end count c cs (states k i s) = entry_states count cs k i s

unfoldable pub label_entries : ℕ → LabelCommand → List Labelled → Outcome (List Labelled)
label_entries count c cs =
    then (fold (λ e w. entry_turn count c e.characters e.entry w) (at cs first) c.words)
    (λ e. entry_end count c e.characters e.entry)

unfoldable pub label_command : ℕ → Labelling → LabelCommand → List Labelled → Outcome (List Labelled)
label_command count Labelling.CharLabels c cs = char_labels c.head c.words cs
label_command count Labelling.StateLabels c cs = label_entries count c cs
label_command count Labelling.CharStateLabels c cs = label_entries count c cs

-- The labels that the label commands give to so many characters, where there are so many symbols.
unfoldable pub apply_labels : ℕ → ℕ → List LabelCommand → Outcome (List Labelled)
apply_labels count characters commands =
    fold (λ cs c. label_command count c.what c cs) (replicate characters unlabelled) commands

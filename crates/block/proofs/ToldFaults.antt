-- The refusals that a command of a text may come to, each at the token that it names. Assumes nothing.
use Prim.Native.Nat.{ℕ}
use Rattle.block.proofs.DeclaredFaults.{Unnamed, DimensionFaults, FormatFaults}
use Rattle.block.proofs.LabelFaults.{LabelFaults, LabellingFaults}
use Rattle.block.proofs.MatrixFaults.{MatrixFaults}
use Rattle.block.proofs.OutcomeLaws.{All, all_map}
use Rattle.block.proofs.TypeFaults.{TypeFaults}
use Rattle.block.specs.Blocks.{labelling}
use Rattle.block.specs.Commands.{command, words, newline}
use Rattle.block.specs.Faults.{TokenOf, ComesTo, FirstWord, LaterWord, label_word, taxon_word, name_word, count_word, ShapedBy, MayStandAt, dimension, label_count, not_name, no_count, no_value, format_option, format_in, cell_symbol, open_set, not_states, wrong_row, no_entry, label_entry, type_word, default_type, character_list}
use Rattle.block.specs.Interleaved.{Line, to_newline, lines_from, lines}
use Rattle.block.specs.Sequential.{Shape}
use Rattle.block.specs.declared.kinds.Labelling.{Labelling}
use Rattle.lexer.proofs.Basics.{by-test, or-first, or-second}
use Rattle.lexer.specs.Base.{pick, bytes, given}
use Rattle.lexer.specs.Words.{Numbered, is, label}
use Rattle.lexer.specs.declared.refusal.Refusal.{Refusal}
use borrow.Author.Tests.{eqb-false}
use lib.ListN.{length}
use mathlib.Core.Bool.{Bool, true, false}
use mathlib.Core.List.{List, [], ◌∷◌, Memᴰ}
use mathlib.Core.Option.{none, some}
use mathlib.Core.Path.{◌≡◌, ap, ◌∙◌}

-- A refusal and the index that it names, of a token where it may stand.
pub data Told (text : List ℕ) : Refusal → ℕ → Type 0 where
  at_token : {n : Refusal} (w : Numbered) → TokenOf text w → MayStandAt text n w → Told text n w.index

-- What holds of all tokens of a command holds of its words, and of the words of its lines, and none of these is a newline.
module _ (Q : Numbered → Type 0) where
  abbrev pub Shown : Numbered → Type 0
  Shown w = Q w × (newline w ≡ false)

  abbrev pub ShownLine : Line → Type 0
  ShownLine l = Shown l.first × All Shown l.rest

  words-shown : (ws : List Numbered) → All Q ws → All Shown (words ws)
  unfolding words pick
  words-shown [] q = tt
  words-shown (w ∷ r) q = by-test (newline w) (λ e. rw e (words-shown r q.1)) (λ e. rw e ((q.0, e), words-shown r q.1))

  to-newline-shown : (ws : List Numbered) → All Q ws → All Shown (to_newline ws)
  unfolding to_newline pick
  to-newline-shown [] q = tt
  to-newline-shown (w ∷ r) q = by-test (newline w) (λ e. rw e tt) (λ e. rw e ((q.0, e), to-newline-shown r q.1))

  lines-from-shown : (begun : Bool) (ws : List Numbered) → All Q ws → All ShownLine (lines_from begun ws)
  unfolding lines_from pick
  lines-from-shown begun [] q = tt
  lines-from-shown false (w ∷ r) q =
      by-test (newline w) (λ e. rw e (lines-from-shown false r q.1))
      (λ e. rw e (((q.0, e), to-newline-shown r q.1), lines-from-shown true r q.1))
  lines-from-shown true (w ∷ r) q =
      by-test (newline w) (λ e. rw e (lines-from-shown false r q.1)) (λ e. rw e (lines-from-shown true r q.1))

  pub lines-shown : (ws : List Numbered) → All Q ws → All ShownLine (lines ws)
  unfolding lines
  lines-shown ws q = lines-from-shown false ws q

-- Reading comes to a MATRIX command with so many characters.
abbrev pub Characters : List ℕ → ℕ → Type 0
Characters text n = (h : Numbered) × (m : FirstWord text (is (bytes "MATRIX")) h) × (sh : Shape) × ShapedBy m.comes.state h sh × (sh.characters ≡ n)

-- A token behind the first word of a command.
abbrev pub Behind : List ℕ → List Numbered → Numbered → Type 0
Behind text raw w = TokenOf text w × Memᴰ w raw

-- A command of the text, and its tokens.
pub record CommandOf (text : List ℕ) (h : Numbered) (raw : List Numbered) : Type 0 where
  pub comes : ComesTo text (command h raw)
  pub head : TokenOf text h
  pub behind : All (Behind text raw) raw

module _ {text : List ℕ} {h : Numbered} {raw : List Numbered} (c : CommandOf text h raw) where
  abbrev pub first : (kind : Numbered → Bool) → kind h ≡ true → FirstWord text kind h
  first kind e = record { behind = raw; comes = c.comes; of_kind = e }

  module _ (w : Numbered) (q : Shown (Behind text raw) w) where
    abbrev pub later : (kind : Numbered → Bool) → kind h ≡ true → LaterWord text kind w
    later kind e = record { first = h; behind = raw; comes = c.comes; of_kind = e; among = q.0.1; shown = q.1 }

    pub told : {n : Refusal} → MayStandAt text n w → Told text n w.index
    told s = at_token w q.0.0 s

    unnamed : name_word h ≡ true → label w ≡ none → Told text Refusal.NotName w.index
    unnamed e n = told (not_name (later name_word e) n)

    pub taxlabels-told : is (bytes "TAXLABELS") h ≡ true → Unnamed (Told text) w
    unfolding name_word taxon_word
    taxlabels-told e = unnamed (or-first (taxon_word h) _ (or-first (is (bytes "TAXLABELS") h) _ e))

    pub dimensions-told : is (bytes "DIMENSIONS") h ≡ true → DimensionFaults (Told text) w
    unfolding count_word
    dimensions-told e =
        let l = later (is (bytes "DIMENSIONS")) e in
        record {
          dimension = told (dimension l);
          taxa_value = λ p. told (no_count l (or-first (is (bytes "NTAX") w) _ p));
          characters_value = λ p. told (no_count l (or-second (is (bytes "NTAX") w) _ p));
        }

    pub format-told : is (bytes "FORMAT") h ≡ true → FormatFaults (Told text) w
    format-told e =
        let l = later (is (bytes "FORMAT")) e in
        record { value = λ p. told (no_value l p); format = told (format_option l) }

    pub matrix-told : is (bytes "MATRIX") h ≡ true → MatrixFaults (Told text) (format_in c.comes.state.phase) w
    unfolding name_word taxon_word
    matrix-told e =
        let l = later (is (bytes "MATRIX")) e in
        record {
          symbol = λ p. told (cell_symbol l p);
          opened = λ p. told (open_set l p);
          states = λ cells p n. told (not_states l p n);
          row = told (wrong_row l);
          unnamed = unnamed (or-first (taxon_word h) _ (or-second (is (bytes "TAXLABELS") h) _ e));
        }

    label-told : label_word h ≡ true → LabelFaults (Told text) w
    unfolding name_word
    label-told e =
        record {
          entry = told (label_entry (later label_word e));
          unnamed = unnamed (or-second (taxon_word h) _ (or-first (label_word h) _ e));
        }

    pub types-told : is (bytes "TYPESET") h ≡ true → TypeFaults (Told text) w
    unfolding name_word
    types-told e =
        let l = later (is (bytes "TYPESET")) e in
        record {
          set = told (type_word l);
          list = told (character_list l);
          unnamed = unnamed (or-second (taxon_word h) _ (or-second (label_word h) _ e));
        }

    pub options-told : is (bytes "OPTIONS") h ≡ true → Told text Refusal.TypeSet w.index
    options-told e = told (default_type (later (is (bytes "OPTIONS")) e))

  pub told-first : {n : Refusal} → MayStandAt text n h → Told text n h.index
  told-first s = at_token h c.head s

  pub told-words : (P : Numbered → Type 0) → ((w : Numbered) → Shown (Behind text raw) w → P w) → All P (words raw)
  told-words P f = all_map (Shown (Behind text raw)) P f (words raw) (words-shown (Behind text raw) raw c.behind)

  -- Only CHARLABELS labels each character in turn.
  char-labels : labelling h ≡ some Labelling.CharLabels → is (bytes "CHARLABELS") h ≡ true
  unfolding labelling pick
  char-labels e = by-test (is (bytes "CHARLABELS") h) (λ t. t) (λ f. other (is (bytes "STATELABELS") h) (is (bytes "CHARSTATELABELS") h) (rw f at e))
    where
      other : (s t : Bool) → pick s (some Labelling.StateLabels) (pick t (some Labelling.CharStateLabels) none) ≡ some Labelling.CharLabels → is (bytes "CHARLABELS") h ≡ true
      other true t p = cc
      other false true p = cc
      other false false p = cc

  pub labelling-told : (l : Labelling) → labelling h ≡ some l → LabellingFaults (Characters text) (Told text) (record { what = l; head = h.index; words = words raw })
  unfolding label_word
  labelling-told l e =
      let k : label_word h ≡ true = unfold given in rw e in
      record {
        count = λ n m p f. told-first (label_count (first (is (bytes "CHARLABELS")) (char-labels (e ∙ ap some p))) m.1 m.3 (rw m.4 (eqb-false (length (words raw)) n f)));
        entry = told-first (no_entry (first label_word k));
        each = told-words (LabelFaults (Told text)) (λ w q. label-told w q k);
      }

-- The conditions of a reading one by one, and the tests that several of them make together, say the same. Assumes nothing.
use Prim.Native.Nat.{ℕ}
use Rattle.block.specs.Blocks.{orderable}
use Rattle.block.specs.Dna.{acgt}
use Rattle.block.specs.Format.{all_valid}
use Rattle.block.specs.Interleaved.{all_long}
use Rattle.block.specs.Reading.{Character, Reading}
use Rattle.block.specs.Run.{run_text}
use Rattle.block.specs.Sequential.{names}
use Rattle.block.specs.Sound.{no_underscore, no_return, not_blank, sound_name, each, sound_names, sound_label, names_differ, sound_rows, gap_in, distinct, most_symbols, sound_symbols, dna_symbols, label_texts, sound_labels, few_states, Sound}
use Rattle.block.specs.declared.data.DataType.{DataType}
use Rattle.lexer.proofs.Basics.{and_left, and_right, and_both, all-four, by-test, same_true}
use Rattle.lexer.specs.Base.{pick, is_empty}
use Rattle.lexer.specs.Utf8.{utf8}
use Rattle.lexer.specs.Words.{largest}
use lib.Dec.{leb}
use lib.ListN.{length}
use mathlib.Core.Bool.{Bool, true, false, ◌&&◌, and_assoc}
use mathlib.Core.List.{List, [], ◌∷◌, ◌++◌}
use mathlib.Core.Path.{◌≡◌, refl, sym, ap, ◌∙◌}

-- Names
record Texts (l : List (List ℕ)) : Type 0 where
  utf : each utf8 l ≡ true
  underscore : each no_underscore l ≡ true
  return : each no_return l ≡ true
  blank : each not_blank l ≡ true

names-texts : (l : List (List ℕ)) → sound_names l ≡ true → Texts l
unfolding sound_names sound_name each
names-texts [] h = record { utf = refl; underscore = refl; return = refl; blank = refl }
names-texts (n ∷ r) h =
    let p = all-four (utf8 n) (no_underscore n) (no_return n) (not_blank n) (and_left (sound_name n) (sound_names r) h) in
    let t = names-texts r (and_right (sound_name n) (sound_names r) h) in
    record { utf = and_both p.0 t.utf; underscore = and_both p.1 t.underscore; return = and_both p.2 t.return; blank = and_both p.3 t.blank }

texts-names : (l : List (List ℕ)) → Texts l → sound_names l ≡ true
unfolding sound_names sound_name each
texts-names [] t = refl
texts-names (n ∷ r) t =
    let one = and_both (and_both (and_both (and_left (utf8 n) (each utf8 r) t.utf) (and_left (no_underscore n) (each no_underscore r) t.underscore)) (and_left (no_return n) (each no_return r) t.return)) (and_left (not_blank n) (each not_blank r) t.blank) in
    let more = texts-names r (record { utf = and_right (utf8 n) (each utf8 r) t.utf; underscore = and_right (no_underscore n) (each no_underscore r) t.underscore; return = and_right (no_return n) (each no_return r) t.return; blank = and_right (not_blank n) (each not_blank r) t.blank }) in
    and_both one more

-- Labels
names-append : (l r : List (List ℕ)) → sound_names (l ++ r) ≡ sound_names l && sound_names r
unfolding sound_names
names-append [] r = refl
names-append (n ∷ l) r = ap (λ b. sound_name n && b) (names-append l r) ∙ sym (and_assoc (sound_name n) (sound_names l) (sound_names r))

pub labels-names : (cs : List Character) → sound_labels cs ≡ sound_names (label_texts cs)
unfolding sound_labels sound_label label_texts sound_names pick
labels-names [] = refl
labels-names (c ∷ r) =
    let more = sound_names (label_texts r) in
    by-test (is_empty c.label)
    (λ e. rw (e, labels-names r, names-append) refl)
    (λ e. rw (e, labels-names r, names-append) (and_assoc (sound_name c.label) (sound_names c.states) more))

-- Symbols
record Symbols (t : DataType) (symbols : List ℕ) (gaps : Bool) : Type 0 where
  valid : all_valid symbols ≡ true
  different : distinct symbols ≡ true
  two : leb 2 (length symbols) ≡ true
  few : leb (length symbols) (most_symbols gaps) ≡ true
  dna : dna_symbols t symbols ≡ true

symbols-each : (t : DataType) (symbols : List ℕ) (gaps : Bool) → sound_symbols t symbols gaps ≡ true → Symbols t symbols gaps
unfolding sound_symbols dna_symbols run_text
symbols-each DataType.Standard symbols gaps h =
    let p = all-four (leb 2 (length symbols)) (leb (length symbols) (most_symbols gaps)) (all_valid symbols) (distinct symbols) h in
    record { valid = p.2; different = p.3; two = p.0; few = p.1; dna = refl }
symbols-each DataType.Dna symbols true h = let e = same_true symbols acgt h in record { valid = rw e; different = rw e; two = rw e; few = rw e; dna = h }
symbols-each DataType.Dna symbols false h = let e = same_true symbols acgt h in record { valid = rw e; different = rw e; two = rw e; few = rw e; dna = h }

module _ (r : Reading) where
  pub symbols-sound : Sound r → sound_symbols r.data_type r.symbols (gap_in r.taxa) ≡ true
  unfolding sound_symbols dna_symbols
  symbols-sound s = go r.data_type s.symbols_dna
    where
      go : (t : DataType) → dna_symbols t r.symbols ≡ true → sound_symbols t r.symbols (gap_in r.taxa) ≡ true
      go DataType.Standard h = and_both (and_both (and_both s.symbols_two s.symbols_most) s.symbols_valid) s.symbols_different
      go DataType.Dna h = h

  pub names-sound : Sound r → sound_names (names r.taxa) ≡ true
  names-sound s =
      texts-names (names r.taxa) (record { utf = s.names_utf8; underscore = s.names_underscore; return = s.names_return; blank = s.names_blank })

  pub labels-sound : Sound r → sound_labels r.characters ≡ true
  labels-sound s =
      labels-names r.characters
      ∙ texts-names (label_texts r.characters) (record { utf = s.labels_utf8; underscore = s.labels_underscore; return = s.labels_return; blank = s.labels_blank })

  -- The conditions, from the tests.
  pub sound-parts : is_empty r.taxa ≡ false → is_empty r.characters ≡ false → leb (length r.taxa) largest ≡ true
      → leb (length r.characters) largest ≡ true → all_long (length r.characters) r.taxa ≡ true
      → sound_rows (length r.symbols) r.taxa ≡ true → sound_symbols r.data_type r.symbols (gap_in r.taxa) ≡ true
      → sound_names (names r.taxa) ≡ true → names_differ (names r.taxa) ≡ true → sound_labels r.characters ≡ true
      → few_states (length r.symbols) r.characters ≡ true → orderable r.data_type r.characters ≡ true → Sound r
  sound-parts taxon character taxa characters long cells symbols named unlike labelled few ordered =
      let s = symbols-each r.data_type r.symbols (gap_in r.taxa) symbols in
      let n = names-texts (names r.taxa) named in
      let l = names-texts (label_texts r.characters) (sym (labels-names r.characters) ∙ labelled) in
      record {
        some_taxon = taxon;
        some_character = character;
        taxa_few = taxa;
        characters_few = characters;
        rows_long = long;
        cells_sound = cells;
        symbols_valid = s.valid;
        symbols_different = s.different;
        symbols_two = s.two;
        symbols_most = s.few;
        symbols_dna = s.dna;
        names_utf8 = n.utf;
        names_underscore = n.underscore;
        names_return = n.return;
        names_blank = n.blank;
        names_unlike = unlike;
        labels_utf8 = l.utf;
        labels_underscore = l.underscore;
        labels_return = l.return;
        labels_blank = l.blank;
        states_few = few;
        dna_unordered = ordered;
      }

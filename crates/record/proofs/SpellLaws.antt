-- A record is read back as the reading that it was spelled from. Assumes nothing.
use Prim.Native.Nat.{ℕ, suc, ◌+◌, ◌≤◌}
use Rattle.block.proofs.SoundParts.{symbols-sound}
use Rattle.block.specs.Interleaved.{all_long}
use Rattle.block.specs.Reading.{Taxon, Character, Reading}
use Rattle.block.specs.declared.model.CharacterOrdering.{CharacterOrdering}
use Rattle.lexer.proofs.Basics.{and_left, and_right, eqb_same}
use Rattle.lexer.specs.Base.{pick, bytes, among, is_empty}
use Rattle.record.proofs.CellLaws.{cells-read, cells-clean}
use Rattle.record.proofs.DecimalLaws.{undecimal-decimal}
use Rattle.record.proofs.EscapeLaws.{unescaped-escaped, escaped-clean}
use Rattle.record.proofs.LineLaws.{Leads, leads-line, value-key}
use Rattle.record.proofs.PartLaws.{Every}
use Rattle.record.proofs.SoundLaws.{sound-test}
use Rattle.record.proofs.WordLaws.{order-read, order-clean, decimal-clean, type-read, type-clean, count-read, symbols-clean}
use Rattle.record.specs.Decimal.{decimal}
use Rattle.record.specs.Demands.{Counted}
use Rattle.block.specs.Sound.{Sound, sound, sound_rows, sound_cells, gap_in}
use Rattle.record.specs.Spell.{line, type_word, order_word, escaped, spell_cells, spell_taxa, spell_states, spell_character, spell_characters, spell_head, spell}
use Rattle.record.specs.Unspell.{lines, made, unspell_cells, most, Head, Draft, Next, datatype_line, taxa_line, characters_line, symbols_line, name_line, cells_line, character_line, label_line, order_line, states_line, no_line, no_taxa, with_taxon, with_character, with_states, line_turn, turns, drafted, shape, if_sound, unspell}
use borrow.Author.Tests.{eqb-true, ne_eqb, eq-eqb}
use lib.Dec.{eqb}
use lib.ListN.{length, length-append}
use mathlib.Core.Bool.{true, false, true≢false}
use mathlib.Core.List.{List, [], ◌∷◌, ◌++◌, append_assoc, append-nil}
use mathlib.Core.Option.{some, bind}
use mathlib.Core.Path.{◌≡◌, refl, ◌∙◌}
use native.Mathlib.Omega.{arith}

-- A draft with these taxa and characters.
abbrev draft : Head → List Taxon → List Character → Draft
draft h ts cs = record { head = h; taxa = ts; characters = cs }

-- Taxa: the lines of one taxon lead to what stands behind it.
taxon-leads : (d : Draft) (t : Taxon) (rest : List ℕ) {n : Next} → unspell_cells (spell_cells t.cells) ≡ some t.cells
    → Leads (with_taxon d t.name t.cells) rest n
    → Leads (name_line d) (line "name=" (escaped t.name) (line "cells=" (spell_cells t.cells) rest)) n
unfolding line_turn made bind bytes among
taxon-leads d t rest cells h =
    leads-line "name=" (escaped t.name) _ {m = cells_line d t.name} refl (escaped-clean t.name) (rw (value-key "name=" (escaped t.name), unescaped-escaped))
    (leads-line "cells=" (spell_cells t.cells) rest {m = with_taxon d t.name t.cells} refl (cells-clean t.cells) (rw (value-key "cells=" (spell_cells t.cells), cells)) h)

taxon-last : (h : Head) (ts : List Taxon) (cs : List Character) (t : Taxon) → length ts + 1 ≡ h.taxa
    → with_taxon (draft h ts cs) t.name t.cells ≡ character_line (draft h (ts ++ (t ∷ [])) cs)
unfolding with_taxon pick
taxon-last h ts cs t e = rw (eq-eqb (length (ts ++ (t ∷ []))) h.taxa (length-append ts (t ∷ []) ∙ e))

taxon-more : (h : Head) (ts : List Taxon) (cs : List Character) (t : Taxon) → length ts + 2 ≤ h.taxa
    → with_taxon (draft h ts cs) t.name t.cells ≡ name_line (draft h (ts ++ (t ∷ [])) cs)
unfolding with_taxon pick
taxon-more h ts cs t e = rw (ne_eqb (length (ts ++ (t ∷ []))) h.taxa (λ q. omega (arith, length-append ts (t ∷ []))))

abbrev CellsRead : Taxon → Type 0
CellsRead t = unspell_cells (spell_cells t.cells) ≡ some t.cells

-- the rest of the taxa, behind some
taxa-lead : (h : Head) (done : List Taxon) (t : Taxon) (ts : List Taxon) (rest : List ℕ) {n : Next} → Every CellsRead (t ∷ ts)
    → length done + suc (length ts) ≡ h.taxa → Leads (character_line (draft h (done ++ (t ∷ ts)) [])) rest n
    → Leads (name_line (draft h done [])) (spell_taxa (t ∷ ts) rest) n
unfolding spell_taxa
taxa-lead h done t [] rest read e l = taxon-leads (draft h done []) t rest read.0 (rw (taxon-last h done [] t e) l)
taxa-lead h done t (u ∷ us) rest {n} read e l =
    let grown : length (done ++ (t ∷ [])) ≡ length done + 1 = length-append done (t ∷ []) in
    let m : Leads (character_line (draft h ((done ++ (t ∷ [])) ++ (u ∷ us)) [])) rest n = rw (append_assoc done (t ∷ []) (u ∷ us)) l in
    let more = taxa-lead h (done ++ (t ∷ [])) u us rest {n = n} read.1 (omega arith) m in
    taxon-leads (draft h done []) t (spell_taxa (u ∷ us) rest) read.0 (rw (taxon-more h done [] t (omega arith)) more)

-- Characters: the state lines, then the lines of one character, then of all.
states-lead : (d : Draft) (l : List ℕ) (o : CharacterOrdering) (done s : List (List ℕ)) (rest : List ℕ) {n : Next}
    → Leads (with_character d l o (done ++ s)) rest n → Leads (with_states d l o (length s) done) (spell_states s rest) n
unfolding with_states spell_states line_turn made bind bytes among
states-lead d l o done [] rest h = rw append-nil at h
states-lead d l o done (x ∷ s) rest {n} h =
    let m : Leads (with_character d l o ((done ++ (x ∷ [])) ++ s)) rest n = rw (append_assoc done (x ∷ []) s) h in
    leads-line "state=" (escaped x) (spell_states s rest) {m = with_states d l o (length s) (done ++ (x ∷ []))} refl (escaped-clean x) (rw (value-key "state=" (escaped x), unescaped-escaped))
    (states-lead d l o (done ++ (x ∷ [])) s rest m)

character-leads : (d : Draft) (c : Character) (rest : List ℕ) {n : Next}
    → Leads (with_character d c.label c.ordering c.states) rest n
    → Leads (character_line d) (spell_character (suc (length d.characters)) c rest) n
unfolding spell_character line_turn made bind bytes among pick
character-leads d c rest h =
    leads-line "character=" (decimal (suc (length d.characters))) _ {m = label_line d} refl (decimal-clean _) (rw (value-key "character=" (decimal (suc (length d.characters))), undecimal-decimal, eqb_same))
    (leads-line "label=" (escaped c.label) _ {m = order_line d c.label} refl (escaped-clean _) (rw (value-key "label=" (escaped c.label), unescaped-escaped))
    (leads-line "order=" (order_word c.ordering) _ {m = states_line d c.label c.ordering} refl (order-clean _) (rw (value-key "order=" (order_word c.ordering), order-read))
    (leads-line "states=" (decimal (length c.states)) _ {m = with_states d c.label c.ordering (length c.states) []} refl (decimal-clean _) (rw (value-key "states=" (decimal (length c.states)), undecimal-decimal))
    (states-lead d c.label c.ordering [] c.states rest h))))

character-last : (h : Head) (ts : List Taxon) (cs : List Character) (c : Character) → length cs + 1 ≡ h.characters
    → with_character (draft h ts cs) c.label c.ordering c.states ≡ no_line (draft h ts (cs ++ (c ∷ [])))
unfolding with_character pick
character-last h ts cs c e = rw (eq-eqb (length (cs ++ (c ∷ []))) h.characters (length-append cs (c ∷ []) ∙ e))

character-more : (h : Head) (ts : List Taxon) (cs : List Character) (c : Character) → length cs + 2 ≤ h.characters
    → with_character (draft h ts cs) c.label c.ordering c.states ≡ character_line (draft h ts (cs ++ (c ∷ [])))
unfolding with_character pick
character-more h ts cs c e = rw (ne_eqb (length (cs ++ (c ∷ []))) h.characters (λ q. omega (arith, length-append cs (c ∷ []))))

characters-lead : (h : Head) (ts : List Taxon) (done : List Character) (c : Character) (cs : List Character) (rest : List ℕ) {n : Next}
    → length done + suc (length cs) ≡ h.characters → Leads (no_line (draft h ts (done ++ (c ∷ cs)))) rest n
    → Leads (character_line (draft h ts done)) (spell_characters (suc (length done)) (c ∷ cs) rest) n
unfolding spell_characters
characters-lead h ts done c [] rest e l = character-leads (draft h ts done) c rest (rw (character-last h ts done c e) l)
characters-lead h ts done c (b ∷ bs) rest {n} e l =
    let grown : length (done ++ (c ∷ [])) ≡ length done + 1 = length-append done (c ∷ []) in
    let next : suc (length (done ++ (c ∷ []))) ≡ suc (suc (length done)) = omega arith in
    let m : Leads (no_line (draft h ts ((done ++ (c ∷ [])) ++ (b ∷ bs)))) rest n = rw (append_assoc done (c ∷ []) (b ∷ bs)) l in
    let more = characters-lead h ts (done ++ (c ∷ [])) b bs rest {n = n} (omega arith) m in
    let behind : Leads (character_line (draft h ts (done ++ (c ∷ [])))) (spell_characters (suc (suc (length done))) (b ∷ bs) rest) n = rw next at more in
    character-leads (draft h ts done) c (spell_characters (suc (suc (length done))) (b ∷ bs) rest) (rw (character-more h ts done c (omega arith)) behind)

-- The head
abbrev head_of : Reading → Head
head_of r = record { data_type = r.data_type; taxa = length r.taxa; characters = length r.characters; symbols = r.symbols }

pub some-length : {A : Type 0} (l : List A) → is_empty l ≡ false → 1 ≤ length l
unfolding is_empty
some-length [] h = absurd (true≢false h)
some-length (x ∷ l) h = omega arith

length_some : {A : Type 0} (l : List A) → 1 ≤ length l → is_empty l ≡ false
unfolding is_empty
length_some [] h = absurd (omega arith)
length_some (x ∷ l) h = refl

head-leads : (r : Reading) (rest : List ℕ) {n : Next} → Sound r → Counted r → Leads (name_line (draft (head_of r) [] [])) rest n
    → Leads datatype_line (spell_head r rest) n
unfolding spell_head line_turn made bind bytes among no_taxa most
head-leads r rest s c h =
    let t = r.data_type in
    let n = length r.taxa in
    let k = length r.characters in
    leads-line "datatype=" (type_word t) _ {m = taxa_line t} refl (type-clean t) (rw (value-key "datatype=" (type_word t), type-read))
    (leads-line "taxa=" (decimal n) _ {m = characters_line t n} refl (decimal-clean n) (rw (value-key "taxa=" (decimal n), count-read n (some-length r.taxa s.some_taxon) c.taxa))
    (leads-line "characters=" (decimal k) _ {m = symbols_line t n k} refl (decimal-clean k) (rw (value-key "characters=" (decimal k), count-read k (some-length r.characters s.some_character) c.characters))
    (leads-line "symbols=" r.symbols rest {m = name_line (draft (head_of r) [] [])} refl (symbols-clean t r.symbols (gap_in r.taxa) (symbols-sound r s)) (rw (value-key "symbols=" r.symbols)) h)))

-- The whole record
rows-read : (count k : ℕ) → 1 ≤ k → (ts : List Taxon) → all_long k ts ≡ true → sound_rows count ts ≡ true → Every CellsRead ts
unfolding all_long sound_rows
rows-read count k l [] long sound = tt
rows-read count k l (t ∷ ts) long sound =
    let exact : length t.cells ≡ k = eqb-true (length t.cells) k (and_left _ (all_long k ts) long) in
    let row = cells-read count t.cells (length_some t.cells (omega arith)) (and_left _ (sound_rows count ts) sound) in
    (row, rows-read count k l ts (and_right (eqb (length t.cells) k) _ long) (and_right (sound_cells count t.cells) _ sound))

record-leads : (h : Head) (ts : List Taxon) (cs : List Character) → is_empty ts ≡ false → is_empty cs ≡ false → Every CellsRead ts
    → length ts ≡ h.taxa → length cs ≡ h.characters
    → Leads (name_line (draft h [] [])) (spell_taxa ts (spell_characters 1 cs [])) (no_line (draft h ts cs))
unfolding is_empty bind lines turns
record-leads h [] cs st sc read et ec = absurd (true≢false st)
record-leads h (t ∷ ts) [] st sc read et ec = absurd (true≢false sc)
record-leads h (t ∷ ts) (c ∷ cs) st sc read et ec =
    taxa-lead h [] t ts (spell_characters 1 (c ∷ cs) []) read (omega arith)
    (characters-lead h (t ∷ ts) [] c cs [] (omega arith) (record { reached = refl }))

pub unspell-spell : (r : Reading) → Sound r → Counted r → unspell (spell r) ≡ some r
unfolding unspell shape bind spell drafted if_sound pick
unspell-spell r s c =
    let long = some-length r.characters s.some_character in
    let read = rows-read (length r.symbols) (length r.characters) long r.taxa s.rows_long s.cells_sound in
    let body = record-leads (head_of r) r.taxa r.characters s.some_taxon s.some_character read refl refl in
    let all = head-leads r (spell_taxa r.taxa (spell_characters 1 r.characters [])) s c body in
    rw (all.reached, sound-test r s)

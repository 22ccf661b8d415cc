-- The record of a matrix that is held, beside that of its names and characters alone. Assumes nothing.
use Rattle.std.specs.Prelude.{Some, None, Option}
use Prim.Native.Nat.{ℕ, suc, ◌+◌, ◌*◌, ◌≤◌, ◌<◌, min}
use Rattle.block.specs.Blocks.{with_types}
use Rattle.block.specs.Format.{Format}
use Rattle.block.specs.Formats.{meant}
use Rattle.block.specs.Reading.{Reading, Taxon}
use Rattle.block.specs.Sequential.{names}
use Rattle.block.specs.Sound.{Sound}
use Rattle.block.specs.declared.formats.Format as F
use Rattle.commands.specs.MatrixHeld.{format_held, order_held, reading_held, rows_of, types_at, untyped_held}
use Rattle.commands.specs.WorkMap.{map_fits, order_place}
use Rattle.commands.specs.declared.state.Held.{Held}
use Rattle.emit.specs.Puts.{last_place}
use Rattle.matrix.specs.Lines.{name_at, stored}
use Rattle.matrix.specs.OrderHeld.{ordered}
use Rattle.matrix.specs.RowsHeld.{rows_held}
use Rattle.parser.specs.Storing.{symbols_few}
use Rattle.reading.proofs.CellSizes.{line-longer, taxa-longer}
use Rattle.reading.proofs.RecordPieces.{characters-counted, format-held, taxa-counted}
use Rattle.reading.proofs.RowLaws.{no_taxon, row-named, rows-counted}
use Rattle.reading.specs.RecordPut.{RecordPut, record_piece}
use Rattle.reading.specs.RecordSizes.{Longest, bare, widest}
use Rattle.reading.specs.RowLines.{first_line, row_count, taxa_count}
use Rattle.record.specs.Spell.{spell, spell_characters, spell_head, spell_taxa}
use lib.ListN.{get_or, length, take}
use mathlib.Core.Bool.{true}
use mathlib.Core.List.{List, [], ◌∷◌}
use mathlib.Core.Path.{◌≡◌, refl, sym, ap, subst, ◌∙◌}
use native.Mathlib.Nat.{mul_assoc, mul-le-mul, mul-le-mul_right}
use native.Mathlib.Omega.{arith}

-- Taxa have the same names if there are as many and each has the name of the other.
names_same : (xs ys : List Taxon) → length xs ≡ length ys → ((r : ℕ) → r < length xs → (get_or xs r no_taxon).name ≡ (get_or ys r no_taxon).name) → names xs ≡ names ys
unfolding names
names_same [] [] e s = refl
names_same [] (y ∷ ys) e s = absurd (omega arith)
names_same (x ∷ xs) [] e s = absurd (omega arith)
names_same (x ∷ xs) (y ∷ ys) e s =
    let first : x.name ≡ y.name = s 0 (omega arith) in
    let others = names_same xs ys (omega arith) (λ r l. s (suc r) (omega arith)) in
    rw (first, others) refl

-- Taxa in declared order have the declared names, whatever the rows are.
ordered-names : (rows : List Taxon) (work : List ℕ) (at : ℕ) (ns : List (List ℕ)) → names (ordered rows work at ns) ≡ ns
unfolding names ordered
ordered-names rows work at [] = refl
ordered-names rows work at (n ∷ ns) = ap (λ r. n ∷ r) (ordered-names rows work (suc at) ns)

length-names : (xs : List Taxon) → length (names xs) ≡ length xs
unfolding names
length-names [] = refl
length-names (x ∷ xs) = ap suc (length-names xs)

-- The first four lines in front of what is longer.
head-longer : (r : Reading) (a b : List ℕ) (d : ℕ) → length a ≤ length b + d → length (spell_head r a) ≤ length (spell_head r b) + d
unfolding spell_head
head-longer r a b d h = line-longer _ _ _ _ d (line-longer _ _ _ _ d (line-longer _ _ _ _ d (line-longer _ _ a b d h)))

-- The map fits as it did.
pub bare-fits : (size count : ℕ) {b : Held} (h : Held) → b ≡ bare h → map_fits size count h.lines h.taxa h.characters ≡ true
    → map_fits size count b.lines b.taxa b.characters ≡ true
unfolding bare
bare-fits size count h e fit = rw e fit

pub as-bare : {text work scratch after : List ℕ} {count n m : ℕ} {b : Held} (h : Held) → b ≡ bare h → RecordPut text work count b scratch n after m → RecordPut text work count (bare h) scratch n after m
as-bare {text} {work} {scratch} {after} {count} {n} {m} h e put = subst (λ x. RecordPut text work count x scratch n after m) e put

-- So many cells are few enough to be counted, and so are the bytes that they take.
pub cells-few : {taxa characters : ℕ} → taxa ≤ 1048576 → characters ≤ 1048576 → taxa * characters ≤ 1099511627776
cells-few t c = mul-le-mul t c

pub bytes-few : {cells wide : ℕ} → cells ≤ 1099511627776 → wide ≤ 224 → cells * wide ≤ 246290604621824
bytes-few c w = mul-le-mul c w

module _ (text work : List ℕ) (count : ℕ) (h : Held) where
  abbrev front : List ℕ
  front = take count work

  -- The rows have the same names, whether or not they have cells.
  module _ (f : Format) (starts : List ℕ) where
    abbrev rows_to : ℕ → List Taxon
    rows_to to = rows_held text front f h.taxa h.characters to starts

    counted : (to : ℕ) → length (rows_to to) ≡ row_count f.interleave (length starts) h.taxa
    counted to = rows-counted text front f to starts h.taxa h.characters f.interleave refl

    named : (to r : ℕ) → r < length (rows_to to) → (get_or (rows_to to) r no_taxon).name ≡ name_at text front (get_or starts (first_line f.interleave (length starts) h.taxa r) 0)
    named to r l = row-named text front f to starts h.taxa h.characters r f.interleave refl (subst (λ n. r < n) (counted to) l)

    any-names : (to end : ℕ) → names (rows_to to) ≡ names (rows_to end)
    any-names to end =
        let same = counted to ∙ sym (counted end) in
        names_same (rows_to to) (rows_to end) same (λ r l. named to r l ∙ sym (named end r (subst (λ n. r < n) same l)))

  rows-names : names (rows_of text work count h) ≡ names (rows_of text work count (bare h))
  unfolding rows_of bare
  rows-names = any-names (format_held text front h.style) (stored work count h.lines) h.to 0

  taxa-names : names (reading_held text work count h).taxa ≡ names (reading_held text work count (bare h)).taxa
  unfolding reading_held with_types untyped_held bare order_held
  taxa-names = go h.names
    where
      go : (n : Option (ℕ × ℕ)) → names (order_held text front work (order_place count h.lines h.taxa) h.taxa n (rows_of text work count h))
          ≡ names (order_held text front work (order_place count h.lines h.taxa) h.taxa n (rows_of text work count (bare h)))
      go None = rows-names
      go (Some (from, to)) = ordered-names _ _ _ _ ∙ sym (ordered-names _ _ _ _)

  -- The characters are the same, and the first four lines.
  characters-same : (reading_held text work count h).characters ≡ (reading_held text work count (bare h)).characters
  unfolding reading_held with_types untyped_held types_at bare
  characters-same = refl

  head-same : (behind : List ℕ) → spell_head (reading_held text work count h) (spell_taxa (reading_held text work count (bare h)).taxa behind)
      ≡ spell_head (reading_held text work count (bare h)) (spell_taxa (reading_held text work count (bare h)).taxa behind)
  head-same behind = go (sym (length-names _) ∙ ap length taxa-names ∙ length-names _) (spell_taxa (reading_held text work count (bare h)).taxa behind)
    where
      go : length (reading_held text work count h).taxa ≡ length (reading_held text work count (bare h)).taxa → (x : List ℕ)
          → spell_head (reading_held text work count h) x ≡ spell_head (reading_held text work count (bare h)) x
      go many x = unfold spell_head reading_held with_types untyped_held types_at bare in rw many refl

  abbrev tail : List ℕ
  tail = spell_characters 1 (reading_held text work count h).characters []

  spell-held : spell (reading_held text work count h) ≡ spell_head (reading_held text work count h) (spell_taxa (reading_held text work count h).taxa tail)
  unfolding spell
  spell-held = refl

  spell-bare : spell_head (reading_held text work count h) (spell_taxa (reading_held text work count (bare h)).taxa tail) ≡ spell (reading_held text work count (bare h))
  unfolding spell
  spell-bare =
      head-same tail
      ∙ ap (λ cs. spell_head (reading_held text work count (bare h)) (spell_taxa (reading_held text work count (bare h)).taxa (spell_characters 1 cs []))) characters-same

  -- The record is longer than that of names and characters by no more than its cells.
  record-longer : Sound (reading_held text work count h) → length (reading_held text work count h).symbols ≤ 74
      → length (spell (reading_held text work count h))
      ≤ length (spell (reading_held text work count (bare h)))
      + length (reading_held text work count h).taxa * (length (reading_held text work count h).characters * widest (length (reading_held text work count h).symbols))
  record-longer s few =
      let r = reading_held text work count h in
      let b = reading_held text work count (bare h) in
      let taxa = taxa-longer (length r.symbols) (length r.characters) few tail r.taxa b.taxa taxa-names s.cells_sound s.rows_long in
      let cells = length r.taxa * (length r.characters * widest (length r.symbols)) in
      let longer = head-longer r (spell_taxa r.taxa tail) (spell_taxa b.taxa tail) cells taxa in
      omega (arith, longer, ap length spell-bare, ap length spell-held)

  symbols-held : (reading_held text work count h).symbols ≡ (format_held text front h.style).symbols
  unfolding reading_held with_types untyped_held
  symbols-held = refl

  -- What the code adds up is no less.
  module _ (fit : map_fits (length work) count h.lines h.taxa h.characters ≡ true) (format : F.Format)
      (same : symbols_few text front h.style ≡ true → meant format ≡ format_held text front h.style) where
    pub longest-held : {scratch after : List ℕ} (taxa states wide size r : ℕ) → ((t s : List ℕ) → taxa_count t s h format.interleave ≤ taxa) → states ≡ length (meant format).symbols
        → wide ≡ widest states → RecordPut text work count (bare h) scratch 0 after size → r ≡ min last_place (size + taxa * h.characters * wide) → Longest text work count h r
    longest-held taxa states wide size r most symbols widest_is put is few sound =
        let f = format-held text work [] count h fit format same few in
        let counted : length (reading_held text work count h).taxa ≤ taxa =
        omega (arith, taxa-counted text work [] count h fit format.interleave (layout f), most text front) in
        let characters = characters-counted text work [] count h fit in
        let bytes : widest (length (reading_held text work count h).symbols) ≡ wide = ap (λ l. widest (length l)) symbols-held ∙ ap (λ g. widest (length g.symbols)) (sym f) ∙ ap widest (sym symbols) ∙ sym widest_is in
        let longer = record-longer sound (few_held few) in
        let product : length (reading_held text work count h).taxa * (length (reading_held text work count h).characters * widest (length (reading_held text work count h).symbols)) ≤ taxa * h.characters * wide =
        rw (characters, bytes, mul_assoc taxa h.characters wide) (mul-le-mul_right (h.characters * wide) counted) in
        omega (arith, measured (few_bare few), is, longer, product)
      where
        layout : meant format ≡ format_held text front h.style → (format_held text front h.style).interleave ≡ format.interleave
        layout f = unfold meant in sym (ap (λ g. g.interleave) f)

        few_held : length (format_held text front h.style).symbols ≤ 74 → length (reading_held text work count h).symbols ≤ 74
        few_held few = subst (λ l. length l ≤ 74) (sym symbols-held) few

        few_bare : length (format_held text front h.style).symbols ≤ 74 → length (format_held text front (bare h).style).symbols ≤ 74
        few_bare few = unfold bare in few

        measured : length (format_held text front (bare h).style).symbols ≤ 74 → min last_place (0 + length (spell (reading_held text work count (bare h)))) ≡ min last_place (size + 0)
        measured few = unfold record_piece spell in (put.put few).reached []

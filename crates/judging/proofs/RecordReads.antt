-- The record of a sound reading: bytes that are none are judged as none, and those of one by its shape; what its first four lines are; and what is
-- tested of its symbols, its types and its counts. Assumes nothing.
use Rattle.std.specs.Prelude.{Some, None}
use Prim.Native.Nat.{ℕ, ◌≤◌}
use Rattle.block.proofs.SoundParts.{symbols-sound}
use Rattle.block.specs.Blocks.{has_ordered, orderable}
use Rattle.block.specs.Dna.{acgt}
use Rattle.block.specs.Format.{all_valid}
use Rattle.block.specs.Reading.{Reading, Character}
use Rattle.block.specs.Sound.{Sound, distinct, gap_in, most_symbols, sound_symbols}
use Rattle.block.specs.declared.data.DataType.{DataType}
use Rattle.judging.proofs.ReadingParts.{line-append}
use Rattle.judging.specs.Opening.{Opening, OpeningGood, spell_opening}
use Rattle.judging.specs.Shapes.{RecordJudged, ShapeOf}
use Rattle.judging.specs.Whole.{is_dna}
use Rattle.judging.specs.declared.Shape.{Shape}
use Rattle.lexer.proofs.Basics.{all-four, and_both, and-false, and-true, same_true}
use Rattle.lexer.specs.Base.{bytes, is_empty}
use Rattle.lexer.specs.Words.{largest}
use Rattle.record.proofs.SpellLaws.{some-length, unspell-spell}
use Rattle.record.proofs.UnspellLaws.{spell-unspell}
use Rattle.record.specs.Decimal.{decimal}
use Rattle.record.specs.Demands.{Counted}
use Rattle.record.specs.Spell.{line, spell, spell_characters, spell_head, spell_taxa, type_word}
use Rattle.record.specs.Unspell.{unspell}
use borrow.Author.Tests.{le-leb, le-ltb, leb-true, ltb-false, not-true}
use lib.Dec.{leb, ltb}
use lib.ListN.{length, drop}
use mathlib.Core.Bool.{Bool, true, false, ◌&&◌, not}
use mathlib.Core.List.{List, [], ◌∷◌, ◌++◌}
use mathlib.Core.Option.{Option, none, some}
use mathlib.Core.Path.{◌≡◌, refl, sym, ap, ◌∙◌}
use native.Mathlib.Omega.{arith}

-- Bytes are the record of a sound reading within the counts.
pub record Reads (b : List ℕ) (r : Reading) : Type 0 where
  pub spelled : spell r ≡ b
  pub sound : Sound r
  pub counted : Counted r

-- Bytes that are the record of no such reading are none.
pub judged-none : (b : List ℕ) → ((r : Reading) → Reads b r → ⊥) → RecordJudged b None
judged-none b never = record { found = λ s e. absurd (wrong-shape s e); none = λ e. go (unspell b) refl }
  where
    wrong-shape : (s : Shape) → None ≡ Some s → ⊥
    wrong-shape s e = let z : ◌≡◌ {A = ℕ} 0 1 = cc in omega arith

    go : (o : Option Reading) → unspell b ≡ o → unspell b ≡ none
    go none e = e
    go (some r) e = let (spelled, sound, counted) = spell-unspell b r e in absurd (never r (record { spelled = spelled; sound = sound; counted = counted }))

-- Those of a reading are its record, and have the shape that says what it has.
pub judged-shape : (b : List ℕ) (s : Shape) (r : Reading) → Reads b r → ShapeOf b s r → RecordJudged b (Some s)
judged-shape b s r reads shape = record { found = found; none = λ e. absurd (shape-wrong e) }
  where
    shape-wrong : Some s ≡ None → ⊥
    shape-wrong e = let z : ◌≡◌ {A = ℕ} 0 1 = cc in omega arith

    found : (t : Shape) → Some s ≡ Some t → (r : Reading) × (unspell b ≡ some r) × ShapeOf b t r
    found t e =
        let same : s ≡ t = cc in
        (r, ap unspell (sym reads.spelled) ∙ unspell-spell r reads.sound reads.counted, rw same at shape)

-- What the first four lines of a reading's record say.
abbrev pub opening : Reading → Opening
opening r = record { data_type = r.data_type; taxa = length r.taxa; characters = length r.characters; symbols = r.symbols }

-- What stands behind them.
abbrev pub behind : Reading → List ℕ
behind r = spell_taxa r.taxa (spell_characters 1 r.characters [])

pub head-spelled : (r : Reading) (rest : List ℕ) → spell_head r rest ≡ spell_opening (opening r) ++ rest
unfolding spell_head spell_opening
head-spelled r rest =
    let typed = line "datatype=" (type_word r.data_type) in
    let taxa = line "taxa=" (decimal (length r.taxa)) in
    let characters = line "characters=" (decimal (length r.characters)) in
    let symbols = line "symbols=" r.symbols in
    ap (λ l. typed (taxa (characters l))) (line-append "symbols=" r.symbols [] rest)
    ∙ ap (λ l. typed (taxa l)) (line-append "characters=" (decimal (length r.characters)) (symbols []) rest)
    ∙ ap typed (line-append "taxa=" (decimal (length r.taxa)) (characters (symbols [])) rest)
    ∙ line-append "datatype=" (type_word r.data_type) (taxa (characters (symbols []))) rest

-- What stands in front of the symbols.
abbrev pub front : Opening → List ℕ
front o = line "datatype=" (type_word o.data_type) (line "taxa=" (decimal o.taxa) (line "characters=" (decimal o.characters) (bytes "symbols=")))

pub opening-front : (o : Opening) → spell_opening o ≡ front o ++ (o.symbols ++ (10 ∷ []))
unfolding spell_opening line
opening-front o =
    let rest = o.symbols ++ (10 ∷ []) in
    let characters = line "characters=" (decimal o.characters) in
    let taxa = line "taxa=" (decimal o.taxa) in
    let typed = line "datatype=" (type_word o.data_type) in
    ap (λ l. typed (taxa l)) (line-append "characters=" (decimal o.characters) (bytes "symbols=") rest)
    ∙ ap typed (line-append "taxa=" (decimal o.taxa) (characters (bytes "symbols=")) rest)
    ∙ line-append "datatype=" (type_word o.data_type) (taxa (characters (bytes "symbols="))) rest

-- Fewer symbols are allowed beside a gap than without.
symbols-without : (t : DataType) (s : List ℕ) (gaps : Bool) → sound_symbols t s gaps ≡ true → sound_symbols t s false ≡ true
unfolding sound_symbols most_symbols
symbols-without DataType.Dna s gaps g = g
symbols-without DataType.Standard s false g = g
symbols-without DataType.Standard s true g =
    let (two, most, valid, different) = all-four (leb 2 (length s)) (leb (length s) 72) (all_valid s) (distinct s) g in
    and_both (and_both (and_both two (le-leb (length s) 73 (omega (arith, leb-true (length s) 72 most)))) valid) different

-- Not so many that there would be none left for a gap.
pub symbols-beside : (t : DataType) (s : List ℕ) (gaps : Bool) → sound_symbols t s false ≡ true → gaps && ltb 72 (length s) ≡ false → sound_symbols t s gaps ≡ true
unfolding sound_symbols most_symbols
symbols-beside DataType.Dna s gaps g room = g
symbols-beside DataType.Standard s false g room = g
symbols-beside DataType.Standard s true g room =
    let (two, most, valid, different) = all-four (leb 2 (length s)) (leb (length s) 73) (all_valid s) (distinct s) g in
    and_both (and_both (and_both two (le-leb (length s) 72 (ltb-false 72 (length s) room))) valid) different

-- And back: there are not.
pub symbols-room : (t : DataType) (s : List ℕ) (gaps : Bool) → sound_symbols t s gaps ≡ true → gaps && ltb 72 (length s) ≡ false
unfolding sound_symbols most_symbols acgt bytes
symbols-room t s false g = refl
symbols-room DataType.Dna s true g = rw (same_true s acgt g) refl
symbols-room DataType.Standard s true g =
    let (two, most, valid, different) = all-four (leb 2 (length s)) (leb (length s) 72) (all_valid s) (distinct s) g in
    le-ltb 72 (length s) (leb-true (length s) 72 most)

-- A type that is not DNA.
pub dna-otherwise : (t : DataType) → (t ≡ DataType.Dna → ⊥) → false ≡ is_dna t
unfolding is_dna
dna-otherwise DataType.Standard other = refl
dna-otherwise DataType.Dna other = absurd (other refl)

-- DNA that has no ordered character.
pub dna-unordered : (t : DataType) (cs : List Character) → orderable t cs ≡ true → has_ordered cs && is_dna t ≡ false
unfolding orderable is_dna
dna-unordered DataType.Standard cs g = and-false (has_ordered cs)
dna-unordered DataType.Dna cs g = ap (λ o. o && true) (not-true (has_ordered cs) g)

pub unordered-dna : (t : DataType) (cs : List Character) → has_ordered cs && is_dna t ≡ false → orderable t cs ≡ true
unfolding orderable is_dna
unordered-dna DataType.Standard cs g = refl
unordered-dna DataType.Dna cs g = ap not (sym (and-true (has_ordered cs)) ∙ g)

-- A list that has at least one is not empty.
pub not-empty : {A : Type 0} (l : List A) (n : ℕ) → leb 1 n ≡ true → length l ≡ n → is_empty l ≡ false
unfolding is_empty
not-empty [] n one count = absurd (omega (arith, leb-true 1 n one, count))
not-empty (a ∷ l) n one count = refl

-- A count of a record has 64 bits.
pub small_count : {A : Type 0} (l : List A) → length l ≤ 1048576 → leb (length l) largest ≡ true
unfolding largest
small_count l few = le-leb (length l) largest (omega (arith, few))

-- The first four lines of a reading's record are good.
pub opening-good : (r : Reading) → Sound r → Counted r → OpeningGood (opening r)
opening-good r s c =
    record {
      taxa = (c.taxa, le-leb 1 (length r.taxa) (some-length r.taxa s.some_taxon));
      characters = (c.characters, le-leb 1 (length r.characters) (some-length r.characters s.some_character));
      symbols = symbols-without r.data_type r.symbols (gap_in r.taxa) (symbols-sound r s);
    }

-- They stand in front.
pub opening-stands : (b : List ℕ) (r : Reading) → Reads b r → drop 0 b ≡ spell_opening (opening r) ++ behind r
unfolding spell
opening-stands b r reads = sym reads.spelled ∙ head-spelled r (behind r)

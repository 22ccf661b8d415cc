-- The lookup's answer by what judging a record and the search among its rows answer. Assumes nothing.
use Rattle.std.specs.Prelude.{Some, None, Ok, Err}
use Prim.Native.Nat.{ℕ, ◌+◌, ◌-◌, ◌≤◌}
use Rattle.block.specs.Reading.{Taxon, Reading}
use Rattle.judging.specs.Shapes.{ShapeOf, RecordJudged}
use Rattle.judging.specs.declared.Shape.{Shape}
use Rattle.lexer.specs.Base.{pick, alike}
use Rattle.lexer.specs.declared.refusal.Refusal.{Refusal}
use Rattle.lookup.specs.Finding.{sought_of, CellsSought, found_as, LookedUp, LookupCall}
use Rattle.lookup.specs.declared.Cells.{Cells}
use Rattle.naming.proofs.RowLaws.{cells-before, rows_behind}
use Rattle.naming.specs.Rows.{RowsStand}
use Rattle.lexer.specs.Refusals.{number}
use Rattle.record.specs.Calls.{Found, found, not_found, looked_up, lookup_answer}
use Rattle.record.specs.Lookup.{Stretch, before_cells, find_cells, lookup}
use Rattle.record.specs.Spell.{spell_cells, spell_characters}
use Rattle.record.specs.Unspell.{unspell}
use Rattle.std.proofs.Common.{zero-add}
use Rattle.std.specs.Option.{ok_or}
use Rattle.std.specs.Prelude as Std
use denote.Ref.{Bor}
use lib.ListN.{length, take, drop}
use mathlib.Core.Bool.{Bool, true, false}
use mathlib.Core.List.{List, [], ◌∷◌}
use mathlib.Core.Option.{Option, none, some}
use mathlib.Core.Path.{◌≡◌, refl, sym, ap, ◌∙◌}
use native.Mathlib.Omega.{arith}

-- The stretch that a search finds lies within the record.
find-within : (b : List ℕ) (at characters : ℕ) (name : List ℕ) (ts : List Taxon) (rest : List ℕ) → RowsStand b at characters ts rest
    → (s : Stretch) → find_cells name at ts ≡ some s → s.start + s.size ≤ length b
unfolding find_cells pick
find-within b at characters name [] rest k s e = let z : ◌≡◌ {A = ℕ} 0 1 = cc in absurd (omega arith)
find-within b at characters name (t ∷ ts) rest k s e =
    let start = at + before_cells t in
    let size = length (spell_cells t.cells) in
    first (alike name t.name) (record { start = start; size = size }) (find_cells name (start + size + 1) ts)
    (let h = cells-before b at t ts rest k.here in omega arith)
    (find-within b (start + size + 1) characters name ts rest (rows_behind k) s)
    e
  where
    first : (x : Bool) (t : Stretch) (more : Option Stretch) → t.start + t.size ≤ length b → (more ≡ some s → s.start + s.size ≤ length b)
        → pick x (some t) more ≡ some s → s.start + s.size ≤ length b
    first true t more h behind q = let is : s ≡ t = cc in rw is h
    first false t more h behind q = behind q

-- A search in a record: what it answers is what the lookup finds, and that lies within the record.
pub record SoughtThere (b name : List ℕ) (q : Std.Option Cells) : Type 0 where
  pub what : Option Stretch
  pub told : lookup_answer name b ≡ found what
  pub is : q ≡ sought_of what
  pub within : (s : Stretch) → what ≡ some s → s.start + s.size ≤ length b

-- The search where the shape of a record says that its rows stand.
shape-sought : {b name : List ℕ} (s : Shape) (r : Reading) → unspell b ≡ some r → ShapeOf b s r → {q : Std.Option Cells}
    → CellsSought b s.rows s.taxa.0 s.characters.0 name q → SoughtThere b name q
unfolding lookup_answer looked_up lookup
shape-sought {b} {name} s r read shape sought =
    let rest = spell_characters 1 r.characters [] in
    let rows : RowsStand b s.rows s.characters.0 r.taxa rest = record { long = rw shape.characters shape.sound.rows_long; here = shape.rows } in
    record {
      what = find_cells name s.rows r.taxa;
      told = rw (read, shape.head);
      is = sought r.taxa rest (sym shape.taxa) rows;
      within = λ t e. find-within b s.rows s.characters.0 name r.taxa rest rows t e;
    }

pub record-sought : {b name : List ℕ} {j : Std.Option Shape} → RecordJudged b j → (s : Shape) → j ≡ Some s → {q : Std.Option Cells}
    → CellsSought b s.rows s.taxa.0 s.characters.0 name q → SoughtThere b name q
record-sought judged s is sought = let (r, read, shape) = judged.found s is in shape-sought s r read shape sought

-- The cells were found.
module _ {b name : List ℕ} {q : Std.Option Cells} (there : SoughtThere b name q) {p : Cells} (some-cells : q ≡ Some p) where
  at-stretch : (o : Option Stretch) → q ≡ sought_of o → (s : Stretch) × (o ≡ some s) × (p.start ≡ s.start) × (p.end ≡ s.start + s.size)
  unfolding sought_of
  at-stretch none e = let z : ◌≡◌ {A = ℕ} 0 1 = cc in absurd (omega arith)
  at-stretch (some s) e =
      let same : p ≡ record { start = s.start; end = s.start + s.size } = cc in
      (s, refl, ap (λ (c : Cells). c.start) same, ap (λ (c : Cells). c.end) same)

  found-stretch : (s : Stretch) → p.start ≡ s.start → p.end - p.start ≡ s.size → found_as (Ok p) ≡ found (some s)
  unfolding found_as found
  found-stretch s begins long = rw (long, begins)

  at-looked : LookedUp b name (Ok p)
  at-looked =
      let (s, is, begins, ends) = at-stretch there.what there.is in
      record {
        told = found-stretch s begins (omega arith) ∙ sym (there.told ∙ ap found is);
        within = λ c e. let same : p ≡ c = cc in let fits = there.within s is in rw (← same) (omega arith, omega arith);
      }

-- A refusal has no cells.
refused-looked : {b name : List ℕ} (n : Refusal) → found_as (Err n) ≡ lookup_answer name b → LookedUp b name (Err n)
refused-looked n e = record { told = e; within = λ p k. let z : ◌≡◌ {A = ℕ} 0 1 = cc in absurd (omega arith) }

-- No row has the name.
none-stretch : (o : Option Stretch) → None ≡ sought_of o → o ≡ none
unfolding sought_of
none-stretch none e = refl
none-stretch (some s) e = let z : ◌≡◌ {A = ℕ} 0 1 = cc in absurd (omega arith)

-- What is answered where a record was searched.
pub sought-looked : {b name : List ℕ} (q : Std.Option Cells) → SoughtThere b name q → LookedUp b name (ok_or q Refusal.NoSuchName)
unfolding found_as found
sought-looked (Some p) there = at-looked there refl
sought-looked None there = refused-looked Refusal.NoSuchName (rw (there.told, none-stretch there.what there.is))

-- The bytes are no record.
pub wrong-looked : {b name : List ℕ} {j : Std.Option Shape} → RecordJudged b j → j ≡ None → LookedUp b name (Err Refusal.NotRecord)
unfolding lookup_answer looked_up found_as
wrong-looked judged is = refused-looked Refusal.NotRecord (rw (judged.none is))

-- The part of the record where the cells stand is what the call hands back, and the empty part where it is refused.
module _ {source part : Bor (List ℕ)} {name : List ℕ} where
  pub part-handed : {p : Cells} → LookedUp source.now name (Ok p) → part.now ≡ take (p.end - p.start) (drop p.start source.now)
      → part.ref_ptr ≡ (source.ref_ptr.0, p.start + source.ref_ptr.1) → LookupCall source name 0 part
  unfolding found_as
  part-handed up bytes place = record { refused = ap (λ (f : Found). f.refused) up.told; bytes = rw (← up.told) bytes; place = rw (← up.told) place }

  pub none-handed : {n : Refusal} {k : ℕ} → LookedUp source.now name (Err n) → k ≡ number n → part.now ≡ [] → part.ref_ptr ≡ source.ref_ptr
      → LookupCall source name k part
  unfolding found_as not_found
  none-handed up told empty place = record { refused = told ∙ ap (λ (f : Found). f.refused) up.told; bytes = rw (← up.told) empty; place = rw (← up.told, zero-add source.ref_ptr.1) place }

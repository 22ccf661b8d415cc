-- Where the cells of a name's row stand: what the search for them answers, and what the call answers and hands back.
use Rattle.std.specs.Prelude.{ℕ, ◌+◌, ◌≤◌, length, take, drop, List, ◌-◌, ◌≡◌, Some, None, Result, Ok, Err}
use Rattle.block.specs.Reading.{Taxon}
use Rattle.lexer.specs.declared.refusal.Refusal.{Refusal}
use Rattle.lookup.specs.declared.Cells.{Cells}
use Rattle.naming.specs.Rows.{RowsStand}
use Rattle.record.specs.Calls.{Found, not_found, lookup_answer}
use Rattle.record.specs.Lookup.{Stretch, find_cells}
use Rattle.std.specs.Borrow.{Bor}
use Rattle.std.proofs.Math.Option.{Option, none, some}
use Rattle.std.specs.Prelude as Std

-- The search's answer for a stretch: where it begins and where it ends.
unfoldable pub sought_of : Option Stretch → Std.Option Cells
sought_of none = None
sought_of (some s) = Some (record { start = s.start; end = s.start + s.size })

-- Where so many rows stand, with so many cells each, the answer is where the cells of the one with the name stand.
abbrev pub CellsSought : List ℕ → ℕ → ℕ → ℕ → List ℕ → Std.Option Cells → Type 0
CellsSought b at taxa characters name r =
    (ts : List Taxon) (rest : List ℕ) → length ts ≡ taxa → RowsStand b at characters ts rest → r ≡ sought_of (find_cells name at ts)

-- An answer as the call gives it: the cells' stretch and the number 0, or the number of the refusal.
unfoldable pub found_as : Result Cells Refusal → Found
found_as (Ok p) = record { refused = 0; stretch = record { start = p.start; size = p.end - p.start } }
found_as (Err n) = not_found n

-- What is answered is the call's answer, and the cells lie within the record.
pub record LookedUp (b name : List ℕ) (r : Result Cells Refusal) : Type 0 where
  pub told : found_as r ≡ lookup_answer name b
  pub within : (p : Cells) → r ≡ Ok p → (p.start ≤ p.end) × (p.end ≤ length b)

-- The lookup call: the number that it leaves; the bytes that it hands back; and that they are those of the caller's own record, from the stretch's
-- first byte on.
pub record LookupCall (source : Bor (List ℕ)) (name : List ℕ) (left : ℕ) (part : Bor (List ℕ)) : Type 0 where
  pub refused : left ≡ (lookup_answer name source.now).refused
  pub bytes : let s = (lookup_answer name source.now).stretch in part.now ≡ take s.size (drop s.start source.now)
  pub place : part.ref_ptr ≡ (source.ref_ptr.0, (lookup_answer name source.now).stretch.start + source.ref_ptr.1)

-- The names of rows entered one by one, and looked for one by one: what is kept at each row. Assumes nothing.
use Rattle.std.specs.Prelude.{Some, None, Option, is_some}
use Prim.Native.Nat.{ℕ, suc, ◌+◌, ◌-◌, ◌≤◌, ◌<◌}
use Rattle.block.specs.Names.{known}
use Rattle.block.specs.Reading.{Taxon}
use Rattle.block.specs.Sound.{names_differ}
use Rattle.naming.proofs.JudgedLaws.{few-turn, few-hit, few-over, row_told, row-turn, remains-on, twice-nowhere, behind-somewhere, same-behind, NamesPassed, passed_start, passed-twice, passed-turn, passed-end, by_lines}
use Rattle.naming.specs.Entries.{lines_at, name_lines, none_known, new_differ, known_count, few_known, RowsJudged, Remains, LinesKept, RoomFor, RoomOf, LineEntered, NamesEntered}
use Rattle.naming.specs.Lines.{line_at}
use Rattle.naming.specs.Rows.{RowPassed, NamesJudged}
use Rattle.slots.specs.declared.Table.{Table}
use lib.Dec.{leb-zero}
use lib.ListN.{length, take}
use mathlib.Core.Bool.{Bool, true, false}
use mathlib.Core.List.{List, [], ◌∷◌, ◌++◌}
use mathlib.Core.Path.{◌≡◌, refl, sym, ap, ◌∙◌}
use native.Mathlib.Omega.{arith}

-- The line at one place more.
pub lines-last : (b ps : List ℕ) (p : ℕ) → lines_at b (ps ++ (p ∷ [])) ≡ lines_at b ps ++ (line_at b p ∷ [])
unfolding lines_at
lines-last b [] p = refl
lines-last b (q ∷ ps) p = ap (λ l. line_at b q ∷ l) (lines-last b ps p)

-- The names of so many rows were entered, and the table has them.
pub record Entering (b : List ℕ) (characters at rows : ℕ) (t : Table) (slots₀ places₀ slots places : List ℕ) (here count : ℕ) : Type 0 where
  pub size : length slots ≡ length slots₀
  pub room : length places ≡ length places₀
  pub kept : LinesKept b slots (take count places) t
  pub passed : NamesPassed b characters at rows (lines_at b (take count places)) here count

module _ (b : List ℕ) (characters at rows : ℕ) (t : Table) (slots₀ places₀ : List ℕ) where
  pub entering-start : Entering b characters at rows t slots₀ places₀ slots₀ places₀ at 0
  unfolding lines_at
  entering-start =
      record {
        size = refl;
        room = refl;
        kept = record { each = λ k h. absurd (omega arith) };
        passed = passed_start;
      }

  module _ (slots places : List ℕ) (here count : ℕ) (k : Entering b characters at rows t slots₀ places₀ slots places here count) where
    module _ (h : count < rows) where
      pub entering-room : RoomOf slots₀ places₀ rows t → RoomFor b slots places count t
      entering-room r =
          record {
            sound = r.sound;
            within = omega (arith, r.within, k.size);
            room = omega (arith, r.room, k.room);
            few = omega (arith, r.few);
            kept = k.kept;
          }

      module _ (after placed : List ℕ) {name : ℕ} (begins : here < length b → name ≡ here + 5) {r : Bool}
          (entered : LineEntered b name slots after places placed count t r) where
        pub entering-twice : r ≡ true → NamesEntered b characters at rows slots₀ after places₀ placed t None
        entering-twice y =
            record {
              size = entered.size ∙ k.size;
              room = entered.room ∙ k.room;
              twice = λ _. passed-twice k.passed h begins (sym entered.told ∙ y);
              kept = λ next e. absurd (twice-nowhere next e);
              rest = λ next e. absurd (twice-nowhere next e);
            }

        pub entering-turn : r ≡ false → {next : ℕ} → RowPassed b here characters next
            → Entering b characters at rows t slots₀ places₀ after placed next (count + 1)
        entering-turn n {next} passed =
            let more : lines_at b (take (count + 1) placed) ≡ lines_at b (take count places) ++ (line_at b name ∷ []) =
            ap (lines_at b) (entered.more n) ∙ lines-last b (take count places) name in
            record {
              size = entered.size ∙ k.size;
              room = entered.room ∙ k.room;
              kept = entered.kept n;
              passed = passed-turn k.passed h begins (sym entered.told ∙ n) passed (λ m. ap (known m) more);
            }

    pub entering-end : rows ≤ count → NamesEntered b characters at rows slots₀ slots places₀ places t (Some here)
    entering-end h =
        let all : rows ≡ count = omega (arith, k.passed.few) in
        record {
          size = k.size;
          room = k.room;
          twice = λ e. absurd (behind-somewhere here e);
          kept = λ next e. rw all k.kept;
          rest = λ next e later. rw (← same-behind here next e, ap (λ n. take n places) all) (passed-end k.passed h later);
        }

-- The names of rows were looked for among some, as far as here; at most so many from here on may be found.
pub record Looking (b : List ℕ) (characters at rows : ℕ) (es : List (List ℕ)) (most here left room : ℕ) : Type 0 where
  pub rest : Remains b characters at rows (few_known es most) here left (few_known es room)

module _ (b : List ℕ) (characters at rows : ℕ) (es : List (List ℕ)) (most here left room : ℕ) (k : Looking b characters at rows es most here left room) where
  module _ {less : ℕ} (one_more : left ≡ suc less) {name : ℕ} (begins : here < length b → name ≡ here + 5) {r : Bool} (told : r ≡ known (line_at b name) es) where
    pub looking-over : r ≡ true → room ≡ 0 → RowsJudged b characters at rows (few_known es most) false
    looking-over y z =
        k.rest.back false
        (rw one_more (row_told b characters here (few_known es room) begins false less (λ ns. rw z (few-over es (line_at b name) ns (sym told ∙ y)))))

    module _ {next : ℕ} (passed : RowPassed b here characters next) where
      looking-next : {few : ℕ} → ((ns : List (List ℕ)) → few_known es room (line_at b name ∷ ns) ≡ few_known es few ns) → Looking b characters at rows es most next less few
      looking-next {few} same =
          record { rest = remains-on (rw one_more at k.rest) (row-turn b characters here (few_known es room) begins (few_known es few) less passed same) }

      pub looking-hit : r ≡ true → (room ≡ 0 → ⊥) → Looking b characters at rows es most next less (room - 1)
      looking-hit y some =
          let more : room ≡ suc (room - 1) = omega (arith, some) in
          looking-next (λ ns. ap (λ m. few_known es m (line_at b name ∷ ns)) more ∙ few-hit es (line_at b name) ns (room - 1) (sym told ∙ y))

      pub looking-turn : r ≡ false → Looking b characters at rows es most next less room
      looking-turn n = looking-next (λ ns. few-turn es (line_at b name) ns room (sym told ∙ n))

  pub looking-end : left ≤ 0 → RowsJudged b characters at rows (few_known es most) true
  looking-end h = k.rest.back true (λ ts rest e s. none ts e)
    where
      none : (ts : List Taxon) → length ts ≡ left → true ≡ few_known es room (name_lines ts)
      none [] e = unfold few_known known_count name_lines in sym (leb-zero room)
      none (t ∷ ts) e = absurd (omega arith)

-- The names of all rows were entered, or two are alike.
module _ (b : List ℕ) (characters at rows : ℕ) (slots after places placed : List ℕ) (t : Table) {r : Option ℕ}
    (e : NamesEntered b characters at rows slots after places placed t r) where
  none-behind : rows + 0 ≡ rows
  none-behind = omega arith

  all-twice : r ≡ None → NamesJudged b at rows characters false
  all-twice is = by_lines b characters at rows false (rw none-behind at (e.twice is 0))

  all-entered : (next : ℕ) → r ≡ Some next → NamesJudged b at rows characters true
  unfolding names_differ
  all-entered next is = by_lines b characters at rows true (rw none-behind at ((e.rest next is 0).back true nothing))
    where
      nothing : RowsJudged b characters next 0 (new_differ (lines_at b (take rows placed))) true
      nothing [] rest z s = unfold new_differ none_known name_lines in refl
      nothing (t ∷ ts) rest z s = absurd (omega arith)

-- Whether there is a place behind the rows tells whether their names differ.
pub entered-told : (b : List ℕ) (characters at rows : ℕ) (slots after places placed : List ℕ) (t : Table) {r : Option ℕ}
    → NamesEntered b characters at rows slots after places placed t r → NamesJudged b at rows characters (is_some r)
entered-told b characters at rows slots after places placed t {r = Some next} e = all-entered b characters at rows slots after places placed t e next refl
entered-told b characters at rows slots after places placed t {r = None} e = all-twice b characters at rows slots after places placed t e refl

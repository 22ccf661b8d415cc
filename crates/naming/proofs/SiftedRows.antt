-- The names of rows sifted one by one: what is kept at each row. Assumes nothing.
use Prim.Native.Nat.{ℕ, suc, ◌+◌, ◌≤◌, ◌<◌}
use Rattle.block.specs.Names.{known}
use Rattle.block.specs.Reading.{Taxon}
use Rattle.block.specs.Sound.{names_differ}
use Rattle.block.specs.declared.data.TaxonNumber.{TaxonNumber}
use Rattle.lexer.proofs.Basics.{by-test}
use Rattle.lexer.specs.Base.{alike}
use Rattle.naming.proofs.EnteredRows.{lines-last}
use Rattle.naming.proofs.JudgedLaws.{known-last, row_told, row-turn, remains-all, remains-on, by_lines}
use Rattle.naming.proofs.SiftLaws.{Suspected, suspected-start, suspected-passed, suspected-entered, suspected-twice}
use Rattle.naming.specs.Entries.{lines_at, name_lines, few_known, RowsJudged, Remains, LinesKept, RoomOf, LineEntered}
use Rattle.naming.specs.Lines.{line_at}
use Rattle.naming.specs.Rows.{RowPassed}
use Rattle.naming.specs.Sifting.{Marked, Marks, Sifts, passed, entered, LineSifted, NamesSifted, NamesCompared}
use Rattle.naming.specs.declared.filter.Clash.{Clash}
use Rattle.std.specs.Prelude.{Ok, Err, Result}
use Rattle.slots.proofs.HashLaws.{alike-hash}
use Rattle.slots.specs.Hashes.{hash}
use Rattle.slots.specs.declared.Table.{Table}
use lib.ListN.{length, take}
use lib.Seq.{length-take-le}
use mathlib.Core.Bool.{Bool, true, false, false≢true}
use mathlib.Core.List.{List, [], ◌∷◌, ◌++◌, append_assoc, append-nil}
use mathlib.Core.Path.{◌≡◌, refl, sym, ap, ◌∙◌}
use native.Mathlib.Omega.{arith}

same-suspects : (m n : TaxonNumber) → ◌≡◌ {A = Result TaxonNumber Clash} (Ok m) (Ok n) → m ≡ n
same-suspects m n e = cc

-- One line, by its bits: it is new, or there is no room for it, or it is looked for among the suspects.
module _ (b : List ℕ) (at : ℕ) (words marked slots places : List ℕ) (count : TaxonNumber) (t : Table) {h : ℕ} (hashed : h ≡ hash (line_at b at)) {new : Bool}
    (marks : Marks words marked h new) where
  line_marked : Marked marked (hash (line_at b at))
  line_marked = rw (← hashed) marks.new

  pub sift-new : new ≡ true → count.0 ≤ length places → LinesKept b slots (take count.0 places) t
      → LineSifted b at words marked slots slots places places count.0 t (Ok count)
  sift-new y few kept =
      record {
        width = marks.size;
        size = refl;
        room = refl;
        new = line_marked;
        old = marks.old;
        twice = λ e. absurd (cc);
        few = λ n e. rw (← same-suspects count n e) few;
        kept = λ n e. rw (← same-suspects count n e) kept;
        next = λ n e. rw (← same-suspects count n e) (passed (λ m. marks.told y (rw hashed m)) refl);
      }

  pub sift-crowded : LineSifted b at words marked slots slots places places count.0 t (Err Clash.Crowded)
  sift-crowded =
      record {
        width = marks.size;
        size = refl;
        room = refl;
        new = line_marked;
        old = marks.old;
        twice = λ e. absurd (cc);
        few = λ n e. absurd (cc);
        kept = λ n e. absurd (cc);
        next = λ n e. absurd (cc);
      }

  module _ (after placed : List ℕ) {r : Bool} (line : LineEntered b at slots after places placed count.0 t r) where
    pub sift-twice : r ≡ true → LineSifted b at words marked slots after places placed count.0 t (Err Clash.Twice)
    sift-twice y =
        record {
          width = marks.size;
          size = line.size;
          room = line.room;
          new = line_marked;
          old = marks.old;
          twice = λ _. sym line.told ∙ y;
          few = λ n e. absurd (cc);
          kept = λ n e. absurd (cc);
          next = λ n e. absurd (cc);
        }

    pub sift-entered : r ≡ false → count.0 < length places → (m : TaxonNumber) → m.0 ≡ count.0 + 1
        → LineSifted b at words marked slots after places placed count.0 t (Ok m)
    sift-entered n below m one =
        let more : lines_at b (take m.0 placed) ≡ lines_at b (take count.0 places) ++ (line_at b at ∷ []) =
        rw one (ap (lines_at b) (line.more n) ∙ lines-last b (take count.0 places) at) in
        record {
          width = marks.size;
          size = line.size;
          room = line.room;
          new = line_marked;
          old = marks.old;
          twice = λ e. absurd (cc);
          few = λ k e. rw (← same-suspects m k e) (omega (arith, one, line.room));
          kept = λ k e. rw (← same-suspects m k e, one) (line.kept n);
          next = λ k e. rw (← same-suspects m k e) (entered (sym line.told ∙ n) more);
        }

-- The names of rows were sifted, as far as here: the bits of all are set, and the suspects among them were entered.
pub record Sifting (b : List ℕ) (characters at rows : ℕ) (t : Table) (words₀ slots₀ places₀ words slots places : List ℕ) (here left count : ℕ) : Type 0 where
  pub seen : List (List ℕ)
  pub width : length words ≡ length words₀
  pub size : length slots ≡ length slots₀
  pub room : length places ≡ length places₀
  pub few : count ≤ length places
  pub kept : LinesKept b slots (take count places) t
  pub marked : (n : List ℕ) → known n seen ≡ true → Marked words (hash n)
  pub suspects : Suspected (lines_at b (take count places)) seen
  pub rest : (test : List (List ℕ) → Bool) → Remains b characters at rows test here left (λ more. test (seen ++ more))

module _ (b : List ℕ) (characters at rows : ℕ) (t : Table) (words₀ slots₀ places₀ : List ℕ) where
  pub sifting-start : Sifting b characters at rows t words₀ slots₀ places₀ words₀ slots₀ places₀ at rows 0
  unfolding lines_at known
  sifting-start =
      record {
        seen = [];
        width = refl;
        size = refl;
        room = refl;
        few = omega arith;
        kept = record { each = λ k h. absurd (omega arith) };
        marked = λ n k. absurd (false≢true k);
        suspects = suspected-start;
        rest = λ test. remains-all at rows test;
      }

  module _ (words slots places : List ℕ) (here left count : ℕ) (k : Sifting b characters at rows t words₀ slots₀ places₀ words slots places here left count) where
    pub sifting-room : RoomOf slots₀ places₀ (length places₀) t → RoomOf slots places (length places) t
    sifting-room r =
        record {
          sound = r.sound;
          within = omega (arith, r.within, k.size);
          room = omega arith;
          few = omega (arith, r.few, k.room);
        }

    module _ {less : ℕ} (one_more : left ≡ suc less) (marked after placed : List ℕ) {name : ℕ} (begins : here < length b → name ≡ here + 5) {r : Result TaxonNumber Clash}
        (line : LineSifted b name words marked slots after places placed count t r) where
      pub sifting-clash : (why : Clash) → r ≡ Err why → NamesSifted b characters at rows slots₀ after places₀ placed t (Err why)
      sifting-clash why is =
          record {
            size = line.size ∙ k.size;
            room = line.room ∙ k.room;
            twice = λ e. (k.rest names_differ).back false
                (rw one_more (row_told b characters here (λ more. names_differ (k.seen ++ more)) begins false less
                (suspected-twice (lines_at b (take count places)) k.seen (line_at b name) k.suspects (line.twice (is ∙ e)))));
            few = λ n e. absurd (cc);
            kept = λ n e. absurd (cc);
            rest = λ n e. absurd (cc);
          }

      -- The bits of one name more are set.
      all-marked : (n : List ℕ) → known n (k.seen ++ (line_at b name ∷ [])) ≡ true → Marked marked (hash n)
      all-marked n known-there =
          by-test (known n k.seen)
          (λ y. line.old (hash n) (k.marked n y))
          (λ o.
          let like : alike n (line_at b name) ≡ true = rw o at (sym (known-last n k.seen (line_at b name)) ∙ known-there) in
          rw (alike-hash n (line_at b name) like) line.new)

      -- A name whose bits were not all set is not among those in front of it.
      more-suspects : (es : List (List ℕ)) → Sifts (Marked words (hash (line_at b name))) (line_at b name) (lines_at b (take count places)) es
          → Suspected es (k.seen ++ (line_at b name ∷ []))
      more-suspects es (passed free same) =
          rw same
          (suspected-passed (lines_at b (take count places)) k.seen (line_at b name) k.suspects
          (by-test (known (line_at b name) k.seen) (λ y. absurd (free (k.marked (line_at b name) y))) (λ o. o)))
      more-suspects es (entered new same) = rw same (suspected-entered (lines_at b (take count places)) k.seen (line_at b name) k.suspects new)

      pub sifting-turn : (n : TaxonNumber) → r ≡ Ok n → {next : ℕ} → RowPassed b here characters next
          → Sifting b characters at rows t words₀ slots₀ places₀ marked after placed next less n.0
      sifting-turn n is {next} behind =
          record {
            seen = k.seen ++ (line_at b name ∷ []);
            width = line.width ∙ k.width;
            size = line.size ∙ k.size;
            room = line.room ∙ k.room;
            few = line.few n is;
            kept = line.kept n is;
            marked = all-marked;
            suspects = more-suspects (lines_at b (take n.0 placed)) (line.next n is);
            rest = λ test.
                remains-on (rw one_more at (k.rest test))
                (row-turn b characters here (λ more. test (k.seen ++ more)) begins (λ more. test ((k.seen ++ (line_at b name ∷ [])) ++ more)) less behind
                (λ ns. ap test (sym (append_assoc k.seen (line_at b name ∷ []) ns))));
          }

    module _ (h : left ≤ 0) where
      -- Where so many rows stand, every test of their names is one of those that were seen.
      all_seen : (test : List (List ℕ) → Bool) → RowsJudged b characters at rows test (test k.seen)
      all_seen test = (k.rest test).back (test k.seen) (λ ts rest e s. none ts e)
        where
          none : (ts : List Taxon) → length ts ≡ left → test k.seen ≡ test (k.seen ++ name_lines ts)
          none [] e = unfold name_lines in ap test (sym (append-nil k.seen))
          none (x ∷ ts) e = absurd (omega arith)

      suspects-count : (ps : List ℕ) → length (lines_at b ps) ≡ length ps
      unfolding lines_at
      suspects-count [] = refl
      suspects-count (p ∷ ps) = ap suc (suspects-count ps)

      seen-told : names_differ k.seen ≡ few_known (lines_at b (take count places)) count k.seen
      seen-told =
          let size : length (lines_at b (take count places)) ≡ count = suspects-count (take count places) ∙ length-take-le count places k.few in
          k.suspects.told ∙ ap (λ n. few_known (lines_at b (take count places)) n k.seen) size

      pub sifting-end : (n : TaxonNumber) → n.0 ≡ count → NamesSifted b characters at rows slots₀ slots places₀ places t (Ok n)
      sifting-end n is =
          record {
            size = k.size;
            room = k.room;
            twice = λ e. absurd (cc);
            few = λ m e. rw (← same-suspects n m e, is) k.few;
            kept = λ m e. rw (← same-suspects n m e, is) k.kept;
            rest = λ m e.
                rw (← same-suspects n m e, is)
                (record {
                  back = λ r judged ts rest l s.
                      judged ts rest l s
                      ∙ sym (all_seen (few_known (lines_at b (take count places)) count) ts rest l s)
                      ∙ sym seen-told
                      ∙ all_seen names_differ ts rest l s;
                });
          }

-- The answer of the comparison.
module _ (b : List ℕ) (characters at taxa : ℕ) where
  judged-twice : RowsJudged b characters at taxa names_differ false → NamesCompared b at taxa characters (Err Clash.Twice)
  judged-twice judged = record { differ = λ e. absurd (cc); twice = λ _. by_lines b characters at taxa false judged }

  module _ (slots after places placed : List ℕ) (t : Table) {r : Result TaxonNumber Clash} (names : NamesSifted b characters at taxa slots after places placed t r) where
    pub compared-clash : (why : Clash) → r ≡ Err why → NamesCompared b at taxa characters (Err why)
    compared-clash why is =
        record { differ = λ e. absurd (cc); twice = λ e. let same : why ≡ Clash.Twice = cc in by_lines b characters at taxa false (names.twice (is ∙ ap (λ w. Err w) same)) }

    module _ (n : TaxonNumber) (is : r ≡ Ok n) {w : Bool} (looked : RowsJudged b characters at taxa (few_known (lines_at b (take n.0 placed)) n.0) w) where
      pub compared-few : w ≡ true → NamesCompared b at taxa characters (Ok tt)
      compared-few y =
          record {
            differ = λ _. by_lines b characters at taxa true (rw y at ((names.rest n is).back w looked));
            twice = λ e. absurd (cc);
          }

      pub compared-many : w ≡ false → NamesCompared b at taxa characters (Err Clash.Twice)
      compared-many f = judged-twice (rw f at ((names.rest n is).back w looked))

-- The taxa of a reading follow the declared order: what TAXLABELS declared before the MATRIX of the text, or the rows as they come. Assumes nothing.
use Prim.Native.Nat.{ℕ, zero, suc}
use Rattle.block.proofs.BlocksKept.{Claims, Block, Brings, Kept, kept_map, step_kept, start-kept}
use Rattle.block.proofs.ChunkSound.{none-some, some_inj}
use Rattle.block.proofs.DeclaredHeld.{declares-holds}
use Rattle.block.proofs.FormatSound.{Good, format-good}
use Rattle.block.proofs.MatrixParts.{matrix-parts}
use Rattle.block.proofs.MatrixSound.{whole_long, default-formatted, rows-matrix}
use Rattle.block.proofs.NamesSound.{token-named, all-named}
use Rattle.block.proofs.OutcomeLaws.{members, Opt, fold-history}
use Rattle.block.proofs.ReadCommands.{read-finished}
use Rattle.block.specs.Blocks.{Data, in_data, State, at_start, step, declared_count, agrees, matrix, with_types}
use Rattle.block.specs.Commands.{Command, command, words}
use Rattle.block.specs.Outcome.{done, fold}
use Rattle.block.specs.Parse.{reading, read}
use Rattle.block.specs.Reading.{Taxon, Reading}
use Rattle.block.specs.Sequential.{names}
use Rattle.block.specs.TaxonOrder.{commands_of, TokenNamed, Declares, MatrixOf, Follows}
use Rattle.lexer.proofs.Basics.{and_left}
use Rattle.lexer.specs.Base.{bytes}
use Rattle.lexer.specs.Words.{Numbered, is, largest}
use borrow.Author.Tests.{eqb-true}
use lib.Dec.{eqb, leb}
use lib.ListN.{length}
use mathlib.Core.Bool.{true, false, true≢false}
use mathlib.Core.List.{List, [], ◌∷◌, ◌++◌, append_assoc, Memᴰ}
use mathlib.Core.Logic.{◌↔◌}
use mathlib.Core.Option.{Option, none, some}
use mathlib.Core.Path.{◌≡◌, refl, sym, ap, ◌∙◌, subst}

-- A MATRIX command among these whose rows the taxa of the reading follow.
record Following (cs : List Command) (r : Reading) : Type 0 where
  made : MatrixOf cs
  follows : Follows made.block_data.taxa made.rows r.taxa

-- What is claimed of a state behind these commands: declared names and the matrix come from them.
abbrev come_from : List Command → Claims
come_from cs = record { dimensions = λ d. Unit {0}; names = Declares cs; format = Good; labels = λ c. Unit {0}; reading = Following cs }

module _ (cs : List Command) (c : Command) where
  declares-later : (ns : List (List ℕ)) → Declares cs ns → Declares (cs ++ (c ∷ [])) ns
  declares-later ns d =
      record {
        before = d.before;
        head = d.head;
        raw = d.raw;
        after = d.after ++ (c ∷ []);
        here = ap (λ l. l ++ (c ∷ [])) d.here ∙ append_assoc d.before (command d.head d.raw ∷ d.after) (c ∷ []);
        word = d.word;
        state = d.state;
        reached = d.reached;
        inside = d.inside;
        named = d.named;
      }

  matrix-later : MatrixOf cs → MatrixOf (cs ++ (c ∷ []))
  matrix-later m =
      record {
        before = m.before;
        head = m.head;
        raw = m.raw;
        after = m.after ++ (c ∷ []);
        here = ap (λ l. l ++ (c ∷ [])) m.here ∙ append_assoc m.before (command m.head m.raw ∷ m.after) (c ∷ []);
        word = m.word;
        state = m.state;
        reached = m.reached;
        block = m.block;
        block_data = m.block_data;
        inside = m.inside;
        dimensions = m.dimensions;
        sized = m.sized;
        shape = m.shape;
        shaped = m.shaped;
        rows = m.rows;
        read = m.read;
        as_ntax = m.as_ntax;
        as_names = m.as_names;
        long = m.long;
        named = m.named;
        declared = m.declared;
      }

  following-later : (r : Reading) → Following cs r → Following (cs ++ (c ∷ [])) r
  unfolding matrix-later
  following-later r f = record { made = matrix-later f.made; follows = f.follows }

  kept-later : (s : State) → Kept (come_from cs) s → Kept (come_from (cs ++ (c ∷ []))) s
  kept-later s k = kept_map (come_from cs) (come_from (cs ++ (c ∷ []))) (record { dimensions = λ d p. p; names = declares-later; format = λ f p. p; labels = λ l p. p; reading = following-later }) s k

-- NTAX, where it is given, is the count of the rows, and declared names are as many as the rows.
count-given : (declared : Option (List (List ℕ))) (n : ℕ) → eqb n 0 ≡ false → declared_count declared n ≡ n
unfolding declared_count
count-given none n h = refl
count-given (some names) zero h = absurd (true≢false h)
count-given (some names) (suc n) h = refl

names-counted : (declared : Option (List (List ℕ))) (n : ℕ) → agrees declared n ≡ true → (ns : List (List ℕ)) → declared ≡ some ns → n ≡ length ns
unfolding agrees
names-counted none n h ns e = none-some ns e
names-counted (some names) n h ns e = sym (eqb-true (length names) n (and_left (eqb (length names) n) (leb n largest) h)) ∙ ap length (some_inj e)

-- The next command brings in names that it declares, and a matrix with the rows that it holds.
module _ (before : List Command) (s : State) (reached : fold step at_start before ≡ done s) (k : Kept (come_from before) s) (h : Numbered) (raw : List Numbered) where
  declared : (b : ℕ) (d : Data) → s.phase ≡ in_data b d → (ns : List (List ℕ)) → (d.taxa ≡ some ns) ↔ Declares before ns
  declared b d at ns = (comes, λ p. rw at at (declares-holds before s reached ns p))
    where
      comes : d.taxa ≡ some ns → Declares before ns
      comes e =
          let block : Block (come_from before) d = rw at at k.phase in
          rw e at block.ready.taxa

  following : is (bytes "MATRIX") h ≡ true → (b : ℕ) (d : Data) → s.phase ≡ in_data b d → Opt Good d.format → (r : Reading)
      → matrix d h raw ≡ done r → Following (before ++ (command h raw ∷ [])) r
  following word b d at formatted r e =
      let p = matrix-parts d h raw r e in
      let good : Good p.shape.format = rw p.shaped.formatted (default-formatted d.format formatted) in
      let m = rows-matrix (TokenNamed raw) (λ w. Memᴰ w raw) (token-named raw) p.shape good raw p.taken (members raw) p.read in
      record {
        made =
            record {
              before = before;
              head = h;
              raw = raw;
              after = [];
              here = refl;
              word = word;
              state = s;
              reached = reached;
              block = b;
              block_data = d;
              inside = at;
              dimensions = p.dimensions;
              sized = p.sized;
              shape = p.shape;
              shaped = p.by;
              rows = p.taken;
              read = p.read;
              as_ntax = λ e. m.counted ∙ p.shaped.counted ∙ count-given d.taxa p.dimensions.taxa e;
              as_names = λ ns e. m.counted ∙ names-counted d.taxa p.shape.taxa p.shaped.agreed ns e;
              long = rw (← p.shaped.sized) (whole_long p.shape.format p.shape.characters p.taken m.rowed.whole);
              named = all-named raw (names p.taken) m.rowed.named.each;
              declared = declared b d at;
            };
        follows = subst (λ (ts : List Taxon). Follows d.taxa p.taken ts) (ap (λ x. x.taxa) p.is) p.follows;
      }

  brings : Brings (come_from (before ++ (command h raw ∷ []))) s h raw
  unfolding with_types
  brings =
      record {
        named = λ t p ns e. record { before = before; head = h; raw = raw; after = []; here = refl; word = t; state = s; reached = reached; inside = p; named = e };
        sized = λ d e. tt;
        formatted = format-good h.index (words raw);
        labelled = λ l. tt;
        read = λ t b d at p r e. following t b d at p.format r e;
        typed = λ r default set f. record { made = f.made; follows = f.follows };
      }

step-later : (before : List Command) (s : State) (c : Command) (t : State) → fold step at_start before ≡ done s → Kept (come_from before) s
    → step s c ≡ done t → Kept (come_from (before ++ (c ∷ []))) t
step-later before s c t reached k e =
    step_kept (come_from (before ++ (c ∷ []))) s c t (λ h raw is. rw is (brings before s reached k h raw)) (kept-later before c s k) e

pub taxa-follow : (text : List ℕ) (r : Reading) → read text ≡ reading r → (m : MatrixOf (commands_of text)) × Follows m.block_data.taxa m.rows r.taxa
taxa-follow text r h =
    let f = read-finished text r h in
    let k = fold-history (λ cs s. Kept (come_from cs) s) step at_start step-later (commands_of text) f.state (start-kept (come_from [])) f.reached in
    let m : Following (commands_of text) r = rw f.matrix at k.matrix in
    (m.made, m.follows)

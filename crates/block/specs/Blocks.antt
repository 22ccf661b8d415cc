-- Blocks: the state of reading after each command, and the step that a command makes.
use Rattle.std.specs.Prelude.{ℕ, zero, suc, leb, eqb, length, Bool, true, false, ◌&&◌, ◌||◌, not, List, [], ◌∷◌, ◌++◌}
use Rattle.block.specs.Commands.{Command, command, empty, unended, words}
use Rattle.block.specs.Dimensions.{dimensions}
use Rattle.block.specs.Format.{Format, format, default_format}
use Rattle.block.specs.Interleaved.{interleaved}
use Rattle.block.specs.Labels.{Labelled, LabelCommand, apply_labels}
use Rattle.block.specs.Names.{unique_names}
use Rattle.block.specs.Outcome.{Outcome, done, refused, then, need}
use Rattle.block.specs.Reading.{Taxon, Character, Reading}
use Rattle.block.specs.Sequential.{Shape, sequential}
use Rattle.block.specs.Typeset.{Types, ordering, typeset}
use Rattle.block.specs.declared.data.DataType.{DataType}
use Rattle.block.specs.declared.dimension.Dimensions.{Dimensions}
use Rattle.block.specs.declared.kinds.Labelling.{Labelling}
use Rattle.block.specs.declared.model.CharacterOrdering.{CharacterOrdering}
use Rattle.lexer.specs.Base.{pick, bytes, alike, is_empty, given, byte}
use Rattle.lexer.specs.Words.{Numbered, is, punct, largest}
use Rattle.lexer.specs.declared.refusal.Refusal.{Refusal}
use Rattle.std.proofs.Math.Option.{Option, none, some, get_or}

-- A data block so far: what was declared in it, the taxa declared in it or before, its label commands, and the matrix.
pub record Data : Type 0 where
  pub dimensions : Option Dimensions
  pub format : Option Format
  pub taxa : Option (List (List ℕ))
  pub labels : List LabelCommand
  pub matrix : Option Reading

-- Which block is open, with the index of its name: none; TAXA, with its NTAX (0 if not given) and its names; DATA or CHARACTERS; ASSUMPTIONS,
-- with the default type and the set's types for the characters of the matrix; TREES.
pub data Phase : Type 0 where
  outside : Phase
  in_taxa : ℕ → ℕ → Option (List (List ℕ)) → Phase
  in_data : ℕ → Data → Phase
  in_assumptions : ℕ → Option CharacterOrdering → Option Types → Phase
  in_trees : ℕ → Phase

-- The state after a command: the open block, the taxa of the TAXA block, the matrix, and whether ASSUMPTIONS was read.
pub record State : Type 0 where
  pub phase : Phase
  pub taxa : Option (List (List ℕ))
  pub matrix : Option Reading
  pub assumptions : Bool

unfoldable pub at_start : State
at_start = record { phase = outside; taxa = none; matrix = none; assumptions = false }

unfoldable pub in_phase : Phase → State → State
in_phase p s = record { phase = p; taxa = s.taxa; matrix = s.matrix; assumptions = s.assumptions }

-- BEGIN: one TAXA block, before the matrix; one DATA or CHARACTERS block; one ASSUMPTIONS block, behind it; TREES anywhere.
unfoldable pub begin_assumptions : State → ℕ → Bool → Option Reading → Outcome State
begin_assumptions s b true matrix = refused Refusal.Block b
begin_assumptions s b false none = refused Refusal.Block b
begin_assumptions s b false (some r) = done (in_phase (in_assumptions b none none) s)

unfoldable pub no_data : Option (List (List ℕ)) → Data
no_data taxa = record { dimensions = none; format = none; taxa = taxa; labels = []; matrix = none }

unfoldable pub begin_block : State → Numbered → Outcome State
begin_block s b =
    let i = b.index in
    let misplaced = refused Refusal.Block i in
    pick (is (bytes "TAXA") b)
    (pick (given s.taxa || given s.matrix) misplaced (done (in_phase (in_taxa i 0 none) s)))
    (pick (is (bytes "DATA") b || is (bytes "CHARACTERS") b)
    (pick (given s.matrix) misplaced (done (in_phase (in_data i (no_data s.taxa)) s)))
    (pick (is (bytes "ASSUMPTIONS") b) (begin_assumptions s i s.assumptions s.matrix)
    (pick (is (bytes "TREES") b) (done (in_phase (in_trees i) s))
    misplaced)))

-- Outside a block a command is BEGIN and a name.
unfoldable pub begin_words : State → Numbered → List Numbered → Outcome State
begin_words s h [] = refused Refusal.NotBegin h.index
begin_words s h (b ∷ []) = let block = begin_block s b in pick (is (bytes "BEGIN") h) block (refused Refusal.NotBegin h.index)
begin_words s h (b ∷ c ∷ r) = refused Refusal.NotBegin h.index

-- TAXA: DIMENSIONS with NTAX alone, then TAXLABELS.
unfoldable pub taxa_count : Numbered → ℕ → Dimensions → Outcome Phase
taxa_count h b d =
    pick (not (eqb d.characters 0) || d.new_taxa) (refused Refusal.Dimension h.index)
    (pick (eqb d.taxa 0) (refused Refusal.Absent h.index)
    (done (in_taxa b d.taxa none)))

unfoldable pub taxa_step : Numbered → List Numbered → ℕ → ℕ → Option (List (List ℕ)) → Outcome Phase
taxa_step h ws b count (some names) = refused Refusal.Command h.index
taxa_step h ws b zero none =
    let counted = then (dimensions ws) (taxa_count h b) in
    pick (is (bytes "DIMENSIONS") h) counted (refused Refusal.Command h.index)
taxa_step h ws b (suc n) none =
    let named = then (unique_names ws) (λ names. done (in_taxa b (suc n) (some names))) in
    pick (is (bytes "TAXLABELS") h) named (refused Refusal.Command h.index)

-- MATRIX. The count of taxa is NTAX or, without it, that of the declared names.
unfoldable pub declared_count : Option (List (List ℕ)) → ℕ → ℕ
declared_count none n = n
declared_count (some names) zero = length names
declared_count (some names) (suc n) = suc n

-- Names agree with the count if there are so many; it has 64 bits, as one that DIMENSIONS declares.
unfoldable pub agrees : Option (List (List ℕ)) → ℕ → Bool
agrees none n = true
agrees (some names) n = eqb (length names) n && leb n largest

-- The first row whose name is this one, ASCII case ignored, under the name as it is given.
unfoldable pub row_of : List ℕ → List Taxon → Option Taxon
row_of n [] = none
row_of n (t ∷ r) = let more = row_of n r in pick (alike n t.name) (some (record { name = n; cells = t.cells })) more

-- The rows of these names, in their order; 25 if there is none of a name.
unfoldable pub arranged : ℕ → List Taxon → List (List ℕ) → Outcome (List Taxon)
arranged head rows [] = done []
arranged head rows (n ∷ ns) =
    then (need (row_of n rows) Refusal.TaxonAbsent head) (λ t. then (arranged head rows ns) (λ ts. done (t ∷ ts)))

-- The rows in declared order with the declared names, or as they came.
unfoldable pub in_order : ℕ → Option (List (List ℕ)) → List Taxon → Outcome (List Taxon)
in_order head none rows = done rows
in_order head (some names) rows = arranged head rows names

-- A character with its labels, before any type is given.
unfoldable pub unordered : List Labelled → List Character
unordered [] = []
unordered (c ∷ r) =
    record { label = get_or c.label []; states = get_or c.states []; ordering = CharacterOrdering.Unordered } ∷ unordered r

unfoldable pub rows : Shape → List Numbered → Outcome (List Taxon)
rows sh raw =
    let pages = interleaved sh raw in
    let sequence = sequential sh (words raw) in
    pick sh.format.interleave pages sequence

-- The rows, then the declared order, then the labels.
unfoldable pub matrix_reading : Data → Shape → List Numbered → Outcome Reading
matrix_reading d sh raw =
    then (rows sh raw) (λ taken.
    then (in_order sh.head d.taxa taken) (λ taxa.
    then (apply_labels (length sh.format.symbols) sh.characters d.labels) (λ cs.
    done (record { data_type = sh.format.data_type; symbols = sh.format.symbols; taxa = taxa; characters = unordered cs }))))

-- What the matrix is to be, by what was declared before it.
unfoldable pub matrix_shape : Data → Dimensions → ℕ → Outcome Shape
matrix_shape d dims head =
    let n = declared_count d.taxa dims.taxa in
    let shape : Shape = record { taxa = n; characters = dims.characters; format = get_or d.format default_format; head = head } in
    pick (eqb dims.characters 0 || eqb n 0) (refused Refusal.Absent head)
    (pick (not (agrees d.taxa n)) (refused Refusal.Count head)
    (pick (dims.new_taxa && eqb dims.taxa 0) (refused Refusal.Absent head)
    (done shape)))

unfoldable pub matrix : Data → Numbered → List Numbered → Outcome Reading
matrix d h raw =
    then (need d.dimensions Refusal.Absent h.index) (λ dims.
    then (matrix_shape d dims h.index) (λ sh.
    matrix_reading d sh raw))

-- DATA or CHARACTERS: each command once; MATRIX is the last.
unfoldable pub labelling : Numbered → Option Labelling
labelling h =
    pick (is (bytes "CHARLABELS") h) (some Labelling.CharLabels)
    (pick (is (bytes "STATELABELS") h) (some Labelling.StateLabels)
    (pick (is (bytes "CHARSTATELABELS") h) (some Labelling.CharStateLabels)
    none))

unfoldable pub same_labelling : Labelling → Labelling → Bool
same_labelling Labelling.CharLabels Labelling.CharLabels = true
same_labelling Labelling.CharLabels Labelling.StateLabels = false
same_labelling Labelling.CharLabels Labelling.CharStateLabels = false
same_labelling Labelling.StateLabels Labelling.CharLabels = false
same_labelling Labelling.StateLabels Labelling.StateLabels = true
same_labelling Labelling.StateLabels Labelling.CharStateLabels = false
same_labelling Labelling.CharStateLabels Labelling.CharLabels = false
same_labelling Labelling.CharStateLabels Labelling.StateLabels = false
same_labelling Labelling.CharStateLabels Labelling.CharStateLabels = true

unfoldable pub labelled_by : Labelling → List LabelCommand → Bool
labelled_by l [] = false
labelled_by l (c ∷ r) = let more = labelled_by l r in same_labelling l c.what || more

unfoldable pub with_dimensions : Data → Dimensions → Data
with_dimensions d x = record { dimensions = some x; format = d.format; taxa = d.taxa; labels = d.labels; matrix = d.matrix }

unfoldable pub with_format : Data → Format → Data
with_format d x = record { dimensions = d.dimensions; format = some x; taxa = d.taxa; labels = d.labels; matrix = d.matrix }

unfoldable pub with_taxa : Data → List (List ℕ) → Data
with_taxa d x = record { dimensions = d.dimensions; format = d.format; taxa = some x; labels = d.labels; matrix = d.matrix }

unfoldable pub with_matrix : Data → Reading → Data
with_matrix d x = record { dimensions = d.dimensions; format = d.format; taxa = d.taxa; labels = d.labels; matrix = some x }

unfoldable pub label_step : Data → Numbered → List Numbered → Option Labelling → Outcome Data
label_step d h ws none = refused Refusal.Command h.index
label_step d h ws (some l) =
    let c : LabelCommand = record { what = l; head = h.index; words = ws } in
    let more : Data = record { dimensions = d.dimensions; format = d.format; taxa = d.taxa; labels = d.labels ++ (c ∷ []); matrix = d.matrix } in
    pick (labelled_by l d.labels) (refused Refusal.Command h.index) (done more)

unfoldable pub data_command : Data → Numbered → List Numbered → Outcome Data
data_command d h raw =
    let repeated = refused Refusal.Command h.index in
    let sizes = then (dimensions (words raw)) (λ x. done (with_dimensions d x)) in
    let formatted = then (format h.index (words raw)) (λ x. done (with_format d x)) in
    let named = then (unique_names (words raw)) (λ x. done (with_taxa d x)) in
    let read = then (matrix d h raw) (λ x. done (with_matrix d x)) in
    let other = label_step d h (words raw) (labelling h) in
    pick (is (bytes "DIMENSIONS") h) (pick (given d.dimensions) repeated sizes)
    (pick (is (bytes "FORMAT") h) (pick (given d.format) repeated formatted)
    (pick (is (bytes "TAXLABELS") h) (pick (given d.taxa) repeated named)
    (pick (is (bytes "MATRIX") h) read
    other)))

unfoldable pub data_step : Numbered → List Numbered → ℕ → Data → Outcome Phase
data_step h raw b d =
    let more = then (data_command d h raw) (λ x. done (in_data b x)) in
    pick (given d.matrix) (refused Refusal.Command h.index) more

-- ASSUMPTIONS: OPTIONS DEFTYPE = type, and one TYPESET.
unfoldable pub options : Numbered → List Numbered → Outcome CharacterOrdering
options h [] = refused Refusal.Command h.index
options h (a ∷ []) = refused Refusal.Command h.index
options h (a ∷ b ∷ []) = refused Refusal.Command h.index
options h (a ∷ b ∷ c ∷ []) =
    let type = need (ordering c) Refusal.TypeSet c.index in
    pick (is (bytes "DEFTYPE") a && punct (byte "=") b) type (refused Refusal.Command h.index)
options h (a ∷ b ∷ c ∷ e ∷ r) = refused Refusal.Command h.index

unfoldable pub characters_in : Option Reading → ℕ
characters_in none = 0
characters_in (some r) = length r.characters

unfoldable pub assumption_step : State → Numbered → List Numbered → ℕ → Option CharacterOrdering → Option Types → Outcome Phase
assumption_step s h ws b default set =
    let typed = then (options h ws) (λ o. done (in_assumptions b (some o) set)) in
    let given_set = then (typeset (record { characters = characters_in s.matrix; head = h.index }) ws) (λ ts. done (in_assumptions b default (some ts))) in
    pick (is (bytes "OPTIONS") h && not (given default)) typed
    (pick (is (bytes "TYPESET") h && not (given set)) given_set
    (refused Refusal.Command h.index))

-- END. The types of a set stand over the default.
unfoldable pub retyped : CharacterOrdering → Types → List Character → List Character
retyped o ts [] = []
retyped o [] (c ∷ cs) = record { label = c.label; states = c.states; ordering = o } ∷ retyped o [] cs
retyped o (t ∷ ts) (c ∷ cs) = record { label = c.label; states = c.states; ordering = get_or t o } ∷ retyped o ts cs

unfoldable pub with_types : Option CharacterOrdering → Option Types → Reading → Reading
with_types default set r =
    record {
      data_type = r.data_type;
      symbols = r.symbols;
      taxa = r.taxa;
      characters = retyped (get_or default CharacterOrdering.Unordered) (get_or set []) r.characters;
    }

unfoldable pub matrix_typed : Option CharacterOrdering → Option Types → Option Reading → Option Reading
matrix_typed default set none = none
matrix_typed default set (some r) = some (with_types default set r)

unfoldable pub taxa_end : State → ℕ → ℕ → Option (List (List ℕ)) → Outcome State
taxa_end s b count none = refused Refusal.Absent b
taxa_end s b count (some names) =
    let left : State = record { phase = outside; taxa = some names; matrix = s.matrix; assumptions = s.assumptions } in
    pick (eqb (length names) count) (done left) (refused Refusal.Count b)

unfoldable pub data_end : State → ℕ → Option Reading → Outcome State
data_end s b none = refused Refusal.Absent b
data_end s b (some r) = done (record { phase = outside; taxa = s.taxa; matrix = some r; assumptions = s.assumptions })

unfoldable pub end_block : State → Phase → Outcome State
end_block s outside = done s
end_block s (in_taxa b count names) = taxa_end s b count names
end_block s (in_data b d) = data_end s b d.matrix
end_block s (in_assumptions b default set) =
    done (record { phase = outside; taxa = s.taxa; matrix = matrix_typed default set s.matrix; assumptions = true })
end_block s (in_trees b) = done (in_phase outside s)

-- A command inside a block that does not end it. In TREES every command is passed over.
unfoldable pub inner_step : State → Numbered → List Numbered → Phase → Outcome Phase
inner_step s h raw outside = done outside
inner_step s h raw (in_taxa b count names) = taxa_step h (words raw) b count names
inner_step s h raw (in_data b d) = data_step h raw b d
inner_step s h raw (in_assumptions b default set) = assumption_step s h (words raw) b default set
inner_step s h raw (in_trees b) = done (in_trees b)

-- END or ENDBLOCK, alone, ends a block, whatever block it is.
unfoldable pub ends : Numbered → Bool
ends h = is (bytes "END") h || is (bytes "ENDBLOCK") h

unfoldable pub block_step : State → Numbered → List Numbered → Outcome State
block_step s h raw =
    let left = end_block s s.phase in
    let over = pick (is_empty (words raw)) left (refused Refusal.WordsAfterEnd h.index) in
    let inner = then (inner_step s h raw s.phase) (λ p. done (in_phase p s)) in
    pick (ends h) over inner

unfoldable pub is_outside : Phase → Bool
is_outside outside = true
is_outside (in_taxa b count names) = false
is_outside (in_data b d) = false
is_outside (in_assumptions b default set) = false
is_outside (in_trees b) = false

-- The state after one command more.
unfoldable pub step : State → Command → Outcome State
step s (empty i) = refused Refusal.EmptyCommand i
step s (unended i) = refused Refusal.UnendedCommand i
step s (command h raw) =
    let top = begin_words s h (words raw) in
    let inner = block_step s h raw in
    pick (is_outside s.phase) top inner

-- The reading, when the commands have ended, of a text whose #NEXUS has this index: no block may be open, a matrix must be there, and DNA has
-- no ordered character.
unfoldable pub is_ordered : CharacterOrdering → Bool
is_ordered CharacterOrdering.Ordered = true
is_ordered CharacterOrdering.Unordered = false

unfoldable pub has_ordered : List Character → Bool
has_ordered [] = false
has_ordered (c ∷ r) = let more = has_ordered r in is_ordered c.ordering || more

unfoldable pub orderable : DataType → List Character → Bool
orderable DataType.Standard cs = true
orderable DataType.Dna cs = not (has_ordered cs)

unfoldable pub final : ℕ → Reading → Outcome Reading
final header r = pick (orderable r.data_type r.characters) (done r) (refused Refusal.OrderedDna header)

unfoldable pub matrix_read : ℕ → Option Reading → Outcome Reading
matrix_read header none = refused Refusal.Absent header
matrix_read header (some r) = final header r

unfoldable pub finish_in : ℕ → State → Phase → Outcome Reading
finish_in header s outside = matrix_read header s.matrix
finish_in header s (in_taxa b count names) = refused Refusal.UnendedBlock b
finish_in header s (in_data b d) = refused Refusal.UnendedBlock b
finish_in header s (in_assumptions b default set) = refused Refusal.UnendedBlock b
finish_in header s (in_trees b) = refused Refusal.UnendedBlock b

unfoldable pub finish : ℕ → State → Outcome Reading
finish header s = finish_in header s s.phase

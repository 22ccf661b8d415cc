-- What TAXLABELS, DIMENSIONS and FORMAT refuse, and which of their words they name. Assumes nothing.
use Prim.Native.Nat.{ℕ, zero, suc}
use Rattle.block.proofs.Faulted.{Faults, Ends, gives, refuses, either, both, needed, come, then-ends, fold-ends, reached-ends}
use Rattle.block.proofs.OutcomeLaws.{All, Any, all_right}
use Rattle.block.specs.Dimensions.{no_dimensions, count_option, dimension_option, dimension_value, dimension_turn, dimension_end, dimensions}
use Rattle.block.specs.Faults.{valued_key}
use Rattle.block.specs.Format.{Options, no_options, Formatting, option, perhaps, equals, value, once, key, key_option, format_option, single_symbol, symbol_value, format_value, format_turn, format_end, format_of, good_symbols, judged, format}
use Rattle.block.specs.Names.{known, add_name, name_turn, unique_names}
use Rattle.block.specs.Outcome.{done, then, fold}
use Rattle.block.specs.declared.dimension.Count.{Count}
use Rattle.block.specs.declared.dimension.Dimensioning.{Dimensioning}
use Rattle.block.specs.declared.dimension.Dimensions.{Dimensions}
use Rattle.block.specs.declared.formats.Key.{Key}
use Rattle.block.specs.declared.formats.Valued.{Valued}
use Rattle.lexer.specs.Base.{bytes, byte, given}
use Rattle.lexer.specs.Words.{Numbered, is, punct, is_string, label, number}
use Rattle.lexer.specs.declared.refusal.Refusal.{Refusal}
use mathlib.Core.Bool.{Bool, true, false, ◌&&◌, not}
use mathlib.Core.List.{List, [], ◌∷◌, ◌++◌}
use mathlib.Core.Option.{Option, none, some}
use mathlib.Core.Path.{◌≡◌, refl}

-- Names: 17 at a word that is none.
abbrev pub Unnamed : Faults → Numbered → Type 0
Unnamed R w = label w ≡ none → R Refusal.NotName w.index

-- TAXLABELS: 18 at a word whose name is known from those before it.
abbrev pub NamesTwice : Faults → List Numbered → Type 0
NamesTwice R ws =
    (before : List Numbered) (w : Numbered) (after : List Numbered) (ns : List (List ℕ)) (n : List ℕ) → ws ≡ before ++ (w ∷ after) → unique_names before ≡ done ns → label w ≡ some n → known n ns ≡ true
    → R Refusal.TaxonTwice w.index

-- DIMENSIONS: 15 at any word, 19 at an option that takes a value.
pub record DimensionFaults (R : Faults) (w : Numbered) : Type 0 where
  pub dimension : R Refusal.Dimension w.index
  pub taxa_value : is (bytes "NTAX") w ≡ true → R Refusal.NoValue w.index
  pub characters_value : is (bytes "NCHAR") w ≡ true → R Refusal.NoValue w.index

-- FORMAT: 19 at an option that takes a value, 20 at any word.
pub record FormatFaults (R : Faults) (w : Numbered) : Type 0 where
  pub value : valued_key (key w) ≡ true → R Refusal.NoValue w.index
  pub format : R Refusal.FormatOption w.index

module _ (R : Faults) where
  name-faults : (names : List (List ℕ)) (w : Numbered) → Unnamed R w → ((n : List ℕ) → label w ≡ some n → known n names ≡ true → R Refusal.TaxonTwice w.index) → Ends R Any (name_turn names w)
  unfolding name_turn add_name
  name-faults names w q t =
      then-ends R (needed R (label w) Refusal.NotName w.index q (λ n e. e)) (λ n e. either R (known n names) (λ k. refuses (t n e k)) (λ k. gives tt))

  pub unique-names-faults : (ws : List Numbered) → All (Unnamed R) ws → NamesTwice R ws → Ends R (λ ns. Any ns × (unique_names ws ≡ done ns)) (unique_names ws)
  unfolding unique_names
  unique-names-faults ws q t =
      reached-ends R Any name_turn [] ws
      (λ before w after ns e r p. name-faults ns w (all_right (Unnamed R) before (w ∷ after) (rw e at q)).0 (λ n l k. t before w after ns n e r l k)) tt

  -- DIMENSIONS: the option whose `=` or value is awaited may be refused for it.
  abbrev Sizing : Dimensioning → Type 0
  Sizing (Dimensioning.Option d) = Unit {0}
  Sizing (Dimensioning.Equals d c i) = R Refusal.NoValue i
  Sizing (Dimensioning.Value d c i) = R Refusal.NoValue i

  count-faults : (d : Dimensions) (w : Numbered) (c : Count) (n : ℕ) → R Refusal.Dimension w.index → R Refusal.NoValue w.index → Ends R Sizing (count_option d w c n)
  unfolding count_option
  count-faults d w c zero r v = gives v
  count-faults d w c (suc n) r v = refuses r

  dimension-option-faults : (d : Dimensions) (w : Numbered) → DimensionFaults R w → Ends R Sizing (dimension_option d w)
  unfolding dimension_option
  dimension-option-faults d w q =
      both R (is (bytes "NEWTAXA") w && not d.new_taxa) (gives tt)
      (either R (is (bytes "NTAX") w) (λ e. count-faults d w Count.Taxa d.taxa q.dimension (q.taxa_value e))
      (λ o. either R (is (bytes "NCHAR") w) (λ e. count-faults d w Count.Characters d.characters q.dimension (q.characters_value e))
      (λ p. refuses q.dimension)))

  dimension-value-faults : (d : Dimensions) (c : Count) (w : Numbered) (n : ℕ) → R Refusal.Dimension w.index → Ends R Sizing (dimension_value d c w n)
  unfolding dimension_value
  dimension-value-faults d c w zero r = refuses r
  dimension-value-faults d c w (suc n) r = gives tt

  dimension-faults : (m : Dimensioning) (w : Numbered) → Sizing m → DimensionFaults R w → Ends R Sizing (dimension_turn m w)
  unfolding dimension_turn
  dimension-faults (Dimensioning.Option d) w p q = dimension-option-faults d w q
  dimension-faults (Dimensioning.Equals d c i) w p q = both R (punct (byte "=") w) (gives p) (refuses p)
  dimension-faults (Dimensioning.Value d c i) w p q = dimension-value-faults d c w (number w) q.dimension

  dimension-end-faults : (m : Dimensioning) → Sizing m → Ends R Any (dimension_end m)
  unfolding dimension_end
  dimension-end-faults (Dimensioning.Option d) p = gives tt
  dimension-end-faults (Dimensioning.Equals d c i) p = refuses p
  dimension-end-faults (Dimensioning.Value d c i) p = refuses p

  pub dimensions-faults : (ws : List Numbered) → All (DimensionFaults R) ws → Ends R Any (dimensions ws)
  unfolding dimensions
  dimensions-faults ws q =
      then-ends R (fold-ends R Sizing (DimensionFaults R) dimension_turn dimension-faults (Dimensioning.Option no_dimensions) ws tt q) dimension-end-faults

  -- FORMAT: the option behind which the command is may be refused.
  abbrev Optional : ℕ → Type 0
  Optional i = R Refusal.NoValue i × R Refusal.FormatOption i

  abbrev Formed : Formatting → Type 0
  Formed (option o) = Unit {0}
  Formed (perhaps o i) = Optional i
  Formed (equals o k i) = Optional i
  Formed (value o k i) = Optional i

  once-faults : (seen : Bool) (w : Numbered) (next : Formatting) → FormatFaults R w → Formed next → Ends R Formed (once seen w next)
  unfolding once
  once-faults seen w next q p = both R seen (refuses q.format) (gives p)

  key-faults : (o : Options) (w : Numbered) (k : Key) → key w ≡ k → FormatFaults R w → Ends R Formed (key_option o w k)
  unfolding key_option valued_key
  key-faults o w Key.DataType e q = once-faults (given o.data_type) w _ q (q.value (rw e), q.format)
  key-faults o w Key.RespectCase e q = once-faults o.respect_case w _ q tt
  key-faults o w Key.Labels e q = once-faults o.labels w _ q tt
  key-faults o w Key.NoTokens e q = once-faults o.no_tokens w _ q tt
  key-faults o w Key.Interleave e q = once-faults (given o.interleave) w _ q (q.value (rw e), q.format)
  key-faults o w Key.Symbols e q = once-faults (given o.symbols) w _ q (q.value (rw e), q.format)
  key-faults o w Key.Missing e q = once-faults (given o.missing) w _ q (q.value (rw e), q.format)
  key-faults o w Key.Gap e q = once-faults (given o.gap) w _ q (q.value (rw e), q.format)
  key-faults o w Key.Unknown e q = refuses q.format

  symbol-faults : (s : Option ℕ) (f : ℕ → Options) (i : ℕ) → R Refusal.FormatOption i → Ends R Formed (symbol_value s f i)
  unfolding symbol_value
  symbol-faults none f i r = refuses r
  symbol-faults (some b) f i r = gives tt

  value-faults : (o : Options) (k : Valued) (i : ℕ) (w : Numbered) → Optional i → FormatFaults R w → Ends R Formed (format_value o k i w)
  unfolding format_value
  value-faults o Valued.DataType i w p q = both R (is (bytes "STANDARD") w) (gives tt) (both R (is (bytes "DNA") w) (gives tt) (refuses p.1))
  value-faults o Valued.Symbols i w p q = both R (is_string w.token.kind) (gives tt) (refuses q.format)
  value-faults o Valued.Missing i w p q = symbol-faults (single_symbol w.token.text) _ w.index q.format
  value-faults o Valued.Gap i w p q = symbol-faults (single_symbol w.token.text) _ w.index q.format
  value-faults o Valued.Interleave i w p q = both R (is (bytes "YES") w) (gives tt) (both R (is (bytes "NO") w) (gives tt) (refuses q.format))

  format-turn-faults : (m : Formatting) (w : Numbered) → Formed m → FormatFaults R w → Ends R Formed (format_turn m w)
  unfolding format_turn format_option
  format-turn-faults (option o) w p q = key-faults o w (key w) refl q
  format-turn-faults (perhaps o i) w p q = both R (punct (byte "=") w) (gives p) (key-faults o w (key w) refl q)
  format-turn-faults (equals o k i) w p q = both R (punct (byte "=") w) (gives p) (refuses p.0)
  format-turn-faults (value o k i) w p q = value-faults o k i w p q

  format-end-faults : (m : Formatting) → Formed m → Ends R Any (format_end m)
  unfolding format_end
  format-end-faults (option o) p = gives tt
  format-end-faults (perhaps o i) p = gives tt
  format-end-faults (equals o k i) p = refuses p.0
  format-end-faults (value o k i) p = refuses p.0

  -- 21 at the word FORMAT, where the options give symbols that cannot stand together.
  pub format-faults : (i : ℕ) (ws : List Numbered) → ((o : Options) → then (fold format_turn (option no_options) ws) format_end ≡ done o → good_symbols o (format_of o) ≡ false → R Refusal.Symbols i)
      → All (FormatFaults R) ws → Ends R Any (format i ws)
  unfolding format judged
  format-faults i ws r q =
      then-ends R (come R (then-ends R (fold-ends R Formed (FormatFaults R) format_turn format-turn-faults (option no_options) ws tt q) format-end-faults))
      (λ o p. either R (good_symbols o (format_of o)) (λ g. gives tt) (λ g. refuses (r o p.1 g)))

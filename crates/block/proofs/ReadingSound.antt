-- Every reading of a text is sound. Assumes nothing.
use Prim.Native.Nat.{ℕ, suc}
use Rattle.block.proofs.BlocksKept.{Brings, Kept, step_kept, start-kept}
use Rattle.block.proofs.CommandWords.{OfTokens, all_words, commands-of, all-behind}
use Rattle.block.proofs.DimensionsFew.{dimensions-few}
use Rattle.block.proofs.FormatSound.{format-good}
use Rattle.block.proofs.MatrixSound.{Untyped, typed-sound, claims, matrix-untyped}
use Rattle.block.proofs.NamesSound.{Clean, Names, SoundName, label-sound, unique-names-named}
use Rattle.block.proofs.OutcomeLaws.{All, fold-keeps}
use Rattle.block.proofs.ReadCommands.{Finished, read-finished}
use Rattle.block.specs.Blocks.{State, at_start, retyped, with_types, step}
use Rattle.block.specs.Commands.{Command, words}
use Rattle.block.specs.Outcome.{done}
use Rattle.block.specs.Parse.{reading, read}
use Rattle.block.specs.Reading.{Character, Reading}
use Rattle.block.specs.Sound.{label_texts, few_states, Sound}
use Rattle.block.specs.TaxonOrder.{behind_header, commands_of}
use Rattle.block.specs.Typeset.{Types}
use Rattle.block.specs.declared.model.CharacterOrdering.{CharacterOrdering}
use Rattle.lexer.proofs.Basics.{and_left, and_right}
use Rattle.lexer.proofs.TokensClean.{clean-text, all-clean, tokens-clean}
use Rattle.lexer.specs.Base.{is_empty}
use Rattle.lexer.specs.Tokens.{Token, tokens}
use Rattle.lexer.specs.Words.{Numbered, numbered}
use lib.Dec.{leb}
use lib.ListN.{length}
use mathlib.Core.Bool.{true, ◌&&◌}
use mathlib.Core.List.{List, [], ◌∷◌}
use mathlib.Core.Option.{Option, get_or}
use mathlib.Core.Path.{◌≡◌, refl, ap, ◌∙◌}

-- Types change neither labels nor their count.
module _ (o : CharacterOrdering) where
  retyped-length : (ts : Types) (cs : List Character) → length (retyped o ts cs) ≡ length cs
  unfolding retyped
  retyped-length ts [] = refl
  retyped-length [] (c ∷ cs) = ap suc (retyped-length [] cs)
  retyped-length (t ∷ ts) (c ∷ cs) = ap suc (retyped-length ts cs)

  retyped-some : (ts : Types) (cs : List Character) → is_empty (retyped o ts cs) ≡ is_empty cs
  unfolding retyped is_empty
  retyped-some ts [] = refl
  retyped-some [] (c ∷ cs) = refl
  retyped-some (t ∷ ts) (c ∷ cs) = refl

  retyped-labels : (ts : Types) (cs : List Character) → label_texts (retyped o ts cs) ≡ label_texts cs
  unfolding retyped label_texts
  retyped-labels ts [] = refl
  retyped-labels [] (c ∷ cs) = rw (retyped-labels [] cs) refl
  retyped-labels (t ∷ ts) (c ∷ cs) = rw (retyped-labels ts cs) refl

  retyped-few : (count : ℕ) (ts : Types) (cs : List Character) → few_states count (retyped o ts cs) ≡ few_states count cs
  unfolding retyped few_states
  retyped-few count ts [] = refl
  retyped-few count [] (c ∷ cs) = ap (λ b. leb (length c.states) count && b) (retyped-few count [] cs)
  retyped-few count (t ∷ ts) (c ∷ cs) = ap (λ b. leb (length c.states) count && b) (retyped-few count ts cs)

types-untyped : (N : List ℕ → Type 0) (r : Reading) (default : Option CharacterOrdering) (set : Option Types) → Untyped N r → Untyped N (with_types default set r)
unfolding with_types
types-untyped N r default set u =
    let o = get_or default CharacterOrdering.Unordered in
    let ts = get_or set [] in
    record {
      some_taxon = u.some_taxon;
      some_character = retyped-some o ts r.characters ∙ u.some_character;
      taxa_few = u.taxa_few;
      characters_few = rw (retyped-length o ts r.characters) u.characters_few;
      rows_long = rw (retyped-length o ts r.characters) u.rows_long;
      cells_sound = u.cells_sound;
      symbols_sound = u.symbols_sound;
      names_each = u.names_each;
      names_unlike = u.names_unlike;
      labels_each = rw (retyped-labels o ts r.characters) u.labels_each;
      states_few = retyped-few o (length r.symbols) ts r.characters ∙ u.states_few;
    }

-- The reading of a text is sound but for its types, and what holds of the names of tokens holds of the names of its taxa and of its labels.
module _ (N : List ℕ → Type 0) (Q : Numbered → Type 0) (name : Names Q N) where
  brings : (s : State) (h : Numbered) (raw : List Numbered) → All Q raw → Brings (claims N Q) s h raw
  brings s h raw q =
      record {
        named = λ t p names e. unique-names-named N Q name (words raw) names (all_words Q raw q) e;
        sized = dimensions-few (words raw);
        formatted = format-good h.index (words raw);
        labelled = λ l. all_words Q raw q;
        read = λ t b d at p r e. matrix-untyped N Q name d h raw r p q e;
        typed = types-untyped N;
      }

  pub reading-untyped : (text : List ℕ) (r : Reading) → All Q (numbered 0 (tokens text)) → Finished text r → Untyped N r
  unfolding commands_of
  reading-untyped text r q f =
      let ws = numbered 0 (tokens text) in
      let keeps : (s : State) (c : Command) (t : State) → Kept (claims N Q) s → OfTokens Q c → step s c ≡ done t → Kept (claims N Q) t =
      λ s c t k o e. step_kept (claims N Q) s c t (λ h raw is. brings s h raw (rw is at o)) k e
      in
      let k = fold-keeps (Kept (claims N Q)) (OfTokens Q) step keeps at_start (commands_of text) f.state (start-kept (claims N Q)) (commands-of Q (behind_header ws) (all-behind Q ws q)) f.reached in
      rw f.matrix at k.matrix

numbered-clean : (i : ℕ) (ts : List Token) → all-clean ts ≡ true → All Clean (numbered i ts)
unfolding numbered all-clean
numbered-clean i [] h = tt
numbered-clean i (t ∷ r) h = (and_left (clean-text t.text) (all-clean r) h, numbered-clean (suc i) r (and_right (clean-text t.text) (all-clean r) h))

finished-clean : (text : List ℕ) (r : Reading) → Finished text r → All Clean (numbered 0 (tokens text))
finished-clean text r f = numbered-clean 0 (tokens text) (tokens-clean text f.utf)

-- Every reading is sound.
pub reading-sound : (text : List ℕ) (r : Reading) → read text ≡ reading r → Sound r
reading-sound text r h =
    let f = read-finished text r h in
    typed-sound r (reading-untyped SoundName Clean label-sound text r (finished-clean text r f) f) f.orderable

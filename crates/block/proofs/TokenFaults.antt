-- What the commands of a text come to: each refusal names a token at which it may stand. Assumes nothing.
use Prim.Native.Nat.{ℕ}
use Rattle.block.proofs.BlockFaults.{command-faults}
use Rattle.block.proofs.CommandWords.{Cut, whole, bare, last, commands-cut, all-behind}
use Rattle.block.proofs.Faulted.{Ends, refusals, gives, refuses, either, then-ends, reached-ends}
use Rattle.block.proofs.OpenedFaults.{Opened, OpenedIn, taxa-filled, filled-known, unended}
use Rattle.block.proofs.OutcomeLaws.{All, Any, all_both, all_right, members}
use Rattle.block.proofs.ToldFaults.{Told, at_token}
use Rattle.block.specs.Blocks.{Phase, outside, in_taxa, in_data, in_assumptions, in_trees, State, at_start, step, orderable, final, matrix_read, finish_in, finish}
use Rattle.block.specs.Commands.{Command, newline}
use Rattle.block.specs.Faults.{TokenOf, leading, Header, ComesTo, ComesToEnd, open_name, Stops, at_front, at_command, at_end, not_nexus, empty_command, unended_command, no_matrix, ordered_dna}
use Rattle.block.specs.Outcome.{done, fold}
use Rattle.block.specs.Parse.{parse_behind, parse_from, parse}
use Rattle.block.specs.Reading.{Reading}
use Rattle.block.specs.TaxonOrder.{behind_header, commands_of}
use Rattle.lexer.proofs.Basics.{by-test}
use Rattle.lexer.specs.Base.{pick, bytes}
use Rattle.lexer.specs.Tokens.{tokens}
use Rattle.lexer.specs.Words.{Numbered, numbered, is}
use Rattle.lexer.specs.declared.refusal.Refusal.{Refusal}
use lib.ListN.{length}
use mathlib.Core.Bool.{true, false}
use mathlib.Core.List.{List, [], ◌∷◌, ◌++◌, Memᴰ}
use mathlib.Core.Option.{Option, none, some}
use mathlib.Core.Path.{◌≡◌, refl}

-- A refusal, the token that it names, and where reading stops for it; or, in a text with no token but newlines, the count of the tokens.
pub data Met (text : List ℕ) : Refusal → ℕ → Type 0 where
  met : {n : Refusal} {i : ℕ} → Told text n i → Stops text n i → Met text n i
  at_none : leading (numbered 0 (tokens text)) ≡ none → Met text Refusal.NoNexus (length (tokens text))

module _ (text : List ℕ) where
  cut-faults : (c : Command) (m : ComesTo text c) → Cut (TokenOf text) c → OpenedIn text m.state → Ends (Told text) (OpenedIn text) (step m.state c)
  unfolding step
  cut-faults c m (whole {h = h} {raw = raw} p r) k =
      command-faults text h raw (record { comes = m; head = p; behind = all_both (TokenOf text) (λ w. Memᴰ w raw) raw r (members raw) }) k
  cut-faults c m (bare w p e) k = refuses (at_token w p (empty_command e m))
  cut-faults c m (last w p n e) k = refuses (at_token w p (unended_command n e m))

  all-cut : All (Cut (TokenOf text)) (commands_of text)
  unfolding commands_of
  all-cut =
      let ws = numbered 0 (tokens text) in
      commands-cut (TokenOf text) (behind_header ws) (all-behind (TokenOf text) ws (members ws))

  turn-faults : (before : List Command) (c : Command) (after : List Command) (s : State) → commands_of text ≡ before ++ (c ∷ after) → fold step at_start before ≡ done s → OpenedIn text s
      → Ends (Met text) (OpenedIn text) (step s c)
  turn-faults before c after s e r k =
      let m : ComesTo text c = record { before = before; after = after; here = e; state = s; reached = r } in
      refusals (Told text) (Met text) (λ n i o t. met t (at_command m o)) (cut-faults c m (all_right (Cut (TokenOf text)) before (c ∷ after) (rw e at all-cut)).0 k)

  -- The end, where the header is #NEXUS.
  module _ (w : Numbered) (token : TokenOf text w) (header : Header text w) (nexus : is (bytes "#NEXUS") w ≡ true) where
    module _ (e : ComesToEnd text) where
      matrix-faults : (m : Option Reading) → e.state.matrix ≡ m → Ends (Told text) Any (matrix_read w.index m)
      unfolding matrix_read final
      matrix-faults none at = refuses (at_token w token (no_matrix e at header nexus))
      matrix-faults (some r) at = either (Told text) (orderable r.data_type r.characters) (λ o. gives tt) (λ o. refuses (at_token w token (ordered_dna e at o header nexus)))

      finish-faults : (p : Phase) → e.state.phase ≡ p → Opened text p → Ends (Told text) Any (finish_in w.index e.state p)
      unfolding finish_in open_name
      finish-faults outside at k = matrix-faults e.state.matrix refl
      finish-faults (in_taxa b count names) at k = refuses (unended text e b (filled-known text b (taxa-filled text b k)) (rw at refl))
      finish-faults (in_data b d) at k = refuses (unended text e b (filled-known text b k.0) (rw at refl))
      finish-faults (in_assumptions b default set) at k = refuses (unended text e b k (rw at refl))
      finish-faults (in_trees b) at k = refuses (unended text e b k (rw at refl))

    ending-faults : (s : State) → fold step at_start (commands_of text) ≡ done s → OpenedIn text s → Ends (Met text) Any (finish w.index s)
    unfolding finish
    ending-faults s r k =
        let e : ComesToEnd text = record { state = s; reached = r } in
        refusals (Told text) (Met text) (λ n i o t. met t (at_end e header o)) (finish-faults e s.phase refl k)

    behind-faults : (ws : List Numbered) → behind_header (numbered 0 (tokens text)) ≡ ws → Ends (Met text) Any (parse_behind w.index ws)
    unfolding parse_behind commands_of at_start
    behind-faults ws e =
        rw (← e)
        (then-ends (Met text) (reached-ends (Met text) (OpenedIn text) step at_start (commands_of text) turn-faults tt) (λ s k. ending-faults s k.1 k.0))

  -- The tokens from some point on, before which there are newlines only.
  from-faults : (ws : List Numbered) → All (TokenOf text) ws → leading (numbered 0 (tokens text)) ≡ leading ws → behind_header (numbered 0 (tokens text)) ≡ behind_header ws
      → Ends (Met text) Any (parse_from (length (tokens text)) ws)
  unfolding parse_from leading behind_header pick
  from-faults [] q l b = refuses (at_none l)
  from-faults (w ∷ ws) q l b =
      by-test (newline w) (λ n. rw n (from-faults ws q.1 (rw n at l) (rw n at b)))
      (λ n. rw n (either (Met text) (is (bytes "#NEXUS") w) (λ e. behind-faults w q.0 (rw n at l) e ws (rw n at b)) (λ e. refuses (front w q.0 (rw n at l) e))))
    where
      front : (w : Numbered) → TokenOf text w → Header text w → is (bytes "#NEXUS") w ≡ false → Met text Refusal.NoNexus w.index
      front w t h e = met (at_token w t (not_nexus h e)) (at_front h e)

  pub parse-faults : Ends (Met text) Any (parse (tokens text))
  unfolding parse
  parse-faults = from-faults (numbered 0 (tokens text)) (members (numbered 0 (tokens text))) refl refl

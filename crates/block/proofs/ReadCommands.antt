-- A text that has a reading: its commands lead from the start to a state with that reading. Assumes nothing.
use Prim.Native.Nat.{ℕ}
use Rattle.block.proofs.OutcomeLaws.{then-done, pick-when, refused-done, done_inj}
use Rattle.block.specs.Blocks.{Phase, outside, in_taxa, in_data, in_assumptions, in_trees, State, at_start, step, orderable, final, matrix_read, finish_in, finish}
use Rattle.block.specs.Commands.{commands, newline}
use Rattle.block.specs.Outcome.{Outcome, done, refused, fold}
use Rattle.block.specs.Parse.{parse_behind, parse_from, parse, reading, fault, placed, read_tokens, read}
use Rattle.block.specs.Reading.{Reading}
use Rattle.block.specs.TaxonOrder.{behind_header, commands_of}
use Rattle.lexer.proofs.Basics.{by-test}
use Rattle.lexer.specs.Base.{pick, bytes}
use Rattle.lexer.specs.Tokens.{tokens, left_open}
use Rattle.lexer.specs.Utf8.{utf8}
use Rattle.lexer.specs.Words.{Numbered, numbered, is}
use Rattle.lexer.specs.declared.Place.{Place}
use Rattle.lexer.specs.declared.refusal.Refusal.{Refusal}
use lib.ListN.{length}
use mathlib.Core.Bool.{true}
use mathlib.Core.List.{List, [], ◌∷◌}
use mathlib.Core.Option.{Option, none, some}
use mathlib.Core.Path.{◌≡◌, refl}
use native.Mathlib.Omega.{arith}

-- The end: no block open, a matrix, and no ordered DNA.
record Final (s : State) (r : Reading) : Type 0 where
  closed : s.phase ≡ outside
  matrix : s.matrix ≡ some r
  orderable : orderable r.data_type r.characters ≡ true

-- The state that the commands of these tokens lead to.
record Leads (ws : List Numbered) (r : Reading) : Type 0 where
  state : State
  reached : fold step at_start (commands ws) ≡ done state
  final : Final state r

matrix-final : (header : ℕ) (s : State) (m : Option Reading) (r : Reading) → s.phase ≡ outside → s.matrix ≡ m → matrix_read header m ≡ done r → Final s r
unfolding matrix_read final
matrix-final header s none r at is e = refused-done Refusal.Absent header r e
matrix-final header s (some m) r at is e =
    let k = pick-when (orderable m.data_type m.characters) Refusal.OrderedDna header (done m) r e in
    rw (← done_inj k.1) (record { closed = at; matrix = is; orderable = k.0 })

finish-final : (header : ℕ) (s : State) (p : Phase) (r : Reading) → s.phase ≡ p → finish_in header s p ≡ done r → Final s r
unfolding finish_in
finish-final header s outside r at e = matrix-final header s s.matrix r at refl e
finish-final header s (in_taxa b count names) r at e = refused-done Refusal.UnendedBlock b r e
finish-final header s (in_data b d) r at e = refused-done Refusal.UnendedBlock b r e
finish-final header s (in_assumptions b default set) r at e = refused-done Refusal.UnendedBlock b r e
finish-final header s (in_trees b) r at e = refused-done Refusal.UnendedBlock b r e

behind-leads : (header : ℕ) (ws : List Numbered) (r : Reading) → parse_behind header ws ≡ done r → Leads ws r
unfolding parse_behind finish
behind-leads header ws r e =
    let s = then-done (fold step at_start (commands ws)) (finish header) r e in
    record { state = s.0; reached = s.1; final = finish-final header s.0 s.0.phase r refl s.2 }

parse-leads : (count : ℕ) (ws : List Numbered) (r : Reading) → parse_from count ws ≡ done r → Leads (behind_header ws) r
unfolding parse_from behind_header pick
parse-leads count [] r e = refused-done Refusal.NoNexus count r e
parse-leads count (w ∷ ws) r e = by-test (newline w) (λ n. rw n (parse-leads count ws r (rw n at e))) (λ n. rw n (header (rw n at e)))
  where
    header : pick (is (bytes "#NEXUS") w) (parse_behind w.index ws) (refused Refusal.NoNexus w.index) ≡ done r → Leads ws r
    header p = behind-leads w.index ws r (pick-when (is (bytes "#NEXUS") w) Refusal.NoNexus w.index (parse_behind w.index ws) r p).1

-- A fault is no reading.
fault-reading : {X : Type 0} {n : Refusal} {p : Place} {r : Reading} → fault n p ≡ reading r → X
fault-reading h = absurd (let z : ◌≡◌ {A = ℕ} 0 1 = cc in omega arith)

placed-done : (text : List ℕ) (o : Outcome Reading) (r : Reading) → placed text o ≡ reading r → o ≡ done r
unfolding placed
placed-done text (done x) r h = cc
placed-done text (refused n i) r h = fault-reading h

-- What a reading says of its text.
pub record Finished (text : List ℕ) (r : Reading) : Type 0 where
  pub utf : utf8 text ≡ true
  pub state : State
  pub reached : fold step at_start (commands_of text) ≡ done state
  pub closed : state.phase ≡ outside
  pub matrix : state.matrix ≡ some r
  pub orderable : orderable r.data_type r.characters ≡ true

pub read-finished : (text : List ℕ) (r : Reading) → read text ≡ reading r → Finished text r
unfolding read parse pick read_tokens commands_of
read-finished text r h = by-test (utf8 text) (λ u. lexed u (left_open (tokens text)) (rw u at h)) (λ e. fault-reading (rw e at h))
  where
    lexed : utf8 text ≡ true → (n : Option Refusal) → read_tokens text (tokens text) n ≡ reading r → Finished text r
    lexed u none e =
        let l = parse-leads (length (tokens text)) (numbered 0 (tokens text)) r (placed-done text (parse (tokens text)) r e) in
        record { utf = u; state = l.state; reached = l.reached; closed = l.final.closed; matrix = l.final.matrix; orderable = l.final.orderable }
    lexed u (some n) e = fault-reading e

-- What read answers and leaves, case by case, and what the reading of a text is. Assumes nothing.
use Rattle.std.specs.Prelude.{Err, Result}
use Prim.Native.Nat.{ℕ, ◌+◌, ◌*◌, ◌≤◌}
use Rattle.block.proofs.MatrixParts.{rows-keep}
use Rattle.block.proofs.OutcomeLaws.{All, all-member}
use Rattle.block.proofs.RowsSound.{length-names}
use Rattle.block.specs.Faults.{Whole, QuoteMark, CommentMark, FaultAt, not_utf8, open_quote, open_comment, no_token, at_token}
use Rattle.block.specs.Interleaved.{all_long}
use Rattle.block.specs.Parse.{Read, reading, fault, read}
use Rattle.block.specs.Reading.{Taxon, Reading}
use Rattle.block.specs.TaxonOrder.{Follows}
use Rattle.demands.proofs.AgainLaws.{left-whole}
use Rattle.demands.proofs.DeclaredOnce.{dimensions-declared, format-declared}
use Rattle.demands.proofs.MatrixStays.{shape-format, format-followed}
use Rattle.demands.specs.Right as Right
use Rattle.demands.specs.Right.{RightReading, LeftOpen, TokensRefused, HasRecord, ReadCase, case_number, answer_number, RefusedSo, RecordedSo, RightlyRead}
use Rattle.lexer.proofs.Basics.{by-test, and_left, and_right}
use Rattle.lexer.specs.Base.{is_empty}
use Rattle.lexer.specs.Places.{place, nowhere}
use Rattle.lexer.specs.Refusals as Refusals
use Rattle.lexer.specs.Refusals.{number}
use Rattle.lexer.specs.Utf8.{utf8}
use Rattle.lexer.specs.declared.Place.{Place}
use Rattle.lexer.specs.declared.refusal.Refusal.{Refusal}
use Rattle.read.specs.Call.{ReadCall}
use Rattle.record.proofs.Demands.{buffers-are-kept, every-reading-is-sound, faults-come-in-order, faults-have-their-place, labels-come-from-tokens, labels-follow-the-commands, names-come-from-tokens, read-gives-records, read-refuses-in-order, records-of-texts-pass, taxa-follow-the-declaration}
use Rattle.record.specs.Calls.{read_answer}
use Rattle.record.specs.Demands.{Reads, ReadRefuses, Refuses, Taken}
use Rattle.record.specs.Spell.{spell}
use Rattle.lexer.specs.declared.Fault.{Fault}
use borrow.Author.Tests.{eqb-true, leb-true, leb-false}
use lib.Dec.{eqb, leb}
use lib.ListN.{length}
use mathlib.Core.Bool.{true, false, true≢false}
use mathlib.Core.List.{List, [], ◌∷◌}
use mathlib.Core.Option.{Option, none, some}
use mathlib.Core.Path.{◌≡◌, refl, sym, ap, ◌∙◌}
use native.Mathlib.Omega.{arith}

-- The reading: rows of so many cells, and taxa that follow them
abbrev Long : ℕ → Taxon → Type 0
Long n t = length t.cells ≡ n

all-long : (n : ℕ) (rows : List Taxon) → all_long n rows ≡ true → All (Long n) rows
unfolding all_long
all-long n [] h = tt
all-long n (t ∷ r) h =
    let long = eqb (length t.cells) n in
    (eqb-true (length t.cells) n (and_left long (all_long n r) h), all-long n r (and_right long (all_long n r) h))

follow-long : (n : ℕ) (o : Option (List (List ℕ))) (rows taxa : List Taxon) → All (Long n) rows → Follows o rows taxa → All (Long n) taxa
follow-long n none rows taxa p f = rw f p
follow-long n (some ns) rows taxa p f = rows-keep (Long n) (λ x name h. h) rows taxa p f.1

follow-count : (o : Option (List (List ℕ))) (rows taxa : List Taxon) → ((ns : List (List ℕ)) → o ≡ some ns → length rows ≡ length ns) → Follows o rows taxa
    → length taxa ≡ length rows
follow-count none rows taxa h f = ap length f
follow-count (some ns) rows taxa h f = sym (length-names taxa) ∙ ap length f.0 ∙ sym (h ns refl)

one-length : (m n : ℕ) (taxa : List Taxon) → is_empty taxa ≡ false → All (Long m) taxa → All (Long n) taxa → m ≡ n
unfolding is_empty
one-length m n [] e p q = absurd (true≢false e)
one-length m n (t ∷ r) e p q = sym p.0 ∙ q.0

right-reading : (text : List ℕ) (s : Reading) → Reads text s → RightReading text s
right-reading text s h =
    let follows = taxa-follow-the-declaration text s h in
    let m = follows.0 in
    let sound = every-reading-is-sound text s h in
    let n = m.dimensions.characters in
    let long = follow-long n m.block_data.taxa m.rows s.taxa (all-long n m.rows m.long) follows.1 in
    record {
      matrix = m;
      dimensions = dimensions-declared m.before m.state m.reached m.block m.block_data m.inside m.dimensions m.sized;
      formatted = rw (shape-format m) (format-declared m.before m.state m.reached m.block m.block_data m.inside);
      data_type = (format-followed text s h m).data_type;
      symbols = (format-followed text s h m).symbols;
      characters = one-length (length s.characters) n s.taxa sound.some_taxon (all-long (length s.characters) s.taxa sound.rows_long) long;
      cells = λ t among. all-member (Long n) s.taxa t long among;
      taxa = follow-count m.block_data.taxa m.rows s.taxa m.as_names follows.1;
      order = follows.1;
      named = names-come-from-tokens text s h;
      labelled = labels-come-from-tokens text s h;
      labels = labels-follow-the-commands text s h;
      sound = sound;
    }

-- The marks at which 4 and 5 stand, and the numbers of what is refused among the tokens
quote-at : (text : List ℕ) (n : Refusal) (p : Place) → FaultAt text n p → number n ≡ 4 → (at : ℕ) × QuoteMark text at × (p ≡ place text at)
quote-at text n p (not_utf8 u) e = absurd (omega arith)
quote-at text n p (open_quote {at = at} u o m) e = (at, m, refl)
quote-at text n p (open_comment u o m) e = absurd (omega arith)
quote-at text n p (no_token w l) e = absurd (omega arith)
quote-at text n p (at_token w whole low high stops stands begins) e = absurd (omega arith)

comment-at : (text : List ℕ) (n : Refusal) (p : Place) → FaultAt text n p → number n ≡ 5 → (at : ℕ) × CommentMark text at × (p ≡ place text at)
comment-at text n p (not_utf8 u) e = absurd (omega arith)
comment-at text n p (open_quote u o m) e = absurd (omega arith)
comment-at text n p (open_comment {at = at} u o m) e = (at, m, refl)
comment-at text n p (no_token w l) e = absurd (omega arith)
comment-at text n p (at_token w whole low high stops stands begins) e = absurd (omega arith)

none_open : {X : Type 0} (n : Refusal) → none ≡ some n → X
none_open n e = let z : ◌≡◌ {A = ℕ} 0 1 = cc in absurd (omega arith)

token-number : (text : List ℕ) (n : Refusal) (p : Place) → Whole text → FaultAt text n p → (6 ≤ number n) × (number n ≤ 29)
token-number text n p w (not_utf8 u) = absurd (true≢false (sym w.utf ∙ u))
token-number text n p w (open_quote u o m) = none_open Refusal.OpenQuote (sym w.closed ∙ o)
token-number text n p w (open_comment u o m) = none_open Refusal.OpenComment (sym w.closed ∙ o)
token-number text n p w (no_token v l) = (omega arith, omega arith)
token-number text n p w (at_token v whole low high stops stands begins) = (low, high)

-- Which case applies
module _ (text : List ℕ) (work room : ℕ) where
  fault-case : (n : Refusal) (p : Place) → Taken text work → read text ≡ fault n p → FaultAt text n p → ReadCase text work room
  fault-case n p h e (not_utf8 u) = Right.not_utf8 (h, u)
  fault-case n p h e (open_quote u o m) = Right.open_quote (h, u, o)
  fault-case n p h e (open_comment u o m) = Right.open_comment (h, u, o)
  fault-case n p h e (no_token w l) = Right.tokens_refused _ _ (h, w, e)
  fault-case n p h e (at_token w whole low high stops stands begins) = Right.tokens_refused _ _ (h, whole, e)

  taken-case : Taken text work → (x : Read) → read text ≡ x → ReadCase text work room
  taken-case h (fault n p) e = fault-case n p h e (faults-have-their-place text n p e)
  taken-case h (reading s) e =
      by-test (leb (length (spell s)) room)
      (λ t. Right.recorded s (h, e, leb-true (length (spell s)) room t))
      (λ t. Right.no_room s (h, e, leb-false (length (spell s)) room t))

  read-decided : ReadCase text work room
  read-decided =
      by-test (leb (length text) 1048576)
      (λ t.
      let l = leb-true (length text) 1048576 t in
      by-test (leb (4 * length text + 64) work)
      (λ u. taken-case (l, leb-true (4 * length text + 64) work u) (read text) refl)
      (λ u. Right.memory_short (l, leb-false (4 * length text + 64) work u)))
      (λ t. Right.too_long (leb-false (length text) 1048576 t))

-- What is answered and left
module _ (text work work_after buffer after : List ℕ) (r : Result ℕ (Fault Place)) (call : ReadCall text work work_after buffer after r) where
  refusals : ReadRefuses text (length work) (length buffer)
  refusals = read-refuses-in-order text (length work) (length buffer)

  refused-so : (n : ℕ) (p : Place) (why : Refusal) → number why ≡ n → read_answer text (length work) (length buffer) ≡ Err (Refusals.fault why p) → RefusedSo n p buffer after r
  refused-so n p why same e =
      record {
        why = why;
        numbered = same;
        answer = call.answer ∙ e;
        untouched = call.left ∙ (buffers-are-kept.0 text (length work) buffer).refused why p e;
      }

  refused-nowhere : (n : ℕ) → Refuses (read_answer text (length work) (length buffer)) n 0 0 → RefusedSo n nowhere buffer after r
  unfolding nowhere
  refused-nowhere n (why, same, e) = refused-so n nowhere why same e

  refused-fault : (n : Refusal) (p : Place) → Taken text (length work) → utf8 text ≡ true → read text ≡ fault n p → RefusedSo (number n) p buffer after r
  refused-fault n p h u e = refused-so (number n) p n refl ((refusals.faulty n p (refusals.placed n p u e)).1 (h, e))

  -- What stays open is refused at its opening mark.
  mark-refused : (why : Refusal) (Mark : ℕ → Type 0) → ((p : Place) → FaultAt text why p → (at : ℕ) × Mark at × (p ≡ place text at))
      → LeftOpen text (length work) why → (p : Place) × (read text ≡ fault why p) → (at : ℕ) × Mark at × RefusedSo (number why) (place text at) buffer after r
  mark-refused why Mark stands h (p, e) =
      let at = stands p (faults-have-their-place text why p e) in
      (at.0, at.1, rw (← at.2) (refused-fault why p h.0 h.1 e))

  quote-refused : LeftOpen text (length work) Refusal.OpenQuote → (at : ℕ) × QuoteMark text at × RefusedSo 4 (place text at) buffer after r
  quote-refused h =
      mark-refused Refusal.OpenQuote (QuoteMark text) (λ p f. quote-at text Refusal.OpenQuote p f refl) h ((faults-come-in-order text).open_quote.1 (h.1, h.2))

  comment-refused : LeftOpen text (length work) Refusal.OpenComment → (at : ℕ) × CommentMark text at × RefusedSo 5 (place text at) buffer after r
  comment-refused h =
      mark-refused Refusal.OpenComment (CommentMark text) (λ p f. comment-at text Refusal.OpenComment p f refl) h ((faults-come-in-order text).open_comment.1 (h.1, h.2))

  tokens-refused : (n : Refusal) (p : Place) → TokensRefused text (length work) n p
      → RefusedSo (number n) p buffer after r × (6 ≤ number n) × (number n ≤ 29) × FaultAt text n p
  tokens-refused n p (h, w, e) =
      let f = faults-have-their-place text n p e in
      let k = token-number text n p w f in
      (refused-fault n p h w.utf e, k.0, k.1, f)

  recorded-so : (s : Reading) → HasRecord text (length work) (length buffer) s → RecordedSo text s buffer after r
  recorded-so s (h, e, room) =
      let l = (read-gives-records text (spell s)).1 (h.0, (s, e, refl)) (length work) buffer h.1 room in
      record {
        answer = call.answer ∙ l.counted;
        left = call.left ∙ left-whole (spell s) buffer _ _ l;
        back = records-of-texts-pass text s h.0 e;
        right = right-reading text s e;
      }

  -- The refusals that have no place.
  long-refused : Right.TooLong text → RefusedSo 1 nowhere buffer after r
  long-refused h = refused-nowhere 1 (refusals.too_long.1 h)

  memory-refused : Right.MemoryShort text (length work) → RefusedSo 2 nowhere buffer after r
  memory-refused h = refused-nowhere 2 (refusals.memory_short.1 h)

  utf8-refused : Right.NotUtf8 text (length work) → RefusedSo 3 nowhere buffer after r
  utf8-refused h = refused-nowhere 3 (refusals.not_utf8.1 h)

  room-refused : (s : Reading) → Right.NoRoom text (length work) (length buffer) s → RefusedSo 30 nowhere buffer after r
  room-refused s h = refused-nowhere 30 (refusals.no_room.1 (h.0, (s, h.1, h.2)))

  -- The answer has the number of the case.
  refused-number : {n : ℕ} {p : Place} → RefusedSo n p buffer after r → answer_number r ≡ n
  unfolding answer_number
  refused-number x = ap answer_number x.answer ∙ x.numbered

  case-told : (x : ReadCase text (length work) (length buffer)) → answer_number r ≡ case_number x
  unfolding answer_number case_number
  case-told (Right.too_long h) = refused-number (long-refused h)
  case-told (Right.memory_short h) = refused-number (memory-refused h)
  case-told (Right.not_utf8 h) = refused-number (utf8-refused h)
  case-told (Right.open_quote h) = refused-number (quote-refused h).2
  case-told (Right.open_comment h) = refused-number (comment-refused h).2
  case-told (Right.tokens_refused n p h) = refused-number (tokens-refused n p h).0
  case-told (Right.no_room s h) = refused-number (room-refused s h)
  case-told (Right.recorded s h) = ap answer_number (recorded-so s h).answer

  pub rightly-read : RightlyRead text work work_after buffer after r
  rightly-read =
      record {
        decided = read-decided text (length work) (length buffer);
        alone = case-told;
        too_long = long-refused;
        memory_short = memory-refused;
        not_utf8 = utf8-refused;
        open_quote = quote-refused;
        open_comment = comment-refused;
        tokens_refused = tokens-refused;
        no_room = room-refused;
        recorded = recorded-so;
        size = call.size;
      }

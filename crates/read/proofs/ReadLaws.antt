-- What the read call comes to, by what lexing and parsing say. Assumes nothing.
use Rattle.std.specs.Prelude.{Ok, Err}
use Rattle.std.specs.Prelude as Std
use Rattle.lexer.specs.Refusals as Refusals
use Prim.Native.Nat.{ℕ, ◌≤◌}
use Rattle.block.proofs.ReadingSound.{reading-sound}
use Rattle.block.specs.Blocks.{with_types}
use Rattle.block.specs.Parse.{reading, fault, place_of, placed, parse, read_tokens, read}
use Rattle.block.specs.Reading.{Reading}
use Rattle.block.specs.Sound.{Sound, most_symbols, gap_in}
use Rattle.commands.specs.MatrixHeld.{format_held, untyped_held, reading_held}
use Rattle.commands.specs.declared.state.Held.{Held}
use Rattle.lexer.proofs.Basics.{by-test}
use Rattle.lexer.proofs.LexedAnswers.{Lexes, tokens-lexed}
use Rattle.lexer.specs.Base.{pick}
use Rattle.lexer.specs.Lexing.{longest, work_needed, counted, lexed}
use Rattle.lexer.specs.Places.{place}
use Rattle.lexer.specs.Stored.{Stored}
use Rattle.lexer.specs.Tokens.{Token, tokens, left_open}
use Rattle.lexer.specs.Utf8.{utf8}
use Rattle.lexer.specs.declared.Place.{Place}
use Rattle.lexer.specs.declared.refusal.Refusal.{Refusal}
use Rattle.parser.proofs.ParseRead.{parse-lexed}
use Rattle.parser.specs.ParsedHeld.{parsed_held}
use Rattle.parser.specs.Steps.{ParseMade}
use Rattle.emit.specs.Delivered.{Delivered}
use Rattle.read.specs.Call.{HeldDelivered, LexedSo, ReadCall, TokensCall}
use Rattle.record.specs.Calls.{Result, refusal, refuse, answer, leaves, recorded, read_result, read_answer, read_leaves}
use Rattle.lexer.specs.declared.Fault.{Fault}
use borrow.Author.Tests.{leb-true}
use lib.Dec.{leb}
use lib.ListN.{length, get_or, take}
use mathlib.Core.Bool.{Bool, true, false}
use mathlib.Core.List.{List}
use mathlib.Core.Option.{Option, none, some}
use mathlib.Core.Path.{◌≡◌, refl, sym, ap, ◌∙◌}
use native.Mathlib.Omega.{arith}

-- What a call comes to by what lexing says: its refusal, or what is read of the tokens.
abbrev told : Std.Result ℕ (Fault Place) → Result → Result
told (Ok n) x = x
told (Err f) x = refusal f.0 f.1

counted-told : (text : List ℕ) (ts : List Token) (o : Option Refusal) → recorded (read_tokens text ts o) ≡ told (counted text o) (recorded (read_tokens text ts o))
unfolding recorded read_tokens counted
counted-told text ts none = refl
counted-told text ts (some n) = refl

lexed-told : (text : List ℕ) (k : ℕ) → read_result text k ≡ told (lexed text k) (recorded (read text))
unfolding read_result lexed read recorded longest work_needed pick refuse
lexed-told text k =
    by-test (leb (length text) 1048576)
    (λ fits. by-test (leb (work_needed (length text)) k)
    (λ room. by-test (utf8 text)
    (λ valid. rw (fits, room, valid) (counted-told text (tokens text) (left_open (tokens text))))
    (λ invalid. rw (fits, room, invalid)))
    (λ little. rw (fits, little)))
    (λ long. rw long)

-- A refusal of lexing is the call's, and a count of tokens leaves it to what the text is read as.
refused-result : (text : List ℕ) (k : ℕ) (n : Refusal) (p : Place) → Err (Refusals.fault n p) ≡ lexed text k → read_result text k ≡ refusal n p
refused-result text k n p e = lexed-told text k ∙ ap (λ l. told l (recorded (read text))) (sym e)

counted-result : (text : List ℕ) (k n : ℕ) → Ok n ≡ lexed text k → read_result text k ≡ recorded (read text)
counted-result text k n e = lexed-told text k ∙ ap (λ l. told l (recorded (read text))) (sym e)

-- A text that is lexed is read as its tokens say.
lexes-read : (text : List ℕ) (k : ℕ) → Lexes text k → read text ≡ placed text (parse (tokens text))
unfolding read read_tokens pick
lexes-read text k l = rw (l.valid, l.closed)

-- A reading has at most 73 symbols.
most-bound : (b : Bool) → most_symbols b ≤ 73
unfolding most_symbols
most-bound true = omega arith
most-bound false = omega arith

symbols-bound : (r : Reading) → Sound r → length r.symbols ≤ 73
symbols-bound r s =
    let most = leb-true (length r.symbols) (most_symbols (gap_in r.taxa)) s.symbols_most in
    omega (arith, most-bound (gap_in r.taxa))

-- What parsing leaves of tokens that lexing stored.
module _ (text before after : List ℕ) (n : ℕ) (so : LexedSo text before n) (r : Std.Result Held (Fault ℕ)) (made : ParseMade text before after n r) where
  -- The tokens are stored still.
  still-stored : Stored text after n
  still-stored = record { count = so.held.count; held = made.kept ∙ so.held.held }

  parsed-read : read text ≡ placed text (parsed_held text after n r)
  parsed-read =
      lexes-read text (length before) (tokens-lexed text (length before) n so.told)
      ∙ ap (placed text) (sym (parse-lexed text before after n r so.told so.held made))

  -- A refusal is the text's own, at the place of the token.
  module _ (why : Refusal) (i : ℕ) (e : r ≡ Err (Refusals.fault why i)) where
    refused-read : read text ≡ fault why (place_of text i)
    unfolding placed parsed_held
    refused-read = parsed-read ∙ ap (λ x. placed text (parsed_held text after n x)) e

    there : place text (get_or (take n after) i 0) ≡ place_of text i
    unfolding place_of
    there = ap (λ l. place text (get_or l i 0)) still-stored.held

    pub refused-delivered : (buffer : List ℕ) (a : Std.Result ℕ (Fault Place)) → a ≡ Err (Refusals.fault why (place text (get_or (take n after) i 0))) → Delivered (recorded (read text)) buffer buffer a
    unfolding recorded answer leaves
    refused-delivered buffer a told = rw refused-read (record { answered = told ∙ ap (λ i. Err (Refusals.fault why i)) there; left = refl })

  -- A matrix that is held is the text's reading, and its format has few symbols.
  module _ (h : Held) (e : r ≡ Ok h) where
    held-read : read text ≡ reading (reading_held text after n h)
    unfolding placed parsed_held
    held-read = parsed-read ∙ ap (λ x. placed text (parsed_held text after n x)) e

    held-sound : Sound (reading_held text after n h)
    held-sound = reading-sound text (reading_held text after n h) held-read

    held-few : length (format_held text (take n after) h.style).symbols ≤ 74
    unfolding reading_held untyped_held with_types
    held-few = let bound = symbols-bound (reading_held text after n h) held-sound in omega arith

    pub held-delivered : (buffer left : List ℕ) (a : Std.Result ℕ (Fault Place)) → HeldDelivered text after n h buffer left a → Delivered (recorded (read text)) buffer left a
    unfolding recorded
    held-delivered buffer left a d = rw held-read (d held-few held-sound)

-- The call: what lexing counts is left to the tokens, and its refusal is the call's.
pub lexed-so : (text work after : List ℕ) (n : ℕ) (l : Std.Result ℕ (Fault Place)) → l ≡ lexed text (length work) → ((m : ℕ) → l ≡ Ok m → Stored text after m)
    → length after ≡ length work → l ≡ Ok n → LexedSo text after n
lexed-so text work after n l told stored same e = record { told = sym e ∙ told ∙ ap (lexed text) (sym same); held = stored n e }

module _ (text work : List ℕ) (buffer : List ℕ) (l : Std.Result ℕ (Fault Place)) (answered : l ≡ lexed text (length work)) (mid : List ℕ) (same : length mid ≡ length work) where
  pub counted-call : (n : ℕ) → l ≡ Ok n → (after left : List ℕ) (a : Std.Result ℕ (Fault Place)) → TokensCall text mid after buffer left a → ReadCall text work after buffer left a
  unfolding read_answer read_leaves
  counted-call n e after left a t =
      let result = counted-result text (length work) n (sym e ∙ answered) in
      record { answer = rw result t.given.answered; left = rw result t.given.left; size = t.size ∙ same }

  pub refused-call : (n : Refusal) (p : Place) → l ≡ Err (Refusals.fault n p) → ReadCall text work mid buffer buffer (Err (Refusals.fault n p))
  unfolding read_answer read_leaves answer leaves
  refused-call n p e =
      let result = refused-result text (length work) n p (sym e ∙ answered) in
      record { answer = rw result; left = rw result; size = same }

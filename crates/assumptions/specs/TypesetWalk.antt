-- TYPESET from a mode on, and what the code's answers on the way mean.
use Rattle.std.specs.Prelude.{ℕ, replicate, List, [], Some, None, Ok, Err, Option, Result}
use Rattle.block.specs.Commands.{words}
use Rattle.block.specs.Outcome.{Outcome, done, refused, then, fold}
use Rattle.block.specs.Typeset.{Types, Typing, close, types, type, Typeset, typeset_turn, typeset_end}
use Rattle.block.specs.declared.kinds.Form.{Form}
use Rattle.lexer.specs.Stored.{range}
use Rattle.lexer.specs.Words.{Numbered}
use Rattle.lexer.specs.declared.refusal.Refusal.{Refusal}
use Rattle.std.proofs.Math.Option.{none}
use Rattle.lexer.specs.declared.Fault.{Fault}

unfoldable pub set_of : ℕ → ℕ → Typeset
set_of n h = record { characters = n; head = h }

-- What the words come to from a mode on.
unfoldable pub typeset_from : Typeset → Typing → List Numbered → Outcome Types
typeset_from t s ws = then (fold (typeset_turn t) s ws) (typeset_end t)

-- The same of the words from an index up to another.
unfoldable pub typeset_at : Typeset → List ℕ → List ℕ → ℕ → Typing → ℕ → Outcome Types
typeset_at t text work to s i = typeset_from t s (words (range text work i to))

-- The mode behind `=`.
unfoldable pub after_equals : ℕ → Form → Typing
after_equals n Form.Standard = type (replicate n none)
after_equals n Form.Vector = types [] none

-- It goes on at an index, with a form, or ends.
unfoldable pub form_then : Result (Form × ℕ) (Fault ℕ) → (Form → ℕ → Outcome Types) → Outcome Types
form_then (Ok (m, i)) f = f m i
form_then (Err e) f = refused e.0 e.1

-- The word of a form, with its index, or none.
unfoldable pub form_word : Option Form → ℕ → Outcome Typing
form_word (Some f) i = done (close f i)
form_word None i = refused Refusal.TypeSet i

-- What a call comes to, delivered into a lent buffer.
use Rattle.std.specs.Prelude.{ℕ, length, List, ◌≡◌}
use Rattle.std.specs.Prelude as Std
use Rattle.record.specs.Calls.{Result, answer, leaves}
use Rattle.lexer.specs.declared.Fault.{Fault}
use Rattle.lexer.specs.declared.Place.{Place}

-- What a call comes to is answered, and the buffer is left as that says.
pub record Delivered (x : Result) (before after : List ℕ) (r : Std.Result ℕ (Fault Place)) : Type 0 where
  pub answered : r ≡ answer x (length before)
  pub left : after ≡ leaves x before

-- The written form of a sound reading is read as that reading. Assumes nothing.
use Rattle.block.specs.Parse.{read, read_tokens, placed}
use Rattle.block.specs.Reading.{Reading}
use Rattle.block.specs.Sound.{Sound}
use Rattle.lexer.specs.Base.{pick}
use Rattle.record.proofs.FormClosed.{form-closed}
use Rattle.record.proofs.FormLexed.{form-lexed, form-utf8}
use Rattle.record.proofs.FormParsed.{form-parsed}
use Rattle.record.specs.Demands.{Reads}
use Rattle.record.specs.Form.{form}
use mathlib.Core.Path.{refl}

pub form-read : (r : Reading) → Sound r → Reads (form r) r
unfolding read read_tokens placed pick
form-read r s = rw (form-utf8 r s, form-lexed r s, form-closed r, form-parsed r s) refl

-- The function `plain_end` meets its contract. Assumes nothing.
use Prim.Native.Nat.{◌+◌}
use Rattle.writing.proofs.PlainCharacters.{plain_at}
use mathlib.Core.Path.{◌≡◌, sym, ap, ◌∙◌}
use native.Mathlib.Omega.{arith}
use Rattle.writing.proofs.characters.plain_end.Goals as goal

pub returns : goal.returns
returns c = λ next e.
    let same : c.args.label + c.plain_size-size.result ≡ next = cc in
    let size = c.plain_size-size.ensures.0 in (
      sym same ∙ ap (λ s. c.args.label + s) size,
      plain_at _ _ _ (omega (arith, size, c.if-source-label-2.false, c.if-source-label.false)) c.if-source-label-ne10.false
          (c.if-source-label-3.false ∙ c.first_letter.ensures) (rw size at c.if-source-end-ne48.false) (rw size at c.if-source-end-ne10.false),
    )

-- The function `code` meets its contract: the index of a state is below 74. Assumes nothing.
use Prim.Native.Nat.{◌+◌}
use Rattle.block.proofs.FormatCodes.{Below, cell_below, symbols-few, bits_back}
use Rattle.std.specs.Prelude.{Some}
use Rattle.block.specs.Cells.{cell_of}
use Rattle.block.specs.Codes.{code_of}
use Rattle.block.specs.Formats.{meant}
use lib.ListN.{length-map}
use mathlib.Core.Path.{sym, ap, subst, ◌∙◌}
use native.Mathlib.Omega.{arith}
use Rattle.block.proofs.formats.Format.code.Goals as goal

pub overflow_cast-result : goal.overflow_cast-result
unfolding cell_of
overflow_cast-result c =
    let self = c.args.self in
    let known = sym c.cell.ensures ∙ ap cell_of (c.in-Some.is ∙ ap Some c.in-State.is) in
    let few = symbols-few self 74 (omega (arith, c.well_formed.0.1.1.1.0.1.0.1, length-map self.symbols (λ v. v))) in
    omega (arith, subst (Below 74) known (cell_below (meant self) c.args.b 74 few (omega arith)))

pub returns-in-State : goal.returns-in-State
unfolding code_of cell_of
returns-in-State c = sym (ap code_of (sym c.cell.ensures ∙ ap cell_of (c.in-Some.is ∙ ap Some c.in-State.is)))

pub returns-in-Uncertain : goal.returns-in-Uncertain
unfolding code_of cell_of
returns-in-Uncertain c = ap (λ n. 96 + n) (bits_back _ (omega arith)) ∙ sym (ap code_of (sym c.cell.ensures ∙ ap cell_of (c.in-Some.is ∙ ap Some c.in-Uncertain.is)))

pub returns-in-Missing : goal.returns-in-Missing
unfolding code_of cell_of
returns-in-Missing c = sym (ap code_of (sym c.cell.ensures ∙ ap cell_of (c.in-Some.is ∙ ap Some c.in-Missing.is)))

pub returns-in-Gap : goal.returns-in-Gap
unfolding code_of cell_of
returns-in-Gap c = sym (ap code_of (sym c.cell.ensures ∙ ap cell_of (c.in-Some.is ∙ ap Some c.in-Gap.is)))

pub returns-in_default : goal.returns-in_default
unfolding code_of cell_of
returns-in_default c = sym (ap code_of (sym c.cell.ensures ∙ ap cell_of c.in_default.is))

-- The function `put_taxon` meets its contract: the lines of its name and of its cells. Assumes nothing.
use Rattle.emit.proofs.PutLaws.{puts-as, puts_then}
use Rattle.lexer.specs.Base.{bytes}
use Rattle.reading.proofs.HeldRows.{tokens-taken}
use Rattle.reading.proofs.TaxonPieces.{taxon-put}
use Rattle.reading.specs.Pieces.{name_piece}
use mathlib.Core.Path.{refl, ◌∙◌}
use Rattle.reading.proofs.taxa.put_taxon.Goals as goal

pub slice_bounds-put_named-end : goal.slice_bounds-put_named-end
slice_bounds-put_named-end c = tokens-taken _ _ _ _ _ c.requires

pub returns : goal.returns
unfolding bytes name_piece
returns c =
    record {
      kept = c.put.ensures.kept ∙ c.put_row-m.ensures.kept ∙ c.put_all-m.ensures.kept ∙ c.put_named-m.ensures.kept;
      put = λ told. taxon-put _ _ (puts-as (puts_then c.put_named-m.ensures (puts_then c.put_all-m.ensures (puts_then (c.put_row-m.ensures.put told) c.put.ensures))) (λ rest. refl));
    }

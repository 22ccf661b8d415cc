-- The function `put_record` meets its contract: its pieces, one behind another. Assumes nothing.
use Rattle.reading.proofs.HeldRows.{tokens-taken}
use Rattle.reading.proofs.RecordPieces.{format-told, record-put}
use mathlib.Core.Path.{◌∙◌}
use Rattle.reading.proofs.spelling.put_record.Goals as goal

pub slice_bounds-format_of-end : goal.slice_bounds-format_of-end
slice_bounds-format_of-end c = tokens-taken _ _ _ _ _ c.requires

pub slice_bounds-count_taxa-end : goal.slice_bounds-count_taxa-end
slice_bounds-count_taxa-end c = tokens-taken _ _ _ _ _ c.requires

pub returns : goal.returns
returns c =
    let a = c.args in
    record {
      kept = c.put_characters.ensures.kept ∙ c.put_taxa-m.ensures.kept ∙ c.put_head-m.ensures.kept;
      put = λ few.
          let told = format-told a.text.now a.work.now _ a.count a.held c.requires _ c.format_of-format.ensures few c.codes-table.ensures in
          record-put a.text.now a.work.now _ a.count a.held c.requires _ c.format_of-format.ensures few _ told c.count_taxa.ensures c.put_head-m.ensures (c.put_taxa-m.ensures.put told) c.put_characters.ensures;
    }

-- The function `put_labels` meets its contract. Assumes nothing.
use Rattle.lexer.specs.Base.{bytes}
use Rattle.writing.proofs.EntryPuts.{labels-none, labels-some}
use borrow.Author.Tests.{not-true, not-false}
use Rattle.writing.proofs.characters.put_labels.Goals as goal

pub returns-then-not-shape : goal.returns-then-not-shape
returns-then-not-shape c = labels-none c.args.source.now c.args.shape (not-true _ c.if-not-shape.true)

pub returns : goal.returns
unfolding bytes
returns c = labels-some c.args.source.now c.args.shape (not-false _ c.if-not-shape.false) c.put_all-m.ensures c.put_entries-m.ensures c.put_all.ensures

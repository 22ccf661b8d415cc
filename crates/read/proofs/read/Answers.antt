-- The function read meets its contract: a refusal of lexing is the call's, and tokens are read. Assumes nothing.
use Rattle.std.proofs.lemmas.Result.{err_from_is_err_and}
use Rattle.read.proofs.ReadLaws.{lexed-so, counted-call, refused-call}
use borrow.Author.Rules.{rules}
use Rattle.read.proofs.read.Goals as goal

pub read_tokens-requires : goal.read_tokens-requires
read_tokens-requires c =
    lexed-so _ c.args.work.now _ _ _ c.lex.ensures.answer c.lex.ensures.stored (search rules) c.in_ok-count.was

pub returns : goal.returns
returns c =
    counted-call _ _ _ _ c.lex.ensures.answer _ (search rules) _ c.in_ok-count.was _ _ _ c.read_tokens.ensures

pub returns-in_err-count : goal.returns-in_err-count
returns-in_err-count c =
    let p = err_from_is_err_and c.from_residual.result c.from_residual.ensures.1 in
    rw (p.1, p.2) (refused-call _ _ _ _ c.lex.ensures.answer _ (search rules) _ _ c.in_err-count.was)

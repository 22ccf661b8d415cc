-- The function `cut_word` meets its contract. Assumes nothing.
use Rattle.std.proofs.lemmas.Result.{err_from_is_err_and}
use Rattle.std.specs.Prelude.{Option}
use Prim.Native.Nat.{ℕ}
use Rattle.assumptions.proofs.WordCut.{cutting-start, cutting-turn, cutting-over, cutting-end}
use Rattle.assumptions.specs.ListParts.{Parted}
use Rattle.lexer.proofs.NextBytes.{front-left}
use Rattle.lexer.specs.Base.{bytes}
use Rattle.lexer.specs.Stored.{word_of}
use Rattle.lexer.specs.Words.{Numbered, is, is_word}
use Rattle.lexer.specs.declared.Cursor.{Cursor}
use mathlib.Core.Bool.{Bool, true}
use mathlib.Core.List.{List}
use mathlib.Core.Path.{◌≡◌, refl, sym}
use native.Mathlib.Omega.{arith}
use Rattle.assumptions.proofs.characters.cut_word.Goals as goal
use Rattle.assumptions.specs.declared.parts.Part.{Part}

-- the next part, or none
parted : (text work : List ℕ) (i : ℕ) {count : ℕ} {all : Bool} {c : Cursor} {r : Option (Part × Cursor)} → ((w : Numbered) → w.index ≡ i → is_word w.token.kind ≡ true → is (bytes "ALL") w ≡ all → Parted text count w c r) → is_word (word_of text work i).token.kind ≡ true → all ≡ is (bytes "ALL") (word_of text work i) → Parted text count (word_of text work i) c r
unfolding word_of
parted text work i next word all = next (word_of text work i) refl word (sym all)

pub loop-part-init : goal.loop-part-init
unfolding word_of
loop-part-init c = cutting-start _ _ _ _ _ _ _ _ _ c.requires.i_value (rw c.start_of.ensures at (front-left _ _ _ c.text_start-c.ensures))

pub returns-clause-answer : goal.returns-clause-answer
unfolding bytes
returns-clause-answer c =
    let part = parted c.args.text.now c.args.work.now c.args.i c.word_part.ensures c.requires.i_value c.is-all.ensures in
    cutting-end _ _ _ _ _ _ _ _ _ _ _ _ c.loop-part.invariant (part.end c.in_default.is)

pub loop-part-smaller : goal.loop-part-smaller
unfolding bytes
loop-part-smaller c =
    let part = parted c.args.text.now c.args.work.now c.args.i c.word_part.ensures c.requires.i_value c.is-all.ensures in
    let y = part.more _ _ c.in-Some.is in omega (arith, y.ahead, y.within)

pub loop-part-preserved : goal.loop-part-preserved
unfolding bytes
loop-part-preserved c =
    let part = parted c.args.text.now c.args.work.now c.args.i c.word_part.ensures c.requires.i_value c.is-all.ensures in
    cutting-turn _ _ _ _ _ _ _ _ _ _ _ _ c.loop-part.invariant _ _ (part.more _ _ c.in-Some.is) _ _ c.in_ok-next.ensures.answer c.part_turn.auto.work c.in_ok-next.ensures.front _ refl

pub returns-in_err-next-clause-answer : goal.returns-in_err-next-clause-answer
unfolding bytes
returns-in_err-next-clause-answer c =
    let part = parted c.args.text.now c.args.work.now c.args.i c.word_part.ensures c.requires.i_value c.is-all.ensures in
    let r = err_from_is_err_and c.from_residual.result c.from_residual.ensures.1 in
    rw (r.1, r.2) (cutting-over _ _ _ _ _ _ _ _ _ _ _ _ c.loop-part.invariant _ _ (part.more _ _ c.in-Some.is) _ _ c.in_err-next.ensures.answer _ _ refl)

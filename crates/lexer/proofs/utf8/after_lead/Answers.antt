-- The function after_lead meets its contract: each return is the choice of `after_lead` whose test held, with the tests before it false. Assumes
-- nothing.
use Rattle.lexer.specs.Base.{pick}
use Rattle.lexer.specs.Utf8.{after_lead, follow}
use borrow.Author.Tests.{lt-ltb, le-ltb, eq-eqb, ne_eqb}
use Rattle.lexer.proofs.utf8.after_lead.Goals as goal

pub returns-then-b-lt224 : goal.returns-then-b-lt224
unfolding after_lead follow pick
returns-then-b-lt224 c = rw (lt-ltb _ _ c.if-b-lt224.true) c.follows_by.ensures

pub returns-then-b-eq224 : goal.returns-then-b-eq224
unfolding after_lead follow pick
returns-then-b-eq224 c = rw (le-ltb _ _ c.if-b-lt224.false, eq-eqb _ _ c.if-b-eq224.true) c.follows_by-then-b-eq224.ensures

pub returns-then-b-eq237 : goal.returns-then-b-eq237
unfolding after_lead follow pick
returns-then-b-eq237 c = rw (le-ltb _ _ c.if-b-lt224.false, ne_eqb _ _ c.if-b-eq224.false, eq-eqb _ _ c.if-b-eq237.true) c.follows_by-then-b-eq237.ensures

pub returns-then-b-lt240 : goal.returns-then-b-lt240
unfolding after_lead follow pick
returns-then-b-lt240 c =
    rw (
      le-ltb _ _ c.if-b-lt224.false,
      ne_eqb _ _ c.if-b-eq224.false,
      ne_eqb _ _ c.if-b-eq237.false,
      lt-ltb _ _ c.if-b-lt240.true,
    )
    c.follows_by-then-b-lt240.ensures

pub returns-then-b-eq240 : goal.returns-then-b-eq240
unfolding after_lead follow pick
returns-then-b-eq240 c =
    rw (
      le-ltb _ _ c.if-b-lt224.false,
      ne_eqb _ _ c.if-b-eq224.false,
      ne_eqb _ _ c.if-b-eq237.false,
      le-ltb _ _ c.if-b-lt240.false,
      eq-eqb _ _ c.if-b-eq240.true,
    )
    c.follows_by-then-b-eq240.ensures

pub returns-then-b-eq244 : goal.returns-then-b-eq244
unfolding after_lead follow pick
returns-then-b-eq244 c =
    rw (
      le-ltb _ _ c.if-b-lt224.false,
      ne_eqb _ _ c.if-b-eq224.false,
      ne_eqb _ _ c.if-b-eq237.false,
      le-ltb _ _ c.if-b-lt240.false,
      ne_eqb _ _ c.if-b-eq240.false,
      eq-eqb _ _ c.if-b-eq244.true,
    )
    c.follows_by-then-b-eq244.ensures

pub returns : goal.returns
unfolding after_lead follow pick
returns c =
    rw (
      le-ltb _ _ c.if-b-lt224.false,
      ne_eqb _ _ c.if-b-eq224.false,
      ne_eqb _ _ c.if-b-eq237.false,
      le-ltb _ _ c.if-b-lt240.false,
      ne_eqb _ _ c.if-b-eq240.false,
      ne_eqb _ _ c.if-b-eq244.false,
    )
    c.follows_by-2.ensures

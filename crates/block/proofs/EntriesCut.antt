-- The entries of a list of words: words without a comma are one entry, and those before a comma are one more than those behind it. Assumes nothing.
use Rattle.block.specs.LabelOrder.{comma, no_comma, comma_last, comma_first, EntryOf}
use Rattle.lexer.proofs.Basics.{and_left, and_right, not-both}
use Rattle.lexer.specs.Words.{Numbered}
use borrow.Author.Tests.{not-true}
use mathlib.Core.Bool.{true, false, not}
use mathlib.Core.List.{List, [], ◌∷◌, ◌++◌, append_assoc, append-nil, head-eq_of_cons-eq, tail-eq_of_cons-eq, cons≢nil}
use mathlib.Core.Logic.{◌⊎◌, inl, inr}
use mathlib.Core.Path.{◌≡◌, refl, sym, ap, ◌∙◌}

module _ (w : Numbered) (r : List Numbered) (plain : no_comma (w ∷ r) ≡ true) where
  no-comma-here : comma w ≡ false
  unfolding no_comma
  no-comma-here = not-true (comma w) (and_left (not (comma w)) (no_comma r) plain)

  no-comma-behind : no_comma r ≡ true
  unfolding no_comma
  no-comma-behind = and_right (not (comma w)) (no_comma r) plain

no-comma-cons : (w : Numbered) (r : List Numbered) → comma w ≡ false → no_comma r ≡ true → no_comma (w ∷ r) ≡ true
unfolding no_comma
no-comma-cons w r e p = rw (e, p)

no-comma-left : (l r : List Numbered) → no_comma (l ++ r) ≡ true → no_comma l ≡ true
unfolding no_comma
no-comma-left [] r p = refl
no-comma-left (w ∷ l) r p = no-comma-cons w l (no-comma-here w (l ++ r) p) (no-comma-left l r (no-comma-behind w (l ++ r) p))

no-comma-right : (l r : List Numbered) → no_comma (l ++ r) ≡ true → no_comma r ≡ true
no-comma-right [] r p = p
no-comma-right (w ∷ l) r p = no-comma-right l r (no-comma-behind w (l ++ r) p)

pub no-comma-one : (l : List Numbered) (w : Numbered) → no_comma l ≡ true → comma w ≡ false → no_comma (l ++ (w ∷ [])) ≡ true
unfolding no_comma
no-comma-one [] w p e = no-comma-cons w [] e refl
no-comma-one (v ∷ l) w p e = no-comma-cons v (l ++ (w ∷ [])) (no-comma-here v l p) (no-comma-one l w (no-comma-behind v l p) e)

-- Words that hold no comma, and end in one or begin with one, are none.
none_before : (l : List Numbered) → comma_last l ≡ true → no_comma l ≡ true → l ≡ []
unfolding comma_last
none_before [] e p = refl
none_before (w ∷ []) e p = not-both (no-comma-here w [] p) e
none_before (w ∷ v ∷ r) e p = absurd (cons≢nil (none_before (v ∷ r) e (no-comma-behind w (v ∷ r) p)))

none-behind : (l : List Numbered) → comma_first l ≡ true → no_comma l ≡ true → l ≡ []
unfolding comma_first
none-behind [] e p = refl
none-behind (w ∷ r) e p = not-both (no-comma-here w r p) e

-- Words without a comma are one entry.
pub only-entry : (o : List Numbered) → no_comma o ≡ true → EntryOf o o
unfolding comma_last comma_first
only-entry o p = record { before = []; after = []; here = sym (append-nil o); begins = refl; ends = refl; whole = p }

pub entry-only : (o e : List Numbered) → no_comma o ≡ true → EntryOf o e → e ≡ o
entry-only o e p x =
    let whole : no_comma (x.before ++ (e ++ x.after)) ≡ true = rw x.here at p in
    let front = none_before x.before x.begins (no-comma-left x.before (e ++ x.after) whole) in
    let back = none-behind x.after x.ends (no-comma-right e x.after (no-comma-right x.before (e ++ x.after) whole)) in
    sym (x.here ∙ ap (λ l. l ++ (e ++ x.after)) front ∙ ap (λ l. e ++ l) back ∙ append-nil e)

-- Words before a comma, and those behind it.
module _ (c : Numbered) (ws : List Numbered) (parts : comma c ≡ true) where
  pub first_entry : (o : List Numbered) → no_comma o ≡ true → EntryOf (o ++ (c ∷ ws)) o
  unfolding comma_last comma_first
  first_entry o p = record { before = []; after = c ∷ ws; here = refl; begins = refl; ends = parts; whole = p }

  last-behind : (b : List Numbered) → comma_last b ≡ true → comma_last (c ∷ b) ≡ true
  unfolding comma_last
  last-behind [] e = parts
  last-behind (v ∷ r) e = e

  last-after : (o b : List Numbered) → comma_last b ≡ true → comma_last (o ++ (c ∷ b)) ≡ true
  unfolding comma_last
  last-after [] b e = last-behind b e
  last-after (v ∷ []) b e = last-behind b e
  last-after (v ∷ x ∷ o) b e = last-after (x ∷ o) b e

  pub later-entry : (o e : List Numbered) → EntryOf ws e → EntryOf (o ++ (c ∷ ws)) e
  later-entry o e x =
      record {
        before = o ++ (c ∷ x.before);
        after = x.after;
        here = ap (λ l. o ++ (c ∷ l)) x.here ∙ sym (append_assoc o (c ∷ x.before) (e ++ x.after));
        begins = last-after o x.before x.begins;
        ends = x.ends;
        whole = x.whole;
      }

  -- what stands before an entry is nothing, or goes beyond the comma
  front : (o before rest : List Numbered) → no_comma o ≡ true → comma_last before ≡ true → o ++ (c ∷ ws) ≡ before ++ rest
      → (before ≡ []) ⊎ ((b : List Numbered) × (comma_last b ≡ true) × (ws ≡ b ++ rest))
  unfolding comma_last
  front o [] rest p l e = inl refl
  front [] (x ∷ []) rest p l e = inr ([], refl, tail-eq_of_cons-eq e)
  front [] (x ∷ y ∷ b) rest p l e = inr (y ∷ b, l, tail-eq_of_cons-eq e)
  front (v ∷ o) (x ∷ []) rest p l e = not-both (no-comma-here v o p) (ap comma (head-eq_of_cons-eq e) ∙ l)
  front (v ∷ o) (x ∷ y ∷ b) rest p l e = go (front o (y ∷ b) rest (no-comma-behind v o p) l (tail-eq_of_cons-eq e))
    where
      go : (y ∷ b ≡ []) ⊎ ((d : List Numbered) × (comma_last d ≡ true) × (ws ≡ d ++ rest))
          → (x ∷ y ∷ b ≡ []) ⊎ ((d : List Numbered) × (comma_last d ≡ true) × (ws ≡ d ++ rest))
      go (inl n) = absurd (cons≢nil n)
      go (inr k) = inr k

  -- an entry at the beginning ends at the comma
  up-to-comma : (o e after : List Numbered) → no_comma o ≡ true → no_comma e ≡ true → comma_first after ≡ true → o ++ (c ∷ ws) ≡ e ++ after → e ≡ o
  unfolding comma_first
  up-to-comma [] [] after p q f h = refl
  up-to-comma [] (x ∷ e) after p q f h = not-both (no-comma-here x e q) (ap comma (sym (head-eq_of_cons-eq h)) ∙ parts)
  up-to-comma (v ∷ o) [] [] p q f h = absurd (cons≢nil h)
  up-to-comma (v ∷ o) [] (x ∷ after) p q f h = not-both (no-comma-here v o p) (ap comma (head-eq_of_cons-eq h) ∙ f)
  up-to-comma (v ∷ o) (x ∷ e) after p q f h =
      let head : v ≡ x = head-eq_of_cons-eq h in
      let tail : e ≡ o = up-to-comma o e after (no-comma-behind v o p) (no-comma-behind x e q) f (tail-eq_of_cons-eq h) in
      cc

  pub cut-entry : (o e : List Numbered) → no_comma o ≡ true → EntryOf (o ++ (c ∷ ws)) e → (e ≡ o) ⊎ EntryOf ws e
  cut-entry o e p x = go (front o x.before (e ++ x.after) p x.begins x.here)
    where
      go : (x.before ≡ []) ⊎ ((b : List Numbered) × (comma_last b ≡ true) × (ws ≡ b ++ (e ++ x.after))) → (e ≡ o) ⊎ EntryOf ws e
      go (inl n) = inl (up-to-comma o e x.after p x.whole x.ends (x.here ∙ ap (λ l. l ++ (e ++ x.after)) n))
      go (inr k) = inr (record { before = k.0; after = x.after; here = k.2; begins = k.1; ends = x.ends; whole = x.whole })

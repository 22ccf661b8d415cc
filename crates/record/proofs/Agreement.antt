-- Readings that agree are equal, and so readings have equal forms exactly when they agree. Assumes nothing.
use Prim.Native.Nat.{ℕ}
use Rattle.block.specs.Parse.{reading}
use Rattle.block.specs.Reading.{Taxon, Character, Reading}
use Rattle.block.specs.Sequential.{names}
use Rattle.record.proofs.FormRead.{form-read}
use Rattle.record.specs.Demands.{Reads, Agree, FormsTellReadingsApart}
use Rattle.record.specs.Form.{form}
use mathlib.Core.List.{List, [], ◌∷◌, map, cons≢nil, nil≢cons, head-eq_of_cons-eq, tail-eq_of_cons-eq}
use mathlib.Core.Path.{◌≡◌, refl, sym, ap, ◌∙◌, subst}

-- Taxa with equal names and cells are equal, and so are characters with equal labels, state labels and types.
taxa-agree : (l r : List Taxon) → names l ≡ names r → map (λ (t : Taxon). t.cells) l ≡ map (λ (t : Taxon). t.cells) r → l ≡ r
unfolding names
taxa-agree [] [] n c = refl
taxa-agree [] (t ∷ r) n c = absurd (nil≢cons n)
taxa-agree (s ∷ l) [] n c = absurd (cons≢nil n)
taxa-agree (s ∷ l) (t ∷ r) n c =
    let more : l ≡ r = taxa-agree l r (tail-eq_of_cons-eq n) (tail-eq_of_cons-eq c) in
    let one : s ≡ t = λ i. record { name = head-eq_of_cons-eq n i; cells = head-eq_of_cons-eq c i } in
    cc

characters-agree : (l r : List Character) → map (λ (c : Character). c.label) l ≡ map (λ (c : Character). c.label) r
    → map (λ (c : Character). c.states) l ≡ map (λ (c : Character). c.states) r
    → map (λ (c : Character). c.ordering) l ≡ map (λ (c : Character). c.ordering) r → l ≡ r
characters-agree [] [] n s o = refl
characters-agree [] (c ∷ r) n s o = absurd (nil≢cons n)
characters-agree (b ∷ l) [] n s o = absurd (cons≢nil n)
characters-agree (b ∷ l) (c ∷ r) n s o =
    let more : l ≡ r = characters-agree l r (tail-eq_of_cons-eq n) (tail-eq_of_cons-eq s) (tail-eq_of_cons-eq o) in
    let one : b ≡ c = λ i. record { label = head-eq_of_cons-eq n i; states = head-eq_of_cons-eq s i; ordering = head-eq_of_cons-eq o i } in
    cc

agree-equal : (r s : Reading) → Agree r s → r ≡ s
agree-equal r s a =
    let taxa = taxa-agree r.taxa s.taxa a.names a.cells in
    let characters = characters-agree r.characters s.characters a.labels a.states a.types in
    λ i. record { data_type = a.data_type i; symbols = a.symbols i; taxa = taxa i; characters = characters i }

equal-agree : (r s : Reading) → r ≡ s → Agree r s
equal-agree r s e =
    record {
      data_type = ap (λ x. x.data_type) e;
      symbols = ap (λ x. x.symbols) e;
      names = ap (λ x. names x.taxa) e;
      cells = ap (λ x. map (λ (t : Taxon). t.cells) x.taxa) e;
      labels = ap (λ x. map (λ (c : Character). c.label) x.characters) e;
      states = ap (λ x. map (λ (c : Character). c.states) x.characters) e;
      types = ap (λ x. map (λ (c : Character). c.ordering) x.characters) e;
    }

-- A text has one reading.
pub one-reading : (text : List ℕ) (r s : Reading) → Reads text r → Reads text s → r ≡ s
one-reading text r s p q = let e : reading r ≡ reading s = sym p ∙ q in cc

pub forms-apart : FormsTellReadingsApart
forms-apart r s p q =
    (λ e. equal-agree r s (one-reading (form s) r s (subst (λ (t : List ℕ). Reads t r) e (form-read r p)) (form-read s q)), λ a. ap form (agree-equal r s a))

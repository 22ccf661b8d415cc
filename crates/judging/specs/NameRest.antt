-- The rest of a name behind some of its bytes, by what they leave open.
use Rattle.std.specs.Prelude.{ℕ, eqb, Bool, true, ◌&&◌, not, List, [], ◌∷◌, ◌++◌, ◌≡◌, Some, None, Option}
use Rattle.block.specs.Sound.{no_underscore, no_return}
use Rattle.judging.specs.Judges.{Judges}
use Rattle.judging.specs.declared.names.Naming.{Naming}
use Rattle.lexer.specs.Base.{pick, among, byte}
use Rattle.lexer.specs.Classes.{blank}
use Rattle.lexer.specs.Utf8.{utf8_from}
use Rattle.record.specs.Spell.{escaped}

-- Is a text all White_Space, with no U+0020 in it? The empty text is.
unfoldable pub hollow : List ℕ → Bool
hollow n = blank n && not (among (byte " ") n)

-- Do these bytes end a name, if the bytes before them leave this is_open
unfoldable pub name_rest : Naming → List ℕ → Bool
name_rest s n = utf8_from s.more s.low s.high n && no_underscore n && no_return n && not (s.blank && hollow n)

-- What judging the rest of a name and the LF behind it answers.
abbrev pub RestJudged : List ℕ → ℕ → Naming → Option ℕ → Type 0
RestJudged b i s r = Judges b i (λ n. name_rest s n ≡ true) (λ n. escaped n ++ (byte "\n" ∷ [])) r

-- The byte that a backslash before this byte means: LF before `0`, a backslash before `1`; 0 for none.
unfoldable pub unescape : ℕ → ℕ
unescape b = pick (eqb b (byte "0")) (byte "\n") (pick (eqb b (byte "1")) (byte "\\") 0)

-- A byte that it means, if it means one.
pub record Unescaped (b : ℕ) (r : Option ℕ) : Type 0 where
  pub none : r ≡ None → unescape b ≡ 0
  pub some : (d : ℕ) → r ≡ Some d → (d ≡ unescape b) × (d ≡ 0 → ⊥)

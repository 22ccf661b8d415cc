-- Ten characters that are put at once: they have neither a label nor state labels, and one type, and their numbers differ in the last digit alone.
use Rattle.std.specs.Prelude.{ℕ, zero, suc, ◌+◌, ◌*◌, ◌%◌, eqb, leb, get_or, Bool, true, ◌&&◌, ◌||◌, not, List}

-- Are so many numbers of work memory, from a place on, all this one?
unfoldable pub all_same : List ℕ → ℕ → ℕ → ℕ → Bool
all_same work number at zero = true
all_same work number at (suc count) = eqb (get_or work at 0) number && all_same work number (suc at) count

-- May the ten behind so many characters be put at once? Labels stand from a place of work memory on, behind them state labels, behind these types, if a set
-- was read; of each there are as many as characters.
unfoldable pub ten_plain : List ℕ → ℕ → ℕ → Bool → ℕ → Bool
ten_plain work at characters typed k =
    let t = at + 2 * characters + k in
    eqb ((k + 1) % 10) 0
    && leb (k + 10) characters
    && all_same work 0 (at + k) 10
    && all_same work 0 (at + characters + k) 10
    && (not typed || all_same work (get_or work t 0) t 10)

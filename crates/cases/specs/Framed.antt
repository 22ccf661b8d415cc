-- What reading a frame answers.
use Rattle.std.specs.Prelude.{ℕ, ◌≤◌}
use Rattle.cases.specs.declared.frames.Frame.{Frame}

-- A question lies within the space.
abbrev pub Framed : Frame → ℕ → Type 0
Framed (Frame.Question n) room = n ≤ room
Framed Frame.End room = Unit {0}
Framed Frame.Cut room = Unit {0}
Framed Frame.Long room = Unit {0}

-- Paths, step by step, from one station to another.
use Rattle.std.specs.Prelude.{ℕ}

-- a path from s, each step of which is one that E allows
pub data Path (E : ℕ → ℕ → Type 0) (s : ℕ) : ℕ → Type 0 where
  stay : Path E s s
  step : {u v : ℕ} → Path E s u → E u v → Path E s v

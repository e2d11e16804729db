-- Writing with every rule opened, so that what a small list of observations is written as is worked out by computing.
use Prim.Native.Nat.{ℕ}
use mathlib.Core.List.{List}
use Rattle.element.specs.Observation.{Observation}
use Rattle.layout.specs.Written.{is_anywhere, passing, columns_of, barred, line_of, data_lines, block_text, written}

-- What observations are written as.
unfoldable pub writing : List ℕ → List Observation → List ℕ
unfolding written block_text data_lines line_of barred columns_of passing is_anywhere
writing cuts observations = written cuts observations

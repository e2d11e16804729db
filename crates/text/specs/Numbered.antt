-- Numbers counted from 1.
use Rattle.std.specs.Prelude.{ℕ, zero, suc, Option, Some, None}

-- A number counted from 1, where 0 tells that there is none.
abbrev pub numbered : ℕ → Option ℕ
numbered zero = None
numbered (suc n) = Some (suc n)

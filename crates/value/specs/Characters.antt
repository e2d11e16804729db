-- Alphanumeric and free values. Where only a length is wrong it is 8, also when too short; a wrong byte is 9.
use Rattle.std.specs.Prelude.{ℕ, Bool, cond, ◌&&◌, List, leb, length, Result, Ok, Err}
use Rattle.text.specs.Class.{is_only}
use Rattle.text.specs.declared.class.Class.TheVariants.{Alphanumeric}
use Rattle.refusal.specs.declared.Kind.{Kind}
use Rattle.refusal.specs.declared.Kind.TheVariants.{TooWide, WrongForm}
use Rattle.value.specs.declared.Value.{Value}
use Rattle.value.specs.declared.Value.TheVariants.{NoValue}

-- The text is `from` to `to` bytes long.
abbrev pub is_long : ℕ → ℕ → List ℕ → Bool
is_long from to text = leb from (length text) && leb (length text) to

-- `from` to `to` alphanumerics.
unfoldable pub alphanumeric : ℕ → ℕ → List ℕ → Result Value Kind
alphanumeric from to text = cond (is_only Alphanumeric text) (cond (is_long from to text) (Ok NoValue) (Err TooWide)) (Err WrongForm)

-- Up to `to` bytes.
unfoldable pub free : ℕ → List ℕ → Result Value Kind
free to text = cond (leb (length text) to) (Ok NoValue) (Err TooWide)

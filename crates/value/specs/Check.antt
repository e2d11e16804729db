-- What a check gives of a value: its fault alone. The check of a form and its value are the same rule, with and without `less_value`.
use Rattle.std.specs.Prelude.{ℕ, ◌+◌, ◌<◌, ◌≡◌, true, Result, Ok, Err, List, length, get_or}
use Rattle.text.specs.Class.{is_digit}
use Rattle.refusal.specs.declared.Kind.{Kind}
use Rattle.value.specs.declared.Value.{Value}

-- A fault as it is; a right text without its value.
abbrev pub less_value : Result Value Kind → Result Unit Kind
less_value (Ok value) = Ok tt
less_value (Err kind) = Err kind

-- For the contract of a private function: two digits stand in a text from a place on.
pub record TwoDigits (text : List ℕ) (from : ℕ) : Type 0 where
  pub inside : from + 1 < length text
  pub tens : is_digit (get_or text from 0) ≡ true
  pub ones : is_digit (get_or text (from + 1) 0) ≡ true

-- ctr: an integer.
use Rattle.std.specs.Prelude.{ℕ, Bool, cond, ◌&&◌, ◌||◌, List, ltb, length, drop, Result, Ok, Err}
use Rattle.text.specs.Bytes.{bytes}
use Rattle.text.specs.Part.{same}
use Rattle.refusal.specs.declared.Kind.{Kind}
use Rattle.refusal.specs.declared.Kind.TheVariants.{TooWide, WrongForm}
use Rattle.value.specs.Numeral.{is_digits, no_leading_zero, part}
use Rattle.value.specs.Sign.{is_minus, with_sign}
use Rattle.value.specs.declared.Value.{Value}
use Rattle.value.specs.declared.Value.TheVariants.{Whole}

-- The text less one minus before it.
unfoldable pub less_minus : List ℕ → List ℕ
less_minus text = drop (cond (is_minus text) 1 0) text

-- Integer, `-` allowed, no leading zero but `0` itself, no `-0`.
unfoldable pub is_integer : List ℕ → Bool
is_integer text = same text (bytes "0") || (is_digits (less_minus text) && no_leading_zero (less_minus text))

-- An integer of at most 9 characters: 8 when its bytes pass its width, whatever they are.
unfoldable pub centre : List ℕ → Result Value Kind
centre text =
    cond (ltb 9 (length text)) (Err TooWide)
    (cond (is_integer text) (Ok (Whole (with_sign (is_minus text) (part 0 9 text))))
    (Err WrongForm))

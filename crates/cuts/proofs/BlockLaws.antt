-- Steps of working out the bytes of a block.
use mathlib.Core.Path.{◌≡◌, sym, ap, ◌∙◌}
use Prim.Native.Nat.{ℕ, ◌≤◌, ◌<◌, ◌+◌, ◌-◌, ◌*◌, ◌^◌}
use native.Mathlib.Omega.{arith}
use lib.Bits.{bit_or}
use lib.Count.{ones, ones-le}
use native.Mathlib.Nat.{mul-le-mul}
use mir.Syntax.{w64}
use mir.Val.{Fits}
use Rattle.element.specs.Set.{name_lengths, name_bytes}
use Rattle.element.proofs.Sets.{names_low}
use Rattle.cuts.specs.Block.{most_rows, most_bytes, bytes_of}
use Rattle.cuts.specs.Look.{block_limit, head_of}
use Rattle.cuts.specs.declared.block.Head.{Head}
use Rattle.cuts.proofs.UnionLaws.{or_above, lengths_new}

-- The head of a block: its parts are small.
pub head_fits : (columns names : ℕ) → names ≡ name_bytes columns → Fits w64 (15 + names)
head_fits columns names e = record { fits = omega (arith, names_low columns) }

pub lines_fit : (columns names n : ℕ) → names ≡ name_bytes columns → n ≤ 64 → Fits w64 (15 + names + n)
lines_fit columns names n e h = record { fits = omega (arith, names_low columns) }

-- A head with columns more, from one that is known.
module _ (known : Head) (more : ℕ) (is : known ≡ head_of known.columns) where
  abbrev columns : ℕ
  columns = bit_or known.columns more

  -- The set is the one that it was, and so is the head.
  pub head_kept : columns ≡ known.columns → known ≡ head_of columns
  head_kept e = is ∙ ap head_of (sym e)

  -- The parts of the known head's bytes.
  lines_are : known.bytes ≡ 15 + name_bytes known.columns + known.count
  lines_are = omega (arith, ap (λ (h : Head). h.bytes) is, ap (λ (h : Head). h.count) is)

  pub count_within : known.count ≤ known.bytes
  count_within = omega (arith, lines_are)

  -- With the names of the new columns its names are those of all columns; the parts are small, and they make the head.
  module _ (names : ℕ) (e : names ≡ name_bytes (columns - known.columns)) where
    names_are : known.bytes - known.count + names ≡ 15 + name_bytes columns
    names_are = omega (arith, lines_are, e, lengths_new name_lengths known.columns more)

    pub grown_fits : Fits w64 (known.bytes - known.count + names)
    grown_fits = record { fits = omega (arith, names_are, names_low columns) }

    pub grown_lines_fit : (n : ℕ) → n ≤ 64 → Fits w64 (known.bytes - known.count + names + n)
    grown_lines_fit n h = record { fits = omega (arith, names_are, names_low columns) }

    pub head_grown : (n : ℕ) → n ≡ ones columns
        → ◌≡◌ {A = Head} (record { columns = columns; count = n; bytes = known.bytes - known.count + names + n }) (head_of columns)
    head_grown n d = λ i. record { columns = columns; count = d i; bytes = names_are i + d i }

pub ruleset head_needs = (head_fits, lines_fit)

pub ruleset after_needs = (or_above, head_kept, count_within, grown_fits, grown_lines_fit, head_grown)

-- The bytes of a block with a head of columns that a number of the machine holds.
module _ (head : Head) (values rows : ℕ) (is : head ≡ head_of head.columns) (c : head.columns < 2 ^ 64) (v : values ≤ most_bytes) (r : rows ≤ most_rows) where
  count_low : head.count ≤ 64
  count_low = omega (arith, ap (λ (h : Head). h.count) is, ones-le 64 head.columns c)

  head_low : head.bytes ≤ 1103
  head_low = omega (arith, ap (λ (h : Head). h.bytes) is, ap (λ (h : Head). h.count) is, count_low, names_low head.columns)

  pub values_fit : Fits w64 (head.bytes + values)
  values_fit = record { fits = omega (arith, head_low) }

  pub cells_fit : Fits w64 (rows * head.count)
  cells_fit = record { fits = omega (arith, mul-le-mul r count_low) }

  pub block_low : head.bytes + values + rows * head.count < block_limit
  block_low = omega (arith, head_low, mul-le-mul r count_low)

  pub block_fits : Fits w64 (head.bytes + values + rows * head.count)
  block_fits = record { fits = omega (arith, block_low) }

  pub block_is : head.bytes + values + rows * head.count ≡ bytes_of head.columns values rows
  unfolding bytes_of
  block_is = ap (λ (h : Head). h.bytes + values + rows * h.count) is

pub ruleset block_needs = (values_fit, cells_fit, block_low, block_fits, block_is)

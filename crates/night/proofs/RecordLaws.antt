-- Stations and numbers come back from their bytes in a record.
use Prim.Native.Nat.{ℕ, suc, ◌+◌, ◌-◌, ◌*◌, ◌/◌, ◌%◌, ◌^◌, ◌≤◌, ◌<◌}
use mathlib.Core.Path.{◌≡◌, refl, ap, ◌∙◌}
use mathlib.Core.Bool.{true, false, ◌&&◌}
use mathlib.Core.List.{List, [], ◌∷◌}
use native.Mathlib.Omega.{arith}
use lib.Dec.{leb, eqb}
use lib.IntN.{ℤ, pos, negsuc}
use lib.Signed.{mag}
use lib.ListN.{length}
use borrow.Author.Tests.{le-leb, leb-true, eqb-true, ne_eqb}
use mir.Syntax.{w32, w64}
use mir.Val.{of_z, to_z, SFits}
use mir.Facts.{to_z-of_z, Fits-of_z}
use Rattle.text.specs.Class.{is_between, is_digit, is_capital, is_of, leading, is_only}
use Rattle.text.specs.Lines.{trim}
use Rattle.text.specs.Output.{low_bytes, spelt}
use Rattle.text.specs.Part.{same}
use Rattle.text.specs.declared.class.Class.TheVariants.{Alphanumeric}
use Rattle.text.proofs.Bools.{bools, both, never}
use Rattle.text.proofs.Outputs.{spelt_low}
use Rattle.text.proofs.Parts.{same_refl, same_is}
use Rattle.value.specs.Characters.{is_long}
use Rattle.layout.proofs.FieldLaws.{is_value_byte, is_clean, trim_le}
use Rattle.night.specs.Record.{padded, unpadded, is_station}

-- A station as a record can hold it.
pub record Station (s : List ℕ) : Type 0 where
  pub only : is_only Alphanumeric s ≡ true
  pub low : 3 ≤ length s
  pub high : length s ≤ 4
  pub trimmed : trim s ≡ s

-- The test says so.
pub station_of : (s : List ℕ) → is_station s ≡ true → Station s
unfolding is_station
station_of s h =
    let a = both (is_only Alphanumeric s && is_long 3 4 s) (same (trim s) s) h in
    let b = both (is_only Alphanumeric s) (is_long 3 4 s) a.0 in
    let c = both (leb 3 (length s)) (leb (length s) 4) b.1 in
    record { only = b.0; low = leb-true 3 (length s) c.0; high = leb-true (length s) 4 c.1; trimmed = same_is (trim s) s a.1 }

pub is_station_lem : (s : List ℕ) → Station s → is_station s ≡ true
unfolding is_station
is_station_lem s r = rw (r.only, le-leb 3 (length s) r.low, le-leb (length s) 4 r.high, r.trimmed) (same_refl s)

-- Four bytes of a station give it back: the last of a trimmed text is no blank.
last_solid : (a b c d : ℕ) → trim (a ∷ b ∷ c ∷ d ∷ []) ≡ a ∷ b ∷ c ∷ d ∷ [] → eqb d 32 ≡ false
last_solid a b c d h = bools (eqb d 32) (λ e. absurd (omega (arith, shorter e, ap length h))) (λ e. e)
  where
    shorter : eqb d 32 ≡ true → length (trim (a ∷ b ∷ c ∷ d ∷ [])) ≤ 3
    shorter e = bools (eqb a 32) (λ q. rw q (trim_le (b ∷ c ∷ d ∷ []))) (λ q. rw (q, e) (rw q at (trim_le (a ∷ b ∷ c ∷ []))))

pub station_back : (s : List ℕ) → Station s → unpadded (padded s) ≡ s
station_back [] r = absurd (omega (arith, r.low))
station_back (a ∷ []) r = absurd (omega (arith, r.low))
station_back (a ∷ b ∷ []) r = absurd (omega (arith, r.low))
station_back (a ∷ b ∷ c ∷ []) r = refl
station_back (a ∷ b ∷ c ∷ d ∷ []) r = rw (last_solid a b c d r.trimmed)
station_back (a ∷ b ∷ c ∷ d ∷ e ∷ s) r = absurd (omega (arith, r.high))

-- Alphanumerics can stand in a value.
alphanumeric_clean : (b : ℕ) → is_of Alphanumeric b ≡ true → is_value_byte b ≡ true
alphanumeric_clean b h =
    bools (is_digit b) (λ e. range b 48 57 e (omega arith) (omega arith))
    (λ e. bools (is_capital b) (λ f. range b 65 90 f (omega arith) (omega arith))
    (λ f. bools (is_between 97 122 b) (λ g. range b 97 122 g (omega arith) (omega arith))
    (λ g. bools (eqb b 32) (λ i. exactly b 32 i refl)
    (λ i. bools (eqb b 95) (λ j. exactly b 95 j refl)
    (λ j. never (rw (e, f, g, i, j) at h))))))
  where
    range : (b low high : ℕ) → is_between low high b ≡ true → 32 ≤ low → high < 124 → is_value_byte b ≡ true
    range b low high e p q =
        let c = both (leb low b) (leb b high) e in
        let x = leb-true low b c.0 in
        let y = leb-true b high c.1 in
        rw (le-leb 32 b (omega arith), le-leb b 126 (omega arith), ne_eqb b 124 (λ z. omega arith))

    exactly : (b n : ℕ) → eqb b n ≡ true → is_value_byte n ≡ true → is_value_byte b ≡ true
    exactly b n e v = let z : b ≡ n = eqb-true b n e in rw z v

only_clean : (s : List ℕ) → leading Alphanumeric s ≡ length s → is_clean s ≡ true
unfolding leading is_clean
only_clean [] h = refl
only_clean (b ∷ s) h =
    bools (is_of Alphanumeric b)
    (λ e. let i : suc (leading Alphanumeric s) ≡ suc (length s) = rw e at h in rw (alphanumeric_clean b e) (only_clean s (omega arith)))
    (λ e. let i : 0 ≡ suc (length s) = rw e at h in absurd (omega arith))

pub station_clean : (s : List ℕ) → Station s → is_clean s ≡ true
unfolding is_only
station_clean s r = only_clean s (eqb-true (leading Alphanumeric s) (length s) r.only)

-- What stands above four bytes is not seen in them.
low_above : (n k : ℕ) → low_bytes 4 (n + k * 2 ^ 32) ≡ low_bytes 4 n
unfolding low_bytes
low_above n k =
    let a : (n + k * 2 ^ 32) % 256 ≡ n % 256 = omega arith in
    let b : (n + k * 2 ^ 32) / 256 ≡ n / 256 + k * 2 ^ 24 = omega arith in
    let c : (n / 256 + k * 2 ^ 24) % 256 ≡ n / 256 % 256 = omega arith in
    let d : (n / 256 + k * 2 ^ 24) / 256 ≡ n / 256 / 256 + k * 2 ^ 16 = omega arith in
    let e : (n / 256 / 256 + k * 2 ^ 16) % 256 ≡ n / 256 / 256 % 256 = omega arith in
    let f : (n / 256 / 256 + k * 2 ^ 16) / 256 ≡ n / 256 / 256 / 256 + k * 256 = omega arith in
    let g : (n / 256 / 256 / 256 + k * 256) % 256 ≡ n / 256 / 256 / 256 % 256 = omega arith in
    rw (a, b, c, d, e, f, g)

-- So four bytes of a number's 64 bits are those of its 32.
pub low_four : (z : ℤ) → mag z < 2 ^ 31 → low_bytes 4 (of_z w64 z) ≡ low_bytes 4 (of_z w32 z)
low_four (pos n) h = refl
low_four (negsuc n) h =
    ap (low_bytes 4) (let z : 2 ^ 64 - suc n ≡ 2 ^ 32 - suc n + (2 ^ 32 - 1) * 2 ^ 32 = omega arith in z) ∙ low_above (2 ^ 32 - suc n) (2 ^ 32 - 1)

-- Numbers come back from their bytes.
pub signed_eight : (z : ℤ) → mag z < 2 ^ 63 → to_z w64 (spelt (low_bytes 8 (of_z w64 z))) ≡ z
signed_eight z h =
    let fits : SFits w64 z = record { sfits = h } in
    ap (to_z w64) (spelt_low 8 (of_z w64 z) (omega (arith, (Fits-of_z {w = w64} {z = z} fits).fits))) ∙ to_z-of_z {w = w64} {z = z} fits

pub signed_four : (z : ℤ) → mag z < 2 ^ 31 → to_z w32 (spelt (low_bytes 4 (of_z w64 z))) ≡ z
signed_four z h =
    let fits : SFits w32 z = record { sfits = h } in
    ap (λ (l : List ℕ). to_z w32 (spelt l)) (low_four z h)
    ∙ ap (to_z w32) (spelt_low 4 (of_z w32 z) (omega (arith, (Fits-of_z {w = w32} {z = z} fits).fits))) ∙ to_z-of_z {w = w32} {z = z} fits

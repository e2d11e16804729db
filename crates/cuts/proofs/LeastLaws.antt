-- The last place of the least in a range: one place more, two ranges that meet, and a range that is moved.
use mathlib.Core.Path.{◌≡◌, sym, ap, subst}
use mathlib.Core.Logic.{⊎_elim}
use Prim.Native.Nat.{ℕ, ◌≤◌, ◌<◌, zero, suc, ◌+◌}
use native.Mathlib.Omega.{arith}
use native.Mathlib.Nat.{le-suc_iff}
use native.Mathlib.Decide.{dec_le}
use Rattle.cuts.specs.Cheapest.{last_least}
use Rattle.cuts.specs.Look.{LeastIn}
use Rattle.cuts.proofs.CheapestLaws.{IsLastLeast, least_at}

-- What holds from a to b and at the next place holds up to there.
one_more : (P : ℕ → Type 0) (a b : ℕ) → ((k : ℕ) → a ≤ k → k ≤ b → P k) → P (suc b) → (k : ℕ) → a ≤ k → k ≤ suc b → P k
one_more P a b h p k i j = ⊎_elim (λ e. h k i e) (λ e. subst P (sym e) p) (le-suc_iff.0 j)

module _ (f : ℕ → ℕ) where
  -- One place alone.
  pub least_one : (a : ℕ) → LeastIn f a a a
  least_one a = record {
    from = omega arith;
    to = omega arith;
    least = λ k i j. let e : k ≡ a = omega arith in omega (arith, ap f e);
    last = λ k i j. absurd (omega arith);
  }

  module _ (a b m : ℕ) (r : LeastIn f a b m) where
    -- One place more is taken where it is as small.
    pub least_take : f (suc b) ≤ f m → LeastIn f a (suc b) (suc b)
    least_take h = record {
      from = omega (arith, r.from, r.to);
      to = omega arith;
      least = one_more (λ k. f (suc b) ≤ f k) a b (λ k i j. omega (arith, r.least k i j)) (omega arith);
      last = λ k i j. absurd (omega arith);
    }

    -- One place more is left where it is not as small.
    pub least_leave : f m < f (suc b) → LeastIn f a (suc b) m
    least_leave h = record {
      from = r.from;
      to = omega (arith, r.to);
      least = one_more (λ k. f m ≤ f k) a b r.least (omega arith);
      last = one_more (λ k. f m < f k) (suc m) b r.last h;
    }

    -- A range that begins no later than after this one, and ends no sooner.
    module _ (c d n : ℕ) (s : LeastIn f c d n) (ac : a ≤ c) (cb : c ≤ suc b) (bd : b ≤ d) where
      -- What holds in both holds in all.
      both : (P : ℕ → Type 0) (l : ℕ) → ((k : ℕ) → l ≤ k → k ≤ b → P k) → ((k : ℕ) → c ≤ k → k ≤ d → P k) → (k : ℕ) → l ≤ k → k ≤ d → P k
      both P l p q k i j = go (dec_le k b)
        where
          go : Dec (k ≤ b) → P k
          go (yes h) = p k i h
          go (no h) = q k (omega arith) j

      -- Its least is taken where it is as small.
      pub least_far : f n ≤ f m → LeastIn f a d n
      least_far h = record {
        from = omega (arith, s.from);
        to = s.to;
        least = both (λ k. f n ≤ f k) a (λ k i j. omega (arith, r.least k i j)) s.least;
        last = s.last;
      }

      -- And left where it is not.
      pub least_near : f m < f n → LeastIn f a d m
      least_near h = record {
        from = r.from;
        to = omega (arith, r.to);
        least = both (λ k. f m ≤ f k) a r.least (λ k i j. omega (arith, s.least k i j));
        last = both (λ k. f m < f k) (suc m) r.last (λ k i j. omega (arith, s.least k i j));
      }

  -- The last place of the least of all is what it is called.
  pub least_is : (n m : ℕ) → LeastIn f 0 n m → m ≡ last_least f n
  least_is n m r = go (last_least f n) (least_at f n)
    where
      go : (l : ℕ) → IsLastLeast f n l → m ≡ l
      go l s = below (dec_le m l) (dec_le l m)
        where
          below : Dec (m ≤ l) → Dec (l ≤ m) → m ≡ l
          below (yes p) (yes q) = omega arith
          below (yes p) (no q) = absurd (omega (arith, r.last l (omega arith) s.within, s.least m r.to))
          below (no p) (yes q) = absurd (omega (arith, s.last m r.to (omega arith), r.least l (omega arith) s.within))
          below (no p) (no q) = absurd (omega arith)

-- The same places, one further on, where each is the same amount more.
pub least_pass : (f g : ℕ → ℕ) (e a b m : ℕ) → ((k : ℕ) → a ≤ k → k ≤ b → f (suc k) ≡ g k + e) → LeastIn g a b m → LeastIn f (suc a) (suc b) (suc m)
least_pass f g e a b m h r = record {
  from = omega (arith, r.from);
  to = omega (arith, r.to);
  least = least;
  last = last;
}
  where
    here : f (suc m) ≡ g m + e
    here = h m r.from r.to

    least : (k : ℕ) → suc a ≤ k → k ≤ suc b → f (suc m) ≤ f k
    least zero i j = absurd (omega arith)
    least (suc k) i j = omega (arith, here, h k (omega arith) (omega arith), r.least k (omega arith) (omega arith))

    last : (k : ℕ) → suc m < k → k ≤ suc b → f (suc m) < f k
    last zero i j = absurd (omega arith)
    last (suc k) i j = omega (arith, here, h k (omega (arith, r.from)) (omega arith), r.last k (omega arith) (omega arith))

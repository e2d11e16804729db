-- Stretches of rows with one mark. A block holds rows of one mark, so the wanted cutting is that of the first stretch, whose rows may
-- all stand together, and then that of the rest.
use mathlib.Core.Path.{◌≡◌, refl, sym, ap, subst, ◌∙◌}
use mathlib.Core.Bool.{Bool, true, false, cond}
use mathlib.Core.List.{List, [], ◌∷◌, ◌++◌}
use mathlib.Core.Logic.{inl, inr}
use Prim.Native.Nat.{ℕ, zero, suc, ◌+◌, ◌≤◌}
use native.Mathlib.Omega.{arith}
use borrow.Author.Tests.{eq-eqb, eqb-true}
use lib.Dec.{eqb}
use lib.ListN.{length, take, drop, take-append-drop}
use lib.Seq.{take-append-le, drop-append-le}
use Rattle.cuts.specs.Cuts.{Yields, cost, Cuts, stretch, same_mark, Wanted}

module _ {A : Type 0} (mark : A → ℕ) where
  -- Every row has the mark.
  abbrev pub AllMarked : ℕ → List A → Type 0
  AllMarked m [] = Unit
  AllMarked m (x ∷ xs) = (mark x ≡ m) × AllMarked m xs

  -- The first row is in the stretch where it has the mark.
  pub stretch_more : (m : ℕ) (x : A) (xs : List A) → mark x ≡ m → stretch mark m (x ∷ xs) ≡ suc (stretch mark m xs)
  unfolding stretch
  stretch_more m x xs e = rw (eq-eqb (mark x) m e)

  -- The rows of a stretch have its mark, and the row after it has another.
  stretch_marked : (m : ℕ) (xs : List A) → AllMarked m (take (stretch mark m xs) xs)
  unfolding stretch
  stretch_marked m [] = tt
  stretch_marked m (x ∷ xs) = go (eqb (mark x) m) refl (stretch_marked m xs)
    where
      go : (b : Bool) → eqb (mark x) m ≡ b → AllMarked m (take (stretch mark m xs) xs) → AllMarked m (take (cond b (suc (stretch mark m xs)) 0) (x ∷ xs))
      go true e h = (eqb-true (mark x) m e, h)
      go false e h = tt

  stretch_apart : (m : ℕ) (xs : List A) → stretch mark m (drop (stretch mark m xs) xs) ≡ 0
  unfolding stretch
  stretch_apart m [] = refl
  stretch_apart m (x ∷ xs) = go (eqb (mark x) m) refl (stretch_apart m xs)
    where
      go : (b : Bool) → eqb (mark x) m ≡ b → stretch mark m (drop (stretch mark m xs) xs) ≡ 0
          → stretch mark m (drop (cond b (suc (stretch mark m xs)) 0) (x ∷ xs)) ≡ 0
      go true e h = h
      go false e h = rw e

  marked_drop : (m k : ℕ) (xs : List A) → AllMarked m xs → AllMarked m (drop k xs)
  marked_drop m zero xs h = h
  marked_drop m (suc k) [] h = tt
  marked_drop m (suc k) (x ∷ xs) h = marked_drop m k xs h.1

  -- ---- rows xs with one mark, and after them rows ys that begin with another

  stretch_append : (m : ℕ) (xs ys : List A) → AllMarked m xs → stretch mark m ys ≡ 0 → stretch mark m (xs ++ ys) ≡ length xs
  unfolding stretch
  stretch_append m [] ys h z = z
  stretch_append m (x ∷ xs) ys h z = rw (eq-eqb (mark x) m h.0) (ap suc (stretch_append m xs ys h.1 z))

  module _ (m : ℕ) (ys : List A) (apart : stretch mark m ys ≡ 0) where
    -- How many rows may stand in the block of x.
    limit : (x : A) (xs : List A) → mark x ≡ m → AllMarked m xs → same_mark mark x (xs ++ ys) ≡ length xs
    limit x xs e h = ap (λ (n : ℕ). stretch mark n (xs ++ ys)) e ∙ stretch_append m xs ys h apart

    -- A cut list of xs and one of ys are a cut list of both.
    cuts_append : (ks ls : List ℕ) (xs : List A) → AllMarked m xs → Cuts (λ x xs. length xs) ks xs → Cuts (same_mark mark) ls ys
        → Cuts (same_mark mark) (ks ++ ls) (xs ++ ys)
    cuts_append [] ls [] h v w = w
    cuts_append [] ls (x ∷ xs) h v w = absurd v
    cuts_append (k ∷ ks) ls [] h v w = absurd v
    cuts_append (zero ∷ ks) ls (x ∷ xs) h v w = absurd v
    cuts_append (suc k ∷ ks) ls (x ∷ xs) h v w = (
      omega (arith, v.0, limit x xs h.0 h.1),
      rw (drop-append-le k xs ys v.0) (cuts_append ks ls (drop k xs) (marked_drop m k xs h.1) v.1 w),
    )

    -- A cut list of both is one of xs and then one of ys.
    cuts_part : (js : List ℕ) (xs : List A) → AllMarked m xs → Cuts (same_mark mark) js (xs ++ ys)
        → (first : List ℕ) × (rest : List ℕ) × (js ≡ first ++ rest) × Cuts (λ x xs. length xs) first xs × Cuts (same_mark mark) rest ys
    cuts_part [] [] h v = ([], [], refl, tt, v)
    cuts_part (j ∷ js) [] h v = ([], j ∷ js, refl, tt, v)
    cuts_part [] (x ∷ xs) h v = absurd v
    cuts_part (zero ∷ js) (x ∷ xs) h v = absurd v
    cuts_part (suc k ∷ js) (x ∷ xs) h v =
        let l : k ≤ length xs = omega (arith, v.0, limit x xs h.0 h.1) in
        let r = cuts_part js (drop k xs) (marked_drop m k xs h.1) (rw (drop-append-le k xs ys l) at v.1) in
        (suc k ∷ r.0, r.1, ap (λ (t : List ℕ). suc k ∷ t) r.2, (l, r.3), r.4)

  -- The cut lists cost together what they cost apart.
  cost_append : (C : List A → ℕ) (ks ls : List ℕ) (xs ys : List A) → Cuts (λ x xs. length xs) ks xs → cost C (ks ++ ls) (xs ++ ys) ≡ cost C ks xs + cost C ls ys
  cost_append C [] ls [] ys v = omega arith
  cost_append C [] ls (x ∷ xs) ys v = absurd v
  cost_append C (k ∷ ks) ls [] ys v = absurd v
  cost_append C (zero ∷ ks) ls (x ∷ xs) ys v = absurd v
  cost_append C (suc k ∷ ks) ls (x ∷ xs) ys v =
      rw (take-append-le k xs ys v.0, drop-append-le k xs ys v.0) (omega (arith, cost_append C ks ls (drop k xs) ys v.1))

  -- Of cut lists of the same rows one yields where its parts do.
  yields_append : (js ks bs ls : List ℕ) (xs : List A) → Cuts (λ x xs. length xs) js xs → Cuts (λ x xs. length xs) ks xs → Yields js ks → Yields bs ls
      → Yields (js ++ bs) (ks ++ ls)
  yields_append [] [] bs ls xs v w p q = q
  yields_append [] (k ∷ ks) bs ls [] v w p q = absurd w
  yields_append [] (k ∷ ks) bs ls (x ∷ xs) v w p q = absurd v
  yields_append (j ∷ js) [] bs ls xs v w p q = absurd p
  yields_append (j ∷ js) (k ∷ ks) bs ls [] v w p q = absurd v
  yields_append (zero ∷ js) (k ∷ ks) bs ls (x ∷ xs) v w p q = absurd v
  yields_append (suc j ∷ js) (zero ∷ ks) bs ls (x ∷ xs) v w p q = absurd w
  yields_append (suc j ∷ js) (suc k ∷ ks) bs ls (x ∷ xs) v w (inl h) q = inl h
  yields_append (suc j ∷ js) (suc k ∷ ks) bs ls (x ∷ xs) v w (inr h) q =
      let e : k ≡ j = omega (arith, h.0) in
      inr (h.0, yields_append js ks bs ls (drop j xs) v.1 (rw e at w.1) h.1 q)

  -- The wanted cutting of xs, and that of ys after it, are the wanted cutting of both.
  pub wanted_apart : (m : ℕ) (ys : List A) (apart : stretch mark m ys ≡ 0) (C : List A → ℕ) (xs : List A) (ks ls : List ℕ) → AllMarked m xs
      → Wanted C (λ x xs. length xs) xs ks → Wanted C (same_mark mark) ys ls → Wanted C (same_mark mark) (xs ++ ys) (ks ++ ls)
  wanted_apart m ys apart C xs ks ls h p q = record {
    cuts = cuts_append m ys apart ks ls xs h p.cuts q.cuts;
    least = λ js v.
        let r = cuts_part m ys apart js xs h v in
        omega (arith, ap (λ (t : List ℕ). cost C t (xs ++ ys)) r.2, cost_append C r.0 r.1 xs ys r.3, cost_append C ks ls xs ys p.cuts, p.least r.0 r.3, q.least r.1 r.4);
    last = λ js v e.
        let r = cuts_part m ys apart js xs h v in
        let c = ap (λ (t : List ℕ). cost C t (xs ++ ys)) r.2 in
        let a = cost_append C r.0 r.1 xs ys r.3 in
        let b = cost_append C ks ls xs ys p.cuts in
        let ea : cost C r.0 xs ≡ cost C ks xs = omega (arith, c, a, b, p.least r.0 r.3, q.least r.1 r.4, e) in
        let eb : cost C r.1 ys ≡ cost C ls ys = omega (arith, c, a, b, p.least r.0 r.3, q.least r.1 r.4, e) in
        rw r.2 (yields_append r.0 ks r.1 ls xs r.3 p.cuts (p.last r.0 r.3 ea) (q.last r.1 r.4 eb));
  }

  -- ---- the first stretch of the rows, which are n, and the rest

  module _ (C : List A → ℕ) (m n : ℕ) (rows : List A) (is : n ≡ stretch mark m rows) (ks ls : List ℕ) where
    -- The wanted cutting of the rows is that of the first stretch and then that of the rest.
    pub wanted_stretch : Wanted C (λ x xs. length xs) (take n rows) ks → Wanted C (same_mark mark) (drop n rows) ls → Wanted C (same_mark mark) rows (ks ++ ls)
    wanted_stretch p q =
        subst (λ (l : List A). Wanted C (same_mark mark) l (ks ++ ls)) (take-append-drop n rows)
        (wanted_apart m (drop n rows) (rw is (stretch_apart m rows)) C (take n rows) ks ls (rw is (stretch_marked m rows)) p q)

    -- It costs what they cost together.
    pub cost_stretch : Cuts (λ x xs. length xs) ks (take n rows) → cost C (ks ++ ls) rows ≡ cost C ks (take n rows) + cost C ls (drop n rows)
    cost_stretch v = ap (cost C (ks ++ ls)) (sym (take-append-drop n rows)) ∙ cost_append C ks ls (take n rows) (drop n rows) v

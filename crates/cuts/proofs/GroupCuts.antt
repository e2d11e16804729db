-- The wanted cutting of rows from the wanted cutting of groups of like rows.
use mathlib.Core.Path.{◌≡◌, refl, sym, ap, ap₂, ◌∙◌, subst, subst₂}
use mathlib.Core.List.{List, [], ◌∷◌, ◌++◌}
use mathlib.Core.Logic.{◌⊎◌, inl, inr}
use Prim.Native.Nat.{ℕ, ◌≤◌, ◌<◌, zero, suc}
use native.Mathlib.Omega.{arith}
use lib.ListN.{length, take, drop, length-append}
use lib.Seq.{take-append-add, drop-append-add}
use Rattle.cuts.specs.Cheapest.{chosen}
use Rattle.cuts.specs.Cuts.{Yields, cost, Cuts, Wanted}
use Rattle.cuts.proofs.WantedUnique.{yields_antisym}
use Rattle.cuts.proofs.LikeRows.{Together, cuts_split, cuts_zero, Trade, wanted_tail, no_cut}
use Rattle.cuts.proofs.CheapestLaws.{chosen_wanted}

module _ {A : Type 0} where
  -- The rows of the groups.
  abbrev pub flat : List (List A) → List A
  flat [] = []
  flat (g ∷ gs) = g ++ flat gs

  -- The cut list of the rows, from that of the groups.
  abbrev pub group_rows : List ℕ → List (List A) → List ℕ
  group_rows [] gs = []
  group_rows (k ∷ ks) gs = length (flat (take k gs)) ∷ group_rows ks (drop k gs)

  -- The rows of the first k groups are as many of the first rows.
  take_flat : (k : ℕ) (gs : List (List A)) → take (length (flat (take k gs))) (flat gs) ≡ flat (take k gs)
  take_flat zero gs = refl
  take_flat (suc k) [] = refl
  take_flat (suc k) (g ∷ gs) =
      ap (λ (n : ℕ). take n (g ++ flat gs)) (length-append g (flat (take k gs)))
      ∙ take-append-add g (flat gs) (length (flat (take k gs))) ∙ ap (λ (r : List A). g ++ r) (take_flat k gs)

  drop_flat : (k : ℕ) (gs : List (List A)) → drop (length (flat (take k gs))) (flat gs) ≡ flat (drop k gs)
  drop_flat zero gs = refl
  drop_flat (suc k) [] = refl
  drop_flat (suc k) (g ∷ gs) =
      ap (λ (n : ℕ). drop n (g ++ flat gs)) (length-append g (flat (take k gs)))
      ∙ drop-append-add g (flat gs) (length (flat (take k gs))) ∙ drop_flat k gs

  -- The two cut lists cost the same.
  pub cost_rows : (C : List A → ℕ) (js : List ℕ) (gs : List (List A)) → cost (λ b. C (flat b)) js gs ≡ cost C (group_rows js gs) (flat gs)
  cost_rows C [] gs = refl
  cost_rows C (j ∷ js) gs = rw (take_flat j gs, drop_flat j gs, cost_rows C js (drop j gs))

  module _ (Like : A → A → Type 0) where
    -- A group: some rows, each like the next.
    abbrev pub Chain : List A → Type 0
    Chain [] = ⊥
    Chain (x ∷ []) = Unit
    Chain (x ∷ y ∷ g) = Like x y × Chain (y ∷ g)

    -- All are groups.
    abbrev pub Chains : List (List A) → Type 0
    Chains [] = Unit
    Chains (g ∷ gs) = Chain g × Chains gs

    chains_drop : (k : ℕ) (gs : List (List A)) → Chains gs → Chains (drop k gs)
    chains_drop zero gs c = c
    chains_drop (suc k) [] c = c
    chains_drop (suc k) (g ∷ gs) c = chains_drop k gs c.1

    chain_some : (g : List A) → Chain g → 0 < length g
    chain_some [] c = absurd c
    chain_some (x ∷ g) c = omega arith

    -- More groups are more rows.
    more_rows : (i j : ℕ) (gs : List (List A)) → Chains gs → i < j → j ≤ length gs → length (flat (take i gs)) < length (flat (take j gs))
    more_rows i j [] c h l = absurd (omega arith)
    more_rows i zero (g ∷ gs) c h l = absurd (omega arith)
    more_rows zero (suc j) (g ∷ gs) c h l = omega (arith, length-append g (flat (take j gs)), chain_some g c.0)
    more_rows (suc i) (suc j) (g ∷ gs) c h l =
        omega (arith, length-append g (flat (take i gs)), length-append g (flat (take j gs)), more_rows i j gs c.1 (omega arith) (omega arith))

    -- A place in the rows that is the end of a group.
    record Edge (gs : List (List A)) (a : ℕ) : Type 0 where
      place : ℕ
      within : place < length gs
      here : suc a ≡ length (flat (take (suc place) gs))

    -- A place in the rows that stands between like rows.
    record Inner (rows : List A) (a : ℕ) : Type 0 where
      front : List A
      one : A
      two : A
      rest : List A
      is : rows ≡ front ++ (one ∷ two ∷ rest)
      size : a ≡ length front
      like : Like one two

    inner_cons : (x : A) (rows : List A) (a : ℕ) → Inner rows a → Inner (x ∷ rows) (suc a)
    inner_cons x rows a r = record {
      front = x ∷ r.front;
      one = r.one;
      two = r.two;
      rest = r.rest;
      is = ap (λ (t : List A). x ∷ t) r.is;
      size = ap suc r.size;
      like = r.like;
    }

    edge : (gs : List (List A)) → Chains gs → (a : ℕ) → a < length (flat gs) → Edge gs a ⊎ Inner (flat gs) a
    edge [] c a h = absurd (omega arith)
    edge ([] ∷ gs) c a h = absurd c.0
    edge ((x ∷ []) ∷ gs) c zero h = inl (record { place = 0; within = omega arith; here = refl })
    edge ((x ∷ []) ∷ gs) c (suc a) h = go (edge gs c.1 a (omega arith))
      where
        go : Edge gs a ⊎ Inner (flat gs) a → Edge ((x ∷ []) ∷ gs) (suc a) ⊎ Inner (x ∷ flat gs) (suc a)
        go (inl e) = inl (record { place = suc e.place; within = omega (arith, e.within); here = ap suc e.here })
        go (inr e) = inr (inner_cons x (flat gs) a e)
    edge ((x ∷ y ∷ g) ∷ gs) c zero h =
        inr (record { front = []; one = x; two = y; rest = g ++ flat gs; is = refl; size = refl; like = c.0.0 })
    edge ((x ∷ y ∷ g) ∷ gs) c (suc a) h = go (edge ((y ∷ g) ∷ gs) (c.0.1, c.1) a (omega arith))
      where
        go : Edge ((y ∷ g) ∷ gs) a ⊎ Inner (y ∷ (g ++ flat gs)) a → Edge ((x ∷ y ∷ g) ∷ gs) (suc a) ⊎ Inner (x ∷ y ∷ (g ++ flat gs)) (suc a)
        go (inl e) = inl (record { place = e.place; within = omega (arith, e.within); here = ap suc e.here })
        go (inr e) = inr (inner_cons x (y ∷ (g ++ flat gs)) a e)

-- The limit of a block of groups is that of its rows.
pub record SameLimit {A : Type 0} (Like : A → A → Type 0) (more : A → List A → ℕ) (moreGroups : List A → List (List A) → ℕ) : Type 0 where
  pub to : (g : List A) (gs : List (List A)) (k : ℕ) → Chains Like (g ∷ gs) → k ≤ moreGroups g gs → Together more (length (g ++ flat (take k gs))) (g ++ flat gs)
  pub from : (g : List A) (gs : List (List A)) (k : ℕ) → Chains Like (g ∷ gs) → k ≤ length gs → Together more (length (g ++ flat (take k gs))) (g ++ flat gs) → k ≤ moreGroups g gs
  pub short : (g : List A) (gs : List (List A)) → moreGroups g gs ≤ length gs

module _ {A : Type 0} (C : List A → ℕ) (more : A → List A → ℕ) (moreGroups : List A → List (List A) → ℕ) (Like : A → A → Type 0)
    (trade : Trade C more Like) (limit : SameLimit Like more moreGroups) where
  -- A cut list of the groups is, in rows, one of the rows.
  cuts_rows : (js : List ℕ) (gs : List (List A)) → Chains Like gs → Cuts moreGroups js gs → Cuts more (group_rows js gs) (flat gs)
  cuts_rows [] [] c v = tt
  cuts_rows [] (g ∷ gs) c v = absurd v
  cuts_rows (j ∷ js) [] c v = absurd v
  cuts_rows (zero ∷ js) (g ∷ gs) c v = absurd v
  cuts_rows (suc j ∷ js) ([] ∷ gs) c v = absurd c.0
  cuts_rows (suc j ∷ js) ((x ∷ g) ∷ gs) c v =
      (limit.to (x ∷ g) gs j c v.0, rw (drop_flat (suc j) ((x ∷ g) ∷ gs)) (cuts_rows js (drop j gs) (chains_drop Like j gs c.1) v.1))

  -- The tie rule says the same of cut lists of groups and of rows.
  yields_rows : (is js : List ℕ) (gs : List (List A)) → Chains Like gs → Cuts moreGroups js gs → Yields is js → Yields (group_rows is gs) (group_rows js gs)
  yields_rows [] js gs c v h = tt
  yields_rows (i ∷ is) [] gs c v h = absurd h
  yields_rows (i ∷ is) (zero ∷ js) gs c v h = absurd (cuts_zero moreGroups js gs v)
  yields_rows (i ∷ is) (suc j ∷ js) [] c v h = absurd v
  yields_rows (i ∷ is) (suc j ∷ js) (g ∷ gs) c v (inl h) = inl (more_rows Like i (suc j) (g ∷ gs) c h (omega (arith, v.0, limit.short g gs)))
  yields_rows (i ∷ is) (suc j ∷ js) (g ∷ gs) c v (inr h) =
      inr (
        ap (λ (n : ℕ). length (flat (take n (g ∷ gs)))) h.0,
        rw h.0 (yields_rows is js (drop j gs) (chains_drop Like j gs c.1) v.1 h.1),
      )

  -- A wanted cutting of the rows parts no group.
  record Narrow (gs : List (List A)) (ks : List ℕ) : Type 0 where
    cut : List ℕ
    valid : Cuts moreGroups cut gs
    is : group_rows cut gs ≡ ks

  ok_short : (k : ℕ) (rows : List A) → Together more (suc k) rows → k < length rows
  ok_short k [] p = absurd p
  ok_short k (x ∷ xs) p = omega (arith, trade.short x xs)

  narrow : (ks : List ℕ) (gs : List (List A)) → Chains Like gs → Wanted C more (flat gs) ks → Narrow gs ks
  narrow [] [] c w = record { cut = []; valid = tt; is = refl }
  narrow [] ([] ∷ gs) c w = absurd c.0
  narrow [] ((x ∷ g) ∷ gs) c w = absurd w.cuts
  narrow (zero ∷ ks) gs c w = absurd (cuts_zero more ks (flat gs) w.cuts)
  narrow (suc a ∷ ks) [] c w = absurd w.cuts
  narrow (suc a ∷ ks) (g ∷ gs) c w =
      go (λ gs' c' w'. narrow ks gs' c' w') (edge Like (g ∷ gs) c a (ok_short a (g ++ flat gs) (cuts_split more a ks (g ++ flat gs) w.cuts).0))
    where
      there : (e : Edge Like (g ∷ gs) a) → Wanted C more (flat (drop e.place gs)) ks
      there e =
          subst (λ (r : List A). Wanted C more r ks) (ap (λ (n : ℕ). drop n (g ++ flat gs)) e.here ∙ drop_flat (suc e.place) (g ∷ gs))
          (wanted_tail C more Like trade a ks (g ++ flat gs) w)

      fits : (e : Edge Like (g ∷ gs) a) → e.place ≤ moreGroups g gs
      fits e =
          limit.from g gs e.place c (omega (arith, e.within))
          (subst (λ (n : ℕ). Together more n (g ++ flat gs)) e.here (cuts_split more a ks (g ++ flat gs) w.cuts).0)

      go : ((gs' : List (List A)) → Chains Like gs' → Wanted C more (flat gs') ks → Narrow gs' ks) → Edge Like (g ∷ gs) a ⊎ Inner Like (g ++ flat gs) a
          → Narrow (g ∷ gs) (suc a ∷ ks)
      go again (inl e) =
          let n = again (drop e.place gs) (chains_drop Like e.place gs c.1) (there e) in
          record { cut = suc e.place ∷ n.cut; valid = (fits e, n.valid); is = ap₂ ◌∷◌ (sym e.here) n.is }
      go again (inr e) =
          absurd (no_cut C more Like trade e.front e.one e.two e.rest e.like ks
          (subst₂ (λ (r : List A) (n : ℕ). Wanted C more r (suc n ∷ ks)) e.is e.size w))

  -- The wanted cutting of the groups is the wanted cutting of the rows.
  pub wanted_rows : (gs : List (List A)) → Chains Like gs → (js : List ℕ) → Wanted (λ b. C (flat b)) moreGroups gs js → Wanted C more (flat gs) (group_rows js gs)
  wanted_rows gs c js w =
      let best_cost : Wanted C more (flat gs) (chosen C more (flat gs)) = chosen_wanted C more (flat gs) in
      let n = narrow (chosen C more (flat gs)) gs c best_cost in
      let q : Wanted C more (flat gs) (group_rows n.cut gs) = rw n.is best_cost in
      let v : Cuts more (group_rows js gs) (flat gs) = cuts_rows js gs c w.cuts in
      let e : cost C (group_rows js gs) (flat gs) ≡ cost C (group_rows n.cut gs) (flat gs) =
      omega (arith, w.least n.cut n.valid, q.least (group_rows js gs) v, cost_rows C js gs, cost_rows C n.cut gs) in
      let e' : cost (λ b. C (flat b)) n.cut gs ≡ cost (λ b. C (flat b)) js gs = cost_rows C n.cut gs ∙ sym e ∙ sym (cost_rows C js gs) in
      let s : group_rows n.cut gs ≡ group_rows js gs =
      yields_antisym (group_rows n.cut gs) (group_rows js gs) (yields_rows n.cut js gs c w.cuts (w.last n.cut n.valid e')) (q.last (group_rows js gs) v e) in
      subst (Wanted C more (flat gs)) s q

-- Laws of columns: which elements a block's columns are, that none stands twice, and what a list of columns weighs, whatever each weighs.
use Prim.Native.Nat.{ℕ, zero, suc, ◌≤◌, ◌<◌, ◌+◌}
use mathlib.Core.Path.{◌≡◌, refl, ap, sym, ◌∙◌}
use mathlib.Core.Bool.{Bool, true, false, cond, not, ◌&&◌, ◌||◌, true≢false}
use mathlib.Core.List.{List, [], ◌∷◌}
use native.Mathlib.Nat.{le_antisymm}
use native.Mathlib.Omega.{arith}
use lib.Dec.{eqb, ltb}
use lib.ListN.{length}
use borrow.Author.Tests.{eq-eqb, eqb-true, ltb-true}
use Rattle.text.proofs.Bools.{bools}
use Rattle.element.specs.Table.{elements, upward, column_order}
use Rattle.element.specs.Observation.{Observation}
use Rattle.report.specs.Report.{member}
use Rattle.layout.specs.Written.{is_anywhere, passing, columns_of}
use Rattle.text.proofs.Table.{below}
use Rattle.text.proofs.Bools.{T_true}

-- Tests.

-- The first part of a conjunction that is true.
pub and_first : (a b : Bool) → a && b ≡ true → a ≡ true
and_first true b h = refl
and_first false b h = absurd (true≢false (sym h))

-- Its second part.
pub and_second : (a b : Bool) → a && b ≡ true → b ≡ true
and_second true b h = h
and_second false b h = absurd (true≢false (sym h))

-- A disjunction whose second part is true.
pub or_second : (a b : Bool) → b ≡ true → a || b ≡ true
or_second true b h = refl
or_second false b h = h

-- Every number of a list passes a test.
abbrev pub all : (ℕ → Bool) → List ℕ → Bool
all p [] = true
all p (c ∷ cs) = p c && all p cs

-- What every number of a list passes each of them passes.
pub member_all : (p : ℕ → Bool) (cs : List ℕ) → all p cs ≡ true → (e : ℕ) → member e cs ≡ true → p e ≡ true
member_all p [] h e m = absurd (true≢false (sym m))
member_all p (c ∷ cs) h e m =
    bools (eqb c e)
    (λ q. let z : c ≡ e = eqb-true c e q in rw z at (and_first (p c) (all p cs) h))
    (λ q. member_all p cs (and_second (p c) (all p cs) h) e (rw q at m))

-- No number stands twice.
abbrev pub is_distinct : List ℕ → Bool
is_distinct [] = true
is_distinct (c ∷ cs) = not (member c cs) && is_distinct cs

-- Those that pass a test do.
pub passing_passes : (p : ℕ → Bool) (cs : List ℕ) (e : ℕ) → member e (passing p cs) ≡ true → p e ≡ true
unfolding passing
passing_passes p [] e m = absurd (true≢false (sym m))
passing_passes p (c ∷ cs) e m =
    bools (p c)
    (λ q. bools (eqb c e) (λ r. let z : c ≡ e = eqb-true c e r in rw z at q) (λ r. passing_passes p cs e (rw (q, r) at m)))
    (λ q. passing_passes p cs e (rw q at m))

-- They are of the list.
pub passing_among : (p : ℕ → Bool) (cs : List ℕ) (e : ℕ) → member e (passing p cs) ≡ true → member e cs ≡ true
unfolding passing
passing_among p [] e m = m
passing_among p (c ∷ cs) e m =
    bools (p c)
    (λ q. bools (eqb c e) (λ r. rw r) (λ r. rw r (passing_among p cs e (rw (q, r) at m))))
    (λ q. or_second (eqb c e) (member e cs) (passing_among p cs e (rw q at m)))

-- And one of the list that passes is one of them.
pub among_passing : (p : ℕ → Bool) (cs : List ℕ) (e : ℕ) → p e ≡ true → member e cs ≡ true → member e (passing p cs) ≡ true
unfolding passing
among_passing p [] e h m = m
among_passing p (c ∷ cs) e h m =
    bools (eqb c e)
    (λ r. let z : c ≡ e = eqb-true c e r in let q : p c ≡ true = rw z h in rw (q, r))
    (λ r. bools (p c)
    (λ q. rw (q, r) (among_passing p cs e h (rw r at m)))
    (λ q. rw q (among_passing p cs e h (rw r at m))))

-- None stands twice among them where none does in the list.
passing_distinct : (p : ℕ → Bool) (cs : List ℕ) → is_distinct cs ≡ true → is_distinct (passing p cs) ≡ true
unfolding passing
passing_distinct p [] h = refl
passing_distinct p (c ∷ cs) h =
    bools (member c cs)
    (λ m. absurd (true≢false (sym (rw m at h))))
    (λ m. bools (p c)
    (λ q. rw q (bools (member c (passing p cs))
    (λ r. absurd (true≢false (sym (passing_among p cs c r) ∙ m)))
    (λ r. rw r (passing_distinct p cs (rw m at h)))))
    (λ q. rw q (passing_distinct p cs (rw m at h))))

-- Weights.

-- What the numbers of a list weigh together.
unfoldable pub weigh : (ℕ → ℕ) → List ℕ → ℕ
weigh w [] = 0
weigh w (c ∷ cs) = w c + weigh w cs

-- A list without the first that is the number.
abbrev without : ℕ → List ℕ → List ℕ
without e [] = []
without e (c ∷ cs) = cond (eqb c e) cs (c ∷ without e cs)

-- It weighs less by that number, and has every other one still.
without_weighs : (w : ℕ → ℕ) (cs : List ℕ) (e : ℕ) → member e cs ≡ true → weigh w cs ≡ w e + weigh w (without e cs)
unfolding weigh
without_weighs w [] e m = absurd (true≢false (sym m))
without_weighs w (c ∷ cs) e m =
    bools (eqb c e)
    (λ q. let z : c ≡ e = eqb-true c e q in rw (q, z))
    (λ q. rw q (omega (arith, without_weighs w cs e (rw q at m))))

without_member : (cs : List ℕ) (e d : ℕ) → eqb e d ≡ false → member d cs ≡ true → member d (without e cs) ≡ true
without_member [] e d n m = m
without_member (c ∷ cs) e d n m =
    bools (eqb c e)
    (λ q. rw q (let z : c ≡ e = eqb-true c e q in rw (z, n) at m))
    (λ q. rw q (bools (eqb c d) (λ r. rw r) (λ r. rw r (without_member cs e d n (rw r at m)))))

-- Numbers that stand once each and all among others weigh no more than these.
pub distinct_weighs : (w : ℕ → ℕ) (ds cs : List ℕ) → is_distinct ds ≡ true → ((e : ℕ) → member e ds ≡ true → member e cs ≡ true)
    → weigh w ds ≤ weigh w cs
unfolding weigh
distinct_weighs w [] cs h k = omega arith
distinct_weighs w (d ∷ ds) cs h k =
    bools (member d ds)
    (λ m. absurd (true≢false (sym (rw m at h))))
    (λ m.
    let a : member d cs ≡ true = k d (rw (eq-eqb d d refl)) in
    let i : weigh w ds ≤ weigh w (without d cs) = distinct_weighs w ds (without d cs) (rw m at h) (others m) in
    omega (arith, without_weighs w cs d a))
  where
    others : member d ds ≡ false → (e : ℕ) → member e ds ≡ true → member e (without d cs) ≡ true
    others m e g =
        bools (eqb d e)
        (λ q. let z : d ≡ e = eqb-true d e q in absurd (true≢false (sym g ∙ (rw z at m))))
        (λ q. without_member cs d e q (k e (or_second (eqb d e) (member e ds) g)))

-- Those that pass weigh as all do, the others nothing.
pub passing_weighs : (p : ℕ → Bool) (w : ℕ → ℕ) (cs : List ℕ) → weigh w (passing p cs) ≡ weigh (λ c. cond (p c) (w c) 0) cs
unfolding weigh passing
passing_weighs p w [] = refl
passing_weighs p w (c ∷ cs) =
    bools (p c) (λ q. rw q (omega (arith, passing_weighs p w cs))) (λ q. rw q (omega (arith, passing_weighs p w cs)))

-- Where each weighs the same they do together.
pub same_weight : (v w : ℕ → ℕ) (cs : List ℕ) → ((e : ℕ) → v e ≡ w e) → weigh v cs ≡ weigh w cs
unfolding weigh
same_weight v w [] h = refl
same_weight v w (c ∷ cs) h = omega (arith, h c, same_weight v w cs h)

-- One more each.
pub suc_weighs : (w : ℕ → ℕ) (cs : List ℕ) → weigh (λ c. suc (w c)) cs ≡ weigh w cs + length cs
unfolding weigh
suc_weighs w [] = refl
suc_weighs w (c ∷ cs) = omega (arith, suc_weighs w cs)

-- One each.
pub one_weighs : (cs : List ℕ) → weigh (λ c. 1) cs ≡ length cs
unfolding weigh
one_weighs [] = refl
one_weighs (c ∷ cs) = omega (arith, one_weighs cs)

-- From one later on, each by the next weight.
pub upward_weighs : (w : ℕ → ℕ) (i n : ℕ) → weigh w (upward (suc i) n) ≡ weigh (λ e. w (suc e)) (upward i n)
unfolding weigh
upward_weighs w i zero = refl
upward_weighs w i (suc n) = ap (λ (x : ℕ). w (suc i) + x) (upward_weighs w (suc i) n)

-- The order of columns has each element once.

order_below : (e : ℕ) → member e column_order ≡ true → e < elements
order_below e m = ltb-true e elements (member_all (λ c. ltb c elements) column_order refl e m)

order_member : (e : ℕ) → e < elements → member e column_order ≡ true
order_member e h = T_true _ (below (λ c. member c column_order) elements tt e h)

-- Whatever each element weighs, the order of columns weighs what the elements do.
pub order_weighs : (w : ℕ → ℕ) → weigh w column_order ≡ weigh w (upward 0 elements)
order_weighs w =
    le_antisymm (distinct_weighs w column_order (upward 0 elements) refl (λ e m. T_true _ (below (λ c. member c (upward 0 elements)) elements tt e (order_below e m))))
    (distinct_weighs w (upward 0 elements) column_order refl
    (λ e m. order_member e (ltb-true e elements (member_all (λ c. ltb c elements) (upward 0 elements) refl e m))))

-- A block's columns.

-- A column is present in some row.
pub columns_present : (rows : List Observation) (e : ℕ) → member e (columns_of rows) ≡ true → is_anywhere rows e ≡ true
unfolding columns_of
columns_present rows e m = passing_passes (is_anywhere rows) column_order e m

-- It is an element.
pub columns_below : (rows : List Observation) (e : ℕ) → member e (columns_of rows) ≡ true → e < elements
unfolding columns_of
columns_below rows e m = order_below e (passing_among (is_anywhere rows) column_order e m)

-- An element that is present in some row is a column.
pub present_columns : (rows : List Observation) (e : ℕ) → e < elements → is_anywhere rows e ≡ true → member e (columns_of rows) ≡ true
unfolding columns_of
present_columns rows e h a = among_passing (is_anywhere rows) column_order e a (order_member e h)

-- No column stands twice.
pub columns_distinct : (rows : List Observation) → is_distinct (columns_of rows) ≡ true
unfolding columns_of
columns_distinct rows = passing_distinct (is_anywhere rows) column_order refl

-- COMPARING IS THE ORDER OF THE INTEGERS THAT THE TEXTS DENOTE: TOTAL, ANTISYMMETRIC, TRANSITIVE. Assumes nothing.
use Rattle.std.specs.Prelude.{◌≡◌, ◌↔◌, ◌⊎◌, Bool, List, [], ◌∷◌, ℕ, ltb, ℤ, pos, negsuc, ◌<ℤ◌, Ok, Err}
use Rattle.std.proofs.Math.Path.{refl}
use Rattle.std.proofs.Common.{sym, ap, subst, ◌∙◌, inl, inr, arith, lt→ltb, ltb→lt, ltb-true, ltb-false}
use Rattle.std.proofs.Math.Bool.{true, false}
use Rattle.std.specs.Int.Signed.{<ℤ_irrefl}
use Rattle.language.specs.Kind.{pick}
use Rattle.std.specs.declared.cmp.Ordering.{Ordering}
use Rattle.std.specs.declared.cmp.Ordering.TheVariants.{Less, Equal, Greater}
use Rattle.integers.specs.Integer.{digit, digits, counting, is_integer, natural, integer}
use Rattle.integers.specs.Order.{Compared, not_int, compared_verdict, order_of, compared}
use Rattle.integers.specs.Unique.{verdict_tells}
use Rattle.integers.specs.Signed.{one_text}

-- what an answer says of two integers
abbrev pub Told : Compared → ℤ → ℤ → Type 0
Told (Ok Less) x y = x <ℤ y
Told (Ok Equal) x y = x ≡ y
Told (Ok Greater) x y = y <ℤ x
Told (Err _) x y = ⊥

-- ---- the order of two integers

told_numbers : (a b : ℕ) → Told (Ok (order_of (pos a) (pos b))) (pos a) (pos b)
unfolding order_of
told_numbers a b = go (ltb a b) (ltb b a) refl refl
  where
    go : (x y : Bool) → ltb a b ≡ x → ltb b a ≡ y → Told (Ok (pick x Less (pick y Greater Equal))) (pos a) (pos b)
    go true y p q = record { lt = lt→ltb a b (ltb-true a b p) }
    go false true p q = record { lt = lt→ltb b a (ltb-true b a q) }
    go false false p q = let h = ltb-false a b p in let k = ltb-false b a q in let e : a ≡ b = omega arith in ap pos e

told_negatives : (a b : ℕ) → Told (Ok (order_of (negsuc a) (negsuc b))) (negsuc a) (negsuc b)
unfolding order_of
told_negatives a b = go (ltb b a) (ltb a b) refl refl
  where
    go : (x y : Bool) → ltb b a ≡ x → ltb a b ≡ y → Told (Ok (pick x Less (pick y Greater Equal))) (negsuc a) (negsuc b)
    go true y p q = record { lt = lt→ltb b a (ltb-true b a p) }
    go false true p q = record { lt = lt→ltb a b (ltb-true a b q) }
    go false false p q = let h = ltb-false b a p in let k = ltb-false a b q in let e : a ≡ b = omega arith in ap negsuc e

pub order_told : (x y : ℤ) → Told (Ok (order_of x y)) x y
unfolding order_of
order_told (pos a) (pos b) = told_numbers a b
order_told (pos a) (negsuc b) = record { lt = tt }
order_told (negsuc a) (pos b) = record { lt = tt }
order_told (negsuc a) (negsuc b) = told_negatives a b

less_trans : (x y z : ℤ) → x <ℤ y → y <ℤ z → x <ℤ z
less_trans (pos a) (pos b) (pos c) p q =
    let h = ltb→lt a b p.lt in
    let k = ltb→lt b c q.lt in
    record { lt = lt→ltb a c (omega arith) }
less_trans (pos a) (pos b) (negsuc c) p q = absurd q.lt
less_trans (pos a) (negsuc b) z p q = absurd p.lt
less_trans (negsuc a) (pos b) (pos c) p q = record { lt = tt }
less_trans (negsuc a) (pos b) (negsuc c) p q = absurd q.lt
less_trans (negsuc a) (negsuc b) (pos c) p q = record { lt = tt }
less_trans (negsuc a) (negsuc b) (negsuc c) p q =
    let h = ltb→lt b a p.lt in
    let k = ltb→lt c b q.lt in
    record { lt = lt→ltb c a (omega arith) }

less_not_same : (x y : ℤ) → x <ℤ y → x ≡ y → ⊥
less_not_same x y p e = <ℤ_irrefl (subst (λ z. x <ℤ z) (sym e) p)

less_not_back : (x y : ℤ) → x <ℤ y → y <ℤ x → ⊥
less_not_back x y p q = <ℤ_irrefl (less_trans x y x p q)

told_alike : (c d : Compared) (x y : ℤ) → Told c x y → Told d x y → c ≡ d
told_alike (Ok Less) (Ok Less) x y p q = refl
told_alike (Ok Less) (Ok Equal) x y p q = absurd (less_not_same x y p q)
told_alike (Ok Less) (Ok Greater) x y p q = absurd (less_not_back x y p q)
told_alike (Ok Less) (Err _) x y p q = absurd q
told_alike (Ok Equal) (Ok Less) x y p q = absurd (less_not_same x y q p)
told_alike (Ok Equal) (Ok Equal) x y p q = refl
told_alike (Ok Equal) (Ok Greater) x y p q = absurd (less_not_same y x q (sym p))
told_alike (Ok Equal) (Err _) x y p q = absurd q
told_alike (Ok Greater) (Ok Less) x y p q = absurd (less_not_back x y q p)
told_alike (Ok Greater) (Ok Equal) x y p q = absurd (less_not_same y x p (sym q))
told_alike (Ok Greater) (Ok Greater) x y p q = refl
told_alike (Ok Greater) (Err _) x y p q = absurd q
told_alike (Err _) d x y p q = absurd p

-- ---- comparing texts

-- `compare` answers c of these texts
abbrev pub Answers : List ℕ → List ℕ → Compared → Type 0
Answers a b c = compared_verdict c ≡ compared a b

module _ (a b : List ℕ) where
  abbrev x : ℤ
  x = integer a

  abbrev y : ℤ
  y = integer b

  of_integers : is_integer a ≡ true → is_integer b ≡ true → compared a b ≡ compared_verdict (Ok (order_of x y))
  unfolding compared
  of_integers p q = simp (p, q)

  -- comparing answers as the integers that the texts denote stand to each other
  pub compare_order : is_integer a ≡ true → is_integer b ≡ true → (c : Compared) → Answers a b c ↔ Told c (integer a) (integer b)
  compare_order p q c = (to, from)
    where
      to : Answers a b c → Told c x y
      to h = subst (λ d. Told d x y) (sym (verdict_tells c (Ok (order_of x y)) (h ∙ of_integers p q))) (order_told x y)

      from : Told c x y → Answers a b c
      from t = ap compared_verdict (told_alike c (Ok (order_of x y)) x y t (order_told x y)) ∙ sym (of_integers p q)

  -- an answer other than NOTINT is given of integers' texts alone
  pub compare_integers : (c : Compared) → (c ≡ not_int → ⊥) → Answers a b c → (is_integer a ≡ true) × (is_integer b ≡ true)
  unfolding compared
  compare_integers c n h = go (is_integer a) (is_integer b) refl refl h
    where
      go : (m n : Bool) → is_integer a ≡ m → is_integer b ≡ n
          → compared_verdict c ≡ pick m (pick n (compared_verdict (Ok (order_of x y))) (compared_verdict not_int)) (compared_verdict not_int)
          → (is_integer a ≡ true) × (is_integer b ≡ true)
      go true true p q e = (p, q)
      go true false p q e = absurd (n (verdict_tells c not_int e))
      go false k p q e = absurd (n (verdict_tells c not_int e))

-- comparing answers that the left is at most the right: -1 or 0
pub data AtMost (a b : List ℕ) : Type 0 where
  less : Answers a b (Ok Less) → AtMost a b
  same : Answers a b (Ok Equal) → AtMost a b

-- at most, in terms of the integers
data Below (x y : ℤ) : Type 0 where
  under : x <ℤ y → Below x y
  level : x ≡ y → Below x y

record Placed (a b : List ℕ) : Type 0 where
  on_left : is_integer a ≡ true
  on_right : is_integer b ≡ true
  below : Below (integer a) (integer b)

less_other : Ok Less ≡ not_int → ⊥
less_other e = cc

same_other : Ok Equal ≡ not_int → ⊥
same_other e = cc

placed : (a b : List ℕ) → AtMost a b → Placed a b
placed a b (less h) =
    let i = compare_integers a b (Ok Less) less_other h in
    record { on_left = i.0; on_right = i.1; below = under ((compare_order a b i.0 i.1 (Ok Less)).0 h) }
placed a b (same h) =
    let i = compare_integers a b (Ok Equal) same_other h in
    record { on_left = i.0; on_right = i.1; below = level ((compare_order a b i.0 i.1 (Ok Equal)).0 h) }

at_most : (a b : List ℕ) → is_integer a ≡ true → is_integer b ≡ true → Below (integer a) (integer b) → AtMost a b
at_most a b p q (under l) = less ((compare_order a b p q (Ok Less)).1 l)
at_most a b p q (level e) = same ((compare_order a b p q (Ok Equal)).1 e)

-- ---- the laws of an order

pub compare_total : (a b : List ℕ) → is_integer a ≡ true → is_integer b ≡ true → AtMost a b ⊎ AtMost b a
compare_total a b p q = go (order_of (integer a) (integer b)) (order_told (integer a) (integer b))
  where
    go : (o : Ordering) → Told (Ok o) (integer a) (integer b) → AtMost a b ⊎ AtMost b a
    go Less t = inl (at_most a b p q (under t))
    go Equal t = inl (at_most a b p q (level t))
    go Greater t = inr (at_most b a q p (under t))

below_back : (x y : ℤ) → Below x y → Below y x → x ≡ y
below_back x y (under l) (under k) = absurd (less_not_back x y l k)
below_back x y (under l) (level e) = sym e
below_back x y (level e) k = e

pub compare_antisymmetric : (a b : List ℕ) → AtMost a b → AtMost b a → a ≡ b
compare_antisymmetric a b h k =
    let p = placed a b h in
    let q = placed b a k in
    one_text a b p.on_left p.on_right (below_back (integer a) (integer b) p.below q.below)

below_trans : (x y z : ℤ) → Below x y → Below y z → Below x z
below_trans x y z (under l) (under k) = under (less_trans x y z l k)
below_trans x y z (under l) (level e) = under (subst (λ w. x <ℤ w) e l)
below_trans x y z (level e) k = subst (λ w. Below w z) (sym e) k

pub compare_transitive : (a b c : List ℕ) → AtMost a b → AtMost b c → AtMost a c
compare_transitive a b c h k =
    let p = placed a b h in
    let q = placed b c k in
    at_most a c p.on_left q.on_right (below_trans (integer a) (integer b) (integer c) p.below q.below)

-- ---- P12 (01, Borders): `10` against `9` is 1

pub p12 : compared (49 ∷ 48 ∷ []) (57 ∷ []) ≡ record { number = 0; value = pos 1 }
unfolding compared is_integer counting digits digit integer natural order_of
p12 = refl

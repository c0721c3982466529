-- Classes of bytes, as lists of ranges: what is apart is found by computing. Assumes nothing.
use Rattle.std.specs.Prelude.{◌≡◌, refl, List, [], ◌∷◌, ◌++◌, ◌⊎◌, Bool, true, false, ℕ, zero, suc, ◌≤◌, ◌<◌, T, leb, ltb}
use Rattle.std.proofs.Common.{sym, ap, subst, ◌∙◌, inl, inr, arith, leb→le, ltb→lt, le→leb}
pub use Rattle.notation.specs.Class.{pick, and, or, Range, ◌to◌, Class, within, is, only}

abbrev pub Starts : (ℕ → Bool) → List ℕ → Type 0
Starts f [] = ⊥
Starts f (b ∷ t) = f b ≡ true

D-true : Bool → Type 0
D-true true = Unit {0}
D-true false = ⊥

pub clash : {c : Bool} → c ≡ true → c ≡ false → ⊥
unfolding D-true
clash p q = subst D-true (sym p ∙ q) tt

abbrev pub apart₁ : Range → Range → Bool
apart₁ (l to h) (l' to h') = or (ltb h l') (ltb h' l)

abbrev pub apart₂ : Range → Class → Bool
apart₂ r [] = true
apart₂ r (q ∷ c) = and (apart₁ r q) (apart₂ r c)

abbrev pub apart : Class → Class → Bool
apart [] d = true
apart (r ∷ c) d = and (apart₂ r d) (apart c d)

abbrev pub when : Bool → Class → Class
when true c = c
when false c = []

T_of : {b : Bool} → b ≡ true → T b
T_of e = subst T (sym e) tt

pub and_of : (a b : Bool) → and a b ≡ true → (a ≡ true) × (b ≡ true)
and_of true b e = (refl, e)
and_of false b e = absurd (clash e refl)

pub or_of : (a b : Bool) → or a b ≡ true → (a ≡ true) ⊎ (b ≡ true)
or_of true b e = inl refl
or_of false b e = inr e

pub range_of : (l h b : ℕ) → within (l to h) b ≡ true → (l ≤ b) × (b ≤ h)
range_of l h b e =
    let x = and_of (leb l b) (leb b h) e in
    (leb→le l b (T_of x.0), leb→le b h (T_of x.1))

none₁ : (r q : Range) (b : ℕ) → apart₁ r q ≡ true → within r b ≡ true → within q b ≡ true → ⊥
none₁ (l to h) (l' to h') b e x y = go (or_of (ltb h l') (ltb h' l) e) (range_of l h b x) (range_of l' h' b y)
  where
    go : (ltb h l' ≡ true) ⊎ (ltb h' l ≡ true) → (l ≤ b) × (b ≤ h) → (l' ≤ b) × (b ≤ h') → ⊥
    go (inl z) u v = omega (arith, ltb→lt h l' (T_of z))
    go (inr z) u v = omega (arith, ltb→lt h' l (T_of z))

none₂ : (r : Range) (c : Class) (b : ℕ) → apart₂ r c ≡ true → within r b ≡ true → is c b ≡ true → ⊥
none₂ r [] b e x y = clash y refl
none₂ r (q ∷ c) b e x y = go (and_of (apart₁ r q) (apart₂ r c) e) (or_of (within q b) (is c b) y) (λ u z. none₂ r c b u x z)
  where
    go : (apart₁ r q ≡ true) × (apart₂ r c ≡ true) → (within q b ≡ true) ⊎ (is c b ≡ true) → (apart₂ r c ≡ true → is c b ≡ true → ⊥) → ⊥
    go u (inl z) ih = none₁ r q b u.0 x z
    go u (inr z) ih = ih u.1 z

pub none : (c d : Class) (b : ℕ) → apart c d ≡ true → is c b ≡ true → is d b ≡ true → ⊥
none [] d b e x y = clash x refl
none (r ∷ c) d b e x y = go (and_of (apart₂ r d) (apart c d) e) (or_of (within r b) (is c b) x) (λ u z. none c d b u z y)
  where
    go : (apart₂ r d ≡ true) × (apart c d ≡ true) → (within r b ≡ true) ⊎ (is c b ≡ true) → (apart c d ≡ true → is c b ≡ true → ⊥) → ⊥
    go u (inl z) ih = none₂ r d b u.0 z y
    go u (inr z) ih = ih u.1 z

pub apart_no : (c d : Class) (b : ℕ) → apart c d ≡ true → is c b ≡ true → is d b ≡ false
apart_no c d b h e = by (is d b) refl
  where
    by : (x : Bool) → is d b ≡ x → x ≡ false
    by true x = absurd (none c d b h e x)
    by false x = refl

pub left : (c d : Class) (b : ℕ) → is c b ≡ true → is (c ++ d) b ≡ true
left [] d b e = absurd (clash e refl)
left (r ∷ c) d b e = go (within r b) e (left c d b)
  where
    go : (x : Bool) → or x (is c b) ≡ true → (is c b ≡ true → is (c ++ d) b ≡ true) → or x (is (c ++ d) b) ≡ true
    go true z ih = refl
    go false z ih = ih z

pub right : (c d : Class) (b : ℕ) → is d b ≡ true → is (c ++ d) b ≡ true
right [] d b e = e
right (r ∷ c) d b e = go (within r b) (right c d b e)
  where
    go : (x : Bool) → is (c ++ d) b ≡ true → or x (is (c ++ d) b) ≡ true
    go true z = refl
    go false z = z

pub is_right : (c d : Class) (b : ℕ) → is c b ≡ false → is (c ++ d) b ≡ true → is d b ≡ true
is_right [] d b e x = x
is_right (r ∷ c) d b e x = go (within r b) e x (is_right c d b)
  where
    go : (y : Bool) → or y (is c b) ≡ false → or y (is (c ++ d) b) ≡ true → (is c b ≡ false → is (c ++ d) b ≡ true → is d b ≡ true) → is d b ≡ true
    go true u v ih = absurd (clash refl u)
    go false u v ih = ih u v

pub is_neither : (c d : Class) (b : ℕ) → is (c ++ d) b ≡ false → is d b ≡ false
is_neither c d b e = go (is d b) refl
  where
    go : (y : Bool) → is d b ≡ y → y ≡ false
    go true z = absurd (clash (right c d b z) e)
    go false z = refl

-- how the text starts
pub starts_left : (c d : Class) (t : List ℕ) → Starts (is c) t → Starts (is (c ++ d)) t
starts_left c d [] x = x
starts_left c d (b ∷ t) x = left c d b x

pub starts_right : (c d : Class) (t : List ℕ) → Starts (is d) t → Starts (is (c ++ d)) t
starts_right c d [] x = x
starts_right c d (b ∷ t) x = right c d b x

pub starts_none : (c d : Class) (t : List ℕ) → apart c d ≡ true → Starts (is c) t → Starts (is d) t → ⊥
starts_none c d [] e x y = x
starts_none c d (b ∷ t) e x y = none c d b e x y

-- a class inside another
abbrev pub in₁ : Range → Range → Bool
in₁ (l to h) (l' to h') = and (leb l' l) (leb h h')

abbrev pub in₂ : Range → Class → Bool
in₂ r [] = false
in₂ r (q ∷ d) = or (in₁ r q) (in₂ r d)

abbrev pub sub : Class → Class → Bool
sub [] d = true
sub (r ∷ c) d = and (in₂ r d) (sub c d)

pub leb_yes : (m n : ℕ) → m ≤ n → leb m n ≡ true
leb_yes m n h = go (leb m n) (le→leb m n h)
  where
    go : (b : Bool) → T b → b ≡ true
    go true x = refl
    go false x = absurd x

pub and_true : {a b : Bool} → a ≡ true → b ≡ true → and a b ≡ true
and_true {a} {b} p q = rw (p, q)

pub or_left : {a : Bool} (b : Bool) → a ≡ true → or a b ≡ true
or_left b p = rw p

pub or_right : (a : Bool) {b : Bool} → b ≡ true → or a b ≡ true
or_right true p = refl
or_right false p = p

some₁ : (r q : Range) (b : ℕ) → in₁ r q ≡ true → within r b ≡ true → within q b ≡ true
some₁ (l to h) (l' to h') b e x =
    let u = and_of (leb l' l) (leb h h') e in
    let v = range_of l h b x in
    let p = leb→le l' l (T_of u.0) in
    let q = leb→le h h' (T_of u.1) in
    and_true (leb_yes l' b (omega arith)) (leb_yes b h' (omega arith))

some₂ : (r : Range) (d : Class) (b : ℕ) → in₂ r d ≡ true → within r b ≡ true → is d b ≡ true
some₂ r [] b e x = absurd (clash e refl)
some₂ r (q ∷ d) b e x = go (or_of (in₁ r q) (in₂ r d) e) (λ z. some₂ r d b z x)
  where
    go : (in₁ r q ≡ true) ⊎ (in₂ r d ≡ true) → (in₂ r d ≡ true → is d b ≡ true) → or (within q b) (is d b) ≡ true
    go (inl z) ih = or_left (is d b) (some₁ r q b z x)
    go (inr z) ih = or_right (within q b) (ih z)

pub inside : (c d : Class) (b : ℕ) → sub c d ≡ true → is c b ≡ true → is d b ≡ true
inside [] d b e x = absurd (clash x refl)
inside (r ∷ c) d b e x = go (and_of (in₂ r d) (sub c d) e) (or_of (within r b) (is c b) x) (inside c d b)
  where
    go : (in₂ r d ≡ true) × (sub c d ≡ true) → (within r b ≡ true) ⊎ (is c b ≡ true) → (sub c d ≡ true → is c b ≡ true → is d b ≡ true) → is d b ≡ true
    go u (inl z) ih = some₂ r d b u.0 z
    go u (inr z) ih = ih u.1 z

pub starts_inside : (c d : Class) (t : List ℕ) → sub c d ≡ true → Starts (is c) t → Starts (is d) t
starts_inside c d [] e x = x
starts_inside c d (b ∷ t) e x = inside c d b e x

pub only_is : (b : ℕ) → is (only b) b ≡ true
only_is b = or_left false (and_true (leb_yes b b (omega arith)) (leb_yes b b (omega arith)))

pub apart_nil : (c : Class) → apart c [] ≡ true
apart_nil [] = refl
apart_nil (r ∷ c) = apart_nil c

pub only_eq : (a b : ℕ) → is (only a) b ≡ true → b ≡ a
only_eq a b e = go (or_of (and (leb a b) (leb b a)) false e)
  where
    go : (and (leb a b) (leb b a) ≡ true) ⊎ (false ≡ true) → b ≡ a
    go (inl x) = let y = range_of a a b x in omega arith
    go (inr x) = absurd (clash x refl)

pub only_no : (a b : ℕ) → (b ≡ a → ⊥) → is (only a) b ≡ false
only_no a b h = go (is (only a) b) refl
  where
    go : (c : Bool) → is (only a) b ≡ c → is (only a) b ≡ false
    go true e = absurd (h (only_eq a b e))
    go false e = e

pub only_yes : (a b : ℕ) → b ≡ a → is (only a) b ≡ true
only_yes a b e = rw e (only_is a)

-- no text starts with a byte of no class
pub nothing : (t : List ℕ) → Starts (is []) t → ⊥
nothing [] y = y
nothing (b ∷ t) y = absurd (clash y refl)

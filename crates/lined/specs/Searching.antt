-- COUNTING AND SEARCHING bytes of a class, by blocks and one by one. Assumes nothing.
use Rattle.std.specs.Prelude.{◌≡◌, List, ℕ, ◌+◌, ◌-◌, ◌≤◌, ◌<◌, min, max, length, get_or}
use Rattle.std.proofs.Common.{refl, sym, ap, subst, ◌∙◌, add-zero, arith, rules}
use Rattle.std.proofs.Math.Decide.{dec_le}
use Rattle.notation.specs.Class.{Class, only}
use Rattle.lined.specs.Counted.{range, hit, hit_one, hit_below, hit_above, hit_within}
use Rattle.lined.specs.Between.{between, between_none, between_cut, between_more, between_less, between_most}

-- m bytes of the class stand from a up to e
pub record Counting (c : Class) (doc : List ℕ) (a e m : ℕ) : Type 0 where
  pub ahead : a ≤ e
  pub inside : e ≤ length doc
  pub is : m ≡ between c doc a e
  pub most : m ≤ e - a

-- no byte of the class from a up to r
pub record Clear (c : Class) (doc : List ℕ) (a r : ℕ) : Type 0 where
  pub ahead : a ≤ r
  pub inside : r ≤ length doc
  pub clear : between c doc a r ≡ 0

-- and one at r, if r is before e
pub record Next (c : Class) (doc : List ℕ) (e a r : ℕ) : Type 0 where
  pub none : Clear c doc a r
  pub found : r < e → hit c (get_or doc r 0) ≡ 1

-- of the i bytes from a on no LF stands before the one at r
pub record Near (doc : List ℕ) (a i r : ℕ) : Type 0 where
  pub clear : (j : ℕ) → j ≤ i → j ≤ r → between (only 10) doc a (a + j) ≡ 0

-- the first LF from a on is r away, or r is 32
pub record Soon (doc : List ℕ) (a r : ℕ) : Type 0 where
  pub inside : r < 32 → a + r ≤ length doc
  pub clear : r < 32 → between (only 10) doc a (a + r) ≡ 0
  pub here : r < 32 → hit (only 10) (get_or doc (a + r) 0) ≡ 1

-- i for a byte of the class, and o for any other
pub record Spot (c : Class) (b i o r : ℕ) : Type 0 where
  pub there : hit c b ≡ 1 → r ≡ i
  pub other : hit c b ≡ 0 → r ≡ o

-- of the i bytes from a on the one at r is the first of the class, or none is, and r is 64
pub record First (c : Class) (doc : List ℕ) (a i r : ℕ) : Type 0 where
  pub most : r ≤ 64
  pub all : 64 ≤ r → between c doc a (a + i) ≡ 0
  pub some : r < 64 → (r < i) × (between c doc a (a + r) ≡ 0) × (hit c (get_or doc (a + r) 0) ≡ 1)

-- of the i bytes from a on the one just before the r-th is the last of the class, or none is, and r is 0
pub record Last (c : Class) (doc : List ℕ) (a i r : ℕ) : Type 0 where
  pub most : r ≤ i
  pub all : r ≤ 0 → between c doc a (a + i) ≡ 0
  pub some : 0 < r → (between c doc (a + r) (a + i) ≡ 0) × (hit c (get_or doc (a + r - 1) 0) ≡ 1)

-- an LF just before r, and none from r up to e
pub record Behind (doc : List ℕ) (a e r : ℕ) : Type 0 where
  pub later : a < r
  pub before : r ≤ e
  pub feed : hit (only 10) (get_or doc (r - 1) 0) ≡ 1
  pub clear : between (only 10) doc r e ≡ 0

module _ (c : Class) (doc : List ℕ) where
  pub counting_first : (a : ℕ) → a ≤ length doc → Counting c doc a a 0
  counting_first a l = record { ahead = omega arith; inside = l; is = sym (between_none c doc a); most = omega arith }

  pub counting_none : (a : ℕ) → a ≤ length doc → Counting c doc a (a + 0) 0
  counting_none a l = rw (add-zero a) (counting_first a l)

  pub counting_byte : (a i m h : ℕ) → Counting c doc a (a + i) m → a + i < length doc → h ≡ hit c (get_or doc (a + i) 0) → Counting c doc a (a + (i + 1)) (m + h)
  counting_byte a i m h x l y =
      let z : a + i + 1 ≡ a + (i + 1) = omega arith in
      let u = between_more c doc a (a + i) (omega arith) l in
      record { ahead = omega arith; inside = omega arith; is = omega (arith, x.is, ap (between c doc a) z); most = omega (arith, x.most, hit_one c (get_or doc (a + i) 0)) }

  pub counting_block : (a i n m h : ℕ) → Counting c doc a i m → i + n ≤ length doc → h ≡ between c doc i (i + n) → Counting c doc a (i + n) (m + h)
  counting_block a i n m h x l y =
      record {
        ahead = omega (arith, x.ahead);
        inside = l;
        is = omega (arith, x.is, between_cut c doc a i (i + n) x.ahead (omega arith) l);
        most = omega (arith, x.most, x.ahead, between_most c doc i (i + n) l);
      }

  pub counting_rest : (a i e m h : ℕ) → Counting c doc a i m → i ≤ e → e ≤ length doc → h ≡ between c doc i (i + (e - i)) → m + h ≡ between c doc a e
  counting_rest a i e m h x k l y =
      let z : i + (e - i) ≡ e = omega arith in
      omega (arith, x.is, ap (between c doc i) z, between_cut c doc a i e x.ahead k l)

  pub counting_all : (a i n m : ℕ) → Counting c doc a (a + i) m → i ≤ n → n ≤ i → m ≡ between c doc a (a + n)
  counting_all a i n m x h k = x.is ∙ ap (λ (j : ℕ). between c doc a (a + j)) (let z : i ≡ n = omega arith in z)

  -- of the first n alone
  pub some_none : (a n : ℕ) → a ≤ length doc → Counting c doc a (a + min 0 n) 0
  some_none a n l = subst (λ (j : ℕ). Counting c doc a (a + j) 0) (let z : 0 ≡ min 0 n = omega arith in z) (counting_none a l)

  pub some_byte : (a n i m h g k : ℕ) → Counting c doc a (a + min i n) m → a + i < length doc → h ≡ hit c (get_or doc (a + i) 0) → g ≡ max n i → k ≡ min h (g - i)
      → Counting c doc a (a + min (i + 1) n) (m + k)
  some_byte a n i m h g k x l y u v = by (dec_le n i)
    where
      by : Dec (n ≤ i) → Counting c doc a (a + min (i + 1) n) (m + k)
      by (yes q) =
          let z : min i n ≡ min (i + 1) n = omega arith in
          let w : m ≡ m + k = omega arith in
          subst (λ (o : ℕ). Counting c doc a (a + min (i + 1) n) o) w (subst (λ (j : ℕ). Counting c doc a (a + j) m) z x)
      by (no q) =
          let z : min i n ≡ i = omega arith in
          let w : i + 1 ≡ min (i + 1) n = omega arith in
          let o : h ≡ k = omega (arith, hit_one c (get_or doc (a + i) 0)) in
          subst (λ (t : ℕ). Counting c doc a (a + min (i + 1) n) (m + t)) o
          (subst (λ (j : ℕ). Counting c doc a (a + j) (m + h)) w (counting_byte a i m h (subst (λ (j : ℕ). Counting c doc a (a + j) m) z x) l y))

  pub some_all : (a n i m : ℕ) → Counting c doc a (a + min i n) m → n ≤ 32 → 32 ≤ i → m ≡ between c doc a (a + n)
  some_all a n i m x h k = x.is ∙ ap (λ (j : ℕ). between c doc a (a + j)) (let z : min i n ≡ n = omega arith in z)

  pub counted_to : (a e m : ℕ) → a ≤ e → m ≡ between c doc a (a + (e - a)) → m ≡ between c doc a e
  counted_to a e m h x = x ∙ ap (between c doc a) (let z : a + (e - a) ≡ e = omega arith in z)

  -- of two parts
  pub halves : (a b e m n : ℕ) → a ≤ b → b ≤ e → e ≤ length doc → m ≡ between c doc a b → n ≡ between c doc b e → m + n ≡ between c doc a e
  halves a b e m n h k l y z = omega (arith, between_cut c doc a b e h k l)

  pub halves_fit : (a b e m n : ℕ) → a ≤ b → b ≤ e → e ≤ length doc → m ≡ between c doc a b → n ≡ between c doc b e → m + n ≤ length doc
  halves_fit a b e m n h k l y z = omega (arith, between_most c doc a b (omega arith), between_most c doc b e l)

  pub clear_first : (a : ℕ) → a ≤ length doc → Clear c doc a a
  clear_first a h = record { ahead = omega arith; inside = h; clear = between_none c doc a }

  pub clear_byte : (a i h : ℕ) → Clear c doc a i → i < length doc → h ≡ hit c (get_or doc i 0) → h ≤ 0 → Clear c doc a (i + 1)
  clear_byte a i h x l y z =
      record { ahead = omega (arith, x.ahead); inside = omega arith; clear = omega (arith, x.clear, between_more c doc a i x.ahead l) }

  pub next_here : (e a i h : ℕ) → Clear c doc a i → h ≡ hit c (get_or doc i 0) → 0 < h → Next c doc e a i
  next_here e a i h x y z = record { none = x; found = λ _. omega (arith, hit_one c (get_or doc i 0)) }

  pub next_end : (e a i : ℕ) → Clear c doc a i → e ≤ i → Next c doc e a i
  next_end e a i x z = record { none = x; found = λ h. absurd (omega arith) }

  pub next_all : (e a i : ℕ) → Clear c doc a i → i ≤ e → e ≤ i → Next c doc e a e
  next_all e a i x h k = subst (Next c doc e a) (let z : i ≡ e = omega arith in z) (next_end e a i x k)

  -- a byte more, and the whole block
  pub first_none : (a : ℕ) → First c doc a 0 64
  first_none a = record { most = omega arith; all = λ _. rw (add-zero a) (between_none c doc a); some = λ h. absurd (omega arith) }

  pub first_byte : (a i m s r : ℕ) → First c doc a i m → i < 64 → a + i < length doc → Spot c (get_or doc (a + i) 0) i 64 s → r ≡ min s m → First c doc a (i + 1) r
  first_byte a i m s r x h l y t = by (dec_le 64 m) (dec_le 1 (hit c (get_or doc (a + i) 0)))
    where
      b : ℕ
      b = get_or doc (a + i) 0

      is : (q : ℕ) → q ≡ min s m → First c doc a (i + 1) q → First c doc a (i + 1) r
      is q e f = subst (First c doc a (i + 1)) (e ∙ sym t) f

      early : m < 64 → First c doc a (i + 1) m
      early n = let f = x.some n in record { most = x.most; all = λ g. absurd (omega arith); some = λ _. (omega (arith, f.0), f.1, f.2) }

      by : Dec (64 ≤ m) → Dec (1 ≤ hit c b) → First c doc a (i + 1) r
      by (no n) (yes q) = let e = y.there (omega (arith, hit_one c b)) in let f = x.some (omega arith) in is m (omega (arith, f.0)) (early (omega arith))
      by (no n) (no q) = let e = y.other (omega arith) in is m (omega arith) (early (omega arith))
      by (yes n) (yes q) =
          let g : hit c b ≡ 1 = omega (arith, hit_one c b) in
          let e = y.there g in
          is i (omega arith) (record { most = omega arith; all = λ k. absurd (omega arith); some = λ _. (omega arith, x.all n, g) })
      by (yes n) (no q) =
          let e = y.other (omega arith) in
          let z : a + i + 1 ≡ a + (i + 1) = omega arith in
          let w : between c doc a (a + (i + 1)) ≡ 0 = omega (arith, between_more c doc a (a + i) (omega arith) l, ap (between c doc a) z, x.all n) in
          is 64 (omega (arith, x.most)) (record { most = omega arith; all = λ _. w; some = λ k. absurd (omega arith) })

  pub last_none : (a : ℕ) → Last c doc a 0 0
  last_none a = record { most = omega arith; all = λ _. rw (add-zero a) (between_none c doc a); some = λ h. absurd (omega arith) }

  pub last_byte : (a i m s r : ℕ) → Last c doc a i m → a + i < length doc → Spot c (get_or doc (a + i) 0) (i + 1) 0 s → r ≡ max s m → Last c doc a (i + 1) r
  last_byte a i m s r x l y t = by (dec_le 1 (hit c (get_or doc (a + i) 0)))
    where
      z : a + i + 1 ≡ a + (i + 1)
      z = omega arith

      is : (q : ℕ) → q ≡ max s m → Last c doc a (i + 1) q → Last c doc a (i + 1) r
      is q e f = subst (Last c doc a (i + 1)) (e ∙ sym t) f

      by : Dec (1 ≤ hit c (get_or doc (a + i) 0)) → Last c doc a (i + 1) r
      by (yes q) =
          let g : hit c (get_or doc (a + i) 0) ≡ 1 = omega (arith, hit_one c (get_or doc (a + i) 0)) in
          let e = y.there g in
          let u : a + i ≡ a + (i + 1) - 1 = omega arith in
          is (i + 1) (omega (arith, x.most)) (record { most = omega arith; all = λ k. absurd (omega arith); some = λ _. (between_none c doc (a + (i + 1)), ap (λ (j : ℕ). hit c (get_or doc j 0)) (sym u) ∙ g) })
      by (no q) =
          let e = y.other (omega arith) in
          let v : (b : ℕ) → b ≤ a + i → between c doc b (a + (i + 1)) ≡ between c doc b (a + i) = λ b h. omega (arith, between_more c doc b (a + i) h l, ap (between c doc b) z) in
          is m (omega arith) (record {
            most = omega (arith, x.most);
            all = λ k. v a (omega arith) ∙ x.all k;
            some = λ k. let f = x.some k in (v (a + m) (omega (arith, x.most)) ∙ f.0, f.1);
          })

  pub last_all : (a i m : ℕ) → Last c doc a i m → i ≤ 64 → 64 ≤ i → Last c doc a 64 m
  last_all a i m x h k = subst (λ (j : ℕ). Last c doc a j m) (let z : i ≡ 64 = omega arith in z) x

  pub first_all : (a i m : ℕ) → First c doc a i m → i ≤ 64 → 64 ≤ i → First c doc a 64 m
  first_all a i m x h k = subst (λ (j : ℕ). First c doc a j m) (let z : i ≡ 64 = omega arith in z) x

  pub first_found : (e a i k : ℕ) → Clear c doc a i → i + 64 ≤ length doc → First c doc i 64 k → k < 64 → Next c doc e a (i + k)
  first_found e a i k x l f h =
      let g = f.some h in
      record {
        none = record { ahead = omega (arith, x.ahead); inside = omega arith; clear = omega (arith, x.clear, g.1, between_cut c doc a i (i + k) x.ahead (omega arith) (omega arith)) };
        found = λ _. g.2;
      }

  pub first_past : (a i k : ℕ) → Clear c doc a i → i + 64 ≤ length doc → First c doc i 64 k → 64 ≤ k → Clear c doc a (i + 64)
  first_past a i k x l f h =
      record { ahead = omega (arith, x.ahead); inside = l; clear = omega (arith, x.clear, f.all h, between_cut c doc a i (i + 64) x.ahead (omega arith) l) }

  -- behind a clear part
  pub next_behind : (e a b r : ℕ) → Clear c doc a b → Next c doc e b r → Next c doc e a r
  next_behind e a b r x y =
      let n = y.none in
      record { none = record { ahead = omega (arith, x.ahead, n.ahead); inside = n.inside; clear = omega (arith, x.clear, n.clear, between_cut c doc a b r x.ahead n.ahead n.inside) }; found = y.found }

  -- from a later place on
  pub clear_later : (a b r : ℕ) → Clear c doc a r → a ≤ b → b ≤ r → Clear c doc b r
  clear_later a b r n h k = record { ahead = k; inside = n.inside; clear = omega (arith, n.clear, between_cut c doc a b r h k n.inside) }

  -- where none stands, the one at a is before
  pub before_clear : (a b e : ℕ) → a < e → e ≤ length doc → b ≤ e → hit c (get_or doc a 0) ≡ 1 → between c doc b e ≡ 0 → a < b
  before_clear a b e h l k g z = by (dec_le b a)
    where
      by : Dec (b ≤ a) → a < b
      by (yes m) = absurd (omega (arith, between_cut c doc b a e m (omega arith) l, between_less c doc a e h l))
      by (no m) = omega arith

module _ (doc : List ℕ) where
  -- the least key: none before it
  pub near_none : (a r : ℕ) → Near doc a 0 r
  near_none a r = record { clear = λ j h k. ap (λ (i : ℕ). between (only 10) doc a i) (let z : a + j ≡ a = omega arith in z) ∙ between_none (only 10) doc a }

  pub near_byte : (a i m k r : ℕ) → Near doc a i m → a + i < length doc → (get_or doc (a + i) 0 ≡ 10 → k ≡ i) → r ≡ min k m → Near doc a (i + 1) r
  near_byte a i m k r x l y t = record { clear = λ j g h. by j g h (dec_le j i) (dec_le 10 (get_or doc (a + i) 0)) (dec_le (get_or doc (a + i) 0) 10) }
    where
      b : ℕ
      b = get_or doc (a + i) 0

      past : (j : ℕ) → j ≡ i + 1 → i ≤ m → 0 ≡ hit (only 10) b → between (only 10) doc a (a + j) ≡ 0
      past j e h z =
          let u : a + i + 1 ≡ a + j = omega arith in
          omega (arith, between_more (only 10) doc a (a + i) (omega arith) l, ap (between (only 10) doc a) u, x.clear i (omega arith) h)

      by : (j : ℕ) → j ≤ i + 1 → j ≤ r → Dec (j ≤ i) → Dec (10 ≤ b) → Dec (b ≤ 10) → between (only 10) doc a (a + j) ≡ 0
      by j g h (yes p) u v = x.clear j p (omega arith)
      by j g h (no p) (yes u) (yes v) = absurd (let e = y (omega arith) in omega arith)
      by j g h (no p) (no u) v = past j (omega arith) (omega arith) (hit_below 10 10 b (omega arith))
      by j g h (no p) (yes u) (no v) = past j (omega arith) (omega arith) (hit_above 10 10 b (omega arith))

  pub near_all : (a i m : ℕ) → Near doc a i m → i ≤ 32 → 32 ≤ i → Near doc a 32 m
  near_all a i m x h k = subst (λ (j : ℕ). Near doc a j m) (let z : i ≡ 32 = omega arith in z) x

  pub soon_not : (a : ℕ) → Soon doc a 32
  soon_not a = record { inside = λ h. absurd (omega arith); clear = λ h. absurd (omega arith); here = λ h. absurd (omega arith) }

  pub soon_here : (a k h : ℕ) → Near doc a 32 k → a + 32 ≤ length doc → k ≤ 31 → h ≡ hit (only 10) (get_or doc (a + k) 0) → 0 < h → Soon doc a k
  soon_here a k h x l m y z =
      record { inside = λ _. omega arith; clear = λ _. x.clear k (omega arith) (omega arith); here = λ _. omega (arith, hit_one (only 10) (get_or doc (a + k) 0)) }

  pub soon_next : (e a k : ℕ) → Soon doc a k → k < 32 → Next (only 10) doc e a (a + k)
  soon_next e a k x h = record { none = record { ahead = omega arith; inside = x.inside h; clear = x.clear h }; found = λ _. x.here h }

  -- no tail byte among bytes below 128
  pub low_none : (m : ℕ) → m < 128 → Clear (range 128 191) doc 0 0
  low_none m h = clear_first (range 128 191) doc 0 (omega arith)

  pub low_byte : (i m r : ℕ) → (m < 128 → Clear (range 128 191) doc 0 i) → i < length doc → r ≡ max (get_or doc i 0) m → r < 128 → Clear (range 128 191) doc 0 (i + 1)
  low_byte i m r x l t h = clear_byte (range 128 191) doc 0 i 0 (x (omega arith)) l (hit_below 128 191 (get_or doc i 0) (omega arith)) (omega arith)

  pub low_all : (i e m : ℕ) → (m < 128 → Clear (range 128 191) doc 0 i) → i ≤ e → e ≤ i → m < 128 → Clear (range 128 191) doc 0 e
  low_all i e m x h k l = subst (Clear (range 128 191) doc 0) (let z : i ≡ e = omega arith in z) (x l)

  -- backwards to an LF; one stands at a
  pub back_here : (a e i h : ℕ) → a < i → i ≤ e → between (only 10) doc i e ≡ 0 → h ≡ hit (only 10) (get_or doc (i - 1) 0) → 0 < h → Behind doc a e i
  back_here a e i h k l z y g = record { later = k; before = l; feed = omega (arith, hit_one (only 10) (get_or doc (i - 1) 0)); clear = z }

  pub back_more : (e i h : ℕ) → 1 ≤ i → i ≤ e → e ≤ length doc → between (only 10) doc i e ≡ 0 → h ≡ hit (only 10) (get_or doc (i - 1) 0) → h ≤ 0 → between (only 10) doc (i - 1) e ≡ 0
  back_more e i h k l m z y g =
      let u : i - 1 + 1 ≡ i = omega arith in
      omega (arith, between_less (only 10) doc (i - 1) e (omega arith) m, ap (λ (j : ℕ). between (only 10) doc j e) u)

  -- by a test for LF alone
  pub back_at : (a e i : ℕ) → a < i → i ≤ e → between (only 10) doc i e ≡ 0 → get_or doc (i - 1) 0 ≡ 10 → Behind doc a e (i - 1 + 1)
  back_at a e i h l z y =
      let u : i ≡ i - 1 + 1 = omega arith in
      let b = get_or doc (i - 1) 0 in
      subst (Behind doc a e) u (back_here a e i (hit (only 10) b) h l z refl (omega (arith, hit_within 10 10 b (omega arith) (omega arith))))

  pub back_not : (e i : ℕ) → 1 ≤ i → i ≤ e → e ≤ length doc → between (only 10) doc i e ≡ 0 → (get_or doc (i - 1) 0 ≡ 10 → ⊥) → between (only 10) doc (i - 1) e ≡ 0
  back_not e i h k l m y = by (dec_le 10 b) (dec_le b 10)
    where
      b : ℕ
      b = get_or doc (i - 1) 0

      past : 0 ≡ hit (only 10) b → between (only 10) doc (i - 1) e ≡ 0
      past z = back_more e i (hit (only 10) b) h k l m refl (omega arith)

      by : Dec (10 ≤ b) → Dec (b ≤ 10) → between (only 10) doc (i - 1) e ≡ 0
      by (yes u) (yes v) = absurd (y (omega arith))
      by (no u) v = past (hit_below 10 10 b (omega arith))
      by (yes u) (no v) = past (hit_above 10 10 b (omega arith))

  pub back_first : (a e i : ℕ) → a < i → i ≤ a + 1 → a < e → between (only 10) doc i e ≡ 0 → hit (only 10) (get_or doc a 0) ≡ 1 → Behind doc a e (a + 1)
  back_first a e i h k l z y =
      let u : i ≡ a + 1 = omega arith in
      let v : a + 1 - 1 ≡ a = omega arith in
      record {
        later = omega arith;
        before = omega arith;
        feed = ap (λ (j : ℕ). hit (only 10) (get_or doc j 0)) v ∙ y;
        clear = subst (λ (j : ℕ). between (only 10) doc j e ≡ 0) u z;
      }

  -- by blocks: found in one, or none there, or further back
  pub block_here : (a e i k : ℕ) → a < i → i ≤ e → e ≤ length doc → 64 ≤ i → hit (only 10) (get_or doc a 0) ≡ 1 → between (only 10) doc i e ≡ 0 → Last (only 10) doc (i - 64) 64 k → 0 < k
      → Behind doc a e (i - 64 + k)
  block_here a e i k h l m n g z x y =
      let f = x.some y in
      let u : i - 64 + 64 ≡ i = omega arith in
      let w : between (only 10) doc (i - 64 + k) i ≡ 0 = subst (λ (j : ℕ). between (only 10) doc (i - 64 + k) j ≡ 0) u f.0 in
      let b : i - 64 + k ≤ i = omega (arith, x.most) in
      record {
        later = before_clear (only 10) doc a (i - 64 + k) i h (omega arith) b g w;
        before = omega arith;
        feed = f.1;
        clear = omega (arith, between_cut (only 10) doc (i - 64 + k) i e b l m);
      }

  pub block_more : (e i k : ℕ) → i ≤ e → e ≤ length doc → 64 ≤ i → between (only 10) doc i e ≡ 0 → Last (only 10) doc (i - 64) 64 k → k ≤ 0 → between (only 10) doc (i - 64) e ≡ 0
  block_more e i k l m n z x y =
      let u : i - 64 + 64 ≡ i = omega arith in
      let w : between (only 10) doc (i - 64) i ≡ 0 = subst (λ (j : ℕ). between (only 10) doc (i - 64) j ≡ 0) u (x.all y) in
      omega (arith, between_cut (only 10) doc (i - 64) i e (omega arith) l m)

  pub behind_on : (a e i r : ℕ) → i ≤ e → e ≤ length doc → between (only 10) doc i e ≡ 0 → Behind doc a i r → Behind doc a e r
  behind_on a e i r l m z x =
      record {
        later = x.later;
        before = omega (arith, x.before);
        feed = x.feed;
        clear = omega (arith, x.clear, between_cut (only 10) doc r i e x.before l m);
      }

  -- just behind the one that is known
  pub behind_next : (a e : ℕ) → a < e → e - a ≡ 1 → hit (only 10) (get_or doc a 0) ≡ 1 → Behind doc a e e
  behind_next a e h k g =
      let z : a ≡ e - 1 = omega arith in
      record { later = h; before = omega arith; feed = ap (λ (j : ℕ). hit (only 10) (get_or doc j 0)) (sym z) ∙ g; clear = between_none (only 10) doc e }

  -- one LF alone
  pub lines_one : (a e r : ℕ) → a < e → e ≤ length doc → hit (only 10) (get_or doc a 0) ≡ 1 → Behind doc a e r → r ≡ a + 1 → 1 ≡ between (only 10) doc a e
  lines_one a e r h l g b z = omega (arith, between_less (only 10) doc a e h l, ap (λ (j : ℕ). between (only 10) doc j e) z, b.clear)

pub ruleset searching = (hit_below, hit_above, hit_within, counting_rest, clear_first, next_end, rules)
